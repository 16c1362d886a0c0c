-- What functions and main have stands among the tokens of a script, in one list that both are merged into.
use Rattle.std.proofs.Common.{List, [], ap, append-nil, append_assoc, inl, inr, subst, sym, ℕ, ◌++◌, ◌∷◌, ◌∙◌, ◌≡◌}
use Rattle.std.proofs.lemmas.List.Concat.{flat_map-append}
use Rattle.std.specs.Prelude.{flat_map}
use Rattle.lf_lexer.specs.declared.tokens.Token.{Token}
use Rattle.lf_parser.specs.Forms.{Many, done, more}
use Rattle.lf_parser.specs.Plain.{PlainBlock, PlainFunction, PlainStmt, PlainTree, block_of}
use Rattle.lf_parser.specs.Grammar.{Items, with_function, with_stmt}
use Rattle.lf_parser.specs.Grammar as form
use Rattle.lf_parser.proofs.Order.AddedItems.{Among, AddsInOrder, stand_of}
use Rattle.lf_parser.proofs.Order.MergedLists.{Merge, no_item, merge_after, first_alone, second_alone}

module _ {State X : Type 0} (M : Among State X) (i : State) where
  -- what functions have, and what main has, among tokens
  pub record Spread (functions main : List X) (tokens : List Token) : Type 0 where
    pub items : List X
    pub merged : Merge functions main items
    pub stand : M.Stand i i items tokens

  module _ (of_function : PlainFunction → List X) (of_stmt : PlainStmt → List X) (of_block : PlainBlock → List X)
      (last : (ss : List PlainStmt) (s : PlainStmt) → of_block (block_of (ss ++ s ∷ [])) ≡ of_block (block_of ss) ++ of_stmt s) (Room : ℕ → Type 0) (elifs levels nest : ℕ)
      (def : AddsInOrder M i i [] of_function (form.Def Room elifs levels nest)) (stmt : AddsInOrder M i i [] of_stmt (form.Stmt Room elifs levels (form.blocks Room elifs levels nest))) where
    abbrev of_functions : List PlainFunction → List X
    of_functions fs = flat_map of_function fs

    abbrev of_main : Items → List X
    of_main items = of_block (block_of items.main)

    abbrev ItemsSpread : Items → List Token → Type 0
    ItemsSpread items tokens = Spread (of_functions items.functions) (of_main items) tokens

    plus_function : (items : Items) (f : PlainFunction) (us xs : List Token) → ItemsSpread items us → M.Stand i i (of_function f) xs → ItemsSpread (with_function items f) (us ++ xs)
    plus_function items f us xs s h =
        let more_functions : of_functions (items.functions ++ f ∷ []) ≡ of_functions items.functions ++ of_function f =
        flat_map-append of_function items.functions (f ∷ []) ∙ ap (λ ns. of_functions items.functions ++ ns) (append-nil (of_function f)) in
        record {
          items = s.items ++ of_function f;
          merged =
              subst (λ ns. Merge ns (of_main items) (s.items ++ of_function f)) (sym more_functions)
              (subst (λ ns. Merge (of_functions items.functions ++ of_function f) ns (s.items ++ of_function f)) (append-nil (of_main items))
              (merge_after s.merged (first_alone (of_function f))));
          stand = M.join s.stand h;
        }

    plus_stmt : (items : Items) (r : PlainStmt) (us xs : List Token) → ItemsSpread items us → M.Stand i i (of_stmt r) xs → ItemsSpread (with_stmt items r) (us ++ xs)
    plus_stmt items r us xs s h = record {
      items = s.items ++ of_stmt r;
      merged =
          subst (λ ns. Merge (of_functions items.functions) ns (s.items ++ of_stmt r)) (sym (last items.main r))
          (subst (λ ns. Merge ns (of_main items ++ of_stmt r) (s.items ++ of_stmt r)) (append-nil (of_functions items.functions))
          (merge_after s.merged (second_alone (of_stmt r))));
      stand = M.join s.stand h;
    }

    item_spread : (items after : Items) (xs us : List Token) → form.Item Room elifs levels nest items xs after → ItemsSpread items us → ItemsSpread after (us ++ xs)
    item_spread items after xs us (inl h) s =
        let g = h.5 in
        subst (λ a. ItemsSpread a (us ++ xs)) (sym g.1)
        (plus_function items h.2 us xs s (subst (M.Stand i i (of_function h.2)) (sym (h.3 ∙ ap (λ z. h.0 ++ z) g.0 ∙ append-nil h.0)) (stand_of def h.0 h.2 h.4)))
    item_spread items after xs us (inr h) s =
        let g = h.5 in
        subst (λ a. ItemsSpread a (us ++ xs)) (sym g.1)
        (plus_stmt items h.2 us xs s (subst (M.Stand i i (of_stmt h.2)) (sym (h.3 ∙ ap (λ z. h.0 ++ z) g.0 ∙ append-nil h.0)) (stand_of stmt h.0 h.2 h.4)))

    items_spread : {s u : Items} {ts : List Token} → Many (form.Item Room elifs levels nest) s ts u → (us : List Token) → ItemsSpread s us → ItemsSpread u (us ++ ts)
    items_spread (done {s}) us k = subst (ItemsSpread s) (sym (append-nil us)) k
    items_spread (more {s} {t} {u} {xs} {ys} h rest) us k = subst (ItemsSpread u) (append_assoc us xs ys) (items_spread rest (us ++ xs) (item_spread s t xs us h k))

    pub script_spread : of_block (block_of []) ≡ [] → (ts : List Token) (tree : PlainTree) → form.Script Room elifs levels nest ts tree → Spread (flat_map of_function tree.functions) (of_block tree.main) ts
    script_spread none_of ts tree h =
        let k = h.5 in
        let g = k.5 in
        let s = items_spread h.4 [] (record { items = []; merged = subst (λ ns. Merge [] ns []) (sym none_of) no_item; stand = M.none i [] }) in
        subst (λ (r : PlainTree). Spread (flat_map of_function r.functions) (of_block r.main) ts) (sym g.1)
        (record { items = s.items; merged = s.merged; stand = subst (λ z. M.Stand i i z ts) (append-nil s.items) (subst (M.Stand i i (s.items ++ [])) (sym h.3) (M.join s.stand (M.none i h.1))) })

-- The rows of a flat store are those that its lists show.
use Rattle.std.proofs.Common.{Bool, List, None, Option, Some, [], ap, cond, false, length, map, refl, subst, sym, true, ℕ, zero, suc, ◌||◌, ◌≤◌, ◌++◌, ◌∙◌, ◌∷◌, ◌≡◌}
use Rattle.std.specs.List.{AllByRecursion, IsDistinct}
use Rattle.std.specs.Map.{keys_of, lookup}
use Rattle.std.specs.HashMap.{hash_map_len}
use Rattle.std.specs.Option.{IsSome, option_map}
use Rattle.std.proofs.lemmas.Map.Keys.{IsDistinct-head, IsDistinct-tail}
use Rattle.std.proofs.Math.Bool.{or-true}
use Rattle.std.proofs.lemmas.List.{append-nil}
use Rattle.slab.specs.Slab.{Slab}
use Rattle.lf_base.specs.declared.ids.ObjId.{ObjId}
use Rattle.lf_base.specs.declared.values.Owner.{Owner}
use Rattle.lf_base.specs.declared.values.Owner.TheVariants.{Frozen, In, Local}
use Rattle.lf_base.specs.Links.{has, walk}
use Rattle.lf_base.specs.Names.{same_name, same_owner}
use Rattle.lf_base.proofs.ListLemmas.LinkedLists.{walk-LinksSpell}
use Rattle.lf_base.proofs.NameLemmas.SameNames.{Decides-same_name, other_way, same_name_is, same_name_itself}
use Rattle.lf_graph.specs.declared.cells.Cells.{Cells}
use Rattle.lf_graph.specs.declared.chains.Chains.{Chains}
use Rattle.lf_graph.specs.declared.ends.Ends.{Ends}
use Rattle.lf_graph.specs.declared.stored_row.Linked.{Linked}
use Rattle.lf_graph.specs.declared.stored_row.StoredRow.{StoredRow}
use Rattle.lf_graph.specs.Cells.{CellsAt, cells_of}
use Rattle.lf_graph.specs.ChainMaps.{ends_of, heads_of}
use Rattle.lf_graph.specs.Chains.{AreChains, IsChain, is_this_owner, link_at, linked_owner_at, linked_row_at, owner_of_head}
use Rattle.lf_graph.specs.FlatRows.{chain_of, flat_rows, region_rows, rows_under, whole_row_at, whole_row_by}
use Rattle.lf_graph.specs.RowTables.{head_by, slab_key_of}
use Rattle.lf_graph.specs.StoredRows.{CountedRow, rows_of}
use Rattle.lf_graph.proofs.Stores.Reordered.{rows_append, same_owner_is, same_owner_itself}
use Rattle.lf_graph.proofs.Stores.RowsByOwner.{RowsAreListed, RowsAreNamed}
use Rattle.lf_graph.proofs.ListLemmas.{few_keys}

-- ---- a chain is no longer than the table
has_key : (w : Owner) (rows : Slab Linked) (t : Option ℕ) → is_this_owner w (owner_of_head (head_by rows t)) ≡ true → IsSome t
has_key w rows None e = cc
has_key w rows (Some k) e = refl

module _ (t : Chains) where
  fits : (w : Owner) (xs : List ObjId) → IsChain (heads_of t.rows) (ends_of t.ends) w xs → length xs ≤ hash_map_len (t.rows).index
  fits w xs c = few_keys same_name Decides-same_name ((t.rows).index).entries xs c.differ
      (λ q h. has_key w (t.rows).rows (slab_key_of (t.rows).index q) (sym (c.members q) ∙ h))

  -- the walk gives the list that the links spell
  pub chain_is : (w : Owner) (xs : List ObjId) → IsChain (heads_of t.rows) (ends_of t.ends) w xs → chain_of t w ≡ xs
  chain_is w xs c = ap (walk (hash_map_len (t.rows).index) (link_at (heads_of t.rows))) c.first ∙ walk-LinksSpell (hash_map_len (t.rows).index) (link_at (heads_of t.rows)) None xs c.links (fits w xs c)

-- ---- by owner
whole_row_name : (cells : CellsAt) (x : ObjId) (r : Option StoredRow) → ((whole_row_by cells x r).row).name ≡ x
whole_row_name cells x None = refl
whole_row_name cells x (Some r) = refl

pub whole_row_owner : (cells : CellsAt) (v : Owner) (x : ObjId) (r : Option StoredRow) → is_this_owner v (option_map (λ (s : StoredRow). s.owner) r) ≡ true → ((whole_row_by cells x r).row).owner ≡ v
whole_row_owner cells v x None h = cc
whole_row_owner cells v x (Some r) h = same_owner_is r.owner v h

nil_either : {X : Type 0} (b : Bool) → [] ≡ cond {A = List X} b [] []
nil_either true = refl
nil_either false = refl

cons_either : {X : Type 0} (b : Bool) (r : X) (xs ys : List X) → xs ≡ cond b ys [] → cond b (r ∷ xs) xs ≡ cond b (r ∷ ys) []
cons_either true r xs ys h = ap (λ t. r ∷ t) h
cons_either false r xs ys h = h

pub owner_flips : (v w : Owner) → same_owner v w ≡ false → same_owner w v ≡ false
owner_flips v w n = elim (same_owner w v) as (λ t. same_owner w v ≡ t → t ≡ false) [
  | true ↦ λ h. let k : same_owner v w ≡ true = ap (λ u. same_owner v u) (same_owner_is w v h) ∙ same_owner_itself v in cc (k, n)
  | false ↦ λ h. refl
] refl

module _ (t : Chains) (cells : Cells) where
  abbrev row : ObjId → CountedRow
  row = whole_row_at (heads_of t.rows) (cells_of cells)

  pub row_names : RowsAreNamed row
  row_names x = whole_row_name (cells_of cells) x (linked_row_at (heads_of t.rows) x)

  owned_rows : (v w : Owner) (xs : List ObjId) → ((q : ObjId) → has same_name q xs ≡ true → is_this_owner v (linked_owner_at (heads_of t.rows) q) ≡ true) → rows_of w (map row xs) ≡ cond (same_owner v w) (map row xs) []
  owned_rows v w [] h = nil_either (same_owner v w)
  owned_rows v w (x ∷ xs) h =
      ap (λ u. cond (same_owner u w) (row x ∷ rows_of w (map row xs)) (rows_of w (map row xs))) (whole_row_owner (cells_of cells) v x (linked_row_at (heads_of t.rows) x) (h x (ap (λ b. b || has same_name x xs) (same_name_itself x))))
      ∙ cons_either (same_owner v w) (row x) (rows_of w (map row xs)) (map row xs) (owned_rows v w xs (λ q k. h q (ap (λ b. same_name q x || b) k ∙ or-true (same_name q x))))

  module _ (chains : AreChains (heads_of t.rows) (ends_of t.ends) (chain_of t)) where
    under_rows : (v w : Owner) → rows_of w (rows_under t cells v) ≡ cond (same_owner v w) (rows_under t cells v) []
    under_rows v w = owned_rows v w (chain_of t v) (λ q h. sym ((chains v).members q) ∙ h)

    -- an owner of none of these has none
    none_among : (w : Owner) (es : List (ObjId × Ends)) → AllByRecursion (λ r. same_owner w (In r) ≡ false) (keys_of es) → rows_of w (region_rows t cells es) ≡ []
    none_among w [] h = refl
    none_among w (e ∷ es) h =
        rows_append w (rows_under t cells (In e.0)) (region_rows t cells es)
        ∙ ap (λ l. l ++ rows_of w (region_rows t cells es)) (under_rows (In e.0) w ∙ ap (λ b. cond b (rows_under t cells (In e.0)) []) (owner_flips w (In e.0) h.0))
        ∙ none_among w es h.1

    among : (r : ObjId) (es : List (ObjId × Ends)) → IsDistinct same_name (keys_of es) → IsSome (lookup (same_name r) es) → rows_of (In r) (region_rows t cells es) ≡ rows_under t cells (In r)
    among r [] d s = cc
    among r (e ∷ es) d s =
        rows_append (In r) (rows_under t cells (In e.0)) (region_rows t cells es)
        ∙ ap (λ l. l ++ rows_of (In r) (region_rows t cells es)) (under_rows (In e.0) (In r))
        ∙ (elim (same_name r e.0) as (λ b. same_name r e.0 ≡ b → IsSome (cond b (Some e.1) (lookup (same_name r) es)) → cond (same_name e.0 r) (rows_under t cells (In e.0)) [] ++ rows_of (In r) (region_rows t cells es) ≡ rows_under t cells (In r)) [
          | true ↦ λ k _. let p = same_name_is r e.0 k in
              ap (λ l. cond (same_name e.0 r) (rows_under t cells (In e.0)) [] ++ l) (none_among (In r) es (subst (λ u. AllByRecursion (λ v. same_name u v ≡ false) (keys_of es)) (sym p) (IsDistinct-head same_name e.0 (keys_of es) d)))
              ∙ ap (λ u. cond (same_name u r) (rows_under t cells (In u)) [] ++ []) (sym p) ∙ ap (λ b. cond b (rows_under t cells (In r)) [] ++ []) (same_name_itself r) ∙ append-nil (rows_under t cells (In r))
          | false ↦ λ k s. ap (λ b. cond b (rows_under t cells (In e.0)) [] ++ rows_of (In r) (region_rows t cells es)) (other_way r e.0 k) ∙ among r es (IsDistinct-tail same_name e.0 (keys_of es) d) s
        ] refl s)

    not_found : (r : ObjId) (es : List (ObjId × Ends)) → lookup (same_name r) es ≡ None → AllByRecursion (λ q. same_name r q ≡ false) (keys_of es)
    not_found r [] h = tt
    not_found r (e ∷ es) h = elim (same_name r e.0) as (λ b. same_name r e.0 ≡ b → cond b (Some e.1) (lookup (same_name r) es) ≡ None → AllByRecursion (λ q. same_name r q ≡ false) (keys_of (e ∷ es))) [
      | true ↦ λ _ k. cc
      | false ↦ λ f k. (f, not_found r es k)
    ] refl h

    never : (w : Owner) (es : List (ObjId × Ends)) → ((r : ObjId) → same_owner w (In r) ≡ false) → AllByRecursion (λ r. same_owner w (In r) ≡ false) (keys_of es)
    never w [] h = tt
    never w (e ∷ es) h = (h e.0, never w es h)

    walk_none : (n : ℕ) → walk n (link_at (heads_of t.rows)) None ≡ []
    walk_none zero = refl
    walk_none (suc n) = refl

    abbrev regions : List (ObjId × Ends)
    regions = ((t.ends).regions).ends.entries

    region_has : (r : ObjId) (x : Option Ends) → lookup (same_name r) regions ≡ x → rows_of (In r) (region_rows t cells regions) ≡ rows_under t cells (In r)
    region_has r None n = none_among (In r) regions (not_found r regions n) ∙ ap (map row) (sym (walk_none (hash_map_len (t.rows).index)) ∙ ap (λ x. walk (hash_map_len (t.rows).index) (link_at (heads_of t.rows)) (option_map (λ (y : Ends). y.first) x)) (sym n))
    region_has r (Some x) n = among r regions (((t.ends).regions).unique) (subst IsSome (sym n) refl)

    two : (w : Owner) → rows_of w (flat_rows t cells) ≡ cond (same_owner Local w) (rows_under t cells Local) [] ++ (cond (same_owner Frozen w) (rows_under t cells Frozen) [] ++ rows_of w (region_rows t cells regions))
    two w = rows_append w (rows_under t cells Local) (rows_under t cells Frozen ++ region_rows t cells regions) ∙ ap (λ l. rows_of w (rows_under t cells Local) ++ l) (rows_append w (rows_under t cells Frozen) (region_rows t cells regions))
        ∙ (λ i. under_rows Local w i ++ (under_rows Frozen w i ++ rows_of w (region_rows t cells regions)))

    -- each owner's rows are its chain's
    pub flat_listed : RowsAreListed (flat_rows t cells) (chain_of t) row
    flat_listed Local = two Local ∙ ap (λ l. rows_under t cells Local ++ l) (none_among Local regions (never Local regions (λ _. refl))) ∙ append-nil (rows_under t cells Local)
    flat_listed Frozen = two Frozen ∙ ap (λ l. rows_under t cells Frozen ++ l) (none_among Frozen regions (never Frozen regions (λ _. refl))) ∙ append-nil (rows_under t cells Frozen)
    flat_listed (In r) = two (In r) ∙ region_has r (lookup (same_name r) regions) refl

-- The variables of a frame stand in the order of their first places.
use Rattle.std.proofs.Common.{◌≡◌, List, [], ◌∷◌, ◌++◌, true, false, cond, fold, map, flat_map, sym, subst, append_assoc, append-nil, inl}
use Rattle.std.proofs.Common.{inr}
use Rattle.std.proofs.lemmas.List.{map-append}
use Rattle.lf_base.specs.Sets.{Member}
use Rattle.lf_base.proofs.ListLemmas.Sublists.{Sub, none, take, pass, sub_all, sub_then, sub_append, sub_before}
use Rattle.lf_base.proofs.ListLemmas.Members.{Member_of_map, Member_of_flat_map, Member_of_append}
use Rattle.lf_parser.specs.declared.name.Name.{Name}
use Rattle.lf_parser.specs.Plain.{PlainStmt, PlainBlock, PlainFunction, PlainTree, no_stmts, stmt}
use Rattle.lf_parser.specs.Plain as plain
use Rattle.lf_parser.specs.Ascending.{Ascending}
use Rattle.lf_parser.specs.TreeNames.{expr_names, stmt_names, block_names, stands_before, NamesInOrder}
use Rattle.lf_parser.proofs.Order.MergedLists.{ascending_part}
use Rattle.lf_codegen.specs.declared.mention.Mention.{Mention}
use Rattle.lf_codegen.specs.declared.mention.Mention.TheVariants.{Use, Bind, Call}
use Rattle.lf_codegen.specs.Frames.{PlainFrame, stmt_whens, block_whens, function_whens, frame_line, when_frames, main_frame}
use Rattle.lf_codegen.specs.Frames.{function_frame, frames, is_among, variable_of, with_new_name, variables}
use Rattle.lf_codegen.specs.Mentions.{expr_mentions, value_mentions, uses, stmt_mentions, block_mentions}
use Rattle.lf_codegen.proofs.Mentioning.MentionedNames.{mentioned, names_of, expr_named, value_named, uses_named}
use Rattle.lf_codegen.proofs.OverLists.StableSorts.{of_rising}

-- ---- each name once, in their order
more : (names xs : List Name) (x : Name) → Sub (with_new_name names x ++ xs) (names ++ x ∷ xs)
more names xs x = elim (is_among x.id names) as (λ b. Sub (cond b names (names ++ x ∷ []) ++ xs) (names ++ x ∷ xs)) [
  | true ↦ sub_append (sub_all names) (pass (sub_all xs))
  | false ↦ subst (λ l. Sub l (names ++ x ∷ xs)) (sym (append_assoc names (x ∷ []) xs)) (sub_all (names ++ x ∷ xs))
]

distinct_within : (names xs : List Name) → Sub (fold with_new_name names xs) (names ++ xs)
distinct_within names [] = subst (Sub names) (sym (append-nil names)) (sub_all names)
distinct_within names (x ∷ xs) = sub_then (distinct_within (with_new_name names x) xs) (more names xs x)

variables_named : (ms : List Mention) → Sub (flat_map variable_of ms) (names_of ms)
variables_named [] = none
variables_named (Use x ∷ ms) = take (variables_named ms)
variables_named (Bind x ∷ ms) = take (variables_named ms)
variables_named (Call x count of_variable ∷ ms) = pass (variables_named ms)

-- ---- what a frame mentions, among the names of its body
same : (ms : List Mention) (xs : List Name) → names_of ms ≡ xs → Sub (names_of ms) xs
same ms xs e = subst (Sub (names_of ms)) e (sub_all (names_of ms))

both : (ms ns : List Mention) (xs ys : List Name) → Sub (names_of ms) xs → Sub (names_of ns) ys → Sub (names_of (ms ++ ns)) (xs ++ ys)
both ms ns xs ys p q = subst (λ l. Sub l (xs ++ ys)) (sym (map-append mentioned ms ns)) (sub_append p q)

nothing_of : (xs : List Name) → Sub [] xs
nothing_of [] = none
nothing_of (x ∷ xs) = pass (nothing_of xs)

mutual
  stmt_part : (s : PlainStmt) → Sub (names_of (stmt_mentions s)) (stmt_names s)
  stmt_part (plain.Assign line x value) = take (same (expr_mentions value) _ (expr_named value))
  stmt_part (plain.Store line target key value) =
      both (expr_mentions target) (expr_mentions key ++ expr_mentions value) _ _ (same _ _ (expr_named target))
      (both (expr_mentions key) (expr_mentions value) _ _ (same _ _ (expr_named key)) (same _ _ (expr_named value)))
  stmt_part (plain.Drop line x) = sub_all (x ∷ [])
  stmt_part (plain.Return line value) = same (value_mentions value) _ (value_named value)
  stmt_part (plain.Pass line) = none
  stmt_part (plain.Eval line value) = same (expr_mentions value) _ (expr_named value)
  stmt_part (plain.If line test body other) =
      both (expr_mentions test) (block_mentions body ++ block_mentions other) _ _ (same _ _ (expr_named test))
      (both (block_mentions body) (block_mentions other) _ _ (block_part body) (block_part other))
  stmt_part (plain.While line test body) =
      both (expr_mentions test) (block_mentions body) _ _ (same _ _ (expr_named test)) (block_part body)
  stmt_part (plain.When line cowns captures body) =
      both (uses cowns) (uses captures) cowns (captures ++ block_names body) (same _ _ (uses_named cowns))
      (subst (λ l. Sub l (captures ++ block_names body)) (append-nil (names_of (uses captures)))
      (sub_append (same (uses captures) captures (uses_named captures)) (nothing_of (block_names body))))

  block_part : (b : PlainBlock) → Sub (names_of (block_mentions b)) (block_names b)
  block_part no_stmts = none
  block_part (stmt s ss) = both (stmt_mentions s) (block_mentions ss) _ _ (stmt_part s) (block_part ss)

-- a frame's own names, and then those of its body
abbrev frame_names : PlainFrame → List Name
frame_names f = f.own ++ block_names f.body

frame_part : (f : PlainFrame) → Sub (variables f) (frame_names f)
frame_part f =
    let ms = block_mentions f.body in
    sub_then (distinct_within [] (f.own ++ flat_map variable_of ms))
    (sub_append (sub_all f.own) (sub_then (variables_named ms) (block_part f.body)))

-- ---- the frames of `when`s, among the names of the body in which they stand
in_either : (f : PlainFrame) (fs gs : List PlainFrame) (xs ys : List Name) → (Member f fs → Sub (frame_names f) xs)
    → (Member f gs → Sub (frame_names f) ys) → Member f (fs ++ gs) → Sub (frame_names f) (xs ++ ys)
in_either f fs gs xs ys p q m = elim (Member_of_append f fs gs m) [
  | inl k ↦ subst (λ l. Sub l (xs ++ ys)) (append-nil (frame_names f)) (sub_append (p k) (nothing_of ys))
  | inr k ↦ sub_before xs (q k)
]

mutual
  stmt_when : (s : PlainStmt) (f : PlainFrame) → Member f (stmt_whens s) → Sub (frame_names f) (stmt_names s)
  stmt_when (plain.If line test body other) f m =
      sub_before (expr_names test) (in_either f (block_whens body) (block_whens other) _ _ (block_when body f) (block_when other f) m)
  stmt_when (plain.While line test body) f m = sub_before (expr_names test) (block_when body f m)
  stmt_when (plain.When line cowns captures body) f (inl e) =
      subst (λ g. Sub (frame_names g) (cowns ++ (captures ++ block_names body))) e
      (subst (λ l. Sub l (cowns ++ (captures ++ block_names body))) (sym (append_assoc cowns captures (block_names body)))
      (sub_all (cowns ++ (captures ++ block_names body))))
  stmt_when (plain.When line cowns captures body) f (inr m) = sub_before cowns (sub_before captures (block_when body f m))
  stmt_when (plain.Assign line x value) f m = absurd m
  stmt_when (plain.Store line target key value) f m = absurd m
  stmt_when (plain.Drop line x) f m = absurd m
  stmt_when (plain.Return line value) f m = absurd m
  stmt_when (plain.Pass line) f m = absurd m
  stmt_when (plain.Eval line value) f m = absurd m

  block_when : (b : PlainBlock) (f : PlainFrame) → Member f (block_whens b) → Sub (frame_names f) (block_names b)
  block_when no_stmts f m = absurd m
  block_when (stmt s ss) f m = in_either f (stmt_whens s) (block_whens ss) _ _ (stmt_when s f) (block_when ss f) m

-- ---- all frames of a tree
module _ (tree : PlainTree) (order : NamesInOrder tree) where
  of_main : Ascending stands_before (frame_names (main_frame tree))
  of_main = order.main

  of_function : (f : PlainFunction) → Member f tree.functions → Ascending stands_before (frame_names (function_frame f))
  of_function f m = ascending_part stands_before (pass {x = f.name} (sub_all (f.params ++ block_names f.body))) (order.each f m)

  of_when : (f : PlainFrame) → Member f (when_frames tree) → Ascending stands_before (frame_names f)
  of_when f m = elim (Member_of_append f (flat_map function_whens tree.functions) (block_whens tree.main) (of_rising frame_line f _ m)) [
    | inl k ↦ let at = Member_of_flat_map function_whens f tree.functions k in
        ascending_part stands_before (pass {x = (at.0).name} (sub_before (at.0).params (block_when (at.0).body f at.1.1)))
        (order.each at.0 at.1.0)
    | inr k ↦ ascending_part stands_before (block_when tree.main f k) order.main
  ]

  of_frame : (f : PlainFrame) → Member f (frames tree) → Ascending stands_before (frame_names f)
  of_frame f (inl e) = subst (λ g. Ascending stands_before (frame_names g)) e of_main
  of_frame f (inr m) = elim (Member_of_append f (map function_frame tree.functions) (when_frames tree) m) [
    | inl k ↦ let at = Member_of_map function_frame f tree.functions k in subst (λ g. Ascending stands_before (frame_names g)) at.1.1
        (of_function at.0 at.1.0)
    | inr k ↦ of_when f k
  ]

  pub variables_rise : (f : PlainFrame) → Member f (frames tree) → Ascending stands_before (variables f)
  variables_rise f m = ascending_part stands_before (frame_part f) (of_frame f m)

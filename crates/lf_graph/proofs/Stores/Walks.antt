-- Walks through an owner's rows, and rows that go out as a part and come back.
use Rattle.std.proofs.Common.{Bool, List, None, Option, Some, [], ap, cond, false, inl, inr, not, refl, subst, sym, true, ◌++◌, ◌||◌, ◌∙◌, ◌∷◌, ◌≡◌}
use Rattle.std.specs.List.{filter}
use Rattle.std.specs.Option.{is_some}
use Rattle.std.proofs.lemmas.List.{append-nil}
use Rattle.std.proofs.Math.Bool.{or-true}
use Rattle.std.proofs.lemmas.Bool.{not-true, not_from_false}
use Rattle.lf_base.specs.declared.ids.ObjId.{ObjId}
use Rattle.lf_base.specs.declared.values.Owner.{Owner}
use Rattle.lf_base.specs.Names.{same_name, same_owner}
use Rattle.lf_base.specs.Owners.{has_name, names}
use Rattle.lf_base.specs.PlainState.{Row}
use Rattle.lf_base.specs.Sets.{Member}
use Rattle.lf_base.proofs.ListLemmas.Filters.{Member_of_filter}
use Rattle.lf_base.proofs.ListLemmas.Members.{Member_right}
use Rattle.lf_base.proofs.ListLemmas.Sublists.{differ_sub, sub_filter, sub_map}
use Rattle.lf_base.proofs.NameLemmas.SameNames.{same_name_is, same_name_itself}
use Rattle.lf_graph.specs.Parts.{AllNew}
use Rattle.lf_graph.specs.StoredRows.{CountedRow, HasRow, IsNewName, NamesDiffer, SameByOwner, first_name, is_named, is_under, name_after, owner_by, plain, row_named, rows_beside, rows_of, rows_of_maybe, rows_outside, two_names}
use Rattle.lf_graph.proofs.Stores.Reordered.{found_reordered, reordered_by_owner, rows_append, same_owner_is, turned}
use Rattle.lf_graph.proofs.Stores.StateRows.{has_no_name}
use Rattle.lf_graph.proofs.ListLemmas.{filter_apart, filter_within}

pub differ_filter : (p : CountedRow → Bool) (rows : List CountedRow) → NamesDiffer rows → NamesDiffer (filter p rows)
differ_filter p rows d = differ_sub same_name (sub_map (λ (r : Row). r.name) (sub_map (λ (c : CountedRow). c.row) (sub_filter p rows))) d

member_named : (c : CountedRow) (rows : List CountedRow) → Member c rows → has_name (names (plain rows)) (c.row).name ≡ true
member_named c [] m = absurd m
member_named c (x ∷ xs) (inl e) = ap (λ b. b || has_name (names (plain xs)) (c.row).name) (ap (λ (z : CountedRow). same_name (z.row).name (c.row).name) e ∙ same_name_itself (c.row).name)
member_named c (x ∷ xs) (inr m) = ap (λ b. is_named (c.row).name x || b) (member_named c xs m) ∙ or-true (is_named (c.row).name x)

member_found : (c : CountedRow) (rows : List CountedRow) → NamesDiffer rows → Member c rows → row_named rows (c.row).name ≡ Some c
member_found c [] d m = absurd m
member_found c (x ∷ xs) d (inl e) = subst (λ (z : CountedRow). row_named (x ∷ xs) (z.row).name ≡ Some z) e (ap (λ b. cond b (Some x) (row_named xs (x.row).name)) (same_name_itself (x.row).name))
member_found c (x ∷ xs) d (inr m) =
    elim (is_named (c.row).name x) as (λ b. is_named (c.row).name x ≡ b → cond b (Some x) (row_named xs (c.row).name) ≡ Some c) [
      | true ↦ λ e. let h : has_name (names (plain xs)) (x.row).name ≡ true = ap (has_name (names (plain xs))) (same_name_is (x.row).name (c.row).name e) ∙ member_named c xs m in
          let k : has_name (names (plain xs)) (x.row).name ≡ false = d.0 in cc
      | false ↦ λ e. member_found c xs d.1 m
    ] refl

has_itself : (c : CountedRow) (rows : List CountedRow) → Member c rows → HasRow rows (c.row).name
has_itself c [] m = absurd m
has_itself c (x ∷ xs) (inl e) = subst (λ (z : CountedRow). HasRow (x ∷ xs) (z.row).name) e (ap (λ b. is_some (cond b (Some x) (row_named xs (x.row).name))) (same_name_itself (x.row).name))
has_itself c (x ∷ xs) (inr m) = elim (is_named (c.row).name x) as (λ b. is_some (cond b (Some x) (row_named xs (c.row).name)) ≡ true) [ true ↦ refl | false ↦ has_itself c xs m ]

first_member : (xs : List CountedRow) (o : ObjId) → first_name xs ≡ Some o → (c : CountedRow) × (Member c xs × ((c.row).name ≡ o))
first_member [] o e = cc
first_member (x ∷ xs) o e = let same : (x.row).name ≡ o = cc in (x, (inl refl, same))

pub first_there : (rows : List CountedRow) (w : Owner) (o : ObjId) → first_name (rows_of w rows) ≡ Some o → HasRow rows o
first_there rows w o e =
    let f = first_member (rows_of w rows) o e in
    subst (HasRow rows) f.1.1 (has_itself f.0 rows (Member_of_filter (is_under w) f.0 rows f.1.0).0)

after_prefix : (before after : List CountedRow) (c : CountedRow) → NamesDiffer (before ++ c ∷ after) → name_after (before ++ c ∷ after) (c.row).name ≡ first_name after
after_prefix [] after c d = ap (λ b. cond b (first_name after) (name_after after (c.row).name)) (same_name_itself (c.row).name)
after_prefix (x ∷ xs) after c d =
    elim (is_named (c.row).name x) as (λ b. is_named (c.row).name x ≡ b → cond b (first_name (xs ++ c ∷ after)) (name_after (xs ++ c ∷ after) (c.row).name) ≡ first_name after) [
      | true ↦ λ e.
          let h : has_name (names (plain (xs ++ c ∷ after))) (x.row).name ≡ true = ap (has_name (names (plain (xs ++ c ∷ after)))) (same_name_is (x.row).name (c.row).name e) ∙ member_named c (xs ++ c ∷ after) (Member_right c xs (c ∷ after) (inl refl)) in
          let k : has_name (names (plain (xs ++ c ∷ after))) (x.row).name ≡ false = d.0 in cc
      | false ↦ λ e. after_prefix xs after c d.1
    ] refl

pub next_in_walk : (rows before after : List CountedRow) (w : Owner) (c : CountedRow) → NamesDiffer rows → rows_of w rows ≡ before ++ c ∷ after → name_after (rows_beside rows (c.row).name) (c.row).name ≡ first_name after
next_in_walk rows before after w c d e =
    let m : Member c (rows_of w rows) = subst (Member c) (sym e) (Member_right c before (c ∷ after) (inl refl)) in
    let r = Member_of_filter (is_under w) c rows m in
    let own : (c.row).owner ≡ w = same_owner_is (c.row).owner w r.1 in
    ap (λ t. name_after (rows_of_maybe (owner_by t) rows) (c.row).name) (member_found c rows d r.0)
    ∙ ap (λ v. name_after (rows_of v rows) (c.row).name) own
    ∙ ap (λ l. name_after l (c.row).name) e
    ∙ after_prefix before after c (subst NamesDiffer e (differ_filter (is_under w) rows d))

abbrev pub both : ObjId → Option ObjId → Option (ObjId × Option ObjId)
both o n = Some (o, n)

pub two_found : (rows : List CountedRow) (w : Owner) (o : ObjId) → NamesDiffer rows → first_name (rows_of w rows) ≡ Some o → both o (name_after (rows_beside rows o) o) ≡ two_names (rows_of w rows)
two_found rows w o d e =
    elim (rows_of w rows) as (λ xs. rows_of w rows ≡ xs → first_name xs ≡ Some o → both o (name_after (rows_beside rows o) o) ≡ two_names xs) [
      | [] ↦ λ is f. cc
      | c ∷ cs ↦ λ is f.
          let one : (c.row).name ≡ o = cc in
          subst (λ n. both n (name_after (rows_beside rows n) n) ≡ both (c.row).name (first_name cs)) one (ap (both (c.row).name) (next_in_walk rows [] cs w c d is))
    ] refl e

-- ---- parts
pub none_outside : (w : Owner) (rows : List CountedRow) → rows_of w (rows_outside w rows) ≡ []
none_outside w rows = filter_apart (is_under w) (λ c. not (is_under w c)) (λ c e. not-true (is_under w c) e) rows

pub not_under_other : (v w : Owner) (c : CountedRow) → same_owner v w ≡ false → is_under v c ≡ true → is_under w c ≡ false
not_under_other v w c d e = ap (λ (u : Owner). same_owner u w) (same_owner_is (c.row).owner v e) ∙ d

pub round_again : (rows : List CountedRow) (v : Owner) → SameByOwner (rows_outside v rows ++ rows_of v rows) rows
round_again rows v w =
    rows_append w (rows_outside v rows) (rows_of v rows)
    ∙ (elim (same_owner v w) as (λ b. same_owner v w ≡ b → rows_of w (rows_outside v rows) ++ rows_of w (rows_of v rows) ≡ rows_of w rows) [
      | true ↦ λ e. subst (λ u. rows_of u (rows_outside v rows) ++ rows_of u (rows_of v rows) ≡ rows_of u rows) (same_owner_is v w e)
          (ap (λ l. l ++ rows_of v (rows_of v rows)) (none_outside v rows) ∙ filter_within (is_under v) (is_under v) (λ c k. k) rows)
      | false ↦ λ e.
          ap (λ l. rows_of w (rows_outside v rows) ++ l) (filter_apart (is_under w) (is_under v) (λ c k. not_under_other v w c e k) rows)
          ∙ append-nil (rows_of w (rows_outside v rows))
          ∙ filter_within (is_under w) (λ c. not (is_under v c)) (λ c k. not_from_false (is_under v c) (away v w c e k)) rows
    ] refl)
  where
    away : (v w : Owner) (c : CountedRow) → same_owner v w ≡ false → is_under w c ≡ true → is_under v c ≡ false
    away v w c d e = elim (is_under v c) as (λ b. is_under v c ≡ b → b ≡ false) [
      | true ↦ λ k. let h : is_under w c ≡ false = not_under_other v w c d k in cc
      | false ↦ λ k. refl
    ] refl

pub no_name_filter : (p : CountedRow → Bool) (rows : List CountedRow) (o : ObjId) → row_named rows o ≡ None → row_named (filter p rows) o ≡ None
no_name_filter p [] o e = refl
no_name_filter p (c ∷ cs) o e =
    elim (is_named o c) as (λ b. is_named o c ≡ b → cond b (Some c) (row_named cs o) ≡ None → row_named (cond (p c) (c ∷ filter p cs) (filter p cs)) o ≡ None) [
      | true ↦ λ k h. cc
      | false ↦ λ k h. elim (p c) as (λ a. row_named (cond a (c ∷ filter p cs) (filter p cs)) o ≡ None) [
        | true ↦ ap (λ b. cond b (Some c) (row_named (filter p cs) o)) k ∙ no_name_filter p cs o h
        | false ↦ no_name_filter p cs o h
      ]
    ] refl e

-- where names differ, a name in the one half isn't in the other
halves_apart : (p : CountedRow → Bool) (rows : List CountedRow) (o : ObjId) → NamesDiffer rows → HasRow (filter p rows) o → IsNewName (filter (λ c. not (p c)) rows) o
halves_apart p [] o d h = refl
halves_apart p (c ∷ cs) o d h =
    elim (is_named o c) as (λ b. is_named o c ≡ b → row_named (cond (not (p c)) (c ∷ filter (λ x. not (p x)) cs) (filter (λ x. not (p x)) cs)) o ≡ None) [
      | true ↦ λ k.
          let lone : row_named cs o ≡ None = has_no_name cs o (ap (has_name (names (plain cs))) (sym (same_name_is (c.row).name o k)) ∙ d.0) in
          elim (p c) as (λ a. is_some (row_named (cond a (c ∷ filter p cs) (filter p cs)) o) ≡ true → row_named (cond (not a) (c ∷ filter (λ x. not (p x)) cs) (filter (λ x. not (p x)) cs)) o ≡ None) [
            | true ↦ λ g. no_name_filter (λ x. not (p x)) cs o lone
            | false ↦ λ g. let n : row_named (filter p cs) o ≡ None = no_name_filter p cs o lone in
                let z : is_some (row_named (filter p cs) o) ≡ false = ap is_some n in cc
          ] h
      | false ↦ λ k.
          let rest = halves_apart p cs o d.1 (elim (p c) as (λ a. is_some (row_named (cond a (c ∷ filter p cs) (filter p cs)) o) ≡ true → is_some (row_named (filter p cs) o) ≡ true) [
            | true ↦ λ g. sym (ap (λ b. is_some (cond b (Some c) (row_named (filter p cs) o))) k) ∙ g
            | false ↦ λ g. g
          ] h) in
          elim (not (p c)) as (λ a. row_named (cond a (c ∷ filter (λ x. not (p x)) cs) (filter (λ x. not (p x)) cs)) o ≡ None) [
            | true ↦ ap (λ b. cond b (Some c) (row_named (filter (λ x. not (p x)) cs) o)) k ∙ rest
            | false ↦ rest
          ]
    ] refl

pub part_new : (rows rest : List CountedRow) (w : Owner) → NamesDiffer rows → SameByOwner rest (rows_outside w rows) → AllNew (rows_of w rows) rest
part_new rows rest w d same o has =
    sym (found_reordered o (turned (reordered_by_owner rest (rows_outside w rows) same)) (differ_filter (λ c. not (is_under w c)) rows d))
    ∙ halves_apart (is_under w) rows o d has

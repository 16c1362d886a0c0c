-- The names of rows, and a row put among others by rising name.
use Rattle.std.proofs.Common.{List, [], ap, cond, false, inl, inr, refl, subst, sym, true, ◌||◌, ◌∙◌, ◌∷◌, ◌≡◌, ◌⊎◌}
use Rattle.lf_base.specs.declared.ids.ObjId.{ObjId}
use Rattle.lf_base.specs.Names.{same_name, name_below}
use Rattle.lf_base.specs.Owners.{has_name, has_row, names}
use Rattle.lf_base.specs.PlainState.{Row}
use Rattle.lf_base.specs.Sets.{Member, InOrder}
use Rattle.std.proofs.lemmas.Bool.{both_ways, false_from_ne_true, or_left}
use Rattle.lf_base.proofs.ListLemmas.Members.{Member_map, Member_of_map}
use Rattle.lf_base.proofs.ListLemmas.Tests.{or_swap}
use Rattle.std.proofs.Math.Bool.{or-true}
use Rattle.lf_base.proofs.NameLemmas.SameNames.{same_name_is, same_name_itself}
use Rattle.lf_base.specs.PlainChanges.{insert_row}
use Rattle.lf_base.proofs.ListLemmas.Sublists.{order_all, order_cons, order_tail}
use Rattle.lf_base.proofs.NameLemmas.NameOrder.{name_below_trans, other_below}

pub has_names : (rows : List Row) (o : ObjId) → has_name (names rows) o ≡ has_row rows o
has_names [] o = refl
has_names (r ∷ rs) o = ap (λ b. same_name r.name o || b) (has_names rs o)

pub inserted : (x : Row) (rows : List Row) (y : Row) → Member y (insert_row x rows) → (x ≡ y) ⊎ Member y rows
inserted x [] y (inl e) = inl e
inserted x [] y (inr m) = absurd m
inserted x (z ∷ zs) y m =
    elim (name_below x.name z.name) as (λ b. Member y (cond b (x ∷ (z ∷ zs)) (z ∷ insert_row x zs)) → (x ≡ y) ⊎ Member y (z ∷ zs)) [
      | true ↦ λ n. elim n [ inl e ↦ inl e | inr k ↦ inr k ]
      | false ↦ λ n. elim n [ inl e ↦ inr (inl e) | inr k ↦ elim (inserted x zs y k) [ inl e ↦ inl e | inr j ↦ inr (inr j) ] ]
    ] m

pub inserted_name : (x : Row) (rows : List Row) (o : ObjId) → Member o (names (insert_row x rows)) → (x.name ≡ o) ⊎ Member o (names rows)
inserted_name x rows o m =
    let y = Member_of_map (λ (r : Row). r.name) o (insert_row x rows) m in
    elim (inserted x rows y.0 y.1.0) [
      | inl e ↦ inl (ap (λ (r : Row). r.name) e ∙ y.1.1)
      | inr k ↦ inr (subst (λ n. Member n (names rows)) y.1.1 (Member_map (λ (r : Row). r.name) y.0 rows k))
    ]

pub inserted_order : (x : Row) (rows : List Row) → has_row rows x.name ≡ false → InOrder name_below (names rows) → InOrder name_below (names (insert_row x rows))
inserted_order x [] h o = tt
inserted_order x (z ∷ zs) h o =
    elim (name_below x.name z.name) as (λ b. name_below x.name z.name ≡ b → InOrder name_below (names (cond b (x ∷ (z ∷ zs)) (z ∷ insert_row x zs)))) [
      | true ↦ λ e. (e, o)
      | false ↦ λ e.
          let apart : same_name x.name z.name ≡ false = false_from_ne_true _ (λ k. both_ways _ h (or_left (same_name z.name x.name) (has_row zs x.name) (ap (λ n. same_name n x.name) (sym (same_name_is x.name z.name k)) ∙ same_name_itself x.name))) in
          order_cons name_below name_below_trans z.name (names (insert_row x zs))
          (λ y m. elim (inserted_name x zs y m) [
            | inl k ↦ ap (name_below z.name) (sym k) ∙ other_below x.name z.name e apart
            | inr k ↦ order_all name_below name_below_trans z.name (names zs) o y k
          ])
          (inserted_order x zs (false_from_ne_true _ (λ k. both_ways _ h (ap (λ b. same_name z.name x.name || b) k ∙ or-true _))) (order_tail name_below name_below_trans z.name (names zs) o))
    ] refl

pub has_inserted : (x : Row) (ys : List Row) (o : ObjId) → has_row (insert_row x ys) o ≡ (same_name x.name o || has_row ys o)
has_inserted x [] o = refl
has_inserted x (y ∷ ys) o =
    elim (name_below x.name y.name) as (λ b. has_row (cond b (x ∷ (y ∷ ys)) (y ∷ insert_row x ys)) o ≡ (same_name x.name o || has_row (y ∷ ys) o)) [
      | true ↦ refl
      | false ↦ ap (λ b. same_name y.name o || b) (has_inserted x ys o) ∙ or_swap (same_name x.name o) (same_name y.name o) (has_row ys o)
    ]

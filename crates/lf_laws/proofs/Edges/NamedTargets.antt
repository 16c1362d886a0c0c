-- The edges to rows of some names, one name after the other; and to local rows.
use Rattle.std.proofs.Common.{List, Some, [], ap, arith, false, refl, subst, sym, true, ℕ, ◌&&◌, ◌+◌, ◌||◌, ◌∙◌, ◌∷◌, ◌≡◌}
use Rattle.std.proofs.lemmas.List.Sums.{sum_by-cons}
use Rattle.std.specs.List.{count_by, sum_by}
use Rattle.lf_base.specs.EdgeLists.{frozen_edges, near_edges}
use Rattle.lf_base.specs.Edges.{Edge, edges}
use Rattle.lf_base.specs.Names.{same_name}
use Rattle.lf_base.specs.Owners.{has_name, owner_in}
use Rattle.lf_base.specs.PlainState.{State}
use Rattle.lf_base.specs.Sets.{Differ, Member}
use Rattle.lf_base.specs.WalkCounts.{is_borrower, refs}
use Rattle.lf_base.specs.WellFormed.{WellFormed}
use Rattle.lf_base.specs.declared.ids.ObjId.{ObjId}
use Rattle.lf_base.specs.declared.values.Owner.TheVariants.{Local}
use Rattle.lf_base.proofs.ListLemmas.Members.{Member_left}
use Rattle.lf_base.proofs.ListLemmas.Tests.{none_count}
use Rattle.lf_base.proofs.NameLemmas.SameNames.{same_name_is, same_name_itself}
use Rattle.lf_laws.proofs.Edges.EdgeParts.{count_alike_on, edges_parted, bit, counts_one}
use Rattle.lf_laws.proofs.Edges.FrozenEdges.{borrowed_local, near_refs}
use Rattle.lf_laws.proofs.Edges.NamedRows.{flipped}
use Rattle.lf_laws.proofs.Rows.RowsByName.{owner_has}
use Rattle.std.proofs.Math.Bool.{and-false, or-true}

one_or_others : (o : ObjId) (os : List ObjId) → has_name os o ≡ false → (p : ObjId) → bit (same_name p o) + bit (has_name os p) ≡ bit (same_name o p || has_name os p)
one_or_others o os lacks p =
    elim (same_name o p) as (λ b. same_name o p ≡ b → bit (same_name p o) + bit (has_name os p) ≡ bit (b || has_name os p)) [
      | true ↦ λ t. omega (arith, ap bit (flipped o p true t), ap bit (ap (has_name os) (sym (same_name_is o p t)) ∙ lacks))
      | false ↦ λ t. omega (arith, ap bit (flipped o p false t))
    ] refl

-- as many edges lead to rows of names that differ as lead to each of them
pub to_names : (es : List Edge) (os : List ObjId) → Differ same_name os → count_by (λ e. has_name os e.to) es ≡ sum_by (λ o. count_by (λ e. same_name e.to o) es) os
to_names es [] d = none_count (λ (e : Edge). has_name [] e.to) es (λ e m. refl)
to_names es (o ∷ os) d =
    omega (
      arith,
      counts_one (λ (e : Edge). same_name e.to o) (λ (e : Edge). has_name os e.to) (λ (e : Edge). has_name (o ∷ os) e.to) es (λ e m. one_or_others o os d.0 e.to),
      to_names es os d.1,
      sum_by-cons (λ p. count_by (λ (e : Edge). same_name e.to p) es) o os,
    )

-- sums over names that agree on each of them
sum_on : (f g : ObjId → ℕ) (os : List ObjId) → ((o : ObjId) → has_name os o ≡ true → f o ≡ g o) → sum_by f os ≡ sum_by g os
sum_on f g [] h = refl
sum_on f g (o ∷ os) h =
    omega (
      arith,
      sum_by-cons f o os,
      sum_by-cons g o os,
      h o (ap (λ b. b || has_name os o) (same_name_itself o)),
      sum_on f g os (λ q m. h q (ap (λ b. same_name o q || b) m ∙ or-true (same_name o q))),
    )

module _ (s : State) (os : List ObjId) (t : WellFormed s) (differ : Differ same_name os) (local : (o : ObjId) → has_name os o ≡ true → owner_in s.rows o ≡ Some Local) where
  -- only slots and local rows lead to them
  all_borrowed : (es : List Edge) → ((e : Edge) → Member e es → Member e (edges s)) → count_by (λ e. is_borrower s.rows e.from && has_name os e.to) es ≡ count_by (λ e. has_name os e.to) es
  all_borrowed es among = count_alike_on (λ (e : Edge). is_borrower s.rows e.from && has_name os e.to) (λ (e : Edge). has_name os e.to) es (λ e m.
      elim (has_name os e.to) as (λ b. has_name os e.to ≡ b → (is_borrower s.rows e.from && b) ≡ b) [
        | true ↦ λ h. ap (λ c. c && true) (borrowed_local s t e (among e m) (local e.to h))
        | false ↦ λ h. and-false (is_borrower s.rows e.from)
      ] refl)

  pub all_to_names : count_by (λ e. is_borrower s.rows e.from && has_name os e.to) (edges s) ≡ sum_by (refs s) os
  all_to_names = all_borrowed (edges s) (λ e m. m) ∙ to_names (edges s) os differ

  pub near_to_names : count_by (λ e. is_borrower s.rows e.from && has_name os e.to) (near_edges s) ≡ sum_by (refs s) os
  near_to_names =
      all_borrowed (near_edges s) (λ e m. subst (Member e) (sym (edges_parted s)) (Member_left e (near_edges s) (frozen_edges s) m))
      ∙ to_names (near_edges s) os differ
      ∙ sum_on (λ o. count_by (λ (e : Edge). same_name e.to o) (near_edges s)) (refs s) os (λ o h. sym (near_refs s t o (owner_has s.rows o Local (local o h))))

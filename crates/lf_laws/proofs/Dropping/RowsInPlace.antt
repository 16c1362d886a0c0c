-- What dropping rests on: one row for each name, a bridge for each region, edges that lead where they may, frozen rows apart. A well-formed state has it.
use Rattle.std.proofs.Common.{None, Option, Some, inl, inr, refl, true, ◌++◌, ◌||◌, ◌∙◌, ◌≡◌}
use Rattle.lf_base.specs.declared.ids.ObjId.{ObjId}
use Rattle.lf_base.specs.declared.values.Owner.{Owner}
use Rattle.lf_base.specs.declared.values.Owner.TheVariants.{In}
use Rattle.lf_base.specs.Names.{same_name}
use Rattle.lf_base.specs.Owners.{has_row, owner_in, names}
use Rattle.lf_base.specs.PlainState.{State}
use Rattle.lf_base.specs.WellFormed.{Leads, WellFormed}
use Rattle.lf_laws.proofs.Rows.RowsByName.{Distinct, owner_has, differ_apart, differ_rows}
use Rattle.std.proofs.lemmas.Bool.{or_cases}
use Rattle.lf_base.proofs.ListLemmas.Members.{Member_left, Member_right, any_more}
use Rattle.lf_base.proofs.NameLemmas.RowNames.{has_names}

pub record RowsInPlace (s : State) : Type 0 where
  pub distinct : Distinct s.rows
  pub bridge : (o r : ObjId) → owner_in s.rows o ≡ Some (In r) → owner_in s.rows r ≡ Some (In r)
  pub leads : Leads s
  pub apart : (o : ObjId) → (has_row s.given o || has_row s.own o) ≡ true → owner_in s.rows o ≡ None

apart_of : (s : State) → WellFormed s → (o : ObjId) → (has_row s.given o || has_row s.own o) ≡ true → (w : Option Owner) → owner_in s.rows o ≡ w → w ≡ None
apart_of s t o e None h = refl
apart_of s t o e (Some w) h = absurd (differ_apart (names s.rows) (names s.given ++ names s.own) t.names_differ o (has_names s.rows o ∙ owner_has s.rows o w h)
    (elim (or_cases (has_row s.given o) (has_row s.own o) e) [
      | inl g ↦ any_more (λ p. same_name p o) (names s.given) (names s.given ++ names s.own) (λ z m. Member_left z (names s.given) (names s.own) m) (has_names s.given o ∙ g)
      | inr g ↦ any_more (λ p. same_name p o) (names s.own) (names s.given ++ names s.own) (λ z m. Member_right z (names s.given) (names s.own) m) (has_names s.own o ∙ g)
    ]))

pub rows_in_place : (s : State) → WellFormed s → RowsInPlace s
rows_in_place s t = record {
  distinct = differ_rows s.rows (names s.given ++ names s.own) t.names_differ;
  bridge = t.bridge;
  leads = t.leads;
  apart = λ o e. apart_of s t o e (owner_in s.rows o) refl;
}

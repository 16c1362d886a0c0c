-- The rows of a region, removed one after the other.
use Rattle.std.proofs.Common.{List, None, Some, [], ap, arith, cond, false, filter, inl, length, not, refl, subst, sym, true, ◌+◌, ◌∙◌, ◌∷◌, ◌≡◌}
use Rattle.std.proofs.lemmas.Bool.{both_ways, false_from_ne_true}
use Rattle.std.proofs.lemmas.Option.{none-some}
use Rattle.lf_base.specs.declared.ids.ObjId.{ObjId}
use Rattle.lf_base.specs.declared.values.Owner.{Owner}
use Rattle.lf_base.specs.declared.values.Owner.TheVariants.{In}
use Rattle.lf_base.specs.Names.{same_name, same_owner}
use Rattle.lf_base.specs.Owners.{names}
use Rattle.lf_base.specs.PlainState.{Row}
use Rattle.lf_base.specs.Sets.{Differ, Member}
use Rattle.lf_base.proofs.ListLemmas.Filters.{Member_of_filter, filter_all}
use Rattle.lf_base.proofs.ListLemmas.Members.{Member_map}
use Rattle.lf_base.proofs.ListLemmas.Tests.{none_any, some_is}
use Rattle.lf_base.proofs.NameLemmas.RowNames.{has_names}
use Rattle.lf_base.proofs.NameLemmas.SameNames.{same_name_is, same_name_itself}
use Rattle.lf_graph.specs.RowChanges.{without_row}
use Rattle.lf_graph.specs.StoredRows.{CountedRow, NamesDiffer, SameByOwner, first_name, is_named, is_under, plain, rows_of, rows_outside}
use Rattle.lf_graph.proofs.ListLemmas.{filter_turns, filter_within}
use Rattle.lf_graph.proofs.Stores.Reordered.{differ_reordered, reordered_by_owner, same_owner_is, turned}
use Rattle.lf_graph.proofs.Stores.Walks.{differ_filter, none_outside, not_under_other}
use Rattle.lf_laws.proofs.Rows.RowsByName.{Distinct, same_row}

distinct_rows : (rows : List Row) → Differ same_name (names rows) → Distinct rows
distinct_rows [] d = tt
distinct_rows (r ∷ rs) d = (sym (has_names rs r.name) ∙ d.0, distinct_rows rs d.1)

same_counted : (rows : List CountedRow) → NamesDiffer rows → (c d : CountedRow) → Member c rows → Member d rows → (c.row).name ≡ (d.row).name → c.row ≡ d.row
same_counted rows differ c d m n e = same_row (plain rows) (distinct_rows (plain rows) differ) c.row d.row (Member_map (λ (x : CountedRow). x.row) c rows m) (Member_map (λ (x : CountedRow). x.row) d rows n) e

named_first : (rows : List CountedRow) (o : ObjId) → first_name rows ≡ Some o → (c : CountedRow) × ((rest : List CountedRow) × ((rows ≡ c ∷ rest) × ((c.row).name ≡ o)))
named_first [] o e = absurd (none-some o e)
named_first (c ∷ cs) o e = (c, (cs, (refl, some_is (c.row).name o e)))

pub record RowRemoved (rows new : List CountedRow) (r : ObjId) : Type 0 where
  pub differ : NamesDiffer new
  pub others : (w : Owner) → same_owner w (In r) ≡ false → rows_of w new ≡ rows_of w rows
  pub fewer : length (rows_of (In r) new) + 1 ≡ length (rows_of (In r) rows)

pub row_removed : (rows new : List CountedRow) (r o : ObjId) → NamesDiffer rows → first_name (rows_of (In r) rows) ≡ Some o → SameByOwner new (without_row rows o) → RowRemoved rows new r
row_removed rows new r o differ first same =
    let f = named_first (rows_of (In r) rows) o first in
    let c : CountedRow = f.0 in
    let rest : List CountedRow = f.1.0 in
    let is : rows_of (In r) rows ≡ c ∷ rest = f.1.1.0 in
    let name : (c.row).name ≡ o = f.1.1.1 in
    let here = Member_of_filter (is_under (In r)) c rows (subst (Member c) (sym is) (inl refl)) in
    let turn : (w : Owner) → rows_of w new ≡ filter (λ x. not (is_named o x)) (rows_of w rows) = λ w. same w ∙ filter_turns (is_under w) (λ x. not (is_named o x)) rows in
    let apart : NamesDiffer (c ∷ rest) = subst NamesDiffer is (differ_filter (is_under (In r)) rows differ) in
    record {
      differ = differ_reordered (turned (reordered_by_owner new (without_row rows o) same)) (differ_filter (λ x. not (is_named o x)) rows differ);
      others = λ w e. turn w ∙ filter_all (λ x. not (is_named o x)) (rows_of w rows) (λ x m.
          let there = Member_of_filter (is_under w) x rows m in
          ap not (false_from_ne_true (is_named o x) (λ h.
          let one : x.row ≡ c.row = same_counted rows differ x c there.0 here.0 (same_name_is (x.row).name o h ∙ sym name) in
          both_ways _ (not_under_other w (In r) x e there.1) (ap (λ (z : Row). same_owner z.owner (In r)) one ∙ here.1))));
      fewer =
          let gone : filter (λ x. not (is_named o x)) (c ∷ rest) ≡ rest =
          ap (λ b. cond (not b) (c ∷ filter (λ x. not (is_named o x)) rest) (filter (λ x. not (is_named o x)) rest)) (ap (same_name (c.row).name) (sym name) ∙ same_name_itself (c.row).name)
          ∙ filter_all (λ x. not (is_named o x)) rest (λ x m.
          ap not (ap (same_name (x.row).name) (sym name) ∙ none_any (λ (n : ObjId). same_name n (c.row).name) (names (plain rest)) apart.0 (x.row).name (Member_map (λ (z : Row). z.name) x.row (plain rest) (Member_map (λ (z : CountedRow). z.row) x rest m)))) in
          omega (arith, ap length (turn (In r) ∙ ap (filter (λ x. not (is_named o x))) is ∙ gone), ap length is);
    }

pub none_left : (rows : List CountedRow) → None ≡ first_name rows → rows ≡ []
none_left [] e = refl
none_left (c ∷ cs) e = absurd (none-some (c.row).name e)

pub all_removed : (rows0 rows : List CountedRow) (r : ObjId) → ((w : Owner) → same_owner w (In r) ≡ false → rows_of w rows ≡ rows_of w rows0) → rows_of (In r) rows ≡ [] → SameByOwner rows (rows_outside (In r) rows0)
all_removed rows0 rows r others none w =
    elim (same_owner w (In r)) as (λ b. same_owner w (In r) ≡ b → rows_of w rows ≡ rows_of w (rows_outside (In r) rows0)) [
      | true ↦ λ e. subst (λ v. rows_of v rows ≡ rows_of v (rows_outside (In r) rows0)) (sym (same_owner_is w (In r) e)) (none ∙ sym (none_outside (In r) rows0))
      | false ↦ λ e. others w e ∙ sym (filter_within (is_under w) (λ c. not (is_under (In r) c)) (λ c h. ap not (not_under_other w (In r) c e h)) rows0)
    ] refl

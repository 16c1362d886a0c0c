-- Where a close begins and ends: in the state itself, and in the one that it makes of it.
use Rattle.std.proofs.Common.{Bool, List, None, Option, Some, [], ap, arith, cond, eqb, false, inl, inr, length, ltb, map, refl, subst, suc, sym, true, zero, ℕ, ◌&&◌, ◌<◌, ◌∙◌, ◌∷◌, ◌≡◌, ◌≤◌}
use Rattle.std.proofs.Math.Bool.{and-false}
use Rattle.std.specs.List.{list_any}
use Rattle.lf_base.specs.declared.ids.ObjId.{ObjId}
use Rattle.lf_base.specs.declared.values.Key.{Key}
use Rattle.lf_base.specs.declared.values.Owner.{Owner}
use Rattle.lf_base.specs.declared.values.Owner.TheVariants.{Frozen, In, Local}
use Rattle.lf_base.specs.declared.values.Value.{Value}
use Rattle.lf_base.specs.declared.values.Value.TheVariants as value
use Rattle.lf_base.specs.CloseResult.{close_result, leads_into}
use Rattle.lf_base.specs.Names.{is_local, targets_of_value}
use Rattle.lf_base.specs.Owners.{has_name, is_in, owner_in}
use Rattle.lf_base.specs.Ownership.{below}
use Rattle.lf_base.specs.PlainChanges.{put_slot, slot_at}
use Rattle.lf_base.specs.PlainState.{Row, State}
use Rattle.lf_base.specs.Sets.{Member}
use Rattle.lf_base.specs.TouchedEdges.{row_fields}
use Rattle.lf_base.specs.WalkCounts.{refs}
use Rattle.lf_base.proofs.ListLemmas.Tests.{by_test}
use Rattle.lf_barrier.proofs.MovingEdges.FieldLoops.{fields_told}
use Rattle.lf_domain.specs.Counts.{IsDomain}
use Rattle.lf_domain.proofs.StoreEdges.{owner_told}
use Rattle.lf_graph.specs.StoredRows.{CountedRow, fields_at, owner_at}
use Rattle.lf_laws.proofs.Dropping.RowsInPlace.{rows_in_place}
use Rattle.lf_laws.proofs.Losses.CountsFall.{above_zero}
use Rattle.lf_laws.proofs.Rows.OwnerTests.{local_is}
use Rattle.lf_laws.proofs.Rows.RowsByName.{at_mem, owner_mem}
use Rattle.lf_regions.specs.declared.region.Region.{Region}
use Rattle.lf_transfer.specs.Closing.{AreFieldsShut, AreLocalsShut, AreSlotsShut, Closing, IsOpenedBy, IsSlotShut, come_to, is_inner, is_let_loose, lies_within, shut, shut_fields, shut_slot, shut_value}
use Rattle.lf_transfer.specs.LooseNames.{LooseNames}
use Rattle.lf_transfer.proofs.Closings.ClosedSteps.{any_same}
use Rattle.lf_transfer.proofs.Closings.LooseSteps.{no_zero}
use Rattle.lf_transfer.proofs.Closings.ShutStates.{shut_begins}

-- ---- the beginning
none_in : (qs : List ObjId) → list_any (λ q. false) qs ≡ false
none_in [] = refl
none_in (q ∷ qs) = none_in qs

lies_is : (within qs : List ObjId) → ((q : ObjId) → has_name within q ≡ has_name qs q) → (w : Option Owner) → lies_within within w ≡ list_any (λ q. is_in q w) qs
lies_is within qs same None = sym (none_in qs)
lies_is within qs same (Some Local) = sym (none_in qs)
lies_is within qs same (Some Frozen) = sym (none_in qs)
lies_is within qs same (Some (In x)) = same x

never_both : (n : ℕ) → (ltb 0 n && eqb n 0) ≡ false
never_both n = by_test (ltb 0 n)
    (λ e. ap (λ b. ltb 0 n && b) (no_zero n (above_zero n e)) ∙ and-false (ltb 0 n))
    (λ e. ap (λ b. b && eqb n 0) e)

none_let_loose : (s : State) (o : ObjId) → is_let_loose s s o ≡ false
none_let_loose s o = ap (λ b. is_inner o (owner_in s.rows o) && b) (never_both (refs s o)) ∙ and-false (is_inner o (owner_in s.rows o))

module _ (s : State) (rows : List CountedRow) (regions : List Region) (slots : List (Option Value)) (opened : IsOpenedBy rows regions slots s) where
  here_at_first : come_to s rows slots ≡ s
  here_at_first i = record s { slots = sym opened.in_slots i; rows = (((opened.domain).counts).store).rows.rise i }

  pub closing_begins : (at : ℕ) (r : ObjId) (within : List ObjId) (before : LooseNames) → ((q : ObjId) → has_name within q ≡ has_name (r ∷ below s r) q)
      → length s.rows ≤ before.spare → Closing s at r within before rows regions slots before
  closing_begins at r within before names fits = record {
    domain = subst (IsDomain rows regions) (sym here_at_first) opened.domain;
    leads = λ v. any_same (λ o. lies_within within (owner_at rows o)) (λ o. list_any (λ q. is_in q (owner_in s.rows o)) (r ∷ below s r))
        (λ o. ap (lies_within within) (sym (owner_told rows s.rows o (((opened.domain).counts).store).rows)) ∙ lies_is within (r ∷ below s r) names (owner_in s.rows o)) (targets_of_value v);
    same = ap (shut (leads_into s r) at) here_at_first ∙ shut_begins s r at;
    fewer = λ o. omega (arith, ap (λ (x : State). refs x o) here_at_first);
    loose = record {
      names = record { more = []; grows = refl; once = tt; each = λ o. sym (ap (λ (x : State). is_let_loose s x o) here_at_first ∙ none_let_loose s o) };
      room = refl;
    };
    fits = fits;
  }

-- ---- the end
module _ (leads : Value → Bool) where
  slot_same : (w : Option Value) → IsSlotShut leads w → shut_slot leads w ≡ w
  slot_same None h = refl
  slot_same (Some v) h = ap (λ b. Some (cond b value.None v)) (h v refl)

  slots_same : (slots : List (Option Value)) → ((i : ℕ) → i < length slots → IsSlotShut leads (slot_at slots i)) → map (shut_slot leads) slots ≡ slots
  slots_same [] h = refl
  slots_same (x ∷ xs) h = (λ i. slot_same x (h zero (omega arith)) i ∷ slots_same xs (λ n less. h (suc n) (omega (arith, less))) i)

  but_one_same : (slots : List (Option Value)) (at : ℕ) → AreSlotsShut leads at (length slots) slots → put_slot (map (shut_slot leads) slots) at (slot_at slots at) ≡ slots
  but_one_same [] at h = refl
  but_one_same (x ∷ xs) zero h = ap (λ l. x ∷ l) (slots_same xs (λ n less. h (suc n) (omega (arith, less)) (λ e. omega (arith, e))))
  but_one_same (x ∷ xs) (suc at) h =
      (λ i. slot_same x (h zero (omega arith) (λ e. omega (arith, e))) i ∷ but_one_same xs at (λ n less other. h (suc n) (omega (arith, less)) (λ e. other (omega (arith, e)))) i)

  fields_same : (fields : List (Key × Value)) → AreFieldsShut leads fields → map (λ f. (f.0, shut_value leads f.1)) fields ≡ fields
  fields_same [] h = refl
  fields_same (f ∷ fs) h = (λ i. (f.0, cond (h f (inl refl) i) value.None f.1) ∷ fields_same fs (λ g m. h g (inr m)) i)

  row_same : (row : Row) → (is_local row.owner ≡ true → AreFieldsShut leads row.fields) → shut_fields leads row ≡ row
  row_same row h = by_test (is_local row.owner)
      (λ e. ap (λ b. cond b (record row { fields = map (λ f. (f.0, shut_value leads f.1)) row.fields }) row) e ∙ ap (λ fs. record row { fields = fs }) (fields_same row.fields (h e)))
      (λ e. ap (λ b. cond b (record row { fields = map (λ f. (f.0, shut_value leads f.1)) row.fields }) row) e)

  rows_same : (rows : List Row) → ((row : Row) → Member row rows → is_local row.owner ≡ true → AreFieldsShut leads row.fields) → map (shut_fields leads) rows ≡ rows
  rows_same [] h = refl
  rows_same (row ∷ rows) h = (λ i. row_same row (h row (inl refl)) i ∷ rows_same rows (λ x m. h x (inr m)) i)

module _ (s : State) (at : ℕ) (r : ObjId) (within : List ObjId) (before : LooseNames)
    (rows : List CountedRow) (regions : List Region) (slots : List (Option Value)) (names : LooseNames)
    (c : Closing s at r within before rows regions slots names)
    (slots_shut : AreSlotsShut (leads_into s r) at (length slots) slots) (locals_shut : AreLocalsShut (leads_into s r) rows) where
  abbrev last : State
  last = come_to s rows slots

  fields_in_row : (row : Row) → Member row last.rows → is_local row.owner ≡ true → AreFieldsShut (leads_into s r) row.fields
  fields_in_row row m e =
      let distinct = (rows_in_place last (c.domain).well_formed).distinct in
      let stored = (((c.domain).counts).store).rows in
      let owner : owner_at rows row.name ≡ Some Local = sym (owner_told rows last.rows row.name stored) ∙ owner_mem last.rows distinct row m ∙ ap (λ w. Some w) (local_is row.owner e) in
      let fields : fields_at rows row.name ≡ row.fields = fields_told rows last.rows row.name stored ∙ ap row_fields (at_mem last.rows distinct row m) in
      subst (AreFieldsShut (leads_into s r)) fields (locals_shut row.name owner)

  pub closing_ends : last ≡ close_result s at r
  closing_ends = sym (λ i. record last { slots = but_one_same (leads_into s r) slots at slots_shut i; rows = rows_same (leads_into s r) last.rows fields_in_row i }) ∙ c.same

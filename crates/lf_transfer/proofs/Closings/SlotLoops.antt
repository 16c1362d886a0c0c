-- All slots shut, one after the other.
use Rattle.std.proofs.Common.{Bool, List, Option, arith, eqb, false, subst, sym, true, ℕ, ◌+◌, ◌<◌, ◌∙◌, ◌≡◌, ◌≢◌}
use Rattle.std.proofs.lemmas.Bool.{eq-eqb, eqb-true}
use Rattle.lf_base.specs.declared.ids.ObjId.{ObjId}
use Rattle.lf_base.specs.declared.values.Value.{Value}
use Rattle.lf_base.specs.PlainChanges.{slot_at}
use Rattle.lf_base.specs.PlainState.{State}
use Rattle.lf_base.proofs.ListLemmas.Tests.{by_test}
use Rattle.lf_graph.specs.StoredRows.{CountedRow}
use Rattle.lf_regions.specs.declared.region.Region.{Region}
use Rattle.lf_transfer.specs.Closing.{AreSlotsShut, Closing, IsSlotShut}
use Rattle.lf_transfer.specs.LooseNames.{LooseNames}

-- the same of equal parts
pub closing_of_equal : (s : State) (at : ℕ) (r : ObjId) (within : List ObjId) (before : LooseNames) (rows next : List CountedRow) (regions table : List Region)
    (slots later : List (Option Value)) (names after : LooseNames) → next ≡ rows → table ≡ regions → later ≡ slots → after ≡ names
    → Closing s at r within before rows regions slots names → Closing s at r within before next table later after
closing_of_equal s at r within before rows next regions table slots later names after a b c d h =
    subst (λ x. Closing s at r within before x table later after) (sym a)
    (subst (λ x. Closing s at r within before rows x later after) (sym b)
    (subst (λ x. Closing s at r within before rows regions x after) (sym c)
    (subst (λ x. Closing s at r within before rows regions slots x) (sym d) h)))

less_then : (i n : ℕ) → i < n + 1 → i ≢ n → i < n
less_then i n below apart = omega (arith, below, apart)

-- one more
pub one_more_shut : (leads : Value → Bool) (kept n : ℕ) (slots later : List (Option Value)) → AreSlotsShut leads kept n slots
    → ((i : ℕ) → i ≢ n → slot_at later i ≡ slot_at slots i) → (n ≢ kept → IsSlotShut leads (slot_at later n)) → AreSlotsShut leads kept (n + 1) later
one_more_shut leads kept n slots later so_far others this i below other = by_test (eqb i n)
    (λ e. let is : i ≡ n = eqb-true i n e in subst (λ m. IsSlotShut leads (slot_at later m)) (sym is) (this (λ k. other (is ∙ k))))
    (λ e. let apart : i ≢ n = λ k. (let z : true ≡ false = sym (eq-eqb i n k) ∙ e in cc) in
    subst (IsSlotShut leads) (sym (others i apart)) (so_far i (less_then i n below apart) other))

-- After each call the further frozen rows may be given still.
use Rattle.std.proofs.Common.{List, subst, sym, ℕ, ◌≡◌}
use Rattle.lf_base.specs.EndResult.{end_result}
use Rattle.lf_base.specs.HeapCalls.{Changed, Done, Refused, close_change, dissolve_change, frozen, lift_change, load_change, merge_change, new_cown_change, new_object_change, new_region_change, read_change, take_change, unset_change, write_change}
use Rattle.lf_base.specs.MoreGiven.{Holds, More, StaysMore, change_given, with_given}
use Rattle.lf_base.specs.Operands.{popped, put_down}
use Rattle.lf_base.specs.OwnNames.{CallAddsOwnNames}
use Rattle.lf_base.specs.PlainState.{Row, State}
use Rattle.lf_base.specs.SettledStates.{IsSettled}
use Rattle.lf_laws.proofs.Dropping.EndState.{end_keeps}
use Rattle.lf_laws.proofs.KeptStates.CallsSettle.{close_settles, dissolve_settles, frozen_settles, lift_settles, load_settles, merge_settles, new_cown_settles, new_object_settles, new_region_settles, popped_settles, put_down_settles, read_settles, take_settles, unset_settles, write_settles}
use Rattle.lf_laws.proofs.MoreGiven.CallsAlike.{close_alike, dissolve_call_alike, lift_alike, load_alike, made_alike, merge_call_alike, new_object_alike, new_region_alike, read_call_alike, take_alike, unset_alike, write_alike}
use Rattle.lf_laws.proofs.OwnNames.CallsBring.{close_adds, dissolve_adds, lift_adds, load_adds, merge_adds, new_cown_adds, new_object_adds, new_region_adds, read_adds, take_adds, unset_adds, write_adds}

holds_still : (s t : State) (many : List Row) → t.given ≡ s.given → Holds s.given many → Holds t.given many
holds_still s t many e h = subst (λ few. Holds few many) (sym e) h

-- what a call gives, before and with the further rows
stays_by : (s : State) (many : List Row) (h : More s many) (c d : Changed) → IsSettled c → IsSettled d → d ≡ change_given many c → CallAddsOwnNames s c → StaysMore many c
stays_by s many h (Done t) d w v e a = record { whole = w.well_formed; more = (subst IsSettled e v).well_formed; holds = holds_still s t many a.given h.holds }
stays_by s many h (Refused f) d w v e a = tt

module _ (s : State) (many : List Row) (h : More s many) where
  abbrev big : State
  big = with_given s many

  pub load_more : (at : ℕ) → StaysMore many (load_change at s)
  load_more at = stays_by s many h (load_change at s) (load_change at big) (load_settles s h.whole at) (load_settles big h.more at) (load_alike s many h at) (load_adds s at)

  pub lift_more : (at : ℕ) → StaysMore many (lift_change at s)
  lift_more at = stays_by s many h (lift_change at s) (lift_change at big) (lift_settles s h.whole at) (lift_settles big h.more at) (lift_alike s many h at) (lift_adds s at)

  pub unset_more : (at : ℕ) → StaysMore many (unset_change at s)
  unset_more at = stays_by s many h (unset_change at s) (unset_change at big) (unset_settles s h.whole at) (unset_settles big h.more at) (unset_alike s many h at) (unset_adds s at)

  pub object_more : StaysMore many (new_object_change s)
  object_more = stays_by s many h (new_object_change s) (new_object_change big) (new_object_settles s h.whole) (new_object_settles big h.more) (new_object_alike s many h) (new_object_adds s)

  pub region_more : StaysMore many (new_region_change s)
  region_more = stays_by s many h (new_region_change s) (new_region_change big) (new_region_settles s h.whole) (new_region_settles big h.more) (new_region_alike s many h) (new_region_adds s)

  pub cown_more : StaysMore many (new_cown_change s)
  cown_more = stays_by s many h (new_cown_change s) (new_cown_change big) (new_cown_settles s h.whole) (new_cown_settles big h.more) (made_alike s many h) (new_cown_adds s)

  pub read_more : StaysMore many (read_change s)
  read_more = stays_by s many h (read_change s) (read_change big) (read_settles s h.whole) (read_settles big h.more) (read_call_alike s many h) (read_adds s)

  pub write_more : StaysMore many (write_change s)
  write_more = stays_by s many h (write_change s) (write_change big) (write_settles s h.whole) (write_settles big h.more) (write_alike s many h) (write_adds s)

  pub take_more : StaysMore many (take_change s)
  take_more = stays_by s many h (take_change s) (take_change big) (take_settles s h.whole) (take_settles big h.more) (take_alike s many h) (take_adds s)

  pub merge_more : StaysMore many (merge_change s)
  merge_more = stays_by s many h (merge_change s) (merge_change big) (merge_settles s h.whole) (merge_settles big h.more) (merge_call_alike s many h) (merge_adds s)

  pub dissolve_more : StaysMore many (dissolve_change s)
  dissolve_more = stays_by s many h (dissolve_change s) (dissolve_change big) (dissolve_settles s h.whole) (dissolve_settles big h.more) (dissolve_call_alike s many h) (dissolve_adds s)

  pub close_more : (at : ℕ) → StaysMore many (close_change at s)
  close_more at = stays_by s many h (close_change at s) (close_change at big) (close_settles s h.whole at) (close_settles big h.more at) (close_alike s many h at) (close_adds s at)

  pub popped_more : More (popped s) many
  popped_more = record { whole = (popped_settles s h.whole).well_formed; more = (popped_settles big h.more).well_formed; holds = h.holds }

  pub put_down_more : (at : ℕ) → More (put_down at s) many
  put_down_more at = record { whole = (put_down_settles s h.whole at).well_formed; more = (put_down_settles big h.more at).well_formed; holds = h.holds }

  pub frozen_more : More (frozen s) many
  frozen_more = record { whole = (frozen_settles s h.whole).well_formed; more = (frozen_settles big h.more).well_formed; holds = h.holds }

  pub end_more : More (end_result s) many
  end_more = record { whole = end_keeps s h.whole; more = end_keeps big h.more; holds = h.holds }

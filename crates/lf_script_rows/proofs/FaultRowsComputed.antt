-- The rows, computed.
use Rattle.std.proofs.Common.{refl}
use Rattle.std.specs.Fmt.{digits}
use Rattle.lf_script_rows.specs.FaultRows.{UnsetRuns, NoObjectRuns, NoFieldRuns, FrozenWriteRuns, LocalInCownRuns, NotAcquiredRuns}
use Rattle.lf_script_rows.specs.FaultRows.{NoCownRuns, NotShareableLocalRuns, NoBridgeRuns, OwnedRuns, OwnedMergeRuns, WrongKindRuns}
use Rattle.lf_script_rows.specs.FaultRows.{OverflowRuns, ZeroDivisorRuns, EndlessCallsRuns, EndlessTurnsRuns}

pub unset_shows : UnsetRuns
unfolding digits
unset_shows = ((refl, refl), (refl, refl))

pub no_object_shows : NoObjectRuns
unfolding digits
no_object_shows = ((refl, refl), (refl, refl))

pub no_field_shows : NoFieldRuns
unfolding digits
no_field_shows = ((refl, refl), (refl, refl))

pub frozen_write_shows : FrozenWriteRuns
unfolding digits
frozen_write_shows = ((refl, refl), (refl, refl))

pub local_in_cown_shows : LocalInCownRuns
unfolding digits
local_in_cown_shows = ((refl, refl), (refl, refl))

pub not_acquired_shows : NotAcquiredRuns
unfolding digits
not_acquired_shows = ((refl, refl), (refl, refl))

pub no_cown_shows : NoCownRuns
unfolding digits
no_cown_shows = ((refl, refl), (refl, refl))

pub not_shareable_local_shows : NotShareableLocalRuns
unfolding digits
not_shareable_local_shows = ((refl, refl), (refl, refl))

pub no_bridge_shows : NoBridgeRuns
unfolding digits
no_bridge_shows = ((refl, refl), (refl, refl))

pub owned_shows : OwnedRuns
unfolding digits
owned_shows = ((refl, refl), (refl, refl))

pub owned_merge_shows : OwnedMergeRuns
unfolding digits
owned_merge_shows = ((refl, refl), (refl, refl))

pub wrong_kind_shows : WrongKindRuns
unfolding digits
wrong_kind_shows = ((refl, refl), (refl, refl))

pub overflow_shows : OverflowRuns
unfolding digits
overflow_shows = ((refl, refl), (refl, refl))

pub zero_divisor_shows : ZeroDivisorRuns
unfolding digits
zero_divisor_shows = ((refl, refl), (refl, refl))

pub endless_calls_shows : EndlessCallsRuns
unfolding digits
endless_calls_shows = (((refl, refl), (refl, refl)), ((refl, refl), (refl, refl)))

pub endless_turns_shows : EndlessTurnsRuns
unfolding digits
endless_turns_shows = (((refl, refl), (refl, refl)), ((refl, refl), (refl, refl)))

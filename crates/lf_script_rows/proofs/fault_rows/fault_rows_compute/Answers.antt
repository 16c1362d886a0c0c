use Rattle.lf_script_rows.proofs.FaultRowsComputed.{unset_shows, no_object_shows, no_field_shows, frozen_write_shows, local_in_cown_shows}
use Rattle.lf_script_rows.proofs.FaultRowsComputed.{not_acquired_shows, no_cown_shows, not_shareable_local_shows, no_bridge_shows}
use Rattle.lf_script_rows.proofs.FaultRowsComputed.{owned_shows, owned_merge_shows, wrong_kind_shows, overflow_shows, zero_divisor_shows}
use Rattle.lf_script_rows.proofs.FaultRowsComputed.{endless_calls_shows, endless_turns_shows}
use Rattle.lf_script_rows.proofs.fault_rows.fault_rows_compute.Goals as goal

pub returns-clause-unset : goal.returns-clause-unset
returns-clause-unset c = unset_shows

pub returns-clause-no_object : goal.returns-clause-no_object
returns-clause-no_object c = no_object_shows

pub returns-clause-no_field : goal.returns-clause-no_field
returns-clause-no_field c = no_field_shows

pub returns-clause-frozen_write : goal.returns-clause-frozen_write
returns-clause-frozen_write c = frozen_write_shows

pub returns-clause-local_in_cown : goal.returns-clause-local_in_cown
returns-clause-local_in_cown c = local_in_cown_shows

pub returns-clause-not_acquired : goal.returns-clause-not_acquired
returns-clause-not_acquired c = not_acquired_shows

pub returns-clause-no_cown : goal.returns-clause-no_cown
returns-clause-no_cown c = no_cown_shows

pub returns-clause-not_shareable_local : goal.returns-clause-not_shareable_local
returns-clause-not_shareable_local c = not_shareable_local_shows

pub returns-clause-no_bridge : goal.returns-clause-no_bridge
returns-clause-no_bridge c = no_bridge_shows

pub returns-clause-owned : goal.returns-clause-owned
returns-clause-owned c = owned_shows

pub returns-clause-owned_merge : goal.returns-clause-owned_merge
returns-clause-owned_merge c = owned_merge_shows

pub returns-clause-wrong_kind : goal.returns-clause-wrong_kind
returns-clause-wrong_kind c = wrong_kind_shows

pub returns-clause-overflow : goal.returns-clause-overflow
returns-clause-overflow c = overflow_shows

pub returns-clause-zero_divisor : goal.returns-clause-zero_divisor
returns-clause-zero_divisor c = zero_divisor_shows

pub returns-clause-endless_calls : goal.returns-clause-endless_calls
returns-clause-endless_calls c = endless_calls_shows

pub returns-clause-endless_turns : goal.returns-clause-endless_turns
returns-clause-endless_turns c = endless_turns_shows

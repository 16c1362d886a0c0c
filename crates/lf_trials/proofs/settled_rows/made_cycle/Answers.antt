use Rattle.std.proofs.Common.{refl}
use Rattle.lf_base.specs.declared.values.Owner.TheVariants.{Local}
use Rattle.lf_trials.specs.SettledRows.{first, half_cycle, key_zero, object_in_slot, second}
use Rattle.lf_trials.proofs.SettledRows.{field_room, half_domain, slot_domain}
use Rattle.lf_trials.proofs.settled_rows.made_cycle.Goals as goal

pub write_local-requires-clause-local : goal.write_local-requires-clause-local
write_local-requires-clause-local g c κs within = (object_in_slot, (slot_domain (g.S.Store.rows c.in_ok-store.store) (g.S.Store.rows c.reserve.new.self) c.in_ok-store.regions c.reserve.ensures.rows c.in_ok-store.ensures, refl))

pub write_local-requires-clause-room : goal.write_local-requires-clause-room
write_local-requires-clause-room g c κs within =
    field_room (g.S.Store.rows c.reserve.new.self) object_in_slot.rows first Local key_zero (g.S.Store.spare c.reserve.new.self) (((slot_domain (g.S.Store.rows c.in_ok-store.store) (g.S.Store.rows c.reserve.new.self) c.in_ok-store.regions c.reserve.ensures.rows c.in_ok-store.ensures).counts.store).rows) refl c.in_ok-reserve.ensures.enough

pub write_local-requires-2-clause-local : goal.write_local-requires-2-clause-local
write_local-requires-2-clause-local g c κs within = (half_cycle, (half_domain (g.S.Store.rows c.write_local.new.store) (g.S.Store.rows c.reserve-2.new.self) c.write_local.new.regions c.reserve-2.ensures.rows (c.write_local.ensures.written object_in_slot (slot_domain (g.S.Store.rows c.in_ok-store.store) (g.S.Store.rows c.reserve.new.self) c.in_ok-store.regions c.reserve.ensures.rows c.in_ok-store.ensures) refl), refl))

pub write_local-requires-2-clause-room : goal.write_local-requires-2-clause-room
write_local-requires-2-clause-room g c κs within =
    field_room (g.S.Store.rows c.reserve-2.new.self) half_cycle.rows second Local key_zero (g.S.Store.spare c.reserve-2.new.self) (((half_domain (g.S.Store.rows c.write_local.new.store) (g.S.Store.rows c.reserve-2.new.self) c.write_local.new.regions c.reserve-2.ensures.rows (c.write_local.ensures.written object_in_slot (slot_domain (g.S.Store.rows c.in_ok-store.store) (g.S.Store.rows c.reserve.new.self) c.in_ok-store.regions c.reserve.ensures.rows c.in_ok-store.ensures) refl)).counts.store).rows) refl c.in_ok-reserve-2.ensures.enough

pub returns : goal.returns
returns g c = c.write_local-2.ensures.written half_cycle (half_domain (g.S.Store.rows c.write_local.new.store) (g.S.Store.rows c.reserve-2.new.self) c.write_local.new.regions c.reserve-2.ensures.rows (c.write_local.ensures.written object_in_slot (slot_domain (g.S.Store.rows c.in_ok-store.store) (g.S.Store.rows c.reserve.new.self) c.in_ok-store.regions c.reserve.ensures.rows c.in_ok-store.ensures) refl)) refl

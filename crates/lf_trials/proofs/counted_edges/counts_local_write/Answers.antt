use Rattle.std.specs.Prelude.{pos}
use Rattle.std.proofs.Common.{refl}
use Rattle.lf_base.specs.declared.values.Key.TheVariants.{Int}
use Rattle.lf_base.specs.declared.values.Value.TheVariants.{Obj}
use Rattle.lf_base.specs.EdgeLists.{near_edges}
use Rattle.lf_base.specs.PlainChanges.{object_result}
use Rattle.lf_base.specs.WriteResult.{write_result}
use Rattle.lf_trials.specs.TwoRegions.{two_regions}
use Rattle.lf_trials.proofs.TwoRegions.{child, local, local_domain, local_room, well_two}
use Rattle.lf_trials.proofs.counted_edges.counts_local_write.Goals as goal

pub add_object-requires-clause-next : goal.add_object-requires-clause-next
add_object-requires-clause-next g c κs within = (two_regions, (well_two, (c.in_ok-store.ensures, refl)))

pub write_local-requires-clause-local : goal.write_local-requires-clause-local
write_local-requires-clause-local g c κs within = (
  object_result two_regions,
  (
    local_domain (g.S.Store.rows c.add_object.new.store) (g.S.Store.rows c.reserve.new.self) c.in_ok-store.regions c.reserve.ensures.rows
        (c.in_ok-add_object.ensures.made two_regions well_two c.in_ok-store.ensures refl),
    refl,
  ),
)

pub write_local-requires-clause-room : goal.write_local-requires-clause-room
write_local-requires-clause-room g c κs within =
    local_room (g.S.Store.rows c.add_object.new.store) (g.S.Store.rows c.reserve.new.self) c.in_ok-store.regions c.reserve.ensures.rows
    (c.in_ok-add_object.ensures.made two_regions well_two c.in_ok-store.ensures refl) (g.S.Store.spare c.reserve.new.self) (Int (pos 0)) c.in_ok-reserve.ensures.enough

pub told-requires-after_bounds : goal.told-requires-after_bounds
told-requires-after_bounds g c κs within =
    let s = object_result two_regions in
    let after = write_result s local (Int (pos 0)) (Obj child) in (
      after.rows,
      (
        near_edges after,
        (
          c.write_local.ensures.written s (local_domain (g.S.Store.rows c.add_object.new.store) (g.S.Store.rows c.reserve.new.self) c.in_ok-store.regions c.reserve.ensures.rows
              (c.in_ok-add_object.ensures.made two_regions well_two c.in_ok-store.ensures refl)) refl,
          refl,
        ),
      ),
    )

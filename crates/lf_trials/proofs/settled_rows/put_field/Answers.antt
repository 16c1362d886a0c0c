use Rattle.lf_base.specs.WriteResult.{put_field}
use Rattle.lf_base.specs.declared.values.Owner.TheVariants.{In}
use Rattle.lf_domain.proofs.CountedEdges.{same_rows_count}
use Rattle.lf_domain.proofs.FieldCounts.{refilled_counts}
use Rattle.lf_trials.specs.SettledRows.{first}
use Rattle.lf_trials.proofs.SettledRows.{field_room, row_here}
use Rattle.lf_trials.proofs.settled_rows.put_field.Goals as goal

pub set_field-requires-clause-there : goal.set_field-requires-clause-there
set_field-requires-clause-there g c =
    let h = c.requires.may in
    row_here (g.S.Store.rows c.reserve.new.self) h.0 first (In first) (((same_rows_count (g.S.Store.rows c.args.store.now) (g.S.Store.rows c.reserve.new.self) c.args.regions.now h.0 h.1.0 c.reserve.ensures.rows h.1.1.0).store).rows) h.1.1.1

pub set_field-requires-clause-room : goal.set_field-requires-clause-room
set_field-requires-clause-room g c =
    let h = c.requires.may in
    field_room (g.S.Store.rows c.reserve.new.self) h.0 first (In first) c.args.key (g.S.Store.spare c.reserve.new.self) (((same_rows_count (g.S.Store.rows c.args.store.now) (g.S.Store.rows c.reserve.new.self) c.args.regions.now h.0 h.1.0 c.reserve.ensures.rows h.1.1.0).store).rows) h.1.1.1 c.in_ok-reserve.ensures.enough

pub returns : goal.returns
returns g c = record {
  put = λ of es counts here.
      refilled_counts first (λ fs. put_field fs c.args.key c.args.v) (g.S.Store.rows c.reserve.new.self) (g.S.Store.rows c.set_field.new.self) c.args.regions.now of es (same_rows_count (g.S.Store.rows c.args.store.now) (g.S.Store.rows c.reserve.new.self) c.args.regions.now of es c.reserve.ensures.rows counts) c.set_field.ensures.rows;
}

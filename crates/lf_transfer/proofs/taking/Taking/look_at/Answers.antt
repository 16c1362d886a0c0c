use Rattle.std.proofs.Common.{ap, subst, ◌∙◌}
use Rattle.lf_base.specs.Edges.{field_targets}
use Rattle.lf_graph.specs.StoredRows.{fields_at, owner_at}
use Rattle.lf_transfer.specs.Taking.{Takes, is_stored, owned_rows, region_of}
use Rattle.lf_transfer.proofs.Taken.TakenObjects.{takes_on}
use Rattle.lf_transfer.proofs.taking.Taking.look_at.Goals as goal

pub returns-clause-taken : goal.returns-clause-taken
returns-clause-taken g c =
    let rows = g.S.Store.rows c.args.store.now in
    let p = c.args.p in
    takes_on (is_stored rows) (field_targets (fields_at rows p)) (owned_rows rows p (region_of (owner_at rows p))) c.args.self.now.taken.keys c.take_fields.new.taken.keys c.take_region.new.taken.keys c.in_ok-fields.ensures.taken
    (subst (λ t. Takes (is_stored rows) (owned_rows rows p t) c.take_fields.new.taken.keys c.take_region.new.taken.keys) (c.region_at-region.ensures ∙ ap region_of c.owner.ensures.owner) c.in_ok-take_region.ensures)

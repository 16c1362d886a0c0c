use Rattle.std.proofs.Common.{◌∙◌}
use Rattle.lf_base.specs.declared.values.Owner.TheVariants.{In}
use Rattle.lf_base.specs.Owners.{owner_in}
use Rattle.lf_laws.proofs.Rows.OwnerTests.{in_region}
use Rattle.lf_laws.proofs.Rows.RowsByName.{owner_has}
use Rattle.lf_domain.proofs.StoreEdges.{row_told}
use Rattle.lf_trials.proofs.counted_edges.told.Goals as goal

pub refs-requires : goal.refs-requires
refs-requires g c =
    let h = c.requires in
    let b = c.args.bridge in
    record {
      there = row_told (g.S.Store.rows c.args.store.now) h.0 b ((h.1.1.0).store).rows ∙ owner_has h.0 b (In b) (in_region b (owner_in h.0 b) h.1.1.1);
    }

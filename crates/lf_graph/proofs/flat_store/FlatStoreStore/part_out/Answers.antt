use Rattle.std.proofs.Common.{ap, map, sym, ◌∙◌}
use Rattle.lf_graph.specs.FlatParts.{part_row}
use Rattle.lf_graph.proofs.FlatStores.FlatFound.{seen_as}
use Rattle.lf_graph.proofs.FlatStores.PartMoves.{part_is, rows_parted}
use Rattle.lf_graph.proofs.flat_store.FlatStoreStore.part_out.Goals as goal

pub returns-clause-part : goal.returns-clause-part
returns-clause-part c = c.in_ok-part.ensures.rows ∙ part_is (seen_as c.self.invariant c.self.view_is) c.args.region

pub returns-clause-rows : goal.returns-clause-rows
returns-clause-rows c =
    rows_parted (seen_as c.self.invariant c.self.view_is) c.args.region c.rows.result.now
    (sym (ap (λ r. map (part_row r) c.rows.result.now) c.in_ok-part.ensures.region) ∙ sym c.rows.ensures.rows ∙ c.in_ok-part.ensures.rows)
    c.drop_rows.new.self.rows c.drop_rows.ensures

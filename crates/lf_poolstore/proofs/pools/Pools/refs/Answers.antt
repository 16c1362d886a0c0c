use Rattle.std.proofs.Common.{ap, sym, ◌∙◌}
use Rattle.lf_graph.specs.StoredRows.{refs_by}
use Rattle.lf_poolstore.proofs.PoolFacts.{place_found, place_some, place_stands}
use Rattle.lf_poolstore.proofs.pools.Pools.refs.Goals as goal

pub unit_at-requires : goal.unit_at-requires
unit_at-requires c = place_some c.args.self.now c.args.o c.get-place.result c.get-place.ensures c.requires

pub refs-requires : goal.refs-requires
refs-requires c = (c.args.o, place_stands c.args.self.now c.args.o c.get-place.result c.get-place.ensures c.requires c.unit_at.result.now c.unit_at.ensures)

pub returns : goal.returns
returns c =
    let s = place_stands c.args.self.now c.args.o c.get-place.result c.get-place.ensures c.requires c.unit_at.result.now c.unit_at.ensures in
    c.refs.ensures c.args.o s ∙ sym (ap (refs_by) (place_found c.args.self.now c.args.o c.get-place.result c.get-place.ensures c.unit_at.result.now c.unit_at.ensures s))

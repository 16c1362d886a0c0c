use Rattle.std.proofs.Common.{sym}
use Rattle.lf_regions.proofs.KeptRegions.{found_key, found_name, kept_order, number_found}
use Rattle.lf_regions.proofs.Places.{has_place, place_is_key}
use Rattle.lf_regions.proofs.table.RegionTable.borrowed.Goals as goal

pub place-requires : goal.place-requires
place-requires c = has_place c.self.inside.regions c.self.inside.places c.self.inside.index.entries c.self.invariant c.args.r (found_name c.self.inside.regions c.self.inside.index.entries c.self.invariant.kept c.args.self.now c.self.view_is c.args.r c.requires)

pub index-requires : goal.index-requires
index-requires c = found_key c.self.inside.regions c.self.inside.index.entries c.args.r c.place.result c.self.invariant.kept (place_is_key c.self.inside.regions c.self.inside.places c.self.inside.index.entries c.self.invariant c.args.r c.place.result c.place.ensures)

pub returns-clause-number : goal.returns-clause-number
returns-clause-number c = sym (number_found c.self.inside.regions c.self.inside.index.entries c.self.invariant.kept c.args.self.now c.self.view_is c.args.r c.place.result (place_is_key c.self.inside.regions c.self.inside.places c.self.inside.index.entries c.self.invariant c.args.r c.place.result c.place.ensures) c.index.result.now c.index.ensures)

pub returns-clause-rising : goal.returns-clause-rising
returns-clause-rising c = rw (← c.self.view_is) (kept_order c.self.inside.regions c.self.inside.index.entries c.self.invariant.kept)

use Rattle.std.proofs.Common.{refl, ◌+◌, ap, arith, sym}
use Rattle.lf_regions.proofs.KeptRegions.{found_key, found_name, kept_order, number_found, number_written, write_keeps}
use Rattle.lf_regions.proofs.Places.{has_place, place_is_key, same_places}
use Rattle.lf_regions.proofs.table.RegionTable.borrow.Goals as goal

pub place-key-requires : goal.place-key-requires
place-key-requires c = has_place c.self.inside.regions c.self.inside.places c.self.inside.index.entries c.self.invariant c.args.r (found_name c.self.inside.regions c.self.inside.index.entries c.self.invariant.kept c.args.self.now c.self.view_is c.args.r c.requires.there)

pub index_mut-requires : goal.index_mut-requires
index_mut-requires c = found_key c.self.inside.regions c.self.inside.index.entries c.args.r c.place-key.result c.self.invariant.kept (place_is_key c.self.inside.regions c.self.inside.places c.self.inside.index.entries c.self.invariant c.args.r c.place-key.result c.place-key.ensures)

pub overflow_add-index_mut : goal.overflow_add-index_mut
overflow_add-index_mut c = omega (arith, number_found c.self.inside.regions c.self.inside.index.entries c.self.invariant.kept c.args.self.now c.self.view_is c.args.r c.place-key.result (place_is_key c.self.inside.regions c.self.inside.places c.self.inside.index.entries c.self.invariant c.args.r c.place-key.result c.place-key.ensures) c.index_mut.result.now c.index_mut.ensures.value)

pub invariant_of-self : goal.invariant_of-self
invariant_of-self c =
    same_places c.self.inside.regions c.self.inside.places c.self.inside.index.entries c.self.invariant _ c.self.inside.places (
    write_keeps c.self.inside.regions c.self.inside.index.entries c.self.invariant.kept c.args.self.now c.self.view_is c.args.r c.place-key.result (place_is_key c.self.inside.regions c.self.inside.places c.self.inside.index.entries c.self.invariant c.args.r c.place-key.result c.place-key.ensures) c.index_mut.result.now c.index_mut.ensures.value
    (c.index_mut.result.now.borrowed + c.args.by) c.index_mut.result.now.owned)
    (λ q. refl)

pub returns-clause-added : goal.returns-clause-added
returns-clause-added c =
    number_written c.self.inside.regions c.self.inside.index.entries c.self.invariant.kept c.args.self.now c.self.view_is c.args.r c.place-key.result (place_is_key c.self.inside.regions c.self.inside.places c.self.inside.index.entries c.self.invariant c.args.r c.place-key.result c.place-key.ensures) c.index_mut.result.now c.index_mut.ensures.value
    (c.index_mut.result.now.borrowed + c.args.by) _
    (ap (λ n. n + c.args.by) (sym (number_found c.self.inside.regions c.self.inside.index.entries c.self.invariant.kept c.args.self.now c.self.view_is c.args.r c.place-key.result (place_is_key c.self.inside.regions c.self.inside.places c.self.inside.index.entries c.self.invariant c.args.r c.place-key.result c.place-key.ensures) c.index_mut.result.now c.index_mut.ensures.value)))

pub returns-clause-rising : goal.returns-clause-rising
returns-clause-rising c = kept_order _ _ ((invariant_of-self c).kept)

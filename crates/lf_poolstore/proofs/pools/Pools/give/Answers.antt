use Rattle.slab.specs.Slab.{get}
use Rattle.lf_poolstore.specs.Index.{index_room, place_at}
use Rattle.lf_poolstore.proofs.GivenRows.{given_kept, given_needs, given_room, given_rows}
use Rattle.lf_poolstore.proofs.PoolFacts.{numbered, numbers_in, place_stands, place_unit, stood_at}
use Rattle.lf_poolstore.proofs.PoolRows.{shown_rows}
use Rattle.lf_poolstore.proofs.pools.Pools.give.Goals as goal

pub move_row-row-requires : goal.move_row-row-requires
move_row-row-requires c =
    let p = c.args.self.now in
    let o = c.args.o in
    let q = c.args.place in
    let h = c.requires.there in
    let u = (stood_at p o q c.requires.place h).unit in
    let at_u = place_unit p o q c.requires.place h in
    let n = numbered p c.args.owner c.args.number c.requires.number in
    let needs = given_needs p o q c.requires.place h c.args.owner c.args.number c.requires.number c.requires.apart u n.0 at_u n.1 c.requires.room in
    (o, u, n.0, at_u, n.1, place_stands p o q c.requires.place h u at_u, c.requires.apart, needs.0, needs.1)

pub invariant_of-self : goal.invariant_of-self
invariant_of-self c =
    let p = c.args.self.now in
    let o = c.args.o in
    let q = c.args.place in
    let h = c.requires.there in
    let u = (stood_at p o q c.requires.place h).unit in
    let at_u = place_unit p o q c.requires.place h in
    let n = numbered p c.args.owner c.args.number c.requires.number in
    let moves = c.move_row-row.ensures o u n.0 at_u n.1 (place_stands p o q c.requires.place h u at_u) in
    record { kept = given_kept p o q c.requires.place h c.args.owner c.args.number c.requires.number c.requires.apart u n.0 at_u n.1 (get c.move_row-row.new.units) c.move_row-row.result moves (place_at c.put.new.self) c.put.ensures.places }

pub returns-clause-rows : goal.returns-clause-rows
returns-clause-rows c =
    let p = c.args.self.now in
    let o = c.args.o in
    let q = c.args.place in
    let h = c.requires.there in
    let u = (stood_at p o q c.requires.place h).unit in
    let at_u = place_unit p o q c.requires.place h in
    let n = numbered p c.args.owner c.args.number c.requires.number in
    let moves = c.move_row-row.ensures o u n.0 at_u n.1 (place_stands p o q c.requires.place h u at_u) in
    given_rows p o q c.requires.place h c.args.owner c.args.number c.requires.number c.requires.apart u n.0 at_u n.1 (get c.move_row-row.new.units) c.move_row-row.result moves (place_at c.put.new.self) c.put.ensures.places _
    (shown_rows (place_at c.put.new.self) (numbers_in p) c.move_row-row.new.units.slots (given_kept p o q c.requires.place h c.args.owner c.args.number c.requires.number c.requires.apart u n.0 at_u n.1 (get c.move_row-row.new.units) c.move_row-row.result moves (place_at c.put.new.self) c.put.ensures.places))

pub returns-clause-room : goal.returns-clause-room
returns-clause-room c =
    let p = c.args.self.now in
    let o = c.args.o in
    let q = c.args.place in
    let h = c.requires.there in
    let u = (stood_at p o q c.requires.place h).unit in
    let at_u = place_unit p o q c.requires.place h in
    let n = numbered p c.args.owner c.args.number c.requires.number in
    let moves = c.move_row-row.ensures o u n.0 at_u n.1 (place_stands p o q c.requires.place h u at_u) in
    given_room p o q c.requires.place h c.args.owner c.args.number c.requires.number c.requires.apart u n.0 at_u n.1 (get c.move_row-row.new.units) c.move_row-row.result moves (place_at c.put.new.self) c.put.ensures.places (index_room c.put.new.self) c.put.ensures.room

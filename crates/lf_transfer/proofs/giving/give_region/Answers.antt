use Rattle.std.proofs.Common.{ap, arith, length, sym, ◌∙◌}
use Rattle.std.specs.List.{sum_by}
use Rattle.lf_transfer.proofs.GivenRegions.GivenRegion.{all_given, cells_split, first_cells, first_owner, first_row, first_there, given_on, later_left, none_given}
use Rattle.lf_transfer.proofs.GivenRegions.RegionCells.{row_cells}
use Rattle.lf_transfer.proofs.giving.give_region.Goals as goal

pub loop-p-init : goal.loop-p-init
loop-p-init g c = record {
  given = λ of es s. none_given (g.S.Store.rows c.args.store.now) of es c.args.r c.args.owner s;
  room = c.requires.room;
  steps = omega arith;
}

pub set_owner-requires-clause-there : goal.set_owner-requires-clause-there
set_owner-requires-clause-there g c =
    let now = g.S.Store.rows c.loop-p.store in
    let h = c.requires.counted in
    let so = c.loop-p.invariant.given h.0 h.1.0 h.1.1 in
    first_there now c.args.r c.in-Some.p ((so.store).rows).differ (first_row now c.args.r c.in-Some.p (sym c.in-Some.is ∙ c.first.ensures.first))

pub set_owner-requires-clause-room : goal.set_owner-requires-clause-room
set_owner-requires-clause-room g c =
    let now = g.S.Store.rows c.loop-p.store in
    let h = c.requires.counted in
    let so = c.loop-p.invariant.given h.0 h.1.0 h.1.1 in
    let f = first_row now c.args.r c.in-Some.p (sym c.in-Some.is ∙ c.first.ensures.first) in
    omega (arith, c.loop-p.invariant.room, cells_split now c.args.r c.in-Some.p ((so.store).rows).differ f, first_cells now c.args.r c.in-Some.p ((so.store).rows).differ f)

pub loop-p-smaller : goal.loop-p-smaller
loop-p-smaller g c =
    let now = g.S.Store.rows c.loop-p.store in
    let h = c.requires.counted in
    let so = c.loop-p.invariant.given h.0 h.1.0 h.1.1 in
    let f = first_row now c.args.r c.in-Some.p (sym c.in-Some.is ∙ c.first.ensures.first) in
    let left = later_left now c.args.r c.in-Some.p ((so.store).rows).differ f c.args.owner c.requires.other (g.S.Store.rows c.set_owner.new.self) c.set_owner.ensures.rows in
    omega (arith, ap length left, ap length f.is)

pub loop-p-preserved : goal.loop-p-preserved
loop-p-preserved g c =
    let now = g.S.Store.rows c.loop-p.store in
    let new = g.S.Store.rows c.set_owner.new.self in
    let h = c.requires.counted in
    let so = c.loop-p.invariant.given h.0 h.1.0 h.1.1 in
    let d = ((so.store).rows).differ in
    let f = first_row now c.args.r c.in-Some.p (sym c.in-Some.is ∙ c.first.ensures.first) in
    let left = later_left now c.args.r c.in-Some.p d f c.args.owner c.requires.other new c.set_owner.ensures.rows in
    record {
      given = λ of es s.
          given_on now new of es c.args.r c.in-Some.p c.args.owner c.requires.other (c.loop-p.invariant.given of es s) (first_owner now c.args.r c.in-Some.p d f) c.set_owner.ensures.rows;
      room = omega (
        arith,
        c.loop-p.invariant.room,
        c.set_owner.ensures.room c.args.owner,
        cells_split now c.args.r c.in-Some.p d f,
        first_cells now c.args.r c.in-Some.p d f,
        ap (sum_by row_cells) left,
      );
      steps = omega (arith, c.loop-p.invariant.steps, c.first.ensures.step, c.set_owner.ensures.step, ap length left, ap length f.is);
    }

pub returns-clause-given : goal.returns-clause-given
returns-clause-given g c of es s =
    all_given (g.S.Store.rows c.loop-p.store) of es c.args.r c.args.owner (c.loop-p.invariant.given of es s) (sym c.in_default.is ∙ c.first.ensures.first)

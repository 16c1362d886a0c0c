use Rattle.std.proofs.Common.{subst}
use Rattle.lf_base.specs.Edges.{field_targets}
use Rattle.lf_graph.specs.StoredRows.{fields_at}
use Rattle.lf_barrier.specs.Descents.{Looked}
use Rattle.lf_barrier.proofs.Descents.OwnedRegions.{look_found, look_row_there, region_look_begins, region_look_on, region_looked}
use Rattle.lf_barrier.proofs.descent.look_into_region.Goals as goal

pub loop-turn-init : goal.loop-turn-init
loop-turn-init g c = region_look_begins (g.S.Store.rows c.args.store.now) c.args.r c.args.home c.first-next.result c.args.visited.now.keys c.first-next.ensures.first

pub look_into_row-requires-clause-there : goal.look_into_row-requires-clause-there
look_into_row-requires-clause-there g c κs within =
    let h = c.requires.domain in
    look_row_there (g.S.Store.rows c.args.store.now) c.args.r c.args.home ((((h.1.1).counts).store).rows).differ c.loop-turn.next c.args.visited.now.keys c.loop-turn.visited.keys c.loop-turn.invariant c.in-Some.p c.in-Some.is

pub next-next-requires : goal.next-next-requires
next-next-requires g c =
    let h = c.requires.domain in
    record { there = look_row_there (g.S.Store.rows c.args.store.now) c.args.r c.args.home ((((h.1.1).counts).store).rows).differ c.loop-turn.next c.args.visited.now.keys c.loop-turn.visited.keys c.loop-turn.invariant c.in-Some.p c.in-Some.is }

pub loop-turn-preserved : goal.loop-turn-preserved
loop-turn-preserved g c =
    let rows = g.S.Store.rows c.args.store.now in
    let h = c.requires.domain in
    let passed = subst (Looked rows c.args.r c.args.home (field_targets (fields_at rows c.in-Some.p)) c.loop-turn.visited.keys c.look_into_row.new.visited.keys) c.if-branch.false c.in_ok-look_into_row.ensures in
    region_look_on rows c.args.r c.args.home ((((h.1.1).counts).store).rows).differ c.loop-turn.next c.args.visited.now.keys c.loop-turn.visited.keys c.loop-turn.invariant c.in-Some.p c.in-Some.is
    c.look_into_row.new.visited.keys c.next-next.result passed c.next-next.ensures.next

pub returns-then-branch : goal.returns-then-branch
returns-then-branch g c =
    let rows = g.S.Store.rows c.args.store.now in
    let h = c.requires.domain in
    let found = subst (Looked rows c.args.r c.args.home (field_targets (fields_at rows c.in-Some.p)) c.loop-turn.visited.keys c.look_into_row.new.visited.keys) c.if-branch.true c.in_ok-look_into_row.ensures in (
      look_found rows c.args.r c.args.home ((((h.1.1).counts).store).rows).differ c.loop-turn.next c.args.visited.now.keys c.loop-turn.visited.keys c.loop-turn.invariant c.in-Some.p c.in-Some.is c.args.home found.0,
      found.1,
    )

pub returns-in_default : goal.returns-in_default
returns-in_default g c =
    region_looked (g.S.Store.rows c.args.store.now) c.args.r c.args.home c.loop-turn.next c.args.visited.now.keys c.loop-turn.visited.keys c.loop-turn.invariant c.in_default.is

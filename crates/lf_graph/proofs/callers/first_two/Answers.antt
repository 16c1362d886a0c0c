use Rattle.std.proofs.Common.{ap, sym, ◌∙◌}
use Rattle.lf_graph.proofs.Stores.Walks.{both, first_there, two_found}
use Rattle.lf_graph.proofs.callers.first_two.Goals as goal

pub next-requires : goal.next-requires
next-requires g c = record { there = first_there (g.S.Store.rows c.args.store.now) c.args.owner c.in-Some.first (sym c.in-Some.ensures.first) }

pub returns : goal.returns
returns g c = ap (both c.in-Some.first) c.next.ensures.next ∙ two_found (g.S.Store.rows c.args.store.now) c.args.owner c.in-Some.first c.requires.differ (sym c.in-Some.ensures.first)

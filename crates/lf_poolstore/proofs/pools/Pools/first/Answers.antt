use Rattle.std.proofs.Common.{ap, refl, subst, sym, ◌∙◌}
use Rattle.std.specs.Option.{IsSome}
use Rattle.lf_graph.specs.StoredRows.{first_name}
use Rattle.lf_poolstore.proofs.PoolFacts.{numbered, numbered_rows, unnumbered_rows}
use Rattle.lf_poolstore.proofs.pools.Pools.first.Goals as goal

pub returns-in_default : goal.returns-in_default
returns-in_default c = sym (ap first_name (unnumbered_rows c.args.self.now c.args.owner (sym c.get.ensures ∙ c.in_default.is)))

pub unit_at-requires : goal.unit_at-requires
unit_at-requires c = subst IsSome (sym (numbered c.args.self.now c.args.owner c.in-Some.number (sym c.get.ensures ∙ c.in-Some.is)).1) refl

pub returns : goal.returns
returns c = c.first.ensures ∙ sym (ap first_name (numbered_rows c.args.self.now c.args.owner c.in-Some.number c.unit_at.result.now (sym c.get.ensures ∙ c.in-Some.is) c.unit_at.ensures))

use Rattle.std.proofs.Common.{[]}
use Rattle.lf_codegen.proofs.resolving.bound_names.Goals as goal

pub returns : goal.returns
returns c id = c.in_ok-add_bound.ensures c.args.own.now (c.in_ok-add_all.ensures [] c.new-bound.ensures) id

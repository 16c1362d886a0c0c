use Rattle.std.proofs.Common.{rules, arith, ◌+◌, length}
use Rattle.lf_parser.specs.Plain.{plain_tree}
use Rattle.lf_parser.proofs.Refusals.ExactReading.{read_script, refused_script}
use Rattle.lf_parser.proofs.parsing.whole.Goals as goal

pub refusal-requires-clause-stops : goal.refusal-requires-clause-stops
refusal-requires-clause-stops c =
    let ts = c.args.tokens.now in
    refused_script (length ts + 1) ts c.rest.result.now c.in-Err-Refused.cause c.requires.readable.ends (omega arith) (search rules)

pub returns-in-Ok-clause-tree : goal.returns-in-Ok-clause-tree
returns-in-Ok-clause-tree c =
    let ts = c.args.tokens.now in
    ((read_script (length ts + 1) ts c.read_script.new.cursor (plain_tree c.in-Ok.tree) c.requires.readable.ends (search rules)).tree, c.requires.fits)

use Rattle.lf_codegen.proofs.Answering.Reasons.{gives_script, gives_refusal}
use Rattle.lf_codegen.proofs.script.read.Goals as goal

pub returns-clause-wherever_read : goal.returns-clause-wherever_read
returns-clause-wherever_read c texts tree is =
    gives_script c.args.bytes.now c.read_script.result c.read_script.ensures.read c.read_script.ensures.refused texts tree is

pub returns-clause-wherever_refused : goal.returns-clause-wherever_refused
returns-clause-wherever_refused c refusal is =
    gives_refusal c.args.bytes.now c.read_script.result c.read_script.ensures.read c.read_script.ensures.refused refusal is

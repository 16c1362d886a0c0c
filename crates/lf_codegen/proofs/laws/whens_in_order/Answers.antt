use Rattle.lf_codegen.proofs.Answering.OneAnswer.{parsed_lines}
use Rattle.lf_codegen.proofs.FrameOrder.WhenOrder.{whens_rise}
use Rattle.lf_codegen.proofs.laws.whens_in_order.Goals as goal

pub returns : goal.returns
returns c bytes x t parsed = whens_rise t (parsed_lines bytes x t parsed)

use Rattle.lf_codegen.proofs.Answering.OneAnswer.{parsed_names}
use Rattle.lf_codegen.proofs.FrameOrder.VariableOrder.{variables_rise}
use Rattle.lf_codegen.proofs.laws.variables_in_order.Goals as goal

pub returns : goal.returns
returns c bytes x t f parsed m = variables_rise t (parsed_names bytes x t parsed) f m

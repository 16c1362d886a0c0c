use Rattle.lf_code.proofs.Ending.Ends.{enough}
use Rattle.lf_code.proofs.laws.ticked_code_ends.Goals as goal

pub returns : goal.returns
returns c = λ p body base course good. enough p good body base course

use Rattle.std.proofs.Common.{refl}
use Rattle.lf_app.proofs.worked_rows.text.Goals as goal

pub returns : goal.returns
returns c = refl

use Rattle.lf_app.proofs.OneVerdict.{some_verdict, one_verdict}
use Rattle.lf_app.proofs.laws.one_verdict.Goals as goal

pub returns : goal.returns
returns c = record { there = some_verdict; once = one_verdict }

-- What was run, in the words of what comes of main.
use Rattle.std.specs.Prelude.{◌≡◌}
use Rattle.lf_code.specs.RunCode.{RunResult}
use Rattle.lf_app.specs.declared.run_text.Ran.{Ran}

-- the lines and the fault that come of main
pub record IsLeftBy (r : RunResult) (ran : Ran) : Type 0 where
  pub lines_are : ran.lines ≡ r.lines
  pub fault_is : ran.fault ≡ r.fault

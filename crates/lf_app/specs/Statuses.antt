-- The number and the name of each status.
use Rattle.std.specs.Prelude.{ℕ, List, codes}
use Rattle.lf_app.specs.declared.statuses.Status.{Status}
use Rattle.lf_app.specs.declared.statuses.Status.TheVariants.{Done, Faulted, ScriptRefused, WordsRefused, Stopped, ReadFault, WriteFault}
use Rattle.lf_app.specs.declared.statuses.Status.TheVariants.{OutOfMemory, ScriptTooLong}

abbrev pub status_number : Status → ℕ
status_number Done = 0
status_number Faulted = 1
status_number ScriptRefused = 2
status_number WordsRefused = 3
status_number Stopped = 4
status_number ReadFault = 5
status_number WriteFault = 6
status_number OutOfMemory = 7
status_number ScriptTooLong = 8

abbrev pub status_name : Status → List ℕ
status_name Done = codes "Done"
status_name Faulted = codes "Faulted"
status_name ScriptRefused = codes "ScriptRefused"
status_name WordsRefused = codes "WordsRefused"
status_name Stopped = codes "Stopped"
status_name ReadFault = codes "ReadFault"
status_name WriteFault = codes "WriteFault"
status_name OutOfMemory = codes "OutOfMemory"
status_name ScriptTooLong = codes "ScriptTooLong"

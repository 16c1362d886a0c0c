-- What a call of the program may answer, and what it has then read and written.
use Rattle.std.specs.Prelude.{◌≡◌, ◌≤◌, ◌+◌, ◌⊎◌, ℕ, Bool, true, false, List, [], length, nat_lt, Option, Some, None}
use Rattle.std.specs.Io.KnownBytes.{Consumes, Appends, IsAtEnd}
use Rattle.lf_base.specs.declared.faults.FaultAt.{FaultAt}
use Rattle.lf_base.specs.declared.limits.TheConstants.{MOST_SCRIPT_BYTES}
use Rattle.lf_outside.specs.Causes.{Rose}
use Rattle.lf_outside.specs.Streams.{Stream, stream_of}
use Rattle.lf_outside.specs.Transfer.{AppendsPrefix, ConsumesSome, ConsumesUpTo}
use Rattle.lf_app.specs.declared.statuses.Status.{Status}
use Rattle.lf_app.specs.declared.statuses.Status.TheVariants.{Done, Faulted, ScriptRefused, WordsRefused, Stopped, ReadFault, WriteFault}
use Rattle.lf_app.specs.declared.statuses.Status.TheVariants.{OutOfMemory, ScriptTooLong}
use Rattle.lf_app.specs.declared.reports.Report.{Report}
use Rattle.lf_app.specs.declared.commands.Command.{Command}
use Rattle.lf_app.specs.Words.{command_of}
use Rattle.lf_app.specs.Verdicts.{Verdict, Runs, Checked, Lists, Refuses, IsVerdict}
use Rattle.lf_app.specs.Output.{output_of, journal_of}

-- the status of a run that a fault ended, or none
abbrev pub run_status : Option FaultAt → Status
run_status None = Done
run_status (Some at) = Faulted

-- the status of a script's verdict
abbrev pub due_of : Verdict → Status
due_of (Runs lines fault) = run_status fault
due_of Checked = Done
due_of (Lists code) = Done
due_of (Refuses refusal) = ScriptRefused

-- the status that is due under a command, where the script is too long or isn't
abbrev pub IsDueOf : Command → List ℕ → Bool → Status → Type 0
IsDueOf command bytes true status = status ≡ ScriptTooLong
IsDueOf command bytes false status = (verdict : Verdict) × IsVerdict command bytes verdict × (status ≡ due_of verdict)

-- the status that is due for these words and this source, where nothing fails
abbrev pub IsDueFor : Option Command → List ℕ → Status → Type 0
IsDueFor None bytes status = status ≡ WordsRefused
IsDueFor (Some command) bytes status = IsDueOf command bytes (nat_lt MOST_SCRIPT_BYTES (length bytes)) status

abbrev pub IsDue : List (List ℕ) → List ℕ → Status → Type 0
IsDue words bytes status = IsDueFor (command_of words) bytes status

-- a call: its words, and the source and the sink before and after it
pub record Call : Type 0 where
  pub words : List (List ℕ)
  pub source : Stream
  pub source_after : Stream
  pub sink : Stream
  pub sink_after : Stream

-- the call with these words, of a source and a sink of which the first four tell the bytes and the faults, each before and after
abbrev pub call_of : {S K : Type 0} → (S → Option (List ℕ)) → (S → ℕ) → (K → Option (List ℕ)) → (K → ℕ) → List (List ℕ) → S → S → K → K
    → Call
call_of left source_faults held sink_faults words source source_after sink sink_after = record {
  words = words;
  source = stream_of left source_faults source;
  source_after = stream_of left source_faults source_after;
  sink = stream_of held sink_faults sink;
  sink_after = stream_of held sink_faults sink_after;
}

-- the whole script was read, and is no longer than a script may be
pub record ReadsScript (call : Call) (bytes : List ℕ) : Type 0 where
  pub short : length bytes ≤ MOST_SCRIPT_BYTES
  pub read : Consumes call.source.bytes call.source_after.bytes bytes
  pub ended : IsAtEnd call.source_after.bytes
  pub faults : call.source_after.faults ≡ call.source.faults

-- a script was read and judged, and all that is due was written
pub record Completes (call : Call) (report : Report) : Type 0 where
  pub command : Command
  pub command_is : command_of call.words ≡ Some command
  pub bytes : List ℕ
  pub script : ReadsScript call bytes
  pub verdict : Verdict
  pub is_verdict : IsVerdict command bytes verdict
  pub due_status : report.status ≡ due_of verdict
  pub order : report.order ≡ journal_of verdict
  pub written : Appends call.sink.bytes call.sink_after.bytes (output_of verdict)
  pub faults : call.sink_after.faults ≡ call.sink.faults

-- a script was read and judged, and the sink failed after a prefix of what is due
pub record WriteFails (call : Call) (report : Report) : Type 0 where
  pub command : Command
  pub command_is : command_of call.words ≡ Some command
  pub bytes : List ℕ
  pub script : ReadsScript call bytes
  pub verdict : Verdict
  pub is_verdict : IsVerdict command bytes verdict
  pub order : report.order ≡ journal_of verdict
  pub written : AppendsPrefix (output_of verdict) call.sink.bytes call.sink_after.bytes
  pub rose : Rose call.sink.faults call.sink_after.faults

-- the words are no command, and neither the source nor the sink was asked
pub record RefusesWords (call : Call) (report : Report) : Type 0 where
  pub words : command_of call.words ≡ None
  pub order : report.order ≡ []
  pub source : call.source_after ≡ call.source
  pub sink : call.sink_after ≡ call.sink

-- the source failed before its end, and the sink wasn't asked
pub record ReadFails (call : Call) (report : Report) : Type 0 where
  pub command : Command
  pub command_is : command_of call.words ≡ Some command
  pub order : report.order ≡ []
  pub read : ConsumesUpTo MOST_SCRIPT_BYTES call.source.bytes call.source_after.bytes
  pub rose : Rose call.source.faults call.source_after.faults
  pub sink : call.sink_after ≡ call.sink

-- one byte more than the longest script was read, and the sink wasn't asked
pub record FindsTooLong (call : Call) (report : Report) : Type 0 where
  pub command : Command
  pub command_is : command_of call.words ≡ Some command
  pub order : report.order ≡ []
  pub read : ConsumesSome (MOST_SCRIPT_BYTES + 1) call.source.bytes call.source_after.bytes
  pub faults : call.source_after.faults ≡ call.source.faults
  pub sink : call.sink_after ≡ call.sink

-- there was no memory, of which no clause says when that comes: the sink wasn't asked
pub record LacksMemory (call : Call) (report : Report) : Type 0 where
  pub command : Command
  pub command_is : command_of call.words ≡ Some command
  pub order : report.order ≡ []
  pub read : ConsumesUpTo MOST_SCRIPT_BYTES call.source.bytes call.source_after.bytes
  pub faults : call.source_after.faults ≡ call.source.faults
  pub sink : call.sink_after ≡ call.sink

-- what each status says. No run stops yet
abbrev pub Says : Call → Report → Status → Type 0
Says call report Done = Completes call report
Says call report Faulted = Completes call report
Says call report ScriptRefused = Completes call report
Says call report WordsRefused = RefusesWords call report
Says call report Stopped = ⊥
Says call report ReadFault = ReadFails call report
Says call report WriteFault = WriteFails call report
Says call report OutOfMemory = LacksMemory call report
Says call report ScriptTooLong = FindsTooLong call report

abbrev pub Answers : Call → Report → Type 0
Answers call report = Says call report report.status

-- where the source told its bytes and nothing failed, the status is the due one, or want of memory
abbrev pub IsComplete : Call → Report → Type 0
IsComplete call report = (bytes : List ℕ) → call.source.bytes ≡ Some bytes → call.source_after.faults ≡ call.source.faults
    → call.sink_after.faults ≡ call.sink.faults
    → IsDue call.words bytes report.status ⊎ (report.status ≡ OutOfMemory)

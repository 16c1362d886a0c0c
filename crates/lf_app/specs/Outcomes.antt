-- What comes of a script, before anything of it is written.
use Rattle.std.specs.Prelude.{◌≡◌, ◌⊎◌, ℕ, List, string_bytes}
use Rattle.std.specs.Io.KnownBytes.{Appends}
use Rattle.lf_outside.specs.Causes.{Rose}
use Rattle.lf_outside.specs.Streams.{Stream}
use Rattle.lf_outside.specs.Transfer.{AppendsPrefix}
use Rattle.lf_app.specs.declared.commands.Command.{Command}
use Rattle.lf_app.specs.declared.reports.Report.{Report}
use Rattle.lf_app.specs.declared.statuses.Status.TheVariants.{WriteFault}
use Rattle.lf_code.specs.Listing.{listing}
use Rattle.lf_app.specs.declared.outcomes.Outcome.{Outcome}
use Rattle.lf_app.specs.declared.outcomes.Output.{Output}
use Rattle.lf_app.specs.declared.outcomes.Output.TheVariants.{Text, Listing, Run}
use Rattle.lf_app.specs.Verdicts.{Verdict, IsVerdict}
use Rattle.lf_app.specs.Output.{output_of, journal_of, run_text}
use Rattle.lf_app.specs.Answers.{due_of}

-- the bytes that are to be written
abbrev pub output_bytes : Output → List ℕ
output_bytes (Text text) = string_bytes text
output_bytes (Listing code) = listing code
output_bytes (Run ran) = run_text ran.lines ran.fault

-- the status, the output and the journal of a verdict
pub record IsOutcomeOf (verdict : Verdict) (outcome : Outcome) : Type 0 where
  pub status_is : outcome.status ≡ due_of verdict
  pub output_is : output_bytes outcome.output ≡ output_of verdict
  pub order_is : outcome.order ≡ journal_of verdict

-- what comes of a script's bytes under a command
pub record IsOutcome (command : Command) (bytes : List ℕ) (outcome : Outcome) : Type 0 where
  pub verdict : Verdict
  pub is_verdict : IsVerdict command bytes verdict
  pub is_of : IsOutcomeOf verdict outcome

-- the whole output was written to a sink
pub record IsWritten (sink sink_after : Stream) (outcome : Outcome) (report : Report) : Type 0 where
  pub status_is : report.status ≡ outcome.status
  pub order_is : report.order ≡ outcome.order
  pub all : Appends sink.bytes sink_after.bytes (output_bytes outcome.output)
  pub kept : sink_after.faults ≡ sink.faults

-- the sink failed after a prefix of the output
pub record IsCut (sink sink_after : Stream) (outcome : Outcome) (report : Report) : Type 0 where
  pub status_is : report.status ≡ WriteFault
  pub order_is : report.order ≡ outcome.order
  pub prefix : AppendsPrefix (output_bytes outcome.output) sink.bytes sink_after.bytes
  pub rose : Rose sink.faults sink_after.faults

abbrev pub WritesOutcome : Stream → Stream → Outcome → Report → Type 0
WritesOutcome sink sink_after outcome report = IsWritten sink sink_after outcome report ⊎ IsCut sink sink_after outcome report

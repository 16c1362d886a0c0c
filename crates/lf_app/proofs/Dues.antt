-- What is due where a source told its bytes and nothing failed.
use Rattle.std.proofs.Common.{◌≡◌, ◌∙◌, ◌≤◌, ◌<◌, ◌^◌, ◌-◌, arith, ℕ, false, List, [], ◌++◌, length, Option, Some, None, sym, ap, subst}
use Rattle.std.proofs.Common.{append-nil, inl, inr, unwrap_or}
use Rattle.std.proofs.lemmas.Bool.{le-ltb}
use Rattle.std.specs.Io.KnownBytes.{Consumes, IsAtEnd}
use Rattle.lf_outside.specs.Streams.{Stream}
use Rattle.lf_base.specs.declared.limits.TheConstants.{MOST_SCRIPT_BYTES}
use Rattle.lf_app.specs.declared.commands.Command.{Command}
use Rattle.lf_app.specs.declared.outcomes.Outcome.{Outcome}
use Rattle.lf_app.specs.declared.reports.Report.{Report}
use Rattle.lf_app.specs.declared.statuses.Status.{Status}
use Rattle.lf_app.specs.Words.{command_of}
use Rattle.lf_app.specs.Answers.{IsDue, IsDueOf, IsDueFor}
use Rattle.lf_app.specs.Outcomes.{IsOutcome, WritesOutcome}

-- what a source told and what was read to its end is one
told_is_read : (left left_after : Option (List ℕ)) (bytes told : List ℕ) → Consumes left left_after bytes → IsAtEnd left_after
    → left ≡ Some told → told ≡ bytes
told_is_read None left_after bytes told read ended tells = cc
told_is_read (Some xs) None bytes told read ended tells = absurd read
told_is_read (Some xs) (Some ys) bytes told read ended tells =
    let same : xs ≡ told = ap (λ (o : Option (List ℕ)). unwrap_or o []) tells in
    sym same ∙ read ∙ ap (λ (more : List ℕ). bytes ++ more) ended ∙ append-nil bytes

-- a script that was read and judged gives the status that is due
pub due_is_met : (words : List (List ℕ)) (command : Command) (left left_after : Option (List ℕ)) (bytes : List ℕ) (outcome : Outcome)
    (status : Status) → command_of words ≡ Some command → length bytes ≤ MOST_SCRIPT_BYTES → Consumes left left_after bytes
    → IsAtEnd left_after → IsOutcome command bytes outcome → status ≡ outcome.status
    → (told : List ℕ) → left ≡ Some told → IsDue words told status
due_is_met words command left left_after bytes outcome status command_is short read ended of status_is told tells =
    let same = told_is_read left left_after bytes told read ended tells in
    let judged : IsDueOf command bytes false status = (of.verdict, of.is_verdict, status_is ∙ of.is_of.status_is) in
    let of_bytes = subst (λ b. IsDueOf command bytes b status) (sym (le-ltb MOST_SCRIPT_BYTES (length bytes) short)) judged in
    let of_told : IsDueFor (Some command) told status =
    subst (λ (these : List ℕ). IsDueFor (Some command) these status) (sym same) of_bytes in
    subst (λ o. IsDueFor o told status) (sym command_is) of_told

-- where no fault came, the outcome was written whole
pub written_whole : (sink sink_after : Stream) (outcome : Outcome) (report : Report) → sink.faults < 2 ^ 64 - 1
    → WritesOutcome sink sink_after outcome report → sink_after.faults ≡ sink.faults → report.status ≡ outcome.status
written_whole sink sink_after outcome report below (inl written) kept = written.status_is
written_whole sink sink_after outcome report below (inr cut) kept = let rose = cut.rose in absurd (grind arith)

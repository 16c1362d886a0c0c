-- The limits, and the code, computed.
use Rattle.std.proofs.Common.{Bool, ap, cond, false, length, leb, refl, true, ◌+◌, ◌≡◌}
use Rattle.lf_base.specs.declared.faults.Fault.{Fault}
use Rattle.lf_base.specs.declared.faults.Fault.TheVariants.{OutputFull}
use Rattle.lf_base.specs.declared.limits.TheConstants.{MOST_PRINTED_BYTES}
use Rattle.lf_code.specs.Progress.{Progress, Does, Faulted}
use Rattle.lf_code.specs.Prints.{bytes_of}
use Rattle.lf_script_rows.specs.LimitRows.{FirstSumCodeRuns, IsDone, OutputLimitRuns, SpawnLimitRuns}

done_where : (b : Bool) (c : Progress) (f : Fault) → b ≡ true → IsDone (cond b (Does c) (Faulted f))
done_where true c f e = tt
done_where false c f e = absurd cc

refused_where : (b : Bool) (c : Progress) (f : Fault) → b ≡ false → cond b (Does c) (Faulted f) ≡ Faulted f
refused_where true c f e = absurd cc
refused_where false c f e = refl

pub output_limit_shows : OutputLimitRuns
output_limit_shows c line n = (
  λ e. done_where (leb (bytes_of c.lines + (length line + 1)) MOST_PRINTED_BYTES) _ OutputFull (ap (λ m. leb m MOST_PRINTED_BYTES) e),
  λ e. refused_where (leb (bytes_of c.lines + (length line + 1)) MOST_PRINTED_BYTES) _ OutputFull (ap (λ m. leb m MOST_PRINTED_BYTES) e),
)

pub spawn_limit_shows : SpawnLimitRuns
spawn_limit_shows = (tt, refl, refl)

pub first_sum_code_shows : FirstSumCodeRuns
first_sum_code_shows = refl

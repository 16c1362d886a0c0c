use Rattle.std.proofs.Common.{arith, ap, subst, sym, ◌+◌, ◌∙◌}
use Rattle.lf_parser.specs.Parsers.{Err, Ok}
use Rattle.lf_parser.specs.Parsers as parser
use Rattle.lf_parser.specs.ReadingFunctions as read
use Rattle.lf_parser.specs.Refusals.{ParseFailsAs, IsRefusal}
use Rattle.lf_parser.specs.Limits.{within_limits}
use Rattle.lf_parser.proofs.Refusals.WithLineLimit.{whole_prefix, taken_prefix, stopped_prefix}
use Rattle.lf_parser.proofs.parsing.long_line.Goals.{in-Err-OutOfMemory, in-Err-Refused+in-empty, in-Err-Refused+in-len1-up, in-Ok}
use Rattle.lf_parser.proofs.parsing.long_line.Goals as goal

pub returns : goal.returns
returns c =
    let ts = c.args.tokens.now in
    let n = c.args.index + 2 in
    let from = ap (within_limits read.a_script n) (sym c.new-cursor.ensures) in
    elim c.match-read_script.branch [
      | in-Err-OutOfMemory w ↦ subst (ParseFailsAs ts) (sym w.result-is) tt
      | in-Err-Refused+in-empty w ↦
          let fails = subst (λ h. parser.HaltsAs (within_limits read.a_script n c.new-cursor.result) h c.read_script.new.cursor) w.in-Err-Refused.field-0-is w.in-Err-Refused.ensures in
          let stops = from ∙ fails ∙ ap (Err w.in-Err-Refused.cause) (sym w.rest.ensures) in
          let first = taken_prefix ts c.args.index _ c.requires.past n w.rest.result.now w.in-Err-Refused.cause w.in-empty.len_below stops in
          subst (ParseFailsAs ts) (sym w.result-is) (subst (IsRefusal ts) (sym w.too_many.ensures) first)
      | in-Err-Refused+in-len1-up w ↦
          let fails = subst (λ h. parser.HaltsAs (within_limits read.a_script n c.new-cursor.result) h c.read_script.new.cursor) w.in-Err-Refused.field-0-is w.in-Err-Refused.ensures in
          let stops = from ∙ fails ∙ ap (Err w.in-Err-Refused.cause) (sym w.rest.ensures) in
          let first = stopped_prefix ts c.args.index _ c.requires.past n w.rest.result.now w.in-Err-Refused.cause (omega arith) w.in-len1-up.len_at_least stops in
          subst (ParseFailsAs ts) (sym w.result-is) (subst (IsRefusal ts) (sym w.stopped.ensures) first)
      | in-Ok w ↦
          let first = whole_prefix ts c.args.index _ c.requires.past n c.read_script.new.cursor _ c.requires.readable.ends (from ∙ w.in-Ok.ensures) in
          subst (ParseFailsAs ts) (sym w.result-is) (subst (IsRefusal ts) (sym w.too_many-in-Ok.ensures) first)
    ]

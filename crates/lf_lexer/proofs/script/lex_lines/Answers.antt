use Rattle.std.proofs.Common.{◌≡◌, ◌∙◌, ◌<◌, ◌≤◌, Bool, ℕ, ◌+◌, List, length, take, drop, refl, sym, ap, subst, arith}
use Rattle.std.proofs.lemmas.List.{length-take-le}
use Rattle.std.proofs.lemmas.Result.{err_from_is_err_and}
use Rattle.std.specs.Prelude.{if◌then◌else◌}
use Rattle.lf_lexer.specs.SourceLines.{full_line_len}
use Rattle.lf_lexer.specs.Lexing.{LexesLine, RefusesLine}
use Rattle.lf_lexer.proofs.LineBytes.LineRests.{rest_is_content, full_len_within}
use Rattle.lf_lexer.proofs.LexSteps.LineSteps.{LinesSoFar, lines_start, lines_end, lines_split, lines_step, lines_refused, some_line, nothing_left, something_left}
use Rattle.lf_lexer.proofs.script.lex_lines.Goals.{then-read, else-read}
use Rattle.lf_lexer.proofs.script.lex_lines.Goals as goal

pub loop-rest-init : goal.loop-rest-init
loop-rest-init c = record {
  room = omega arith;
  number = omega arith;
  last = omega arith;
  so_far = lines_start c.args.bytes.now c.args.lexed.now c.args.levels.now c.requires.start;
}

pub returns-in_err-read-clause-refused : goal.returns-in_err-read-clause-refused
returns-in_err-read-clause-refused c =
    let p = err_from_is_err_and c.from_residual.result c.from_residual.ensures.1 in
    let rest = c.loop-rest.rest.now in
    let some = something_left rest c.is_empty.result c.is_empty.ensures c.loop-rest-test.true in
    let len = full_line_len rest in
    rw (p.1, p.2)
    (lines_refused c.args.bytes.now c.args.lexed.now c.loop-rest.lexed c.loop-rest.levels c.loop-rest.last c.loop-rest.line rest (take len rest) (drop len rest) c.in_err-read.field-0.0
    (lines_split rest (take len rest) (drop len rest) len some refl refl refl)
    (subst (λ (bytes : List ℕ). RefusesLine c.loop-rest.line c.loop-rest.levels bytes c.in_err-read.field-0.0) (rest_is_content rest) c.in_err-read.ensures.refused)
    c.loop-rest.invariant.so_far)

pub split_at-requires : goal.split_at-requires
split_at-requires c = let within = full_len_within c.loop-rest.rest.now in let is = c.in_ok-read.ensures.len in omega arith

pub loop-rest-smaller : goal.loop-rest-smaller
loop-rest-smaller c =
    let some = something_left c.loop-rest.rest.now c.is_empty.result c.is_empty.ensures c.loop-rest-test.true in
    let line : 0 < full_line_len c.loop-rest.rest.now = some_line c.loop-rest.rest.now some in
    let is = c.in_ok-read.ensures.len in
    let left = c.split_at.ensures.back_len in
    omega arith

pub loop-rest-preserved : goal.loop-rest-preserved
loop-rest-preserved c =
    let rest = c.loop-rest.rest.now in
    let len = full_line_len rest in
    let some = something_left rest c.is_empty.result c.is_empty.ensures c.loop-rest-test.true in
    let line : 0 < full_line_len rest = some_line rest some in
    let within : full_line_len rest ≤ length rest = full_len_within rest in
    let is = c.in_ok-read.ensures.len in
    let front : length (take len rest) ≡ len = length-take-le len rest within in
    let left = c.split_at.ensures.back_len in
    let last_is : c.if-read.last ≡ (if c.in_ok-read.read.filled then c.loop-rest.line.number else c.loop-rest.last) =
    elim c.if-read.branch [
      | then-read w ↦ w.last-is ∙ ap (λ (b : Bool). if b then c.loop-rest.line.number else c.loop-rest.last) (sym w.if-read.true)
      | else-read w ↦ w.last-is ∙ ap (λ (b : Bool). if b then c.loop-rest.line.number else c.loop-rest.last) (sym w.if-read.false)
    ] in
    record {
      room = let room = c.loop-rest.invariant.room in omega arith;
      number = omega arith;
      last = elim c.if-read.branch [
        | then-read w ↦ let e = w.last-is in omega arith
        | else-read w ↦ let e = w.last-is in omega arith
      ];
      so_far =
          subst (λ (n : ℕ). LinesSoFar c.args.bytes.now c.args.lexed.now c.lex_line.new.lexed c.lex_line.new.levels c.if-read.last
          (record { number = c.loop-rest.line.number + 1; start = c.loop-rest.line.start + n }) c.split_at.result.1.now)
          (front ∙ sym is)
          (lines_step c.args.bytes.now c.args.lexed.now c.loop-rest.lexed c.lex_line.new.lexed c.loop-rest.levels c.lex_line.new.levels c.loop-rest.last c.if-read.last c.loop-rest.line
          rest (take len rest) c.split_at.result.1.now c.in_ok-read.read.filled
          (lines_split rest (take len rest) c.split_at.result.1.now len some refl refl (c.split_at.ensures.back ∙ ap (λ (n : ℕ). drop n rest) is))
          (subst (λ (bytes : List ℕ). LexesLine c.loop-rest.line bytes c.loop-rest.levels c.lex_line.new.levels c.loop-rest.lexed c.lex_line.new.lexed c.in_ok-read.read.filled)
          (rest_is_content rest) c.in_ok-read.ensures.lexed)
          last_is c.loop-rest.invariant.so_far);
    }

pub returns-clause-lexed : goal.returns-clause-lexed
returns-clause-lexed c =
    lines_end c.args.bytes.now c.args.lexed.now c.loop-rest.lexed c.loop-rest.levels c.loop-rest.last c.loop-rest.line c.loop-rest.rest.now
    (nothing_left c.loop-rest.rest.now c.is_empty.result c.is_empty.ensures c.loop-rest-test.false) c.loop-rest.invariant.so_far

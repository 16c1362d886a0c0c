use Rattle.std.proofs.Common.{◌≡◌, drop, map}
use Rattle.lf_lexer.specs.Marks as spec
use Rattle.lf_lexer.proofs.marks.mark_among.Given as goal

abbrev pub invariant-loop-word : goal.invariant-loop-word
invariant-loop-word l =
    spec.mark_among l.bytes (map (λ word. word.text.now) (drop l.word-index l.words)) (map (λ word. word.mark) (drop l.word-index l.words))
    ≡ spec.mark_among l.bytes (map (λ word. word.text.now) l.words) (map (λ word. word.mark) l.words)

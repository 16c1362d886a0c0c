use Rattle.std.proofs.Common.{◌≡◌, drop, map}
use Rattle.lf_base.specs.Texts.{with_texts}
use Rattle.lf_base.proofs.interned.Texts.intern_all.Given as goal

abbrev pub invariant-loop-text : goal.invariant-loop-text
invariant-loop-text l = with_texts l.self (map (λ text. text.now) (drop l.text-index l.texts)) ≡ with_texts l.fn.self (map (λ text. text.now) l.texts)

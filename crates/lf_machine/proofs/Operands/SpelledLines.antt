-- A line of values with one value more, and a line of operands with one operand more.
use Rattle.std.proofs.Common.{add-one, List, [], ap, append_assoc, arith, false, get_or, length, nat_eq, refl, suc, sym, take, zero, ℕ, ◌++◌, ◌+◌, ◌-◌, ◌<◌, ◌≤◌, ◌∙◌, ◌∷◌, ◌≡◌}
use Rattle.std.proofs.Math.Seq.{take-suc}
use Rattle.lf_base.specs.declared.values.Value.{Value}
use Rattle.lf_base.specs.Texts.{Text}
use Rattle.lf_code.specs.Spelling.{spelled, spelled_all}
use Rattle.lf_machine.specs.Values.{in_line}
use Rattle.lf_machine.proofs.Operands.OperandList.{operand_there, operands_length}
use Rattle.lf_base.specs.Operands.{operand}
use Rattle.lf_base.specs.PlainState.{State}
use Rattle.lf_code.specs.Actions.{operands}

not_first : (at : ℕ) → nat_eq (suc at) 0 ≡ false
not_first at = grind arith

module _ (texts : List Text) where
  more : (v w : Value) (vs : List Value) → spelled_all texts (v ∷ (vs ++ w ∷ [])) ≡ spelled_all texts (v ∷ vs) ++ 32 ∷ spelled texts w
  more v w [] = refl
  more v w (u ∷ us) = ap (λ bytes. spelled texts v ++ 32 ∷ bytes) (more u w us) ∙ sym (append_assoc (spelled texts v) (32 ∷ spelled_all texts (u ∷ us)) (32 ∷ spelled texts w))

  -- the first values, and one more
  pub one_more : (vs : List Value) (at : ℕ) (d : Value) → at < length vs
      → spelled_all texts (take (suc at) vs) ≡ spelled_all texts (take at vs) ++ in_line (nat_eq at 0) (spelled texts (get_or vs at d))
  one_more [] at d h = absurd (omega (arith, h))
  one_more (v ∷ vs) zero d h = refl
  one_more (v ∷ vs) (suc at) d h = ap (λ us. spelled_all texts (v ∷ us)) (take-suc vs at d (omega (arith, h))) ∙ more v (get_or vs at d) (take at vs)
      ∙ ap (λ b. spelled_all texts (v ∷ take at vs) ++ in_line b (spelled texts (get_or vs at d))) (sym (not_first at))

-- the line of the first operands, and one more
pub line_more : (texts : List Text) (s : State) (n at : ℕ) (v : Value) (old new : List ℕ) → n ≤ length s.slots → at < n
    → old ≡ spelled_all texts (take at (operands n s)) → v ≡ operand s (n - 1 - at) → new ≡ old ++ in_line (nat_eq at 0) (spelled texts v)
    → new ≡ spelled_all texts (take (at + 1) (operands n s))
line_more texts s n at v old new there below before is after =
    let vs : List Value = operands n s in
    let found : v ≡ get_or vs at v = is ∙ sym (operand_there s n at v there below) in
    after ∙ ap (λ bytes. bytes ++ in_line (nat_eq at 0) (spelled texts v)) before
    ∙ ap (λ w. spelled_all texts (take at vs) ++ in_line (nat_eq at 0) (spelled texts w)) found
    ∙ sym (one_more texts vs at v (omega (arith, operands_length s n there, below)))
    ∙ sym (ap (λ m. spelled_all texts (take m vs)) (add-one at))

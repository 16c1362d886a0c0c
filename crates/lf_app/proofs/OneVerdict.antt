-- Under each command each list of bytes has one verdict.
use Rattle.std.proofs.Common.{◌≡◌, ℕ, List, refl, ap, sym, ◌∙◌, inl, inr}
use Rattle.lf_codegen.proofs.Answering.Decided.{ReadOr, read_or}
use Rattle.lf_codegen.proofs.Answering.OneAnswer.{read_texts, read_tree, refused_once, read_not_refused}
use Rattle.lf_app.specs.declared.commands.Command.{Command}
use Rattle.lf_app.specs.Verdicts.{Verdict, Refuses, script_verdict, IsOfScript, IsOfRefusal, IsVerdict}

module _ (command : Command) (bytes : List ℕ) where
  by_answer : ReadOr bytes → (verdict : Verdict) × IsVerdict command bytes verdict
  by_answer (inl r) =
      let of : IsOfScript command bytes (script_verdict command (record { texts = r.0; tree = r.1.0 })) =
      record { texts = r.0; tree = r.1.0; is_read = r.1.1; verdict_is = refl } in
      (script_verdict command (record { texts = r.0; tree = r.1.0 }), inr of)
  by_answer (inr r) = (Refuses r.0, inl (record { refusal = r.0; is_first = r.1; verdict_is = refl }))

  pub some_verdict : (verdict : Verdict) × IsVerdict command bytes verdict
  some_verdict = by_answer (read_or bytes)

  of_one_refusal : (v w : Verdict) → IsOfRefusal bytes v → IsOfRefusal bytes w → v ≡ w
  of_one_refusal v w r s = r.verdict_is ∙ ap Refuses (refused_once bytes r.refusal s.refusal r.is_first s.is_first) ∙ sym s.verdict_is

  of_one_script : (v w : Verdict) → IsOfScript command bytes v → IsOfScript command bytes w → v ≡ w
  of_one_script v w t u =
      let texts = read_texts bytes t.texts u.texts t.tree u.tree t.is_read u.is_read in
      let trees = read_tree bytes t.texts u.texts t.tree u.tree t.is_read u.is_read in
      t.verdict_is ∙ ap (λ x. script_verdict command (record { texts = x; tree = t.tree })) texts
      ∙ ap (λ y. script_verdict command (record { texts = u.texts; tree = y })) trees ∙ sym u.verdict_is

  never_both : (v w : Verdict) → IsOfRefusal bytes v → IsOfScript command bytes w → ⊥
  never_both v w r t = read_not_refused bytes t.texts t.tree r.refusal t.is_read r.is_first

  pub one_verdict : (v w : Verdict) → IsVerdict command bytes v → IsVerdict command bytes w → v ≡ w
  one_verdict v w (inl r) (inl s) = of_one_refusal v w r s
  one_verdict v w (inl r) (inr t) = absurd (never_both v w r t)
  one_verdict v w (inr t) (inl r) = absurd (never_both w v r t)
  one_verdict v w (inr t) (inr u) = of_one_script v w t u

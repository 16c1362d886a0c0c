use Rattle.std.proofs.Common.{[], ap, arith, is_some, length-append, sym, ◌∙◌, ◌∷◌}
use Rattle.std.specs.Prelude.{cond, Some}
use Rattle.lf_emit.proofs.PlaceTables.{key_added, key_kept}
use Rattle.lf_emit.proofs.places.Places.add.Goals as goal

pub returns-then-contains_key : goal.returns-then-contains_key
returns-then-contains_key c keys has =
    let key = c.args.key in
    record {
      count_is = omega (arith, c.in-Some.ensures, has.count_is, length-append keys (key ∷ []));
      places_are = λ k. has.places_are k ∙ key_kept keys key k (ap is_some (sym (has.places_are key)) ∙ sym c.if-contains_key.ensures);
    }

pub returns : goal.returns
returns c keys has =
    let key = c.args.key in
    record {
      count_is = omega (arith, c.in-Some.ensures, has.count_is, length-append keys (key ∷ []));
      places_are = λ k. c.in_ok-insert.ensures.updates.0 k ∙ ap (cond _ (Some c.args.self.now.count)) (has.places_are k)
          ∙ key_added keys key k c.args.self.now.count has.count_is (ap is_some (sym (has.places_are key)) ∙ sym c.if-contains_key.ensures);
    }

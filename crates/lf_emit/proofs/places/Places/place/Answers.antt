use Rattle.std.proofs.Common.{ap, length, ◌∙◌}
use Rattle.std.specs.Prelude.{unwrap_or}
use Rattle.lf_emit.proofs.PlaceTables.{place_or_len}
use Rattle.lf_emit.proofs.places.Places.place.Goals as goal

pub returns-in-Some : goal.returns-in-Some
returns-in-Some c keys has =
    ap (λ o. unwrap_or o (length keys)) (c.in-Some.ensures.value ∙ has.places_are c.args.key) ∙ place_or_len keys c.args.key

pub returns-in-None : goal.returns-in-None
returns-in-None c keys has =
    has.count_is ∙ ap (λ o. unwrap_or o (length keys)) (c.in-None.ensures.value ∙ has.places_are c.args.key) ∙ place_or_len keys c.args.key

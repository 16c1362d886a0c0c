use Rattle.std.proofs.Common.{ap, sym, ◌∙◌}
use Rattle.lf_core.specs.Contents.{kept}
use Rattle.lf_core.proofs.Places.{kept_new, none_place, place_new, places_stay, some_place}
use Rattle.lf_core.proofs.contents.Contents.make_place.Goals as goal

pub returns-then-contains_key-clause-place : goal.returns-then-contains_key-clause-place
returns-then-contains_key-clause-place g c = some_place c.args.self.now.places.entries c.args.cown (sym c.contains_key.ensures ∙ c.if-contains_key.true)

pub returns-clause-kept : goal.returns-clause-kept
returns-clause-kept g c = ap kept c.in_ok-insert.ensures.entries ∙ kept_new c.args.self.now.places.entries c.args.cown (none_place c.args.self.now.places.entries c.args.cown (sym c.contains_key.ensures ∙ c.if-contains_key.false))

pub returns-clause-place : goal.returns-clause-place
returns-clause-place g c = rw c.in_ok-insert.ensures.entries (place_new c.args.self.now.places.entries c.args.cown _)

pub returns-clause-others : goal.returns-clause-others
returns-clause-others g c = λ d e. rw c.in_ok-insert.ensures.entries (places_stay c.args.self.now.places.entries c.args.cown d _ e)

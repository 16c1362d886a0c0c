use Rattle.std.proofs.Common.{Some, ap, sym, ◌∙◌}
use Rattle.std.specs.Option.{option_copied_mut}
use Rattle.lf_core.specs.Contents.{has_place, kept}
use Rattle.lf_core.proofs.Places.{kept_put, lookup_place, places_set, rising}
use Rattle.lf_core.proofs.Tests.{no_both}
use Rattle.lf_core.proofs.contents.Contents.put.Goals as goal

pub unreachable-requires : goal.unreachable-requires
unreachable-requires g c = no_both _ c.requires (lookup_place c.args.self.now.places.entries c.args.cown (sym c.get_mut.ensures.value ∙ ap option_copied_mut c.in_default.is))

pub returns-clause-kept : goal.returns-clause-kept
returns-clause-kept g c =
    ap kept (c.get_mut.follows.holds (Some c.args.content)).0
    ∙ kept_put c.args.self.now.places.entries c.args.cown c.args.content (rising c.args.self.now.places.entries c.get_mut.ensures.ordered) c.requires

pub returns-clause-places : goal.returns-clause-places
returns-clause-places g c = λ d.
    ap (λ ps. has_place ps d) (c.get_mut.follows.holds (Some c.args.content)).0
    ∙ places_set c.args.self.now.places.entries c.args.cown d (Some c.args.content)

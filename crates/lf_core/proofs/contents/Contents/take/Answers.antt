use Rattle.std.proofs.Common.{ap, sym, ◌∙◌}
use Rattle.lf_core.specs.Contents.{kept}
use Rattle.std.specs.BTreeMap.{is_at}
use Rattle.std.specs.Map.{set_value}
use Rattle.lf_core.proofs.Places.{at_kept, cown_cmp, joined, kept_out, nothing_out, rising}
use Rattle.lf_core.proofs.contents.Contents.take.Goals as goal

pub returns-in-Some-clause-content : goal.returns-in-Some-clause-content
returns-in-Some-clause-content g c =
    c.take.ensures.value ∙ ap joined c.in-Some.ensures.value ∙ sym (at_kept c.args.self.now.places.entries c.args.cown (rising c.args.self.now.places.entries c.get_mut.ensures.ordered))

pub returns-in-Some-clause-kept : goal.returns-in-Some-clause-kept
returns-in-Some-clause-kept g c =
    ap kept (c.get_mut.follows.holds c.take.new.self).0
    ∙ ap (λ o. kept (set_value (is_at (cown_cmp c.args.cown)) c.args.self.now.places.entries o)) c.take.ensures.after
    ∙ kept_out c.args.self.now.places.entries c.args.cown (rising c.args.self.now.places.entries c.get_mut.ensures.ordered)

pub returns-in-None-clause-content : goal.returns-in-None-clause-content
returns-in-None-clause-content g c = sym (nothing_out c.args.self.now.places.entries c.args.cown (sym c.in-None.ensures.value)).0

pub returns-in-None-clause-kept : goal.returns-in-None-clause-kept
returns-in-None-clause-kept g c = ap kept (ap (λ m. m.entries) c.get_mut.follows.holds-at-none) ∙ (nothing_out c.args.self.now.places.entries c.args.cown (sym c.in-None.ensures.value)).1

use Rattle.std.proofs.Common.{◌∙◌, ap, arith, cond, is_some, length, refl, sym, ℕ}
use Rattle.lf_regions.proofs.KeptRegions.{absent_name, ended_keeps, found_key, kept_order, regions_ended}
use Rattle.lf_regions.proofs.Places.{place_left}
use Rattle.lf_regions.proofs.table.RegionTable.end.Goals as goal

pub remove-requires-in-Some : goal.remove-requires-in-Some
remove-requires-in-Some c = found_key c.self.inside.regions c.self.inside.index.entries c.args.r c.in-Some.key c.self.invariant.kept (sym c.remove-2.ensures.value ∙ c.in-Some.is)

pub invariant_of-self : goal.invariant_of-self
invariant_of-self c =
    rw c.remove-2.ensures.entries (
    place_left c.self.inside.regions c.self.inside.places c.self.inside.index.entries c.self.invariant _ c.remove.new.self c.args.r _ refl (
    ended_keeps c.self.inside.regions c.remove-in-Some.new.self c.self.inside.index.entries c.self.invariant.kept c.args.r c.in-Some.key
    (sym c.remove-2.ensures.value ∙ c.in-Some.is) c.remove-in-Some.ensures.updates
    (omega (arith, c.remove-in-Some.ensures.len, c.remove-2.ensures.len, ap length c.remove-2.ensures.entries, c.self.invariant.kept.count, ap {B = ℕ} (λ o. cond (is_some o) 1 0) c.in-Some.is))) c.remove.ensures.updates.0)

pub returns-in-Some-clause-ended : goal.returns-in-Some-clause-ended
returns-in-Some-clause-ended c =
    rw (← c.self.view_is, c.remove-2.ensures.entries) (
    regions_ended c.self.inside.regions c.remove-in-Some.new.self c.self.inside.index.entries c.self.invariant.kept c.args.r c.in-Some.key
    (sym c.remove-2.ensures.value ∙ c.in-Some.is) c.remove-in-Some.ensures.updates)

pub returns-in-Some-clause-rising : goal.returns-in-Some-clause-rising
returns-in-Some-clause-rising c = kept_order _ _ ((invariant_of-self c).kept)

pub invariant_of-self-in_default : goal.invariant_of-self-in_default
invariant_of-self-in_default c =
    absurd (absent_name c.self.inside.regions c.self.inside.index.entries c.self.invariant.kept c.args.self.now c.self.view_is c.args.r c.requires.there (sym c.remove-2.ensures.value ∙ c.in_default.is))

pub returns-in_default-clause-ended : goal.returns-in_default-clause-ended
returns-in_default-clause-ended c =
    absurd (absent_name c.self.inside.regions c.self.inside.index.entries c.self.invariant.kept c.args.self.now c.self.view_is c.args.r c.requires.there (sym c.remove-2.ensures.value ∙ c.in_default.is))

pub returns-in_default-clause-rising : goal.returns-in_default-clause-rising
returns-in_default-clause-rising c =
    absurd (absent_name c.self.inside.regions c.self.inside.index.entries c.self.invariant.kept c.args.self.now c.self.view_is c.args.r c.requires.there (sym c.remove-2.ensures.value ∙ c.in_default.is))

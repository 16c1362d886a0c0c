use Rattle.std.proofs.Common.{Some, ap, sym, ◌∙◌}
use Rattle.std.proofs.lemmas.Bool.{not-true}
use Rattle.lf_base.specs.Names.{same_name}
use Rattle.lf_base.specs.Owners.{is_in}
use Rattle.lf_base.proofs.NameLemmas.SameNames.{same_name_flips}
use Rattle.lf_settle.proofs.Counting.CountsTell.{owner_is_told, region_told}
use Rattle.lf_settle.proofs.Counting.Judged.{bridge_found, bridge_stays, judges_bridge, no_region_stays}
use Rattle.lf_settle.proofs.judging.judge_region.Goals as goal

pub is_bare-requires : goal.is_bare-requires
is_bare-requires g c =
    let w = c.requires.state in
    region_told (g.S.Store.rows c.args.store.now) c.args.regions.now w.0 w.1 c.args.r c.args.r (bridge_found (g.S.Store.rows c.args.store.now) c.args.regions.now w.0 w.1 c.args.r c.in-In.home c.ne.result (sym (ap Some c.in-In.is) ∙ c.in-Some.ensures.owner) c.ne.ensures c.if-ne.false)

pub returns-in_default-clause-judged : goal.returns-in_default-clause-judged
returns-in_default-clause-judged g c s is = no_region_stays (g.S.Store.rows c.args.store.now) c.args.regions.now s is c.args.r (ap (is_in c.args.r) (sym (owner_is_told (g.S.Store.rows c.args.store.now) c.args.regions.now s is c.args.r) ∙ sym c.owner.ensures.owner ∙ c.in_default.is))

pub returns-then-ne-clause-judged : goal.returns-then-ne-clause-judged
returns-then-ne-clause-judged g c s is =
    no_region_stays (g.S.Store.rows c.args.store.now) c.args.regions.now s is c.args.r
    (ap (is_in c.args.r) (sym (owner_is_told (g.S.Store.rows c.args.store.now) c.args.regions.now s is c.args.r) ∙ sym c.in-Some.ensures.owner ∙ ap Some c.in-In.is) ∙ same_name_flips c.args.r c.in-In.home ∙ not-true (same_name c.in-In.home c.args.r) (sym c.ne.ensures ∙ c.if-ne.true))

pub returns-then-is_bare-clause-judged : goal.returns-then-is_bare-clause-judged
returns-then-is_bare-clause-judged g c s is = judges_bridge (g.S.Store.rows c.args.store.now) c.args.regions.now s is c.args.r (bridge_found (g.S.Store.rows c.args.store.now) c.args.regions.now s is c.args.r c.in-In.home c.ne.result (sym (ap Some c.in-In.is) ∙ c.in-Some.ensures.owner) c.ne.ensures c.if-ne.false) (sym c.is_bare.ensures ∙ c.if-is_bare.true)

pub returns-else-is_bare-clause-judged : goal.returns-else-is_bare-clause-judged
returns-else-is_bare-clause-judged g c s is = (bridge_stays (g.S.Store.rows c.args.store.now) c.args.regions.now s is c.args.r (bridge_found (g.S.Store.rows c.args.store.now) c.args.regions.now s is c.args.r c.in-In.home c.ne.result (sym (ap Some c.in-In.is) ∙ c.in-Some.ensures.owner) c.ne.ensures c.if-ne.false) (sym c.is_bare.ensures ∙ c.if-is_bare.false)).1

pub returns-in-Local-clause-judged : goal.returns-in-Local-clause-judged
returns-in-Local-clause-judged g c s is = no_region_stays (g.S.Store.rows c.args.store.now) c.args.regions.now s is c.args.r (ap (is_in c.args.r) (sym (owner_is_told (g.S.Store.rows c.args.store.now) c.args.regions.now s is c.args.r) ∙ sym c.in-Some.ensures.owner ∙ ap Some c.in-Local.is))

pub returns-in-Frozen-clause-judged : goal.returns-in-Frozen-clause-judged
returns-in-Frozen-clause-judged g c s is = no_region_stays (g.S.Store.rows c.args.store.now) c.args.regions.now s is c.args.r (ap (is_in c.args.r) (sym (owner_is_told (g.S.Store.rows c.args.store.now) c.args.regions.now s is c.args.r) ∙ sym c.in-Some.ensures.owner ∙ ap Some c.in-Frozen.is))

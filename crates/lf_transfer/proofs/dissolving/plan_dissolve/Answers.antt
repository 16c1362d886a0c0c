use Rattle.std.proofs.Common.{None, Some, ap, cond, sym, true, ◌∙◌, ◌≡◌}
use Rattle.lf_base.specs.declared.faults.Fault.TheVariants.{Owned}
use Rattle.lf_base.specs.DissolveResult.{dissolve_refusal_by}
use Rattle.lf_base.specs.Names.{targets_of_value}
use Rattle.lf_base.specs.Owners.{bridge_of, is_bridge}
use Rattle.lf_transfer.proofs.States.Refusals.{bridge_found, owner_shown, region_of_bridge}
use Rattle.lf_transfer.proofs.dissolving.plan_dissolve.Goals as goal

pub returns-then-is_owned-clause-answer : goal.returns-then-is_owned-clause-answer
returns-then-is_owned-clause-answer g c s d =
    let rows = g.S.Store.rows c.args.store.now in
    let found : bridge_of s c.args.r ≡ Some c.in-Some.region = sym (c.bridge_of.ensures c.args.regions.now s d) ∙ c.in-Some.is in
    let there = region_of_bridge rows c.args.regions.now s d c.in-Some.region (bridge_found s (targets_of_value c.args.r) c.in-Some.region found) in
    ap (dissolve_refusal_by s) found ∙ ap (λ b. cond b (Some Owned) None) (sym (owner_shown rows c.args.regions.now s d c.in-Some.region there) ∙ sym c.is_owned.ensures.flag ∙ c.if-is_owned.true)

pub returns-clause-answer : goal.returns-clause-answer
returns-clause-answer g c s d =
    let rows = g.S.Store.rows c.args.store.now in
    let found : bridge_of s c.args.r ≡ Some c.in-Some.region = sym (c.bridge_of.ensures c.args.regions.now s d) ∙ c.in-Some.is in
    let there = region_of_bridge rows c.args.regions.now s d c.in-Some.region (bridge_found s (targets_of_value c.args.r) c.in-Some.region found) in
    ap (dissolve_refusal_by s) found ∙ ap (λ b. cond b (Some Owned) None) (sym (owner_shown rows c.args.regions.now s d c.in-Some.region there) ∙ sym c.is_owned.ensures.flag ∙ c.if-is_owned.false)

pub returns-clause-plan : goal.returns-clause-plan
returns-clause-plan g c s d =
    let rows = g.S.Store.rows c.args.store.now in
    let found : bridge_of s c.args.r ≡ Some c.in-Some.region = sym (c.bridge_of.ensures c.args.regions.now s d) ∙ c.in-Some.is in
    let bridge : is_bridge s.rows c.in-Some.region ≡ true = bridge_found s (targets_of_value c.args.r) c.in-Some.region found in
    let there = region_of_bridge rows c.args.regions.now s d c.in-Some.region bridge in
    record {
      bridge = bridge;
      unowned = sym (owner_shown rows c.args.regions.now s d c.in-Some.region there) ∙ sym c.is_owned.ensures.flag ∙ c.if-is_owned.false;
    }

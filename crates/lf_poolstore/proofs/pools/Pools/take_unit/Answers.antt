use Rattle.std.proofs.Common.{[], None, Some, ap, cond, subst, sym, ◌∙◌, ◌≡◌}
use Rattle.std.specs.Option.{IfNone, IfSome}
use Rattle.slab.specs.Slab.{get}
use Rattle.lf_base.specs.declared.values.Owner.TheVariants.{In}
use Rattle.lf_graph.specs.StoredRows.{rows_of}
use Rattle.lf_graph.proofs.Stores.Reordered.{same_owner_itself}
use Rattle.lf_poolstore.specs.Index.{place_at}
use Rattle.lf_poolstore.specs.Pools.{number_of}
use Rattle.lf_poolstore.specs.PoolViews.{pool_number, pool_rows}
use Rattle.lf_poolstore.specs.Units.{UnitView}
use Rattle.lf_poolstore.proofs.PoolFacts.{numbered, numbered_rows, shown, unnumbered_rows}
use Rattle.lf_poolstore.proofs.PoolRows.{shown_rows}
use Rattle.lf_poolstore.proofs.TakenUnits.{none_taken, taken_kept, taken_rows}
use Rattle.lf_poolstore.proofs.pools.Pools.take_unit.Goals as goal

pub returns-in_default-clause-none : goal.returns-in_default-clause-none
returns-in_default-clause-none c = unnumbered_rows c.args.self.now (In c.args.region) (sym c.get.ensures ∙ c.in_default.is)

pub returns-in_default-clause-rows : goal.returns-in_default-clause-rows
returns-in_default-clause-rows c = none_taken (In c.args.region) (pool_rows c.args.self.now) (unnumbered_rows c.args.self.now (In c.args.region) (sym c.get.ensures ∙ c.in_default.is))

pub invariant_of-self : goal.invariant_of-self
invariant_of-self c =
    let p = c.args.self.now in
    let region = In c.args.region in
    let number : pool_number p region ≡ Some c.in-Some.number = sym c.get.ensures ∙ c.in-Some.is in
    let next = number_of c.remove.new.self.local c.remove.new.self.frozen c.remove.new.self.regions in
    let out = c.try_remove.new.self in
    record { kept = taken_kept (place_at p.index) (pool_number p) next (get p.units) (get out) p.kept region c.in-Some.number number c.try_remove.ensures.updates.changed c.try_remove.ensures.updates.others c.remove.ensures }

pub returns-in_default-clause-free : goal.returns-in_default-clause-free
returns-in_default-clause-free c = sym c.get.ensures ∙ c.in_default.is

pub returns-clause-free : goal.returns-clause-free
returns-clause-free c =
    let region = In c.args.region in
    c.remove.ensures region ∙ ap (λ b. cond b None (pool_number c.args.self.now region)) (same_owner_itself region)

pub returns-clause-owner : goal.returns-clause-owner
returns-clause-owner c =
    let p = c.args.self.now in
    let number : pool_number p (In c.args.region) ≡ Some c.in-Some.number = sym c.get.ensures ∙ c.in-Some.is in
    let u = numbered p (In c.args.region) c.in-Some.number number in
    let is = c.try_remove.ensures.value ∙ u.1 in
    subst (λ t. IfSome t (λ (v : UnitView). v.owner ≡ In c.args.region)) (sym is) u.2

pub returns-clause-unit : goal.returns-clause-unit
returns-clause-unit c =
    let p = c.args.self.now in
    let number : pool_number p (In c.args.region) ≡ Some c.in-Some.number = sym c.get.ensures ∙ c.in-Some.is in
    let u = numbered p (In c.args.region) c.in-Some.number number in
    let is = c.try_remove.ensures.value ∙ u.1 in
    subst (λ t. IfSome t (λ (v : UnitView). v.rows ≡ rows_of (In c.args.region) (pool_rows p))) (sym is) (sym (numbered_rows p (In c.args.region) c.in-Some.number u.0 number u.1))

pub returns-clause-none : goal.returns-clause-none
returns-clause-none c =
    let p = c.args.self.now in
    let number : pool_number p (In c.args.region) ≡ Some c.in-Some.number = sym c.get.ensures ∙ c.in-Some.is in
    let u = numbered p (In c.args.region) c.in-Some.number number in
    let is = c.try_remove.ensures.value ∙ u.1 in
    subst (λ t. IfNone t (rows_of (In c.args.region) (pool_rows p) ≡ [])) (sym is) tt

pub returns-clause-rows : goal.returns-clause-rows
returns-clause-rows c =
    let p = c.args.self.now in
    let region = In c.args.region in
    let number : pool_number p region ≡ Some c.in-Some.number = sym c.get.ensures ∙ c.in-Some.is in
    let next = number_of c.remove.new.self.local c.remove.new.self.frozen c.remove.new.self.regions in
    let out = c.try_remove.new.self in
    taken_rows (place_at p.index) (pool_number p) next (get p.units) (get out) p.kept region c.in-Some.number number c.try_remove.ensures.updates.changed c.try_remove.ensures.updates.others c.remove.ensures (pool_rows p) _ (shown p) (shown_rows (place_at p.index) next out.slots (taken_kept (place_at p.index) (pool_number p) next (get p.units) (get out) p.kept region c.in-Some.number number c.try_remove.ensures.updates.changed c.try_remove.ensures.updates.others c.remove.ensures))

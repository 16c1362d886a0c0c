use Rattle.std.proofs.Common.{None, Some, ap, cond, refl, subst, sym, ℕ, ◌++◌, ◌∙◌, ◌≡◌}
use Rattle.std.specs.Map.{lookup}
use Rattle.std.proofs.lemmas.List.{append-nil}
use Rattle.slab.specs.Slab.{get}
use Rattle.lf_base.specs.declared.ids.ObjId.{ObjId}
use Rattle.lf_base.specs.Names.{same_name, same_owner}
use Rattle.lf_graph.specs.StoredRows.{SameByOwner}
use Rattle.lf_poolstore.specs.Index.{place_at}
use Rattle.lf_poolstore.specs.Pools.{AddsUnit, SamePools, number_of, place_of}
use Rattle.lf_poolstore.specs.PoolViews.{pool_number, pool_rows}
use Rattle.lf_poolstore.specs.Units.{StandsAt}
use Rattle.lf_poolstore.proofs.AddedUnits.{added_kept, added_rows, same_kept, same_rows}
use Rattle.lf_poolstore.proofs.PoolFacts.{shown}
use Rattle.lf_poolstore.proofs.PoolRows.{shown_rows}
use Rattle.lf_poolstore.proofs.pools.Pools.unit_for.Goals as goal

pub returns-in-Ok-clause-rows : goal.returns-in-Ok-clause-rows
returns-in-Ok-clause-rows c =
    let p = c.args.self.now in
    let v = c.new-unit.result in
    let next = number_of c.enter.new.owners.local c.enter.new.owners.frozen c.enter.new.owners.regions in
    let free : pool_number p v.owner ≡ None = ap (pool_number p) c.new-unit.ensures.owner ∙ sym (ap (pool_number p) c.in-In.is) ∙ sym c.keep.ensures.number ∙ c.in_default.is in
    let adds : AddsUnit (pool_number p) next (get p.units) (get c.enter.new.units) c.in-Ok.number v = record {
      vacant = c.in-Ok.ensures.added.vacant;
      here = c.in-Ok.ensures.added.here;
      others = c.in-Ok.ensures.added.others;
      number = λ w. c.in-Ok.ensures.added.number w ∙ ap (cond (same_owner v.owner w) (Some c.in-Ok.number)) (c.keep.ensures.numbers w);
    } in
    let nothing : (r : ObjId) → (x : ℕ) → StandsAt v x r → place_at p.index r ≡ Some (place_of c.in-Ok.number x) = λ r x s. let e = sym s ∙ ap (lookup (same_name r)) c.new-unit.ensures.places in absurd (cc e) in
    let kept = added_kept (place_at p.index) (pool_number p) next (get p.units) (get c.enter.new.units) p.kept c.in-Ok.number v adds free c.new-unit.ensures.whole (place_at p.index) nothing (λ m t r x e s. p.kept.indexed m t r x e s) in
    subst (SameByOwner (pool_rows (record p { units = c.enter.new.units; owners = c.enter.new.owners; kept = kept }))) (ap (λ l. pool_rows p ++ l) c.new-unit.ensures.rows ∙ append-nil (pool_rows p))
    (added_rows (place_at p.index) (pool_number p) next (get p.units) (get c.enter.new.units) p.kept c.in-Ok.number v adds free c.new-unit.ensures.whole (pool_rows p) (pool_rows (record p { units = c.enter.new.units; owners = c.enter.new.owners; kept = kept }))
    (shown p) (shown_rows (place_at p.index) next c.enter.new.units.slots kept))

pub returns-in-Err-clause-rows : goal.returns-in-Err-clause-rows
returns-in-Err-clause-rows c =
    let p = c.args.self.now in
    let next = number_of c.enter.new.owners.local c.enter.new.owners.frozen c.enter.new.owners.regions in
    let same : SamePools (pool_number p) next (get p.units) (get c.enter.new.units) = record { number = λ w. c.in-Err.ensures.same.number w ∙ c.keep.ensures.numbers w; unit = c.in-Err.ensures.same.unit } in
    same_rows (place_at p.index) (place_at p.index) (pool_number p) next (get p.units) (get c.enter.new.units) same (pool_rows p) _ (shown p)
    (shown_rows (place_at p.index) next c.enter.new.units.slots (same_kept (place_at p.index) (place_at p.index) (pool_number p) next (get p.units) (get c.enter.new.units) same p.kept (λ o. refl)))

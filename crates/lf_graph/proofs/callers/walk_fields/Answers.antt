use Rattle.std.proofs.Common.{None, Some, ap, arith, length, subst, sym, ◌+◌, ◌∙◌, ◌≡◌, ◌∷◌, []}
use Rattle.std.proofs.lemmas.List.{length-append}
use Rattle.lf_graph.specs.StoredRows.{fields_at}
use Rattle.lf_graph.proofs.Stores.FieldWalks.{Walked, none_walked, one_walked}
use Rattle.lf_graph.proofs.callers.walk_fields.Goals as goal

pub loop-turn-init : goal.loop-turn-init
loop-turn-init g c =
    let all = fields_at (g.S.Store.rows c.args.store.now) c.args.o in
    (subst (λ l. Walked all l None) (sym c.new-fields.ensures) (none_walked all), ap length c.new-fields.ensures)

pub loop-turn-preserved : goal.loop-turn-preserved
loop-turn-preserved g c =
    let all = fields_at (g.S.Store.rows c.args.store.now) c.args.o in
    let n : length c.push.new.self ≡ length c.loop-turn.fields + 1 = ap length c.in-Ok.ensures.ok ∙ length-append c.loop-turn.fields (c.in-Some.field ∷ []) in
    let m : length c.loop-turn.fields ≡ c.loop-turn._turn = c.loop-turn.invariant.1 in (
      subst (λ l. Walked all l (Some c.in-Some.field.0)) (sym c.in-Ok.ensures.ok)
          (one_walked all c.loop-turn.fields c.loop-turn.last c.in-Some.field c.requires.differ c.loop-turn.invariant.0 c.in-Some.ensures.field),
      omega arith,
    )

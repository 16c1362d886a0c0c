use Rattle.std.proofs.Common.{List, ap, arith, length, map, refl, reverse, sym, ◌++◌, ◌∙◌, ◌∷◌}
use Rattle.lf_base.specs.declared.ids.ObjId.{ObjId}
use Rattle.lf_heap.specs.Suspecting.{suspected}
use Rattle.lf_heap.proofs.Regions.FrozenParts.{one_suspected}
use Rattle.lf_heap.proofs.suspects.suspect_all.Goals as goal

pub loop-name-init : goal.loop-name-init
loop-name-init c = record { listed = refl; capacity = refl; room = refl; list = refl }

pub push-requires : goal.push-requires
push-requires c = omega (arith, c.requires, c.loop-name.invariant.room, ap length c.in-Some.ensures.names)

pub loop-name-smaller : goal.loop-name-smaller
loop-name-smaller c = omega (arith, ap length c.in-Some.ensures.names)

pub loop-name-preserved : goal.loop-name-preserved
loop-name-preserved c = record {
  listed = ap (λ w. map (suspected c.args.kind) (reverse c.pop.new.self.names) ++ w) (c.push.ensures.suspects ∙ ap (λ u. u ∷ c.loop-name.work.suspects) c.suspect_of.ensures)
      ∙ one_suspected (suspected c.args.kind) c.in-Some.name c.pop.new.self.names c.loop-name.work.suspects
      ∙ ap (λ (os : List ObjId). map (suspected c.args.kind) (reverse os) ++ c.loop-name.work.suspects) (sym c.in-Some.ensures.names)
      ∙ c.loop-name.invariant.listed;
  capacity = omega (arith, c.loop-name.invariant.capacity, c.push.ensures.room, ap length c.push.ensures.suspects);
  room = omega (arith, c.loop-name.invariant.room, c.push.ensures.room, ap length c.in-Some.ensures.names);
  list = omega (arith, c.loop-name.invariant.list, c.in-Some.ensures.room, ap length c.in-Some.ensures.names);
}

use Rattle.std.proofs.Common.{arith, subst, take, ◌≡◌}
use Rattle.std.proofs.lemmas.List.{take_all}
use Rattle.std.proofs.lemmas.Option.{slice_get-get_or}
use Rattle.lf_graph.specs.Cells.{IsFieldList, cells_of, pairs}
use Rattle.lf_graph.proofs.FieldTable.FieldCopies.{fresh, keys_of, no_field_put, one_field_put}
use Rattle.lf_graph.proofs.cells.Cells.put_all.Goals as goal

pub loop-field-init : goal.loop-field-init
loop-field-init c = (no_field_put (cells_of c.args.self.now) c.args.o c.empty-ends.result c.args.fields.now (c.empty-ends.ensures (cells_of c.args.self.now) c.args.o c.requires.none), omega arith)

pub push_last-ends-requires-clause-list : goal.push_last-ends-requires-clause-list
push_last-ends-requires-clause-list c = (keys_of (take c.loop-field.field-index c.args.fields.now), c.loop-field.invariant.0.list)

pub push_last-ends-requires-clause-new : goal.push_last-ends-requires-clause-new
push_last-ends-requires-clause-new c =
    fresh (cells_of c.args.self.now) (cells_of c.loop-field.self) (cells_of c.loop-field.self) c.args.o c.loop-field.ends c.loop-field.ends c.args.fields.now c.loop-field.field-index _ (slice_get-get_or c.args.fields.now c.loop-field.field-index _ (grind arith)) c.requires.differ c.loop-field.invariant.0

pub push_last-ends-requires-clause-room : goal.push_last-ends-requires-clause-room
push_last-ends-requires-clause-room c = let l = c.loop-field.invariant.1 in let r = c.requires.room in grind arith

pub loop-field-preserved : goal.loop-field-preserved
loop-field-preserved c = (
  one_field_put (cells_of c.args.self.now) (cells_of c.loop-field.self) (cells_of c.push_last-ends.new.self) c.args.o c.loop-field.ends c.push_last-ends.result c.args.fields.now c.loop-field.field-index _ (slice_get-get_or c.args.fields.now c.loop-field.field-index _ (grind arith)) c.requires.differ c.loop-field.invariant.0
      (c.push_last-ends.ensures.lists (keys_of (take c.loop-field.field-index c.args.fields.now)) c.loop-field.invariant.0.list) c.push_last-ends.ensures.value c.push_last-ends.ensures.others,
  (let l = c.loop-field.invariant.1 in let r = c.push_last-ends.ensures.room in grind arith),
)

pub returns-clause-list : goal.returns-clause-list
returns-clause-list c = subst (λ f. IsFieldList (cells_of c.loop-field.self) c.args.o c.loop-field.ends (keys_of f)) (take_all c.loop-field.field-index c.args.fields.now (grind arith)) c.loop-field.invariant.0.list

pub returns-clause-fields : goal.returns-clause-fields
returns-clause-fields c = subst (λ f. pairs (cells_of c.loop-field.self) c.args.o (keys_of f) ≡ f) (take_all c.loop-field.field-index c.args.fields.now (grind arith)) c.loop-field.invariant.0.values

pub returns-clause-others : goal.returns-clause-others
returns-clause-others c = c.loop-field.invariant.0.others

pub returns-clause-room : goal.returns-clause-room
returns-clause-room c = let l = c.loop-field.invariant.1 in grind arith

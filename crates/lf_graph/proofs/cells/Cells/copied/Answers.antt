use Rattle.std.proofs.Common.{arith, length, sym, ◌∙◌, ◌≡◌}
use Rattle.std.proofs.lemmas.List.{length-map, take_all}
use Rattle.lf_base.proofs.ListLemmas.LinkedLists.{first_is}
use Rattle.lf_graph.specs.Cells.{cells_of, paired, pairs}
use Rattle.lf_graph.proofs.FieldTable.FieldCopies.{one_field_copied}
use Rattle.lf_graph.proofs.cells.Cells.copied.Goals as goal

pub loop-turn-init : goal.loop-turn-init
loop-turn-init c keys list = (c.new-fields.ensures, list.list.first ∙ sym (first_is keys))

pub loop-turn-preserved : goal.loop-turn-preserved
loop-turn-preserved c keys list =
    let was = c.loop-turn.invariant keys list in
    let w = list.width in
    one_field_copied (cells_of c.args.self.now) c.args.o c.args.ends keys list c.loop-turn._turn c.loop-turn.fields c.copy_field.new.fields c.loop-turn.key c.in_ok-key.key (grind arith) c.in_ok-key.ensures was.0 was.1

pub returns : goal.returns
returns c keys list =
    let all = pairs (cells_of c.args.self.now) c.args.o keys in
    let w = list.width in
    let l : length all ≡ length keys = length-map keys (paired (cells_of c.args.self.now) c.args.o) in
    (c.loop-turn.invariant keys list).0 ∙ take_all c.loop-turn._turn all (grind arith)

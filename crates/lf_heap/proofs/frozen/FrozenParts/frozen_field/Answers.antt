use Rattle.std.proofs.Common.{sym, ◌∙◌}
use Rattle.lf_heap.proofs.Fields.FrozenFields.{in_first_map, in_second_map}
use Rattle.lf_heap.proofs.frozen.FrozenParts.frozen_field.Goals as goal

pub returns-in-Some : goal.returns-in-Some
returns-in-Some c =
    c.field_of_row.ensures ∙ in_first_map c.args.self.now.given c.args.self.now.own c.args.o c.args.key c.in-Some.row.now (sym c.in-Some.ensures.found)

pub returns-in-None : goal.returns-in-None
returns-in-None c =
    c.field_in.ensures ∙ in_second_map c.args.self.now.given c.args.self.now.own c.args.o c.args.key (sym c.in-None.ensures.found)

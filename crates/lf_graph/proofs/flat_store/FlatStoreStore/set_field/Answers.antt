use Rattle.std.proofs.Common.{ap, cond, is_some, option_map, subst, sym, ◌+◌, ◌≤◌, ◌∙◌}
use Rattle.lf_base.specs.WriteResult.{put_field}
use Rattle.lf_graph.specs.declared.cells.Cell.{Cell}
use Rattle.lf_graph.specs.Cells.{cells_of, walked_keys}
use Rattle.lf_graph.specs.ChainMaps.{heads_of}
use Rattle.lf_graph.proofs.FieldTable.CellLists.{is_cell}
use Rattle.lf_graph.proofs.FieldTable.FieldPairs.{fields_replaced}
use Rattle.lf_graph.proofs.FlatStores.FlatFound.{has_owner, list_here, seen_as, there, value_found}
use Rattle.lf_graph.proofs.FlatStores.FlatFound as found
use Rattle.lf_graph.proofs.FlatStores.FlatSteps.{flat_refielded, rows_refielded, stored_same}
use Rattle.lf_graph.proofs.flat_store.FlatStoreStore.set_field.Goals as goal

pub add_field-requires-clause-new : goal.add_field-requires-clause-new
add_field-requires-clause-new g c = found.no_value (seen_as c.self.invariant c.self.view_is) c.args.o c.requires.there c.args.key (sym c.in_default.ensures)

pub add_field-requires-clause-room : goal.add_field-requires-clause-room
add_field-requires-clause-room g c = found.room_needed (seen_as c.self.invariant c.self.view_is) c.args.o c.requires.there c.args.key (sym c.in_default.ensures) c.requires.room

pub returns-in_default-clause-value : goal.returns-in_default-clause-value
returns-in_default-clause-value g c = sym (found.no_value (seen_as c.self.invariant c.self.view_is) c.args.o c.requires.there c.args.key (sym c.in_default.ensures))

pub returns-in_default-clause-room : goal.returns-in_default-clause-room
returns-in_default-clause-room g c w = subst (λ x. c.args.self.now.spare ≤ c.add_field.new.self.spare + cond (is_some x) 0 1) (sym (found.no_value (seen_as c.self.invariant c.self.view_is) c.args.o c.requires.there c.args.key (sym c.in_default.ensures))) c.add_field.ensures.room

pub invariant_of-self : goal.invariant_of-self
invariant_of-self g c =
    let before = seen_as c.self.invariant c.self.view_is in
    let r = there before c.args.o c.requires.there in
    let keys = walked_keys (cells_of c.self.inside.cells) c.args.o r.row.fields in
    flat_refielded c.self.inside.chains c.set_value.new.self before c.args.o r.row r.kept_is c.self.invariant.chains c.set_value.ensures.others
    r.row.fields keys (c.set_value.ensures.lists r.row.fields keys (list_here before c.args.o r.row r.kept_is)) (stored_same (heads_of c.self.inside.chains.rows) c.args.o r.row r.kept_is)

pub returns-clause-value : goal.returns-clause-value
returns-clause-value g c =
    let before = seen_as c.self.invariant c.self.view_is in
    let r = there before c.args.o c.requires.there in
    sym (value_found before c.args.o r.row r.kept_is c.args.key ∙ ap (option_map (λ (x : Cell). x.value)) (sym c.in-Some.ensures))

pub returns-clause-rows : goal.returns-clause-rows
returns-clause-rows g c =
    let before = seen_as c.self.invariant c.self.view_is in
    let r = there before c.args.o c.requires.there in
    let keys = walked_keys (cells_of c.self.inside.cells) c.args.o r.row.fields in
    let list = list_here before c.args.o r.row r.kept_is in
    rows_refielded c.self.inside.chains c.set_value.new.self before c.args.o r.row r.kept_is c.self.invariant.chains c.set_value.ensures.others
    r.row.fields keys (c.set_value.ensures.lists r.row.fields keys list) (stored_same (heads_of c.self.inside.chains.rows) c.args.o r.row r.kept_is)
    (λ fields. put_field fields c.args.key c.args.v)
    (fields_replaced (cells_of c.self.inside.cells) (cells_of c.set_value.new.self) c.args.o c.args.key c.args.v r.row.fields keys c.set_value.ensures.value
    (is_cell (cells_of c.self.inside.cells c.args.o c.args.key) c.in-Some.cell.now (sym c.in-Some.ensures)) list)

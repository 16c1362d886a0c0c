use Rattle.std.proofs.Common.{[], sym, ◌++◌, ◌∙◌, ◌∷◌}
use Rattle.lf_base.specs.WriteResult.{put_field}
use Rattle.lf_graph.specs.Cells.{cells_of, walked_keys}
use Rattle.lf_graph.specs.ChainMaps.{heads_of}
use Rattle.lf_graph.specs.Chains.{refield}
use Rattle.lf_graph.specs.FlatRows.{chain_of}
use Rattle.lf_graph.proofs.FieldTable.CellLists.{no_cell}
use Rattle.lf_graph.proofs.FieldTable.FieldPairs.{fields_pushed}
use Rattle.lf_graph.proofs.FlatStores.FlatFound.{list_here, row_is_there, seen_as, value_found}
use Rattle.lf_graph.proofs.FlatStores.FlatSteps.{flat_refielded, rows_refielded, stored_changed}
use Rattle.lf_graph.proofs.flat_store.FlatStore.add_field.Goals as goal

pub place-place-requires : goal.place-place-requires
place-place-requires c = row_is_there (seen_as c.self.invariant c.self.view_is) c.args.o c.requires.there

pub push_last-fields-requires-clause-new : goal.push_last-fields-requires-clause-new
push_last-fields-requires-clause-new c =
    no_cell (cells_of c.self.inside.cells c.args.o c.args.key) (sym (value_found (seen_as c.self.invariant c.self.view_is) c.args.o c.at.result.now (c.at.ensures c.args.o c.place-place.ensures) c.args.key) ∙ c.requires.new)

pub invariant_of-self : goal.invariant_of-self
invariant_of-self c =
    let before = seen_as c.self.invariant c.self.view_is in
    let r = c.at.result.now in
    let keys = walked_keys (cells_of c.self.inside.cells) c.args.o r.fields in
    flat_refielded c.set_fields.new.self c.push_last-fields.new.self before c.args.o r (c.at.ensures c.args.o c.place-place.ensures) (c.set_fields.ensures.lists (chain_of c.self.inside.chains) c.self.invariant.chains) c.push_last-fields.ensures.others
    c.push_last-fields.result (keys ++ c.args.key ∷ []) (c.push_last-fields.ensures.lists keys (list_here before c.args.o r (c.at.ensures c.args.o c.place-place.ensures))) (stored_changed (heads_of c.self.inside.chains.rows) (heads_of c.set_fields.new.self.rows) c.args.o r (refield c.push_last-fields.result) (c.at.ensures c.args.o c.place-place.ensures) (c.set_fields.ensures.rows c.args.o c.place-place.ensures))

pub returns-clause-rows : goal.returns-clause-rows
returns-clause-rows c =
    let before = seen_as c.self.invariant c.self.view_is in
    let r = c.at.result.now in
    let keys = walked_keys (cells_of c.self.inside.cells) c.args.o r.fields in
    let list = list_here before c.args.o r (c.at.ensures c.args.o c.place-place.ensures) in
    rows_refielded c.set_fields.new.self c.push_last-fields.new.self before c.args.o r (c.at.ensures c.args.o c.place-place.ensures) (c.set_fields.ensures.lists (chain_of c.self.inside.chains) c.self.invariant.chains) c.push_last-fields.ensures.others
    c.push_last-fields.result (keys ++ c.args.key ∷ []) (c.push_last-fields.ensures.lists keys list) (stored_changed (heads_of c.self.inside.chains.rows) (heads_of c.set_fields.new.self.rows) c.args.o r (refield c.push_last-fields.result) (c.at.ensures c.args.o c.place-place.ensures) (c.set_fields.ensures.rows c.args.o c.place-place.ensures))
    (λ fields. put_field fields c.args.key c.args.v)
    (fields_pushed (cells_of c.self.inside.cells) (cells_of c.push_last-fields.new.self) c.args.o c.args.key c.args.v r.fields keys c.push_last-fields.ensures.value
    (no_cell (cells_of c.self.inside.cells c.args.o c.args.key) (sym (value_found before c.args.o r (c.at.ensures c.args.o c.place-place.ensures) c.args.key) ∙ c.requires.new)) list)

use Rattle.std.proofs.Common.{[], ap, subst, ◌++◌, ◌∙◌, ◌∷◌}
use Rattle.lf_base.specs.declared.values.Owner.TheVariants.{In}
use Rattle.lf_graph.specs.declared.stored_row.StoredRow.{StoredRow}
use Rattle.lf_graph.specs.Cells.{cells_of}
use Rattle.lf_graph.specs.FlatRows.{chain_of, flat_rows}
use Rattle.lf_graph.specs.StoredRows.{SameByOwner}
use Rattle.lf_graph.proofs.FieldTable.FieldCopies.{keys_of}
use Rattle.lf_graph.proofs.FlatStores.FlatFound.{is_new, no_fields, seen_as}
use Rattle.lf_graph.proofs.FlatStores.FlatSteps.{flat_pushed, keeps_list, row_as, rows_pushed, whole_row_list}
use Rattle.lf_graph.proofs.flat_store.FlatStore.put_row.Goals as goal

pub put_all-fields-requires-clause-none : goal.put_all-fields-requires-clause-none
put_all-fields-requires-clause-none c =
    let before = seen_as c.self.invariant c.self.view_is in
    no_fields before c.args.row.now.name (is_new before c.args.row.now.name c.requires.new)

pub push_last-requires-clause-new : goal.push_last-requires-clause-new
push_last-requires-clause-new c = is_new (seen_as c.self.invariant c.self.view_is) c.args.row.now.name c.requires.new

pub invariant_of-self : goal.invariant_of-self
invariant_of-self c =
    let before = seen_as c.self.invariant c.self.view_is in
    let o = c.args.row.now.name in
    let s : StoredRow = record { name = o; owner = In c.args.region; refs = c.args.row.now.refs; fields = c.put_all-fields.result } in
    flat_pushed c.push_last.new.self c.put_all-fields.new.self before o s (is_new before o c.requires.new) (record {
      lists_are = c.push_last.ensures.lists (chain_of c.self.inside.chains) c.self.invariant.chains;
      stored = c.push_last.ensures.rows;
      others = c.put_all-fields.ensures.others;
      here = keeps_list (cells_of c.put_all-fields.new.self) o s (keys_of c.as_slice.result.now) c.put_all-fields.ensures.list;
    })

pub returns-clause-rows : goal.returns-clause-rows
returns-clause-rows c =
    let before = seen_as c.self.invariant c.self.view_is in
    let o = c.args.row.now.name in
    let s : StoredRow = record { name = o; owner = In c.args.region; refs = c.args.row.now.refs; fields = c.put_all-fields.result } in
    subst (λ r. SameByOwner (flat_rows c.push_last.new.self c.put_all-fields.new.self) (c.args.self.now.rows ++ r ∷ []))
    (whole_row_list (cells_of c.put_all-fields.new.self) o s (keys_of c.as_slice.result.now) c.put_all-fields.ensures.list ∙ ap (row_as o s) (c.put_all-fields.ensures.fields ∙ c.as_slice.ensures))
    (rows_pushed c.push_last.new.self c.put_all-fields.new.self before o s (is_new before o c.requires.new) (record {
      lists_are = c.push_last.ensures.lists (chain_of c.self.inside.chains) c.self.invariant.chains;
      stored = c.push_last.ensures.rows;
      others = c.put_all-fields.ensures.others;
      here = keeps_list (cells_of c.put_all-fields.new.self) o s (keys_of c.as_slice.result.now) c.put_all-fields.ensures.list;
    }))

use Rattle.std.proofs.Common.{[], refl, subst, ◌++◌, ◌∷◌}
use Rattle.lf_graph.specs.declared.stored_row.StoredRow.{StoredRow}
use Rattle.lf_graph.specs.Cells.{IsFieldList, cells_of}
use Rattle.lf_graph.specs.FlatRows.{chain_of, flat_rows}
use Rattle.lf_graph.specs.StoredRows.{SameByOwner}
use Rattle.lf_graph.proofs.FlatStores.FlatFound.{is_new, no_fields, seen_as}
use Rattle.lf_graph.proofs.FlatStores.FlatSteps.{flat_pushed, keeps_list, rows_pushed, whole_row_list}
use Rattle.lf_graph.proofs.flat_store.FlatStoreStore.insert.Goals as goal

pub push_last-requires-clause-new : goal.push_last-requires-clause-new
push_last-requires-clause-new g c = is_new (seen_as c.self.invariant c.self.view_is) c.args.o c.requires.new

pub invariant_of-self : goal.invariant_of-self
invariant_of-self g c =
    let before = seen_as c.self.invariant c.self.view_is in
    let absent = is_new before c.args.o c.requires.new in
    let s : StoredRow = record { name = c.args.o; owner = c.args.owner; refs = 0; fields = c.empty.result } in
    flat_pushed c.push_last.new.self c.self.inside.cells before c.args.o s absent (record {
      lists_are = c.push_last.ensures.lists (chain_of c.self.inside.chains) c.self.invariant.chains;
      stored = c.push_last.ensures.rows;
      others = λ q k _. refl;
      here = keeps_list (cells_of c.self.inside.cells) c.args.o s [] (c.empty.ensures (cells_of c.self.inside.cells) c.args.o (no_fields before c.args.o absent));
    })

pub returns-clause-rows : goal.returns-clause-rows
returns-clause-rows g c =
    let cells = cells_of c.self.inside.cells in
    let before = seen_as c.self.invariant c.self.view_is in
    let absent = is_new before c.args.o c.requires.new in
    let s : StoredRow = record { name = c.args.o; owner = c.args.owner; refs = 0; fields = c.empty.result } in
    let list : IsFieldList cells c.args.o c.empty.result [] = c.empty.ensures cells c.args.o (no_fields before c.args.o absent) in
    subst (λ r. SameByOwner (flat_rows c.push_last.new.self c.self.inside.cells) (c.args.self.now.rows ++ r ∷ [])) (whole_row_list cells c.args.o s [] list)
    (rows_pushed c.push_last.new.self c.self.inside.cells before c.args.o s absent (record {
      lists_are = c.push_last.ensures.lists (chain_of c.self.inside.chains) c.self.invariant.chains;
      stored = c.push_last.ensures.rows;
      others = λ q k _. refl;
      here = keeps_list cells c.args.o s [] list;
    }))

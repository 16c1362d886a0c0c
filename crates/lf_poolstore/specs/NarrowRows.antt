-- Rows with at most one field.
use Rattle.std.specs.Prelude.{option_to_list}
use Rattle.lf_base.specs.declared.values.Owner.{Owner}
use Rattle.lf_graph.specs.StoredRows.{CountedRow}
use Rattle.lf_poolstore.specs.declared.narrow_row.NarrowRow.{NarrowRow}

-- such a row under an owner
abbrev pub narrow_row : Owner → NarrowRow → CountedRow
narrow_row w n = record { row = record { name = n.name; owner = w; fields = option_to_list n.field }; refs = n.refs }

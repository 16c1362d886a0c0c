use Rattle.std.proofs.Common.{List, length, ◌+◌, ◌≡◌, ◌≤◌}
use Rattle.lf_base.specs.declared.values.Key.{Key}
use Rattle.lf_base.specs.Names.{same_key}
use Rattle.lf_base.proofs.ListLemmas.LinkedLists.{IsRest}
use Rattle.lf_graph.specs.Cells.{IsFieldList, OthersStay, cells_of, cells_room, has_cell, link_of}
use Rattle.lf_graph.proofs.FieldTable.CellMaps.{Decides-same_key}
use Rattle.lf_graph.proofs.cells.Cells.clear.Given as goal

abbrev pub invariant-loop-turn : goal.invariant-loop-turn
invariant-loop-turn l =
    OthersStay (cells_of l.fn.self) (cells_of l.self) l.o × (cells_room l.fn.self ≤ cells_room l.self)
    × ((keys : List Key) → IsFieldList (cells_of l.fn.self) l.o l.fn.ends keys → (rest : List Key) × (l._turn + length rest ≡ l.fn.ends.width) × IsRest same_key Decides-same_key (link_of (cells_of l.self) l.o) l.first (has_cell (cells_of l.self) l.o) rest)

-- Edges: all references to objects.
use Rattle.std.specs.Prelude.{List, None, Option, Some, [], flat_map, map, ◌++◌}
use Rattle.lf_base.specs.declared.ids.CownId.{CownId}
use Rattle.lf_base.specs.declared.ids.ObjId.{ObjId}
use Rattle.lf_base.specs.declared.values.Key.{Key}
use Rattle.lf_base.specs.declared.values.Value.{Value}
use Rattle.lf_base.specs.Names.{targets_of_value}
use Rattle.lf_base.specs.PlainState.{Row, State}

-- where an edge begins: at a slot, at a field of a row, at a cown's content
pub data Source : Type 0 where
  Slot : Source
  Field : ObjId → Source
  Content : CownId → Source

-- one reference, from its place to the object that it names
pub record Edge : Type 0 where
  pub from : Source
  pub to : ObjId

-- the edges from one place
abbrev pub edges_by : Source → List ObjId → List Edge
edges_by from os = map (λ o. record { from = from; to = o }) os

-- the objects that a slot refers to: one or none
abbrev pub slot_targets : Option Value → List ObjId
slot_targets None = []
slot_targets (Some v) = targets_of_value v

-- the objects that fields refer to
abbrev pub field_targets : List (Key × Value) → List ObjId
field_targets fs = flat_map (λ f. targets_of_value f.1) fs

-- the edges from slots
abbrev pub slot_edges : List (Option Value) → List Edge
slot_edges slots = flat_map (λ slot. edges_by Slot (slot_targets slot)) slots

-- the edges from the fields of one row
abbrev pub row_edges : Row → List Edge
row_edges r = edges_by (Field r.name) (field_targets r.fields)

-- the edges from the fields of rows
abbrev pub rows_edges : List Row → List Edge
rows_edges rows = flat_map row_edges rows

-- the edges from contents
abbrev pub content_edges : List (CownId × Value) → List Edge
content_edges cs = flat_map (λ c. edges_by (Content c.0) (targets_of_value c.1)) cs

-- the edges of a state: one for each set slot, each field and each content whose value is an object
abbrev pub edges : State → List Edge
edges s = slot_edges s.slots ++ (rows_edges s.rows
    ++ (content_edges s.held ++ (content_edges s.made ++ (rows_edges s.given ++ rows_edges s.own))))

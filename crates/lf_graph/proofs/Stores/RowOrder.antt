-- What leaves the order of rows as it is: a change of fields, and a change of counts.
use Rattle.std.proofs.Common.{List, ap, refl, ◌-◌, ◌∙◌}
use Rattle.lf_base.specs.declared.ids.ObjId.{ObjId}
use Rattle.lf_base.specs.declared.values.Key.{Key}
use Rattle.lf_base.specs.Owners.{names}
use Rattle.lf_base.specs.TakeResult.{drop_field}
use Rattle.lf_graph.specs.RowChanges.{changed, lowered, with_fields, with_refs, without_field_of}
use Rattle.lf_graph.specs.RowOrder.{SameOrder}
use Rattle.lf_graph.specs.StoredRows.{CountedRow, SameByOwner, plain, rows_of}
use Rattle.lf_graph.proofs.Stores.Changes.{KeepsName, KeepsOwner, at_keeps_name, at_keeps_owner, rows_of_map}
use Rattle.lf_graph.proofs.Stores.StateRows.{names_map}

changed_order : (rows new : List CountedRow) (o : ObjId) (f : CountedRow → CountedRow) → KeepsName f → KeepsOwner f → SameByOwner new (changed rows o f) → SameOrder new rows
changed_order rows new o f name owner same w =
    ap (λ l. names (plain l)) (same w ∙ rows_of_map w _ (at_keeps_owner o f owner) rows)
    ∙ names_map _ (at_keeps_name o f name) (rows_of w rows)

pub field_order : (rows new : List CountedRow) (o : ObjId) (k : Key) → SameByOwner new (without_field_of rows o k) → SameOrder new rows
field_order rows new o k = changed_order rows new o (λ c. with_fields (drop_field (c.row).fields k) c) (λ c. refl) (λ c. refl)

pub count_order : (rows new : List CountedRow) (o : ObjId) → SameByOwner new (lowered rows o) → SameOrder new rows
count_order rows new o = changed_order rows new o (λ c. with_refs (c.refs - 1) c) (λ c. refl) (λ c. refl)

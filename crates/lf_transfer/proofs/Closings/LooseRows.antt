-- Rows of the regions that are closed, and those among them to which no edge leads any more.
use Rattle.std.proofs.Common.{List, None, Option, Some, [], ap, false, refl, sym, true, ◌∙◌, ◌∷◌, ◌≡◌, ◌||◌}
use Rattle.lf_base.specs.declared.ids.ObjId.{ObjId}
use Rattle.lf_base.specs.declared.values.Owner.{Owner}
use Rattle.lf_base.specs.declared.values.Value.{Value}
use Rattle.std.specs.List.{list_any}
use Rattle.lf_base.specs.Edges.{Edge}
use Rattle.lf_base.specs.Names.{targets_of_value}
use Rattle.lf_base.specs.PlainState.{Row}
use Rattle.lf_domain.specs.Counts.{Counts}
use Rattle.lf_domain.proofs.StoreEdges.{owned_has_row, owner_told}
use Rattle.lf_graph.specs.StoredRows.{CountedRow, HasRow, owner_at}
use Rattle.lf_regions.specs.declared.region.Region.{Region}
use Rattle.lf_transfer.specs.Closing.{leads_within, lies_within}

pub lies_there : (within : List ObjId) (w : Option Owner) → lies_within within w ≡ true → (u : Owner) × (w ≡ Some u)
lies_there within None e = absurd (cc)
lies_there within (Some u) e = (u, refl)

module _ (rows next : List CountedRow) (regions table : List Region) (of : List Row) (es fs : List Edge) where
  -- counts of the same rows have each row that lies in one of the regions
  pub row_stays : Counts rows regions of es → Counts next table of fs → (within : List ObjId) (o : ObjId)
      → lies_within within (owner_at rows o) ≡ true → HasRow next o
  row_stays a b within o e =
      let w = lies_there within (owner_at rows o) e in
      owned_has_row next o w.0 (sym (owner_told next of o (b.store).rows) ∙ owner_told rows of o (a.store).rows ∙ w.1)

-- a value that refers to such a row leads there
pub leads_there : (rows : List CountedRow) (within : List ObjId) (v : Value) (o : ObjId) → targets_of_value v ≡ o ∷ []
    → lies_within within (owner_at rows o) ≡ true → leads_within rows within v ≡ true
leads_there rows within v o e h = ap (list_any (λ p. lies_within within (owner_at rows p))) e ∙ ap (λ b. b || false) h

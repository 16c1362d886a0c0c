-- Where a store and a table count the near edges of a well-formed state, they count all its edges, and the other way round.
use Rattle.std.proofs.Common.{List, None, Option, Some, refl, sym, true, ◌∙◌, ◌≡◌}
use Rattle.std.specs.Option.{is_some}
use Rattle.lf_base.specs.declared.ids.ObjId.{ObjId}
use Rattle.lf_base.specs.declared.values.Owner.{Owner}
use Rattle.lf_base.specs.Edges.{edges}
use Rattle.lf_base.specs.declared.values.Owner.TheVariants.{In}
use Rattle.lf_base.specs.Owners.{has_row, is_bridge, owner_in}
use Rattle.lf_base.specs.PlainState.{State}
use Rattle.lf_base.specs.WellFormed.{WellFormed}
use Rattle.lf_graph.specs.StoredRows.{AreRowsOf, CountedRow, HasRow, owner_at, owner_by, row_named}
use Rattle.lf_laws.proofs.Edges.FrozenEdges.{near_borrowed, near_owned, near_refs}
use Rattle.lf_laws.proofs.Rows.OwnerTests.{in_region}
use Rattle.lf_laws.proofs.Rows.RowsByName.{owner_has}
use Rattle.lf_regions.specs.declared.region.Region.{Region}
use Rattle.lf_domain.specs.Counts.{Counts, CountsOf}
use Rattle.lf_domain.proofs.StoreEdges.{owner_told}

-- a row's name and owner
pub record OwnerKnown (rows : List CountedRow) (o : ObjId) : Type 0 where
  pub owner : Owner
  pub is : owner_at rows o ≡ Some owner

owned_by : (t : Option CountedRow) → is_some t ≡ true → (w : Owner) × (owner_by t ≡ Some w)
owned_by None e = cc
owned_by (Some c) e = ((c.row).owner, refl)

pub has_owner : (rows : List CountedRow) (o : ObjId) → HasRow rows o → OwnerKnown rows o
has_owner rows o h = let f = owned_by (row_named rows o) h in record { owner = f.0; is = f.1 }

module _ (s : State) (well : WellFormed s) where
  pub bridge_has_row : (r : ObjId) → is_bridge s.rows r ≡ true → has_row s.rows r ≡ true
  bridge_has_row r b = owner_has s.rows r (In r) (in_region r (owner_in s.rows r) b)

  module _ (rows : List CountedRow) (regions : List Region) where
    stored : AreRowsOf rows s.rows → (o : ObjId) → HasRow rows o → (w : Owner) × (owner_in s.rows o ≡ Some w)
    stored a o h = let f = has_owner rows o h in (f.owner, owner_told rows s.rows o a ∙ f.is)

    -- the counts of the near edges are those of all
    pub from_near : CountsOf rows regions s → Counts rows regions s.rows (edges s)
    from_near c = record {
      store = record {
        rows = (c.store).rows;
        refs = λ o h. let f = stored (c.store).rows o h in (c.store).refs o h ∙ sym (near_refs s well o (owner_has s.rows o f.0 f.1));
      };
      table = record {
        regions = (c.table).regions;
        borrowed = λ r b. (c.table).borrowed r b ∙ sym (near_borrowed s well r);
        owned = λ r b. (c.table).owned r b ∙ sym (near_owned s well r (bridge_has_row r b));
      };
    }

    pub from_all : Counts rows regions s.rows (edges s) → CountsOf rows regions s
    from_all c = record {
      store = record {
        rows = (c.store).rows;
        refs = λ o h. let f = stored (c.store).rows o h in (c.store).refs o h ∙ near_refs s well o (owner_has s.rows o f.0 f.1);
      };
      table = record {
        regions = (c.table).regions;
        borrowed = λ r b. (c.table).borrowed r b ∙ near_borrowed s well r;
        owned = λ r b. (c.table).owned r b ∙ near_owned s well r (bridge_has_row r b);
      };
    }

-- After a freeze only the regions that it leaves bare must be watched.
use Rattle.std.proofs.Common.{Bool, List, Some, ap, false, inl, inr, not, sym, ◌++◌, ◌∙◌, ◌≡◌}
use Rattle.lf_base.specs.Edges.{Edge, rows_edges, slot_edges}
use Rattle.lf_base.specs.FreezeResult.{freeze_result, freeze_set}
use Rattle.lf_base.specs.Kept.{points}
use Rattle.lf_base.specs.Names.{same_name}
use Rattle.lf_base.specs.Noticing.{Noticed}
use Rattle.lf_base.specs.Owners.{has_row, owner_in}
use Rattle.lf_base.specs.PlainState.{Row, State}
use Rattle.lf_base.specs.Sets.{Member}
use Rattle.lf_base.specs.Settling.{WatchedBy}
use Rattle.lf_base.specs.Suspects.{Bare, Object, Suspect}
use Rattle.lf_base.specs.WellFormed.{WellFormed}
use Rattle.lf_base.specs.declared.ids.ObjId.{ObjId}
use Rattle.lf_base.specs.declared.values.Owner.{Owner}
use Rattle.lf_base.specs.declared.values.Owner.TheVariants.{In, Local}
use Rattle.lf_base.specs.declared.values.Value.{Value}
use Rattle.lf_base.proofs.ListLemmas.Filters.{Member_filter}
use Rattle.lf_base.proofs.ListLemmas.Members.{Member_any, Member_left, Member_of_append, Member_right, any_Member}
use Rattle.lf_base.proofs.NameLemmas.SameNames.{same_name_is}
use Rattle.lf_laws.proofs.Dropping.RowsWithout.{owner_old}
use Rattle.lf_laws.proofs.Edges.FrozenCounts.{closed}
use Rattle.lf_laws.proofs.Rows.RowEdges.{edge_in, edge_row, row_edge}
use Rattle.std.proofs.lemmas.Bool.{both_ways, false_from_ne_true, not_from_false}

module _ (s : State) (v : Value) (t : WellFormed s) where
  abbrev gone : ObjId → Bool
  gone o = has_row (freeze_set s v) o

  abbrev after : State
  after = freeze_result s v

  -- an edge to what is left begins at what is left
  edge_left : (o : ObjId) (u : Owner) → owner_in s.rows o ≡ Some u → gone o ≡ false → (e : Edge) → e.to ≡ o → Member e (slot_edges s.slots ++ rows_edges s.rows) → Member e (slot_edges s.slots ++ rows_edges after.rows)
  edge_left o u h out e to m = elim (Member_of_append e (slot_edges s.slots) (rows_edges s.rows) m) [
    | inl k ↦ Member_left e (slot_edges s.slots) (rows_edges after.rows) k
    | inr k ↦
        let y = edge_row s.rows e k in
        let stays : gone (y.row).name ≡ false = false_from_ne_true _ (λ g.
        both_ways _ out (sym (ap gone to) ∙ closed s v t e (edge_in s e k) (y.row).name y.from g u (ap (owner_in s.rows) to ∙ h))) in
        Member_right e (slot_edges s.slots) (rows_edges after.rows)
        (row_edge after.rows y.row e (Member_filter (λ (r : Row). not (gone r.name)) y.row s.rows y.mem (not_from_false _ stays)) y.from y.to)
  ]

  points_left : (o : ObjId) (u : Owner) → owner_in s.rows o ≡ Some u → gone o ≡ false → points after.rows after o ≡ false → points s.rows s o ≡ false
  points_left o u h out n = false_from_ne_true _ (λ p.
      let e = any_Member (λ (d : Edge). same_name d.to o) (slot_edges s.slots ++ rows_edges s.rows) p in
      both_ways _ n (Member_any (λ (d : Edge). same_name d.to o) e.0 (slot_edges s.slots ++ rows_edges after.rows) (edge_left o u h out e.0 (same_name_is (e.0).to o e.1.1) e.1.0) e.1.1))

  module _ (old new : List Suspect) (before : Noticed s old) (stay : (u : Suspect) → Member u old → Member u new)
      (bare : (r : ObjId) → owner_in after.rows r ≡ Some (In r) → Bare after r → WatchedBy after new r) where
    pub freeze_noticed : Noticed after new
    freeze_noticed = record {
      locals = λ o h n.
          let k = owner_old s.rows gone o Local h in
          stay (Object o) (before.locals o k.1 (points_left o Local k.1 k.0 n));
      regions = bare;
      inners = λ o r h d n.
          let k = owner_old s.rows gone o (In r) h in
          stay (Object o) (before.inners o r k.1 d (points_left o (In r) k.1 k.0 n));
    }

-- Dropping before a write of a row that stays changes nothing of what stays after it.
use Rattle.std.proofs.Common.{Bool, List, None, Option, Some, [], ap, cond, false, inl, inr, not, refl, subst, sym, true, ◌++◌, ◌∙◌, ◌∷◌, ◌≡◌}
use Rattle.std.proofs.lemmas.Bool.{both_ways, false_from_ne_true}
use Rattle.std.proofs.lemmas.Option.{none-some}
use Rattle.std.specs.Cmp.{both_ways as same_test}
use Rattle.std.specs.List.{filter}
use Rattle.lf_base.specs.declared.ids.ObjId.{ObjId}
use Rattle.lf_base.specs.declared.values.Key.{Key}
use Rattle.lf_base.specs.declared.values.Owner.{Owner}
use Rattle.lf_base.specs.declared.values.Owner.TheVariants.{Frozen, In, Local}
use Rattle.lf_base.specs.declared.values.Value.{Value}
use Rattle.lf_base.specs.Edges.{Edge, Field, content_edges, edges, rows_edges, slot_edges}
use Rattle.lf_base.specs.Kept.{kept, kept_rows}
use Rattle.lf_base.specs.MoveSet.{LocalPath, continues, move_set, starts}
use Rattle.lf_base.specs.Owners.{has_name, has_row, names, owner_in}
use Rattle.lf_base.specs.PlainState.{Row, State}
use Rattle.lf_base.specs.Sets.{Member}
use Rattle.lf_base.specs.WellFormed.{SlotMayHold, WellFormed}
use Rattle.lf_base.specs.WriteResult.{is_at, moved, put_field, relabel, write_fields, write_result}
use Rattle.lf_base.proofs.ListLemmas.Tests.{some_is}
use Rattle.lf_laws.proofs.Dropping.HangingIsWatched.{kept_row}
use Rattle.lf_laws.proofs.Dropping.KeptRows.{kept_in}
use Rattle.lf_laws.proofs.Dropping.KeptState.{bridge_stays, kept_is_left, lost}
use Rattle.lf_laws.proofs.Dropping.RowsInPlace.{rows_in_place}
use Rattle.lf_laws.proofs.Dropping.RowsWithout.{owner_stay}
use Rattle.lf_laws.proofs.KeptStates.AmongKept.{AmongKept, begins_lost, gone_goes, kept_among, not_gone}
use Rattle.lf_laws.proofs.KeptStates.ChangesInParts.{distinct_by_names, filter_map_names, mapped_rows}
use Rattle.lf_laws.proofs.KeptStates.SlotsInParts.{gone_mutable, nothing_there}
use Rattle.lf_laws.proofs.Owners.PathsOfSets.{move_set_path}
use Rattle.lf_laws.proofs.Rows.OwnerTests.{in_is}
use Rattle.lf_laws.proofs.Rows.RowEdges.{edge_in, field_is, row_edge}
use Rattle.lf_laws.proofs.Rows.RowsByName.{mem_has}
use Rattle.lf_laws.proofs.Writes.MovedRows.{edges_relabel, moved_names, names_relabel, names_write, of_moved, to_moved}
use Rattle.lf_laws.proofs.Writes.Relabelling.{owner_over, owner_relabel}
use Rattle.lf_laws.proofs.Writes.WrittenEdges.{edges_write, owner_write}

relabel_same : (rows : List Row) (os ps : List ObjId) (u : Owner) → ((o : ObjId) → has_name os o ≡ has_name ps o) → relabel rows os u ≡ relabel rows ps u
relabel_same [] os ps u h = refl
relabel_same (r ∷ rs) os ps u h = λ i. cond (h r.name i) (record r { owner = u }) r ∷ relabel_same rs os ps u h i

over_false : (u : Owner) (x : Option Owner) → owner_over false u x ≡ x
over_false u None = refl
over_false u (Some v) = refl

over_true : (u v : Owner) (x : Option Owner) → owner_over true u x ≡ Some v → u ≡ v
over_true u v None e = absurd (none-some v e)
over_true u v (Some y) e = some_is u v e

module _ (s : State) (w : WellFormed s) (x : ObjId) (k : Key) (v : Value) (here : has_row (kept_rows s) x ≡ true) (may : SlotMayHold (kept s) v) where
  abbrev gone : ObjId → Bool
  gone = lost s w

  -- ---- what moves stays
  path_in : (y : Row) → LocalPath s v y → Member y s.rows
  path_in y (starts m l n) = m
  path_in y (continues p m l n) = m

  path_stays : (y : Row) → LocalPath s v y → gone y.name ≡ false
  path_stays y (starts m l n) = false_from_ne_true _ (λ h. nothing_there s w y.name h (may.object_there y.name n))
  path_stays y (continues {x = z} p m l n) = false_from_ne_true _ (λ h.
      let e : Edge = record { from = Field z.name; to = y.name } in
      let b = begins_lost s w e (edge_in s e (row_edge s.rows z e (path_in z p) refl n)) h in
      both_ways _ (path_stays z p) (ap gone (field_is z.name b.0 b.1.0) ∙ b.1.1.0))

  path_kept : (y : Row) → LocalPath s v y → Member y (kept_rows s)
  path_kept y p = kept_row s (rows_in_place s w) y (path_in y p) (not_gone s w y.name (mem_has y s.rows (path_in y p)) (path_stays y p))

  path_to : (y : Row) → LocalPath s v y → LocalPath (kept s) v y
  path_to y (starts m l n) = starts (path_kept y (starts m l n)) l n
  path_to y (continues {x = z} p m l n) = continues (path_to z p) (path_kept y (continues p m l n)) l n

  path_from : (y : Row) → LocalPath (kept s) v y → LocalPath s v y
  path_from y (starts m l n) = starts (kept_in s y m) l n
  path_from y (continues {x = z} p m l n) = continues (path_from z p) (kept_in s y m) l n

  same_moved : (o : ObjId) → has_name (names (move_set (kept s) v)) o ≡ has_name (names (move_set s v)) o
  same_moved o = same_test _ _
      (λ h. let y = of_moved (kept s) v o h in
      subst (λ n. has_name (moved_names s v) n ≡ true) y.1.1 (to_moved s v y.0 ((move_set_path s v y.0).1 (path_from y.0 ((move_set_path (kept s) v y.0).0 y.1.0)))))
      (λ h. let y = of_moved s v o h in
      subst (λ n. has_name (moved_names (kept s) v) n ≡ true) y.1.1 (to_moved (kept s) v y.0 ((move_set_path (kept s) v y.0).1 (path_to y.0 ((move_set_path s v y.0).0 y.1.0)))))

  moved_stays : (o : ObjId) → gone o ≡ true → has_name (names (move_set s v)) o ≡ false
  moved_stays o h = false_from_ne_true _ (λ e. let y = of_moved s v o e in both_ways _ (path_stays y.0 ((move_set_path s v y.0).0 y.1.0)) (ap gone y.1.1 ∙ h))

  -- ---- the rows after it
  abbrev fields_put : List Row
  fields_put = write_fields s.rows x k v

  edge_old : (rows : List Row) → rows_edges rows ≡ rows_edges fields_put → (e : Edge) → Member e (edges (record s { rows = rows })) → gone e.to ≡ true → Member e (edges s)
  edge_old rows same e m h = elim (edges_write s x k v e (subst (λ l. Member e (slot_edges s.slots ++ (l ++ (content_edges s.held ++ (content_edges s.made ++ (rows_edges s.given ++ rows_edges s.own)))))) same m)) [
    | inl n ↦ n
    | inr n ↦ absurd (nothing_there s w e.to h (may.object_there e.to n.1))
  ]

  put_among : AmongKept s (record s { rows = fields_put }) gone
  put_among = record {
    distinct = distinct_by_names s w fields_put (names_write s.rows x k v);
    owners = λ o u h e. inl (sym (owner_write s.rows x k v o) ∙ e);
    edges = edge_old fields_put refl;
    into = λ o r h e. sym (owner_write s.rows x k v o) ∙ e;
    mutable = gone_mutable s w;
  }

  abbrev put : Row → Row
  put r = cond (is_at x r) (record r { fields = put_field r.fields k v }) r

  put_name : (r : Row) → (put r).name ≡ r.name
  put_name r = elim (is_at x r) as (λ b. (cond b (record r { fields = put_field r.fields k v }) r).name ≡ r.name) [ true ↦ refl | false ↦ refl ]

  put_in_parts : kept (record s { rows = write_fields (kept_rows s) x k v }) ≡ kept (record s { rows = fields_put })
  put_in_parts = ap (λ rows. kept (record s { rows = rows })) (mapped_rows s w put put_name) ∙ kept_among s w (record s { rows = fields_put }) put_among

  module _ (home : ObjId) (own : owner_in s.rows x ≡ Some (In home)) where
    abbrev os : List ObjId
    os = names (move_set s v)

    abbrev settled : List Row
    settled = relabel fields_put os (In home)

    owner_after : (o : ObjId) → owner_in settled o ≡ owner_over (has_name os o) (In home) (owner_in s.rows o)
    owner_after o = owner_relabel fields_put os (In home) o ∙ ap (owner_over (has_name os o) (In home)) (owner_write s.rows x k v o)

    owner_gone : (o : ObjId) → gone o ≡ true → owner_in settled o ≡ owner_in s.rows o
    owner_gone o h = owner_after o ∙ ap (λ b. owner_over b (In home) (owner_in s.rows o)) (moved_stays o h) ∙ over_false (In home) (owner_in s.rows o)

    into_old : (o r : ObjId) → gone r ≡ true → owner_in settled o ≡ Some (In r) → owner_in s.rows o ≡ Some (In r)
    into_old o r h e =
        elim (has_name os o) as (λ b. owner_over b (In home) (owner_in s.rows o) ≡ Some (In r) → owner_in s.rows o ≡ Some (In r)) [
          | true ↦ λ z. absurd (both_ways _ (gone_goes s w r h)
              (ap (has_row (kept_rows s)) (sym (in_is home r (over_true (In home) (In r) (owner_in s.rows o) z))) ∙ bridge_stays s w x home own here))
          | false ↦ λ z. sym (over_false (In home) (owner_in s.rows o)) ∙ z
        ] (sym (owner_after o) ∙ e)

    settled_among : AmongKept s (record s { rows = settled }) gone
    settled_among = record {
      distinct = distinct_by_names s w settled (names_relabel fields_put os (In home) ∙ names_write s.rows x k v);
      owners = λ o u h e. inl (sym (owner_gone o h) ∙ e);
      edges = edge_old settled (edges_relabel fields_put os (In home));
      into = into_old;
      mutable = gone_mutable s w;
    }

    abbrev settle : Row → Row
    settle r = cond (has_name os r.name) (record r { owner = In home }) r

    settle_name : (r : Row) → (settle r).name ≡ r.name
    settle_name r = elim (has_name os r.name) as (λ b. (cond b (record r { owner = In home }) r).name ≡ r.name) [ true ↦ refl | false ↦ refl ]

    settled_rows : relabel (write_fields (kept_rows s) x k v) (names (move_set (kept s) v)) (In home) ≡ filter (λ r. not (gone r.name)) settled
    settled_rows =
        relabel_same (write_fields (kept_rows s) x k v) (names (move_set (kept s) v)) os (In home) same_moved
        ∙ ap (λ rows. relabel rows os (In home)) (mapped_rows s w put put_name)
        ∙ sym (filter_map_names gone settle settle_name fields_put)

    settled_in_parts : kept (record s { rows = relabel (write_fields (kept_rows s) x k v) (names (move_set (kept s) v)) (In home) }) ≡ kept (record s { rows = settled })
    settled_in_parts = ap (λ rows. kept (record s { rows = rows })) settled_rows ∙ kept_among s w (record s { rows = settled }) settled_among

  by_owner : (u : Option Owner) → owner_in s.rows x ≡ u → kept (record s { rows = moved (write_fields (kept_rows s) x k v) (move_set (kept s) v) u }) ≡ kept (record s { rows = moved fields_put (move_set s v) u })
  by_owner None h = put_in_parts
  by_owner (Some Local) h = put_in_parts
  by_owner (Some Frozen) h = put_in_parts
  by_owner (Some (In home)) h = settled_in_parts home h

  same_owner : owner_in (kept_rows s) x ≡ owner_in s.rows x
  same_owner = ap (λ rows. owner_in rows x) (kept_is_left s w) ∙ owner_stay s.rows gone x (false_from_ne_true _ (λ h. both_ways _ (gone_goes s w x h) here))

  pub write_in_parts : kept (write_result (kept s) x k v) ≡ kept (write_result s x k v)
  write_in_parts = ap (λ u. kept (record s { rows = moved (write_fields (kept_rows s) x k v) (move_set (kept s) v) u })) same_owner ∙ by_owner (owner_in s.rows x) refl

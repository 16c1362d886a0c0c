-- The counts of contents' stored rows are those of the state with which a behaviour begins.
use Rattle.std.proofs.Common.{List, None, Option, Some, [], ap, arith, cond, count_by, false, inl, inr, is_some, refl, subst, sym, true, ◌+◌, ◌++◌, ◌∙◌, ◌∷◌, ◌≡◌, ℕ}
use Rattle.std.proofs.lemmas.Bool.{both_ways}
use Rattle.std.specs.Option.{option_or}
use Rattle.lf_base.specs.declared.ids.CownId.{CownId}
use Rattle.lf_base.specs.declared.ids.ObjId.{ObjId}
use Rattle.lf_base.specs.declared.values.Value.{Value}
use Rattle.lf_base.specs.declared.values.Value.TheVariants as value
use Rattle.lf_base.specs.ContentTrees.{lies_in_one, regions_from}
use Rattle.lf_base.specs.Contents.{Parked, part, stored}
use Rattle.lf_base.specs.EdgeLists.{near_edges}
use Rattle.lf_base.specs.Edges.{Edge, rows_edges}
use Rattle.lf_base.specs.Kept.{kept}
use Rattle.lf_base.specs.Names.{same_name, targets_of_value}
use Rattle.lf_base.specs.Owners.{bridge_of, has_row}
use Rattle.lf_base.specs.PlainState.{Row, State}
use Rattle.lf_base.specs.Sets.{Member}
use Rattle.lf_base.specs.WalkCounts.{counted, refs}
use Rattle.lf_base.specs.WholeContents.{Ended, MayBegin, StandsAlone}
use Rattle.lf_base.proofs.ListLemmas.Filters.{Member_of_filter}
use Rattle.lf_base.proofs.ListLemmas.Members.{Member_left, Member_map, Member_of_map}
use Rattle.lf_graph.specs.StoreCounts.{IsStoreOf}
use Rattle.lf_graph.specs.StoredRows.{CountedRow, HasRow, refs_at, refs_by, row_named}
use Rattle.lf_graph.proofs.Stores.Changes.{found_append}
use Rattle.lf_laws.proofs.Contents.ContentsReturn.{part_is, stored_ended}
use Rattle.lf_laws.proofs.Contents.PartsAreTrees.{names_bridge, part_in_tree}
use Rattle.lf_laws.proofs.Contents.TreeCounts.{refs_of_tree}
use Rattle.lf_laws.proofs.Edges.FrozenEdges.{near_refs}
use Rattle.lf_laws.proofs.Rows.RowsByName.{row_there}
use Rattle.lf_laws.proofs.Rows.RowsInOrder.{rise_distinct}
use Rattle.lf_parcel.specs.Packed.{EachPacked, Packed, all_stored, counts_in, packed_contents}
use Rattle.lf_parcel.proofs.Beginnings.StoredTogether.{joined_are, stored_there}

-- the content whose stored rows have the name
record FoundIn (ps : List Packed) (o : ObjId) : Type 0 where
  packed : Packed
  mem : Member packed ps
  has : HasRow packed.stored o
  refs : refs_at (all_stored ps) o ≡ refs_at packed.stored o

found_first : (p : Packed) (ps : List Packed) (o : ObjId) → (HasRow (all_stored ps) o → FoundIn ps o) → HasRow (all_stored ps ++ p.stored) o → (found : Option CountedRow) → row_named (all_stored ps) o ≡ found → FoundIn (p ∷ ps) o
found_first p ps o more h (Some c) e =
    let r = more (ap is_some e) in
    record {
      packed = r.packed;
      mem = inr r.mem;
      has = r.has;
      refs = ap refs_by (found_append (all_stored ps) p.stored o ∙ ap (λ f. option_or f (row_named p.stored o)) e ∙ sym e) ∙ r.refs;
    }
found_first p ps o more h None e =
    let last = found_append (all_stored ps) p.stored o ∙ ap (λ f. option_or f (row_named p.stored o)) e in
    record { packed = p; mem = inl refl; has = ap is_some (sym last) ∙ h; refs = ap refs_by last }

found_in : (ps : List Packed) (o : ObjId) → HasRow (all_stored ps) o → FoundIn ps o
found_in [] o h = absurd (both_ways _ refl h)
found_in (p ∷ ps) o h = found_first p ps o (found_in ps o) h (row_named (all_stored ps) o) refl

pub root_counted : (o : ObjId) (v : Value) (root : ObjId) → Member root (targets_of_value v) → counted o (Some v) ≡ cond (same_name root o) 1 0
root_counted o (value.Obj r) root (inl h) = ap (λ z. 0 + cond (same_name z o) 1 0) h ∙ omega arith
root_counted o (value.Obj r) root (inr h) = absurd h
root_counted o value.None root h = absurd h
root_counted o (value.Bool x) root h = absurd h
root_counted o (value.Int n) root h = absurd h
root_counted o (value.Text n) root h = absurd h
root_counted o (value.Cown d) root h = absurd h

-- the count of a row that a content owns, by the content alone
pub tree_counts : (e : State) → Ended e → kept e ≡ e → (c : CownId × Value) → Member c (e.held ++ e.made) → (o : ObjId) → has_row (part e c) o ≡ true
    → refs e o ≡ counts_in (record { value = c.1; rows = part e c }) o
tree_counts e t all c here o there = go (bridge_of e c.1) refl
  where
    go : (root : Option ObjId) → bridge_of e c.1 ≡ root → refs e o ≡ counts_in (record { value = c.1; rows = part e c }) o
    go (Some root) h =
        refs_of_tree e t all c here root h o there
        ∙ ap (λ (n : ℕ). count_by (λ (d : Edge). same_name d.to o) (rows_edges (part e c)) + n) (sym (root_counted o c.1 root (names_bridge e c.1 root h).0))
    go None h =
        let y = row_there (part e c) o there in
        let k = Member_of_filter (lies_in_one (regions_from e (bridge_of e c.1))) y.0 e.rows (part_in_tree e t all c here y.0 y.1.0) in
        absurd (both_ways false refl (sym (ap (λ r. lies_in_one (regions_from e r) y.0) h) ∙ k.1))

module _ (b : ℕ) (frozen : List Row) (ps : List Packed) (h : EachPacked ps) (m : MayBegin b (packed_contents ps) frozen) where
  abbrev cs : List (CownId × Parked)
  cs = packed_contents ps

  abbrev u : State
  u = stored b cs frozen

  pub packed_stand : (c : CownId × Parked) → Member c cs → StandsAlone c.0 c.1
  packed_stand c n =
      let p = Member_of_map (λ (p : Packed). (p.cown, p.content)) c ps n in
      subst (λ (z : CownId × Parked). StandsAlone z.0 z.1) p.1.1 (h p.0 p.1.0).stands

  ended : Ended u
  ended = stored_ended b cs frozen m.whole packed_stand

  same_refs : (o : ObjId) → HasRow (all_stored ps) o → refs_at (all_stored ps) o ≡ refs u o
  same_refs o k =
      let f = found_in ps o k in
      let p = f.packed in
      let held : CownId × Value = (p.cown, (p.content).value) in
      let in_cs : Member (p.cown, p.content) cs = Member_map (λ (p : Packed). (p.cown, p.content)) p ps f.mem in
      let in_held : Member held (u.held ++ []) = Member_left _ u.held [] (Member_map (λ (q : CownId × Parked). (q.0, (q.1).value)) (p.cown, p.content) cs in_cs) in
      let part_rows : part u held ≡ (p.content).rows = part_is b cs frozen m.whole packed_stand (p.cown, p.content) in_cs in
      let there : has_row (part u held) o ≡ true = ap (λ rows. has_row rows o) part_rows ∙ stored_there p.stored (p.content).rows o (h p f.mem).are f.has in
      f.refs ∙ (h p f.mem).refs o f.has ∙ sym (tree_counts u ended m.all_stay held in_held o there ∙ ap (λ rows. counts_in (record { value = (p.content).value; rows = rows }) o) part_rows)

  -- the contents' stored rows are those of the state with which the behaviour begins
  pub begins_stored : IsStoreOf (all_stored ps) u.rows (near_edges u)
  begins_stored = record {
    rows = joined_are ps h (rise_distinct u.rows (m.whole).rows_rise);
    refs = λ o k. same_refs o k ∙ near_refs u m.whole o (stored_there (all_stored ps) u.rows o (joined_are ps h (rise_distinct u.rows (m.whole).rows_rise)) k);
  }

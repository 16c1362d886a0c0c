-- A write into a region: owners go round after it exactly where a bridge that the region then owns was above it.
use Rattle.std.proofs.Common.{List, Some, [], ap, cond, false, inl, inr, not, refl, subst, sym, true, ◌∙◌, ◌≡◌, ◌⊎◌}
use Rattle.lf_base.specs.declared.ids.ObjId.{ObjId}
use Rattle.lf_base.specs.declared.values.Key.{Key}
use Rattle.lf_base.specs.declared.values.Owner.TheVariants.{In}
use Rattle.lf_base.specs.declared.values.Value.{Value}
use Rattle.lf_base.specs.Edges.{Content, Edge, Field, Slot, Source, edges, rows_edges, slot_edges}
use Rattle.lf_base.specs.Names.{same_name}
use Rattle.lf_base.specs.Owners.{is_in, owner_in}
use Rattle.lf_base.specs.Ownership.{Above, is_from, owns, round}
use Rattle.lf_base.specs.PlainState.{Row, State}
use Rattle.lf_base.specs.Sets.{Member}
use Rattle.lf_base.specs.WellFormed.{SlotMayHold, WellFormed}
use Rattle.lf_base.specs.WriteResult.{is_at, put_field, relabel, write_fields}
use Rattle.lf_laws.proofs.Owners.NewOwner.{OwnsMore, round_after, straight_after}
use Rattle.lf_laws.proofs.Rows.EdgeCounts.{with_rows}
use Rattle.lf_laws.proofs.Rows.OwnerTests.{in_region, in_is, in_not_local}
use Rattle.std.proofs.lemmas.Bool.{and_parts, both_ways, false_from_ne_true, not-true}
use Rattle.lf_base.proofs.ListLemmas.Tests.{some_is}
use Rattle.lf_laws.proofs.Rows.EdgeSources.{at_content, at_frozen, at_row, at_slot, edge_begins}
use Rattle.lf_laws.proofs.Rows.RowEdges.{edge_row, row_edge, field_is}
use Rattle.lf_laws.proofs.Rows.RowsByName.{owner_is}
use Rattle.lf_base.proofs.ListLemmas.Members.{Member_map, Member_left, Member_right}
use Rattle.lf_laws.proofs.Writes.MovedRows.{edges_relabel, moved_names}
use Rattle.lf_base.proofs.NameLemmas.SameNames.{same_name_is, same_name_itself}
use Rattle.lf_laws.proofs.Owners.OwnersGoRound.{none_above, owns_before, round_none}
use Rattle.lf_laws.proofs.Writes.WriteLaw.{Changes, frozen_other, kind, region_changes, shifted, unmoved}

-- a row that isn't written is there still
row_other : (rows : List Row) (x : ObjId) (k : Key) (v : Value) (y : Row) → Member y rows → same_name y.name x ≡ false → Member y (write_fields rows x k v)
row_other rows x k v y m n =
    subst (λ z. Member z (write_fields rows x k v)) (ap (λ b. cond b (record y { fields = put_field y.fields k v }) y) n)
    (Member_map (λ (r : Row). cond (is_at x r) (record r { fields = put_field r.fields k v }) r) y rows m)

edge_other : (rows : List Row) (x : ObjId) (k : Key) (v : Value) (e : Edge) (p : ObjId) → Member e (rows_edges rows) → e.from ≡ Field p → same_name p x ≡ false → Member e (rows_edges (write_fields rows x k v))
edge_other rows x k v e p m f n =
    let y = edge_row rows e m in
    row_edge (write_fields rows x k v) y.row e (row_other rows x k v y.row y.mem (ap (λ z. same_name z x) (sym (field_is p (y.row).name (sym f ∙ y.from))) ∙ n)) y.from y.to

module _ (s : State) (t : WellFormed s) (x : ObjId) (k : Key) (v : Value) (home : ObjId) (at : owner_in s.rows x ≡ Some (In home)) (may : SlotMayHold s v) where
  abbrev os : List ObjId
  os = moved_names s v

  abbrev rows : List Row
  rows = relabel (write_fields s.rows x k v) os (In home)

  abbrev after : State
  after = with_rows s rows

  c : Changes s rows x v os home
  c = region_changes s t x k v home at

  still : (e : Edge) (p : ObjId) → Member e (edges s) → Member e (rows_edges s.rows) → e.from ≡ Field p → same_name p x ≡ false → Member e (edges after)
  still e p o m f n = Member_right e (slot_edges s.slots) _ (Member_left e (rows_edges rows) _ (subst (Member e) (sym (edges_relabel (write_fields s.rows x k v) os (In home))) (edge_other s.rows x k v e p m f n)))

  old_owner : (p q : ObjId) → owner_in s.rows p ≡ Some (In q) → owner_in rows p ≡ Some (In q)
  old_owner p q h = elim (kind s rows x v os home c t may p) [
    | unmoved e n ↦ n ∙ h
    | shifted e n i ↦ absurd (in_not_local q (sym h ∙ n))
  ]

  -- of a region other than the one written all rows were its rows before
  new_owner : (p q : ObjId) → owner_in rows p ≡ Some (In q) → same_name q home ≡ false → owner_in s.rows p ≡ Some (In q)
  new_owner p q h n = elim (kind s rows x v os home c t may p) [
    | unmoved e i ↦ sym i ∙ h
    | shifted e i j ↦ absurd (both_ways _ n (ap (λ z. same_name z home) (in_is q home (some_is (In q) (In home) (sym h ∙ j))) ∙ same_name_itself home))
  ]

  bridge_old : (r : ObjId) → owner_in rows r ≡ Some (In r) → owner_in s.rows r ≡ Some (In r)
  bridge_old r h = elim (kind s rows x v os home c t may r) [
    | unmoved e i ↦ sym i ∙ h
    | shifted e i j ↦ let f : home ≡ r = in_is home r (some_is (In home) (In r) (sym j ∙ h)) in subst (λ z. owner_in s.rows z ≡ Some (In z)) f (t.bridge x home at)
  ]

  -- a source that is a row of q
  pub record FromRow (rows : List Row) (q : ObjId) (f : Source) : Type 0 where
    pub name : ObjId
    pub is : f ≡ Field name
    pub owner : owner_in rows name ≡ Some (In q)

  from_is : (rows : List Row) (q : ObjId) (f : Source) → is_from rows q f ≡ true → FromRow rows q f
  from_is rows q Slot e = cc
  from_is rows q (Field p) e = record { name = p; is = refl; owner = in_region q (owner_in rows p) e }
  from_is rows q (Content d) e = cc

  owns_old : (q r : ObjId) → owns after q r ≡ true → same_name q home ≡ false → owns s q r ≡ true
  owns_old q r w n = owns_before s after q r (λ e m g i b.
      let f = from_is rows q e.from g in
      let own : owner_in s.rows f.name ≡ Some (In q) = new_owner f.name q f.owner n in
      elim (c.old_or_new e m) [
        | inl o ↦ (o, (ap (is_from s.rows q) f.is ∙ ap (is_in q) own ∙ same_name_itself q, ap (is_in r) (bridge_old r (in_region r (owner_in rows r) b)) ∙ same_name_itself r))
        | inr o ↦
            let same : f.name ≡ x = field_is f.name x (sym f.is ∙ o.0) in
            absurd (both_ways _ n (ap (λ z. same_name z home) (in_is q home (owner_is s.rows x (In q) (In home) (ap (owner_in s.rows) (sym same) ∙ own) at)) ∙ same_name_itself home))
      ]) w

  -- an edge from a mutable row is one of the mutable rows
  row_edge_of : (e : Edge) (p q : ObjId) → Member e (edges s) → e.from ≡ Field p → owner_in s.rows p ≡ Some (In q) → Member e (rows_edges s.rows)
  row_edge_of e p q m f h = elim (edge_begins s e m) [
    | at_slot g n ↦ let y = sym g ∙ f in cc
    | at_row y n g b ↦ b
    | at_content d g n ↦ let y = sym g ∙ f in cc
    | at_frozen y n g ↦ absurd (frozen_other s t x k v y n (In q) (ap (owner_in s.rows) (field_is y.name p (sym g ∙ f)) ∙ h))
  ]

  owns_new : (q r : ObjId) → owns s q r ≡ true → same_name q home ≡ false → owns after q r ≡ true
  owns_new q r w n = owns_before after s q r (λ e m g i b.
      let f = from_is s.rows q e.from g in
      let other : same_name f.name x ≡ false = false_from_ne_true _ (λ h. both_ways _ n (ap (λ z. same_name z home) (in_is q home (owner_is s.rows x (In q) (In home) (ap (owner_in s.rows) (sym (same_name_is f.name x h)) ∙ f.owner) at)) ∙ same_name_itself home)) in (
        still e f.name m (row_edge_of e f.name q m f.is f.owner) f.is other,
        (ap (is_from rows q) f.is ∙ ap (is_in q) (old_owner f.name q f.owner) ∙ same_name_itself q, ap (is_in r) (old_owner r r (in_region r (owner_in s.rows r) b)) ∙ same_name_itself r),
      )) w

  region_owned : OwnsMore s after home (λ r. owns after home r ≡ true)
  region_owned = record {
    gains = record {
      old_or_new = λ q r e. elim (same_name q home) as (λ b. same_name q home ≡ b → (owns s q r ≡ true) ⊎ ((q ≡ home) × (owns after home r ≡ true))) [
        | true ↦ λ h. let f : q ≡ home = same_name_is q home h in inr (f, ap (λ z. owns after z r) (sym f) ∙ e)
        | false ↦ λ h. inl (owns_old q r e h)
      ] refl;
      not_itself = λ e. both_ways _ (not-true _ (and_parts (not (same_name home home)) _ e).0) (same_name_itself home);
    };
    others_stay = owns_new;
    new_owned = λ r e. e;
  }

  -- owners don't go round after the write exactly where no bridge that the region then owns was above it
  pub turns : (round after ≡ [] → (b : ObjId) → owns after home b ≡ true → Above s b home → ⊥) × (((b : ObjId) → owns after home b ≡ true → Above s b home → ⊥) → round after ≡ [])
  turns = (
    (λ e b n a. round_after s after home (λ r. owns after home r ≡ true) region_owned b n a (none_above after e)),
    (λ clear. round_none after (straight_after s after home (λ r. owns after home r ≡ true) region_owned.gains (none_above s t.no_round) clear)),
  )

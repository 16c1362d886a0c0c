-- The counts after a freeze: what it takes leads to nothing that is left, so only borrows of what it takes are lost.
use Rattle.std.proofs.Common.{Bool, List, Some, ap, arith, false, refl, subst, sym, true, ◌&&◌, ◌+◌, ◌∙◌, ◌≡◌}
use Rattle.std.specs.List.{count_by}
use Rattle.lf_base.specs.Edges.{Content, Edge, Field, Slot, Source, edges, field_targets}
use Rattle.lf_base.specs.FreezeResult.{freeze_result, freeze_set}
use Rattle.lf_base.specs.Names.{same_name}
use Rattle.lf_base.specs.Owners.{has_name, has_row, is_in, is_local_at, owner_in}
use Rattle.lf_base.specs.Ownership.{is_in_other, is_owning, owning_edges}
use Rattle.lf_base.specs.PlainState.{Row, State}
use Rattle.lf_base.specs.Sets.{Member}
use Rattle.lf_base.specs.WalkCounts.{borrowed, borrows, is_borrower, refs}
use Rattle.lf_base.specs.WellFormed.{WellFormed}
use Rattle.lf_base.specs.declared.ids.ObjId.{ObjId}
use Rattle.lf_base.specs.declared.values.Owner.{Owner}
use Rattle.lf_base.specs.declared.values.Owner.TheVariants.{In}
use Rattle.lf_base.specs.declared.values.Value.{Value}
use Rattle.lf_base.proofs.NameLemmas.SameNames.{same_name_is}
use Rattle.lf_laws.proofs.Dropping.RowsInPlace.{rows_in_place}
use Rattle.lf_laws.proofs.Dropping.RowsWithout.{owner_lost, owner_stay}
use Rattle.lf_laws.proofs.Edges.EdgeParts.{count_alike_on, bit, counts_one}
use Rattle.lf_laws.proofs.Edges.RowsGone.{all_freeze}
use Rattle.lf_laws.proofs.Owners.PathsOfSets.{freeze_closed, freeze_within}
use Rattle.lf_laws.proofs.Rows.EdgeSources.{at_content, at_frozen, at_row, at_slot, edge_begins}
use Rattle.lf_laws.proofs.Rows.OwnerTests.{in_region}
use Rattle.lf_laws.proofs.Rows.RowEdges.{edge_row, field_is}
use Rattle.lf_laws.proofs.Rows.RowsByName.{Member_has_name, mem_has, owner_there, row_of, row_there, same_row}
use Rattle.std.proofs.Math.Bool.{and-false}
use Rattle.std.proofs.lemmas.Bool.{both_ways, false_from_ne_true, or_left}
use Rattle.std.proofs.lemmas.Option.{none-some}

module _ (s : State) (v : Value) (t : WellFormed s) where
  abbrev set : List Row
  set = freeze_set s v

  abbrev gone : ObjId → Bool
  gone o = has_row set o

  abbrev after : State
  after = freeze_result s v

  -- what begins at a row that is taken leads to no mutable row that isn't
  taken_row : (p : ObjId) → gone p ≡ true → (x : Row) × (Member x set × (x.name ≡ p))
  taken_row p h = row_there set p h

  pub closed : (e : Edge) → Member e (edges s) → (p : ObjId) → e.from ≡ Field p → gone p ≡ true → (w : Owner) → owner_in s.rows e.to ≡ Some w → gone e.to ≡ true
  closed e m p f h w at = elim (edge_begins s e m) [
    | at_slot g n ↦ let z = sym g ∙ f in cc
    | at_content d g n ↦ let z = sym g ∙ f in cc
    | at_frozen x k g ↦
        let y = taken_row p h in
        let same : x.name ≡ p = field_is x.name p (sym g ∙ f) in
        let o = owner_there s.rows (rows_in_place s t).distinct p (subst (λ n. has_row s.rows n ≡ true) y.1.1 (mem_has y.0 s.rows (freeze_within s v y.0 y.1.0))) in
        absurd (none-some o.owner (sym ((rows_in_place s t).apart x.name k) ∙ ap (owner_in s.rows) same ∙ o.is))
    | at_row x n g b ↦
        let y = taken_row p h in
        let z = row_of s.rows e.to w at in
        let r = edge_row s.rows e b in
        let same : r.row ≡ y.0 = same_row s.rows (rows_in_place s t).distinct r.row y.0 r.mem (freeze_within s v y.0 y.1.0) (field_is (r.row).name p (sym r.from ∙ f) ∙ sym y.1.1) in
        let names : has_name (field_targets (y.0).fields) (z.row).name ≡ true =
        subst (λ (q : Row). has_name (field_targets q.fields) (z.row).name ≡ true) same (ap (has_name (field_targets (r.row).fields)) z.name ∙ Member_has_name e.to (field_targets (r.row).fields) r.to) in
        let in_set : Member z.row set = (freeze_closed s v).next y.0 z.row y.1.0 z.mem (or_left _ _ names) in
        ap gone (sym z.name) ∙ mem_has z.row set in_set
  ]

  -- ---- borrows
  source_left : (f : Source) → ((p : ObjId) → f ≡ Field p → gone p ≡ false) → is_borrower after.rows f ≡ is_borrower s.rows f
  source_left Slot h = refl
  source_left (Field p) h = ap is_local_at (owner_stay s.rows gone p (h p refl))
  source_left (Content c) h = refl

  -- an edge to what is left begins at what is left
  near_left : (e : Edge) → Member e (edges s) → (r : ObjId) → gone e.to ≡ false → owner_in s.rows e.to ≡ Some (In r) → is_borrower after.rows e.from ≡ is_borrower s.rows e.from
  near_left e m r out at = source_left e.from (λ p f. false_from_ne_true _ (λ h. both_ways _ out (closed e m p f h (In r) at)))

  one_borrow : (r : ObjId) (e : Edge) → Member e (edges s) → bit (borrows after.rows r e) + bit (gone e.to && borrows s.rows r e) ≡ bit (borrows s.rows r e)
  one_borrow r e m = elim (gone e.to) as (λ b. gone e.to ≡ b → bit (borrows after.rows r e) + bit (b && borrows s.rows r e) ≡ bit (borrows s.rows r e)) [
    | true ↦ λ h.
        let none : borrows after.rows r e ≡ false = ap (λ w. is_borrower after.rows e.from && is_in r w) (owner_lost s.rows gone e.to h) ∙ and-false (is_borrower after.rows e.from) in
        omega (arith, ap bit none)
    | false ↦ λ h.
        let into : is_in r (owner_in after.rows e.to) ≡ is_in r (owner_in s.rows e.to) = ap (is_in r) (owner_stay s.rows gone e.to h) in
        elim (is_in r (owner_in s.rows e.to)) as (λ b. is_in r (owner_in s.rows e.to) ≡ b → bit (is_borrower after.rows e.from && is_in r (owner_in after.rows e.to)) + 0 ≡ bit (is_borrower s.rows e.from && b)) [
          | true ↦ λ k.
              let from : is_borrower after.rows e.from ≡ is_borrower s.rows e.from = near_left e m r h (in_region r (owner_in s.rows e.to) k) in
              omega (arith, ap (λ b. bit (is_borrower after.rows e.from && b)) (into ∙ k), ap (λ b. bit (b && true)) from)
          | false ↦ λ k. omega (arith, ap (λ b. bit (is_borrower after.rows e.from && b)) (into ∙ k), ap bit (and-false (is_borrower after.rows e.from)), ap bit (and-false (is_borrower s.rows e.from)))
        ] refl
  ] refl

  pub borrowed_freeze : (r : ObjId) → borrowed after r + count_by (λ e. has_row (freeze_set s v) e.to && borrows s.rows r e) (edges s) ≡ borrowed s r
  borrowed_freeze r =
      ap (λ n. n + count_by (λ e. gone e.to && borrows s.rows r e) (edges s)) (all_freeze s v t (borrows after.rows r))
      ∙ counts_one (borrows after.rows r) (λ e. gone e.to && borrows s.rows r e) (borrows s.rows r) (edges s) (one_borrow r)

  -- ---- owners
  owning_left : (f : Source) (r : ObjId) → ((p : ObjId) → f ≡ Field p → gone p ≡ false) → is_owning after.rows f r ≡ is_owning s.rows f r
  owning_left Slot r h = refl
  owning_left (Field p) r h = ap (is_in_other r) (owner_stay s.rows gone p (h p refl))
  owning_left (Content c) r h = refl

  pub owning_freeze : (r : ObjId) → has_row s.rows r ≡ true → has_row (freeze_set s v) r ≡ false → owning_edges after r ≡ owning_edges s r
  owning_freeze r here out =
      let w = owner_there s.rows (rows_in_place s t).distinct r here in
      all_freeze s v t (λ e. is_owning after.rows e.from r && same_name e.to r)
      ∙ count_alike_on (λ (e : Edge). is_owning after.rows e.from r && same_name e.to r) (λ (e : Edge). is_owning s.rows e.from r && same_name e.to r) (edges s) (λ e m.
      elim (same_name e.to r) as (λ b. same_name e.to r ≡ b → (is_owning after.rows e.from r && b) ≡ (is_owning s.rows e.from r && b)) [
        | true ↦ λ k. ap (λ c. c && true) (owning_left e.from r (λ p f. false_from_ne_true _ (λ h.
            both_ways _ out (sym (ap gone (same_name_is e.to r k)) ∙ closed e m p f h w.owner (ap (owner_in s.rows) (same_name_is e.to r k) ∙ w.is)))))
        | false ↦ λ k. and-false (is_owning after.rows e.from r) ∙ sym (and-false (is_owning s.rows e.from r))
      ] refl)

  pub refs_freeze : (o : ObjId) → refs after o ≡ refs s o
  refs_freeze o = all_freeze s v t (λ e. same_name e.to o)

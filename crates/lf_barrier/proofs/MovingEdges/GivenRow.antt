-- A local row given to a region: all edges to it are counted as borrows of that region.
use Rattle.std.proofs.Common.{Bool, List, None, Option, Some, [], ap, arith, cond, false, refl, subst, sym, true, ℕ, ◌&&◌, ◌+◌, ◌<◌, ◌^◌, ◌||◌, ◌∙◌, ◌∷◌, ◌≡◌}
use Rattle.std.proofs.lemmas.Bool.{false_from_ne_true}
use Rattle.std.proofs.Math.Bool.{or-false}
use Rattle.std.proofs.lemmas.List.Sums.{count_by-le-length}
use Rattle.std.specs.List.{count_by}
use Rattle.std.specs.Option.{is_some, option_map}
use Rattle.lf_base.specs.declared.ids.ObjId.{ObjId}
use Rattle.lf_base.specs.declared.values.Owner.{Owner}
use Rattle.lf_base.specs.declared.values.Owner.TheVariants.{In, Local}
use Rattle.lf_base.specs.EdgeLists.{begins_at}
use Rattle.lf_base.specs.Edges.{Content, Edge, Field, Slot, Source}
use Rattle.lf_base.specs.Names.{same_name}
use Rattle.lf_base.specs.Owners.{has_name, is_bridge, is_in, owner_in}
use Rattle.lf_base.specs.PlainState.{Row}
use Rattle.lf_base.specs.Sets.{Member}
use Rattle.lf_base.specs.WalkCounts.{borrows, is_borrower}
use Rattle.lf_base.specs.WriteResult.{relabel}
use Rattle.lf_base.proofs.ListLemmas.Tests.{count_like, none_count}
use Rattle.lf_base.proofs.NameLemmas.SameNames.{same_name_flips, same_name_is, same_name_itself}
use Rattle.lf_barrier.specs.MovingEdges.{MayGive}
use Rattle.lf_barrier.proofs.MovingEdges.FieldLoops.{has_row_by_owner}
use Rattle.lf_domain.specs.Counts.{Counts}
use Rattle.lf_domain.proofs.TableEdges.{flag_borrowed, has_borrowed, number_borrowed}
use Rattle.lf_graph.specs.RowChanges.{moved_last, with_owner}
use Rattle.lf_graph.specs.StoredRows.{AreRowsOf, CountedRow, HasRow, SameByOwner, refs_at, refs_by, row_named}
use Rattle.lf_graph.proofs.Stores.AfterCalls.{found_after}
use Rattle.lf_graph.proofs.Stores.Changes.{found_moved_last}
use Rattle.lf_graph.proofs.Stores.StateRows.{moved_store, same_store}
use Rattle.lf_laws.proofs.Edges.EdgeParts.{any_same}
use Rattle.lf_laws.proofs.Edges.GivenRows.{borrows_home, borrows_other, over_false, owning_home, owning_other}
use Rattle.lf_laws.proofs.Rows.OwnerTests.{in_not_local}
use Rattle.lf_laws.proofs.Writes.Relabelling.{owner_over, owner_relabel}
use Rattle.lf_regions.specs.declared.region.Region.{Region}
use Rattle.lf_regions.specs.RegionChanges.{with_borrowed}
use Rattle.lf_regions.specs.Regions.{borrowed_of, has_region}
use Rattle.lf_regions.specs.TableCounts.{owns_region}

moved_refs : (b : Bool) (w : Owner) (t u : Option CountedRow) → u ≡ cond b (option_map (with_owner w) t) t → is_some u ≡ true → (is_some t ≡ true) × (refs_by u ≡ refs_by t)
moved_refs true w None u e h = absurd (let z : false ≡ true = sym (ap is_some e) ∙ h in cc)
moved_refs false w None u e h = absurd (let z : false ≡ true = sym (ap is_some e) ∙ h in cc)
moved_refs true w (Some c) u e h = (refl, ap refs_by e)
moved_refs false w (Some c) u e h = (refl, ap refs_by e)

-- the one name of a list
pub named_one : (o p : ObjId) → has_name (o ∷ []) p ≡ true → o ≡ p
named_one o p h = same_name_is o p (sym (or-false (same_name o p)) ∙ h)

begun_one : (o : ObjId) (f : Source) → begins_at (o ∷ []) f ≡ true → f ≡ Field o
begun_one o Slot h = absurd (cc)
begun_one o (Field p) h = ap Field (sym (named_one o p h))
begun_one o (Content c) h = absurd (cc)

module _ (rows : List CountedRow) (regions : List Region) (of : List Row) (es : List Edge) (o home : ObjId) (m : MayGive rows regions of es o home) where
  abbrev after : List Row
  after = relabel of (o ∷ []) (In home)

  local : (p : ObjId) → has_name (o ∷ []) p ≡ true → owner_in of p ≡ Some Local
  local p h = ap (owner_in of) (sym (named_one o p h)) ∙ m.local

  none_begins : (e : Edge) → Member e es → begins_at (o ∷ []) e.from ≡ false
  none_begins e t = false_from_ne_true _ (λ h. m.none_from e t (begun_one o e.from h))

  -- no test that asks for such an edge finds one
  none_begun : (p : Edge → Bool) → count_by (λ e. begins_at (o ∷ []) e.from && p e) es ≡ 0
  none_begun p = none_count (λ e. begins_at (o ∷ []) e.from && p e) es (λ e t. ap (λ b. b && p e) (none_begins e t))

  apart : same_name o home ≡ false
  apart = false_from_ne_true _ (λ h. in_not_local home (sym m.region ∙ ap (owner_in of) (sym (same_name_is o home h)) ∙ m.local))

  home_bridge : is_bridge of home ≡ true
  home_bridge = ap (is_in home) m.region ∙ same_name_itself home

  pub home_there : has_region regions home ≡ true
  home_there = ((m.counts).table).regions home ∙ home_bridge

  pub given_there : HasRow rows o
  given_there = has_row_by_owner rows of o Local ((m.counts).store).rows m.local

  -- all edges to the row are from slots and local rows
  near_refs : count_by (λ e. is_borrower of e.from && has_name (o ∷ []) e.to) es ≡ count_by (λ e. same_name e.to o) es
  near_refs = count_like (λ e. is_borrower of e.from && has_name (o ∷ []) e.to) (λ e. same_name e.to o) es (λ e t.
      elim (same_name e.to o) as (λ b. same_name e.to o ≡ b → (is_borrower of e.from && has_name (o ∷ []) e.to) ≡ b) [
        | true ↦ λ h. ap (λ b. b && has_name (o ∷ []) e.to) (m.near e t (same_name_is e.to o h)) ∙ or-false (same_name o e.to) ∙ same_name_flips o e.to ∙ h
        | false ↦ λ h. ap (λ b. is_borrower of e.from && b) (or-false (same_name o e.to) ∙ same_name_flips o e.to ∙ h) ∙ (elim (is_borrower of e.from) as (λ b. (b && false) ≡ false) [ true ↦ refl | false ↦ refl ])
      ] refl)

  pub borrows_fit : (n : ℕ) → n ≡ refs_at rows o → borrowed_of regions home + n < 2 ^ 64
  borrows_fit n e =
      omega (arith, e, ((m.counts).table).borrowed home home_bridge, ((m.counts).store).refs o given_there, count_by-le-length (borrows of home) es, count_by-le-length (λ (e : Edge). same_name e.to o) es, m.few)

  bridges_stay : (r : ObjId) → is_bridge after r ≡ is_bridge of r
  bridges_stay r =
      elim (same_name o r) as (λ b. same_name o r ≡ b → is_bridge after r ≡ is_bridge of r) [
        | true ↦ λ e.
            let same : o ≡ r = same_name_is o r e in
            ap (is_in r) (owner_relabel of (o ∷ []) (In home) r ∙ ap (λ b. owner_over (b || false) (In home) (owner_in of r)) e ∙ ap (λ q. owner_over true (In home) (owner_in of q)) (sym same) ∙ ap (owner_over true (In home)) m.local)
            ∙ ap (λ q. same_name q home) (sym same) ∙ apart ∙ sym (ap (is_in r) (ap (owner_in of) (sym same) ∙ m.local))
        | false ↦ λ e. ap (is_in r) (owner_relabel of (o ∷ []) (In home) r ∙ ap (λ b. owner_over (b || false) (In home) (owner_in of r)) e ∙ over_false (In home) (owner_in of r))
      ] refl

  borrowed_then : (r : ObjId) → count_by (borrows after r) es ≡ cond (same_name home r) (count_by (borrows of home) es + count_by (λ e. same_name e.to o) es) (count_by (borrows of r) es)
  borrowed_then r =
      elim (same_name home r) as (λ b. same_name home r ≡ b → count_by (borrows after r) es ≡ cond b (count_by (borrows of home) es + count_by (λ e. same_name e.to o) es) (count_by (borrows of r) es)) [
        | true ↦ λ h. subst (λ q. count_by (borrows after q) es ≡ count_by (borrows of home) es + count_by (λ e. same_name e.to o) es) (same_name_is home r h)
            (omega (arith, borrows_home of (o ∷ []) home local es, none_begun (λ e. is_in home (owner_in of e.to) || has_name (o ∷ []) e.to), near_refs))
        | false ↦ λ h. omega (arith, borrows_other of (o ∷ []) home local es r h, none_begun (λ e. is_in r (owner_in of e.to)))
      ] refl

  owners_then : (r : ObjId) → count_by (owns_region after r) es ≡ count_by (owns_region of r) es
  owners_then r =
      elim (same_name home r) as (λ b. same_name home r ≡ b → count_by (owns_region after r) es ≡ count_by (owns_region of r) es) [
        | true ↦ λ h. subst (λ q. count_by (owns_region after q) es ≡ count_by (owns_region of q) es) (same_name_is home r h) (owning_home of (o ∷ []) home local es)
        | false ↦ λ h. omega (arith, owning_other of (o ∷ []) home local es r h, none_begun (λ e. same_name e.to r))
      ] refl

  pub given : (n : ℕ) → n ≡ refs_at rows o → (new : List CountedRow) → SameByOwner new (moved_last rows o (In home)) → (next : List Region) → next ≡ with_borrowed regions home (borrowed_of regions home + n)
      → Counts new next after es
  given n count new same next is =
      let then_rows : AreRowsOf (moved_last rows o (In home)) after = moved_store rows of o (In home) ((m.counts).store).rows in
      let refs : (q : ObjId) → HasRow new q → HasRow rows q × (refs_at new q ≡ refs_at rows q) = λ q h. moved_refs (same_name q o) (In home) (row_named rows q) (row_named new q) (found_after new (moved_last rows o (In home)) q same then_rows.differ ∙ found_moved_last rows o (In home) q) h in
      let n_is : n ≡ count_by (λ (e : Edge). same_name e.to o) es = count ∙ ((m.counts).store).refs o given_there in
      let at_home : borrowed_of regions home ≡ count_by (borrows of home) es = ((m.counts).table).borrowed home home_bridge in
      subst (λ t. Counts new t after es) (sym is) (record {
        store = record {
          rows = same_store (moved_last rows o (In home)) new after then_rows same;
          refs = λ q h. let f = refs q h in f.1 ∙ ((m.counts).store).refs q f.0;
        };
        table = record {
          regions = λ r. has_borrowed regions home r (borrowed_of regions home + n) ∙ ((m.counts).table).regions r ∙ sym (bridges_stay r);
          borrowed = λ r h.
              number_borrowed regions home r (borrowed_of regions home + n) home_there
              ∙ (λ i. cond (same_name home r) (at_home i + n_is i) (((m.counts).table).borrowed r (sym (bridges_stay r) ∙ h) i))
              ∙ sym (borrowed_then r);
          owned = λ r h.
              flag_borrowed regions home r (borrowed_of regions home + n) ∙ ((m.counts).table).owned r (sym (bridges_stay r) ∙ h)
              ∙ sym (any_same (owns_region after r) es (owns_region of r) es (owners_then r));
        };
      })

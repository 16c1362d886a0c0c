-- The counts of a state of which one region was dissolved.
use Rattle.std.proofs.Common.{Bool, List, Some, [], ap, arith, cond, count_by, false, length, not, refl, subst, sym, true, ℕ, ◌&&◌, ◌-◌, ◌∙◌, ◌∷◌, ◌≡◌}
use Rattle.std.proofs.lemmas.Bool.{and_from, and_parts, false_from_ne_true}
use Rattle.std.proofs.lemmas.List.Sums.{count_by-le-length, sum_by-cons}
use Rattle.std.specs.List.{list_any}
use Rattle.lf_base.specs.declared.ids.ObjId.{ObjId}
use Rattle.lf_base.specs.declared.values.Owner.TheVariants.{Local}
use Rattle.lf_base.specs.DissolveResult.{dissolve_result}
use Rattle.lf_base.specs.EdgeLists.{near_edges}
use Rattle.lf_base.specs.Edges.{Content, Edge, Field, Slot, Source, edges}
use Rattle.lf_base.specs.MergeResult.{relabel_region}
use Rattle.lf_base.specs.Names.{same_name}
use Rattle.lf_base.specs.Owners.{is_bridge, is_in, owner_in}
use Rattle.lf_base.specs.Ownership.{is_from, is_owned}
use Rattle.lf_base.specs.PlainState.{Row, State}
use Rattle.lf_base.specs.Sets.{Member}
use Rattle.lf_base.specs.WalkCounts.{borrows}
use Rattle.lf_base.specs.WellFormed.{WellFormed, may_lead}
use Rattle.lf_base.proofs.NameLemmas.SameNames.{same_name_is, same_name_itself}
use Rattle.lf_barrier.specs.Descents.{region_targets}
use Rattle.lf_domain.specs.Counts.{CountsOf, IsDomain}
use Rattle.lf_domain.proofs.NearCounts.{from_all, from_near}
use Rattle.lf_domain.proofs.StateEdges.{leads_to_bridge}
use Rattle.lf_domain.proofs.StoreEdges.{owner_told}
use Rattle.lf_domain.proofs.TableEdges.{flag_borrowed, has_borrowed, number_borrowed}
use Rattle.lf_graph.specs.StoreCounts.{IsStoreOf}
use Rattle.lf_graph.specs.StoredRows.{CountedRow, owner_at}
use Rattle.lf_laws.proofs.Changes.Dissolving.{dissolve_keeps}
use Rattle.lf_laws.proofs.Changes.RelabelledRegion.{region_owner, swap_region, swapped}
use Rattle.lf_laws.proofs.Edges.EdgeParts.{any_some, count_alike_on, same_by, some_any}
use Rattle.lf_laws.proofs.Edges.GivenRegions.{freed_other, in_other, owning_less}
use Rattle.lf_laws.proofs.Edges.OwnerEdges.{all_region}
use Rattle.lf_laws.proofs.Rows.OwnerTests.{in_region}
use Rattle.lf_regions.specs.declared.region.Region.{Region}
use Rattle.lf_regions.specs.RegionChanges.{with_borrowed, without_region}
use Rattle.lf_regions.specs.Regions.{borrowed_of, has_region, owned_of}
use Rattle.lf_regions.specs.TableCounts.{IsTableOf, owns_region}
use Rattle.lf_regions.proofs.ChangeLaws.{ended_has}
use Rattle.lf_regions.proofs.RegionNumbers.{read_ended}
use Rattle.lf_transfer.specs.RegionRows.{HasBorrowRoom, TurnsLocal, lies_outside}
use Rattle.lf_transfer.proofs.States.MergedCounts.{one_less}
use Rattle.lf_transfer.proofs.States.RegionEdges.{edges_from_region, from_region, near_from_region}

-- an edge from a row of region r to a row of another region leads to the bridge of that one
to_bridge : (s : State) → WellFormed s → (r q : ObjId) → same_name r q ≡ false → (e : Edge) → Member e (edges s) → (is_from s.rows r e.from && is_in q (owner_in s.rows e.to)) ≡ true → same_name e.to q ≡ true
to_bridge s well r q n e m h =
    let p = and_parts (is_from s.rows r e.from) (is_in q (owner_in s.rows e.to)) h in
    lead e.from p.0 p.1 (well.leads e m)
  where
    lead : (f : Source) → is_from s.rows r f ≡ true → is_in q (owner_in s.rows e.to) ≡ true → may_lead s f e.to ≡ true → same_name e.to q ≡ true
    lead Slot k o l = absurd (let z : false ≡ true = k in cc)
    lead (Content c) k o l = absurd (let z : false ≡ true = k in cc)
    lead (Field p) k o l =
        let same : q ≡ e.to = leads_to_bridge s well (Field p) (Some r) (in_region r (owner_in s.rows p) k) e.to q l (in_region q (owner_in s.rows e.to) o) (ap not n) in
        ap (same_name e.to) same ∙ same_name_itself e.to

stays : (b : Bool) → b ≡ (b && true)
stays true = refl
stays false = refl

and_turns : (a b : Bool) → (a && b) ≡ (b && a)
and_turns true b = stays b
and_turns false true = refl
and_turns false false = refl

all_counted : (os : List ObjId) → length os ≡ count_by (λ o. true) os
all_counted [] = refl
all_counted (o ∷ os) = omega (arith, all_counted os, sum_by-cons (λ (p : ObjId). cond true 1 0) o os)

module _ (rows : List CountedRow) (regions : List Region) (s : State) (d : IsDomain rows regions s) (r : ObjId) where
  abbrev told : ObjId → ObjId → Bool
  told q o = lies_outside r q (owner_at rows o)

  told_is : (q : ObjId) → same_name r q ≡ false → (o : ObjId) → is_in q (owner_in s.rows o) ≡ told q o
  told_is q n o = ap (is_in q) (owner_told rows s.rows o ((d.counts).store).rows) ∙ stays (is_in q (owner_at rows o)) ∙ ap (λ b. is_in q (owner_at rows o) && not b) (sym n)

  -- references into another region, by its rows and by its bridge
  inside_counted : (q : ObjId) → same_name r q ≡ false → count_by (λ e. is_from s.rows r e.from && is_in q (owner_in s.rows e.to)) (edges s) ≡ count_by (told q) (region_targets rows r)
  inside_counted q n =
      count_alike_on (λ e. is_from s.rows r e.from && is_in q (owner_in s.rows e.to)) (λ e. is_from s.rows r e.from && told q e.to) (edges s) (λ e m. ap (λ b. is_from s.rows r e.from && b) (told_is q n e.to))
      ∙ edges_from_region rows regions s d r (told q)

  bridge_counted : (q : ObjId) → same_name r q ≡ false → is_bridge s.rows q ≡ true → count_by (λ e. is_from s.rows r e.from && same_name e.to q) (edges s) ≡ count_by (told q) (region_targets rows r)
  bridge_counted q n b =
      count_alike_on (λ e. is_from s.rows r e.from && same_name e.to q) (λ e. is_from s.rows r e.from && is_in q (owner_in s.rows e.to)) (edges s) (λ e m.
      same_by (is_from s.rows r e.from && same_name e.to q) (is_from s.rows r e.from && is_in q (owner_in s.rows e.to))
      (λ h. let p = and_parts (is_from s.rows r e.from) (same_name e.to q) h in
      and_from (is_from s.rows r e.from) (is_in q (owner_in s.rows e.to)) p.0 (ap (λ o. is_in q (owner_in s.rows o)) (same_name_is e.to q p.1) ∙ b))
      (λ h. and_from (is_from s.rows r e.from) (same_name e.to q) (and_parts (is_from s.rows r e.from) (is_in q (owner_in s.rows e.to)) h).0 (to_bridge s d.well_formed r q n e m h)))
      ∙ inside_counted q n

  -- there are few of them, so each region may be borrowed by all
  pub may_all_borrow : HasBorrowRoom regions (length (region_targets rows r))
  may_all_borrow q there = omega (
    arith,
    d.few,
    ((d.counts).table).borrowed q (sym (((d.counts).table).regions q) ∙ there),
    count_by-le-length (borrows s.rows q) (near_edges s),
    all_counted (region_targets rows r),
    near_from_region rows regions s d r (λ o. true),
    count_by-le-length (from_region s.rows r (λ o. true)) (near_edges s),
  )

  module _ (bridge : is_bridge s.rows r ≡ true) (unowned : is_owned s r ≡ false) (turned : List Region) (e : TurnsLocal rows r (region_targets rows r) regions turned) where
    t : IsTableOf regions s.rows (edges s)
    t = (from_near s d.well_formed rows regions d.counts).table

    r_there : has_region regions r ≡ true
    r_there = (t).regions r ∙ bridge

    pub turned_there : has_region turned r ≡ true
    turned_there = e.names r ∙ r_there

    pub turned_unowned : owned_of turned r ≡ false
    turned_unowned = e.owned r r_there ∙ ap (λ b. b && not (list_any (told r) (region_targets rows r))) ((t).owned r bridge ∙ unowned)

    module _ (n : ℕ) (n_is : n ≡ borrowed_of turned r) where
      abbrev pub unborrowed : List Region
      unborrowed = with_borrowed turned r (borrowed_of turned r - n)

      pub there_still : has_region unborrowed r ≡ true
      there_still = has_borrowed turned r r (borrowed_of turned r - n) ∙ turned_there

      pub none_borrow : borrowed_of unborrowed r ≡ 0
      none_borrow = omega (arith, n_is, number_borrowed turned r r (borrowed_of turned r - n) turned_there ∙ ap (λ c. cond c (borrowed_of turned r - n) (borrowed_of turned r)) (same_name_itself r))

      pub none_owns : owned_of unborrowed r ≡ false
      none_owns = flag_borrowed turned r r (borrowed_of turned r - n) ∙ turned_unowned

      abbrev next : List Region
      next = without_region unborrowed r

      abbrev after : List Row
      after = relabel_region s.rows r Local

      number_then : (q : ObjId) → same_name r q ≡ false → borrowed_of next q ≡ borrowed_of turned q
      number_then q k =
          read_ended (λ (x : Region). x.borrowed) 0 unborrowed r q ∙ ap (λ c. cond c 0 (borrowed_of unborrowed q)) k
          ∙ number_borrowed turned r q (borrowed_of turned r - n) turned_there ∙ ap (λ c. cond c (borrowed_of turned r - n) (borrowed_of turned q)) k

      flag_then : (q : ObjId) → same_name r q ≡ false → owned_of next q ≡ owned_of turned q
      flag_then q k = read_ended (λ (x : Region). x.owned) false unborrowed r q ∙ ap (λ c. cond c false (owned_of unborrowed q)) k ∙ flag_borrowed turned r q (borrowed_of turned r - n)

      bridge_gone : is_bridge after r ≡ false
      bridge_gone = ap (is_in r) (region_owner r Local s.rows r ∙ ap (swapped r Local) (in_region r (owner_in s.rows r) bridge) ∙ swap_region r Local)

      bridge_else : (q : ObjId) → same_name r q ≡ false → is_bridge after q ≡ is_bridge s.rows q
      bridge_else q k = ap (is_in q) (region_owner r Local s.rows q) ∙ in_other r Local q (owner_in s.rows q) refl k

      other_bridge : (q : ObjId) → is_bridge after q ≡ true → same_name r q ≡ false
      other_bridge q b = false_from_ne_true _ (λ k. let z : false ≡ true = sym bridge_gone ∙ ap (is_bridge after) (same_name_is r q k) ∙ b in cc)

      names_then : (q : ObjId) → has_region next q ≡ is_bridge after q
      names_then q =
          ended_has unborrowed r q ∙ ap (λ h. not (same_name r q) && h) (has_borrowed turned r q (borrowed_of turned r - n) ∙ e.names q)
          ∙ (elim (same_name r q) as (λ c. same_name r q ≡ c → (not c && has_region regions q) ≡ is_bridge after q) [
            | true ↦ λ k. sym (ap (is_bridge after) (sym (same_name_is r q k)) ∙ bridge_gone)
            | false ↦ λ k. (t).regions q ∙ sym (bridge_else q k)
          ] refl)

      owned_then : (q : ObjId) → same_name r q ≡ false → is_bridge s.rows q ≡ true → owned_of next q ≡ list_any (owns_region after q) (edges s)
      owned_then q k b =
          let part : count_by (λ e. is_from s.rows r e.from && same_name e.to q) (edges s) ≡ count_by (told q) (region_targets rows r) = bridge_counted q k b in
          flag_then q k ∙ e.owned q ((t).regions q ∙ b) ∙ ap (λ x. x && not (list_any (told q) (region_targets rows r))) ((t).owned q b)
          ∙ and_turns (list_any (owns_region s.rows q) (edges s)) (not (list_any (told q) (region_targets rows r)))
          ∙ one_less (list_any (owns_region s.rows q) (edges s)) (list_any (told q) (region_targets rows r)) (list_any (owns_region after q) (edges s)) (count_by (owns_region s.rows q) (edges s)) (count_by (told q) (region_targets rows r))
          (count_by (owns_region after q) (edges s)) (some_any (owns_region s.rows q) (edges s)) (any_some (owns_region s.rows q) (edges s)) (some_any (told q) (region_targets rows r)) (any_some (told q) (region_targets rows r))
          (some_any (owns_region after q) (edges s)) (any_some (owns_region after q) (edges s)) (omega (arith, part, owning_less s.rows r Local (edges s) q refl k)) ((d.well_formed).one_owner q b)

      table_then : IsTableOf next after (edges s)
      table_then = record {
        regions = names_then;
        borrowed = λ q b.
            let k = other_bridge q b in
            let was : is_bridge s.rows q ≡ true = sym (bridge_else q k) ∙ b in
            omega (
              arith,
              number_then q k,
              e.borrowed q ((t).regions q ∙ was),
              (t).borrowed q was,
              freed_other s.rows r (edges s) q k,
              inside_counted q k,
            );
        owned = λ q b. let k = other_bridge q b in owned_then q k (sym (bridge_else q k) ∙ b);
      }

      pub dissolved_counts : (new : List CountedRow) → IsStoreOf new after (edges s) → CountsOf new next (dissolve_result s r)
      dissolved_counts new store =
          let same : edges (dissolve_result s r) ≡ edges s = all_region s r Local in
          from_all (dissolve_result s r) (dissolve_keeps s d.well_formed r (in_region r (owner_in s.rows r) bridge) unowned) new next (record {
            store = subst (IsStoreOf new after) (sym same) store;
            table = subst (IsTableOf next after) (sym same) table_then;
          })

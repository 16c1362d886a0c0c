-- A content by the counts: what it is refused for, and the edges that its write leaves.
use Rattle.std.proofs.Common.{Bool, List, None, Option, Some, [], ap, arith, cond, false, inl, inr, ltb, not, refl, subst, sym, true, ℕ, ◌&&◌, ◌+◌, ◌++◌, ◌||◌, ◌∙◌, ◌∷◌, ◌≡◌, ◌≤◌}
use Rattle.std.proofs.lemmas.Bool.{lt-ltb, ltb-true}
use Rattle.std.specs.List.{count_by, list_any}
use Rattle.lf_base.specs.declared.faults.Fault.TheVariants.{Interior, LocalInCown, SecondOwner}
use Rattle.lf_base.specs.declared.ids.CownId.{CownId}
use Rattle.lf_base.specs.declared.ids.ObjId.{ObjId}
use Rattle.lf_base.specs.declared.values.Owner.{Owner}
use Rattle.lf_base.specs.declared.values.Owner.TheVariants.{Frozen, In, Local}
use Rattle.lf_base.specs.declared.values.Value.{Value}
use Rattle.lf_base.specs.declared.values.Value.TheVariants as value
use Rattle.lf_base.specs.ContentRefusal.{refusal_as_content, refused_target, refused_targets}
use Rattle.lf_base.specs.ContentResult.{content_at, content_result}
use Rattle.lf_base.specs.EdgeLists.{SameEdges, near_edges}
use Rattle.lf_base.specs.Edges.{Content, Edge, edges_by}
use Rattle.lf_base.specs.Names.{same_name, same_value, targets_of_value}
use Rattle.lf_base.specs.NewCown.{made_result, next_cown}
use Rattle.lf_base.specs.Owners.{has_row, is_bridge, is_in, or_frozen, owner_in, owner_of}
use Rattle.lf_base.specs.Ownership.{owning_edges}
use Rattle.lf_base.specs.PlainState.{State}
use Rattle.lf_base.specs.WalkCounts.{counted}
use Rattle.lf_base.proofs.NameLemmas.SameNames.{same_name_is, same_name_itself}
use Rattle.lf_barrier.specs.ContentWrites.{IsContentWrite}
use Rattle.lf_barrier.proofs.MovingEdges.FieldLoops.{length_counts}
use Rattle.lf_domain.specs.Counts.{Counts, CountsOf, IsDomain}
use Rattle.lf_domain.specs.OneEdge.{MayCountOwner, MayUncountOwner, OnlyBridges}
use Rattle.lf_domain.proofs.CountedEdges.{same_counts}
use Rattle.lf_domain.proofs.NearCounts.{bridge_has_row}
use Rattle.lf_domain.proofs.StateEdges.{may_uncount_owner}
use Rattle.lf_domain.proofs.StoreEdges.{owner_told}
use Rattle.lf_graph.specs.StoredRows.{CountedRow, owner_at}
use Rattle.lf_laws.proofs.Edges.EdgeParts.{any_some, count_app, same_by, some_any}
use Rattle.lf_laws.proofs.Edges.FrozenEdges.{near_owning}
use Rattle.lf_laws.proofs.Edges.SlotEdges.{near_content, near_made}
use Rattle.lf_regions.specs.declared.region.Region.{Region}
use Rattle.lf_regions.specs.Regions.{has_region, owned_of}
use Rattle.lf_regions.specs.TableCounts.{owns_region}

pub some_left : (p : Edge → Bool) (es : List Edge) → ltb 0 (count_by p es) ≡ list_any p es
some_left p es = same_by (ltb 0 (count_by p es)) (list_any p es) (λ e. any_some p es (ltb-true 0 (count_by p es) e)) (λ e. lt-ltb 0 (count_by p es) (some_any p es e))

none_more : (n : ℕ) → n ≤ 1 → ltb 1 n ≡ false
none_more n h = same_by (ltb 1 n) false (λ e. absurd (omega (arith, h, ltb-true 1 n e))) (λ e. absurd (cc))

-- by what the old content names: its own edge doesn't count
by_old : (old : Value) (o : ObjId) (n : ℕ) (owned : Bool) → n ≤ 1 → ltb 0 n ≡ owned → ltb (counted o (Some old)) n ≡ (owned && not (same_value old (value.Obj o)))
by_old value.None o n owned one e = e ∙ (elim owned as (λ b. b ≡ (b && true)) [ true ↦ refl | false ↦ refl ])
by_old (value.Bool b) o n owned one e = e ∙ (elim owned as (λ b. b ≡ (b && true)) [ true ↦ refl | false ↦ refl ])
by_old (value.Int i) o n owned one e = e ∙ (elim owned as (λ b. b ≡ (b && true)) [ true ↦ refl | false ↦ refl ])
by_old (value.Text t) o n owned one e = e ∙ (elim owned as (λ b. b ≡ (b && true)) [ true ↦ refl | false ↦ refl ])
by_old (value.Cown c) o n owned one e = e ∙ (elim owned as (λ b. b ≡ (b && true)) [ true ↦ refl | false ↦ refl ])
by_old (value.Obj p) o n owned one e =
    elim (same_name p o) as (λ b. ltb (0 + cond b 1 0) n ≡ (owned && not b)) [
      | true ↦ none_more n one ∙ (elim owned as (λ b. false ≡ (b && false)) [ true ↦ refl | false ↦ refl ])
      | false ↦ e ∙ (elim owned as (λ b. b ≡ (b && true)) [ true ↦ refl | false ↦ refl ])
    ]

module _ (rows : List CountedRow) (regions : List Region) (s : State) (d : IsDomain rows regions s) (old v : Value) (o : ObjId) where
  abbrev frozen : Bool
  frozen = has_row s.given o || has_row s.own o

  told : (w : Option Owner) → owner_at rows o ≡ w → owner_in s.rows o ≡ w
  told w e = owner_told rows s.rows o ((d.counts).store).rows ∙ e

  named : o ∷ [] ≡ targets_of_value v → refused_target s (Some old) o (owner_of s o) ≡ refusal_as_content s (Some old) v
  named is = ap (refused_targets s (Some old)) is

  pub refused_none : o ∷ [] ≡ targets_of_value v → owner_at rows o ≡ None → None ≡ refusal_as_content s (Some old) v
  refused_none is e = (elim frozen as (λ b. None ≡ refused_target s (Some old) o (or_frozen b None)) [ true ↦ refl | false ↦ refl ]) ∙ ap (λ w. refused_target s (Some old) o (or_frozen frozen w)) (sym (told None e)) ∙ named is

  pub refused_frozen : o ∷ [] ≡ targets_of_value v → owner_at rows o ≡ Some Frozen → None ≡ refusal_as_content s (Some old) v
  refused_frozen is e = ap (λ w. refused_target s (Some old) o (or_frozen frozen w)) (sym (told (Some Frozen) e)) ∙ named is

  pub refused_local : o ∷ [] ≡ targets_of_value v → owner_at rows o ≡ Some Local → Some LocalInCown ≡ refusal_as_content s (Some old) v
  refused_local is e = ap (λ w. refused_target s (Some old) o (or_frozen frozen w)) (sym (told (Some Local) e)) ∙ named is

  module _ (r : ObjId) (e : owner_at rows o ≡ Some (In r)) where
    bridge_in : owner_in s.rows r ≡ Some (In r)
    bridge_in = (d.well_formed).bridge o r (told (Some (In r)) e)

    is_a_bridge : is_bridge s.rows r ≡ true
    is_a_bridge = ap (is_in r) bridge_in ∙ same_name_itself r

    pub region_there : has_region regions r ≡ true
    region_there = ((d.counts).table).regions r ∙ is_a_bridge

    owners : ltb 0 (owning_edges s r) ≡ owned_of regions r
    owners =
        ap (ltb 0) (near_owning s d.well_formed r (bridge_has_row s d.well_formed r is_a_bridge)) ∙ some_left (owns_region s.rows r) (near_edges s)
        ∙ sym (((d.counts).table).owned r is_a_bridge)

    pub refused_inside : o ∷ [] ≡ targets_of_value v → cond (same_name r o) (cond (owned_of regions r && not (same_value old (value.Obj o))) (Some SecondOwner) None) (Some Interior) ≡ refusal_as_content s (Some old) v
    refused_inside is =
        (elim (same_name r o) as (λ b. same_name r o ≡ b → cond b (cond (owned_of regions r && not (same_value old (value.Obj o))) (Some SecondOwner) None) (Some Interior) ≡ cond b (cond (ltb (counted o (Some old)) (owning_edges s o)) (Some SecondOwner) None) (Some Interior)) [
          | true ↦ λ t.
              let same : r ≡ o = same_name_is r o t in
              ap (λ b. cond b (Some SecondOwner) None) (sym (by_old old o (owning_edges s o) (owned_of regions r)
              (subst (λ q. owning_edges s q ≤ 1) same ((d.well_formed).one_owner r is_a_bridge)) (subst (λ q. ltb 0 (owning_edges s q) ≡ owned_of regions r) same owners)))
          | false ↦ λ t. refl
        ] refl)
        ∙ ap (λ w. refused_target s (Some old) o (or_frozen frozen w)) (sym (told (Some (In r)) e)) ∙ named is

-- ---- the write
module _ (rows : List CountedRow) (regions : List Region) (s : State) (d : IsDomain rows regions s) (c : CownId) (old v : Value) (w : IsContentWrite s c old v) where
  abbrev new_edges : List Edge
  new_edges = edges_by (Content c) (targets_of_value v)

  abbrev old_edges : List Edge
  old_edges = edges_by (Content c) (targets_of_value old)

  -- the edges without that of the old content
  pub record Others : Type 0 where
    pub edges : List Edge
    pub out : SameEdges (near_edges s) (old_edges ++ edges)
    pub held : content_at s.held c ≡ Some old → SameEdges (new_edges ++ edges) (near_edges (content_result s c v))
    pub made : c ≡ next_cown s → old ≡ value.None → SameEdges (new_edges ++ edges) (near_edges (made_result s v))

  no_edges : old ≡ value.None → old_edges ≡ []
  no_edges none = ap (λ u. edges_by (Content c) (targets_of_value u)) none

  held_then : (edges : List Edge) → SameEdges (near_edges s) (old_edges ++ edges) → content_at s.held c ≡ Some old → SameEdges (new_edges ++ edges) (near_edges (content_result s c v))
  held_then edges out at p =
      omega (
        arith,
        out p,
        near_content s c v old at p,
        count_app p new_edges (near_edges s),
        count_app p old_edges (near_edges (content_result s c v)),
        count_app p new_edges edges,
        count_app p old_edges edges,
      )

  made_then : (edges : List Edge) → SameEdges (near_edges s) (old_edges ++ edges) → c ≡ next_cown s → old ≡ value.None → SameEdges (new_edges ++ edges) (near_edges (made_result s v))
  made_then edges out is none p =
      let bare : count_by p (near_edges s) ≡ count_by p edges = out p ∙ ap (λ l. count_by p (l ++ edges)) (no_edges none) in
      let with_new : count_by p (near_edges (made_result s v)) ≡ count_by p (new_edges ++ near_edges s) = near_made s v p ∙ ap (λ d. count_by p (edges_by (Content d) (targets_of_value v) ++ near_edges s)) (sym is) in
      omega (arith, bare, with_new, count_app p new_edges (near_edges s), count_app p new_edges edges)

  pub others : Others
  others =
      elim (w.was) as (λ _. Others) [
        | inl at ↦
            let out : SameEdges (near_edges s) (old_edges ++ near_edges (content_result s c value.None)) = near_content s c value.None old at in
            record { edges = near_edges (content_result s c value.None); out = out; held = held_then (near_edges (content_result s c value.None)) out; made = made_then (near_edges (content_result s c value.None)) out }
        | inr b ↦
            let out : SameEdges (near_edges s) (old_edges ++ near_edges s) = λ p. ap (λ l. count_by p (l ++ near_edges s)) (sym (no_edges b.1)) in
            record { edges = near_edges s; out = out; held = held_then (near_edges s) out; made = made_then (near_edges s) out }
      ]

  pub may_uncount_old : MayUncountOwner rows regions s.rows (near_edges s) (others).edges (Content c) (targets_of_value old) None
  may_uncount_old = may_uncount_owner rows regions s d (Content c) (targets_of_value old) (others).edges (others).out None tt

  leads_by : (u : Value) → refusal_as_content s (Some old) u ≡ None → OnlyBridges s.rows (targets_of_value u) None
  leads_by (value.Obj q) e o r (inl is) h other =
      let z : cond (same_name r q) (cond (ltb (counted q (Some old)) (owning_edges s q)) (Some SecondOwner) None) (Some Interior) ≡ None =
      ap (λ b. refused_target s (Some old) q (or_frozen (has_row s.given q || has_row s.own q) b)) (sym (ap (owner_in s.rows) is ∙ h)) ∙ e in
      same_name_is r q (first_true (same_name r q) (ltb (counted q (Some old)) (owning_edges s q)) z) ∙ is where
        first_true : (a b : Bool) → cond a (cond b (Some SecondOwner) None) (Some Interior) ≡ None → a ≡ true
        first_true true b e = refl
        first_true false b e = absurd (cc)
  leads_by (value.Obj q) e o r (inr m) h other = absurd m
  leads_by value.None e o r m h other = absurd m
  leads_by (value.Bool b) e o r m h other = absurd m
  leads_by (value.Int i) e o r m h other = absurd m
  leads_by (value.Text t) e o r m h other = absurd m
  leads_by (value.Cown k) e o r m h other = absurd m

  pub may_count_new : (next : List CountedRow) (regions_next : List Region) → Counts next regions_next s.rows (others).edges → MayCountOwner next regions_next s.rows (others).edges (Content c) (targets_of_value v) None
  may_count_new next regions_next counts = record {
    counts = counts;
    bridges = (d.well_formed).bridge;
    lies = tt;
    leads = leads_by v w.allowed;
    few = omega (arith, d.few, (others).out (λ e. true), count_app (λ e. true) old_edges (others).edges, length_counts (near_edges s), length_counts (others).edges);
  }

  pub held_counts : (last : List CountedRow) (regions_last : List Region) → Counts last regions_last s.rows (new_edges ++ (others).edges) → content_at s.held c ≡ Some old → CountsOf last regions_last (content_result s c v)
  held_counts last regions_last counts at = same_counts last regions_last s.rows (new_edges ++ (others).edges) (near_edges (content_result s c v)) ((others).held at) counts

  pub made_counts : (last : List CountedRow) (regions_last : List Region) → Counts last regions_last s.rows (new_edges ++ (others).edges) → c ≡ next_cown s → old ≡ value.None → CountsOf last regions_last (made_result s v)
  made_counts last regions_last counts is none = same_counts last regions_last s.rows (new_edges ++ (others).edges) (near_edges (made_result s v)) ((others).made is none) counts

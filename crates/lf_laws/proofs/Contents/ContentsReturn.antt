-- Contents that leave one behaviour and enter the next, and leave that one again.
use Rattle.std.proofs.Common.{Bool, List, Some, [], ap, cond, false, inl, inr, length, map, not, refl, subst, sym, true, ◌&&◌, ◌++◌, ◌||◌, ◌∙◌, ◌∷◌, ◌≡◌, ℕ}
use Rattle.std.specs.List.{filter, flat_map}
use Rattle.lf_base.specs.declared.ids.CownId.{CownId}
use Rattle.lf_base.specs.declared.ids.ObjId.{ObjId}
use Rattle.lf_base.specs.declared.values.Owner.{Owner}
use Rattle.lf_base.specs.declared.values.Owner.TheVariants.{Frozen, In, Local}
use Rattle.lf_base.specs.declared.values.Value.{Value}
use Rattle.lf_base.specs.EndResult.{end_result}
use Rattle.lf_base.specs.Edges.{Content, Edge, content_edges, edges_by, rows_edges}
use Rattle.lf_base.specs.Kept.{is_owned_by, kept, kept_rows, points, points_into, stays, stays_by_owner}
use Rattle.lf_base.specs.Names.{cowns_of_value, is_local, name_below, same_cown, same_name, targets_of_value}
use Rattle.lf_base.specs.Owners.{has_row, is_in, is_local_at, names, owner_in}
use Rattle.lf_base.specs.Ownership.{is_in_other, is_owning}
use Rattle.lf_base.specs.PlainState.{Row, State}
use Rattle.lf_base.specs.Sets.{Differ, Member}
use Rattle.lf_base.specs.WalkCounts.{is_borrower}
use Rattle.lf_base.specs.WellFormed.{MayBeGiven, WellFormed, all_cowns, all_values, content_values, field_values, own_cowns, slot_values}
use Rattle.lf_laws.proofs.Rows.RowsByName.{Distinct, mem_has, owner_mem, differ_rows}
use Rattle.lf_laws.proofs.Dropping.EndState.{end_again, end_keeps}
use Rattle.lf_base.proofs.ListLemmas.Tests.{any_none, or_first}
use Rattle.lf_laws.proofs.Rows.InsertedRows.{all_inserted}
use Rattle.lf_base.proofs.ListLemmas.Sublists.{sub_shrink, order_sub, sub_map, differ_left}
use Rattle.lf_laws.proofs.Rows.RowEdges.{edge_row}
use Rattle.lf_laws.proofs.Dropping.KeptRows.{kept_in, kept_has, kept_meets}
use Rattle.std.proofs.lemmas.Bool.{both_ways, and_from, and_parts, not_from_false}
use Rattle.lf_base.proofs.ListLemmas.Members.{Member_any, Member_map, Member_flat_map, Member_of_flat_map, Member_of_map, any_Member, Member_left, Member_of_append, Member_right, Within}
use Rattle.lf_base.proofs.NameLemmas.NameOrder.{name_below_trans}
use Rattle.lf_base.specs.Contents.{Parked, alone, cowns_of, lone, part, parted, stored, values_of}
use Rattle.lf_base.proofs.ListLemmas.Filters.{filter_all}
use Rattle.lf_base.proofs.NameLemmas.SameNames.{one_cown, same_cown_is}
use Rattle.lf_base.specs.EndResult.{without_near}
use Rattle.lf_base.specs.WholeContents.{Ended, IsUnborn, MayBegin, StandsAlone, Whole, all_frozen}
use Rattle.lf_laws.proofs.Contents.JoinedRows.{joined_in, rows_in}
use Rattle.lf_laws.proofs.Contents.PartsApart.{parts_apart}
use Rattle.lf_laws.proofs.Contents.StoredContents.{same_cowns, stored_stay, stored_whole}
use Rattle.lf_laws.proofs.Rows.RowsInOrder.{rise_distinct, same_rows}
use Rattle.lf_base.proofs.ListLemmas.Filters.{Member_of_filter}
use Rattle.std.proofs.lemmas.Bool.{not-true}
use Rattle.lf_laws.proofs.Contents.ContentsStand.{all_cold, all_keys, all_lead, all_rise, content_stands}

-- of two contents of one cown there is one
one_of : (cs : List (CownId × Parked)) → Differ same_cown (cowns_of cs) → (c d : CownId × Parked) → Member c cs → Member d cs → d.0 ≡ c.0 → d ≡ c
one_of [] f c d m n e = absurd m
one_of (x ∷ xs) f c d (inl h) (inl k) e = sym k ∙ h
one_of (x ∷ xs) f c d (inl h) (inr n) e = absurd (both_ways _ f.0 (Member_any (λ z. same_cown z x.0) d.0 (cowns_of xs) (Member_map (λ (z : CownId × Parked). z.0) d xs n) (one_cown d.0 x.0 (e ∙ ap (λ (z : CownId × Parked). z.0) (sym h)))))
one_of (x ∷ xs) f c d (inr m) (inl k) e = absurd (both_ways _ f.0 (Member_any (λ z. same_cown z x.0) c.0 (cowns_of xs) (Member_map (λ (z : CownId × Parked). z.0) c xs m) (one_cown c.0 x.0 (sym e ∙ ap (λ (z : CownId × Parked). z.0) (sym k)))))
one_of (x ∷ xs) f c d (inr m) (inr n) e = one_of xs f.1 c d m n e

-- an ended state of which all rows stay is its own end
pub ended_again : (e : State) → Ended e → kept e ≡ e → end_result e ≡ e
ended_again e t all = ap kept (λ i. record e { slots = sym t.no_slots i; rows = none_near i }) ∙ all
  where
    none_near : filter (λ (r : Row). not (is_local r.owner)) e.rows ≡ e.rows
    none_near = filter_all (λ (r : Row). not (is_local r.owner)) e.rows (λ x m. not_from_false _ (t.no_locals x m))

-- ---- contents that stand each by itself, in one state
-- what stands for a behaviour stands alone
pub whole_alone : (b : ℕ) (c : CownId) (v : Parked) (frozen : List Row) → Whole b c v frozen → StandsAlone c v
whole_alone b c v frozen t = record { rise = (t.whole).rows_rise; no_locals = t.no_locals; all_stay = ap (λ (z : State). z.rows) t.all_stay }

module _ (b : ℕ) (cs : List (CownId × Parked)) (frozen : List Row) (w : WellFormed (stored b cs frozen)) (stands : (c : CownId × Parked) → Member c cs → StandsAlone c.0 c.1) where
  abbrev u : State
  u = stored b cs frozen

  distinct : Distinct u.rows
  distinct = differ_rows u.rows (names frozen ++ []) w.names_differ

  pub stored_ended : Ended u
  stored_ended = record { whole = w; no_slots = refl; no_locals = λ x m. let d = joined_in cs x m in (stands d.0 d.1.0).no_locals x d.1.1 }

  module _ (c : CownId × Parked) (m : Member c cs) where
    abbrev held : CownId × Value
    held = (c.0, (c.1).value)

    abbrev one : State
    one = lone c.0 c.1

    one_distinct : Distinct one.rows
    one_distinct = rise_distinct one.rows (stands c m).rise

    up : Within one.rows u.rows
    up = rows_in cs c m

    no_points : (r : ObjId) → points_into one.rows one r ≡ false
    no_points r = any_none (λ (d : Edge). is_borrower one.rows d.from && is_in r (owner_in one.rows d.to)) (rows_edges one.rows) (λ d k.
        let x = edge_row one.rows d k in
        ap (λ f. is_borrower one.rows f && is_in r (owner_in one.rows d.to)) x.from
        ∙ ap (λ o. is_local_at o && is_in r (owner_in one.rows d.to)) (owner_mem one.rows one_distinct x.row x.mem)
        ∙ not_local (x.row).owner ((stands c m).no_locals x.row x.mem) (is_in r (owner_in one.rows d.to)))
      where
        not_local : (o : Owner) → is_local o ≡ false → (b : Bool) → (is_local_at (Some o) && b) ≡ false
        not_local Local e b = absurd (both_ways true e refl)
        not_local (In r) e b = refl
        not_local Frozen e b = refl

    -- an edge of that content owns in the whole state what it owns by itself
    same_owning : (r : ObjId) (d : Edge) → Member d (rows_edges one.rows ++ (content_edges (held ∷ []) ++ [])) → is_owning u.rows d.from r ≡ is_owning one.rows d.from r
    same_owning r d k = elim (Member_of_append d (rows_edges one.rows) (content_edges (held ∷ []) ++ []) k) [
      | inl n ↦
          let y = edge_row one.rows d n in
          ap (λ f. is_owning u.rows f r) y.from ∙ ap (is_in_other r) (owner_mem u.rows distinct y.row (up y.row y.mem) ∙ sym (owner_mem one.rows one_distinct y.row y.mem)) ∙ sym (ap (λ f. is_owning one.rows f r) y.from)
      | inr n ↦ elim (Member_of_append d (content_edges (held ∷ [])) [] n) [
        | inl z ↦ elim (Member_of_append d (edges_by (Content c.0) (targets_of_value (c.1).value)) [] z) [
          | inl y ↦ let o = Member_of_map (λ (o : ObjId). record { from = Content c.0; to = o }) d (targets_of_value (c.1).value) y in
              let from : d.from ≡ Content c.0 = ap (λ (d : Edge). d.from) (sym o.1.1) in
              ap (λ f. is_owning u.rows f r) from ∙ sym (ap (λ f. is_owning one.rows f r) from)
          | inr y ↦ absurd y
        ]
        | inr z ↦ absurd z
      ]
    ]

    owned_up : (r : ObjId) → is_owned_by one.rows one r ≡ true → is_owned_by one.rows (alone u held) r ≡ true
    owned_up r h =
        let x = any_Member (λ (d : Edge). is_owning one.rows d.from r && same_name d.to r) (rows_edges one.rows ++ (content_edges (held ∷ []) ++ [])) h in
        let p = and_parts (is_owning one.rows (x.0).from r) (same_name (x.0).to r) x.1.1 in
        Member_any (λ (d : Edge). is_owning u.rows d.from r && same_name d.to r) x.0 (rows_edges one.rows ++ (content_edges (held ∷ []) ++ [])) x.1.0 (and_from _ _ (same_owning r x.0 x.1.0 ∙ p.0) p.1)

    stays_up : (o : ObjId) (x : Owner) → stays_by_owner one one.rows o x ≡ true → stays_by_owner (alone u held) one.rows o x ≡ true
    stays_up o Local e = e
    stays_up o Frozen e = refl
    stays_up o (In r) e = elim (same_name r o) as (λ b. cond b (is_owned_by one.rows one r || points_into one.rows one r) (has_row one.rows r && points one.rows one o) ≡ true → cond b (is_owned_by one.rows (alone u held) r || points_into one.rows (alone u held) r) (has_row one.rows r && points one.rows (alone u held) o) ≡ true) [
      | true ↦ λ k. ap (λ b. b || points_into one.rows (alone u held) r) (owned_up r (or_first (is_owned_by one.rows one r) (points_into one.rows one r) k (no_points r)))
      | false ↦ λ k. k
    ] e

    rows_in_part : Within one.rows (part u held)
    rows_in_part = kept_has (alone u held) one.rows (λ x k. stays_up x.name x.owner (subst (λ rows. stays one rows x ≡ true) all (kept_meets one x (subst (Member x) (sym all) k)))) up
      where
        all : kept_rows one ≡ one.rows
        all = (stands c m).all_stay

  named_with : CownId × Parked → CownId × Value
  named_with d = (d.0, (d.1).value)

  held_in : (d : CownId × Parked) → Member d cs → Member (d.0, (d.1).value) (u.held ++ [])
  held_in d n = Member_left _ u.held [] (Member_map (λ (q : CownId × Parked). (q.0, (q.1).value)) d cs n)

  part_in_rows : (c : CownId × Parked) → Member c cs → Within (part u (c.0, (c.1).value)) (c.1).rows
  part_in_rows c m x k =
      let d = joined_in cs x (kept_in (alone u (c.0, (c.1).value)) x k) in
      let there : has_row (part u ((d.0).0, ((d.0).1).value)) x.name ≡ true = mem_has x (part u ((d.0).0, ((d.0).1).value)) (rows_in_part d.0 d.1.0 x d.1.1) in
      elim (same_cown (d.0).0 c.0) as (λ b. same_cown (d.0).0 c.0 ≡ b → Member x (c.1).rows) [
        | true ↦ λ e. subst (λ (z : CownId × Parked). Member x (z.1).rows) (one_of cs (subst (Differ same_cown) (same_cowns cs) (differ_left same_cown (cowns_of (values_of cs)) [] w.cowns_differ)) c d.0 m d.1.0 (same_cown_is (d.0).0 c.0 e)) d.1.1
        | false ↦ λ e. absurd (parts_apart u stored_ended ((d.0).0, ((d.0).1).value) (c.0, (c.1).value) (held_in d.0 d.1.0) (held_in c m) (λ h. both_ways _ e (one_cown (d.0).0 c.0 h)) x.name there (mem_has x (part u (c.0, (c.1).value)) k))
      ] refl

  -- the part of a content is what the content had
  pub part_is : (c : CownId × Parked) → Member c cs → part u (c.0, (c.1).value) ≡ (c.1).rows
  part_is c m = same_rows (part u (c.0, (c.1).value)) (c.1).rows (order_sub name_below name_below_trans (sub_map (λ (r : Row). r.name) (sub_shrink (stays (alone u (c.0, (c.1).value))) (length u.rows) u.rows)) w.rows_rise) (stands c m).rise (part_in_rows c m) (rows_in_part c m)

  parted_all : (ds : List (CownId × Parked)) → Within ds cs → parted u (values_of ds) ≡ ds
  parted_all [] w = refl
  parted_all (d ∷ ds) w = λ i. (d.0, record { value = (d.1).value; rows = part_is d (w d (inl refl)) i }) ∷ parted_all ds (λ x m. w x (inr m)) i

  -- the contents are the state's parts
  pub parted_is : parted u (values_of cs) ≡ cs
  parted_is = parted_all cs (λ x m. m)

  -- what its end leaves is what it began with
  pub end_is : kept u ≡ u → end_result u ≡ u
  end_is all = ended_again u stored_ended all

-- ---- from an ended state to the next behaviour
module _ (e : State) (t : Ended e) (all : kept e ≡ e) (b : ℕ) (new : IsUnborn b e) where
  frozen_row : (x : Row) → Member x (all_frozen e) → Member x (e.given ++ e.own)
  frozen_row x m = elim (all_inserted e.own e.given x m) [ inl k ↦ Member_right x e.given e.own k | inr k ↦ Member_left x e.given e.own k ]

  given_next : MayBeGiven b (all_frozen e)
  given_next = record {
    rise = all_rise e t;
    keys_differ = all_keys e t;
    frozen = all_cold e t;
    leads = all_lead e t;
    no_object = λ o m h. let x = Member_of_map (λ (r : Row). r.name) o (all_frozen e) m in new.no_object o (Member_right o (names e.rows) _ (subst (λ n. Member n (names e.given ++ names e.own)) x.1.1 (named_there x.0 (frozen_row x.0 x.1.0)))) h;
    no_cown = λ c m h. new.no_cown c (cown_there c m) h;
  }
    where
      named_there : (x : Row) → Member x (e.given ++ e.own) → Member x.name (names e.given ++ names e.own)
      named_there x m = elim (Member_of_append x e.given e.own m) [
        | inl k ↦ Member_left x.name (names e.given) (names e.own) (Member_map (λ (r : Row). r.name) x e.given k)
        | inr k ↦ Member_right x.name (names e.given) (names e.own) (Member_map (λ (r : Row). r.name) x e.own k)
      ]

      values_there : (v : Value) → Member v (field_values (all_frozen e)) → Member v (field_values e.given ++ field_values e.own)
      values_there v m =
          let x = Member_of_flat_map (λ (r : Row). map (λ f. f.1) r.fields) v (all_frozen e) m in
          elim (all_inserted e.own e.given x.0 x.1.0) [
            | inl k ↦ Member_right v (field_values e.given) (field_values e.own) (Member_flat_map (λ (r : Row). map (λ f. f.1) r.fields) x.0 v e.own k x.1.1)
            | inr k ↦ Member_left v (field_values e.given) (field_values e.own) (Member_flat_map (λ (r : Row). map (λ f. f.1) r.fields) x.0 v e.given k x.1.1)
          ]

      cown_there : (c : CownId) → Member c (flat_map cowns_of_value (field_values (all_frozen e))) → Member c (all_cowns e)
      cown_there c m =
          let v = Member_of_flat_map cowns_of_value c (field_values (all_frozen e)) m in
          Member_right c (own_cowns e) _ (Member_flat_map cowns_of_value v.0 c (all_values e)
          (Member_right v.0 (slot_values e.slots) _ (Member_right v.0 (field_values e.rows) _ (Member_right v.0 (content_values e.held) _ (Member_right v.0 (content_values e.made) _ (values_there v.0 v.1.0))))) v.1.1)

  module _ (os : List (CownId × Value)) (within : Within os (e.held ++ e.made)) (differ : Differ same_cown (map (λ (c : CownId × Value). c.0) os)) where
    abbrev cs : List (CownId × Parked)
    cs = parted e os

    of_parted : (c : CownId × Parked) → Member c cs → (o : CownId × Value) × (Member o (e.held ++ e.made) × ((o.0, record { value = o.1; rows = part e o }) ≡ c))
    of_parted c m = let x = Member_of_map (λ (o : CownId × Value). (o.0, record { value = o.1; rows = part e o })) c os m in (x.0, (within x.0 x.1.0, x.1.1))

    pub each_whole : (c : CownId × Parked) → Member c cs → Whole b c.0 c.1 (all_frozen e)
    each_whole c m = let x = of_parted c m in subst (λ (z : CownId × Parked). Whole b z.0 z.1 (all_frozen e)) x.1.1 (content_stands e t b x.0 x.1.0 new.no_object new.no_cown)

    names_apart : (c d : CownId × Parked) (o : ObjId) → Member c cs → Member d cs → has_row (c.1).rows o ≡ true → has_row (d.1).rows o ≡ true → c.0 ≡ d.0
    names_apart c d o m n h k =
        let x = of_parted c m in
        let y = of_parted d n in
        elim (same_cown c.0 d.0) as (λ z. same_cown c.0 d.0 ≡ z → c.0 ≡ d.0) [
          | true ↦ λ f. same_cown_is c.0 d.0 f
          | false ↦ λ f. absurd (parts_apart e t x.0 y.0 x.1.0 y.1.0 (λ g. both_ways _ f (one_cown c.0 d.0 (sym (ap (λ (z : CownId × Parked). z.0) x.1.1) ∙ g ∙ ap (λ (z : CownId × Parked). z.0) y.1.1))) o
              (subst (λ (z : CownId × Parked). has_row (z.1).rows o ≡ true) (sym x.1.1) h) (subst (λ (z : CownId × Parked). has_row (z.1).rows o ≡ true) (sym y.1.1) k))
        ] refl

    cowns_are : (os : List (CownId × Value)) → cowns_of (parted e os) ≡ map (λ (c : CownId × Value). c.0) os
    cowns_are [] = refl
    cowns_are (x ∷ xs) = ap (λ l. x.0 ∷ l) (cowns_are xs)

    pub next_whole : WellFormed (stored b cs (all_frozen e))
    next_whole = stored_whole b (all_frozen e) given_next cs each_whole names_apart (subst (Differ same_cown) (sym (cowns_are os)) differ)

    -- the next behaviour may begin with them
    pub may_begin : MayBegin b cs (all_frozen e)
    may_begin = record { whole = next_whole; all_stay = stored_stay b cs (all_frozen e) next_whole each_whole }

    pub each_alone : (c : CownId × Parked) → Member c cs → StandsAlone c.0 c.1
    each_alone c m = whole_alone b c.0 c.1 (all_frozen e) (each_whole c m)

pub end_ended : (s : State) → WellFormed s → Ended (end_result s)
end_ended s t = record { whole = end_keeps s t; no_slots = refl; no_locals = λ x m. not-true _ (Member_of_filter (λ (r : Row). not (is_local r.owner)) x s.rows (kept_in (without_near s) x m)).1 }

pub end_once : (s : State) → WellFormed s → end_result (end_result s) ≡ end_result s
end_once s t = ended_again (end_result s) (end_ended s t) (end_again s t)

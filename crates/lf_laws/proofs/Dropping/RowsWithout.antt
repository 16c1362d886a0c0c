-- A state without some rows that can go: the same rows stay, and whatever nothing justifies is watched again.
use Rattle.std.proofs.Common.{Bool, List, None, Option, Some, [], ap, cond, false, inl, inr, length, not, refl, subst, sym, true, ◌&&◌, ◌++◌, ◌||◌, ◌∙◌, ◌∷◌, ◌≡◌, ◌⊎◌}
use Rattle.std.specs.List.{filter}
use Rattle.lf_base.specs.declared.ids.ObjId.{ObjId}
use Rattle.lf_base.specs.declared.values.Owner.{Owner}
use Rattle.lf_base.specs.declared.values.Owner.TheVariants.{Frozen, In, Local}
use Rattle.lf_base.specs.Edges.{Content, Edge, Field, Slot, Source, content_edges, edges, row_edges, rows_edges, slot_edges}
use Rattle.lf_base.specs.Kept.{is_owned_by, kept_rows, points, points_into, stays, stays_by_owner}
use Rattle.lf_base.specs.Names.{same_name}
use Rattle.lf_base.specs.Owners.{has_row, is_in, is_local_at, or_frozen, owner_in, row_at, row_owner}
use Rattle.lf_base.specs.Ownership.{is_in_other, is_owning, round}
use Rattle.lf_base.specs.PlainState.{Row, State}
use Rattle.lf_base.specs.Sets.{Member}
use Rattle.lf_base.specs.Settling.{CanGo, Idle, Renewed, Run, Spent, Watched, WatchedBy, Watches, drop, finish, forget, without}
use Rattle.lf_base.specs.Suspects.{AllHang, Bare, Object, Region, Suspect}
use Rattle.lf_base.specs.WalkCounts.{is_borrower}
use Rattle.lf_base.specs.WellFormed.{from_content, from_near, from_row, may_lead}
use Rattle.lf_laws.proofs.Rows.RowsByName.{Distinct, mem_has, sub_same, owner_there}
use Rattle.lf_base.proofs.ListLemmas.Sublists.{sub_filter, sub_shrink, sub_then}
use Rattle.std.proofs.lemmas.Bool.{and_from, and_parts, not_from_false, both_ways, false_from_ne_true, not-true, or_left}
use Rattle.lf_base.proofs.ListLemmas.Tests.{any_weaker, by_test, or_map}
use Rattle.lf_laws.proofs.Dropping.HangingRows.{settled}
use Rattle.lf_laws.proofs.Rows.RowEdges.{edge_row, field_is}
use Rattle.lf_laws.proofs.Dropping.KeptRows.{kept_in, kept_has, kept_meets}
use Rattle.lf_base.proofs.ListLemmas.Members.{Member_of_flat_map, Member_of_map, Within_append, Within_flat_map, any_more, Member_left, Member_of_append, Member_right, Within}
use Rattle.std.proofs.Math.Bool.{or-true}
use Rattle.lf_base.proofs.NameLemmas.SameNames.{same_name_is}
use Rattle.lf_laws.proofs.Owners.OwnersGoRound.{owns_within, round_before}
use Rattle.lf_base.proofs.ListLemmas.Filters.{Member_filter, Member_of_filter}
use Rattle.lf_laws.proofs.Dropping.RowsInPlace.{RowsInPlace}
use Rattle.lf_laws.proofs.Dropping.HangingIsWatched.{hang_watched}
use Rattle.std.proofs.lemmas.Option.{none-some}

-- ---- look-ups
pub owner_stay : (rows : List Row) (gone : ObjId → Bool) (o : ObjId) → gone o ≡ false → owner_in (filter (λ r. not (gone r.name)) rows) o ≡ owner_in rows o
owner_stay [] gone o h = refl
owner_stay (r ∷ rs) gone o h =
    elim (gone r.name) as (λ b. gone r.name ≡ b → owner_in (cond (not b) (r ∷ filter (λ q. not (gone q.name)) rs) (filter (λ q. not (gone q.name)) rs)) o ≡ owner_in (r ∷ rs) o) [
      | true ↦ λ e. owner_stay rs gone o h ∙ sym (ap (λ c. row_owner (cond c (Some r) (row_at rs o))) (false_from_ne_true (same_name r.name o) (λ k. both_ways _ h (ap gone (sym (same_name_is r.name o k)) ∙ e))))
      | false ↦ λ e. elim (same_name r.name o) as (λ c. row_owner (cond c (Some r) (row_at (filter (λ q. not (gone q.name)) rs) o)) ≡ row_owner (cond c (Some r) (row_at rs o))) [ true ↦ refl | false ↦ owner_stay rs gone o h ]
    ] refl

pub owner_lost : (rows : List Row) (gone : ObjId → Bool) (o : ObjId) → gone o ≡ true → owner_in (filter (λ r. not (gone r.name)) rows) o ≡ None
owner_lost [] gone o h = refl
owner_lost (r ∷ rs) gone o h =
    elim (gone r.name) as (λ b. gone r.name ≡ b → owner_in (cond (not b) (r ∷ filter (λ q. not (gone q.name)) rs) (filter (λ q. not (gone q.name)) rs)) o ≡ None) [
      | true ↦ λ e. owner_lost rs gone o h
      | false ↦ λ e. ap (λ c. row_owner (cond c (Some r) (row_at (filter (λ q. not (gone q.name)) rs) o))) (false_from_ne_true (same_name r.name o) (λ k. both_ways _ (ap gone (sym (same_name_is r.name o k)) ∙ e) h)) ∙ owner_lost rs gone o h
    ] refl

-- what has an owner still isn't gone
pub owner_old : (rows : List Row) (gone : ObjId → Bool) (o : ObjId) (w : Owner) → owner_in (filter (λ r. not (gone r.name)) rows) o ≡ Some w → (gone o ≡ false) × (owner_in rows o ≡ Some w)
owner_old rows gone o w h =
    let n : gone o ≡ false = false_from_ne_true (gone o) (λ k. none-some w (sym (owner_lost rows gone o k) ∙ h)) in
    (n, sym (owner_stay rows gone o n) ∙ h)

pub show : (f : Option Owner → Bool) → f None ≡ false → (rows : List Row) (gone : ObjId → Bool) (o : ObjId) → f (owner_in (filter (λ r. not (gone r.name)) rows) o) ≡ true → f (owner_in rows o) ≡ true
show f blank rows gone o h =
    let n : gone o ≡ false = false_from_ne_true (gone o) (λ k. both_ways _ blank (sym (ap f (owner_lost rows gone o k)) ∙ h)) in
    sym (ap f (owner_stay rows gone o n)) ∙ h

has_less : (rows : List Row) (p : Row → Bool) (o : ObjId) → has_row rows o ≡ false → has_row (filter p rows) o ≡ false
has_less rows p o h = false_from_ne_true _ (λ k. both_ways _ h (any_more (λ (r : Row). same_name r.name o) (filter p rows) rows (λ x m. (Member_of_filter p x rows m).0) k))

distinct_filter : (p : Row → Bool) (rows : List Row) → Distinct rows → Distinct (filter p rows)
distinct_filter p [] d = d
distinct_filter p (r ∷ rs) d = elim (p r) as (λ b. Distinct (cond b (r ∷ filter p rs) (filter p rs))) [
  | true ↦ (has_less rs p r.name d.0, distinct_filter p rs d.1)
  | false ↦ distinct_filter p rs d.1
]

-- a set of rows may be left out before what stays is found: none of them stays, and nothing that is left leads to them
pub record MayBeLeftOut (s : State) (gone : ObjId → Bool) : Type 0 where
  pub none_stays : (x : Row) → Member x (kept_rows s) → gone x.name ≡ false
  pub clear : (e : Edge) → Member e (edges (without s gone)) → gone e.to ≡ false

module _ (s : State) (d : Distinct s.rows) (gone : ObjId → Bool) (c : MayBeLeftOut s gone) where
  abbrev rest : State
  rest = without s gone

  rest_rows : Within rest.rows s.rows
  rest_rows x m = (Member_of_filter (λ (r : Row). not (gone r.name)) x s.rows m).0

  rest_stays : (x : Row) → Member x rest.rows → gone x.name ≡ false
  rest_stays x m = not-true _ (Member_of_filter (λ (r : Row). not (gone r.name)) x s.rows m).1

  rest_edges : Within (edges rest) (edges s)
  rest_edges = Within_append (slot_edges s.slots) (slot_edges s.slots) _ _ (λ x h. h)
      (Within_append (rows_edges rest.rows) (rows_edges s.rows) _ _ (Within_flat_map row_edges rest.rows s.rows rest_rows) (λ x h. h))

  kept_rest : Within (kept_rows s) rest.rows
  kept_rest x m = Member_filter (λ (r : Row). not (gone r.name)) x s.rows (kept_in s x m) (not_from_false _ (c.none_stays x m))

  -- an edge from a slot or a row that stays leads to a row that stays
  near_clear : (rows : List Row) → Within rows rest.rows → (e : Edge) → Member e (slot_edges s.slots ++ rows_edges rows) → gone e.to ≡ false
  near_clear rows w e m = c.clear e (elim (Member_of_append e (slot_edges s.slots) (rows_edges rows) m) [
    | inl k ↦ Member_left e (slot_edges s.slots) _ k
    | inr k ↦ Member_right e (slot_edges s.slots) _ (Member_left e (rows_edges rest.rows) _ (Within_flat_map row_edges rows rest.rows w e k))
  ])

  owning_less : (f : Source) (r : ObjId) → is_owning rest.rows f r ≡ true → is_owning s.rows f r ≡ true
  owning_less Slot r e = e
  owning_less (Field p) r e = show (is_in_other r) refl s.rows gone p e
  owning_less (Content k) r e = e

  borrower_less : (f : Source) → is_borrower rest.rows f ≡ true → is_borrower s.rows f ≡ true
  borrower_less Slot e = e
  borrower_less (Field p) e = show is_local_at refl s.rows gone p e
  borrower_less (Content k) e = e

  -- sources that aren't gone rows look the same
  abbrev Left : Source → Type 0
  Left f = (p : ObjId) → f ≡ Field p → gone p ≡ false

  owning_same : (f : Source) (r : ObjId) → Left f → is_owning rest.rows f r ≡ is_owning s.rows f r
  owning_same Slot r l = refl
  owning_same (Field p) r l = ap (is_in_other r) (owner_stay s.rows gone p (l p refl))
  owning_same (Content k) r l = refl

  borrower_same : (f : Source) → Left f → is_borrower rest.rows f ≡ is_borrower s.rows f
  borrower_same Slot l = refl
  borrower_same (Field p) l = ap is_local_at (owner_stay s.rows gone p (l p refl))
  borrower_same (Content k) l = refl

  row_left : (rows : List Row) → Within rows rest.rows → (e : Edge) → Member e (rows_edges rows) → Left e.from
  row_left rows w e m p f = let x = edge_row rows e m in ap gone (field_is p (x.row).name (sym f ∙ x.from)) ∙ rest_stays x.row (w x.row x.mem)

  slot_from : (e : Edge) → Member e (slot_edges s.slots) → e.from ≡ Slot
  slot_from e m = let t = Member_of_flat_map _ e s.slots m in let o = Member_of_map _ e _ t.1.1 in ap (λ (d : Edge). d.from) (sym o.1.1)

  content_from : (cs : _) (e : Edge) → Member e (content_edges cs) → Left e.from
  content_from cs e m p f = let t = Member_of_flat_map _ e cs m in let o = Member_of_map _ e _ t.1.1 in let k = ap (λ (d : Edge). d.from) o.1.1 ∙ f in cc

  near_left : (rows : List Row) → Within rows rest.rows → (e : Edge) → Member e (slot_edges s.slots ++ rows_edges rows) → Left e.from
  near_left rows w e m = elim (Member_of_append e (slot_edges s.slots) (rows_edges rows) m) [
    | inl k ↦ λ p f. let z = sym (slot_from e k) ∙ f in cc
    | inr k ↦ row_left rows w e k
  ]

  owner_left : (rows : List Row) → Within rows rest.rows → (e : Edge) → Member e (rows_edges rows ++ (content_edges s.held ++ content_edges s.made)) → Left e.from
  owner_left rows w e m = elim (Member_of_append e (rows_edges rows) (content_edges s.held ++ content_edges s.made) m) [
    | inl k ↦ row_left rows w e k
    | inr k ↦ elim (Member_of_append e (content_edges s.held) (content_edges s.made) k) [ inl n ↦ content_from s.held e n | inr n ↦ content_from s.made e n ]
  ]

  -- what a part of the rows shows in what is left it shows in the whole, and the other way
  owned_less : (rows : List Row) (r : ObjId) → is_owned_by rows rest r ≡ true → is_owned_by rows s r ≡ true
  owned_less rows r = any_weaker _ _ (rows_edges rows ++ (content_edges s.held ++ content_edges s.made)) (λ x m h. let k = and_parts _ _ h in and_from _ _ (owning_less x.from r k.0) k.1)

  into_less : (rows : List Row) (r : ObjId) → points_into rows rest r ≡ true → points_into rows s r ≡ true
  into_less rows r = any_weaker _ _ (slot_edges s.slots ++ rows_edges rows) (λ x m h. let k = and_parts _ _ h in and_from _ _ (borrower_less x.from k.0) (show (is_in r) refl s.rows gone x.to k.1))

  owned_back : (rows : List Row) → Within rows rest.rows → (r : ObjId) → is_owned_by rows s r ≡ true → is_owned_by rows rest r ≡ true
  owned_back rows w r = any_weaker _ _ (rows_edges rows ++ (content_edges s.held ++ content_edges s.made)) (λ x m h. let k = and_parts _ _ h in and_from _ _ (owning_same x.from r (owner_left rows w x m) ∙ k.0) k.1)

  into_back : (rows : List Row) → Within rows rest.rows → (r : ObjId) → points_into rows s r ≡ true → points_into rows rest r ≡ true
  into_back rows w r = any_weaker _ _ (slot_edges s.slots ++ rows_edges rows) (λ x m h. let k = and_parts _ _ h in
      and_from _ _ (borrower_same x.from (near_left rows w x m) ∙ k.0) (ap (is_in r) (owner_stay s.rows gone x.to (near_clear rows w x m)) ∙ k.1))

  stays_less : (rows : List Row) (o : ObjId) (w : Owner) → stays_by_owner rest rows o w ≡ true → stays_by_owner s rows o w ≡ true
  stays_less rows o Local e = e
  stays_less rows o Frozen e = e
  stays_less rows o (In r) e =
      elim (same_name r o) as (λ b. cond b (is_owned_by rows rest r || points_into rows rest r) (has_row rows r && points rows rest o) ≡ true → cond b (is_owned_by rows s r || points_into rows s r) (has_row rows r && points rows s o) ≡ true) [
        | true ↦ or_map _ _ _ _ (owned_less rows r) (into_less rows r)
        | false ↦ λ h. h
      ] e

  stays_back : (rows : List Row) → Within rows rest.rows → (o : ObjId) (w : Owner) → stays_by_owner s rows o w ≡ true → stays_by_owner rest rows o w ≡ true
  stays_back rows i o Local e = e
  stays_back rows i o Frozen e = e
  stays_back rows i o (In r) e =
      elim (same_name r o) as (λ b. cond b (is_owned_by rows s r || points_into rows s r) (has_row rows r && points rows s o) ≡ true → cond b (is_owned_by rows rest r || points_into rows rest r) (has_row rows r && points rows rest o) ≡ true) [
        | true ↦ or_map _ _ _ _ (owned_back rows i r) (into_back rows i r)
        | false ↦ λ h. h
      ] e

  rest_kept_in : Within (kept_rows rest) rest.rows
  rest_kept_in = kept_in rest

  pub kept_left_out : kept_rows rest ≡ kept_rows s
  kept_left_out =
      sub_same (kept_rows rest) (kept_rows s) s.rows d
      (sub_then (sub_shrink (stays rest) (length rest.rows) rest.rows) (sub_filter _ s.rows))
      (sub_shrink (stays s) (length s.rows) s.rows)
      (kept_has s (kept_rows rest) (λ x m. stays_less (kept_rows rest) x.name x.owner (kept_meets rest x m)) (λ x m. rest_rows x (rest_kept_in x m)))
      (kept_has rest (kept_rows s) (λ x m. stays_back (kept_rows s) kept_rest x.name x.owner (kept_meets s x m)) kept_rest)

module _ (s : State) (g : RowsInPlace s) (gone : ObjId → Bool) (c : CanGo s gone) where
  left_out : MayBeLeftOut s gone
  left_out = record {
    none_stays = λ x m. false_from_ne_true _ (λ k. both_ways _ (c.must x.name k).goes (mem_has x (kept_rows s) m));
    clear = c.clear;
  }

  pub kept_without : kept_rows (without s gone) ≡ kept_rows s
  kept_without = kept_left_out s g.distinct gone left_out

  -- ---- the setting stays
  frozen_left : (o : ObjId) → (has_row s.given o || has_row s.own o) ≡ true → gone o ≡ false
  frozen_left o h = false_from_ne_true _ (λ k. let t = owner_there s.rows g.distinct o (c.must o k).here in none-some t.owner (sym (g.apart o h) ∙ t.is))

  frozen_edge : (rows : List Row) → ((o : ObjId) → has_row rows o ≡ true → gone o ≡ false) → (e : Edge) → Member e (rows_edges rows) → Left s g.distinct gone left_out e.from
  frozen_edge rows h e m p f = let x = edge_row rows e m in ap gone (field_is p (x.row).name (sym f ∙ x.from)) ∙ h (x.row).name (mem_has x.row rows x.mem)

  all_left : (e : Edge) → Member e (edges (without s gone)) → Left s g.distinct gone left_out e.from
  all_left e m =
      elim (Member_of_append e (slot_edges s.slots) _ m) [
        | inl k ↦ λ p f. let z = sym (slot_from s g.distinct gone left_out e k) ∙ f in cc
        | inr k ↦ elim (Member_of_append e (rows_edges (without s gone).rows) _ k) [
          | inl n ↦ row_left s g.distinct gone left_out (without s gone).rows (λ x h. h) e n
          | inr n ↦ elim (Member_of_append e (content_edges s.held) _ n) [
            | inl q ↦ content_from s g.distinct gone left_out s.held e q
            | inr q ↦ elim (Member_of_append e (content_edges s.made) _ q) [
              | inl z ↦ content_from s g.distinct gone left_out s.made e z
              | inr z ↦ elim (Member_of_append e (rows_edges s.given) (rows_edges s.own) z) [
                | inl y ↦ frozen_edge s.given (λ o h. frozen_left o (or_left _ _ h)) e y
                | inr y ↦ frozen_edge s.own (λ o h. frozen_left o (ap (λ b. has_row s.given o || b) h ∙ or-true _)) e y
              ]
            ]
          ]
        ]
      ]

  lead_same : (f : Source) (o : ObjId) → Left s g.distinct gone left_out f → gone o ≡ false → may_lead (without s gone) f o ≡ may_lead s f o
  lead_same Slot o l n = ap (λ w. from_near (or_frozen (has_row s.given o || has_row s.own o) w)) (owner_stay s.rows gone o n)
  lead_same (Field p) o l n = λ i. from_row (or_frozen (has_row s.given p || has_row s.own p) (owner_stay s.rows gone p (l p refl) i)) o (or_frozen (has_row s.given o || has_row s.own o) (owner_stay s.rows gone o n i))
  lead_same (Content k) o l n = ap (λ w. from_content o (or_frozen (has_row s.given o || has_row s.own o) w)) (owner_stay s.rows gone o n)

  pub in_place_without : RowsInPlace (without s gone)
  in_place_without = record {
    distinct = distinct_filter (λ r. not (gone r.name)) s.rows g.distinct;
    bridge = λ o r h. let t = owner_old s.rows gone o (In r) h in
        owner_stay s.rows gone r (false_from_ne_true _ (λ k. both_ways _ t.0 (c.whole o r t.1 k))) ∙ g.bridge o r t.1;
    leads = λ e m. lead_same e.from e.to (all_left e m) (c.clear e m) ∙ g.leads e ((rest_edges s g.distinct gone left_out) e m);
    apart = λ o h. owner_stay s.rows gone o (frozen_left o h) ∙ g.apart o h;
  }

  pub round_without : round s ≡ [] → round (without s gone) ≡ []
  round_without = round_before s (without s gone) (owns_within s (without s gone) (rest_edges s g.distinct gone left_out) (λ q p e. show (is_in q) refl s.rows gone p e))

  -- ---- what is watched stays watched

  later : (u : Suspect) (new w : List Suspect) (o : ObjId) → Spent gone u → gone o ≡ false → Member (Object o) (u ∷ w) → Member (Object o) (new ++ w)
  later u new w o p n (inl e) = absurd (both_ways _ n (subst (Spent gone) e p))
  later u new w o p n (inr m) = Member_right (Object o) new w m

  watch_later : (u : Suspect) (new w : List Suspect) (r : ObjId) → Spent gone u → gone r ≡ false → Bare s r → WatchedBy s (u ∷ w) r → WatchedBy (without s gone) (new ++ w) r
  watch_later u new w r p n b (Region q, (inl e, same)) = absurd (both_ways _ (ap gone same ∙ n) (subst (Spent gone) e p))
  watch_later u new w r p n b (Region q, (inr m, same)) = (Region q, (Member_right (Region q) new w m, same))
  watch_later u new w r p n b (Object o, (inl e, own)) = absurd (c.apart o r own (subst (Spent gone) e p) n b)
  watch_later u new w r p n b (Object o, (inr m, own)) = (Object o, (Member_right (Object o) new w m, owner_stay s.rows gone o (false_from_ne_true _ (λ k. c.apart o r own k n b)) ∙ own))

  watch_new : (new w : List Suspect) (r : ObjId) → WatchedBy (without s gone) new r → WatchedBy (without s gone) (new ++ w) r
  watch_new new w r t = (t.0, (Member_left t.0 new w t.1.0, t.1.1))

  is_bare : (r : ObjId) (b d : Bool) → is_owned_by s.rows s r ≡ b → points_into s.rows s r ≡ d → (Bare s r) ⊎ (Bare s r → ⊥)
  is_bare r true d e h = inr (λ k. both_ways _ k.unowned e)
  is_bare r false true e h = inr (λ k. both_ways _ k.unborrowed h)
  is_bare r false false e h = inl (record { unowned = e; unborrowed = h })

  pub watched_without : (u : Suspect) (new w : List Suspect) → Spent gone u → Renewed s gone new → Watched s (u ∷ w) → Watched (without s gone) (new ++ w)
  watched_without u new w p n h = record {
    locals = λ o e k. let t = owner_old s.rows gone o Local e in
        by_test (points s.rows s o) (λ z. Member_left (Object o) new w (n.locals o e z k)) (λ z. later u new w o p t.0 (h.locals o t.1 z));
    regions = λ r e b. let t = owner_old s.rows gone r (In r) e in
        elim (is_bare r (is_owned_by s.rows s r) (points_into s.rows s r) refl refl) [
          | inl z ↦ watch_later u new w r p t.0 z (h.regions r t.1 z)
          | inr z ↦ watch_new new w r (n.regions r e z b)
        ];
    inners = λ o r e d k z. let t = owner_old s.rows gone o (In r) e in
        by_test (points s.rows s o) (λ y. Member_left (Object o) new w (n.inners o r e d y z)) (λ y. later u new w o p t.0 (h.inners o r t.1 d (subst (λ l. has_row l r ≡ true) kept_without k) y));
  }

-- a suspect that has a justification is forgotten
idle_region : (s : State) (u : Suspect) (w : List Suspect) (r : ObjId) → Idle s u → owner_in s.rows r ≡ Some (In r) → Bare s r → WatchedBy s (u ∷ w) r → WatchedBy s w r
idle_region s (Object p) w r i e b (Object o, (inl k, own)) = absurd ((i.1 r (subst (λ (z : Suspect). Watches s r z) (sym k) own)).0 b)
idle_region s (Region q) w r i e b (Region o, (inl k, same)) = let f : q ≡ r = subst (λ (z : Suspect). Watches s r z) (sym k) same in absurd (i (ap (owner_in s.rows) f ∙ e ∙ ap (λ n. Some (In n)) (sym f)) (subst (Bare s) (sym f) b))
idle_region s (Object p) w r i e b (Region o, (inl k, own)) = cc
idle_region s (Region p) w r i e b (Object o, (inl k, own)) = cc
idle_region s u w r i e b (t, (inr m, own)) = (t, (m, own))

idle_local : (s : State) (u : Suspect) (w : List Suspect) (o : ObjId) → Idle s u → owner_in s.rows o ≡ Some Local → points s.rows s o ≡ false → Member (Object o) (u ∷ w) → Member (Object o) w
idle_local s u w o i e n (inl k) = absurd (both_ways _ n ((subst (Idle s) k i).0 e))
idle_local s u w o i e n (inr m) = m

idle_inner : (s : State) (u : Suspect) (w : List Suspect) (o r : ObjId) → Idle s u → owner_in s.rows o ≡ Some (In r) → same_name r o ≡ false → points s.rows s o ≡ false → Member (Object o) (u ∷ w) → Member (Object o) w
idle_inner s u w o r i e d n (inl k) = absurd (both_ways _ n (((subst (Idle s) k i).1 r e).1 d))
idle_inner s u w o r i e d n (inr m) = m

pub watched_forget : (s : State) (u : Suspect) (w : List Suspect) → Idle s u → Watched s (u ∷ w) → Watched s w
watched_forget s u w i h = record {
  locals = λ o e n. idle_local s u w o i e n (h.locals o e n);
  regions = λ r e b. idle_region s u w r i e b (h.regions r e b);
  inners = λ o r e d k n. idle_inner s u w o r i e d n (h.inners o r e d k n);
}

-- a run over all suspects leaves the rows that stay
pub run_kept : (s t : State) (w : List Suspect) → Run s w t → RowsInPlace s → round s ≡ [] → Watched s w → t ≡ record s { rows = kept_rows s }
run_kept s t w (finish) g e h = ap (λ rows. record s { rows = rows }) (sym (settled s g h e))
run_kept s t w (forget {u} {w = v} i r) g e h = run_kept s t v r g e (watched_forget s u v i h)
run_kept s t w (drop {u} {w = v} gone new c p n r) g e h =
    run_kept (without s gone) t (new ++ v) r (in_place_without s g gone c) (round_without s g gone c e) (watched_without s g gone c u new v p n h)
    ∙ ap (λ rows. record s { rows = rows }) (kept_without s g gone c)

pub run_settles : (s t : State) (w : List Suspect) → Run s w t → RowsInPlace s → round s ≡ [] → AllHang s w → t ≡ record s { rows = kept_rows s }
run_settles s t w r g e h = run_kept s t w r g e (hang_watched s g w h)

-- Where each unit without a justification is a suspect, each row that must go hangs on one. Where nothing is left to watch, nothing must go.
use Rattle.std.proofs.Common.{Bool, List, Some, [], ap, ap₂, cond, false, inl, inr, length, map, not, refl, subst, suc, sym, true, zero, ℕ, ◌&&◌, ◌++◌, ◌||◌, ◌∙◌, ◌∷◌, ◌≡◌}
use Rattle.std.specs.List.{filter, list_any}
use Rattle.lf_base.specs.declared.ids.ObjId.{ObjId}
use Rattle.lf_base.specs.declared.values.Owner.{Owner}
use Rattle.lf_base.specs.declared.values.Owner.TheVariants.{Frozen, In, Local}
use Rattle.lf_base.specs.Edges.{Edge, Field, content_edges, edges, field_targets, rows_edges, slot_edges}
use Rattle.lf_base.specs.Kept.{is_owned_by, kept_rows, points, points_into, stays, stays_by_owner}
use Rattle.lf_base.specs.Names.{is_local, same_name}
use Rattle.lf_base.specs.Owners.{bridges, has_name, has_row, is_bridge, is_in, owner_in}
use Rattle.lf_base.specs.Ownership.{is_from, is_owning, owns, round}
use Rattle.lf_base.specs.PlainState.{Row, State}
use Rattle.lf_base.specs.Sets.{Member, grow, least}
use Rattle.lf_base.specs.Settling.{Watched}
use Rattle.lf_base.specs.Suspects.{AllHang, Bare, Hangs, LeadsTo, MustGo, Object, Region, Suspect, Suspected, by_region, by_row, by_row_into, itself}
use Rattle.lf_base.specs.WalkCounts.{is_borrower}
use Rattle.lf_base.specs.WellFormed.{from_row}
use Rattle.lf_laws.proofs.Rows.OwnerTests.{in_region, local_at_is, local_is, other_is}
use Rattle.lf_laws.proofs.Rows.RowsByName.{row_of, mem_has, sub_same, row_there, owner_has, owner_mem, same_row}
use Rattle.lf_base.proofs.ListLemmas.Sublists.{sub_all, sub_shrink}
use Rattle.lf_base.proofs.ListLemmas.Tests.{by_test, or_map, some_is}
use Rattle.std.proofs.lemmas.Bool.{and_from, and_parts, not_from_false, both_ways, false_from_ne_true, not-true, or_left, or_cases, true_from_ne_false}
use Rattle.lf_base.proofs.ListLemmas.LeastSets.{JoinsMore, least_closed}
use Rattle.lf_laws.proofs.Rows.RowEdges.{EdgeRow, edge_in, edge_row, row_edge, to_local, to_region}
use Rattle.lf_laws.proofs.Dropping.KeptRows.{joined_has, kept_in, kept_stays, by_owner}
use Rattle.lf_base.proofs.ListLemmas.Members.{Member_any, Member_map, any_Member, any_more, Member_left, Member_of_append, Member_right, Within}
use Rattle.std.proofs.Math.Bool.{or-true}
use Rattle.lf_base.proofs.NameLemmas.SameNames.{same_name_is, same_name_itself}
use Rattle.lf_base.proofs.ListLemmas.Filters.{Member_filter, Member_of_filter}
use Rattle.lf_base.proofs.ListLemmas.GreatestSets.{greatest_has}
use Rattle.lf_laws.proofs.Dropping.RowsInPlace.{RowsInPlace}
use Rattle.lf_laws.proofs.Dropping.HangingIsWatched.{kept_row, source}

-- what a round keeps holds of all that is joined
least_all : {X : Type 0} (joins : List X → X → Bool) (all : List X) (P : X → Type 0) → ((xs : List X) → ((y : X) → Member y xs → P y) → (x : X) → Member x all → joins xs x ≡ true → P x) → (n : ℕ) (xs : List X) → ((y : X) → Member y xs → P y) → (x : X) → Member x (grow joins all n xs) → P x
least_all joins all P f zero xs h x m = h x m
least_all joins all P f (suc n) xs h x m = least_all joins all P f n (filter (joins xs) all) (λ y k. let t = Member_of_filter (joins xs) y all k in f xs h y t.0 t.1) x m

abbrev is_object : Suspect → ObjId → Bool
is_object (Object p) o = same_name p o
is_object (Region p) o = false

abbrev is_region : Suspect → ObjId → Bool
is_region (Object p) o = false
is_region (Region p) o = same_name p o

object_is : (u : Suspect) (o : ObjId) → is_object u o ≡ true → u ≡ Object o
object_is (Object p) o e = ap Object (same_name_is p o e)
object_is (Region p) o e = cc

region_is : (u : Suspect) (o : ObjId) → is_region u o ≡ true → u ≡ Region o
region_is (Region p) o e = ap Region (same_name_is p o e)
region_is (Object p) o e = cc

module _ (s : State) (g : RowsInPlace s) (w : List Suspect) where
  abbrev kept_has_name : ObjId → Bool
  kept_has_name o = has_row (kept_rows s) o

  abbrev leads_row : ObjId → Row → Bool
  leads_row o m = has_name (field_targets m.fields) o

  abbrev enters : ObjId → Row → Bool
  enters r m = list_any (λ t. is_in r (owner_in s.rows t)) (field_targets m.fields)

  abbrev region_hung : List Row → ObjId → Bool
  region_hung marked r = not (kept_has_name r) && (list_any (λ u. is_region u r) w || list_any (enters r) marked)

  abbrev owner_hung : List Row → Owner → Bool
  owner_hung marked (In r) = region_hung marked r
  owner_hung marked _ = false

  abbrev joins : List Row → Row → Bool
  joins marked x = not (kept_has_name x.name) && (list_any (λ u. is_object u x.name) w || (list_any (leads_row x.name) marked || owner_hung marked x.owner))

  abbrev hung : List Row
  hung = least joins s.rows

  and_more : (a b d : Bool) → (b ≡ true → d ≡ true) → (a && b) ≡ true → (a && d) ≡ true
  and_more true b d f e = f e
  and_more false b d f e = e

  region_more : (xs ys : List Row) (r : ObjId) → Within xs ys → region_hung xs r ≡ true → region_hung ys r ≡ true
  region_more xs ys r v = and_more (not (kept_has_name r)) _ _ (or_map _ _ _ _ (λ e. e) (any_more (enters r) xs ys v))

  owner_more : (xs ys : List Row) (o : Owner) → Within xs ys → owner_hung xs o ≡ true → owner_hung ys o ≡ true
  owner_more xs ys Local v e = e
  owner_more xs ys Frozen v e = e
  owner_more xs ys (In r) v e = region_more xs ys r v e

  joins_more : JoinsMore joins s.rows
  joins_more xs ys x v = and_more (not (kept_has_name x.name)) _ _ (or_map _ _ _ _ (λ e. e) (or_map _ _ _ _ (any_more (leads_row x.name) xs ys v) (owner_more xs ys x.owner v)))

  hung_join : (x : Row) → Member x s.rows → joins hung x ≡ true → Member x hung
  hung_join x m e = subst (Member x) (least_closed joins s.rows joins_more) (Member_filter (joins hung) x s.rows m e)

  -- ---- what is hung hangs
  pub record Hung (x : Row) : Type 0 where
    pub mem : Member x s.rows
    pub must : MustGo s x.name
    pub hangs : Hangs s w x.name

  named_target : (m : Row) (o : ObjId) → leads_row o m ≡ true → Member o (field_targets m.fields)
  named_target m o e = let t = any_Member (λ p. same_name p o) (field_targets m.fields) e in subst (λ n. Member n (field_targets m.fields)) (same_name_is t.0 o t.1.1) t.1.0

  row_leads_to : (m : Row) → Member m s.rows → (o : ObjId) → Member o (field_targets m.fields) → LeadsTo s m.name o
  row_leads_to m k o t = row_edge s.rows m (record { from = Field m.name; to = o }) k refl t

  must_row : (x : Row) → Member x s.rows → not (kept_has_name x.name) ≡ true → MustGo s x.name
  must_row x m e = record { here = mem_has x s.rows m; goes = not-true _ e }

  by_owner_hung : (xs : List Row) → ((y : Row) → Member y xs → Hung y) → (o : ObjId) (v : Owner) → owner_in s.rows o ≡ Some v → owner_hung xs v ≡ true → Hangs s w o
  by_owner_hung xs h o Local own e = cc
  by_owner_hung xs h o Frozen own e = cc
  by_owner_hung xs h o (In r) own e =
      let p = and_parts (not (kept_has_name r)) _ e in
      let top : MustGo s r = record { here = owner_has s.rows r (In r) (g.bridge o r own); goes = not-true _ p.0 } in
      elim (or_cases (list_any (λ u. is_region u r) w) (list_any (enters r) xs) p.1) [
        | inl k ↦ let t = any_Member (λ u. is_region u r) w k in by_region r own top (subst (λ u. Member u w) (region_is t.0 r t.1.1) t.1.0)
        | inr k ↦
            let t = any_Member (enters r) xs k in
            let z = h t.0 t.1.0 in
            let q = any_Member (λ t. is_in r (owner_in s.rows t)) (field_targets (t.0).fields) t.1.1 in
            by_row_into (t.0).name q.0 r own top (in_region r (owner_in s.rows q.0) q.1.1) (row_leads_to t.0 z.mem q.0 q.1.0) z.must z.hangs
      ]

  hung_step : (xs : List Row) → ((y : Row) → Member y xs → Hung y) → (x : Row) → Member x s.rows → joins xs x ≡ true → Hung x
  hung_step xs h x m e =
      let p = and_parts (not (kept_has_name x.name)) _ e in
      record {
        mem = m;
        must = must_row x m p.0;
        hangs = elim (or_cases (list_any (λ u. is_object u x.name) w) (list_any (leads_row x.name) xs || owner_hung xs x.owner) p.1) [
          | inl k ↦ let t = any_Member (λ u. is_object u x.name) w k in itself (subst (λ u. Member u w) (object_is t.0 x.name t.1.1) t.1.0)
          | inr k ↦ elim (or_cases (list_any (leads_row x.name) xs) (owner_hung xs x.owner) k) [
            | inl n ↦ let t = any_Member (leads_row x.name) xs n in let z = h t.0 t.1.0 in
                by_row (t.0).name (row_leads_to t.0 z.mem x.name (named_target t.0 x.name t.1.1)) z.must z.hangs
            | inr n ↦ by_owner_hung xs h x.name x.owner (owner_mem s.rows g.distinct x m) n
          ]
        ];
      }

  pub hung_hangs : (x : Row) → Member x hung → Hung x
  hung_hangs = least_all joins s.rows Hung hung_step (length s.rows) [] (λ y m. absurd m)

  -- ---- each row stays or is hung
  module _ (l : Suspected s w) where
    abbrev Left : Row → Type 0
    Left x = (kept_has_name x.name ≡ false) × (has_row hung x.name ≡ false)

    abbrev left : Row → Bool
    left x = not (kept_has_name x.name) && not (has_row hung x.name)

    left_is : (x : Row) → left x ≡ true → Left x
    left_is x e = let p = and_parts (not (kept_has_name x.name)) _ e in (not-true _ p.0, not-true _ p.1)

    is_left : (x : Row) → Left x → left x ≡ true
    is_left x h = and_from _ _ (not_from_false _ h.0) (not_from_false _ h.1)

    -- nothing hung leads to what is left
    not_hung : (x : Row) → Member x s.rows → Left x → (list_any (λ u. is_object u x.name) w || (list_any (leads_row x.name) hung || owner_hung hung x.owner)) ≡ true → ⊥
    not_hung x m h e = both_ways _ h.1 (mem_has x hung (hung_join x m (and_from _ _ (not_from_false _ h.0) e)))

    not_suspect : (x : Row) → Member x s.rows → Left x → Member (Object x.name) w → ⊥
    not_suspect x m h k = not_hung x m h (or_left _ _ (Member_any (λ u. is_object u x.name) (Object x.name) w k (same_name_itself x.name)))

    not_led : (x : Row) → Member x s.rows → Left x → (y : Row) → Member y hung → Member x.name (field_targets y.fields) → ⊥
    not_led x m h y k t = not_hung x m h (ap (λ b. list_any (λ u. is_object u x.name) w || b)
        (or_left _ _ (Member_any (leads_row x.name) y hung k (Member_any (λ p. same_name p x.name) x.name (field_targets y.fields) t (same_name_itself x.name)))) ∙ or-true _)

    hung_row : (y : Row) → Member y s.rows → has_row hung y.name ≡ true → Member y hung
    hung_row y m e = let t = row_there hung y.name e in subst (λ z. Member z hung) (same_row s.rows g.distinct t.0 y (hung_hangs t.0 t.1.0).mem m t.1.1) t.1.0

    -- an edge to what is left comes from a slot, from what stays, or from what is left
    points_left : (rows : List Row) (x : Row) → Member x s.rows → Left x → Within (kept_rows s) rows → (v : Owner) → owner_in s.rows x.name ≡ Some v → points s.rows s x.name ≡ true → ((y : Row) → Member y s.rows → Left y → from_row (Some (y.owner)) x.name (Some v) ≡ true → Member y rows) → points rows s x.name ≡ true
    points_left rows x m h up v own e f =
        let t = any_Member (λ (d : Edge). same_name d.to x.name) (slot_edges s.slots ++ rows_edges s.rows) e in
        let to : (t.0).to ≡ x.name = same_name_is (t.0).to x.name t.1.1 in
        Member_any (λ (d : Edge). same_name d.to x.name) t.0 (slot_edges s.slots ++ rows_edges rows)
        (elim (Member_of_append t.0 (slot_edges s.slots) (rows_edges s.rows) t.1.0) [
          | inl k ↦ Member_left t.0 (slot_edges s.slots) (rows_edges rows) k
          | inr k ↦ let y = edge_row s.rows t.0 k in
              Member_right t.0 (slot_edges s.slots) (rows_edges rows) (row_edge rows y.row t.0
              (by_test (kept_has_name (y.row).name) (λ z. up y.row (kept_row s g y.row y.mem z))
              (λ z. by_test (has_row hung (y.row).name)
              (λ q. absurd (not_led x m h y.row (hung_row y.row y.mem q) (subst (λ n. Member n (field_targets (y.row).fields)) to y.to)))
              (λ q. f y.row y.mem (z, q) (subst (λ n. from_row (Some ((y.row).owner)) n (Some v) ≡ true) to (source s g t.0 y v (ap (owner_in s.rows) to ∙ own))))))
              y.from y.to)
        ])
        t.1.1

    -- local rows
    abbrev near : List Row
    near = filter (λ x. is_local x.owner && left x) s.rows

    near_stays : Within near (kept_rows s)
    near_stays = joined_has s near (λ x m.
        let t = Member_of_filter (λ (y : Row). is_local y.owner && left y) x s.rows m in
        let p = and_parts (is_local x.owner) _ t.1 in
        let h : Left x = left_is x p.1 in
        let here : x.owner ≡ Local = local_is x.owner p.0 in
        let own : owner_in s.rows x.name ≡ Some Local = owner_mem s.rows g.distinct x t.0 ∙ ap Some here in (
          t.0,
          ap (stays_by_owner s (kept_rows s ++ near) x.name) here
              ∙ points_left (kept_rows s ++ near) x t.0 h (λ z k. Member_left z (kept_rows s) near k) Local own (true_from_ne_false _ (λ n. not_suspect x t.0 h (l.locals x.name own n)))
              (λ y k i f. Member_right y (kept_rows s) near (Member_filter (λ (z : Row). is_local z.owner && left z) y s.rows k (and_from _ _ (ap is_local (to_local y.owner x.name f)) (is_left y i)))),
        ))

    no_local : (x : Row) → Member x s.rows → x.owner ≡ Local → Left x → ⊥
    no_local x m e h = both_ways _ h.0 (mem_has x (kept_rows s) (near_stays x (Member_filter (λ (z : Row). is_local z.owner && left z) x s.rows m (and_from _ _ (ap is_local e) (is_left x h)))))

    -- inner rows of a region that stays
    module _ (r : ObjId) (there : has_row (kept_rows s) r ≡ true) where
      abbrev part : List Row
      part = filter (λ x. is_in r (Some (x.owner)) && left x) s.rows

      part_stays : Within part (kept_rows s)
      part_stays = joined_has s part (λ x m.
          let t = Member_of_filter (λ (y : Row). is_in r (Some (y.owner)) && left y) x s.rows m in
          let p = and_parts (is_in r (Some (x.owner))) _ t.1 in
          let h : Left x = left_is x p.1 in
          let here : x.owner ≡ In r = some_is x.owner (In r) (in_region r (Some (x.owner)) p.0) in
          let own : owner_in s.rows x.name ≡ Some (In r) = owner_mem s.rows g.distinct x t.0 ∙ ap Some here in
          let d : same_name r x.name ≡ false = false_from_ne_true _ (λ k. both_ways _ (ap (has_row (kept_rows s)) (same_name_is r x.name k) ∙ h.0) there) in
          let all : List Row = kept_rows s ++ part in (
            t.0,
            ap (stays_by_owner s all x.name) here
                ∙ ap (λ c. cond c (is_owned_by all s r || points_into all s r) (has_row all r && points all s x.name)) d
                ∙ and_from _ _ (any_more (λ (z : Row). same_name z.name r) (kept_rows s) all (λ z k. Member_left z (kept_rows s) part k) there)
                (points_left all x t.0 h (λ z k. Member_left z (kept_rows s) part k) (In r) own (true_from_ne_false _ (λ n. not_suspect x t.0 h (l.inners x.name r own d there n)))
                (λ y k i f. elim (to_region y.owner x.name r f) [
                  | inl q ↦ absurd (no_local y k q i)
                  | inr (inl q) ↦ Member_right y (kept_rows s) part (Member_filter (λ (z : Row). is_in r (Some (z.owner)) && left z) y s.rows k (and_from _ _ (ap (λ z. is_in r (Some z)) q ∙ same_name_itself r) (is_left y i)))
                  | inr (inr q) ↦ absurd (both_ways _ d (ap (same_name r) (sym q.1.1.1) ∙ same_name_itself r))
                ])),
          ))

      no_inner : (x : Row) → Member x s.rows → x.owner ≡ In r → Left x → ⊥
      no_inner x m e h = both_ways _ h.0 (mem_has x (kept_rows s) (part_stays x (Member_filter (λ (z : Row). is_in r (Some (z.owner)) && left z) x s.rows m (and_from _ _ (ap (λ z. is_in r (Some z)) e ∙ same_name_itself r) (is_left x h)))))

    -- a bridge that is justified by what stays does so too
    bridge_stays : (r : ObjId) → owner_in s.rows r ≡ Some (In r) → (is_owned_by (kept_rows s) s r || points_into (kept_rows s) s r) ≡ true → has_row (kept_rows s) r ≡ true
    bridge_stays r h e =
        let b = row_of s.rows r (In r) h in
        let one : List Row = b.row ∷ [] in
        let up : stays_by_owner s (kept_rows s) r (In r) ≡ true = ap (λ c. cond c (is_owned_by (kept_rows s) s r || points_into (kept_rows s) s r) (has_row (kept_rows s) r && points (kept_rows s) s r)) (same_name_itself r) ∙ e in
        let m : Member (b.row) (kept_rows s) = joined_has s one (λ x k. elim k [
          | inl q ↦ (
            subst (λ y. Member y s.rows) q b.mem,
            subst (λ (y : Row). stays_by_owner s (kept_rows s ++ one) y.name y.owner ≡ true) q
                (ap₂ (stays_by_owner s (kept_rows s ++ one)) b.name b.owner ∙ by_owner s (kept_rows s) (kept_rows s ++ one) r (In r) (λ z n. Member_left z (kept_rows s) one n) up),
          )
          | inr q ↦ absurd q
        ]) b.row (inl refl) in
        subst (λ n. has_row (kept_rows s) n ≡ true) b.name (mem_has b.row (kept_rows s) m)

    -- a row stays only where its bridge stays
    inner_top : (x : Row) → Member x s.rows → (q : ObjId) → owner_in s.rows x.name ≡ Some (In q) → kept_has_name q ≡ false → kept_has_name x.name ≡ false
    inner_top x m q own k = false_from_ne_true _ (λ e.
        elim (same_name q x.name) as (λ c. same_name q x.name ≡ c → ⊥) [
          | true ↦ λ t. both_ways _ k (ap (has_row (kept_rows s)) (same_name_is q x.name t) ∙ e)
          | false ↦ λ t. both_ways _ k (and_parts (has_row (kept_rows s) q) _ (sym (ap (λ c. cond c (is_owned_by (kept_rows s) s q || points_into (kept_rows s) s q) (has_row (kept_rows s) q && points (kept_rows s) s x.name)) t) ∙ kept_stays s g.distinct x.name (In q) own e)).0
        ] refl)

    enters_by : (r : ObjId) (y : Row) (o : ObjId) → Member o (field_targets y.fields) → owner_in s.rows o ≡ Some (In r) → enters r y ≡ true
    enters_by r y o m h = Member_any (λ t. is_in r (owner_in s.rows t)) o (field_targets y.fields) m (ap (is_in r) h ∙ same_name_itself r)

    abbrev region_left : ObjId → Bool
    region_left r = not (kept_has_name r) && not (region_hung hung r)

    abbrev tops : List ObjId
    tops = filter region_left (bridges s)

    tops_mem : (q : ObjId) → owner_in s.rows q ≡ Some (In q) → region_left q ≡ true → Member q tops
    tops_mem q h n =
        let t = row_of s.rows q (In q) h in
        Member_filter region_left q (bridges s)
        (Member_filter (is_bridge s.rows) q (map (λ r. r.name) s.rows) (subst (λ k. Member k (map (λ r. r.name) s.rows)) t.name (Member_map (λ (r : Row). r.name) t.row s.rows t.mem)) (ap (is_in q) h ∙ same_name_itself q))
        n

    module _ (r : ObjId) (h : owner_in s.rows r ≡ Some (In r)) (n : kept_has_name r ≡ false) (z : region_hung hung r ≡ false) where
      not_entered : (y : Row) → Member y hung → enters r y ≡ true → ⊥
      not_entered y m e = both_ways _ z (and_from _ _ (not_from_false _ n) (ap (λ b. list_any (λ u. is_region u r) w || b) (Member_any (enters r) y hung m e) ∙ or-true _))

      not_bare : Bare s r → ⊥
      not_bare b = both_ways _ z (and_from _ _ (not_from_false _ n) (or_left _ _ (Member_any (λ u. is_region u r) (Region r) w (l.regions r h b) (same_name_itself r))))

      not_held : (is_owned_by (kept_rows s) s r || points_into (kept_rows s) s r) ≡ true → ⊥
      not_held e = both_ways _ n (bridge_stays r h e)

      held_by_row : (e : Edge) → (x : EdgeRow s.rows e) → (is_owning s.rows e.from r && same_name e.to r) ≡ true → has_row (kept_rows s) (x.row).name ≡ true → ⊥
      held_by_row e x p k = not_held (or_left _ _ (Member_any (λ (e : Edge). is_owning s.rows e.from r && same_name e.to r) e (rows_edges (kept_rows s) ++ (content_edges s.held ++ content_edges s.made))
          (Member_left e (rows_edges (kept_rows s)) _ (row_edge (kept_rows s) x.row e (kept_row s g x.row x.mem k) x.from x.to)) p))

      owner_left : (e : Edge) → (x : EdgeRow s.rows e) → (is_owning s.rows e.from r && same_name e.to r) ≡ true → (q : ObjId) → owner_in s.rows (x.row).name ≡ Some (In q) → same_name q r ≡ false → (a b : Bool) → kept_has_name q ≡ a → region_hung hung q ≡ b → (owns s q r ≡ true) × (region_left q ≡ true)
      owner_left e x p q own d true b k y =
          let at : (x.row).owner ≡ In q = some_is ((x.row).owner) (In q) (sym (owner_mem s.rows g.distinct x.row x.mem) ∙ own) in
          by_test (has_row (kept_rows s) (x.row).name) (λ i. absurd (held_by_row e x p i))
          (λ i. by_test (has_row hung (x.row).name)
          (λ j. absurd (not_entered x.row (hung_row x.row x.mem j) (enters_by r x.row e.to x.to (subst (λ m. owner_in s.rows m ≡ Some (In r)) (sym (same_name_is e.to r (and_parts (is_owning s.rows e.from r) _ p).1)) h))))
          (λ j. absurd (no_inner q k x.row x.mem at (i, j))))
      owner_left e x p q own d false true k y =
          let at : (x.row).owner ≡ In q = some_is ((x.row).owner) (In q) (sym (owner_mem s.rows g.distinct x.row x.mem) ∙ own) in
          let gone : kept_has_name (x.row).name ≡ false = inner_top x.row x.mem q own k in
          let m : Member x.row hung = hung_join x.row x.mem (and_from _ _ (not_from_false _ gone) (ap (λ b. list_any (λ u. is_object u (x.row).name) w || b) (ap (λ b. list_any (leads_row (x.row).name) hung || b) (ap (owner_hung hung) at ∙ y) ∙ or-true _) ∙ or-true _)) in
          absurd (not_entered x.row m (enters_by r x.row e.to x.to (subst (λ m. owner_in s.rows m ≡ Some (In r)) (sym (same_name_is e.to r (and_parts (is_owning s.rows e.from r) _ p).1)) h)))
      owner_left e x p q own d false false k y =
          let t = and_parts (is_owning s.rows e.from r) (same_name e.to r) p in (
            and_from _ _ (ap not d) (and_from _ _ (ap (is_in r) h ∙ same_name_itself r)
                (Member_any (λ (e : Edge). is_from s.rows q e.from && same_name e.to r) e (edges s) (edge_in s e (row_edge s.rows x.row e x.mem x.from x.to))
                (and_from _ _ (ap (is_from s.rows q) x.from ∙ ap (is_in q) own ∙ same_name_itself q) t.1))),
            and_from _ _ (not_from_false _ k) (not_from_false _ y),
          )

      owned_top : list_any (λ q. owns s q r) tops ≡ true
      owned_top =
          let why : (is_owned_by s.rows s r || points_into s.rows s r) ≡ true = true_from_ne_false _ (λ e. not_bare (record {
            unowned = elim (is_owned_by s.rows s r) as (λ b. (b || points_into s.rows s r) ≡ false → b ≡ false) [ true ↦ λ k. cc | false ↦ λ k. refl ] e;
            unborrowed = elim (is_owned_by s.rows s r) as (λ b. (b || points_into s.rows s r) ≡ false → points_into s.rows s r ≡ false) [ true ↦ λ k. cc | false ↦ λ k. k ] e;
          })) in
          elim (or_cases (is_owned_by s.rows s r) (points_into s.rows s r) why) [
            | inl owned ↦
                let t = any_Member (λ (e : Edge). is_owning s.rows e.from r && same_name e.to r) (rows_edges s.rows ++ (content_edges s.held ++ content_edges s.made)) owned in
                elim (Member_of_append t.0 (rows_edges s.rows) (content_edges s.held ++ content_edges s.made) t.1.0) [
                  | inl m ↦
                      let x = edge_row s.rows t.0 m in
                      let y = other_is r (owner_in s.rows (x.row).name) (ap (λ f. is_owning s.rows f r) (sym x.from) ∙ (and_parts _ _ t.1.1).0) in
                      let k = owner_left t.0 x t.1.1 y.region y.is y.other (kept_has_name y.region) (region_hung hung y.region) refl refl in
                      Member_any (λ q. owns s q r) y.region tops (tops_mem y.region (g.bridge (x.row).name y.region y.is) k.1) k.0
                  | inr m ↦ absurd (not_held (or_left _ _ (Member_any (λ (e : Edge). is_owning s.rows e.from r && same_name e.to r) t.0 (rows_edges (kept_rows s) ++ (content_edges s.held ++ content_edges s.made)) (Member_right t.0 (rows_edges (kept_rows s)) _ m) t.1.1)))
                ]
            | inr into ↦
                let t = any_Member (λ (e : Edge). is_borrower s.rows e.from && is_in r (owner_in s.rows e.to)) (slot_edges s.slots ++ rows_edges s.rows) into in
                let p = and_parts (is_borrower s.rows (t.0).from) (is_in r (owner_in s.rows (t.0).to)) t.1.1 in
                let held : Member t.0 (slot_edges s.slots ++ rows_edges (kept_rows s)) → ⊥ = λ m. not_held (ap (λ c. is_owned_by (kept_rows s) s r || c) (Member_any (λ (e : Edge). is_borrower s.rows e.from && is_in r (owner_in s.rows e.to)) t.0 (slot_edges s.slots ++ rows_edges (kept_rows s)) m t.1.1) ∙ or-true _) in
                absurd (elim (Member_of_append t.0 (slot_edges s.slots) (rows_edges s.rows) t.1.0) [
                  | inl m ↦ held (Member_left t.0 (slot_edges s.slots) (rows_edges (kept_rows s)) m)
                  | inr m ↦
                      let x = edge_row s.rows t.0 m in
                      let own = local_at_is (owner_in s.rows (x.row).name) (ap (is_borrower s.rows) (sym x.from) ∙ p.0) in
                      by_test (has_row (kept_rows s) (x.row).name)
                      (λ i. held (Member_right t.0 (slot_edges s.slots) (rows_edges (kept_rows s)) (row_edge (kept_rows s) x.row t.0 (kept_row s g x.row x.mem i) x.from x.to)))
                      (λ i. by_test (has_row hung (x.row).name)
                      (λ j. not_entered x.row (hung_row x.row x.mem j) (enters_by r x.row (t.0).to x.to (in_region r (owner_in s.rows (t.0).to) p.1)))
                      (λ j. no_local x.row x.mem (some_is ((x.row).owner) Local (sym (owner_mem s.rows g.distinct x.row x.mem) ∙ own)) (i, j)))
                ])
          ]

    module _ (still : round s ≡ []) where
      no_top : (r : ObjId) → Member r tops → ⊥
      no_top r m = subst (λ l. Member r l) still
          (greatest_has (λ qs r. list_any (λ q. owns s q r) qs) (λ xs ys x v e. any_more (λ q. owns s q x) xs ys v e) (bridges s) tops
          (λ q k. let t = Member_of_filter region_left q (bridges s) k in
          let u = Member_of_filter (is_bridge s.rows) q (map (λ r. r.name) s.rows) t.0 in
          let p = and_parts (not (kept_has_name q)) _ t.1 in
          owned_top q (in_region q (owner_in s.rows q) u.1) (not-true _ p.0) (not-true _ p.1))
          (λ q k. (Member_of_filter region_left q (bridges s) k).0)
          r m)

      no_left : (x : Row) → Member x s.rows → (v : Owner) → x.owner ≡ v → Left x → ⊥
      no_left x m Local e h = no_local x m e h
      no_left x m (In r) e h =
          let own : owner_in s.rows x.name ≡ Some (In r) = owner_mem s.rows g.distinct x m ∙ ap Some e in
          by_test (kept_has_name r) (λ k. no_inner r k x m e h)
          (λ k. by_test (region_hung hung r)
          (λ y. not_hung x m h (ap (λ b. list_any (λ u. is_object u x.name) w || b) (ap (λ b. list_any (leads_row x.name) hung || b) (ap (owner_hung hung) e ∙ y) ∙ or-true _) ∙ or-true _))
          (λ y. no_top r (tops_mem r (g.bridge x.name r own) (and_from _ _ (not_from_false _ k) (not_from_false _ y)))))
      no_left x m Frozen e h =
          both_ways _ h.0 (mem_has x (kept_rows s) (joined_has s (x ∷ []) (λ y k. elim k [
            | inl q ↦ (subst (λ z. Member z s.rows) q m, subst (λ (z : Row). stays_by_owner s (kept_rows s ++ (x ∷ [])) z.name z.owner ≡ true) q (ap (stays_by_owner s (kept_rows s ++ (x ∷ [])) x.name) e))
            | inr q ↦ absurd q
          ]) x (inl refl)))

      -- each row that must go hangs on a suspect
      pub suspected_hang : AllHang s w
      suspected_hang o must =
          let t = row_there s.rows o must.here in
          by_test (has_row hung o)
          (λ e. let x = row_there hung o e in subst (Hangs s w) x.1.1 (hung_hangs x.0 x.1.0).hangs)
          (λ e. absurd (no_left t.0 t.1.0 (t.0).owner refl (ap (has_row (kept_rows s)) t.1.1 ∙ must.goes, ap (has_row hung) t.1.1 ∙ e)))

-- on no suspect nothing hangs
none_hangs : (s : State) {o : ObjId} → Hangs s [] o → ⊥
none_hangs s (itself m) = m
none_hangs s (by_region r own top m) = m
none_hangs s (by_row p leads must h) = none_hangs s h
none_hangs s (by_row_into p q r own top in_it leads must h) = none_hangs s h

-- when no suspect is left nothing must go
pub settled : (s : State) → RowsInPlace s → Watched s [] → round s ≡ [] → kept_rows s ≡ s.rows
settled s g w still =
    let none : Suspected s [] = record { locals = w.locals; regions = λ r own bare. (w.regions r own bare).1.0; inners = w.inners } in
    let stays_row : (x : Row) → Member x s.rows → has_row (kept_rows s) x.name ≡ true = λ x m. true_from_ne_false _ (λ e. none_hangs s (suspected_hang s g [] none still x.name (record { here = mem_has x s.rows m; goes = e }))) in
    sub_same (kept_rows s) s.rows s.rows g.distinct (sub_shrink (stays s) (length s.rows) s.rows) (sub_all s.rows) (kept_in s) (λ x m. kept_row s g x m (stays_row x m))

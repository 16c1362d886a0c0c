-- Dropping before a take, a change of contents, a merging, a dissolving or a freeze changes nothing of what stays after it.
use Rattle.std.proofs.Common.{Bool, List, Some, [], ap, cond, false, inl, inr, map, not, refl, subst, sym, true, ◌++◌, ◌||◌, ◌∙◌, ◌∷◌, ◌≡◌, ◌⊎◌, length}
use Rattle.std.proofs.lemmas.Bool.{both_ways, false_from_ne_true, or_cases, or_left}
use Rattle.std.proofs.Math.Bool.{or-true}
use Rattle.std.proofs.lemmas.Option.{none-some}
use Rattle.std.specs.List.{filter}
use Rattle.lf_base.specs.declared.ids.CownId.{CownId}
use Rattle.lf_base.specs.declared.ids.ObjId.{ObjId}
use Rattle.lf_base.specs.declared.values.Key.{Key}
use Rattle.lf_base.specs.declared.values.Owner.{Owner}
use Rattle.lf_base.specs.declared.values.Owner.TheVariants.{In, Local}
use Rattle.lf_base.specs.declared.values.Value.{Value}
use Rattle.lf_base.specs.ContentResult.{content_result, put_content}
use Rattle.lf_base.specs.DissolveResult.{dissolve_result}
use Rattle.lf_base.specs.Edges.{Content, Edge, content_edges, edges_by, rows_edges, slot_edges}
use Rattle.lf_base.specs.FreezeResult.{freeze_result, freeze_set, frozen_row, insert_rows}
use Rattle.lf_base.specs.Kept.{kept, kept_rows, stays}
use Rattle.lf_base.specs.MergeResult.{lies_in, merge_result, relabel_region}
use Rattle.lf_base.specs.Names.{same_name, targets_of_value}
use Rattle.lf_base.specs.NewCown.{made_result, next_cown}
use Rattle.lf_base.specs.Owners.{has_row, names, owner_in}
use Rattle.lf_base.specs.PlainState.{Row, State}
use Rattle.lf_base.specs.Sets.{Differ, Member}
use Rattle.lf_base.specs.TakeResult.{take_result}
use Rattle.lf_base.specs.WellFormed.{SlotMayHold, WellFormed}
use Rattle.lf_base.proofs.ListLemmas.Filters.{filter_swap}
use Rattle.lf_base.proofs.ListLemmas.Members.{Member_flat_map, Member_left, Member_of_append, Member_of_flat_map, Member_of_map, Member_right, any_more}
use Rattle.lf_base.proofs.ListLemmas.Sublists.{sub_shrink, sub_then}
use Rattle.lf_base.proofs.ListLemmas.Tests.{some_is}
use Rattle.lf_base.proofs.NameLemmas.SameNames.{same_name_is, same_name_itself}
use Rattle.lf_laws.proofs.Changes.ContentLaw.{put_old_or_new}
use Rattle.lf_laws.proofs.Changes.FewerFields.{edge_old, take_keeps, taken, taken_trims, trimmed_owner}
use Rattle.lf_laws.proofs.Changes.Freezing.{edge_before, freeze_keeps}
use Rattle.lf_laws.proofs.Changes.RelabelledRegion.{became, edges_same, nothing, names_of_relabelled, region_owner, the_new, the_same}
use Rattle.lf_laws.proofs.Dropping.HangingIsWatched.{kept_row}
use Rattle.lf_laws.proofs.Dropping.KeptRows.{kept_in}
use Rattle.lf_laws.proofs.Dropping.KeptState.{kept_is_left, lost}
use Rattle.lf_laws.proofs.Dropping.RowsInPlace.{rows_in_place}
use Rattle.lf_laws.proofs.Dropping.RowsWithout.{owner_old}
use Rattle.lf_laws.proofs.KeptStates.AmongKept.{AmongKept, Resettled, gone_goes, kept_among}
use Rattle.lf_laws.proofs.KeptStates.SlotsInParts.{gone_mutable, nothing_there}
use Rattle.lf_laws.proofs.Owners.PathsOfSets.{freeze_closed, freeze_least, freeze_part, freeze_within}
use Rattle.lf_laws.proofs.Rows.InsertedRows.{has_all, has_frozen}
use Rattle.lf_laws.proofs.Rows.OwnerTests.{in_is}
use Rattle.lf_laws.proofs.Rows.RowsByName.{Distinct, differ_rows, sub_same}

-- a change of rows that leaves their names goes before or after a filter by names
pub filter_map_names : (p : ObjId → Bool) (f : Row → Row) → ((r : Row) → (f r).name ≡ r.name) → (rows : List Row) → filter (λ r. not (p r.name)) (map f rows) ≡ map f (filter (λ r. not (p r.name)) rows)
filter_map_names p f n [] = refl
filter_map_names p f n (r ∷ rs) =
    ap (λ o. cond (not (p o)) (f r ∷ filter (λ q. not (p q.name)) (map f rs)) (filter (λ q. not (p q.name)) (map f rs))) (n r)
    ∙ elim (not (p r.name)) as (λ b. cond b (f r ∷ filter (λ q. not (p q.name)) (map f rs)) (filter (λ q. not (p q.name)) (map f rs)) ≡ map f (cond b (r ∷ filter (λ q. not (p q.name)) rs) (filter (λ q. not (p q.name)) rs))) [
      | true ↦ ap (λ l. f r ∷ l) (filter_map_names p f n rs)
      | false ↦ filter_map_names p f n rs
    ]

-- rows with the names of a state's rows are distinct
pub distinct_by_names : (s : State) → WellFormed s → (rows : List Row) → names rows ≡ names s.rows → Distinct rows
distinct_by_names s w rows e = differ_rows rows (names s.given ++ names s.own) (subst (λ l. Differ same_name (l ++ (names s.given ++ names s.own))) (sym e) w.names_differ)

module _ (s : State) (w : WellFormed s) where
  abbrev gone : ObjId → Bool
  gone = lost s w

  -- what stays, changed row by row, is the changed rows without those that go
  pub mapped_rows : (f : Row → Row) → ((r : Row) → (f r).name ≡ r.name) → map f (kept_rows s) ≡ filter (λ r. not (gone r.name)) (map f s.rows)
  mapped_rows f n = ap (map f) (kept_is_left s w) ∙ sym (filter_map_names gone f n s.rows)

  -- ---- a take
  take_among : (x : ObjId) (k : Key) → AmongKept s (take_result s x k) gone
  take_among x k = record {
    distinct = (rows_in_place (take_result s x k) (take_keeps s x k w)).distinct;
    owners = λ o v h e. inl (sym (trimmed_owner (taken x k) (taken_trims x k) s.rows o) ∙ e);
    edges = λ e m h. edge_old (taken x k) (taken_trims x k) s s.slots w (λ v n. inl n) e m;
    into = λ o r h e. sym (trimmed_owner (taken x k) (taken_trims x k) s.rows o) ∙ e;
    mutable = gone_mutable s w;
  }

  pub take_in_parts : (x : ObjId) (k : Key) → kept (take_result (kept s) x k) ≡ kept (take_result s x k)
  take_in_parts x k = ap (λ rows. kept (record s { rows = rows })) (mapped_rows (taken x k) (taken_trims x k).name) ∙ kept_among s w (take_result s x k) (take_among x k)

  -- ---- contents
  not_to_gone : (c : CownId) (v : Value) → SlotMayHold (kept s) v → (e : Edge) → Member e (edges_by (Content c) (targets_of_value v)) → gone e.to ≡ true → ⊥
  not_to_gone c v may e m h =
      let o = Member_of_map (λ (o : ObjId). record { from = Content c; to = o }) e (targets_of_value v) m in
      nothing_there s w e.to h (may.object_there e.to (subst (λ (d : Edge). Member d.to (targets_of_value v)) o.1.1 o.1.0))

  content_among : (c : CownId) (v : Value) → SlotMayHold (kept s) v → AmongKept s (content_result s c v) gone
  content_among c v may = record {
    distinct = (rows_in_place s w).distinct;
    owners = λ o u h e. inl e;
    edges = λ e m h. elim (Member_of_append e (slot_edges s.slots) _ m) [
      | inl k ↦ Member_left e (slot_edges s.slots) _ k
      | inr k ↦ Member_right e (slot_edges s.slots) _ (elim (Member_of_append e (rows_edges s.rows) _ k) [
        | inl n ↦ Member_left e (rows_edges s.rows) _ n
        | inr n ↦ Member_right e (rows_edges s.rows) _ (elim (Member_of_append e (content_edges (put_content s.held c v)) _ n) [
          | inr q ↦ Member_right e (content_edges s.held) _ q
          | inl q ↦ elim (put_old_or_new s.held c v e q) [
            | inl z ↦ Member_left e (content_edges s.held) _ z
            | inr z ↦ absurd (not_to_gone c v may e z h)
          ]
        ])
      ])
    ];
    into = λ o r h e. e;
    mutable = gone_mutable s w;
  }

  pub content_in_parts : (c : CownId) (v : Value) → SlotMayHold (kept s) v → kept (content_result (kept s) c v) ≡ kept (content_result s c v)
  content_in_parts c v may = ap (λ rows. kept (record s { held = put_content s.held c v; rows = rows })) (kept_is_left s w) ∙ kept_among s w (content_result s c v) (content_among c v may)

  one_more : (c : CownId) (v : Value) → SlotMayHold (kept s) v → (e : Edge) → gone e.to ≡ true → Member e (content_edges (s.made ++ (c, v) ∷ [])) → Member e (content_edges s.made)
  one_more c v may e h m =
      let x = Member_of_flat_map (λ (d : CownId × Value). edges_by (Content d.0) (targets_of_value d.1)) e (s.made ++ (c, v) ∷ []) m in
      elim (Member_of_append x.0 s.made ((c, v) ∷ []) x.1.0) [
        | inl k ↦ Member_flat_map (λ (d : CownId × Value). edges_by (Content d.0) (targets_of_value d.1)) x.0 e s.made k x.1.1
        | inr (inl k) ↦ absurd (not_to_gone c v may e (subst (λ (d : CownId × Value). Member e (edges_by (Content d.0) (targets_of_value d.1))) (sym k) x.1.1) h)
        | inr (inr k) ↦ absurd k
      ]

  made_among : (v : Value) → SlotMayHold (kept s) v → AmongKept s (made_result s v) gone
  made_among v may = record {
    distinct = (rows_in_place s w).distinct;
    owners = λ o u h e. inl e;
    edges = λ e m h. elim (Member_of_append e (slot_edges s.slots) _ m) [
      | inl k ↦ Member_left e (slot_edges s.slots) _ k
      | inr k ↦ Member_right e (slot_edges s.slots) _ (elim (Member_of_append e (rows_edges s.rows) _ k) [
        | inl n ↦ Member_left e (rows_edges s.rows) _ n
        | inr n ↦ Member_right e (rows_edges s.rows) _ (elim (Member_of_append e (content_edges s.held) _ n) [
          | inl q ↦ Member_left e (content_edges s.held) _ q
          | inr q ↦ Member_right e (content_edges s.held) _ (elim (Member_of_append e (content_edges (made_result s v).made) _ q) [
            | inl z ↦ Member_left e (content_edges s.made) _ (one_more (next_cown s) v may e h z)
            | inr z ↦ Member_right e (content_edges s.made) _ z
          ])
        ])
      ])
    ];
    into = λ o r h e. e;
    mutable = gone_mutable s w;
  }

  pub made_in_parts : (v : Value) → SlotMayHold (kept s) v → kept (made_result (kept s) v) ≡ kept (made_result s v)
  made_in_parts v may = ap (λ rows. kept (made_result (record s { rows = rows }) v)) (kept_is_left s w) ∙ kept_among s w (made_result s v) (made_among v may)

  -- ---- the rows of a region that stays under another owner
  module _ (b : ObjId) (u : Owner) (stays_b : has_row (kept_rows s) b ≡ true) (to : (o : ObjId) → gone o ≡ true → (u ≡ Local) ⊎ ((q : ObjId) × ((u ≡ In q) × (same_name q o ≡ false)))) where
    abbrev rows : List Row
    rows = relabel_region s.rows b u

    resettled : (o : ObjId) (v : Owner) → gone o ≡ true → owner_in rows o ≡ Some v → (owner_in s.rows o ≡ Some v) ⊎ Resettled s o v
    resettled o v h e =
        let k = sym (region_owner b u s.rows o) ∙ e in
        elim (became b u (owner_in s.rows o)) [
          | nothing n z ↦ absurd (none-some v (sym z ∙ k))
          | the_new n z ↦ inr (b, (n, (stays_b, subst (λ x. (x ≡ Local) ⊎ ((q : ObjId) × ((x ≡ In q) × (same_name q o ≡ false)))) (some_is u v (sym z ∙ k)) (to o h))))
          | the_same x n y z ↦ inl (n ∙ sym z ∙ k)
        ]

    into_old : (o r : ObjId) → gone r ≡ true → owner_in rows o ≡ Some (In r) → owner_in s.rows o ≡ Some (In r)
    into_old o r h e =
        let k = sym (region_owner b u s.rows o) ∙ e in
        elim (became b u (owner_in s.rows o)) [
          | nothing n z ↦ absurd (none-some (In r) (sym z ∙ k))
          | the_new n z ↦ absurd (not_to r h (some_is u (In r) (sym z ∙ k)) (to r h))
          | the_same x n y z ↦ n ∙ sym z ∙ k
        ]
      where
        not_to : (r : ObjId) → gone r ≡ true → u ≡ In r → (u ≡ Local) ⊎ ((q : ObjId) × ((u ≡ In q) × (same_name q r ≡ false))) → ⊥
        not_to r h e (inl l) = let z : In r ≡ Local = sym e ∙ l in cc
        not_to r h e (inr (q, (i, n))) = both_ways _ n (ap (λ z. same_name z r) (in_is q r (sym i ∙ e)) ∙ same_name_itself r)

    region_among : AmongKept s (record s { rows = rows }) gone
    region_among = record {
      distinct = distinct_by_names s w rows (names_of_relabelled b u s.rows);
      owners = resettled;
      edges = λ e m h. subst (Member e) (edges_same b u s w) m;
      into = into_old;
      mutable = gone_mutable s w;
    }

    pub region_in_parts : kept (record s { rows = relabel_region (kept_rows s) b u }) ≡ kept (record s { rows = rows })
    region_in_parts =
        ap (λ l. kept (record s { rows = l })) (mapped_rows (λ row. cond (lies_in b row) (record row { owner = u }) row)
        (λ row. elim (lies_in b row) as (λ c. (cond c (record row { owner = u }) row).name ≡ row.name) [ true ↦ refl | false ↦ refl ]))
        ∙ kept_among s w (record s { rows = rows }) region_among

  pub merge_in_parts : (a b : ObjId) → has_row (kept_rows s) a ≡ true → has_row (kept_rows s) b ≡ true → kept (merge_result (kept s) a b) ≡ kept (merge_result s a b)
  merge_in_parts a b ha hb = region_in_parts b (In a) hb (λ o h. inr (a, (refl, false_from_ne_true _ (λ e. both_ways _ (gone_goes s w o h) (ap (has_row (kept_rows s)) (sym (same_name_is a o e)) ∙ ha)))))

  pub dissolve_in_parts : (r : ObjId) → has_row (kept_rows s) r ≡ true → kept (dissolve_result (kept s) r) ≡ kept (dissolve_result s r)
  dissolve_in_parts r hr = region_in_parts r Local hr (λ o h. inl refl)

  -- ---- a freeze of rows that stay
  module _ (v : Value) (all : (y : Row) → Member y (freeze_set s v) → has_row (kept_rows s) y.name ≡ true) where
    set_kept : (y : Row) → Member y (freeze_set s v) → Member y (kept_rows s)
    set_kept y m = kept_row s (rows_in_place s w) y (freeze_within s v y m) (all y m)

    set_in : (y : Row) → Member y (freeze_set (kept s) v) → Member y (freeze_set s v)
    set_in = freeze_least (kept s) v (freeze_set s v) (record {
      first = λ y m n. (freeze_closed s v).first y (kept_in s y m) n;
      next = λ x y m n e. (freeze_closed s v).next x y m (kept_in s y n) e;
    })

    set_out : (y : Row) → Member y (freeze_set s v) → Member y (freeze_set (kept s) v)
    set_out = freeze_least s v (freeze_set (kept s) v) (record {
      first = λ y m n. (freeze_closed (kept s) v).first y (set_kept y ((freeze_closed s v).first y m n)) n;
      next = λ x y m n e. (freeze_closed (kept s) v).next x y m (set_kept y ((freeze_closed s v).next x y (set_in x m) n e)) e;
    })

    same_set : freeze_set (kept s) v ≡ freeze_set s v
    same_set = sub_same (freeze_set (kept s) v) (freeze_set s v) s.rows (rows_in_place s w).distinct
        (sub_then (freeze_part (kept s) v) (sub_shrink (stays s) (length s.rows) s.rows)) (freeze_part s v) set_in set_out

    abbrev taken_out : ObjId → Bool
    taken_out o = has_row (freeze_set s v) o

    gone_not_frozen : (o : ObjId) → gone o ≡ true → (has_row s.given o || has_row (freeze_result s v).own o) ≡ true → ⊥
    gone_not_frozen o h e = elim (or_cases (has_row s.given o) (has_row (freeze_result s v).own o) e) [
      | inl k ↦ gone_mutable s w o h (or_left _ _ k)
      | inr k ↦ elim (or_cases (has_row (map frozen_row (freeze_set s v)) o) (has_row s.own o) (sym (has_all (map frozen_row (freeze_set s v)) s.own o) ∙ k)) [
        | inl n ↦ both_ways _ (gone_goes s w o h) (any_more (λ (x : Row). same_name x.name o) (freeze_set s v) (kept_rows s) set_kept (sym (has_frozen (freeze_set s v) o) ∙ n))
        | inr n ↦ gone_mutable s w o h (ap (λ b. has_row s.given o || b) n ∙ or-true _)
      ]
    ]

    freeze_among : AmongKept s (freeze_result s v) gone
    freeze_among = record {
      distinct = (rows_in_place (freeze_result s v) (freeze_keeps s v w)).distinct;
      owners = λ o x h e. inl (owner_old s.rows taken_out o x e).1;
      edges = λ e m h. edge_before s v w e m;
      into = λ o r h e. (owner_old s.rows taken_out o (In r) e).1;
      mutable = gone_not_frozen;
    }

    abbrev left_of : List Row → List Row
    left_of = filter (λ r. not (taken_out r.name))

    pub freeze_in_parts : kept (freeze_result (kept s) v) ≡ kept (freeze_result s v)
    freeze_in_parts =
        ap (λ set. kept (record s { rows = filter (λ r. not (has_row set r.name)) (kept_rows s); own = insert_rows (map frozen_row set) s.own })) same_set
        ∙ ap (λ rows. kept (record s { rows = rows; own = insert_rows (map frozen_row (freeze_set s v)) s.own }))
        (ap left_of (kept_is_left s w) ∙ filter_swap (λ (r : Row). not (taken_out r.name)) (λ (r : Row). not (gone r.name)) s.rows)
        ∙ kept_among s w (freeze_result s v) freeze_among

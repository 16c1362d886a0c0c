-- Rows without fields, to which no edge leads that is left: what their removal makes of counts and suspects.
use Rattle.std.proofs.Common.{Bool, List, None, Some, [], ap, arith, cond, false, filter, inl, inr, length, ltb, map, not, refl, subst, sym, true, ◌&&◌, ◌++◌, ◌+◌, ◌<◌, ◌∙◌, ◌∷◌, ◌≡◌, ◌≤◌}
use Rattle.std.proofs.lemmas.List.Sums.{sum_by-cons}
use Rattle.std.specs.List.{count_by}
use Rattle.lf_base.specs.declared.ids.ObjId.{ObjId}
use Rattle.lf_base.specs.declared.values.Owner.{Owner}
use Rattle.lf_base.specs.declared.values.Owner.TheVariants.{In, Local}
use Rattle.lf_base.specs.Edges.{Edge, content_edges, edges, row_edges, rows_edges, slot_edges}
use Rattle.lf_base.specs.Kept.{points}
use Rattle.lf_base.specs.Names.{same_name}
use Rattle.lf_base.specs.Owners.{bridges, is_bridge, is_in, is_local_at, names, owner_in}
use Rattle.lf_base.specs.Ownership.{is_in_other, is_owning, owning_edges}
use Rattle.lf_base.specs.PlainState.{Row, State}
use Rattle.lf_base.specs.Sets.{Member}
use Rattle.lf_base.specs.Settling.{CanGo, Renewed, Spent, Watched, WatchedBy, without}
use Rattle.lf_base.specs.Suspects.{Bare, Object, Suspect}
use Rattle.lf_base.specs.WalkCounts.{borrowed, borrows, is_borrower, refs}
use Rattle.lf_base.specs.WellFormed.{WellFormed}
use Rattle.lf_laws.proofs.Dropping.CountsJustifyDropping.{Inside, into_zero, owned_zero, points_zero, zero_into, zero_owned, zero_points}
use Rattle.lf_laws.proofs.Rows.EdgeSources.{at_content, at_frozen, at_row, at_slot, edge_begins}
use Rattle.lf_laws.proofs.Dropping.LeftRows.{well_formed_without}
use Rattle.lf_base.proofs.ListLemmas.Sublists.{sub_filter, count_sub}
use Rattle.std.proofs.lemmas.Bool.{both_ways, false_from_ne_true, not-true}
use Rattle.lf_laws.proofs.Rows.RowsByName.{owner_there}
use Rattle.lf_base.proofs.NameLemmas.SameNames.{same_name_is, same_name_itself}
use Rattle.lf_base.proofs.ListLemmas.Members.{Member_of_append}
use Rattle.lf_base.proofs.ListLemmas.Filters.{Member_of_filter}
use Rattle.lf_laws.proofs.Dropping.RowsInPlace.{rows_in_place}
use Rattle.lf_laws.proofs.Dropping.RowsWithout.{owner_lost, owner_old, owner_stay, watched_without}
use Rattle.lf_base.specs.Losses.{Loses, emptied, of_region, is_held, has_references, justified, size}
use Rattle.lf_laws.proofs.Losses.CountsFall.{filter_ext, not_above, not_none}
use Rattle.lf_laws.proofs.Edges.EdgeParts.{count_alike_on}
use Rattle.lf_laws.proofs.Rows.MappedRows.{mapped_names, mapped_owner}
use Rattle.std.proofs.Math.Bool.{and-false, and-true}

pub filter_ext_on : {X : Type 0} (p q : X → Bool) (xs : List X) → ((x : X) → Member x xs → p x ≡ q x) → filter p xs ≡ filter q xs
filter_ext_on p q [] h = refl
filter_ext_on p q (x ∷ xs) h = ap (λ b. cond b (x ∷ filter p xs) (filter p xs)) (h x (inl refl)) ∙ ap (λ l. cond (q x) (x ∷ l) l) (filter_ext_on p q xs (λ y m. h y (inr m)))

filter_names : (p : ObjId → Bool) (rows : List Row) → names (filter (λ r. p r.name) rows) ≡ filter p (names rows)
filter_names p [] = refl
filter_names p (r ∷ rs) = elim (p r.name) as (λ b. names (cond b (r ∷ filter (λ x. p x.name) rs) (filter (λ x. p x.name) rs)) ≡ cond b (r.name ∷ filter p (names rs)) (filter p (names rs))) [
  | true ↦ ap (λ l. r.name ∷ l) (filter_names p rs)
  | false ↦ filter_names p rs
]

filter_swap : {X : Type 0} (p q : X → Bool) (xs : List X) → filter p (filter q xs) ≡ filter q (filter p xs)
filter_swap p q [] = refl
filter_swap p q (x ∷ xs) = go (filter_swap p q xs) (p x) (q x) refl refl where
  go : filter p (filter q xs) ≡ filter q (filter p xs) → (a b : Bool) → p x ≡ a → q x ≡ b → filter p (cond (q x) (x ∷ filter q xs) (filter q xs)) ≡ filter q (cond (p x) (x ∷ filter p xs) (filter p xs))
  go rest true true e h = ap (λ c. filter p (cond c (x ∷ filter q xs) (filter q xs))) h ∙ ap (λ c. cond c (x ∷ filter p (filter q xs)) (filter p (filter q xs))) e
      ∙ ap (λ l. x ∷ l) rest
      ∙ sym (ap (λ c. filter q (cond c (x ∷ filter p xs) (filter p xs))) e ∙ ap (λ c. cond c (x ∷ filter q (filter p xs)) (filter q (filter p xs))) h)
  go rest true false e h = ap (λ c. filter p (cond c (x ∷ filter q xs) (filter q xs))) h ∙ rest
      ∙ sym (ap (λ c. filter q (cond c (x ∷ filter p xs) (filter p xs))) e ∙ ap (λ c. cond c (x ∷ filter q (filter p xs)) (filter q (filter p xs))) h)
  go rest false true e h = ap (λ c. filter p (cond c (x ∷ filter q xs) (filter q xs))) h ∙ ap (λ c. cond c (x ∷ filter p (filter q xs)) (filter p (filter q xs))) e
      ∙ rest ∙ sym (ap (λ c. filter q (cond c (x ∷ filter p xs) (filter p xs))) e)
  go rest false false e h = ap (λ c. filter p (cond c (x ∷ filter q xs) (filter q xs))) h ∙ rest ∙ sym (ap (λ c. filter q (cond c (x ∷ filter p xs) (filter p xs))) e)

abbrev pub clear : (ObjId → Bool) → Row → Row
clear gone row = cond (gone row.name) (record row { fields = [] }) row

pub clear_name : (gone : ObjId → Bool) (r : Row) → (clear gone r).name ≡ r.name
clear_name gone r = elim (gone r.name) as (λ b. (cond b (record r { fields = [] }) r).name ≡ r.name) [ true ↦ refl | false ↦ refl ]

pub clear_owner : (gone : ObjId → Bool) (r : Row) → (clear gone r).owner ≡ r.owner
clear_owner gone r = elim (gone r.name) as (λ b. (cond b (record r { fields = [] }) r).owner ≡ r.owner) [ true ↦ refl | false ↦ refl ]

rest_rows : (gone : ObjId → Bool) (rows : List Row) → filter (λ r. not (gone r.name)) (map (clear gone) rows) ≡ filter (λ r. not (gone r.name)) rows
rest_rows gone [] = refl
rest_rows gone (r ∷ rs) =
    ap (λ n. cond (not (gone n)) (clear gone r ∷ filter (λ x. not (gone x.name)) (map (clear gone) rs)) (filter (λ x. not (gone x.name)) (map (clear gone) rs))) (clear_name gone r)
    ∙ elim (gone r.name) as (λ b. cond (not b) (cond b (record r { fields = [] }) r ∷ filter (λ x. not (gone x.name)) (map (clear gone) rs)) (filter (λ x. not (gone x.name)) (map (clear gone) rs)) ≡ cond (not b) (r ∷ filter (λ x. not (gone x.name)) rs) (filter (λ x. not (gone x.name)) rs)) [
      | true ↦ rest_rows gone rs
      | false ↦ ap (λ l. r ∷ l) (rest_rows gone rs)
    ]

rest_edges : (gone : ObjId → Bool) (rows : List Row) → rows_edges (map (clear gone) rows) ≡ rows_edges (filter (λ r. not (gone r.name)) rows)
rest_edges gone [] = refl
rest_edges gone (r ∷ rs) = elim (gone r.name) as (λ b. row_edges (cond b (record r { fields = [] }) r) ++ rows_edges (map (clear gone) rs) ≡ rows_edges (cond (not b) (r ∷ filter (λ x. not (gone x.name)) rs) (filter (λ x. not (gone x.name)) rs))) [
  | true ↦ rest_edges gone rs
  | false ↦ ap (λ l. row_edges r ++ l) (rest_edges gone rs)
]

pub rest_size : (gone : ObjId → Bool) (rows : List Row) → size (map (clear gone) rows) ≡ size (filter (λ r. not (gone r.name)) rows) + length (filter (λ r. gone r.name) rows)
rest_size gone [] = refl
rest_size gone (r ∷ rs) = elim (gone r.name) as (λ b. size (cond b (record r { fields = [] }) r ∷ map (clear gone) rs) ≡ size (cond (not b) (r ∷ filter (λ x. not (gone x.name)) rs) (filter (λ x. not (gone x.name)) rs)) + length (cond b (r ∷ filter (λ x. gone x.name) rs) (filter (λ x. gone x.name) rs))) [
  | true ↦ omega (arith, sum_by-cons (λ (x : Row). 1 + length x.fields) (record r { fields = [] }) (map (clear gone) rs), rest_size gone rs)
  | false ↦ omega (arith, sum_by-cons (λ (x : Row). 1 + length x.fields) r (map (clear gone) rs), sum_by-cons (λ (x : Row). 1 + length x.fields) r (filter (λ x. not (gone x.name)) rs), rest_size gone rs)
]

pub rest_is : (s : State) (gone : ObjId → Bool) → without (emptied s gone) gone ≡ without s gone
rest_is s gone = ap (λ rows. record s { rows = rows }) (rest_rows gone s.rows)

pub owner_emptied : (s : State) (gone : ObjId → Bool) (o : ObjId) → owner_in (emptied s gone).rows o ≡ owner_in s.rows o
owner_emptied s gone o = mapped_owner (clear gone) (clear_name gone) (clear_owner gone) s.rows o

bridge_left : (s : State) (gone : ObjId → Bool) (r : ObjId) (b : Bool) → gone r ≡ b → is_bridge (without s gone).rows r ≡ (is_bridge s.rows r && not b)
bridge_left s gone r true e = ap (is_in r) (owner_lost s.rows gone r e) ∙ sym (and-false (is_bridge s.rows r))
bridge_left s gone r false e = ap (is_in r) (owner_stay s.rows gone r e) ∙ sym (and-true (is_bridge s.rows r))

left_both : (a b : Bool) → (a && not b) ≡ true → (b ≡ false) × (a ≡ true)
left_both true true h = cc
left_both true false h = (refl, refl)
left_both false b h = cc

-- a bridge that is left was one before
pub old_bridge : (s : State) (gone : ObjId → Bool) (r : ObjId) → is_bridge (without s gone).rows r ≡ true → (gone r ≡ false) × (is_bridge s.rows r ≡ true)
old_bridge s gone r e = left_both (is_bridge s.rows r) (gone r) (sym (bridge_left s gone r (gone r) refl) ∙ e)

-- the bridges that are left
pub bridges_left : (s : State) (gone : ObjId → Bool) → bridges (without s gone) ≡ filter (λ o. not (gone o)) (bridges s)
bridges_left s gone =
    ap (filter (is_bridge (without s gone).rows)) (filter_names (λ o. not (gone o)) s.rows)
    ∙ filter_ext_on (is_bridge (without s gone).rows) (is_bridge s.rows) (filter (λ o. not (gone o)) (names s.rows))
    (λ o m. ap (is_in o) (owner_stay s.rows gone o (not-true (gone o) (Member_of_filter (λ (p : ObjId). not (gone p)) o (names s.rows) m).1)))
    ∙ filter_swap (is_bridge s.rows) (λ o. not (gone o)) (names s.rows)

-- what is left of the edges is what the emptied rows leave
pub edges_same : (s : State) (gone : ObjId → Bool) → edges (emptied s gone) ≡ edges (without s gone)
edges_same s gone = ap (λ l. slot_edges s.slots ++ (l ++ (content_edges s.held ++ (content_edges s.made ++ (rows_edges s.given ++ rows_edges s.own))))) (rest_edges gone s.rows)

pub refs_left : (s : State) (gone : ObjId → Bool) (o : ObjId) → refs (without s gone) o ≡ refs (emptied s gone) o
refs_left s gone o = ap (count_by (λ (e : Edge). same_name e.to o)) (sym (edges_same s gone))

module _ (s : State) (gone : ObjId → Bool) (well : WellFormed s) (go : CanGo s gone) where
  abbrev t : State
  t = emptied s gone

  abbrev u : State
  u = without s gone

  names_emptied : names t.rows ≡ names s.rows
  names_emptied = mapped_names (clear gone) (clear_name gone) s.rows

  left_owner : (o : ObjId) → gone o ≡ false → owner_in u.rows o ≡ owner_in t.rows o
  left_owner o e = owner_stay s.rows gone o e ∙ sym (owner_emptied s gone o)

  frozen_stays : (o : ObjId) → owner_in s.rows o ≡ None → gone o ≡ false
  frozen_stays o e = false_from_ne_true (gone o) (λ h. let w = owner_there s.rows (rows_in_place s well).distinct o (go.must o h).here in some_none w.owner (sym e ∙ w.is))
    where
      some_none : (w : Owner) → None ≡ Some w → ⊥
      some_none w e = cc

  borrower_left : (e : Edge) → Member e (edges u) → is_borrower u.rows e.from ≡ is_borrower t.rows e.from
  borrower_left e m = elim (edge_begins u e m) [
    | at_slot f k ↦ ap (is_borrower u.rows) f ∙ sym (ap (is_borrower t.rows) f)
    | at_row x n f k ↦ ap (is_borrower u.rows) f ∙ ap is_local_at (left_owner x.name (not-true (gone x.name) (Member_of_filter (λ (r : Row). not (gone r.name)) x s.rows n).1)) ∙ sym (ap (is_borrower t.rows) f)
    | at_content c f k ↦ ap (is_borrower u.rows) f ∙ sym (ap (is_borrower t.rows) f)
    | at_frozen x k f ↦ ap (is_borrower u.rows) f ∙ ap is_local_at (left_owner x.name (frozen_stays x.name ((rows_in_place s well).apart x.name k))) ∙ sym (ap (is_borrower t.rows) f)
  ]

  owning_left_by : (r : ObjId) (e : Edge) → Member e (edges u) → is_owning u.rows e.from r ≡ is_owning t.rows e.from r
  owning_left_by r e m = elim (edge_begins u e m) [
    | at_slot f k ↦ ap (λ z. is_owning u.rows z r) f ∙ sym (ap (λ z. is_owning t.rows z r) f)
    | at_row x n f k ↦ ap (λ z. is_owning u.rows z r) f ∙ ap (is_in_other r) (left_owner x.name (not-true (gone x.name) (Member_of_filter (λ (r : Row). not (gone r.name)) x s.rows n).1)) ∙ sym (ap (λ z. is_owning t.rows z r) f)
    | at_content c f k ↦ ap (λ z. is_owning u.rows z r) f ∙ sym (ap (λ z. is_owning t.rows z r) f)
    | at_frozen x k f ↦ ap (λ z. is_owning u.rows z r) f ∙ ap (is_in_other r) (left_owner x.name (frozen_stays x.name ((rows_in_place s well).apart x.name k))) ∙ sym (ap (λ z. is_owning t.rows z r) f)
  ]

  pub borrowed_left : (r : ObjId) → borrowed u r ≡ borrowed t r
  borrowed_left r =
      count_alike_on (borrows u.rows r) (borrows t.rows r) (edges u) (λ e m. λ i. borrower_left e m i && is_in r (left_owner e.to (go.clear e m) i))
      ∙ ap (count_by (borrows t.rows r)) (sym (edges_same s gone))

  pub owning_left : (r : ObjId) → owning_edges u r ≡ owning_edges t r
  owning_left r =
      count_alike_on (λ (e : Edge). is_owning u.rows e.from r && same_name e.to r) (λ (e : Edge). is_owning t.rows e.from r && same_name e.to r) (edges u) (λ e m. λ i. owning_left_by r e m i && same_name e.to r)
      ∙ ap (count_by (λ (e : Edge). is_owning t.rows e.from r && same_name e.to r)) (sym (edges_same s gone))

  pub bridges_emptied : bridges t ≡ bridges s
  bridges_emptied = ap (filter (is_bridge t.rows)) names_emptied ∙ filter_ext (is_bridge t.rows) (is_bridge s.rows) (names s.rows) (λ o. ap (is_in o) (owner_emptied s gone o))

  -- nothing more is justified
  pub justified_left : justified u ≤ justified t
  justified_left =
      let rows : count_by (has_references u) (names u.rows) ≤ count_by (has_references t) (names s.rows) =
      subst (λ l. count_by (has_references u) l ≤ count_by (has_references t) (names s.rows)) (sym (filter_names (λ o. not (gone o)) s.rows))
      (count_sub (has_references u) (has_references t) (λ o e. ap (ltb 0) (sym (refs_left s gone o)) ∙ e) (sub_filter (λ (o : ObjId). not (gone o)) (names s.rows))) in
      let regions : count_by (is_held u) (bridges u) ≤ count_by (is_held t) (bridges s) =
      subst (λ l. count_by (is_held u) l ≤ count_by (is_held t) (bridges s)) (sym (bridges_left s gone))
      (count_sub (is_held u) (is_held t) (λ r e. (λ i. ltb 0 (sym (owning_left r) i + sym (borrowed_left r) i)) ∙ e) (sub_filter (λ (o : ObjId). not (gone o)) (bridges s))) in
      omega (arith, rows, regions, ap (count_by (has_references t)) names_emptied, ap (count_by (is_held t)) bridges_emptied)

  pub well_left : WellFormed u
  well_left = well_formed_without s gone well go

  -- what lost its last justification is a suspect
  module _ (old new : List Suspect) (loses : Loses s t old new) (stays : (o r : ObjId) → owner_in s.rows o ≡ Some (In r) → gone r ≡ false → 0 < refs s o → gone o ≡ false) where
    named_before : (o : ObjId) → points s.rows s o ≡ true → 0 < refs s o
    named_before o p = not_none (refs s o) (λ z. both_ways _ (zero_points s (rows_in_place s well) o z) p)

    unnamed_now : (o : ObjId) (w : Owner) → owner_in u.rows o ≡ Some w → Inside u (rows_in_place u well_left) o w → points u.rows u o ≡ false → refs t o ≡ 0
    unnamed_now o w e i n = sym (refs_left s gone o) ∙ points_zero u (rows_in_place u well_left) o w e i n

    held_before : (r : ObjId) → (Bare s r → ⊥) → is_held s r ≡ true
    held_before r h = by (is_held s r) refl where
      by : (b : Bool) → is_held s r ≡ b → is_held s r ≡ true
      by true e = e
      by false e = absurd (h (record { unowned = zero_owned s (rows_in_place s well) r (omega (arith, zero_held e)); unborrowed = zero_into s (rows_in_place s well) r (omega (arith, zero_held e)) })) where
        zero_held : is_held s r ≡ false → owning_edges s r + borrowed s r ≡ 0
        zero_held k = grind (arith, k)

    unheld_now : (r : ObjId) → Bare u r → is_held t r ≡ false
    unheld_now r b = not_above (owning_edges t r + borrowed t r) (omega (
      arith,
      owning_left r,
      borrowed_left r,
      owned_zero u (rows_in_place u well_left) r b.unowned,
      into_zero u (rows_in_place u well_left) r b.unborrowed,
    ))

    region_watched : (r : ObjId) → owner_in u.rows r ≡ Some (In r) → (Bare s r → ⊥) → Bare u r → WatchedBy u new r
    region_watched r e h b =
        let before = owner_old s.rows gone r (In r) e in
        let l = loses.regions_lost r (ap (is_in r) before.1 ∙ same_name_itself r) (held_before r h) (unheld_now r b) in
        (Object l.row, (l.suspect, owner_stay s.rows gone l.row (stays l.row r l.inside before.0 l.named) ∙ l.inside))

    pub renewed : Renewed s gone new
    renewed = record {
      locals = λ o e p n. let before = owner_old s.rows gone o Local e in loses.rows_lost o Local before.1 (named_before o p) (unnamed_now o Local e tt n);
      regions = region_watched;
      inners = λ o r e d p n. let before = owner_old s.rows gone o (In r) e in loses.rows_lost o (In r) before.1 (named_before o p) (unnamed_now o (In r) e d n);
    }

    pub watched_left : (x : Suspect) → Spent gone x → Watched s (x ∷ old) → Watched u new
    watched_left x spent w = watched_more u (new ++ old) new within (watched_without s (rows_in_place s well) gone go x new old spent renewed w)
      where
        within : (y : Suspect) → Member y (new ++ old) → Member y new
        within y m = elim (Member_of_append y new old m) [ inl k ↦ k | inr k ↦ loses.suspects_stay y k ]

        watched_more : (s : State) (v w : List Suspect) → ((y : Suspect) → Member y v → Member y w) → Watched s v → Watched s w
        watched_more s v w h watched = record {
          locals = λ o e n. h (Object o) (watched.locals o e n);
          regions = λ r e b. let x = watched.regions r e b in (x.0, (h x.0 x.1.0, x.1.1));
          inners = λ o r e d k n. h (Object o) (watched.inners o r e d k n);
        }

-- ---- a row, and a region
pub row_left : (s : State) (o : ObjId) (old new : List Suspect) → WellFormed s → CanGo s (same_name o) → refs s o ≡ 0 → Loses s (emptied s (same_name o)) old new
    → Watched s (Object o ∷ old) → Watched (without s (same_name o)) new
row_left s o old new well go none loses = watched_left s (same_name o) well go old new loses (λ p r h out named. false_from_ne_true _ (λ e.
    absurd (omega (arith, named, none, ap (refs s) (same_name_is o p e))))) (Object o) (same_name_itself o)

pub region_left : (s : State) (r : ObjId) (old new : List Suspect) (x : Suspect) → WellFormed s → CanGo s (of_region s r) → Loses s (emptied s (of_region s r)) old new
    → Spent (of_region s r) x → Watched s (x ∷ old) → Watched (without s (of_region s r)) new
region_left s r old new x well go loses = watched_left s (of_region s r) well go old new loses (λ p q h out named.
    ap (is_in r) h ∙ sym (ap (is_in r) (well.bridge p q h)) ∙ out) x

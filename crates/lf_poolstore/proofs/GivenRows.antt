-- A row that is given to an owner.
use Rattle.std.proofs.Common.{List, None, Option, Some, [], ap, arith, cond, false, is_some, length, min, refl, subst, sym, true, ℕ, ◌++◌, ◌+◌, ◌∙◌, ◌∷◌, ◌≡◌, ◌≢◌, ◌≤◌}
use Rattle.std.specs.Prelude.{eqb}
use Rattle.std.proofs.lemmas.Bool.Decides.{Decides-eqb}
use Rattle.std.proofs.lemmas.List.{append-nil}
use Rattle.lf_graph.proofs.Stores.Reordered.{rows_append, same_owner_is, same_owner_itself}
use Rattle.lf_poolstore.proofs.PoolRows.{some_same}
use Rattle.slab.specs.Slab.{get}
use Rattle.lf_base.specs.declared.ids.ObjId.{ObjId}
use Rattle.lf_base.specs.declared.values.Owner.{Owner}
use Rattle.lf_base.specs.Names.{same_name, same_owner}
use Rattle.lf_graph.specs.RowChanges.{moved_last, moved_under, with_owner, without_row}
use Rattle.lf_graph.specs.Room.{room_for_row}
use Rattle.lf_graph.specs.StoredRows.{CountedRow, HasRow, SameByOwner, fields_by, row_named, rows_of}
use Rattle.lf_base.proofs.NameLemmas.SameNames.{same_name_itself}
use Rattle.lf_graph.proofs.Stores.Changes.{found_without_row}
use Rattle.lf_poolstore.specs.declared.place.Place.{Place}
use Rattle.lf_poolstore.specs.declared.pools.Pools.{Pools}
use Rattle.lf_poolstore.specs.Index.{index_room, place_at}
use Rattle.lf_poolstore.specs.Places.{place_or}
use Rattle.lf_poolstore.specs.Pools.{ArePools, MovesRow, UnitsAt, place_of, rows_by, spare_by, unit_by, unit_of}
use Rattle.lf_poolstore.specs.PoolViews.{pool_rows, pool_spare}
use Rattle.lf_poolstore.specs.Units.{StandsAt, UnitView}
use Rattle.lf_poolstore.proofs.PoolChanges.{changed_kept, changed_room, pushed_kept, pushed_rows, stands_alone, turned_shown, without_turns}
use Rattle.lf_poolstore.proofs.PoolFacts.{numbered, numbers_in, place_found, place_stands, same_unit, shown}
use Rattle.lf_poolstore.proofs.PoolSteps.{fewer_places}

-- a name whose row is gone is new
pub gone_is_new : (rows : List CountedRow) (o : ObjId) → row_named (without_row rows o) o ≡ None
gone_is_new rows o = found_without_row rows o o ∙ ap (λ b. cond b None (row_named rows o)) (same_name_itself o)

module _ (p : Pools) (o : ObjId) (q : Place) (is : q ≡ place_or (place_at p.index o)) (h : HasRow (pool_rows p) o) (owner : Owner) (k : ℕ) (number : numbers_in p owner ≡ Some k) (apart : eqb q.unit k ≡ false)
    (u t : UnitView) (at_u : get p.units q.unit ≡ Some u) (at_t : get p.units k ≡ Some t) (now : UnitsAt) (x : ℕ) (moves : MovesRow (get p.units) now q.unit k u t o x)
    (led : ObjId → Option Place) (led_is : (r : ObjId) → led r ≡ cond (same_name o r) (Some (place_of k x)) (place_at p.index r)) where
  -- the units without the row
  abbrev between : UnitsAt
  between m = cond (eqb q.unit m) (Some moves.left) (get p.units m)

  stands : StandsAt u q.row o
  stands = place_stands p o q is h u at_u

  between_kept : ArePools (place_at p.index) (numbers_in p) between
  between_kept = changed_kept (place_at p.index) (numbers_in p) (get p.units) between p.kept q.unit u moves.left at_u (λ m. refl) moves.left_owner moves.left_whole (fewer_places o u moves.left moves.left_places)

  between_rows : (w : Owner) → rows_of w (without_row (pool_rows p) o) ≡ rows_by (unit_of (numbers_in p) between w)
  between_rows = turned_shown (place_at p.index) (numbers_in p) (get p.units) between p.kept q.unit u moves.left at_u (λ m. refl) moves.left_owner moves.left_whole o q.row stands (λ rows. without_row rows o) (without_turns o) moves.left_rows (pool_rows p) (shown p)

  here : between k ≡ Some t
  here = ap (λ b. cond b (Some moves.left) (get p.units k)) apart ∙ at_t

  pub given_kept : ArePools led (numbers_in p) now
  given_kept = pushed_kept (place_at p.index) led (numbers_in p) between now between_kept k t moves.taken here moves.units moves.taken_owner moves.taken_whole (without_row (pool_rows p) o) between_rows o x (gone_is_new (pool_rows p) o) moves.taken_places led_is

  its_owner : t.owner ≡ owner
  its_owner = let n = numbered p owner k number in ap (λ (y : UnitView). y.owner) (same_unit t n.0 (sym at_t ∙ n.1)) ∙ n.2

  pub given_rows : (after : List CountedRow) → ((w : Owner) → rows_of w after ≡ rows_by (unit_of (numbers_in p) now w)) → SameByOwner after (moved_last (pool_rows p) o owner)
  given_rows after shown_now = go (row_named u.rows o) refl where
    found : row_named (pool_rows p) o ≡ row_named u.rows o
    found = place_found p o q is u at_u stands

    go : (d : Option CountedRow) → row_named u.rows o ≡ d → SameByOwner after (moved_last (pool_rows p) o owner)
    go None e = let n = sym (ap is_some (found ∙ e)) ∙ h in absurd (cc n)
    go (Some d) e =
        subst (SameByOwner after) (ap (λ w. without_row (pool_rows p) o ++ with_owner w d ∷ []) its_owner ∙ ap (λ r. without_row (pool_rows p) o ++ moved_under owner r) (sym (found ∙ e)))
        (pushed_rows (place_at p.index) led (numbers_in p) between now between_kept k t moves.taken here moves.units moves.taken_owner moves.taken_whole (without_row (pool_rows p) o) between_rows o x (gone_is_new (pool_rows p) o) moves.taken_places led_is
        (with_owner t.owner d) (moves.taken_rows ∙ ap (λ r. t.rows ++ moved_under t.owner r) e) refl after shown_now)

  pub given_room : (names : ℕ) → index_room p.index ≤ names + 1 → (w : Owner) → pool_spare p w ≤ spare_by names (unit_of (numbers_in p) now w) + room_for_row (pool_rows p) o
  given_room names l w =
      let need : room_for_row u.rows o ≡ room_for_row (pool_rows p) o = ap (λ r. 1 + length (fields_by r)) (sym (place_found p o q is u at_u stands)) in
      let some : index_room p.index ≤ names + room_for_row u.rows o = omega (arith, l) in
      let one = changed_room (place_at p.index) (numbers_in p) (get p.units) between p.kept q.unit u moves.left at_u (λ m. refl) moves.left_owner moves.left_whole 0 (index_room p.index) (index_room p.index) (omega arith) (let r = moves.left_room in omega (arith, r)) w in
      let two = changed_room (place_at p.index) (numbers_in p) between now between_kept k t moves.taken here moves.units moves.taken_owner moves.taken_whole (room_for_row u.rows o) (index_room p.index) names some moves.taken_room w in
      omega (arith, one, two, need)

-- what the move needs
pub given_needs : (p : Pools) (o : ObjId) (q : Place) → q ≡ place_or (place_at p.index o) → HasRow (pool_rows p) o → (owner : Owner) (k : ℕ) → numbers_in p owner ≡ Some k → eqb q.unit k ≡ false → (u t : UnitView)
    → get p.units q.unit ≡ Some u → get p.units k ≡ Some t → room_for_row (pool_rows p) o ≤ pool_spare p owner → (row_named t.rows o ≡ None) × (room_for_row u.rows o ≤ t.spare)
given_needs p o q is h owner k number apart u t at_u at_t room = (
  stands_alone (place_at p.index) (numbers_in p) (get p.units) p.kept q.unit u o q.row at_u (place_stands p o q is h u at_u) k t apart at_t,
  (let need : room_for_row u.rows o ≡ room_for_row (pool_rows p) o = ap (λ r. 1 + length (fields_by r)) (sym (place_found p o q is u at_u (place_stands p o q is h u at_u))) in
      let e : pool_spare p owner ≡ min (index_room p.index) t.spare = ap (λ n. spare_by (index_room p.index) (unit_by (get p.units) n)) number ∙ ap (spare_by (index_room p.index)) at_t in
      omega (arith, room, need, e)),
)

-- ---- a row that comes last under the owner that it has
module _ (p : Pools) (o : ObjId) (q : Place) (is : q ≡ place_or (place_at p.index o)) (h : HasRow (pool_rows p) o) (owner : Owner) (number : numbers_in p owner ≡ Some q.unit)
    (u v : UnitView) (at_u : get p.units q.unit ≡ Some u) (now : UnitsAt) (change : (m : ℕ) → now m ≡ cond (eqb q.unit m) (Some v) (get p.units m)) (rows_are : v.rows ≡ moved_last u.rows o u.owner) where
  unit_owner : (w : Owner) → numbers_in p w ≡ Some q.unit → u.owner ≡ w
  unit_owner w e = let n = numbered p w q.unit e in ap (λ (y : UnitView). y.owner) (same_unit u n.0 (sym at_u ∙ n.1)) ∙ n.2

  not_under : (w : Owner) (s : Option ℕ) → numbers_in p w ≡ s → s ≢ Some q.unit → same_owner owner w ≡ false
  not_under w s e d = elim (same_owner owner w) as (λ b. same_owner owner w ≡ b → b ≡ false) [
    | true ↦ λ k. absurd (d (sym e ∙ ap (numbers_in p) (sym (same_owner_is owner w k)) ∙ number))
    | false ↦ λ _. refl
  ] refl

  pub last_rows : (after : List CountedRow) → ((w : Owner) → rows_of w after ≡ rows_by (unit_of (numbers_in p) now w)) → SameByOwner after (moved_last (pool_rows p) o owner)
  last_rows after shown_now w = go (row_named u.rows o) refl where
    found : row_named (pool_rows p) o ≡ row_named u.rows o
    found = place_found p o q is u at_u (place_stands p o q is h u at_u)

    go : (d : Option CountedRow) → row_named u.rows o ≡ d → rows_of w after ≡ rows_of w (moved_last (pool_rows p) o owner)
    go None e = let n = sym (ap is_some (found ∙ e)) ∙ h in absurd (cc n)
    go (Some d) e =
        shown_now w ∙ by_number (numbers_in p w) refl
        ∙ sym (rows_append w (without_row (pool_rows p) o) (moved_under owner (row_named (pool_rows p) o))
        ∙ (λ i. ((without_turns o).turns w (pool_rows p) ∙ ap (λ rs. without_row rs o) (shown p w)) i ++ rows_of w (moved_under owner ((found ∙ e) i))))
      where
        by_number : (s : Option ℕ) → numbers_in p w ≡ s → rows_by (unit_by now s) ≡ without_row (rows_by (unit_of (numbers_in p) (get p.units) w)) o ++ rows_of w (moved_under owner (Some d))
        by_number s f = one s f ∙ sym (ap (λ k. without_row (rows_by (unit_by (get p.units) k)) o ++ rows_of w (moved_under owner (Some d))) f) where
          away : (rs : List CountedRow) → row_named rs o ≡ None → same_owner owner w ≡ false → rs ≡ without_row rs o ++ rows_of w (moved_under owner (Some d))
          away rs n k = sym ((λ i. (without_turns o).away rs n i ++ cond (k i) (with_owner owner d ∷ []) []) ∙ append-nil rs)

          one : (t : Option ℕ) → numbers_in p w ≡ t → rows_by (unit_by now t) ≡ without_row (rows_by (unit_by (get p.units) t)) o ++ rows_of w (moved_under owner (Some d))
          one None g = away [] refl (not_under w None g (λ z. cc))
          one (Some m) g = ap rows_by (change m) ∙ (elim (eqb q.unit m) as (λ b. eqb q.unit m ≡ b → rows_by (cond b (Some v) (get p.units m)) ≡ without_row (rows_by (get p.units m)) o ++ rows_of w (moved_under owner (Some d))) [
            | true ↦ λ k.
                let same = (Decides-eqb q.unit m).0 k in
                let here : get p.units m ≡ Some u = ap (get p.units) (sym same) ∙ at_u in
                let own : u.owner ≡ w = unit_owner w (g ∙ ap Some (sym same)) in
                let mine : u.owner ≡ owner = unit_owner owner number in
                rows_are ∙ ap (λ t. without_row u.rows o ++ moved_under u.owner t) e ∙ ap (λ y. without_row u.rows o ++ with_owner y d ∷ []) mine
                ∙ sym (ap (λ t. without_row (rows_by t) o ++ rows_of w (moved_under owner (Some d))) here
                ∙ ap (λ b. without_row u.rows o ++ cond b (with_owner owner d ∷ []) []) (ap (λ y. same_owner y w) (sym mine ∙ own) ∙ same_owner_itself w))
            | false ↦ λ k. others m k g (get p.units m) refl
          ] refl) where
            differ : (m : ℕ) → eqb q.unit m ≡ false → Some m ≡ Some q.unit → ⊥
            differ m k z = let y : eqb q.unit m ≡ true = (Decides-eqb q.unit m).1 (sym (some_same m q.unit z)) in cc (y, k)

            others : (m : ℕ) → eqb q.unit m ≡ false → numbers_in p w ≡ Some m → (t : Option UnitView) → get p.units m ≡ t → rows_by (get p.units m) ≡ without_row (rows_by (get p.units m)) o ++ rows_of w (moved_under owner (Some d))
            others m k g None x = away (rows_by (get p.units m)) (ap (λ t. row_named (rows_by t) o) x) (not_under w (Some m) g (λ z. differ m k z))
            others m k g (Some t) x =
                away (rows_by (get p.units m)) (ap (λ y. row_named (rows_by y) o) x ∙ stands_alone (place_at p.index) (numbers_in p) (get p.units) p.kept q.unit u o q.row at_u (place_stands p o q is h u at_u) m t k x)
                (not_under w (Some m) g (λ z. differ m k z))

-- A survey over the rows that move, each of them once.
use Rattle.std.proofs.Common.{List, None, Option, Some, [], ap, arith, false, flat_map, inl, inr, length, refl, slice_get, subst, suc, sym, true, zero, ℕ, ◌&&◌, ◌+◌, ◌++◌, ◌||◌, ◌∙◌, ◌∷◌, ◌≡◌}
use Rattle.std.proofs.lemmas.Bool.{and_parts, or_cases}
use Rattle.std.proofs.lemmas.List.{append-nil, append_assoc, length-append}
use Rattle.std.proofs.lemmas.List.Folds.{list_any-append}
use Rattle.std.proofs.Math.Bool.{or-true}
use Rattle.std.specs.List.{list_any}
use Rattle.lf_base.specs.declared.ids.ObjId.{ObjId}
use Rattle.lf_base.specs.declared.values.Owner.TheVariants.{Local}
use Rattle.lf_base.specs.declared.values.Value.{Value}
use Rattle.lf_base.specs.Edges.{Field, field_targets}
use Rattle.lf_base.specs.MoveSet.{move_set}
use Rattle.lf_base.specs.Names.{same_name, targets_of_value}
use Rattle.lf_base.specs.Owners.{has_name, is_local_at, names, owner_in}
use Rattle.lf_base.specs.PlainState.{State}
use Rattle.lf_base.specs.Sets.{Differ, Member}
use Rattle.lf_base.proofs.ListLemmas.Members.{Member_left, any_Member}
use Rattle.lf_base.proofs.NameLemmas.SameNames.{same_name_is}
use Rattle.lf_barrier.specs.declared.survey.Survey.{Survey}
use Rattle.lf_barrier.specs.Surveys.{Extends, IsSurvey, objects_touched}
use Rattle.lf_barrier.proofs.MovingEdges.FieldLoops.{fields_told}
use Rattle.lf_barrier.proofs.FieldWrites.InsideWrite.{keys_found, target_edge}
use Rattle.lf_barrier.proofs.MovingEdges.RowLoops.{head_there}
use Rattle.lf_barrier.proofs.Surveys.SurveySteps.{flat_more}
use Rattle.lf_domain.specs.Counts.{IsDomain}
use Rattle.lf_domain.proofs.StoreEdges.{owned_has_row, owner_told}
use Rattle.lf_graph.specs.StoredRows.{CountedRow, HasRow, fields_at, owner_at}
use Rattle.lf_graph.proofs.Stores.FieldWalks.{FieldKeysDiffer}
use Rattle.lf_laws.proofs.Dropping.RowsInPlace.{rows_in_place}
use Rattle.lf_laws.proofs.Rows.OwnerTests.{local_at_is}
use Rattle.lf_laws.proofs.Rows.RowsByName.{has_append}
use Rattle.lf_laws.proofs.Writes.MovedRows.{moved_start, moved_step}
use Rattle.lf_regions.specs.declared.region.Region.{Region}

pub stored_keys : (rows : List CountedRow) (regions : List Region) (s : State) → IsDomain rows regions s → (o : ObjId) → FieldKeysDiffer (fields_at rows o)
stored_keys rows regions s d o =
    subst FieldKeysDiffer (sym (fields_told rows s.rows o ((d.counts).store).rows)) (keys_found s.rows o (λ x m. (d.well_formed).keys_differ x (Member_left x s.rows (s.given ++ s.own) m)))

-- the name after those that are done
pub head_at : (done left : List ObjId) (i : ℕ) (p : ObjId) → length done ≡ i → Some p ≡ slice_get (done ++ left) i → (rest : List ObjId) × (left ≡ p ∷ rest)
head_at [] [] i p n e = absurd (cc)
head_at [] (x ∷ xs) zero p n e = let same : x ≡ p = cc in (xs, ap (λ y. y ∷ xs) same)
head_at [] (x ∷ xs) (suc i) p n e = absurd (omega (arith, n))
head_at (d ∷ ds) left zero p n e = absurd (omega (arith, n))
head_at (d ∷ ds) left (suc i) p n e = head_at ds left i p (omega (arith, n)) e

pub none_at : (done left : List ObjId) (i : ℕ) → length done ≡ i → None ≡ slice_get (done ++ left) i → left ≡ []
none_at [] [] i n e = refl
none_at [] (x ∷ xs) zero n e = absurd (cc)
none_at [] (x ∷ xs) (suc i) n e = absurd (omega (arith, n))
none_at (d ∷ ds) left zero n e = absurd (omega (arith, n))
none_at (d ∷ ds) left (suc i) n e = none_at ds left i (omega (arith, n)) e

module _ (rows : List CountedRow) (regions : List Region) (home : ObjId) (old : Option ObjId) (v : Value) where
  abbrev Within : Survey → Type 0
  Within found = (s : State) → IsDomain rows regions s → (o : ObjId) → has_name (found.moved).keys o ≡ true → has_name (names (move_set s v)) o ≡ true

  pub record Surveying (i : ℕ) (found : Survey) : Type 0 where
    pub done : List ObjId
    pub left : List ObjId
    pub count : length done ≡ i
    pub split : (found.moved).keys ≡ done ++ left
    pub is : IsSurvey rows regions home old (objects_touched rows v done) found
    pub within : Within found

  -- an object that moves was visited, and is local
  moved_visited : (seen : List ObjId) (found : Survey) → IsSurvey rows regions home old seen found → (o : ObjId) → has_name (found.moved).keys o ≡ true → (list_any (λ p. is_local_at (owner_at rows p) && same_name p o) seen ≡ true)
  moved_visited seen found is o h = sym (is.moves o) ∙ h

  visited_local : (seen : List ObjId) (o : ObjId) → list_any (λ p. is_local_at (owner_at rows p) && same_name p o) seen ≡ true → Member o seen × (owner_at rows o ≡ Some Local)
  visited_local seen o h =
      let t = any_Member (λ p. is_local_at (owner_at rows p) && same_name p o) seen h in
      let parts = and_parts (is_local_at (owner_at rows t.0)) (same_name t.0 o) t.1.1 in
      let same : t.0 ≡ o = same_name_is t.0 o parts.1 in
      (subst (λ n. Member n seen) same t.1.0, local_at_is (owner_at rows o) (ap (λ n. is_local_at (owner_at rows n)) (sym same) ∙ parts.0))

  pub moved_owner : (seen : List ObjId) (found : Survey) → IsSurvey rows regions home old seen found → (o : ObjId) → has_name (found.moved).keys o ≡ true → owner_at rows o ≡ Some Local
  moved_owner seen found is o h = (visited_local seen o (moved_visited seen found is o h)).1

  state_local : (s : State) → IsDomain rows regions s → (o : ObjId) → owner_at rows o ≡ Some Local → owner_in s.rows o ≡ Some Local
  state_local s d o h = owner_told rows s.rows o ((d.counts).store).rows ∙ h

  pub none_surveyed : (empty : Survey) → (empty.moved).keys ≡ [] → (empty.touched).keys ≡ [] → empty.inside ≡ false → empty.second ≡ false → IsSurvey rows regions home old [] empty
  none_surveyed empty m t i n = record {
    moves = λ o. ap (λ l. has_name l o) m;
    differ = subst (Differ same_name) (sym m) tt;
    touches = λ b. ap (λ l. has_name l b) t;
    is_inside = i;
    once = λ h b o. (omega arith, λ p. absurd (omega (arith, p)));
    twice = λ h. absurd (let z : false ≡ true = sym n ∙ h in cc);
  }

  pub surveying_begins : (empty found : Survey) → IsSurvey rows regions home old [] empty → Extends rows regions home old (targets_of_value v) empty found → Surveying 0 found
  surveying_begins empty found none e =
      let is : IsSurvey rows regions home old (targets_of_value v) found = e.survey [] none in
      record {
        done = [];
        left = (found.moved).keys;
        count = refl;
        split = refl;
        is = subst (λ l. IsSurvey rows regions home old l found) (sym (append-nil (targets_of_value v))) is;
        within = λ s d o h.
            let t = visited_local (targets_of_value v) o (moved_visited (targets_of_value v) found is o h) in
            moved_start s v (rows_in_place s d.well_formed).distinct o t.0 (state_local s d o t.1);
      }

  module _ (i : ℕ) (found : Survey) (g : Surveying i found) (p : ObjId) (at : Some p ≡ slice_get (found.moved).keys i) where
    pub next_left : (rest : List ObjId) × (g.left ≡ p ∷ rest)
    next_left = head_at g.done g.left i p g.count (at ∙ ap (λ l. slice_get l i) g.split)

    keys_now : (found.moved).keys ≡ g.done ++ p ∷ (next_left).0
    keys_now = g.split ∙ ap (λ l. g.done ++ l) (next_left).1

    moves_too : has_name (found.moved).keys p ≡ true
    moves_too = ap (λ l. has_name l p) keys_now ∙ has_append g.done (p ∷ (next_left).0) p ∙ ap (λ b. has_name g.done p || b) (head_there p (next_left).0) ∙ or-true (has_name g.done p)

    pub row_is_there : HasRow rows p
    row_is_there = owned_has_row rows p Local (moved_owner (objects_touched rows v g.done) found g.is p moves_too)

    abbrev own : List ObjId
    own = field_targets (fields_at rows p)

    pub surveying_on : (next : Survey) → Extends rows regions home old own found next → Surveying (i + 1) next
    surveying_on next e =
        let after : IsSurvey rows regions home old (objects_touched rows v g.done ++ own) next = e.survey (objects_touched rows v g.done) g.is in
        record {
          done = g.done ++ p ∷ [];
          left = (next_left).0 ++ e.more;
          count = length-append g.done (p ∷ []) ∙ ap (λ n. n + 1) g.count;
          split = e.grows ∙ ap (λ l. l ++ e.more) keys_now ∙ append_assoc g.done (p ∷ (next_left).0) e.more ∙ sym (append_assoc g.done (p ∷ []) ((next_left).0 ++ e.more));
          is = subst (λ l. IsSurvey rows regions home old l next)
              (append_assoc (targets_of_value v) (flat_map (λ o. field_targets (fields_at rows o)) g.done) own ∙ ap (λ l. targets_of_value v ++ l) (sym (flat_more (λ o. field_targets (fields_at rows o)) g.done p))) after;
          within = λ s d o h. within_next next s d o (sym (list_any-append (λ q. is_local_at (owner_at rows q) && same_name q o) (objects_touched rows v g.done) own) ∙ moved_visited (objects_touched rows v g.done ++ own) next after o h);
        } where
          within_next : (next : Survey) (s : State) → IsDomain rows regions s → (o : ObjId) → (list_any (λ q. is_local_at (owner_at rows q) && same_name q o) (objects_touched rows v g.done) || list_any (λ q. is_local_at (owner_at rows q) && same_name q o) own) ≡ true → has_name (names (move_set s v)) o ≡ true
          within_next next s d o h = elim (or_cases (list_any (λ q. is_local_at (owner_at rows q) && same_name q o) (objects_touched rows v g.done)) (list_any (λ q. is_local_at (owner_at rows q) && same_name q o) own) h) as (λ _. has_name (names (move_set s v)) o ≡ true) [
            | inl a ↦ g.within s d o ((g.is).moves o ∙ a)
            | inr b ↦
                let t = visited_local own o b in
                moved_step s v (rows_in_place s d.well_formed).distinct (record { from = Field p; to = o })
                (target_edge s.rows p o (subst (λ l. Member o (field_targets l)) (fields_told rows s.rows p ((d.counts).store).rows) t.0)) p refl (g.within s d p moves_too) (state_local s d o t.1)
          ]

  pub surveyed : (i : ℕ) (found : Survey) (g : Surveying i found) → None ≡ slice_get (found.moved).keys i → IsSurvey rows regions home old (objects_touched rows v (found.moved).keys) found
  surveyed i found g none =
      let over : g.left ≡ [] = none_at g.done g.left i g.count (none ∙ ap (λ l. slice_get l i) g.split) in
      subst (λ l. IsSurvey rows regions home old (objects_touched rows v l) found) (sym (g.split ∙ ap (λ l. g.done ++ l) over ∙ append-nil g.done)) g.is

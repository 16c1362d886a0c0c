-- The rows of one part, gone over one by one.
use Rattle.std.proofs.Common.{Bool, List, None, Option, Some, [], ap, arith, cond, false, get_or, inl, inr, length, refl, slice_get, subst, sym, take, true, ℕ, ◌+◌, ◌++◌, ◌<◌, ◌∙◌, ◌∷◌, ◌≡◌, ◌≤◌, ◌⊎◌}
use Rattle.std.specs.Option.{option_map}
use Rattle.std.proofs.lemmas.Bool.{cases_lt}
use Rattle.std.proofs.lemmas.List.{append-nil, append_assoc, map-append, take_all, take_more}
use Rattle.std.proofs.lemmas.Option.{get_or_from_slice_get, none-some, slice_get-get_or, slice_get_within}
use Rattle.lf_base.specs.declared.ids.ObjId.{ObjId}
use Rattle.lf_base.specs.Sets.{Member}
use Rattle.lf_base.proofs.ListLemmas.Members.{Member_of_append}
use Rattle.lf_base.proofs.ListLemmas.Tests.{some_is}
use Rattle.lf_frozen.specs.FrozenRows.{comes_after}
use Rattle.lf_graph.specs.declared.store.RowHead.{RowHead}
use Rattle.lf_graph.specs.Parts.{row_head}
use Rattle.lf_graph.specs.StoredRows.{CountedRow}
use Rattle.lf_parcel.specs.declared.spots.Spot.{Spot}
use Rattle.lf_parcel.specs.Spots.{IsLeastAbove, LeastInPart, StandsAt, lesser_name, name_found, spot_names, stored_names}
use Rattle.lf_parcel.proofs.Orders.LeastNames.{least_joined, least_of_none, least_of_one}
use Rattle.lf_parcel.proofs.Trees.StoredRegions.{plain_names}

-- ---- the row of which a head is told
pub record HeadOf (rows : List CountedRow) (at : ℕ) (head : RowHead) : Type 0 where
  pub row : CountedRow
  pub there : slice_get rows at ≡ Some row
  pub is : head ≡ row_head row

pub head_there : (rows : List CountedRow) (at : ℕ) (head : RowHead) → Some head ≡ option_map row_head (slice_get rows at) → HeadOf rows at head
head_there rows at head told = go (slice_get rows at) refl where
  go : (found : Option CountedRow) → slice_get rows at ≡ found → HeadOf rows at head
  go (Some row) e = record { row = row; there = e; is = some_is head (row_head row) (told ∙ ap (option_map row_head) e) }
  go None e = absurd (none-some head (sym (told ∙ ap (option_map row_head) e)))

pub past_end : {X : Type 0} (xs : List X) (at : ℕ) → slice_get xs at ≡ None → length xs ≤ at
past_end [] at e = omega arith
past_end (x ∷ xs) at e = elim (cases_lt at (length (x ∷ xs))) [
  | inl lt ↦ absurd (none-some (get_or (x ∷ xs) at x) (sym e ∙ slice_get-get_or (x ∷ xs) at x lt))
  | inr le ↦ le
]

pub no_head_left : (rows : List CountedRow) (at : ℕ) → None ≡ option_map row_head (slice_get rows at) → length rows ≤ at
no_head_left rows at told = go (slice_get rows at) refl where
  go : (found : Option CountedRow) → slice_get rows at ≡ found → length rows ≤ at
  go (Some row) e = absurd (none-some (row_head row) (told ∙ ap (option_map row_head) e))
  go None e = past_end rows at e

names_on : (rows : List CountedRow) (at : ℕ) (row : CountedRow) → slice_get rows at ≡ Some row → stored_names (take (at + 1) rows) ≡ stored_names (take at rows) ++ (row.row).name ∷ []
names_on rows at row e =
    ap stored_names (take_more rows at row (slice_get_within rows at row e) ∙ ap (λ r. take at rows ++ r ∷ []) (get_or_from_slice_get rows at row row e))
    ∙ plain_names (take at rows) (row ∷ [])

module _ (rows : List CountedRow) (place : ℕ) where
  abbrev spot_at : ℕ → RowHead → Spot
  spot_at at head = record { name = head.name; part = place; at = at }

  stands_here : (at : ℕ) (head : RowHead) → HeadOf rows at head → StandsAt rows (spot_at at head)
  stands_here at head h = record { row = h.row; there = h.there; name = sym (ap (λ (r : RowHead). r.name) h.is) }

  pub fewer_left : (at : ℕ) (head : RowHead) → Some head ≡ option_map row_head (slice_get rows at) → at < length rows
  fewer_left at head told = let h = head_there rows at head told in slice_get_within rows at h.row h.there

  -- ---- rows that are listed
  module _ (old : List Spot) where
    pub record Listing (at : ℕ) (now : List Spot) : Type 0 where
      pub within : at ≤ length rows
      pub names : spot_names now ≡ spot_names old ++ stored_names (take at rows)
      pub there : (spot : Spot) → Member spot now → Member spot old ⊎ ((spot.part ≡ place) × StandsAt rows spot)

    pub listing_begins : Listing 0 old
    listing_begins = record { within = omega arith; names = sym (append-nil (spot_names old)); there = λ s m. inl m }

    module _ (at : ℕ) (now : List Spot) (g : Listing at now) where
      pub listing_on : (head : RowHead) → Some head ≡ option_map row_head (slice_get rows at) → (new : List Spot) → new ≡ now ++ spot_at at head ∷ [] → Listing (at + 1) new
      listing_on head told new is =
          let h = head_there rows at head told in
          record {
            within = omega (arith, fewer_left at head told);
            names = ap spot_names is ∙ map-append (λ (s : Spot). s.name) now (spot_at at head ∷ []) ∙ ap (λ l. l ++ head.name ∷ []) g.names
                ∙ append_assoc (spot_names old) (stored_names (take at rows)) (head.name ∷ [])
                ∙ ap (λ l. spot_names old ++ l) (ap (λ n. stored_names (take at rows) ++ n ∷ []) (ap (λ (r : RowHead). r.name) h.is) ∙ sym (names_on rows at h.row h.there));
            there = λ s m. elim (Member_of_append s now (spot_at at head ∷ []) (subst (Member s) is m)) [
              | inl k ↦ g.there s k
              | inr k ↦ elim k [ inl e ↦ inr (subst (λ (s : Spot). (s.part ≡ place) × StandsAt rows s) e (refl, stands_here at head h)) | inr n ↦ absurd n ]
            ];
          }

      pub all_listed : None ≡ option_map row_head (slice_get rows at) → spot_names now ≡ spot_names old ++ stored_names rows
      all_listed told = g.names ∙ ap (λ l. spot_names old ++ stored_names l) (take_all at rows (no_head_left rows at told))

  -- ---- the least one
  module _ (after : Option ObjId) where
    pub record Seeking (at : ℕ) (found : Option Spot) : Type 0 where
      pub within : at ≤ length rows
      pub least : IsLeastAbove (stored_names (take at rows)) after (name_found found)
      pub there : (spot : Spot) → found ≡ Some spot → (spot.part ≡ place) × StandsAt rows spot

    pub seeking_begins : Seeking 0 None
    seeking_begins = record { within = omega arith; least = least_of_none after; there = λ s e. absurd (none-some s e) }

    name_above : (spot : Spot) (b : Bool) → name_found (cond b (Some spot) None) ≡ cond b (Some (spot.name)) None
    name_above spot true = refl
    name_above spot false = refl

    some_above : (spot s : Spot) (b : Bool) → cond b (Some spot) None ≡ Some s → spot ≡ s
    some_above spot s true e = some_is spot s e
    some_above spot s false e = absurd (none-some s e)

    module _ (at : ℕ) (found : Option Spot) (g : Seeking at found) where
      pub seeking_on : (head : RowHead) → Some head ≡ option_map row_head (slice_get rows at) → (above new : Option Spot)
          → above ≡ cond (comes_after after head.name) (Some (spot_at at head)) None
          → name_found new ≡ lesser_name (name_found found) (name_found above) → (new ≡ found) ⊎ (new ≡ above) → Seeking (at + 1) new
      seeking_on head told above new is lesser one =
          let h = head_there rows at head told in
          let name : (h.row.row).name ≡ head.name = sym (ap (λ (r : RowHead). r.name) h.is) in
          record {
            within = omega (arith, fewer_left at head told);
            least = subst (λ l. IsLeastAbove l after (name_found new)) (ap (λ n. stored_names (take at rows) ++ n ∷ []) (sym name) ∙ sym (names_on rows at h.row h.there))
                (subst (IsLeastAbove (stored_names (take at rows) ++ head.name ∷ []) after) (sym lesser)
                (least_joined (stored_names (take at rows)) (head.name ∷ []) after (name_found found) (name_found above) g.least
                (subst (IsLeastAbove (head.name ∷ []) after) (sym (ap name_found is ∙ name_above (spot_at at head) (comes_after after head.name))) (least_of_one head.name after (comes_after after head.name) refl))));
            there = λ s e. elim one [
              | inl k ↦ g.there s (sym k ∙ e)
              | inr k ↦ subst (λ (s : Spot). (s.part ≡ place) × StandsAt rows s) (some_above (spot_at at head) s (comes_after after head.name) (sym is ∙ sym k ∙ e)) (refl, stands_here at head h)
            ];
          }

      pub sought : None ≡ option_map row_head (slice_get rows at) → LeastInPart rows place after found
      sought told = record { least = subst (λ l. IsLeastAbove (stored_names l) after (name_found found)) (take_all at rows (no_head_left rows at told)) g.least; there = g.there }

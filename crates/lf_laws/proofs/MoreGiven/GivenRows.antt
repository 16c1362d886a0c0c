-- More frozen rows change no answer and no result.
use Rattle.lf_laws.proofs.Rows.OwnerTests.{frozen_there}
use Rattle.std.proofs.Common.{Bool, List, None, Option, Some, [], ap, cond, false, inl, inr, ltb, map, not, refl, subst, sym, true, ℕ, ◌&&◌, ◌++◌, ◌+◌, ◌||◌, ◌∙◌, ◌∷◌, ◌≡◌}
use Rattle.std.proofs.lemmas.List.Sums.{sum_by-append}
use Rattle.std.specs.List.{count_by, list_any}
use Rattle.lf_base.specs.declared.faults.Fault.TheVariants.{Cycle, Interior, Owned, SecondOwner}
use Rattle.lf_base.specs.declared.ids.ObjId.{ObjId}
use Rattle.lf_base.specs.declared.values.Key.{Key}
use Rattle.lf_base.specs.declared.values.Owner.{Owner}
use Rattle.lf_base.specs.declared.values.Owner.TheVariants.{Frozen, In, Local}
use Rattle.lf_base.specs.declared.values.Value.{Value}
use Rattle.lf_base.specs.declared.values.Value.TheVariants as value
use Rattle.lf_base.specs.CloseResult.{close_result}
use Rattle.lf_base.specs.PlainChanges.{put_slot, slot_at}
use Rattle.lf_base.specs.ContentResult.{content_fault, target_fault, targets_fault}
use Rattle.lf_base.specs.Edges.{Edge, Field, Source, content_edges, edges, rows_edges, slot_edges}
use Rattle.lf_base.specs.EndResult.{end_result}
use Rattle.lf_base.specs.FreezeResult.{freeze_result}
use Rattle.lf_base.specs.Kept.{kept}
use Rattle.lf_base.specs.MergeResult.{is_owned_elsewhere, is_owning_elsewhere, merge_fault}
use Rattle.lf_base.specs.Names.{is_local, same_name, targets_of_value}
use Rattle.lf_base.specs.Owners.{bridges, has_name, has_row, is_bridge, is_in, is_local_at, names, or_frozen, owner_in, owner_of, row_at, row_owner}
use Rattle.lf_base.specs.Ownership.{below, is_from, is_in_other, is_owned, is_owning, owning_edges, owns, round}
use Rattle.lf_base.specs.PlainState.{Row, State}
use Rattle.lf_base.specs.Sets.{Member, greatest, least}
use Rattle.lf_base.specs.WalkCounts.{borrowed, borrows, is_borrower, is_open, open_children}
use Rattle.lf_base.specs.WellFormed.{WellFormed, from_near}
use Rattle.lf_base.specs.WriteResult.{fault_shown, first_shown, is_inner_source, is_some_list, leads_inside, refusal_by, shows_interior, moved, write_fields, write_refusal, write_result}
use Rattle.lf_base.specs.MoveSet.{move_set}
use Rattle.lf_base.proofs.ListLemmas.Tests.{any_none, none_count}
use Rattle.lf_laws.proofs.Rows.RowsByName.{mem_has, owner_has, differ_apart, no_owner}
use Rattle.lf_laws.proofs.Rows.RowEdges.{edge_row}
use Rattle.std.proofs.lemmas.Bool.{false_from_ne_true, or_cases}
use Rattle.lf_base.proofs.ListLemmas.Members.{any_more, Member_left}
use Rattle.std.proofs.Math.Bool.{or-true}
use Rattle.lf_base.proofs.NameLemmas.RowNames.{has_names}
use Rattle.lf_laws.proofs.Writes.MovedRows.{names_relabel, names_write}
use Rattle.lf_base.specs.MoreGiven.{Foreign, More, with_given}

-- ---- tests and counts over the edges pass over those of frozen rows
any_append : {X : Type 0} (p : X → Bool) (xs ys : List X) → list_any p (xs ++ ys) ≡ (list_any p xs || list_any p ys)
any_append p [] ys = refl
any_append p (x ∷ xs) ys = ap (λ b. p x || b) (any_append p xs ys) ∙ assoc (p x) (list_any p xs) (list_any p ys)
  where
    assoc : (a b c : Bool) → (a || (b || c)) ≡ ((a || b) || c)
    assoc true b c = refl
    assoc false b c = refl

any_skip : {X : Type 0} (p : X → Bool) (a b c d g h o : List X) → list_any p g ≡ false → list_any p h ≡ false
    → list_any p (a ++ (b ++ (c ++ (d ++ (g ++ o))))) ≡ list_any p (a ++ (b ++ (c ++ (d ++ (h ++ o)))))
any_skip {X} p a b c d g h o e f = go _ _ a (go _ _ b (go _ _ c (go _ _ d (any_append p g o ∙ ap (λ x. x || list_any p o) (e ∙ sym f) ∙ sym (any_append p h o)))))
  where
    go : (us vs ws : List X) → list_any p us ≡ list_any p vs → list_any p (ws ++ us) ≡ list_any p (ws ++ vs)
    go us vs ws k = any_append p ws us ∙ ap (λ x. list_any p ws || x) k ∙ sym (any_append p ws vs)

pub count_skip : {X : Type 0} (p : X → Bool) (a b c d g h o : List X) → count_by p g ≡ 0 → count_by p h ≡ 0
    → count_by p (a ++ (b ++ (c ++ (d ++ (g ++ o))))) ≡ count_by p (a ++ (b ++ (c ++ (d ++ (h ++ o)))))
count_skip {X} p a b c d g h o e f = go _ _ a (go _ _ b (go _ _ c (go _ _ d (sum_by-append (λ x. cond (p x) 1 0) g o ∙ ap (λ n. n + count_by p o) (e ∙ sym f) ∙ sym (sum_by-append (λ x. cond (p x) 1 0) h o)))))
  where
    go : (us vs ws : List X) → count_by p us ≡ count_by p vs → count_by p (ws ++ us) ≡ count_by p (ws ++ vs)
    go us vs ws k = sum_by-append (λ x. cond (p x) 1 0) ws us ∙ ap (λ n. count_by p ws + n) k ∙ sym (sum_by-append (λ x. cond (p x) 1 0) ws vs)

-- ---- a state whose frozen rows have no name of its mutable rows
-- a test that fails wherever the edge begins at a field of a row that isn't there
abbrev pub Skips : List Row → (Edge → Bool) → Type 0
Skips rows p = (e : Edge) (x : ObjId) → e.from ≡ Field x → owner_in rows x ≡ None → p e ≡ false

module _ (s : State) (many : List Row) (few_far : Foreign s.rows s.given) (many_far : Foreign s.rows many) where
  abbrev big : State
  big = with_given s many

  none_at : (given : List Row) → Foreign s.rows given → (p : Edge → Bool) → Skips s.rows p → (e : Edge) → Member e (rows_edges given) → p e ≡ false
  none_at given far p k e m = let x = edge_row given e m in k e (x.row).name x.from (no_owner s.rows (x.row).name (far x.row x.mem))

  any_same : (p : Edge → Bool) → Skips s.rows p → list_any p (edges big) ≡ list_any p (edges s)
  any_same p k = any_skip p (slot_edges s.slots) (rows_edges s.rows) (content_edges s.held) (content_edges s.made) (rows_edges many) (rows_edges s.given) (rows_edges s.own)
      (any_none p (rows_edges many) (none_at many many_far p k)) (any_none p (rows_edges s.given) (none_at s.given few_far p k))

  count_same : (p : Edge → Bool) → Skips s.rows p → count_by p (edges big) ≡ count_by p (edges s)
  count_same p k = count_skip p (slot_edges s.slots) (rows_edges s.rows) (content_edges s.held) (content_edges s.made) (rows_edges many) (rows_edges s.given) (rows_edges s.own)
      (none_count p (rows_edges many) (none_at many many_far p k)) (none_count p (rows_edges s.given) (none_at s.given few_far p k))

  pub owns_same : (q r : ObjId) → owns big q r ≡ owns s q r
  owns_same q r = ap (λ b. not (same_name q r) && (is_bridge s.rows r && b)) (any_same (λ e. is_from s.rows q e.from && same_name e.to r)
      (λ e x f h. ap (λ z. is_from s.rows q z && same_name e.to r) f ∙ ap (λ w. is_in q w && same_name e.to r) h))

  pub below_same : (r : ObjId) → below big r ≡ below s r
  below_same r i = least (λ found c. owns_same r c i || list_any (λ q. owns_same q c i) found) (bridges s)

  pub round_same : round big ≡ round s
  round_same i = greatest (λ qs r. list_any (λ q. owns_same q r i) qs) (bridges s)

  owning_skips : (r : ObjId) → Skips s.rows (λ e. is_owning s.rows e.from r && same_name e.to r)
  owning_skips r e x f h = ap (λ z. is_owning s.rows z r && same_name e.to r) f ∙ ap (λ w. is_in_other r w && same_name e.to r) h

  pub owning_same : (r : ObjId) → owning_edges big r ≡ owning_edges s r
  owning_same r = count_same (λ e. is_owning s.rows e.from r && same_name e.to r) (owning_skips r)

  pub owned_same : (r : ObjId) → is_owned big r ≡ is_owned s r
  owned_same r = any_same (λ e. is_owning s.rows e.from r && same_name e.to r) (owning_skips r)

  pub elsewhere_same : (a b : ObjId) → is_owned_elsewhere big a b ≡ is_owned_elsewhere s a b
  elsewhere_same a b = any_same (λ e. is_owning_elsewhere s.rows a b e.from && same_name e.to b)
      (λ e x f h. ap (λ z. (is_owning s.rows z b && not (is_from s.rows a z)) && same_name e.to b) f ∙ ap (λ w. (is_in_other b w && not (is_in a w)) && same_name e.to b) h)

  pub borrowed_same : (r : ObjId) → borrowed big r ≡ borrowed s r
  borrowed_same r = count_same (borrows s.rows r)
      (λ e x f h. ap (λ z. is_borrower s.rows z && is_in r (owner_in s.rows e.to)) f ∙ ap (λ w. is_local_at w && is_in r (owner_in s.rows e.to)) h)

  pub open_same : (r : ObjId) → is_open big r ≡ is_open s r
  open_same r i = ltb 0 (borrowed_same r i) || list_any (λ c. ltb 0 (borrowed_same c i)) (below_same r i)

  pub children_same : (r : ObjId) → open_children big r ≡ open_children s r
  children_same r i = count_by (λ c. owns_same r c i && open_same c i) (bridges s)

  inside_by : (f : Source) (x : ObjId) → f ≡ Field x → owner_in s.rows x ≡ None → (w : Option Owner) (e : Edge) → e.from ≡ f → leads_inside s.rows e w ≡ false
  inside_by f x k h None e g = refl
  inside_by f x k h (Some Local) e g = refl
  inside_by f x k h (Some Frozen) e g = refl
  inside_by f x k h (Some (In q)) e g = ap (λ z. is_inner_source s.rows z q && not (same_name q e.to)) (g ∙ k) ∙ ap (λ u. is_in_other q u && not (same_name q e.to)) h

  pub interior_same : shows_interior big ≡ shows_interior s
  interior_same = any_same (λ e. leads_inside s.rows e (owner_in s.rows e.to)) (λ e x f h. inside_by e.from x f h (owner_in s.rows e.to) e refl)

  -- the faults of the topology that it shows
  pub shown_same : fault_shown big ≡ fault_shown s
  shown_same i = first_shown (interior_same i) (list_any (λ r. ltb 1 (owning_same r i)) (bridges s)) (is_some_list (round_same i))

  pub merge_same : (a b : ObjId) → merge_fault big a b ≡ merge_fault s a b
  merge_same a b i = cond (same_name a b) None (cond (elsewhere_same a b i) (Some Owned) (cond (has_name (below_same b i) a && not (owns_same b a i)) (Some Cycle) None))

-- ---- results are the same, with the other frozen rows given
pub kept_given : (s : State) (many : List Row) → kept (with_given s many) ≡ with_given (kept s) many
kept_given s many = refl

pub end_given : (s : State) (many : List Row) → end_result (with_given s many) ≡ with_given (end_result s) many
end_given s many = refl

pub freeze_given : (s : State) (v : Value) (many : List Row) → freeze_result (with_given s many) v ≡ with_given (freeze_result s v) many
freeze_given s v many = refl

pub write_given : (s : State) (x : ObjId) (k : Key) (v : Value) (many : List Row) → write_result (with_given s many) x k v ≡ with_given (write_result s x k v) many
write_given s x k v many = refl

-- a closing, by what lies below
abbrev closed_against : State → List Row → ℕ → ObjId → List ObjId → State
closed_against s many n r low = record s {
  given = many;
  slots = put_slot (map (λ w. elim w [ None ↦ None | Some v ↦ Some (cond (list_any (λ o. list_any (λ q. is_in q (owner_in s.rows o)) (r ∷ low)) (targets_of_value v)) value.None v) ]) s.slots) n (slot_at s.slots n);
  rows = map (λ row. cond (is_local row.owner) (record row { fields = map (λ f. (f.0, cond (list_any (λ o. list_any (λ q. is_in q (owner_in s.rows o)) (r ∷ low)) (targets_of_value f.1)) value.None f.1)) row.fields }) row) s.rows;
}

pub close_given : (s : State) (n : ℕ) (r : ObjId) (many : List Row) → Foreign s.rows s.given → Foreign s.rows many → close_result (with_given s many) n r ≡ with_given (close_result s n r) many
close_given s n r many few_far many_far i = closed_against s many n r (below_same s many few_far many_far r i)

-- ---- names after a write are those before
write_names : (s : State) (x : ObjId) (k : Key) (v : Value) → names (write_result s x k v).rows ≡ names s.rows
write_names s x k v = go (owner_in s.rows x)
  where
    go : (w : Option Owner) → names (moved (write_fields s.rows x k v) (move_set s v) w) ≡ names s.rows
    go None = names_write s.rows x k v
    go (Some Local) = names_write s.rows x k v
    go (Some Frozen) = names_write s.rows x k v
    go (Some (In r)) = names_relabel (write_fields s.rows x k v) (names (move_set s v)) (In r) ∙ names_write s.rows x k v

far_by : (rows new given : List Row) → names new ≡ names rows → Foreign rows given → Foreign new given
far_by rows new given e far x m = sym (has_names new x.name) ∙ ap (λ os. has_name os x.name) e ∙ has_names rows x.name ∙ far x m

pub found_row : (rows : List Row) (o : ObjId) → has_row rows o ≡ true → (x : Row) × (row_at rows o ≡ Some x)
found_row [] o e = cc
found_row (r ∷ rs) o e = elim (same_name r.name o) as (λ b. (b || has_row rs o) ≡ true → (x : Row) × (cond b (Some r) (row_at rs o) ≡ Some x)) [ true ↦ λ k. (r, refl) | false ↦ λ k. found_row rs o k ] e

module _ (s : State) (many : List Row) (h : More s many) where
  given_name : (t : State) → WellFormed t → (x : Row) → Member x t.given → has_row t.rows x.name ≡ false
  given_name t w x m = false_from_ne_true _ (λ e. differ_apart (names t.rows) (names t.given ++ names t.own) w.names_differ x.name (has_names t.rows x.name ∙ e)
      (any_more (λ p. same_name p x.name) (names t.given) (names t.given ++ names t.own) (λ z q. Member_left z (names t.given) (names t.own) q) (has_names t.given x.name ∙ mem_has x t.given m)))

  pub few_foreign : Foreign s.rows s.given
  few_foreign = given_name s h.whole

  pub many_foreign : Foreign s.rows many
  many_foreign = given_name (with_given s many) h.more

  -- an object of the domain has the same owner
  pub owner_same : (o : ObjId) → from_near (owner_of s o) ≡ true → owner_of (with_given s many) o ≡ owner_of s o
  owner_same o near = go (owner_in s.rows o) refl
    where
      held : has_row s.given o ≡ true → has_row many o ≡ true
      held e = let x = found_row s.given o e in owner_has many o (x.0).owner (ap row_owner (h.holds o e ∙ x.1))

      go : (u : Option Owner) → owner_in s.rows o ≡ u → or_frozen (has_row many o || has_row s.own o) (owner_in s.rows o) ≡ or_frozen (has_row s.given o || has_row s.own o) (owner_in s.rows o)
      go (Some w) e = ap (or_frozen (has_row many o || has_row s.own o)) e ∙ sym (ap (or_frozen (has_row s.given o || has_row s.own o)) e)
      go None e =
          let here : (has_row s.given o || has_row s.own o) ≡ true = frozen_there (has_row s.given o || has_row s.own o) (ap (λ u. from_near (or_frozen (has_row s.given o || has_row s.own o) u)) (sym e) ∙ near) in
          let there : (has_row many o || has_row s.own o) ≡ true = elim (or_cases (has_row s.given o) (has_row s.own o) here) [
            | inl a ↦ ap (λ b. b || has_row s.own o) (held a)
            | inr a ↦ ap (λ b. has_row many o || b) a ∙ or-true (has_row many o)
          ] in
          ap (λ b. or_frozen b (owner_in s.rows o)) (there ∙ sym here)

  -- ---- refusals
  pub content_same : (t : State) → t.rows ≡ s.rows → t.given ≡ s.given → t.own ≡ s.own → (v : Value) → ((o : ObjId) → Member o (targets_of_value v) → from_near (owner_of s o) ≡ true) → content_fault (with_given t many) v ≡ content_fault t v
  content_same t e g w v near = go (targets_of_value v) near
    where
      far : (given : List Row) → Foreign s.rows given → Foreign t.rows given
      far given f x m = ap (λ rows. has_row rows x.name) e ∙ f x m

      owning : (o : ObjId) → owning_edges (with_given t many) o ≡ owning_edges t o
      owning o = owning_same t many (λ x m. far s.given few_foreign x (subst (Member x) g m)) (far many many_foreign) o

      there : (o : ObjId) → from_near (owner_of s o) ≡ true → owner_of (with_given t many) o ≡ owner_of t o
      there o k = (λ i. or_frozen (has_row many o || has_row (w i) o) (owner_in (e i) o)) ∙ owner_same o k ∙ (λ i. or_frozen (has_row (sym g i) o || has_row (sym w i) o) (owner_in (sym e i) o))

      by_owner : (o : ObjId) (u : Option Owner) → target_fault (with_given t many) o u ≡ target_fault t o u
      by_owner o None = refl
      by_owner o (Some Local) = refl
      by_owner o (Some Frozen) = refl
      by_owner o (Some (In q)) = ap (λ n. cond (same_name q o) (cond (ltb 1 n) (Some SecondOwner) None) (Some Interior)) (owning o)

      go : (os : List ObjId) → ((o : ObjId) → Member o os → from_near (owner_of s o) ≡ true) → targets_fault (with_given t many) os ≡ targets_fault t os
      go [] k = refl
      go (o ∷ os) k = ap (target_fault (with_given t many) o) (there o (k o (inl refl))) ∙ by_owner o (owner_of t o)

  pub write_same : (x : ObjId) (k : Key) (v : Value) → write_refusal (with_given s many) x k v ≡ write_refusal s x k v
  write_same x k v = go (owner_in s.rows x)
    where
      t : State
      t = write_result s x k v

      shown : fault_shown (with_given t many) ≡ fault_shown t
      shown = shown_same t many (λ y m. far_by s.rows t.rows s.given (write_names s x k v) few_foreign y m) (λ y m. far_by s.rows t.rows many (write_names s x k v) many_foreign y m)

      go : (w : Option Owner) → refusal_by (with_given s many) x k v w ≡ refusal_by s x k v w
      go None = refl
      go (Some Frozen) = refl
      go (Some Local) = shown
      go (Some (In r)) = shown

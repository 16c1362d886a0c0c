-- From one state to another edges are lost: what becomes of the counts and of what is justified.
use Rattle.std.proofs.Common.{Bool, List, [], ap, arith, cond, false, filter, inl, inr, ltb, refl, sym, true, ℕ, ◌&&◌, ◌+◌, ◌<◌, ◌∙◌, ◌∷◌, ◌≡◌, ◌≤◌}
use Rattle.std.proofs.lemmas.List.Sums.{sum_by-cons}
use Rattle.std.specs.List.{count_by}
use Rattle.lf_laws.proofs.Edges.EdgeParts.{count_app, counts_same}
use Rattle.lf_base.specs.declared.ids.ObjId.{ObjId}
use Rattle.lf_base.specs.Edges.{Content, Edge, Field, Slot, Source, edges}
use Rattle.lf_base.specs.Names.{same_name}
use Rattle.lf_base.specs.Owners.{bridges, is_bridge, is_in, is_local_at, names}
use Rattle.lf_base.specs.Ownership.{is_in_other, is_owning, owning_edges}
use Rattle.lf_base.specs.PlainState.{State}
use Rattle.lf_base.specs.Sets.{Member}
use Rattle.lf_base.specs.WalkCounts.{borrowed, borrows, is_borrower, refs}
use Rattle.lf_base.specs.Losses.{LosesEdges, is_held, has_references, justified}
use Rattle.lf_base.proofs.ListLemmas.Sublists.{count_sub, sub_all}

pub filter_ext : {X : Type 0} (p q : X → Bool) (xs : List X) → ((x : X) → p x ≡ q x) → filter p xs ≡ filter q xs
filter_ext p q [] h = refl
filter_ext p q (x ∷ xs) h = (λ i. cond (h x i) (x ∷ filter_ext p q xs h i) (filter_ext p q xs h i))

-- a test that holds less often counts less
count_less : {X : Type 0} (p q : X → Bool) (xs : List X) → ((x : X) → p x ≡ true → q x ≡ true) → count_by p xs ≤ count_by q xs
count_less p q xs h = count_sub p q h (sub_all xs)

-- and less by one where some member meets the second alone
pub count_fewer : {X : Type 0} (p q : X → Bool) (xs : List X) → ((x : X) → p x ≡ true → q x ≡ true) → (y : X) → Member y xs → p y ≡ false → q y ≡ true → count_by p xs + 1 ≤ count_by q xs
count_fewer p q [] h y m e k = absurd m
count_fewer p q (x ∷ xs) h y (inl same) e k = omega (
  arith,
  sum_by-cons (λ z. cond (p z) 1 0) x xs,
  sum_by-cons (λ z. cond (q z) 1 0) x xs,
  ap {B = ℕ} (λ b. cond b 1 0) (ap p same ∙ e),
  ap {B = ℕ} (λ b. cond b 1 0) (ap q same ∙ k),
  count_less p q xs h,
)
count_fewer p q (x ∷ xs) h y (inr m) e k =
    let one : cond (p x) 1 0 ≤ cond (q x) 1 0 = elim (p x) as (λ b. p x ≡ b → cond b 1 0 ≤ cond (q x) 1 0) [
      | true ↦ λ z. omega (arith, ap {B = ℕ} (λ b. cond b 1 0) (h x z))
      | false ↦ λ z. omega arith
    ] refl in
    omega (arith, sum_by-cons (λ z. cond (p z) 1 0) x xs, sum_by-cons (λ z. cond (q z) 1 0) x xs, one, count_fewer p q xs h y m e k)

pub above_zero : (n : ℕ) → ltb 0 n ≡ true → 0 < n
above_zero n e = grind (arith, e)

pub zero_not : (n : ℕ) → ltb 0 n ≡ false → n ≡ 0
zero_not n e = grind (arith, e)

pub not_none : (n : ℕ) → (n ≡ 0 → ⊥) → 0 < n
not_none n h = grind (arith, h)

pub positive_test : (n : ℕ) → 0 < n → ltb 0 n ≡ true
positive_test n h = grind (arith, h)

pub not_above : (n : ℕ) → n ≡ 0 → ltb 0 n ≡ false
not_above n h = grind (arith, h)

module _ (s t : State) (lost : List Edge) (fewer : LosesEdges s t lost) where
  borrower_same : (f : Source) → is_borrower t.rows f ≡ is_borrower s.rows f
  borrower_same Slot = refl
  borrower_same (Field p) = ap is_local_at (fewer.owners p)
  borrower_same (Content c) = refl

  owning_same : (f : Source) (r : ObjId) → is_owning t.rows f r ≡ is_owning s.rows f r
  owning_same Slot r = refl
  owning_same (Field p) r = ap (is_in_other r) (fewer.owners p)
  owning_same (Content c) r = refl

  fewer_counts : (p : Edge → Bool) → count_by p (edges s) ≡ count_by p lost + count_by p (edges t)
  fewer_counts p = fewer.edges p ∙ count_app p lost (edges t)

  pub refs_fewer : (o : ObjId) → refs s o ≡ count_by (λ (e : Edge). same_name e.to o) lost + refs t o
  refs_fewer o = fewer_counts (λ e. same_name e.to o)

  pub borrowed_fewer : (r : ObjId) → borrowed s r ≡ count_by (borrows s.rows r) lost + borrowed t r
  borrowed_fewer r =
      fewer_counts (borrows s.rows r)
      ∙ ap (λ n. count_by (borrows s.rows r) lost + n) (sym (counts_same (borrows t.rows r) (borrows s.rows r) (edges t) (λ e. λ i. borrower_same e.from i && is_in r (fewer.owners e.to i))))

  pub owning_fewer : (r : ObjId) → owning_edges s r ≡ count_by (λ (e : Edge). is_owning s.rows e.from r && same_name e.to r) lost + owning_edges t r
  owning_fewer r =
      fewer_counts (λ e. is_owning s.rows e.from r && same_name e.to r)
      ∙ ap (λ n. count_by (λ (e : Edge). is_owning s.rows e.from r && same_name e.to r) lost + n)
      (sym (counts_same (λ (e : Edge). is_owning t.rows e.from r && same_name e.to r) (λ (e : Edge). is_owning s.rows e.from r && same_name e.to r) (edges t) (λ e. λ i. owning_same e.from r i && same_name e.to r)))

  pub bridge_same : (r : ObjId) → is_bridge t.rows r ≡ is_bridge s.rows r
  bridge_same r = ap (is_in r) (fewer.owners r)

  pub bridges_same : bridges t ≡ bridges s
  bridges_same = ap (filter (is_bridge t.rows)) fewer.same_names ∙ filter_ext (is_bridge t.rows) (is_bridge s.rows) (names s.rows) bridge_same

  pub named_less : (o : ObjId) → has_references t o ≡ true → has_references s o ≡ true
  named_less o e = positive_test (refs s o) (omega (arith, refs_fewer o, above_zero (refs t o) e))

  pub held_less : (r : ObjId) → is_held t r ≡ true → is_held s r ≡ true
  held_less r e = positive_test (owning_edges s r + borrowed s r) (omega (arith, owning_fewer r, borrowed_fewer r, above_zero (owning_edges t r + borrowed t r) e))

  abbrev named_count : State → ℕ
  named_count u = count_by (has_references u) (names s.rows)

  abbrev held_count : State → ℕ
  held_count u = count_by (is_held u) (bridges s)

  justified_is : justified t ≡ named_count t + held_count t
  justified_is = λ i. count_by (has_references t) (fewer.same_names i) + count_by (is_held t) (bridges_same i)

  -- what is justified falls
  pub justified_less : justified t ≤ justified s
  justified_less = omega (arith, justified_is, count_less (has_references t) (has_references s) (names s.rows) named_less, count_less (is_held t) (is_held s) (bridges s) held_less)

  -- by one at least, where a row loses its last edge or a region its last justification
  pub justified_by_row : (o : ObjId) → Member o (names s.rows) → has_references t o ≡ false → has_references s o ≡ true → justified t + 1 ≤ justified s
  justified_by_row o m e k = omega (arith, justified_is, count_fewer (has_references t) (has_references s) (names s.rows) named_less o m e k, count_less (is_held t) (is_held s) (bridges s) held_less)

  pub justified_by_region : (r : ObjId) → Member r (bridges s) → is_held t r ≡ false → is_held s r ≡ true → justified t + 1 ≤ justified s
  justified_by_region r m e k = omega (arith, justified_is, count_less (has_references t) (has_references s) (names s.rows) named_less, count_fewer (is_held t) (is_held s) (bridges s) held_less r m e k)

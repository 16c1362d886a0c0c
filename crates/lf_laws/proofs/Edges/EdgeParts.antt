-- Lists of edges that count alike, and the parts of a state's edges.
use Rattle.std.proofs.Common.{Bool, List, [], ap, arith, cond, false, inl, inr, refl, suc, sym, true, zero, ℕ, ◌++◌, ◌+◌, ◌<◌, ◌||◌, ◌∙◌, ◌∷◌, ◌≡◌}
use Rattle.std.proofs.lemmas.List.Sums.{sum_by-append, sum_by-cons}
use Rattle.std.specs.List.{count_by, list_any}
use Rattle.lf_base.specs.Sets.{Member}
use Rattle.lf_base.specs.EdgeLists.{SameEdges, frozen_edges, near_edges}
use Rattle.lf_base.specs.Edges.{Edge, content_edges, edges, rows_edges, slot_edges}
use Rattle.lf_base.specs.PlainState.{Row, State}
use Rattle.std.proofs.lemmas.List.{append_assoc}
use Rattle.lf_laws.proofs.Rows.EdgeCounts.{with_rows}
use Rattle.lf_base.proofs.ListLemmas.Members.{Member_any}

-- two tests that imply each other are one
pub same_by : (a b : Bool) → (a ≡ true → b ≡ true) → (b ≡ true → a ≡ true) → a ≡ b
same_by true b f g = sym (f refl)
same_by false true f g = g refl
same_by false false f g = refl

pub count_app : {X : Type 0} (p : X → Bool) (xs ys : List X) → count_by p (xs ++ ys) ≡ count_by p xs + count_by p ys
count_app p xs ys = sum_by-append (λ x. cond (p x) 1 0) xs ys

-- tests that agree on a list count alike there
pub count_alike_on : {X : Type 0} (p q : X → Bool) (xs : List X) → ((x : X) → Member x xs → p x ≡ q x) → count_by p xs ≡ count_by q xs
count_alike_on p q [] h = refl
count_alike_on p q (x ∷ xs) h =
    omega (
      arith,
      sum_by-cons (λ y. cond (p y) 1 0) x xs,
      sum_by-cons (λ y. cond (q y) 1 0) x xs,
      ap {B = ℕ} (λ b. cond b 1 0) (h x (inl refl)),
      count_alike_on p q xs (λ y m. h y (inr m)),
    )

-- so do tests that agree everywhere
pub counts_same : {X : Type 0} (p q : X → Bool) (xs : List X) → ((x : X) → p x ≡ q x) → count_by p xs ≡ count_by q xs
counts_same p q xs h = count_alike_on p q xs (λ x m. h x)

abbrev pub bit : Bool → ℕ
bit b = cond b 1 0

-- one count is the sum of two others, where each item counts so
pub counts_one : {X : Type 0} (p q u : X → Bool) (xs : List X) → ((x : X) → Member x xs → bit (p x) + bit (q x) ≡ bit (u x)) → count_by p xs + count_by q xs ≡ count_by u xs
counts_one p q u [] h = refl
counts_one p q u (x ∷ xs) h =
    omega (
      arith,
      h x (inl refl),
      counts_one p q u xs (λ y m. h y (inr m)),
      sum_by-cons (λ z. bit (p z)) x xs,
      sum_by-cons (λ z. bit (q z)) x xs,
      sum_by-cons (λ z. bit (u z)) x xs,
    )

abbrev some_of : ℕ → Bool
some_of zero = false
some_of (suc n) = true

more : (n : ℕ) → suc n ≡ 1 + n
more n = omega arith

none_more : (n : ℕ) → n ≡ 0 + n
none_more n = omega arith

-- some edge passes where they are not none
any_counts : {X : Type 0} (p : X → Bool) (xs : List X) → list_any p xs ≡ some_of (count_by p xs)
any_counts p [] = refl
any_counts p (x ∷ xs) =
    elim (p x) as (λ b. (b || list_any p xs) ≡ some_of (cond b 1 0 + count_by p xs)) [
      | true ↦ ap some_of (more (count_by p xs))
      | false ↦ any_counts p xs ∙ ap some_of (none_more (count_by p xs))
    ]
    ∙ ap some_of (sym (sum_by-cons (λ y. cond (p y) 1 0) x xs))

pub any_same : {X Y : Type 0} (p : X → Bool) (xs : List X) (q : Y → Bool) (ys : List Y) → count_by p xs ≡ count_by q ys → list_any p xs ≡ list_any q ys
any_same p xs q ys h = any_counts p xs ∙ ap some_of h ∙ sym (any_counts q ys)

some_is_true : (n : ℕ) → 0 < n → some_of n ≡ true
some_is_true zero h = absurd (omega (arith, h))
some_is_true (suc n) h = refl

some_is_more : (n : ℕ) → some_of n ≡ true → 0 < n
some_is_more zero h = cc
some_is_more (suc n) h = omega arith

pub some_any : {X : Type 0} (p : X → Bool) (xs : List X) → list_any p xs ≡ true → 0 < count_by p xs
some_any p xs h = some_is_more (count_by p xs) (sym (any_counts p xs) ∙ h)

pub any_some : {X : Type 0} (p : X → Bool) (xs : List X) → 0 < count_by p xs → list_any p xs ≡ true
any_some p xs h = any_counts p xs ∙ some_is_true (count_by p xs) h

pub count_positive : {X : Type 0} (p : X → Bool) (xs : List X) (x : X) → Member x xs → p x ≡ true → 0 < count_by p xs
count_positive p xs x m h = some_any p xs (Member_any p x xs m h)

pub near_count : (p : Edge → Bool) (s : State)
    → count_by p (near_edges s) ≡ count_by p (slot_edges s.slots) + (count_by p (rows_edges s.rows) + (count_by p (content_edges s.held) + count_by p (content_edges s.made)))
near_count p s =
    omega (
      arith,
      count_app p (slot_edges s.slots) (rows_edges s.rows ++ (content_edges s.held ++ content_edges s.made)),
      count_app p (rows_edges s.rows) (content_edges s.held ++ content_edges s.made),
      count_app p (content_edges s.held) (content_edges s.made),
    )

-- the edges are the near ones and those of the frozen rows
pub edges_parted : (s : State) → edges s ≡ near_edges s ++ frozen_edges s
edges_parted s =
    let far : List Edge = frozen_edges s in
    ap (λ l. slot_edges s.slots ++ l) (
    ap (λ l. rows_edges s.rows ++ l) (sym (append_assoc (content_edges s.held) (content_edges s.made) far))
    ∙ sym (append_assoc (rows_edges s.rows) (content_edges s.held ++ content_edges s.made) far)
    )
    ∙ sym (append_assoc (slot_edges s.slots) (rows_edges s.rows ++ (content_edges s.held ++ content_edges s.made)) far)

pub edges_count : (p : Edge → Bool) (s : State) → count_by p (edges s) ≡ count_by p (near_edges s) + count_by p (frozen_edges s)
edges_count p s = ap (count_by p) (edges_parted s) ∙ count_app p (near_edges s) (frozen_edges s)

-- what is shown of the near edges of two states with the same frozen rows holds of all edges
pub all_from_near : (s t : State) (xs ys : List Edge) → frozen_edges s ≡ frozen_edges t → SameEdges (xs ++ near_edges s) (ys ++ near_edges t) → SameEdges (xs ++ edges s) (ys ++ edges t)
all_from_near s t xs ys same h p =
    omega (
      arith,
      h p,
      count_app p xs (near_edges s),
      count_app p ys (near_edges t),
      count_app p xs (edges s),
      count_app p ys (edges t),
      edges_count p s,
      edges_count p t,
      ap (count_by p) same,
    )

-- the same edges of rows give the same near edges
pub near_rows : (s : State) (rows : List Row) (xs ys : List Edge) → SameEdges (xs ++ rows_edges s.rows) (ys ++ rows_edges rows) → SameEdges (xs ++ near_edges s) (ys ++ near_edges (with_rows s rows))
near_rows s rows xs ys h p =
    omega (
      arith,
      h p,
      count_app p xs (rows_edges s.rows),
      count_app p ys (rows_edges rows),
      count_app p xs (near_edges s),
      count_app p ys (near_edges (with_rows s rows)),
      near_count p s,
      near_count p (with_rows s rows),
    )

-- What each change of a pool makes of a list of rows.
use Rattle.std.proofs.Common.{◌≡◌, ◌≢◌, ℕ, Bool, true, false, cond, not, ◌||◌, ◌<◌, List, [], ◌∷◌, ◌++◌, length, map, Option, Some, None, refl, ap, sym, ◌∙◌, subst, zero, suc}
use Rattle.std.specs.Prelude.{eqb}
use Rattle.std.specs.Option.{IsSome}
use Rattle.std.proofs.Math.Bool.{or-false, or-true}
use Rattle.std.proofs.lemmas.Bool.Decides.{Decides-eqb}
use Rattle.lf_base.specs.declared.links.Link.{Link}
use Rattle.lf_base.specs.Links.{has, last_or, walk, without}
use Rattle.lf_base.proofs.ListLemmas.LinkedLists.{has-append, walk-LinksSpell}
use Rattle.lf_pool.specs.declared.cell.TheConstants.{NONE}
use Rattle.lf_pool.specs.Cells.{item_at, link_at, node}
use Rattle.lf_pool.specs.Pools.{Chain, IsLeft, PoolView}
use Rattle.lf_pool.proofs.Chains.{begins}
use Rattle.lf_pool.proofs.Counted.{chain_fits}
use Rattle.lf_pool.proofs.Joins.{chain_in_range, some_is}
use Rattle.lf_poolstore.specs.declared.unit_row.UnitRow.{UnitRow}
use Rattle.lf_poolstore.specs.RowLists.{IsRowList, entries_in, entry_at, moved_entry, numbers, row_in, with_entry, without_entry}
use Rattle.lf_poolstore.specs.UnitRows.{is_live, row_or}

-- ---- chains that may be empty
-- no cells come from no cell
pub walk_none : {N : Type 0} (n : ℕ) (get : N → Option (Link N)) → walk n get None ≡ []
walk_none zero get = refl
walk_none (suc n) get = refl

module _ {T : Type 0} where
  -- the walk gives the numbers that the links spell
  pub numbers_are : (p : PoolView T) (first : ℕ) (xs : List ℕ) → IsLeft p (node first) xs → numbers p first ≡ xs
  numbers_are p first xs l =
      ap (walk (length p.cells) (link_at p.cells)) (sym l.begins) ∙ walk-LinksSpell (length p.cells) (link_at p.cells) (last_or None xs) xs l.chain.links (chain_fits p.cells xs l.chain)

  -- the chain of a first cell, where there is one
  pub as_chain : (p : PoolView T) (first : ℕ) (x : ℕ) (xs : List ℕ) → IsLeft p (node first) (x ∷ xs) → Chain p x (x ∷ xs)
  as_chain p first x xs l = ((l.chain, refl), l.live x (sym l.begins))

  -- what stays of a chain that may be empty, where a chain stays
  pub left_kept : (p q : PoolView T) (first : Option ℕ) (xs : List ℕ) → IsLeft p first xs → ((c : ℕ) → Chain p c xs → Chain q c xs) → IsLeft q first xs
  left_kept p q first [] l k = record { chain = record { links = tt; differ = tt }; begins = l.begins; live = λ c e. let n : None ≡ Some c = l.begins ∙ e in cc }
  left_kept p q first (x ∷ xs) l k =
      let z = k x ((l.chain, refl), l.live x (sym l.begins)) in
      record { chain = z.0.0; begins = l.begins; live = λ c e. subst (λ y. eqb y q.free ≡ false) (some_is x c (l.begins ∙ e)) z.1 }

  -- the chain of a number, where it has a cell
  pub chain_of_first : (p : PoolView T) (first : ℕ) (xs : List ℕ) (at : ℕ) → IsLeft p (node first) xs → has eqb at xs ≡ true → (f : ℕ) × Chain p f xs × (node first ≡ Some f)
  chain_of_first p first [] at l h = absurd (cc h)
  chain_of_first p first (x ∷ xs) at l h = (x, as_chain p first x xs l, sym l.begins)

-- a number that is a cell's is that cell's
pub node_same : (n m : ℕ) → node n ≡ Some m → n ≡ m
node_same n m e = elim (eqb n NONE) as (λ b. cond b None (Some n) ≡ Some m → n ≡ m) [
  | true ↦ λ k. absurd (cc k)
  | false ↦ λ k. some_is n m k
] e

-- the chain of the first row, where a row of that number is there
pub first_chain : {T : Type 0} (p : PoolView T) (first : ℕ) (xs : List ℕ) (at : ℕ) → IsLeft p (node first) xs → has eqb at xs ≡ true → Chain p first xs
first_chain p first xs at l h =
    let f = chain_of_first p first xs at l h in
    subst (λ y. Chain p y xs) (sym (node_same first f.0 f.2)) f.1

-- a number that no chain has isn't in a chain that may be empty
pub lacked : {T : Type 0} (p : PoolView T) (first : ℕ) (at : ℕ) (xs : List ℕ) → IsLeft p (node first) xs → ((c : ℕ) → Chain p c xs → has eqb at xs ≡ false) → has eqb at xs ≡ false
lacked p first at [] l k = refl
lacked p first at (x ∷ xs) l k = k x (as_chain p first x xs l)

-- a chain of a list that lacks a number doesn't begin at it
pub begins_elsewhere : {T : Type 0} (p : PoolView T) (at d : ℕ) (xs : List ℕ) → has eqb at xs ≡ false → Chain p d xs → d ≢ at
begins_elsewhere p at d xs n z e = let h : has eqb at xs ≡ true = subst (λ y. has eqb y xs ≡ true) e (begins d xs z.0.1) in cc (h, n)

-- ---- entries
-- these numbers, each with its row
abbrev pub by_rows : (ℕ → UnitRow) → List ℕ → List (ℕ × UnitRow)
by_rows f xs = map (λ x. (x, f x)) xs

abbrev pub entry : ℕ → UnitRow → ℕ × UnitRow
entry x r = (x, r)

module _ (f : ℕ → UnitRow) where
  pub found : (at : ℕ) (xs : List ℕ) → entry_at (by_rows f xs) at ≡ cond (has eqb at xs) (Some (f at)) None
  found at [] = refl
  found at (x ∷ xs) = elim (eqb at x) as (λ b. eqb at x ≡ b → cond b (Some (f x)) (entry_at (by_rows f xs) at) ≡ cond (b || has eqb at xs) (Some (f at)) None) [
    | true ↦ λ e. ap (λ y. Some (f y)) (sym ((Decides-eqb at x).0 e))
    | false ↦ λ _. found at xs
  ] refl

  pub numbers_of : (xs : List ℕ) → map (λ (e : ℕ × UnitRow). e.0) (by_rows f xs) ≡ xs
  numbers_of [] = refl
  numbers_of (x ∷ xs) = ap (λ t. x ∷ t) (numbers_of xs)

  pub rows_without : (at : ℕ) (xs : List ℕ) → by_rows f (without eqb at xs) ≡ without_entry at (by_rows f xs)
  rows_without at [] = refl
  rows_without at (x ∷ xs) = elim (eqb at x) as (λ b. by_rows f (cond (not b) (x ∷ without eqb at xs) (without eqb at xs)) ≡ cond (not b) (entry x (f x) ∷ without_entry at (by_rows f xs)) (without_entry at (by_rows f xs))) [
    | true ↦ rows_without at xs
    | false ↦ ap (λ t. entry x (f x) ∷ t) (rows_without at xs)
  ]

  pub rows_more : (xs : List ℕ) (x : ℕ) → by_rows f (xs ++ x ∷ []) ≡ by_rows f xs ++ entry x (f x) ∷ []
  rows_more [] x = refl
  rows_more (y ∷ ys) x = ap (λ t. entry y (f y) ∷ t) (rows_more ys x)

-- rows that agree on these numbers
pub rows_same : (f g : ℕ → UnitRow) (xs : List ℕ) → ((x : ℕ) → has eqb x xs ≡ true → g x ≡ f x) → by_rows g xs ≡ by_rows f xs
rows_same f g [] k = refl
rows_same f g (x ∷ xs) k =
    λ i. entry x (k x (ap (λ b. b || has eqb x xs) ((Decides-eqb x x).1 refl)) i) ∷ rows_same f g xs (λ y h. k y (ap (λ b. eqb y x || b) h ∙ or-true (eqb y x))) i

-- one row is another one
pub rows_set : (f g : ℕ → UnitRow) (at : ℕ) (row : UnitRow) → g at ≡ row → ((x : ℕ) → eqb at x ≡ false → g x ≡ f x) → (xs : List ℕ) → by_rows g xs ≡ with_entry at row (by_rows f xs)
rows_set f g at row here there [] = refl
rows_set f g at row here there (x ∷ xs) = λ i. one i ∷ rows_set f g at row here there xs i where
  one : entry x (g x) ≡ cond (eqb at x) (entry at row) (entry x (f x))
  one = elim (eqb at x) as (λ b. eqb at x ≡ b → entry x (g x) ≡ cond b (entry at row) (entry x (f x))) [
    | true ↦ λ e. subst (λ y. entry y (g y) ≡ entry at row) ((Decides-eqb at x).0 e) (ap (entry at) here)
    | false ↦ λ e. ap (entry x) (there x e)
  ] refl

-- ---- numbers
-- a number of a list that isn't another one's is another number
pub not_same : (at x : ℕ) (xs : List ℕ) → has eqb at xs ≡ false → has eqb x xs ≡ true → eqb at x ≡ false
not_same at x xs n h = elim (eqb at x) as (λ b. eqb at x ≡ b → b ≡ false) [
  | true ↦ λ e. let s = (Decides-eqb at x).0 e in let k : has eqb at xs ≡ true = ap (λ y. has eqb y xs) s ∙ h in cc (k, n)
  | false ↦ λ _. refl
] refl

pub has_without : (at : ℕ) (xs : List ℕ) → has eqb at (without eqb at xs) ≡ false
has_without at [] = refl
has_without at (x ∷ xs) = elim (eqb at x) as (λ b. eqb at x ≡ b → has eqb at (cond (not b) (x ∷ without eqb at xs) (without eqb at xs)) ≡ false) [
  | true ↦ λ _. has_without at xs
  | false ↦ λ e. ap (λ b. b || has eqb at (without eqb at xs)) e ∙ has_without at xs
] refl

pub has_others : (at x : ℕ) (xs : List ℕ) → eqb at x ≡ false → has eqb x (without eqb at xs) ≡ has eqb x xs
has_others at x [] n = refl
has_others at x (y ∷ ys) n = elim (eqb at y) as (λ b. eqb at y ≡ b → has eqb x (cond (not b) (y ∷ without eqb at ys) (without eqb at ys)) ≡ (eqb x y || has eqb x ys)) [
  | true ↦ λ e. has_others at x ys n ∙ ap (λ b. b || has eqb x ys) (sym (other (eqb x y) refl e))
  | false ↦ λ _. ap (λ b. eqb x y || b) (has_others at x ys n)
] refl where
  other : (b : Bool) → eqb x y ≡ b → eqb at y ≡ true → b ≡ false
  other true e f = let s : at ≡ x = (Decides-eqb at y).0 f ∙ sym ((Decides-eqb x y).0 e) in let k : eqb at x ≡ true = (Decides-eqb at x).1 s in cc (k, n)
  other false e f = refl

-- ---- a list of rows
module _ (first : ℕ) (p : PoolView UnitRow) (is : IsRowList first p) where
  abbrev xs : List ℕ
  xs = numbers p first

  pub entry_is : (at : ℕ) → entry_at (entries_in p xs) at ≡ cond (has eqb at xs) (Some (row_in p at)) None
  entry_is at = found (row_in p) at xs

  pub has_number : (at : ℕ) → IsSome (entry_at (entries_in p xs) at) → has eqb at xs ≡ true
  has_number at h = some_has (has eqb at xs) (subst IsSome (entry_is at) h) where
    some_has : (b : Bool) → IsSome (cond b (Some (row_in p at)) None) → b ≡ true
    some_has true k = refl
    some_has false k = cc

  pub there : (at : ℕ) → IsSome (entry_at (entries_in p xs) at) → at < length p.cells
  there at h = chain_in_range p.cells xs at is.chain.chain (has_number at h)

  pub entry_found : (at : ℕ) (r : UnitRow) → has eqb at xs ≡ true → item_at p.cells at ≡ Some r → entry_at (entries_in p xs) at ≡ Some r
  entry_found at r h e = entry_is at ∙ ap (λ b. cond b (Some (row_in p at)) None) h ∙ ap (λ t. Some (row_or t)) e

  pub entry_none : (at : ℕ) → has eqb at xs ≡ false → entry_at (entries_in p xs) at ≡ None
  entry_none at h = entry_is at ∙ ap (λ b. cond b (Some (row_in p at)) None) h

  -- a marked row is one of the list, and another isn't
  pub live_found : (at : ℕ) (r : UnitRow) → item_at p.cells at ≡ Some r → is_live r ≡ true → entry_at (entries_in p xs) at ≡ Some r
  live_found at r e l = entry_found at r (go (has eqb at xs) refl) e where
    go : (b : Bool) → has eqb at xs ≡ b → b ≡ true
    go true h = refl
    go false h = let g = is.gone at r e h in cc

  pub gone_found : (at : ℕ) (r : UnitRow) → item_at p.cells at ≡ Some r → is_live r ≡ false → entry_at (entries_in p xs) at ≡ None
  gone_found at r e l = entry_none at (go (has eqb at xs) refl) where
    go : (b : Bool) → has eqb at xs ≡ b → b ≡ false
    go true h = let k = is.live at h ∙ refl in let s : is_live (row_in p at) ≡ is_live r = ap (λ t. is_live (row_or t)) e in cc
    go false h = refl

  pub far_found : (at : ℕ) → (at < length p.cells → ⊥) → entry_at (entries_in p xs) at ≡ None
  far_found at n = entry_none at (go (has eqb at xs) refl) where
    go : (b : Bool) → has eqb at xs ≡ b → b ≡ false
    go true h = absurd (n (chain_in_range p.cells xs at is.chain.chain h))
    go false h = refl

-- ---- what a change leaves
module _ (first : ℕ) (q : PoolView UnitRow) (ys : List ℕ) (left : IsLeft q (node first) ys) where
  pub now_numbers : numbers q first ≡ ys
  now_numbers = numbers_are q first ys left

  pub now_entries : entries_in q (numbers q first) ≡ by_rows (row_in q) ys
  now_entries = ap (by_rows (row_in q)) now_numbers

  pub now_list : ((x : ℕ) → has eqb x ys ≡ true → is_live (row_in q x) ≡ true) → ((x : ℕ) (r : UnitRow) → item_at q.cells x ≡ Some r → has eqb x ys ≡ false → is_live r ≡ false) → IsRowList first q
  now_list live gone =
      record {
        chain = subst (IsLeft q (node first)) (sym now_numbers) left;
        live = λ x h. live x (ap (has eqb x) (sym now_numbers) ∙ h);
        gone = λ x r e h. gone x r e (ap (has eqb x) (sym now_numbers) ∙ h);
      }

-- a list of rows before, a pool after, where the items of other numbers stay
module _ (first : ℕ) (p : PoolView UnitRow) (is : IsRowList first p) (q : PoolView UnitRow) where
  abbrev before : List ℕ
  before = numbers p first

  module _ (items : (x : ℕ) → item_at q.cells x ≡ item_at p.cells x) where
    -- the same rows in the same or another order
    pub same_list : (now : ℕ) (ys : List ℕ) → IsLeft q (node now) ys → ((x : ℕ) → has eqb x ys ≡ has eqb x before) → IsRowList now q
    same_list now ys left members =
        now_list now q ys left (λ x h. ap (λ t. is_live (row_or t)) (items x) ∙ is.live x (sym (members x) ∙ h)) (λ x r e h. is.gone x r (sym (items x) ∙ e) (sym (members x) ∙ h))

    pub same_rows : (xs : List ℕ) → by_rows (row_in q) xs ≡ by_rows (row_in p) xs
    same_rows xs = rows_same (row_in p) (row_in q) xs (λ x _. ap row_or (items x))

    -- a row of the list comes last
    module _ (at : ℕ) (member : has eqb at before ≡ true) (now : ℕ) (left : IsLeft q (node now) (without eqb at before ++ at ∷ [])) where
      stays : (x : ℕ) → has eqb x (without eqb at before ++ at ∷ []) ≡ has eqb x before
      stays x = has-append eqb Decides-eqb x (without eqb at before) (at ∷ []) ∙ go (eqb at x) refl where
        turn : (x : ℕ) → eqb at x ≡ false → eqb x at ≡ false
        turn x n = elim (eqb x at) as (λ b. eqb x at ≡ b → b ≡ false) [
          | true ↦ λ e. let k : eqb at x ≡ true = (Decides-eqb at x).1 (sym ((Decides-eqb x at).0 e)) in cc (k, n)
          | false ↦ λ _. refl
        ] refl

        go : (b : Bool) → eqb at x ≡ b → (has eqb x (without eqb at before) || (eqb x at || false)) ≡ has eqb x before
        go true e =
            let s = (Decides-eqb at x).0 e in
            ap (λ b. has eqb x (without eqb at before) || (b || false)) ((Decides-eqb x at).1 (sym s)) ∙ or-true (has eqb x (without eqb at before)) ∙ sym (ap (λ y. has eqb y before) (sym s) ∙ member)
        go false n =
            (λ i. has_others at x before n i || (turn x n i || false)) ∙ or-false (has eqb x before)

      pub moved_list : IsRowList now q
      moved_list = same_list now (without eqb at before ++ at ∷ []) left stays

      pub moved_entries : entries_in q (numbers q now) ≡ moved_entry at (entries_in p before)
      moved_entries = now_entries now q (without eqb at before ++ at ∷ []) left ∙ same_rows (without eqb at before ++ at ∷ []) ∙ rows_more (row_in p) (without eqb at before) at
          ∙ (λ i. rows_without (row_in p) at before i ++ entry at (sym (ap row_or (found (row_in p) at before ∙ ap (λ b. cond b (Some (row_in p at)) None) member)) i) ∷ [])

  module _ (at : ℕ) (row : UnitRow) (here : item_at q.cells at ≡ Some row) (items : (x : ℕ) → eqb at x ≡ false → item_at q.cells x ≡ item_at p.cells x) where
    row_here : row_in q at ≡ row
    row_here = ap row_or here

    row_there : (x : ℕ) → eqb at x ≡ false → row_in q x ≡ row_in p x
    row_there x n = ap row_or (items x n)

    live_now : is_live row ≡ true → (x : ℕ) → (eqb at x ≡ false → has eqb x before ≡ true) → is_live (row_in q x) ≡ true
    live_now live x other = elim (eqb at x) as (λ b. eqb at x ≡ b → is_live (row_in q x) ≡ true) [
      | true ↦ λ e. ap (λ y. is_live (row_in q y)) (sym ((Decides-eqb at x).0 e)) ∙ ap is_live row_here ∙ live
      | false ↦ λ n. ap is_live (row_there x n) ∙ is.live x (other n)
    ] refl

    -- another row at a number
    module _ (live : is_live row ≡ true) (member : has eqb at before ≡ true) (left : IsLeft q (node first) before) where
      pub set_list : IsRowList first q
      set_list = now_list first q before left (λ x h. live_now live x (λ _. h)) (λ x r e h. is.gone x r (sym (items x (flip x h)) ∙ e) h) where
        flip : (x : ℕ) → has eqb x before ≡ false → eqb at x ≡ false
        flip x h = elim (eqb at x) as (λ b. eqb at x ≡ b → b ≡ false) [
          | true ↦ λ e. let k : has eqb at before ≡ has eqb x before = ap (λ y. has eqb y before) ((Decides-eqb at x).0 e) in cc (k, member, h)
          | false ↦ λ _. refl
        ] refl

      pub set_entries : entries_in q (numbers q first) ≡ with_entry at row (entries_in p before)
      set_entries = now_entries first q before left ∙ rows_set (row_in p) (row_in q) at row row_here row_there before

    -- a row more
    module _ (live : is_live row ≡ true) (lacks : has eqb at before ≡ false) (now : ℕ) (left : IsLeft q (node now) (before ++ at ∷ [])) where
      more : (x : ℕ) → has eqb x (before ++ at ∷ []) ≡ (has eqb x before || (eqb x at || false))
      more x = has-append eqb Decides-eqb x before (at ∷ [])

      pub pushed_list : IsRowList now q
      pushed_list = now_list now q (before ++ at ∷ []) left
          (λ x h. live_now live x (λ n. old x n (sym (more x) ∙ h)))
          (λ x r e h. let o = neither x (sym (more x) ∙ h) in is.gone x r (sym (items x o.1) ∙ e) o.0)
        where
          turned : (x : ℕ) → eqb at x ≡ false → eqb x at ≡ false
          turned x n = elim (eqb x at) as (λ b. eqb x at ≡ b → b ≡ false) [
            | true ↦ λ e. let k : eqb at x ≡ true = (Decides-eqb at x).1 (sym ((Decides-eqb x at).0 e)) in cc (k, n)
            | false ↦ λ _. refl
          ] refl

          old : (x : ℕ) → eqb at x ≡ false → (has eqb x before || (eqb x at || false)) ≡ true → has eqb x before ≡ true
          old x n h = elim (has eqb x before) as (λ b. (b || (eqb x at || false)) ≡ true → b ≡ true) [
            | true ↦ λ _. refl
            | false ↦ λ k. let m = ap (λ b. b || false) (turned x n) in cc (k, m)
          ] h

          flipped : (x : ℕ) → (eqb x at || false) ≡ false → eqb at x ≡ false
          flipped x k = elim (eqb at x) as (λ b. eqb at x ≡ b → b ≡ false) [
            | true ↦ λ e. let m : eqb x at ≡ true = (Decides-eqb x at).1 (sym ((Decides-eqb at x).0 e)) in let w = ap (λ b. b || false) m in cc (k, w)
            | false ↦ λ _. refl
          ] refl

          neither : (x : ℕ) → (has eqb x before || (eqb x at || false)) ≡ false → (has eqb x before ≡ false) × (eqb at x ≡ false)
          neither x h = elim (has eqb x before) as (λ b. (b || (eqb x at || false)) ≡ false → (b ≡ false) × (eqb at x ≡ false)) [
            | true ↦ λ k. absurd (cc k)
            | false ↦ λ k. (refl, flipped x k)
          ] h

      pub pushed_entries : entries_in q (numbers q now) ≡ entries_in p before ++ entry at row ∷ []
      pushed_entries = now_entries now q (before ++ at ∷ []) left ∙ rows_more (row_in q) before at
          ∙ (λ i. rows_same (row_in p) (row_in q) before (λ x h. row_there x (not_same at x before lacks h)) i ++ entry at (row_here i) ∷ [])

    -- a row less
    module _ (dead : is_live row ≡ false) (now : ℕ) (left : IsLeft q (node now) (without eqb at before)) where
      within : (x : ℕ) → has eqb x (without eqb at before) ≡ true → eqb at x ≡ false
      within x h = not_same at x (without eqb at before) (has_without at before) h

      pub removed_list : IsRowList now q
      removed_list = now_list now q (without eqb at before) left
          (λ x h. ap is_live (row_there x (within x h)) ∙ is.live x (sym (has_others at x before (within x h)) ∙ h))
          (λ x r e h. out x r e h (eqb at x) refl)
        where
          out : (x : ℕ) (r : UnitRow) → item_at q.cells x ≡ Some r → has eqb x (without eqb at before) ≡ false → (b : Bool) → eqb at x ≡ b → is_live r ≡ false
          out x r e h true s =
              let k : Some row ≡ Some r = sym here ∙ ap (item_at q.cells) ((Decides-eqb at x).0 s) ∙ e in
              ap (λ t. is_live (row_or t)) (sym k) ∙ dead
          out x r e h false n = is.gone x r (sym (items x n) ∙ e) (sym (has_others at x before n) ∙ h)

      pub removed_entries : entries_in q (numbers q now) ≡ without_entry at (entries_in p before)
      removed_entries = now_entries now q (without eqb at before) left ∙ rows_same (row_in p) (row_in q) (without eqb at before) (λ x h. row_there x (within x h)) ∙ rows_without (row_in p) at before

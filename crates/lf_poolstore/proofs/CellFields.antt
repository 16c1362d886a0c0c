-- Fields found in chains of cells.
use Rattle.std.proofs.Common.{◌≡◌, ℕ, true, false, cond, ◌||◌, ◌<◌, List, [], ◌∷◌, length, option_map, Option, Some, None, refl, ap, sym, ◌∙◌, subst, zero, suc, arith, ◌++◌, Bool, not}
use Rattle.std.specs.Prelude.{eqb}
use Rattle.std.specs.List.{cons_option}
use Rattle.std.proofs.Math.Bool.{or-true}
use Rattle.std.proofs.lemmas.Bool.Decides.{Decides-eqb}
use Rattle.lf_base.specs.declared.values.Key.{Key}
use Rattle.lf_base.specs.declared.values.Value.{Value}
use Rattle.lf_base.specs.Links.{Lacks, NodesDiffer, after, has, head_or, without}
use Rattle.lf_base.specs.FieldOrder.{field_past}
use Rattle.lf_base.proofs.NameLemmas.SameNames.{same_key_is, same_key_itself}
use Rattle.lf_base.proofs.ListLemmas.LinkedLists.{without-lacking}
use Rattle.lf_base.specs.WriteResult.{put_field}
use Rattle.lf_pool.specs.declared.cell.Cell.{Cell}
use Rattle.lf_base.specs.Names.{same_key}
use Rattle.lf_base.specs.TakeResult.{drop_field, field_at}
use Rattle.lf_base.specs.Links.{walk}
use Rattle.lf_pool.specs.Cells.{IsChain, item_at, link_at, node}
use Rattle.lf_pool.specs.Fields.{first_with, is_keyed}
use Rattle.lf_pool.specs.Pools.{Chain, IsLeft}
use Rattle.lf_pool.proofs.Joins.{chain_in_range, some_is}
use Rattle.lf_poolstore.specs.RowLists.{numbers}
use Rattle.lf_poolstore.specs.Units.{FieldPool, items_in, pair_by}
use Rattle.lf_pool.proofs.Places.{apart_of_member, member_apart}
use Rattle.lf_poolstore.proofs.RowLists.{as_chain, node_same, walk_none}

abbrev pub pair : Key → Value → Key × Value
pair k v = (k, v)

-- the value of the field in a cell, where there is one
abbrev pub value_in : FieldPool → Option ℕ → Option Value
value_in cells None = None
value_in cells (Some x) = option_map (λ (p : Key × Value). p.1) (item_at cells.cells x)

pub value_found : (cells : FieldPool) (k : Key) (xs : List ℕ) → field_at (items_in cells xs) k ≡ value_in cells (first_with cells.cells k xs)
value_found cells k [] = refl
value_found cells k (x ∷ xs) = go (value_found cells k xs) (item_at cells.cells x) refl where
  go : field_at (items_in cells xs) k ≡ value_in cells (first_with cells.cells k xs) → (t : Option (Key × Value)) → item_at cells.cells x ≡ t
      → field_at (cons_option t (items_in cells xs)) k ≡ value_in cells (cond (is_keyed k t) (Some x) (first_with cells.cells k xs))
  go ih None e = ih
  go ih (Some p) e = elim (same_key p.0 k) as (λ b. cond b (Some p.1) (field_at (items_in cells xs) k) ≡ value_in cells (cond b (Some x) (first_with cells.cells k xs))) [
    | true ↦ sym (ap (option_map (λ (q : Key × Value). q.1)) e)
    | false ↦ ih
  ]

pub first_with_member : (cells : FieldPool) (k : Key) (xs : List ℕ) (x : ℕ) → first_with cells.cells k xs ≡ Some x → has eqb x xs ≡ true
first_with_member cells k [] x h = cc
first_with_member cells k (y ∷ ys) x h = elim (is_keyed k (item_at cells.cells y)) as (λ b. cond b (Some y) (first_with cells.cells k ys) ≡ Some x → (eqb x y || has eqb x ys) ≡ true) [
  | true ↦ λ e. ap (λ b. b || has eqb x ys) ((Decides-eqb x y).1 (sym (number e)))
  | false ↦ λ e. ap (λ b. eqb x y || b) (first_with_member cells k ys x e) ∙ or-true (eqb x y)
] h where
  number : Some y ≡ Some x → y ≡ x
  number e = some_is y x e

-- a cell that was found is there
pub found_in_range : (cells : FieldPool) (k : Key) (first : ℕ) (xs : List ℕ) (x : ℕ) → IsLeft cells (node first) xs → first_with cells.cells k xs ≡ Some x → x < length cells.cells
found_in_range cells k first xs x l h = chain_in_range cells.cells xs x l.chain (first_with_member cells k xs x h)

-- the cells of a row that has some
pub cells_there : (cells : FieldPool) (first : ℕ) (xs : List ℕ) → IsLeft cells (node first) xs → node first ≡ Some first → Chain cells first xs
cells_there cells first [] l e = let n : None ≡ Some first = l.begins ∙ e in cc
cells_there cells first (x ∷ xs) l e = subst (λ y. Chain cells y (x ∷ xs)) (sym (node_same first x (sym l.begins))) (as_chain cells first x xs l)

pub none_found : (cells : FieldPool) (k : Key) (first : ℕ) → node first ≡ None → None ≡ first_with cells.cells k (numbers cells first)
none_found cells k first e =
    sym (ap (λ t. first_with cells.cells k (walk (length cells.cells) (link_at cells.cells) t)) e ∙ ap (first_with cells.cells k) (walk_none (length cells.cells) (link_at cells.cells)))

-- ---- all cells of a chain have items
pub item_there : {T : Type 0} (cells : List (Cell T)) (q : ℕ) → q < length cells → (t : T) × (item_at cells q ≡ Some t)
item_there [] q l = absurd (omega (arith, l))
item_there (c ∷ cells) zero l = (c.item, refl)
item_there (c ∷ cells) (suc q) l = item_there cells q (omega (arith, l))

each_there : (cells : FieldPool) (xs : List ℕ) → ((q : ℕ) → has eqb q xs ≡ true → q < length cells.cells) → length (items_in cells xs) ≡ length xs
each_there cells [] k = refl
each_there cells (x ∷ xs) k =
    let t = item_there cells.cells x (k x (ap (λ b. b || has eqb x xs) ((Decides-eqb x x).1 refl))) in
    ap (λ s. length (cons_option s (items_in cells xs))) t.1 ∙ ap suc (each_there cells xs (λ q h. k q (ap (λ b. eqb q x || b) h ∙ or-true (eqb q x))))

pub items_length : (cells : FieldPool) (xs : List ℕ) → IsChain (link_at cells.cells) xs → length (items_in cells xs) ≡ length xs
items_length cells xs z = each_there cells xs (λ q h. chain_in_range cells.cells xs q z h)

-- ---- a field more, and a field replaced
pub items_more : (cells : FieldPool) (xs : List ℕ) (x : ℕ) (p : Key × Value) → item_at cells.cells x ≡ Some p → items_in cells (xs ++ x ∷ []) ≡ items_in cells xs ++ p ∷ []
items_more cells [] x p e = ap (λ s. cons_option s []) e
items_more cells (y ∷ ys) x p e = ap (cons_option (item_at cells.cells y)) (items_more cells ys x p e) ∙ onto (item_at cells.cells y) where
  onto : (s : Option (Key × Value)) → cons_option s (items_in cells ys ++ p ∷ []) ≡ cons_option s (items_in cells ys) ++ p ∷ []
  onto None = refl
  onto (Some q) = refl

pub items_same : (m n : FieldPool) (xs : List ℕ) → ((q : ℕ) → has eqb q xs ≡ true → item_at n.cells q ≡ item_at m.cells q) → items_in n xs ≡ items_in m xs
items_same m n [] k = refl
items_same m n (x ∷ xs) k = λ i. cons_option (k x (ap (λ b. b || has eqb x xs) ((Decides-eqb x x).1 refl)) i) (items_same m n xs (λ q h. k q (ap (λ b. eqb q x || b) h ∙ or-true (eqb q x))) i)

pub put_absent : (cells : FieldPool) (k : Key) (v : Value) (xs : List ℕ) → first_with cells.cells k xs ≡ None → put_field (items_in cells xs) k v ≡ items_in cells xs ++ (k, v) ∷ []
put_absent cells k v [] h = refl
put_absent cells k v (x ∷ xs) h = go (put_absent cells k v xs) (item_at cells.cells x) h where
  go : (first_with cells.cells k xs ≡ None → put_field (items_in cells xs) k v ≡ items_in cells xs ++ pair k v ∷ []) → (t : Option (Key × Value)) → cond (is_keyed k t) (Some x) (first_with cells.cells k xs) ≡ None
      → put_field (cons_option t (items_in cells xs)) k v ≡ cons_option t (items_in cells xs) ++ pair k v ∷ []
  go ih None e = ih e
  go ih (Some p) e = elim (same_key p.0 k) as (λ b. cond b (Some x) (first_with cells.cells k xs) ≡ None
      → cond b (pair k v ∷ items_in cells xs) (p ∷ put_field (items_in cells xs) k v) ≡ p ∷ (items_in cells xs ++ pair k v ∷ [])) [
        | true ↦ λ g. absurd (cc g)
        | false ↦ λ g. ap (λ l. p ∷ l) (ih g)
      ] e

pub put_there : (m n : FieldPool) (k : Key) (v : Value) (cell : ℕ) → item_at n.cells cell ≡ Some (pair k v) → ((q : ℕ) → eqb cell q ≡ false → item_at n.cells q ≡ item_at m.cells q)
    → (xs : List ℕ) → NodesDiffer eqb xs → first_with m.cells k xs ≡ Some cell → items_in n xs ≡ put_field (items_in m xs) k v
put_there m n k v cell here others [] d h = absurd (cc h)
put_there m n k v cell here others (x ∷ xs) d h = go (put_there m n k v cell here others xs d.1) (item_at m.cells x) refl (is_keyed k (item_at m.cells x)) refl h where
  elsewhere : first_with m.cells k xs ≡ Some cell → eqb cell x ≡ false
  elsewhere e = apart_of_member cell x xs (first_with_member m k xs cell e) d.0

  go : (first_with m.cells k xs ≡ Some cell → items_in n xs ≡ put_field (items_in m xs) k v) → (t : Option (Key × Value)) → item_at m.cells x ≡ t → (b : Bool) → is_keyed k t ≡ b → cond b (Some x) (first_with m.cells k xs) ≡ Some cell
      → cons_option (item_at n.cells x) (items_in n xs) ≡ put_field (cons_option t (items_in m xs)) k v
  go ih None e true s g = absurd (cc s)
  go ih None e false s g = ap (λ w. cons_option w (items_in n xs)) (others x (elsewhere g) ∙ e) ∙ ih g
  go ih (Some p) e true s g =
      let same : x ≡ cell = some_is x cell g in
      ap (λ w. cons_option w (items_in n xs)) (ap (item_at n.cells) same ∙ here)
      ∙ ap (λ l. pair k v ∷ l) (items_same m n xs (λ q w. others q (subst (λ y. eqb y q ≡ false) same (member_apart x q xs w d.0))))
      ∙ sym (ap (λ b. cond b (pair k v ∷ items_in m xs) (p ∷ put_field (items_in m xs) k v)) s)
  go ih (Some p) e false s g =
      ap (λ w. cons_option w (items_in n xs)) (others x (elsewhere g) ∙ e) ∙ ap (λ l. p ∷ l) (ih g)
      ∙ sym (ap (λ b. cond b (pair k v ∷ items_in m xs) (p ∷ put_field (items_in m xs) k v)) s)

pub drop_there : (m : FieldPool) (k : Key) (cell : ℕ) (xs : List ℕ) → NodesDiffer eqb xs → first_with m.cells k xs ≡ Some cell → items_in m (without eqb cell xs) ≡ drop_field (items_in m xs) k
drop_there m k cell [] d h = absurd (cc h)
drop_there m k cell (x ∷ xs) d h = go (drop_there m k cell xs d.1) (item_at m.cells x) refl (is_keyed k (item_at m.cells x)) refl h where
  elsewhere : first_with m.cells k xs ≡ Some cell → eqb cell x ≡ false
  elsewhere e = apart_of_member cell x xs (first_with_member m k xs cell e) d.0

  kept : (t : Option (Key × Value)) → item_at m.cells x ≡ t → eqb cell x ≡ false → items_in m (without eqb cell (x ∷ xs)) ≡ cons_option t (items_in m (without eqb cell xs))
  kept t e n = ap (λ b. items_in m (cond (not b) (x ∷ without eqb cell xs) (without eqb cell xs))) n ∙ ap (λ w. cons_option w (items_in m (without eqb cell xs))) e

  go : (first_with m.cells k xs ≡ Some cell → items_in m (without eqb cell xs) ≡ drop_field (items_in m xs) k) → (t : Option (Key × Value)) → item_at m.cells x ≡ t → (b : Bool) → is_keyed k t ≡ b → cond b (Some x) (first_with m.cells k xs) ≡ Some cell
      → items_in m (without eqb cell (x ∷ xs)) ≡ drop_field (cons_option t (items_in m xs)) k
  go ih None e true s g = absurd (cc s)
  go ih None e false s g = kept None e (elsewhere g) ∙ ih g
  go ih (Some p) e true s g =
      let same : x ≡ cell = some_is x cell g in
      ap (λ b. items_in m (cond (not b) (x ∷ without eqb cell xs) (without eqb cell xs))) ((Decides-eqb cell x).1 (sym same))
      ∙ ap (items_in m) (without-lacking eqb Decides-eqb cell xs (subst (λ y. Lacks eqb y xs) same d.0))
      ∙ sym (ap (λ b. cond b (items_in m xs) (p ∷ drop_field (items_in m xs) k)) s)
  go ih (Some p) e false s g = kept (Some p) e (elsewhere g) ∙ ap (λ l. p ∷ l) (ih g) ∙ sym (ap (λ b. cond b (items_in m xs) (p ∷ drop_field (items_in m xs) k)) s)

pub drop_absent : (m : FieldPool) (k : Key) (xs : List ℕ) → first_with m.cells k xs ≡ None → drop_field (items_in m xs) k ≡ items_in m xs
drop_absent m k [] h = refl
drop_absent m k (x ∷ xs) h = go (drop_absent m k xs) (item_at m.cells x) h where
  go : (first_with m.cells k xs ≡ None → drop_field (items_in m xs) k ≡ items_in m xs) → (t : Option (Key × Value)) → cond (is_keyed k t) (Some x) (first_with m.cells k xs) ≡ None
      → drop_field (cons_option t (items_in m xs)) k ≡ cons_option t (items_in m xs)
  go ih None e = ih e
  go ih (Some p) e = elim (same_key p.0 k) as (λ b. cond b (Some x) (first_with m.cells k xs) ≡ None → cond b (items_in m xs) (p ∷ drop_field (items_in m xs) k) ≡ p ∷ items_in m xs) [
    | true ↦ λ g. absurd (cc g)
    | false ↦ λ g. ap (λ l. p ∷ l) (ih g)
  ] e

-- ---- the field after one
same_key_flips : (a b : Key) → same_key a b ≡ same_key b a
same_key_flips a b = go (same_key a b) refl (same_key b a) refl where
  go : (s : Bool) → same_key a b ≡ s → (t : Bool) → same_key b a ≡ t → s ≡ t
  go true e true f = refl
  go false e false f = refl
  go true e false f = let k : same_key b a ≡ true = ap (same_key b) (same_key_is a b e) ∙ same_key_itself b in absurd (cc (k, f))
  go false e true f = let k : same_key a b ≡ true = ap (same_key a) (same_key_is b a f) ∙ same_key_itself a in absurd (cc (k, e))

pub head_found : (m : FieldPool) (xs : List ℕ) → ((q : ℕ) → has eqb q xs ≡ true → q < length m.cells) → pair_by m (head_or xs None) ≡ head_or (items_in m xs) None
head_found m [] k = refl
head_found m (x ∷ xs) k =
    let t = item_there m.cells x (k x (ap (λ b. b || has eqb x xs) ((Decides-eqb x x).1 refl))) in
    t.1 ∙ sym (ap (λ w. head_or (cons_option w (items_in m xs)) None) t.1)

pub past_found : (m : FieldPool) (k : Key) (cell : ℕ) (xs : List ℕ) → NodesDiffer eqb xs → ((q : ℕ) → has eqb q xs ≡ true → q < length m.cells) → first_with m.cells k xs ≡ Some cell
    → pair_by m (after eqb cell xs) ≡ field_past (items_in m xs) k
past_found m k cell [] d r h = absurd (cc h)
past_found m k cell (x ∷ xs) d r h = go (past_found m k cell xs d.1 later) (item_at m.cells x) refl (is_keyed k (item_at m.cells x)) refl h where
  later : (q : ℕ) → has eqb q xs ≡ true → q < length m.cells
  later q g = r q (ap (λ b. eqb q x || b) g ∙ or-true (eqb q x))

  elsewhere : first_with m.cells k xs ≡ Some cell → eqb cell x ≡ false
  elsewhere e = apart_of_member cell x xs (first_with_member m k xs cell e) d.0

  go : (first_with m.cells k xs ≡ Some cell → pair_by m (after eqb cell xs) ≡ field_past (items_in m xs) k) → (t : Option (Key × Value)) → item_at m.cells x ≡ t → (b : Bool) → is_keyed k t ≡ b → cond b (Some x) (first_with m.cells k xs) ≡ Some cell
      → pair_by m (cond (eqb cell x) (head_or xs None) (after eqb cell xs)) ≡ field_past (cons_option t (items_in m xs)) k
  go ih None e true s g = absurd (cc s)
  go ih None e false s g = ap (λ b. pair_by m (cond b (head_or xs None) (after eqb cell xs))) (elsewhere g) ∙ ih g
  go ih (Some p) e true s g =
      ap (λ b. pair_by m (cond b (head_or xs None) (after eqb cell xs))) ((Decides-eqb cell x).1 (sym (some_is x cell g)))
      ∙ head_found m xs later ∙ sym (ap (λ b. cond b (head_or (items_in m xs) None) (field_past (items_in m xs) k)) (same_key_flips k p.0 ∙ s))
  go ih (Some p) e false s g =
      ap (λ b. pair_by m (cond b (head_or xs None) (after eqb cell xs))) (elsewhere g) ∙ ih g
      ∙ sym (ap (λ b. cond b (head_or (items_in m xs) None) (field_past (items_in m xs) k)) (same_key_flips k p.0 ∙ s))

pub past_none : (m : FieldPool) (k : Key) (xs : List ℕ) → first_with m.cells k xs ≡ None → None ≡ field_past (items_in m xs) k
past_none m k [] h = refl
past_none m k (x ∷ xs) h = go (past_none m k xs) (item_at m.cells x) (is_keyed k (item_at m.cells x)) refl h where
  go : (first_with m.cells k xs ≡ None → None ≡ field_past (items_in m xs) k) → (t : Option (Key × Value)) → (b : Bool) → is_keyed k t ≡ b → cond b (Some x) (first_with m.cells k xs) ≡ None → None ≡ field_past (cons_option t (items_in m xs)) k
  go ih None true s g = absurd (cc g)
  go ih None false s g = ih g
  go ih (Some p) true s g = absurd (cc g)
  go ih (Some p) false s g = ih g ∙ sym (ap (λ b. cond b (head_or (items_in m xs) None) (field_past (items_in m xs) k)) (same_key_flips k p.0 ∙ s))

pub after_in_range : (m : FieldPool) (first : ℕ) (xs : List ℕ) (cell x : ℕ) → IsLeft m (node first) xs → after eqb cell xs ≡ Some x → x < length m.cells
after_in_range m first xs cell x l e = chain_in_range m.cells xs x l.chain (member xs e) where
  head_in : (ys : List ℕ) → head_or ys None ≡ Some x → has eqb x ys ≡ true
  head_in [] g = absurd (cc g)
  head_in (y ∷ ys) g = ap (λ b. b || has eqb x ys) ((Decides-eqb x y).1 (sym (some_is y x g)))

  member : (ys : List ℕ) → after eqb cell ys ≡ Some x → has eqb x ys ≡ true
  member [] g = absurd (cc g)
  member (y ∷ ys) g = ap (λ b. eqb x y || b) (go (λ h. member ys h) (eqb cell y) g) ∙ or-true (eqb x y) where
    go : (after eqb cell ys ≡ Some x → has eqb x ys ≡ true) → (b : Bool) → cond b (head_or ys None) (after eqb cell ys) ≡ Some x → has eqb x ys ≡ true
    go ih true h = head_in ys h
    go ih false h = ih h

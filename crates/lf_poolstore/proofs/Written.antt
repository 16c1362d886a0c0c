-- A field that is written in a row, and the rows that share no cells with it.
use Rattle.std.proofs.Common.{◌≡◌, ◌≢◌, ℕ, Bool, true, false, cond, ◌+◌, ◌<◌, ◌≤◌, List, [], ◌∷◌, ◌++◌, length, Option, Some, None, refl, ap, sym, ◌∙◌, subst, arith, length-append, ◌-◌}
use Rattle.std.specs.Prelude.{eqb}
use Rattle.std.proofs.lemmas.Bool.Decides.{Decides-eqb}
use Rattle.lf_base.specs.declared.values.Key.{Key}
use Rattle.lf_base.specs.declared.values.Value.{Value}
use Rattle.lf_base.specs.Links.{has, head_or, without}
use Rattle.lf_base.specs.TakeResult.{drop_field}
use Rattle.lf_base.proofs.ListLemmas.LinkedLists.{length-without}
use Rattle.lf_base.specs.WriteResult.{put_field}
use Rattle.lf_base.proofs.NameLemmas.SameNames.{same_key_is}
use Rattle.lf_pool.specs.Cells.{item_at, link_at, node}
use Rattle.lf_pool.specs.Fields.{first_with, is_keyed}
use Rattle.lf_pool.specs.Pools.{Chain, IsLeft}
use Rattle.lf_pool.proofs.Chains.{begins, same_chain}
use Rattle.lf_pool.proofs.Counted.{chain_fits}
use Rattle.lf_pool.proofs.Joins.{some_is}
use Rattle.lf_poolstore.specs.declared.unit_row.UnitRow.{UnitRow}
use Rattle.lf_poolstore.specs.RowLists.{numbers}
use Rattle.lf_poolstore.specs.Units.{Apart, FieldPool, KeepsFields, Writes, fields_of, items_in}
use Rattle.lf_poolstore.proofs.CellFields.{drop_there, first_with_member, items_more, items_same, pair, put_there}
use Rattle.lf_poolstore.proofs.RowLists.{begins_elsewhere, first_chain, has_others, has_without, lacked, left_kept, not_same, numbers_are}

-- a member is another cell than one that the list lacks
pub other_cell : (xs : List ℕ) (cell q : ℕ) → has eqb cell xs ≡ false → has eqb q xs ≡ true → eqb cell q ≡ false
other_cell xs cell q n h = not_same cell q xs n h

-- a row whose chain and items stay
module _ (m n : FieldPool) (s : UnitRow) (k : KeepsFields m s) (stays : (c : ℕ) → Chain m c (numbers m s.fields) → Chain n c (numbers m s.fields)) where
  left_on : IsLeft n (node s.fields) (numbers m s.fields)
  left_on = left_kept m n (node s.fields) (numbers m s.fields) k.chain stays

  pub numbers_on : numbers n s.fields ≡ numbers m s.fields
  numbers_on = numbers_are n s.fields (numbers m s.fields) left_on

  pub keeps_on : KeepsFields n s
  keeps_on = record { chain = subst (IsLeft n (node s.fields)) (sym numbers_on) left_on; count = ap length numbers_on ∙ k.count }

-- two rows apart have no cell in common
pub apart_cells : (m : FieldPool) (r s : UnitRow) → KeepsFields m r → KeepsFields m s → Apart r s → (q : ℕ) → has eqb q (numbers m r.fields) ≡ true → has eqb q (numbers m s.fields) ≡ false
apart_cells m r s k l a q h = go (has eqb q (numbers m s.fields)) refl where
  head_there : (xs : List ℕ) → has eqb q xs ≡ true → (x : ℕ) × (head_or xs None ≡ Some x)
  head_there [] e = absurd (cc e)
  head_there (x ∷ xs) e = (x, refl)

  go : (b : Bool) → has eqb q (numbers m s.fields) ≡ b → b ≡ false
  go false e = refl
  go true e =
      let one = same_chain (link_at m.cells) (numbers m r.fields) (numbers m s.fields) q k.chain.chain l.chain.chain h e in
      let x = head_there (numbers m r.fields) h in
      absurd (a x.0 (sym k.chain.begins ∙ x.1) (sym l.chain.begins ∙ ap (λ ys. head_or ys None) (sym one) ∙ x.1))

found_keyed : (m : FieldPool) (k : Key) (xs : List ℕ) (x : ℕ) → first_with m.cells k xs ≡ Some x → is_keyed k (item_at m.cells x) ≡ true
found_keyed m k [] x h = cc
found_keyed m k (y ∷ ys) x h = elim (is_keyed k (item_at m.cells y)) as (λ b. is_keyed k (item_at m.cells y) ≡ b → cond b (Some y) (first_with m.cells k ys) ≡ Some x → is_keyed k (item_at m.cells x) ≡ true) [
  | true ↦ λ t e. ap (λ z. is_keyed k (item_at m.cells z)) (sym (some_is y x e)) ∙ t
  | false ↦ λ _ e. found_keyed m k ys x e
] refl h

pub keyed_item : (m : FieldPool) (k : Key) (xs : List ℕ) (x : ℕ) → first_with m.cells k xs ≡ Some x → (v : Value) × (item_at m.cells x ≡ Some (pair k v))
keyed_item m k xs x h = go (item_at m.cells x) refl (found_keyed m k xs x h) where
  go : (t : Option (Key × Value)) → item_at m.cells x ≡ t → is_keyed k t ≡ true → (v : Value) × (item_at m.cells x ≡ Some (pair k v))
  go None e s = absurd (cc s)
  go (Some p) e s = (p.1, e ∙ ap (λ (q : Key). Some (pair q p.1)) (same_key_is p.0 k s))

-- the value in a cell of the row is replaced
module _ (m n : FieldPool) (row : UnitRow) (keeps : KeepsFields m row) (k : Key) (v : Value) (cell : ℕ) (found : first_with m.cells k (numbers m row.fields) ≡ Some cell)
    (chains : (c : ℕ) → (xs : List ℕ) → Chain m c xs → Chain n c xs) (value : (j : Key) → (w : Value) → item_at m.cells cell ≡ Some (j, w) → item_at n.cells cell ≡ Some (j, v))
    (items : (q : ℕ) → eqb cell q ≡ false → item_at n.cells q ≡ item_at m.cells q) where
  pub replaced_writes : Writes m n row row (put_field (fields_of m row) k v)
  replaced_writes =
      let w = keyed_item m k (numbers m row.fields) cell found in
      let member = first_with_member m k (numbers m row.fields) cell found in
      record {
        keeps = keeps_on m n row keeps (λ c. chains c (numbers m row.fields));
        here = ap (items_in n) (numbers_on m n row keeps (λ c. chains c (numbers m row.fields)))
            ∙ put_there m n k v cell (value k w.0 w.1) items (numbers m row.fields) keeps.chain.chain.differ found;
        others = λ s l a. (
          keeps_on m n s l (λ c. chains c (numbers m s.fields)),
          ap (items_in n) (numbers_on m n s l (λ c. chains c (numbers m s.fields)))
              ∙ items_same m n (numbers m s.fields) (λ q h. items q (other_cell (numbers m s.fields) cell q (apart_cells m row s keeps l a cell member) h)),
          a,
        );
      }

-- a cell comes to the row
module _ (m one n : FieldPool) (row : UnitRow) (keeps : KeepsFields m row) (k : Key) (v : Value) (cell : ℕ)
    (taken : (d : ℕ) → (zs : List ℕ) → Chain m d zs → Chain one d zs × (has eqb cell zs ≡ false)) (item : item_at one.cells cell ≡ Some (pair k v))
    (items : (q : ℕ) → eqb cell q ≡ false → item_at one.cells q ≡ item_at m.cells q) where
  pub one_left : IsLeft one (node row.fields) (numbers m row.fields)
  one_left = left_kept m one (node row.fields) (numbers m row.fields) keeps.chain (λ d z. (taken d (numbers m row.fields) z).0)

  pub one_numbers : numbers one row.fields ≡ numbers m row.fields
  one_numbers = numbers_are one row.fields (numbers m row.fields) one_left

  pub one_lacks : has eqb cell (numbers m row.fields) ≡ false
  one_lacks = lacked m row.fields cell (numbers m row.fields) keeps.chain (λ d z. (taken d (numbers m row.fields) z).1)

  pub list_before : IsLeft one (node row.fields) (numbers one row.fields) × (has eqb cell (numbers one row.fields) ≡ false)
  list_before = (subst (IsLeft one (node row.fields)) (sym one_numbers) one_left, ap (has eqb cell) one_numbers ∙ one_lacks)

  module _ (now : UnitRow) (list : IsLeft n (node now.fields) (numbers one row.fields ++ cell ∷ [])) (width : now.width ≡ row.width + 1)
      (stays : (d : ℕ) → (zs : List ℕ) → Chain one d zs → node row.fields ≢ Some d → d ≢ cell → Chain n d zs) (first : (d : ℕ) → node now.fields ≡ Some d → node row.fields ≢ Some d → d ≡ cell)
      (same : (q : ℕ) → item_at n.cells q ≡ item_at one.cells q) where
    list_now : IsLeft n (node now.fields) (numbers m row.fields ++ cell ∷ [])
    list_now = subst (λ ys. IsLeft n (node now.fields) (ys ++ cell ∷ [])) one_numbers list

    now_is : numbers n now.fields ≡ numbers m row.fields ++ cell ∷ []
    now_is = numbers_are n now.fields (numbers m row.fields ++ cell ∷ []) list_now

    pub fits : row.width + 1 ≤ length n.cells
    fits =
        let l = chain_fits n.cells (numbers m row.fields ++ cell ∷ []) list_now.chain in
        let e = length-append (numbers m row.fields) (cell ∷ []) in
        let w = keeps.count in
        omega (arith, l, e, w)

    pub added_writes : Writes m n row now (fields_of m row ++ pair k v ∷ [])
    added_writes =
        record {
          keeps = record {
            chain = subst (IsLeft n (node now.fields)) (sym now_is) list_now;
            count = ap length now_is ∙ length-append (numbers m row.fields) (cell ∷ []) ∙ ap (λ t. t + 1) keeps.count ∙ sym width;
          };
          here = ap (items_in n) now_is ∙ items_more n (numbers m row.fields) cell (pair k v) (same cell ∙ item)
              ∙ ap (λ l. l ++ pair k v ∷ []) (items_same m n (numbers m row.fields) (λ q h. same q ∙ items q (other_cell (numbers m row.fields) cell q one_lacks h)));
          others = λ s l a. (
            keeps_on m n s l (stay s l a),
            ap (items_in n) (numbers_on m n s l (stay s l a)) ∙ items_same m n (numbers m s.fields) (λ q h. same q ∙ items q (other_cell (numbers m s.fields) cell q (s_lacks s l) h)),
            λ c e f. apart_now s l a c e f,
          );
        }
      where
        s_lacks : (s : UnitRow) → KeepsFields m s → has eqb cell (numbers m s.fields) ≡ false
        s_lacks s l = lacked m s.fields cell (numbers m s.fields) l.chain (λ d z. (taken d (numbers m s.fields) z).1)

        stay : (s : UnitRow) → KeepsFields m s → Apart row s → (c : ℕ) → Chain m c (numbers m s.fields) → Chain n c (numbers m s.fields)
        stay s l a c z =
            stays c (numbers m s.fields) (taken c (numbers m s.fields) z).0 (λ e. a c e (sym l.chain.begins ∙ z.0.1))
            (λ e. let h : has eqb cell (numbers m s.fields) ≡ true = subst (λ y. has eqb y (numbers m s.fields) ≡ true) e (begins c (numbers m s.fields) z.0.1) in let o = s_lacks s l in cc (h, o))

        apart_now : (s : UnitRow) → KeepsFields m s → Apart row s → (c : ℕ) → node now.fields ≡ Some c → node s.fields ≡ Some c → ⊥
        apart_now s l a c e f =
            let is_cell : c ≡ cell = first c e (λ g. a c g f) in
            let h : has eqb c (numbers m s.fields) ≡ true = begins c (numbers m s.fields) (l.chain.begins ∙ f) in
            let g : has eqb cell (numbers m s.fields) ≡ true = subst (λ y. has eqb y (numbers m s.fields) ≡ true) is_cell h in
            let o = s_lacks s l in
            cc (g, o)

-- a cell of the row is taken out and given back
module _ (m one n : FieldPool) (row : UnitRow) (keeps : KeepsFields m row) (k : Key) (cell : ℕ) (found : first_with m.cells k (numbers m row.fields) ≡ Some cell) where
  in_row : has eqb cell (numbers m row.fields) ≡ true
  in_row = first_with_member m k (numbers m row.fields) cell found

  pub row_chain : Chain m row.fields (numbers m row.fields)
  row_chain = first_chain m row.fields (numbers m row.fields) cell keeps.chain in_row

  pub some_width : 0 < row.width
  some_width = let e = length-without eqb Decides-eqb cell (numbers m row.fields) keeps.chain.chain.differ in_row in let w = keeps.count in omega (arith, e, w)

  module _ (now : UnitRow) (list : IsLeft one (node now.fields) (without eqb cell (numbers m row.fields))) (width : now.width ≡ row.width - 1)
      (parted : (d : ℕ) → (zs : List ℕ) → Chain m d zs → d ≢ row.fields → Chain one d zs) (given : (d : ℕ) → (zs : List ℕ) → Chain one d zs → d ≢ cell → Chain n d zs)
      (items : (q : ℕ) → item_at n.cells q ≡ item_at m.cells q) where
    list_left : IsLeft n (node now.fields) (without eqb cell (numbers m row.fields))
    list_left = left_kept one n (node now.fields) (without eqb cell (numbers m row.fields)) list
        (λ d z. given d (without eqb cell (numbers m row.fields)) z (begins_elsewhere one cell d (without eqb cell (numbers m row.fields)) (has_without cell (numbers m row.fields)) z))

    left_is : numbers n now.fields ≡ without eqb cell (numbers m row.fields)
    left_is = numbers_are n now.fields (without eqb cell (numbers m row.fields)) list_left

    pub dropped_writes : Writes m n row now (drop_field (fields_of m row) k)
    dropped_writes =
        record {
          keeps = record {
            chain = subst (IsLeft n (node now.fields)) (sym left_is) list_left;
            count = ap length left_is ∙ fewer;
          };
          here = ap (items_in n) left_is ∙ items_same m n (without eqb cell (numbers m row.fields)) (λ q _. items q) ∙ drop_there m k cell (numbers m row.fields) keeps.chain.chain.differ found;
          others = λ s l a. (
            keeps_on m n s l (stay s l a),
            ap (items_in n) (numbers_on m n s l (stay s l a)) ∙ items_same m n (numbers m s.fields) (λ q _. items q),
            λ c e f. apart_now s l a c e f,
          );
        }
      where
        fewer : length (without eqb cell (numbers m row.fields)) ≡ now.width
        fewer = let e = length-without eqb Decides-eqb cell (numbers m row.fields) keeps.chain.chain.differ in_row in let w = keeps.count in omega (arith, e, w, width)

        stay : (s : UnitRow) → KeepsFields m s → Apart row s → (c : ℕ) → Chain m c (numbers m s.fields) → Chain n c (numbers m s.fields)
        stay s l a c z =
            given c (numbers m s.fields)
            (parted c (numbers m s.fields) z (λ e. a c (sym keeps.chain.begins ∙ row_chain.0.1 ∙ ap Some (sym e)) (sym l.chain.begins ∙ z.0.1)))
            (begins_elsewhere m cell c (numbers m s.fields) (apart_cells m row s keeps l a cell in_row) z)

        was_there : (q : ℕ) → has eqb q (without eqb cell (numbers m row.fields)) ≡ true → has eqb q (numbers m row.fields) ≡ true
        was_there q h = sym (has_others cell q (numbers m row.fields) (not_same cell q (without eqb cell (numbers m row.fields)) (has_without cell (numbers m row.fields)) h)) ∙ h

        apart_now : (s : UnitRow) → KeepsFields m s → Apart row s → (c : ℕ) → node now.fields ≡ Some c → node s.fields ≡ Some c → ⊥
        apart_now s l a c e f =
            let h = was_there c (begins c (without eqb cell (numbers m row.fields)) (list_left.begins ∙ e)) in
            let g : has eqb c (numbers m s.fields) ≡ true = begins c (numbers m s.fields) (l.chain.begins ∙ f) in
            let o = apart_cells m row s keeps l a c h in
            cc (g, o)

-- The keys of a row with their values, after a field is set, comes or goes.
use Rattle.std.proofs.Common.{List, None, Option, Some, [], ap, cond, false, is_some, length, not, refl, subst, sym, true, ◌||◌, ◌++◌, ◌∙◌, ◌∷◌, ◌≡◌, arith}
use Rattle.std.specs.Option.{IsSome, option_map}
use Rattle.std.proofs.Math.Bool.{or-true}
use Rattle.std.proofs.lemmas.List.{length-map}
use Rattle.lf_base.specs.declared.ids.ObjId.{ObjId}
use Rattle.lf_base.specs.declared.values.Key.{Key}
use Rattle.lf_base.specs.declared.values.Value.{Value}
use Rattle.lf_base.specs.FieldOrder.{field_after, field_past}
use Rattle.lf_base.specs.Links.{Lacks, NodesDiffer, after, has, head_or, without}
use Rattle.lf_base.specs.Names.{same_key}
use Rattle.lf_base.specs.TakeResult.{drop_field, field_at}
use Rattle.lf_base.specs.WriteResult.{put_field}
use Rattle.lf_base.proofs.ListLemmas.LinkedLists.{IsList-walk, Lacks-from_has, flipped, without-lacking}
use Rattle.lf_base.proofs.NameLemmas.SameNames.{same_key_is, same_key_itself}
use Rattle.lf_graph.specs.declared.cells.Cell.{Cell}
use Rattle.lf_graph.specs.declared.cells.FieldEnds.{FieldEnds}
use Rattle.lf_graph.specs.Cells.{CellsAt, IsFieldList, OnlyValueAt, cell_value, found_value, has_cell, link_of, pair_of, paired, pairs, walked_keys}
use Rattle.lf_graph.proofs.FieldTable.CellMaps.{Decides-same_key}

-- a walk from the first key gives a row's keys
pub walked_keys_are : (m : CellsAt) (o : ObjId) (ends : FieldEnds) (keys : List Key) → IsFieldList m o ends keys → walked_keys m o ends ≡ keys
walked_keys_are m o ends keys old =
    let w = old.width in
    IsList-walk same_key Decides-same_key (link_of m o) ends.first ends.last (has_cell m o) keys ends.width (omega arith) old.list

pub length_pairs : (m : CellsAt) (o : ObjId) (ends : FieldEnds) (keys : List Key) → IsFieldList m o ends keys → length (pairs m o keys) ≡ ends.width
length_pairs m o ends keys old = length-map keys (paired m o) ∙ sym old.width

-- ---- what is found among the pairs

-- a key that the row has is found with its value, and another isn't
found_among : (m : CellsAt) (o : ObjId) (keys : List Key) (k : Key) → field_at (pairs m o keys) k ≡ cond (has same_key k keys) (Some (found_value (cell_value m o k))) None
found_among m o [] k = refl
found_among m o (x ∷ xs) k = elim (same_key x k) as (λ b. same_key x k ≡ b → cond b (Some (found_value (cell_value m o x))) (field_at (pairs m o xs) k) ≡ cond (same_key k x || has same_key k xs) (Some (found_value (cell_value m o k))) None) [
  | true ↦ λ t. let e = same_key_is x k t in
      ap (λ u. Some (found_value (cell_value m o u))) e ∙ sym (ap (λ b. cond (b || has same_key k xs) (Some (found_value (cell_value m o k))) None) (ap (same_key k) e ∙ same_key_itself k))
  | false ↦ λ n. found_among m o xs k ∙ sym (ap (λ b. cond (b || has same_key k xs) (Some (found_value (cell_value m o k))) None) (flipped same_key Decides-same_key x k n))
] refl

-- the value of a key is the one among the pairs
pub field_found : (m : CellsAt) (o : ObjId) (ends : FieldEnds) (keys : List Key) → IsFieldList m o ends keys → (k : Key) → field_at (pairs m o keys) k ≡ cell_value m o k
field_found m o ends keys old k = found_among m o keys k ∙ ap (λ b. cond b (Some (found_value (cell_value m o k))) None) (old.list.members k) ∙ read (m o k) where
  read : (c : Option Cell) → cond (is_some c) (Some (found_value (option_map (λ (x : Cell). x.value) c))) None ≡ option_map (λ (x : Cell). x.value) c
  read None = refl
  read (Some c) = refl

-- ---- after a call

pub pairs_same : (m n : CellsAt) (o : ObjId) (keys : List Key) → ((k : Key) → n o k ≡ m o k) → pairs n o keys ≡ pairs m o keys
pairs_same m n o [] same = refl
pairs_same m n o (x ∷ xs) same = (λ i. (x, found_value (option_map (λ (c : Cell). c.value) (same x i))) ∷ pairs_same m n o xs same i)

module _ (m n : CellsAt) (o : ObjId) (key : Key) where
  -- keys other than the one that changes keep their values
  pub pairs_apart : (v : Option Value) → OnlyValueAt m n o key v → (keys : List Key) → Lacks same_key key keys → pairs n o keys ≡ pairs m o keys
  pairs_apart v step [] l = refl
  pairs_apart v step (x ∷ xs) l =
      let e : cell_value n o x ≡ cell_value m o x = step x ∙ ap (λ b. cond b v (cell_value m o x)) l.0 in
      λ i. (x, found_value (e i)) ∷ pairs_apart v step xs l.1 i

  -- a new field comes last
  pub pairs_pushed : (v : Value) → OnlyValueAt m n o key (Some v) → (keys : List Key) → Lacks same_key key keys → pairs n o (keys ++ key ∷ []) ≡ put_field (pairs m o keys) key v
  pairs_pushed v step [] l =
      let e : cell_value n o key ≡ Some v = step key ∙ ap (λ b. cond b (Some v) (cell_value m o key)) (same_key_itself key) in
      λ i. (key, found_value (e i)) ∷ []
  pairs_pushed v step (x ∷ xs) l =
      let e : cell_value n o x ≡ cell_value m o x = step x ∙ ap (λ b. cond b (Some v) (cell_value m o x)) l.0 in
      (λ i. (x, found_value (e i)) ∷ pairs_pushed v step xs l.1 i)
      ∙ sym (ap (λ b. cond b ((key, v) ∷ pairs m o xs) (paired m o x ∷ put_field (pairs m o xs) key v)) (flipped same_key Decides-same_key key x l.0))

  -- a field that is there keeps its place
  pub pairs_replaced : (v : Value) → OnlyValueAt m n o key (Some v) → (keys : List Key) → NodesDiffer same_key keys → has same_key key keys ≡ true → pairs n o keys ≡ put_field (pairs m o keys) key v
  pairs_replaced v step [] d h = cc
  pairs_replaced v step (x ∷ xs) d h = elim (same_key key x) as (λ b. same_key key x ≡ b → (b || has same_key key xs) ≡ true → pairs n o (x ∷ xs) ≡ put_field (pairs m o (x ∷ xs)) key v) [
    | true ↦ λ t _. let p = same_key_is key x t in
        let e : cell_value n o x ≡ Some v = step x ∙ ap (λ b. cond b (Some v) (cell_value m o x)) t in
        (λ i. (sym p i, found_value (e i)) ∷ pairs_apart (Some v) step xs (subst (λ u. Lacks same_key u xs) (sym p) d.0) i)
        ∙ sym (ap (λ b. cond b ((key, v) ∷ pairs m o xs) (paired m o x ∷ put_field (pairs m o xs) key v)) (ap (same_key x) p ∙ same_key_itself x))
    | false ↦ λ a k. let e : cell_value n o x ≡ cell_value m o x = step x ∙ ap (λ b. cond b (Some v) (cell_value m o x)) a in
        (λ i. (x, found_value (e i)) ∷ pairs_replaced v step xs d.1 k i)
        ∙ sym (ap (λ b. cond b ((key, v) ∷ pairs m o xs) (paired m o x ∷ put_field (pairs m o xs) key v)) (flipped same_key Decides-same_key key x a))
  ] refl h

  -- a field goes, and later ones close up
  pub pairs_without : OnlyValueAt m n o key None → (keys : List Key) → NodesDiffer same_key keys → pairs n o (without same_key key keys) ≡ drop_field (pairs m o keys) key
  pairs_without step [] d = refl
  pairs_without step (x ∷ xs) d = elim (same_key key x) as (λ b. same_key key x ≡ b → pairs n o (cond (not b) (x ∷ without same_key key xs) (without same_key key xs)) ≡ drop_field (pairs m o (x ∷ xs)) key) [
    | true ↦ λ t. let p = same_key_is key x t in
        let l : Lacks same_key key xs = subst (λ u. Lacks same_key u xs) (sym p) d.0 in
        ap (pairs n o) (without-lacking same_key Decides-same_key key xs l) ∙ pairs_apart None step xs l
        ∙ sym (ap (λ b. cond b (pairs m o xs) (paired m o x ∷ drop_field (pairs m o xs) key)) (ap (same_key x) p ∙ same_key_itself x))
    | false ↦ λ a. let e : cell_value n o x ≡ cell_value m o x = step x ∙ ap (λ b. cond b None (cell_value m o x)) a in
        (λ i. (x, found_value (e i)) ∷ pairs_without step xs d.1 i)
        ∙ sym (ap (λ b. cond b (pairs m o xs) (paired m o x ∷ drop_field (pairs m o xs) key)) (flipped same_key Decides-same_key key x a))
  ] refl

  -- the same of a row whose fields are listed
  pub fields_pushed : (v : Value) (ends : FieldEnds) (keys : List Key) → OnlyValueAt m n o key (Some v) → m o key ≡ None → IsFieldList m o ends keys → pairs n o (keys ++ key ∷ []) ≡ put_field (pairs m o keys) key v
  fields_pushed v ends keys step fresh old = pairs_pushed v step keys (Lacks-from_has same_key Decides-same_key key keys (old.list.members key ∙ ap is_some fresh))

  pub fields_replaced : (v : Value) (ends : FieldEnds) (keys : List Key) → OnlyValueAt m n o key (Some v) → IsSome (m o key) → IsFieldList m o ends keys → pairs n o keys ≡ put_field (pairs m o keys) key v
  fields_replaced v ends keys step there old = pairs_replaced v step keys old.list.differ (old.list.members key ∙ some_is (m o key) there)
    where
      some_is : (c : Option Cell) → IsSome c → is_some c ≡ true
      some_is None s = cc
      some_is (Some c) s = refl

  pub fields_without : (ends : FieldEnds) (keys : List Key) → OnlyValueAt m n o key None → IsFieldList m o ends keys → pairs n o (without same_key key keys) ≡ drop_field (pairs m o keys) key
  fields_without ends keys step old = pairs_without step keys old.list.differ

-- ---- the first pair, and the one after a key

-- each key of the list has a cell
abbrev AllThere : CellsAt → ObjId → List Key → Type 0
AllThere m o keys = (k : Key) → has same_key k keys ≡ true → is_some (m o k) ≡ true

rest_there : (m : CellsAt) (o : ObjId) (x : Key) (xs : List Key) → AllThere m o (x ∷ xs) → AllThere m o xs
rest_there m o x xs all k h = all k (ap (λ b. same_key k x || b) h ∙ or-true (same_key k x))

first_pair : (m : CellsAt) (o : ObjId) (keys : List Key) → AllThere m o keys → pair_of m o (head_or keys None) ≡ head_or (pairs m o keys) None
first_pair m o [] all = refl
first_pair m o (x ∷ xs) all = of_cell (m o x) (all x (ap (λ b. b || has same_key x xs) (same_key_itself x))) where
  of_cell : (c : Option Cell) → is_some c ≡ true → option_map {U = Key × Value} (λ (y : Cell). (x, y.value)) c ≡ Some (x, found_value (option_map (λ (y : Cell). y.value) c))
  of_cell None h = cc
  of_cell (Some c) h = refl

pair_past : (m : CellsAt) (o : ObjId) (k : Key) (keys : List Key) → AllThere m o keys → pair_of m o (after same_key k keys) ≡ field_past (pairs m o keys) k
pair_past m o k [] all = refl
pair_past m o k (x ∷ xs) all = elim (same_key k x) as (λ b. pair_of m o (cond b (head_or xs None) (after same_key k xs)) ≡ cond b (head_or (pairs m o xs) None) (field_past (pairs m o xs) k)) [
  | true ↦ first_pair m o xs (rest_there m o x xs all)
  | false ↦ pair_past m o k xs (rest_there m o x xs all)
]

-- what is found of the first key, and of the one after a key
module _ (m : CellsAt) (o : ObjId) (ends : FieldEnds) (keys : List Key) (list : IsFieldList m o ends keys) where
  all_there : AllThere m o keys
  all_there k h = sym (list.list.members k) ∙ h

  pub first_field_found : pair_of m o ends.first ≡ field_after (pairs m o keys) None
  first_field_found = ap (pair_of m o) list.list.first ∙ first_pair m o keys all_there

  pub field_after_found : (k : Key) → pair_of m o (after same_key k keys) ≡ field_after (pairs m o keys) (Some k)
  field_after_found k = pair_past m o k keys all_there

-- The lists of fields after a cell comes, goes or is written.
use Rattle.std.proofs.Common.{List, None, Option, Some, [], ap, arith, cond, false, is_some, length, refl, subst, suc, sym, true, ℕ, ◌&&◌, ◌||◌, ◌++◌, ◌<◌, ◌≤◌, ◌∙◌, ◌∷◌, ◌≡◌}
use Rattle.std.specs.HashMap.{HashMap, hash_map_len}
use Rattle.std.specs.List.{slice_get}
use Rattle.std.specs.Option.{IsSome, option_map}
use Rattle.std.proofs.lemmas.Option.{slice_get-map}
use Rattle.std.proofs.Math.Bool.{and-false, or-true}
use Rattle.lf_base.specs.declared.ids.ObjId.{ObjId}
use Rattle.lf_base.specs.declared.links.Link.{Link}
use Rattle.lf_base.specs.declared.values.Key.{Key}
use Rattle.lf_base.specs.declared.values.Value.{Value}
use Rattle.lf_base.specs.Links.{Lacks, NodesDiffer, after, has, link, next_from, relinked, to_next, to_prev, unlinked, without}
use Rattle.lf_base.specs.Names.{same_key, same_name}
use Rattle.lf_base.proofs.ListLemmas.LinkedLists.{IsList-after, IsList-after_none, IsList-pushed, IsList-same, IsList-unlinked, IsRest, IsRest-dropped, has-at, length-without, length_push, relinked-agree}
use Rattle.lf_base.proofs.NameLemmas.SameNames.{same_key_is, same_key_itself, same_name_itself}
use Rattle.lf_graph.specs.declared.cells.Cell.{Cell}
use Rattle.lf_graph.specs.declared.cells.FieldEnds.{FieldEnds}
use Rattle.lf_graph.specs.declared.cells.FieldName.{FieldName}
use Rattle.lf_graph.specs.Cells.{CellsAt, DropsCell, IsFieldList, OnlyCellAt, OnlyValueAt, OthersStay, RelinksField, cell_value, field_ends_with, field_ends_without, field_name, found_value, has_cell, link_of, paired, pairs, same_field, with_link, with_value}
use Rattle.lf_graph.proofs.FieldTable.CellMaps.{Decides-same_field, Decides-same_key, held}
use Rattle.lf_graph.proofs.ListLemmas.{cond_same, few_keys}

-- ---- what one change says of a row

module _ {X : Type 0} (m n : CellsAt) (o : ObjId) (key : Key) (f : Option Cell → Option Cell) (step : OnlyCellAt m n o key f) where
  only_here : (h : Option Cell → X) (k : Key) → h (n o k) ≡ cond (same_key key k) (h (f (m o k))) (h (m o k))
  only_here h k = ap h (step o k) ∙ ap (λ b. h (cond (b && same_key key k) (f (m o k)) (m o k))) (same_name_itself o)
      ∙ elim (same_key key k) as (λ b. h (cond b (f (m o k)) (m o k)) ≡ cond b (h (f (m o k))) (h (m o k))) [
        | true ↦ refl
        | false ↦ refl
      ]

pub only_others : (m n : CellsAt) (o : ObjId) (key : Key) (f : Option Cell → Option Cell) → OnlyCellAt m n o key f → OthersStay m n o
only_others m n o key f step q k apart = step q k ∙ ap (λ b. cond (b && same_key key k) (f (m q k)) (m q k)) apart

linked_link : (f : Link Key → Link Key) (c : Option Cell) → option_map (λ (x : Cell). x.link) (option_map (with_link f) c) ≡ option_map f (option_map (λ (x : Cell). x.link) c)
linked_link f None = refl
linked_link f (Some c) = refl

linked_value : (f : Link Key → Link Key) (c : Option Cell) → option_map (λ (x : Cell). x.value) (option_map (with_link f) c) ≡ option_map (λ (x : Cell). x.value) c
linked_value f None = refl
linked_value f (Some c) = refl

linked_some : (f : Link Key → Link Key) (c : Option Cell) → is_some (option_map (with_link f) c) ≡ is_some c
linked_some f None = refl
linked_some f (Some c) = refl

module _ (m n : CellsAt) (o : ObjId) (f : Link Key → Link Key) where
  relinked_link : (at : Option Key) → RelinksField m n o at f → (k : Key) → link_of n o k ≡ relinked same_key (link_of m o) at f k
  relinked_link None step k = ap (option_map (λ (x : Cell). x.link)) (step o k)
  relinked_link (Some key) step k = only_here m n o key (option_map (with_link f)) step (option_map (λ (x : Cell). x.link)) k ∙ ap (λ t. cond (same_key key k) t (link_of m o k)) (linked_link f (m o k))

  relinked_value : (at : Option Key) → RelinksField m n o at f → (k : Key) → cell_value n o k ≡ cell_value m o k
  relinked_value None step k = ap (option_map (λ (x : Cell). x.value)) (step o k)
  relinked_value (Some key) step k =
      only_here m n o key (option_map (with_link f)) step (option_map (λ (x : Cell). x.value)) k ∙ ap (λ t. cond (same_key key k) t (cell_value m o k)) (linked_value f (m o k)) ∙ cond_same (same_key key k) (cell_value m o k)

  relinked_some : (at : Option Key) → RelinksField m n o at f → (k : Key) → has_cell n o k ≡ has_cell m o k
  relinked_some None step k = ap is_some (step o k)
  relinked_some (Some key) step k =
      only_here m n o key (option_map (with_link f)) step is_some k ∙ ap (λ t. cond (same_key key k) t (has_cell m o k)) (linked_some f (m o k)) ∙ cond_same (same_key key k) (has_cell m o k)

-- ---- a row whose cells stay

-- a row's fields are listed alike where its cells are as before
pub IsFieldList-same : (m n : CellsAt) (o : ObjId) (ends : FieldEnds) (keys : List Key) → ((k : Key) → n o k ≡ m o k) → IsFieldList m o ends keys → IsFieldList n o ends keys
IsFieldList-same m n o ends keys same old = record {
  list = IsList-same same_key Decides-same_key (link_of m o) (link_of n o) ends.first ends.last (has_cell m o) (has_cell n o) keys (λ k. ap (option_map (λ (x : Cell). x.link)) (same k)) (λ k. ap is_some (same k)) old.list;
  width = old.width;
}

-- ---- a value is replaced

pub cell_not_none : (x : Option Cell) → x ≡ None → IsSome x → ⊥
cell_not_none None e s = cc
cell_not_none (Some c) e s = cc

valued_link : (v : Value) (c : Option Cell) → option_map (λ (x : Cell). x.link) (option_map (with_value v) c) ≡ option_map (λ (x : Cell). x.link) c
valued_link v None = refl
valued_link v (Some c) = refl

valued_some : (v : Value) (c : Option Cell) → is_some (option_map (with_value v) c) ≡ is_some c
valued_some v None = refl
valued_some v (Some c) = refl

valued_value : (v : Value) (c : Option Cell) → IsSome c → option_map (λ (x : Cell). x.value) (option_map (with_value v) c) ≡ Some v
valued_value v None s = cc
valued_value v (Some c) s = refl

module _ (m n : CellsAt) (o : ObjId) (key : Key) (v : Value) (there : IsSome (m o key)) (step : OnlyCellAt m n o key (option_map (with_value v))) where
  pub valued_list : (ends : FieldEnds) (keys : List Key) → IsFieldList m o ends keys → IsFieldList n o ends keys
  valued_list ends keys old = record {
    list = IsList-same same_key Decides-same_key (link_of m o) (link_of n o) ends.first ends.last (has_cell m o) (has_cell n o) keys
        (λ k. only_here m n o key (option_map (with_value v)) step (option_map (λ (x : Cell). x.link)) k ∙ ap (λ t. cond (same_key key k) t (link_of m o k)) (valued_link v (m o k)) ∙ cond_same (same_key key k) (link_of m o k))
        (λ k. only_here m n o key (option_map (with_value v)) step is_some k ∙ ap (λ t. cond (same_key key k) t (has_cell m o k)) (valued_some v (m o k)) ∙ cond_same (same_key key k) (has_cell m o k))
        old.list;
    width = old.width;
  }

  pub valued_value_at : OnlyValueAt m n o key (Some v)
  valued_value_at k = only_here m n o key (option_map (with_value v)) step (option_map (λ (x : Cell). x.value)) k
      ∙ (elim (same_key key k) as (λ b. same_key key k ≡ b → cond b (option_map (λ (x : Cell). x.value) (option_map (with_value v) (m o k))) (cell_value m o k) ≡ cond b (Some v) (cell_value m o k)) [
        | true ↦ λ t. valued_value v (m o k) (subst (λ u. IsSome (m o u)) (same_key_is key k t) there)
        | false ↦ λ _. refl
      ] refl)

-- ---- a field comes last

module _ (m n1 n : CellsAt) (o : ObjId) (ends : FieldEnds) (key : Key) (v : Value)
    (fresh : m o key ≡ None)
    (one : RelinksField m n1 o ends.last (to_next (Some key)))
    (two : OnlyCellAt n1 n o key (λ _. Some (record { value = v; link = link ends.last None }))) where
  abbrev new_cell : Option Cell
  new_cell = Some (record { value = v; link = link ends.last None })

  pub pushed_value : OnlyValueAt m n o key (Some v)
  pushed_value k = only_here n1 n o key (λ _. new_cell) two (option_map (λ (x : Cell). x.value)) k ∙ ap (λ t. cond (same_key key k) (Some v) t) (relinked_value m n1 o (to_next (Some key)) ends.last one k)

  pushed_link : (k : Key) → link_of n o k ≡ cond (same_key key k) (Some (link ends.last None)) (relinked same_key (link_of m o) ends.last (to_next (Some key)) k)
  pushed_link k = only_here n1 n o key (λ _. new_cell) two (option_map (λ (x : Cell). x.link)) k ∙ ap (λ t. cond (same_key key k) (Some (link ends.last None)) t) (relinked_link m n1 o (to_next (Some key)) ends.last one k)

  pushed_some : (k : Key) → has_cell n o k ≡ cond (same_key key k) true (has_cell m o k)
  pushed_some k = only_here n1 n o key (λ _. new_cell) two is_some k ∙ ap (λ t. cond (same_key key k) true t) (relinked_some m n1 o (to_next (Some key)) ends.last one k)

  pub pushed_list : (keys : List Key) → IsFieldList m o ends keys → IsFieldList n o (field_ends_with key ends) (keys ++ key ∷ [])
  pushed_list keys old = record {
    list = IsList-pushed same_key Decides-same_key (link_of m o) (link_of n o) ends.first ends.last (has_cell m o) (has_cell n o) keys key (ap is_some fresh)
        (pushed_link key ∙ ap (λ b. cond b (Some (link ends.last None)) (relinked same_key (link_of m o) ends.last (to_next (Some key)) key)) (same_key_itself key))
        (λ k apart. pushed_link k ∙ ap (λ b. cond b (Some (link ends.last None)) (relinked same_key (link_of m o) ends.last (to_next (Some key)) k)) apart)
        pushed_some old.list;
    width = let w = old.width in let l = length_push keys key in omega arith;
  }

-- ---- a field goes

module _ (m m1 m2 n : CellsAt) (o : ObjId) (ends : FieldEnds) (key : Key) (c : Cell)
    (is : m o key ≡ Some c)
    (gone : OnlyCellAt m m1 o key (λ _. None))
    (one : RelinksField m1 m2 o c.link.prev (to_next c.link.next))
    (two : RelinksField m2 n o c.link.next (to_prev c.link.prev)) where
  abbrev prev : Option Key
  prev = c.link.prev

  abbrev next : Option Key
  next = c.link.next

  pub unlinked_value : OnlyValueAt m n o key None
  unlinked_value k =
      relinked_value m2 n o (to_prev prev) next two k ∙ relinked_value m1 m2 o (to_next next) prev one k ∙ only_here m m1 o key (λ _. None) gone (option_map (λ (x : Cell). x.value)) k

  unlinked_some : (k : Key) → has_cell n o k ≡ cond (same_key key k) false (has_cell m o k)
  unlinked_some k = relinked_some m2 n o (to_prev prev) next two k ∙ relinked_some m1 m2 o (to_next next) prev one k ∙ only_here m m1 o key (λ _. None) gone is_some k

  unlinked_link : (k : Key) → same_key key k ≡ false → link_of n o k ≡ unlinked same_key (link_of m o) prev next k
  unlinked_link k apart =
      let a : link_of m1 o k ≡ link_of m o k = only_here m m1 o key (λ _. None) gone (option_map (λ (x : Cell). x.link)) k ∙ ap (λ b. cond b None (link_of m o k)) apart in
      let b : link_of m2 o k ≡ relinked same_key (link_of m o) prev (to_next next) k = relinked_link m1 m2 o (to_next next) prev one k ∙ relinked-agree same_key Decides-same_key (link_of m1 o) (link_of m o) prev (to_next next) k a in
      relinked_link m2 n o (to_prev prev) next two k ∙ relinked-agree same_key Decides-same_key (link_of m2 o) (relinked same_key (link_of m o) prev (to_next next)) next (to_prev prev) k b

  pub unlinked_list : (keys : List Key) → IsFieldList m o ends keys → IsFieldList n o (field_ends_without c.link ends) (without same_key key keys)
  unlinked_list keys old = record {
    list = IsList-unlinked same_key Decides-same_key (link_of m o) (link_of n o) ends.first ends.last (has_cell m o) (has_cell n o) keys key c.link (ap is_some is) (ap (option_map (λ (x : Cell). x.link)) is)
        unlinked_link unlinked_some old.list;
    width = let w = old.width in let l = length-without same_key Decides-same_key key keys old.list.differ (old.list.members key ∙ ap is_some is) in omega arith;
  }

-- ---- what comes after a key

pub next_key : (m : CellsAt) (o : ObjId) (ends : FieldEnds) (keys : List Key) (key : Key) (c : Cell) → IsFieldList m o ends keys → m o key ≡ Some c → c.link.next ≡ after same_key key keys
next_key m o ends keys key c old is = IsList-after same_key Decides-same_key (link_of m o) ends.first ends.last (has_cell m o) keys key c.link (ap is_some is) (ap (option_map (λ (x : Cell). x.link)) is) old.list

pub no_next_key : (m : CellsAt) (o : ObjId) (ends : FieldEnds) (keys : List Key) (key : Key) → IsFieldList m o ends keys → m o key ≡ None → None ≡ after same_key key keys
no_next_key m o ends keys key old gone = sym (IsList-after_none same_key Decides-same_key (link_of m o) ends.first ends.last (has_cell m o) keys key (ap is_some gone) old.list)

-- ---- the field at a place

pub no_key_at : (m : CellsAt) (o : ObjId) (ends : FieldEnds) (keys : List Key) (i : ℕ) (key : Key) → IsFieldList m o ends keys → slice_get keys i ≡ Some key → m o key ≡ None → ⊥
no_key_at m o ends keys i key old at gone =
    let there = has-at same_key Decides-same_key keys i key at in
    let absent : has same_key key keys ≡ false = old.list.members key ∙ ap is_some gone in
    cc

abbrev found_pair : Key → Option Cell → Option (Key × Value)
found_pair key c = Some (key, found_value (option_map (λ (x : Cell). x.value) c))

pub pair_at : (m : CellsAt) (o : ObjId) (keys : List Key) (i : ℕ) (key : Key) (c : Cell) → slice_get keys i ≡ Some key → m o key ≡ Some c → Some (key, c.value) ≡ slice_get (pairs m o keys) i
pair_at m o keys i key c at is = ap (found_pair key) (sym is) ∙ sym (ap (option_map (paired m o)) at) ∙ sym (slice_get-map (paired m o) keys i)

-- ---- the first field of what is left goes

pub drops_others : (m n : CellsAt) (o : ObjId) (first : Option Key) → DropsCell m n o first → OthersStay m n o
drops_others m n o None step q k apart = step q k
drops_others m n o (Some key) step q k apart = only_others m n o key (λ _. None) step q k apart

abbrev pub FieldsLeft : CellsAt → ObjId → Option Key → List Key → Type 0
FieldsLeft m o first rest = IsRest same_key Decides-same_key (link_of m o) first (has_cell m o) rest

pub record OneFewer (n : CellsAt) (o : ObjId) (first : Option Key) (count : ℕ) : Type 0 where
  pub rest : List Key
  pub fewer : count ≡ suc (length rest)
  pub left : FieldsLeft n o first rest

pub one_field_dropped : (m n : CellsAt) (o : ObjId) (first : Option Key) (rest : List Key) → 0 < length rest → DropsCell m n o first → FieldsLeft m o first rest
    → OneFewer n o (next_from (link_of m o) first) (length rest)
one_field_dropped m n o first [] some step old = absurd (omega arith)
one_field_dropped m n o first (x ∷ xs) some step old =
    let drop : OnlyCellAt m n o x (λ _. None) = subst (DropsCell m n o) old.first step in
    record {
      rest = xs;
      fewer = refl;
      left = IsRest-dropped same_key Decides-same_key (link_of m o) (link_of n o) first (has_cell m o) (has_cell n o) x xs
          (λ k apart. only_here m n o x (λ _. None) drop (option_map (λ (c : Cell). c.link)) k ∙ ap (λ b. cond b None (link_of m o k)) apart)
          (λ k. only_here m n o x (λ _. None) drop is_some k) old;
    }

-- ---- a row has no more fields than the table has cells

abbrev field_names : ObjId → List Key → List FieldName
field_names o [] = []
field_names o (k ∷ ks) = field_name o k ∷ field_names o ks

length_names : (o : ObjId) (keys : List Key) → length (field_names o keys) ≡ length keys
length_names o [] = refl
length_names o (k ∷ ks) = ap suc (length_names o ks)

field_names_apart : (o : ObjId) (x : Key) (keys : List Key) → Lacks same_key x keys → Lacks same_field (field_name o x) (field_names o keys)
field_names_apart o x [] l = tt
field_names_apart o x (y ∷ ys) l = (ap (λ b. same_name o o && b) l.0 ∙ and-false (same_name o o), field_names_apart o x ys l.1)

names_differ : (o : ObjId) (keys : List Key) → NodesDiffer same_key keys → NodesDiffer same_field (field_names o keys)
names_differ o [] d = tt
names_differ o (x ∷ xs) d = (field_names_apart o x xs d.0, names_differ o xs d.1)

-- a name in the list is of the row, and of one of the keys
record IsNamed (o : ObjId) (keys : List Key) (q : FieldName) : Type 0 where
  row : o ≡ q.row
  key : has same_key q.key keys ≡ true

named : (o : ObjId) (keys : List Key) (q : FieldName) → has same_field q (field_names o keys) ≡ true → IsNamed o keys q
named o [] q h = cc
named o (k ∷ ks) q h = elim (same_field q (field_name o k)) as (λ b. same_field q (field_name o k) ≡ b → (b || has same_field q (field_names o ks)) ≡ true → IsNamed o (k ∷ ks) q) [
  | true ↦ λ t _. let e = (Decides-same_field q (field_name o k)).0 t in
      record { row = sym (ap (λ (x : FieldName). x.row) e); key = ap (λ u. same_key u k || has same_key u ks) (ap (λ (x : FieldName). x.key) e) ∙ ap (λ b. b || has same_key k ks) (same_key_itself k) }
  | false ↦ λ _ r. let more = named o ks q r in record { row = more.row; key = ap (λ b. same_key q.key k || b) more.key ∙ or-true (same_key q.key k) }
] refl h

some_is : (x : Option Cell) → is_some x ≡ true → IsSome x
some_is None e = cc
some_is (Some c) e = refl

pub few_fields : {S : Type 0} (m : HashMap FieldName Cell S) (o : ObjId) (ends : FieldEnds) (keys : List Key) → IsFieldList (held m) o ends keys → ends.width ≤ hash_map_len m
few_fields m o ends keys old =
    let l : length (field_names o keys) ≤ hash_map_len m = few_keys same_field Decides-same_field m.entries (field_names o keys) (names_differ o keys old.list.differ) (λ q h.
    let at = named o keys q h in
    some_is (held m q.row q.key) (ap (λ u. is_some (held m u q.key)) (sym at.row) ∙ sym (old.list.members q.key) ∙ at.key)) in
    let w = old.width in
    let e = length_names o keys in
    omega arith

-- a cell without a value is none, and one that is found is there
pub no_cell : (c : Option Cell) → option_map (λ (x : Cell). x.value) c ≡ None → c ≡ None
no_cell None e = refl
no_cell (Some c) e = cc

pub is_cell : (t : Option Cell) (c : Cell) → t ≡ Some c → IsSome t
is_cell t c e = subst IsSome (sym e) refl

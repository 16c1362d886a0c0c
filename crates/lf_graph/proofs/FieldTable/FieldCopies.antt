-- Fields copied out of a row and put into one, one after the other.
use Rattle.std.proofs.Common.{List, None, Option, Some, [], ap, arith, cond, false, is_some, length, map, refl, slice_get, subst, sym, take, true, ℕ, suc, zero, ◌+◌, ◌<◌, ◌++◌, ◌∙◌, ◌∷◌, ◌≡◌}
use Rattle.std.specs.Option.{option_map}
use Rattle.std.proofs.lemmas.List.{map-append}
use Rattle.lf_base.specs.declared.ids.ObjId.{ObjId}
use Rattle.lf_base.specs.declared.values.Key.{Key}
use Rattle.lf_base.specs.declared.values.Value.{Value}
use Rattle.lf_base.specs.Links.{Lacks, NodesDiffer, next_from}
use Rattle.lf_base.specs.Names.{same_key}
use Rattle.lf_base.proofs.ListLemmas.LinkedLists.{IsList-step, flipped, has-at, has-from_Lacks}
use Rattle.lf_base.proofs.NameLemmas.SameNames.{same_key_itself}
use Rattle.lf_graph.specs.declared.cells.Cell.{Cell}
use Rattle.lf_graph.specs.declared.cells.FieldEnds.{FieldEnds}
use Rattle.lf_graph.specs.Cells.{CellsAt, CopiesField, IsFieldList, OnlyValueAt, OthersStay, cell_value, found_value, has_cell, link_of, paired, pairs}
use Rattle.lf_graph.proofs.FieldTable.CellLists.{pair_at}
use Rattle.lf_graph.proofs.FieldTable.CellMaps.{Decides-same_key}
use Rattle.lf_graph.proofs.FieldTable.FieldPairs.{pairs_apart}
use Rattle.lf_graph.proofs.ListLemmas.{take_next}

record ItemFound {X : Type 0} (o : Option X) : Type 0 where
  pub it : X
  pub it_is : o ≡ Some it

get_there : {X : Type 0} (xs : List X) (i : ℕ) → i < length xs → ItemFound (slice_get xs i)
get_there [] i l = absurd (omega arith)
get_there (x ∷ xs) zero l = record { it = x; it_is = refl }
get_there (x ∷ xs) (suc i) l = get_there xs i (omega arith)

is_found : {X : Type 0} (o : Option X) → is_some o ≡ true → ItemFound o
is_found None e = cc
is_found (Some x) e = record { it = x; it_is = refl }

-- ---- out of a row
module _ (m : CellsAt) (o : ObjId) (ends : FieldEnds) (keys : List Key) (list : IsFieldList m o ends keys) where
  pub one_field_copied : (i : ℕ) (old new : List (Key × Value)) (at next : Option Key) → i < length keys → CopiesField m o at old new next → old ≡ take i (pairs m o keys) → at ≡ slice_get keys i
      → (new ≡ take (i + 1) (pairs m o keys)) × (next ≡ slice_get keys (i + 1))
  one_field_copied i old new at next l copies was here =
      let k = get_there keys i l in
      let c = is_found (m o k.it) (sym (list.list.members k.it) ∙ has-at same_key Decides-same_key keys i k.it k.it_is) in
      let made = copies k.it c.it (here ∙ k.it_is) c.it_is in (
        made.0 ∙ ap (λ f. f ++ (k.it, c.it.value) ∷ []) was ∙ sym (take_next (pairs m o keys) i (k.it, c.it.value) (sym (pair_at m o keys i k.it c.it k.it_is c.it_is))),
        made.1 ∙ next_is k.it c.it c.it_is ∙ ap (next_from (link_of m o)) (sym k.it_is) ∙ sym (IsList-step same_key Decides-same_key (link_of m o) ends.first ends.last (has_cell m o) keys i list.list),
      )
    where
      next_is : (k : Key) (c : Cell) → m o k ≡ Some c → c.link.next ≡ next_from (link_of m o) (Some k)
      next_is k c e = sym (ap (λ t. next_from (λ _. option_map (λ (x : Cell). x.link) t) (Some k)) e)

-- ---- into a row
abbrev pub keys_of : List (Key × Value) → List Key
keys_of fields = map (λ f. f.0) fields

-- the first fields were put, so many of them
pub record FieldsPut (old now : CellsAt) (o : ObjId) (ends : FieldEnds) (fields : List (Key × Value)) (i : ℕ) : Type 0 where
  pub list : IsFieldList now o ends (keys_of (take i fields))
  pub values : pairs now o (keys_of (take i fields)) ≡ take i fields
  pub others : OthersStay old now o

lacks_found : (x : Key) (fields : List (Key × Value)) (i : ℕ) (f : Key × Value) → Lacks same_key x (keys_of fields) → slice_get fields i ≡ Some f → same_key x f.0 ≡ false
lacks_found x [] i f l e = cc
lacks_found x (g ∷ gs) zero f l e = let same : g ≡ f = cc in ap (λ (t : Key × Value). same_key x t.0) (sym same) ∙ l.0
lacks_found x (g ∷ gs) (suc i) f l e = lacks_found x gs i f l.1 e

-- a key isn't among those before it
pub new_key : (fields : List (Key × Value)) (i : ℕ) (f : Key × Value) → NodesDiffer same_key (keys_of fields) → slice_get fields i ≡ Some f → Lacks same_key f.0 (keys_of (take i fields))
new_key [] i f d e = cc
new_key (g ∷ gs) zero f d e = tt
new_key (g ∷ gs) (suc i) f d e = (flipped same_key Decides-same_key g.0 f.0 (lacks_found g.0 gs i f d.0 e), new_key gs i f d.1 e)

module _ (old now new : CellsAt) (o : ObjId) (ends after : FieldEnds) (fields : List (Key × Value)) (i : ℕ) (f : Key × Value) (here : slice_get fields i ≡ Some f) (differ : NodesDiffer same_key (keys_of fields)) (puts : FieldsPut old now o ends fields i) where
  lacks : Lacks same_key f.0 (keys_of (take i fields))
  lacks = new_key fields i f differ here

  pub fresh : now o f.0 ≡ None
  fresh = none_from (now o f.0) (sym (puts.list.list.members f.0) ∙ has-from_Lacks same_key Decides-same_key f.0 (keys_of (take i fields)) lacks) where
    none_from : (c : Option Cell) → is_some c ≡ false → c ≡ None
    none_from None e = refl
    none_from (Some c) e = cc

  module _ (list : IsFieldList new o after (keys_of (take i fields) ++ f.0 ∷ [])) (value : OnlyValueAt now new o f.0 (Some f.1)) (others : OthersStay now new o) where
    keys_after : keys_of (take (i + 1) fields) ≡ keys_of (take i fields) ++ f.0 ∷ []
    keys_after = ap keys_of (take_next fields i f here) ∙ map-append (λ (x : Key × Value). x.0) (take i fields) (f ∷ [])

    pair_here : paired new o f.0 ≡ f
    pair_here = ap (λ v. (f.0, found_value v)) (value f.0 ∙ ap (λ b. cond b (Some f.1) (cell_value now o f.0)) (same_key_itself f.0))

    pub one_field_put : FieldsPut old new o after fields (i + 1)
    one_field_put = record {
      list = subst (IsFieldList new o after) (sym keys_after) list;
      values = ap (pairs new o) keys_after ∙ map-append (paired new o) (keys_of (take i fields)) (f.0 ∷ [])
          ∙ (λ j. (pairs_apart now new o f.0 (Some f.1) value (keys_of (take i fields)) lacks ∙ puts.values) j ++ pair_here j ∷ [])
          ∙ sym (take_next fields i f here);
      others = λ q k n. others q k n ∙ puts.others q k n;
    }

-- none was put yet
pub no_field_put : (old : CellsAt) (o : ObjId) (ends : FieldEnds) (fields : List (Key × Value)) → IsFieldList old o ends [] → FieldsPut old old o ends fields 0
no_field_put old o ends fields list = record { list = subst (λ f. IsFieldList old o ends (keys_of f)) (sym (nothing fields)) list; values = ap (λ f. pairs old o (keys_of f)) (nothing fields) ∙ sym (nothing fields); others = λ q k n. refl } where
  nothing : (xs : List (Key × Value)) → take 0 xs ≡ []
  nothing [] = refl
  nothing (x ∷ xs) = refl

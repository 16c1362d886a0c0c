-- The same rows under each owner are the same rows in another order.
use Rattle.std.proofs.Common.{List, Option, Some, [], ap, cond, false, map, refl, subst, sym, true, ◌++◌, ◌||◌, ◌∙◌, ◌∷◌, ◌≡◌}
use Rattle.std.proofs.lemmas.List.Elements.{filter-append}
use Rattle.std.proofs.lemmas.Bool.{or_parts}
use Rattle.std.proofs.Math.Bool.{or_assoc, or_comm}
use Rattle.lf_base.specs.declared.ids.ObjId.{ObjId}
use Rattle.lf_base.specs.declared.values.Owner.{Owner}
use Rattle.lf_base.specs.declared.values.Owner.TheVariants.{Frozen, In, Local}
use Rattle.lf_base.specs.Names.{name_below, same_name, same_owner}
use Rattle.lf_base.specs.Owners.{has_name, names}
use Rattle.lf_base.specs.PlainChanges.{insert_row}
use Rattle.lf_base.specs.PlainState.{Row}
use Rattle.lf_base.proofs.NameLemmas.NameOrder.{below_asym, name_below_trans, other_below}
use Rattle.lf_base.proofs.NameLemmas.SameNames.{other_way, same_name_is, same_name_itself}
use Rattle.lf_graph.specs.StoredRows.{CountedRow, NamesDiffer, SameByOwner, is_named, is_under, plain, row_named, rows_by_name, rows_of}

-- the same items in another order
pub data Reordered {X : Type 0} : List X → List X → Type 0 where
  none : Reordered [] []
  skip : {x : X} {xs ys : List X} → Reordered xs ys → Reordered (x ∷ xs) (x ∷ ys)
  swap : {x y : X} {xs : List X} → Reordered (x ∷ (y ∷ xs)) (y ∷ (x ∷ xs))
  then : {xs ys zs : List X} → Reordered xs ys → Reordered ys zs → Reordered xs zs

pub as_before : {X : Type 0} (xs : List X) → Reordered xs xs
as_before [] = none
as_before (x ∷ xs) = skip (as_before xs)

pub to_middle : {X : Type 0} (x : X) (us vs : List X) → Reordered (x ∷ (us ++ vs)) (us ++ (x ∷ vs))
to_middle x [] vs = as_before (x ∷ vs)
to_middle x (u ∷ us) vs = then swap (skip (to_middle x us vs))

pub reordered_map : {X Y : Type 0} (f : X → Y) {xs ys : List X} → Reordered xs ys → Reordered (map f xs) (map f ys)
reordered_map f none = none
reordered_map f (skip p) = skip (reordered_map f p)
reordered_map f swap = swap
reordered_map f (then p q) = then (reordered_map f p) (reordered_map f q)

pub turned : {X : Type 0} {xs ys : List X} → Reordered xs ys → Reordered ys xs
turned none = none
turned (skip p) = skip (turned p)
turned swap = swap
turned (then p q) = then (turned q) (turned p)

-- ---- by owner
pub same_owner_itself : (w : Owner) → same_owner w w ≡ true
same_owner_itself Local = refl
same_owner_itself Frozen = refl
same_owner_itself (In r) = same_name_itself r

pub same_owner_is : (v w : Owner) → same_owner v w ≡ true → v ≡ w
same_owner_is Local Local e = refl
same_owner_is Frozen Frozen e = refl
same_owner_is (In r) (In q) e = ap In (same_name_is r q e)
same_owner_is Local Frozen e = cc
same_owner_is Local (In q) e = cc
same_owner_is Frozen Local e = cc
same_owner_is Frozen (In q) e = cc
same_owner_is (In r) Local e = cc
same_owner_is (In r) Frozen e = cc

-- where the first of an owner's rows stands
record FirstOfOwner (w : Owner) (x : CountedRow) (ys zs : List CountedRow) : Type 0 where
  prefix : List CountedRow
  suffix : List CountedRow
  whole : ys ≡ prefix ++ (x ∷ suffix)
  before : rows_of w prefix ≡ []
  rest : rows_of w suffix ≡ zs

first_of_owner : (w : Owner) (x : CountedRow) (ys zs : List CountedRow) → rows_of w ys ≡ x ∷ zs → FirstOfOwner w x ys zs
first_of_owner w x [] zs e = cc
first_of_owner w x (y ∷ ys) zs e =
    elim (is_under w y) as (λ b. is_under w y ≡ b → cond b (y ∷ rows_of w ys) (rows_of w ys) ≡ x ∷ zs → FirstOfOwner w x (y ∷ ys) zs) [
      | true ↦ λ t h. record { prefix = []; suffix = ys; whole = let same : y ≡ x = cc in ap (λ z. z ∷ ys) same; before = refl; rest = cc }
      | false ↦ λ t h. let s = first_of_owner w x ys zs h in
          record { prefix = y ∷ s.prefix; suffix = s.suffix; whole = ap (λ l. y ∷ l) s.whole; before = ap (λ b. cond b (y ∷ rows_of w s.prefix) (rows_of w s.prefix)) t ∙ s.before; rest = s.rest }
    ] refl e

pub rows_append : (w : Owner) (xs ys : List CountedRow) → rows_of w (xs ++ ys) ≡ rows_of w xs ++ rows_of w ys
rows_append w xs ys = filter-append (is_under w) xs ys

own_first : (y : CountedRow) (ys : List CountedRow) → rows_of (y.row).owner (y ∷ ys) ≡ y ∷ rows_of (y.row).owner ys
own_first y ys = ap (λ b. cond b (y ∷ rows_of (y.row).owner ys) (rows_of (y.row).owner ys)) (same_owner_itself (y.row).owner)

-- no rows of any owner: none at all
no_rows : (ys : List CountedRow) → ((w : Owner) → [] ≡ rows_of w ys) → ys ≡ []
no_rows [] h = refl
no_rows (y ∷ ys) h = let e : [] ≡ y ∷ rows_of (y.row).owner ys = h (y.row).owner ∙ own_first y ys in cc

-- taking the same row out of both
less_one : (x : CountedRow) (xs us vs : List CountedRow) → rows_of (x.row).owner us ≡ [] → SameByOwner (x ∷ xs) (us ++ (x ∷ vs)) → SameByOwner xs (us ++ vs)
less_one x xs us vs empty same v =
    elim (is_under v x) as (λ b. is_under v x ≡ b → cond b (x ∷ rows_of v xs) (rows_of v xs) ≡ rows_of v us ++ cond b (x ∷ rows_of v vs) (rows_of v vs) → rows_of v xs ≡ rows_of v us ++ rows_of v vs) [
      | true ↦ λ t h.
          let n : rows_of v us ≡ [] = subst (λ w. rows_of w us ≡ []) (same_owner_is (x.row).owner v t) empty in
          let g : x ∷ rows_of v xs ≡ x ∷ rows_of v vs = h ∙ ap (λ l. l ++ (x ∷ rows_of v vs)) n in
          let k : rows_of v xs ≡ rows_of v vs = cc in
          k ∙ sym (ap (λ l. l ++ rows_of v vs) n)
      | false ↦ λ t h. h
    ] refl (same v ∙ rows_append v us (x ∷ vs)) ∙ sym (rows_append v us vs)

pub reordered_by_owner : (xs ys : List CountedRow) → SameByOwner xs ys → Reordered xs ys
reordered_by_owner [] ys same = subst (λ l. Reordered [] l) (sym (no_rows ys same)) none
reordered_by_owner (x ∷ xs) ys same =
    let f : rows_of (x.row).owner ys ≡ x ∷ rows_of (x.row).owner xs = sym (same (x.row).owner) ∙ own_first x xs in
    let s = first_of_owner (x.row).owner x ys (rows_of (x.row).owner xs) f in
    let g : SameByOwner (x ∷ xs) (s.prefix ++ (x ∷ s.suffix)) = λ w. same w ∙ ap (rows_of w) s.whole in
    subst (λ l. Reordered (x ∷ xs) l) (sym s.whole)
    (then (skip (reordered_by_owner xs (s.prefix ++ s.suffix) (less_one x xs s.prefix s.suffix s.before g))) (to_middle x s.prefix s.suffix))

-- ---- names
pub has_reordered : (o : ObjId) {xs ys : List ObjId} → Reordered xs ys → has_name xs o ≡ has_name ys o
has_reordered o none = refl
has_reordered o (skip {x} p) = ap (λ b. same_name x o || b) (has_reordered o p)
has_reordered o (swap {x} {y} {xs}) =
    sym (or_assoc (same_name x o) (same_name y o) (has_name xs o)) ∙ ap (λ b. b || has_name xs o) (or_comm (same_name x o) (same_name y o)) ∙ or_assoc (same_name y o) (same_name x o) (has_name xs o)
has_reordered o (then p q) = has_reordered o p ∙ has_reordered o q

names_reordered : {xs ys : List CountedRow} → Reordered xs ys → Reordered (names (plain xs)) (names (plain ys))
names_reordered p = reordered_map (λ (r : Row). r.name) (reordered_map (λ (c : CountedRow). c.row) p)

pub differ_reordered : {xs ys : List CountedRow} → Reordered xs ys → NamesDiffer xs → NamesDiffer ys
differ_reordered none d = d
differ_reordered (skip {x} p) d = (sym (has_reordered (x.row).name (names_reordered p)) ∙ d.0, differ_reordered p d.1)
differ_reordered (swap {x} {y} {xs}) d =
    let h = or_parts (same_name (y.row).name (x.row).name) (has_name (names (plain xs)) (x.row).name) d.0 in
    (ap (λ b. b || has_name (names (plain xs)) (y.row).name) (other_way (y.row).name (x.row).name h.0) ∙ d.1.0, (h.1, d.1.1))
differ_reordered (then p q) d = differ_reordered q (differ_reordered p d)

apart_find : (x y : CountedRow) (t : Option CountedRow) (o : ObjId) → same_name (y.row).name (x.row).name ≡ false
    → cond (is_named o x) (Some x) (cond (is_named o y) (Some y) t) ≡ cond (is_named o y) (Some y) (cond (is_named o x) (Some x) t)
apart_find x y t o d =
    elim (is_named o x) as (λ a. is_named o x ≡ a → cond a (Some x) (cond (is_named o y) (Some y) t) ≡ cond (is_named o y) (Some y) (cond a (Some x) t)) [
      | true ↦ λ e.
          let n : same_name (y.row).name o ≡ false = ap (same_name (y.row).name) (sym (same_name_is (x.row).name o e)) ∙ d in
          sym (ap (λ b. cond b (Some y) (Some x)) n)
      | false ↦ λ e. refl
    ] refl

pub found_reordered : (o : ObjId) {xs ys : List CountedRow} → Reordered xs ys → NamesDiffer xs → row_named xs o ≡ row_named ys o
found_reordered o none d = refl
found_reordered o (skip {x} p) d = ap (λ t. cond (is_named o x) (Some x) t) (found_reordered o p d.1)
found_reordered o (swap {x} {y} {xs}) d = apart_find x y (row_named xs o) o (or_parts (same_name (y.row).name (x.row).name) (has_name (names (plain xs)) (x.row).name) d.0).0
found_reordered o (then p q) d = found_reordered o p d ∙ found_reordered o q (differ_reordered p d)

-- ---- by rising name
not_below : (x y q : ObjId) → name_below y q ≡ true → name_below x q ≡ false → name_below x y ≡ false
not_below x y q yq xq =
    elim (name_below x y) as (λ b. name_below x y ≡ b → b ≡ false) [
      | true ↦ λ h. let k : name_below x q ≡ true = name_below_trans x y q h yq in cc
      | false ↦ λ h. refl
    ] refl

insert_swap : (x y : Row) (xs : List Row) → same_name x.name y.name ≡ false → insert_row x (insert_row y xs) ≡ insert_row y (insert_row x xs)
insert_swap x y [] e =
    elim (name_below x.name y.name) as (λ a. name_below x.name y.name ≡ a → cond a (x ∷ (y ∷ [])) (y ∷ (x ∷ [])) ≡ cond (name_below y.name x.name) (y ∷ (x ∷ [])) (x ∷ (y ∷ []))) [
      | true ↦ λ h. ap (λ b. cond b (y ∷ (x ∷ [])) (x ∷ (y ∷ []))) (sym (below_asym x.name y.name h))
      | false ↦ λ h. ap (λ b. cond b (y ∷ (x ∷ [])) (x ∷ (y ∷ []))) (sym (other_below x.name y.name h e))
    ] refl
insert_swap x y (q ∷ xs) e =
    elim (name_below y.name q.name) as (λ b. name_below y.name q.name ≡ b → insert_row x (cond b (y ∷ (q ∷ xs)) (q ∷ insert_row y xs)) ≡ insert_row y (insert_row x (q ∷ xs))) [
      | true ↦ λ yq. elim (name_below x.name q.name) as (λ a. name_below x.name q.name ≡ a → cond (name_below x.name y.name) (x ∷ (y ∷ (q ∷ xs))) (y ∷ cond a (x ∷ (q ∷ xs)) (q ∷ insert_row x xs)) ≡ insert_row y (cond a (x ∷ (q ∷ xs)) (q ∷ insert_row x xs))) [
        | true ↦ λ xq. elim (name_below x.name y.name) as (λ a. name_below x.name y.name ≡ a → cond a (x ∷ (y ∷ (q ∷ xs))) (y ∷ (x ∷ (q ∷ xs))) ≡ cond (name_below y.name x.name) (y ∷ (x ∷ (q ∷ xs))) (x ∷ cond (name_below y.name q.name) (y ∷ (q ∷ xs)) (q ∷ insert_row y xs))) [
          | true ↦ λ h. let g : name_below y.name x.name ≡ false = below_asym x.name y.name h in simp (g, yq)
          | false ↦ λ h. let g : name_below y.name x.name ≡ true = other_below x.name y.name h e in simp (g, yq)
        ] refl
        | false ↦ λ xq. let h : name_below x.name y.name ≡ false = not_below x.name y.name q.name yq xq in simp (h, yq)
      ] refl
      | false ↦ λ yq. elim (name_below x.name q.name) as (λ a. name_below x.name q.name ≡ a → cond a (x ∷ (q ∷ insert_row y xs)) (q ∷ insert_row x (insert_row y xs)) ≡ insert_row y (cond a (x ∷ (q ∷ xs)) (q ∷ insert_row x xs))) [
        | true ↦ λ xq. let h : name_below y.name x.name ≡ false = not_below y.name x.name q.name xq yq in simp (h, yq)
        | false ↦ λ xq. ap (λ l. q ∷ l) (insert_swap x y xs e) ∙ sym (ap (λ b. cond b (y ∷ (q ∷ insert_row x xs)) (q ∷ insert_row y (insert_row x xs))) yq)
      ] refl
    ] refl

pub in_order_reordered : {xs ys : List CountedRow} → Reordered xs ys → NamesDiffer xs → rows_by_name (plain xs) ≡ rows_by_name (plain ys)
in_order_reordered none d = refl
in_order_reordered (skip {x} p) d = ap (insert_row x.row) (in_order_reordered p d.1)
in_order_reordered (swap {x} {y} {xs}) d =
    insert_swap x.row y.row (rows_by_name (plain xs)) (other_way (y.row).name (x.row).name (or_parts (same_name (y.row).name (x.row).name) (has_name (names (plain xs)) (x.row).name) d.0).0)
in_order_reordered (then p q) d = in_order_reordered p d ∙ in_order_reordered q (differ_reordered p d)

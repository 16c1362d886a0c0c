-- Rows with numbers and names, none twice: what is found by a number is found by a name.
use Rattle.std.proofs.Common.{◌≡◌, ℕ, Bool, true, false, cond, List, [], ◌∷◌, option_map, Option, Some, None, refl, ap, sym, ◌∙◌, subst}
use Rattle.std.specs.Prelude.{eqb}
use Rattle.std.specs.Map.{lookup}
use Rattle.std.proofs.lemmas.Bool.Decides.{Decides-eqb}
use Rattle.lf_base.specs.declared.ids.ObjId.{ObjId}
use Rattle.lf_base.specs.declared.values.Owner.{Owner}
use Rattle.lf_base.specs.Links.{Lacks, NodesDiffer}
use Rattle.lf_base.specs.Names.{same_name}
use Rattle.lf_base.proofs.NameLemmas.SameNames.{same_name_flips, same_name_is, same_name_itself}
use Rattle.lf_graph.specs.RowChanges.{changed}
use Rattle.lf_graph.specs.StoredRows.{CountedRow, row_named}
use Rattle.lf_graph.proofs.ListLemmas.{cond_same}
use Rattle.lf_poolstore.specs.declared.unit_row.UnitRow.{UnitRow}
use Rattle.lf_poolstore.specs.RowLists.{entry_at, names_in, numbers_in, with_entry}
use Rattle.lf_poolstore.specs.Units.{FieldPool, places_in, rows_in, whole}

abbrev pub Entries : Type 0
Entries = List (ℕ × UnitRow)

abbrev NameAt : Type 0
NameAt = ObjId × ℕ

-- the row of that name is the one of that number
abbrev pub Agree : ℕ → ObjId → Entries → Type 0
Agree at o [] = Unit {0}
Agree at o (e ∷ es) = (eqb at e.0 ≡ same_name o (e.1).name) × Agree at o es

-- a row that is found both ways
pub record Standing (es : Entries) (o : ObjId) (at : ℕ) : Type 0 where
  pub row : UnitRow
  pub found : entry_at es at ≡ Some row
  pub named : row.name ≡ o
  pub agree : Agree at o es

agree_lacking : (at : ℕ) (o : ObjId) (es : Entries) → Lacks eqb at (numbers_in es) → Lacks same_name o (names_in es) → Agree at o es
agree_lacking at o [] l m = tt
agree_lacking at o (e ∷ es) l m = (l.0 ∙ sym m.0, agree_lacking at o es l.1 m.1)

turned : (x y : ℕ) → eqb x y ≡ false → eqb y x ≡ false
turned x y n = elim (eqb y x) as (λ b. eqb y x ≡ b → b ≡ false) [
  | true ↦ λ e. let k : eqb x y ≡ true = (Decides-eqb x y).1 (sym ((Decides-eqb y x).0 e)) in cc (k, n)
  | false ↦ λ _. refl
] refl

-- a number that is found isn't one that the numbers lack
found_other : (at x : ℕ) (es : Entries) (r : UnitRow) → entry_at es at ≡ Some r → Lacks eqb x (numbers_in es) → eqb x at ≡ false
found_other at x [] r f l = absurd (cc f)
found_other at x (e ∷ es) r f l = elim (eqb at e.0) as (λ b. eqb at e.0 ≡ b → cond b (Some e.1) (entry_at es at) ≡ Some r → eqb x at ≡ false) [
  | true ↦ λ k _. ap (eqb x) ((Decides-eqb at e.0).0 k) ∙ l.0
  | false ↦ λ _ g. found_other at x es r g l.1
] refl f

pub stands : (es : Entries) (o : ObjId) (at : ℕ) → NodesDiffer eqb (numbers_in es) → NodesDiffer same_name (names_in es) → lookup (same_name o) (places_in es) ≡ Some at → Standing es o at
stands [] o at d n h = absurd (cc h)
stands (e ∷ es) o at d n h = elim (same_name o (e.1).name) as (λ b. same_name o (e.1).name ≡ b → cond b (Some e.0) (lookup (same_name o) (places_in es)) ≡ Some at → Standing (e ∷ es) o at) [
  | true ↦ λ k g.
      let s : e.0 ≡ at = some_number g in
      let p : o ≡ (e.1).name = same_name_is o (e.1).name k in
      let t : eqb at e.0 ≡ true = (Decides-eqb at e.0).1 (sym s) in
      record {
        row = e.1;
        found = ap (λ b. cond b (Some e.1) (entry_at es at)) t;
        named = sym p;
        agree = (t ∙ sym k, agree_lacking at o es (subst (λ y. Lacks eqb y (numbers_in es)) s d.0) (subst (λ y. Lacks same_name y (names_in es)) (sym p) n.0));
      }
  | false ↦ λ k g.
      let r = stands es o at d.1 n.1 g in
      let f : eqb at e.0 ≡ false = turned e.0 at (found_other at e.0 es r.row r.found d.0) in
      record {
        row = r.row;
        found = ap (λ b. cond b (Some e.1) (entry_at es at)) f ∙ r.found;
        named = r.named;
        agree = (f ∙ sym k, r.agree);
      }
] refl h where
  some_number : {x y : ℕ} → Some x ≡ Some y → x ≡ y
  some_number {x} {y} q = ap (λ t. or_number t x) q where
    or_number : Option ℕ → ℕ → ℕ
    or_number None z = z
    or_number (Some w) z = w

-- and the other way
pub stands_there : (es : Entries) (o : ObjId) (at : ℕ) (r : UnitRow) → NodesDiffer eqb (numbers_in es) → NodesDiffer same_name (names_in es) → entry_at es at ≡ Some r → r.name ≡ o → lookup (same_name o) (places_in es) ≡ Some at
stands_there [] o at r d n f e = absurd (cc f)
stands_there (x ∷ es) o at r d n f e = elim (eqb at x.0) as (λ b. eqb at x.0 ≡ b → cond b (Some x.1) (entry_at es at) ≡ Some r → lookup (same_name o) (places_in (x ∷ es)) ≡ Some at) [
  | true ↦ λ k g.
      let s : x.1 ≡ r = ap (or_row r) g in
      let t : same_name o (x.1).name ≡ true = ap (same_name o) (ap (λ (u : UnitRow). u.name) s ∙ e) ∙ same_name_itself o in
      ap (λ b. cond b (Some x.0) (lookup (same_name o) (places_in es))) t ∙ ap Some (sym ((Decides-eqb at x.0).0 k))
  | false ↦ λ k g.
      let rest = stands_there es o at r d.1 n.1 g e in
      let t : same_name o (x.1).name ≡ false = other_name (x.1).name es rest n.0 in
      ap (λ b. cond b (Some x.0) (lookup (same_name o) (places_in es))) t ∙ rest
] refl f where
  or_row : UnitRow → Option UnitRow → UnitRow
  or_row u None = u
  or_row u (Some v) = v

  other_name : (y : ObjId) (us : Entries) → lookup (same_name o) (places_in us) ≡ Some at → Lacks same_name y (names_in us) → same_name o y ≡ false
  other_name y [] h l = absurd (cc h)
  other_name y (u ∷ us) h l = elim (same_name o (u.1).name) as (λ b. same_name o (u.1).name ≡ b → cond b (Some u.0) (lookup (same_name o) (places_in us)) ≡ Some at → same_name o y ≡ false) [
    | true ↦ λ k _. same_name_flips o y ∙ ap (same_name y) (same_name_is o (u.1).name k) ∙ l.0
    | false ↦ λ _ g. other_name y us g l.1
  ] refl h

module _ (owner : Owner) (cells : FieldPool) (at : ℕ) (o : ObjId) where
  -- the row found by its name
  pub row_found : (es : Entries) (r : UnitRow) → Agree at o es → entry_at es at ≡ Some r → row_named (rows_in owner cells es) o ≡ Some (whole owner cells r)
  row_found [] r a f = absurd (cc f)
  row_found (e ∷ es) r a f =
      ap (λ b. cond b (Some (whole owner cells e.1)) (row_named (rows_in owner cells es) o)) (same_name_flips (e.1).name o ∙ sym a.0)
      ∙ (elim (eqb at e.0) as (λ b. cond b (Some e.1) (entry_at es at) ≡ Some r → cond b (Some (whole owner cells e.1)) (row_named (rows_in owner cells es) o) ≡ Some (whole owner cells r)) [
        | true ↦ λ g. ap (option_map (whole owner cells)) g
        | false ↦ λ g. row_found es r a.1 g
      ] f)

  -- another row at a number is another row of that name
  pub row_set : (f : CountedRow → CountedRow) (r row : UnitRow) → whole owner cells row ≡ f (whole owner cells r) → (es : Entries) → Agree at o es → ((x : UnitRow) → entry_at es at ≡ Some x → x ≡ r)
      → NodesDiffer eqb (numbers_in es) → rows_in owner cells (with_entry at row es) ≡ changed (rows_in owner cells es) o f
  row_set f r row w [] a k d = refl
  row_set f r row w (e ∷ es) a k d = λ i. head i ∷ row_set f r row w es a.1 (λ x g. k x (ap (λ b. cond b (Some e.1) (entry_at es at)) (turned e.0 at (found_other at e.0 es x g d.0)) ∙ g)) d.1 i where
    head : whole owner cells (cond (eqb at e.0) (at, row) e).1 ≡ cond (same_name (e.1).name o) (f (whole owner cells e.1)) (whole owner cells e.1)
    head = ap (λ b. whole owner cells (cond b (at, row) e).1) (a.0 ∙ same_name_flips o (e.1).name)
        ∙ (elim (same_name (e.1).name o) as (λ b. same_name (e.1).name o ≡ b → whole owner cells (cond b (at, row) e).1 ≡ cond b (f (whole owner cells e.1)) (whole owner cells e.1)) [
          | true ↦ λ t.
              let s : e.1 ≡ r = k e.1 (ap (λ b. cond b (Some e.1) (entry_at es at)) (a.0 ∙ same_name_flips o (e.1).name ∙ t)) in
              w ∙ ap (λ x. f (whole owner cells x)) (sym s)
          | false ↦ λ _. refl
        ] refl)

-- ---- what is found after a row is set
pub entry_set : (at : ℕ) (row : UnitRow) (es : Entries) (x : ℕ) → entry_at (with_entry at row es) x ≡ cond (eqb at x) (option_map (λ _. row) (entry_at es x)) (entry_at es x)
entry_set at row [] x = sym (cond_same (eqb at x) None)
entry_set at row (e ∷ es) x = go (entry_set at row es x) (eqb at e.0) refl (eqb x e.0) refl where
  go : entry_at (with_entry at row es) x ≡ cond (eqb at x) (option_map (λ _. row) (entry_at es x)) (entry_at es x) → (b : Bool) → eqb at e.0 ≡ b → (t : Bool) → eqb x e.0 ≡ t
      → cond (eqb x (cond b (at, row) e).0) (Some (cond b (at, row) e).1) (entry_at (with_entry at row es) x) ≡ cond (eqb at x) (option_map (λ _. row) (cond t (Some e.1) (entry_at es x))) (cond t (Some e.1) (entry_at es x))
  go ih true k true m =
      let s : at ≡ x = (Decides-eqb at e.0).0 k ∙ sym ((Decides-eqb x e.0).0 m) in
      ap (λ b. cond b (Some row) (entry_at (with_entry at row es) x)) ((Decides-eqb x at).1 (sym s)) ∙ sym (ap (λ b. cond b (Some row) (Some e.1)) ((Decides-eqb at x).1 s))
  go ih true k false m =
      ap (λ b. cond b (Some row) (entry_at (with_entry at row es) x)) (ap (eqb x) ((Decides-eqb at e.0).0 k) ∙ m) ∙ ih
  go ih false k true m =
      ap (λ b. cond b (Some e.1) (entry_at (with_entry at row es) x)) m
      ∙ sym (ap (λ b. cond b (Some row) (Some e.1)) (ap (eqb at) ((Decides-eqb x e.0).0 m) ∙ k))
  go ih false k false m = ap (λ b. cond b (Some e.1) (entry_at (with_entry at row es) x)) m ∙ ih

pub numbers_set : (at : ℕ) (row : UnitRow) (es : Entries) → numbers_in (with_entry at row es) ≡ numbers_in es
numbers_set at row [] = refl
numbers_set at row (e ∷ es) = λ i. one i ∷ numbers_set at row es i where
  one : (cond (eqb at e.0) (at, row) e).0 ≡ e.0
  one = elim (eqb at e.0) as (λ b. eqb at e.0 ≡ b → (cond b (at, row) e).0 ≡ e.0) [
    | true ↦ λ k. (Decides-eqb at e.0).0 k
    | false ↦ λ _. refl
  ] refl

-- where the row keeps its name, so do all
module _ (at : ℕ) (row : UnitRow) where
  keeps : (e : ℕ × UnitRow) (es : Entries) → ((x : UnitRow) → entry_at (e ∷ es) at ≡ Some x → x.name ≡ row.name) → ((cond (eqb at e.0) (at, row) e).1).name ≡ (e.1).name
  keeps e es k = elim (eqb at e.0) as (λ b. eqb at e.0 ≡ b → ((cond b (at, row) e).1).name ≡ (e.1).name) [
    | true ↦ λ t. sym (k e.1 (ap (λ b. cond b (Some e.1) (entry_at es at)) t))
    | false ↦ λ _. refl
  ] refl

  later : (e : ℕ × UnitRow) (es : Entries) → Lacks eqb e.0 (numbers_in es) → ((x : UnitRow) → entry_at (e ∷ es) at ≡ Some x → x.name ≡ row.name) → (x : UnitRow) → entry_at es at ≡ Some x → x.name ≡ row.name
  later e es l k x g = k x (ap (λ b. cond b (Some e.1) (entry_at es at)) (turned e.0 at (found_other at e.0 es x g l)) ∙ g)

  pub names_set : (es : Entries) → NodesDiffer eqb (numbers_in es) → ((x : UnitRow) → entry_at es at ≡ Some x → x.name ≡ row.name) → names_in (with_entry at row es) ≡ names_in es
  names_set [] d k = refl
  names_set (e ∷ es) d k = λ i. keeps e es k i ∷ names_set es d.1 (later e es d.0 k) i

  pub places_set : (es : Entries) → NodesDiffer eqb (numbers_in es) → ((x : UnitRow) → entry_at es at ≡ Some x → x.name ≡ row.name) → places_in (with_entry at row es) ≡ places_in es
  places_set [] d k = refl
  places_set (e ∷ es) d k = λ i. pair i ∷ places_set es d.1 (later e es d.0 k) i where
    number : (cond (eqb at e.0) (at, row) e).0 ≡ e.0
    number = elim (eqb at e.0) as (λ b. eqb at e.0 ≡ b → (cond b (at, row) e).0 ≡ e.0) [
      | true ↦ λ t. (Decides-eqb at e.0).0 t
      | false ↦ λ _. refl
    ] refl

    pair : ◌≡◌ {A = NameAt} (((cond (eqb at e.0) (at, row) e).1).name, (cond (eqb at e.0) (at, row) e).0) ((e.1).name, e.0)
    pair = λ i. (keeps e es k i, number i)

-- What is found in a unit, said of what is seen of it.
use Rattle.std.proofs.Common.{◌≡◌, ℕ, Bool, true, false, cond, List, [], ◌∷◌, length, option_map, Option, Some, None, refl, ap, sym, ◌∙◌, subst}
use Rattle.std.specs.Prelude.{eqb}
use Rattle.std.specs.List.{filter_map}
use Rattle.std.specs.Option.{IsSome}
use Rattle.lf_pool.specs.Cells.{item_at, node}
use Rattle.lf_base.specs.declared.values.Key.{Key}
use Rattle.lf_base.specs.declared.values.Value.{Value}
use Rattle.lf_pool.specs.declared.cell.TheConstants.{NONE}
use Rattle.lf_pool.specs.Pools.{Chain, IsLeft}
use Rattle.lf_poolstore.proofs.RowLists.{left_kept, numbers_are}
use Rattle.lf_poolstore.proofs.CellFields.{items_length}
use Rattle.std.proofs.lemmas.Bool.Decides.{Decides-eqb}
use Rattle.lf_base.specs.declared.ids.ObjId.{ObjId}
use Rattle.lf_base.specs.declared.values.Owner.{Owner}
use Rattle.lf_base.specs.Links.{Lacks, NodesDiffer, after, head_or}
use Rattle.lf_base.specs.Names.{same_name}
use Rattle.lf_base.proofs.NameLemmas.SameNames.{same_name_flips}
use Rattle.lf_graph.specs.RowChanges.{changed}
use Rattle.lf_graph.specs.StoredRows.{CountedRow, fields_at, fields_by, first_name, name_after, refs_at, refs_by, row_named}
use Rattle.lf_poolstore.specs.declared.unit_row.UnitRow.{UnitRow}
use Rattle.lf_poolstore.specs.RowLists.{ListView, entry_at, name_by, numbers, numbers_in, with_entry}
use Rattle.lf_poolstore.specs.Units.{FieldPool, IsUnit, KeepsFields, StandsAt, fields_of, UnitView, places_in, rows_in, unit_view, whole}
use Rattle.lf_poolstore.proofs.Entries.{Agree, Entries, Standing, entry_set, names_set, numbers_set, places_set, row_found, row_set, stands, stands_there}

-- a list of rows and their cells, seen as v
pub record Seen (owner : Owner) (l : ListView) (cells : FieldPool) (v : UnitView) : Type 0 where
  pub unit : IsUnit l.entries cells
  pub is : unit_view owner l cells ≡ v

abbrev or_row : UnitRow → Option UnitRow → UnitRow
or_row u None = u
or_row u (Some r) = r

pub same_row : {r s : UnitRow} → Some r ≡ Some s → r ≡ s
same_row {r} {s} e = ap (or_row r) e

module _ (owner : Owner) (l : ListView) (cells : FieldPool) (v : UnitView) (seen : Seen owner l cells v) (at : ℕ) (o : ObjId) (here : StandsAt v at o) where
  pub standing : Standing l.entries o at
  standing = stands l.entries o at seen.unit.numbers_differ seen.unit.names_differ (subst (λ (w : UnitView). StandsAt w at o) (sym seen.is) here)

  pub is_there : IsSome (entry_at l.entries at)
  is_there = subst IsSome (sym standing.found) refl

  module _ (r : UnitRow) (found : entry_at l.entries at ≡ Some r) where
    pub row_seen : row_named v.rows o ≡ Some (whole owner cells r)
    row_seen = ap (λ (w : UnitView). row_named w.rows o) (sym seen.is) ∙ row_found owner cells at o l.entries r standing.agree found

    pub refs_seen : r.refs ≡ refs_at v.rows o
    refs_seen = sym (ap refs_by row_seen)

    pub width_seen : r.width ≡ length (fields_at v.rows o)
    width_seen = sym (ap (λ t. length (fields_by t)) row_seen ∙ items_length cells (numbers cells r.fields) (seen.unit.fields at r found).chain.chain ∙ (seen.unit.fields at r found).count)

    pub name_seen : r.name ≡ o
    name_seen = ap (λ (u : UnitRow). u.name) (same_row (sym found ∙ standing.found)) ∙ standing.named

-- a row that is found and has the name
pub stands_seen : (owner : Owner) (l : ListView) (cells : FieldPool) (v : UnitView) → Seen owner l cells v → (at : ℕ) (o : ObjId) (r : UnitRow) → entry_at l.entries at ≡ Some r → r.name ≡ o → StandsAt v at o
stands_seen owner l cells v seen at o r f n =
    subst (λ (w : UnitView). StandsAt w at o) seen.is (stands_there l.entries o at r seen.unit.numbers_differ seen.unit.names_differ f n)

-- ---- the first row and the next one
pub found_later : (e : ℕ × UnitRow) (es : Entries) (x : ℕ) → Lacks eqb e.0 (numbers_in es) → IsSome (entry_at es x) → entry_at (e ∷ es) x ≡ entry_at es x
found_later e es x l s = ap (λ b. cond b (Some e.1) (entry_at es x)) (out es x l s) where
  out : (us : Entries) (y : ℕ) → Lacks eqb e.0 (numbers_in us) → IsSome (entry_at us y) → eqb y e.0 ≡ false
  out [] y m h = cc
  out (u ∷ us) y m h = elim (eqb y u.0) as (λ b. eqb y u.0 ≡ b → IsSome (cond b (Some u.1) (entry_at us y)) → eqb y e.0 ≡ false) [
    | true ↦ λ k _. ap (λ z. eqb z e.0) ((Decides-eqb y u.0).0 k) ∙ turn u.0 m.0
    | false ↦ λ _ g. out us y m.1 g
  ] refl h where
    turn : (z : ℕ) → eqb e.0 z ≡ false → eqb z e.0 ≡ false
    turn z n = elim (eqb z e.0) as (λ b. eqb z e.0 ≡ b → b ≡ false) [
      | true ↦ λ k. let t : eqb e.0 z ≡ true = (Decides-eqb e.0 z).1 (sym ((Decides-eqb z e.0).0 k)) in cc (t, n)
      | false ↦ λ _. refl
    ] refl

pub first_there : (es : Entries) (x : ℕ) → head_or (numbers_in es) None ≡ Some x → IsSome (entry_at es x)
first_there [] x e = cc
first_there (u ∷ us) x e = subst IsSome (sym (ap (λ b. cond b (Some u.1) (entry_at us x)) ((Decides-eqb x u.0).1 (sym (number e))))) refl where
  number : Some u.0 ≡ Some x → u.0 ≡ x
  number q = ap (or_number u.0) q where
    or_number : ℕ → Option ℕ → ℕ
    or_number z None = z
    or_number z (Some w) = w

module _ (owner : Owner) (cells : FieldPool) where
  pub first_by : (es : Entries) → name_by es (head_or (numbers_in es) None) ≡ first_name (rows_in owner cells es)
  first_by [] = refl
  first_by (e ∷ es) = ap (λ b. option_map (λ (r : UnitRow). r.name) (cond b (Some e.1) (entry_at es e.0))) ((Decides-eqb e.0 e.0).1 refl)

  -- a name that is found in what is left of a list is found in the list
  name_later : (e : ℕ × UnitRow) (es : Entries) (x : Option ℕ) → Lacks eqb e.0 (numbers_in es) → ((y : ℕ) → x ≡ Some y → IsSome (entry_at es y)) → name_by (e ∷ es) x ≡ name_by es x
  name_later e es None l k = refl
  name_later e es (Some y) l k = ap (option_map (λ (r : UnitRow). r.name)) (found_later e es y l (k y refl))

  pub after_there : (es : Entries) (at x : ℕ) → NodesDiffer eqb (numbers_in es) → after eqb at (numbers_in es) ≡ Some x → IsSome (entry_at es x)
  after_there [] at x d e = cc
  after_there (u ∷ us) at x d e = elim (eqb at u.0) as (λ b. cond b (head_or (numbers_in us) None) (after eqb at (numbers_in us)) ≡ Some x → IsSome (entry_at (u ∷ us) x)) [
    | true ↦ λ g. let s = first_there us x g in subst IsSome (sym (found_later u us x d.0 s)) s
    | false ↦ λ g. let s = after_there us at x d.1 g in subst IsSome (sym (found_later u us x d.0 s)) s
  ] e

  pub next_by : (es : Entries) (at : ℕ) (o : ObjId) → NodesDiffer eqb (numbers_in es) → Agree at o es → name_by es (after eqb at (numbers_in es)) ≡ name_after (rows_in owner cells es) o
  next_by [] at o d a = refl
  next_by (e ∷ es) at o d a =
      (elim (eqb at e.0) as (λ b. name_by (e ∷ es) (cond b (head_or (numbers_in es) None) (after eqb at (numbers_in es))) ≡ cond b (first_name (rows_in owner cells es)) (name_after (rows_in owner cells es) o)) [
        | true ↦ name_later e es (head_or (numbers_in es) None) d.0 (first_there es) ∙ first_by es
        | false ↦ name_later e es (after eqb at (numbers_in es)) d.0 (λ y k. after_there es at y d.1 k) ∙ next_by es at o d.1 a.1
      ])
      ∙ ap (λ b. cond b (first_name (rows_in owner cells es)) (name_after (rows_in owner cells es) o)) (a.0 ∙ same_name_flips o (e.1).name)

-- ---- a row is set that keeps its name and its fields
module _ (es : Entries) (cells : FieldPool) (unit : IsUnit es cells) (at : ℕ) (r row : UnitRow) (found : entry_at es at ≡ Some r) (name : row.name ≡ r.name) where
  only : (x : UnitRow) → entry_at es at ≡ Some x → x.name ≡ row.name
  only x g = ap (λ (u : UnitRow). u.name) (same_row (sym g ∙ found)) ∙ sym name

  pub set_places : places_in (with_entry at row es) ≡ places_in es
  set_places = places_set at row es unit.numbers_differ only

  module _ (fields : row.fields ≡ r.fields) (width : row.width ≡ r.width) where
    -- what is found now was found before, but for the count
    before : (x : ℕ) (s : UnitRow) → entry_at (with_entry at row es) x ≡ Some s → (t : UnitRow) × (entry_at es x ≡ Some t) × (s.fields ≡ t.fields) × (s.width ≡ t.width)
    before x s e = go (eqb at x) refl (sym (entry_set at row es x) ∙ e) where
      go : (b : Bool) → eqb at x ≡ b → cond b (option_map (λ _. row) (entry_at es x)) (entry_at es x) ≡ Some s → (t : UnitRow) × (entry_at es x ≡ Some t) × (s.fields ≡ t.fields) × (s.width ≡ t.width)
      go false n g = (s, g, refl, refl)
      go true k g =
          let there : entry_at es x ≡ Some r = ap (entry_at es) (sym ((Decides-eqb at x).0 k)) ∙ found in
          let same : row ≡ s = same_row (sym (ap (option_map (λ _. row)) there) ∙ g) in
          (r, there, ap (λ (u : UnitRow). u.fields) (sym same) ∙ fields, ap (λ (u : UnitRow). u.width) (sym same) ∙ width)

    pub set_unit : IsUnit (with_entry at row es) cells
    set_unit =
        record {
          numbers_differ = subst (NodesDiffer eqb) (sym (numbers_set at row es)) unit.numbers_differ;
          names_differ = subst (NodesDiffer same_name) (sym (names_set at row es unit.numbers_differ only)) unit.names_differ;
          fields = λ x s e. let b = before x s e in let k = unit.fields x b.0 b.1 in
              record {
                chain = subst (λ f. IsLeft cells (node f) (numbers cells f)) (sym b.2) k.chain;
                count = ap (λ f. length (numbers cells f)) b.2 ∙ k.count ∙ sym b.3;
              };
          apart = λ x y s t e f n c g h. let a = before x s e in let b = before y t f in unit.apart x y a.0 b.0 a.1 b.1 n c (ap node (sym a.2) ∙ g) (ap node (sym b.2) ∙ h);
        }

    pub set_rows : (owner : Owner) (o : ObjId) (f : CountedRow → CountedRow) → Agree at o es → whole owner cells row ≡ f (whole owner cells r) → rows_in owner cells (with_entry at row es) ≡ changed (rows_in owner cells es) o f
    set_rows owner o f agree is_f = row_set owner cells at o f r row is_f es agree (λ x g. same_row (sym g ∙ found)) unit.numbers_differ

-- ---- cells that stay
-- the fields of a row whose chain stays
module _ (m n : FieldPool) (items : (x : ℕ) → item_at n.cells x ≡ item_at m.cells x) (r : UnitRow) (k : KeepsFields m r) (stays : (c : ℕ) → Chain m c (numbers m r.fields) → Chain n c (numbers m r.fields)) where
  kept_left : IsLeft n (node r.fields) (numbers m r.fields)
  kept_left = left_kept m n (node r.fields) (numbers m r.fields) k.chain stays

  kept_numbers : numbers n r.fields ≡ numbers m r.fields
  kept_numbers = numbers_are n r.fields (numbers m r.fields) kept_left

  pub kept_fields_by : fields_of n r ≡ fields_of m r
  kept_fields_by = ap (filter_map (item_at n.cells)) kept_numbers ∙ (λ i. filter_map (λ x. items x i) (numbers m r.fields))

  pub kept_row_by : KeepsFields n r
  kept_row_by = record { chain = subst (IsLeft n (node r.fields)) (sym kept_numbers) kept_left; count = ap length kept_numbers ∙ k.count }

module _ (m n : FieldPool) (items : (x : ℕ) → item_at n.cells x ≡ item_at m.cells x) (chains : (c : ℕ) → (xs : List ℕ) → Chain m c xs → Chain n c xs) where
  kept_fields : (r : UnitRow) → KeepsFields m r → fields_of n r ≡ fields_of m r
  kept_fields r k = kept_fields_by m n items r k (λ c. chains c (numbers m r.fields))

  kept_row : (r : UnitRow) → KeepsFields m r → KeepsFields n r
  kept_row r k = kept_row_by m n items r k (λ c. chains c (numbers m r.fields))

  pub kept_unit : (es : Entries) → IsUnit es m → IsUnit es n
  kept_unit es u = record { numbers_differ = u.numbers_differ; names_differ = u.names_differ; fields = λ at r f. kept_row r (u.fields at r f); apart = u.apart }

  pub kept_rows : (owner : Owner) (es : Entries) → NodesDiffer eqb (numbers_in es) → ((at : ℕ) → (r : UnitRow) → entry_at es at ≡ Some r → KeepsFields m r) → rows_in owner n es ≡ rows_in owner m es
  kept_rows owner [] d k = refl
  kept_rows owner (e ∷ es) d k = λ i. one i ∷ kept_rows owner es d.1 (λ at r f. k at r (found_later e es at d.0 (subst IsSome (sym f) refl) ∙ f)) i where
    one : whole owner n e.1 ≡ whole owner m e.1
    one = ap (λ (fs : List (Key × Value)). record { row = record { name = (e.1).name; owner = owner; fields = fs }; refs = (e.1).refs })
        (kept_fields e.1 (k e.0 e.1 (ap (λ b. cond b (Some e.1) (entry_at es e.0)) ((Decides-eqb e.0 e.0).1 refl))))

-- ---- whether there is a row
pub none_there : (owner : Owner) (cells : FieldPool) (es : Entries) (first : ℕ) → node first ≡ head_or (numbers_in es) None → eqb first NONE ≡ true → rows_in owner cells es ≡ []
none_there owner cells [] first h e = refl
none_there owner cells (u ∷ us) first h e = let n : node first ≡ None = ap (λ b. cond b None (Some first)) e in cc (n, h)

pub there_none : (owner : Owner) (cells : FieldPool) (es : Entries) (first : ℕ) → node first ≡ head_or (numbers_in es) None → rows_in owner cells es ≡ [] → eqb first NONE ≡ true
there_none owner cells [] first h e = elim (eqb first NONE) as (λ b. cond b None (Some first) ≡ None → b ≡ true) [
  | true ↦ λ _. refl
  | false ↦ λ k. cc
] h
there_none owner cells (u ∷ us) first h e = cc

-- Rows that come last, and rows that come with their fields from other cells.
use Rattle.std.proofs.Common.{◌≡◌, ℕ, true, false, cond, ◌+◌, ◌<◌, List, [], ◌∷◌, ◌++◌, length, take, slice_get, get_or, Some, None, refl, ap, sym, ◌∙◌, subst, suc, arith, not}
use Rattle.std.specs.Prelude.{eqb}
use Rattle.std.specs.Map.{lookup}
use Rattle.std.specs.Option.{IsSome}
use Rattle.std.proofs.lemmas.Bool.Decides.{Decides-eqb}
use Rattle.std.proofs.lemmas.List.{map-append}
use Rattle.std.proofs.lemmas.Option.{slice_get-get_or}
use Rattle.std.proofs.Math.Seq.{take-length}
use Rattle.lf_base.specs.declared.ids.ObjId.{ObjId}
use Rattle.lf_base.specs.declared.values.Key.{Key}
use Rattle.lf_base.specs.declared.values.Owner.{Owner}
use Rattle.lf_base.specs.declared.values.Value.{Value}
use Rattle.lf_base.specs.Links.{Lacks, NodesDiffer, after}
use Rattle.lf_base.specs.Names.{same_name}
use Rattle.lf_base.proofs.NameLemmas.SameNames.{same_name_flips, same_name_is}
use Rattle.lf_pool.specs.Cells.{item_at, node}
use Rattle.lf_graph.specs.RowChanges.{moved_last, moved_under, with_owner, without_row}
use Rattle.lf_poolstore.specs.declared.unit_row.UnitRow.{UnitRow}
use Rattle.lf_poolstore.specs.RowLists.{entry_at, moved_entry, names_in, numbers, numbers_in, without_entry}
use Rattle.lf_poolstore.specs.UnitRows.{bare, row_or}
use Rattle.lf_poolstore.specs.Units.{Apart, FieldPool, IsUnit, KeepsFields, KeepsRow, Writes, fields_of, items_in, places_in, rows_in, whole}
use Rattle.lf_poolstore.proofs.Entries.{Agree, Entries, row_found}
use Rattle.lf_poolstore.proofs.EntryLists.{bare_row, lacks_without, no_numbers, left_rows, left_unit, more_places, more_unit, without_found, without_places}
use Rattle.lf_poolstore.proofs.CellFields.{items_more}
use Rattle.lf_pool.proofs.Places.{after_at}
use Rattle.lf_poolstore.proofs.RowLists.{entry, node_same}
use Rattle.lf_graph.proofs.ListLemmas.{take_next}
use Rattle.lf_base.proofs.ListLemmas.LinkedLists.{first_is}
use Rattle.lf_poolstore.proofs.SeenUnits.{found_later, same_row}

-- the name of a row that is found isn't one that the names lack
named_other : (us : Entries) (at : ℕ) (row : UnitRow) (y : ObjId) → entry_at us at ≡ Some row → Lacks same_name y (names_in us) → same_name row.name y ≡ false
named_other [] at row y f l = absurd (cc f)
named_other (u ∷ us) at row y f l = elim (eqb at u.0) as (λ b. cond b (Some u.1) (entry_at us at) ≡ Some row → same_name row.name y ≡ false) [
  | true ↦ λ k. same_name_flips row.name y ∙ ap (λ (r : UnitRow). same_name y r.name) (sym (same_row k)) ∙ l.0
  | false ↦ λ k. named_other us at row y k l.1
] f

-- no other row has the name of a row that is found
names_lack : (us : Entries) (at : ℕ) (row : UnitRow) → NodesDiffer same_name (names_in us) → entry_at us at ≡ Some row → Lacks same_name row.name (names_in (without_entry at us))
names_lack [] at row d f = tt
names_lack (u ∷ us) at row d f = elim (eqb at u.0) as (λ b. cond b (Some u.1) (entry_at us at) ≡ Some row → Lacks same_name row.name (names_in (cond (not b) (u ∷ without_entry at us) (without_entry at us)))) [
  | true ↦ λ k. lacks_without same_name (λ e. (e.1).name) row.name at us (subst (λ (r : UnitRow). Lacks same_name r.name (names_in us)) (same_row k) d.0)
  | false ↦ λ k. (named_other us at row (u.1).name k d.0, names_lack us at row d.1 k)
] f

-- a row of a unit comes last
module _ (es : Entries) (cells : FieldPool) (unit : IsUnit es cells) (at : ℕ) (row : UnitRow) (found : entry_at es at ≡ Some row) where
  list_is : moved_entry at es ≡ without_entry at es ++ entry at row ∷ []
  list_is = ap (λ t. without_entry at es ++ entry at (row_or t) ∷ []) found

  rest : IsUnit (without_entry at es) cells
  rest = left_unit cells cells (λ _. refl) es unit at row found (λ d zs z n. z)

  gone : entry_at (without_entry at es) at ≡ None
  gone = without_found at es at ∙ ap (λ b. cond b None (entry_at es at)) ((Decides-eqb at at).1 refl)

  lacks : Lacks same_name row.name (names_in (without_entry at es))
  lacks = names_lack es at row unit.names_differ found

  apart : (x : ℕ) → (s : UnitRow) → entry_at (without_entry at es) x ≡ Some s → Apart row s
  apart x s f = elim (eqb at x) as (λ b. eqb at x ≡ b → cond b None (entry_at es x) ≡ Some s → Apart row s) [
    | true ↦ λ _ k. absurd (cc k)
    | false ↦ λ n k. unit.apart at x row s found k n
  ] refl (sym (without_found at es x) ∙ f)

  pub moved_unit : IsUnit (moved_entry at es) cells
  moved_unit = subst (λ t. IsUnit t cells) (sym list_is) (more_unit cells at row (without_entry at es) rest gone lacks (unit.fields at row found) apart)

  pub moved_rows : (owner : Owner) (o : ObjId) → Agree at o es → rows_in owner cells (moved_entry at es) ≡ moved_last (rows_in owner cells es) o owner
  moved_rows owner o agree =
      ap (rows_in owner cells) list_is ∙ map-append (λ (e : ℕ × UnitRow). whole owner cells e.1) (without_entry at es) (entry at row ∷ [])
      ∙ ap (λ t. t ++ whole owner cells row ∷ []) (left_rows cells cells (λ _. refl) es unit at row found (λ d zs z n. z) owner o es agree unit.numbers_differ (λ x r f. f))
      ∙ ap (λ t. without_row (rows_in owner cells es) o ++ moved_under owner t) (sym (row_found owner cells at o es row agree found))

  pub moved_places : (o : ObjId) → Agree at o es → row.name ≡ o → lookup (same_name o) (places_in es) ≡ Some at → (q : ObjId) → lookup (same_name q) (places_in (moved_entry at es)) ≡ lookup (same_name q) (places_in es)
  moved_places o agree named here q =
      ap (λ t. lookup (same_name q) (places_in t)) list_is ∙ more_places cells at row (without_entry at es) rest gone lacks (unit.fields at row found) apart q
      ∙ ap (λ n. cond (same_name n q) (Some at) (lookup (same_name q) (places_in (without_entry at es)))) named
      ∙ ap (cond (same_name o q) (Some at)) (without_places at o es agree q)
      ∙ (elim (same_name o q) as (λ b. same_name o q ≡ b → cond b (Some at) (cond b None (lookup (same_name q) (places_in es))) ≡ lookup (same_name q) (places_in es)) [
        | true ↦ λ k. sym here ∙ ap (λ n. lookup (same_name n) (places_in es)) (same_name_is o q k)
        | false ↦ λ _. refl
      ] refl)

-- ---- fields that are copied from other cells
-- a row that is written again
writes_on : (m n k : FieldPool) (a b c : UnitRow) (fs gs : List (Key × Value)) → Writes m n a b fs → Writes n k b c gs → Writes m k a c gs
writes_on m n k a b c fs gs v w =
    record {
      keeps = w.keeps;
      here = w.here;
      others = λ s l apart. let x = v.others s l apart in let y = w.others s x.0 x.2 in (y.0, y.1 ∙ x.1, y.2);
    }

-- the first i fields of a row were copied, and that cell is the next one
pub record Copying (m from : FieldPool) (row : UnitRow) (n : FieldPool) (now : UnitRow) (cell i : ℕ) : Type 0 where
  pub at : node cell ≡ slice_get (numbers from row.fields) i
  pub keeps : KeepsRow row now
  pub written : Writes m n (bare row) now (items_in from (take i (numbers from row.fields)))
  pub room : m.spare ≡ n.spare + i

pub copy_start : (m from : FieldPool) (row now : UnitRow) → KeepsFields from row → now ≡ bare row → Copying m from row m now row.fields 0
copy_start m from row now keeps is =
    subst (λ r. Copying m from row m r row.fields 0) (sym is) (record {
      at = sym keeps.chain.begins ∙ sym (first_is (numbers from row.fields));
      keeps = record { name = refl; refs = refl };
      written = record { keeps = bare_row m row.name row.refs; here = ap (items_in m) (no_numbers m); others = λ s l a. (l, refl, a) };
      room = omega arith;
    })

module _ (m from : FieldPool) (row : UnitRow) (keeps : KeepsFields from row) (n : FieldPool) (now : UnitRow) (cell i : ℕ) (copying : Copying m from row n now cell i) where
  pub copy_cell : i < row.width → slice_get (numbers from row.fields) i ≡ Some cell
  copy_cell l =
      let xs = numbers from row.fields in
      let within : i < length xs = let w = keeps.count in omega (arith, w, l) in
      let there = slice_get-get_or xs i 0 within in
      there ∙ ap Some (sym (node_same cell (get_or xs i 0) (copying.at ∙ there)))

  pub copy_step : i < row.width → (p : Key × Value) (k : FieldPool) (next : UnitRow) (on : ℕ) → item_at from.cells cell ≡ Some p → KeepsRow now next → Writes n k now next (fields_of n now ++ p ∷ [])
      → n.spare ≡ k.spare + 1 → node on ≡ after eqb cell (numbers from row.fields) → Copying m from row k next on (i + 1)
  copy_step l p k next on item keep w room behind =
      let xs = numbers from row.fields in
      let there = copy_cell l in
      let suc_is : suc i ≡ i + 1 = omega arith in
      let more : fields_of n now ++ p ∷ [] ≡ items_in from (take (i + 1) xs) = ap (λ t. t ++ p ∷ []) copying.written.here ∙ sym (items_more from (take i xs) cell p item) ∙ ap (items_in from) (sym (take_next xs i cell there)) in
      record {
        at = behind ∙ after_at xs cell i keeps.chain.chain.differ there ∙ ap (slice_get xs) suc_is;
        keeps = record { name = keep.name ∙ copying.keeps.name; refs = keep.refs ∙ copying.keeps.refs };
        written = subst (Writes m k (bare row) next) more (writes_on m n k (bare row) now next _ _ copying.written w);
        room = let r = copying.room in omega (arith, r, room);
      }

  pub copy_end : i ≡ row.width → Writes m n (bare row) now (fields_of from row)
  copy_end e = subst (λ t. Writes m n (bare row) now (items_in from t)) (ap (λ j. take j (numbers from row.fields)) (e ∙ sym keeps.count) ∙ take-length (numbers from row.fields)) copying.written

-- ---- a row comes with fields of its own, and all others stay
module _ (es : Entries) (m n : FieldPool) (unit : IsUnit es m) (start now : UnitRow) (none : node start.fields ≡ None) (fields : List (Key × Value)) (w : Writes m n start now fields) where
  other : (x : ℕ) → (s : UnitRow) → entry_at es x ≡ Some s → KeepsFields n s × (fields_of n s ≡ fields_of m s) × Apart now s
  other x s f = w.others s (unit.fields x s f) (λ c e k. cc (none, e))

  stay_unit : IsUnit es n
  stay_unit = record { numbers_differ = unit.numbers_differ; names_differ = unit.names_differ; fields = λ x s f. (other x s f).0; apart = unit.apart }

  stay_rows : (owner : Owner) (us : Entries) → NodesDiffer eqb (numbers_in us) → ((x : ℕ) → (s : UnitRow) → entry_at us x ≡ Some s → entry_at es x ≡ Some s) → rows_in owner n us ≡ rows_in owner m us
  stay_rows owner [] d k = refl
  stay_rows owner (e ∷ us) d k = λ i. one i ∷ stay_rows owner us d.1 (λ x s f. k x s (found_later e us x d.0 (subst IsSome (sym f) refl) ∙ f)) i where
    one : whole owner n e.1 ≡ whole owner m e.1
    one = ap (λ (fs : List (Key × Value)). record { row = record { name = (e.1).name; owner = owner; fields = fs }; refs = (e.1).refs })
        (other e.0 e.1 (k e.0 e.1 (ap (λ b. cond b (Some e.1) (entry_at us e.0)) ((Decides-eqb e.0 e.0).1 refl)))).1

  pub taken_rows : (owner : Owner) (at : ℕ) → rows_in owner n (es ++ entry at now ∷ []) ≡ rows_in owner m es ++ whole owner n now ∷ []
  taken_rows owner at =
      map-append (λ (e : ℕ × UnitRow). whole owner n e.1) es (entry at now ∷ []) ∙ ap (λ t. t ++ whole owner n now ∷ []) (stay_rows owner es unit.numbers_differ (λ x s f. f))

  module _ (at : ℕ) (fresh : entry_at es at ≡ None) (lacks : Lacks same_name now.name (names_in es)) where
    pub taken_unit : IsUnit (es ++ entry at now ∷ []) n
    taken_unit = more_unit n at now es stay_unit fresh lacks w.keeps (λ x s f. (other x s f).2)

    pub taken_places : (q : ObjId) → lookup (same_name q) (places_in (es ++ entry at now ∷ [])) ≡ cond (same_name now.name q) (Some at) (lookup (same_name q) (places_in es))
    taken_places = more_places n at now es stay_unit fresh lacks w.keeps (λ x s f. (other x s f).2)

-- the row under its new owner
pub whole_under : (v w : Owner) (from n : FieldPool) (row now : UnitRow) → KeepsRow row now → fields_of n now ≡ fields_of from row → whole w n now ≡ with_owner w (whole v from row)
whole_under v w from n row now keeps same = λ i. record { row = record { name = keeps.name i; owner = w; fields = same i }; refs = keeps.refs i }

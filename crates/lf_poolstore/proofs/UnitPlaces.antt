-- Rows of a unit by their place, and the index that leads to them.
use Rattle.std.proofs.Common.{◌≡◌, ◌≢◌, ℕ, Bool, true, false, cond, ◌+◌, ◌≤◌, ◌<◌, [], ◌∷◌, length, option_map, slice_get, Option, Some, None, refl, ap, sym, ◌∙◌, subst, zero, suc, arith}
use Rattle.std.specs.Prelude.{eqb}
use Rattle.std.specs.Map.{lookup}
use Rattle.std.specs.Option.{IsSome}
use Rattle.std.proofs.Math.ListN.{drop}
use Rattle.std.proofs.lemmas.Bool.Decides.{Decides-eqb}
use Rattle.std.proofs.lemmas.List.{drop_all}
use Rattle.std.proofs.lemmas.Option.{slice_get-map}
use Rattle.lf_base.specs.declared.ids.ObjId.{ObjId}
use Rattle.lf_base.specs.declared.values.Owner.{Owner}
use Rattle.lf_base.specs.Links.{Lacks, NodesDiffer, after, head_or}
use Rattle.lf_base.specs.Names.{same_name}
use Rattle.lf_base.proofs.ListLemmas.LinkedLists.{first_is}
use Rattle.lf_base.proofs.NameLemmas.SameNames.{same_name_flips, same_name_is}
use Rattle.lf_pool.specs.declared.cell.TheConstants.{NONE}
use Rattle.lf_pool.specs.Cells.{node}
use Rattle.lf_pool.proofs.Beheads.{node_other}
use Rattle.lf_pool.proofs.Joins.{some_is}
use Rattle.lf_poolstore.specs.declared.name_index.NameIndex.{NameIndex}
use Rattle.lf_poolstore.specs.declared.unit_row.UnitRow.{UnitRow}
use Rattle.lf_poolstore.specs.Index.{index_room, place_at}
use Rattle.lf_poolstore.specs.Pools.{led_by, place_of}
use Rattle.lf_graph.specs.StoredRows.{row_named}
use Rattle.lf_poolstore.specs.RowLists.{ListView, entry_at, names_in, numbers_in}
use Rattle.lf_poolstore.specs.Units.{FieldPool, StandsAt, UnitView, places_in, rows_in, whole}
use Rattle.lf_poolstore.proofs.Entries.{Entries}
use Rattle.lf_pool.proofs.Places.{no_number}
use Rattle.lf_pool.proofs.Places.{after_at}
use Rattle.lf_poolstore.proofs.RowLists.{entry}
use Rattle.lf_poolstore.proofs.SeenUnits.{Seen, found_later, row_seen, same_row, stands_seen}

-- ---- the row at a place
pub record RowAtPlace (es : Entries) (k at : ℕ) : Type 0 where
  pub row : UnitRow
  pub here : slice_get es k ≡ Some (entry at row)
  pub found : entry_at es at ≡ Some row

-- a number at a place is that of the row there
pub row_at_place : (es : Entries) (k at : ℕ) → NodesDiffer eqb (numbers_in es) → slice_get (numbers_in es) k ≡ Some at → RowAtPlace es k at
row_at_place [] k at d e = absurd (cc e)
row_at_place (u ∷ us) zero at d e =
    let s : u.0 ≡ at = some_is u.0 at e in
    record { row = u.1; here = λ i. Some (entry (s i) u.1); found = ap (λ b. cond b (Some u.1) (entry_at us at)) ((Decides-eqb at u.0).1 (sym s)) }
row_at_place (u ∷ us) (suc k) at d e =
    let r = row_at_place us k at d.1 e in
    record { row = r.row; here = r.here; found = found_later u us at d.0 (subst IsSome (sym r.found) refl) ∙ r.found }

-- a row that is seen at a place
module _ (owner : Owner) (cells : FieldPool) (es : Entries) (k : ℕ) where
  pub row_seen_at : (at : ℕ) (row : UnitRow) → NodesDiffer eqb (numbers_in es) → slice_get (numbers_in es) k ≡ Some at → entry_at es at ≡ Some row → slice_get (rows_in owner cells es) k ≡ Some (whole owner cells row)
  row_seen_at at row d e f =
      let r = row_at_place es k at d e in
      slice_get-map (λ (x : ℕ × UnitRow). whole owner cells x.1) es k ∙ ap (option_map (λ (x : ℕ × UnitRow). whole owner cells x.1)) r.here ∙ ap (λ t. Some (whole owner cells t)) (same_row (sym r.found ∙ f))

  pub no_row_at : slice_get (numbers_in es) k ≡ None → slice_get (rows_in owner cells es) k ≡ None
  no_row_at e = slice_get-map (λ (x : ℕ × UnitRow). whole owner cells x.1) es k ∙ ap (option_map (λ (x : ℕ × UnitRow). whole owner cells x.1)) (none (slice_get es k) (sym (slice_get-map (λ (x : ℕ × UnitRow). x.0) es k) ∙ e)) where
    none : (t : Option (ℕ × UnitRow)) → option_map (λ (x : ℕ × UnitRow). x.0) t ≡ None → t ≡ None
    none None g = refl
    none (Some x) g = absurd (cc g)

-- ---- places that are put one after the other
left_at : (es : Entries) (k : ℕ) (x : ℕ × UnitRow) → slice_get es k ≡ Some x → drop k es ≡ x ∷ drop (suc k) es
left_at [] k x e = absurd (cc e)
left_at (u ∷ us) zero x e = ap (λ t. or_entry t ∷ us) e where
  or_entry : Option (ℕ × UnitRow) → ℕ × UnitRow
  or_entry None = u
  or_entry (Some y) = y
left_at (u ∷ us) (suc k) x e = left_at us k x e

none_left : (es : Entries) (k : ℕ) → slice_get (numbers_in es) k ≡ None → drop k es ≡ []
none_left [] zero e = refl
none_left [] (suc k) e = refl
none_left (u ∷ us) zero e = absurd (cc e)
none_left (u ∷ us) (suc k) e = none_left us k e

lacks_left : (x : ObjId) (es : Entries) (k : ℕ) → Lacks same_name x (names_in es) → Lacks same_name x (names_in (drop k es))
lacks_left x [] zero l = tt
lacks_left x [] (suc k) l = tt
lacks_left x (u ∷ us) zero l = l
lacks_left x (u ∷ us) (suc k) l = lacks_left x us k l.1

differ_left : (es : Entries) (k : ℕ) → NodesDiffer same_name (names_in es) → NodesDiffer same_name (names_in (drop k es))
differ_left [] zero d = tt
differ_left [] (suc k) d = tt
differ_left (u ∷ us) zero d = d
differ_left (u ∷ us) (suc k) d = differ_left us k d.1

not_placed : (x q : ObjId) (es : Entries) → Lacks same_name x (names_in es) → same_name x q ≡ true → lookup (same_name q) (places_in es) ≡ None
not_placed x q [] l e = refl
not_placed x q (u ∷ us) l e =
    let n : same_name q (u.1).name ≡ false = ap (λ o. same_name o (u.1).name) (sym (same_name_is x q e)) ∙ l.0 in
    ap (λ b. cond b (Some u.0) (lookup (same_name q) (places_in us))) n ∙ not_placed x q us l.1 e

-- so far the rows before place k are put, of which the one at place k has the number `at`
pub record Putting (es : Entries) (unit : ℕ) (before now : NameIndex) (k at : ℕ) : Type 0 where
  pub number : node at ≡ slice_get (numbers_in es) k
  pub led : (q : ObjId) → led_by unit (lookup (same_name q) (places_in (drop k es))) (place_at now q) ≡ led_by unit (lookup (same_name q) (places_in es)) (place_at before q)
  pub room : length (drop k es) ≤ index_room now

pub none_put : (es : Entries) (unit : ℕ) (before : NameIndex) (at : ℕ) → node at ≡ head_or (numbers_in es) None → length es ≤ index_room before → Putting es unit before before 0 at
none_put es unit before at e l = record { number = e ∙ sym (first_is (numbers_in es)); led = λ q. refl; room = l }

module _ (es : Entries) (unit : ℕ) (before now : NameIndex) (k at : ℕ) (so : Putting es unit before now k at) where
  pub all_put : slice_get (numbers_in es) k ≡ None → (q : ObjId) → place_at now q ≡ led_by unit (lookup (same_name q) (places_in es)) (place_at before q)
  all_put e q = sym (ap (λ us. led_by unit (lookup (same_name q) (places_in us)) (place_at now q)) (none_left es k e)) ∙ so.led q

  pub far_put : length es ≤ k → (q : ObjId) → place_at now q ≡ led_by unit (lookup (same_name q) (places_in es)) (place_at before q)
  far_put l q = sym (ap (λ us. led_by unit (lookup (same_name q) (places_in us)) (place_at now q)) (drop_all k es l)) ∙ so.led q

  module _ (numbers : NodesDiffer eqb (numbers_in es)) (names : NodesDiffer same_name (names_in es)) (is : at ≢ NONE) where
    number_at : slice_get (numbers_in es) k ≡ Some at
    number_at = sym so.number ∙ node_other at is

    pub put_there : IsSome (entry_at es at)
    put_there = subst IsSome (sym (row_at_place es k at numbers number_at).found) refl

    module _ (row : UnitRow) (found : entry_at es at ≡ Some row) where
      left : drop k es ≡ entry at row ∷ drop (suc k) es
      left =
          let r = row_at_place es k at numbers number_at in
          left_at es k (entry at row) (r.here ∙ ap (λ t. Some (entry at t)) (same_row (sym r.found ∙ found)))

      pub put_room : 0 < index_room now
      put_room = let a = ap length left in let b = so.room in omega (arith, a, b)

      pub one_put : (newer : NameIndex) (next : ℕ) → ((q : ObjId) → place_at newer q ≡ cond (same_name row.name q) (Some (place_of unit at)) (place_at now q)) → index_room now ≤ index_room newer + 1
          → node next ≡ after eqb at (numbers_in es) → Putting es unit before newer (suc k) next
      one_put newer next led room after_is =
          record {
            number = after_is ∙ after_at (numbers_in es) at k numbers number_at;
            led = λ q. go q (same_name row.name q) refl ∙ sym (ap (λ us. led_by unit (lookup (same_name q) (places_in us)) (place_at now q)) left) ∙ so.led q;
            room = let a = ap length left in let b = so.room in omega (arith, a, b, room);
          }
        where
          rest : Entries
          rest = drop (suc k) es

          lacks : Lacks same_name row.name (names_in rest)
          lacks = (subst (λ us. NodesDiffer same_name (names_in us)) left (differ_left es k names)).0

          go : (q : ObjId) (b : Bool) → same_name row.name q ≡ b
              → led_by unit (lookup (same_name q) (places_in rest)) (place_at newer q) ≡ led_by unit (cond (same_name q row.name) (Some at) (lookup (same_name q) (places_in rest))) (place_at now q)
          go q true e =
              ap (λ t. led_by unit t (place_at newer q)) (not_placed row.name q rest lacks e) ∙ led q ∙ ap (λ b. cond b (Some (place_of unit at)) (place_at now q)) e
              ∙ sym (ap (λ b. led_by unit (cond b (Some at) (lookup (same_name q) (places_in rest))) (place_at now q)) (same_name_flips q row.name ∙ e))
          go q false e =
              ap (led_by unit (lookup (same_name q) (places_in rest))) (led q ∙ ap (λ b. cond b (Some (place_of unit at)) (place_at now q)) e)
              ∙ sym (ap (λ b. led_by unit (cond b (Some at) (lookup (same_name q) (places_in rest))) (place_at now q)) (same_name_flips q row.name ∙ e))

-- ---- the row at a place, said of what is seen of a unit
module _ (owner : Owner) (l : ListView) (cells : FieldPool) (v : UnitView) (seen : Seen owner l cells v) (k at : ℕ) (is : node at ≡ slice_get (numbers_in l.entries) k) where
  pub none_seen_at : at ≡ NONE → slice_get v.rows k ≡ None
  none_seen_at e = ap (λ (w : UnitView). slice_get w.rows k) (sym seen.is) ∙ no_row_at owner cells l.entries k (sym is ∙ no_number at e)

  module _ (cell : at ≢ NONE) where
    there : RowAtPlace l.entries k at
    there = row_at_place l.entries k at seen.unit.numbers_differ (sym is ∙ node_other at cell)

    pub entry_there : IsSome (entry_at l.entries at)
    entry_there = subst IsSome (sym there.found) refl

    pub seen_at : (row : UnitRow) → entry_at l.entries at ≡ Some row → slice_get v.rows k ≡ Some (whole owner cells row)
    seen_at row f = ap (λ (w : UnitView). slice_get w.rows k) (sym seen.is) ∙ row_seen_at owner cells l.entries k at row seen.unit.numbers_differ (sym is ∙ node_other at cell) f

    pub stands_at : (o : ObjId) × StandsAt v at o
    stands_at = (there.row.name, stands_seen owner l cells v seen at there.row.name there.row there.found refl)

    pub named_at : (o : ObjId) → StandsAt v at o → row_named v.rows o ≡ slice_get v.rows k
    named_at o here = row_seen owner l cells v seen at o here there.row there.found ∙ sym (seen_at there.row there.found)

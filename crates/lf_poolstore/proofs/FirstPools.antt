-- Pools as they begin: a unit for local rows, one for frozen rows, and no names.
use Rattle.std.proofs.Common.{◌≡◌, ℕ, true, false, cond, slice_index_or, List, [], ◌∷◌, Option, Some, None, refl, ap, sym, ◌∙◌}
use Rattle.std.specs.Prelude.{eqb}
use Rattle.std.proofs.lemmas.Bool.Decides.{Decides-eqb}
use Rattle.std.specs.Map.{lookup}
use Rattle.slab.specs.Slab.{Slab, Updates, get}
use Rattle.lf_base.specs.declared.ids.ObjId.{ObjId}
use Rattle.lf_base.specs.declared.values.Owner.{Owner}
use Rattle.lf_base.specs.declared.values.Owner.TheVariants.{Frozen, In, Local}
use Rattle.lf_base.specs.Names.{same_name, same_owner}
use Rattle.lf_graph.specs.StoredRows.{CountedRow, rows_of}
use Rattle.lf_graph.proofs.Stores.Reordered.{same_owner_itself}
use Rattle.lf_poolstore.specs.declared.place.Place.{Place}
use Rattle.lf_poolstore.specs.Pools.{ArePools, Numbers, first_number_of, place_of, rows_by, slot_rows, unit_by}
use Rattle.lf_poolstore.specs.Units.{IsWhole, StandsAt, UnitView}
use Rattle.lf_poolstore.proofs.AddedUnits.{added_kept, same_kept}
use Rattle.lf_poolstore.proofs.PoolRows.{shown_rows, some_same}

-- no owner has rows
pub no_rows : (rows : List CountedRow) → ((w : Owner) → rows_of w rows ≡ []) → rows ≡ []
no_rows [] k = refl
no_rows (c ∷ cs) k = let h = sym (ap (λ b. cond b (c ∷ rows_of (c.row).owner cs) (rows_of (c.row).owner cs)) (same_owner_itself (c.row).owner)) ∙ k (c.row).owner in absurd (cc h)

module _ (index : ObjId → Option Place) (none one two : Slab UnitView) (local frozen : ℕ) (u v : UnitView) (empty : none.slots ≡ [])
    (first_vacant : get none local ≡ None) (first : Updates none one local (Some u)) (second_vacant : get one frozen ≡ None) (second : Updates one two frozen (Some v))
    (u_owner : u.owner ≡ Local) (v_owner : v.owner ≡ Frozen) (u_whole : IsWhole u) (v_whole : IsWhole v) (u_places : u.places ≡ []) (v_places : v.places ≡ []) (u_rows : u.rows ≡ []) (v_rows : v.rows ≡ []) where
  no_units : (m : ℕ) → get none m ≡ None
  no_units m = ap (λ s. slice_index_or s m None) empty

  abbrev numbers_one : Numbers
  numbers_one w = cond (same_owner u.owner w) (Some local) None

  abbrev numbers_two : Numbers
  numbers_two w = cond (same_owner v.owner w) (Some frozen) (numbers_one w)

  nothing : (t : UnitView) → t.places ≡ [] → (n : ℕ) (r : ObjId) (x : ℕ) → StandsAt t x r → index r ≡ Some (place_of n x)
  nothing t e n r x s = let f = sym s ∙ ap (lookup (same_name r)) e in absurd (cc f)

  at_first : ArePools index (λ w. None) (get none)
  at_first = record {
    whole = λ n t e. let f = sym (no_units n) ∙ e in absurd (cc f);
    owned = λ n t e. let f = sym (no_units n) ∙ e in absurd (cc f);
    there = λ w. refl;
    indexed = λ n t r x e s. let f = sym (no_units n) ∙ e in absurd (cc f);
  }

  with_local : ArePools index numbers_one (get one)
  with_local = added_kept index (λ w. None) numbers_one (get none) (get one) at_first local u (record { vacant = first_vacant; here = first.changed; others = first.others; number = λ w. refl }) refl u_whole
      index (nothing u u_places local) (λ m t r x e s. at_first.indexed m t r x e s)

  with_both : ArePools index numbers_two (get two)
  with_both = added_kept index numbers_one numbers_two (get one) (get two) with_local frozen v (record { vacant = second_vacant; here = second.changed; others = second.others; number = λ w. refl })
      (λ i. cond (same_owner (u_owner i) (v_owner i)) (Some local) None) v_whole index (nothing v v_places frozen) (λ m t r x e s. with_local.indexed m t r x e s)

  numbers_are : (w : Owner) → first_number_of local frozen w ≡ numbers_two w
  numbers_are w = go w ∙ sym (λ i. cond (same_owner (v_owner i) w) (Some frozen) (cond (same_owner (u_owner i) w) (Some local) None)) where
    go : (y : Owner) → first_number_of local frozen y ≡ cond (same_owner Frozen y) (Some frozen) (cond (same_owner Local y) (Some local) None)
    go Local = refl
    go (In r) = refl
    go Frozen = refl

  module _ (numbers : Numbers) (is : (w : Owner) → numbers w ≡ first_number_of local frozen w) where
    pub first_kept : ArePools index numbers (get two)
    first_kept = same_kept index index numbers_two numbers (get two) (get two) (record { number = λ w. is w ∙ numbers_are w; unit = λ m. refl }) with_both (λ o. refl)

    -- each unit is without rows
    pub first_rows : slot_rows two.slots ≡ []
    first_rows = no_rows (slot_rows two.slots) (λ w. shown_rows index numbers two.slots first_kept w ∙ go w (numbers w) refl) where
      no_rows_at : (n : ℕ) (t : Option UnitView) → get two n ≡ t → rows_by t ≡ []
      no_rows_at n None e = refl
      no_rows_at n (Some t) e = elim (eqb frozen n) as (λ b. eqb frozen n ≡ b → t.rows ≡ []) [
        | true ↦ λ k.
            let there : get two n ≡ Some v = ap (get two) (sym ((Decides-eqb frozen n).0 k)) ∙ second.changed in
            ap (λ (y : UnitView). y.rows) (some_same t v (sym e ∙ there)) ∙ v_rows
        | false ↦ λ k. in_one (sym (second.others n (λ z. let y : eqb frozen n ≡ true = (Decides-eqb frozen n).1 (sym z) in cc (y, k))) ∙ e)
      ] refl where
        in_one : get one n ≡ Some t → t.rows ≡ []
        in_one f = elim (eqb local n) as (λ b. eqb local n ≡ b → t.rows ≡ []) [
          | true ↦ λ k.
              let there : get one n ≡ Some u = ap (get one) (sym ((Decides-eqb local n).0 k)) ∙ first.changed in
              ap (λ (y : UnitView). y.rows) (some_same t u (sym f ∙ there)) ∙ u_rows
          | false ↦ λ k. let g = sym (no_units n) ∙ sym (first.others n (λ z. let y : eqb local n ≡ true = (Decides-eqb local n).1 (sym z) in cc (y, k))) ∙ f in absurd (cc g)
        ] refl

      go : (w : Owner) (t : Option ℕ) → numbers w ≡ t → rows_by (unit_by (get two) t) ≡ []
      go w None e = refl
      go w (Some n) e = no_rows_at n (get two n) refl

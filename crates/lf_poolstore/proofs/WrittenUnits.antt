-- A unit in which a field of one row was written.
use Rattle.std.proofs.Common.{◌≡◌, ℕ, Bool, true, false, cond, List, [], ◌∷◌, option_map, Some, refl, ap, sym, ◌∙◌, subst}
use Rattle.std.specs.Prelude.{eqb}
use Rattle.std.specs.Option.{IsSome}
use Rattle.std.proofs.lemmas.Bool.Decides.{Decides-eqb}
use Rattle.lf_base.specs.declared.ids.ObjId.{ObjId}
use Rattle.lf_base.specs.declared.values.Key.{Key}
use Rattle.lf_base.specs.declared.values.Value.{Value}
use Rattle.lf_base.specs.declared.values.Owner.{Owner}
use Rattle.lf_base.specs.Links.{NodesDiffer}
use Rattle.lf_base.specs.Names.{same_name}
use Rattle.lf_base.proofs.NameLemmas.SameNames.{same_name_flips}
use Rattle.lf_pool.specs.Cells.{node}
use Rattle.lf_graph.specs.RowChanges.{changed, with_fields}
use Rattle.lf_graph.specs.StoredRows.{CountedRow}
use Rattle.lf_poolstore.specs.declared.unit_row.UnitRow.{UnitRow}
use Rattle.lf_poolstore.specs.RowLists.{entry_at, numbers_in, with_entry}
use Rattle.lf_poolstore.specs.Units.{Apart, FieldPool, IsUnit, KeepsFields, KeepsRow, Writes, fields_of, places_in, rows_in, whole}
use Rattle.lf_poolstore.proofs.Entries.{Agree, Entries, entry_set, names_set, numbers_set, places_set}
use Rattle.lf_poolstore.proofs.SeenUnits.{found_later, same_row}

abbrev row_of : Owner → ObjId → ℕ → List (Key × Value) → CountedRow
row_of owner name refs fs = record { row = record { name = name; owner = owner; fields = fs }; refs = refs }

module _ (m n : FieldPool) (es : Entries) (unit : IsUnit es m) (at : ℕ) (row now : UnitRow) (found : entry_at es at ≡ Some row) (keeps : KeepsRow row now) (fields : List (Key × Value)) (w : Writes m n row now fields) where
  only : (x : UnitRow) → entry_at es at ≡ Some x → x.name ≡ now.name
  only x g = ap (λ (u : UnitRow). u.name) (same_row (sym g ∙ found)) ∙ sym keeps.name

  pub written_places : places_in (with_entry at now es) ≡ places_in es
  written_places = places_set at now es unit.numbers_differ only

  other : (x : ℕ) (s : UnitRow) → entry_at es x ≡ Some s → eqb at x ≡ false → KeepsFields n s × (fields_of n s ≡ fields_of m s) × Apart now s
  other x s f d = w.others s (unit.fields x s f) (unit.apart at x row s found f d)

  -- a row of the list now is the one that was written, or another one of before
  data Now (x : ℕ) (s : UnitRow) : Type 0 where
    this : eqb at x ≡ true → s ≡ now → Now x s
    that : eqb at x ≡ false → entry_at es x ≡ Some s → Now x s

  now_at : (x : ℕ) (s : UnitRow) → entry_at (with_entry at now es) x ≡ Some s → Now x s
  now_at x s e = go (eqb at x) refl (sym (entry_set at now es x) ∙ e) where
    go : (b : Bool) → eqb at x ≡ b → cond b (option_map (λ _. now) (entry_at es x)) (entry_at es x) ≡ Some s → Now x s
    go false d g = that d g
    go true d g = this d (sym (same_row (sym (ap (option_map (λ _. now)) (ap (entry_at es) (sym ((Decides-eqb at x).0 d)) ∙ found)) ∙ g)))

  pub written_unit : IsUnit (with_entry at now es) n
  written_unit =
      record {
        numbers_differ = subst (NodesDiffer eqb) (sym (numbers_set at now es)) unit.numbers_differ;
        names_differ = subst (NodesDiffer same_name) (sym (names_set at now es unit.numbers_differ only)) unit.names_differ;
        fields = λ x s e. field_kept x s (now_at x s e);
        apart = λ a b r s f g d c h k. apart_kept a b r s (now_at a r f) (now_at b s g) d c h k;
      }
    where
      field_kept : (x : ℕ) (s : UnitRow) → Now x s → KeepsFields n s
      field_kept x s (this d e) = subst (KeepsFields n) (sym e) w.keeps
      field_kept x s (that d f) = (other x s f d).0

      apart_kept : (a b : ℕ) (r s : UnitRow) → Now a r → Now b s → eqb a b ≡ false → (c : ℕ) → node r.fields ≡ Some c → node s.fields ≡ Some c → ⊥
      apart_kept a b r s (that d f) (that e g) n1 c h k = unit.apart a b r s f g n1 c h k
      apart_kept a b r s (this d e) (that f g) n1 c h k = (other b s g f).2 c (ap (λ (u : UnitRow). node u.fields) (sym e) ∙ h) k
      apart_kept a b r s (that d f) (this e g) n1 c h k = (other a r f d).2 c (ap (λ (u : UnitRow). node u.fields) (sym g) ∙ k) h
      apart_kept a b r s (this d e) (this f g) n1 c h k =
          let t : eqb a b ≡ true = (Decides-eqb a b).1 (sym ((Decides-eqb at a).0 d) ∙ (Decides-eqb at b).0 f) in absurd (cc (t, n1))

  pub written_rows : (owner : Owner) (o : ObjId) (g : List (Key × Value) → List (Key × Value)) → fields ≡ g (fields_of m row) → (us : Entries) → Agree at o us → NodesDiffer eqb (numbers_in us)
      → ((x : ℕ) → (r : UnitRow) → entry_at us x ≡ Some r → entry_at es x ≡ Some r) → rows_in owner n (with_entry at now us) ≡ changed (rows_in owner m us) o (λ c. with_fields (g (c.row).fields) c)
  written_rows owner o g is_g [] a d k = refl
  written_rows owner o g is_g (e ∷ us) a d k = λ i. (one (eqb at e.0) refl ∙ turned) i ∷ written_rows owner o g is_g us a.1 d.1 (λ x r f. k x r (found_later e us x d.0 (subst IsSome (sym f) refl) ∙ f)) i where
    here : entry_at es e.0 ≡ Some e.1
    here = k e.0 e.1 (ap (λ b. cond b (Some e.1) (entry_at us e.0)) ((Decides-eqb e.0 e.0).1 refl))

    one : (b : Bool) → eqb at e.0 ≡ b → whole owner n (cond b (at, now) e).1 ≡ cond b (with_fields (g (fields_of m e.1)) (whole owner m e.1)) (whole owner m e.1)
    one true t =
        let s : row ≡ e.1 = same_row (sym found ∙ ap (entry_at es) ((Decides-eqb at e.0).0 t) ∙ here) in
        (λ i. row_of owner ((keeps.name ∙ ap (λ (u : UnitRow). u.name) s) i) ((keeps.refs ∙ ap (λ (u : UnitRow). u.refs) s) i) ((w.here ∙ is_g ∙ ap (λ u. g (fields_of m u)) s) i))
    one false t = ap (row_of owner (e.1).name (e.1).refs) (other e.0 e.1 here t).1

    turned : cond (eqb at e.0) (with_fields (g (fields_of m e.1)) (whole owner m e.1)) (whole owner m e.1) ≡ cond (same_name (e.1).name o) (with_fields (g (fields_of m e.1)) (whole owner m e.1)) (whole owner m e.1)
    turned = ap (λ b. cond b (with_fields (g (fields_of m e.1)) (whole owner m e.1)) (whole owner m e.1)) (a.0 ∙ same_name_flips o (e.1).name)

-- the same row at its number
pub same_entry : (at : ℕ) (row : UnitRow) (es : Entries) → NodesDiffer eqb (numbers_in es) → ((x : UnitRow) → entry_at es at ≡ Some x → x ≡ row) → with_entry at row es ≡ es
same_entry at row [] d k = refl
same_entry at row (e ∷ es) d k = λ i. one (eqb at e.0) refl i ∷ same_entry at row es d.1 (λ x f. k x (later x f)) i where
  later : (x : UnitRow) → entry_at es at ≡ Some x → entry_at (e ∷ es) at ≡ Some x
  later x f = found_later e es at d.0 (subst IsSome (sym f) refl) ∙ f

  one : (b : Bool) → eqb at e.0 ≡ b → cond b (at, row) e ≡ e
  one true t = let s = k e.1 (ap (λ b. cond b (Some e.1) (entry_at es at)) t) in λ i. ((Decides-eqb at e.0).0 t i, sym s i)
  one false t = refl

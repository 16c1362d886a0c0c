-- What a read gives is a value of the state, so that a further slot may hold it.
use Rattle.std.proofs.Common.{List, None, Option, Some, cond, false, inl, inr, map, refl, true, ◌++◌, ◌∷◌, ◌≡◌, []}
use Rattle.std.proofs.lemmas.Option.{none-some}
use Rattle.lf_base.specs.declared.ids.CownId.{CownId}
use Rattle.lf_base.specs.declared.ids.ObjId.{ObjId}
use Rattle.lf_base.specs.declared.values.Key.{Key}
use Rattle.lf_base.specs.declared.values.Value.{Value}
use Rattle.lf_base.specs.declared.values.Value.TheVariants.{Cown, Obj}
use Rattle.lf_base.specs.Accesses.{read_value}
use Rattle.lf_base.specs.ContentResult.{content_at}
use Rattle.lf_base.specs.Names.{same_cown, same_key, same_name}
use Rattle.lf_base.specs.Owners.{row_at}
use Rattle.lf_base.specs.PlainState.{Row, State}
use Rattle.lf_base.specs.Sets.{Member}
use Rattle.lf_base.specs.TakeResult.{field_at, row_field}
use Rattle.lf_base.specs.WellFormed.{SlotMayHold, WellFormed, all_values, content_values, field_values, slot_values}
use Rattle.lf_base.proofs.ListLemmas.Members.{Member_flat_map, Member_left, Member_of_append, Member_right}
use Rattle.lf_base.proofs.ListLemmas.Tests.{some_is}
use Rattle.lf_laws.proofs.Changes.SameOwners.{value_may_be_held}

pub found_row : (rows : List Row) (o : ObjId) (x : Row) → row_at rows o ≡ Some x → Member x rows
found_row [] o x e = absurd (none-some x e)
found_row (r ∷ rs) o x e = elim (same_name r.name o) as (λ b. cond b (Some r) (row_at rs o) ≡ Some x → Member x (r ∷ rs)) [
  | true ↦ λ h. inl (some_is r x h)
  | false ↦ λ h. inr (found_row rs o x h)
] e

pub found_field : (fs : List (Key × Value)) (k : Key) (v : Value) → field_at fs k ≡ Some v → Member v (map (λ (f : Key × Value). f.1) fs)
found_field [] k v e = absurd (none-some v e)
found_field (f ∷ fs) k v e = elim (same_key f.0 k) as (λ b. cond b (Some f.1) (field_at fs k) ≡ Some v → Member v (map (λ (g : Key × Value). g.1) (f ∷ fs))) [
  | true ↦ λ h. inl (some_is f.1 v h)
  | false ↦ λ h. inr (found_field fs k v h)
] e

pub found_content : (hs : List (CownId × Value)) (c : CownId) (v : Value) → content_at hs c ≡ Some v → Member v (content_values hs)
found_content [] c v e = absurd (none-some v e)
found_content (h ∷ hs) c v e = elim (same_cown h.0 c) as (λ b. cond b (Some h.1) (content_at hs c) ≡ Some v → Member v (content_values (h ∷ hs))) [
  | true ↦ λ k. inl (some_is h.1 v k)
  | false ↦ λ k. inr (found_content hs c v k)
] e

module _ (s : State) where
  row_values : (x : Row) (v : Value) → Member x (s.rows ++ (s.given ++ s.own)) → Member v (map (λ (f : Key × Value). f.1) x.fields) → Member v (all_values s)
  row_values x v m n =
      let values : Row → List Value = λ r. map (λ (f : Key × Value). f.1) r.fields in
      Member_right v (slot_values s.slots) _ (elim (Member_of_append x s.rows (s.given ++ s.own) m) [
        | inl h ↦ Member_left v (field_values s.rows) _ (Member_flat_map values x v s.rows h n)
        | inr h ↦ Member_right v (field_values s.rows) _ (Member_right v (content_values s.held) _ (Member_right v (content_values s.made) _
            (elim (Member_of_append x s.given s.own h) [
              | inl j ↦ Member_left v (field_values s.given) _ (Member_flat_map values x v s.given j n)
              | inr j ↦ Member_right v (field_values s.given) _ (Member_flat_map values x v s.own j n)
            ])))
      ])

  field_value : (w : Option Row) (o : ObjId) (k : Key) (v : Value) → row_at (s.rows ++ (s.given ++ s.own)) o ≡ w → row_field w k ≡ Some v → Member v (all_values s)
  field_value None o k v h e = absurd (none-some v e)
  field_value (Some x) o k v h e = row_values x v (found_row (s.rows ++ (s.given ++ s.own)) o x h) (found_field x.fields k v e)

  pub read_is_value : (target : Value) (k : Option Key) (v : Value) → read_value s target k ≡ Some v → Member v (all_values s)
  read_is_value (Obj o) (Some k) v e = field_value (row_at (s.rows ++ (s.given ++ s.own)) o) o k v refl e
  read_is_value (Cown c) (Some k) v e = Member_right v (slot_values s.slots) _ (Member_right v (field_values s.rows) _ (Member_left v (content_values s.held) _ (found_content s.held c v e)))
  read_is_value _ _ v e = absurd (none-some v e)

  pub read_may_be_held : (target : Value) (k : Option Key) (v : Value) → WellFormed s → read_value s target k ≡ Some v → SlotMayHold s v
  read_may_be_held target k v t e = value_may_be_held s v t (read_is_value target k v e)

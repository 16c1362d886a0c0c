-- A walk over a row's fields, from each to the one after it.
use Rattle.std.proofs.Common.{List, None, Option, Some, [], ap, arith, cond, false, inl, inr, length, map, refl, subst, sym, true, ◌+◌, ◌++◌, ◌∙◌, ◌∷◌, ◌≡◌}
use Rattle.std.specs.List.{list_any}
use Rattle.std.proofs.lemmas.List.{append-nil, append_assoc, length-append}
use Rattle.lf_base.specs.declared.values.Key.{Key}
use Rattle.lf_base.specs.declared.values.Value.{Value}
use Rattle.lf_base.specs.FieldOrder.{field_after, field_past}
use Rattle.lf_base.specs.Links.{head_or}
use Rattle.lf_base.specs.Names.{same_key}
use Rattle.lf_base.specs.Sets.{Differ, Member}
use Rattle.lf_base.proofs.ListLemmas.Members.{Member_any, Member_map, Member_right}
use Rattle.lf_base.proofs.NameLemmas.SameNames.{same_key_itself}

abbrev pub Fields : Type 0
Fields = List (Key × Value)

abbrev pub FieldKeysDiffer : Fields → Type 0
FieldKeysDiffer fields = Differ same_key (map (λ f. f.0) fields)

pub after_field : (before after : Fields) (f : Key × Value) → FieldKeysDiffer (before ++ f ∷ after) → field_past (before ++ f ∷ after) f.0 ≡ head_or after None
after_field [] after f d = ap (λ b. cond b (head_or after None) (field_past after f.0)) (same_key_itself f.0)
after_field (x ∷ xs) after f d =
    elim (same_key f.0 x.0) as (λ b. same_key f.0 x.0 ≡ b → cond b (head_or (xs ++ f ∷ after) None) (field_past (xs ++ f ∷ after) f.0) ≡ head_or after None) [
      | true ↦ λ e.
          let twice : list_any (λ k. same_key k x.0) (map (λ (g : Key × Value). g.0) (xs ++ f ∷ after)) ≡ true
          = Member_any (λ k. same_key k x.0) f.0 (map (λ (g : Key × Value). g.0) (xs ++ f ∷ after)) (Member_map (λ (g : Key × Value). g.0) f (xs ++ f ∷ after) (Member_right f xs (f ∷ after) (inl refl))) e in
          let once : list_any (λ k. same_key k x.0) (map (λ (g : Key × Value). g.0) (xs ++ f ∷ after)) ≡ false = d.0 in cc
      | false ↦ λ e. after_field xs after f d.1
    ] refl

first_is_there : (fields : Fields) (f : Key × Value) → head_or fields None ≡ Some f → Member f fields
first_is_there [] f e = cc
first_is_there (x ∷ xs) f e = let same : x ≡ f = cc in inl same

past_is_there : (fields : Fields) (k : Key) (f : Key × Value) → field_past fields k ≡ Some f → Member f fields
past_is_there [] k f e = cc
past_is_there (x ∷ xs) k f e = elim (same_key k x.0) as (λ b. cond b (head_or xs None) (field_past xs k) ≡ Some f → Member f (x ∷ xs)) [
  | true ↦ λ h. inr (first_is_there xs f h)
  | false ↦ λ h. inr (past_is_there xs k f h)
] e

pub after_is_there : (fields : Fields) (at : Option Key) (f : Key × Value) → field_after fields at ≡ Some f → Member f fields
after_is_there fields None f e = first_is_there fields f e
after_is_there fields (Some k) f e = past_is_there fields k f e

-- the fields so far, of which that key is the last one's, and those that are left
pub record Walked (all so_far : Fields) (last : Option Key) : Type 0 where
  pub rest : Fields
  pub split : all ≡ so_far ++ rest
  pub next : field_after all last ≡ head_or rest None

pub none_walked : (all : Fields) → Walked all [] None
none_walked all = record { rest = all; split = refl; next = refl }

pub one_walked : (all so_far : Fields) (last : Option Key) (f : Key × Value) → FieldKeysDiffer all → Walked all so_far last → Some f ≡ field_after all last → Walked all (so_far ++ f ∷ []) (Some f.0)
one_walked all so_far last f d w found = go w.rest w.split (found ∙ w.next) where
  go : (rest : Fields) → all ≡ so_far ++ rest → Some f ≡ head_or rest None → Walked all (so_far ++ f ∷ []) (Some f.0)
  go [] split e = cc
  go (x ∷ xs) split e =
      let same : x ≡ f = cc in
      let all_is : all ≡ so_far ++ f ∷ xs = split ∙ ap (λ y. so_far ++ y ∷ xs) same in
      record {
        rest = xs;
        split = all_is ∙ sym (append_assoc so_far (f ∷ []) xs);
        next = ap (λ l. field_past l f.0) all_is ∙ after_field so_far xs f (subst FieldKeysDiffer all_is d);
      }

no_rest : (rest : Fields) → length rest ≡ 0 → rest ≡ []
no_rest [] e = refl
no_rest (x ∷ xs) e = absurd (omega arith)

-- as many as there are
pub all_walked : (all so_far : Fields) (last : Option Key) → Walked all so_far last → length so_far ≡ length all → so_far ≡ all
all_walked all so_far last w n =
    let l : length all ≡ length so_far + length w.rest = ap length w.split ∙ length-append so_far w.rest in
    let none : w.rest ≡ [] = no_rest w.rest (omega arith) in
    sym (w.split ∙ ap (λ l. so_far ++ l) none ∙ append-nil so_far)

-- where none comes after the last one, these were all
pub walk_ends : (all so_far : Fields) (last : Option Key) → Walked all so_far last → None ≡ field_after all last → length so_far ≡ length all
walk_ends all so_far last w e = go w.rest w.split (e ∙ w.next) where
  go : (rest : Fields) → all ≡ so_far ++ rest → None ≡ head_or rest None → length so_far ≡ length all
  go [] split e = sym (ap length (split ∙ append-nil so_far))
  go (x ∷ xs) split e = cc

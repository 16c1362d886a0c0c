-- Sets of names, after a name is put in.
use Rattle.std.proofs.Common.{◌≡◌, ℕ, Bool, true, false, cond, not, ◌||◌, ◌==◌, List, [], ◌∷◌, ◌++◌, refl, ap, sym, ◌∙◌}
use Rattle.std.proofs.Math.Bool.{or-false}
use Rattle.std.proofs.lemmas.Bool.{eq-eqb, eqb-true, not-false}
use Rattle.std.proofs.lemmas.List.Folds.{list_any-append}
use Rattle.lf_base.specs.declared.ids.TextId.{TextId}
use Rattle.lf_parser.specs.declared.name.Name.{Name}
use Rattle.lf_base.specs.Texts.{same_text}
use Rattle.lf_codegen.specs.Frames.{is_among, with_new_name}

same_number : (a b : ℕ) → (a == b) ≡ (b == a)
same_number a b = elim (a == b) as (λ x. (a == b) ≡ x → x ≡ (b == a)) [
  | true ↦ λ h. sym (eq-eqb b a (sym (eqb-true a b h)))
  | false ↦ λ h. elim (b == a) as (λ y. (b == a) ≡ y → false ≡ y) [
    | true ↦ λ k. sym h ∙ eq-eqb a b (sym (eqb-true b a k))
    | false ↦ λ k. refl
  ] refl
] refl

pub same_text_sym : (a b : TextId) → same_text a b ≡ same_text b a
same_text_sym a b = same_number a.index b.index

or_one : (a b : Bool) → cond a true b ≡ (b || (a || false))
or_one true true = refl
or_one true false = refl
or_one false true = refl
or_one false false = refl

-- one name more
pub among_more : (id : TextId) (names : List Name) (x : Name)
    → cond (same_text x.id id) true (is_among id names) ≡ is_among id (names ++ x ∷ [])
among_more id names x = or_one (same_text x.id id) (is_among id names) ∙ ap (λ t. is_among id names || (t || false)) (same_text_sym x.id id)
    ∙ sym (list_any-append (λ (y : Name). same_text id y.id) names (x ∷ []))

-- a name that is there already
pub among_again : (id : TextId) (names : List Name) (x : Name) → is_among x.id names ≡ true
    → is_among id (names ++ x ∷ []) ≡ is_among id names
among_again id names x there = list_any-append (λ (y : Name). same_text id y.id) names (x ∷ [])
    ∙ elim (same_text id x.id) as (λ b. same_text id x.id ≡ b → (is_among id names || (b || false)) ≡ is_among id names) [
      | true ↦ λ h. let t : is_among id names ≡ true =
          ap (λ k. is_among (record { index = k }) names) (eqb-true id.index x.id.index h) ∙ there in
          ap (λ b. b || true) t ∙ sym t
      | false ↦ λ h. or-false (is_among id names)
    ] refl

-- a name that wasn't new when it was put in
pub old_name : (names : List Name) (x : Name) (is_new : Bool) → is_new ≡ not (is_among x.id names) → is_new ≡ false
    → is_among x.id names ≡ true
old_name names x is_new e t = not-false (is_among x.id names) (sym e ∙ t)

pub with_old : (names : List Name) (x : Name) → is_among x.id names ≡ true → with_new_name names x ≡ names
with_old names x h = ap (λ c. cond c names (names ++ x ∷ [])) h

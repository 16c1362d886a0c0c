-- The table of functions, after one more is added.
use Rattle.std.proofs.Common.{◌≡◌, ℕ, true, false, cond, is_some, Option, Some, None, List, [], ◌∷◌, ◌++◌, length, refl, ap, sym, ◌∙◌}
use Rattle.std.specs.Option.{option_or}
use Rattle.std.proofs.lemmas.Bool.{eqb-true}
use Rattle.lf_base.specs.declared.ids.TextId.{TextId}
use Rattle.lf_parser.specs.Plain.{PlainFunction}
use Rattle.lf_base.specs.Texts.{same_text}
use Rattle.lf_codegen.specs.Callees.{params_of}
use Rattle.lf_codegen.proofs.NameTables.SetsOfNames.{same_text_sym}

with_last : (fs : List PlainFunction) (f : PlainFunction) (id : TextId)
    → params_of (fs ++ f ∷ []) id ≡ option_or (params_of fs id) (cond (same_text id f.name.id) (Some (length f.params)) None)
with_last [] f id = refl
with_last (g ∷ gs) f id = elim (same_text id g.name.id)
    as (λ b. cond b (Some (length g.params)) (params_of (gs ++ f ∷ []) id)
    ≡ option_or (cond b (Some (length g.params)) (params_of gs id)) (cond (same_text id f.name.id) (Some (length f.params)) None)) [
      | true ↦ refl
      | false ↦ with_last gs f id
    ]

same_is : (a b : TextId) → same_text a b ≡ true → a ≡ b
same_is a b h = ap (λ n. record { index = n }) (eqb-true a.index b.index h)

with_none : (a : Option ℕ) → option_or a None ≡ a
with_none None = refl
with_none (Some a) = refl

with_some : (a b : Option ℕ) → is_some a ≡ true → option_or a b ≡ a
with_some None b h = absurd cc
with_some (Some a) b h = refl

no_first : (a b : Option ℕ) → is_some a ≡ false → option_or a b ≡ b
no_first None b h = refl
no_first (Some a) b h = absurd cc

-- a function of a new name
pub function_added : (fs : List PlainFunction) (f : PlainFunction) (id : TextId) → is_some (params_of fs f.name.id) ≡ false
    → cond (same_text f.name.id id) (Some (length f.params)) (params_of fs id) ≡ params_of (fs ++ f ∷ []) id
function_added fs f id h = sym (with_last fs f id ∙ elim (same_text id f.name.id) as (λ b. same_text id f.name.id ≡ b
    → option_or (params_of fs id) (cond b (Some (length f.params)) None) ≡ cond b (Some (length f.params)) (params_of fs id)) [
      | true ↦ λ e. no_first (params_of fs id) _ (ap (λ k. is_some (params_of fs k)) (same_is id f.name.id e) ∙ h)
      | false ↦ λ e. with_none (params_of fs id)
    ] refl ∙ ap (λ b. cond b (Some (length f.params)) (params_of fs id)) (same_text_sym id f.name.id))

-- a function of a name that is there
pub function_kept : (fs : List PlainFunction) (f : PlainFunction) (id : TextId) → is_some (params_of fs f.name.id) ≡ true
    → params_of fs id ≡ params_of (fs ++ f ∷ []) id
function_kept fs f id h = sym (with_last fs f id ∙ elim (same_text id f.name.id) as (λ b. same_text id f.name.id ≡ b
    → option_or (params_of fs id) (cond b (Some (length f.params)) None) ≡ params_of fs id) [
      | true ↦ λ e. with_some (params_of fs id) _ (ap (λ k. is_some (params_of fs k)) (same_is id f.name.id e) ∙ h)
      | false ↦ λ e. with_none (params_of fs id)
    ] refl)

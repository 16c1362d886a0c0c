-- What it means that texts are among those that tokens name, and that a rule adds its texts so.
use Rattle.std.proofs.Common.{◌≡◌, ◌<◌, ℕ, List, Some, [], ◌∷◌, ◌++◌, refl, subst, inl, inr}
use Rattle.lf_base.specs.declared.ids.TextId.{TextId}
use Rattle.lf_base.specs.declared.refusals.Place.{Place}
use Rattle.lf_base.specs.Sets.{Member}
use Rattle.lf_base.proofs.ListLemmas.Members.{Member_of_append}
use Rattle.lf_lexer.specs.declared.tokens.Lexeme.{Lexeme}
use Rattle.lf_lexer.specs.declared.tokens.Lexeme.TheVariants as lexeme
use Rattle.lf_lexer.specs.declared.tokens.Token.{Token}
use Rattle.lf_lexer.specs.NamedTexts.{NamesWithin, AllNameWithin}
use Rattle.lf_parser.specs.declared.name.Name.{Name}
use Rattle.lf_parser.specs.Forms.{Form}
use Rattle.lf_parser.specs.Words.{name_at}
use Rattle.lf_parser.specs.Grammar.{AName}
use Rattle.lf_parser.proofs.Order.AddedItems.{Among, AddsInOrder}

module _ (count : ℕ) where
  -- where the tokens name texts below a number alone, so do these
  pub record TextsWithin (ids : List TextId) (tokens : List Token) : Type 0 where
    pub within : AllNameWithin count tokens → (t : TextId) → Member t ids → t.index < count

  within_first : (xs ys : List Token) → AllNameWithin count (xs ++ ys) → AllNameWithin count xs
  within_first [] ys h = tt
  within_first (x ∷ xs) ys h = (h.0, within_first xs ys h.1)

  within_last : (xs ys : List Token) → AllNameWithin count (xs ++ ys) → AllNameWithin count ys
  within_last [] ys h = h
  within_last (x ∷ xs) ys h = within_last xs ys h.1

  pub joined : {us vs : List TextId} {xs ys : List Token} → TextsWithin us xs → TextsWithin vs ys → TextsWithin (us ++ vs) (xs ++ ys)
  joined {us} {vs} {xs} {ys} p q = record {
    within = λ h t m. elim (Member_of_append t us vs m) [
      | inl k ↦ p.within (within_first xs ys h) t k
      | inr k ↦ q.within (within_last xs ys h) t k
    ];
  }

  pub none_within : (tokens : List Token) → TextsWithin [] tokens
  none_within tokens = record { within = λ h t m. absurd m }

  abbrev pub texts_among : Among (Unit {0}) TextId
  texts_among = record { Stand = λ i j ids tokens. TextsWithin ids tokens; none = λ i tokens. none_within tokens; join = λ p q. joined p q }

  -- a form whose values have these texts and those of its tokens
  abbrev pub AddsTexts : {A : Type 0} → List TextId → (A → List TextId) → Form A → Type 0
  AddsTexts before f P = AddsInOrder texts_among tt tt before f P

  name_within : (l : Lexeme) (place : Place) (x : Name) → name_at l place ≡ Some x → NamesWithin count l → x.id.index < count
  name_within (lexeme.Name id) place x e w =
      let k : record { id = id; place = place } ≡ x = cc in subst (λ (n : Name). n.id.index < count) k w
  name_within _ place x e w = absurd (cc)

  one_within : (l : Lexeme) (place : Place) (x : Name) → name_at l place ≡ Some x → NamesWithin count l → (t : TextId)
      → Member t (x.id ∷ []) → t.index < count
  one_within l place x e w t (inl same) = subst (λ (i : TextId). i.index < count) same (name_within l place x e w)
  one_within l place x e w t (inr m) = absurd m

  -- the text of a name
  pub takes_id : {before : List TextId} → AddsTexts before (λ (x : Name). before ++ x.id ∷ []) AName
  takes_id {before} = record {
    each = λ ts x h. record {
      items = x.id ∷ [];
      is = refl;
      stand = record { within = λ w. one_within (h.0).lexeme (h.0).place x h.2 (subst (AllNameWithin count) h.1 w).0 };
    };
  }

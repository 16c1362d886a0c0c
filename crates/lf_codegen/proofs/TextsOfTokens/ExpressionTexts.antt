-- Each rule of an expression adds the texts among its tokens.
use Rattle.std.proofs.Common.{◌≡◌, ◌<◌, ℕ, zero, suc, List, [], ◌∷◌, ◌++◌, Some, refl, sym, ap, ◌∙◌, subst, append-nil, append_assoc, inl}
use Rattle.std.proofs.Common.{inr}
use Rattle.lf_base.specs.declared.ids.TextId.{TextId}
use Rattle.lf_base.specs.Sets.{Member}
use Rattle.lf_lexer.specs.declared.tokens.Lexeme.{Lexeme}
use Rattle.lf_lexer.specs.declared.tokens.Lexeme.TheVariants as lexeme
use Rattle.lf_lexer.specs.declared.tokens.Mark.TheVariants as mark
use Rattle.lf_lexer.specs.NamedTexts.{NamesWithin, AllNameWithin}
use Rattle.lf_parser.specs.declared.name.Name.{Name}
use Rattle.lf_parser.specs.declared.expressions.Level.{Level}
use Rattle.lf_parser.specs.declared.expressions.Level.TheVariants as level
use Rattle.lf_parser.specs.Forms.{Form, Takes, Many}
use Rattle.lf_parser.specs.Words.{literal, literal_of}
use Rattle.lf_parser.specs.Plain.{PlainExpr, args_of}
use Rattle.lf_parser.specs.Plain as plain
use Rattle.lf_parser.specs.Grammar.{Deeper, moved_place, within}
use Rattle.lf_parser.specs.Grammar as form
use Rattle.lf_parser.proofs.Order.AddedItems.{yields_adds, takes_none, then_adds, either_adds, only_adds, adds_after, many_adds}
use Rattle.lf_codegen.specs.TextsNamed.{expr_texts, args_texts}
use Rattle.lf_codegen.proofs.TextsOfTokens.TextsAmongTokens.{AddsTexts, takes_id}

module _ (count : ℕ) where
  abbrev pub list_texts : List PlainExpr → List TextId
  list_texts es = args_texts (args_of es)

  list_texts_last : (es : List PlainExpr) (e : PlainExpr) → list_texts (es ++ e ∷ []) ≡ list_texts es ++ expr_texts e
  list_texts_last [] e = append-nil (expr_texts e)
  list_texts_last (d ∷ es) e = ap (λ ns. expr_texts d ++ ns) (list_texts_last es e) ∙ sym (append_assoc (expr_texts d) (list_texts es)
      (expr_texts e))

  moved_texts : (e : PlainExpr) → expr_texts (moved_place e) ≡ expr_texts e
  moved_texts (plain.Var x) = refl
  moved_texts (plain.Field target key) = refl
  moved_texts _ = refl

  -- a literal has its text
  literal_within : (l : Lexeme) (e : PlainExpr) → literal l ≡ Some e → NamesWithin count l → (t : TextId) → Member t (expr_texts e)
      → t.index < count
  literal_within (lexeme.Number n) e h w t m = let k : plain.Number n ≡ e = cc in absurd (subst (λ d. Member t (expr_texts d)) (sym k) m)
  literal_within (lexeme.Text s) e h w t m =
      let k : plain.Text s ≡ e = cc in
      elim (subst (λ d. Member t (expr_texts d)) (sym k) m) [ inl same ↦ subst (λ (i : TextId). i.index < count) same w | inr n ↦ absurd n ]
  literal_within (lexeme.Mark mark.None) e h w t m = let k : plain.Nothing ≡ e = cc in absurd (subst (λ d. Member t (expr_texts d))
      (sym k) m)
  literal_within (lexeme.Mark mark.True) e h w t m = let k : plain.Yes ≡ e = cc in absurd (subst (λ d. Member t (expr_texts d)) (sym k) m)
  literal_within (lexeme.Mark mark.False) e h w t m = let k : plain.No ≡ e = cc in absurd (subst (λ d. Member t (expr_texts d)) (sym k) m)
  literal_within _ e h w t m = absurd (cc)

  takes_literal : AddsTexts count [] expr_texts (Takes literal_of)
  takes_literal = record {
    each = λ ts e h. record {
      items = expr_texts e;
      is = refl;
      stand = record { within = λ w. literal_within (h.0).lexeme e h.2 (subst (AllNameWithin count) h.1 w).0 };
    };
  }

  -- the rules one level deeper
  pub record DeepTexts (D : Deeper) : Type 0 where
    pub expr : AddsTexts count [] expr_texts D.expr
    pub unary : AddsTexts count [] expr_texts D.unary
    pub neg : AddsTexts count [] expr_texts D.neg

  module _ (Room : ℕ → Type 0) where
    more_name : (xs : List Name) → AddsTexts count [] (λ _. []) (form.MoreName Room xs)
    more_name xs = then_adds (only_adds takes_none) (λ _. then_adds takes_none (λ x. yields_adds _ refl))

    pub names_add : AddsTexts count [] (λ _. []) (form.NameList Room)
    names_add = then_adds takes_none (λ x. many_adds more_name (x ∷ []))

    pub some_names_add : AddsTexts count [] (λ _. []) (form.SomeNames Room)
    some_names_add = either_adds names_add (yields_adds [] refl)

    module _ (D : Deeper) (deep : DeepTexts D) where
      suffix : (e : PlainExpr) → AddsTexts count (expr_texts e) expr_texts (form.Suffix Room D e)
      suffix e =
          either_adds
          (then_adds takes_none (λ _. then_adds (takes_id count) (λ x. yields_adds _ refl)))
          (then_adds (only_adds takes_none) (λ _. then_adds (adds_after (expr_texts e) deep.expr) (λ k. then_adds takes_none
          (λ _. yields_adds _ refl))))

      suffixes : (e : PlainExpr) → AddsTexts count (expr_texts e) expr_texts (form.Suffixes Room D e)
      suffixes e = many_adds suffix e

      pub spot_adds : AddsTexts count [] expr_texts (form.APlace Room D)
      spot_adds = then_adds takes_none (λ x. suffixes (plain.Var x))

      more_arg : (es : List PlainExpr) → AddsTexts count (list_texts es) list_texts (form.MoreArg Room D es)
      more_arg es = then_adds (only_adds takes_none) (λ _. then_adds (adds_after (list_texts es) deep.expr) (λ e. yields_adds _
          (list_texts_last es e)))

      some_args : AddsTexts count [] list_texts (form.SomeArgs Room D)
      some_args =
          either_adds (yields_adds [] refl)
          (then_adds deep.expr (λ e. seen_from e (many_adds more_arg (e ∷ []))))
        where
          seen_from : (e : PlainExpr) → AddsTexts count (list_texts (e ∷ [])) list_texts (Many (form.MoreArg Room D) (e ∷ []))
              → AddsTexts count (expr_texts e) list_texts (Many (form.MoreArg Room D) (e ∷ []))
          seen_from e p = subst (λ ns. AddsTexts count ns list_texts (Many (form.MoreArg Room D) (e ∷ []))) (append-nil (expr_texts e)) p

      arguments : AddsTexts count [] list_texts (form.Arguments Room D)
      arguments = then_adds (only_adds takes_none) (λ _. then_adds some_args (λ es. then_adds takes_none (λ _. yields_adds es refl)))

      call_of : (x : Name) → AddsTexts count [] expr_texts (form.CallOf Room D x)
      call_of x = then_adds arguments (λ es. yields_adds _ refl)

      atom : AddsTexts count [] expr_texts (form.Atom Room D)
      atom =
          either_adds (then_adds takes_none (λ x. either_adds (call_of x) (yields_adds _ refl)))
          (either_adds (then_adds (only_adds takes_none) (λ _. then_adds deep.expr (λ e. then_adds takes_none (λ _. yields_adds e refl))))
          (either_adds (then_adds takes_none (λ _. then_adds takes_none (λ _. yields_adds _ refl))) takes_literal))

      pub unary_adds : AddsTexts count [] expr_texts (form.Unary Room D)
      unary_adds =
          either_adds (then_adds (only_adds takes_none) (λ _. then_adds deep.unary (λ e. yields_adds _ refl)))
          (either_adds (then_adds takes_none (λ _. then_adds spot_adds (λ e. yields_adds _ (moved_texts e)))) (then_adds atom suffixes))

      -- an operator and its right operand
      operand : (v : Level) (One : Form PlainExpr) → AddsTexts count [] expr_texts One → (l : PlainExpr) → AddsTexts count
          (expr_texts l) expr_texts (form.Operand Room D v One l)
      operand v One one_token l = then_adds takes_none (λ op. then_adds (adds_after (expr_texts l) one_token) (λ r. yields_adds _ refl))

      term : AddsTexts count [] expr_texts (form.Term Room D)
      term = then_adds unary_adds (many_adds (operand level.Term (form.Unary Room D) unary_adds))

      sum : AddsTexts count [] expr_texts (form.Sum Room D)
      sum = then_adds term (many_adds (operand level.Sum (form.Term Room D) term))

      cmp : AddsTexts count [] expr_texts (form.Cmp Room D)
      cmp = then_adds sum (λ l. either_adds (operand level.Compare (form.Sum Room D) sum l) (yields_adds l refl))

      pub neg_adds : AddsTexts count [] expr_texts (form.Neg Room D)
      neg_adds = either_adds (then_adds (only_adds takes_none) (λ _. then_adds deep.neg (λ e. yields_adds _ refl))) cmp

      and_neg : (l : PlainExpr) → AddsTexts count (expr_texts l) expr_texts (form.AndNeg Room D l)
      and_neg l = then_adds takes_none (λ _. then_adds (adds_after (expr_texts l) neg_adds) (λ r. yields_adds _ refl))

      both : AddsTexts count [] expr_texts (form.Both Room D)
      both = then_adds neg_adds (many_adds and_neg)

      or_both : (l : PlainExpr) → AddsTexts count (expr_texts l) expr_texts (form.OrBoth Room D l)
      or_both l = then_adds takes_none (λ _. then_adds (adds_after (expr_texts l) both) (λ r. yields_adds _ refl))

      pub expr_adds : AddsTexts count [] expr_texts (form.Expr Room D)
      expr_adds = then_adds both (many_adds or_both)

    pub deep_texts : (levels : ℕ) → DeepTexts (within Room levels)
    unfolding within
    deep_texts zero = record {
      expr = record { each = λ ts e h. absurd h };
      unary = record { each = λ ts e h. absurd h };
      neg = record { each = λ ts e h. absurd h };
    }
    deep_texts (suc levels) =
        let below = deep_texts levels in
        record {
          expr = expr_adds (within Room levels) below;
          unary = unary_adds (within Room levels) below;
          neg = neg_adds (within Room levels) below;
        }

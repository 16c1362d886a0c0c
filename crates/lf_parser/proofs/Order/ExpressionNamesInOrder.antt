-- Each rule of an expression adds the names among its tokens, in their order.
use Rattle.std.proofs.Common.{◌≡◌, ℕ, zero, suc, List, [], ◌∷◌, ◌++◌, Some, refl, sym, ap, ◌∙◌, subst, append-nil, append_assoc}
use Rattle.lf_lexer.specs.declared.tokens.Lexeme.{Lexeme}
use Rattle.lf_lexer.specs.declared.tokens.Lexeme.TheVariants as lexeme
use Rattle.lf_lexer.specs.declared.tokens.Mark.TheVariants as mark
use Rattle.lf_parser.specs.declared.name.Name.{Name}
use Rattle.lf_parser.specs.declared.expressions.Level.{Level}
use Rattle.lf_parser.specs.declared.expressions.Level.TheVariants as level
use Rattle.lf_parser.specs.Forms.{Form, Takes, Many}
use Rattle.lf_parser.specs.Words.{literal, literal_of}
use Rattle.lf_parser.specs.Plain.{PlainExpr, args_of}
use Rattle.lf_parser.specs.Plain as plain
use Rattle.lf_parser.specs.Grammar.{Deeper, moved_place, within}
use Rattle.lf_parser.specs.Grammar as form
use Rattle.lf_parser.specs.TreeNames.{expr_names, args_names}
use Rattle.lf_parser.proofs.Order.AddedItems.{yields_adds, takes_none, then_adds, either_adds, only_adds, adds_after, many_adds}
use Rattle.lf_parser.proofs.Order.NamesInTokenOrder.{AddsNames, none_stand, takes_name}

abbrev pub list_names : List PlainExpr → List Name
list_names es = args_names (args_of es)

list_names_last : (es : List PlainExpr) (e : PlainExpr) → list_names (es ++ e ∷ []) ≡ list_names es ++ expr_names e
list_names_last [] e = append-nil (expr_names e)
list_names_last (d ∷ es) e = ap (λ ns. expr_names d ++ ns) (list_names_last es e) ∙ sym (append_assoc (expr_names d) (list_names es) (expr_names e))

moved_names : (e : PlainExpr) → expr_names (moved_place e) ≡ expr_names e
moved_names (plain.Var x) = refl
moved_names (plain.Field target key) = refl
moved_names _ = refl

-- a literal has no names
literal_names : (l : Lexeme) (e : PlainExpr) → literal l ≡ Some e → expr_names e ≡ []
literal_names (lexeme.Number n) e h = let k : plain.Number n ≡ e = cc in ap expr_names (sym k)
literal_names (lexeme.Text t) e h = let k : plain.Text t ≡ e = cc in ap expr_names (sym k)
literal_names (lexeme.Mark mark.None) e h = let k : plain.Nothing ≡ e = cc in ap expr_names (sym k)
literal_names (lexeme.Mark mark.True) e h = let k : plain.Yes ≡ e = cc in ap expr_names (sym k)
literal_names (lexeme.Mark mark.False) e h = let k : plain.No ≡ e = cc in ap expr_names (sym k)
literal_names _ e h = absurd (cc)

takes_literal : AddsNames [] expr_names (Takes literal_of)
takes_literal = record { each = λ ts e h. record { items = []; is = literal_names (h.0).lexeme e h.2; stand = none_stand ts } }

-- the rules one level deeper
pub record DeepNames (D : Deeper) : Type 0 where
  pub expr : AddsNames [] expr_names D.expr
  pub unary : AddsNames [] expr_names D.unary
  pub neg : AddsNames [] expr_names D.neg

module _ (Room : ℕ → Type 0) where
  more_name : (xs : List Name) → AddsNames xs (λ ns. ns) (form.MoreName Room xs)
  more_name xs = then_adds (only_adds takes_none) (λ _. then_adds takes_name (λ x. yields_adds _ refl))

  pub names_add : AddsNames [] (λ ns. ns) (form.NameList Room)
  names_add = then_adds takes_name (λ x. many_adds more_name (x ∷ []))

  pub some_names_add : AddsNames [] (λ ns. ns) (form.SomeNames Room)
  some_names_add = either_adds names_add (yields_adds [] refl)

  module _ (D : Deeper) (deep : DeepNames D) where
    suffix : (e : PlainExpr) → AddsNames (expr_names e) expr_names (form.Suffix Room D e)
    suffix e =
        either_adds
        (then_adds takes_none (λ _. then_adds takes_none (λ x. yields_adds _ (append-nil (expr_names e)))))
        (then_adds (only_adds takes_none) (λ _. then_adds (adds_after (expr_names e) deep.expr) (λ k. then_adds takes_none (λ _. yields_adds _ refl))))

    suffixes : (e : PlainExpr) → AddsNames (expr_names e) expr_names (form.Suffixes Room D e)
    suffixes e = many_adds suffix e

    pub spot_adds : AddsNames [] expr_names (form.APlace Room D)
    spot_adds = then_adds takes_name (λ x. suffixes (plain.Var x))

    more_arg : (es : List PlainExpr) → AddsNames (list_names es) list_names (form.MoreArg Room D es)
    more_arg es = then_adds (only_adds takes_none) (λ _. then_adds (adds_after (list_names es) deep.expr) (λ e. yields_adds _ (list_names_last es e)))

    some_args : AddsNames [] list_names (form.SomeArgs Room D)
    some_args =
        either_adds (yields_adds [] refl)
        (then_adds deep.expr (λ e. seen_from e (many_adds more_arg (e ∷ []))))
      where
        seen_from : (e : PlainExpr) → AddsNames (list_names (e ∷ [])) list_names (Many (form.MoreArg Room D) (e ∷ [])) → AddsNames (expr_names e) list_names (Many (form.MoreArg Room D) (e ∷ []))
        seen_from e p = subst (λ ns. AddsNames ns list_names (Many (form.MoreArg Room D) (e ∷ []))) (append-nil (expr_names e)) p

    arguments : AddsNames [] list_names (form.Arguments Room D)
    arguments = then_adds (only_adds takes_none) (λ _. then_adds some_args (λ es. then_adds takes_none (λ _. yields_adds es refl)))

    call_of : (x : Name) → AddsNames (x ∷ []) expr_names (form.CallOf Room D x)
    call_of x = then_adds (adds_after (x ∷ []) arguments) (λ es. yields_adds _ refl)

    atom : AddsNames [] expr_names (form.Atom Room D)
    atom =
        either_adds (then_adds takes_name (λ x. either_adds (call_of x) (yields_adds _ refl)))
        (either_adds (then_adds (only_adds takes_none) (λ _. then_adds deep.expr (λ e. then_adds takes_none (λ _. yields_adds e refl))))
        (either_adds (then_adds takes_none (λ _. then_adds takes_none (λ _. yields_adds _ refl))) takes_literal))

    pub unary_adds : AddsNames [] expr_names (form.Unary Room D)
    unary_adds =
        either_adds (then_adds (only_adds takes_none) (λ _. then_adds deep.unary (λ e. yields_adds _ refl)))
        (either_adds (then_adds takes_none (λ _. then_adds spot_adds (λ e. yields_adds _ (moved_names e)))) (then_adds atom suffixes))

    -- an operator and its right operand
    operand : (v : Level) (One : Form PlainExpr) → AddsNames [] expr_names One → (l : PlainExpr) → AddsNames (expr_names l) expr_names (form.Operand Room D v One l)
    operand v One one_token l = then_adds takes_none (λ op. then_adds (adds_after (expr_names l) one_token) (λ r. yields_adds _ refl))

    term : AddsNames [] expr_names (form.Term Room D)
    term = then_adds unary_adds (many_adds (operand level.Term (form.Unary Room D) unary_adds))

    sum : AddsNames [] expr_names (form.Sum Room D)
    sum = then_adds term (many_adds (operand level.Sum (form.Term Room D) term))

    cmp : AddsNames [] expr_names (form.Cmp Room D)
    cmp = then_adds sum (λ l. either_adds (operand level.Compare (form.Sum Room D) sum l) (yields_adds l refl))

    pub neg_adds : AddsNames [] expr_names (form.Neg Room D)
    neg_adds = either_adds (then_adds (only_adds takes_none) (λ _. then_adds deep.neg (λ e. yields_adds _ refl))) cmp

    and_neg : (l : PlainExpr) → AddsNames (expr_names l) expr_names (form.AndNeg Room D l)
    and_neg l = then_adds takes_none (λ _. then_adds (adds_after (expr_names l) neg_adds) (λ r. yields_adds _ refl))

    both : AddsNames [] expr_names (form.Both Room D)
    both = then_adds neg_adds (many_adds and_neg)

    or_both : (l : PlainExpr) → AddsNames (expr_names l) expr_names (form.OrBoth Room D l)
    or_both l = then_adds takes_none (λ _. then_adds (adds_after (expr_names l) both) (λ r. yields_adds _ refl))

    pub expr_adds : AddsNames [] expr_names (form.Expr Room D)
    expr_adds = then_adds both (many_adds or_both)

  pub deep_names : (levels : ℕ) → DeepNames (within Room levels)
  unfolding within
  deep_names zero = record {
    expr = record { each = λ ts e h. absurd h };
    unary = record { each = λ ts e h. absurd h };
    neg = record { each = λ ts e h. absurd h };
  }
  deep_names (suc levels) =
      let below = deep_names levels in
      record {
        expr = expr_adds (within Room levels) below;
        unary = unary_adds (within Room levels) below;
        neg = neg_adds (within Room levels) below;
      }

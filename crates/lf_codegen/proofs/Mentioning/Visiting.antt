-- A walk over expressions that keeps those it has still to visit in a list, the next one last.
use Rattle.std.proofs.Common.{◌≡◌, ℕ, suc, ◌+◌, ◌<◌, List, [], ◌∷◌, ◌++◌, map, reverse, refl, sym, ap, arith, ◌∙◌}
use Rattle.std.proofs.lemmas.List.{append-nil, append_assoc, map-append, reverse-append}
use Rattle.std.specs.Borrow.{Bor}
use Rattle.lf_parser.specs.declared.expr.Expr.{Expr}
use Rattle.lf_parser.specs.Plain.{PlainExpr, PlainArgs, no_args, arg, args_of, plain_expr}
use Rattle.lf_parser.specs.Plain as plain
use Rattle.lf_codegen.specs.declared.mention.Mention.{Mention}
use Rattle.lf_codegen.specs.declared.mention.Mention.TheVariants.{Use, Call}
use Rattle.lf_codegen.specs.Mentions.{expr_mentions, args_mentions, args_count, are_one_variable}
use Rattle.lf_codegen.specs.Parts.{own_mentions, args_back, parts_back, plain_lent}

-- what is mentioned by those that are left, in the order in which they are visited
abbrev pub mentions_left : List PlainExpr → List Mention
mentions_left [] = []
mentions_left (e ∷ es) = mentions_left es ++ expr_mentions e

-- the number of expressions in an expression
abbrev mutual
  expr_size : PlainExpr → ℕ
  expr_size (plain.Field target key) = suc (expr_size target + expr_size key)
  expr_size (plain.Remove target key) = suc (expr_size target + expr_size key)
  expr_size (plain.Neg a) = suc (expr_size a)
  expr_size (plain.Not a) = suc (expr_size a)
  expr_size (plain.Binary op a b) = suc (expr_size a + expr_size b)
  expr_size (plain.And a b) = suc (expr_size a + expr_size b)
  expr_size (plain.Or a b) = suc (expr_size a + expr_size b)
  expr_size (plain.Call x es) = suc (args_size es)
  expr_size _ = 1

  args_size : PlainArgs → ℕ
  args_size no_args = 0
  args_size (arg e es) = expr_size e + args_size es

-- the number of expressions in those that are left
abbrev pub size_left : List PlainExpr → ℕ
size_left [] = 0
size_left (e ∷ es) = expr_size e + size_left es

-- ---- the last one is visited first
last_mentions : (es : List PlainExpr) (e : PlainExpr) → mentions_left (es ++ e ∷ []) ≡ expr_mentions e ++ mentions_left es
last_mentions [] e = sym (append-nil (expr_mentions e))
last_mentions (x ∷ es) e =
    ap (λ ms. ms ++ expr_mentions x) (last_mentions es e) ∙ append_assoc (expr_mentions e) (mentions_left es) (expr_mentions x)

two_mentions : (es : List PlainExpr) (a b : PlainExpr)
    → mentions_left (es ++ b ∷ a ∷ []) ≡ (expr_mentions a ++ expr_mentions b) ++ mentions_left es
two_mentions es a b =
    ap mentions_left (sym (append_assoc es (b ∷ []) (a ∷ [])))
    ∙ last_mentions (es ++ b ∷ []) a
    ∙ ap (λ ms. expr_mentions a ++ ms) (last_mentions es b)
    ∙ sym (append_assoc (expr_mentions a) (expr_mentions b) (mentions_left es))

args_mentions_left : (es : List PlainExpr) (bs : PlainArgs) → mentions_left (es ++ args_back bs) ≡ args_mentions bs ++ mentions_left es
args_mentions_left es no_args = ap mentions_left (append-nil es)
args_mentions_left es (arg b bs) =
    ap mentions_left (sym (append_assoc es (args_back bs) (b ∷ [])))
    ∙ last_mentions (es ++ args_back bs) b
    ∙ ap (λ ms. expr_mentions b ++ ms) (args_mentions_left es bs)
    ∙ sym (append_assoc (expr_mentions b) (args_mentions bs) (mentions_left es))

-- an expression mentions what it mentions itself, and then what its parts do
parts_mentions : (es : List PlainExpr) (e : PlainExpr)
    → own_mentions e ++ mentions_left (es ++ parts_back e) ≡ expr_mentions e ++ mentions_left es
parts_mentions es plain.Nothing = ap mentions_left (append-nil es)
parts_mentions es plain.Yes = ap mentions_left (append-nil es)
parts_mentions es plain.No = ap mentions_left (append-nil es)
parts_mentions es (plain.Number n) = ap mentions_left (append-nil es)
parts_mentions es (plain.Text t) = ap mentions_left (append-nil es)
parts_mentions es plain.Object = ap mentions_left (append-nil es)
parts_mentions es (plain.Var x) = ap (λ l. Use x ∷ mentions_left l) (append-nil es)
parts_mentions es (plain.Field target key) = two_mentions es target key
parts_mentions es (plain.Move x) = ap (λ l. Use x ∷ mentions_left l) (append-nil es)
parts_mentions es (plain.Remove target key) = two_mentions es target key
parts_mentions es (plain.Neg a) = last_mentions es a
parts_mentions es (plain.Not a) = last_mentions es a
parts_mentions es (plain.Binary op a b) = two_mentions es a b
parts_mentions es (plain.And a b) = two_mentions es a b
parts_mentions es (plain.Or a b) = two_mentions es a b
parts_mentions es (plain.Call x bs) = ap (λ ms. Call x (args_count bs) (are_one_variable bs) ∷ ms) (args_mentions_left es bs)

-- ---- the parts are smaller
last_size : (es : List PlainExpr) (e : PlainExpr) → size_left (es ++ e ∷ []) ≡ expr_size e + size_left es
last_size [] e = refl
last_size (x ∷ es) e = omega (arith, last_size es e)

two_size : (es : List PlainExpr) (a b : PlainExpr) → size_left (es ++ b ∷ a ∷ []) ≡ expr_size a + expr_size b + size_left es
two_size es a b = omega (arith, ap size_left (append_assoc es (b ∷ []) (a ∷ [])), last_size (es ++ b ∷ []) a, last_size es b)

args_size_left : (es : List PlainExpr) (bs : PlainArgs) → size_left (es ++ args_back bs) ≡ args_size bs + size_left es
args_size_left es no_args = omega (arith, ap size_left (append-nil es))
args_size_left es (arg b bs) =
    omega (arith, ap size_left (append_assoc es (args_back bs) (b ∷ [])), last_size (es ++ args_back bs) b, args_size_left es bs)

none_smaller : (es : List PlainExpr) → size_left (es ++ []) < 1 + size_left es
none_smaller es = omega (arith, ap size_left (append-nil es))

two_smaller : (es : List PlainExpr) (a b : PlainExpr) → size_left (es ++ b ∷ a ∷ []) < suc (expr_size a + expr_size b) + size_left es
two_smaller es a b = omega (arith, two_size es a b)

one_smaller : (es : List PlainExpr) (a : PlainExpr) → size_left (es ++ a ∷ []) < suc (expr_size a) + size_left es
one_smaller es a = omega (arith, last_size es a)

parts_smaller : (es : List PlainExpr) (e : PlainExpr) → size_left (es ++ parts_back e) < expr_size e + size_left es
parts_smaller es plain.Nothing = none_smaller es
parts_smaller es plain.Yes = none_smaller es
parts_smaller es plain.No = none_smaller es
parts_smaller es (plain.Number n) = none_smaller es
parts_smaller es (plain.Text t) = none_smaller es
parts_smaller es plain.Object = none_smaller es
parts_smaller es (plain.Var x) = none_smaller es
parts_smaller es (plain.Field target key) = two_smaller es target key
parts_smaller es (plain.Move x) = none_smaller es
parts_smaller es (plain.Remove target key) = two_smaller es target key
parts_smaller es (plain.Neg a) = one_smaller es a
parts_smaller es (plain.Not a) = one_smaller es a
parts_smaller es (plain.Binary op a b) = two_smaller es a b
parts_smaller es (plain.And a b) = two_smaller es a b
parts_smaller es (plain.Or a b) = two_smaller es a b
parts_smaller es (plain.Call x bs) = omega (arith, args_size_left es bs)

-- ---- one step of the walk, where v is taken from the end of vs
module _ (vs us : List (Bor Expr)) (v : Bor Expr) (taken : vs ≡ us ++ v ∷ []) where
  abbrev one : Bor Expr → PlainExpr
  one e = plain_expr e.now

  before : plain_lent vs ≡ plain_lent us ++ one v ∷ []
  before = ap plain_lent taken ∙ map-append one us (v ∷ [])

  pub visited : (old new : List Mention) (left : List PlainExpr) → new ≡ old ++ own_mentions (one v)
      → left ≡ plain_lent us ++ parts_back (one v)
      → new ++ mentions_left left ≡ old ++ mentions_left (plain_lent vs)
  visited old new left n l =
      ap (λ ms. ms ++ mentions_left left) n
      ∙ ap (λ es. old ++ own_mentions (one v) ++ mentions_left es) l
      ∙ append_assoc old (own_mentions (one v)) (mentions_left (plain_lent us ++ parts_back (one v)))
      ∙ ap (λ ms. old ++ ms) (parts_mentions (plain_lent us) (one v) ∙ sym (last_mentions (plain_lent us) (one v))
      ∙ ap mentions_left (sym before))

  pub visited_smaller : (left : List PlainExpr) → left ≡ plain_lent us ++ parts_back (one v) → size_left left < size_left (plain_lent vs)
  visited_smaller left l =
      omega (arith, ap size_left l, ap size_left before, last_size (plain_lent us) (one v), parts_smaller (plain_lent us) (one v))

-- ---- arguments from the last to the first
back_of_args : (es : List Expr) → map plain_expr (reverse es) ≡ args_back (args_of (map plain_expr es))
back_of_args [] = refl
back_of_args (e ∷ es) =
    ap (map plain_expr) (reverse-append (e ∷ []) es)
    ∙ map-append plain_expr (reverse es) (e ∷ [])
    ∙ ap (λ l. l ++ plain_expr e ∷ []) (back_of_args es)

lent_of : (xs : List (Bor Expr)) → plain_lent xs ≡ map plain_expr (map (λ x. x.now) xs)
lent_of [] = refl
lent_of (x ∷ xs) = ap (λ l. plain_expr x.now ∷ l) (lent_of xs)

pub args_left : (old more new : List (Bor Expr)) (es : List Expr) → new ≡ old ++ more → map (λ x. x.now) more ≡ reverse es
    → plain_lent new ≡ plain_lent old ++ args_back (args_of (map plain_expr es))
args_left old more new es n m =
    ap plain_lent n
    ∙ map-append (λ x. plain_expr x.now) old more
    ∙ ap (λ l. plain_lent old ++ l) (lent_of more ∙ ap (map plain_expr) m ∙ back_of_args es)

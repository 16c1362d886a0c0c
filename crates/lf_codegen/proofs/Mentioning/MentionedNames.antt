-- What frames mention are the names of the tree: each frame's in their order, and all frames' as often as they stand.
use Rattle.std.proofs.Common.{◌≡◌, ℕ, ◌+◌, List, [], ◌∷◌, ◌++◌, Bool, cond, map, sum_by, count_by, Option, Some, None, refl, ap, ap₂, ◌∙◌}
use Rattle.std.proofs.Common.{arith}
use Rattle.std.proofs.lemmas.List.{map-append}
use Rattle.std.proofs.lemmas.List.Sums.{sum_by-cons, sum_by-append}
use Rattle.lf_parser.specs.declared.name.Name.{Name}
use Rattle.lf_parser.specs.Plain.{PlainExpr, PlainArgs, PlainStmt, PlainBlock, no_args, arg, no_stmts, stmt}
use Rattle.lf_parser.specs.Plain as plain
use Rattle.lf_parser.specs.TreeNames.{expr_names, args_names, value_names, stmt_names, block_names}
use Rattle.lf_codegen.specs.declared.mention.Mention.{Mention}
use Rattle.lf_codegen.specs.declared.mention.Mention.TheVariants.{Use, Bind, Call}
use Rattle.lf_codegen.specs.Frames.{PlainFrame, stmt_whens, block_whens}
use Rattle.lf_codegen.specs.Mentions.{expr_mentions, args_mentions, value_mentions, uses, stmt_mentions, block_mentions}

abbrev pub mentioned : Mention → Name
mentioned (Use x) = x
mentioned (Bind x) = x
mentioned (Call x count of_variable) = x

-- the names that are mentioned in this order
abbrev pub names_of : List Mention → List Name
names_of ms = map mentioned ms

both : (ms ns : List Mention) (xs ys : List Name) → names_of ms ≡ xs → names_of ns ≡ ys → names_of (ms ++ ns) ≡ xs ++ ys
both ms ns xs ys h k = map-append mentioned ms ns ∙ ap₂ (λ us vs. us ++ vs) h k

mutual
  pub expr_named : (e : PlainExpr) → names_of (expr_mentions e) ≡ expr_names e
  expr_named plain.Nothing = refl
  expr_named plain.Yes = refl
  expr_named plain.No = refl
  expr_named (plain.Number n) = refl
  expr_named (plain.Text t) = refl
  expr_named plain.Object = refl
  expr_named (plain.Var x) = refl
  expr_named (plain.Field target key) = both (expr_mentions target) (expr_mentions key) _ _ (expr_named target) (expr_named key)
  expr_named (plain.Move x) = refl
  expr_named (plain.Remove target key) = both (expr_mentions target) (expr_mentions key) _ _ (expr_named target) (expr_named key)
  expr_named (plain.Neg a) = expr_named a
  expr_named (plain.Not a) = expr_named a
  expr_named (plain.Binary op a b) = both (expr_mentions a) (expr_mentions b) _ _ (expr_named a) (expr_named b)
  expr_named (plain.And a b) = both (expr_mentions a) (expr_mentions b) _ _ (expr_named a) (expr_named b)
  expr_named (plain.Or a b) = both (expr_mentions a) (expr_mentions b) _ _ (expr_named a) (expr_named b)
  expr_named (plain.Call x es) = ap (λ l. x ∷ l) (args_named es)

  args_named : (es : PlainArgs) → names_of (args_mentions es) ≡ args_names es
  args_named no_args = refl
  args_named (arg e es) = both (expr_mentions e) (args_mentions es) _ _ (expr_named e) (args_named es)

pub value_named : (value : Option PlainExpr) → names_of (value_mentions value) ≡ value_names value
value_named None = refl
value_named (Some e) = expr_named e

pub uses_named : (names : List Name) → names_of (uses names) ≡ names
uses_named [] = refl
uses_named (x ∷ xs) = ap (λ l. x ∷ l) (uses_named xs)

-- ---- how often names for which a test holds are mentioned
module _ (test : Name → Bool) where
  abbrev bit : Name → ℕ
  bit x = cond (test x) 1 0

  abbrev pub mention_times : List Mention → ℕ
  mention_times ms = count_by (λ m. test (mentioned m)) ms

  abbrev pub frame_mention_times : List PlainFrame → ℕ
  frame_mention_times fs = sum_by (λ f. mention_times (block_mentions f.body)) fs

  abbrev mention_bit : Mention → ℕ
  mention_bit m = bit (mentioned m)

  abbrev frame_times : PlainFrame → ℕ
  frame_times f = mention_times (block_mentions f.body)

  times_named : (ms : List Mention) → mention_times ms ≡ count_by test (names_of ms)
  times_named [] = refl
  times_named (m ∷ ms) = omega (arith, sum_by-cons mention_bit m ms, sum_by-cons bit (mentioned m) (names_of ms), times_named ms)

  joined : (ms ns : List Mention) → mention_times (ms ++ ns) ≡ mention_times ms + mention_times ns
  joined ms ns = sum_by-append mention_bit ms ns

  split : (xs ys : List Name) → count_by test (xs ++ ys) ≡ count_by test xs + count_by test ys
  split xs ys = sum_by-append bit xs ys

  frames_joined : (fs gs : List PlainFrame) → frame_mention_times (fs ++ gs) ≡ frame_mention_times fs + frame_mention_times gs
  frames_joined fs gs = sum_by-append frame_times fs gs

  of_expr : (e : PlainExpr) → mention_times (expr_mentions e) ≡ count_by test (expr_names e)
  of_expr e = times_named (expr_mentions e) ∙ ap (count_by test) (expr_named e)

  alone : (ms : List Mention) (xs : List Name) → names_of ms ≡ xs → mention_times ms + 0 ≡ count_by test xs
  alone ms xs h = let k : mention_times ms ≡ count_by test xs = times_named ms ∙ ap (count_by test) h in omega (arith, k)

  mutual
    stmt_times : (s : PlainStmt) → mention_times (stmt_mentions s) + frame_mention_times (stmt_whens s) ≡ count_by test (stmt_names s)
    stmt_times (plain.Assign line x value) = alone (Bind x ∷ expr_mentions value) _ (ap (λ l. x ∷ l) (expr_named value))
    stmt_times (plain.Store line target key value) =
        alone _ _ (both (expr_mentions target) _ _ _ (expr_named target)
        (both (expr_mentions key) (expr_mentions value) _ _ (expr_named key) (expr_named value)))
    stmt_times (plain.Drop line x) = alone (Use x ∷ []) (x ∷ []) refl
    stmt_times (plain.Return line value) = alone _ _ (value_named value)
    stmt_times (plain.Pass line) = refl
    stmt_times (plain.Eval line value) = alone _ _ (expr_named value)
    stmt_times (plain.If line test_of body other) = omega (
      arith,
      joined (expr_mentions test_of) (block_mentions body ++ block_mentions other),
      joined (block_mentions body) (block_mentions other),
      frames_joined (block_whens body) (block_whens other),
      split (expr_names test_of) (block_names body ++ block_names other),
      split (block_names body) (block_names other),
      of_expr test_of,
      block_times body,
      block_times other,
    )
    stmt_times (plain.While line test_of body) =
        omega (
          arith,
          joined (expr_mentions test_of) (block_mentions body),
          split (expr_names test_of) (block_names body),
          of_expr test_of,
          block_times body,
        )
    stmt_times (plain.When line cowns captures body) = omega (
      arith,
      joined (uses cowns) (uses captures),
      alone (uses cowns) cowns (uses_named cowns),
      alone (uses captures) captures (uses_named captures),
      sum_by-cons frame_times (record { line = line; own = cowns ++ captures; body = body }) (block_whens body),
      split cowns (captures ++ block_names body),
      split captures (block_names body),
      block_times body,
    )

    pub block_times : (b : PlainBlock)
        → mention_times (block_mentions b) + frame_mention_times (block_whens b) ≡ count_by test (block_names b)
    block_times no_stmts = refl
    block_times (stmt s ss) = omega (
      arith,
      joined (stmt_mentions s) (block_mentions ss),
      frames_joined (stmt_whens s) (block_whens ss),
      split (stmt_names s) (block_names ss),
      stmt_times s,
      block_times ss,
    )

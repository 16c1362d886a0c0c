-- An expression that begins with a name, as that name and what stands after it.
use Rattle.std.proofs.Common.{◌≡◌, ℕ, ◌<◌, List, [], ◌∷◌, ◌++◌, Some, false, refl, sym, ap, ◌∙◌, subst, arith, append_assoc, append-nil, ◌⊎◌, inl, inr}
use Rattle.lf_lexer.specs.declared.tokens.Token.{Token}
use Rattle.lf_lexer.specs.declared.tokens.Mark.TheVariants as mark
use Rattle.lf_parser.specs.declared.name.Name.{Name}
use Rattle.lf_parser.specs.declared.expressions.Level.TheVariants as level
use Rattle.lf_parser.specs.Kinds.{is, MINUS, MOVE, NAME, NOT, OPEN_BRACE, OPEN_PAREN, END}
use Rattle.lf_parser.specs.Forms.{Form, Yields, Takes, ◌⨟◌, ◌∣◌, Many}
use Rattle.lf_parser.specs.Words.{of_kind}
use Rattle.lf_parser.specs.Plain.{PlainExpr, PlainStmt}
use Rattle.lf_parser.specs.Plain as plain
use Rattle.lf_parser.specs.Grammar.{Deeper, Sign, AName}
use Rattle.lf_parser.specs.Grammar as form
use Rattle.lf_parser.proofs.Rules.RuleProperties.{RuleSetting}
use Rattle.lf_parser.proofs.Rules.TokenKinds.{is_no, known_kind, known_literal}
use Rattle.lf_parser.proofs.Rules.ExpressionRules.{RestOf}

assoc : {A B C : Type 0} (P : Form A) (Q : A → Form B) (R : B → Form C) (ts : List Token) (c : C) → ((P ⨟ Q) ⨟ R) ts c → (P ⨟ (λ a. Q a ⨟ R)) ts c
assoc P Q R ts c h =
    let k = h.4 in
    (k.0, k.1 ++ h.1, k.2, h.3 ∙ ap (λ z. z ++ h.1) k.3 ∙ append_assoc k.0 k.1 h.1, k.4, (k.1, h.1, h.2, refl, k.5, h.5))

assoc_back : {A B C : Type 0} (P : Form A) (Q : A → Form B) (R : B → Form C) (ts : List Token) (c : C) → (P ⨟ (λ a. Q a ⨟ R)) ts c → ((P ⨟ Q) ⨟ R) ts c
assoc_back P Q R ts c h =
    let k = h.5 in
    (h.0 ++ k.0, k.1, k.2, h.3 ∙ ap (λ z. h.0 ++ z) k.3 ∙ sym (append_assoc h.0 k.0 k.1), (h.0, k.0, h.2, refl, h.4, k.4), k.5)

-- the first token is no name
abbrev pub Unnamed : List Token → Type 0
Unnamed ts = (t : Token) × (rest : List Token) × (ts ≡ t ∷ rest) × (is NAME (Some t) ≡ false)

unnamed_more : (ts xs ys : List Token) → ts ≡ xs ++ ys → Unnamed xs → Unnamed ts
unnamed_more ts xs ys e h = (h.0, h.1 ++ ys, e ∙ ap (λ z. z ++ ys) h.2, h.3)

module _ {A B C : Type 0} (X : Name → Form A) (Z : A → Form B) (L : Form B) (Q : B → Form C) where
  abbrev SplitsAtName : Type 0
  SplitsAtName = (ts : List Token) (b : B) → L ts b → (AName ⨟ (λ x. X x ⨟ Z)) ts b ⊎ Unnamed ts

  split_part : (ts xs ys : List Token) (b : B) (c : C) → ts ≡ xs ++ ys → Q b ys c → (AName ⨟ (λ x. X x ⨟ Z)) xs b ⊎ Unnamed xs → (AName ⨟ (λ x. X x ⨟ (λ a. Z a ⨟ Q))) ts c ⊎ Unnamed ts
  split_part ts xs ys b c e q (inl h) =
      let k = assoc AName (λ x. X x ⨟ Z) Q ts c (xs, ys, b, e, h, q) in
      inl (k.0, k.1, k.2, k.3, k.4, assoc (X k.2) Z Q k.1 c k.5)
  split_part ts xs ys b c e q (inr h) = inr (unnamed_more ts xs ys e h)

  split_then : SplitsAtName → (ts : List Token) (c : C) → (L ⨟ Q) ts c → (AName ⨟ (λ x. X x ⨟ (λ a. Z a ⨟ Q))) ts c ⊎ Unnamed ts
  split_then s ts c h = split_part ts h.0 h.1 h.2 c h.3 h.5 (s h.0 h.2 h.4)

  join_then : ((ts : List Token) (b : B) → (AName ⨟ (λ x. X x ⨟ Z)) ts b → L ts b) → (ts : List Token) (c : C) → (AName ⨟ (λ x. X x ⨟ (λ a. Z a ⨟ Q))) ts c → (L ⨟ Q) ts c
  join_then s ts c h =
      let k = assoc_back AName (λ x. X x ⨟ Z) Q ts c (h.0, h.1, h.2, h.3, h.4, assoc_back (X h.2) Z Q h.1 c h.5) in
      (k.0, k.1, k.2, k.3, s k.0 k.2 k.4, k.5)

module _ {A B : Type 0} (X : Name → Form A) (L : Form A) (Q : A → Form B) where
  first_part : (ts xs ys : List Token) (a : A) (b : B) → ts ≡ xs ++ ys → Q a ys b → (AName ⨟ X) xs a ⊎ Unnamed xs → (AName ⨟ (λ x. X x ⨟ Q)) ts b ⊎ Unnamed ts
  first_part ts xs ys a b e q (inl h) = inl (assoc AName X Q ts b (xs, ys, a, e, h, q))
  first_part ts xs ys a b e q (inr h) = inr (unnamed_more ts xs ys e h)

  split_first : ((ts : List Token) (a : A) → L ts a → (AName ⨟ X) ts a ⊎ Unnamed ts) → (ts : List Token) (b : B) → (L ⨟ Q) ts b → (AName ⨟ (λ x. X x ⨟ Q)) ts b ⊎ Unnamed ts
  split_first s ts b h = first_part ts h.0 h.1 h.2 b h.3 h.5 (s h.0 h.2 h.4)

  join_first : ((ts : List Token) (a : A) → (AName ⨟ X) ts a → L ts a) → (ts : List Token) (b : B) → (AName ⨟ (λ x. X x ⨟ Q)) ts b → (L ⨟ Q) ts b
  join_first s ts b h = let k = assoc_back AName X Q ts b h in (k.0, k.1, k.2, k.3, s k.0 k.2 k.4, k.5)

-- any setting will do
abbrev free : RuleSetting
free = record { stays = λ c. Unit {0}; fits = λ t. Unit {0} }

sign_unnamed : (k : ℕ) → END < k → (k ≡ NAME → ⊥) → (ts xs ys : List Token) (t : Token) → ts ≡ xs ++ ys → Takes (of_kind k) xs t → Unnamed ts
sign_unnamed k some no' ts xs ys t e h =
    let b = (known_kind {g = free} (λ t e. tt) k some).begin h.0 t h.2 in
    (h.0, ys, e ∙ ap (λ z. z ++ ys) h.1, is_no NAME (Some h.0) (λ q. no' (sym b ∙ q)))

module _ (Room : ℕ → Type 0) (D : Deeper) where
  -- what a name and its suffixes, or a call and its suffixes, are
  abbrev pub NamedPost : Name → Form PlainExpr
  NamedPost x = (form.CallOf Room D x ⨟ form.Suffixes Room D) ∣ form.Suffixes Room D (plain.Var x)

  call_or_var : (x : Name) (ys zs : List Token) (a : PlainExpr) (e : PlainExpr) → (form.CallOf Room D x ∣ Yields (plain.Var x)) ys a → form.Suffixes Room D a zs e → NamedPost x (ys ++ zs) e
  call_or_var x ys zs a e (inl h) s = inl (ys, zs, a, refl, h, s)
  call_or_var x ys zs a e (inr h) s = inr (subst (λ us. form.Suffixes Room D (plain.Var x) (us ++ zs) e) (sym h.0) (subst (λ b. form.Suffixes Room D b zs e) h.1 s))

  post_part : (ts xs zs : List Token) (a e : PlainExpr) → ts ≡ xs ++ zs → form.Suffixes Room D a zs e → form.Atom Room D xs a → (AName ⨟ NamedPost) ts e ⊎ Unnamed ts
  post_part ts xs zs a e eq s (inl h) = inl (h.0, h.1 ++ zs, h.2, eq ∙ ap (λ z. z ++ zs) h.3 ∙ append_assoc h.0 h.1 zs, h.4, call_or_var h.2 h.1 zs a e h.5 s)
  post_part ts xs zs a e eq s (inr (inl h)) = inr (unnamed_more ts xs zs eq (sign_unnamed OPEN_PAREN (omega arith) (λ e. omega arith) xs h.0 h.1 h.2 h.3 h.4.1))
  post_part ts xs zs a e eq s (inr (inr (inl h))) = inr (unnamed_more ts xs zs eq (sign_unnamed OPEN_BRACE (omega arith) (λ e. omega arith) xs h.0 h.1 h.2 h.3 h.4))
  post_part ts xs zs a e eq s (inr (inr (inr h))) =
      let b = (known_literal {g = free} (λ t e. tt)).begin h.0 a h.2 in
      inr (h.0, zs, eq ∙ ap (λ z. z ++ zs) h.1, b.2)

  unary_split : (ts : List Token) (e : PlainExpr) → form.Unary Room D ts e → (AName ⨟ NamedPost) ts e ⊎ Unnamed ts
  unary_split ts e (inl h) = inr (sign_unnamed MINUS (omega arith) (λ e. omega arith) ts h.0 h.1 h.2 h.3 h.4.1)
  unary_split ts e (inr (inl h)) = inr (sign_unnamed MOVE (omega arith) (λ e. omega arith) ts h.0 h.1 h.2 h.3 h.4)
  unary_split ts e (inr (inr h)) = post_part ts h.0 h.1 h.2 e h.3 h.5 h.4

  named_part : (x : Name) (us xs ys zs : List Token) (e : PlainExpr) → us ≡ xs ++ ys → AName xs x → NamedPost x ys e → form.Unary Room D us e
  named_part x us xs ys zs e eq n (inl h) =
      inr (inr (xs ++ h.0, h.1, h.2, eq ∙ ap (λ z. xs ++ z) h.3 ∙ sym (append_assoc xs h.0 h.1), inl (xs, h.0, x, refl, n, inl h.4), h.5))
  named_part x us xs ys zs e eq n (inr h) = inr (inr (xs, ys, plain.Var x, eq, inl (xs, [], x, sym (append-nil xs), n, inr (refl, refl)), h))

  unary_join : (ts : List Token) (e : PlainExpr) → (AName ⨟ NamedPost) ts e → form.Unary Room D ts e
  unary_join ts e h = named_part h.2 ts h.0 h.1 [] e h.3 h.4 h.5

  abbrev Terms : PlainExpr → Form PlainExpr
  Terms = Many (form.Operand Room D level.Term (form.Unary Room D))

  abbrev Sums : PlainExpr → Form PlainExpr
  Sums = Many (form.Operand Room D level.Sum (form.Term Room D))

  abbrev Compared : PlainExpr → Form PlainExpr
  Compared l = form.Operand Room D level.Compare (form.Sum Room D) l ∣ Yields l

  cmp_split : (ts : List Token) (e : PlainExpr) → form.Cmp Room D ts e → (AName ⨟ (λ x. NamedPost x ⨟ (λ a. (Terms a ⨟ Sums) ⨟ Compared))) ts e ⊎ Unnamed ts
  cmp_split = split_then NamedPost (λ a. Terms a ⨟ Sums) (form.Sum Room D) Compared
      (split_then NamedPost Terms (form.Term Room D) Sums (split_first NamedPost (form.Unary Room D) Terms unary_split))

  neg_split : (ts : List Token) (e : PlainExpr) → form.Neg Room D ts e → (AName ⨟ (λ x. NamedPost x ⨟ (λ a. (Terms a ⨟ Sums) ⨟ Compared))) ts e ⊎ Unnamed ts
  neg_split ts e (inl h) = inr (sign_unnamed NOT (omega arith) (λ e. omega arith) ts h.0 h.1 h.2 h.3 h.4.1)
  neg_split ts e (inr h) = cmp_split ts e h

  pub expr_split : (ts : List Token) (e : PlainExpr) → form.Expr Room D ts e → (AName ⨟ (λ x. NamedPost x ⨟ RestOf Room D)) ts e ⊎ Unnamed ts
  expr_split = split_then NamedPost (λ a. ((Terms a ⨟ Sums) ⨟ Compared) ⨟ Many (form.AndNeg Room D)) (form.Both Room D) (Many (form.OrBoth Room D))
      (split_then NamedPost (λ a. (Terms a ⨟ Sums) ⨟ Compared) (form.Neg Room D) (Many (form.AndNeg Room D)) neg_split)

  cmp_join : (ts : List Token) (e : PlainExpr) → (AName ⨟ (λ x. NamedPost x ⨟ (λ a. (Terms a ⨟ Sums) ⨟ Compared))) ts e → form.Cmp Room D ts e
  cmp_join = join_then NamedPost (λ a. Terms a ⨟ Sums) (form.Sum Room D) Compared
      (join_then NamedPost Terms (form.Term Room D) Sums (join_first NamedPost (form.Unary Room D) Terms unary_join))

  pub expr_join : (ts : List Token) (e : PlainExpr) → (AName ⨟ (λ x. NamedPost x ⨟ RestOf Room D)) ts e → form.Expr Room D ts e
  expr_join = join_then NamedPost (λ a. ((Terms a ⨟ Sums) ⨟ Compared) ⨟ Many (form.AndNeg Room D)) (form.Both Room D) (Many (form.OrBoth Room D))
      (join_then NamedPost (λ a. (Terms a ⨟ Sums) ⨟ Compared) (form.Neg Room D) (Many (form.AndNeg Room D)) (λ ts e h. inr (cmp_join ts e h)))

  -- after the name that begins a statement: an expression goes on, or a value is assigned
  module _ (line : ℕ) (Value : Form PlainExpr) where
    abbrev pub Evals : PlainExpr → Form PlainStmt
    Evals e = RestOf Room D e ⨟ (λ v. Yields (plain.Eval line v))

    abbrev pub Assigns : PlainExpr → Form PlainStmt
    Assigns e = Sign mark.Assign ⨟ (λ _. Value ⨟ (λ v. Yields (form.assigned line e v)))

    abbrev pub AfterName : Name → Form PlainStmt
    AfterName x = ((form.CallOf Room D x ⨟ form.Suffixes Room D) ⨟ Evals) ∣ (form.Suffixes Room D (plain.Var x) ⨟ (λ e. Assigns e ∣ Evals e))

    abbrev Eval : Form PlainStmt
    Eval = form.Expr Room D ⨟ (λ v. Yields (plain.Eval line v))

    eval_split : (ts : List Token) (s : PlainStmt) → Eval ts s → (AName ⨟ (λ x. NamedPost x ⨟ Evals)) ts s ⊎ Unnamed ts
    eval_split = split_then NamedPost (RestOf Room D) (form.Expr Room D) (λ v. Yields (plain.Eval line v)) expr_split

    eval_join : (ts : List Token) (s : PlainStmt) → (AName ⨟ (λ x. NamedPost x ⨟ Evals)) ts s → Eval ts s
    eval_join = join_then NamedPost (RestOf Room D) (form.Expr Room D) (λ v. Yields (plain.Eval line v)) expr_join

    shared : (x : Name) (ys xs zs : List Token) (e : PlainExpr) (s : PlainStmt) → ys ≡ xs ++ zs → Evals e zs s → NamedPost x xs e → AfterName x ys s
    shared x ys xs zs e s eq k (inl h) = inl (xs, zs, e, eq, h, k)
    shared x ys xs zs e s eq k (inr h) = inr (xs, zs, e, eq, h, inr k)

    by_split : (ts : List Token) (s : PlainStmt) → (AName ⨟ (λ x. NamedPost x ⨟ Evals)) ts s ⊎ Unnamed ts → (AName ⨟ AfterName) ts s ⊎ Unnamed ts
    by_split ts s (inl h) = let k = h.5 in inl (h.0, h.1, h.2, h.3, h.4, shared h.2 h.1 k.0 k.1 k.2 s k.3 k.5 k.4)
    by_split ts s (inr h) = inr h

    -- an expression alone begins with a name or not
    pub evals_named : (ts : List Token) (s : PlainStmt) → Eval ts s → (AName ⨟ AfterName) ts s ⊎ Unnamed ts
    evals_named ts s h = by_split ts s (eval_split ts s h)

    abbrev Assignment : Form PlainStmt
    Assignment = form.APlace Room D ⨟ Assigns

    pub assigns_named : (ts : List Token) (s : PlainStmt) → Assignment ts s → (AName ⨟ AfterName) ts s
    assigns_named ts s h =
        let k = assoc AName (λ x. form.Suffixes Room D (plain.Var x)) Assigns ts s h in
        let m = k.5 in
        (k.0, k.1, k.2, k.3, k.4, inr (m.0, m.1, m.2, m.3, m.4, inl m.5))

    placed_back : (x : Name) (ts xs ys us vs : List Token) (e : PlainExpr) (s : PlainStmt) → ts ≡ xs ++ ys → AName xs x → ys ≡ us ++ vs → form.Suffixes Room D (plain.Var x) us e → (Assigns e ∣ Evals e) vs s → (Assignment ∣ Eval) ts s
    placed_back x ts xs ys us vs e s eq n eq' h (inl k) = inl (assoc_back AName (λ x. form.Suffixes Room D (plain.Var x)) Assigns ts s (xs, ys, x, eq, n, (us, vs, e, eq', h, k)))
    placed_back x ts xs ys us vs e s eq n eq' h (inr k) = inr (eval_join ts s (xs, ys, x, eq, n, (us, vs, e, eq', inr h, k)))

    after_back : (x : Name) (ts xs ys : List Token) (s : PlainStmt) → ts ≡ xs ++ ys → AName xs x → AfterName x ys s → (Assignment ∣ Eval) ts s
    after_back x ts xs ys s eq n (inl h) = inr (eval_join ts s (xs, ys, x, eq, n, (h.0, h.1, h.2, h.3, inl h.4, h.5)))
    after_back x ts xs ys s eq n (inr h) = placed_back x ts xs ys h.0 h.1 h.2 s eq n h.3 h.4 h.5

    pub named_back : (ts : List Token) (s : PlainStmt) → (AName ⨟ AfterName) ts s → (Assignment ∣ Eval) ts s
    named_back ts s h = after_back h.2 ts h.0 h.1 s h.3 h.4 h.5

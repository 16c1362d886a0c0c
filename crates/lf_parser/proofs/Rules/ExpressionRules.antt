-- Each rule of an expression has its properties, where the rules one level deeper have theirs.
use Rattle.std.proofs.Common.{◌≡◌, ℕ, ◌<◌, ◌≤◌, List, [], ◌∷◌, length, Option, Some, Bool, true, false, refl, sym, ◌∙◌, arith, ◌⊎◌, inl, inr}
use Rattle.std.specs.Prelude.{◌||◌}
use Rattle.std.proofs.lemmas.Bool.{or_from}
use Rattle.lf_lexer.specs.declared.tokens.Token.{Token}
use Rattle.lf_lexer.specs.declared.tokens.Mark.TheVariants as mark
use Rattle.lf_parser.specs.declared.name.Name.{Name}
use Rattle.lf_parser.specs.declared.halt.Cause.{Cause}
use Rattle.lf_parser.specs.declared.halt.Cause.TheVariants.{Unexpected, TooDeep, TooMany}
use Rattle.lf_parser.specs.declared.expressions.Level.{Level}
use Rattle.lf_parser.specs.declared.expressions.Level.TheVariants as level
use Rattle.lf_parser.specs.Kinds.{kind, is, AND, CLOSE_BRACE, CLOSE_PAREN, CLOSE_SQUARE, COLON, COMMA, COMPARISONS, DOT, END, EXPRESSIONS, MINUS, MOVE, NAME, NOT, OPEN_BRACE, OPEN_PAREN, OPEN_SQUARE, OR, SUFFIXES, SUMS, TERMS}
use Rattle.lf_parser.specs.Forms.{Form, Yields, ◌⨟◌, ◌∣◌, Many, HasPrefix}
use Rattle.lf_parser.specs.Words.{is_operator}
use Rattle.lf_parser.specs.Plain.{PlainExpr, args_of}
use Rattle.lf_parser.specs.Plain as plain
use Rattle.lf_parser.specs.Grammar.{Deeper, Sign, AName}
use Rattle.lf_parser.specs.Grammar as form
use Rattle.lf_parser.specs.Parsers.{Parser, pure}
use Rattle.lf_parser.specs.ReadingFunctions.{Inner, at_mark, at_suffix}
use Rattle.lf_parser.specs.ReadingFunctions as read
use Rattle.lf_parser.proofs.Rules.RuleProperties.{Family, RuleSetting, RuleProperties, rule_then, rule_pure, rule_from, some_then, some_yields, by_either}
use Rattle.lf_parser.proofs.Rules.OneToken.{Any, Guard, rule_take, rule_opened, rule_either}
use Rattle.lf_parser.proofs.Rules.Repetition.{rule_loop}
use Rattle.lf_parser.proofs.Rules.TokenKinds.{IsKind, Below, Under, kind_under, widen, operator_under, StartsExpr, StartsCmp, StartsPost, IsOperator, is_yes, is_no, is_no_operator, known_kind, known_name, known_literal, known_operator}
use Rattle.lf_parser.proofs.Rules.FormsHaveTokens.{some_sign, some_name, some_first, some_second, some_many, one_token, longer, some_place, some_close, some_unary, some_term, some_sum, some_neg, some_both}

-- the rules one level deeper, where a level may be opened
pub record Deep (g : RuleSetting) (n : ℕ) (D : Cause → Deeper) (i j : Inner) : Type 0 where
  pub opens : Guard g n TooDeep (λ c. (D c).opens) i.opens j.opens
  pub expr : i.opens ≡ true → RuleProperties g n (D Unexpected).expr (λ c. (D c).expr) StartsExpr (Under OR) i.expr j.expr
  pub unary : i.opens ≡ true → RuleProperties g n (D Unexpected).unary (λ c. (D c).unary) StartsCmp (Below SUFFIXES) i.unary j.unary
  pub neg : i.opens ≡ true → RuleProperties g n (D Unexpected).neg (λ c. (D c).neg) StartsExpr (Under COMPARISONS) i.neg j.neg
  pub some_expr : (c : Cause) → (D c).opens → HasPrefix (D c).expr []
  pub some_unary : (c : Cause) → (D c).opens → HasPrefix (D c).unary []
  pub some_neg : (c : Cause) → (D c).opens → HasPrefix (D c).neg []

or_yes : (a b : Bool) → (a ≡ false → b ≡ true) → (a || b) ≡ true
or_yes true b h = refl
or_yes false b h = h refl

is_not : (k : ℕ) (o : Option Token) → is k o ≡ false → kind o ≡ k → ⊥
is_not k o h e = let y = is_yes k o e in let z : true ≡ false = sym y ∙ h in cc

abbrev Suffixing : Option Token → Type 0
Suffixing o = (kind o ≡ DOT) ⊎ (kind o ≡ OPEN_SQUARE)

goes_suffix : (o : Option Token) → Suffixing o → at_suffix o ≡ true
goes_suffix o (inl h) = or_yes (is DOT o) (is OPEN_SQUARE o) (λ e. absurd (is_not DOT o e h))
goes_suffix o (inr h) = or_yes (is DOT o) (is OPEN_SQUARE o) (λ e. is_yes OPEN_SQUARE o h)

suffix_below : (o : Option Token) → Suffixing o → kind o < OPEN_PAREN
suffix_below o (inl h) = omega arith
suffix_below o (inr h) = omega arith

-- the rest of an expression after its first operand
abbrev pub RestOf : (ℕ → Type 0) → Deeper → PlainExpr → Form PlainExpr
RestOf Room D e = (((Many (form.Operand Room D level.Term (form.Unary Room D)) e
    ⨟ Many (form.Operand Room D level.Sum (form.Term Room D)))
    ⨟ (λ l. form.Operand Room D level.Compare (form.Sum Room D) l ∣ Yields l))
    ⨟ Many (form.AndNeg Room D))
    ⨟ Many (form.OrBoth Room D)

pub some_rest_of : (Room : ℕ → Type 0) (D : Deeper) (e : PlainExpr) → HasPrefix (RestOf Room D e) []
some_rest_of Room D e =
    some_then (((Many (form.Operand Room D level.Term (form.Unary Room D)) e ⨟ Many (form.Operand Room D level.Sum (form.Term Room D)))
    ⨟ (λ l. form.Operand Room D level.Compare (form.Sum Room D) l ∣ Yields l)) ⨟ Many (form.AndNeg Room D)) _
    (some_then ((Many (form.Operand Room D level.Term (form.Unary Room D)) e ⨟ Many (form.Operand Room D level.Sum (form.Term Room D)))
    ⨟ (λ l. form.Operand Room D level.Compare (form.Sum Room D) l ∣ Yields l)) _
    (some_then (Many (form.Operand Room D level.Term (form.Unary Room D)) e ⨟ Many (form.Operand Room D level.Sum (form.Term Room D))) _
    (some_then (Many (form.Operand Room D level.Term (form.Unary Room D)) e) _ (some_many e) (λ l. some_many l)) (λ l. some_second (some_yields l))) (λ l. some_many l)) (λ l. some_many l)

-- the kinds that begin an operand of one kind or another
abbrev EmptyOrLiteral : Option Token → Type 0
EmptyOrLiteral o = (is NAME o ≡ false) × (EXPRESSIONS ≤ kind o) × (kind o ≤ OPEN_BRACE)

abbrev NoName : Option Token → Type 0
NoName o = (is NAME o ≡ false) × (((EXPRESSIONS ≤ kind o) × (kind o ≤ OPEN_BRACE)) ⊎ (kind o ≡ OPEN_PAREN))

abbrev NoMinus : Option Token → Type 0
NoMinus o = (is MINUS o ≡ false) × (EXPRESSIONS ≤ kind o) × (is NOT o ≡ false)

no_sign : (o : Option Token) → (EXPRESSIONS ≤ kind o) × (kind o ≤ OPEN_BRACE) → StartsPost o
no_sign o h = let a = h.0 in let b = h.1 in (a, is_no NOT o (λ e. omega arith), is_no MINUS o (λ e. omega arith), is_no MOVE o (λ e. omega arith))

no_sign_paren : (o : Option Token) → kind o ≡ OPEN_PAREN → StartsPost o
no_sign_paren o h = (omega arith, is_no NOT o (λ e. omega arith), is_no MINUS o (λ e. omega arith), is_no MOVE o (λ e. omega arith))

module _ (g : RuleSetting) (fits : (t : Token) → END < kind (Some t) → g.fits t) (n : ℕ)
    (Room : Cause → ℕ → Type 0) (room room' : ℕ → Bool) (roomy : (count : ℕ) → Guard g n TooMany (λ c. Room c count) (room count) (room' count)) where
  pub rule_more_name : (xs : List Name) → RuleProperties g n (form.MoreName (Room Unexpected) xs) (λ c. form.MoreName (Room c) xs) (IsKind COMMA) Any (read.more_name room xs) (read.more_name room' xs)
  unfolding read.more_name read.separator
  rule_more_name xs =
      rule_opened (known_kind fits COMMA (omega arith)) (roomy (length xs))
      (λ _ _. rule_then (rule_take (known_name fits)) (λ x. rule_pure _) (λ c x. some_yields _) (λ o h. h))
      (λ c r t. some_then AName _ some_name (λ x. some_yields _))

  pub rule_names : RuleProperties g n (form.NameList (Room Unexpected)) (λ c. form.NameList (Room c)) (IsKind NAME) (λ o. is COMMA o ≡ false) (read.name_list room) (read.name_list room')
  unfolding read.name_list read.names_from
  rule_names =
      rule_then (rule_take (known_name fits))
      (λ x. rule_loop rule_more_name (λ s t xs h. longer h.0 h.1 h.3 (one_token h.4.1.1)) (is_yes COMMA) (λ o h. h) (λ o h. tt) (λ o h. tt) (λ o h. tt) (λ o h. tt) (x ∷ []))
      (λ c x. some_many _) (λ o (h : Any o). h)

  module _ (F : Option Token → Type 0) (no_comma : (o : Option Token) → F o → is COMMA o ≡ false) (no_name : (o : Option Token) → F o → is NAME o ≡ false) where
    -- [ names ]
    pub rule_some_names : RuleProperties g n (form.SomeNames (Room Unexpected)) (λ c. form.SomeNames (Room c)) (λ o. (kind o ≡ NAME) ⊎ F o) F (read.some_names room) (read.some_names room')
    unfolding read.some_names
    rule_some_names =
        rule_either (λ _. pure []) (λ _. pure []) (is NAME) _
        (rule_from rule_names (λ c ts a h. h) (λ ts a h. h) (λ o h. h) no_comma) (rule_pure [])
        (is_yes NAME) no_name (λ o h. inl h) (λ o h. inr h)

  module _ (D : Cause → Deeper) (i j : Inner) (deep : Deep g n D i j) where
    pub rule_field : (e : PlainExpr) → RuleProperties g n (Sign mark.Dot ⨟ (λ _. AName ⨟ (λ x. Yields (plain.Field e (plain.Text x.id))))) (λ c. Sign mark.Dot ⨟ (λ _. AName ⨟ (λ x. Yields (plain.Field e (plain.Text x.id)))))
        (IsKind DOT) Any (read.a_field room i e) (read.a_field room' j e)
    unfolding read.a_field
    rule_field e =
        rule_then (rule_take (known_kind fits DOT (omega arith)))
        (λ _. rule_then (rule_take (known_name fits)) (λ x. rule_pure _) (λ c x. some_yields _) (λ o h. h))
        (λ c t. some_then AName _ some_name (λ x. some_yields _)) (λ o h. tt)

    pub rule_entry : (e : PlainExpr) → RuleProperties g n (form.Opening (Room Unexpected) (D Unexpected) mark.OpenSquare ⨟ (λ _. (D Unexpected).expr ⨟ (λ k. Sign mark.CloseSquare ⨟ (λ _. Yields (plain.Field e k)))))
        (λ c. form.Opening (Room c) (D c) mark.OpenSquare ⨟ (λ _. (D c).expr ⨟ (λ k. Sign mark.CloseSquare ⨟ (λ _. Yields (plain.Field e k)))))
        (IsKind OPEN_SQUARE) Any (read.entry room i e) (read.entry room' j e)
    unfolding read.entry read.opening
    rule_entry e =
        rule_opened (known_kind fits OPEN_SQUARE (omega arith)) deep.opens
        (λ o _. rule_then (deep.expr o)
        (λ k. rule_then (rule_take (known_kind fits CLOSE_SQUARE (omega arith))) (λ _. rule_pure _) (λ c t. some_yields _) (λ o h. h))
        (λ c k. some_then (Sign mark.CloseSquare) _ (some_sign mark.CloseSquare) (λ t. some_yields _)) (λ o h. kind_under CLOSE_SQUARE OR o h (omega arith) (λ e. omega arith)))
        (λ c o t. some_then (D c).expr _ (deep.some_expr c o) (λ k. some_then (Sign mark.CloseSquare) _ (some_sign mark.CloseSquare) (λ t. some_yields _)))

    pub rule_suffix : (e : PlainExpr) → RuleProperties g n (form.Suffix (Room Unexpected) (D Unexpected) e) (λ c. form.Suffix (Room c) (D c) e) Suffixing Any (read.suffix room i e) (read.suffix room' j e)
    unfolding read.suffix
    rule_suffix e =
        rule_either (λ _. read.entry room i e) (λ _. read.entry room' j e) (is DOT) Suffixing (rule_field e) (rule_entry e)
        (is_yes DOT) (λ o h. is_no DOT o (λ e. omega arith)) (λ o h. inl h) (λ o h. inr h)

    pub proper_suffix : (c : Cause) (e x : PlainExpr) (xs : List Token) → form.Suffix (Room c) (D c) e xs x → 0 < length xs
    proper_suffix c e x xs (inl h) = longer h.0 h.1 h.3 (one_token h.4.1)
    proper_suffix c e x xs (inr h) = longer h.0 h.1 h.3 (one_token h.4.1.1)

    pub rule_suffixes : (e : PlainExpr) → RuleProperties g n (form.Suffixes (Room Unexpected) (D Unexpected) e) (λ c. form.Suffixes (Room c) (D c) e) (Below OPEN_PAREN) (Below SUFFIXES) (read.suffixes room i e) (read.suffixes room' j e)
    unfolding read.suffixes
    rule_suffixes e =
        rule_loop rule_suffix (proper_suffix Unexpected) goes_suffix
        (λ o h. or_from (is DOT o) (is OPEN_SQUARE o) (is_no DOT o (λ e. omega arith)) (is_no OPEN_SQUARE o (λ e. omega arith)))
        (λ o h. tt) (λ o h. tt) suffix_below (λ o h. omega arith) e

    pub rule_place : RuleProperties g n (form.APlace (Room Unexpected) (D Unexpected)) (λ c. form.APlace (Room c) (D c)) (IsKind NAME) (Below SUFFIXES) (read.a_place room i) (read.a_place room' j)
    unfolding read.a_place
    rule_place = rule_then (rule_take (known_name fits)) (λ x. rule_suffixes _) (λ c x. some_many _) (λ o h. tt)

    pub rule_more_arg : (es : List PlainExpr) → i.opens ≡ true → RuleProperties g n (form.MoreArg (Room Unexpected) (D Unexpected) es) (λ c. form.MoreArg (Room c) (D c) es) (IsKind COMMA) (Under COLON) (read.more_arg room i es) (read.more_arg room' j es)
    unfolding read.more_arg read.separator
    rule_more_arg es o =
        rule_opened (known_kind fits COMMA (omega arith)) (roomy (length es))
        (λ _ _. rule_then (deep.expr o) (λ e. rule_pure _) (λ c e. some_yields _) (λ o h. widen COLON OR o (omega arith) h))
        (λ c r t. some_then (D c).expr _ (deep.some_expr c (deep.opens.yes' o c)) (λ e. some_yields _))

    pub rule_first_args : i.opens ≡ true → RuleProperties g n ((D Unexpected).expr ⨟ (λ e. Many (form.MoreArg (Room Unexpected) (D Unexpected)) (e ∷ []))) (λ c. (D c).expr ⨟ (λ e. Many (form.MoreArg (Room c) (D c)) (e ∷ [])))
        StartsExpr (Under COMMA) (read.first_args room i) (read.first_args room' j)
    unfolding read.first_args read.args_from
    rule_first_args o =
        rule_then (deep.expr o)
        (λ e. rule_loop {B = Under COLON} (λ es. rule_more_arg es o)
        (λ s t xs h. longer h.0 h.1 h.3 (one_token h.4.1.1)) (is_yes COMMA) (λ o h. is_no COMMA o (λ e. let k = h.0 in omega arith)) (λ o h. kind_under COMMA COLON o h (omega arith) (λ e. omega arith)) (λ o h. widen COMMA COLON o (omega arith) h)
        (λ o h. kind_under COMMA COLON o h (omega arith) (λ e. omega arith)) (λ o h. widen COMMA COLON o (omega arith) h) (e ∷ []))
        (λ c e. some_many _) (λ o h. widen COLON OR o (omega arith) h)

    -- [ expr { "," expr } ], before `)`
    pub rule_some_args : i.opens ≡ true → RuleProperties g n (form.SomeArgs (Room Unexpected) (D Unexpected)) (λ c. form.SomeArgs (Room c) (D c)) Any (IsKind CLOSE_PAREN) (read.some_args room i) (read.some_args room' j)
    unfolding read.some_args
    rule_some_args o =
        rule_either {BQ = StartsExpr} (λ _. read.first_args room i) (λ _. read.first_args room' j) (is CLOSE_PAREN) Any (rule_pure [])
        (rule_from (rule_first_args o) (λ c ts a h. h) (λ ts a h. h) (λ o h. h) (λ o h. kind_under CLOSE_PAREN COMMA o h (omega arith) (λ e. omega arith)))
        (is_yes CLOSE_PAREN) (λ o h. is_no CLOSE_PAREN o (λ e. omega arith)) (λ o h. tt) (λ o h. tt)

    pub rule_arguments : RuleProperties g n (form.Arguments (Room Unexpected) (D Unexpected)) (λ c. form.Arguments (Room c) (D c)) (IsKind OPEN_PAREN) Any (read.arguments room i) (read.arguments room' j)
    unfolding read.arguments read.opening
    rule_arguments =
        rule_opened (known_kind fits OPEN_PAREN (omega arith)) deep.opens
        (λ o _. rule_then (rule_some_args o)
        (λ es. rule_then (rule_take (known_kind fits CLOSE_PAREN (omega arith))) (λ _. rule_pure _) (λ c t. some_yields _) (λ o h. h))
        (λ c es. some_close es) (λ o h. h))
        (λ c o t. some_then (form.SomeArgs (Room c) (D c)) _ (some_first {P = Yields []} (some_yields [])) (λ es. some_close es))

    pub rule_call : (x : Name) → RuleProperties g n (form.CallOf (Room Unexpected) (D Unexpected) x) (λ c. form.CallOf (Room c) (D c) x) (IsKind OPEN_PAREN) Any (read.call room i x) (read.call room' j x)
    unfolding read.call
    rule_call x = rule_then rule_arguments (λ es. rule_pure _) (λ c es. some_yields _) (λ o h. h)

    pub rule_after_name : (x : Name) → RuleProperties g n (form.CallOf (Room Unexpected) (D Unexpected) x ∣ Yields (plain.Var x)) (λ c. form.CallOf (Room c) (D c) x ∣ Yields (plain.Var x)) Any (Below OPEN_PAREN) (read.after_name room i x) (read.after_name room' j x)
    unfolding read.after_name
    rule_after_name x =
        rule_either (λ _. pure (plain.Var x)) (λ _. pure (plain.Var x)) (is OPEN_PAREN) Any
        (rule_from (rule_call x) (λ c ts a h. h) (λ ts a h. h) (λ o h. h) (λ o h. tt)) (rule_pure _)
        (is_yes OPEN_PAREN) (λ o h. is_no OPEN_PAREN o (λ e. omega arith)) (λ o h. tt) (λ o h. tt)

    pub rule_named : RuleProperties g n (form.Named (Room Unexpected) (D Unexpected)) (λ c. form.Named (Room c) (D c)) (IsKind NAME) (Below OPEN_PAREN) (read.name_or_call room i) (read.name_or_call room' j)
    unfolding read.name_or_call
    rule_named = rule_then (rule_take (known_name fits)) rule_after_name (λ c x. some_second (some_yields _)) (λ o h. h)

    pub rule_group : RuleProperties g n (form.Group (Room Unexpected) (D Unexpected)) (λ c. form.Group (Room c) (D c)) (IsKind OPEN_PAREN) Any (read.group room i) (read.group room' j)
    unfolding read.group read.opening
    rule_group =
        rule_opened (known_kind fits OPEN_PAREN (omega arith)) deep.opens
        (λ o _. rule_then (deep.expr o)
        (λ e. rule_then (rule_take (known_kind fits CLOSE_PAREN (omega arith))) (λ _. rule_pure _) (λ c t. some_yields _) (λ o h. h))
        (λ c e. some_close e) (λ o h. kind_under CLOSE_PAREN OR o h (omega arith) (λ e. omega arith)))
        (λ c o t. some_then (D c).expr _ (deep.some_expr c o) (λ e. some_close e))

    pub rule_empty : RuleProperties g n (form.Empty (Room Unexpected) (D Unexpected)) (λ c. form.Empty (Room c) (D c)) (IsKind OPEN_BRACE) Any (read.empty room i) (read.empty room' j)
    unfolding read.empty
    rule_empty =
        rule_then (rule_take (known_kind fits OPEN_BRACE (omega arith)))
        (λ _. rule_then (rule_take (known_kind fits CLOSE_BRACE (omega arith))) (λ _. rule_pure _) (λ c t. some_yields _) (λ o h. h))
        (λ c t. some_then (Sign mark.CloseBrace) _ (some_sign mark.CloseBrace) (λ t. some_yields _)) (λ o h. tt)

    pub rule_atom : RuleProperties g n (form.Atom (Room Unexpected) (D Unexpected)) (λ c. form.Atom (Room c) (D c)) StartsPost (Below OPEN_PAREN) (read.atom room i) (read.atom room' j)
    unfolding read.atom read.a_literal
    rule_atom =
        rule_either (λ o. read.atom_at room i false (is OPEN_PAREN o) (is OPEN_BRACE o)) (λ o. read.atom_at room' j false (is OPEN_PAREN o) (is OPEN_BRACE o)) (is NAME) StartsPost rule_named
        (rule_either (λ o. read.atom_at room i false false (is OPEN_BRACE o)) (λ o. read.atom_at room' j false false (is OPEN_BRACE o)) (is OPEN_PAREN) NoName
        (rule_from rule_group (λ c ts a h. h) (λ ts a h. h) (λ o h. h) (λ o h. tt))
        (rule_either (λ _. read.a_literal) (λ _. read.a_literal) (is OPEN_BRACE) EmptyOrLiteral
        (rule_from rule_empty (λ c ts a h. h) (λ ts a h. h) (λ o h. h) (λ o h. tt))
        (rule_from {F' = Below OPEN_PAREN} (rule_take (known_literal fits)) (λ c ts a h. h) (λ ts a h. h) (λ o h. h) (λ o h. tt))
        (is_yes OPEN_BRACE) (λ o h. is_no OPEN_BRACE o (λ e. let k = h.1 in omega arith))
        (λ o h. (is_no NAME o (λ e. omega arith), omega arith, omega arith)) (λ o h. let a = h.0 in let b = h.1 in (h.2, a, omega arith)))
        (is_yes OPEN_PAREN) (λ o h. is_no OPEN_PAREN o (λ e. let k = h.2 in omega arith))
        (λ o h. (is_no NAME o (λ e. omega arith), inr h)) (λ o h. (h.0, inl (h.1, h.2))))
        (is_yes NAME) (λ o h. h.0)
        (λ o h. (omega arith, is_no NOT o (λ e. omega arith), is_no MINUS o (λ e. omega arith), is_no MOVE o (λ e. omega arith)))
        (λ o h. by_either (no_sign o) (no_sign_paren o) h.1)

    pub rule_post : RuleProperties g n (form.Post (Room Unexpected) (D Unexpected)) (λ c. form.Post (Room c) (D c)) StartsPost (Below SUFFIXES) (read.post room i) (read.post room' j)
    unfolding read.post
    rule_post = rule_then rule_atom rule_suffixes (λ c e. some_many _) (λ o h. h)

    pub rule_negated : RuleProperties g n (form.Opening (Room Unexpected) (D Unexpected) mark.Minus ⨟ (λ _. (D Unexpected).unary ⨟ (λ e. Yields (plain.Neg e))))
        (λ c. form.Opening (Room c) (D c) mark.Minus ⨟ (λ _. (D c).unary ⨟ (λ e. Yields (plain.Neg e)))) (IsKind MINUS) (Below SUFFIXES) (read.negated room i) (read.negated room' j)
    unfolding read.negated read.opening
    rule_negated =
        rule_opened (known_kind fits MINUS (omega arith)) deep.opens
        (λ o _. rule_then (deep.unary o) (λ e. rule_pure _) (λ c e. some_yields _) (λ o h. h))
        (λ c o t. some_then (D c).unary _ (deep.some_unary c o) (λ e. some_yields _))

    pub rule_move : RuleProperties g n (Sign mark.Move ⨟ (λ _. form.APlace (Room Unexpected) (D Unexpected) ⨟ (λ e. Yields (form.moved_place e)))) (λ c. Sign mark.Move ⨟ (λ _. form.APlace (Room c) (D c) ⨟ (λ e. Yields (form.moved_place e))))
        (IsKind MOVE) (Below SUFFIXES) (read.move_of room i) (read.move_of room' j)
    unfolding read.move_of
    rule_move =
        rule_then (rule_take (known_kind fits MOVE (omega arith)))
        (λ _. rule_then rule_place (λ e. rule_pure _) (λ c e. some_yields _) (λ o h. h))
        (λ c t. some_then (form.APlace (Room c) (D c)) _ (some_place (Room c) (D c)) (λ e. some_yields _)) (λ o h. tt)

    pub rule_unary : RuleProperties g n (form.Unary (Room Unexpected) (D Unexpected)) (λ c. form.Unary (Room c) (D c)) StartsCmp (Below SUFFIXES) (read.unary room i) (read.unary room' j)
    unfolding read.unary
    rule_unary =
        rule_either (λ o. read.unary_at room i false (is MOVE o)) (λ o. read.unary_at room' j false (is MOVE o)) (is MINUS) StartsCmp rule_negated
        (rule_either (λ _. read.post room i) (λ _. read.post room' j) (is MOVE) NoMinus rule_move rule_post
        (is_yes MOVE) (λ o h. h.3)
        (λ o h. (is_no MINUS o (λ e. omega arith), omega arith, is_no NOT o (λ e. omega arith))) (λ o h. (h.2, h.0, h.1)))
        (is_yes MINUS) (λ o h. h.0) (λ o h. (omega arith, is_no NOT o (λ e. omega arith))) (λ o h. (h.1, h.2))

    -- an operator and its operand
    module _ (v : Level) (One : Family PlainExpr) (F : Option Token → Type 0) (one' one'' : Parser PlainExpr)
        (p : RuleProperties g n (One Unexpected) One StartsCmp F one' one'') (some : (c : Cause) → HasPrefix (One c) []) where
      pub rule_operand : (l : PlainExpr) → RuleProperties g n (form.Operand (Room Unexpected) (D Unexpected) v (One Unexpected) l) (λ c. form.Operand (Room c) (D c) v (One c) l) (IsOperator v) F (read.operand room i v one' l) (read.operand room' j v one'' l)
      rule_operand l =
          rule_then (rule_take (known_operator fits v)) (λ x. rule_then p (λ e. rule_pure _) (λ c e. some_yields _) (λ o h. h))
          (λ c x. some_then (One c) _ (some c) (λ e. some_yields _)) (λ o h. tt)

    pub rule_times : (l : PlainExpr) → RuleProperties g n (form.Operand (Room Unexpected) (D Unexpected) level.Term (form.Unary (Room Unexpected) (D Unexpected)) l)
        (λ c. form.Operand (Room c) (D c) level.Term (form.Unary (Room c) (D c)) l) (IsOperator level.Term) (Below SUFFIXES) (read.times_operand room i l) (read.times_operand room' j l)
    unfolding read.times_operand
    rule_times l = rule_operand level.Term (λ c. form.Unary (Room c) (D c)) (Below SUFFIXES) (read.unary room i) (read.unary room' j) rule_unary (λ c. some_unary (Room c) (D c)) l

    pub rule_term_rest : (l : PlainExpr) → RuleProperties g n (Many (form.Operand (Room Unexpected) (D Unexpected) level.Term (form.Unary (Room Unexpected) (D Unexpected))) l)
        (λ c. Many (form.Operand (Room c) (D c) level.Term (form.Unary (Room c) (D c))) l) (Under SUFFIXES) (Under TERMS) (read.term_rest room i l) (read.term_rest room' j l)
    unfolding read.term_rest
    rule_term_rest l =
        rule_loop rule_times
        (λ s t xs h. longer h.0 h.1 h.3 (one_token h.4.1)) (λ o h. h.2) (λ o h. is_no_operator level.Term o h.0) (λ o h. let k = h.1 in omega arith) (λ o h. let k = h.0 in omega arith)
        (λ o h. operator_under level.Term SUFFIXES o (omega arith) h) (λ o h. widen TERMS SUFFIXES o (omega arith) h) l

    pub rule_term : RuleProperties g n (form.Term (Room Unexpected) (D Unexpected)) (λ c. form.Term (Room c) (D c)) StartsCmp (Under TERMS) (read.term room i) (read.term room' j)
    unfolding read.term
    rule_term = rule_then rule_unary rule_term_rest (λ c e. some_many e) (λ o h. h.0)

    pub rule_plus : (l : PlainExpr) → RuleProperties g n (form.Operand (Room Unexpected) (D Unexpected) level.Sum (form.Term (Room Unexpected) (D Unexpected)) l)
        (λ c. form.Operand (Room c) (D c) level.Sum (form.Term (Room c) (D c)) l) (IsOperator level.Sum) (Under TERMS) (read.plus room i l) (read.plus room' j l)
    unfolding read.plus
    rule_plus l = rule_operand level.Sum (λ c. form.Term (Room c) (D c)) (Under TERMS) (read.term room i) (read.term room' j) rule_term (λ c. some_term (Room c) (D c)) l

    pub rule_sum_rest : (l : PlainExpr) → RuleProperties g n (Many (form.Operand (Room Unexpected) (D Unexpected) level.Sum (form.Term (Room Unexpected) (D Unexpected))) l)
        (λ c. Many (form.Operand (Room c) (D c) level.Sum (form.Term (Room c) (D c))) l) (Under TERMS) (Under SUMS) (read.sum_rest room i l) (read.sum_rest room' j l)
    unfolding read.sum_rest
    rule_sum_rest l =
        rule_loop rule_plus
        (λ s t xs h. longer h.0 h.1 h.3 (one_token h.4.1)) (λ o h. h.2) (λ o h. is_no_operator level.Sum o h.0) (λ o h. operator_under level.Sum TERMS o (omega arith) h) (λ o h. widen SUMS TERMS o (omega arith) h)
        (λ o h. operator_under level.Sum TERMS o (omega arith) h) (λ o h. widen SUMS TERMS o (omega arith) h) l

    pub rule_sum : RuleProperties g n (form.Sum (Room Unexpected) (D Unexpected)) (λ c. form.Sum (Room c) (D c)) StartsCmp (Under SUMS) (read.a_sum room i) (read.a_sum room' j)
    unfolding read.a_sum
    rule_sum = rule_then rule_term rule_sum_rest (λ c e. some_many e) (λ o h. h)

    pub rule_cmp_rest : (l : PlainExpr) → RuleProperties g n (form.Operand (Room Unexpected) (D Unexpected) level.Compare (form.Sum (Room Unexpected) (D Unexpected)) l ∣ Yields l)
        (λ c. form.Operand (Room c) (D c) level.Compare (form.Sum (Room c) (D c)) l ∣ Yields l) (Under SUMS) (Under COMPARISONS) (read.cmp_rest room i l) (read.cmp_rest room' j l)
    unfolding read.cmp_rest read.compared
    rule_cmp_rest l =
        rule_either (λ _. pure l) (λ _. pure l) (is_operator level.Compare) (Under SUMS)
        (rule_from (rule_operand level.Compare (λ c. form.Sum (Room c) (D c)) (Under SUMS) (read.a_sum room i) (read.a_sum room' j) rule_sum (λ c. some_sum (Room c) (D c)) l) (λ c ts a h. h) (λ ts a h. h) (λ o h. h) (λ o h. widen COMPARISONS SUMS o (omega arith) h))
        (rule_pure l) (λ o h. h.2) (λ o h. is_no_operator level.Compare o h.0) (λ o h. operator_under level.Compare SUMS o (omega arith) h) (λ o h. widen COMPARISONS SUMS o (omega arith) h)

    pub rule_cmp : RuleProperties g n (form.Cmp (Room Unexpected) (D Unexpected)) (λ c. form.Cmp (Room c) (D c)) StartsCmp (Under COMPARISONS) (read.cmp room i) (read.cmp room' j)
    unfolding read.cmp
    rule_cmp = rule_then rule_sum rule_cmp_rest (λ c e. some_second (some_yields e)) (λ o h. h)

    pub rule_denied : RuleProperties g n (form.Opening (Room Unexpected) (D Unexpected) mark.Not ⨟ (λ _. (D Unexpected).neg ⨟ (λ e. Yields (plain.Not e))))
        (λ c. form.Opening (Room c) (D c) mark.Not ⨟ (λ _. (D c).neg ⨟ (λ e. Yields (plain.Not e)))) (IsKind NOT) (Under COMPARISONS) (read.denied room i) (read.denied room' j)
    unfolding read.denied read.opening
    rule_denied =
        rule_opened (known_kind fits NOT (omega arith)) deep.opens
        (λ o _. rule_then (deep.neg o) (λ e. rule_pure _) (λ c e. some_yields _) (λ o h. h))
        (λ c o t. some_then (D c).neg _ (deep.some_neg c o) (λ e. some_yields _))

    pub rule_neg : RuleProperties g n (form.Neg (Room Unexpected) (D Unexpected)) (λ c. form.Neg (Room c) (D c)) StartsExpr (Under COMPARISONS) (read.neg room i) (read.neg room' j)
    unfolding read.neg
    rule_neg =
        rule_either (λ _. read.cmp room i) (λ _. read.cmp room' j) (is NOT) StartsExpr rule_denied rule_cmp
        (is_yes NOT) (λ o h. h.1) (λ o h. omega arith) (λ o h. h.0)

    pub rule_and : (l : PlainExpr) → RuleProperties g n (form.AndNeg (Room Unexpected) (D Unexpected) l) (λ c. form.AndNeg (Room c) (D c) l) (IsKind AND) (Under COMPARISONS) (read.and_neg room i l) (read.and_neg room' j l)
    unfolding read.and_neg
    rule_and l =
        rule_then (rule_take (known_kind fits AND (omega arith))) (λ _. rule_then rule_neg (λ e. rule_pure _) (λ c e. some_yields _) (λ o h. h))
        (λ c t. some_then (form.Neg (Room c) (D c)) _ (some_neg (Room c) (D c)) (λ e. some_yields _)) (λ o h. tt)

    pub rule_both_rest : (l : PlainExpr) → RuleProperties g n (Many (form.AndNeg (Room Unexpected) (D Unexpected)) l) (λ c. Many (form.AndNeg (Room c) (D c)) l) (Under COMPARISONS) (Under AND) (read.both_rest room i l) (read.both_rest room' j l)
    unfolding read.both_rest
    rule_both_rest l =
        rule_loop rule_and (λ s t xs h. longer h.0 h.1 h.3 (one_token h.4.1)) (is_yes AND) (λ o h. is_no AND o (λ e. let k = h.0 in omega arith)) (λ o h. kind_under AND COMPARISONS o h (omega arith) (λ e. omega arith)) (λ o h. widen AND COMPARISONS o (omega arith) h)
        (λ o h. kind_under AND COMPARISONS o h (omega arith) (λ e. omega arith)) (λ o h. widen AND COMPARISONS o (omega arith) h) l

    pub rule_both : RuleProperties g n (form.Both (Room Unexpected) (D Unexpected)) (λ c. form.Both (Room c) (D c)) StartsExpr (Under AND) (read.a_both room i) (read.a_both room' j)
    unfolding read.a_both
    rule_both = rule_then rule_neg rule_both_rest (λ c e. some_many e) (λ o h. h)

    pub rule_or : (l : PlainExpr) → RuleProperties g n (form.OrBoth (Room Unexpected) (D Unexpected) l) (λ c. form.OrBoth (Room c) (D c) l) (IsKind OR) (Under AND) (read.or_both room i l) (read.or_both room' j l)
    unfolding read.or_both
    rule_or l =
        rule_then (rule_take (known_kind fits OR (omega arith))) (λ _. rule_then rule_both (λ e. rule_pure _) (λ c e. some_yields _) (λ o h. h))
        (λ c t. some_then (form.Both (Room c) (D c)) _ (some_both (Room c) (D c)) (λ e. some_yields _)) (λ o h. tt)

    pub rule_expr_rest : (l : PlainExpr) → RuleProperties g n (Many (form.OrBoth (Room Unexpected) (D Unexpected)) l) (λ c. Many (form.OrBoth (Room c) (D c)) l) (Under AND) (Under OR) (read.expr_rest room i l) (read.expr_rest room' j l)
    unfolding read.expr_rest
    rule_expr_rest l =
        rule_loop rule_or (λ s t xs h. longer h.0 h.1 h.3 (one_token h.4.1)) (is_yes OR) (λ o h. is_no OR o (λ e. let k = h.0 in omega arith)) (λ o h. kind_under OR AND o h (omega arith) (λ e. omega arith)) (λ o h. widen OR AND o (omega arith) h)
        (λ o h. kind_under OR AND o h (omega arith) (λ e. omega arith)) (λ o h. widen OR AND o (omega arith) h) l

    pub rule_expr : RuleProperties g n (form.Expr (Room Unexpected) (D Unexpected)) (λ c. form.Expr (Room c) (D c)) StartsExpr (Under OR) (read.expr room i) (read.expr room' j)
    unfolding read.expr
    rule_expr = rule_then rule_both rule_expr_rest (λ c e. some_many e) (λ o h. h)

    pub rule_rest_of : (e : PlainExpr) → RuleProperties g n (RestOf (Room Unexpected) (D Unexpected) e) (λ c. RestOf (Room c) (D c) e) (Under SUFFIXES) (Under OR) (read.rest_of room i e) (read.rest_of room' j e)
    unfolding read.rest_of
    rule_rest_of e =
        rule_then (rule_then (rule_then (rule_then (rule_term_rest e) rule_sum_rest (λ c e. some_many e) (λ o h. h)) rule_cmp_rest (λ c e. some_second (some_yields e)) (λ o h. h))
        rule_both_rest (λ c e. some_many e) (λ o h. h)) rule_expr_rest (λ c e. some_many e) (λ o h. h)

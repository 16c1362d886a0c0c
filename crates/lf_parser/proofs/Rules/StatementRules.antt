-- Each rule of a statement and of a block has its properties, where the blocks in it have theirs.
use Rattle.std.proofs.Common.{◌≡◌, ℕ, zero, suc, ◌<◌, ◌≤◌, List, [], ◌∷◌, ◌++◌, length, Option, Some, None, Bool, true, false, refl, sym, ap, ◌∙◌, arith, append-nil, ◌⊎◌, inl, inr}
use Rattle.std.specs.Prelude.{if◌then◌else◌}
use Rattle.lf_lexer.specs.declared.tokens.Token.{Token}
use Rattle.lf_lexer.specs.declared.tokens.Mark.{Mark}
use Rattle.lf_lexer.specs.declared.tokens.Mark.TheVariants as mark
use Rattle.lf_parser.specs.declared.name.Name.{Name}
use Rattle.lf_parser.specs.declared.halt.Cause.{Cause}
use Rattle.lf_parser.specs.declared.halt.Cause.TheVariants.{Unexpected, TooDeep, TooMany}
use Rattle.lf_parser.specs.Kinds.{head, kind, is, mark_kind, ASSIGN, COLON, COMMA, DEDENT, DROP, ELIF, ELSE, END, EXPRESSIONS, IF, INDENT, NAME, NEW_LINE, OPEN_PAREN, OR, PASS, RETURN, STATEMENTS, SUFFIXES, WHEN, WHILE, WITH}
use Rattle.lf_parser.specs.Forms.{Form, Yields, ◌⨟◌, ◌∣◌, Many, Located, HasPrefix}
use Rattle.lf_parser.specs.Words.{new_line}
use Rattle.lf_parser.specs.Plain.{PlainExpr, PlainStmt, block_of}
use Rattle.lf_parser.specs.Plain as plain
use Rattle.lf_parser.specs.Grammar.{Deeper, within, Sign, AName, NewLine, Indent, Dedent}
use Rattle.lf_parser.specs.Grammar as form
use Rattle.lf_parser.specs.Parsers.{ReadOutcome, Ok, Err, Parser, ◌>>=◌, pure, fail, seeing, take}
use Rattle.lf_parser.specs.ReadingFunctions.{Inner, levels_left, in_block, line_at}
use Rattle.lf_parser.specs.ReadingFunctions as read
use Rattle.lf_parser.proofs.Rules.RuleProperties.{Family, RuleSetting, OutcomeSays, StaysOrFew, RuleProperties, rule_then, rule_after, rule_pure, rule_from, some_then, some_yields, glue_more, head_append}
use Rattle.lf_parser.proofs.Rules.OneToken.{Any, Guard, rule_take, rule_either}
use Rattle.lf_parser.proofs.Rules.Repetition.{rule_loop, rule_located}
use Rattle.lf_parser.proofs.Rules.TokenKinds.{IsKind, Below, Under, kind_under, StartsExpr, is_yes, is_no, known_kind, known_name}
use Rattle.lf_parser.proofs.Rules.FormsHaveTokens.{some_sign, some_name, some_first, some_second, some_many, some_names, some_expr, some_new_line, some_indent, some_dedent, one_token, longer}
use Rattle.lf_parser.proofs.Rules.ExpressionRules.{rule_expr, rule_names, rule_some_names, rule_suffixes, rule_call, rule_rest_of, RestOf, some_rest_of}
use Rattle.lf_parser.proofs.Rules.ExpressionLevels.{D, deep, levels_for}
use Rattle.lf_parser.proofs.Rules.LeadingNames as first

-- one `elif` more, where parts are what a refusal wants
abbrev pub further : Cause → ℕ
further TooMany = 1
further _ = 0

abbrev pub elifs_for : Cause → ℕ → ℕ
elifs_for c zero = further c
elifs_for c (suc n) = suc (elifs_for c n)

-- what may follow an `if` statement: neither `else` nor `elif`
abbrev pub EndsChain : Option Token → Type 0
EndsChain o = (is ELSE o ≡ false) × (is ELIF o ≡ false)

pub ends_chain_low : (o : Option Token) → kind o < ELSE → EndsChain o
ends_chain_low o h = (is_no ELSE o (λ e. omega arith), is_no ELIF o (λ e. omega arith))

pub ends_chain_high : (o : Option Token) → ELIF < kind o → EndsChain o
ends_chain_high o h = (is_no ELSE o (λ e. omega arith), is_no ELIF o (λ e. omega arith))

abbrev pub StartsStmt : Option Token → Type 0
StartsStmt o = STATEMENTS ≤ kind o

abbrev StartsSimple : Option Token → Type 0
StartsSimple o = (STATEMENTS ≤ kind o) × (is IF o ≡ false) × (is WHILE o ≡ false) × (is WHEN o ≡ false)

no_words : (o : Option Token) → (kind o ≡ PASS) ⊎ (EXPRESSIONS ≤ kind o) → (is IF o ≡ false) × (is WHILE o ≡ false) × (is WHEN o ≡ false)
no_words o (inl h) = (is_no IF o (λ e. omega arith), is_no WHILE o (λ e. omega arith), is_no WHEN o (λ e. omega arith))
no_words o (inr h) = (is_no IF o (λ e. omega arith), is_no WHILE o (λ e. omega arith), is_no WHEN o (λ e. omega arith))

-- each expression has a token
proper_post : (Room : ℕ → Type 0) (D : Deeper) (xs : List Token) (x : PlainExpr) → form.Atom Room D xs x → 0 < length xs
proper_post Room D xs x (inl h) = longer h.0 h.1 h.3 (one_token h.4.1)
proper_post Room D xs x (inr (inl h)) = longer h.0 h.1 h.3 (one_token h.4.1.1)
proper_post Room D xs x (inr (inr (inl h))) = longer h.0 h.1 h.3 (one_token h.4.1)
proper_post Room D xs x (inr (inr (inr h))) = one_token h.1

pub proper_unary : (Room : ℕ → Type 0) (D : Deeper) (xs : List Token) (x : PlainExpr) → form.Unary Room D xs x → 0 < length xs
proper_unary Room D xs x (inl h) = longer h.0 h.1 h.3 (one_token h.4.1.1)
proper_unary Room D xs x (inr (inl h)) = longer h.0 h.1 h.3 (one_token h.4.1)
proper_unary Room D xs x (inr (inr h)) = longer h.0 h.1 h.3 (proper_post Room D h.0 h.2 h.4)

pub proper_cmp : (Room : ℕ → Type 0) (D : Deeper) (xs : List Token) (x : PlainExpr) → form.Cmp Room D xs x → 0 < length xs
proper_cmp Room D xs x h = let s = h.4 in let t = s.4 in longer h.0 h.1 h.3 (longer s.0 s.1 s.3 (longer t.0 t.1 t.3 (proper_unary Room D t.0 t.2 t.4)))

pub proper_neg : (Room : ℕ → Type 0) (D : Deeper) (xs : List Token) (x : PlainExpr) → form.Neg Room D xs x → 0 < length xs
proper_neg Room D xs x (inl h) = longer h.0 h.1 h.3 (one_token h.4.1.1)
proper_neg Room D xs x (inr h) = proper_cmp Room D xs x h

pub proper_expr : (Room : ℕ → Type 0) (D : Deeper) (xs : List Token) (x : PlainExpr) → form.Expr Room D xs x → 0 < length xs
proper_expr Room D xs x h = let b = h.4 in longer h.0 h.1 h.3 (longer b.0 b.1 b.3 (proper_neg Room D b.0 b.2 b.4))

pub some_pass : (Room : ℕ → Type 0) (elifs levels : ℕ) (Block : Form (List PlainStmt)) → HasPrefix (form.Stmt Room elifs levels Block) []
some_pass Room elifs levels Block =
    some_second (some_second (some_second (some_then (Located (form.Simple Room elifs levels Block)) _ located (λ s. some_then NewLine _ some_new_line (λ t. some_yields s)))))
  where
    located : HasPrefix (Located (form.Simple Room elifs levels Block)) []
    located =
        let h = some_sign mark.Pass in
        let t = h.2.0 in
        (h.0, plain.Pass t.place.line, (t, [], h.2.1, inr (inr (inl (h.0, [], h.1, sym (append-nil h.0), h.2, (refl, refl))))))

module _ (Room : ℕ → Type 0) (elifs levels : ℕ) (Block : Form (List PlainStmt)) where
  abbrev Tail : PlainStmt → Form (List PlainStmt)
  Tail s = Many (form.MoreStmt Room elifs levels Block) (s ∷ []) ⨟ (λ ss. Dedent ⨟ (λ _. Yields ss))

  some_tail : (s : PlainStmt) → HasPrefix (Tail s) []
  some_tail s = some_then (Many (form.MoreStmt Room elifs levels Block) (s ∷ [])) _ (some_many _) (λ ss. some_then Dedent _ some_dedent (λ t. some_yields _))

  some_inside : HasPrefix (Indent ⨟ (λ _. form.Stmt Room elifs levels Block ⨟ Tail)) []
  some_inside = some_then Indent _ some_indent (λ t. some_then (form.Stmt Room elifs levels Block) _ (some_pass Room elifs levels Block) some_tail)

  pub some_block : HasPrefix (form.BlockOf Room elifs levels Block) []
  some_block = some_then NewLine _ some_new_line (λ t. some_inside)

module _ (g : RuleSetting) (fits : (t : Token) → END < kind (Some t) → g.fits t) (n : ℕ)
    (Room : Cause → ℕ → Type 0) (room room' : ℕ → Bool) (roomy : (count : ℕ) → Guard g n TooMany (λ c. Room c count) (room count) (room' count))
    (d d' : ℕ) (deeper : d ≤ d') (same : g.stays TooDeep ⊎ (0 < n) → d ≡ d')
    (e e' : ℕ) (longer' : e ≤ e') (alike : g.stays TooMany ⊎ (0 < n) → e ≡ e')
    (BR : Form (List PlainStmt)) (BS : Family (List PlainStmt)) (block block' : Parser (List PlainStmt))
    (hb : RuleProperties g n BR BS (IsKind NEW_LINE) Any block block') (sb : (c : Cause) → HasPrefix (BS c) []) where
  abbrev U : Cause
  U = Unexpected

  pub rule_an_expr : RuleProperties g n (form.AnExpr (Room U) (elifs_for U e) (levels_for U d) BR) (λ c. form.AnExpr (Room c) (elifs_for c e) (levels_for c d) (BS c)) StartsExpr (Under OR) (read.an_expr room e d block) (read.an_expr room' e' d' block')
  unfolding read.an_expr
  rule_an_expr = rule_expr g fits n Room room room' roomy (D g fits n Room room room' roomy d) (levels_left room d) (levels_left room' d') (deep g fits n Room room room' roomy d d' deeper same)

  some_value : (c : Cause) → HasPrefix (form.AnExpr (Room c) (elifs_for c e) (levels_for c d) (BS c)) []
  some_value c = some_expr (Room c) (within (Room c) (levels_for c d))

  pub rule_body : RuleProperties g n (form.Body (Room U) (elifs_for U e) (levels_for U d) BR) (λ c. form.Body (Room c) (elifs_for c e) (levels_for c d) (BS c)) (IsKind COLON) Any (read.body room e d block) (read.body room' e' d' block')
  unfolding read.body
  rule_body = rule_then (rule_take (known_kind fits COLON (omega arith))) (λ _. hb) (λ c t. sb c) (λ o h. tt)

  pub some_body : (c : Cause) → HasPrefix (form.Body (Room c) (elifs_for c e) (levels_for c d) (BS c)) []
  some_body c = some_then (Sign mark.Colon) _ (some_sign mark.Colon) (λ t. sb c)

  some_otherwise : (c : Cause) → HasPrefix (form.Otherwise (Room c) (elifs_for c e) (levels_for c d) (BS c)) []
  some_otherwise c = some_second (some_yields [])

  pub rule_otherwise : RuleProperties g n (form.Otherwise (Room U) (elifs_for U e) (levels_for U d) BR) (λ c. form.Otherwise (Room c) (elifs_for c e) (levels_for c d) (BS c)) (λ o. is ELIF o ≡ false) EndsChain (read.otherwise room e d block) (read.otherwise room' e' d' block')
  unfolding read.otherwise read.else_body
  rule_otherwise =
      rule_either (λ _. pure []) (λ _. pure []) (is ELSE) _
      (rule_then {BP = IsKind ELSE} (rule_take (known_kind fits ELSE (omega arith))) (λ _. rule_from rule_body (λ c ts a h. h) (λ ts a h. h) (λ o h. h) (λ o h. tt)) (λ c t. some_body c) (λ o h. tt))
      (rule_pure []) (is_yes ELSE) (λ o h. h.0) (λ o h. is_no ELIF o (λ e. omega arith)) (λ o h. h.1)

  -- a word, a test and a block
  module _ (m : Mark) (some : 1 ≤ mark_kind m) where
    pub rule_arm : RuleProperties g n (form.AnArm (Room U) (elifs_for U e) (levels_for U d) BR m) (λ c. form.AnArm (Room c) (elifs_for c e) (levels_for c d) (BS c) m) (IsKind (mark_kind m)) Any (read.arm room e d block m) (read.arm room' e' d' block' m)
    unfolding read.arm
    rule_arm =
        rule_then (rule_take (known_kind fits (mark_kind m) some))
        (λ t. rule_then rule_an_expr
        (λ test. rule_then rule_body (λ body. rule_pure _) (λ c body. some_yields _) (λ o h. h))
        (λ c test. some_then (form.Body (Room c) (elifs_for c e) (levels_for c d) (BS c)) _ (some_body c) (λ body. some_yields _))
        (λ o h. kind_under COLON OR o h (omega arith) (λ e. omega arith)))
        (λ c t. some_then (form.AnExpr (Room c) (elifs_for c e) (levels_for c d) (BS c)) _ (some_value c) (λ test.
        some_then (form.Body (Room c) (elifs_for c e) (levels_for c d) (BS c)) _ (some_body c) (λ body. some_yields _)))
        (λ o h. tt)

    -- and the rest of its chain
    module _ (More : Form (List PlainStmt)) (MoreS : Family (List PlainStmt)) (more' more'' : Parser (List PlainStmt))
        (hm : RuleProperties g n More MoreS Any EndsChain more' more'') (sm : (c : Cause) → HasPrefix (MoreS c) []) where
      pub rule_choice : RuleProperties g n (form.ArmAndRest (Room U) (elifs_for U e) (levels_for U d) BR m More) (λ c. form.ArmAndRest (Room c) (elifs_for c e) (levels_for c d) (BS c) m (MoreS c)) (IsKind (mark_kind m)) EndsChain
          (read.arm_and_rest room e d block m more') (read.arm_and_rest room' e' d' block' m more'')
      rule_choice =
          rule_then rule_arm
          (λ a. rule_then hm (λ other. rule_pure _) (λ c other. some_yields _) (λ o h. h))
          (λ c a. some_then (MoreS c) _ (sm c) (λ other. some_yields _)) (λ o h. tt)

  some_rest : (k : ℕ) (c : Cause) → HasPrefix (form.Rest (Room c) (elifs_for c e) (levels_for c d) (BS c) (elifs_for c k)) []
  some_rest zero Unexpected = some_otherwise Unexpected
  some_rest zero TooDeep = some_otherwise TooDeep
  some_rest zero TooMany = some_second (some_otherwise TooMany)
  some_rest (suc k) c = some_second (some_otherwise c)

  to_rest : (c : Cause) (ts : List Token) (ss : List PlainStmt) → form.Otherwise (Room c) (elifs_for c e) (levels_for c d) (BS c) ts ss → form.Rest (Room c) (elifs_for c e) (levels_for c d) (BS c) (elifs_for c 0) ts ss
  to_rest Unexpected ts ss h = h
  to_rest TooDeep ts ss h = h
  to_rest TooMany ts ss h = inr h

  -- an `elif` goes on where one more is allowed
  another : (t : Token) → is ELIF (Some t) ≡ true → HasPrefix (form.Rest (Room TooMany) (elifs_for TooMany e) (levels_for TooMany d) (BS TooMany) 1) (t ∷ [])
  another t h =
      let M : Cause = TooMany in
      let v = glue_more (Sign mark.Elif) (λ t. form.AnExpr (Room M) (elifs_for M e) (levels_for M d) (BS M) ⨟ (λ test. form.Body (Room M) (elifs_for M e) (levels_for M d) (BS M) ⨟ (λ body.
      Yields (record { line = t.place.line; test = test; body = block_of body })))) (t ∷ [])
      (λ t. some_then (form.AnExpr (Room M) (elifs_for M e) (levels_for M d) (BS M)) _ (some_value M) (λ test.
      some_then (form.Body (Room M) (elifs_for M e) (levels_for M d) (BS M)) _ (some_body M) (λ body. some_yields _)))
      ([], t, (t, refl, ap (λ b. if b then Some t else None) h)) in
      let w = glue_more (form.AnArm (Room M) (elifs_for M e) (levels_for M d) (BS M) mark.Elif) (λ a. form.Rest (Room M) (elifs_for M e) (levels_for M d) (BS M) 0 ⨟ (λ other. Yields (form.if_arm a other))) (t ∷ [])
      (λ a. some_then (form.Rest (Room M) (elifs_for M e) (levels_for M d) (BS M) 0) _ (some_otherwise M) (λ other. some_yields _)) v in
      let z = glue_more (form.ArmAndRest (Room M) (elifs_for M e) (levels_for M d) (BS M) mark.Elif (form.Rest (Room M) (elifs_for M e) (levels_for M d) (BS M) 0)) (λ s. Yields (s ∷ [])) (t ∷ []) (λ s. some_yields _) w in
      (z.0, z.1, inl z.2)

  abbrev first_rest : Parser (List PlainStmt)
  first_rest = seeing (λ o. if is ELIF o then fail TooMany else read.otherwise room e d block)

  abbrev RestS : ℕ → Family (List PlainStmt)
  RestS k c = form.Rest (Room c) (elifs_for c e) (levels_for c d) (BS c) (elifs_for c k)

  otherwise_rest : RuleProperties g n (form.Otherwise (Room U) (elifs_for U e) (levels_for U d) BR) (RestS 0) (λ o. is ELIF o ≡ false) EndsChain (read.otherwise room e d block) (read.otherwise room' e' d' block')
  otherwise_rest = rule_from rule_otherwise to_rest (λ ts a h. h) (λ o h. h) (λ o h. h)

  no_head : (s : List Token) → is ELIF (head s) ≡ true → (t : Token) × (rest : List Token) × (s ≡ t ∷ rest)
  no_head [] h = absurd (cc)
  no_head (t ∷ rest) h = (t, rest, refl)

  first_refused : (ts : List Token) → is ELIF (head ts) ≡ true → OutcomeSays g (RestS 0) first_rest ts (Err TooMany ts)
  first_refused ts h =
      let k = no_head ts h in (
        [],
        refl,
        inl refl,
        (k.0, k.1, k.2, another k.0 (ap (λ s. is ELIF (head s)) (sym k.2) ∙ h)),
        λ s hs. ap (λ b. (if b then fail TooMany else read.otherwise room e d block) s) (ap (is ELIF) (sym hs) ∙ h),
        tt,
      )

  same_choice : (s : List Token) (b : Bool) → is ELIF (head s) ≡ b → first_rest s ≡ (if b then fail TooMany else read.otherwise room e d block) s
  same_choice s b h = ap (λ b. (if b then fail TooMany else read.otherwise room e d block) s) h

  first_passed : (ts : List Token) → is ELIF (head ts) ≡ false → (o : ReadOutcome (List PlainStmt)) → OutcomeSays g (RestS 0) (read.otherwise room e d block) ts o → OutcomeSays g (RestS 0) first_rest ts o
  first_passed ts h (Ok a r) k = (k.0, k.1, k.2, λ s hs. same_choice (k.0 ++ s) false (ap (is ELIF) (sym (ap head k.1 ∙ head_append k.0 r s hs)) ∙ h) ∙ k.3 s hs, k.4)
  first_passed ts h (Err c r) k = (k.0, k.1, k.2, k.3, λ s hs. same_choice (k.0 ++ s) false (ap (is ELIF) (sym (ap head k.1 ∙ head_append k.0 r s hs)) ∙ h) ∙ k.4 s hs, k.5)

  first_good : (ts : List Token) (b : Bool) → is ELIF (head ts) ≡ b → OutcomeSays g (RestS 0) first_rest ts ((if b then fail TooMany else read.otherwise room e d block) ts)
  first_good ts true h = first_refused ts h
  first_good ts false h = first_passed ts h (read.otherwise room e d block ts) (otherwise_rest.good ts)

  first_grows : (k' : ℕ) → (g.stays TooMany ⊎ (0 < n) → 0 ≡ k') → (ts : List Token) (b : Bool) → is ELIF (head ts) ≡ b → StaysOrFew g n ts ((if b then fail TooMany else read.otherwise room e d block) ts)
      → read.chain_rest room' e' d' block' k' ts ≡ (if b then fail TooMany else read.otherwise room e d block) ts
  unfolding read.chain_rest
  first_grows zero al ts true h st = ap (λ b. (if b then fail TooMany else read.otherwise room' e' d' block') ts) h
  first_grows zero al ts false h st = ap (λ b. (if b then fail TooMany else read.otherwise room' e' d' block') ts) h ∙ otherwise_rest.grows ts st
  first_grows (suc k') al ts true h (inl lt) = absurd (let z = al (inr (omega arith)) in omega arith)
  first_grows (suc k') al ts true h (inr st) = absurd (let z = al (inl st) in omega arith)
  first_grows (suc k') al ts false h st = ap (λ b. read.rest_at room' e' d' block' (read.arm_and_rest room' e' d' block' mark.Elif (read.chain_rest room' e' d' block' k')) b ts) h ∙ otherwise_rest.grows ts st

  pub rule_rest : (k k' : ℕ) → k ≤ k' → (g.stays TooMany ⊎ (0 < n) → k ≡ k') → RuleProperties g n (form.Rest (Room U) (elifs_for U e) (levels_for U d) BR (elifs_for U k)) (RestS k) Any EndsChain (read.chain_rest room e d block k) (read.chain_rest room' e' d' block' k')
  unfolding read.chain_rest
  rule_rest zero k' le al = record {
    good = λ ts. first_good ts (is ELIF (head ts)) refl;
    whole = λ xs s a h f. same_choice (xs ++ s) false (otherwise_rest.begin xs s a h f) ∙ otherwise_rest.whole xs s a h f;
    begin = λ xs s a h f. tt;
    grows = λ ts st. first_grows k' al ts (is ELIF (head ts)) refl st;
  }
  rule_rest (suc k) zero le al = absurd (omega arith)
  rule_rest (suc k) (suc k') le al =
      let below = rule_rest k k' (omega arith) (λ h. let z = al h in omega arith) in
      rule_either (λ _. read.otherwise room e d block) (λ _. read.otherwise room' e' d' block') (is ELIF) Any
      (rule_then (rule_choice mark.Elif (omega arith) (form.Rest (Room U) (elifs_for U e) (levels_for U d) BR (elifs_for U k)) (RestS k) (read.chain_rest room e d block k) (read.chain_rest room' e' d' block' k') below (some_rest k))
      (λ s. rule_pure _) (λ c s. some_yields _) (λ o h. h))
      rule_otherwise (is_yes ELIF) (λ o h. h) (λ o h. tt) (λ o h. tt)

  pub rule_if : RuleProperties g n (form.If (Room U) (elifs_for U e) (levels_for U d) BR) (λ c. form.If (Room c) (elifs_for c e) (levels_for c d) (BS c)) (IsKind IF) EndsChain (read.if_of room e d block) (read.if_of room' e' d' block')
  unfolding read.if_of
  rule_if = rule_choice mark.If (omega arith) (form.Rest (Room U) (elifs_for U e) (levels_for U d) BR (elifs_for U e)) (RestS e) (read.chain_rest room e d block e) (read.chain_rest room' e' d' block' e') (rule_rest e e' longer' alike) (some_rest e)

  pub rule_while : RuleProperties g n (form.While (Room U) (elifs_for U e) (levels_for U d) BR) (λ c. form.While (Room c) (elifs_for c e) (levels_for c d) (BS c)) (IsKind WHILE) Any (read.while_of room e d block) (read.while_of room' e' d' block')
  unfolding read.while_of
  rule_while = rule_then (rule_arm mark.While (omega arith)) (λ a. rule_pure _) (λ c a. some_yields _) (λ o h. h)

  -- what follows the cown names
  abbrev WithOrColon : Option Token → Type 0
  WithOrColon o = (kind o ≡ WITH) ⊎ (kind o ≡ COLON)

  not_kind : (k : ℕ) (o : Option Token) → (WITH ≡ k → ⊥) → (COLON ≡ k → ⊥) → WithOrColon o → is k o ≡ false
  not_kind k o a b (inl h) = is_no k o (λ e. a (sym h ∙ e))
  not_kind k o a b (inr h) = is_no k o (λ e. b (sym h ∙ e))

  pub rule_captures : RuleProperties g n (form.Captures (Room U) (elifs_for U e) (levels_for U d) BR) (λ c. form.Captures (Room c) (elifs_for c e) (levels_for c d) (BS c)) WithOrColon (IsKind COLON) (read.captures room e d block) (read.captures room' e' d' block')
  unfolding read.captures read.with_names
  rule_captures =
      rule_either (λ _. pure []) (λ _. pure []) (is WITH) WithOrColon
      (rule_then {BP = IsKind WITH} (rule_take (known_kind fits WITH (omega arith)))
      (λ _. rule_from (rule_names g fits n Room room room' roomy) (λ c ts a h. h) (λ ts a h. h) (λ o h. h) (λ o h. is_no COMMA o (λ e. omega arith)))
      (λ c t. some_names (Room c)) (λ o h. tt))
      (rule_pure []) (is_yes WITH) (λ o h. is_no WITH o (λ e. omega arith)) (λ o h. inl h) (λ o h. inr h)

  pub rule_when : RuleProperties g n (form.When (Room U) (elifs_for U e) (levels_for U d) BR) (λ c. form.When (Room c) (elifs_for c e) (levels_for c d) (BS c)) (IsKind WHEN) Any (read.when_of room e d block) (read.when_of room' e' d' block')
  unfolding read.when_of
  rule_when =
      rule_then (rule_take (known_kind fits WHEN (omega arith)))
      (λ t. rule_then (rule_some_names g fits n Room room room' roomy WithOrColon (λ o h. not_kind COMMA o (λ e. omega arith) (λ e. omega arith) h) (λ o h. not_kind NAME o (λ e. omega arith) (λ e. omega arith) h))
      (λ cowns. rule_then rule_captures (λ kept. rule_then rule_body (λ body. rule_pure _) (λ c body. some_yields _) (λ o h. tt))
      (λ c kept. some_then (form.Body (Room c) (elifs_for c e) (levels_for c d) (BS c)) _ (some_body c) (λ body. some_yields _)) (λ o h. h))
      (λ c cowns. some_then (form.Captures (Room c) (elifs_for c e) (levels_for c d) (BS c)) _ (some_second (some_yields [])) (λ kept.
      some_then (form.Body (Room c) (elifs_for c e) (levels_for c d) (BS c)) _ (some_body c) (λ body. some_yields _)))
      (λ o h. h))
      (λ c t. some_then (form.SomeNames (Room c)) _ (some_second (some_yields [])) (λ cowns.
      some_then (form.Captures (Room c) (elifs_for c e) (levels_for c d) (BS c)) _ (some_second (some_yields [])) (λ kept.
      some_then (form.Body (Room c) (elifs_for c e) (levels_for c d) (BS c)) _ (some_body c) (λ body. some_yields _))))
      (λ o h. tt)

  module _ (line : ℕ) where
    pub rule_drop : RuleProperties g n (form.DropOf (Room U) (elifs_for U e) (levels_for U d) BR line) (λ c. form.DropOf (Room c) (elifs_for c e) (levels_for c d) (BS c) line) (IsKind DROP) (IsKind NEW_LINE) (read.drop_of room e d block line) (read.drop_of room' e' d' block' line)
    unfolding read.drop_of
    rule_drop =
        rule_then (rule_take (known_kind fits DROP (omega arith)))
        (λ _. rule_then (rule_take (known_name fits)) (λ x. rule_pure _) (λ c x. some_yields _) (λ o h. tt))
        (λ c t. some_then AName _ some_name (λ x. some_yields _)) (λ o h. tt)

    pub rule_result : RuleProperties g n (form.Result (Room U) (elifs_for U e) (levels_for U d) BR) (λ c. form.Result (Room c) (elifs_for c e) (levels_for c d) (BS c)) Any (IsKind NEW_LINE) (read.result room e d block) (read.result room' e' d' block')
    unfolding read.result
    rule_result =
        rule_either {BQ = StartsExpr} (λ _. read.an_expr room e d block >>= (λ v. pure (Some v))) (λ _. read.an_expr room' e' d' block' >>= (λ v. pure (Some v))) (is NEW_LINE) Any (rule_pure None)
        (rule_then rule_an_expr (λ v. rule_pure _) (λ c v. some_yields _) (λ o h. kind_under NEW_LINE OR o h (omega arith) (λ e. omega arith)))
        (is_yes NEW_LINE) (λ o h. is_no NEW_LINE o (λ e. omega arith)) (λ o h. tt) (λ o h. tt)

    pub rule_return : RuleProperties g n (form.ReturnOf (Room U) (elifs_for U e) (levels_for U d) BR line) (λ c. form.ReturnOf (Room c) (elifs_for c e) (levels_for c d) (BS c) line) (IsKind RETURN) (IsKind NEW_LINE) (read.return_of room e d block line) (read.return_of room' e' d' block' line)
    unfolding read.return_of
    rule_return =
        rule_then (rule_take (known_kind fits RETURN (omega arith)))
        (λ _. rule_then rule_result (λ v. rule_pure _) (λ c v. some_yields _) (λ o h. h))
        (λ c t. some_then (form.Result (Room c) (elifs_for c e) (levels_for c d) (BS c)) _ (some_first {P = Yields None} (some_yields None)) (λ v. some_yields _)) (λ o h. tt)

    pub rule_pass : RuleProperties g n (form.PassOf (Room U) (elifs_for U e) (levels_for U d) BR line) (λ c. form.PassOf (Room c) (elifs_for c e) (levels_for c d) (BS c) line) (IsKind PASS) (IsKind NEW_LINE) (read.pass_of room e d block line) (read.pass_of room' e' d' block' line)
    unfolding read.pass_of
    rule_pass = rule_then (rule_take (known_kind fits PASS (omega arith))) (λ _. rule_pure _) (λ c t. some_yields _) (λ o h. tt)

    pub rule_eval : RuleProperties g n (form.EvalOf (Room U) (elifs_for U e) (levels_for U d) BR line) (λ c. form.EvalOf (Room c) (elifs_for c e) (levels_for c d) (BS c) line) StartsExpr (IsKind NEW_LINE) (read.eval_of room e d block line) (read.eval_of room' e' d' block' line)
    unfolding read.eval_of
    rule_eval = rule_then rule_an_expr (λ v. rule_pure _) (λ c v. some_yields _) (λ o h. kind_under NEW_LINE OR o h (omega arith) (λ e. omega arith))

    abbrev Evals : (c : Cause) → PlainExpr → Form PlainStmt
    Evals c = first.Evals (Room c) (within (Room c) (levels_for c d)) line (form.Expr (Room c) (within (Room c) (levels_for c d)))

    abbrev Assigns : (c : Cause) → PlainExpr → Form PlainStmt
    Assigns c = first.Assigns (Room c) (within (Room c) (levels_for c d)) line (form.Expr (Room c) (within (Room c) (levels_for c d)))

    abbrev AfterName : (c : Cause) → Name → Form PlainStmt
    AfterName c = first.AfterName (Room c) (within (Room c) (levels_for c d)) line (form.Expr (Room c) (within (Room c) (levels_for c d)))

    pub rule_evals : (v : PlainExpr) → RuleProperties g n (Evals U v) (λ c. Evals c v) (Under SUFFIXES) (IsKind NEW_LINE) (read.eval_rest room e d block line v) (read.eval_rest room' e' d' block' line v)
    unfolding read.eval_rest
    rule_evals v =
        rule_then (rule_rest_of g fits n Room room room' roomy (D g fits n Room room room' roomy d) (levels_left room d) (levels_left room' d') (deep g fits n Room room room' roomy d d' deeper same) v)
        (λ x. rule_pure _) (λ c x. some_yields _) (λ o h. kind_under NEW_LINE OR o h (omega arith) (λ e. omega arith))

    pub rule_assigns : (v : PlainExpr) → RuleProperties g n (Assigns U v) (λ c. Assigns c v) (IsKind ASSIGN) (IsKind NEW_LINE) (read.assign_to room e d block line v) (read.assign_to room' e' d' block' line v)
    unfolding read.assign_to
    rule_assigns v =
        rule_then (rule_take (known_kind fits ASSIGN (omega arith)))
        (λ _. rule_then rule_an_expr (λ x. rule_pure _) (λ c x. some_yields _) (λ o h. kind_under NEW_LINE OR o h (omega arith) (λ e. omega arith)))
        (λ c t. some_then (form.Expr (Room c) (within (Room c) (levels_for c d))) _ (some_value c) (λ x. some_yields _)) (λ o h. tt)

    pub rule_after_place : (v : PlainExpr) → RuleProperties g n (Assigns U v ∣ Evals U v) (λ c. Assigns c v ∣ Evals c v) (Below SUFFIXES) (IsKind NEW_LINE) (read.after_place room e d block line v) (read.after_place room' e' d' block' line v)
    unfolding read.after_place
    rule_after_place v =
        rule_either (λ _. read.eval_rest room e d block line v) (λ _. read.eval_rest room' e' d' block' line v) (is ASSIGN) (Below SUFFIXES) (rule_assigns v) (rule_evals v)
        (is_yes ASSIGN) (λ o h. h.1) (λ o h. omega arith) (λ o h. h.0)

    some_evals : (c : Cause) (v : PlainExpr) → HasPrefix (Evals c v) []
    some_evals c v = some_then (RestOf (Room c) (within (Room c) (levels_for c d)) v) _ (some_rest_of (Room c) (within (Room c) (levels_for c d)) v) (λ x. some_yields _)

    pub rule_call_first : (x : Name) → RuleProperties g n ((form.CallOf (Room U) (within (Room U) (levels_for U d)) x ⨟ form.Suffixes (Room U) (within (Room U) (levels_for U d))) ⨟ Evals U)
        (λ c. (form.CallOf (Room c) (within (Room c) (levels_for c d)) x ⨟ form.Suffixes (Room c) (within (Room c) (levels_for c d))) ⨟ Evals c) (IsKind OPEN_PAREN) (IsKind NEW_LINE) (read.call_first room e d block line x) (read.call_first room' e' d' block' line x)
    unfolding read.call_first
    rule_call_first x =
        rule_then
        (rule_then (rule_call g fits n Room room room' roomy (D g fits n Room room room' roomy d) (levels_left room d) (levels_left room' d') (deep g fits n Room room room' roomy d d' deeper same) x)
        (rule_suffixes g fits n Room room room' roomy (D g fits n Room room room' roomy d) (levels_left room d) (levels_left room' d') (deep g fits n Room room room' roomy d d' deeper same))
        (λ c v. some_many _) (λ o h. tt))
        rule_evals some_evals (λ o h. h.0)

    pub rule_place_first : (x : Name) → RuleProperties g n (form.Suffixes (Room U) (within (Room U) (levels_for U d)) (plain.Var x) ⨟ (λ v. Assigns U v ∣ Evals U v))
        (λ c. form.Suffixes (Room c) (within (Room c) (levels_for c d)) (plain.Var x) ⨟ (λ v. Assigns c v ∣ Evals c v)) (Below OPEN_PAREN) (IsKind NEW_LINE) (read.place_first room e d block line x) (read.place_first room' e' d' block' line x)
    unfolding read.place_first
    rule_place_first x =
        rule_then (rule_suffixes g fits n Room room room' roomy (D g fits n Room room room' roomy d) (levels_left room d) (levels_left room' d') (deep g fits n Room room room' roomy d d' deeper same) (plain.Var x))
        rule_after_place (λ c v. some_second (some_evals c v)) (λ o h. h)

    pub rule_name_first : RuleProperties g n (AName ⨟ AfterName U) (λ c. AName ⨟ AfterName c) (IsKind NAME) (IsKind NEW_LINE) (read.name_first room e d block line) (read.name_first room' e' d' block' line)
    unfolding read.name_first
    rule_name_first =
        rule_then (rule_take (known_name fits))
        (λ x. rule_either (λ _. read.place_first room e d block line x) (λ _. read.place_first room' e' d' block' line x) (is OPEN_PAREN) Any (rule_call_first x) (rule_place_first x)
        (is_yes OPEN_PAREN) (λ o h. is_no OPEN_PAREN o (λ e. omega arith)) (λ o h. tt) (λ o h. tt))
        (λ c x. some_second (some_then (form.Suffixes (Room c) (within (Room c) (levels_for c d)) (plain.Var x)) _ (some_many _) (λ v. some_second (some_evals c v)))) (λ o h. h)

    -- an expression that begins with no name
    abbrev OtherEval : Form PlainStmt
    OtherEval ts s = form.EvalOf (Room U) (elifs_for U e) (levels_for U d) BR line ts s × first.Unnamed ts

    pub rule_other : RuleProperties g n OtherEval (λ c. form.EvalOf (Room c) (elifs_for c e) (levels_for c d) (BS c) line) (λ o. (EXPRESSIONS ≤ kind o) × (is NAME o ≡ false)) (IsKind NEW_LINE) (read.eval_of room e d block line) (read.eval_of room' e' d' block' line)
    rule_other = record {
      good = rule_eval.good;
      whole = λ xs s a h f. rule_eval.whole xs s a h.0 f;
      begin = λ xs s a h f. (rule_eval.begin xs s a h.0 f, let k = h.1 in ap (λ z. is NAME (head (z ++ s))) k.2 ∙ k.3);
      grows = rule_eval.grows;
    }

    abbrev SimpleS : Family PlainStmt
    SimpleS c = form.Simple (Room c) (elifs_for c e) (levels_for c d) (BS c) line

    abbrev Parted : (c : Cause) → Form PlainStmt → Form PlainStmt
    Parted c Last = form.DropOf (Room c) (elifs_for c e) (levels_for c d) (BS c) line ∣ form.ReturnOf (Room c) (elifs_for c e) (levels_for c d) (BS c) line ∣ form.PassOf (Room c) (elifs_for c e) (levels_for c d) (BS c) line ∣ (AName ⨟ AfterName c) ∣ Last

    to_simple : (c : Cause) (ts : List Token) (s : PlainStmt) → Parted c (form.EvalOf (Room c) (elifs_for c e) (levels_for c d) (BS c) line) ts s → SimpleS c ts s
    to_simple c ts s (inl h) = inl h
    to_simple c ts s (inr (inl h)) = inr (inl h)
    to_simple c ts s (inr (inr (inl h))) = inr (inr (inl h))
    to_simple c ts s (inr (inr (inr (inl h)))) = inr (inr (inr (first.named_back (Room c) (within (Room c) (levels_for c d)) line (form.Expr (Room c) (within (Room c) (levels_for c d))) ts s h)))
    to_simple c ts s (inr (inr (inr (inr h)))) = inr (inr (inr (inr h)))

    other_last : (ts : List Token) (s : PlainStmt) → (AName ⨟ AfterName U) ts s ⊎ first.Unnamed ts → form.EvalOf (Room U) (elifs_for U e) (levels_for U d) BR line ts s → Parted U OtherEval ts s
    other_last ts s (inl k) h = inr (inr (inr (inl k)))
    other_last ts s (inr k) h = inr (inr (inr (inr (h, k))))

    from_simple : (ts : List Token) (s : PlainStmt) → form.Simple (Room U) (elifs_for U e) (levels_for U d) BR line ts s → Parted U OtherEval ts s
    from_simple ts s (inl h) = inl h
    from_simple ts s (inr (inl h)) = inr (inl h)
    from_simple ts s (inr (inr (inl h))) = inr (inr (inl h))
    from_simple ts s (inr (inr (inr (inl h)))) = inr (inr (inr (inl (first.assigns_named (Room U) (within (Room U) (levels_for U d)) line (form.Expr (Room U) (within (Room U) (levels_for U d))) ts s h))))
    from_simple ts s (inr (inr (inr (inr h)))) = other_last ts s (first.evals_named (Room U) (within (Room U) (levels_for U d)) line (form.Expr (Room U) (within (Room U) (levels_for U d))) ts s h) h

    -- the kinds that begin a simple statement
    abbrev NamedOrOther : Option Token → Type 0
    NamedOrOther o = EXPRESSIONS ≤ kind o

    abbrev FromPass : Option Token → Type 0
    FromPass o = (PASS ≤ kind o) × (is IF o ≡ false) × (is WHILE o ≡ false) × (is WHEN o ≡ false)

    abbrev FromReturn : Option Token → Type 0
    FromReturn o = (RETURN ≤ kind o) × (is IF o ≡ false) × (is WHILE o ≡ false) × (is WHEN o ≡ false)

    pub rule_simple : RuleProperties g n (form.Simple (Room U) (elifs_for U e) (levels_for U d) BR line) SimpleS StartsSimple (IsKind NEW_LINE) (read.simple room e d block line) (read.simple room' e' d' block' line)
    unfolding read.simple
    rule_simple =
        rule_from
        (rule_either (λ o. read.simple_at room e d block line false (is RETURN o) (is PASS o) (is NAME o)) (λ o. read.simple_at room' e' d' block' line false (is RETURN o) (is PASS o) (is NAME o)) (is DROP) StartsSimple rule_drop
        (rule_either (λ o. read.simple_at room e d block line false false (is PASS o) (is NAME o)) (λ o. read.simple_at room' e' d' block' line false false (is PASS o) (is NAME o)) (is RETURN) FromReturn rule_return
        (rule_either (λ o. read.simple_at room e d block line false false false (is NAME o)) (λ o. read.simple_at room' e' d' block' line false false false (is NAME o)) (is PASS) FromPass rule_pass
        (rule_either (λ _. read.eval_of room e d block line) (λ _. read.eval_of room' e' d' block' line) (is NAME) NamedOrOther rule_name_first rule_other
        (is_yes NAME) (λ o h. h.1) (λ o h. omega arith) (λ o h. h.0))
        (is_yes PASS) (λ o h. is_no PASS o (λ e. omega arith)) (λ o h. let w = no_words o (inl h) in (omega arith, w.0, w.1, w.2)) (λ o h. let w = no_words o (inr h) in (omega arith, w.0, w.1, w.2)))
        (is_yes RETURN) (λ o h. is_no RETURN o (λ e. let k = h.0 in omega arith)) (λ o h. (omega arith, is_no IF o (λ e. omega arith), is_no WHILE o (λ e. omega arith), is_no WHEN o (λ e. omega arith))) (λ o h. let k = h.0 in (omega arith, h.1, h.2, h.3)))
        (is_yes DROP) (λ o h. is_no DROP o (λ e. let k = h.0 in omega arith)) (λ o h. (omega arith, is_no IF o (λ e. omega arith), is_no WHILE o (λ e. omega arith), is_no WHEN o (λ e. omega arith))) (λ o h. let k = h.0 in (omega arith, h.1, h.2, h.3)))
        to_simple from_simple (λ o h. h) (λ o h. h)

  -- a statement has a token
  pub proper_simple : (line : ℕ) (s : PlainStmt) (c : Cause) (xs : List Token) → form.Simple (Room c) (elifs_for c e) (levels_for c d) (BS c) line xs s → 0 < length xs
  proper_simple line s c xs (inl h) = longer h.0 h.1 h.3 (one_token h.4.1)
  proper_simple line s c xs (inr (inl h)) = longer h.0 h.1 h.3 (one_token h.4.1)
  proper_simple line s c xs (inr (inr (inl h))) = longer h.0 h.1 h.3 (one_token h.4.1)
  proper_simple line s c xs (inr (inr (inr (inl h)))) = let k = h.4 in longer h.0 h.1 h.3 (longer k.0 k.1 k.3 (one_token k.4.1))
  proper_simple line s c xs (inr (inr (inr (inr h)))) = longer h.0 h.1 h.3 (proper_expr (Room c) (within (Room c) (levels_for c d)) h.0 h.2 h.4)

  -- a simple statement with its line, and its line end
  pub rule_simple_line : RuleProperties g n (Located (form.Simple (Room U) (elifs_for U e) (levels_for U d) BR) ⨟ (λ s. NewLine ⨟ (λ _. Yields s)))
      (λ c. Located (form.Simple (Room c) (elifs_for c e) (levels_for c d) (BS c)) ⨟ (λ s. NewLine ⨟ (λ _. Yields s))) StartsSimple Any (read.simple_line room e d block) (read.simple_line room' e' d' block')
  unfolding read.simple_line
  rule_simple_line =
      rule_then
      (rule_located g n (form.Simple (Room U) (elifs_for U e) (levels_for U d) BR) (λ line c. form.Simple (Room c) (elifs_for c e) (levels_for c d) (BS c) line) StartsSimple (IsKind NEW_LINE)
      (read.simple room e d block) (read.simple room' e' d' block') line_at (λ t. refl) rule_simple proper_simple)
      (λ s. rule_then (rule_take (known_kind fits NEW_LINE (omega arith))) (λ _. rule_pure _) (λ c t. some_yields _) (λ o h. h))
      (λ c s. some_then NewLine _ some_new_line (λ t. some_yields _)) (λ o h. h)

  abbrev NoIf : Option Token → Type 0
  NoIf o = (STATEMENTS ≤ kind o) × (is IF o ≡ false)

  abbrev NoWhile : Option Token → Type 0
  NoWhile o = (STATEMENTS ≤ kind o) × (is IF o ≡ false) × (is WHILE o ≡ false)

  pub rule_stmt : RuleProperties g n (form.Stmt (Room U) (elifs_for U e) (levels_for U d) BR) (λ c. form.Stmt (Room c) (elifs_for c e) (levels_for c d) (BS c)) StartsStmt EndsChain (read.stmt room e d block) (read.stmt room' e' d' block')
  unfolding read.stmt
  rule_stmt =
      rule_either (λ o. read.stmt_at room e d block false (is WHILE o) (is WHEN o)) (λ o. read.stmt_at room' e' d' block' false (is WHILE o) (is WHEN o)) (is IF) StartsStmt rule_if
      (rule_either (λ o. read.stmt_at room e d block false false (is WHEN o)) (λ o. read.stmt_at room' e' d' block' false false (is WHEN o)) (is WHILE) NoIf
      (rule_from rule_while (λ c ts a h. h) (λ ts a h. h) (λ o h. h) (λ o h. tt))
      (rule_either (λ _. read.simple_line room e d block) (λ _. read.simple_line room' e' d' block') (is WHEN) NoWhile
      (rule_from {F' = EndsChain} rule_when (λ c ts a h. h) (λ ts a h. h) (λ o h. h) (λ o h. tt))
      (rule_from {F' = EndsChain} rule_simple_line (λ c ts a h. h) (λ ts a h. h) (λ o h. h) (λ o h. tt))
      (is_yes WHEN) (λ o h. h.3) (λ o h. (omega arith, is_no IF o (λ e. omega arith), is_no WHILE o (λ e. omega arith))) (λ o h. (h.0, h.1, h.2)))
      (is_yes WHILE) (λ o h. h.2) (λ o h. (omega arith, is_no IF o (λ e. omega arith))) (λ o h. (h.0, h.1)))
      (is_yes IF) (λ o h. h.1) (λ o h. omega arith) (λ o h. h.0)

  some_stmt : (c : Cause) → HasPrefix (form.Stmt (Room c) (elifs_for c e) (levels_for c d) (BS c)) []
  some_stmt c = some_pass (Room c) (elifs_for c e) (levels_for c d) (BS c)

  pub proper_stmt : (c : Cause) (s : PlainStmt) (xs : List Token) → form.Stmt (Room c) (elifs_for c e) (levels_for c d) (BS c) xs s → 0 < length xs
  proper_stmt c s xs (inl h) = let a = h.4 in longer h.0 h.1 h.3 (longer a.0 a.1 a.3 (one_token a.4.1))
  proper_stmt c s xs (inr (inl h)) = let a = h.4 in longer h.0 h.1 h.3 (longer a.0 a.1 a.3 (one_token a.4.1))
  proper_stmt c s xs (inr (inr (inl h))) = longer h.0 h.1 h.3 (one_token h.4.1)
  proper_stmt c s xs (inr (inr (inr h))) = let k = h.4 in longer h.0 h.1 h.3 (let e = ap length k.2 in omega arith)

  pub rule_more_stmt : (ss : List PlainStmt) → RuleProperties g n (form.MoreStmt (Room U) (elifs_for U e) (levels_for U d) BR ss) (λ c. form.MoreStmt (Room c) (elifs_for c e) (levels_for c d) (BS c) ss) StartsStmt EndsChain (read.more_stmt room e d block ss) (read.more_stmt room' e' d' block' ss)
  unfolding read.more_stmt
  rule_more_stmt ss = rule_then rule_stmt (λ s. rule_pure _) (λ c s. some_yields _) (λ o h. h)

  goes_in : (o : Option Token) → STATEMENTS ≤ kind o → in_block o ≡ true
  goes_in o h = ap (λ b. if b then false else true) (is_no DEDENT o (λ e. omega arith))

  stops_at : (o : Option Token) → kind o ≡ DEDENT → in_block o ≡ false
  stops_at o h = ap (λ b. if b then false else true) (is_yes DEDENT o h)

  pub rule_stmts : (ss : List PlainStmt) → RuleProperties g n (Many (form.MoreStmt (Room U) (elifs_for U e) (levels_for U d) BR) ss) (λ c. Many (form.MoreStmt (Room c) (elifs_for c e) (levels_for c d) (BS c)) ss) EndsChain (IsKind DEDENT) (read.stmts room e d block ss) (read.stmts room' e' d' block' ss)
  unfolding read.stmts
  rule_stmts ss =
      rule_loop rule_more_stmt (λ s t xs h. longer h.0 h.1 h.3 (proper_stmt U h.2 h.0 h.4)) goes_in stops_at
      (λ o h. ends_chain_high o (omega arith)) (λ o h. ends_chain_low o (omega arith)) (λ o h. ends_chain_high o (omega arith)) (λ o h. ends_chain_low o (omega arith)) ss

  -- a block: the line end before it makes one token more
  pub rule_block : (m : ℕ) → m ≤ suc n → RuleProperties g m (form.BlockOf (Room U) (elifs_for U e) (levels_for U d) BR) (λ c. form.BlockOf (Room c) (elifs_for c e) (levels_for c d) (BS c)) (IsKind NEW_LINE) Any (read.block_from room e d block) (read.block_from room' e' d' block')
  unfolding read.block_from
  rule_block m le =
      rule_after g m n NewLine (λ c. NewLine) (IsKind NEW_LINE) Any (take new_line) (take new_line) _ (λ _ c. Indent ⨟ (λ _. form.Stmt (Room c) (elifs_for c e) (levels_for c d) (BS c) ⨟ (λ s. Many (form.MoreStmt (Room c) (elifs_for c e) (levels_for c d) (BS c)) (s ∷ []) ⨟ (λ ss. Dedent ⨟ (λ _. Yields ss))))) (IsKind INDENT) Any _ _
      (rule_take (known_kind fits NEW_LINE (omega arith)))
      (λ _. rule_then (rule_take (known_kind fits INDENT (omega arith)))
      (λ _. rule_then rule_stmt
      (λ s. rule_then (rule_stmts (s ∷ []))
      (λ ss. rule_then (rule_take (known_kind fits DEDENT (omega arith))) (λ _. rule_pure _) (λ c t. some_yields _) (λ o h. h))
      (λ c ss. some_then Dedent _ some_dedent (λ t. some_yields _)) (λ o h. h))
      (λ c s. some_tail (Room c) (elifs_for c e) (levels_for c d) (BS c) s) (λ o h. h))
      (λ c t. some_then (form.Stmt (Room c) (elifs_for c e) (levels_for c d) (BS c)) _ (some_stmt c) (some_tail (Room c) (elifs_for c e) (levels_for c d) (BS c))) (λ o h. tt))
      (λ c t. some_inside (Room c) (elifs_for c e) (levels_for c d) (BS c)) (λ o h. tt) (λ xs a h. let k = one_token h.1 in omega arith)

-- Blocks at each number of them one in another, by recursion on that number, and the rules of functions and scripts.
use Rattle.std.proofs.Common.{◌≡◌, ℕ, zero, suc, ◌<◌, ◌≤◌, List, [], length, Option, Some, None, Bool, true, false, refl, ap, arith, ◌⊎◌, inl, inr}
use Rattle.std.specs.Prelude.{if◌then◌else◌}
use Rattle.std.proofs.lemmas.Bool.{eqb-true}
use Rattle.lf_lexer.specs.declared.tokens.Token.{Token}
use Rattle.lf_lexer.specs.declared.tokens.Mark.TheVariants as mark
use Rattle.lf_parser.specs.declared.name.Name.{Name}
use Rattle.lf_parser.specs.declared.halt.Cause.{Cause}
use Rattle.lf_parser.specs.declared.halt.Cause.TheVariants.{Unexpected, TooDeep, TooMany}
use Rattle.lf_parser.specs.Kinds.{kind, is, CLOSE_PAREN, COMMA, DEF, END, NAME, NEW_LINE, OPEN_PAREN}
use Rattle.lf_parser.specs.Forms.{Form, Yields, ◌⨟◌, Many, HasPrefix}
use Rattle.lf_parser.specs.Plain.{PlainStmt, PlainFunction, block_of}
use Rattle.lf_parser.specs.Grammar.{Sign, AName, End, Items, no_items, with_function, with_stmt, tree_of}
use Rattle.lf_parser.specs.Grammar as form
use Rattle.lf_parser.specs.Parsers.{Err, many}
use Rattle.lf_parser.specs.ReadingFunctions as read
use Rattle.lf_parser.proofs.Rules.RuleProperties.{Family, RuleSetting, StaysOrFew, RuleProperties, rule_then, rule_pure, some_then, some_yields}
use Rattle.lf_parser.proofs.Rules.OneToken.{Any, Guard, rule_take, rule_either}
use Rattle.lf_parser.proofs.Rules.Repetition.{rule_loop}
use Rattle.lf_parser.proofs.Rules.TokenKinds.{IsKind, is_yes, is_no, known_kind, known_name}
use Rattle.lf_parser.proofs.Rules.FormsHaveTokens.{some_sign, some_name, some_second, some_many, some_end, one_token, longer}
use Rattle.lf_parser.proofs.Rules.ExpressionRules.{rule_some_names}
use Rattle.lf_parser.proofs.Rules.ExpressionLevels.{levels_for}
use Rattle.lf_parser.proofs.Rules.StatementRules.{elifs_for, EndsChain, ends_chain_low, ends_chain_high, rule_stmt, rule_block, rule_body, some_block, proper_stmt, StartsStmt}

-- the settings of readers under some limits, and of those under larger ones, at each number of blocks
pub record Limits (g : RuleSetting) (fits : (t : Token) → END < kind (Some t) → g.fits t) (reach : ℕ → ℕ) (Room : Cause → ℕ → Type 0) (room room' : ℕ → Bool) (d d' e e' : ℕ) : Type 0 where
  pub roomy : (k count : ℕ) → Guard g (reach k) TooMany (λ c. Room c count) (room count) (room' count)
  pub deeper : d ≤ d'
  pub same : (k : ℕ) → g.stays TooDeep ⊎ (0 < reach k) → d ≡ d'
  pub longer' : e ≤ e'
  pub alike : (k : ℕ) → g.stays TooMany ⊎ (0 < reach k) → e ≡ e'
  pub step : (k : ℕ) → reach (suc k) ≤ suc (reach k)

module _ (g : RuleSetting) (fits : (t : Token) → END < kind (Some t) → g.fits t) (reach : ℕ → ℕ) (Room : Cause → ℕ → Type 0) (room room' : ℕ → Bool) (d d' e e' : ℕ)
    (limits : Limits g fits reach Room room room' d d' e e') where
  -- blocks, one of them more for what is only begun
  abbrev pub BR : ℕ → Form (List PlainStmt)
  BR k = form.blocks (Room Unexpected) (elifs_for Unexpected e) (levels_for Unexpected d) k

  abbrev pub BS : ℕ → Family (List PlainStmt)
  BS k c = form.blocks (Room c) (elifs_for c e) (levels_for c d) (suc k)

  pub some_blocks : (k : ℕ) (c : Cause) → HasPrefix (BS k c) []
  unfolding form.blocks
  some_blocks k c = some_block (Room c) (elifs_for c e) (levels_for c d) (form.blocks (Room c) (elifs_for c e) (levels_for c d) k)

  pub rule_blocks : (k k' : ℕ) → k ≤ k' → (g.stays Unexpected ⊎ (0 < reach 0) → k ≡ k') → RuleProperties g (reach k) (BR k) (BS k) (IsKind NEW_LINE) Any (read.blocks room e d k) (read.blocks room' e' d' k')
  unfolding form.blocks read.blocks
  rule_blocks zero k' le same = record {
    good = λ ts. ([], refl, inl refl, tt, λ s hs. refl, tt);
    whole = λ xs s a h f. absurd h;
    begin = λ xs s a h f. absurd h;
    grows = λ ts st. out_of k' ts st (same (few ts st));
  }
    where
      few : (ts : List Token) → StaysOrFew {A = List PlainStmt} g (reach 0) ts (Err Unexpected ts) → g.stays Unexpected ⊎ (0 < reach 0)
      few ts (inl lt) = inr (omega arith)
      few ts (inr st) = inl st

      out_of : (k' : ℕ) (ts : List Token) → StaysOrFew {A = List PlainStmt} g (reach 0) ts (Err Unexpected ts) → 0 ≡ k' → read.blocks room' e' d' k' ts ≡ Err Unexpected ts
      out_of zero ts st h = refl
      out_of (suc k') ts st h = absurd (omega arith)
  rule_blocks (suc k) zero le same = absurd (omega arith)
  rule_blocks (suc k) (suc k') le same =
      rule_block g fits (reach k) Room room room' (limits.roomy k) d d' limits.deeper (limits.same k) e e' limits.longer' (limits.alike k)
      (BR k) (BS k) (read.blocks room e d k) (read.blocks room' e' d' k') (rule_blocks k k' (omega arith) (λ h. let z = same h in omega arith)) (some_blocks k) (reach (suc k)) (limits.step k)

  module _ (k k' : ℕ) (le : k ≤ k') (nested : g.stays Unexpected ⊎ (0 < reach 0) → k ≡ k') where
    abbrev Stmt : Form PlainStmt
    Stmt = form.Stmt (Room Unexpected) (elifs_for Unexpected e) (levels_for Unexpected d) (BR k)

    abbrev StmtS : Family PlainStmt
    StmtS c = form.Stmt (Room c) (elifs_for c e) (levels_for c d) (BS k c)

    pub rule_a_stmt : RuleProperties g (reach k) Stmt StmtS StartsStmt EndsChain (read.stmt room e d (read.blocks room e d k)) (read.stmt room' e' d' (read.blocks room' e' d' k'))
    rule_a_stmt = rule_stmt g fits (reach k) Room room room' (limits.roomy k) d d' limits.deeper (limits.same k) e e' limits.longer' (limits.alike k)
        (BR k) (BS k) (read.blocks room e d k) (read.blocks room' e' d' k') (rule_blocks k k' le nested) (some_blocks k)

    abbrev Def : (c : Cause) → Form PlainFunction
    Def c = form.Def (Room c) (elifs_for c e) (levels_for c d) (suc k)

    abbrev function : Name → List Name → List PlainStmt → PlainFunction
    function x params body = record { name = x; params = params; body = block_of body }

    some_end_of : (c : Cause) (x : Name) (params : List Name) → HasPrefix (form.Body (Room c) (elifs_for c e) (levels_for c d) (BS k c) ⨟ (λ body. Yields (function x params body))) []
    some_end_of c x params = some_then (form.Body (Room c) (elifs_for c e) (levels_for c d) (BS k c)) _ (some_then (Sign mark.Colon) _ (some_sign mark.Colon) (λ t. some_blocks k c)) (λ body. some_yields _)

    some_close_of : (c : Cause) (x : Name) (params : List Name) → HasPrefix (Sign mark.CloseParen ⨟ (λ _. form.Body (Room c) (elifs_for c e) (levels_for c d) (BS k c) ⨟ (λ body. Yields (function x params body)))) []
    some_close_of c x params = some_then (Sign mark.CloseParen) _ (some_sign mark.CloseParen) (λ t. some_end_of c x params)

    some_params_of : (c : Cause) (x : Name) → HasPrefix (form.SomeNames (Room c) ⨟ (λ params. Sign mark.CloseParen ⨟ (λ _. form.Body (Room c) (elifs_for c e) (levels_for c d) (BS k c) ⨟ (λ body. Yields (function x params body))))) []
    some_params_of c x = some_then (form.SomeNames (Room c)) _ (some_second (some_yields [])) (some_close_of c x)

    some_open_of : (c : Cause) (x : Name) → HasPrefix (Sign mark.OpenParen ⨟ (λ _. form.SomeNames (Room c) ⨟ (λ params. Sign mark.CloseParen ⨟ (λ _. form.Body (Room c) (elifs_for c e) (levels_for c d) (BS k c) ⨟ (λ body. Yields (function x params body)))))) []
    some_open_of c x = some_then (Sign mark.OpenParen) _ (some_sign mark.OpenParen) (λ t. some_params_of c x)

    pub rule_def : RuleProperties g (reach k) (form.Def (Room Unexpected) (elifs_for Unexpected e) (levels_for Unexpected d) k) Def (IsKind DEF) Any (read.def room e d k) (read.def room' e' d' k')
    unfolding read.def
    rule_def =
        rule_then (rule_take (known_kind fits DEF (omega arith)))
        (λ _. rule_then (rule_take (known_name fits))
        (λ x. rule_then (rule_take (known_kind fits OPEN_PAREN (omega arith)))
        (λ _. rule_then (rule_some_names g fits (reach k) Room room room' (limits.roomy k) (IsKind CLOSE_PAREN) (λ o h. is_no COMMA o (λ e. omega arith)) (λ o h. is_no NAME o (λ e. omega arith)))
        (λ params. rule_then (rule_take (known_kind fits CLOSE_PAREN (omega arith)))
        (λ _. rule_then (rule_body g fits (reach k) Room room room' (limits.roomy k) d d' limits.deeper (limits.same k) e e' limits.longer' (limits.alike k)
        (BR k) (BS k) (read.blocks room e d k) (read.blocks room' e' d' k') (rule_blocks k k' le nested) (some_blocks k))
        (λ body. rule_pure _) (λ c body. some_yields _) (λ o h. h))
        (λ c t. some_end_of c x params) (λ o h. tt))
        (λ c params. some_close_of c x params) (λ o h. h))
        (λ c t. some_params_of c x) (λ o h. tt))
        (λ c x. some_open_of c x) (λ o h. tt))
        (λ c t. some_then AName _ some_name (λ x. some_open_of c x)) (λ o h. tt)

    abbrev StartsItem : Option Token → Type 0
    StartsItem o = DEF ≤ kind o

    abbrev Item : Items → Form Items
    Item items = form.Item (Room Unexpected) (elifs_for Unexpected e) (levels_for Unexpected d) k items

    abbrev ItemS : Items → Family Items
    ItemS items c = form.Item (Room c) (elifs_for c e) (levels_for c d) (suc k) items

    pub rule_item : (items : Items) → RuleProperties g (reach k) (Item items) (ItemS items) StartsItem EndsChain (read.item room e d k items) (read.item room' e' d' k' items)
    unfolding read.item read.def_item read.stmt_item
    rule_item items =
        rule_either (λ _. read.stmt_item room e d k items) (λ _. read.stmt_item room' e' d' k' items) (is DEF) StartsItem
        (rule_then {BP = IsKind DEF} rule_def (λ f. rule_pure {F = EndsChain} _) (λ c f. some_yields _) (λ o h. tt))
        (rule_then rule_a_stmt (λ s. rule_pure _) (λ c s. some_yields _) (λ o h. h))
        (is_yes DEF) (λ o h. is_no DEF o (λ e. omega arith)) (λ o h. omega arith) (λ o h. omega arith)

    pub proper_item : (s t : Items) (xs : List Token) → ItemS s Unexpected xs t → 0 < length xs
    proper_item s t xs (inl h) = let k = h.4 in longer h.0 h.1 h.3 (longer k.0 k.1 k.3 (one_token k.4.1))
    proper_item s t xs (inr h) = longer h.0 h.1 h.3 (proper_stmt g fits (reach k) Room room room' (limits.roomy k) d d' limits.deeper (limits.same k) e e' limits.longer' (limits.alike k)
        (BR k) (BS k) (read.blocks room e d k) (read.blocks room' e' d' k') (rule_blocks k k' le nested) (some_blocks k) Unexpected h.2 h.0 h.4)

    goes : (o : Option Token) → DEF ≤ kind o → read.before_end o ≡ true
    goes o h = ap (λ b. if b then false else true) (is_no END o (λ e. omega arith))

    stops : (o : Option Token) → kind o ≡ END → read.before_end o ≡ false
    stops o h = ap (λ b. if b then false else true) (is_yes END o h)

    -- all that stands before the end
    pub rule_items : (items : Items) → RuleProperties g (reach k) (Many Item items) (λ c. Many (λ i. ItemS i c) items) Any (IsKind END) (many read.before_end (read.item room e d k) items) (many read.before_end (read.item room' e' d' k') items)
    rule_items items =
        rule_loop rule_item proper_item goes stops (λ o h. ends_chain_high o (omega arith)) (λ o h. ends_chain_low o (omega arith)) (λ o h. tt) (λ o h. tt) items

    pub rule_script : ((t : Token) → g.fits t) → RuleProperties g (reach k) (form.Script (Room Unexpected) (elifs_for Unexpected e) (levels_for Unexpected d) k)
        (λ c. form.Script (Room c) (elifs_for c e) (levels_for c d) (suc k)) Any Any (read.a_script room e d k) (read.a_script room' e' d' k')
    unfolding read.a_script read.items_from
    rule_script all =
        rule_then (rule_items no_items)
        (λ items. rule_then (rule_take {B = IsKind END} (record { begin = λ t a h. ends t a (is END (Some t)) refl h; fits = λ t a h. all t })) (λ _. rule_pure {F = Any} _) (λ c t. some_yields _) (λ o h. tt))
        (λ c items. some_then End _ some_end (λ t. some_yields _)) (λ o h. h)
      where
        ends : (t a : Token) (b : Bool) → is END (Some t) ≡ b → (if b then Some t else None) ≡ Some a → kind (Some t) ≡ END
        ends t a true h e = eqb-true (kind (Some t)) 0 h
        ends t a false h e = absurd (cc)

    pub some_script : (c : Cause) → HasPrefix (form.Script (Room c) (elifs_for c e) (levels_for c d) (suc k)) []
    some_script c = some_then (Many (form.Item (Room c) (elifs_for c e) (levels_for c d) (suc k)) no_items) _ (some_many _) (λ items. some_then End _ some_end (λ t. some_yields _))

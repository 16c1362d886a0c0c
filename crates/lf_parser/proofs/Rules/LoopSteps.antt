-- Each step of a loop takes a token, so that a loop is one step and then the others.
use Rattle.std.proofs.Common.{◌≡◌, ℕ, zero, suc, ◌+◌, ◌<◌, List, length, Option, Some, refl, ap, ◌∙◌, subst, arith, length-append}
use Rattle.lf_base.specs.declared.limits.TheConstants.{MOST_ELIFS, MOST_EXPRESSION_LEVELS}
use Rattle.lf_lexer.specs.declared.tokens.Token.{Token}
use Rattle.lf_parser.specs.declared.halt.Cause.{Cause}
use Rattle.lf_parser.specs.declared.halt.Cause.TheVariants.{Unexpected, TooDeep, TooMany}
use Rattle.lf_parser.specs.Kinds.{kind, END}
use Rattle.lf_lexer.specs.declared.tokens.Mark.TheVariants as mark
use Rattle.lf_parser.specs.declared.expressions.Level.TheVariants as level
use Rattle.lf_parser.specs.Words.{is_operator}
use Rattle.lf_parser.specs.Forms.{Form}
use Rattle.lf_parser.specs.Parsers.{ReadOutcome, Ok, Err, Parser, then_read}
use Rattle.lf_parser.specs.ReadingFunctions.{levels_left}
use Rattle.lf_parser.specs.ReadingFunctions as read
use Rattle.lf_parser.specs.Refusals.{PartFits}
use Rattle.lf_parser.specs.Limits.{part_fits, rules_at, within_blocks, at_levels, within_limits}
use Rattle.lf_parser.proofs.Rules.RuleProperties.{Family, RuleSetting, OutcomeSays, RuleProperties}
use Rattle.lf_parser.proofs.Rules.OneToken.{Guard}
use Rattle.lf_parser.proofs.Rules.Repetition.{Shortens, LoopUnrolls, unrolled}
use Rattle.lf_parser.proofs.Rules.FormsHaveTokens.{one_token, longer}
use Rattle.lf_parser.proofs.Rules.ExpressionRules.{Deep, rule_suffix, proper_suffix, rule_more_arg, rule_times, rule_plus, rule_and, rule_or, rule_more_name}
use Rattle.lf_parser.proofs.Rules.StatementRules.{rule_more_stmt, proper_stmt}
use Rattle.lf_parser.proofs.Rules.ScriptRules.{Limits, BR, BS, rule_blocks, some_blocks, rule_item, proper_item}
use Rattle.lf_parser.proofs.Rules.ExpressionLevels.{D, deep}
use Rattle.lf_parser.proofs.Refusals.ExactReading.{RoomOf, none_reached, staying, tested_fits, limits_same}

-- a form with a token is read by taking one
takes_some : {A : Type 0} {g : RuleSetting} {n : ℕ} {R : Form A} {S : Family A} {B F : Option Token → Type 0} {p q : Parser A} → RuleProperties g n R S B F p q
    → ((a : A) (xs : List Token) → S Unexpected xs a → 0 < length xs) → (a : A) (ts r : List Token) → p ts ≡ Ok a r → length r < length ts
takes_some {g = g} {S = S} {p = p} h proper a ts r e =
    let k = subst (OutcomeSays g S p ts) e (h.good ts) in
    let len : length ts ≡ length k.0 + length r = ap length k.1 ∙ length-append k.0 r in
    let some : 0 < length k.0 = proper a k.0 (k.2 Unexpected) in
    omega arith

abbrev any_setting : RuleSetting
any_setting = staying (λ c. ⊥)

abbrev Room : Cause → ℕ → Type 0
Room = RoomOf PartFits

fits : (t : Token) → END < kind (Some t) → any_setting.fits t
fits t h = tt

roomy : (count : ℕ) → Guard any_setting 0 TooMany (λ c. Room c count) (part_fits count) (part_fits count)
roomy = (limits_same any_setting fits none_reached PartFits part_fits 0 0 tested_fits (λ k. omega arith)).roomy 0

deep_at : (n : ℕ) → Deep any_setting 0 (D any_setting fits 0 Room part_fits part_fits roomy n) (rules_at n) (rules_at n)
deep_at n = deep any_setting fits 0 Room part_fits part_fits roomy n n (omega arith) (λ h. refl)

pub suffix_short : (n : ℕ) → Shortens (at_levels read.suffix n)
suffix_short n s t ts r e =
    takes_some (rule_suffix any_setting fits 0 Room part_fits part_fits roomy (D any_setting fits 0 Room part_fits part_fits roomy n) (rules_at n) (rules_at n) (deep_at n) s)
    (λ a xs h. proper_suffix any_setting fits 0 Room part_fits part_fits roomy (D any_setting fits 0 Room part_fits part_fits roomy n) (rules_at n) (rules_at n) (deep_at n) Unexpected s a xs h) t ts r e

-- one argument more opens no level where none is left
pub more_arg_short : (n : ℕ) → Shortens (at_levels read.more_arg n)
unfolding read.more_arg read.separator levels_left
more_arg_short zero s t ts r e = absurd (never (read.separator part_fits (length s) ts) e)
  where
    never : (o : ReadOutcome Token) → then_read o (λ _ us. Err TooDeep us) ≡ Ok t r → ⊥
    never (Ok a us) e = cc
    never (Err c us) e = cc
more_arg_short (suc n) s t ts r e =
    takes_some (rule_more_arg any_setting fits 0 Room part_fits part_fits roomy (D any_setting fits 0 Room part_fits part_fits roomy (suc n)) (rules_at (suc n)) (rules_at (suc n)) (deep_at (suc n)) s refl)
    (λ a xs h. longer h.0 h.1 h.3 (one_token h.4.1.1)) t ts r e

pub times_short : (n : ℕ) → Shortens (at_levels read.times_operand n)
times_short n s t ts r e = takes_some (rule_times any_setting fits 0 Room part_fits part_fits roomy (D any_setting fits 0 Room part_fits part_fits roomy n) (rules_at n) (rules_at n) (deep_at n) s) (λ a xs h. longer h.0 h.1 h.3 (one_token h.4.1)) t ts r e

pub plus_short : (n : ℕ) → Shortens (at_levels read.plus n)
plus_short n s t ts r e = takes_some (rule_plus any_setting fits 0 Room part_fits part_fits roomy (D any_setting fits 0 Room part_fits part_fits roomy n) (rules_at n) (rules_at n) (deep_at n) s) (λ a xs h. longer h.0 h.1 h.3 (one_token h.4.1)) t ts r e

pub and_short : (n : ℕ) → Shortens (at_levels read.and_neg n)
and_short n s t ts r e = takes_some (rule_and any_setting fits 0 Room part_fits part_fits roomy (D any_setting fits 0 Room part_fits part_fits roomy n) (rules_at n) (rules_at n) (deep_at n) s) (λ a xs h. longer h.0 h.1 h.3 (one_token h.4.1)) t ts r e

pub or_short : (n : ℕ) → Shortens (at_levels read.or_both n)
or_short n s t ts r e = takes_some (rule_or any_setting fits 0 Room part_fits part_fits roomy (D any_setting fits 0 Room part_fits part_fits roomy n) (rules_at n) (rules_at n) (deep_at n) s) (λ a xs h. longer h.0 h.1 h.3 (one_token h.4.1)) t ts r e

pub more_name_short : Shortens (read.more_name part_fits)
more_name_short s t ts r e =
    takes_some (rule_more_name any_setting fits 0 Room part_fits part_fits roomy s) (λ a xs h. longer h.0 h.1 h.3 (one_token h.4.1.1)) t ts r e

-- the limits of scripts, where blocks may stand so deep one in another
limits : Limits any_setting fits none_reached Room part_fits part_fits MOST_EXPRESSION_LEVELS MOST_EXPRESSION_LEVELS MOST_ELIFS MOST_ELIFS
limits = limits_same any_setting fits none_reached PartFits part_fits MOST_EXPRESSION_LEVELS MOST_ELIFS tested_fits (λ k. omega arith)

pub more_stmt_short : (n : ℕ) → Shortens (within_blocks read.more_stmt n)
more_stmt_short n s t ts r e =
    takes_some (rule_more_stmt any_setting fits 0 Room part_fits part_fits (limits.roomy n) MOST_EXPRESSION_LEVELS MOST_EXPRESSION_LEVELS limits.deeper (limits.same n) MOST_ELIFS MOST_ELIFS limits.longer' (limits.alike n)
    (BR any_setting fits none_reached Room part_fits part_fits MOST_EXPRESSION_LEVELS MOST_EXPRESSION_LEVELS MOST_ELIFS MOST_ELIFS limits n) (BS any_setting fits none_reached Room part_fits part_fits MOST_EXPRESSION_LEVELS MOST_EXPRESSION_LEVELS MOST_ELIFS MOST_ELIFS limits n) (within_limits read.blocks n) (within_limits read.blocks n)
    (rule_blocks any_setting fits none_reached Room part_fits part_fits MOST_EXPRESSION_LEVELS MOST_EXPRESSION_LEVELS MOST_ELIFS MOST_ELIFS limits n n (omega arith) (λ h. refl)) (some_blocks any_setting fits none_reached Room part_fits part_fits MOST_EXPRESSION_LEVELS MOST_EXPRESSION_LEVELS MOST_ELIFS MOST_ELIFS limits n) s)
    (λ a xs h. longer h.0 h.1 h.3 (proper_stmt any_setting fits 0 Room part_fits part_fits (limits.roomy n) MOST_EXPRESSION_LEVELS MOST_EXPRESSION_LEVELS limits.deeper (limits.same n) MOST_ELIFS MOST_ELIFS limits.longer' (limits.alike n)
    (BR any_setting fits none_reached Room part_fits part_fits MOST_EXPRESSION_LEVELS MOST_EXPRESSION_LEVELS MOST_ELIFS MOST_ELIFS limits n) (BS any_setting fits none_reached Room part_fits part_fits MOST_EXPRESSION_LEVELS MOST_EXPRESSION_LEVELS MOST_ELIFS MOST_ELIFS limits n) (within_limits read.blocks n) (within_limits read.blocks n)
    (rule_blocks any_setting fits none_reached Room part_fits part_fits MOST_EXPRESSION_LEVELS MOST_EXPRESSION_LEVELS MOST_ELIFS MOST_ELIFS limits n n (omega arith) (λ h. refl)) (some_blocks any_setting fits none_reached Room part_fits part_fits MOST_EXPRESSION_LEVELS MOST_EXPRESSION_LEVELS MOST_ELIFS MOST_ELIFS limits n) Unexpected h.2 h.0 h.4)) t ts r e

pub item_short : (n : ℕ) → Shortens (within_limits read.item n)
item_short n s t ts r e =
    takes_some (rule_item any_setting fits none_reached Room part_fits part_fits MOST_EXPRESSION_LEVELS MOST_EXPRESSION_LEVELS MOST_ELIFS MOST_ELIFS limits n n (omega arith) (λ h. refl) s)
    (λ a xs h. proper_item any_setting fits none_reached Room part_fits part_fits MOST_EXPRESSION_LEVELS MOST_EXPRESSION_LEVELS MOST_ELIFS MOST_ELIFS limits n n (omega arith) (λ h. refl) s a xs h) t ts r e

-- ---- the turns of each loop
pub suffix_unrolls : (n : ℕ) → LoopUnrolls read.at_suffix (at_levels read.suffix n) (at_levels read.suffixes n)
unfolding read.suffixes
suffix_unrolls n = unrolled read.at_suffix (at_levels read.suffix n) (suffix_short n)

pub more_arg_unrolls : (n : ℕ) → LoopUnrolls (read.at_mark mark.Comma) (at_levels read.more_arg n) (at_levels read.args_from n)
unfolding read.args_from
more_arg_unrolls n = unrolled (read.at_mark mark.Comma) (at_levels read.more_arg n) (more_arg_short n)

pub times_unrolls : (n : ℕ) → LoopUnrolls (is_operator level.Term) (at_levels read.times_operand n) (at_levels read.term_rest n)
unfolding read.term_rest
times_unrolls n = unrolled (is_operator level.Term) (at_levels read.times_operand n) (times_short n)

pub plus_unrolls : (n : ℕ) → LoopUnrolls (is_operator level.Sum) (at_levels read.plus n) (at_levels read.sum_rest n)
unfolding read.sum_rest
plus_unrolls n = unrolled (is_operator level.Sum) (at_levels read.plus n) (plus_short n)

pub and_unrolls : (n : ℕ) → LoopUnrolls (read.at_mark mark.And) (at_levels read.and_neg n) (at_levels read.both_rest n)
unfolding read.both_rest
and_unrolls n = unrolled (read.at_mark mark.And) (at_levels read.and_neg n) (and_short n)

pub or_unrolls : (n : ℕ) → LoopUnrolls (read.at_mark mark.Or) (at_levels read.or_both n) (at_levels read.expr_rest n)
unfolding read.expr_rest
or_unrolls n = unrolled (read.at_mark mark.Or) (at_levels read.or_both n) (or_short n)

pub more_name_unrolls : LoopUnrolls (read.at_mark mark.Comma) (read.more_name part_fits) (read.names_from part_fits)
unfolding read.names_from
more_name_unrolls = unrolled (read.at_mark mark.Comma) (read.more_name part_fits) more_name_short

pub more_stmt_unrolls : (n : ℕ) → LoopUnrolls read.in_block (within_blocks read.more_stmt n) (within_blocks read.stmts n)
unfolding read.stmts
more_stmt_unrolls n = unrolled read.in_block (within_blocks read.more_stmt n) (more_stmt_short n)

pub item_unrolls : (n : ℕ) → LoopUnrolls read.before_end (within_limits read.item n) (within_limits read.items_from n)
unfolding read.items_from
item_unrolls n = unrolled read.before_end (within_limits read.item n) (item_short n)

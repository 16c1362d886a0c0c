-- The grammar's rules within the limits of the language. This is where they stand for parts, `elif`s and levels.
use Rattle.std.specs.Prelude.{ℕ, List, Bool, ltb}
use Rattle.lf_base.specs.declared.limits.TheConstants.{MOST_PARTS, MOST_ELIFS, MOST_EXPRESSION_LEVELS}
use Rattle.lf_parser.specs.Plain.{PlainStmt}
use Rattle.lf_parser.specs.Parsers.{Parser}
use Rattle.lf_parser.specs.ReadingFunctions.{Inner, levels_left, blocks}

-- whether a list of so many parts may get another one
abbrev pub part_fits : ℕ → Bool
part_fits count = ltb count MOST_PARTS

-- the rules of an expression where so many levels may be opened
abbrev pub rules_at : ℕ → Inner
rules_at levels = levels_left part_fits levels

-- a rule of expressions, where so many levels may be opened
abbrev pub at_levels : {A : Type 0} → ((ℕ → Bool) → Inner → A) → ℕ → A
at_levels entry_rule levels = entry_rule part_fits (rules_at levels)

-- a rule of blocks and of whole scripts
abbrev pub within_limits : {A : Type 0} → ((ℕ → Bool) → ℕ → ℕ → A) → A
within_limits entry_rule = entry_rule part_fits MOST_ELIFS MOST_EXPRESSION_LEVELS

-- a rule of statements, where so many blocks may stand one in another
abbrev pub within_blocks : {A : Type 0} → ((ℕ → Bool) → ℕ → ℕ → Parser (List PlainStmt) → A) → ℕ → A
within_blocks entry_rule nest = within_limits entry_rule (within_limits blocks nest)

-- The levels of indentation above 0, the innermost first.
use Rattle.std.specs.Prelude.{◌≡◌, ℕ, ◌<◌, ◌≤◌, ◌==◌, ◌||◌, Bool, false, List, [], ◌∷◌, length}
use Rattle.lf_base.specs.declared.limits.TheConstants.{MOST_INDENT_LEVELS}
use Rattle.lf_base.specs.declared.refusals.RefusalKind.{RefusalKind}
use Rattle.lf_base.specs.declared.refusals.RefusalKind.TheVariants.{BadIndent, TooDeepIndent}
use Rattle.lf_lexer.specs.Pieces.{PieceForm, level_opens, level_closes}

-- the innermost level; 0 stands below all
abbrev pub innermost : List ℕ → ℕ
innermost [] = 0
innermost (level ∷ levels) = level

-- whether an indentation is one of the levels
abbrev pub is_level : ℕ → List ℕ → Bool
is_level indent [] = indent == 0
is_level indent (level ∷ levels) = (indent == level) || is_level indent levels

-- levels close, the innermost first, until one equals the indentation
pub data Closes (indent : ℕ) : List ℕ → List ℕ → List PieceForm → Type 0 where
  met : {levels : List ℕ} → innermost levels ≡ indent → Closes indent levels levels []
  closed : {level : ℕ} {levels after : List ℕ} {forms : List PieceForm} → indent < level → Closes indent levels after forms
      → Closes indent (level ∷ levels) after (level_closes ∷ forms)

-- the levels before a line of this indentation and after it, and the pieces that this gives; no more than the limit may stand
pub data Indents : List ℕ → ℕ → List ℕ → List PieceForm → Type 0 where
  deeper : {levels : List ℕ} {indent : ℕ} → innermost levels < indent → length levels < MOST_INDENT_LEVELS
      → Indents levels indent (indent ∷ levels) (level_opens ∷ [])
  back : {levels after : List ℕ} {indent : ℕ} {forms : List PieceForm} → Closes indent levels after forms
      → Indents levels indent after forms

-- an indentation that is refused
pub data IndentRefused : List ℕ → ℕ → RefusalKind → Type 0 where
  no_level : {levels : List ℕ} {indent : ℕ} → indent < innermost levels → is_level indent levels ≡ false
      → IndentRefused levels indent BadIndent
  too_deep : {levels : List ℕ} {indent : ℕ} → innermost levels < indent → MOST_INDENT_LEVELS ≤ length levels
      → IndentRefused levels indent TooDeepIndent

-- What single tokens say: marks and line ends by their kind, names, literals and operators.
use Rattle.std.specs.Prelude.{ℕ, Option, Some, None, Bool, true, false, if◌then◌else◌}
use Rattle.lf_base.specs.declared.refusals.Place.{Place}
use Rattle.lf_base.specs.declared.values.Op.{Op}
use Rattle.lf_base.specs.declared.values.Op.TheVariants as op
use Rattle.lf_lexer.specs.declared.tokens.Token.{Token}
use Rattle.lf_lexer.specs.declared.tokens.Lexeme.{Lexeme}
use Rattle.lf_lexer.specs.declared.tokens.Lexeme.TheVariants as lexeme
use Rattle.lf_lexer.specs.declared.tokens.Mark.{Mark}
use Rattle.lf_lexer.specs.declared.tokens.Mark.TheVariants as mark
use Rattle.lf_parser.specs.declared.name.Name.{Name}
use Rattle.lf_parser.specs.declared.expressions.Level.{Level}
use Rattle.lf_parser.specs.declared.expressions.Level.TheVariants as level
use Rattle.lf_parser.specs.Kinds.{is, mark_kind, DEDENT, END, INDENT, NEW_LINE}
use Rattle.lf_parser.specs.Plain.{PlainExpr}
use Rattle.lf_parser.specs.Plain as plain

-- a token of this kind
abbrev pub of_kind : ℕ → Token → Option Token
of_kind n t = if is n (Some t) then Some t else None

-- a token that is this mark
abbrev pub mark_of : Mark → Token → Option Token
mark_of m t = of_kind (mark_kind m) t

abbrev pub new_line : Token → Option Token
new_line t = of_kind NEW_LINE t

abbrev pub indent : Token → Option Token
indent t = of_kind INDENT t

abbrev pub dedent : Token → Option Token
dedent t = of_kind DEDENT t

abbrev pub the_end : Token → Option Token
the_end t = of_kind END t

abbrev pub name_at : Lexeme → Place → Option Name
name_at (lexeme.Name id) place = Some (record { id = id; place = place })
name_at _ place = None

-- a name, with its place
abbrev pub name_of : Token → Option Name
name_of t = name_at t.lexeme t.place

abbrev pub literal : Lexeme → Option PlainExpr
literal (lexeme.Number n) = Some (plain.Number n)
literal (lexeme.Text text) = Some (plain.Text text)
literal (lexeme.Mark mark.None) = Some plain.Nothing
literal (lexeme.Mark mark.True) = Some plain.Yes
literal (lexeme.Mark mark.False) = Some plain.No
literal _ = None

-- a number, a text, `None`, `True` or `False`
abbrev pub literal_of : Token → Option PlainExpr
literal_of t = literal t.lexeme

abbrev pub operator : Level → Lexeme → Option Op
operator level.Compare (lexeme.Mark mark.Equal) = Some op.Eq
operator level.Compare (lexeme.Mark mark.NotEqual) = Some op.Ne
operator level.Compare (lexeme.Mark mark.Less) = Some op.Lt
operator level.Compare (lexeme.Mark mark.LessEqual) = Some op.Le
operator level.Compare (lexeme.Mark mark.Greater) = Some op.Gt
operator level.Compare (lexeme.Mark mark.GreaterEqual) = Some op.Ge
operator level.Sum (lexeme.Mark mark.Plus) = Some op.Add
operator level.Sum (lexeme.Mark mark.Minus) = Some op.Sub
operator level.Term (lexeme.Mark mark.Star) = Some op.Mul
operator level.Term (lexeme.Mark mark.Slash) = Some op.Div
operator level.Term (lexeme.Mark mark.Percent) = Some op.Rem
operator _ _ = None

-- an operator that joins operands of this level
abbrev pub operator_of : Level → Token → Option Op
operator_of level t = operator level t.lexeme

abbrev pub is_some : {A : Type 0} → Option A → Bool
is_some (Some a) = true
is_some None = false

-- whether the next token is an operator of this level
abbrev pub is_operator : Level → Option Token → Bool
is_operator level None = false
is_operator level (Some t) = is_some (operator_of level t)

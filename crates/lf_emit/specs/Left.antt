-- What is still to be emitted of an expression, and how it is emitted step by step.
use Rattle.std.specs.Prelude.{ℕ, ◌+◌, true, false, List, [], ◌∷◌, ◌++◌, map, length, slice_set}
use Rattle.lf_parser.specs.declared.name.Name.{Name}
use Rattle.lf_parser.specs.Plain.{PlainExpr, PlainArgs, no_args, arg, plain_expr}
use Rattle.lf_parser.specs.Plain as plain
use Rattle.lf_code.specs.declared.body.Placed.{Placed}
use Rattle.lf_code.specs.declared.instr.Instr.{Instr}
use Rattle.lf_code.specs.declared.instr.Instr.TheVariants as instr
use Rattle.lf_code.specs.declared.instr.Prefix.TheVariants.{Neg, Not}
use Rattle.lf_code.specs.CodeStep.{on_line}
use Rattle.lf_codegen.specs.Mentions.{args_count}
use Rattle.lf_codegen.specs.declared.called.Called.{Called}
use Rattle.lf_codegen.specs.declared.called.Called.TheVariants.{Built, Question, Function}
use Rattle.lf_codegen.specs.Numbers.{PlainScript, var_number, called_of, asked_number}
use Rattle.lf_codegen.specs.GeneratedCode.{expr_code}
use Rattle.lf_emit.specs.declared.work.Joint.{Joint}
use Rattle.lf_emit.specs.declared.work.Joint.TheVariants.{And, Or}
use Rattle.lf_emit.specs.declared.work.Work.{Work}
use Rattle.lf_emit.specs.declared.work.Work.TheVariants as work

-- another instruction at an address, if there is one
abbrev pub patched : ℕ → ℕ → Instr → List Placed → List Placed
patched at line i out = slice_set out at (on_line line i)

abbrev pub jump_of : Joint → ℕ → Instr
jump_of And at = instr.And at
jump_of Or at = instr.Or at

pub data Left : Type 0 where
  Code : PlainExpr → Left
  Put : Instr → Left
  Second : Joint → PlainExpr → Left
  Land : Joint → ℕ → Left

abbrev pub left_from_work : Work → Left
left_from_work (work.Code e) = Code (plain_expr e.now)
left_from_work (work.Put i) = Put i
left_from_work (work.Second j e) = Second j (plain_expr e.now)
left_from_work (work.Land j at) = Land j at

abbrev pub all_left : List Work → List Left
all_left ws = map left_from_work ws

-- arguments, the last one first
abbrev pub args_left : PlainArgs → List Left
args_left no_args = []
args_left (arg e es) = args_left es ++ Code e ∷ []

module _ (s : PlainScript) (vars : List Name) where
  -- the instruction of an expression that has no parts
  abbrev pub own_call : Called → PlainArgs → List Instr
  own_call (Question name) es = instr.Ask name (asked_number vars es) ∷ []
  own_call _ es = []

  abbrev pub parts_of_call : Called → PlainArgs → List Left
  parts_of_call (Built name) es = Put (instr.Built name (args_count es)) ∷ args_left es
  parts_of_call (Question name) es = []
  parts_of_call (Function body) es = Put (instr.Call body (args_count es)) ∷ args_left es

  abbrev pub own_instrs : PlainExpr → List Instr
  own_instrs plain.Nothing = instr.None ∷ []
  own_instrs plain.Yes = instr.Bool true ∷ []
  own_instrs plain.No = instr.Bool false ∷ []
  own_instrs (plain.Number n) = instr.Int n ∷ []
  own_instrs (plain.Text t) = instr.Text t ∷ []
  own_instrs plain.Object = instr.Object ∷ []
  own_instrs (plain.Var x) = instr.Get (var_number vars x) ∷ []
  own_instrs (plain.Move x) = instr.Take (var_number vars x) ∷ []
  own_instrs (plain.Call x es) = own_call (called_of s x.id) es
  own_instrs _ = []

  -- the parts of an expression, the last one first
  abbrev pub parts_of : PlainExpr → List Left
  parts_of (plain.Field t k) = Put instr.Read ∷ Code k ∷ Code t ∷ []
  parts_of (plain.Remove t k) = Put instr.Remove ∷ Code k ∷ Code t ∷ []
  parts_of (plain.Neg a) = Put (instr.Unary Neg) ∷ Code a ∷ []
  parts_of (plain.Not a) = Put (instr.Unary Not) ∷ Code a ∷ []
  parts_of (plain.Binary op l r) = Put (instr.Binary op) ∷ Code r ∷ Code l ∷ []
  parts_of (plain.And l r) = Second And r ∷ Code l ∷ []
  parts_of (plain.Or l r) = Second Or r ∷ Code l ∷ []
  parts_of (plain.Call x es) = parts_of_call (called_of s x.id) es
  parts_of _ = []

  module _ (line : ℕ) where
    -- the code with one piece more
    abbrev pub more : Left → List Placed → List Placed
    more (Code e) out = out ++ expr_code s vars e line (length out)
    more (Put i) out = out ++ on_line line i ∷ []
    more (Second j e) out =
        let ce = expr_code s vars e line (length out + 1) in
        out ++ on_line line (jump_of j (length out + 1 + length ce + 1)) ∷ (ce ++ on_line line instr.Test ∷ [])
    more (Land j at) out = patched at line (jump_of j (length out)) out

    -- the code with all that is left, the last one first
    abbrev pub finished : List Left → List Placed → List Placed
    finished [] out = out
    finished (w ∷ ws) out = more w (finished ws out)

    -- what a piece emits at once, and what it leaves
    abbrev pub at_once : Left → List Placed → List Placed
    at_once (Code e) out = out ++ map (on_line line) (own_instrs e)
    at_once (Put i) out = out ++ on_line line i ∷ []
    at_once (Second j e) out = out ++ on_line line (jump_of j 0) ∷ []
    at_once (Land j at) out = patched at line (jump_of j (length out)) out

    abbrev pub later : Left → ℕ → List Left
    later (Code e) at = parts_of e
    later (Put i) at = []
    later (Second j e) at = Land j at ∷ Put instr.Test ∷ Code e ∷ []
    later (Land j a) at = []

-- A walk over what is left of an expression emits its code.
use Rattle.std.proofs.Common.{◌≡◌, ℕ, ◌+◌, ◌<◌, List, [], ◌∷◌, ◌++◌, map, length, refl, sym, ap, arith, ◌∙◌}
use Rattle.std.proofs.lemmas.List.{append-nil, append_assoc, map-append, length-append}
use Rattle.lf_parser.specs.declared.name.Name.{Name}
use Rattle.lf_parser.specs.Plain.{PlainExpr, PlainArgs, no_args, arg, plain_expr}
use Rattle.lf_parser.specs.Plain as plain
use Rattle.lf_code.specs.declared.body.Placed.{Placed}
use Rattle.lf_code.specs.declared.instr.Instr.{Instr}
use Rattle.lf_code.specs.declared.instr.Instr.TheVariants as instr
use Rattle.lf_code.specs.declared.instr.Prefix.TheVariants.{Neg, Not}
use Rattle.lf_code.specs.CodeStep.{on_line}
use Rattle.lf_codegen.specs.Mentions.{args_count}
use Rattle.lf_codegen.specs.declared.called.Called.{Called}
use Rattle.lf_codegen.specs.declared.called.Called.TheVariants.{Built, Question, Function}
use Rattle.lf_codegen.specs.Numbers.{PlainScript, called_of}
use Rattle.lf_codegen.specs.GeneratedCode.{expr_code, args_code, call_code}
use Rattle.lf_emit.specs.declared.work.Joint.{Joint}
use Rattle.lf_emit.specs.declared.work.Joint.TheVariants.{And, Or}
use Rattle.lf_emit.specs.declared.work.Work.{Work}
use Rattle.lf_emit.specs.Left.{Left, Code, Put, Second, Land, patched, jump_of, left_from_work, all_left, args_left, own_call}
use Rattle.lf_emit.specs.Left.{parts_of_call}
use Rattle.lf_emit.specs.Left.{own_instrs, parts_of, more, finished, at_once, later}

-- ---- sizes
abbrev mutual
  expr_size : PlainExpr → ℕ
  expr_size (plain.Field t k) = 2 + (expr_size t + expr_size k)
  expr_size (plain.Remove t k) = 2 + (expr_size t + expr_size k)
  expr_size (plain.Neg a) = 2 + expr_size a
  expr_size (plain.Not a) = 2 + expr_size a
  expr_size (plain.Binary op a b) = 2 + (expr_size a + expr_size b)
  expr_size (plain.And a b) = 4 + (expr_size a + expr_size b)
  expr_size (plain.Or a b) = 4 + (expr_size a + expr_size b)
  expr_size (plain.Call x es) = 2 + args_size es
  expr_size _ = 1

  args_size : PlainArgs → ℕ
  args_size no_args = 0
  args_size (arg e es) = expr_size e + args_size es

abbrev pub left_size : Left → ℕ
left_size (Code e) = expr_size e
left_size (Put i) = 1
left_size (Second j e) = 3 + expr_size e
left_size (Land j at) = 1

abbrev pub size_of_all : List Left → ℕ
size_of_all [] = 0
size_of_all (w ∷ ws) = left_size w + size_of_all ws

pub size-append : (vs ws : List Left) → size_of_all (vs ++ ws) ≡ size_of_all vs + size_of_all ws
size-append [] ws = omega arith
size-append (v ∷ vs) ws = omega (arith, size-append vs ws)

args_back_size : (es : PlainArgs) → size_of_all (args_left es) ≡ args_size es
args_back_size no_args = refl
args_back_size (arg e es) = omega (arith, size-append (args_left es) (Code e ∷ []), args_back_size es)

-- ---- instead of an instruction
pub patched_at : (xs ys : List Placed) (y : Placed) (line : ℕ) (i : Instr)
    → patched (length xs) line i (xs ++ y ∷ ys) ≡ xs ++ on_line line i ∷ ys
patched_at [] ys y line i = refl
patched_at (x ∷ xs) ys y line i = ap (λ zs. x ∷ zs) (patched_at xs ys y line i)

module _ (s : PlainScript) (vars : List Name) where
  call_size : (c : Called) (es : PlainArgs) → size_of_all (parts_of_call s vars c es) < 2 + args_size es
  call_size (Built name) es = omega (arith, args_back_size es)
  call_size (Question name) es = omega arith
  call_size (Function body) es = omega (arith, args_back_size es)

  parts_smaller : (e : PlainExpr) → size_of_all (parts_of s vars e) < expr_size e
  parts_smaller plain.Nothing = omega arith
  parts_smaller plain.Yes = omega arith
  parts_smaller plain.No = omega arith
  parts_smaller (plain.Number n) = omega arith
  parts_smaller (plain.Text t) = omega arith
  parts_smaller plain.Object = omega arith
  parts_smaller (plain.Var x) = omega arith
  parts_smaller (plain.Field t k) = omega arith
  parts_smaller (plain.Move x) = omega arith
  parts_smaller (plain.Remove t k) = omega arith
  parts_smaller (plain.Neg a) = omega arith
  parts_smaller (plain.Not a) = omega arith
  parts_smaller (plain.Binary op a b) = omega arith
  parts_smaller (plain.And a b) = omega arith
  parts_smaller (plain.Or a b) = omega arith
  parts_smaller (plain.Call x es) = call_size (called_of s x.id) es

  module _ (line : ℕ) where
    later_smaller : (w : Left) (at : ℕ) → size_of_all (later s vars line w at) < left_size w
    later_smaller (Code e) at = parts_smaller e
    later_smaller (Put i) at = omega arith
    later_smaller (Second j e) at = omega arith
    later_smaller (Land j a) at = omega arith

    -- ---- what is left, one after the other
    finished-append : (vs ws : List Left) (out : List Placed)
        → finished s vars line (vs ++ ws) out ≡ finished s vars line vs (finished s vars line ws out)
    finished-append [] ws out = refl
    finished-append (v ∷ vs) ws out = ap (more s vars line v) (finished-append vs ws out)

    abbrev code : PlainExpr → ℕ → List Placed
    code e at = expr_code s vars e line at

    two : (out : List Placed) (a b : PlainExpr) (i : Placed)
        → ((out ++ code a (length out)) ++ code b (length (out ++ code a (length out)))) ++ i ∷ []
        ≡ out ++ (code a (length out) ++ (code b (length out + length (code a (length out))) ++ i ∷ []))
    two out a b i =
        ap (λ n. ((out ++ code a (length out)) ++ code b n) ++ i ∷ []) (length-append out (code a (length out)))
        ∙ append_assoc (out ++ code a (length out)) (code b (length out + length (code a (length out)))) (i ∷ [])
        ∙ append_assoc out (code a (length out)) (code b (length out + length (code a (length out))) ++ i ∷ [])

    joint : (out : List Placed) (j : Joint) (a b : PlainExpr)
        → finished s vars line (Second j b ∷ Code a ∷ []) out
        ≡ out ++ (code a (length out) ++ on_line line
        (jump_of j (length out + length (code a (length out)) + 1 + length
        (code b (length out + length (code a (length out)) + 1)) + 1)) ∷
        (code b (length out + length (code a (length out)) + 1) ++ on_line line instr.Test ∷ []))
    joint out j a b =
        let ca = code a (length out) in
        ap (λ n. (out ++ ca) ++ on_line line (jump_of j (n + 1 + length (code b (n + 1)) + 1)) ∷
        (code b (n + 1) ++ on_line line instr.Test ∷ [])) (length-append out ca)
        ∙ append_assoc out ca _

    args_finished : (es : PlainArgs) (out : List Placed)
        → finished s vars line (args_left es) out ≡ out ++ args_code s vars es line (length out)
    args_finished no_args out = sym (append-nil out)
    args_finished (arg e es) out =
        let ce = code e (length out) in
        finished-append (args_left es) (Code e ∷ []) out
        ∙ args_finished es (out ++ ce)
        ∙ ap (λ n. (out ++ ce) ++ args_code s vars es line n) (length-append out ce)
        ∙ append_assoc out ce (args_code s vars es line (length out + length ce))

    call_finished : (c : Called) (es : PlainArgs) (out : List Placed)
        → finished s vars line (parts_of_call s vars c es) (out ++ map (on_line line) (own_call s vars c es)) ≡ out
        ++ call_code s vars c line es (args_code s vars es line (length out))
    call_finished (Built name) es out =
        let i = on_line line (instr.Built name (args_count es)) in
        ap (λ o. finished s vars line (args_left es) o ++ i ∷ []) (append-nil out)
        ∙ ap (λ o. o ++ i ∷ []) (args_finished es out)
        ∙ append_assoc out (args_code s vars es line (length out)) (i ∷ [])
    call_finished (Question name) es out = refl
    call_finished (Function body) es out =
        let i = on_line line (instr.Call body (args_count es)) in
        ap (λ o. finished s vars line (args_left es) o ++ i ∷ []) (append-nil out)
        ∙ ap (λ o. o ++ i ∷ []) (args_finished es out)
        ∙ append_assoc out (args_code s vars es line (length out)) (i ∷ [])

    -- at no instruction of its own
    pushed : (ws : List Left) (out : List Placed) → finished s vars line ws (out ++ []) ≡ finished s vars line ws out
    pushed ws out = ap (finished s vars line ws) (append-nil out)

    expr_finished : (e : PlainExpr) (out : List Placed)
        → finished s vars line (parts_of s vars e) (out ++ map (on_line line) (own_instrs s vars e)) ≡ out ++ code e (length out)
    expr_finished plain.Nothing out = refl
    expr_finished plain.Yes out = refl
    expr_finished plain.No out = refl
    expr_finished (plain.Number n) out = refl
    expr_finished (plain.Text t) out = refl
    expr_finished plain.Object out = refl
    expr_finished (plain.Var x) out = refl
    expr_finished (plain.Field t k) out = pushed (Put instr.Read ∷ Code k ∷ Code t ∷ []) out ∙ two out t k (on_line line instr.Read)
    expr_finished (plain.Move x) out = refl
    expr_finished (plain.Remove t k) out = pushed (Put instr.Remove ∷ Code k ∷ Code t ∷ []) out ∙ two out t k (on_line line instr.Remove)
    expr_finished (plain.Neg a) out =
        pushed (Put (instr.Unary Neg) ∷ Code a ∷ []) out ∙ append_assoc out (code a (length out)) (on_line line (instr.Unary Neg) ∷ [])
    expr_finished (plain.Not a) out =
        pushed (Put (instr.Unary Not) ∷ Code a ∷ []) out ∙ append_assoc out (code a (length out)) (on_line line (instr.Unary Not) ∷ [])
    expr_finished (plain.Binary op l r) out =
        pushed (Put (instr.Binary op) ∷ Code r ∷ Code l ∷ []) out ∙ two out l r (on_line line (instr.Binary op))
    expr_finished (plain.And l r) out = pushed (Second And r ∷ Code l ∷ []) out ∙ joint out And l r
    expr_finished (plain.Or l r) out = pushed (Second Or r ∷ Code l ∷ []) out ∙ joint out Or l r
    expr_finished (plain.Call x es) out = call_finished (called_of s x.id) es out

    second_finished : (j : Joint) (e : PlainExpr) (out : List Placed)
        → finished s vars line (Land j (length out) ∷ Put instr.Test ∷ Code e ∷ [])
        (out ++ on_line line (jump_of j 0) ∷ []) ≡ more s vars line (Second j e) out
    second_finished j e out =
        let p = on_line line (jump_of j 0) in
        let t = on_line line instr.Test in
        let ce = code e (length out + 1) in
        ap (λ n. patched (length out) line (jump_of j (length (((out ++ p ∷ []) ++ code e n) ++ t ∷ [])))
        (((out ++ p ∷ []) ++ code e n) ++ t ∷ [])) (length-append out (p ∷ []))
        ∙ ap (λ o. patched (length out) line (jump_of j (length o)) o)
        (append_assoc (out ++ p ∷ []) ce (t ∷ []) ∙ append_assoc out (p ∷ []) (ce ++ t ∷ []))
        ∙ ap (λ n. patched (length out) line (jump_of j n) (out ++ p ∷ (ce ++ t ∷ [])))
        (omega (arith, length-append out (p ∷ (ce ++ t ∷ [])), length-append ce (t ∷ [])))
        ∙ patched_at out (ce ++ t ∷ []) p line (jump_of j (length out + 1 + length ce + 1))

    later_finished : (w : Left) (out : List Placed)
        → finished s vars line (later s vars line w (length out)) (at_once s vars line w out) ≡ more s vars line w out
    later_finished (Code e) out = expr_finished e out
    later_finished (Put i) out = refl
    later_finished (Second j e) out = second_finished j e out
    later_finished (Land j at) out = refl

    -- ---- one step of the walk, where w is taken from the end of ws
    module _ (ws us : List Work) (w : Work) (taken : ws ≡ us ++ w ∷ []) where
      before : all_left ws ≡ all_left us ++ left_from_work w ∷ []
      before = ap all_left taken ∙ map-append left_from_work us (w ∷ [])

      pub emitted : (old new : List Placed) (left : List Left) → new ≡ at_once s vars line (left_from_work w) old
          → left ≡ all_left us ++ later s vars line (left_from_work w) (length old)
          → finished s vars line left new ≡ finished s vars line (all_left ws) old
      emitted old new left n l =
          ap (λ o. finished s vars line left o) n
          ∙ ap (λ vs. finished s vars line vs (at_once s vars line (left_from_work w) old)) l
          ∙ finished-append (all_left us) (later s vars line (left_from_work w) (length old)) (at_once s vars line (left_from_work w) old)
          ∙ ap (finished s vars line (all_left us)) (later_finished (left_from_work w) old)
          ∙ sym (ap (λ vs. finished s vars line vs old) before ∙ finished-append (all_left us) (left_from_work w ∷ []) old)

      pub emitted_smaller : (left : List Left) (at : ℕ) → left ≡ all_left us ++ later s vars line (left_from_work w) at
          → size_of_all left < size_of_all (all_left ws)
      emitted_smaller left at l =
          omega (
            arith,
            ap size_of_all l,
            ap size_of_all before,
            size-append (all_left us) (left_from_work w ∷ []),
            size-append (all_left us)
                (later s vars line (left_from_work w) at),
            later_smaller (left_from_work w) at,
          )

-- The number of operands at each address of a script's code: each address that is reached has the one that the tree says.
use Rattle.std.proofs.Common.{◌≡◌, ◌⊎◌, ℕ, zero, suc, ◌+◌, ◌-◌, ◌<◌, ◌≤◌, Bool, true, false, List, [], ◌∷◌, ◌++◌, length, map, Option, Some}
use Rattle.std.proofs.Common.{None, refl, sym, ap, ◌∙◌, subst, arith, inl, inr}
use Rattle.std.specs.Prelude.{slice_get}
use Rattle.std.proofs.lemmas.Option.{slice_get_within}
use Rattle.lf_base.specs.Sets.{Member}
use Rattle.lf_code.specs.declared.body.Placed.{Placed}
use Rattle.lf_code.specs.declared.instr.Instr.{Instr}
use Rattle.lf_code.specs.declared.instr.Instr.TheVariants as instr
use Rattle.lf_code.specs.declared.instr.Prefix.TheVariants.{Neg, Not}
use Rattle.lf_code.specs.CodeStep.{Program, code_at, on_line, body_end}
use Rattle.lf_code.specs.Operations.{leaves, Way, way, needs, ways, IsReached, HasOperands}
use Rattle.lf_code.specs.Operations as valid
use Rattle.lf_parser.specs.declared.name.Name.{Name}
use Rattle.lf_parser.specs.Plain.{PlainExpr, PlainArgs, PlainStmt, PlainBlock, no_args, arg, no_stmts, stmt}
use Rattle.lf_parser.specs.Plain as plain
use Rattle.lf_codegen.specs.GeneratedCode.{program_of, expr_code, args_code, stmt_code, block_code, body_code, call_code, branches_code}
use Rattle.lf_codegen.specs.GeneratedCode.{round_code, joined_code, is_empty_block}
use Rattle.lf_codegen.specs.Mentions.{args_count}
use Rattle.lf_codegen.specs.declared.called.Called.{Called}
use Rattle.lf_codegen.specs.declared.called.Called.TheVariants.{Built, Question, Function}
use Rattle.lf_codegen.specs.Numbers.{PlainScript, called_of, asked_number, var_number, when_number, cown_names, capture_names, body_vars}
use Rattle.lf_codegen.specs.Numbers.{body_block}

-- these numbers stand in the table from one address on, and end before another
abbrev Lie : List ℕ → ℕ → List ℕ → ℕ → Type 0
Lie t a [] b = a ≡ b
Lie t a (d ∷ ds) b = (slice_get t a ≡ Some d) × Lie t (a + 1) ds b

lie_front : (t : List ℕ) (a b : ℕ) (xs ys : List ℕ) → Lie t a (xs ++ ys) b → Lie t a xs (a + length xs)
lie_front t a b [] ys h = omega arith
lie_front t a b (x ∷ xs) ys h =
    let e : a + 1 + length xs ≡ a + suc (length xs) = omega arith in
    (h.0, subst (λ n. Lie t (a + 1) xs n) e (lie_front t (a + 1) b xs ys h.1))

lie_back : (t : List ℕ) (a b : ℕ) (xs ys : List ℕ) → Lie t a (xs ++ ys) b → Lie t (a + length xs) ys b
lie_back t a b [] ys h = let e : a ≡ a + 0 = omega arith in subst (λ n. Lie t n ys b) e h
lie_back t a b (x ∷ xs) ys h =
    let e : a + 1 + length xs ≡ a + suc (length xs) = omega arith in
    subst (λ n. Lie t n ys b) e (lie_back t (a + 1) b xs ys h.1)

module _ (s : PlainScript) where
  abbrev call_depths : Called → ℕ → PlainArgs → List ℕ → List ℕ
  call_depths (Built name) d es args_meaning = args_meaning ++ (d + args_count es) ∷ []
  call_depths (Question name) d es args_meaning = d ∷ []
  call_depths (Function body) d es args_meaning = args_meaning ++ (d + args_count es) ∷ []

  abbrev mutual
    -- the operands at each address of an expression's code that begins with d
    expr_depths : PlainExpr → ℕ → List ℕ
    expr_depths plain.Nothing d = d ∷ []
    expr_depths plain.Yes d = d ∷ []
    expr_depths plain.No d = d ∷ []
    expr_depths (plain.Number n) d = d ∷ []
    expr_depths (plain.Text t) d = d ∷ []
    expr_depths plain.Object d = d ∷ []
    expr_depths (plain.Var x) d = d ∷ []
    expr_depths (plain.Field t k) d = expr_depths t d ++ (expr_depths k (d + 1) ++ (d + 2) ∷ [])
    expr_depths (plain.Move x) d = d ∷ []
    expr_depths (plain.Remove t k) d = expr_depths t d ++ (expr_depths k (d + 1) ++ (d + 2) ∷ [])
    expr_depths (plain.Neg e) d = expr_depths e d ++ (d + 1) ∷ []
    expr_depths (plain.Not e) d = expr_depths e d ++ (d + 1) ∷ []
    expr_depths (plain.Binary op l r) d = expr_depths l d ++ (expr_depths r (d + 1) ++ (d + 2) ∷ [])
    expr_depths (plain.And l r) d = expr_depths l d ++ (d + 1) ∷ (expr_depths r d ++ (d + 1) ∷ [])
    expr_depths (plain.Or l r) d = expr_depths l d ++ (d + 1) ∷ (expr_depths r d ++ (d + 1) ∷ [])
    expr_depths (plain.Call x es) d = call_depths (called_of s x.id) d es (args_depths es d)

    args_depths : PlainArgs → ℕ → List ℕ
    args_depths no_args d = []
    args_depths (arg e es) d = expr_depths e d ++ args_depths es (d + 1)

  -- an expression's code, or what stands behind arguments, begins with d operands
  mutual
    expr_first : (t : List ℕ) (e : PlainExpr) (d a b : ℕ) → Lie t a (expr_depths e d) b → slice_get t a ≡ Some d
    expr_first t plain.Nothing d a b h = h.0
    expr_first t plain.Yes d a b h = h.0
    expr_first t plain.No d a b h = h.0
    expr_first t (plain.Number n) d a b h = h.0
    expr_first t (plain.Text x) d a b h = h.0
    expr_first t plain.Object d a b h = h.0
    expr_first t (plain.Var x) d a b h = h.0
    expr_first t (plain.Field x k) d a b h = expr_first t x d a _ (lie_front t a b (expr_depths x d) _ h)
    expr_first t (plain.Move x) d a b h = h.0
    expr_first t (plain.Remove x k) d a b h = expr_first t x d a _ (lie_front t a b (expr_depths x d) _ h)
    expr_first t (plain.Neg e) d a b h = expr_first t e d a _ (lie_front t a b (expr_depths e d) _ h)
    expr_first t (plain.Not e) d a b h = expr_first t e d a _ (lie_front t a b (expr_depths e d) _ h)
    expr_first t (plain.Binary op l r) d a b h = expr_first t l d a _ (lie_front t a b (expr_depths l d) _ h)
    expr_first t (plain.And l r) d a b h = expr_first t l d a _ (lie_front t a b (expr_depths l d) _ h)
    expr_first t (plain.Or l r) d a b h = expr_first t l d a _ (lie_front t a b (expr_depths l d) _ h)
    expr_first t (plain.Call x es) d a b h = call_first t (called_of s x.id) es (args_depths es d) d a b h (λ q. args_first t es d a q)
      where
        call_first : (t : List ℕ) (w : Called) (es : PlainArgs) (args_meaning : List ℕ) (d a b : ℕ)
            → Lie t a (call_depths w d es args_meaning) b
            → ((q : ℕ) → Lie t a args_meaning q → slice_get t q ≡ Some (d + args_count es) → slice_get t a ≡ Some d)
            → slice_get t a ≡ Some d
        call_first t (Built name) es args_meaning d a b h k =
            k (a + length args_meaning) (lie_front t a b args_meaning _ h) (lie_back t a b args_meaning _ h).0
        call_first t (Question name) es args_meaning d a b h k = h.0
        call_first t (Function body) es args_meaning d a b h k =
            k (a + length args_meaning) (lie_front t a b args_meaning _ h) (lie_back t a b args_meaning _ h).0

    args_first : (t : List ℕ) (es : PlainArgs) (d a b : ℕ) → Lie t a (args_depths es d) b → slice_get t b ≡ Some (d + args_count es)
        → slice_get t a ≡ Some d
    args_first t no_args d a b h last = let e : d + 0 ≡ d = omega arith in subst (λ n. slice_get t n ≡ Some d) (sym h) (last ∙ ap Some e)
    args_first t (arg e es) d a b h last = expr_first t e d a _ (lie_front t a b (expr_depths e d) _ h)

abbrev AllWays : List ℕ → List Way → Type 0
AllWays t [] = Unit {0}
AllWays t (w ∷ ws) = (slice_get t w.to ≡ Some w.operands) × AllWays t ws

-- each of these instructions finds as many operands as the table says, and is_left as many as it says
abbrev Fits : List ℕ → ℕ → List Placed → List ℕ → Type 0
Fits t at [] [] = Unit {0}
Fits t at (i ∷ is) (d ∷ ds) = (needs i.instr ≤ d) × AllWays t (ways i.instr at (d - needs i.instr)) × Fits t (at + 1) is ds
Fits t at _ _ = ⊥

-- and they end before an address
abbrev Flows : List ℕ → ℕ → List Placed → List ℕ → ℕ → Type 0
Flows t a xs ds b = Fits t a xs ds × (a + length xs ≡ b)

flow_join : (t : List ℕ) (a : ℕ) (xs ys : List Placed) (ds es : List ℕ) → Fits t a xs ds → Fits t (a + length xs) ys es
    → Fits t a (xs ++ ys) (ds ++ es)
flow_join t a [] ys [] es f g = let e : a + 0 ≡ a = omega arith in subst (λ n. Fits t n ys es) e g
flow_join t a [] ys (d ∷ ds) es f g = absurd f
flow_join t a (x ∷ xs) ys [] es f g = absurd f
flow_join t a (x ∷ xs) ys (d ∷ ds) es f g =
    let e : a + suc (length xs) ≡ a + 1 + length xs = omega arith in
    (f.0, f.1, flow_join t (a + 1) xs ys ds es f.2 (subst (λ n. Fits t n ys es) e g))

length_join : (xs ys : List Placed) → length (xs ++ ys) ≡ length xs + length ys
length_join [] ys = omega arith
length_join (x ∷ xs) ys = omega (arith, length_join xs ys)

flow_length : (t : List ℕ) (a : ℕ) (xs : List Placed) (ds : List ℕ) → Fits t a xs ds → length xs ≡ length ds
flow_length t a [] [] f = refl
flow_length t a [] (d ∷ ds) f = absurd f
flow_length t a (x ∷ xs) [] f = absurd f
flow_length t a (x ∷ xs) (d ∷ ds) f = ap suc (flow_length t (a + 1) xs ds f.2)

module _ (t : List ℕ) where
  joins : (a b : ℕ) (xs ys : List Placed) (ds es : List ℕ) → Fits t a xs ds → Flows t (a + length xs) ys es b
      → Flows t a (xs ++ ys) (ds ++ es) b
  joins a b xs ys ds es f g = (flow_join t a xs ys ds es f g.0, omega (arith, length_join xs ys, g.1))

  -- what lies behind a piece whose code has been gone through
  behind : (a b : ℕ) (xs : List Placed) (ds es : List ℕ) → Fits t a xs ds → Lie t a (ds ++ es) b → Lie t (a + length xs) es b
  behind a b xs ds es f h = subst (λ n. Lie t (a + n) es b) (sym (flow_length t a xs ds f)) (lie_back t a b ds es h)

  -- one instruction that goes to the next one
  single : (line : ℕ) (i : Instr) (d e a b : ℕ) → ways i a (d - needs i) ≡ way (a + 1) (d - needs i + leaves i) ∷ [] → needs i ≤ d
      → d - needs i + leaves i ≡ e
      → Lie t a (d ∷ []) b → slice_get t b ≡ Some e → Flows t a (on_line line i ∷ []) (d ∷ []) b
  single line i d e a b on_way enough is_left h last =
      let there : slice_get t (a + 1) ≡ Some (d - needs i + leaves i) = ap (slice_get t) h.1 ∙ last ∙ ap Some (sym is_left) in
      ((enough, subst (AllWays t) (sym on_way) (there, tt), tt), h.1)

  module _ (s : PlainScript) (vars : List Name) where
    abbrev FlowsAll : PlainExpr → Type 0
    FlowsAll e = (line d a b : ℕ) → Lie t a (expr_depths s e d) b → slice_get t b ≡ Some (d + 1)
        → Flows t a (expr_code s vars e line a) (expr_depths s e d) b

    one_flows : (e : PlainExpr) → FlowsAll e → (line : ℕ) (i : Instr) (d a b : ℕ) → needs i ≡ 1 → leaves i ≡ 1
        → ((at rest : ℕ) → ways i at rest ≡ way (at + 1) (rest + leaves i) ∷ [])
        → Lie t a (expr_depths s e d ++ (d + 1) ∷ []) b → slice_get t b ≡ Some (d + 1)
        → Flows t a (expr_code s vars e line a ++ on_line line i ∷ []) (expr_depths s e d ++ (d + 1) ∷ []) b
    one_flows e go_e line i d a b n g on_way h last =
        let ds = expr_depths s e d in
        let f = go_e line d a (a + length ds) (lie_front t a b ds _ h) (lie_back t a b ds _ h).0 in
        joins a b (expr_code s vars e line a) _ ds _ f.0
        (single line i (d + 1) (d + 1) _ b (on_way _ _) (omega (arith, n)) (omega (arith, n, g))
        (behind a b (expr_code s vars e line a) ds _ f.0 h) last)

    two_flows : (l r : PlainExpr) → FlowsAll l → FlowsAll r → (line : ℕ) (i : Instr) (d a b : ℕ) → needs i ≡ 2 → leaves i ≡ 1
        → ((at rest : ℕ) → ways i at rest ≡ way (at + 1) (rest + leaves i) ∷ [])
        → Lie t a (expr_depths s l d ++ (expr_depths s r (d + 1) ++ (d + 2) ∷ [])) b → slice_get t b ≡ Some (d + 1)
        → Flows t a (expr_code s vars l line a ++ (expr_code s vars r line (a + length (expr_code s vars l line a)) ++ on_line line i ∷ []))
        (expr_depths s l d ++ (expr_depths s r (d + 1) ++ (d + 2) ∷ [])) b
    two_flows l r go_l go_r line i d a b n g on_way h last =
        let dl = expr_depths s l d in
        let dr = expr_depths s r (d + 1) in
        let cl = expr_code s vars l line a in
        let m = a + length cl in
        let cr = expr_code s vars r line m in
        let first_of_r = expr_first s t r (d + 1) (a + length dl) _ (lie_front t (a + length dl) b dr _ (lie_back t a b dl _ h)) in
        let fl = go_l line d a (a + length dl) (lie_front t a b dl _ h) first_of_r in
        let hr : Lie t m (dr ++ (d + 2) ∷ []) b = behind a b cl dl _ fl.0 h in
        let two : d + 2 ≡ d + 1 + 1 = omega arith in
        let fr = go_r line (d + 1) m (m + length dr) (lie_front t m b dr _ hr) ((lie_back t m b dr _ hr).0 ∙ ap Some two) in
        joins a b cl _ dl _ fl.0
        (joins m b cr _ dr _ fr.0 (single line i (d + 2) (d + 1) _ b (on_way _ _) (omega (arith, n)) (omega (arith, n, g))
        (behind m b cr dr _ fr.0 hr) last))

    -- `and` and `or`
    short_flows : (l r : PlainExpr) → FlowsAll l → FlowsAll r → (line : ℕ) (jump : ℕ → Instr) (d a b : ℕ) → ((n : ℕ) → needs (jump n) ≡ 1)
        → ((n at rest : ℕ) → ways (jump n) at rest ≡ way n (rest + 1) ∷ way (at + 1) rest ∷ [])
        → Lie t a (expr_depths s l d ++ (d + 1) ∷ (expr_depths s r d ++ (d + 1) ∷ [])) b → slice_get t b ≡ Some (d + 1)
        → Flows t a (joined_code jump line a (expr_code s vars l line a)
        (expr_code s vars r line (a + length (expr_code s vars l line a) + 1)))
        (expr_depths s l d ++ (d + 1) ∷ (expr_depths s r d ++ (d + 1) ∷ [])) b
    short_flows l r go_l go_r line jump d a b n on_way h last =
        let dl = expr_depths s l d in
        let dr = expr_depths s r d in
        let cl = expr_code s vars l line a in
        let m = a + length cl in
        let cr = expr_code s vars r line (m + 1) in
        let fl = go_l line d a (a + length dl) (lie_front t a b dl _ h) (lie_back t a b dl _ h).0 in
        let hm : Lie t m ((d + 1) ∷ (dr ++ (d + 1) ∷ [])) b = behind a b cl dl _ fl.0 h in
        let hr : Lie t (m + 1) (dr ++ (d + 1) ∷ []) b = hm.1 in
        let fr = go_r line d (m + 1) (m + 1 + length dr) (lie_front t (m + 1) b dr _ hr) (lie_back t (m + 1) b dr _ hr).0 in
        let ft = single line instr.Test (d + 1) (d + 1) (m + 1 + length cr) b refl (omega arith) (omega arith)
        (behind (m + 1) b cr dr _ fr.0 hr) last in
        let rest : Flows t (m + 1) (cr ++ on_line line instr.Test ∷ []) (dr ++ (d + 1) ∷ []) b = joins (m + 1) b cr _ dr _ fr.0 ft in
        let target = m + 1 + length cr + 1 in
        let to_end : slice_get t target ≡ Some (d + 1 - 1 + 1) =
        let e : d + 1 ≡ d + 1 - 1 + 1 = omega arith in
        ap (slice_get t) ft.1 ∙ last ∙ ap Some e in
        let to_next : slice_get t (m + 1) ≡ Some (d + 1 - 1) =
        let e : d ≡ d + 1 - 1 = omega arith in
        expr_first s t r d (m + 1) _ (lie_front t (m + 1) b dr _ hr) ∙ ap Some e in
        joins a b cl _ dl _ fl.0 (
          (
            omega (arith, n target),
            subst (λ k. AllWays t (ways (jump target) m (d + 1 - k))) (sym (n target))
                (subst (AllWays t) (sym (on_way target m (d + 1 - 1))) (to_end, (to_next, tt))),
            rest.0,
          ),
          omega (arith, rest.1),
        )

    abbrev ArgsFlow : PlainArgs → Type 0
    ArgsFlow es = (line d a b : ℕ) → Lie t a (args_depths s es d) b → slice_get t b ≡ Some (d + args_count es)
        → Flows t a (args_code s vars es line a) (args_depths s es d) b

    call_flows : (w : Called) (es : PlainArgs) → ArgsFlow es → (line d a b : ℕ) → Lie t a (call_depths s w d es (args_depths s es d)) b
        → slice_get t b ≡ Some (d + 1)
        → Flows t a (call_code s vars w line es (args_code s vars es line a)) (call_depths s w d es (args_depths s es d)) b
    call_flows (Built name) es go_args line d a b h last =
        let ds = args_depths s es d in
        let f = go_args line d a (a + length ds) (lie_front t a b ds _ h) (lie_back t a b ds _ h).0 in
        joins a b (args_code s vars es line a) _ ds _ f.0
        (single line (instr.Built name (args_count es)) (d + args_count es) (d + 1) (a + length (args_code s vars es line a)) b refl
        (omega arith) (omega arith) (behind a b (args_code s vars es line a) ds _ f.0 h) last)
    call_flows (Question name) es go_args line d a b h last =
        single line (instr.Ask name (asked_number vars es)) d (d + 1) a b refl (omega arith) (omega arith) h last
    call_flows (Function body) es go_args line d a b h last =
        let ds = args_depths s es d in
        let f = go_args line d a (a + length ds) (lie_front t a b ds _ h) (lie_back t a b ds _ h).0 in
        joins a b (args_code s vars es line a) _ ds _ f.0
        (single line (instr.Call body (args_count es)) (d + args_count es) (d + 1) (a + length (args_code s vars es line a)) b refl
        (omega arith) (omega arith) (behind a b (args_code s vars es line a) ds _ f.0 h) last)

    mutual
      expr_flows : (e : PlainExpr) → FlowsAll e
      expr_flows plain.Nothing line d a b h last = single line instr.None d (d + 1) a b refl (omega arith) (omega arith) h last
      expr_flows plain.Yes line d a b h last = single line (instr.Bool true) d (d + 1) a b refl (omega arith) (omega arith) h last
      expr_flows plain.No line d a b h last = single line (instr.Bool false) d (d + 1) a b refl (omega arith) (omega arith) h last
      expr_flows (plain.Number n) line d a b h last = single line (instr.Int n) d (d + 1) a b refl (omega arith) (omega arith) h last
      expr_flows (plain.Text x) line d a b h last = single line (instr.Text x) d (d + 1) a b refl (omega arith) (omega arith) h last
      expr_flows plain.Object line d a b h last = single line instr.Object d (d + 1) a b refl (omega arith) (omega arith) h last
      expr_flows (plain.Var x) line d a b h last =
          single line (instr.Get (var_number vars x)) d (d + 1) a b refl (omega arith) (omega arith) h last
      expr_flows (plain.Field x k) line d a b h last =
          two_flows x k (expr_flows x) (expr_flows k) line instr.Read d a b refl refl (λ at rest. refl) h last
      expr_flows (plain.Move x) line d a b h last =
          single line (instr.Take (var_number vars x)) d (d + 1) a b refl (omega arith) (omega arith) h last
      expr_flows (plain.Remove x k) line d a b h last =
          two_flows x k (expr_flows x) (expr_flows k) line instr.Remove d a b refl refl (λ at rest. refl) h last
      expr_flows (plain.Neg e) line d a b h last =
          one_flows e (expr_flows e) line (instr.Unary Neg) d a b refl refl (λ at rest. refl) h last
      expr_flows (plain.Not e) line d a b h last =
          one_flows e (expr_flows e) line (instr.Unary Not) d a b refl refl (λ at rest. refl) h last
      expr_flows (plain.Binary op l r) line d a b h last =
          two_flows l r (expr_flows l) (expr_flows r) line (instr.Binary op) d a b refl refl (λ at rest. refl) h last
      expr_flows (plain.And l r) line d a b h last =
          short_flows l r (expr_flows l) (expr_flows r) line instr.And d a b (λ n. refl) (λ n at rest. refl) h last
      expr_flows (plain.Or l r) line d a b h last =
          short_flows l r (expr_flows l) (expr_flows r) line instr.Or d a b (λ n. refl) (λ n at rest. refl) h last
      expr_flows (plain.Call x es) line d a b h last = call_flows (called_of s x.id) es (args_flow es) line d a b h last

      args_flow : (es : PlainArgs) → ArgsFlow es
      args_flow no_args line d a b h last = (tt, let e : a + 0 ≡ a = omega arith in e ∙ h)
      args_flow (arg e es) line d a b h last =
          let ds = expr_depths s e d in
          let more : d + suc (args_count es) ≡ d + 1 + args_count es = omega arith in
          let last' : slice_get t b ≡ Some (d + 1 + args_count es) = last ∙ ap Some more in
          let f = expr_flows e line d a (a + length ds) (lie_front t a b ds _ h)
          (args_first s t es (d + 1) (a + length ds) b (lie_back t a b ds _ h) last') in
          let g = args_flow es line (d + 1) (a + length (expr_code s vars e line a)) b
          (behind a b (expr_code s vars e line a) ds _ f.0 h) last' in
          joins a b (expr_code s vars e line a) (args_code s vars es line (a + length (expr_code s vars e line a))) ds
          (args_depths s es (d + 1)) f.0 g

-- what follows a test
abbrev branches_depths : Bool → List ℕ → List ℕ → List ℕ
branches_depths true body other = 1 ∷ body
branches_depths false body other = 1 ∷ (body ++ 0 ∷ other)

module _ (s : PlainScript) where
  abbrev mutual
    stmt_depths : PlainStmt → List ℕ
    stmt_depths (plain.Assign line x e) = 0 ∷ (expr_depths s e 0 ++ 1 ∷ [])
    stmt_depths (plain.Store line x k e) = 0 ∷ (expr_depths s x 0 ++ (expr_depths s k 1 ++ (expr_depths s e 2 ++ 3 ∷ [])))
    stmt_depths (plain.Drop line x) = 0 ∷ 0 ∷ []
    stmt_depths (plain.Return line None) = 0 ∷ 0 ∷ 1 ∷ []
    stmt_depths (plain.Return line (Some e)) = 0 ∷ (expr_depths s e 0 ++ 1 ∷ [])
    stmt_depths (plain.Pass line) = 0 ∷ []
    stmt_depths (plain.Eval line e) = 0 ∷ (expr_depths s e 0 ++ 1 ∷ [])
    stmt_depths (plain.If line e body other) =
        0 ∷ (expr_depths s e 0 ++ branches_depths (is_empty_block other) (block_depths body) (block_depths other))
    stmt_depths (plain.While line e body) = 0 ∷ 0 ∷ (expr_depths s e 0 ++ 1 ∷ (block_depths body ++ 0 ∷ []))
    stmt_depths (plain.When line cowns captures body) = 0 ∷ 0 ∷ []

    block_depths : PlainBlock → List ℕ
    block_depths no_stmts = []
    block_depths (stmt a b) = stmt_depths a ++ block_depths b

  stmt_first : (t : List ℕ) (st : PlainStmt) (a b : ℕ) → Lie t a (stmt_depths st) b → slice_get t a ≡ Some 0
  stmt_first t (plain.Assign line x e) a b h = h.0
  stmt_first t (plain.Store line x k e) a b h = h.0
  stmt_first t (plain.Drop line x) a b h = h.0
  stmt_first t (plain.Return line None) a b h = h.0
  stmt_first t (plain.Return line (Some e)) a b h = h.0
  stmt_first t (plain.Pass line) a b h = h.0
  stmt_first t (plain.Eval line e) a b h = h.0
  stmt_first t (plain.If line e body other) a b h = h.0
  stmt_first t (plain.While line e body) a b h = h.0
  stmt_first t (plain.When line cowns captures body) a b h = h.0

  block_first : (t : List ℕ) (k : PlainBlock) (a b : ℕ) → Lie t a (block_depths k) b → slice_get t b ≡ Some 0 → slice_get t a ≡ Some 0
  block_first t no_stmts a b h last = subst (λ n. slice_get t n ≡ Some 0) (sym h) last
  block_first t (stmt st k) a b h last = stmt_first t st a _ (lie_front t a b (stmt_depths st) _ h)

  module _ (t : List ℕ) (vars : List Name) where
    -- a tick, and what follows
    ticked : (line a b : ℕ) (xs : List Placed) (ds : List ℕ) → slice_get t (a + 1) ≡ Some 0 → Flows t (a + 1) xs ds b
        → Flows t a (on_line line instr.Tick ∷ xs) (0 ∷ ds) b
    ticked line a b xs ds there f = ((omega arith, (there, tt), f.0), omega (arith, f.1))

    -- an expression, and an instruction that takes it and goes on
    taken : (e : PlainExpr) (line : ℕ) (i : Instr) (a b : ℕ) → needs i ≡ 1
        → ((at rest : ℕ) → (ways i at rest ≡ way (at + 1) (rest + 0) ∷ []) ⊎ (ways i at rest ≡ []))
        → Lie t a (expr_depths s e 0 ++ 1 ∷ []) b → slice_get t b ≡ Some 0
        → Flows t a (expr_code s vars e line a ++ on_line line i ∷ []) (expr_depths s e 0 ++ 1 ∷ []) b
    taken e line i a b n on_way h last =
        let ds = expr_depths s e 0 in
        let ce = expr_code s vars e line a in
        let m = a + length ce in
        let f = expr_flows t s vars e line 0 a (a + length ds) (lie_front t a b ds _ h) (lie_back t a b ds _ h).0 in
        let lies = behind t a b ce ds _ f.0 h in
        joins t a b ce _ ds _ f.0 ((omega (arith, n), by_way m (on_way m (1 - needs i)) lies.1, tt), lies.1)
      where
        by_way : (m : ℕ) → (ways i m (1 - needs i) ≡ way (m + 1) (1 - needs i + 0) ∷ []) ⊎ (ways i m (1 - needs i) ≡ []) → m + 1 ≡ b
            → AllWays t (ways i m (1 - needs i))
        by_way m (inl e) at_end = let z : 0 ≡ 1 - needs i + 0 =
            omega (arith, n) in subst (AllWays t) (sym e) (ap (slice_get t) at_end ∙ last ∙ ap Some z, tt)
        by_way m (inr e) at_end = subst (AllWays t) (sym e) tt

    expr_at : (e : PlainExpr) (a b : ℕ) (rest : List ℕ) → Lie t a (expr_depths s e 0 ++ rest) b → slice_get t a ≡ Some 0
    expr_at e a b rest h = expr_first s t e 0 a _ (lie_front t a b (expr_depths s e 0) rest h)

    store_flows : (x k e : PlainExpr) (line a b : ℕ) → Lie t a (stmt_depths (plain.Store line x k e)) b → slice_get t b ≡ Some 0
        → Flows t a (stmt_code s vars (plain.Store line x k e) a) (stmt_depths (plain.Store line x k e)) b
    store_flows x k e line a b h last =
        let dx = expr_depths s x 0 in
        let dk = expr_depths s k 1 in
        let de = expr_depths s e 2 in
        let cx = expr_code s vars x line (a + 1) in
        let m = a + 1 + length cx in
        let ck = expr_code s vars k line m in
        let n = m + length ck in
        let ce = expr_code s vars e line n in
        let behind_x0 = lie_back t (a + 1) b dx _ h.1 in
        let fx = expr_flows t s vars x line 0 (a + 1) (a + 1 + length dx) (lie_front t (a + 1) b dx _ h.1)
        (expr_first s t k 1 _ _ (lie_front t (a + 1 + length dx) b dk _ behind_x0)) in
        let hk = behind t (a + 1) b cx dx _ fx.0 h.1 in
        let fk = expr_flows t s vars k line 1 m (m + length dk) (lie_front t m b dk _ hk)
        (expr_first s t e 2 _ _ (lie_front t (m + length dk) b de _ (lie_back t m b dk _ hk))) in
        let he = behind t m b ck dk _ fk.0 hk in
        let fe = expr_flows t s vars e line 2 n (n + length de) (lie_front t n b de _ he) (lie_back t n b de _ he).0 in
        let hw = behind t n b ce de _ fe.0 he in
        ticked line a b _ _ (expr_at x (a + 1) b _ h.1)
        (joins t (a + 1) b cx _ dx _ fx.0
        (joins t m b ck _ dk _ fk.0 (joins t n b ce _ de _ fe.0
        (single t line instr.Write 3 0 (n + length ce) b refl (omega arith) refl hw last))))

    abbrev BlockFlows : PlainBlock → Type 0
    BlockFlows k = (a b : ℕ) → Lie t a (block_depths k) b → slice_get t b ≡ Some 0 → Flows t a (block_code s vars k a) (block_depths k) b

    -- the branches of an `if`, after its test
    branches_flow : (none : Bool) (line past b : ℕ) (body other : PlainBlock) → BlockFlows body → BlockFlows other
        → (none ≡ true → block_depths other ≡ [])
        → Lie t past (branches_depths none (block_depths body) (block_depths other)) b → slice_get t b ≡ Some 0
        → Flows t past (branches_code none line past (block_code s vars body (past + 1))
        (block_code s vars other (past + 1 + length (block_code s vars body (past + 1)) + 1)))
        (branches_depths none (block_depths body) (block_depths other)) b
    branches_flow true line past b body other go_body go_other quiet h last =
        let f = go_body (past + 1) b h.1 last in
        ((omega arith, (ap (slice_get t) f.1 ∙ last, (block_first t body (past + 1) b h.1 last, tt)), f.0), omega (arith, f.1))
    branches_flow false line past b body other go_body go_other quiet h last =
        let cy = block_code s vars body (past + 1) in
        let dy = block_depths body in
        let m = past + 1 + length dy in
        let jump_at = lie_back t (past + 1) b dy _ h.1 in
        let f = go_body (past + 1) m (lie_front t (past + 1) b dy _ h.1) jump_at.0 in
        let hj = behind t (past + 1) b cy dy _ f.0 h.1 in
        let j = past + 1 + length cy in
        let co = block_code s vars other (j + 1) in
        let g = go_other (j + 1) b hj.1 last in
        let jump : Flows t j (on_line line (instr.Jump (j + 1 + length co)) ∷ co) (0 ∷ block_depths other) b =
        ((omega arith, (ap (slice_get t) g.1 ∙ last, tt), g.0), omega (arith, g.1)) in
        let whole = joins t (past + 1) b cy (on_line line (instr.Jump (j + 1 + length co)) ∷ co) dy (0 ∷ block_depths other) f.0 jump in (
          (
            omega arith,
            (
              block_first t other (j + 1) b hj.1 last,
              (block_first t body (past + 1) m (lie_front t (past + 1) b dy _ h.1) jump_at.0, tt),
            ),
            whole.0,
          ),
          omega (arith, whole.1),
        )

    empty_depths : (k : PlainBlock) → is_empty_block k ≡ true → block_depths k ≡ []
    empty_depths no_stmts h = refl
    empty_depths (stmt a b) h = cc

    branches_first : (none : Bool) (body other : List ℕ) (a b : ℕ) → Lie t a (branches_depths none body other) b → slice_get t a ≡ Some 1
    branches_first true body other a b h = h.0
    branches_first false body other a b h = h.0

    if_flows : (e : PlainExpr) (body other : PlainBlock) → BlockFlows body → BlockFlows other → (line a b : ℕ)
        → Lie t a (stmt_depths (plain.If line e body other)) b → slice_get t b ≡ Some 0
        → Flows t a (stmt_code s vars (plain.If line e body other) a) (stmt_depths (plain.If line e body other)) b
    if_flows e body other go_body go_other line a b h last =
        let ds = expr_depths s e 0 in
        let ce = expr_code s vars e line (a + 1) in
        let f = expr_flows t s vars e line 0 (a + 1) (a + 1 + length ds) (lie_front t (a + 1) b ds _ h.1)
        (branches_first (is_empty_block other) _ _ _ b (lie_back t (a + 1) b ds _ h.1)) in
        let g = branches_flow (is_empty_block other) line (a + 1 + length ce) b body other go_body go_other (empty_depths other)
        (behind t (a + 1) b ce ds _ f.0 h.1) last in
        ticked line a b _ _ (expr_at e (a + 1) b _ h.1) (joins t (a + 1) b ce _ ds _ f.0 g)

    while_flows : (e : PlainExpr) (k : PlainBlock) → BlockFlows k → (line a b : ℕ) → Lie t a (stmt_depths (plain.While line e k)) b
        → slice_get t b ≡ Some 0
        → Flows t a (stmt_code s vars (plain.While line e k) a) (stmt_depths (plain.While line e k)) b
    while_flows e k go line a b h last =
        let ds = expr_depths s e 0 in
        let dk = block_depths k in
        let ce = expr_code s vars e line (a + 1 + 1) in
        let past = a + 1 + 1 + length ce in
        let ck = block_code s vars k (past + 1) in
        let f = expr_flows t s vars e line 0 (a + 1 + 1) (a + 1 + 1 + length ds) (lie_front t (a + 1 + 1) b ds _ h.1.1)
        (lie_back t (a + 1 + 1) b ds _ h.1.1).0 in
        let hu : Lie t past (1 ∷ (dk ++ 0 ∷ [])) b = behind t (a + 1 + 1) b ce ds _ f.0 h.1.1 in
        let hb : Lie t (past + 1) (dk ++ 0 ∷ []) b = hu.1 in
        let jump_at = lie_back t (past + 1) b dk _ hb in
        let g = go (past + 1) (past + 1 + length dk) (lie_front t (past + 1) b dk _ hb) jump_at.0 in
        let hj = behind t (past + 1) b ck dk _ g.0 hb in
        let jump : Flows t (past + 1 + length ck) (on_line line (instr.Jump (a + 1)) ∷ []) (0 ∷ []) b =
        ((omega arith, (h.1.0, tt), tt), hj.1) in
        let rest : Flows t (past + 1) (ck ++ on_line line (instr.Jump (a + 1)) ∷ []) (dk ++ 0 ∷ []) b =
        joins t (past + 1) b ck _ dk _ g.0 jump in
        let top : Flows t past (round_code line (a + 1) past ck) (1 ∷ (dk ++ 0 ∷ [])) b = (
          (
            omega arith,
            (
              ap (slice_get t) hj.1 ∙ last,
              (block_first t k (past + 1) _ (lie_front t (past + 1) b dk _ hb) jump_at.0, tt),
            ),
            rest.0,
          ),
          omega (arith, rest.1),
        ) in
        ticked line a b (on_line line instr.Tick ∷ (ce ++ round_code line (a + 1) past ck)) (0 ∷ (ds ++ 1 ∷ (dk ++ 0 ∷ []))) h.1.0
        (ticked line (a + 1) b (ce ++ round_code line (a + 1) past ck) (ds ++ 1 ∷ (dk ++ 0 ∷ [])) (expr_at e (a + 1 + 1) b _ h.1.1)
        (joins t (a + 1 + 1) b ce _ ds _ f.0 top))

    mutual
      stmt_flows : (st : PlainStmt) (a b : ℕ) → Lie t a (stmt_depths st) b → slice_get t b ≡ Some 0
          → Flows t a (stmt_code s vars st a) (stmt_depths st) b
      stmt_flows (plain.Assign line x e) a b h last =
          ticked line a b _ _ (expr_at e (a + 1) b _ h.1)
          (taken e line (instr.Set (var_number vars x)) (a + 1) b refl (λ at rest. inl refl) h.1 last)
      stmt_flows (plain.Store line x k e) a b h last = store_flows x k e line a b h last
      stmt_flows (plain.Drop line x) a b h last =
          ticked line a b (on_line line (instr.Drop (var_number vars x)) ∷ []) (0 ∷ []) h.1.0
          (single t line (instr.Drop (var_number vars x)) 0 0 (a + 1) b refl (omega arith) refl h.1 last)
      stmt_flows (plain.Return line None) a b h last =
          ticked line a b (on_line line instr.None ∷ on_line line instr.Return ∷ []) (0 ∷ 1 ∷ []) h.1.0
          ((omega arith, (h.1.1.0, tt), (omega arith, tt, tt)), omega (arith, h.1.1.1))
      stmt_flows (plain.Return line (Some e)) a b h last =
          ticked line a b _ _ (expr_at e (a + 1) b _ h.1) (taken e line instr.Return (a + 1) b refl (λ at rest. inr refl) h.1 last)
      stmt_flows (plain.Pass line) a b h last = single t line instr.Tick 0 0 a b refl (omega arith) refl h last
      stmt_flows (plain.Eval line e) a b h last =
          ticked line a b _ _ (expr_at e (a + 1) b _ h.1) (taken e line instr.Pop (a + 1) b refl (λ at rest. inl refl) h.1 last)
      stmt_flows (plain.If line e body other) a b h last = if_flows e body other (block_flows body) (block_flows other) line a b h last
      stmt_flows (plain.While line e k) a b h last = while_flows e k (block_flows k) line a b h last
      stmt_flows (plain.When line cowns captures k) a b h last =
          let i = instr.When (when_number s.tree line) (map (var_number vars) (cown_names cowns))
          (map (var_number vars) (capture_names cowns captures)) in
          ticked line a b (on_line line i ∷ []) (0 ∷ []) h.1.0 (single t line i 0 0 (a + 1) b refl (omega arith) refl h.1 last)

      block_flows : (k : PlainBlock) (a b : ℕ) → Lie t a (block_depths k) b → slice_get t b ≡ Some 0
          → Flows t a (block_code s vars k a) (block_depths k) b
      block_flows no_stmts a b h last = (tt, let e : a + 0 ≡ a = omega arith in e ∙ h)
      block_flows (stmt st k) a b h last =
          let ds = stmt_depths st in
          let ca = stmt_code s vars st a in
          let f = stmt_flows st a (a + length ds) (lie_front t a b ds _ h)
          (block_first t k (a + length ds) b (lie_back t a b ds _ h) last) in
          joins t a b ca (block_code s vars k (a + length ca)) ds (block_depths k) f.0
          (block_flows k (a + length ca) b (behind t a b ca ds (block_depths k) f.0 h) last)

  -- the operands at each address of a body
  abbrev body_depths : PlainBlock → List ℕ
  body_depths k = block_depths k ++ 0 ∷ 1 ∷ []

lies_shifted : (y : ℕ) (ys : List ℕ) (a b : ℕ) (xs : List ℕ) → Lie ys a xs b → Lie (y ∷ ys) (a + 1) xs (b + 1)
lies_shifted y ys a b [] h = ap (λ n. n + 1) h
lies_shifted y ys a b (x ∷ xs) h =
    let e : suc a ≡ a + 1 = omega arith in
    (subst (λ n. slice_get (y ∷ ys) n ≡ Some x) e h.0, lies_shifted y ys (a + 1) b xs h.1)

all_lie : (xs : List ℕ) → Lie xs 0 xs (length xs)
all_lie [] = refl
all_lie (x ∷ xs) =
    let e : length xs + 1 ≡ suc (length xs) = omega arith in
    (refl, subst (λ n. Lie (x ∷ xs) 1 xs n) e (lies_shifted x xs 0 (length xs) xs (all_lie xs)))

-- one instruction of those that the table fits
flow_at : (t : List ℕ) (a : ℕ) (xs : List Placed) (ds : List ℕ) (k d : ℕ) (i : Placed) → Fits t a xs ds → slice_get xs k ≡ Some i
    → slice_get ds k ≡ Some d → (needs i.instr ≤ d) × AllWays t (ways i.instr (a + k) (d - needs i.instr))
flow_at t a [] ds k d i f g h = absurd cc
flow_at t a (x ∷ xs) [] k d i f g h = absurd f
flow_at t a (x ∷ xs) (e ∷ es) zero d i f g h =
    let same : x ≡ i = cc in
    let equal : e ≡ d = cc in
    let z : a ≡ a + 0 = omega arith in (
      subst (λ n. needs i.instr ≤ n) equal (subst (λ j. needs j.instr ≤ e) same f.0),
      subst (λ n. AllWays t (ways i.instr n (d - needs i.instr))) z
          (subst (λ n. AllWays t (ways i.instr a (n - needs i.instr))) equal
          (subst (λ j. AllWays t (ways j.instr a (e - needs j.instr))) same f.1)),
    )
flow_at t a (x ∷ xs) (e ∷ es) (suc k) d i f g h =
    let r = flow_at t (a + 1) xs es k d i f.2 g h in
    let z : a + 1 + k ≡ a + suc k = omega arith in
    (r.0, subst (λ n. AllWays t (ways i.instr n (d - needs i.instr))) z r.1)

way_in : (t : List ℕ) (ws : List Way) (w : Way) → AllWays t ws → Member w ws → slice_get t w.to ≡ Some w.operands
way_in t [] w h m = absurd m
way_in t (v ∷ ws) w h (inl e) = subst (λ x. slice_get t x.to ≡ Some x.operands) e h.0
way_in t (v ∷ ws) w h (inr m) = way_in t ws w h.1 m

-- code that a table fits has those operands wherever it is reached
reached : (t : List ℕ) (list : List Placed) (a d : ℕ) → Fits t 0 list t → slice_get t 0 ≡ Some 0 → IsReached list a d
    → slice_get t a ≡ Some d
reached t list a d f z valid.first = z
reached t list a d f z (valid.next {at = at} {d = e} i w r g m) =
    let there = reached t list at e f z r in
    let at_it = flow_at t 0 list t at e i f g there in
    let same : 0 + at ≡ at = omega arith in
    way_in t (ways i.instr at (e - needs i.instr)) w (subst (λ n. AllWays t (ways i.instr n (e - needs i.instr))) same at_it.1) m

has_operands : (t : List ℕ) (list : List Placed) → Fits t 0 list t → slice_get t 0 ≡ Some 0 → HasOperands list
has_operands t list f z = record {
  there = λ at d r. subst (λ n. at < n) (sym (flow_length t 0 list t f)) (slice_get_within t at d (reached t list at d f z r));
  one_number = λ at d e r q. one_of at d e (reached t list at d f z r) (reached t list at e f z q);
  enough = λ at d i r g. (flow_at t 0 list t at d i f g (reached t list at d f z r)).0;
}
  where
    one_of : (at d e : ℕ) → slice_get t at ≡ Some d → slice_get t at ≡ Some e → d ≡ e
    one_of at d e p q = cc

pub body_has_operands : (s : PlainScript) (vars : List Name) (k : PlainBlock) → HasOperands (body_code s vars k)
body_has_operands s vars k =
    let t = body_depths s k in
    let dk = block_depths s k in
    let ck = block_code s vars k 0 in
    let h : Lie t 0 t (length t) = all_lie t in
    let tail = lie_back t 0 (length t) dk (0 ∷ 1 ∷ []) h in
    let f = block_flows s t vars k 0 (0 + length dk) (lie_front t 0 (length t) dk (0 ∷ 1 ∷ []) h) tail.0 in
    let rest = behind t 0 (length t) ck dk (0 ∷ 1 ∷ []) f.0 h in
    let ends : Fits t (0 + length ck) body_end (0 ∷ 1 ∷ []) = (omega arith, (rest.1.0, tt), (omega arith, tt, tt)) in
    has_operands t (body_code s vars k) (flow_join t 0 ck body_end dk (0 ∷ 1 ∷ []) f.0 ends)
    (block_first s t k 0 (0 + length dk) (lie_front t 0 (length t) dk (0 ∷ 1 ∷ []) h) tail.0)

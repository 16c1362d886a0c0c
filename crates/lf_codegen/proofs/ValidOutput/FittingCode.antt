-- The instructions of each form fit, where its names and texts are there and its calls fit.
use Rattle.std.proofs.Common.{◌≡◌, ℕ, suc, ◌+◌, ◌<◌, Bool, true, false, ◌&&◌, List, [], ◌∷◌, ◌++◌, length, map, Some, None}
use Rattle.std.proofs.Common.{refl, ap, sym, subst, ◌∙◌, inl, inr, arith, slice_get, nat_lt}
use Rattle.std.proofs.lemmas.Bool.{lt-ltb}
use Rattle.std.proofs.lemmas.List.{length-append, length-map}
use Rattle.lf_base.specs.declared.ids.TextId.{TextId}
use Rattle.lf_base.specs.Sets.{Member}
use Rattle.lf_base.proofs.ListLemmas.Members.{Member_left, Member_right, Member_map}
use Rattle.lf_parser.specs.declared.name.Name.{Name}
use Rattle.lf_parser.specs.Plain.{PlainExpr, PlainArgs, PlainStmt, PlainBlock, no_args, arg, no_stmts, stmt}
use Rattle.lf_parser.specs.Plain as plain
use Rattle.lf_code.specs.declared.body.Body.{Body}
use Rattle.lf_code.specs.declared.body.Placed.{Placed}
use Rattle.lf_code.specs.declared.instr.Instr.{Instr}
use Rattle.lf_code.specs.declared.instr.Instr.TheVariants as instr
use Rattle.lf_code.specs.declared.instr.Prefix.TheVariants.{Neg, Not}
use Rattle.lf_code.specs.CodeStep.{on_line}
use Rattle.lf_code.specs.ValidCode.{instr_fits, instrs_fit, has_params, in_range, all_differ, are_apart}
use Rattle.lf_codegen.specs.declared.called.Called.{Called}
use Rattle.lf_codegen.specs.declared.called.Called.TheVariants.{Built, Question, Function}
use Rattle.lf_codegen.specs.declared.mention.Mention.{Mention}
use Rattle.lf_codegen.specs.declared.mention.Mention.TheVariants.{Use, Bind, Call}
use Rattle.lf_codegen.specs.Frames.{PlainFrame, is_among, distinct, stmt_whens, block_whens}
use Rattle.lf_codegen.specs.GeneratedCode.{program_of, expr_code, args_code, stmt_code, block_code, call_code, branches_code}
use Rattle.lf_codegen.specs.GeneratedCode.{round_code, joined_code, is_empty_block}
use Rattle.lf_codegen.specs.Mentions.{args_count, is_variable, are_one_variable, expr_mentions, args_mentions, uses, stmt_mentions}
use Rattle.lf_codegen.specs.Mentions.{block_mentions}
use Rattle.lf_codegen.specs.Numbers.{PlainScript, called_of, asked_number, var_number, when_number, cown_names, capture_names}
use Rattle.lf_codegen.specs.TextsNamed.{expr_texts, args_texts, stmt_texts, block_texts}
use Rattle.lf_codegen.proofs.ValidOutput.CallsFit.{CallFits}
use Rattle.lf_codegen.proofs.ValidOutput.DistinctNames.{NamesDiffer, distinct_differ, distinct_behind, behind_is, first_differ, last_differ}
use Rattle.lf_codegen.proofs.ValidOutput.DistinctNames.{lists_differ, of_distinct}
use Rattle.lf_codegen.proofs.ValidOutput.VariableNumbers.{both, number_within, numbers_within, numbers_differ, numbers_apart}

module _ (s : PlainScript) (vars : List Name) (addresses : ℕ) where
  abbrev bodies : List Body
  bodies = (program_of s).bodies

  abbrev texts : ℕ
  texts = length s.texts

  abbrev fits : List Placed → Bool
  fits = instrs_fit bodies texts (length vars) addresses

  abbrev fits_one : Instr → Bool
  fits_one = instr_fits bodies texts (length vars) addresses

  -- instructions from an address on fit, where they end before the last address
  abbrev pub Run : ℕ → List Placed → Type 0
  Run at xs = at + length xs < addresses → fits xs ≡ true

  pub fit_append : (xs ys : List Placed) → fits xs ≡ true → fits ys ≡ true → fits (xs ++ ys) ≡ true
  fit_append [] ys f g = g
  fit_append (x ∷ xs) ys f g =
      both (fits_one x.instr) (fits (xs ++ ys)) (left_true (fits_one x.instr) (fits xs) f)
      (fit_append xs ys (right_true (fits_one x.instr) (fits xs) f) g)
    where
      left_true : (a b : Bool) → (a && b) ≡ true → a ≡ true
      left_true true b h = refl
      left_true false b h = absurd cc

      right_true : (a b : Bool) → (a && b) ≡ true → b ≡ true
      right_true true b h = h
      right_true false b h = absurd cc

  pub joins : (at : ℕ) (xs ys : List Placed) → Run at xs → Run (at + length xs) ys → Run at (xs ++ ys)
  joins at xs ys f g l =
      fit_append xs ys (f (omega (arith, length-append xs ys, l))) (g (omega (arith, length-append xs ys, l)))

  -- an instruction before others, which may count on where they end
  first : (at line : ℕ) (i : Instr) (is : List Placed) → (at + suc (length is) < addresses → fits_one i ≡ true) → Run (at + 1) is
      → Run at (on_line line i ∷ is)
  first at line i is f g l = both (fits_one i) (fits is) (f l) (g (omega (arith, l)))

  pub alone : (at line : ℕ) (i : Instr) → fits_one i ≡ true → Run at (on_line line i ∷ [])
  alone at line i f l = both (fits_one i) true f refl

  nothing : (at : ℕ) → Run at []
  nothing at l = refl

  -- a jump to an address that isn't past the end of what ends before the last one
  jump_fits : (end target : ℕ) → target ≡ end → end < addresses → nat_lt target addresses ≡ true
  jump_fits end target e l = lt-ltb target addresses (omega (arith, e, l))

  jump_before : (end target more : ℕ) → target + more ≡ end → end < addresses → nat_lt target addresses ≡ true
  jump_before end target more e l = lt-ltb target addresses (omega (arith, e, l))

  joined_run : (jump : ℕ → Instr) (line at : ℕ) (left right : List Placed) → ((a : ℕ) → fits_one (jump a) ≡ nat_lt a addresses)
      → Run at left → Run (at + length left + 1) right → Run at (joined_code jump line at left right)
  joined_run jump line at left right is_jump f g =
      let m = at + length left in
      let target = m + 1 + length right + 1 in
      joins at left _ f
      (first m line (jump target) (right ++ on_line line instr.Test ∷ [])
      (λ l. is_jump target
      ∙ jump_fits (m + suc (length (right ++ on_line line instr.Test ∷ []))) target
      (omega (arith, length-append right (on_line line instr.Test ∷ []))) l)
      (joins (m + 1) right _ g (alone (m + 1 + length right) line instr.Test refl)))

  -- what is mentioned is there, and calls fit
  abbrev pub Good : Mention → Type 0
  Good (Use x) = is_among x.id vars ≡ true
  Good (Bind x) = is_among x.id vars ≡ true
  Good (Call x count v) = CallFits s (called_of s x.id) count v

  abbrev pub AllGood : List Mention → List TextId → Type 0
  AllGood ms ts = ((m : Mention) → Member m ms → Good m) × ((t : TextId) → Member t ts → t.index < texts)

  front : (ms ns : List Mention) (ts us : List TextId) → AllGood (ms ++ ns) (ts ++ us) → AllGood ms ts
  front ms ns ts us h = ((λ m k. h.0 m (Member_left m ms ns k)), (λ t k. h.1 t (Member_left t ts us k)))

  back : (ms ns : List Mention) (ts us : List TextId) → AllGood (ms ++ ns) (ts ++ us) → AllGood ns us
  back ms ns ts us h = ((λ m k. h.0 m (Member_right m ms ns k)), (λ t k. h.1 t (Member_right t ts us k)))

  -- the variable that a question is asked of
  one_asked : (e : PlainExpr) → is_variable e ≡ true → AllGood (args_mentions (arg e no_args)) (args_texts (arg e no_args))
      → nat_lt (asked_number vars (arg e no_args)) (length vars) ≡ true
  one_asked plain.Nothing v h = absurd cc
  one_asked plain.Yes v h = absurd cc
  one_asked plain.No v h = absurd cc
  one_asked (plain.Number n) v h = absurd cc
  one_asked (plain.Text t) v h = absurd cc
  one_asked plain.Object v h = absurd cc
  one_asked (plain.Var x) v h = number_within vars x (h.0 (Use x) (inl refl))
  one_asked (plain.Field t k) v h = absurd cc
  one_asked (plain.Move x) v h = absurd cc
  one_asked (plain.Remove t k) v h = absurd cc
  one_asked (plain.Neg a) v h = absurd cc
  one_asked (plain.Not a) v h = absurd cc
  one_asked (plain.Binary op a b) v h = absurd cc
  one_asked (plain.And a b) v h = absurd cc
  one_asked (plain.Or a b) v h = absurd cc
  one_asked (plain.Call x es) v h = absurd cc

  asked : (es : PlainArgs) → are_one_variable es ≡ true → AllGood (args_mentions es) (args_texts es)
      → nat_lt (asked_number vars es) (length vars) ≡ true
  asked no_args v h = absurd cc
  asked (arg e no_args) v h = one_asked e v h
  asked (arg e (arg f es)) v h = absurd cc

  call_run : (w : Called) (es : PlainArgs) (line at : ℕ) (args : List Placed) → CallFits s w (args_count es) (are_one_variable es)
      → AllGood (args_mentions es) (args_texts es) → Run at args → Run at (call_code s vars w line es args)
  call_run (Built name) es line at args c h f =
      joins at args _ f (alone (at + length args) line (instr.Built name (args_count es)) c)
  call_run (Question name) es line at args c h f = alone at line (instr.Ask name (asked_number vars es)) (asked es c h)
  call_run (Function body) es line at args c h f =
      joins at args _ f (alone (at + length args) line (instr.Call body (args_count es)) c)

  mutual
    pub expr_run : (e : PlainExpr) (line at : ℕ) → AllGood (expr_mentions e) (expr_texts e) → Run at (expr_code s vars e line at)
    expr_run plain.Nothing line at h = alone at line instr.None refl
    expr_run plain.Yes line at h = alone at line (instr.Bool true) refl
    expr_run plain.No line at h = alone at line (instr.Bool false) refl
    expr_run (plain.Number n) line at h = alone at line (instr.Int n) refl
    expr_run (plain.Text t) line at h = alone at line (instr.Text t) (lt-ltb t.index texts (h.1 t (inl refl)))
    expr_run plain.Object line at h = alone at line instr.Object refl
    expr_run (plain.Var x) line at h = alone at line (instr.Get (var_number vars x)) (number_within vars x (h.0 (Use x) (inl refl)))
    expr_run (plain.Field t k) line at h =
        let m = at + length (expr_code s vars t line at) in
        joins at (expr_code s vars t line at) _ (expr_run t line at (front (expr_mentions t) (expr_mentions k) (expr_texts t)
        (expr_texts k) h))
        (joins m (expr_code s vars k line m) _
        (expr_run k line m (back (expr_mentions t) (expr_mentions k) (expr_texts t) (expr_texts k) h)) (alone _ line instr.Read refl))
    expr_run (plain.Move x) line at h = alone at line (instr.Take (var_number vars x)) (number_within vars x (h.0 (Use x) (inl refl)))
    expr_run (plain.Remove t k) line at h =
        let m = at + length (expr_code s vars t line at) in
        joins at (expr_code s vars t line at) _ (expr_run t line at (front (expr_mentions t) (expr_mentions k) (expr_texts t)
        (expr_texts k) h))
        (joins m (expr_code s vars k line m) _
        (expr_run k line m (back (expr_mentions t) (expr_mentions k) (expr_texts t) (expr_texts k) h)) (alone _ line instr.Remove refl))
    expr_run (plain.Neg e) line at h =
        joins at (expr_code s vars e line at) _ (expr_run e line at h) (alone _ line (instr.Unary Neg) refl)
    expr_run (plain.Not e) line at h =
        joins at (expr_code s vars e line at) _ (expr_run e line at h) (alone _ line (instr.Unary Not) refl)
    expr_run (plain.Binary op l r) line at h =
        let m = at + length (expr_code s vars l line at) in
        joins at (expr_code s vars l line at) _ (expr_run l line at (front (expr_mentions l) (expr_mentions r) (expr_texts l)
        (expr_texts r) h))
        (joins m (expr_code s vars r line m) _
        (expr_run r line m (back (expr_mentions l) (expr_mentions r) (expr_texts l) (expr_texts r) h)) (alone _ line
        (instr.Binary op) refl))
    expr_run (plain.And l r) line at h =
        let m = at + length (expr_code s vars l line at) + 1 in
        joined_run instr.And line at (expr_code s vars l line at) (expr_code s vars r line m) (λ a. refl)
        (expr_run l line at (front (expr_mentions l) (expr_mentions r) (expr_texts l) (expr_texts r) h))
        (expr_run r line m (back (expr_mentions l) (expr_mentions r) (expr_texts l) (expr_texts r) h))
    expr_run (plain.Or l r) line at h =
        let m = at + length (expr_code s vars l line at) + 1 in
        joined_run instr.Or line at (expr_code s vars l line at) (expr_code s vars r line m) (λ a. refl)
        (expr_run l line at (front (expr_mentions l) (expr_mentions r) (expr_texts l) (expr_texts r) h))
        (expr_run r line m (back (expr_mentions l) (expr_mentions r) (expr_texts l) (expr_texts r) h))
    expr_run (plain.Call x es) line at h =
        let of_args : AllGood (args_mentions es) (args_texts es) = ((λ m k. h.0 m (inr k)), h.1) in
        call_run (called_of s x.id) es line at (args_code s vars es line at)
        (h.0 (Call x (args_count es) (are_one_variable es)) (inl refl)) of_args (args_run es line at of_args)

    args_run : (es : PlainArgs) (line at : ℕ) → AllGood (args_mentions es) (args_texts es) → Run at (args_code s vars es line at)
    args_run no_args line at h = nothing at
    args_run (arg e es) line at h =
        let m = at + length (expr_code s vars e line at) in
        joins at (expr_code s vars e line at) _
        (expr_run e line at (front (expr_mentions e) (args_mentions es) (expr_texts e) (args_texts es) h))
        (args_run es line m (back (expr_mentions e) (args_mentions es) (expr_texts e) (args_texts es) h))

  -- ---- statements
  ticked : (at line : ℕ) (is : List Placed) → Run (at + 1) is → Run at (on_line line instr.Tick ∷ is)
  ticked at line is f = first at line instr.Tick is (λ l. refl) f

  with_last : (e : PlainExpr) (line at : ℕ) (i : Instr) → fits_one i ≡ true → AllGood (expr_mentions e) (expr_texts e)
      → Run at (on_line line instr.Tick ∷ (expr_code s vars e line (at + 1) ++ on_line line i ∷ []))
  with_last e line at i f h =
      ticked at line _ (joins (at + 1) (expr_code s vars e line (at + 1)) _ (expr_run e line (at + 1) h) (alone _ line i f))

  branches_run : (none : Bool) (line past : ℕ) (cy co : List Placed) → Run (past + 1) cy → Run (past + 1 + length cy + 1) co
      → Run past (branches_code none line past cy co)
  branches_run true line past cy co f g =
      first past line (instr.Unless (past + 1 + length cy)) cy
      (λ l. jump_fits (past + suc (length cy)) (past + 1 + length cy) (omega arith) l) f
  branches_run false line past cy co f g =
      let target = past + 1 + length cy + 1 in
      let behind = on_line line (instr.Jump (target + length co)) ∷ co in
      first past line (instr.Unless target) (cy ++ behind)
      (λ l. jump_before (past + suc (length (cy ++ behind))) target (length co) (omega (arith, length-append cy behind)) l)
      (joins (past + 1) cy behind f
      (first (past + 1 + length cy) line (instr.Jump (target + length co)) co
      (λ l. jump_fits (past + 1 + length cy + suc (length co)) (target + length co) (omega arith) l) g))

  round_run : (line top past : ℕ) (ck : List Placed) → top < past → Run (past + 1) ck → Run past (round_code line top past ck)
  round_run line top past ck below f =
      let back_up = on_line line (instr.Jump top) ∷ [] in
      let target = past + 1 + length ck + 1 in
      first past line (instr.Unless target) (ck ++ back_up)
      (λ l. jump_fits (past + suc (length (ck ++ back_up))) target (omega (arith, length-append ck back_up)) l)
      (joins (past + 1) ck back_up f
      (λ l. both (nat_lt top addresses) true (lt-ltb top addresses (omega (arith, below, l))) refl))

  -- the bodies of these `when`s have as many parameters as their names
  abbrev pub WhensFit : List PlainFrame → Type 0
  WhensFit fs = (f : PlainFrame) → Member f fs
      → has_params (slice_get bodies (when_number s.tree f.line)) (length (distinct f.own)) ≡ true

  when_run : (line at : ℕ) (cowns captures : List Name) → ((x : Name) → Member x (cowns ++ captures) → is_among x.id vars ≡ true)
      → has_params (slice_get bodies (when_number s.tree line)) (length (distinct (cowns ++ captures))) ≡ true
      → fits_one (instr.When (when_number s.tree line) (map (var_number vars) (cown_names cowns))
      (map (var_number vars) (capture_names cowns captures))) ≡ true
  when_run line at cowns captures there params =
      let cs = distinct cowns in
      let ks = capture_names cowns captures in
      let parts = distinct_behind cowns captures in
      let ks_are : ks ≡ parts.0 = behind_is cowns captures in
      let whole : distinct (cowns ++ captures) ≡ cs ++ ks = parts.1 ∙ ap (λ l. cs ++ l) (sym ks_are) in
      let differ = subst NamesDiffer whole (distinct_differ (cowns ++ captures)) in
      let all_there : (x : Name) → Member x (cs ++ ks) → is_among x.id vars ≡ true =
      λ x m. elim (of_distinct [] (cowns ++ captures) x (subst (Member x) (sym whole) m)) [ inl k ↦ absurd k | inr k ↦ there x k ] in
      let cs_there : (x : Name) → Member x cs → is_among x.id vars ≡ true = λ x m. all_there x (Member_left x cs ks m) in
      let ks_there : (x : Name) → Member x ks → is_among x.id vars ≡ true = λ x m. all_there x (Member_right x cs ks m) in
      let count : length (distinct (cowns ++ captures)) ≡ length (map (var_number vars) cs) + length (map (var_number vars) ks) =
      omega (arith, ap length whole, length-append cs ks, length-map cs (var_number vars), length-map ks (var_number vars)) in
      both (in_range (length vars) (map (var_number vars) cs)) _ (numbers_within vars cs cs_there)
      (both (in_range (length vars) (map (var_number vars) ks)) _ (numbers_within vars ks ks_there)
      (both (all_differ (map (var_number vars) cs)) _ (numbers_differ vars cs cs_there (first_differ cs ks differ))
      (both (all_differ (map (var_number vars) ks)) _ (numbers_differ vars ks ks_there (last_differ cs ks differ))
      (both (are_apart (map (var_number vars) cs) (map (var_number vars) ks)) _
      (numbers_apart vars cs ks cs_there ks_there (λ x m. lists_differ x cs ks differ m))
      (subst (λ n. has_params (slice_get bodies (when_number s.tree line)) n ≡ true) count params)))))

  used : (cowns captures : List Name) → ((m : Mention) → Member m (uses cowns ++ uses captures) → Good m)
      → (x : Name) → Member x (cowns ++ captures) → is_among x.id vars ≡ true
  used [] [] h x m = absurd m
  used [] (y ∷ ys) h x m = h (Use x) (Member_map Use x (y ∷ ys) m)
  used (y ∷ ys) captures h x (inl e) = subst (λ n. is_among n.id vars ≡ true) e (h (Use y) (inl refl))
  used (y ∷ ys) captures h x (inr m) = used ys captures (λ n k. h n (inr k)) x m

  mutual
    pub stmt_run : (st : PlainStmt) (at : ℕ) → AllGood (stmt_mentions st) (stmt_texts st) → WhensFit (stmt_whens st)
        → Run at (stmt_code s vars st at)
    stmt_run (plain.Assign line x e) at h w =
        with_last e line at (instr.Set (var_number vars x)) (number_within vars x (h.0 (Bind x) (inl refl))) ((λ m k. h.0 m (inr k)), h.1)
    stmt_run (plain.Store line t k e) at h w =
        let m = at + 1 + length (expr_code s vars t line (at + 1)) in
        let n = m + length (expr_code s vars k line m) in
        let of_rest = back (expr_mentions t) (expr_mentions k ++ expr_mentions e) (expr_texts t) (expr_texts k ++ expr_texts e) h in
        ticked at line _
        (joins (at + 1) (expr_code s vars t line (at + 1)) _
        (expr_run t line (at + 1) (front (expr_mentions t) (expr_mentions k ++ expr_mentions e) (expr_texts t)
        (expr_texts k ++ expr_texts e) h))
        (joins m (expr_code s vars k line m) _
        (expr_run k line m (front (expr_mentions k) (expr_mentions e) (expr_texts k) (expr_texts e) of_rest))
        (joins n (expr_code s vars e line n) _
        (expr_run e line n (back (expr_mentions k) (expr_mentions e) (expr_texts k) (expr_texts e) of_rest))
        (alone _ line instr.Write refl))))
    stmt_run (plain.Drop line x) at h w =
        ticked at line (on_line line (instr.Drop (var_number vars x)) ∷ [])
        (alone (at + 1) line (instr.Drop (var_number vars x)) (number_within vars x (h.0 (Use x) (inl refl))))
    stmt_run (plain.Return line None) at h w =
        ticked at line (on_line line instr.None ∷ on_line line instr.Return ∷ [])
        (first (at + 1) line instr.None (on_line line instr.Return ∷ []) (λ l. refl) (alone (at + 1 + 1) line instr.Return refl))
    stmt_run (plain.Return line (Some e)) at h w = with_last e line at instr.Return refl h
    stmt_run (plain.Pass line) at h w = alone at line instr.Tick refl
    stmt_run (plain.Eval line e) at h w = with_last e line at instr.Pop refl h
    stmt_run (plain.If line e body other) at h w =
        let ce = expr_code s vars e line (at + 1) in
        let past = at + 1 + length ce in
        let cy = block_code s vars body (past + 1) in
        let co = block_code s vars other (past + 1 + length cy + 1) in
        let ms = expr_mentions e in
        let ns = block_mentions body ++ block_mentions other in
        let ts = expr_texts e in
        let us = block_texts body ++ block_texts other in
        let of_rest = back ms ns ts us h in
        ticked at line _
        (joins (at + 1) ce _ (expr_run e line (at + 1) (front ms ns ts us h))
        (branches_run (is_empty_block other) line past cy co
        (block_run body (past + 1) (front (block_mentions body) (block_mentions other) (block_texts body) (block_texts other) of_rest)
        (λ f m. w f (Member_left f (block_whens body) (block_whens other) m)))
        (block_run other (past + 1 + length cy + 1)
        (back (block_mentions body) (block_mentions other) (block_texts body) (block_texts other) of_rest)
        (λ f m. w f (Member_right f (block_whens body) (block_whens other) m)))))
    stmt_run (plain.While line e k) at h w =
        let ce = expr_code s vars e line (at + 1 + 1) in
        let past = at + 1 + 1 + length ce in
        let ck = block_code s vars k (past + 1) in
        ticked at line (on_line line instr.Tick ∷ (ce ++ round_code line (at + 1) past ck))
        (ticked (at + 1) line (ce ++ round_code line (at + 1) past ck)
        (joins (at + 1 + 1) ce (round_code line (at + 1) past ck)
        (expr_run e line (at + 1 + 1) (front (expr_mentions e) (block_mentions k) (expr_texts e) (block_texts k) h))
        (round_run line (at + 1) past ck (omega arith)
        (block_run k (past + 1) (back (expr_mentions e) (block_mentions k) (expr_texts e) (block_texts k) h) w))))
    stmt_run (plain.When line cowns captures k) at h w =
        let i = instr.When (when_number s.tree line) (map (var_number vars) (cown_names cowns))
        (map (var_number vars) (capture_names cowns captures)) in
        ticked at line (on_line line i ∷ [])
        (alone (at + 1) line i
        (when_run line at cowns captures (used cowns captures h.0)
        (w (record { line = line; own = cowns ++ captures; body = k }) (inl refl))))

    pub block_run : (k : PlainBlock) (at : ℕ) → AllGood (block_mentions k) (block_texts k) → WhensFit (block_whens k)
        → Run at (block_code s vars k at)
    block_run no_stmts at h w = nothing at
    block_run (stmt st k) at h w =
        let ca = stmt_code s vars st at in
        joins at ca _ (stmt_run st at (front (stmt_mentions st) (block_mentions k) (stmt_texts st) (block_texts k) h)
        (λ f m. w f (Member_left f (stmt_whens st) (block_whens k) m)))
        (block_run k (at + length ca) (back (stmt_mentions st) (block_mentions k) (stmt_texts st) (block_texts k) h)
        (λ f m. w f (Member_right f (stmt_whens st) (block_whens k) m)))

-- The lines of a tree's `when`s rise.
use Rattle.std.proofs.Common.{◌≡◌, ℕ, ◌≤◌, ◌<◌, List, [], ◌∷◌, ◌++◌, cond, count_by, map, flat_map, eqb, ltb, refl, ap, sym, subst, inl}
use Rattle.std.proofs.Common.{inr, arith}
use Rattle.std.proofs.lemmas.Bool.{eq-eqb, lt-ltb}
use Rattle.std.proofs.lemmas.List.{map-append}
use Rattle.std.proofs.lemmas.List.Sums.{sum_by-cons}
use Rattle.lf_base.specs.Sets.{Member}
use Rattle.lf_base.proofs.ListLemmas.Sublists.{Sub, none, take, pass, sub_append, count_sub}
use Rattle.lf_parser.specs.Plain.{PlainStmt, PlainBlock, PlainFunction, PlainTree, no_stmts, stmt}
use Rattle.lf_parser.specs.Plain as plain
use Rattle.lf_parser.specs.Ascending.{Ascending}
use Rattle.lf_parser.specs.TreeLines.{stmt_lines, block_lines, functions_lines, tree_lines, LinesInOrder}
use Rattle.lf_codegen.specs.Frames.{PlainFrame, rising, frame_line, stmt_whens, block_whens, function_whens, when_frames}
use Rattle.lf_codegen.proofs.OverLists.Counted.{member_counted}
use Rattle.lf_codegen.proofs.OverLists.StableSorts.{NoKeyBelow, KeysRise, up_rising, map_rising, rising_sum}

abbrev lines_of : List PlainFrame → List ℕ
lines_of fs = map frame_line fs

both : (fs gs : List PlainFrame) (ms ns : List ℕ) → Sub (lines_of fs) ms → Sub (lines_of gs) ns → Sub (lines_of (fs ++ gs)) (ms ++ ns)
both fs gs ms ns p q = subst (λ l. Sub l (ms ++ ns)) (sym (map-append frame_line fs gs)) (sub_append p q)

-- each `when` is a statement, and they stand in one order
mutual
  stmt_lined : (s : PlainStmt) → Sub (lines_of (stmt_whens s)) (stmt_lines s)
  stmt_lined (plain.Assign line x value) = pass none
  stmt_lined (plain.Store line target key value) = pass none
  stmt_lined (plain.Drop line x) = pass none
  stmt_lined (plain.Return line value) = pass none
  stmt_lined (plain.Pass line) = pass none
  stmt_lined (plain.Eval line value) = pass none
  stmt_lined (plain.If line test body other) = pass (both (block_whens body) (block_whens other) _ _ (block_lined body) (block_lined other))
  stmt_lined (plain.While line test body) = pass (block_lined body)
  stmt_lined (plain.When line cowns captures body) = take (block_lined body)

  block_lined : (b : PlainBlock) → Sub (lines_of (block_whens b)) (block_lines b)
  block_lined no_stmts = none
  block_lined (stmt s ss) = both (stmt_whens s) (block_whens ss) _ _ (stmt_lined s) (block_lined ss)

functions_lined : (fs : List PlainFunction) → Sub (lines_of (flat_map function_whens fs)) (functions_lines fs)
functions_lined [] = none
functions_lined (f ∷ fs) = both (function_whens f) (flat_map function_whens fs) _ _ (block_lined f.body) (functions_lined fs)

-- numbers that don't fall rise, where none is there twice
above : (n y : ℕ) (ns : List ℕ) → NoKeyBelow (λ k. k) n ns → Member y ns → n ≤ y
above n y (m ∷ ns) a (inl e) = subst (λ k. n ≤ k) e a.0
above n y (m ∷ ns) a (inr k) = above n y ns a.1 k
above n y [] a m = absurd m

strict : (ns : List ℕ) → KeysRise (λ k. k) ns → ((n : ℕ) → count_by (eqb n) ns ≤ 1) → Ascending ltb ns
strict [] u once = tt
strict (n ∷ ns) u once = (
  λ y m. lt-ltb n y (later y (above n y ns u.0 m) m),
  strict ns u.1 (λ k. let one = once k in omega (arith, sum_by-cons (λ x. cond (eqb k x) 1 0) n ns)),
)
  where
    later : (y : ℕ) → n ≤ y → Member y ns → n < y
    later y le m = let one = once n in let two : n ≡ y → 1 ≤ count_by (eqb n) ns = λ e. member_counted (eqb n) y ns m (eq-eqb n y e) in
        let differ : n ≡ y → ⊥ = λ e. let more = two e in omega (
          arith,
          sum_by-cons (λ x. cond (eqb n x) 1 0) n ns,
          ap {B = ℕ} (λ b. cond b 1 0) (eq-eqb n n refl),
        ) in
        omega arith

pub whens_rise : (tree : PlainTree) → LinesInOrder tree → Ascending ltb (map frame_line (when_frames tree))
whens_rise tree order =
    let all = flat_map function_whens tree.functions ++ block_whens tree.main in
    let part : Sub (lines_of all) (tree_lines tree) = both (flat_map function_whens tree.functions) (block_whens tree.main) _ _
    (functions_lined tree.functions) (block_lined tree.main) in
    let once : (n : ℕ) → count_by (eqb n) (rising (λ k. k) (lines_of all)) ≤ 1 =
    λ n. let one = order.once n in
    let le = count_sub (eqb n) (eqb n) (λ k e. e) part in
    omega (arith, rising_sum (λ k. k) (λ x. cond (eqb n x) 1 0) (lines_of all)) in
    subst (Ascending ltb) (sym (map_rising frame_line (λ k. k) all))
    (strict (rising (λ k. k) (lines_of all)) (up_rising (λ k. k) (lines_of all)) once)

-- The least of lines in parts, and that all instructions run where there is no such line.
use Rattle.std.proofs.Common.{◌≡◌, ◌<◌, ◌+◌, ◌++◌, ◌∷◌, ◌∙◌, ◌&&◌, ℕ, Bool, true, false, List, [], drop, flat_map, get_or, length, Option, Some, None, refl, ap, sym, min, arith}
use Rattle.std.specs.Prelude.{if◌then◌else◌}
use Rattle.std.proofs.lemmas.List.{drop_more}
use Rattle.lf_code.specs.declared.body.Body.{Body}
use Rattle.lf_code.specs.declared.body.Placed.{Placed}
use Rattle.lf_code.specs.CodeStep.{Program}
use Rattle.lf_machine.specs.Forms.{Runs, list_runs, runs}
use Rattle.lf_app.specs.Unbuilt.{first_unbuilt, least_line, lesser_line, line_unbuilt, lines_unbuilt}

min_assoc : (a b c : ℕ) → min (min a b) c ≡ min a (min b c)
min_assoc a b c = omega arith

lesser_assoc : (a b c : Option ℕ) → lesser_line (lesser_line a b) c ≡ lesser_line a (lesser_line b c)
lesser_assoc None b c = refl
lesser_assoc (Some a) None c = refl
lesser_assoc (Some a) (Some b) None = refl
lesser_assoc (Some a) (Some b) (Some c) = ap Some (min_assoc a b c)

least_of_both : (xs ys : List ℕ) → least_line (xs ++ ys) ≡ lesser_line (least_line xs) (least_line ys)
least_of_both [] ys = refl
least_of_both (x ∷ xs) ys =
    ap (lesser_line (Some x)) (least_of_both xs ys) ∙ sym (lesser_assoc (Some x) (least_line xs) (least_line ys))

pub lesser_none : (o : Option ℕ) → lesser_line o None ≡ o
lesser_none None = refl
lesser_none (Some line) = refl

-- the least of the lines of items, one item more
pub one_item_more : {X : Type 0} (f : X → List ℕ) (xs : List X) (i : ℕ) (x : X) (least one : Option ℕ) → i < length xs → x ≡ get_or xs i x
    → one ≡ least_line (f x) → lesser_line least (least_line (flat_map f (drop i xs))) ≡ least_line (flat_map f xs)
    → lesser_line (lesser_line least one) (least_line (flat_map f (drop (i + 1) xs))) ≡ least_line (flat_map f xs)
one_item_more f xs i x least one within is one_is so_far =
    let rest = drop (i + 1) xs in
    let parts : drop i xs ≡ x ∷ rest = drop_more xs i x within ∙ ap (λ y. y ∷ rest) (sym is) in
    lesser_assoc least one (least_line (flat_map f rest))
    ∙ ap (λ o. lesser_line least (lesser_line o (least_line (flat_map f rest)))) one_is
    ∙ ap (lesser_line least) (sym (least_of_both (f x) (flat_map f rest)))
    ∙ ap (λ ys. lesser_line least (least_line (flat_map f ys))) (sym parts)
    ∙ so_far

never_none : (line : ℕ) (o : Option ℕ) → lesser_line (Some line) o ≡ None → ⊥
never_none line None h = cc
never_none line (Some other) h = cc

neither : (a b : Option ℕ) → lesser_line a b ≡ None → (a ≡ None) × (b ≡ None)
neither None b h = (refl, h)
neither (Some a) b h = absurd (never_none a b h)

both_true : (a b : Bool) → a ≡ true → b ≡ true → (a && b) ≡ true
both_true true b h k = k
both_true false b h k = h

one_runs : (line : ℕ) (rest : List ℕ) (b : Bool) → least_line ((if b then [] else line ∷ []) ++ rest) ≡ None
    → (b ≡ true) × (least_line rest ≡ None)
one_runs line rest true h = (refl, h)
one_runs line rest false h = absurd (never_none line (least_line rest) h)

list_runs_whole : (list : List Placed) → least_line (flat_map line_unbuilt list) ≡ None → list_runs list ≡ true
list_runs_whole [] h = refl
list_runs_whole (i ∷ list) h =
    let both = one_runs i.line (flat_map line_unbuilt list) (runs i.instr) h in
    both_true (runs i.instr) (list_runs list) both.0 (list_runs_whole list both.1)

bodies_run : (bodies : List Body) (texts : List (List ℕ)) → least_line (flat_map lines_unbuilt bodies) ≡ None
    → Runs (record { bodies = bodies; texts = texts })
bodies_run [] texts h = refl
bodies_run (b ∷ bodies) texts h =
    let both = neither (least_line (lines_unbuilt b)) (least_line (flat_map lines_unbuilt bodies))
    (sym (least_of_both (lines_unbuilt b) (flat_map lines_unbuilt bodies)) ∙ h) in
    both_true (list_runs b.list) _ (list_runs_whole b.list both.0) (bodies_run bodies texts both.1)

-- where no line has a form that doesn't run yet, all run
pub all_run : (p : Program) → first_unbuilt p ≡ None → Runs p
all_run p h = bodies_run p.bodies p.texts h

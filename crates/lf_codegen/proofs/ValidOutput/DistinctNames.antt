-- Each name once: what is in the list, and how long it is.
use Rattle.std.proofs.Common.{◌≡◌, Bool, true, false, cond, ◌||◌, List, [], ◌∷◌, ◌++◌, length, drop, fold, refl, ap, sym, subst}
use Rattle.std.proofs.Common.{◌∙◌, ◌⊎◌, inl, inr, append_assoc, append-nil}
use Rattle.std.proofs.lemmas.List.Folds.{list_any-append}
use Rattle.std.proofs.lemmas.List.Sums.{fold-append}
use Rattle.lf_base.specs.declared.ids.TextId.{TextId}
use Rattle.lf_base.specs.declared.refusals.RefusalKind.TheVariants.{DuplicateName}
use Rattle.lf_base.specs.Sets.{Member}
use Rattle.lf_base.specs.Texts.{same_text}
use Rattle.lf_parser.specs.declared.name.Name.{Name}
use Rattle.lf_codegen.specs.Frames.{is_among, with_new_name, distinct}
use Rattle.lf_codegen.specs.NameRefusals.{repeats, refusals_at, kind_where}
use Rattle.lf_codegen.proofs.NameTables.SetsOfNames.{same_text_sym, among_again}

-- no name comes twice
abbrev pub NamesDiffer : List Name → Type 0
NamesDiffer [] = Unit {0}
NamesDiffer (x ∷ xs) = (is_among x.id xs ≡ false) × NamesDiffer xs

or_first : (a b : Bool) → (a || b) ≡ false → a ≡ false
or_first true b h = absurd cc
or_first false b h = refl

or_second : (a b : Bool) → (a || b) ≡ false → b ≡ false
or_second true b h = absurd cc
or_second false b h = h

neither : (a b : Bool) → a ≡ false → b ≡ false → (a || b) ≡ false
neither true b h k = absurd cc
neither false b h k = k

not_in_append : (id : TextId) (xs ys : List Name) → is_among id (xs ++ ys) ≡ false → (is_among id xs ≡ false) × (is_among id ys ≡ false)
not_in_append id xs ys h =
    let e = sym (list_any-append (λ (y : Name). same_text id y.id) xs ys) ∙ h in
    (or_first (is_among id xs) (is_among id ys) e, or_second (is_among id xs) (is_among id ys) e)

pub first_differ : (xs ys : List Name) → NamesDiffer (xs ++ ys) → NamesDiffer xs
first_differ [] ys d = tt
first_differ (x ∷ xs) ys d = ((not_in_append x.id xs ys d.0).0, first_differ xs ys d.1)

pub last_differ : (xs ys : List Name) → NamesDiffer (xs ++ ys) → NamesDiffer ys
last_differ [] ys d = d
last_differ (x ∷ xs) ys d = last_differ xs ys d.1

pub lists_differ : (x : Name) (xs ys : List Name) → NamesDiffer (xs ++ ys) → Member x xs → is_among x.id ys ≡ false
lists_differ x [] ys d m = absurd m
lists_differ x (y ∷ xs) ys d (inl e) = subst (λ n. is_among n.id ys ≡ false) e (not_in_append y.id xs ys d.0).1
lists_differ x (y ∷ xs) ys d (inr m) = lists_differ x xs ys d.1 m

new_differs : (xs : List Name) (x : Name) → NamesDiffer xs → is_among x.id xs ≡ false → NamesDiffer (xs ++ x ∷ [])
new_differs [] x d h = (refl, tt)
new_differs (y ∷ xs) x d h =
    let apart : same_text y.id x.id ≡ false = same_text_sym y.id x.id ∙ or_first (same_text x.id y.id) (is_among x.id xs) h in (
      list_any-append (λ (z : Name). same_text y.id z.id) xs (x ∷ []) ∙ neither (is_among y.id xs) (same_text y.id x.id || false) d.0
          (neither (same_text y.id x.id) false apart refl),
      new_differs xs x d.1 (or_second (same_text x.id y.id) (is_among x.id xs) h),
    )

one_more_differs : (xs : List Name) (x : Name) → NamesDiffer xs → NamesDiffer (with_new_name xs x)
one_more_differs xs x d = elim (is_among x.id xs) as (λ b. is_among x.id xs ≡ b → NamesDiffer (cond b xs (xs ++ x ∷ []))) [
  | true ↦ λ h. d
  | false ↦ λ h. new_differs xs x d h
] refl

fold_differs : (names xs : List Name) → NamesDiffer names → NamesDiffer (fold with_new_name names xs)
fold_differs names [] d = d
fold_differs names (x ∷ xs) d = fold_differs (with_new_name names x) xs (one_more_differs names x d)

pub distinct_differ : (xs : List Name) → NamesDiffer (distinct xs)
distinct_differ xs = fold_differs [] xs tt

-- names are put behind those that are there
one_more_behind : (names : List Name) (x : Name) → (more : List Name) × (with_new_name names x ≡ names ++ more)
one_more_behind names x = elim (is_among x.id names) as (λ b. (more : List Name) × (cond b names (names ++ x ∷ []) ≡ names ++ more)) [
  | true ↦ ([], sym (append-nil names))
  | false ↦ (x ∷ [], refl)
]

more_behind : (names xs : List Name) → (more : List Name) × (fold with_new_name names xs ≡ names ++ more)
more_behind names [] = ([], sym (append-nil names))
more_behind names (x ∷ xs) =
    let one = one_more_behind names x in
    let rest = more_behind (with_new_name names x) xs in
    (one.0 ++ rest.0, rest.1 ∙ ap (λ l. l ++ rest.0) one.1 ∙ append_assoc names one.0 rest.0)

pub distinct_behind : (xs ys : List Name) → (more : List Name) × (distinct (xs ++ ys) ≡ distinct xs ++ more)
distinct_behind xs ys =
    let rest = more_behind (distinct xs) ys in
    (rest.0, fold-append with_new_name [] xs ys ∙ rest.1)

pub behind_is : (xs ys : List Name) → drop (length (distinct xs)) (distinct (xs ++ ys)) ≡ (distinct_behind xs ys).0
behind_is xs ys = let d = distinct_behind xs ys in ap (drop (length (distinct xs))) d.1 ∙ dropped (distinct xs) d.0
  where
    dropped : (ns ms : List Name) → drop (length ns) (ns ++ ms) ≡ ms
    dropped [] ms = refl
    dropped (n ∷ ns) ms = dropped ns ms

-- each one was there
pub of_distinct : (names xs : List Name) (x : Name) → Member x (fold with_new_name names xs) → Member x names ⊎ Member x xs
of_distinct names [] x m = inl m
of_distinct names (y ∷ xs) x m = elim (of_distinct (with_new_name names y) xs x m) [
  | inl k ↦ elim (of_one k) [ inl l ↦ inl l | inr e ↦ inr (inl e) ]
  | inr k ↦ inr (inr k)
]
  where
    in_last : (ns : List Name) → Member x (ns ++ y ∷ []) → Member x ns ⊎ (y ≡ x)
    in_last [] (inl e) = inr e
    in_last [] (inr k) = absurd k
    in_last (n ∷ ns) (inl e) = inl (inl e)
    in_last (n ∷ ns) (inr k) = elim (in_last ns k) [ inl l ↦ inl (inr l) | inr e ↦ inr e ]

    of_one : Member x (with_new_name names y) → Member x names ⊎ (y ≡ x)
    of_one k = elim (is_among y.id names) as (λ b. Member x (cond b names (names ++ y ∷ [])) → Member x names ⊎ (y ≡ x)) [
      | true ↦ λ l. inl l
      | false ↦ λ l. in_last names l
    ] k

-- and each one is kept
or_left : (a b : Bool) → a ≡ true → (a || b) ≡ true
or_left true b h = refl
or_left false b h = absurd cc

or_same : (a b c : Bool) → (a || (b || false)) ≡ a → (a || (b || c)) ≡ true → (a || c) ≡ true
or_same true b c e h = refl
or_same false true c e h = absurd cc
or_same false false c e h = h

among_next : (id : TextId) (names : List Name) (x : Name) (xs : List Name) → is_among id (names ++ x ∷ xs) ≡ true
    → is_among id (with_new_name names x ++ xs) ≡ true
among_next id names x xs h = elim (is_among x.id names) as (λ b. is_among x.id names ≡ b → is_among id (cond b names
    (names ++ x ∷ []) ++ xs) ≡ true) [
      | true ↦ λ e. list_any-append (λ (y : Name). same_text id y.id) names xs
          ∙ or_same (is_among id names) (same_text id x.id) (is_among id xs)
          (sym (list_any-append (λ (y : Name). same_text id y.id) names (x ∷ [])) ∙ among_again id names x e)
          (sym (list_any-append (λ (y : Name). same_text id y.id) names (x ∷ xs)) ∙ h)
      | false ↦ λ e. ap (is_among id) (append_assoc names (x ∷ []) xs) ∙ h
    ] refl

pub among_distinct : (id : TextId) (names xs : List Name) → is_among id (names ++ xs) ≡ true → is_among id (fold with_new_name names xs)
    ≡ true
among_distinct id names [] h = ap (is_among id) (sym (append-nil names)) ∙ h
among_distinct id names (x ∷ xs) h = among_distinct id (with_new_name names x) xs (among_next id names x xs h)

-- names that are not repeated are all distinct
pub none_front : {X : Type 0} (xs ys : List X) → xs ++ ys ≡ [] → xs ≡ []
none_front [] ys h = refl
none_front (x ∷ xs) ys h = absurd cc

pub none_back : {X : Type 0} (xs ys : List X) → xs ++ ys ≡ [] → ys ≡ []
none_back [] ys h = h
none_back (x ∷ xs) ys h = absurd cc

unrepeated : (names xs : List Name) → repeats names xs ≡ [] → fold with_new_name names xs ≡ names ++ xs
unrepeated names [] h = sym (append-nil names)
unrepeated names (x ∷ xs) h = by (is_among x.id names) refl
    (unrepeated (names ++ x ∷ []) xs (none_back (refusals_at (kind_where (is_among x.id names) DuplicateName) x) _ h))
    (none_front (refusals_at (kind_where (is_among x.id names) DuplicateName) x) _ h)
  where
    by : (b : Bool) → is_among x.id names ≡ b → fold with_new_name (names ++ x ∷ []) xs ≡ (names ++ x ∷ []) ++ xs
        → refusals_at (kind_where (is_among x.id names) DuplicateName) x ≡ []
        → fold with_new_name (with_new_name names x) xs ≡ names ++ x ∷ xs
    by true e k r =
        let refused : refusals_at (kind_where true DuplicateName) x ≡ [] =
        ap (λ b. refusals_at (kind_where b DuplicateName) x) (sym e) ∙ r in
        absurd cc
    by false e k r =
        let next : with_new_name names x ≡ names ++ x ∷ [] = ap (λ c. cond c names (names ++ x ∷ [])) e in
        ap (λ l. fold with_new_name l xs) next ∙ k ∙ append_assoc names (x ∷ []) xs

pub all_distinct : (xs : List Name) → repeats [] xs ≡ [] → distinct xs ≡ xs
all_distinct xs h = unrepeated [] xs h

-- Places of cowns: what is kept as one comes, is filled or is emptied.
use Rattle.std.proofs.Common.{◌≡◌, ◌∙◌, ◌&&◌, ◌||◌, ◌++◌, ◌∷◌, [], ap, Bool, List, None, Option, Some, cond, drop, eqb, false, get_or, inl, inr, is_some, length, ltb, not, refl, subst, suc, sym, true, arith, zero, ℕ, ◌+◌, ◌<◌}
use Rattle.std.proofs.lemmas.Bool.{eqb-true, ltb-true, ne_eqb}
use Rattle.std.proofs.lemmas.List.{drop_more}
use Rattle.std.proofs.lemmas.Map.Keys.{sorted_head, sorted_tail}
use Rattle.std.specs.List.{AllByRecursion, list_any}
use Rattle.std.specs.List.Sorted.{IsStrictlySortedBy}
use Rattle.std.specs.Map.{keys_of, lookup, set_value}
use Rattle.std.specs.BTreeMap.{insert_entry, is_at}
use Rattle.std.specs.declared.cmp.Ordering.{Ordering}
use Rattle.std.specs.declared.cmp.Ordering.TheVariants.{Less, Equal, Greater}
use Rattle.std.specs.Ordering.{is_eq, is_lt, match_ordering, ordering_then}
use Rattle.lf_base.specs.declared.ids.CownId.{CownId}
use Rattle.lf_base.specs.Names.{same_cown}
use Rattle.lf_base.specs.Sets.{Differ, Member}
use Rattle.lf_base.specs.contracts.ids.CownIdOrd.TheImpl as order
use Rattle.lf_core.specs.Contents.{Places, has_place, kept}
use Rattle.lf_core.specs.Keyed.{at, cown_below, found, pick, put, put_all, without}
use Rattle.lf_core.proofs.Tests.{same_test, false_by, no_both, or_cases}
use Rattle.lf_core.proofs.Keyed.{at_without, cown_is, cowns_one, filter_all, filter_filter, pick_same}
use Rattle.lf_queue.specs.Ready.{among}

-- ---- what `cmp` answers at two cowns
abbrev pub cown_cmp : CownId → CownId → Ordering
cown_cmp = (order.cmp-value).it

-- `cmp` by the tests of two numbers each: below, equal
abbrev by_tests : Bool → Bool → Bool → Bool → Ordering
by_tests below same below' same' = ordering_then (cond below Less (cond same Equal Greater)) (cond below' Less (cond same' Equal Greater))

lt_by_tests : (l e m f : Bool) → is_lt (by_tests l e m f) ≡ (l || (e && m))
lt_by_tests true e m f = refl
lt_by_tests false false m f = refl
lt_by_tests false true true f = refl
lt_by_tests false true false true = refl
lt_by_tests false true false false = refl

eq_by_tests : (l e m f : Bool) → (l ≡ true → e ≡ false) → (m ≡ true → f ≡ false) → is_eq (by_tests l e m f) ≡ (e && f)
eq_by_tests true e m f one two = ap (λ b. b && f) (sym (one refl))
eq_by_tests false false m f one two = refl
eq_by_tests false true true f one two = sym (two refl)
eq_by_tests false true false true one two = refl
eq_by_tests false true false false one two = refl

pub below_cmp : (a b : CownId) → is_lt (cown_cmp a b) ≡ cown_below a b
below_cmp a b = lt_by_tests (ltb a.birth b.birth) (eqb a.birth b.birth) (ltb a.seq b.seq) (eqb a.seq b.seq)

pub flips : (a b : CownId) → same_cown a b ≡ same_cown b a
flips a b = same_test (same_cown a b) (same_cown b a) (λ e. cowns_one b a (sym (cown_is a b e))) (λ e. cowns_one a b (sym (cown_is b a e)))

pub same_cmp : (a b : CownId) → is_eq (cown_cmp a b) ≡ same_cown b a
same_cmp a b =
    eq_by_tests (ltb a.birth b.birth) (eqb a.birth b.birth) (ltb a.seq b.seq) (eqb a.seq b.seq)
    (λ e. ne_eqb a.birth b.birth (λ s. omega (arith, ltb-true a.birth b.birth e)))
    (λ e. ne_eqb a.seq b.seq (λ s. omega (arith, ltb-true a.seq b.seq e)))
    ∙ flips a b

-- ---- the order of cowns
below_apart : (a b : CownId) → cown_below a b ≡ true → same_cown b a ≡ false
below_apart a b e = false_by _ (λ s. elim (or_cases (ltb a.birth b.birth) (eqb a.birth b.birth && ltb a.seq b.seq) e) [
  | inl l ↦ let same = ap (λ (c : CownId). c.birth) (cown_is b a s) in let less = ltb-true a.birth b.birth l in omega arith
  | inr l ↦ let same = ap (λ (c : CownId). c.seq) (cown_is b a s) in let less = ltb-true a.seq b.seq (both (eqb a.birth b.birth) (ltb a.seq b.seq) l) in omega arith
])
  where
    both : (x y : Bool) → (x && y) ≡ true → y ≡ true
    both true y e = e
    both false y e = absurd cc

below_once : (a b : CownId) → cown_below a b ≡ true → cown_below b a ≡ false
below_once a b e = false_by _ (λ f. elim (or_cases (ltb a.birth b.birth) (eqb a.birth b.birth && ltb a.seq b.seq) e) [
  | inl l ↦ let less = ltb-true a.birth b.birth l in elim (or_cases (ltb b.birth a.birth) (eqb b.birth a.birth && ltb b.seq a.seq) f) [
    | inl k ↦ let more = ltb-true b.birth a.birth k in omega arith
    | inr k ↦ let same = eqb-true b.birth a.birth (first (eqb b.birth a.birth) (ltb b.seq a.seq) k) in omega arith
  ]
  | inr l ↦ let same = eqb-true a.birth b.birth (first (eqb a.birth b.birth) (ltb a.seq b.seq) l) in let less = ltb-true a.seq b.seq (second (eqb a.birth b.birth) (ltb a.seq b.seq) l) in elim (or_cases (ltb b.birth a.birth) (eqb b.birth a.birth && ltb b.seq a.seq) f) [
    | inl k ↦ let more = ltb-true b.birth a.birth k in omega arith
    | inr k ↦ let more = ltb-true b.seq a.seq (second (eqb b.birth a.birth) (ltb b.seq a.seq) k) in omega arith
  ]
])
  where
    first : (x y : Bool) → (x && y) ≡ true → x ≡ true
    first true y e = refl
    first false y e = absurd cc

    second : (x y : Bool) → (x && y) ≡ true → y ≡ true
    second true y e = e
    second false y e = absurd cc

less_below : (a b : CownId) → cown_cmp a b ≡ Less → cown_below a b ≡ true
less_below a b e = sym (below_cmp a b) ∙ ap is_lt e

-- ---- places by rising cown
module _ {C : Type 0} where
  -- each place's cown is below those after it
  abbrev pub Rising : Places C → Type 0
  Rising [] = Unit {0}
  Rising (p ∷ ps) = ((q : CownId × Option C) → Member q ps → cown_below p.0 q.0 ≡ true) × Rising ps

  all_above : (c : CownId) (ps : Places C) → AllByRecursion (λ d. cown_cmp c d ≡ Less) (keys_of ps) → (q : CownId × Option C) → Member q ps → cown_below c q.0 ≡ true
  all_above c [] a q m = absurd m
  all_above c (p ∷ ps) a q (inl e) = ap (λ (x : CownId × Option C). cown_below c x.0) (sym e) ∙ less_below c p.0 a.0
  all_above c (p ∷ ps) a q (inr m) = all_above c ps a.1 q m

  pub rising : (ps : Places C) → IsStrictlySortedBy cown_cmp (keys_of ps) → Rising ps
  rising [] s = tt
  rising (p ∷ ps) s = (all_above p.0 ps (sorted_head cown_cmp p.0 (keys_of ps) s), rising ps (sorted_tail cown_cmp p.0 (keys_of ps) s))

  pub place_at : (ps : Places C) (c : CownId) → has_place ps c ≡ true → (q : CownId × Option C) × (Member q ps × (q.0 ≡ c))
  place_at [] c e = absurd cc
  place_at (p ∷ ps) c e = elim (same_cown p.0 c) as (λ b. same_cown p.0 c ≡ b → (b || has_place ps c) ≡ true → (q : CownId × Option C) × (Member q (p ∷ ps) × (q.0 ≡ c))) [
    | true ↦ λ s t. (p, (inl refl, cown_is p.0 c s))
    | false ↦ λ s t. let r = place_at ps c t in (r.0, (inr r.1.0, r.1.1))
  ] refl e

  pub found_there : (c : CownId) (o : Option C) (x : CownId × C) → Member x (found c o) → x.0 ≡ c
  found_there c None x m = absurd m
  found_there c (Some v) x (inl e) = ap (λ (y : CownId × C). y.0) (sym e)
  found_there c (Some v) x (inr m) = absurd m

  -- a new place changes nothing of what is kept
  pub kept_new : (ps : Places C) (c : CownId) → has_place ps c ≡ false → kept (insert_entry cown_cmp ps c None) ≡ kept ps
  kept_new [] c n = refl
  kept_new (p ∷ ps) c n = elim (cown_cmp c p.0) as (λ o. cown_cmp c p.0 ≡ o → kept (match_ordering o ((c, None) ∷ p ∷ ps) ((p.0, None) ∷ ps) (p ∷ insert_entry cown_cmp ps c None)) ≡ kept (p ∷ ps)) [
    | Less ↦ λ e. refl
    | Equal ↦ λ e. absurd (let here : same_cown p.0 c ≡ true = sym (same_cmp c p.0) ∙ ap is_eq e in no_both _ here (either (same_cown p.0 c) (has_place ps c) n).0)
    | Greater ↦ λ e. ap (λ l. found p.0 p.1 ++ l) (kept_new ps c (either (same_cown p.0 c) (has_place ps c) n).1)
  ] refl
    where
      either : (x y : Bool) → (x || y) ≡ false → (x ≡ false) × (y ≡ false)
      either true y e = absurd cc
      either false y e = (refl, e)

  pub place_new : (ps : Places C) (c : CownId) (o : Option C) → has_place (insert_entry cown_cmp ps c o) c ≡ true
  place_new [] c o = ap (λ b. b || false) (cowns_one c c refl)
  place_new (p ∷ ps) c o = elim (cown_cmp c p.0) as (λ r. cown_cmp c p.0 ≡ r → has_place (match_ordering r ((c, o) ∷ p ∷ ps) ((p.0, o) ∷ ps) (p ∷ insert_entry cown_cmp ps c o)) c ≡ true) [
    | Less ↦ λ e. ap (λ b. b || has_place (p ∷ ps) c) (cowns_one c c refl)
    | Equal ↦ λ e. ap (λ b. b || has_place ps c) (sym (same_cmp c p.0) ∙ ap is_eq e)
    | Greater ↦ λ e. elim (same_cown p.0 c) as (λ b. (b || has_place (insert_entry cown_cmp ps c o) c) ≡ true) [ true ↦ refl | false ↦ place_new ps c o ]
  ] refl

  pub places_stay : (ps : Places C) (c d : CownId) (o : Option C) → has_place ps d ≡ true → has_place (insert_entry cown_cmp ps c o) d ≡ true
  places_stay [] c d o e = absurd cc
  places_stay (p ∷ ps) c d o e = elim (cown_cmp c p.0) as (λ r. has_place (match_ordering r ((c, o) ∷ p ∷ ps) ((p.0, o) ∷ ps) (p ∷ insert_entry cown_cmp ps c o)) d ≡ true) [
    | Less ↦ elim (same_cown c d) as (λ b. (b || has_place (p ∷ ps) d) ≡ true) [ true ↦ refl | false ↦ e ]
    | Equal ↦ e
    | Greater ↦ elim (same_cown p.0 d) as (λ b. (b || has_place ps d) ≡ true → (b || has_place (insert_entry cown_cmp ps c o) d) ≡ true) [ true ↦ λ t. refl | false ↦ λ t. places_stay ps c d o t ] e
  ]

  -- a cown without a place isn't among the keys
  pub lookup_place : (ps : Places C) (c : CownId) → lookup (is_at (cown_cmp c)) ps ≡ None → has_place ps c ≡ false
  lookup_place [] c e = refl
  lookup_place (p ∷ ps) c e = elim (is_eq (cown_cmp c p.0)) as (λ b. is_eq (cown_cmp c p.0) ≡ b → cond b (Some p.1) (lookup (is_at (cown_cmp c)) ps) ≡ None → (same_cown p.0 c || has_place ps c) ≡ false) [
    | true ↦ λ s t. absurd cc
    | false ↦ λ s t. ap (λ b. b || has_place ps c) (sym (same_cmp c p.0) ∙ s) ∙ lookup_place ps c t
  ] refl e

  pub place_lookup : (ps : Places C) (c : CownId) (o : Option C) → lookup (is_at (cown_cmp c)) ps ≡ Some o → has_place ps c ≡ true
  place_lookup [] c o e = absurd cc
  place_lookup (p ∷ ps) c o e = elim (is_eq (cown_cmp c p.0)) as (λ b. is_eq (cown_cmp c p.0) ≡ b → cond b (Some p.1) (lookup (is_at (cown_cmp c)) ps) ≡ Some o → (same_cown p.0 c || has_place ps c) ≡ true) [
    | true ↦ λ s t. ap (λ b. b || has_place ps c) (sym (same_cmp c p.0) ∙ s)
    | false ↦ λ s t. ap (λ b. b || has_place ps c) (sym (same_cmp c p.0) ∙ s) ∙ place_lookup ps c o t
  ] refl e

  -- ---- a place is filled or emptied
  pub places_set : (ps : Places C) (c d : CownId) (o : Option C) → has_place (set_value (is_at (cown_cmp c)) ps o) d ≡ has_place ps d
  places_set [] c d o = refl
  places_set (p ∷ ps) c d o = elim (is_eq (cown_cmp c p.0)) as (λ b. has_place (cond b ((p.0, o) ∷ ps) (p ∷ set_value (is_at (cown_cmp c)) ps o)) d ≡ has_place (p ∷ ps) d) [
    | true ↦ refl
    | false ↦ ap (λ b. same_cown p.0 d || b) (places_set ps c d o)
  ]

  put_first : (c : CownId) (v : C) (ps : Places C) → ((q : CownId × Option C) → Member q ps → cown_below c q.0 ≡ true) → put c v (kept ps) ≡ (c, v) ∷ kept ps
  put_first c v [] h = refl
  put_first c v (p ∷ ps) h = elim p.1 as (λ o. put c v (found p.0 o ++ kept ps) ≡ (c, v) ∷ (found p.0 o ++ kept ps)) [
    | None ↦ put_first c v ps (λ q m. h q (inr m))
    | Some u ↦
        let below : cown_below c p.0 ≡ true = h p (inl refl) in
        (λ i. cond (below_apart c p.0 below i) ((c, v) ∷ kept ps) (cond (below i) ((c, v) ∷ (p.0, u) ∷ kept ps) ((p.0, u) ∷ put c v (kept ps))))
  ]

  pub kept_put : (ps : Places C) (c : CownId) (v : C) → Rising ps → has_place ps c ≡ true → kept (set_value (is_at (cown_cmp c)) ps (Some v)) ≡ put c v (kept ps)
  kept_put [] c v r e = absurd cc
  kept_put (p ∷ ps) c v r e = elim (is_eq (cown_cmp c p.0)) as (λ b. is_eq (cown_cmp c p.0) ≡ b → kept (cond b ((p.0, Some v) ∷ ps) (p ∷ set_value (is_at (cown_cmp c)) ps (Some v))) ≡ put c v (found p.0 p.1 ++ kept ps)) [
    | true ↦ λ s.
        let same : p.0 ≡ c = cown_is p.0 c (sym (same_cmp c p.0) ∙ s) in
        ap (λ d. (d, v) ∷ kept ps) same ∙ sym (elim p.1 as (λ o. put c v (found p.0 o ++ kept ps) ≡ (c, v) ∷ kept ps) [
          | None ↦ put_first c v ps (λ q m. ap (λ d. cown_below d q.0) (sym same) ∙ r.0 q m)
          | Some u ↦ ap (λ b. cond b ((c, v) ∷ kept ps) (cond (cown_below c p.0) ((c, v) ∷ (p.0, u) ∷ kept ps) ((p.0, u) ∷ put c v (kept ps)))) (cowns_one p.0 c same)
        ])
    | false ↦ λ s.
        let apart : same_cown p.0 c ≡ false = sym (same_cmp c p.0) ∙ s in
        let there : has_place ps c ≡ true = sym (ap (λ b. b || has_place ps c) apart) ∙ e in
        let q = place_at ps c there in
        let above : cown_below c p.0 ≡ false = below_once p.0 c (ap (cown_below p.0) (sym q.1.1) ∙ r.0 q.0 q.1.0) in
        ap (λ l. found p.0 p.1 ++ l) (kept_put ps c v r.1 there) ∙ elim p.1 as (λ o. found p.0 o ++ put c v (kept ps) ≡ put c v (found p.0 o ++ kept ps)) [
          | None ↦ refl
          | Some u ↦ sym (λ i. cond (apart i) ((c, v) ∷ kept ps) (cond (above i) ((c, v) ∷ (p.0, u) ∷ kept ps) ((p.0, u) ∷ put c v (kept ps))))
        ]
  ] refl

  -- ---- a look-up among what is kept
  none_kept : (ps : Places C) (c : CownId) → has_place ps c ≡ false → at (kept ps) c ≡ None
  none_kept [] c n = refl
  none_kept (p ∷ ps) c n = elim p.1 as (λ o. at (found p.0 o ++ kept ps) c ≡ None) [
    | None ↦ none_kept ps c (rest (same_cown p.0 c) (has_place ps c) n).1
    | Some u ↦ ap (λ b. cond b (Some u) (at (kept ps) c)) (rest (same_cown p.0 c) (has_place ps c) n).0 ∙ none_kept ps c (rest (same_cown p.0 c) (has_place ps c) n).1
  ]
    where
      rest : (x y : Bool) → (x || y) ≡ false → (x ≡ false) × (y ≡ false)
      rest true y e = absurd cc
      rest false y e = (refl, e)

  none_after : (p : CownId × Option C) (ps : Places C) (c : CownId) → Rising (p ∷ ps) → p.0 ≡ c → has_place ps c ≡ false
  none_after p ps c r same = false_by _ (λ t. let q = place_at ps c t in no_both _ (cowns_one (q.0).0 p.0 (q.1.1 ∙ sym same)) (below_apart p.0 (q.0).0 (r.0 q.0 q.1.0)))

  abbrev pub joined : Option (Option C) → Option C
  joined None = None
  joined (Some o) = o

  pub at_kept : (ps : Places C) (c : CownId) → Rising ps → at (kept ps) c ≡ joined (lookup (is_at (cown_cmp c)) ps)
  at_kept [] c r = refl
  at_kept (p ∷ ps) c r = elim (is_eq (cown_cmp c p.0)) as (λ b. is_eq (cown_cmp c p.0) ≡ b → at (found p.0 p.1 ++ kept ps) c ≡ joined (cond b (Some p.1) (lookup (is_at (cown_cmp c)) ps))) [
    | true ↦ λ s.
        let here : same_cown p.0 c ≡ true = sym (same_cmp c p.0) ∙ s in
        elim p.1 as (λ o. at (found p.0 o ++ kept ps) c ≡ o) [
          | None ↦ none_kept ps c (none_after p ps c r (cown_is p.0 c here))
          | Some u ↦ ap (λ b. cond b (Some u) (at (kept ps) c)) here
        ]
    | false ↦ λ s.
        let apart : same_cown p.0 c ≡ false = sym (same_cmp c p.0) ∙ s in
        elim p.1 as (λ o. at (found p.0 o ++ kept ps) c ≡ joined (lookup (is_at (cown_cmp c)) ps)) [
          | None ↦ at_kept ps c r.1
          | Some u ↦ ap (λ b. cond b (Some u) (at (kept ps) c)) apart ∙ at_kept ps c r.1
        ]
  ] refl

  -- ---- one cown's content is taken out
  abbrev out : CownId → List (CownId × C) → List (CownId × C)
  out c xs = without (c ∷ []) xs

  out_none : (ps : Places C) (c : CownId) → has_place ps c ≡ false → out c (kept ps) ≡ kept ps
  out_none [] c n = refl
  out_none (p ∷ ps) c n = elim p.1 as (λ o. out c (found p.0 o ++ kept ps) ≡ found p.0 o ++ kept ps) [
    | None ↦ out_none ps c (rest (same_cown p.0 c) (has_place ps c) n).1
    | Some u ↦ ap (λ b. cond (not (b || false)) ((p.0, u) ∷ out c (kept ps)) (out c (kept ps))) (flips c p.0 ∙ (rest (same_cown p.0 c) (has_place ps c) n).0) ∙ ap (λ l. (p.0, u) ∷ l) (out_none ps c (rest (same_cown p.0 c) (has_place ps c) n).1)
  ]
    where
      rest : (x y : Bool) → (x || y) ≡ false → (x ≡ false) × (y ≡ false)
      rest true y e = absurd cc
      rest false y e = (refl, e)

  pub kept_out : (ps : Places C) (c : CownId) → Rising ps → kept (set_value (is_at (cown_cmp c)) ps None) ≡ out c (kept ps)
  kept_out [] c r = refl
  kept_out (p ∷ ps) c r = elim (is_eq (cown_cmp c p.0)) as (λ b. is_eq (cown_cmp c p.0) ≡ b → kept (cond b ((p.0, None) ∷ ps) (p ∷ set_value (is_at (cown_cmp c)) ps None)) ≡ out c (found p.0 p.1 ++ kept ps)) [
    | true ↦ λ s.
        let here : same_cown p.0 c ≡ true = sym (same_cmp c p.0) ∙ s in
        let rest : out c (kept ps) ≡ kept ps = out_none ps c (none_after p ps c r (cown_is p.0 c here)) in
        elim p.1 as (λ o. kept ps ≡ out c (found p.0 o ++ kept ps)) [
          | None ↦ sym rest
          | Some u ↦ sym (ap (λ b. cond (not (b || false)) ((p.0, u) ∷ out c (kept ps)) (out c (kept ps))) (flips c p.0 ∙ here) ∙ rest)
        ]
    | false ↦ λ s.
        let apart : same_cown p.0 c ≡ false = sym (same_cmp c p.0) ∙ s in
        ap (λ l. found p.0 p.1 ++ l) (kept_out ps c r.1) ∙ elim p.1 as (λ o. found p.0 o ++ out c (kept ps) ≡ out c (found p.0 o ++ kept ps)) [
          | None ↦ refl
          | Some u ↦ sym (ap (λ b. cond (not (b || false)) ((p.0, u) ∷ out c (kept ps)) (out c (kept ps))) (flips c p.0 ∙ apart))
        ]
  ] refl

  -- where there is no place, nothing is taken out
  pub nothing_out : (ps : Places C) (c : CownId) → lookup (is_at (cown_cmp c)) ps ≡ None → (at (kept ps) c ≡ None) × (kept ps ≡ out c (kept ps))
  nothing_out ps c e = let n = lookup_place ps c e in (none_kept ps c n, sym (out_none ps c n))

  pub some_place : (ps : Places C) (c : CownId) → is_some (lookup (is_at (cown_cmp c)) ps) ≡ true → has_place ps c ≡ true
  some_place ps c e = elim (lookup (is_at (cown_cmp c)) ps) as (λ o. lookup (is_at (cown_cmp c)) ps ≡ o → is_some o ≡ true → has_place ps c ≡ true) [
    | None ↦ λ s t. absurd cc
    | Some o ↦ λ s t. place_lookup ps c o s
  ] refl e

  pub none_place : (ps : Places C) (c : CownId) → is_some (lookup (is_at (cown_cmp c)) ps) ≡ false → has_place ps c ≡ false
  none_place ps c e = elim (lookup (is_at (cown_cmp c)) ps) as (λ o. lookup (is_at (cown_cmp c)) ps ≡ o → is_some o ≡ false → has_place ps c ≡ false) [
    | None ↦ λ s t. lookup_place ps c s
    | Some o ↦ λ s t. absurd cc
  ] refl e

  -- ---- one content more of a list, from its end
  pub put_all_last : (xs : List (CownId × C)) (x : CownId × C) (ys : List (CownId × C)) → put_all (xs ++ x ∷ []) ys ≡ put_all xs (put x.0 x.1 ys)
  put_all_last [] x ys = refl
  put_all_last (z ∷ xs) x ys = ap (put z.0 z.1) (put_all_last xs x ys)

  -- ---- one cown more of a list, from its front
  pub pick_first : (c : CownId) (cs : List CownId) (xs : List (CownId × C)) → list_any (λ d. same_cown d c) cs ≡ false → pick (c ∷ cs) xs ≡ found c (at xs c) ++ pick cs (without (c ∷ []) xs)
  pick_first c cs xs n = ap (λ l. found c (at xs c) ++ l) (pick_same cs xs (without (c ∷ []) xs) (λ d m. sym (at_without (c ∷ []) xs d ∙ ap (λ b. cond (b || false) None (at xs d)) (false_by _ (λ s. no_both _ m (ap (among cs) (sym (cown_is c d s)) ∙ n))))))

  pub without_first : (c : CownId) (cs : List CownId) (xs : List (CownId × C)) → without (c ∷ cs) xs ≡ without cs (without (c ∷ []) xs)
  without_first c cs xs = sym (filter_filter (λ x. not (among cs x.0)) (λ x. not (among (c ∷ []) x.0)) (λ x. not (among (c ∷ cs) x.0)) xs (λ x m. tests (same_cown c x.0) (among cs x.0)))
    where
      tests : (a b : Bool) → (not (a || false) && not b) ≡ not (a || b)
      tests true b = refl
      tests false b = refl

pub differ_drop : (n : ℕ) (cs : List CownId) → Differ same_cown cs → Differ same_cown (drop n cs)
differ_drop zero cs d = d
differ_drop (suc n) [] d = d
differ_drop (suc n) (c ∷ cs) d = differ_drop n cs d.1

pub none_without : {C : Type 0} (xs : List (CownId × C)) → without [] xs ≡ xs
none_without xs = filter_all (λ x. true) xs (λ x m. refl)

-- ---- a loop over cowns takes one more out
module _ {C : Type 0} (d : CownId) (cowns : List CownId) (i : ℕ) (less : i < length cowns) (differ : Differ same_cown (drop i cowns)) (before after : List (CownId × C)) (out_now : after ≡ without (get_or cowns i d ∷ []) before) where
  abbrev item : CownId
  item = get_or cowns i d

  abbrev rest : List CownId
  rest = drop (i + 1) cowns

  split : drop i cowns ≡ item ∷ rest
  split = drop_more cowns i d less

  apart : Differ same_cown (item ∷ rest)
  apart = subst (Differ same_cown) split differ

  pub step_differ : Differ same_cown rest
  step_differ = apart.1

  pub step_without : without rest after ≡ without (drop i cowns) before
  step_without = ap (without rest) out_now ∙ sym (without_first item rest before) ∙ ap (λ cs. without cs before) (sym split)

  pub step_length : length (drop i cowns) ≡ suc (length rest)
  step_length = ap length split

  step_pick : (r : Option C) → r ≡ at before item → pick (drop i cowns) before ≡ found item r ++ pick rest after
  step_pick r e = ap (λ cs. pick cs before) split ∙ pick_first item rest before apart.0 ∙ (λ j. found item (sym e j) ++ pick rest (sym out_now j))

  pub step_some : (held held' : List (CownId × C)) (v : C) (r : Option C) → r ≡ at before item → r ≡ Some v → held' ≡ held ++ (item, v) ∷ [] → held' ++ pick rest after ≡ held ++ pick (drop i cowns) before
  step_some held held' v r e s h = ap (λ l. l ++ pick rest after) h ∙ assoc held ((item, v) ∷ []) (pick rest after) ∙ ap (λ l. held ++ l) (ap (λ o. found item o ++ pick rest after) (sym s) ∙ sym (step_pick r e))
    where
      assoc : (xs ys zs : List (CownId × C)) → (xs ++ ys) ++ zs ≡ xs ++ (ys ++ zs)
      assoc [] ys zs = refl
      assoc (x ∷ xs) ys zs = ap (λ l. x ∷ l) (assoc xs ys zs)

  pub step_none : (held : List (CownId × C)) (r : Option C) → r ≡ at before item → r ≡ None → held ++ pick rest after ≡ held ++ pick (drop i cowns) before
  step_none held r e s = ap (λ l. held ++ l) (ap (λ o. found item o ++ pick rest after) (sym s) ∙ sym (step_pick r e))

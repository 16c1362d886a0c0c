-- The writes of a held cown's content and the making of a cown.
use Rattle.std.proofs.Common.{Bool, List, None, [], ap, arith, cond, false, inl, inr, map, refl, subst, sym, true, ℕ, ◌++◌, ◌+◌, ◌||◌, ◌∙◌, ◌∷◌, ◌≡◌, ◌≤◌, ◌⊎◌}
use Rattle.std.proofs.lemmas.List.Sums.{sum_by-append}
use Rattle.std.specs.List.{count_by, flat_map}
use Rattle.lf_base.specs.declared.ids.CownId.{CownId}
use Rattle.lf_base.specs.declared.values.Value.{Value}
use Rattle.lf_base.specs.ContentResult.{content_fault, content_result, has_cown, put_content}
use Rattle.lf_base.specs.Edges.{Content, Edge, content_edges, edges_by}
use Rattle.lf_base.specs.Names.{cowns_of_value, same_cown, targets_of_value}
use Rattle.lf_base.specs.NewCown.{made_result, next_cown}
use Rattle.lf_base.specs.PlainState.{State}
use Rattle.lf_base.specs.Sets.{Differ, Member}
use Rattle.lf_base.specs.WellFormed.{IsNumber, SlotMayHold, WellFormed, all_values, content_values, own_cowns}
use Rattle.lf_laws.proofs.Changes.ContentChange.{PutsContent, content_keeps, content_quiet}
use Rattle.std.proofs.lemmas.Bool.{both_ways, false_from_ne_true}
use Rattle.lf_base.proofs.NameLemmas.SameNames.{same_cown_is}
use Rattle.lf_base.proofs.ListLemmas.Members.{Member_any, any_Member, Member_left, Member_of_append, Member_right}

-- ---- a held cown
pub put_old_or_new : (hs : List (CownId × Value)) (c : CownId) (v : Value) (e : Edge) → Member e (content_edges (put_content hs c v)) → Member e (content_edges hs) ⊎ Member e (edges_by (Content c) (targets_of_value v))
put_old_or_new [] c v e m = absurd m
put_old_or_new (h ∷ hs) c v e m =
    elim (same_cown h.0 c) as (λ b. same_cown h.0 c ≡ b → Member e (content_edges (cond b ((h.0, v) ∷ hs) (h ∷ put_content hs c v))) → Member e (content_edges (h ∷ hs)) ⊎ Member e (edges_by (Content c) (targets_of_value v))) [
      | true ↦ λ k n. elim (Member_of_append e (edges_by (Content h.0) (targets_of_value v)) (content_edges hs) n) [
        | inl q ↦ inr (subst (λ d. Member e (edges_by (Content d) (targets_of_value v))) (same_cown_is h.0 c k) q)
        | inr q ↦ inl (Member_right e (edges_by (Content h.0) (targets_of_value h.1)) (content_edges hs) q)
      ]
      | false ↦ λ k n. elim (Member_of_append e (edges_by (Content h.0) (targets_of_value h.1)) (content_edges (put_content hs c v)) n) [
        | inl q ↦ inl (Member_left e (edges_by (Content h.0) (targets_of_value h.1)) (content_edges hs) q)
        | inr q ↦ elim (put_old_or_new hs c v e q) [ inl z ↦ inl (Member_right e (edges_by (Content h.0) (targets_of_value h.1)) (content_edges hs) z) | inr z ↦ inr z ]
      ]
    ] refl m

put_count : (p : Edge → Bool) (hs : List (CownId × Value)) (c : CownId) (v : Value) → count_by p (content_edges (put_content hs c v)) ≤ count_by p (content_edges hs) + count_by p (edges_by (Content c) (targets_of_value v))
put_count p [] c v = omega arith
put_count p (h ∷ hs) c v =
    let f : Edge → ℕ = λ e. cond (p e) 1 0 in
    elim (same_cown h.0 c) as (λ b. same_cown h.0 c ≡ b → count_by p (content_edges (cond b ((h.0, v) ∷ hs) (h ∷ put_content hs c v))) ≤ count_by p (content_edges (h ∷ hs)) + count_by p (edges_by (Content c) (targets_of_value v))) [
      | true ↦ λ k. omega (arith, ap (λ d. count_by p (edges_by (Content d) (targets_of_value v))) (same_cown_is h.0 c k), sum_by-append f (edges_by (Content h.0) (targets_of_value v)) (content_edges hs), sum_by-append f (edges_by (Content h.0) (targets_of_value h.1)) (content_edges hs))
      | false ↦ λ k. omega (arith, put_count p hs c v, sum_by-append f (edges_by (Content h.0) (targets_of_value h.1)) (content_edges (put_content hs c v)), sum_by-append f (edges_by (Content h.0) (targets_of_value h.1)) (content_edges hs))
    ] refl

put_there : (hs : List (CownId × Value)) (c : CownId) (v : Value) → has_cown hs c ≡ true → (e : Edge) → Member e (edges_by (Content c) (targets_of_value v)) → Member e (content_edges (put_content hs c v))
put_there [] c v h e m = cc
put_there (x ∷ hs) c v h e m =
    elim (same_cown x.0 c) as (λ b. same_cown x.0 c ≡ b → (b || has_cown hs c) ≡ true → Member e (content_edges (cond b ((x.0, v) ∷ hs) (x ∷ put_content hs c v)))) [
      | true ↦ λ k z. Member_left e (edges_by (Content x.0) (targets_of_value v)) (content_edges hs) (subst (λ d. Member e (edges_by (Content d) (targets_of_value v))) (sym (same_cown_is x.0 c k)) m)
      | false ↦ λ k z. Member_right e (edges_by (Content x.0) (targets_of_value x.1)) (content_edges (put_content hs c v)) (put_there hs c v z e m)
    ] refl h

put_names : (hs : List (CownId × Value)) (c : CownId) (v : Value) → map (λ (h : CownId × Value). h.0) (put_content hs c v) ≡ map (λ (h : CownId × Value). h.0) hs
put_names [] c v = refl
put_names (h ∷ hs) c v =
    elim (same_cown h.0 c) as (λ b. map (λ (g : CownId × Value). g.0) (cond b ((h.0, v) ∷ hs) (h ∷ put_content hs c v)) ≡ h.0 ∷ map (λ (g : CownId × Value). g.0) hs) [
      | true ↦ refl
      | false ↦ ap (λ l. h.0 ∷ l) (put_names hs c v)
    ]

put_contents : (hs : List (CownId × Value)) (c : CownId) (v w : Value) → Member w (content_values (put_content hs c v)) → Member w (content_values hs) ⊎ (v ≡ w)
put_contents [] c v w m = absurd m
put_contents (h ∷ hs) c v w m =
    elim (same_cown h.0 c) as (λ b. Member w (content_values (cond b ((h.0, v) ∷ hs) (h ∷ put_content hs c v))) → Member w (content_values (h ∷ hs)) ⊎ (v ≡ w)) [
      | true ↦ λ n. elim n [ inl e ↦ inr e | inr k ↦ inl (inr k) ]
      | false ↦ λ n. elim n [ inl e ↦ inl (inl e) | inr k ↦ elim (put_contents hs c v w k) [ inl q ↦ inl (inr q) | inr q ↦ inr q ] ]
    ] m

held_names : (s : State) (c : CownId) (v : Value) → own_cowns (content_result s c v) ≡ own_cowns s
held_names s c v = ap (λ l. l ++ map (λ (h : CownId × Value). h.0) s.made) (put_names s.held c v)

held_puts : (s : State) (c : CownId) (v : Value) → has_cown s.held c ≡ true → WellFormed s → PutsContent s s.cowns (put_content s.held c v) s.made c v
held_puts s c v h t = record {
  old_or_new = λ e m. elim (Member_of_append e (content_edges (put_content s.held c v)) (content_edges s.made) m) [
    | inl k ↦ elim (put_old_or_new s.held c v e k) [ inl n ↦ inl (Member_left e (content_edges s.held) (content_edges s.made) n) | inr n ↦ inr n ]
    | inr k ↦ inl (Member_right e (content_edges s.held) (content_edges s.made) k)
  ];
  count = λ p. omega (arith, put_count p s.held c v, sum_by-append (λ e. cond (p e) 1 0) (content_edges (put_content s.held c v)) (content_edges s.made), sum_by-append (λ e. cond (p e) 1 0) (content_edges s.held) (content_edges s.made));
  there = λ e m. Member_left e (content_edges (put_content s.held c v)) (content_edges s.made) (put_there s.held c v h e m);
  held_values = put_contents s.held c v;
  made_values = λ w m. inl m;
  more = omega arith;
  numbered = λ d m e. t.cowns_numbered d (Member_left d (own_cowns s) (flat_map cowns_of_value (all_values s)) (subst (Member d) (held_names s c v) m)) e;
  differ = subst (Differ same_cown) (sym (held_names s c v)) t.cowns_differ;
  here = t.made_here;
}

-- the law for a held cown, both ways
pub content_law : (s : State) (c : CownId) (v : Value) → has_cown s.held c ≡ true → WellFormed s → SlotMayHold s v
    → (content_fault (content_result s c v) v ≡ None → WellFormed (content_result s c v)) × (WellFormed (content_result s c v) → content_fault (content_result s c v) v ≡ None)
content_law s c v h t may =
    (content_keeps s s.cowns (put_content s.held c v) s.made c v (held_puts s c v h t) t may, content_quiet s s.cowns (put_content s.held c v) s.made c v (held_puts s c v h t) t may)

-- ---- a cown that is being made
nil_right : {X : Type 0} (xs : List X) → xs ++ [] ≡ xs
nil_right [] = refl
nil_right (x ∷ xs) = ap (λ l. x ∷ l) (nil_right xs)

assoc : {X : Type 0} (xs ys zs : List X) → xs ++ (ys ++ zs) ≡ (xs ++ ys) ++ zs
assoc [] ys zs = refl
assoc (x ∷ xs) ys zs = ap (λ l. x ∷ l) (assoc xs ys zs)

content_more : (hs : List (CownId × Value)) (c : CownId) (v : Value) → content_edges (hs ++ (c, v) ∷ []) ≡ content_edges hs ++ edges_by (Content c) (targets_of_value v)
content_more [] c v = nil_right (edges_by (Content c) (targets_of_value v))
content_more (h ∷ hs) c v = ap (λ l. edges_by (Content h.0) (targets_of_value h.1) ++ l) (content_more hs c v) ∙ assoc (edges_by (Content h.0) (targets_of_value h.1)) (content_edges hs) (edges_by (Content c) (targets_of_value v))

-- the next cown is none of those that the state names
fresh_cown : (s : State) → WellFormed s → (d : CownId) → Member d (own_cowns s) → same_cown (next_cown s) d ≡ false
fresh_cown s t d m = false_from_ne_true _ (λ e.
    let same : next_cown s ≡ d = same_cown_is (next_cown s) d e in
    let n = t.cowns_numbered d (Member_left d (own_cowns s) (flat_map cowns_of_value (all_values s)) m) (ap (λ (z : CownId). z.birth) (sym same)) in
    let k : s.cowns + 1 ≡ d.seq = ap (λ (z : CownId). z.seq) same in
    absurd (omega (arith, n.1, k)))

differ_more : (cs : List CownId) (d : CownId) → Differ same_cown cs → ((c : CownId) → Member c cs → same_cown d c ≡ false) → Differ same_cown (cs ++ d ∷ [])
differ_more [] d h f = (refl, tt)
differ_more (c ∷ cs) d h f = (
  false_from_ne_true _ (λ e. let t = any_Member (λ y. same_cown y c) (cs ++ d ∷ []) e in
      elim (Member_of_append t.0 cs (d ∷ []) t.1.0) [
        | inl k ↦ both_ways _ h.0 (Member_any (λ y. same_cown y c) t.0 cs k t.1.1)
        | inr k ↦ elim k [ inl z ↦ both_ways _ (f c (inl refl)) (ap (λ y. same_cown y c) z ∙ t.1.1) | inr z ↦ z ]
      ]),
  differ_more cs d h.1 (λ z m. f z (inr m)),
)

map_more : {X Y : Type 0} (f : X → Y) (xs : List X) (x : X) → map f (xs ++ x ∷ []) ≡ map f xs ++ f x ∷ []
map_more f [] x = refl
map_more f (y ∷ xs) x = ap (λ l. f y ∷ l) (map_more f xs x)

made_names : (s : State) (v : Value) → own_cowns (made_result s v) ≡ own_cowns s ++ next_cown s ∷ []
made_names s v =
    ap (λ l. map (λ (h : CownId × Value). h.0) s.held ++ l) (map_more (λ (h : CownId × Value). h.0) s.made (next_cown s, v))
    ∙ assoc (map (λ (h : CownId × Value). h.0) s.held) (map (λ (h : CownId × Value). h.0) s.made) (next_cown s ∷ [])

made_puts : (s : State) (v : Value) → WellFormed s → PutsContent s (s.cowns + 1) s.held (s.made ++ (next_cown s, v) ∷ []) (next_cown s) v
made_puts s v t =
    let c : CownId = next_cown s in
    let new : List Edge = edges_by (Content c) (targets_of_value v) in
    let more : content_edges (s.made ++ (c, v) ∷ []) ≡ content_edges s.made ++ new = content_more s.made c v in
    record {
      old_or_new = λ e m. elim (Member_of_append e (content_edges s.held) (content_edges (s.made ++ (c, v) ∷ [])) m) [
        | inl k ↦ inl (Member_left e (content_edges s.held) (content_edges s.made) k)
        | inr k ↦ elim (Member_of_append e (content_edges s.made) new (subst (Member e) more k)) [
          | inl n ↦ inl (Member_right e (content_edges s.held) (content_edges s.made) n)
          | inr n ↦ inr n
        ]
      ];
      count = λ p. omega (
        arith,
        ap (count_by p) more,
        sum_by-append (λ e. cond (p e) 1 0) (content_edges s.made) new,
        sum_by-append (λ e. cond (p e) 1 0) (content_edges s.held) (content_edges (s.made ++ (c, v) ∷ [])),
        sum_by-append (λ e. cond (p e) 1 0) (content_edges s.held) (content_edges s.made),
      );
      there = λ e m. Member_right e (content_edges s.held) (content_edges (s.made ++ (c, v) ∷ [])) (subst (Member e) (sym more) (Member_right e (content_edges s.made) new m));
      held_values = λ w m. inl m;
      made_values = λ w m. elim (Member_of_append w (content_values s.made) (v ∷ []) (subst (Member w) (map_more (λ (h : CownId × Value). h.1) s.made (c, v)) m)) [
        | inl k ↦ inl k
        | inr k ↦ elim k [ inl e ↦ inr e | inr z ↦ absurd z ]
      ];
      more = omega arith;
      numbered = λ d m e. elim (Member_of_append d (own_cowns s) (c ∷ []) (subst (Member d) (made_names s v) m)) [
        | inl k ↦ let n = t.cowns_numbered d (Member_left d (own_cowns s) (flat_map cowns_of_value (all_values s)) k) e in (n.0, omega (arith, n.1))
        | inr k ↦ elim k [ inl z ↦ subst (λ (b : CownId). IsNumber b.seq (s.cowns + 1)) z (omega arith, omega arith) | inr z ↦ absurd z ]
      ];
      differ = subst (Differ same_cown) (sym (made_names s v)) (differ_more (own_cowns s) c t.cowns_differ (fresh_cown s t));
      here = λ d m. elim (Member_of_append d (map (λ (h : CownId × Value). h.0) s.made) (c ∷ []) (subst (Member d) (map_more (λ (h : CownId × Value). h.0) s.made (c, v)) m)) [
        | inl k ↦ t.made_here d k
        | inr k ↦ elim k [ inl z ↦ ap (λ (b : CownId). b.birth) (sym z) | inr z ↦ absurd z ]
      ];
    }

-- the law for a new cown, both ways
pub made_law : (s : State) (v : Value) → WellFormed s → SlotMayHold s v
    → (content_fault (made_result s v) v ≡ None → WellFormed (made_result s v)) × (WellFormed (made_result s v) → content_fault (made_result s v) v ≡ None)
made_law s v t may = (
  content_keeps s (s.cowns + 1) s.held (s.made ++ (next_cown s, v) ∷ []) (next_cown s) v (made_puts s v t) t may,
  content_quiet s (s.cowns + 1) s.held (s.made ++ (next_cown s, v) ∷ []) (next_cown s) v (made_puts s v t) t may,
)

-- The steps of a walk over code along all its ways, and what its end says of the code.
use Rattle.std.proofs.Common.{Bool, List, None, Option, Some, [], ap, arith, cond, false, get_or, inl, inr, is_some, length, nat_eq, not}
use Rattle.std.proofs.Common.{refl, replicate, set, subst, suc, sym, true, unwrap_or, zero, ℕ, ◌++◌, ◌+◌, ◌-◌, ◌<◌, ◌∙◌, ◌∷◌, ◌≡◌, ◌≤◌, ◌⊎◌}
use Rattle.std.specs.List.{slice_get}
use Rattle.std.proofs.lemmas.Bool.{cases_eq}
use Rattle.std.proofs.lemmas.List.{get_or-replicate, length-append, length-replicate, length-set}
use Rattle.std.proofs.lemmas.List.Sums.{count_by-le-length, sum_by-set}
use Rattle.std.proofs.lemmas.Option.{slice_get_within, unwrap_or-slice_get}
use Rattle.lf_base.specs.Sets.{Member}
use Rattle.lf_base.proofs.ListLemmas.Members.{Member_left, Member_of_append, Member_right}
use Rattle.lf_base.proofs.ListLemmas.Tests.{some_is}
use Rattle.lf_code.specs.declared.body.Placed.{Placed}
use Rattle.lf_code.specs.declared.instr.Instr.{Instr}
use Rattle.lf_code.specs.declared.instr.Instr.TheVariants as instr
use Rattle.lf_code.specs.Operations.{HasOperands, IsReached, Way, first, needs, next, way, ways}
use Rattle.lf_code.specs.OperandWalk.{Answers, IsSeen, OperandWalk, left_over, unseen}
use Rattle.lf_code.proofs.Checks.SlotsSet.{set_here, set_there}

-- ---- numbers

found_or : {X : Type 0} (xs : List X) (i : ℕ) (x d : X) → slice_get xs i ≡ Some x → get_or xs i d ≡ x
found_or xs i x d e = sym (unwrap_or-slice_get xs i d) ∙ ap (λ t. unwrap_or t d) e

fewer_unseen : (counts : List (Option ℕ)) (to n : ℕ) → slice_get counts to ≡ Some None → unseen (set counts to (Some n)) + 1 ≡ unseen counts
fewer_unseen counts to n e =
    omega (
      arith,
      ap {B = ℕ} (λ t. cond (not (is_some t)) 1 0) (found_or counts to None None e),
      sum_by-set (λ c. cond (not (is_some c)) 1 0) counts to (Some n) None (slice_get_within counts to None e),
    )

pub no_more_left : (counts : List (Option ℕ)) (left : List ℕ) (to n : ℕ) → slice_get counts to ≡ Some None
    → left_over (set counts to (Some n)) (left ++ to ∷ []) ≤ left_over counts left
no_more_left counts left to n e = omega (arith, fewer_unseen counts to n e, length-append left (to ∷ []))

one_seen : (counts : List (Option ℕ)) (at d e : ℕ) → IsSeen counts at d → IsSeen counts at e → d ≡ e
one_seen counts at d e a b = some_is d e (some_is (Some d) (Some e) (sym a ∙ b))

inside : {X : Type 0} (xs : List X) (i : ℕ) → i < length xs → slice_get xs i ≡ None → ⊥
inside [] i h e = absurd (omega (arith, h))
inside (x ∷ xs) zero h e = cc
inside (x ∷ xs) (suc i) h e = inside xs i (omega (arith, h)) e

equal : (a b : ℕ) → nat_eq a b ≡ true → a ≡ b
equal a b e = grind arith

unequal : (a b : ℕ) → nat_eq a b ≡ false → a ≡ b → ⊥
unequal a b e same = grind arith

one_way : (to n rest : ℕ) (w : Way) → n ≤ rest + 1 → Member w (way to n ∷ []) → w.operands ≤ rest + 1
one_way to n rest w h (inl e) = subst (λ u. u.operands ≤ rest + 1) e h
one_way to n rest w h (inr m) = absurd m

two_ways : (to n other rest : ℕ) (w : Way) → n ≤ rest + 1 → Member w (way to n ∷ way other rest ∷ []) → w.operands ≤ rest + 1
two_ways to n other rest w h (inl e) = subst (λ u. u.operands ≤ rest + 1) e h
two_ways to n other rest w h (inr m) = one_way other rest rest w (omega arith) m

-- no way has more than one operand besides
low_ways : (i : Instr) (at rest : ℕ) (w : Way) → Member w (ways i at rest) → w.operands ≤ rest + 1
low_ways instr.Tick at rest w m = one_way (at + 1) (rest + 0) rest w (omega arith) m
low_ways instr.None at rest w m = one_way (at + 1) (rest + 1) rest w (omega arith) m
low_ways (instr.Bool b) at rest w m = one_way (at + 1) (rest + 1) rest w (omega arith) m
low_ways (instr.Int n) at rest w m = one_way (at + 1) (rest + 1) rest w (omega arith) m
low_ways (instr.Text t) at rest w m = one_way (at + 1) (rest + 1) rest w (omega arith) m
low_ways (instr.Get v) at rest w m = one_way (at + 1) (rest + 1) rest w (omega arith) m
low_ways (instr.Take v) at rest w m = one_way (at + 1) (rest + 1) rest w (omega arith) m
low_ways (instr.Set v) at rest w m = one_way (at + 1) (rest + 0) rest w (omega arith) m
low_ways (instr.Drop v) at rest w m = one_way (at + 1) (rest + 0) rest w (omega arith) m
low_ways instr.Object at rest w m = one_way (at + 1) (rest + 1) rest w (omega arith) m
low_ways instr.Read at rest w m = one_way (at + 1) (rest + 1) rest w (omega arith) m
low_ways instr.Write at rest w m = one_way (at + 1) (rest + 0) rest w (omega arith) m
low_ways instr.Remove at rest w m = one_way (at + 1) (rest + 1) rest w (omega arith) m
low_ways (instr.Unary op) at rest w m = one_way (at + 1) (rest + 1) rest w (omega arith) m
low_ways (instr.Binary op) at rest w m = one_way (at + 1) (rest + 1) rest w (omega arith) m
low_ways (instr.Jump a) at rest w m = one_way a rest rest w (omega arith) m
low_ways (instr.Unless a) at rest w m = two_ways a rest (at + 1) rest w (omega arith) m
low_ways (instr.And a) at rest w m = two_ways a (rest + 1) (at + 1) rest w (omega arith) m
low_ways (instr.Or a) at rest w m = two_ways a (rest + 1) (at + 1) rest w (omega arith) m
low_ways instr.Test at rest w m = one_way (at + 1) (rest + 1) rest w (omega arith) m
low_ways (instr.Call body count) at rest w m = one_way (at + 1) (rest + 1) rest w (omega arith) m
low_ways instr.Return at rest w m = absurd m
low_ways (instr.Built name count) at rest w m = one_way (at + 1) (rest + 1) rest w (omega arith) m
low_ways (instr.Ask name v) at rest w m = one_way (at + 1) (rest + 1) rest w (omega arith) m
low_ways (instr.When body cowns captures) at rest w m = one_way (at + 1) (rest + 0) rest w (omega arith) m
low_ways instr.Pop at rest w m = one_way (at + 1) (rest + 0) rest w (omega arith) m

-- a refusal is one whatever is pending
pub refused : (list : List Placed) (counts : List (Option ℕ)) (left : List ℕ) (more pending : List Way) (b : Bool) → b ≡ false
    → Answers list counts left more b → Answers list counts left pending b
refused list counts left more pending true e h = cc
refused list counts left more pending false e h = h

-- ---- the begin

none_seen : (n at d : ℕ) → IsSeen (replicate n None) at d → ⊥
none_seen n at d seen =
    let within : at < n = subst (λ l. at < l) (length-replicate n None) (slice_get_within (replicate n None) at (Some d) seen) in
    absurd (cc (sym (get_or-replicate n at None None within) ∙ found_or (replicate n None) at (Some d) None seen))

pub walk_begins : (list : List Placed) (n : ℕ) → length list ≡ n → OperandWalk list (replicate n None) [] (way 0 0 ∷ [])
walk_begins list n e = record {
  sized = length-replicate n None ∙ sym e;
  reached = λ at d seen. absurd (none_seen n at d seen);
  few = λ at d seen. absurd (none_seen n at d seen);
  seen = λ at m. absurd m;
  start = inr (inl refl);
  enough = λ at d i seen. absurd (none_seen n at d seen);
  onward = λ at d i w seen. absurd (none_seen n at d seen);
  coming = λ w m. elim m [ inl s ↦ subst (λ u. IsReached list u.to u.operands) s first | inr k ↦ absurd k ];
  low = λ w m. elim m [
    | inl s ↦ subst (λ u. u.operands + unseen (replicate n None) ≤ length list + 1) s
        (omega (
          arith,
          e,
          length-replicate {A = Option ℕ} n None,
          count_by-le-length (λ (c : Option ℕ). not (is_some c)) (replicate n None),
        ))
    | inr k ↦ absurd k
  ];
}

-- ---- a way that leads past the end, or to an address that was seen

module _ (list : List Placed) (counts : List (Option ℕ)) (left : List ℕ) (to operands : ℕ) (pending : List Way)
    (walk : OperandWalk list counts left (way to operands ∷ pending)) where
  comes : IsReached list to operands
  comes = walk.coming (way to operands) (inl refl)

  pub past_end : slice_get counts to ≡ None → HasOperands list → ⊥
  past_end gone has = inside counts to (subst (λ l. to < l) (sym walk.sized) (has.there to operands comes)) gone

  as_seen : IsSeen counts to operands → OperandWalk list counts left pending
  as_seen here = record {
    sized = walk.sized;
    reached = walk.reached;
    few = walk.few;
    seen = walk.seen;
    start = elim walk.start [
      | inl s ↦ inl s
      | inr (inl same) ↦ inl (subst (λ u. IsSeen counts u.to u.operands) same here)
      | inr (inr m) ↦ inr m
    ];
    enough = walk.enough;
    onward = λ at d i w s g m. elim (walk.onward at d i w s g m) [
      | inl l ↦ inl l
      | inr (inl h) ↦ inr (inl h)
      | inr (inr (inl same)) ↦ inr (inl (subst (λ u. IsSeen counts u.to u.operands) same here))
      | inr (inr (inr k)) ↦ inr (inr k)
    ];
    coming = λ w m. walk.coming w (inr m);
    low = λ w m. walk.low w (inr m);
  }

  pub seen_already : (found : ℕ) → IsSeen counts to found → Answers list counts left pending (nat_eq found operands)
  seen_already found here = go (nat_eq found operands) refl
    where
      go : (b : Bool) → nat_eq found operands ≡ b → Answers list counts left pending b
      go true e = as_seen (subst (IsSeen counts to) (equal found operands e) here)
      go false e = λ has. unequal found operands e (has.one_number to found operands (walk.reached to found here) comes)

-- ---- a way to an address that wasn't seen

module _ (list : List Placed) (counts : List (Option ℕ)) (left : List ℕ) (to operands : ℕ) (pending : List Way)
    (walk : OperandWalk list counts left (way to operands ∷ pending)) (free : slice_get counts to ≡ Some None) where
  abbrev after : List (Option ℕ)
  after = set counts to (Some operands)

  seen_here : IsSeen after to operands
  seen_here = set_here counts to (Some operands) None free

  seen_before : (at d : ℕ) → IsSeen after at d → ((at ≡ to) × (d ≡ operands)) ⊎ IsSeen counts at d
  seen_before at d s = elim (cases_eq at to) [
    | inl e ↦ inl (e, one_seen after to d operands (subst (λ t. IsSeen after t d) e s) seen_here)
    | inr apart ↦ inr (sym (set_there counts to at (Some operands) apart) ∙ s)
  ]

  still_seen : (at d : ℕ) → IsSeen counts at d → IsSeen after at d
  still_seen at d s = elim (cases_eq at to) [
    | inl e ↦ absurd (not_both d (sym (subst (λ t. IsSeen counts t d) e s) ∙ free))
    | inr apart ↦ set_there counts to at (Some operands) apart ∙ s
  ]
    where
      not_both : (d : ℕ) → ◌≡◌ {A = Option (Option ℕ)} (Some (Some d)) (Some None) → ⊥
      not_both d e = cc

  is_left : (at : ℕ) → at ≡ to → Member at (left ++ to ∷ [])
  is_left at e = Member_right at left (to ∷ []) (inl (sym e))

  pub now_seen : OperandWalk list after (left ++ to ∷ []) pending
  now_seen = record {
    sized = length-set counts to (Some operands) ∙ walk.sized;
    reached = λ at d s. elim (seen_before at d s) [
      | inl p ↦ subst (λ t. IsReached list t d) (sym p.0) (subst (IsReached list to) (sym p.1) (walk.coming (way to operands) (inl refl)))
      | inr was ↦ walk.reached at d was
    ];
    few = λ at d s. elim (seen_before at d s) [
      | inl p ↦ omega (arith, p.1, walk.low (way to operands) (inl refl), fewer_unseen counts to operands free)
      | inr was ↦ omega (arith, walk.few at d was, fewer_unseen counts to operands free)
    ];
    seen = λ at m. elim (Member_of_append at left (to ∷ []) m) [
      | inl k ↦ let was = walk.seen at k in (was.0, still_seen at was.0 was.1)
      | inr (inl e) ↦ (operands, subst (λ t. IsSeen after t operands) e seen_here)
      | inr (inr k) ↦ absurd k
    ];
    start = elim walk.start [
      | inl s ↦ inl (still_seen 0 0 s)
      | inr (inl same) ↦ inl (subst (λ u. IsSeen after u.to u.operands) same seen_here)
      | inr (inr m) ↦ inr m
    ];
    enough = λ at d i s got. elim (seen_before at d s) [
      | inl p ↦ inl (is_left at p.0)
      | inr was ↦ elim (walk.enough at d i was got) [
        | inl l ↦ inl (Member_left at left (to ∷ []) l)
        | inr h ↦ inr h
      ]
    ];
    onward = λ at d i w s got m. elim (seen_before at d s) [
      | inl p ↦ inl (is_left at p.0)
      | inr was ↦ elim (walk.onward at d i w was got m) [
        | inl l ↦ inl (Member_left at left (to ∷ []) l)
        | inr (inl h) ↦ inr (inl (still_seen w.to w.operands h))
        | inr (inr (inl same)) ↦ inr (inl (subst (λ u. IsSeen after u.to u.operands) same seen_here))
        | inr (inr (inr k)) ↦ inr (inr k)
      ]
    ];
    coming = λ w m. walk.coming w (inr m);
    low = λ w m. omega (arith, walk.low w (inr m), fewer_unseen counts to operands free);
  }

-- ---- an address whose ways are followed

module _ (list : List Placed) (counts : List (Option ℕ)) (left : List ℕ) (at : ℕ)
    (walk : OperandWalk list counts (left ++ at ∷ []) []) where
  pub seen_at : (d : ℕ) × IsSeen counts at d
  seen_at = walk.seen at (Member_right at left (at ∷ []) (inl refl))

  pub within_code : at < length list
  within_code = subst (λ l. at < l) walk.sized (slice_get_within counts at (Some seen_at.0) seen_at.1)

module _ (list : List Placed) (counts : List (Option ℕ)) (left : List ℕ) (at d : ℕ) (i : Placed)
    (walk : OperandWalk list counts (left ++ at ∷ []) []) (here : IsSeen counts at d) (got : slice_get list at ≡ Some i) where
  pub too_few : d < needs i.instr → HasOperands list → ⊥
  too_few few has = omega (arith, few, has.enough at d i (walk.reached at d here) got)

  one_instr : (j : Placed) → slice_get list at ≡ Some j → j ≡ i
  one_instr j e = some_is j i (sym e ∙ got)

  pub its_ways : needs i.instr ≤ d → OperandWalk list counts left (ways i.instr at (d - needs i.instr))
  its_ways enough_here = record {
    sized = walk.sized;
    reached = walk.reached;
    few = walk.few;
    seen = λ a m. walk.seen a (Member_left a left (at ∷ []) m);
    start = elim walk.start [ inl s ↦ inl s | inr m ↦ absurd m ];
    enough = λ a e j s g. elim (walk.enough a e j s g) [
      | inr h ↦ inr h
      | inl l ↦ elim (Member_of_append a left (at ∷ []) l) [
        | inl k ↦ inl k
        | inr (inl same) ↦ inr (enough_there a e j same s g)
        | inr (inr k) ↦ absurd k
      ]
    ];
    onward = λ a e j w s g m. elim (walk.onward a e j w s g m) [
      | inr (inl h) ↦ inr (inl h)
      | inr (inr k) ↦ absurd k
      | inl l ↦ elim (Member_of_append a left (at ∷ []) l) [
        | inl k ↦ inl k
        | inr (inl same) ↦ inr (inr (way_there a e j w same s g m))
        | inr (inr k) ↦ absurd k
      ]
    ];
    coming = λ w m. next i w (walk.reached at d here) got m;
    low = λ w m. omega (arith, low_ways i.instr at (d - needs i.instr) w m, enough_here, walk.few at d here);
  }
    where
      moved : {a : ℕ} (j : Placed) → at ≡ a → slice_get list a ≡ Some j → slice_get list at ≡ Some j
      moved j same g = subst (λ t. slice_get list t ≡ Some j) (sym same) g

      one_count : (a e : ℕ) → at ≡ a → IsSeen counts a e → e ≡ d
      one_count a e same s = one_seen counts at e d (subst (λ t. IsSeen counts t e) (sym same) s) here

      enough_there : (a e : ℕ) (j : Placed) → at ≡ a → IsSeen counts a e → slice_get list a ≡ Some j → needs j.instr ≤ e
      enough_there a e j same s g = subst (λ x. needs x.instr ≤ e) (sym (one_instr j (moved j same g)))
          (subst (λ n. needs i.instr ≤ n) (sym (one_count a e same s)) enough_here)

      way_there : (a e : ℕ) (j : Placed) (w : Way) → at ≡ a → IsSeen counts a e → slice_get list a ≡ Some j
          → Member w (ways j.instr a (e - needs j.instr)) → Member w (ways i.instr at (d - needs i.instr))
      way_there a e j w same s g m =
          subst (λ x. Member w (ways x.instr at (d - needs x.instr))) (one_instr j (moved j same g))
          (subst (λ n. Member w (ways j.instr at (n - needs j.instr))) (one_count a e same s)
          (subst (λ t. Member w (ways j.instr t (e - needs j.instr))) (sym same) m))

-- ---- the end

module _ (list : List Placed) (counts : List (Option ℕ)) (walk : OperandWalk list counts [] []) where
  all_seen : (at d : ℕ) → IsReached list at d → IsSeen counts at d
  all_seen at d first = elim walk.start [ inl s ↦ s | inr m ↦ absurd m ]
  all_seen at d (next i w r got m) = elim (walk.onward _ _ i w (all_seen _ _ r) got m) [
    | inl l ↦ absurd l
    | inr (inl s) ↦ s
    | inr (inr k) ↦ absurd k
  ]

  pub all_followed : HasOperands list
  all_followed = record {
    there = λ at d r. subst (λ l. at < l) walk.sized (slice_get_within counts at (Some d) (all_seen at d r));
    one_number = λ at d e r q. one_seen counts at d e (all_seen at d r) (all_seen at e q);
    enough = λ at d i r got. elim (walk.enough at d i (all_seen at d r) got) [ inl l ↦ absurd l | inr h ↦ h ];
  }

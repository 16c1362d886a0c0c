-- How the world with running behaviours goes on beside the one in which these have not started.
use Rattle.std.proofs.Common.{◌≡◌, ℕ, suc, ◌+◌, ◌<◌, ◌≤◌, true, false, cond, not, ◌&&◌, ◌||◌, eqb, ltb, List, [], ◌∷◌, ◌++◌, length, Option, Some, None, refl, ap, sym, ◌∙◌, subst, inl, inr, arith, length-append}
use Rattle.lf_base.proofs.ListLemmas.Filters.{Member_filter, Member_of_filter}
use Rattle.lf_base.proofs.ListLemmas.Members.{Member_any, Member_left, Member_of_append}
use Rattle.std.specs.List.{filter, list_any}
use Rattle.std.proofs.lemmas.Bool.{eqb-true, eqb-false, eq-eqb, lt-ltb, le-ltb, cases_Bool, cases_order}
use Rattle.std.proofs.lemmas.List.Elements.{filter-append}
use Rattle.lf_base.specs.declared.behaviours.Job.{Job}
use Rattle.lf_base.specs.declared.behaviours.Spawn.{Spawn}
use Rattle.lf_base.specs.declared.ids.CownId.{CownId}
use Rattle.lf_base.specs.FreezeResult.{insert_rows}
use Rattle.lf_base.specs.Sets.{Member}
use Rattle.lf_core.specs.Keyed.{at, put_all, without, pick}
use Rattle.lf_core.specs.World.{Outcome, World, entry_of, is_ready, ready_jobs, taken, numbered, committed}
use Rattle.lf_core.specs.Tracks.{blocks, holds, IsFree, Tracks, Numbered, Fits, KnowsCowns}
use Rattle.lf_core.proofs.Tests.{and_left, and_right, not_true, and_false, is_false, same_test, neither, or_cases, or_left, or_right}
use Rattle.lf_core.proofs.Holders.{any_with, apart_left, apart_with, holds_Member, in_left, is_other, left_is, length_with, Member_holds, Member_runs, one_less, other, runs_Member}
use Rattle.lf_core.proofs.Keyed.{or_at, at_put_all, at_without, pick_same, among_Member, filter_filter, filter_all}
use Rattle.lf_queue.proofs.ReadyLaws.{in_with}
use Rattle.lf_queue.specs.Queues.{holder_of, is_running, with_holder, without_holder}
use Rattle.lf_queue.specs.Ready.{Holder, among, meets}

-- ---- plain facts
pub meets_at : (cs ds : List CownId) (c : CownId) → among cs c ≡ true → among ds c ≡ true → meets cs ds ≡ true
meets_at cs ds c e d = Member_any (λ c. among ds c) c cs (among_Member cs c e) d

-- among the running ones there is one of its number that is as it
pub holder_runs : (hs : List Holder) (j : Job) → Member (holder_of j) hs → is_running hs j.id ≡ true
holder_runs hs j m = Member_runs hs (holder_of j) j.id m refl

pub numbered_from : (n : ℕ) (ss : List Spawn) (j : Job) → Member j (numbered n ss) → (n ≤ j.id) × (j.id < n + length ss)
numbered_from n [] j m = absurd m
numbered_from n (s ∷ ss) j (inl e) = let h : n ≡ j.id = ap (λ (k : Job). k.id) e in omega arith
numbered_from n (s ∷ ss) j (inr m) = let h = numbered_from (suc n) ss j m in omega (arith, h.0, h.1)

pub numbered_unique : (n : ℕ) (ss : List Spawn) (j k : Job) → Member j (numbered n ss) → Member k (numbered n ss) → j.id ≡ k.id → j ≡ k
numbered_unique n [] j k m q e = absurd m
numbered_unique n (s ∷ ss) j k (inl m) (inl q) e = sym m ∙ q
numbered_unique n (s ∷ ss) j k (inl m) (inr q) e = absurd (let h = numbered_from (suc n) ss k q in let i : n ≡ j.id = ap (λ (k : Job). k.id) m in omega (arith, h.0))
numbered_unique n (s ∷ ss) j k (inr m) (inl q) e = absurd (let h = numbered_from (suc n) ss j m in let i : n ≡ k.id = ap (λ (k : Job). k.id) q in omega (arith, h.0))
numbered_unique n (s ∷ ss) j k (inr m) (inr q) e = numbered_unique (suc n) ss j k m q e

-- ---- free behaviours share no cown
module _ {C : Type 0} (s : World C) where
  no_common : (j k : Job) → Member j s.waiting → IsFree s k → j.id < k.id → (c : CownId) → among j.cowns c ≡ true → among k.cowns c ≡ true → ⊥
  no_common j k m q h c a b =
      let here : (ltb j.id k.id && meets j.cowns k.cowns) ≡ false = q.1 j m in
      let both : (ltb j.id k.id && meets j.cowns k.cowns) ≡ true = λ i. lt-ltb j.id k.id h i && meets_at j.cowns k.cowns c a b i in
      cc

  pub disjoint : (j k : Job) → IsFree s j → IsFree s k → (j.id ≡ k.id → ⊥) → (c : CownId) → among j.cowns c ≡ true → among k.cowns c ≡ true → ⊥
  disjoint j k m q h c a b =
      elim (cases_order j.id k.id) [
        | inl e ↦ h e
        | inr o ↦ elim o [
          | inl l ↦ no_common j k m.0 q l c a b
          | inr l ↦ no_common k j q.0 m l c b a
        ]
      ]

-- ---- a ready one
module _ {C : Type 0} {w s : World C} (t : Tracks w s) (n : Numbered s) (j : Job) (m : Member j (ready_jobs w)) where
  waits : Member j w.waiting
  waits = (Member_of_filter (is_ready w) j w.waiting m).0

  is_so : is_ready w j ≡ true
  is_so = (Member_of_filter (is_ready w) j w.waiting m).1

  unheld : list_any (λ (h : Holder). meets h.cowns j.cowns) w.running ≡ false
  unheld = not_true _ (and_left _ _ is_so)

  unnamed : list_any (blocks j) w.waiting ≡ false
  unnamed = not_true _ (and_right (not (list_any (λ (h : Holder). meets h.cowns j.cowns) w.running)) _ is_so)

  waits_there : Member j s.waiting × (not (is_running w.running j.id) ≡ true)
  waits_there = Member_of_filter (λ (j : Job). not (is_running w.running j.id)) j s.waiting (subst (λ js. Member j js) t.waiting waits)

  pub ready_there : IsFree s j
  ready_there = (
    waits_there.0,
    λ k q. elim (cases_Bool (is_running w.running k.id)) [
      | inl r ↦
          let x = runs_Member w.running k.id r in
          let y = t.ready x.0 x.1.0 in
          let same : y.0 ≡ k = n.unique y.0 k y.1.1.0 q (ap (λ (h : Holder). h.id) y.1.0 ∙ x.1.1) in
          let cowns : (x.0).cowns ≡ k.cowns = ap (λ (h : Holder). h.cowns) (sym y.1.0) ∙ ap (λ (i : Job). i.cowns) same in
          and_false _ _ (is_false _ (λ e.
          let bad : list_any (λ (h : Holder). meets h.cowns j.cowns) w.running ≡ true = Member_any (λ (h : Holder). meets h.cowns j.cowns) x.0 w.running x.1.0 (ap (λ cs. meets cs j.cowns) cowns ∙ e) in
          let u = unheld in cc))
      | inr r ↦ is_false _ (λ e.
          let there : Member k w.waiting = subst (λ js. Member k js) (sym t.waiting) (Member_filter (λ (j : Job). not (is_running w.running j.id)) k s.waiting q (ap not r)) in
          let bad : list_any (blocks j) w.waiting ≡ true = Member_any (blocks j) k w.waiting there e in
          let u = unnamed in cc)
    ],
  )

  pub not_held : (c : CownId) → among j.cowns c ≡ true → holds w.running c ≡ false
  not_held c e = is_false _ (λ h.
      let x = holds_Member w.running c h in
      let bad : list_any (λ (h : Holder). meets h.cowns j.cowns) w.running ≡ true = Member_any (λ (h : Holder). meets h.cowns j.cowns) x.0 w.running x.1.0 (meets_at (x.0).cowns j.cowns c x.1.1 e) in
      let u = unheld in cc)

  -- what it gets is what it would get there
  pub same_contents : pick j.cowns w.parked ≡ pick j.cowns s.parked
  same_contents = pick_same j.cowns w.parked s.parked (λ c e. t.parked c ∙ ap (λ b. cond b None (at s.parked c)) (not_held c e))

  turned : (a b : ℕ) → eqb a b ≡ eqb b a
  turned a b = same_test (eqb a b) (eqb b a) (λ e. eq-eqb b a (sym (eqb-true a b e))) (λ e. eq-eqb a b (sym (eqb-true b a e)))

  pub start_tracks : Tracks (taken w j) s
  start_tracks = record {
    waiting = ap (filter (other j.id)) t.waiting ∙ filter_filter (other j.id) (λ k. not (is_running w.running k.id)) (λ k. not (is_running (with_holder (holder_of j) w.running) k.id)) s.waiting (λ k q.
        neither (is_running w.running k.id) (eqb k.id j.id)
        ∙ (λ i. not (turned k.id j.id i || is_running w.running k.id))
        ∙ ap not (sym (any_with (λ (h : Holder). eqb h.id k.id) (holder_of j) w.running)));
    parked = λ c. at_without j.cowns w.parked c ∙ ap (cond (among j.cowns c) None) (t.parked c)
        ∙ elim (among j.cowns c) as (λ b. cond b None (cond (holds w.running c) None (at s.parked c)) ≡ cond (b || holds w.running c) None (at s.parked c)) [ true ↦ refl | false ↦ refl ]
        ∙ ap (λ b. cond b None (at s.parked c)) (sym (any_with (λ (h : Holder). among h.cowns c) (holder_of j) w.running));
    frozen = t.frozen;
    journal = t.journal;
    next = t.next;
    ready = λ h q. elim (in_with (holder_of j) h w.running q) [ inl e ↦ (j, (sym e, ready_there)) | inr r ↦ t.ready h r ];
    apart = apart_with (holder_of j) w.running (not_true _ waits_there.1) t.apart;
    count = let l = length_with (holder_of j) w.running in omega (arith, t.count, l);
  }

-- ---- an end
none_of : {C : Type 0} (x : Option C) → ((v : C) → x ≡ Some v → ⊥) → x ≡ None
none_of None h = refl
none_of (Some v) h = absurd (h v refl)

module _ {C : Type 0} {w s : World C} (t : Tracks w s) (n : Numbered s) (known : KnowsCowns s) (j : Job) (m : Member (holder_of j) w.running) (free : IsFree s j) (o : Outcome C) (fits : Fits s j o) where
  abbrev left : List Holder
  left = without_holder w.running j.id

  -- the world in which j alone was run
  abbrev alone : World C
  alone = committed (taken s j) j.id o

  -- a further free one's cowns aren't touched
  untouched : (k : Job) → IsFree s k → (j.id ≡ k.id → ⊥) → (c : CownId) → among k.cowns c ≡ true → (at (o.held ++ o.made) c ≡ None) × (among j.cowns c ≡ false)
  untouched k q h c e =
      let apart : among j.cowns c ≡ false = is_false _ (λ g. disjoint s j k free q h c g e) in
      (none_of (at (o.held ++ o.made) c) (λ v g. elim (fits.contents c v g) [ inl x ↦ let a = apart in cc | inr x ↦ known k c q.0 e x ]), apart)

  runs_split : (b : ℕ) → (not (eqb b j.id) && not (is_running left b)) ≡ not (is_running w.running b)
  runs_split b =
      neither (eqb b j.id) (is_running left b)
      ∙ ap not (same_test (is_running left b || eqb b j.id) (is_running w.running b)
      (λ e. elim (or_cases (is_running left b) (eqb b j.id) e) [
        | inl x ↦ let k = runs_Member left b x in Member_runs w.running k.0 b (left_is w.running j.id k.0 k.1.0).0 k.1.1
        | inr x ↦ Member_runs w.running (holder_of j) b m (sym (eqb-true b j.id x))
      ])
      (λ e. let k = runs_Member w.running b e in elim (cases_Bool (eqb b j.id)) [
        | inl x ↦ or_right (is_running left b) (eqb b j.id) x
        | inr x ↦ or_left (is_running left b) (eqb b j.id) (Member_runs left k.0 b (in_left w.running j.id k.0 k.1.0 (λ h. eqb-false b j.id x (sym (h ∙ k.1.1)))) k.1.1)
      ]))

  -- a running one of its number holds its cowns
  its_cowns : (h : Holder) → Member h w.running → j.id ≡ h.id → h.cowns ≡ j.cowns
  its_cowns h q e =
      let y = t.ready h q in
      let same : y.0 ≡ j = n.unique y.0 j y.1.1.0 free.0 (ap (λ (k : Holder). k.id) y.1.0 ∙ sym e) in
      ap (λ (k : Holder). k.cowns) (sym y.1.0) ∙ ap (λ (i : Job). i.cowns) same

  -- among the running ones j or a further one holds it
  held_by : (c : CownId) → holds left c ≡ false → holds w.running c ≡ among j.cowns c
  held_by c h = same_test (holds w.running c) (among j.cowns c)
      (λ e. let k = holds_Member w.running c e in elim (cases_Bool (eqb j.id (k.0).id)) [
        | inl x ↦ ap (λ cs. among cs c) (sym (its_cowns k.0 k.1.0 (eqb-true j.id (k.0).id x))) ∙ k.1.1
        | inr x ↦ let bad = Member_holds left k.0 c (in_left w.running j.id k.0 k.1.0 (eqb-false j.id (k.0).id x)) k.1.1 in absurd cc
      ])
      (λ e. Member_holds w.running (holder_of j) c m e)

  parked_there : (c : CownId) → at alone.parked c ≡ or_at (at (o.held ++ o.made) c) (cond (among j.cowns c) None (at s.parked c))
  parked_there c = at_put_all (o.held ++ o.made) (without j.cowns s.parked) c ∙ ap (or_at (at (o.held ++ o.made) c)) (at_without j.cowns s.parked c)

  parked_here : (c : CownId) → at (put_all (o.held ++ o.made) w.parked) c ≡ or_at (at (o.held ++ o.made) c) (cond (holds w.running c) None (at s.parked c))
  parked_here c = at_put_all (o.held ++ o.made) w.parked c ∙ ap (or_at (at (o.held ++ o.made) c)) (t.parked c)

  same_parked : (c : CownId) → at (put_all (o.held ++ o.made) w.parked) c ≡ cond (holds left c) None (at alone.parked c)
  same_parked c =
      elim (cases_Bool (holds left c)) [
        | inl h ↦
            let k = holds_Member left c h in
            let r = left_is w.running j.id k.0 k.1.0 in
            let y = t.ready k.0 r.0 in
            let none = (untouched y.0 y.1.1 (λ e. r.1 (e ∙ ap (λ (h : Holder). h.id) y.1.0)) c (ap (λ (h : Holder). among h.cowns c) y.1.0 ∙ k.1.1)).0 in
            let held = Member_holds w.running k.0 c r.0 k.1.1 in
            parked_here c ∙ ap (λ x. or_at x (cond (holds w.running c) None (at s.parked c))) none ∙ ap (λ b. cond b None (at s.parked c)) held ∙ sym (ap (λ b. cond b None (at alone.parked c)) h)
        | inr h ↦ parked_here c ∙ ap (λ b. or_at (at (o.held ++ o.made) c) (cond b None (at s.parked c))) (held_by c h) ∙ sym (parked_there c) ∙ sym (ap (λ b. cond b None (at alone.parked c)) h)
      ]

  -- what a further free one would get is the same
  pub contents_stay : (k : Job) → IsFree s k → (j.id ≡ k.id → ⊥) → pick k.cowns alone.parked ≡ pick k.cowns s.parked
  contents_stay k q h = pick_same k.cowns alone.parked s.parked (λ c e. let u = untouched k q h c e in
      parked_there c ∙ ap (λ x. or_at x (cond (among j.cowns c) None (at s.parked c))) u.0 ∙ ap (λ b. cond b None (at s.parked c)) u.1)

  pub free_there : (k : Job) → IsFree s k → (j.id ≡ k.id → ⊥) → IsFree alone k
  free_there k f h = (
    Member_left k (filter (other j.id) s.waiting) (numbered s.next o.spawns) (Member_filter (other j.id) k s.waiting f.0 (is_other j.id k h)),
    λ i r. elim (Member_of_append i (filter (other j.id) s.waiting) (numbered s.next o.spawns) r) [
      | inl x ↦ f.1 i (Member_of_filter (other j.id) i s.waiting x).0
      | inr x ↦ let low = n.below k f.0 in let high = (numbered_from s.next o.spawns i x).0 in ap (λ b. b && meets i.cowns k.cowns) (le-ltb i.id k.id (omega arith))
    ],
  )

  pub end_tracks : Tracks (committed w j.id o) alone
  end_tracks = record {
    waiting = sym (filter-append (λ k. not (is_running left k.id)) (filter (other j.id) s.waiting) (numbered s.next o.spawns)
        ∙ (λ i. filter_filter (λ k. not (is_running left k.id)) (other j.id) (λ k. not (is_running w.running k.id)) s.waiting (λ k q. runs_split k.id) i
        ++ filter_all (λ k. not (is_running left k.id)) (numbered s.next o.spawns) (λ k q. ap not (is_false _ (λ e.
        let x = runs_Member left k.id e in
        let y = t.ready x.0 (left_is w.running j.id x.0 x.1.0).0 in
        let low = n.below y.0 y.1.1.0 in
        let high = (numbered_from s.next o.spawns k q).0 in
        let same : (y.0).id ≡ k.id = ap (λ (h : Holder). h.id) y.1.0 ∙ x.1.1 in
        omega arith))) i)
        ∙ (λ i. sym t.waiting i ++ numbered (sym t.next i) o.spawns));
    parked = same_parked;
    frozen = ap (insert_rows o.rows) t.frozen;
    journal = ap (λ es. es ++ entry_of j.id o ∷ []) t.journal;
    next = ap (λ x. x + length o.spawns) t.next;
    ready = λ h q.
        let r = left_is w.running j.id h q in
        let y = t.ready h r.0 in
        (y.0, (y.1.0, free_there y.0 y.1.1 (λ e. r.1 (e ∙ ap (λ (h : Holder). h.id) y.1.0))));
    apart = apart_left j.id w.running t.apart;
    count = omega (arith, t.count, one_less j.id w.running t.apart (holder_runs w.running j m), length-append w.journal (entry_of j.id o ∷ []));
  }

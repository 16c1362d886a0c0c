-- What a core keeps of its world, from call to call.
use Rattle.std.proofs.Common.{Bool, List, Some, [], ap, arith, cond, eqb, false, inl, inr, length, not, refl, subst, suc, sym, true, ℕ, ◌&&◌, ◌||◌, ◌++◌, ◌+◌, ◌<◌, ◌≤◌, ◌∙◌, ◌∷◌, ◌≡◌, length-append}
use Rattle.std.specs.List.{filter, list_any}
use Rattle.std.proofs.lemmas.Bool.{eqb-true, eq-eqb, ne_eqb}
use Rattle.lf_base.specs.declared.behaviours.Job.{Job}
use Rattle.lf_base.specs.declared.behaviours.Spawn.{Spawn}
use Rattle.lf_base.specs.declared.limits.TheConstants.{MOST_SPAWNS}
use Rattle.lf_base.specs.Names.{same_cown}
use Rattle.lf_base.specs.Sets.{Differ, Member}
use Rattle.lf_base.proofs.ListLemmas.Filters.{Member_filter, Member_of_filter}
use Rattle.lf_base.proofs.ListLemmas.Members.{Member_of_append, Member_any}
use Rattle.lf_core.specs.Cores.{CoreState, KeepsCore, going, is_abandoned, with_abandoned, with_ended, with_started}
use Rattle.lf_core.specs.Orders.{Rises}
use Rattle.lf_core.specs.Reading.{Parked}
use Rattle.lf_core.specs.Tracks.{Apart}
use Rattle.lf_core.specs.World.{Outcome, World, entry_of, numbered, ready_job, ready_jobs}
use Rattle.lf_core.proofs.Events.{job_of_Mem, ready_waits}
use Rattle.lf_core.proofs.Holders.{any_with, apart_left, apart_with, in_left, left_is, length_with, Member_runs, not_same, one_less, other, runs_Member}
use Rattle.lf_core.proofs.Keyed.{filter_all, filter_filter}
use Rattle.lf_core.proofs.Orders.{rises_append, rises_filter, rises_numbered}
use Rattle.lf_core.proofs.Tests.{is_false, no_both, or_right, same_test}
use Rattle.lf_core.proofs.Tracks.{numbered_from}
use Rattle.lf_queue.proofs.ReadyLaws.{in_with}
use Rattle.lf_queue.specs.Queues.{holder_of, is_running, without_holder, without_job}
use Rattle.lf_queue.specs.Ready.{Holder}

turned : (a b : ℕ) → eqb a b ≡ eqb b a
turned a b = same_test (eqb a b) (eqb b a) (λ e. eq-eqb b a (sym (eqb-true a b e))) (λ e. eq-eqb a b (sym (eqb-true b a e)))

-- a ready job waits
pub waits_of : {C : Type 0} (w : World C) (id : ℕ) (job : Job) → ready_job w id ≡ Some job → Member job w.waiting
waits_of w id job e = ready_waits w job (job_of_Mem (ready_jobs w) id job e).0

-- ---- one waiting job less
none_out : (b : ℕ) (js : List Job) → ((k : Job) → Member k js → b < k.id) → without_job js b ≡ js
none_out b js h = filter_all (λ (k : Job). not (eqb k.id b)) js (λ k m. ap not (ne_eqb k.id b (λ e. let less = h k m in omega arith)))

pub one_waits_less : (js : List Job) (j : Job) → Rises js → Member j js → suc (length (without_job js j.id)) ≡ length js
one_waits_less [] j r m = absurd m
one_waits_less (k ∷ js) j r (inl e) =
    ap (λ b. suc (length (cond (not b) (k ∷ without_job js j.id) (without_job js j.id)))) (eq-eqb k.id j.id (ap (λ (i : Job). i.id) e))
    ∙ ap (λ l. suc (length l)) (none_out j.id js (λ i m. let less = r.0 i m in let same = ap (λ (i : Job). i.id) e in omega arith))
one_waits_less (k ∷ js) j r (inr m) =
    ap (λ b. suc (length (cond (not b) (k ∷ without_job js j.id) (without_job js j.id)))) (ne_eqb k.id j.id (λ e. let less = r.0 j m in omega arith))
    ∙ ap suc (one_waits_less js j r.1 m)

-- ---- a start
pub started_keeps : (core : CoreState) (room room' : ℕ) (id : ℕ) (job : Job) → KeepsCore core room → ready_job core.world id ≡ Some job → core.world.started < core.budget → length core.world.running + 1 ≤ room' → KeepsCore (with_started job core) room'
started_keeps core room room' id job k e below fits =
    let w = core.world in
    let here = waits_of w id job e in
    let still = λ (i : Job) (m : Member i (without_job w.waiting job.id)). Member_of_filter (other job.id) i w.waiting m in
    record {
      waiting_below = λ i m. k.waiting_below i (still i m).0;
      running_below = λ h m. elim (in_with (holder_of job) h w.running m) [
        | inl s ↦ subst (λ (x : Holder). x.id < w.next) (sym s) (k.waiting_below job here)
        | inr n ↦ k.running_below h n
      ];
      rises = rises_filter (other job.id) w.waiting k.rises;
      apart = apart_with (holder_of job) w.running (k.fresh job here) k.apart;
      fresh = λ i m. any_with (λ (h : Holder). eqb h.id i.id) (holder_of job) w.running ∙ (λ t. ne_eqb job.id i.id (not_same job.id i (still i m).1) t || k.fresh i (still i m).0 t);
      cowns_differ = λ i m. k.cowns_differ i (still i m).0;
      waiting_count = let a = one_waits_less w.waiting job k.rises here in let b = k.waiting_count in omega arith;
      running_count = let a = length_with (holder_of job) w.running in let b = k.running_count in omega arith;
      within = omega (arith, below);
      most = k.most;
      small = k.small;
      room_left = let a = length_with (holder_of job) w.running in omega (arith, a, fits);
      abandoned_run = λ n m. any_with (λ (h : Holder). eqb h.id n) (holder_of job) w.running ∙ or_right (eqb job.id n) (is_running w.running n) (k.abandoned_run n m);
      abandoned_differ = k.abandoned_differ;
    }

-- ---- an end
length_numbered : (n : ℕ) (ss : List Spawn) → length (numbered n ss) ≡ length ss
length_numbered n [] = refl
length_numbered n (s ∷ ss) = ap suc (length_numbered (suc n) ss)

numbered_differ : (n : ℕ) (ss : List Spawn) → ((s : Spawn) → Member s ss → Differ same_cown s.cowns) → (j : Job) → Member j (numbered n ss) → Differ same_cown j.cowns
numbered_differ n [] h j m = absurd m
numbered_differ n (s ∷ ss) h j (inl e) = subst (λ (i : Job). Differ same_cown i.cowns) e (h s (inl refl))
numbered_differ n (s ∷ ss) h j (inr m) = numbered_differ (suc n) ss (λ t q. h t (inr q)) j m

pub ended_keeps : (core : CoreState) (room : ℕ) (id : ℕ) (done : Outcome Parked) → KeepsCore core room → is_running core.world.running id ≡ true → is_abandoned core id ≡ false
    → length done.spawns ≤ MOST_SPAWNS → ((s : Spawn) → Member s done.spawns → Differ same_cown s.cowns) → KeepsCore (with_ended id done core) room
ended_keeps core room id done k runs going_on few differ =
    let w = core.world in
    let new = numbered w.next done.spawns in
    let less = one_less id w.running k.apart runs in
    let more = length-append w.waiting new in
    let count = length_numbered w.next done.spawns in
    let longer = length-append w.journal (entry_of id done ∷ []) in
    record {
      waiting_below = λ j m. elim (Member_of_append j w.waiting new m) [
        | inl n ↦ let low = k.waiting_below j n in omega arith
        | inr n ↦ (numbered_from w.next done.spawns j n).1
      ];
      running_below = λ h m. let low = k.running_below h (left_is w.running id h m).0 in omega arith;
      rises = rises_append w.waiting new k.rises (rises_numbered w.next done.spawns) (λ i j m n. let low = k.waiting_below i m in let high = (numbered_from w.next done.spawns j n).0 in omega arith);
      apart = apart_left id w.running k.apart;
      fresh = λ j m. is_false _ (λ e.
          let h = runs_Member (without_holder w.running id) j.id e in
          let there = (left_is w.running id h.0 h.1.0).0 in
          elim (Member_of_append j w.waiting new m) [
            | inl n ↦ no_both _ (Member_runs w.running h.0 j.id there h.1.1) (k.fresh j n)
            | inr n ↦ let low = k.running_below h.0 there in let high = (numbered_from w.next done.spawns j n).0 in let same = h.1.1 in omega arith
          ]);
      cowns_differ = λ j m. elim (Member_of_append j w.waiting new m) [
        | inl n ↦ k.cowns_differ j n
        | inr n ↦ numbered_differ w.next done.spawns differ j n
      ];
      waiting_count = let b = k.waiting_count in omega arith;
      running_count = let b = k.running_count in omega arith;
      within = k.within;
      most = k.most;
      small = let b = k.small in omega (arith, b, few, longer);
      room_left = let b = k.room_left in omega arith;
      abandoned_run = λ n m.
          let h = runs_Member w.running n (k.abandoned_run n m) in
          Member_runs (without_holder w.running id) h.0 n (in_left w.running id h.0 h.1.0 (λ e.
          no_both _ (Member_any (λ (i : ℕ). eqb i id) n core.abandoned m (eq-eqb n id (sym (e ∙ h.1.1)))) going_on)) h.1.1;
      abandoned_differ = k.abandoned_differ;
    }

-- ---- those that were abandoned
either : (a b : Bool) → (a || b) ≡ false → (a ≡ false) × (b ≡ false)
either true b e = absurd cc
either false b e = (refl, e)

pub going_count : (ids : List ℕ) (hs : List Holder) → Apart hs → Differ eqb ids → ((n : ℕ) → Member n ids → is_running hs n ≡ true) → length ids + length (filter (λ (h : Holder). not (list_any (λ n. eqb n h.id) ids)) hs) ≡ length hs
going_count [] hs a d r = let all = ap length (filter_all (λ (h : Holder). true) hs (λ h m. refl)) in omega (arith, all)
going_count (b ∷ ids) hs a d r =
    let rest = going_count ids (without_holder hs b) (apart_left b hs a) d.1 (λ n m.
    let h = runs_Member hs n (r n (inr m)) in
    Member_runs (without_holder hs b) h.0 n (in_left hs b h.0 h.1.0 (λ e. no_both _ (Member_any (λ (i : ℕ). eqb i b) n ids m (eq-eqb n b (sym (e ∙ h.1.1)))) d.0)) h.1.1) in
    let fewer = one_less b hs a (r b (inl refl)) in
    let same = ap length (filter_filter (λ (h : Holder). not (list_any (λ n. eqb n h.id) ids)) (λ (h : Holder). not (eqb h.id b)) (λ (h : Holder). not (list_any (λ n. eqb n h.id) (b ∷ ids))) hs (λ h m. ap (λ t. not t && not (list_any (λ n. eqb n h.id) ids)) (turned h.id b) ∙ tests (eqb b h.id) (list_any (λ n. eqb n h.id) ids))) in
    omega (arith, rest, fewer, same)
  where
    tests : (x y : Bool) → (not x && not y) ≡ not (x || y)
    tests true y = refl
    tests false y = refl

pub all_going : (core : CoreState) (room : ℕ) → KeepsCore core room → length core.abandoned + length (going core) ≡ length core.world.running
all_going core room k = going_count core.abandoned core.world.running k.apart k.abandoned_differ k.abandoned_run

some_length : {X : Type 0} (xs : List X) (x : X) → Member x xs → 0 < length xs
some_length [] x m = absurd m
some_length (y ∷ xs) x m = omega arith

-- there is room for one that goes
pub room_for_one : (core : CoreState) (room id : ℕ) → KeepsCore core room → is_running core.world.running id ≡ true → is_abandoned core id ≡ false → length core.abandoned < room
room_for_one core room id k runs on =
    let h = runs_Member core.world.running id runs in
    let here : Member h.0 (going core) = Member_filter (λ (x : Holder). not (is_abandoned core x.id)) h.0 core.world.running h.1.0 (ap (λ n. not (is_abandoned core n)) h.1.1 ∙ ap not on) in
    let one = some_length (going core) h.0 here in
    let all = all_going core room k in
    let left = k.room_left in
    omega arith

differ_more : (ids : List ℕ) (id : ℕ) → Differ eqb ids → list_any (λ n. eqb n id) ids ≡ false → Differ eqb (ids ++ id ∷ [])
differ_more [] id d n = (refl, tt)
differ_more (b ∷ ids) id d n =
    let p = either (eqb b id) (list_any (λ i. eqb i id) ids) n in
    (apart_more ids (λ i. eqb i b) id d.0 (turned id b ∙ p.0), differ_more ids id d.1 p.1)
  where
    apart_more : (xs : List ℕ) (t : ℕ → Bool) (x : ℕ) → list_any t xs ≡ false → t x ≡ false → list_any t (xs ++ x ∷ []) ≡ false
    apart_more [] t x e f = ap (λ b. b || false) f
    apart_more (y ∷ xs) t x e f = let p = either (t y) (list_any t xs) e in (λ i. p.0 i || apart_more xs t x p.1 f i)

pub abandoned_keeps : (core : CoreState) (room id : ℕ) → KeepsCore core room → is_running core.world.running id ≡ true → is_abandoned core id ≡ false → KeepsCore (with_abandoned id core) room
abandoned_keeps core room id k runs on = record {
  waiting_below = k.waiting_below;
  running_below = k.running_below;
  rises = k.rises;
  apart = k.apart;
  fresh = k.fresh;
  cowns_differ = k.cowns_differ;
  waiting_count = k.waiting_count;
  running_count = k.running_count;
  within = k.within;
  most = k.most;
  small = k.small;
  room_left = k.room_left;
  abandoned_run = λ n m. elim (Member_of_append n core.abandoned (id ∷ []) m) [
    | inl o ↦ k.abandoned_run n o
    | inr o ↦ elim o [ inl e ↦ ap (is_running core.world.running) (sym e) ∙ runs | inr z ↦ absurd z ]
  ];
  abandoned_differ = differ_more core.abandoned id k.abandoned_differ on;
}

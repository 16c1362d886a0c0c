-- What readiness says of lists of jobs.
use Rattle.std.proofs.Common.{Bool, List, Some, [], ap, arith, cond, eqb, false, inl, inr, ltb, map, not, refl, suc, sym, true, zero, ℕ, ◌&&◌, ◌++◌, ◌<◌, ◌≤◌, ◌∙◌, ◌∷◌, ◌≡◌, ◌≢◌, ◌⊎◌}
use Rattle.std.specs.List.{slice_get}
use Rattle.std.proofs.lemmas.Bool.{eq-eqb, le-ltb, lt-ltb}
use Rattle.lf_base.specs.declared.behaviours.Job.{Job}
use Rattle.lf_base.specs.declared.ids.CownId.{CownId}
use Rattle.lf_base.specs.Sets.{Member}
use Rattle.lf_base.proofs.ListLemmas.Filters.{Member_of_filter}
use Rattle.lf_base.proofs.ListLemmas.Members.{Member_of_append}
use Rattle.lf_base.proofs.ListLemmas.Tests.{any_none, none_any, some_is}
use Rattle.lf_queue.specs.Queues.{holder_of, with_holder, without_holder, without_job}
use Rattle.lf_queue.specs.Ready.{Holder, is_behind, is_held, is_ready, job_of, meets, ready_ids, ready_job, ready_jobs}
use Rattle.lf_queue.proofs.Readiness.{and_is, and_of, false_unless, from_meeting, they_meet}
use Rattle.lf_queue.proofs.Joining.{true_not_false}

is_not : (b : Bool) → not b ≡ true → b ≡ false
is_not true e = absurd (cc)
is_not false e = refl

-- a ready job is held and blocked by nothing
pub ready_parts : (waiting : List Job) (running : List Holder) (job : Job) → is_ready waiting running job ≡ true → (is_held running job ≡ false) × (is_behind waiting job ≡ false)
ready_parts waiting running job e = let p = and_is (not (is_held running job)) (not (is_behind waiting job)) e in (is_not _ p.0, is_not _ p.1)

pub ready_of : (waiting : List Job) (running : List Holder) (job : Job) → is_held running job ≡ false → is_behind waiting job ≡ false → is_ready waiting running job ≡ true
ready_of waiting running job h b = and_of _ _ (ap not h) (ap not b)

-- ---- what is found may start
in_place : (jobs : List Job) (at id : ℕ) → slice_get (map (λ (j : Job). j.id) jobs) at ≡ Some id → (job : Job) × (job_of jobs id ≡ Some job)
in_place [] at id e = absurd (cc)
in_place (x ∷ xs) at id e = elim (eqb x.id id) as (λ b. eqb x.id id ≡ b → (job : Job) × (cond b (Some x) (job_of xs id) ≡ Some job)) [
  | true ↦ λ t. (x, refl)
  | false ↦ λ t. later at e t
] refl
  where
    later : (at : ℕ) → slice_get (x.id ∷ map (λ (j : Job). j.id) xs) at ≡ Some id → eqb x.id id ≡ false → (job : Job) × (job_of xs id ≡ Some job)
    later zero e t = absurd (true_not_false (eqb x.id id) (eq-eqb x.id id (some_is x.id id e)) t)
    later (suc at) e t = deeper xs at e
      where
        deeper : (ys : List Job) (at : ℕ) → slice_get (map (λ (j : Job). j.id) ys) at ≡ Some id → (job : Job) × (job_of ys id ≡ Some job)
        deeper [] at e = absurd (cc)
        deeper (y ∷ ys) zero e = (y, ap (λ b. cond b (Some y) (job_of ys id)) (eq-eqb y.id id (some_is y.id id e)))
        deeper (y ∷ ys) (suc at) e = let r = deeper ys at e in elim (eqb y.id id) as (λ b. (job : Job) × (cond b (Some y) (job_of ys id) ≡ Some job)) [ true ↦ (y, refl) | false ↦ r ]

pub may_start : (waiting : List Job) (running : List Holder) (at id : ℕ) → slice_get (ready_ids waiting running) at ≡ Some id → (job : Job) × (ready_job waiting running id ≡ Some job)
may_start waiting running at id e = in_place (ready_jobs waiting running) at id e

-- ---- the lowest one
pub lowest : (waiting : List Job) (job : Job) → ((other : Job) → Member other waiting → job.id ≤ other.id) → is_ready waiting [] job ≡ true
lowest waiting job h = ready_of waiting [] job refl (any_none (λ (other : Job). ltb other.id job.id && meets other.cowns job.cowns) waiting (λ other m. ap (λ b. b && meets other.cowns job.cowns) (le-ltb other.id job.id (h other m))))

-- ---- ready jobs share no cown
meets_back : (cs ds : List CownId) → meets cs ds ≡ true → meets ds cs ≡ true
meets_back cs ds e = let c = from_meeting cs ds e in they_meet ds cs c.0 c.1.1 c.1.0

pub ready_apart : (waiting : List Job) (running : List Holder) (job other : Job) → Member job waiting → Member other waiting → job.id ≢ other.id
    → is_ready waiting running job ≡ true → is_ready waiting running other ≡ true → meets other.cowns job.cowns ≡ false
ready_apart waiting running job other m n differ e f = false_unless _ (λ share. elim (which job.id other.id) [
  | inl less ↦ true_not_false _
      (and_of _ _ (lt-ltb job.id other.id less) (meets_back other.cowns job.cowns share))
      (none_any (λ (k : Job). ltb k.id other.id && meets k.cowns other.cowns) waiting (ready_parts waiting running other f).1 job m)
  | inr o ↦ elim o [
    | inl more ↦ true_not_false _
        (and_of _ _ (lt-ltb other.id job.id more) share)
        (none_any (λ (k : Job). ltb k.id job.id && meets k.cowns job.cowns) waiting (ready_parts waiting running job e).1 other n)
    | inr same ↦ differ same
  ]
])
  where
    which : (a b : ℕ) → (a < b) ⊎ ((b < a) ⊎ (a ≡ b))
    which a b = grind arith

pub in_with : (h k : Holder) (hs : List Holder) → Member k (with_holder h hs) → (k ≡ h) ⊎ Member k hs
in_with h k [] (inl e) = inl (sym e)
in_with h k [] (inr m) = absurd m
in_with h k (x ∷ xs) m = elim (ltb h.id x.id) as (λ b. Member k (cond b (h ∷ x ∷ xs) (x ∷ with_holder h xs)) → (k ≡ h) ⊎ Member k (x ∷ xs)) [
  | true ↦ λ n. first n
  | false ↦ λ n. next n (in_with h k xs)
] m
  where
    first : Member k (h ∷ x ∷ xs) → (k ≡ h) ⊎ Member k (x ∷ xs)
    first (inl e) = inl (sym e)
    first (inr n) = inr n

    next : Member k (x ∷ with_holder h xs) → (Member k (with_holder h xs) → (k ≡ h) ⊎ Member k xs) → (k ≡ h) ⊎ Member k (x ∷ xs)
    next (inl e) f = inr (inl e)
    next (inr n) f = elim (f n) [ inl e ↦ inl e | inr o ↦ inr (inr o) ]

pub stays_started : (waiting : List Job) (running : List Holder) (job other : Job) → Member job waiting → Member other waiting → job.id ≢ other.id
    → is_ready waiting running job ≡ true → is_ready waiting running other ≡ true → is_ready (without_job waiting other.id) (with_holder (holder_of other) running) job ≡ true
stays_started waiting running job other m n differ e f =
    let parts = ready_parts waiting running job e in
    ready_of (without_job waiting other.id) (with_holder (holder_of other) running) job
    (any_none (λ (h : Holder). meets h.cowns job.cowns) (with_holder (holder_of other) running) (λ h k. elim (in_with (holder_of other) h running k) [
      | inl same ↦ ap (λ (x : Holder). meets x.cowns job.cowns) same ∙ ready_apart waiting running job other m n differ e f
      | inr there ↦ none_any (λ (x : Holder). meets x.cowns job.cowns) running parts.0 h there
    ]))
    (any_none (λ (k : Job). ltb k.id job.id && meets k.cowns job.cowns) (without_job waiting other.id) (λ k i.
    none_any (λ (x : Job). ltb x.id job.id && meets x.cowns job.cowns) waiting parts.1 k (Member_of_filter (λ (j : Job). not (eqb j.id other.id)) k waiting i).0))

pub stays_ended : (waiting : List Job) (running : List Holder) (job : Job) (id : ℕ) → is_ready waiting running job ≡ true → is_ready waiting (without_holder running id) job ≡ true
stays_ended waiting running job id e =
    let parts = ready_parts waiting running job e in
    ready_of waiting (without_holder running id) job
    (any_none (λ (h : Holder). meets h.cowns job.cowns) (without_holder running id) (λ h m.
    none_any (λ (x : Holder). meets x.cowns job.cowns) running parts.0 h (Member_of_filter (λ (x : Holder). not (eqb x.id id)) h running m).0))
    parts.1

pub stays_spawned : (waiting more : List Job) (running : List Holder) (job : Job) → ((other : Job) → Member other more → job.id ≤ other.id) → is_ready waiting running job ≡ true → is_ready (waiting ++ more) running job ≡ true
stays_spawned waiting more running job above e =
    let parts = ready_parts waiting running job e in
    ready_of (waiting ++ more) running job parts.0
    (any_none (λ (k : Job). ltb k.id job.id && meets k.cowns job.cowns) (waiting ++ more) (λ k m. elim (Member_of_append k waiting more m) [
      | inl n ↦ none_any (λ (x : Job). ltb x.id job.id && meets x.cowns job.cowns) waiting parts.1 k n
      | inr n ↦ ap (λ b. b && meets k.cowns job.cowns) (le-ltb k.id job.id (above k n))
    ]))

-- A number above those of all jobs stays so through the calls of a queue.
use Rattle.std.proofs.Common.{List, Some, [], ap, arith, cond, eqb, false, inl, inr, ltb, not, refl, true, ℕ, ◌+◌, ◌∷◌, ◌≡◌}
use Rattle.std.proofs.lemmas.Bool.{eq-eqb}
use Rattle.lf_base.specs.declared.behaviours.Job.{Job}
use Rattle.lf_base.specs.Sets.{Member}
use Rattle.lf_base.proofs.ListLemmas.Filters.{Member_of_filter}
use Rattle.lf_base.proofs.ListLemmas.Members.{Member_any, Member_of_append}
use Rattle.lf_queue.specs.Queues.{IsAboveAll, QueueState, ended, holder_of, is_running, spawned, started, with_holder}
use Rattle.lf_queue.specs.Ready.{Holder, is_ready, ready_job, ready_jobs}
use Rattle.lf_queue.proofs.ReadyLaws.{in_with}
use Rattle.lf_queue.proofs.Starts.{found_job}

pub above_spawned : (n : ℕ) (job : Job) (queue : QueueState) → job.id ≡ n → IsAboveAll n queue → IsAboveAll (n + 1) (spawned job queue)
above_spawned n job queue e h = (
  λ k m. elim (Member_of_append k queue.waiting (job ∷ []) m) [
    | inl o ↦ let a = h.0 k o in omega arith
    | inr o ↦ elim o [ inl s ↦ let a = ap (λ (j : Job). j.id) s in omega (arith, a, e) | inr z ↦ absurd z ]
  ],
  λ k m. let a = h.1 k m in omega arith,
)

pub above_started : (n : ℕ) (job : Job) (queue : QueueState) (id : ℕ) → ready_job queue.waiting queue.running id ≡ Some job → IsAboveAll n queue → IsAboveAll n (started job queue)
above_started n job queue id e h =
    let found = found_job (ready_jobs queue.waiting queue.running) id job e in
    let there = (Member_of_filter (is_ready queue.waiting queue.running) job queue.waiting found.0).0 in (
      λ k m. h.0 k (Member_of_filter (λ (j : Job). not (eqb j.id job.id)) k queue.waiting m).0,
      λ k m. elim (in_with (holder_of job) k queue.running m) [
        | inl s ↦ let a = h.0 job there in let b = ap (λ (x : Holder). x.id) s in omega (arith, a, b)
        | inr o ↦ h.1 k o
      ],
    )

pub above_ended : (n id : ℕ) (queue : QueueState) → IsAboveAll n queue → IsAboveAll n (ended id queue)
above_ended n id queue h = (h.0, λ k m. h.1 k (Member_of_filter (λ (x : Holder). not (eqb x.id id)) k queue.running m).0)

with_itself : (h : Holder) (hs : List Holder) → Member h (with_holder h hs)
with_itself h [] = inl refl
with_itself h (x ∷ xs) = elim (ltb h.id x.id) as (λ b. Member h (cond b (h ∷ x ∷ xs) (x ∷ with_holder h xs))) [
  | true ↦ inl refl
  | false ↦ inr (with_itself h xs)
]

pub runs_started : (job : Job) (queue : QueueState) → is_running (started job queue).running job.id ≡ true
runs_started job queue = Member_any (λ (x : Holder). eqb x.id job.id) (holder_of job) (with_holder (holder_of job) queue.running) (with_itself (holder_of job) queue.running) (eq-eqb job.id job.id refl)

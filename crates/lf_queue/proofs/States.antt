-- Two states of a queue are one where their parts are; and a queue with other tables of the same contents.
use Rattle.std.proofs.Common.{List, Option, get_or, sym, ℕ, ◌∙◌, ◌≡◌}
use Rattle.lf_base.specs.declared.ids.CownId.{CownId}
use Rattle.lf_queue.specs.declared.row.Row.{Row}
use Rattle.lf_queue.specs.declared.spot.Spot.{Spot}
use Rattle.lf_queue.specs.Lines.{KeepsJobs}
use Rattle.lf_queue.specs.Queues.{QueueState}

pub same_state : (a b : QueueState) → a.waiting ≡ b.waiting → a.running ≡ b.running → a.job_room ≡ b.job_room → a.cown_room ≡ b.cown_room → a ≡ b
same_state a b w r j c = λ i. record { waiting = w i; running = r i; job_room = j i; cown_room = c i }

pub same_keeps : (rows : List Row) (spots : List Spot) (last lasts : CownId → Option ℕ) (place places : ℕ → Option ℕ) (marks set : List ℕ)
    → ((c : CownId) → lasts c ≡ last c) → ((n : ℕ) → places n ≡ place n) → ((p : ℕ) → get_or set p 0 ≡ get_or marks p 0) → KeepsJobs rows spots last place marks → KeepsJobs rows spots lasts places set
same_keeps rows spots last lasts place places marks set same alike equal keeps = record {
  lines = keeps.lines;
  lasts = record {
    within = λ c k e. keeps.lasts.within c k (sym (same c) ∙ e);
    cown = λ c k e. keeps.lasts.cown c k (sym (same c) ∙ e);
    latest = λ c k e. keeps.lasts.latest c k (sym (same c) ∙ e);
    none = λ c e. keeps.lasts.none c (sym (same c) ∙ e);
  };
  counted = keeps.counted;
  together = keeps.together;
  jobs = record {
    rising = keeps.jobs.rising;
    number = keeps.jobs.number;
    cowns = keeps.jobs.cowns;
    leads = λ id p e. keeps.jobs.leads id p (sym (alike id) ∙ e);
    found = λ p l a. alike _ ∙ keeps.jobs.found p l a;
  };
  marked = record {
    marks = λ p l. equal p ∙ keeps.marked.marks p l;
    beyond = λ p l. equal p ∙ keeps.marked.beyond p l;
  };
}

-- A ready job starts.
use Rattle.std.proofs.Common.{Bool, List, None, Option, Some, [], ap, arith, cond, eqb, false, filter, get_or, inl, inr, leb, length, ltb, not, refl, set, subst, suc, sym, true, zero, ℕ, ◌&&◌, ◌++◌, ◌+◌, ◌<◌, ◌≤◌, ◌∙◌, ◌∷◌, ◌≡◌, ◌⊎◌, unwrap_or}
use Rattle.std.proofs.lemmas.Bool.{eq-eqb, eqb-true, le-ltb, lt-ltb}
use Rattle.std.proofs.lemmas.List.{get_or-set_other, get_or-set_same, length-set}
use Rattle.lf_base.specs.declared.behaviours.Job.{Job}
use Rattle.lf_base.specs.declared.ids.CownId.{CownId}
use Rattle.lf_base.specs.Sets.{Member}
use Rattle.lf_base.proofs.ListLemmas.Filters.{Member_of_filter}
use Rattle.lf_base.proofs.ListLemmas.Tests.{some_is}
use Rattle.lf_queue.specs.declared.row.Row.{Row}
use Rattle.lf_queue.specs.declared.row.Stage.{Stage}
use Rattle.lf_queue.specs.declared.row.Stage.TheVariants.{Waiting, Running, Ended}
use Rattle.lf_queue.specs.declared.spot.Spot.{Spot}
use Rattle.lf_queue.specs.Lines.{KeepsJobs, bit, holder_in, holders_from, is_free, is_over, is_waiting, job_in, next_row, over_at, restaged, row_at, row_cowns, waiting_jobs}
use Rattle.lf_queue.specs.Queues.{with_holder, without_job}
use Rattle.lf_queue.specs.Ready.{Holder, is_ready, job_of, ready_job, ready_jobs}
use Rattle.lf_queue.proofs.Joining.{true_not_false}
use Rattle.lf_queue.proofs.Readiness.{none_ahead, ready_is_free}
use Rattle.lf_queue.proofs.Rows.{holder_place, waiting_place}

-- ---- one row in another stage
pub restaged_at : (rows : List Row) (p : ℕ) (stage : Stage) → p < length rows → row_at (restaged rows p stage) p ≡ record (row_at rows p) { stage = stage }
restaged_at rows p stage l = get_or-set_same rows p (record (row_at rows p) { stage = stage }) next_row l

pub restaged_other : (rows : List Row) (p q : ℕ) (stage : Stage) → (q ≡ p → ⊥) → row_at (restaged rows p stage) q ≡ row_at rows q
restaged_other rows p q stage h = get_or-set_other rows p q (record (row_at rows p) { stage = stage }) next_row h

pub restaged_length : (rows : List Row) (p : ℕ) (stage : Stage) → length (restaged rows p stage) ≡ length rows
restaged_length rows p stage = length-set rows p (record (row_at rows p) { stage = stage })

pub one_or_other : (p q : ℕ) → (q ≡ p) ⊎ (q ≡ p → ⊥)
one_or_other p q = elim (eqb q p) as (λ b. eqb q p ≡ b → (q ≡ p) ⊎ (q ≡ p → ⊥)) [
  | true ↦ λ e. inl (eqb-true q p e)
  | false ↦ λ e. inr (λ same. true_not_false (eqb q p) (eq-eqb q p same) e)
] refl

-- all but the stage stays
pub restaged_same : {X : Type 0} (f : Row → X) (rows : List Row) (p : ℕ) (stage : Stage) → ((row : Row) (s : Stage) → f (record row { stage = s }) ≡ f row) → p < length rows → (q : ℕ) → f (row_at (restaged rows p stage) q) ≡ f (row_at rows q)
restaged_same f rows p stage h l q = elim (one_or_other p q) [
  | inl e ↦ ap (λ n. f (row_at (restaged rows p stage) n)) e ∙ ap f (restaged_at rows p stage l) ∙ h (row_at rows p) stage ∙ ap (λ n. f (row_at rows n)) (sym e)
  | inr o ↦ ap f (restaged_other rows p q stage o)
]

-- ---- the waiting jobs without one
filter_all : {X : Type 0} (f : X → Bool) (xs : List X) → ((x : X) → Member x xs → f x ≡ true) → filter f xs ≡ xs
filter_all f [] h = refl
filter_all f (x ∷ xs) h = ap (λ b. cond b (x ∷ filter f xs) (filter f xs)) (h x (inl refl)) ∙ ap (λ l. x ∷ l) (filter_all f xs (λ y m. h y (inr m)))

filter_append : {X : Type 0} (f : X → Bool) (xs ys : List X) → filter f (xs ++ ys) ≡ filter f xs ++ filter f ys
filter_append f [] ys = refl
filter_append f (x ∷ xs) ys = elim (f x) as (λ b. cond b (x ∷ filter f (xs ++ ys)) (filter f (xs ++ ys)) ≡ cond b (x ∷ filter f xs) (filter f xs) ++ filter f ys) [
  | true ↦ ap (λ l. x ∷ l) (filter_append f xs ys)
  | false ↦ filter_append f xs ys
]

pub waiting_without : (rows : List Row) (p id : ℕ) (job : Job) (stage : Stage) → job_in stage ≡ [] → p < length rows → (row_at rows p).stage ≡ Waiting job → eqb job.id id ≡ true
    → ((q : ℕ) (j : Job) → q < length rows → (q ≡ p → ⊥) → (row_at rows q).stage ≡ Waiting j → eqb j.id id ≡ false)
    → waiting_jobs (restaged rows p stage) ≡ without_job (waiting_jobs rows) id
waiting_without [] p id job stage none l e is h = absurd (omega arith)
waiting_without (x ∷ xs) zero id job stage none l e is h =
    ap (λ js. js ++ waiting_jobs xs) none
    ∙ sym (filter_append (λ (j : Job). not (eqb j.id id)) (job_in x.stage) (waiting_jobs xs)
    ∙ ap (λ s. filter (λ (j : Job). not (eqb j.id id)) (job_in s) ++ filter (λ (j : Job). not (eqb j.id id)) (waiting_jobs xs)) e
    ∙ ap (λ b. cond b (job ∷ []) [] ++ filter (λ (j : Job). not (eqb j.id id)) (waiting_jobs xs)) (ap not is)
    ∙ filter_all (λ (j : Job). not (eqb j.id id)) (waiting_jobs xs) (λ j m. let q = waiting_place xs j m in ap not (h (suc q.0) j (let a = q.1.0 in omega arith) (λ z. absurd (omega arith)) q.1.1)))
waiting_without (x ∷ xs) (suc p) id job stage none l e is h =
    ap (λ js. job_in x.stage ++ js) (waiting_without xs p id job stage none (omega arith) e is (λ q j m o w. h (suc q) j (omega (arith, m)) (λ z. o (omega arith)) w))
    ∙ sym (filter_append (λ (j : Job). not (eqb j.id id)) (job_in x.stage) (waiting_jobs xs)
    ∙ ap (λ js. js ++ filter (λ (j : Job). not (eqb j.id id)) (waiting_jobs xs)) (first_stays x.stage (λ j w. h 0 j (omega arith) (λ z. absurd (omega arith)) w)))
  where
    first_stays : (s : Stage) → ((j : Job) → s ≡ Waiting j → eqb j.id id ≡ false) → filter (λ (j : Job). not (eqb j.id id)) (job_in s) ≡ job_in s
    first_stays (Waiting j) h = ap (λ b. cond (not b) (j ∷ []) []) (h j refl)
    first_stays Running h = refl
    first_stays Ended h = refl

-- ---- the running jobs with one more
ahead_of_all : (h : Holder) (hs : List Holder) → ((k : Holder) → Member k hs → h.id < k.id) → with_holder h hs ≡ h ∷ hs
ahead_of_all h [] f = refl
ahead_of_all h (k ∷ ks) f = ap (λ b. cond b (h ∷ k ∷ ks) (k ∷ with_holder h ks)) (lt-ltb h.id k.id (f k (inl refl)))

pub running_with : (spots : List Spot) (from : ℕ) (rows : List Row) (p : ℕ) → p < length rows → holder_in (row_at rows p).stage (record { id = 0; cowns = [] }) ≡ []
    → ((q : ℕ) → q < p → (row_at rows q).stage ≡ Running → (row_at rows q).id < (row_at rows p).id)
    → ((q : ℕ) → p < q → q < length rows → (row_at rows q).stage ≡ Running → (row_at rows p).id < (row_at rows q).id)
    → holders_from spots from (restaged rows p Running) ≡ with_holder (record { id = (row_at rows p).id; cowns = row_cowns spots (from + p) }) (holders_from spots from rows)
running_with spots from [] p l e below above = absurd (omega arith)
running_with spots from (x ∷ xs) zero l e below above =
    ap (λ n. record { id = x.id; cowns = row_cowns spots n } ∷ holders_from spots (suc from) xs) (none_more from)
    ∙ sym (ahead_of_all (record { id = x.id; cowns = row_cowns spots (from + 0) }) (holders_from spots (suc from) xs) (λ k m.
    let q = holder_place spots (suc from) xs k m in
    let a = above (suc q.0) (omega arith) (let l = q.1.0 in omega arith) q.1.1.0 in
    let b = ap (λ (h : Holder). h.id) q.1.1.1 in omega (arith, a, b)))
    ∙ ap (λ hs. with_holder (record { id = x.id; cowns = row_cowns spots (from + 0) }) (hs ++ holders_from spots (suc from) xs)) (sym (none_in x.stage e (record { id = x.id; cowns = row_cowns spots from })))
  where
    none_more : (n : ℕ) → n ≡ n + 0
    none_more n = omega arith

    none_in : (s : Stage) → holder_in s (record { id = 0; cowns = [] }) ≡ [] → (h : Holder) → holder_in s h ≡ []
    none_in (Waiting j) e h = refl
    none_in Running e h = absurd (cc)
    none_in Ended e h = refl
running_with spots from (x ∷ xs) (suc p) l e below above =
    ap (λ hs. holder_in x.stage (record { id = x.id; cowns = row_cowns spots from }) ++ hs)
    (running_with spots (suc from) xs p (omega arith) e (λ q m r. below (suc q) (omega (arith, m)) r) (λ q m n r. above (suc q) (omega (arith, m)) (omega (arith, n)) r)
    ∙ ap (λ n. with_holder (record { id = (row_at xs p).id; cowns = row_cowns spots n }) (holders_from spots (suc from) xs)) (sym (plus_suc from p)))
    ∙ past x.stage (λ r. below 0 (omega arith) r)
  where
    plus_suc : (a b : ℕ) → a + suc b ≡ suc a + b
    plus_suc a b = omega arith

    past : (s : Stage) → (s ≡ Running → x.id < (row_at xs p).id)
        → holder_in s (record { id = x.id; cowns = row_cowns spots from }) ++ with_holder (record { id = (row_at xs p).id; cowns = row_cowns spots (from + suc p) }) (holders_from spots (suc from) xs)
        ≡ with_holder (record { id = (row_at xs p).id; cowns = row_cowns spots (from + suc p) }) (holder_in s (record { id = x.id; cowns = row_cowns spots from }) ++ holders_from spots (suc from) xs)
    past (Waiting j) h = refl
    past Running h = sym (ap (λ b. cond b (record { id = (row_at xs p).id; cowns = row_cowns spots (from + suc p) } ∷ record { id = x.id; cowns = row_cowns spots from } ∷ holders_from spots (suc from) xs) (record { id = x.id; cowns = row_cowns spots from } ∷ with_holder (record { id = (row_at xs p).id; cowns = row_cowns spots (from + suc p) }) (holders_from spots (suc from) xs))) (le-ltb (row_at xs p).id x.id (let a = h refl in omega arith)))
    past Ended h = refl

-- ---- the ready job of a number
pub found_job : (jobs : List Job) (id : ℕ) (job : Job) → job_of jobs id ≡ Some job → Member job jobs × (job.id ≡ id)
found_job [] id job e = absurd (cc)
found_job (x ∷ xs) id job e = go (eqb x.id id) refl e (found_job xs id job)
  where
    go : (b : Bool) → eqb x.id id ≡ b → cond b (Some x) (job_of xs id) ≡ Some job → (job_of xs id ≡ Some job → Member job xs × (job.id ≡ id)) → Member job (x ∷ xs) × (job.id ≡ id)
    go true t e rest = let same : x ≡ job = ap (λ o. unwrap_or o x) e in (inl same, ap (λ (j : Job). j.id) (sym same) ∙ eqb-true x.id id t)
    go false t e rest = let r = rest e in (inr r.0, r.1)

module _ (rows : List Row) (spots : List Spot) (last : CownId → Option ℕ) (place : ℕ → Option ℕ) (marks : List ℕ) (keeps : KeepsJobs rows spots last place marks) (id : ℕ) (job : Job) (ready : ready_job (waiting_jobs rows) (holders_from spots 0 rows) id ≡ Some job) where
  found : Member job (ready_jobs (waiting_jobs rows) (holders_from spots 0 rows)) × (job.id ≡ id)
  found = found_job (ready_jobs (waiting_jobs rows) (holders_from spots 0 rows)) id job ready

  parts : Member job (waiting_jobs rows) × (is_ready (waiting_jobs rows) (holders_from spots 0 rows) job ≡ true)
  parts = Member_of_filter (is_ready (waiting_jobs rows) (holders_from spots 0 rows)) job (waiting_jobs rows) found.0

  -- its row
  pub its_row : (p : ℕ) × ((p < length rows) × (((row_at rows p).stage ≡ Waiting job) × (((row_at rows p).behind ≡ 0) × (((row_at rows p).id ≡ id) × (place id ≡ Some p)))))
  its_row =
      let p = waiting_place rows job parts.0 in
      let n = sym (keeps.jobs.number p.0 job p.1.0 p.1.1) ∙ found.1 in (
        p.0,
        (
          p.1.0,
          (
            p.1.1,
            (
              eqb-true (row_at rows p.0).behind 0 (sym (ready_is_free rows spots last place marks keeps p.0 job p.1.0 p.1.1) ∙ parts.1),
              (n, ap place (sym n) ∙ keeps.jobs.found p.0 p.1.0 (ap is_over p.1.1)),
            ),
          ),
        ),
      )

  -- the row at which the number is found
  pub ready_row : (q : ℕ) → Some q ≡ place id → (q < length rows) × (((row_at rows q).stage ≡ Waiting job) × ((row_at rows q).behind ≡ 0))
  ready_row q e =
      let p = its_row in
      let same : p.0 ≡ q = sym (some_is q p.0 (e ∙ p.1.1.1.1.1)) in
      subst (λ n. (n < length rows) × (((row_at rows n).stage ≡ Waiting job) × ((row_at rows n).behind ≡ 0))) same (p.1.0, (p.1.1.0, p.1.1.1.0))

  pub not_missing : None ≡ place id → ⊥
  not_missing e = none_some (place id) its_row.0 (sym e) its_row.1.1.1.1.1
    where
      none_some : (o : Option ℕ) (q : ℕ) → o ≡ None → o ≡ Some q → ⊥
      none_some o q e f = cc

module _ (rows : List Row) (spots : List Spot) (last : CownId → Option ℕ) (place : ℕ → Option ℕ) (marks : List ℕ) (keeps : KeepsJobs rows spots last place marks) (p : ℕ) (job : Job) (l : p < length rows) (waits : (row_at rows p).stage ≡ Waiting job) (free : (row_at rows p).behind ≡ 0) where
  abbrev runs : List Row
  runs = restaged rows p Running

  pub marked_one : get_or marks p 0 ≡ 1
  marked_one = keeps.marked.marks p l ∙ ap (λ s. bit (is_waiting s && eqb (row_at rows p).behind 0)) waits ∙ ap bit (eq-eqb (row_at rows p).behind 0 free)

  same_over : (q : ℕ) → over_at runs q ≡ over_at rows q
  same_over q = elim (one_or_other p q) [
    | inl e ↦ ap (over_at runs) e ∙ ap (λ (r : Row). is_over r.stage) (restaged_at rows p Running l) ∙ sym (ap (over_at rows) e ∙ ap is_over waits)
    | inr o ↦ ap (λ (r : Row). is_over r.stage) (restaged_other rows p q Running o)
  ]

  runs_length : length runs ≡ length rows
  runs_length = restaged_length rows p Running

  ids : (q : ℕ) → (row_at runs q).id ≡ (row_at rows q).id
  ids q = restaged_same (λ (r : Row). r.id) rows p Running (λ r s. refl) l q

  waits_before : (q : ℕ) (j : Job) → (row_at runs q).stage ≡ Waiting j → (row_at rows q).stage ≡ Waiting j
  waits_before q j e = elim (one_or_other p q) [
    | inl same ↦ absurd (never j (sym (ap (λ (r : Row). r.stage) (restaged_at rows p Running l)) ∙ ap (λ n. (row_at runs n).stage) (sym same) ∙ e))
    | inr o ↦ sym (ap (λ (r : Row). r.stage) (restaged_other rows p q Running o)) ∙ e
  ]
    where
      never : (j : Job) → Running ≡ Waiting j → ⊥
      never j e = cc

  pub started_keeps : KeepsJobs runs spots last place (set marks p 0)
  started_keeps = record {
    lines = record {
      ahead = λ s q m e. same_over s.row ∙ keeps.lines.ahead s q m e;
      later = keeps.lines.later;
      there = keeps.lines.there;
      nearest = keeps.lines.nearest;
      led = λ s t m n e less a. keeps.lines.led s t m n e less (sym (same_over s.row) ∙ a);
      order = λ s t m n e less w. same_over s.row ∙ elim (one_or_other p t.row) [
        | inl same ↦ elim (over_at rows s.row) as (λ b. over_at rows s.row ≡ b → b ≡ true) [
          | true ↦ λ o. refl
          | false ↦ λ o. absurd (none_ahead rows spots last place marks keeps p l free s t m n e same (omega (arith, same, less)) o)
        ] refl
        | inr o ↦ keeps.lines.order s t m n e less (sym (ap (λ (r : Row). is_waiting r.stage) (restaged_other rows p t.row Running o)) ∙ w)
      ];
    };
    lasts = keeps.lasts;
    counted = λ q m. restaged_same (λ (r : Row). r.behind) rows p Running (λ r s. refl) l q ∙ keeps.counted q (omega (arith, runs_length, m));
    together = record {
      range = λ q k m n. keeps.together.range q k (omega (arith, runs_length, m)) n ∙ sym (restaged_same (λ (r : Row). leb r.first k && ltb k r.end) rows p Running (λ r s. refl) l q);
      ends = λ q m. subst (λ n. n ≤ length spots) (sym (restaged_same (λ (r : Row). r.end) rows p Running (λ r s. refl) l q)) (keeps.together.ends q (omega (arith, runs_length, m)));
      begins = λ q m. let a = restaged_same (λ (r : Row). r.end) rows p Running (λ r s. refl) l q in let b = restaged_same (λ (r : Row). r.first) rows p Running (λ r s. refl) l q in let d = keeps.together.begins q (omega (arith, runs_length, m)) in omega (arith, a, b, d);
      rows_there = λ s m. let a = keeps.together.rows_there s m in omega (arith, runs_length, a);
    };
    jobs = record {
      rising = λ a b less m x y. let r = keeps.jobs.rising a b less (omega (arith, runs_length, m)) (sym (same_over a) ∙ x) (sym (same_over b) ∙ y) in let i = ids a in let j = ids b in omega (arith, r, i, j);
      number = λ q j m e. keeps.jobs.number q j (omega (arith, runs_length, m)) (waits_before q j e) ∙ sym (ids q);
      cowns = λ q j m e. keeps.jobs.cowns q j (omega (arith, runs_length, m)) (waits_before q j e);
      leads = λ n q e. let r = keeps.jobs.leads n q e in (let a = r.0 in omega (arith, runs_length, a), (same_over q ∙ r.1.0, ids q ∙ r.1.1));
      found = λ q m a. ap place (ids q) ∙ keeps.jobs.found q (omega (arith, runs_length, m)) (sym (same_over q) ∙ a);
    };
    marked = record {
      marks = λ q m. elim (one_or_other p q) [
        | inl e ↦ ap (λ n. get_or (set marks p 0) n 0) e ∙ set_none marks p ∙ sym (ap (λ n. bit (is_free (row_at runs n))) e ∙ ap (λ r. bit (is_free r)) (restaged_at rows p Running l))
        | inr o ↦ get_or-set_other marks p q 0 0 o ∙ keeps.marked.marks q (omega (arith, runs_length, m)) ∙ ap (λ r. bit (is_free r)) (sym (restaged_other rows p q Running o))
      ];
      beyond = λ q m. get_or-set_other marks p q 0 0 (λ e. absurd (omega (arith, runs_length, m, e, l))) ∙ keeps.marked.beyond q (omega (arith, runs_length, m));
    };
  }
    where
      set_none : (xs : List ℕ) (p : ℕ) → get_or (set xs p 0) p 0 ≡ 0
      set_none [] p = refl
      set_none (x ∷ xs) zero = refl
      set_none (x ∷ xs) (suc p) = set_none xs p

  alive : (q : ℕ) → (row_at rows q).stage ≡ Running → over_at rows q ≡ false
  alive q e = ap is_over e

  pub started_waiting : waiting_jobs runs ≡ without_job (waiting_jobs rows) job.id
  started_waiting = waiting_without rows p job.id job Running refl l waits (eq-eqb job.id job.id refl) (λ q j m o w.
      elim (eqb j.id job.id) as (λ b. eqb j.id job.id ≡ b → b ≡ false) [
        | true ↦ λ e. absurd (
            let same = eqb-true j.id job.id e in
            let a = keeps.jobs.number q j m w in
            let b = keeps.jobs.number p job l waits in
            elim (which q p) [
              | inl less ↦ let r = keeps.jobs.rising q p less l (ap is_over w) (ap is_over waits) in omega (arith, same, a, b, r)
              | inr x ↦ elim x [
                | inl more ↦ let r = keeps.jobs.rising p q more m (ap is_over waits) (ap is_over w) in omega (arith, same, a, b, r)
                | inr one ↦ o one
              ]
            ])
        | false ↦ λ e. refl
      ] refl)
    where
      which : (a b : ℕ) → (a < b) ⊎ ((b < a) ⊎ (a ≡ b))
      which a b = grind arith

  pub started_running : holders_from spots 0 runs ≡ with_holder (record { id = job.id; cowns = job.cowns }) (holders_from spots 0 rows)
  started_running =
      running_with spots 0 rows p l (ap (λ s. holder_in s (record { id = 0; cowns = [] })) waits)
      (λ q m e. keeps.jobs.rising q p m l (alive q e) (ap is_over waits))
      (λ q m n e. keeps.jobs.rising p q m n (ap is_over waits) (alive q e))
      ∙ ap (λ n. with_holder (record { id = (row_at rows p).id; cowns = row_cowns spots n }) (holders_from spots 0 rows)) (none_less p)
      ∙ ap (λ n. with_holder (record { id = n; cowns = row_cowns spots p }) (holders_from spots 0 rows)) (sym (keeps.jobs.number p job l waits))
      ∙ ap (λ cs. with_holder (record { id = job.id; cowns = cs }) (holders_from spots 0 rows)) (sym (keeps.jobs.cowns p job l waits))
    where
      none_less : (n : ℕ) → 0 + n ≡ n
      none_less n = omega arith

pub same_waiting : (a b : Job) → Waiting a ≡ Waiting b → a ≡ b
same_waiting a b e = cc

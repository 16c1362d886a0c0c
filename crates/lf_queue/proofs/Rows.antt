-- Rows by their place, and the jobs that they stand for.
use Rattle.std.proofs.Common.{Bool, List, [], ap, arith, false, inl, inr, length, refl, subst, suc, sym, zero, ℕ, ◌++◌, ◌+◌, ◌<◌, ◌≤◌, ◌∙◌, ◌∷◌, ◌≡◌, ◌⊎◌}
use Rattle.std.proofs.lemmas.List.{get_or_append_left, get_or_at, get_or_past}
use Rattle.std.proofs.Common.{append_assoc}
use Rattle.lf_base.specs.declared.behaviours.Job.{Job}
use Rattle.lf_base.specs.Sets.{Member}
use Rattle.lf_base.proofs.ListLemmas.Members.{Member_of_append, Member_right}
use Rattle.lf_queue.specs.declared.row.Row.{Row}
use Rattle.lf_queue.specs.declared.row.Stage.{Stage}
use Rattle.lf_queue.specs.declared.row.Stage.TheVariants.{Waiting, Running, Ended}
use Rattle.lf_queue.specs.declared.spot.Spot.{Spot}
use Rattle.lf_queue.specs.Lines.{InLines, holder_in, holders_from, is_over, job_in, next_row, row_at, row_cowns, waiting_jobs}
use Rattle.lf_queue.specs.Ready.{Holder}

pub row_before : (rows : List Row) (row : Row) (p : ℕ) → p < length rows → row_at (rows ++ row ∷ []) p ≡ row_at rows p
row_before rows row p l = get_or_append_left rows (row ∷ []) next_row p l

pub row_last : (rows : List Row) (row : Row) → row_at (rows ++ row ∷ []) (length rows) ≡ row
row_last rows row = get_or_at rows row [] next_row (length rows) refl

pub row_past : (rows : List Row) (p : ℕ) → length rows ≤ p → row_at rows p ≡ next_row
row_past rows p l = get_or_past rows p next_row l

pub lines_for : (over waits others later : ℕ → Bool) (spots : List Spot) → ((p : ℕ) → others p ≡ over p) → ((p : ℕ) → later p ≡ waits p) → InLines over waits spots → InLines others later spots
lines_for over waits others later spots same alike h = record {
  ahead = λ s q m e. same s.row ∙ h.ahead s q m e;
  later = h.later;
  there = h.there;
  nearest = h.nearest;
  led = λ s t m k e l a. h.led s t m k e l (sym (same s.row) ∙ a);
  order = λ s t m k e l w. same s.row ∙ h.order s t m k e l (sym (alike t.row) ∙ w);
}

-- ---- the jobs that wait
pub waiting_append : (xs ys : List Row) → waiting_jobs (xs ++ ys) ≡ waiting_jobs xs ++ waiting_jobs ys
waiting_append [] ys = refl
waiting_append (x ∷ xs) ys = ap (λ l. job_in x.stage ++ l) (waiting_append xs ys) ∙ sym (append_assoc (job_in x.stage) (waiting_jobs xs) (waiting_jobs ys))

pub waiting_member : (rows : List Row) (p : ℕ) (job : Job) → p < length rows → (row_at rows p).stage ≡ Waiting job → Member job (waiting_jobs rows)
waiting_member [] p job l e = absurd (omega arith)
waiting_member (x ∷ xs) zero job l e = subst (λ stage. Member job (job_in stage ++ waiting_jobs xs)) (sym e) (inl refl)
waiting_member (x ∷ xs) (suc p) job l e = Member_right job (job_in x.stage) (waiting_jobs xs) (waiting_member xs p job (omega arith) e)

in_stage : (stage : Stage) (job : Job) → Member job (job_in stage) → stage ≡ Waiting job
in_stage (Waiting j) job (inl e) = ap (λ x. Waiting x) e
in_stage (Waiting j) job (inr m) = absurd m
in_stage Running job m = absurd m
in_stage Ended job m = absurd m

pub waiting_place : (rows : List Row) (job : Job) → Member job (waiting_jobs rows) → (p : ℕ) × ((p < length rows) × ((row_at rows p).stage ≡ Waiting job))
waiting_place [] job m = absurd m
waiting_place (x ∷ xs) job m = elim (Member_of_append job (job_in x.stage) (waiting_jobs xs) m) [
  | inl n ↦ (0, (omega arith, in_stage x.stage job n))
  | inr n ↦ let r = waiting_place xs job n in (suc r.0, (omega (arith, r.1.0), r.1.1))
]

-- ---- the jobs that run
plus_suc : (p q : ℕ) → p + suc q ≡ suc p + q
plus_suc p q = omega arith

abbrev pub holder_at : List Spot → List Row → ℕ → ℕ → Holder
holder_at spots rows from p = record { id = (row_at rows p).id; cowns = row_cowns spots (from + p) }

pub holder_member : (spots : List Spot) (from : ℕ) (rows : List Row) (p : ℕ) → p < length rows → (row_at rows p).stage ≡ Running → Member (holder_at spots rows from p) (holders_from spots from rows)
holder_member spots from [] p l e = absurd (omega arith)
holder_member spots from (x ∷ xs) zero l e =
    subst (λ stage. Member (holder_at spots (x ∷ xs) from 0) (holder_in stage (record { id = x.id; cowns = row_cowns spots from }) ++ holders_from spots (suc from) xs)) (sym e)
    (inl (ap (λ n. record { id = x.id; cowns = row_cowns spots n }) (none_more from)))
  where
    none_more : (n : ℕ) → n ≡ n + 0
    none_more n = omega arith
holder_member spots from (x ∷ xs) (suc p) l e =
    Member_right (holder_at spots (x ∷ xs) from (suc p)) (holder_in x.stage (record { id = x.id; cowns = row_cowns spots from })) (holders_from spots (suc from) xs)
    (subst (λ n. Member (record { id = (row_at xs p).id; cowns = row_cowns spots n }) (holders_from spots (suc from) xs)) (sym (plus_suc from p)) (holder_member spots (suc from) xs p (omega arith) e))

holds_stage : (stage : Stage) (h k : Holder) → Member h (holder_in stage k) → (stage ≡ Running) × (k ≡ h)
holds_stage (Waiting j) h k m = absurd m
holds_stage Running h k (inl e) = (refl, e)
holds_stage Running h k (inr m) = absurd m
holds_stage Ended h k m = absurd m

pub holder_place : (spots : List Spot) (from : ℕ) (rows : List Row) (h : Holder) → Member h (holders_from spots from rows) → (p : ℕ) × ((p < length rows) × (((row_at rows p).stage ≡ Running) × (holder_at spots rows from p ≡ h)))
holder_place spots from [] h m = absurd m
holder_place spots from (x ∷ xs) h m = elim (Member_of_append h (holder_in x.stage (record { id = x.id; cowns = row_cowns spots from })) (holders_from spots (suc from) xs) m) [
  | inl n ↦
      let s = holds_stage x.stage h _ n in
      (0, (omega arith, (s.0, ap (λ n. record { id = x.id; cowns = row_cowns spots n }) (none_more from) ∙ s.1)))
  | inr n ↦
      let r = holder_place spots (suc from) xs h n in
      (suc r.0, (omega (arith, r.1.0), (r.1.1.0, ap (λ n. record { id = (row_at xs r.0).id; cowns = row_cowns spots n }) (plus_suc from r.0) ∙ r.1.1.1)))
]
  where
    none_more : (n : ℕ) → n + 0 ≡ n
    none_more n = omega arith

pub holders_append : (spots : List Spot) (from : ℕ) (xs ys : List Row) → holders_from spots from (xs ++ ys) ≡ holders_from spots from xs ++ holders_from spots (from + length xs) ys
holders_append spots from [] ys = ap (λ n. holders_from spots n ys) (none_more from)
  where
    none_more : (n : ℕ) → n ≡ n + 0
    none_more n = omega arith
holders_append spots from (x ∷ xs) ys =
    ap (λ l. holder_in x.stage (record { id = x.id; cowns = row_cowns spots from }) ++ l) (holders_append spots (suc from) xs ys ∙ ap (λ n. holders_from spots (suc from) xs ++ holders_from spots n ys) (sym (plus_suc from (length xs))))
    ∙ sym (append_assoc (holder_in x.stage (record { id = x.id; cowns = row_cowns spots from })) (holders_from spots (suc from) xs) (holders_from spots (from + suc (length xs)) ys))

-- the cowns of the rows decide
pub holders_same : (spots others : List Spot) (from : ℕ) (rows : List Row) → ((p : ℕ) → p < from + length rows → row_cowns others p ≡ row_cowns spots p) → holders_from others from rows ≡ holders_from spots from rows
holders_same spots others from [] h = refl
holders_same spots others from (x ∷ xs) h =
    ap (λ cowns. holder_in x.stage (record { id = x.id; cowns = cowns }) ++ holders_from others (suc from) xs) (h from (omega arith))
    ∙ ap (λ l. holder_in x.stage (record { id = x.id; cowns = row_cowns spots from }) ++ l) (holders_same spots others (suc from) xs (λ p l. h p (omega (arith, l))))

-- ---- a job that isn't over waits or runs
pub waits_or_runs : (stage : Stage) → is_over stage ≡ false → ((job : Job) × (stage ≡ Waiting job)) ⊎ (stage ≡ Running)
waits_or_runs (Waiting job) e = inl (job, refl)
waits_or_runs Running e = inr refl
waits_or_runs Ended e = absurd (cc)

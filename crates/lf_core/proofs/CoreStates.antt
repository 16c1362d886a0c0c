-- The state of a core whose parts were changed by its calls.
use Rattle.std.proofs.Common.{List, [], ap, arith, inl, inr, length, map, refl, reverse, suc, sym, ℕ, true, ◌++◌, ◌+◌, ◌∙◌, ◌∷◌, ◌≡◌, ◌||◌}
use Rattle.std.specs.List.{sum_by}
use Rattle.std.proofs.lemmas.List.{reverse-append}
use Rattle.std.proofs.lemmas.List.Sums.{sum_by-append, sum_by-cons}
use Rattle.lf_base.specs.declared.behaviours.Job.{Job}
use Rattle.lf_base.specs.declared.behaviours.Spawn.{Spawn}
use Rattle.lf_base.specs.declared.ids.CownId.{CownId}
use Rattle.lf_base.specs.declared.ids.ObjId.{ObjId}
use Rattle.lf_base.specs.declared.values.Value.{Value}
use Rattle.lf_base.specs.FreezeResult.{insert_rows}
use Rattle.lf_base.specs.Names.{same_name}
use Rattle.lf_base.specs.Owners.{has_row, names}
use Rattle.lf_base.specs.PlainState.{Row}
use Rattle.lf_base.specs.Sets.{Member}
use Rattle.lf_base.proofs.NameLemmas.SameNames.{same_name_itself}
use Rattle.lf_core.proofs.Tests.{or_right}
use Rattle.lf_core.specs.declared.journal.Entry.{Entry}
use Rattle.lf_core.specs.CoreViews.{core_state}
use Rattle.lf_core.specs.Cores.{with_ended, with_started}
use Rattle.lf_core.specs.Keyed.{put_all, without}
use Rattle.lf_core.specs.Reading.{Parked, seen}
use Rattle.lf_core.specs.World.{Outcome, numbered}
use Rattle.lf_core.proofs.Seen.{put_all_seen, without_seen}
use Rattle.lf_frozen.specs.declared.row.FrozenRow.{FrozenRow}
use Rattle.lf_frozen.specs.FrozenRows.{as_row, frozen_names, has_frozen_row, with_all_frozen}
use Rattle.lf_frozen.proofs.RowLaws.{rows_put}
use Rattle.lf_queue.specs.Queues as queues
use Rattle.lf_queue.specs.Queues.{QueueState, without_holder}

plus_one : (n : ℕ) → n + 1 ≡ suc n
plus_one n = omega arith

-- ---- a start
pub taken_state : {C : Type 0} (content : C → Value) (rows : C → List Row) (q q' : QueueState) (before after : List (CownId × C)) (cowns : List CownId) (frozen : List FrozenRow) (log : List Entry) (next started : ℕ) (ids ids' : List ℕ) (budget : ℕ) (job : Job)
    → q' ≡ queues.started job q → after ≡ without cowns before → cowns ≡ job.cowns → ids' ≡ ids
    → core_state q' (seen content rows after) frozen log next (started + 1) ids' budget ≡ with_started job (core_state q (seen content rows before) frozen log next started ids budget)
taken_state content rows q q' before after cowns frozen log next started ids ids' budget job eq ek ec ei =
    (λ i. core_state (eq i) (seen content rows (ek i)) frozen log next (started + 1) (ei i) budget)
    ∙ ap (λ n. core_state (queues.started job q) (seen content rows (without cowns before)) frozen log next n ids budget) (plus_one started)
    ∙ ap (λ parked. core_state (queues.started job q) parked frozen log next (suc started) ids budget) (sym (without_seen content rows cowns before) ∙ ap (λ cs. without cs (seen content rows before)) ec)

-- ---- an end
pub ended_state : {C : Type 0} (content : C → Value) (rows : C → List Row) (q q' : QueueState) (before after : List (CownId × C)) (frozen frozen' : List FrozenRow) (log log' : List Entry) (next next' started : ℕ) (ids : List ℕ) (budget id : ℕ) (held made : List (CownId × C)) (new : List FrozenRow) (done : Outcome Parked)
    → q'.waiting ≡ q.waiting ++ numbered next done.spawns → q'.running ≡ without_holder q.running id
    → after ≡ put_all held (put_all made before) → frozen' ≡ with_all_frozen new frozen
    → log' ≡ log ++ record { id = id; lines = done.lines; fault = done.fault } ∷ [] → next' ≡ next + length done.spawns
    → done.held ≡ seen content rows held → done.made ≡ seen content rows made → done.rows ≡ map as_row new
    → core_state q' (seen content rows after) frozen' log' next' started ids budget ≡ with_ended id done (core_state q (seen content rows before) frozen log next started ids budget)
ended_state content rows q q' before after frozen frozen' log log' next next' started ids budget id held made new done ew er ek ef el en eh em es =
    λ i. record {
      world = record { waiting = ew i; running = er i; parked = parked i; frozen = all_frozen i; journal = el i; next = en i; started = started };
      abandoned = ids;
      budget = budget;
    }
  where
    both : (xs ys zs : List (CownId × Parked)) → put_all xs (put_all ys zs) ≡ put_all (xs ++ ys) zs
    both [] ys zs = refl
    both (x ∷ xs) ys zs = ap (λ l. put_all (x ∷ []) l) (both xs ys zs)

    parked : seen content rows after ≡ put_all (done.held ++ done.made) (seen content rows before)
    parked = ap (seen content rows) ek ∙ sym (put_all_seen content rows held (put_all made before))
        ∙ ap (put_all (seen content rows held)) (sym (put_all_seen content rows made before))
        ∙ both (seen content rows held) (seen content rows made) (seen content rows before)
        ∙ (λ i. put_all (sym eh i ++ sym em i) (seen content rows before))

    all_frozen : map as_row frozen' ≡ insert_rows done.rows (map as_row frozen)
    all_frozen = ap (map as_row) ef ∙ rows_put new frozen ∙ ap (λ rs. insert_rows rs (map as_row frozen)) (sym es)

-- a row of that name is there, as it is seen
pub row_seen : (rows : List FrozenRow) (o : ObjId) → has_row (map as_row rows) o ≡ has_frozen_row rows o
row_seen [] o = refl
row_seen (x ∷ rows) o = ap (λ b. same_name x.id o || b) (row_seen rows o)

pub names_seen : (rows : List FrozenRow) → names (map as_row rows) ≡ frozen_names rows
names_seen [] = refl
names_seen (x ∷ rows) = ap (λ l. x.id ∷ l) (names_seen rows)

pub row_of : (rows : List FrozenRow) (row : FrozenRow) → Member row rows → has_row (map as_row rows) row.id ≡ true
row_of [] row m = absurd m
row_of (x ∷ rows) row (inl e) = ap (λ b. b || has_row (map as_row rows) row.id) (ap (λ (y : FrozenRow). same_name y.id row.id) e ∙ same_name_itself row.id)
row_of (x ∷ rows) row (inr m) = or_right (same_name x.id row.id) (has_row (map as_row rows) row.id) (row_of rows row m)

-- ---- spawns one after another
pub reversed_last : {X : Type 0} (xs : List X) (x : X) → reverse (xs ++ x ∷ []) ≡ x ∷ reverse xs
reversed_last xs x = reverse-append xs (x ∷ [])

pub numbered_next : (n : ℕ) (s : Spawn) (ss : List Spawn) → numbered n (s ∷ ss) ≡ record { id = n; body = s.body; cowns = s.cowns; values = s.values } ∷ numbered (n + 1) ss
numbered_next n s ss = ap (λ m. record { id = n; body = s.body; cowns = s.cowns; values = s.values } ∷ numbered m ss) (sym (plus_one n))

pub sum_turned : (f : Spawn → ℕ) (xs : List Spawn) → sum_by f (reverse xs) ≡ sum_by f xs
sum_turned f [] = refl
sum_turned f (x ∷ xs) = ap (sum_by f) (reverse-append (x ∷ []) xs) ∙ sum_by-append f (reverse xs) (x ∷ []) ∙ ap (λ n. n + sum_by f (x ∷ [])) (sum_turned f xs) ∙ swapped (sum_by f xs) (sum_by f (x ∷ [])) (f x) (sum_by-cons f x []) ∙ sym (sum_by-cons f x xs)
  where
    swapped : (a b d : ℕ) → b ≡ d + 0 → a + b ≡ d + a
    swapped a b d e = omega (arith, e)

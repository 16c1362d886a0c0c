-- All interleavings.
use Rattle.std.proofs.Common.{◌≡◌, ℕ, zero, suc, ◌<◌, ◌≤◌, true, false, cond, not, ◌&&◌, eqb, ltb, List, [], ◌∷◌, ◌++◌, length, Option, Some, None, map, refl, ap, sym, ◌∙◌, subst, inl, inr, arith}
use Rattle.lf_base.proofs.ListLemmas.Filters.{Member_filter, Member_of_filter}
use Rattle.lf_base.proofs.ListLemmas.Members.{Member_map, Member_of_flat_map, Member_of_map, any_Member, Member_left}
use Rattle.lf_core.proofs.Tests.{no_both, not_true, or_split}
use Rattle.lf_laws.proofs.Rows.RowsByName.{owner_has}
use Rattle.std.specs.List.{filter, list_any}
use Rattle.std.proofs.lemmas.Bool.{eqb-false, eqb-true, eq-eqb, ltb-true, ne_eqb}
use Rattle.lf_base.specs.declared.behaviours.Job.{Job}
use Rattle.lf_base.specs.declared.ids.CownId.{CownId}
use Rattle.lf_base.specs.declared.ids.ObjId.{ObjId}
use Rattle.lf_base.specs.Owners.{has_row, row_at, row_owner}
use Rattle.lf_base.specs.PlainState.{Row}
use Rattle.lf_base.specs.Sets.{Member}
use Rattle.lf_core.specs.declared.journal.Entry.{Entry}
use Rattle.lf_core.specs.Keyed.{at, pick}
use Rattle.lf_queue.specs.Queues.{holder_of, with_holder}
use Rattle.lf_queue.specs.Ready.{Holder, among, job_of, meets}
use Rattle.lf_queue.proofs.ReadyLaws.{in_with}
use Rattle.lf_core.specs.Tracks.{blocks}
use Rattle.lf_core.specs.Lawful.{Good, Keeps, Larger, Lawful, Reached, at_first, cowns_of_values, next_one}
use Rattle.lf_core.specs.Reading.{Reading, names_in, row_cowns}
use Rattle.lf_core.specs.Tracks.{IsFree, Tracks, Numbered, Fits, KnowsCowns}
use Rattle.lf_core.specs.World.{IsLegalFrom, Outcome, Runs, World, committed, done, done_if, first, is_ready, numbered, order_of, ready_job, ready_jobs, serial, serial_from}
use Rattle.lf_core.specs.Events.{Machine, Run, Whole, Event, Start, Step, End, run_in, begun, stepped, ended_by, ended, happens, happen, steps, Computes, RunsOn, Kept, first_whole, Interleavings, at_once}
use Rattle.lf_core.proofs.Tests.{is_false}
use Rattle.lf_core.proofs.Keyed.{at_pick, among_Member}
use Rattle.lf_core.proofs.Holders.{in_left, is_other, left_is, other, with_here, with_there}
use Rattle.lf_core.proofs.Tracks.{disjoint, ready_there, same_contents, start_tracks, contents_stay, end_tracks, free_there}
use Rattle.lf_core.proofs.Good.{at_insert_rows, cond_some, fits, good_after, look_rows, not_elsewhere, not_frozen, frozen_is, pick_member}

-- ---- the worlds of Serial
pub good_first : {C : Type 0} (r : Reading C) → Good r (first {C = C})
good_first r = record {
  numbered = record {
    idle = refl;
    unique = λ j k p q e. elim p [ inl x ↦ elim q [ inl y ↦ sym x ∙ y | inr y ↦ absurd y ] | inr x ↦ absurd x ];
    below = λ j p. elim p [ inl x ↦ let h : 0 ≡ j.id = ap (λ (j : Job). j.id) x in omega arith | inr x ↦ absurd x ];
    past = λ e p. absurd p;
    fresh = λ j e p q same. absurd q;
  };
  count = refl;
  job_cowns = λ k c p e. elim p [ inl x ↦ let y : Member c ([] ++ cowns_of_values []) = subst (λ (k : Job). Member c (k.cowns ++ cowns_of_values k.values)) (sym x) e in absurd y | inr x ↦ absurd x ];
  content_cowns = λ c h. absurd (let e = h.there in cc);
  frozen_cowns = λ c m. absurd m;
  cown_births = λ c v e. absurd cc;
  name_births = λ n h. absurd (let e = h.there in cc);
  frozen_births = λ n e. absurd cc;
  apart = λ c d v w n e h p q. absurd cc;
  frozen_apart = λ n h. refl;
}

pub ready_waits : {C : Type 0} (s : World C) (j : Job) → Member j (ready_jobs s) → Member j s.waiting
ready_waits s j m = (Member_of_filter (is_ready s) j s.waiting m).0

pub good : {C : Type 0} (r : Reading C) (f : Runs C) → Lawful r f → (s : World C) → Reached f s → Good r s
good r f law s at_first = good_first r
good r f law _ (next_one {s = s} j x m) = good_after r f s j (good r f law s x) (ready_waits s j m) (law s j x m).keeps

-- free and ready are one where none runs
pub free_ready : {C : Type 0} (s : World C) (j : Job) → s.running ≡ [] → IsFree s j → Member j (ready_jobs s)
free_ready s j idle h =
    Member_filter (is_ready s) j s.waiting h.0
    (λ i. not (list_any (λ (h : Holder). meets h.cowns j.cowns) (idle i)) && not (none i))
  where
    none : list_any (blocks j) s.waiting ≡ false
    none = is_false _ (λ e. let x = any_Member (blocks j) s.waiting e in let y = h.1 x.0 x.1.0 in let z = x.1.1 in cc)

-- ---- Serial by its order
map_last : (es : List Entry) (e : Entry) → map (λ (e : Entry). e.id) (es ++ e ∷ []) ≡ map (λ (e : Entry). e.id) es ++ e.id ∷ []
map_last [] e = refl
map_last (x ∷ es) e = ap (λ ns. x.id ∷ ns) (map_last es e)

pub job_of_one : (js : List Job) (j : Job) → Member j js → ((k : Job) → Member k js → k.id ≡ j.id → k ≡ j) → job_of js j.id ≡ Some j
job_of_one [] j m h = absurd m
job_of_one (k ∷ ks) j (inl e) h = ap (λ b. cond b (Some k) (job_of ks j.id)) (eq-eqb k.id j.id (ap (λ (j : Job). j.id) e)) ∙ ap Some e
job_of_one (k ∷ ks) j (inr m) h =
    elim (eqb k.id j.id) as (λ b. eqb k.id j.id ≡ b → cond b (Some k) (job_of ks j.id) ≡ Some j) [
      | true ↦ λ e. ap Some (h k (inl refl) (eqb-true k.id j.id e))
      | false ↦ λ e. job_of_one ks j m (λ i q. h i (inr q))
    ] refl

pub job_of_Mem : (js : List Job) (b : ℕ) (j : Job) → job_of js b ≡ Some j → Member j js × (j.id ≡ b)
job_of_Mem [] b j e = absurd cc
job_of_Mem (k ∷ ks) b j e =
    elim (eqb k.id b) as (λ x. eqb k.id b ≡ x → cond x (Some k) (job_of ks b) ≡ Some j → Member j (k ∷ ks) × (j.id ≡ b)) [
      | true ↦ λ h q. let same : k ≡ j = cc in (inl same, ap (λ (j : Job). j.id) (sym same) ∙ eqb-true k.id b h)
      | false ↦ λ h q. let r = job_of_Mem ks b j q in (inr r.0, r.1)
    ] refl e

-- each cown of a waiting one has a content
pub known_of : {C : Type 0} (r : Reading C) (s : World C) → Good r s → KnowsCowns s
known_of r s g k c m a = g.job_cowns k c m (Member_left c k.cowns (cowns_of_values k.values) (among_Member k.cowns c a))

pub row_found : (rows : List Row) (n : ObjId) (x : Row) → row_at rows n ≡ Some x → has_row rows n ≡ true
row_found rows n x e = owner_has rows n x.owner (ap row_owner e)

module _ {C : Type 0} (f : Runs C) where
  serial_last : (w : World C) (bs : List ℕ) (b : ℕ) → serial_from f w (bs ++ b ∷ []) ≡ done_if f (serial_from f w bs) (ready_job (serial_from f w bs) b)
  serial_last w [] b = refl
  serial_last w (x ∷ bs) b = serial_last (done_if f w (ready_job w x)) bs b

  legal_last : (w : World C) (bs : List ℕ) (b : ℕ) → IsLegalFrom f w bs → ((j : Job) × (ready_job (serial_from f w bs) b ≡ Some j)) → IsLegalFrom f w (bs ++ b ∷ [])
  legal_last w [] b l h = (h, tt)
  legal_last w (x ∷ bs) b l h = (l.0, legal_last (done_if f w (ready_job w x)) bs b l.1 h)

  pub is_ready_job : (s : World C) → Numbered s → (j : Job) → Member j (ready_jobs s) → ready_job s j.id ≡ Some j
  is_ready_job s n j m = job_of_one (ready_jobs s) j m (λ k q e. n.unique k j (ready_waits s k q) (ready_waits s j m) e)

  pub serial_is : ((s : World C) → Reached f s → Numbered s) → (s : World C) → Reached f s → (serial f (order_of s) ≡ s) × IsLegalFrom f first (order_of s)
  serial_is numbered _ at_first = (refl, tt)
  serial_is numbered _ (next_one {s = s} j x m) =
      let old = serial_is numbered s x in
      let e : Entry = record { id = j.id; lines = (f j (pick j.cowns s.parked) s.frozen).lines; fault = (f j (pick j.cowns s.parked) s.frozen).fault } in
      let here : ready_job s j.id ≡ Some j = is_ready_job s (numbered s x) j m in
      let there : ready_job (serial f (order_of s)) j.id ≡ Some j = ap (λ y. ready_job y j.id) old.0 ∙ here in (
        ap (serial f) (map_last s.journal e) ∙ serial_last first (order_of s) j.id ∙ (λ i. done_if f (old.0 i) (ready_job (old.0 i) j.id)) ∙ ap (done_if f s) here,
        subst (IsLegalFrom f first) (sym (map_last s.journal e)) (legal_last first (order_of s) j.id old.1 (j, there)),
      )

-- ---- a waiting one's number is no birth of a cown that frozen rows name
abbrev WaitsOn : {C : Type 0} → Job → World C → Type 0
WaitsOn k s = Member k s.waiting

no_cown_of : {C : Type 0} (r : Reading C) (s : World C) → Good r s → (k : Job) → WaitsOn k s → (c : CownId) → Member c (row_cowns s.frozen) → c.birth ≡ k.id → ⊥
no_cown_of {C} r s g k m c p e =
    let v = kept_at (at s.parked c) (g.frozen_cowns c p) in
    let past = g.cown_births c v.0 v.1 in
    g.numbered.fresh k past.0 m past.1.0 (past.1.1 ∙ e)
  where
    kept_at : (o : Option C) → (o ≡ None → ⊥) → (v : C) × (o ≡ Some v)
    kept_at None h = absurd (h refl)
    kept_at (Some v) h = (v, refl)

-- ---- a further running one's rows
module _ {C : Type 0} (r : Reading C) (f : Runs C) {s : World C} (g : Good r s) (j : Job) (free : IsFree s j) (keeps : Keeps r f j (pick j.cowns s.parked) s.frozen) where
  pub larger_stays : (k : Job) → IsFree s k → (j.id ≡ k.id → ⊥) → (few : List Row) → Larger r k.id (pick k.cowns s.parked) few s.frozen → Larger r k.id (pick k.cowns s.parked) few (done f s j).frozen
  larger_stays k q h few l =
      let mj : Member j s.waiting = free.0 in
      let o : Outcome C = f j (pick j.cowns s.parked) s.frozen in
      record {
        holds = λ n x e. at_insert_rows o.rows s.frozen n (is_false _ (λ b. no_both _ (row_found s.frozen n x (l.holds n x e)) (not_frozen r f s j g mj keeps n (look_rows r f s j g mj keeps n b)))) ∙ l.holds n x e;
        further = λ n e. elim (or_split (has_row o.rows n) (has_row s.frozen n) (sym (frozen_is r f s j g mj keeps n) ∙ e)) [
          | inl x ↦
              let source = look_rows r f s j g mj keeps n x in
              inr (
                λ p.
                    let z = Member_of_flat_map (λ (x : CownId × C). names_in r x.1) n (pick k.cowns s.parked) p in
                    let y = pick_member k.cowns s.parked z.0 z.1.0 in
                    not_elsewhere r f s j g mj keeps n source (z.0).0 (z.0).1 y.0 z.1.1 (is_false _ (λ a. disjoint s j k free q h (z.0).0 a y.1)),
                λ b. elim source [
                  | inl p ↦ let y = cond_some (among j.cowns p.cown) (at s.parked p.cown) p.content (sym (at_pick j.cowns s.parked p.cown) ∙ p.there) in
                      let past = g.name_births n (record { cown = p.cown; content = p.content; there = y.1; named = p.named }) in
                      g.numbered.fresh k past.0 q.0 past.1.0 (past.1.1 ∙ b)
                  | inr i ↦ h (sym i ∙ b)
                ],
              )
          | inr x ↦ l.further n x
        ];
        no_cown = λ c p b. no_cown_of r (done f s j) (good_after r f s j g mj keeps) k (waits_still k q.0 h) c p b;
      }
    where
      waits_still : (k : Job) → Member k s.waiting → (j.id ≡ k.id → ⊥) → WaitsOn k (done f s j)
      waits_still k a h = Member_left k (filter (other j.id) s.waiting) (numbered s.next (f j (pick j.cowns s.parked) s.frozen).spawns) (Member_filter (other j.id) k s.waiting a (is_other j.id k h))

-- ---- lists of runs
module _ {M : Type 0} where
  run_in_Mem : (us : List (Run M)) (b : ℕ) (u : Run M) → run_in us b ≡ Some u → Member u us
  run_in_Mem [] b u e = absurd cc
  run_in_Mem (v ∷ us) b u e =
      elim (eqb v.job.id b) as (λ x. cond x (Some v) (run_in us b) ≡ Some u → Member u (v ∷ us)) [
        | true ↦ λ q. inl cc
        | false ↦ λ q. inr (run_in_Mem us b u q)
      ] e

-- ---- the events
module _ {C M : Type 0} (r : Reading C) (f : Runs C) (law : Lawful r f) (mach : Machine C M) (computes : Computes mach f) (budget : ℕ) where
  stepped_job : (b : ℕ) (u : Run M) → (stepped mach b u).job ≡ u.job
  stepped_job b u = elim (eqb u.job.id b && not (mach.is_over u.state)) as (λ x. (cond x (record { job = u.job; frozen = u.frozen; state = mach.step u.state }) u).job ≡ u.job) [ true ↦ refl | false ↦ refl ]

  runs_step : (s : World C) (b : ℕ) (u : Run M) → RunsOn mach r f s u → RunsOn mach r f s (stepped mach b u)
  runs_step s b u h = elim (eqb u.job.id b && not (mach.is_over u.state)) as (λ x. RunsOn mach r f s (cond x (record { job = u.job; frozen = u.frozen; state = mach.step u.state }) u)) [
    | true ↦ record { reached = (suc h.reached.0, ap mach.step h.reached.1); larger = h.larger; free = h.free; origin = h.origin; from = h.from; was_ready = h.was_ready; contents = h.contents; rows = h.rows }
    | false ↦ h
  ]

  pub keep_start : (x : Whole C M) (s : World C) → Kept mach r f budget x s → (j : Job) → Member j (ready_jobs x.core) → x.core.started < budget → Kept mach r f budget (begun mach x (Some j)) s
  keep_start x s k j m h =
      let g : Good r s = good r f law s k.reached in
      let run : Run M = record { job = j; frozen = x.core.frozen; state = mach.begin j (pick j.cowns x.core.parked) x.core.frozen } in
      let new : RunsOn mach r f s run = record {
        reached = (0, λ i. mach.begin j (same_contents k.tracks g.numbered j m i) x.core.frozen);
        larger = record { holds = λ n y e. ap (λ rows. row_at rows n) (sym k.tracks.frozen) ∙ e; further = λ n e. inl (ap (λ rows. has_row rows n) k.tracks.frozen ∙ e); no_cown = no_cown_of r s g j (ready_there k.tracks g.numbered j m).0 };
        free = ready_there k.tracks g.numbered j m;
        origin = s;
        from = k.reached;
        was_ready = free_ready s j g.numbered.idle (ready_there k.tracks g.numbered j m);
        contents = refl;
        rows = k.tracks.frozen;
      } in
      record {
        reached = k.reached;
        tracks = start_tracks k.tracks g.numbered j m;
        held = λ u q. elim q [
          | inl e ↦ subst (λ (v : Run M). Member (holder_of v.job) (with_holder (holder_of j) x.core.running)) e (with_here (holder_of j) x.core.running)
          | inr y ↦ with_there (holder_of j) (holder_of u.job) x.core.running (k.held u y)
        ];
        ran = λ i q. elim (in_with (holder_of j) i x.core.running q) [
          | inl e ↦ (run, (inl refl, sym e))
          | inr y ↦ let z = k.ran i y in (z.0, (inr z.1.0, z.1.1))
        ];
        runs = λ u q. elim q [ inl e ↦ subst (RunsOn mach r f s) e new | inr y ↦ k.runs u y ];
        within = omega arith;
      }

  keep_step : (x : Whole C M) (s : World C) → Kept mach r f budget x s → (b : ℕ) → Kept mach r f budget (happens mach budget x (Step b)) s
  keep_step x s k b = record {
    reached = k.reached;
    tracks = k.tracks;
    held = λ u q.
        let v = Member_of_map (stepped mach b) u x.runs q in
        let same : v.0.job ≡ u.job = sym (stepped_job b v.0) ∙ ap (λ (u : Run M). u.job) v.1.1 in
        subst (λ (i : Job). Member (holder_of i) x.core.running) same (k.held v.0 v.1.0);
    ran = λ h q.
        let v = k.ran h q in
        (stepped mach b v.0, (Member_map (stepped mach b) v.0 x.runs v.1.0, ap holder_of (stepped_job b v.0) ∙ v.1.1));
    runs = λ u q. let v = Member_of_map (stepped mach b) u x.runs q in subst (RunsOn mach r f s) v.1.1 (runs_step s b v.0 (k.runs v.0 v.1.0));
    within = k.within;
  }

  -- what it hands in is what Serial's next step makes
  pub outcome_is : (s : World C) → Reached f s → (u : Run M) → RunsOn mach r f s u → mach.is_over u.state ≡ true → mach.finish u.state ≡ f u.job (pick u.job.cowns s.parked) s.frozen
  outcome_is s reach u h over =
      let kp = law h.origin u.job h.from h.was_ready in
      let l : Larger r u.job.id (pick u.job.cowns h.origin.parked) u.frozen s.frozen = subst (λ c. Larger r u.job.id c u.frozen s.frozen) (sym h.contents) h.larger in
      let l2 : Larger r u.job.id (pick u.job.cowns h.origin.parked) h.origin.frozen s.frozen = subst (λ few. Larger r u.job.id (pick u.job.cowns h.origin.parked) few s.frozen) h.rows l in
      ap mach.finish h.reached.1
      ∙ computes u.job (pick u.job.cowns s.parked) u.frozen h.reached.0 (ap mach.is_over (sym h.reached.1) ∙ over)
      ∙ (λ i. f u.job (sym h.contents i) (h.rows i))
      ∙ sym (kp.larger s reach l2)
      ∙ (λ i. f u.job (h.contents i) s.frozen)

  pub keep_end : (x : Whole C M) (s : World C) → Kept mach r f budget x s → (u : Run M) → Member u x.runs → mach.is_over u.state ≡ true → Kept mach r f budget (ended_by mach x u true) (done f s u.job)
  keep_end x s k u q over =
      let g : Good r s = good r f law s k.reached in
      let j : Job = u.job in
      let mj : Member (holder_of j) x.core.running = k.held u q in
      let free : IsFree s j = (k.runs u q).free in
      let ready : Member j (ready_jobs s) = free_ready s j g.numbered.idle free in
      let kp : Keeps r f j (pick j.cowns s.parked) s.frozen = (law s j k.reached ready).keeps in
      let fs : Fits s j (f j (pick j.cowns s.parked) s.frozen) = fits r f s j g free.0 kp in
      let is : mach.finish u.state ≡ f j (pick j.cowns s.parked) s.frozen = outcome_is s k.reached u (k.runs u q) over in
      record {
        reached = next_one j k.reached ready;
        tracks = subst (λ o. Tracks (committed x.core j.id o) (done f s j)) (sym is) (end_tracks k.tracks g.numbered (known_of r s g) j mj free (f j (pick j.cowns s.parked) s.frozen) fs);
        held = λ v p.
            let z = Member_of_filter (λ (v : Run M). not (eqb j.id v.job.id)) v x.runs p in
            in_left x.core.running j.id (holder_of v.job) (k.held v z.0) (eqb-false j.id v.job.id (not_true _ z.1));
        ran = λ h p.
            let z = left_is x.core.running j.id h p in
            let v = k.ran h z.0 in
            (v.0, (Member_filter (λ (v : Run M). not (eqb j.id v.job.id)) v.0 x.runs v.1.0 (ap not (ne_eqb j.id (v.0).job.id (λ e. z.1 (e ∙ ap (λ (h : Holder). h.id) v.1.1)))), v.1.1));
        runs = λ v p.
            let z = Member_of_filter (λ (v : Run M). not (eqb j.id v.job.id)) v x.runs p in
            let apart : j.id ≡ v.job.id → ⊥ = eqb-false j.id v.job.id (not_true _ z.1) in
            let old = k.runs v z.0 in
            let same : pick v.job.cowns (done f s j).parked ≡ pick v.job.cowns s.parked = contents_stay k.tracks g.numbered (known_of r s g) j mj free (f j (pick j.cowns s.parked) s.frozen) fs v.job old.free apart in
            record {
              reached = (old.reached.0, old.reached.1 ∙ (λ i. steps mach old.reached.0 (mach.begin v.job (sym same i) v.frozen)));
              larger = subst (λ c. Larger r v.job.id c v.frozen (done f s j).frozen) (sym same) (larger_stays r f g j free kp v.job old.free apart v.frozen old.larger);
              free = free_there k.tracks g.numbered (known_of r s g) j mj free (f j (pick j.cowns s.parked) s.frozen) fs v.job old.free apart;
              origin = old.origin;
              from = old.from;
              was_ready = old.was_ready;
              contents = old.contents ∙ sym same;
              rows = old.rows;
            };
        within = k.within;
      }

  keep_event : (x : Whole C M) (s : World C) → Kept mach r f budget x s → (e : Event) → (t : World C) × Kept mach r f budget (happens mach budget x e) t
  keep_event x s k (Start b) =
      elim (cond (ltb x.core.started budget) (ready_job x.core b) None) as (λ o. cond (ltb x.core.started budget) (ready_job x.core b) None ≡ o → (t : World C) × Kept mach r f budget (begun mach x o) t) [
        | None ↦ λ e. (s, k)
        | Some j ↦ λ e.
            let y = cond_some (ltb x.core.started budget) (ready_job x.core b) j e in
            (s, keep_start x s k j (job_of_Mem (ready_jobs x.core) b j y.1).0 (ltb-true x.core.started budget y.0))
      ] refl
  keep_event x s k (Step b) = (s, keep_step x s k b)
  keep_event x s k (End b) =
      elim (run_in x.runs b) as (λ o. run_in x.runs b ≡ o → (t : World C) × Kept mach r f budget (ended mach x o) t) [
        | None ↦ λ e. (s, k)
        | Some u ↦ λ e. elim (mach.is_over u.state) as (λ v. mach.is_over u.state ≡ v → (t : World C) × Kept mach r f budget (ended_by mach x u v) t) [
          | true ↦ λ h. (done f s u.job, keep_end x s k u (run_in_Mem x.runs b u e) h)
          | false ↦ λ h. (s, k)
        ] refl
      ] refl

  keep_events : (x : Whole C M) (s : World C) → Kept mach r f budget x s → (es : List Event) → (t : World C) × Kept mach r f budget (happen mach budget x es) t
  keep_events x s k [] = (s, k)
  keep_events x s k (e ∷ es) = let y = keep_event x s k e in keep_events (happens mach budget x e) y.0 y.1 es

  pub kept_first : Kept mach r f budget first_whole first
  kept_first = record {
    reached = at_first;
    tracks = record { waiting = refl; parked = λ c. refl; frozen = refl; journal = refl; next = refl; ready = λ j m. absurd m; apart = tt; count = refl };
    held = λ u m. absurd m;
    ran = λ h m. absurd m;
    runs = λ u m. absurd m;
    within = omega arith;
  }

  pub all_interleavings : (es : List Event) →
      IsLegalFrom f first (order_of (happen mach budget first_whole es).core)
      × (length (happen mach budget first_whole es).core.journal ≤ budget)
      × Kept mach r f budget (happen mach budget first_whole es) (serial f (order_of (happen mach budget first_whole es).core))
  all_interleavings es =
      let y = keep_events first_whole first kept_first es in
      let x : Whole C M = happen mach budget first_whole es in
      let z = serial_is f (λ s h. (good r f law s h).numbered) y.0 y.1.reached in
      let same : order_of x.core ≡ order_of y.0 = ap (map (λ (e : Entry). e.id)) y.1.tracks.journal in
      let count = y.1.tracks.count in
      let within = y.1.within in
      (subst (IsLegalFrom f first) (sym same) z.1, omega arith, subst (Kept mach r f budget x) (sym z.0 ∙ ap (serial f) (sym same)) y.1)

module _ {C : Type 0} (f : Runs C) where
  no_steps : (k : ℕ) (o : Outcome C) → steps (at_once f) k o ≡ o
  no_steps zero o = refl
  no_steps (suc k) o = no_steps k o

  pub at_once_computes : Computes (at_once f) f
  at_once_computes j cs rows k h = no_steps k (f j cs rows)

pub interleavings_at_once : {C : Type 0} (r : Reading C) (f : Runs C) → Lawful r f → Interleavings r f (at_once f)
interleavings_at_once r f law budget es = all_interleavings r f law (at_once f) (at_once_computes f) budget es

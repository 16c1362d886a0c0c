-- A waiting job is ready exactly where nothing leads to its row; and the ready one at a place.
use Rattle.std.proofs.Common.{Bool, List, None, Option, Some, [], ap, arith, cond, count_by, eqb, false, filter, get_or, inl, inr, length, ltb, map, not, refl, subst, suc, sym, true, zero, ℕ, ◌&&◌, ◌++◌, ◌+◌, ◌-◌, ◌<◌, ◌≤◌, ◌∙◌, ◌∷◌, ◌≡◌, ◌⊎◌}
use Rattle.std.specs.List.{slice_get}
use Rattle.std.proofs.lemmas.Bool.{eq-eqb, eqb-true, le-ltb, lt-ltb, ltb-true}
use Rattle.lf_base.specs.declared.behaviours.Job.{Job}
use Rattle.lf_base.specs.declared.ids.CownId.{CownId}
use Rattle.lf_base.specs.Names.{same_cown}
use Rattle.lf_base.specs.Sets.{Member}
use Rattle.lf_base.proofs.ListLemmas.Members.{Member_any, any_Member}
use Rattle.lf_base.proofs.ListLemmas.Tests.{any_none, count_none}
use Rattle.lf_base.proofs.NameLemmas.SameNames.{one_cown, same_cown_is}
use Rattle.lf_queue.specs.declared.row.Row.{Row}
use Rattle.lf_queue.specs.declared.row.Stage.{Stage}
use Rattle.lf_queue.specs.declared.row.Stage.TheVariants.{Waiting, Running, Ended}
use Rattle.lf_queue.specs.declared.spot.Spot.{Spot}
use Rattle.lf_queue.specs.Counts.{find, later, total}
use Rattle.lf_queue.specs.Lines.{KeepsJobs, bit, holders_from, is_free, is_next, is_over, is_waiting, job_in, leads_to, over_at, row_at, row_cowns, waiting_jobs, waits_at}
use Rattle.lf_queue.specs.Ready.{Holder, among, is_behind, is_held, is_ready, meets}
use Rattle.lf_queue.proofs.Joining.{true_not_false}
use Rattle.lf_queue.proofs.Rows.{holder_at, holder_member, holder_place, waiting_member, waiting_place, waits_or_runs}
use Rattle.lf_queue.proofs.SpotLists.{count_first}
use Rattle.lf_queue.proofs.Spawns.{is_next_some}

-- ---- cowns of a row are those of its spots
pub cown_there : (spots : List Spot) (s : Spot) (p : ℕ) → Member s spots → s.row ≡ p → Member s.cown (row_cowns spots p)
cown_there [] s p m e = absurd m
cown_there (x ∷ xs) s p (inl same) e =
    subst (λ b. Member s.cown (map (λ (t : Spot). t.cown) (cond b (x ∷ filter (λ (t : Spot). eqb t.row p) xs) (filter (λ (t : Spot). eqb t.row p) xs)))) (sym (ap (λ (t : Spot). eqb t.row p) same ∙ eq-eqb s.row p e)) (inl (ap (λ (t : Spot). t.cown) same))
cown_there (x ∷ xs) s p (inr m) e = elim (eqb x.row p) as (λ b. Member s.cown (map (λ (t : Spot). t.cown) (cond b (x ∷ filter (λ (t : Spot). eqb t.row p) xs) (filter (λ (t : Spot). eqb t.row p) xs)))) [
  | true ↦ inr (cown_there xs s p m e)
  | false ↦ cown_there xs s p m e
]

pub cown_from : (spots : List Spot) (c : CownId) (p : ℕ) → Member c (row_cowns spots p) → (s : Spot) × (Member s spots × ((s.row ≡ p) × (s.cown ≡ c)))
cown_from [] c p m = absurd m
cown_from (x ∷ xs) c p m = go (eqb x.row p) refl m (cown_from xs c p)
  where
    go : (b : Bool) → eqb x.row p ≡ b → Member c (map (λ (t : Spot). t.cown) (cond b (x ∷ filter (λ (t : Spot). eqb t.row p) xs) (filter (λ (t : Spot). eqb t.row p) xs)))
        → (Member c (row_cowns xs p) → (s : Spot) × (Member s xs × ((s.row ≡ p) × (s.cown ≡ c)))) → (s : Spot) × (Member s (x ∷ xs) × ((s.row ≡ p) × (s.cown ≡ c)))
    go true e (inl same) rest = (x, (inl refl, (eqb-true x.row p e, same)))
    go true e (inr n) rest = let r = rest n in (r.0, (inr r.1.0, r.1.1))
    go false e n rest = let r = rest n in (r.0, (inr r.1.0, r.1.1))

-- ---- two lists of cowns meet
pub is_among : (cs : List CownId) (c : CownId) → Member c cs → among cs c ≡ true
is_among cs c m = Member_any (λ d. same_cown d c) c cs m (one_cown c c refl)

pub from_among : (cs : List CownId) (c : CownId) → among cs c ≡ true → Member c cs
from_among cs c e = let x = any_Member (λ d. same_cown d c) cs e in subst (λ d. Member d cs) (same_cown_is x.0 c x.1.1) x.1.0

pub they_meet : (cs ds : List CownId) (c : CownId) → Member c cs → Member c ds → meets cs ds ≡ true
they_meet cs ds c m n = Member_any (λ e. among ds e) c cs m (is_among ds c n)

pub from_meeting : (cs ds : List CownId) → meets cs ds ≡ true → (c : CownId) × (Member c cs × Member c ds)
from_meeting cs ds e = let x = any_Member (λ c. among ds c) cs e in (x.0, (x.1.0, from_among ds x.0 x.1.1))

-- ---- a count that isn't 0
pub counted_one : (q : Spot → Bool) (xs : List Spot) → 0 < count_by q xs → (s : Spot) × (Member s xs × (q s ≡ true))
counted_one q [] l = absurd (omega arith)
counted_one q (x ∷ xs) l = elim (q x) as (λ b. q x ≡ b → (s : Spot) × (Member s (x ∷ xs) × (q s ≡ true))) [
  | true ↦ λ e. (x, (inl refl, e))
  | false ↦ λ e. let a = count_first q x xs in let b = ap bit e in let r = counted_one q xs (omega (arith, a, b, l)) in (r.0, (inr r.1.0, r.1.1))
] refl

pub false_unless : (b : Bool) → (b ≡ true → ⊥) → b ≡ false
false_unless true h = absurd (h refl)
false_unless false h = refl

pub and_is : (a b : Bool) → (a && b) ≡ true → (a ≡ true) × (b ≡ true)
and_is true b e = (refl, e)
and_is false b e = absurd (cc)

pub and_of : (a b : Bool) → a ≡ true → b ≡ true → (a && b) ≡ true
and_of a b e f = ap (λ c. c && b) e ∙ f

module _ (rows : List Row) (spots : List Spot) (last : CownId → Option ℕ) (place : ℕ → Option ℕ) (marks : List ℕ) (keeps : KeepsJobs rows spots last place marks) where
  abbrev waiting : List Job
  waiting = waiting_jobs rows

  abbrev running : List Holder
  running = holders_from spots 0 rows

  -- nothing that isn't over is ahead on a line
  pub none_ahead : (p : ℕ) → p < length rows → (row_at rows p).behind ≡ 0 → (s t : Spot) → Member s spots → Member t spots → s.cown ≡ t.cown → t.row ≡ p → s.row < p → over_at rows s.row ≡ false → ⊥
  none_ahead p l z s t m n e r less alive =
      let u = keeps.lines.led s t m n e (omega arith) alive in
      let no = count_none (leads_to p) spots (sym (keeps.counted p l) ∙ z) u.0 u.1.0 in
      true_not_false (leads_to p u.0) (ap (is_next p) (u.1.1.1 ∙ ap (λ q. Some q) r) ∙ eq-eqb p p refl) no

  module _ (p : ℕ) (job : Job) (l : p < length rows) (waits : (row_at rows p).stage ≡ Waiting job) where
    own_cown : (c : CownId) → Member c job.cowns → (t : Spot) × (Member t spots × ((t.row ≡ p) × (t.cown ≡ c)))
    own_cown c m = cown_from spots c p (subst (λ cs. Member c cs) (keeps.jobs.cowns p job l waits) m)

    not_over : over_at rows p ≡ false
    not_over = ap is_over waits

    -- nothing leads to it
    free_not_held : (row_at rows p).behind ≡ 0 → is_held running job ≡ false
    free_not_held z = any_none (λ (h : Holder). meets h.cowns job.cowns) running (λ h m. false_unless _ (λ e.
        let q = holder_place spots 0 rows h m in
        let c = from_meeting h.cowns job.cowns e in
        let s = cown_from spots c.0 (0 + q.0) (subst (λ (k : Holder). Member c.0 k.cowns) (sym q.1.1.1) c.1.0) in
        let t = own_cown c.0 c.1.1 in
        let here : s.0.row ≡ q.0 = s.1.1.0 ∙ none_more q.0 in
        let alive : over_at rows q.0 ≡ false = ap is_over q.1.1.0 in
        elim (which q.0 p) [
          | inl less ↦ none_ahead p l z s.0 t.0 s.1.0 t.1.0 (s.1.1.1 ∙ sym t.1.1.1) t.1.1.0 (omega (arith, here, less)) (ap (over_at rows) here ∙ alive)
          | inr o ↦ elim o [
            | inl more ↦ true_not_false (over_at rows p)
                (sym (ap (over_at rows) t.1.1.0) ∙ keeps.lines.order t.0 s.0 t.1.0 s.1.0 (t.1.1.1 ∙ sym s.1.1.1) (let b = t.1.1.0 in omega (arith, here, b, more)) (ap (waits_at rows) here ∙ ap is_waiting q.1.1.0))
                not_over
            | inr same ↦ running_waits job (sym (ap (λ n. (row_at rows n).stage) same ∙ waits) ∙ q.1.1.0)
          ]
        ]))
      where
        which : (a b : ℕ) → (a < b) ⊎ ((b < a) ⊎ (a ≡ b))
        which a b = grind arith

        none_more : (n : ℕ) → 0 + n ≡ n
        none_more n = omega arith

        running_waits : (j : Job) → Waiting j ≡ Running → ⊥
        running_waits j e = cc

    free_not_behind : (row_at rows p).behind ≡ 0 → is_behind waiting job ≡ false
    free_not_behind z = any_none (λ (k : Job). ltb k.id job.id && meets k.cowns job.cowns) waiting (λ k m. false_unless _ (λ e.
        let parts = and_is (ltb k.id job.id) (meets k.cowns job.cowns) e in
        let less = ltb-true k.id job.id parts.0 in
        let q = waiting_place rows k m in
        let c = from_meeting k.cowns job.cowns parts.1 in
        let s = cown_from spots c.0 q.0 (subst (λ cs. Member c.0 cs) (keeps.jobs.cowns q.0 k q.1.0 q.1.1) c.1.0) in
        let t = own_cown c.0 c.1.1 in
        let alive : over_at rows q.0 ≡ false = ap is_over q.1.1 in
        let x = keeps.jobs.number q.0 k q.1.0 q.1.1 in
        let y = keeps.jobs.number p job l waits in
        elim (which q.0 p) [
          | inl before ↦ none_ahead p l z s.0 t.0 s.1.0 t.1.0 (s.1.1.1 ∙ sym t.1.1.1) t.1.1.0 (let a = s.1.1.0 in omega arith) (ap (over_at rows) s.1.1.0 ∙ alive)
          | inr o ↦ elim o [
            | inl more ↦ let r = keeps.jobs.rising p q.0 more q.1.0 not_over alive in omega (arith, r, x, y, less)
            | inr same ↦ let r = ap (λ n. (row_at rows n).id) same in omega (arith, r, x, y, less)
          ]
        ]))
      where
        which : (a b : ℕ) → (a < b) ⊎ ((b < a) ⊎ (a ≡ b))
        which a b = grind arith

    free_ready : (row_at rows p).behind ≡ 0 → is_ready waiting running job ≡ true
    free_ready z = and_of _ _ (ap not (free_not_held z)) (ap not (free_not_behind z))

    -- something leads to it
    led_not_ready : 0 < (row_at rows p).behind → is_ready waiting running job ≡ false
    led_not_ready some =
        let s = counted_one (leads_to p) spots (let e = keeps.counted p l in omega arith) in
        let next = is_next_some p s.0.next s.1.1 in
        let less = keeps.lines.later s.0 p s.1.0 next in
        let alive = keeps.lines.ahead s.0 p s.1.0 next in
        let t = keeps.lines.there s.0 p s.1.0 next in
        let mine : Member s.0.cown job.cowns = subst (λ cs. Member s.0.cown cs) (sym (keeps.jobs.cowns p job l waits)) (subst (λ c. Member c (row_cowns spots p)) t.1.1.1 (cown_there spots t.0 p t.1.0 t.1.1.0)) in
        let there = keeps.together.rows_there s.0 s.1.0 in
        elim (waits_or_runs (row_at rows s.0.row).stage alive) [
          | inl w ↦
              let k = waiting_member rows s.0.row w.0 there w.1 in
              let x = keeps.jobs.number s.0.row w.0 there w.1 in
              let y = keeps.jobs.number p job l waits in
              let r = keeps.jobs.rising s.0.row p less l alive not_over in
              let theirs : Member s.0.cown w.0.cowns = subst (λ cs. Member s.0.cown cs) (sym (keeps.jobs.cowns s.0.row w.0 there w.1)) (cown_there spots s.0 s.0.row s.1.0 refl) in
              let e : is_behind waiting job ≡ true = Member_any (λ (k : Job). ltb k.id job.id && meets k.cowns job.cowns) w.0 waiting k (and_of _ _ (lt-ltb w.0.id job.id (omega (arith, r, x, y))) (they_meet w.0.cowns job.cowns s.0.cown theirs mine)) in
              ap (λ b. not (is_held running job) && not b) e ∙ and_none (not (is_held running job))
          | inr g ↦
              let h = holder_member spots 0 rows s.0.row there g in
              let e : is_held running job ≡ true = Member_any (λ (k : Holder). meets k.cowns job.cowns) (holder_at spots rows 0 s.0.row) running h (they_meet (row_cowns spots (0 + s.0.row)) job.cowns s.0.cown (cown_there spots s.0 (0 + s.0.row) s.1.0 (none_less s.0.row)) mine) in
              ap (λ b. not b && not (is_behind waiting job)) e
        ]
      where
        and_none : (b : Bool) → (b && false) ≡ false
        and_none true = refl
        and_none false = refl

        none_less : (n : ℕ) → n ≡ 0 + n
        none_less n = omega arith

    pub ready_is_free : is_ready waiting running job ≡ eqb (row_at rows p).behind 0
    ready_is_free = by_count (row_at rows p).behind free_ready led_not_ready
      where
        by_count : (n : ℕ) → (n ≡ 0 → is_ready waiting running job ≡ true) → (0 < n → is_ready waiting running job ≡ false) → is_ready waiting running job ≡ eqb n 0
        by_count zero f g = f refl
        by_count (suc n) f g = g (omega arith) ∙ sym (false_unless (eqb (suc n) 0) (λ e. let z = eqb-true (suc n) 0 e in omega arith))

-- ---- the ready one at a place
abbrev pub free_ids : List Row → List ℕ
free_ids rows = map (λ (row : Row). row.id) (filter is_free rows)

free_first : (row : Row) (rows : List Row) → free_ids (row ∷ rows) ≡ cond (is_free row) (row.id ∷ free_ids rows) (free_ids rows)
free_first row rows = elim (is_free row) as (λ b. map (λ (row : Row). row.id) (cond b (row ∷ filter is_free rows) (filter is_free rows)) ≡ cond b (row.id ∷ free_ids rows) (free_ids rows)) [ true ↦ refl | false ↦ refl ]

pub ready_from_rows : (rows : List Row) (is : Job → Bool) → ((p : ℕ) (j : Job) → p < length rows → (row_at rows p).stage ≡ Waiting j → (is j ≡ eqb (row_at rows p).behind 0) × (j.id ≡ (row_at rows p).id))
    → map (λ (j : Job). j.id) (filter is (waiting_jobs rows)) ≡ free_ids rows
ready_from_rows [] is h = refl
ready_from_rows (x ∷ xs) is h = by_stage x.stage refl (ready_from_rows xs is (λ p j l e. h (suc p) j (omega (arith, l)) e)) ∙ sym (free_first x xs)
  where
    by_stage : (stage : Stage) → x.stage ≡ stage → map (λ (j : Job). j.id) (filter is (waiting_jobs xs)) ≡ free_ids xs → map (λ (j : Job). j.id) (filter is (job_in x.stage ++ waiting_jobs xs)) ≡ cond (is_free x) (x.id ∷ free_ids xs) (free_ids xs)
    by_stage (Waiting j) e rest =
        let fact = h 0 j (omega arith) e in
        let free : is_free x ≡ eqb x.behind 0 = ap (λ s. is_waiting s && eqb x.behind 0) e in
        ap (λ s. map (λ (k : Job). k.id) (filter is (job_in s ++ waiting_jobs xs))) e
        ∙ ap (λ b. map (λ (k : Job). k.id) (cond b (j ∷ filter is (waiting_jobs xs)) (filter is (waiting_jobs xs)))) (fact.0 ∙ sym free)
        ∙ either (is_free x) j fact.1 rest
      where
        either : (b : Bool) (j : Job) → j.id ≡ x.id → map (λ (j : Job). j.id) (filter is (waiting_jobs xs)) ≡ free_ids xs → map (λ (k : Job). k.id) (cond b (j ∷ filter is (waiting_jobs xs)) (filter is (waiting_jobs xs))) ≡ cond b (x.id ∷ free_ids xs) (free_ids xs)
        either true j e rest = ap (λ n. n ∷ map (λ (k : Job). k.id) (filter is (waiting_jobs xs))) e ∙ ap (λ l. x.id ∷ l) rest
        either false j e rest = rest
    by_stage Running e rest =
        ap (λ s. map (λ (k : Job). k.id) (filter is (job_in s ++ waiting_jobs xs))) e ∙ rest ∙ sym (ap (λ s. cond (is_waiting s && eqb x.behind 0) (x.id ∷ free_ids xs) (free_ids xs)) e)
    by_stage Ended e rest =
        ap (λ s. map (λ (k : Job). k.id) (filter is (job_in s ++ waiting_jobs xs))) e ∙ rest ∙ sym (ap (λ s. cond (is_waiting s && eqb x.behind 0) (x.id ∷ free_ids xs) (free_ids xs)) e)

all_zero : (marks : List ℕ) → ((p : ℕ) → get_or marks p 0 ≡ 0) → total marks ≡ 0
all_zero [] h = refl
all_zero (x ∷ xs) h = let a = h 0 in let b = all_zero xs (λ p. h (suc p)) in omega (arith, a, b)

-- what the marks find among the rows
pub record Finds (rows : List Row) (marks : List ℕ) (k : ℕ) : Type 0 where
  pub none : total marks ≤ k → slice_get (free_ids rows) k ≡ None
  pub within : k < total marks → (find marks k).0 < length rows
  pub some : k < total marks → slice_get (free_ids rows) k ≡ Some (row_at rows (find marks k).0).id

pub finds : (rows : List Row) (marks : List ℕ) (k : ℕ) → ((p : ℕ) → p < length rows → get_or marks p 0 ≡ bit (is_free (row_at rows p))) → ((p : ℕ) → length rows ≤ p → get_or marks p 0 ≡ 0) → Finds rows marks k
finds [] marks k h b =
    let z = all_zero marks (λ p. b p (omega arith)) in
    record { none = λ l. refl; within = λ l. absurd (omega (arith, z, l)); some = λ l. absurd (omega (arith, z, l)) }
finds (x ∷ xs) [] k h b =
    let r = finds xs [] k (λ p l. h (suc p) (omega (arith, l))) (λ p l. refl) in
    let e = h 0 (omega arith) in
    record {
      none = λ l. ap (λ ids. slice_get ids k) (free_first x xs) ∙ ap (λ c. slice_get (cond c (x.id ∷ free_ids xs) (free_ids xs)) k) (bit_none (is_free x) e) ∙ r.none l;
      within = λ l. absurd (omega (arith, l));
      some = λ l. absurd (omega (arith, l));
    }
  where
    bit_none : (b : Bool) → 0 ≡ bit b → b ≡ false
    bit_none true e = absurd (omega arith)
    bit_none false e = refl
finds (x ∷ xs) (m ∷ ms) k h b =
    go (is_free x) refl (h 0 (omega arith)) k (λ j. finds xs ms j (λ p l. h (suc p) (omega (arith, l))) (λ p l. b (suc p) (omega (arith, l))))
  where
    go : (f : Bool) → is_free x ≡ f → m ≡ bit (is_free x) → (k : ℕ) → ((j : ℕ) → Finds xs ms j) → Finds (x ∷ xs) (m ∷ ms) k
    go true e is zero rest =
        let one = is ∙ ap bit e in
        let low : ltb 0 m ≡ true = lt-ltb 0 m (omega (arith, one)) in
        record {
          none = λ l. absurd (omega (arith, one, l));
          within = λ l. subst (λ c. (cond c (0, 0) (later (find ms (0 - m)))).0 < suc (length xs)) (sym low) (omega arith);
          some = λ l. ap (λ ids. slice_get ids 0) (free_first x xs) ∙ ap (λ c. slice_get (cond c (x.id ∷ free_ids xs) (free_ids xs)) 0) e
              ∙ ap (λ c. Some (row_at (x ∷ xs) (cond c (0, 0) (later (find ms (0 - m)))).0).id) (sym low);
        }
    go true e is (suc j) rest =
        let one = is ∙ ap bit e in
        let high : ltb (suc j) m ≡ false = le-ltb (suc j) m (omega (arith, one)) in
        let less : suc j - m ≡ j = omega (arith, one) in
        let r = rest j in
        record {
          none = λ l. ap (λ ids. slice_get ids (suc j)) (free_first x xs) ∙ ap (λ c. slice_get (cond c (x.id ∷ free_ids xs) (free_ids xs)) (suc j)) e ∙ r.none (omega (arith, one, l));
          within = λ l. subst (λ c. (cond c (0, suc j) (later (find ms (suc j - m)))).0 < suc (length xs)) (sym high) (subst (λ n. suc (find ms n).0 < suc (length xs)) (sym less) (let w = r.within (omega (arith, one, l)) in omega (arith, w)));
          some = λ l. ap (λ ids. slice_get ids (suc j)) (free_first x xs) ∙ ap (λ c. slice_get (cond c (x.id ∷ free_ids xs) (free_ids xs)) (suc j)) e ∙ r.some (omega (arith, one, l))
              ∙ ap (λ n. Some (row_at xs (find ms n).0).id) (sym less)
              ∙ ap (λ c. Some (row_at (x ∷ xs) (cond c (0, suc j) (later (find ms (suc j - m)))).0).id) (sym high);
        }
    go false e is k rest =
        let none = is ∙ ap bit e in
        let high : ltb k m ≡ false = le-ltb k m (omega (arith, none)) in
        let less : k - m ≡ k = omega (arith, none) in
        let r = rest k in
        record {
          none = λ l. ap (λ ids. slice_get ids k) (free_first x xs) ∙ ap (λ c. slice_get (cond c (x.id ∷ free_ids xs) (free_ids xs)) k) e ∙ r.none (omega (arith, none, l));
          within = λ l. subst (λ c. (cond c (0, k) (later (find ms (k - m)))).0 < suc (length xs)) (sym high) (subst (λ n. suc (find ms n).0 < suc (length xs)) (sym less) (let w = r.within (omega (arith, none, l)) in omega (arith, w)));
          some = λ l. ap (λ ids. slice_get ids k) (free_first x xs) ∙ ap (λ c. slice_get (cond c (x.id ∷ free_ids xs) (free_ids xs)) k) e ∙ r.some (omega (arith, none, l))
              ∙ ap (λ n. Some (row_at xs (find ms n).0).id) (sym less)
              ∙ ap (λ c. Some (row_at (x ∷ xs) (cond c (0, k) (later (find ms (k - m)))).0).id) (sym high);
        }

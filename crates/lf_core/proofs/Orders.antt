-- The orders of the schedules are legal, and the waiting jobs stand by rising number.
use Rattle.std.proofs.Common.{Bool, List, Some, [], ap, arith, cond, eqb, false, inl, inr, length, not, refl, subst, suc, sym, take, true, zero, ℕ, ◌&&◌, ◌++◌, ◌-◌, ◌<◌, ◌≤◌, ◌∙◌, ◌∷◌, ◌≡◌, ◌⊎◌, length-append}
use Rattle.std.specs.List.{filter}
use Rattle.std.proofs.lemmas.Bool.{eqb-true, le-ltb}
use Rattle.lf_base.specs.declared.behaviours.Job.{Job}
use Rattle.lf_base.specs.declared.behaviours.Spawn.{Spawn}
use Rattle.lf_base.specs.Sets.{Member}
use Rattle.lf_base.proofs.ListLemmas.Filters.{Member_filter, Member_of_filter}
use Rattle.lf_base.proofs.ListLemmas.Members.{Member_left, Member_of_append}
use Rattle.lf_base.proofs.ListLemmas.Tests.{none_any}
use Rattle.lf_core.specs.Lawful.{Lawful, Reached, at_first, next_one}
use Rattle.lf_core.specs.Orders.{Rises, all_done, first_then, ids, round_then, rounds_from, singles_from}
use Rattle.lf_core.specs.Reading.{Reading}
use Rattle.lf_core.specs.World.{IsLegalFrom, Runs, World, done, done_if, is_ready, numbered, ready_job, ready_jobs, serial_from}
use Rattle.lf_core.proofs.Events.{free_ready, good, job_of_one, ready_waits}
use Rattle.lf_core.proofs.Holders.{other}
use Rattle.lf_core.proofs.Tests.{and_right, not_true}
use Rattle.lf_core.specs.Tracks.{blocks}
use Rattle.lf_queue.specs.Ready.{meets}

-- ---- rising lists
pub rises_filter : (p : Job → Bool) (js : List Job) → Rises js → Rises (filter p js)
rises_filter p [] h = tt
rises_filter p (j ∷ js) h = elim (p j) as (λ b. Rises (cond b (j ∷ filter p js) (filter p js))) [
  | true ↦ (λ k m. h.0 k (Member_of_filter p k js m).0, rises_filter p js h.1)
  | false ↦ rises_filter p js h.1
]

taken_from : (n : ℕ) (js : List Job) (k : Job) → Member k (take n js) → Member k js
taken_from zero js k m = absurd m
taken_from (suc n) [] k m = absurd m
taken_from (suc n) (j ∷ js) k (inl e) = inl e
taken_from (suc n) (j ∷ js) k (inr m) = inr (taken_from n js k m)

rises_take : (n : ℕ) (js : List Job) → Rises js → Rises (take n js)
rises_take zero js h = tt
rises_take (suc n) [] h = tt
rises_take (suc n) (j ∷ js) h = (λ k m. h.0 k (taken_from n js k m), rises_take n js h.1)

pub rises_append : (js ks : List Job) → Rises js → Rises ks → ((j k : Job) → Member j js → Member k ks → j.id < k.id) → Rises (js ++ ks)
rises_append [] ks h g b = g
rises_append (j ∷ js) ks h g b = (
  λ k m. elim (Member_of_append k js ks m) [ inl n ↦ h.0 k n | inr n ↦ b j k (inl refl) n ],
  rises_append js ks h.1 g (λ i k m n. b i k (inr m) n),
)

pub new_ids : (n : ℕ) (ss : List Spawn) (k : Job) → Member k (numbered n ss) → n ≤ k.id
new_ids n [] k m = absurd m
new_ids n (s ∷ ss) k (inl e) = let a = ap (λ (j : Job). j.id) e in omega arith
new_ids n (s ∷ ss) k (inr m) = let a = new_ids (suc n) ss k m in omega arith

pub rises_numbered : (n : ℕ) (ss : List Spawn) → Rises (numbered n ss)
rises_numbered n [] = tt
rises_numbered n (s ∷ ss) = (λ k m. let a = new_ids (suc n) ss k m in omega arith, rises_numbered (suc n) ss)

module _ {C : Type 0} (r : Reading C) (f : Runs C) (law : Lawful r f) where
  -- the waiting jobs of a world of Serial stand by rising number
  pub waiting_rises : (w : World C) → Reached f w → Rises w.waiting
  waiting_rises w at_first = (λ k m. absurd m, tt)
  waiting_rises _ (next_one {s = s} j x m) =
      let g = good r f law s x in
      rises_append (filter (other j.id) s.waiting) (numbered s.next _) (rises_filter (other j.id) s.waiting (waiting_rises s x)) (rises_numbered s.next _)
      (λ i k p q. let a = g.numbered.below i (Member_of_filter (other j.id) i s.waiting p).0 in let b = new_ids s.next _ k q in omega (arith, a, b))

  pub ready_rises : (w : World C) → Reached f w → Rises (ready_jobs w)
  ready_rises w x = rises_filter (is_ready w) w.waiting (waiting_rises w x)

  -- a ready job is that of its number
  its_own : (w : World C) → Reached f w → (j : Job) → Member j (ready_jobs w) → ready_job w j.id ≡ Some j
  its_own w x j m =
      let g = good r f law w x in
      job_of_one (ready_jobs w) j m (λ k n e. g.numbered.unique k j (ready_waits w k n) (ready_waits w j m) e)

  -- a ready job stays ready while another one is started, run and ended
  pub ready_stays : (w : World C) → Reached f w → (j k : Job) → Member j (ready_jobs w) → Member k (ready_jobs w) → j.id < k.id → Member k (ready_jobs (done f w j))
  ready_stays w x j k m n less =
      free_ready (done f w j) k (good r f law (done f w j) (next_one j x m)).numbered.idle (
        Member_left k (filter (other j.id) w.waiting) _ (Member_filter (other j.id) k w.waiting (ready_waits w k n) (ap not (differs k.id j.id less))),
        λ i p. elim (Member_of_append i (filter (other j.id) w.waiting) _ p) [
          | inl q ↦ none_any (blocks k) w.waiting (not_true _ (and_right _ _ (Member_of_filter (is_ready w) k w.waiting n).1)) i (Member_of_filter (other j.id) i w.waiting q).0
          | inr q ↦
              let a = (good r f law w x).numbered.below k (ready_waits w k n) in
              let b = new_ids w.next _ i q in
              ap (λ t. t && meets i.cowns k.cowns) (le-ltb i.id k.id (omega (arith, a, b)))
        ],
      )
    where
      differs : (a b : ℕ) → b < a → eqb a b ≡ false
      differs a b l = elim (eqb a b) as (λ t. eqb a b ≡ t → t ≡ false) [ true ↦ λ e. absurd (let z = eqb-true a b e in omega arith) | false ↦ λ e. refl ] refl

  next_legal : (w : World C) → Reached f w → (j : Job) → Member j (ready_jobs w) → (bs : List ℕ) → IsLegalFrom f (done f w j) bs → IsLegalFrom f w (j.id ∷ bs)
  next_legal w x j m bs h = ((j, its_own w x j m), subst (λ o. IsLegalFrom f (done_if f w o) bs) (sym (its_own w x j m)) h)

  -- ---- one at a time
  pub singles_legal : (n : ℕ) (w : World C) → Reached f w → IsLegalFrom f w (singles_from f n w) × (length (singles_from f n w) ≤ n)
  singles_legal zero w x = (tt, omega arith)
  singles_legal (suc n) w x = go (ready_jobs w) (λ j m. m) (λ v y. singles_legal n v y)
    where
      go : (js : List Job) → ((j : Job) → Member j js → Member j (ready_jobs w)) → ((v : World C) → Reached f v → IsLegalFrom f v (singles_from f n v) × (length (singles_from f n v) ≤ n))
          → IsLegalFrom f w (first_then f (singles_from f n) w js) × (length (first_then f (singles_from f n) w js) ≤ suc n)
      go [] h rest = (tt, omega arith)
      go (j ∷ js) h rest =
          let m = h j (inl refl) in
          let later = rest (done f w j) (next_one j x m) in
          (next_legal w x j m (singles_from f n (done f w j)) later.0, let l = later.1 in omega (arith, l))

  -- ---- round by round
  all_legal : (w : World C) → Reached f w → (js : List Job) → ((j : Job) → Member j js → Member j (ready_jobs w)) → Rises js → (bs : List ℕ)
      → ((v : World C) → Reached f v → v ≡ all_done f w js → IsLegalFrom f v bs) → IsLegalFrom f w (ids js ++ bs)
  all_legal w x [] h o bs rest = rest w x refl
  all_legal w x (j ∷ js) h o bs rest =
      let m = h j (inl refl) in
      next_legal w x j m (ids js ++ bs) (
      all_legal (done f w j) (next_one j x m) js (λ k n. ready_stays w x j k m (h k (inr n)) (o.0 k n)) o.1 bs rest)

  take_length : (n : ℕ) (js : List Job) → length (take n js) ≤ n
  take_length zero js = omega arith
  take_length (suc n) [] = omega arith
  take_length (suc n) (j ∷ js) = let a = take_length n js in omega arith

  ids_length : (js : List Job) → length (ids js) ≡ length js
  ids_length [] = refl
  ids_length (j ∷ js) = ap suc (ids_length js)

  pub rounds_legal : (rounds n : ℕ) (w : World C) → Reached f w → IsLegalFrom f w (rounds_from f rounds n w) × (length (rounds_from f rounds n w) ≤ n)
  rounds_legal zero n w x = (tt, omega arith)
  rounds_legal (suc rounds) n w x =
      go (take n (ready_jobs w)) (λ j m. taken_from n (ready_jobs w) j m) (rises_take n (ready_jobs w) (ready_rises w x)) (take_length n (ready_jobs w)) (λ m v y. rounds_legal rounds m v y)
    where
      go : (js : List Job) → ((j : Job) → Member j js → Member j (ready_jobs w)) → Rises js → length js ≤ n
          → ((m : ℕ) (v : World C) → Reached f v → IsLegalFrom f v (rounds_from f rounds m v) × (length (rounds_from f rounds m v) ≤ m))
          → IsLegalFrom f w (round_then f (rounds_from f rounds) n w js) × (length (round_then f (rounds_from f rounds) n w js) ≤ n)
      go [] h o l rest = (tt, omega arith)
      go (j ∷ js) h o l rest = (
        all_legal w x (j ∷ js) h o (rounds_from f rounds (n - length (j ∷ js)) (all_done f w (j ∷ js)))
            (λ v y e. subst (λ u. IsLegalFrom f v (rounds_from f rounds (n - length (j ∷ js)) u)) e (rest (n - length (j ∷ js)) v y).0),
        short (ids (j ∷ js)) (rounds_from f rounds (n - length (j ∷ js)) (all_done f w (j ∷ js))) (ids_length (j ∷ js)) (all_short w x (j ∷ js) h o),
      )
        where
          all_short : (u : World C) → Reached f u → (ks : List Job) → ((k : Job) → Member k ks → Member k (ready_jobs u)) → Rises ks → length (rounds_from f rounds (n - length (j ∷ js)) (all_done f u ks)) ≤ n - length (j ∷ js)
          all_short u y [] g p = (rest (n - length (j ∷ js)) u y).1
          all_short u y (k ∷ ks) g p = let m = g k (inl refl) in all_short (done f u k) (next_one k y m) ks (λ i q. ready_stays u y k i m (g i (inr q)) (p.0 i q)) p.1

          short : (us vs : List ℕ) → length us ≡ length (j ∷ js) → length vs ≤ n - length (j ∷ js) → length (us ++ vs) ≤ n
          short us vs e s = let a = length-append us vs in omega (arith, a, e, s, l)

  -- ---- they go on until nothing is ready or so many were started
  one_step : (w : World C) → Reached f w → (j : Job) → Member j (ready_jobs w) → (bs : List ℕ) → serial_from f w (j.id ∷ bs) ≡ serial_from f (done f w j) bs
  one_step w x j m bs = ap (λ o. serial_from f (done_if f w o) bs) (its_own w x j m)

  pub singles_end : (n : ℕ) (w : World C) → Reached f w → (length (singles_from f n w) ≡ n) ⊎ (ready_jobs (serial_from f w (singles_from f n w)) ≡ [])
  singles_end zero w x = inl refl
  singles_end (suc n) w x = go (ready_jobs w) refl (λ j m. m) (λ v y. singles_end n v y)
    where
      go : (js : List Job) → ready_jobs w ≡ js → ((j : Job) → Member j js → Member j (ready_jobs w)) → ((v : World C) → Reached f v → (length (singles_from f n v) ≡ n) ⊎ (ready_jobs (serial_from f v (singles_from f n v)) ≡ []))
          → (length (first_then f (singles_from f n) w js) ≡ suc n) ⊎ (ready_jobs (serial_from f w (first_then f (singles_from f n) w js)) ≡ [])
      go [] e h rest = inr e
      go (j ∷ js) e h rest = let m = h j (inl refl) in elim (rest (done f w j) (next_one j x m)) [
        | inl l ↦ inl (ap suc l)
        | inr z ↦ inr (ap (λ v. ready_jobs v) (one_step w x j m (singles_from f n (done f w j))) ∙ z)
      ]

  all_reached : (w : World C) → Reached f w → (js : List Job) → ((j : Job) → Member j js → Member j (ready_jobs w)) → Rises js → Reached f (all_done f w js)
  all_reached w x [] h o = x
  all_reached w x (j ∷ js) h o = let m = h j (inl refl) in all_reached (done f w j) (next_one j x m) js (λ k n. ready_stays w x j k m (h k (inr n)) (o.0 k n)) o.1

  all_steps : (w : World C) → Reached f w → (js : List Job) → ((j : Job) → Member j js → Member j (ready_jobs w)) → Rises js → (bs : List ℕ)
      → serial_from f w (ids js ++ bs) ≡ serial_from f (all_done f w js) bs
  all_steps w x [] h o bs = refl
  all_steps w x (j ∷ js) h o bs =
      let m = h j (inl refl) in
      one_step w x j m (ids js ++ bs) ∙ all_steps (done f w j) (next_one j x m) js (λ k n. ready_stays w x j k m (h k (inr n)) (o.0 k n)) o.1 bs

  take_none : (n : ℕ) (js : List Job) → take n js ≡ [] → (0 ≡ n) ⊎ (js ≡ [])
  take_none zero js e = inl refl
  take_none (suc n) [] e = inr refl
  take_none (suc n) (j ∷ js) e = absurd (let l = ap length e in omega (arith, l))

  pub rounds_end : (rounds n : ℕ) (w : World C) → n ≤ rounds → Reached f w → (length (rounds_from f rounds n w) ≡ n) ⊎ (ready_jobs (serial_from f w (rounds_from f rounds n w)) ≡ [])
  rounds_end zero n w l x = inl (let none : 0 ≡ n = omega arith in none)
  rounds_end (suc rounds) n w l x =
      go (take n (ready_jobs w)) refl (λ j m. taken_from n (ready_jobs w) j m) (rises_take n (ready_jobs w) (ready_rises w x)) (take_length n (ready_jobs w)) (λ m v b y. rounds_end rounds m v b y)
    where
      go : (js : List Job) → take n (ready_jobs w) ≡ js → ((j : Job) → Member j js → Member j (ready_jobs w)) → Rises js → length js ≤ n
          → ((m : ℕ) (v : World C) → m ≤ rounds → Reached f v → (length (rounds_from f rounds m v) ≡ m) ⊎ (ready_jobs (serial_from f v (rounds_from f rounds m v)) ≡ []))
          → (length (round_then f (rounds_from f rounds) n w js) ≡ n) ⊎ (ready_jobs (serial_from f w (round_then f (rounds_from f rounds) n w js)) ≡ [])
      go [] e h o s rest = take_none n (ready_jobs w) e
      go (j ∷ js) e h o s rest =
          elim (rest (n - length (j ∷ js)) (all_done f w (j ∷ js)) (fewer (length js) s) (all_reached w x (j ∷ js) h o)) [
            | inl k ↦ inl (whole (ids (j ∷ js)) (rounds_from f rounds (n - length (j ∷ js)) (all_done f w (j ∷ js))) (ids_length (j ∷ js)) k)
            | inr z ↦ inr (ap (λ v. ready_jobs v) (all_steps w x (j ∷ js) h o (rounds_from f rounds (n - length (j ∷ js)) (all_done f w (j ∷ js)))) ∙ z)
          ]
        where
          fewer : (m : ℕ) → suc m ≤ n → n - suc m ≤ rounds
          fewer m s = omega (arith, l, s)

          whole : (us vs : List ℕ) → length us ≡ length (j ∷ js) → length vs ≡ n - length (j ∷ js) → length (us ++ vs) ≡ n
          whole us vs d k = let a = length-append us vs in omega (arith, a, d, k, s)

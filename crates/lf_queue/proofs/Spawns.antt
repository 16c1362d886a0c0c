-- A job is spawned: its spots come one after the other, and then its row.
use Rattle.std.proofs.Common.{Bool, List, None, Option, Some, [], ap, arith, cond, count_by, eqb, false, get_or, inl, inr, leb, length, ltb, refl, set, subst, suc, sym, true, zero, ℕ, ◌&&◌, ◌++◌, ◌+◌, ◌<◌, ◌≤◌, ◌∙◌, ◌∷◌, ◌≡◌, ◌⊎◌}
use Rattle.std.proofs.lemmas.Bool.{eq-eqb, eqb-true, le-ltb, lt-ltb}
use Rattle.lf_base.specs.declared.behaviours.Job.{Job}
use Rattle.lf_base.specs.declared.ids.CownId.{CownId}
use Rattle.lf_base.specs.Names.{same_cown}
use Rattle.lf_base.specs.Sets.{Member}
use Rattle.lf_base.proofs.ListLemmas.Members.{Member_of_append}
use Rattle.lf_base.proofs.ListLemmas.Tests.{none_count}
use Rattle.lf_base.proofs.NameLemmas.SameNames.{one_cown, same_cown_is}
use Rattle.lf_queue.specs.declared.row.Row.{Row}
use Rattle.lf_queue.specs.declared.spot.Spot.{Spot}
use Rattle.lf_queue.specs.Lines.{AreCounted, AreLasts, InLines, KeepsJobs, bit, is_led, is_next, joined, leads_to, led_on, over_at, row_at, row_cowns, spot_at, waits_at}
use Rattle.std.proofs.Common.{append_assoc}
use Rattle.std.proofs.Common.{◌-◌}
use Rattle.std.proofs.Common.{take}
use Rattle.std.proofs.lemmas.List.{get_or_append_left, get_or-append_right, get_or-set_other, get_or-set_same, length-append, length-map, length-set, length_push, map-append, take_all, take_more}
use Rattle.lf_queue.specs.Ready.{Holder}
use Rattle.lf_queue.specs.declared.row.Stage.TheVariants.{Waiting}
use Rattle.lf_queue.specs.Lines.{holders_from, is_free, is_over, is_waiting, waiting_jobs}
use Rattle.lf_queue.proofs.Rows.{holders_append, holders_same, lines_for, row_before, row_last, row_past, waiting_append, waiting_member, holder_member, waits_or_runs}
use Rattle.lf_queue.proofs.SpotLists.{cowns_append, cowns_in, cowns_of_all, cowns_of_none, no_row_cowns, row_cowns_pairs}
use Rattle.lf_queue.specs.Lines.{no_spot}
use Rattle.lf_base.proofs.ListLemmas.Members.{Member_map, Member_of_map}
use Rattle.lf_queue.proofs.SpotLists.{pairs_at}
use Rattle.lf_queue.proofs.Joining.{lines_after, no_next, spot_before, spot_last, spot_member, upto_joined}
use Rattle.lf_queue.proofs.SpotLists.{all_in, count_joined, joined_pairs, led_pairs, pair_of, pairs, pairs_length}

-- how far the spots of a job have come
pub record Spawning (rows : List Row) (was spots : List Spot) (last : CownId → Option ℕ) (cowns : List CownId) (behind : ℕ) : Type 0 where
  pub lines : InLines (over_at rows) (waits_at rows) spots
  pub lasts : AreLasts last spots
  pub upto : (s : Spot) → Member s spots → s.row ≤ length rows
  pub counted : AreCounted rows spots
  pub behind_is : behind ≡ count_by (leads_to (length rows)) spots
  pub are : pairs spots ≡ pairs was ++ all_in (length rows) cowns

pub is_next_some : (p : ℕ) (o : Option ℕ) → is_next p o ≡ true → o ≡ Some p
is_next_some p None e = absurd (cc)
is_next_some p (Some q) e = ap (λ n. Some n) (eqb-true q p e)

pub append_nil : {X : Type 0} (xs : List X) → xs ≡ xs ++ []
append_nil [] = refl
append_nil (x ∷ xs) = ap (λ l. x ∷ l) (append_nil xs)

module _ (rows : List Row) (spots : List Spot) (last : CownId → Option ℕ) (place : ℕ → Option ℕ) (marks : List ℕ) (keeps : KeepsJobs rows spots last place marks) where
  none_lead : count_by (leads_to (length rows)) spots ≡ 0
  none_lead = none_count (leads_to (length rows)) spots (λ s m. elim (leads_to (length rows) s) as (λ b. leads_to (length rows) s ≡ b → b ≡ false) [
    | true ↦ λ e. absurd (
        let t = keeps.lines.there s (length rows) m (is_next_some (length rows) s.next e) in
        let a = keeps.together.rows_there t.0 t.1.0 in let b = t.1.1.0 in omega arith)
    | false ↦ λ e. refl
  ] refl)

  pub spawning_begins : Spawning rows spots spots last [] 0
  spawning_begins = record {
    lines = keeps.lines;
    lasts = keeps.lasts;
    upto = λ s m. let a = keeps.together.rows_there s m in omega arith;
    counted = keeps.counted;
    behind_is = sym none_lead;
    are = append_nil (pairs spots);
  }

pub length_joined : (rows : List Row) (spots : List Spot) (last : Option ℕ) (c : CownId) → length (joined rows spots last c) ≡ length spots + 1
length_joined rows spots last c =
    sym (pairs_length (joined rows spots last c)) ∙ ap length (joined_pairs rows spots last c) ∙ length_push (pairs spots) (length rows, c)
    ∙ ap (λ n. n + 1) (pairs_length spots)

module _ (rows : List Row) (was spots : List Spot) (last next : CownId → Option ℕ) (cowns : List CownId) (behind : ℕ) (c : CownId) (so_far : Spawning rows was spots last cowns behind)
    (entered : (d : CownId) → next d ≡ cond (same_cown c d) (Some (length spots)) (last d)) where
  led_length : length (led_on rows spots (last c)) ≡ length spots
  led_length = sym (pairs_length (led_on rows spots (last c))) ∙ ap length (led_pairs rows spots (last c)) ∙ pairs_length spots

  -- a spot of before has its row and its cown
  kept_spot : (k : ℕ) → k < length spots → pair_of (spot_at (joined rows spots (last c) c) k) ≡ pair_of (spot_at spots k)
  kept_spot k l =
      ap pair_of (spot_before (led_on rows spots (last c)) _ k (omega (arith, led_length)))
      ∙ sym (pairs_at (led_on rows spots (last c)) k)
      ∙ ap (λ l. get_or l k (pair_of no_spot)) (led_pairs rows spots (last c))
      ∙ pairs_at spots k

  fresh_spot : pair_of (spot_at (joined rows spots (last c) c) (length spots)) ≡ (length rows, c)
  fresh_spot = ap (λ n. pair_of (spot_at (joined rows spots (last c) c) n)) (sym led_length) ∙ ap pair_of (spot_last (led_on rows spots (last c)) _)

  -- each spot is like one of before, or the new one
  member_joined : (t : Spot) → Member t (joined rows spots (last c) c) → ((s : Spot) × (Member s spots × (pair_of t ≡ pair_of s))) ⊎ (pair_of t ≡ (length rows, c))
  member_joined t m = elim (Member_of_append (pair_of t) (pairs spots) ((length rows, c) ∷ []) (subst (λ l. Member (pair_of t) l) (joined_pairs rows spots (last c) c) (Member_map pair_of t (joined rows spots (last c) c) m))) [
    | inl n ↦ let r = Member_of_map pair_of (pair_of t) spots n in inl (r.0, (r.1.0, sym r.1.1))
    | inr n ↦ elim n [ inl e ↦ inr (sym e) | inr a ↦ absurd a ]
  ]

  lasts_after : AreLasts next (joined rows spots (last c) c)
  lasts_after = record {
    within = λ d k e. let l = length_joined rows spots (last c) c in elim (same_cown c d) as (λ b. same_cown c d ≡ b → k < length (joined rows spots (last c) c)) [
      | true ↦ λ h. let a = some_one (length spots) k (sym (ap (λ b. cond b (Some (length spots)) (last d)) h) ∙ sym (entered d) ∙ e) in omega (arith, l, a)
      | false ↦ λ h. let a = so_far.lasts.within d k (sym (ap (λ b. cond b (Some (length spots)) (last d)) h) ∙ sym (entered d) ∙ e) in omega (arith, l, a)
    ] refl;
    cown = λ d k e. elim (same_cown c d) as (λ b. same_cown c d ≡ b → (spot_at (joined rows spots (last c) c) k).cown ≡ d) [
      | true ↦ λ h.
          let a = some_one (length spots) k (sym (ap (λ b. cond b (Some (length spots)) (last d)) h) ∙ sym (entered d) ∙ e) in
          ap (λ n. (spot_at (joined rows spots (last c) c) n).cown) (sym a) ∙ ap (λ x. x.1) fresh_spot ∙ same_cown_is c d h
      | false ↦ λ h.
          let a = sym (ap (λ b. cond b (Some (length spots)) (last d)) h) ∙ sym (entered d) ∙ e in
          ap (λ x. x.1) (kept_spot k (so_far.lasts.within d k a)) ∙ so_far.lasts.cown d k a
    ] refl;
    latest = λ d k e t m same. elim (same_cown c d) as (λ b. same_cown c d ≡ b → t.row ≤ (spot_at (joined rows spots (last c) c) k).row) [
      | true ↦ λ h.
          let a = some_one (length spots) k (sym (ap (λ b. cond b (Some (length spots)) (last d)) h) ∙ sym (entered d) ∙ e) in
          let row : (spot_at (joined rows spots (last c) c) k).row ≡ length rows = ap (λ n. (spot_at (joined rows spots (last c) c) n).row) (sym a) ∙ ap (λ x. x.0) fresh_spot in
          let up = upto_joined rows spots last c so_far.lines so_far.lasts so_far.upto t m in
          omega (arith, row, up)
      | false ↦ λ h.
          let a = sym (ap (λ b. cond b (Some (length spots)) (last d)) h) ∙ sym (entered d) ∙ e in
          let row = ap (λ x. x.0) (kept_spot k (so_far.lasts.within d k a)) in
          elim (member_joined t m) [
            | inl o ↦ let l = so_far.lasts.latest d k a o.0 o.1.0 (sym (ap (λ x. x.1) o.1.1) ∙ same) in let r = ap (λ x. x.0) o.1.1 in omega (arith, row, l, r)
            | inr f ↦ absurd (both (same_cown c d) (one_cown c d (sym (ap (λ x. x.1) f) ∙ same)) h)
          ]
    ] refl;
    none = λ d e t m same. elim (same_cown c d) as (λ b. same_cown c d ≡ b → ⊥) [
      | true ↦ λ h. not_some (length spots) (sym (ap (λ b. cond b (Some (length spots)) (last d)) h) ∙ sym (entered d) ∙ e)
      | false ↦ λ h.
          let a = sym (ap (λ b. cond b (Some (length spots)) (last d)) h) ∙ sym (entered d) ∙ e in
          elim (member_joined t m) [
            | inl o ↦ so_far.lasts.none d a o.0 o.1.0 (sym (ap (λ x. x.1) o.1.1) ∙ same)
            | inr f ↦ both (same_cown c d) (one_cown c d (sym (ap (λ x. x.1) f) ∙ same)) h
          ]
    ] refl;
  }
    where
      some_one : (a b : ℕ) → Some a ≡ Some b → a ≡ b
      some_one a b e = cc

      not_some : (a : ℕ) → Some a ≡ None → ⊥
      not_some a e = cc

      both : (b : Bool) → b ≡ true → b ≡ false → ⊥
      both b e f = cc

  counts_after : (p : ℕ) → count_by (leads_to p) (joined rows spots (last c) c) ≡ count_by (leads_to p) spots + bit (is_led rows spots (last c) && eqb (length rows) p)
  counts_after p = count_joined rows spots (last c) c p (λ k e. so_far.lasts.within c k e)
      (λ k q e y n. no_next rows spots last c so_far.lines so_far.lasts so_far.upto k e y q n)

  apart : (a : Bool) (p : ℕ) → p < length rows → bit (a && eqb (length rows) p) ≡ 0
  apart a p l = ap (λ b. bit (a && b)) (other_number (length rows) p l) ∙ never a
    where
      other_number : (n p : ℕ) → p < n → eqb n p ≡ false
      other_number n p l = elim (eqb n p) as (λ b. eqb n p ≡ b → b ≡ false) [ true ↦ λ e. absurd (let f = eqb-true n p e in omega arith) | false ↦ λ e. refl ] refl

      never : (a : Bool) → bit (a && false) ≡ 0
      never true = refl
      never false = refl

  pub spawning_more : (more : ℕ) → more ≡ behind + bit (is_led rows spots (last c)) → Spawning rows was (joined rows spots (last c) c) next (cowns ++ c ∷ []) more
  spawning_more more is = record {
    lines = lines_after rows spots last c so_far.lines so_far.lasts so_far.upto;
    lasts = lasts_after;
    upto = upto_joined rows spots last c so_far.lines so_far.lasts so_far.upto;
    counted = λ p l. so_far.counted p l ∙ sym (counts_after p ∙ ap (λ n. count_by (leads_to p) spots + n) (apart (is_led rows spots (last c)) p l) ∙ plus_none (count_by (leads_to p) spots));
    behind_is = is ∙ ap (λ n. n + bit (is_led rows spots (last c))) so_far.behind_is ∙ sym (counts_after (length rows) ∙ ap (λ b. count_by (leads_to (length rows)) spots + bit b) (with_itself (is_led rows spots (last c))));
    are = joined_pairs rows spots (last c) c ∙ ap (λ l. l ++ (length rows, c) ∷ []) so_far.are ∙ append_assoc (pairs was) (all_in (length rows) cowns) ((length rows, c) ∷ [])
        ∙ ap (λ l. pairs was ++ l) (sym (map-append (λ d. (length rows, d)) cowns (c ∷ [])));
  }
    where
      plus_none : (n : ℕ) → n + 0 ≡ n
      plus_none n = omega arith

      with_itself : (b : Bool) → (b && eqb (length rows) (length rows)) ≡ b
      with_itself true = eq-eqb (length rows) (length rows) refl
      with_itself false = refl

-- ---- the row comes
minus_one : (n m : ℕ) → n ≡ m + 1 → n - 1 ≡ m
minus_one n m e = omega arith

bit_test : (b : Bool) → bit b ≡ 1 → b ≡ true
bit_test true e = refl
bit_test false e = absurd (omega arith)

module _ (rows : List Row) (was spots : List Spot) (lastwas last : CownId → Option ℕ) (place found : ℕ → Option ℕ) (marks after : List ℕ) (keeps : KeepsJobs rows was lastwas place marks) (job : Job) (behind : ℕ)
    (done : Spawning rows was spots last job.cowns behind)
    (above : (p : ℕ) → p < length rows → over_at rows p ≡ false → (row_at rows p).id < job.id)
    (entered : (n : ℕ) → found n ≡ cond (eqb job.id n) (Some (length rows)) (place n))
    (marked : (p : ℕ) → p < length rows → get_or after p 0 ≡ get_or marks p 0)
    (mark : get_or after (length rows) 0 ≡ bit (eqb behind 0))
    (beyond : (p : ℕ) → length rows < p → get_or after p 0 ≡ get_or marks p 0)
    (end : ℕ) (end_is : end ≡ length was + length job.cowns) where
  abbrev new_row : Row
  new_row = record { id = job.id; stage = Waiting job; first = length was; end = end; behind = behind }

  abbrev after_rows : List Row
  after_rows = rows ++ new_row ∷ []

  rows_length : length after_rows ≡ length rows + 1
  rows_length = length_push rows new_row

  old_row : (p : ℕ) → p < length rows → row_at after_rows p ≡ row_at rows p
  old_row p l = row_before rows new_row p l

  the_row : row_at after_rows (length rows) ≡ new_row
  the_row = row_last rows new_row

  which : (p : ℕ) → (p < length rows) ⊎ ((p ≡ length rows) ⊎ (length rows < p))
  which p = grind arith

  same_over : (p : ℕ) → over_at after_rows p ≡ over_at rows p
  same_over p = elim (which p) [
    | inl l ↦ ap (λ (r : Row). is_over r.stage) (old_row p l)
    | inr o ↦ elim o [
      | inl e ↦ ap (λ q. over_at after_rows q) e ∙ ap (λ (r : Row). is_over r.stage) the_row ∙ sym (ap (λ q. over_at rows q) e ∙ ap (λ (r : Row). is_over r.stage) (row_past rows (length rows) (omega arith)))
      | inr l ↦ ap (λ (r : Row). is_over r.stage) (row_past after_rows p (let f = rows_length in omega arith)) ∙ sym (ap (λ (r : Row). is_over r.stage) (row_past rows p (omega arith)))
    ]
  ]

  same_waits : (p : ℕ) → waits_at after_rows p ≡ waits_at rows p
  same_waits p = elim (which p) [
    | inl l ↦ ap (λ (r : Row). is_waiting r.stage) (old_row p l)
    | inr o ↦ elim o [
      | inl e ↦ ap (λ q. waits_at after_rows q) e ∙ ap (λ (r : Row). is_waiting r.stage) the_row ∙ sym (ap (λ q. waits_at rows q) e ∙ ap (λ (r : Row). is_waiting r.stage) (row_past rows (length rows) (omega arith)))
      | inr l ↦ ap (λ (r : Row). is_waiting r.stage) (row_past after_rows p (let f = rows_length in omega arith)) ∙ sym (ap (λ (r : Row). is_waiting r.stage) (row_past rows p (omega arith)))
    ]
  ]

  either : (p : ℕ) → p < length after_rows → (p < length rows) ⊎ (p ≡ length rows)
  either p l = let f = rows_length in grind arith

  -- the spots of before, and those of the row
  spots_length : length spots ≡ length was + length job.cowns
  spots_length = sym (pairs_length spots) ∙ ap length done.are ∙ length-append (pairs was) (all_in (length rows) job.cowns) ∙ ap (λ n. n + length (all_in (length rows) job.cowns)) (pairs_length was) ∙ ap (λ n. length was + n) (length-map job.cowns (λ c. (length rows, c)))

  old_spot : (k : ℕ) → k < length was → (spot_at spots k).row ≡ (spot_at was k).row
  old_spot k l = ap (λ x. x.0) (sym (pairs_at spots k) ∙ ap (λ l. get_or l k (pair_of no_spot)) done.are
      ∙ get_or_append_left (pairs was) (all_in (length rows) job.cowns) (pair_of no_spot) k (let e = pairs_length was in omega arith) ∙ pairs_at was k)

  all_at : (n k : ℕ) (cs : List CownId) → k < length cs → (get_or (all_in n cs) k (pair_of no_spot)).0 ≡ n
  all_at n k [] l = absurd (omega arith)
  all_at n zero (c ∷ cs) l = refl
  all_at n (suc k) (c ∷ cs) l = all_at n k cs (omega arith)

  new_spot_row : (k : ℕ) → length was ≤ k → k < length spots → (spot_at spots k).row ≡ length rows
  new_spot_row k m l =
      ap (λ x. x.0) (sym (pairs_at spots k) ∙ ap (λ l. get_or l k (pair_of no_spot)) done.are
      ∙ get_or-append_right (pairs was) (all_in (length rows) job.cowns) (length was) k (pair_of no_spot) (pairs_length was) m)
      ∙ all_at (length rows) (k - length was) job.cowns (let e = spots_length in omega arith)

  not_same : (a b : ℕ) → b < a → eqb a b ≡ false
  not_same a b l = elim (eqb a b) as (λ t. eqb a b ≡ t → t ≡ false) [ true ↦ λ e. absurd (let f = eqb-true a b e in omega arith) | false ↦ λ e. refl ] refl

  cowns_before : (p : ℕ) → p < length rows → row_cowns spots p ≡ row_cowns was p
  cowns_before p l =
      row_cowns_pairs spots p ∙ ap (cowns_in p) done.are ∙ cowns_append p (pairs was) (all_in (length rows) job.cowns)
      ∙ ap (λ l. cowns_in p (pairs was) ++ l) (cowns_of_none p (length rows) job.cowns (not_same (length rows) p (omega arith))) ∙ sym (append_nil (cowns_in p (pairs was))) ∙ sym (row_cowns_pairs was p)

  cowns_now : row_cowns spots (length rows) ≡ job.cowns
  cowns_now =
      row_cowns_pairs spots (length rows) ∙ ap (cowns_in (length rows)) done.are ∙ cowns_append (length rows) (pairs was) (all_in (length rows) job.cowns)
      ∙ ap (λ l. l ++ cowns_in (length rows) (all_in (length rows) job.cowns)) (sym (row_cowns_pairs was (length rows)) ∙ no_row_cowns was (length rows) (λ s m. let l = keeps.together.rows_there s m in flip_same s.row (length rows) l))
      ∙ cowns_of_all (length rows) job.cowns
    where
      flip_same : (a b : ℕ) → a < b → eqb a b ≡ false
      flip_same a b l = elim (eqb a b) as (λ t. eqb a b ≡ t → t ≡ false) [ true ↦ λ e. absurd (let f = eqb-true a b e in omega arith) | false ↦ λ e. refl ] refl

  leb_at : (a b : ℕ) → a ≤ b → leb a b ≡ true
  leb_at a b l = grind arith

  leb_not : (a b : ℕ) → b < a → leb a b ≡ false
  leb_not a b l = grind arith

  ltb_at : (a b : ℕ) → a < b → ltb a b ≡ true
  ltb_at a b l = lt-ltb a b l

  ltb_not : (a b : ℕ) → b ≤ a → ltb a b ≡ false
  ltb_not a b l = le-ltb a b l

  and_false : (b : Bool) → (b && false) ≡ false
  and_false true = refl
  and_false false = refl

  range_now : (p k : ℕ) → p < length after_rows → k < length spots → eqb (spot_at spots k).row p ≡ (leb (row_at after_rows p).first k && ltb k (row_at after_rows p).end)
  range_now p k l m = elim (either p l) [
    | inl q ↦ elim (below k (length was)) [
      | inl o ↦ ap (λ r. eqb r p) (old_spot k o) ∙ keeps.together.range p k q o ∙ ap (λ (r : Row). leb r.first k && ltb k r.end) (sym (old_row p q))
      | inr o ↦
          ap (λ r. eqb r p) (new_spot_row k o m) ∙ not_same (length rows) p q
          ∙ sym (ap (λ (r : Row). leb r.first k && ltb k r.end) (old_row p q) ∙ ap (λ b. leb (row_at rows p).first k && b) (ltb_not k (row_at rows p).end (let e = keeps.together.ends p q in omega arith)) ∙ and_false (leb (row_at rows p).first k))
    ]
    | inr q ↦ elim (below k (length was)) [
      | inl o ↦
          ap (λ r. eqb r p) (old_spot k o) ∙ ap (λ n. eqb (spot_at was k).row n) q ∙ smaller (spot_at was k).row (length rows) (keeps.together.rows_there (spot_at was k) (spot_member was k o))
          ∙ sym (ap (λ n. leb (row_at after_rows n).first k && ltb k (row_at after_rows n).end) q ∙ ap (λ (r : Row). leb r.first k && ltb k r.end) the_row ∙ ap (λ b. b && ltb k end) (leb_not (length was) k o))
      | inr o ↦
          ap (λ r. eqb r p) (new_spot_row k o m) ∙ eq-eqb (length rows) p (sym q)
          ∙ sym (ap (λ n. leb (row_at after_rows n).first k && ltb k (row_at after_rows n).end) q ∙ ap (λ (r : Row). leb r.first k && ltb k r.end) the_row ∙ ap (λ b. b && ltb k end) (leb_at (length was) k o) ∙ ltb_at k end (let e = spots_length in omega arith))
    ]
  ]
    where
      below : (a b : ℕ) → (a < b) ⊎ (b ≤ a)
      below a b = grind arith

      smaller : (a b : ℕ) → a < b → eqb a b ≡ false
      smaller a b l = elim (eqb a b) as (λ t. eqb a b ≡ t → t ≡ false) [ true ↦ λ e. absurd (let f = eqb-true a b e in omega arith) | false ↦ λ e. refl ] refl

  -- the new number is no number of before
  other_place : (p : ℕ) → p < length rows → over_at rows p ≡ false → found (row_at rows p).id ≡ place (row_at rows p).id
  other_place p l a = entered (row_at rows p).id ∙ ap (λ b. cond b (Some (length rows)) (place (row_at rows p).id)) (not_same job.id (row_at rows p).id (above p l a))

  waiting_is : (a b : Job) → Waiting a ≡ Waiting b → a ≡ b
  waiting_is a b e = cc

  stage_now : (j : Job) → (row_at after_rows (length rows)).stage ≡ Waiting j → job ≡ j
  stage_now j e = waiting_is job j (sym (ap (λ (r : Row). r.stage) the_row) ∙ e)

  pub spawned_keeps : KeepsJobs after_rows spots last found after
  spawned_keeps = record {
    lines = lines_for (over_at rows) (waits_at rows) (over_at after_rows) (waits_at after_rows) spots same_over same_waits done.lines;
    lasts = done.lasts;
    counted = λ p l. elim (either p l) [
      | inl q ↦ ap (λ (r : Row). r.behind) (old_row p q) ∙ done.counted p q
      | inr q ↦ ap (λ n. (row_at after_rows n).behind) q ∙ ap (λ (r : Row). r.behind) the_row ∙ done.behind_is ∙ ap (λ n. count_by (leads_to n) spots) (sym q)
    ];
    together = record {
      range = range_now;
      ends = λ p l. elim (either p l) [
        | inl q ↦ let a = keeps.together.ends p q in let b = ap (λ (r : Row). r.end) (old_row p q) in let e = spots_length in omega arith
        | inr q ↦ let b = ap (λ n. (row_at after_rows n).end) q ∙ ap (λ (r : Row). r.end) the_row in let e = spots_length in omega (arith, b, e, end_is)
      ];
      begins = λ p l. elim (either p l) [
        | inl q ↦ let a = keeps.together.begins p q in let b = ap (λ (r : Row). r.end) (old_row p q) in let d = ap (λ (r : Row). r.first) (old_row p q) in omega arith
        | inr q ↦ let b = ap (λ n. (row_at after_rows n).end) q ∙ ap (λ (r : Row). r.end) the_row in let d = ap (λ n. (row_at after_rows n).first) q ∙ ap (λ (r : Row). r.first) the_row in omega (arith, b, d, end_is)
      ];
      rows_there = λ s m. let a = done.upto s m in let f = rows_length in omega arith;
    };
    jobs = record {
      rising = λ p q l m a b. elim (either q m) [
        | inl o ↦
            let x = keeps.jobs.rising p q l o (sym (same_over p) ∙ a) (sym (same_over q) ∙ b) in
            let y = ap (λ (r : Row). r.id) (old_row p (omega arith)) in let z = ap (λ (r : Row). r.id) (old_row q o) in omega arith
        | inr o ↦
            let x = above p (omega arith) (sym (same_over p) ∙ a) in
            let y = ap (λ (r : Row). r.id) (old_row p (omega arith)) in
            let z = ap (λ n. (row_at after_rows n).id) o ∙ ap (λ (r : Row). r.id) the_row in omega arith
      ];
      number = λ p j l e. elim (either p l) [
        | inl q ↦ keeps.jobs.number p j q (sym (ap (λ (r : Row). r.stage) (old_row p q)) ∙ e) ∙ sym (ap (λ (r : Row). r.id) (old_row p q))
        | inr q ↦ sym (ap (λ n. (row_at after_rows n).id) q ∙ ap (λ (r : Row). r.id) the_row ∙ ap (λ (x : Job). x.id) (stage_now j (ap (λ n. (row_at after_rows n).stage) (sym q) ∙ e)))
      ];
      cowns = λ p j l e. elim (either p l) [
        | inl q ↦ keeps.jobs.cowns p j q (sym (ap (λ (r : Row). r.stage) (old_row p q)) ∙ e) ∙ sym (cowns_before p q)
        | inr q ↦ sym (ap (row_cowns spots) q ∙ cowns_now ∙ ap (λ (x : Job). x.cowns) (stage_now j (ap (λ n. (row_at after_rows n).stage) (sym q) ∙ e)))
      ];
      leads = λ n p e. elim (eqb job.id n) as (λ b. eqb job.id n ≡ b → (p < length after_rows) × ((over_at after_rows p ≡ false) × ((row_at after_rows p).id ≡ n))) [
        | true ↦ λ h.
            let q = one (length rows) p (sym (ap (λ b. cond b (Some (length rows)) (place n)) h) ∙ sym (entered n) ∙ e) in (
              let f = rows_length in omega arith,
              (
                sym (ap (λ m. over_at after_rows m) q) ∙ ap (λ (r : Row). is_over r.stage) the_row,
                sym (ap (λ m. (row_at after_rows m).id) q) ∙ ap (λ (r : Row). r.id) the_row ∙ eqb-true job.id n h,
              ),
            )
        | false ↦ λ h.
            let r = keeps.jobs.leads n p (sym (ap (λ b. cond b (Some (length rows)) (place n)) h) ∙ sym (entered n) ∙ e) in
            (let f = rows_length in let l = r.0 in omega arith, (same_over p ∙ r.1.0, ap (λ (x : Row). x.id) (old_row p r.0) ∙ r.1.1))
      ] refl;
      found = λ p l a. elim (either p l) [
        | inl q ↦ ap (λ (r : Row). found r.id) (old_row p q) ∙ other_place p q (sym (same_over p) ∙ a) ∙ keeps.jobs.found p q (sym (same_over p) ∙ a)
        | inr q ↦ ap (λ n. found (row_at after_rows n).id) q ∙ ap (λ (r : Row). found r.id) the_row ∙ entered job.id ∙ ap (λ b. cond b (Some (length rows)) (place job.id)) (eq-eqb job.id job.id refl) ∙ ap (λ n. Some n) (sym q)
      ];
    };
    marked = record {
      marks = λ p l. elim (either p l) [
        | inl q ↦ marked p q ∙ keeps.marked.marks p q ∙ ap (λ r. bit (is_free r)) (sym (old_row p q))
        | inr q ↦ ap (λ n. get_or after n 0) q ∙ mark ∙ ap (λ r. bit (is_free r)) (sym (ap (row_at after_rows) q ∙ the_row))
      ];
      beyond = λ p l. beyond p (let f = rows_length in omega arith) ∙ keeps.marked.beyond p (let f = rows_length in omega arith);
    };
  }
    where
      one : (a b : ℕ) → Some a ≡ Some b → a ≡ b
      one a b e = cc

  pub spawned_waiting : waiting_jobs after_rows ≡ waiting_jobs rows ++ job ∷ []
  spawned_waiting = waiting_append rows (new_row ∷ [])

  pub spawned_running : holders_from spots 0 after_rows ≡ holders_from was 0 rows
  spawned_running = holders_append spots 0 rows (new_row ∷ []) ∙ sym (append_nil (holders_from spots 0 rows)) ∙ holders_same was spots 0 rows (λ p l. cowns_before p (omega arith))

-- ---- in the terms of the code
marks_after : (b : Bool) (n : ℕ) (marks : List ℕ) → n < length marks → get_or marks n 0 ≡ 0
    → ((p : ℕ) → (p ≡ n → ⊥) → get_or (cond b (set marks n 1) marks) p 0 ≡ get_or marks p 0) × ((get_or (cond b (set marks n 1) marks) n 0 ≡ bit b) × (length (cond b (set marks n 1) marks) ≡ length marks))
marks_after true n marks l z = (λ p o. get_or-set_other marks n p 1 0 o, (get_or-set_same marks n 1 0 l, length-set marks n 1))
marks_after false n marks l z = (λ p o. refl, (z, refl))

module _ (rows : List Row) (was spots : List Spot) (lastwas last : CownId → Option ℕ) (place found : ℕ → Option ℕ) (marks : List ℕ) (keeps : KeepsJobs rows was lastwas place marks) (job : Job) (behind : ℕ)
    (index : ℕ) (items : List CownId) (so_far : Spawning rows was spots last (take index items) behind) (items_are : items ≡ job.cowns) (all : length items ≤ index)
    (waiting_above : (j : Job) → Member j (waiting_jobs rows) → j.id < job.id) (running_above : (h : Holder) → Member h (holders_from was 0 rows) → h.id < job.id)
    (row : ℕ) (row_is : row ≡ length rows) (entered : (n : ℕ) → found n ≡ cond (eqb job.id n) (Some row) (place n))
    (after : List ℕ) (after_is : after ≡ cond (eqb behind 0) (set marks row 1) marks) (fits : length rows < length marks)
    (first end : ℕ) (first_is : first ≡ length was) (end_is : end ≡ first + length job.cowns)
    (rows_after : List Row) (pushed : rows_after ≡ rows ++ record { id = job.id; stage = Waiting job; first = first; end = end; behind = behind } ∷ []) where
  whole : Spawning rows was spots last job.cowns behind
  whole = subst (λ cs. Spawning rows was spots last cs behind) (take_all index items all ∙ items_are) so_far

  rows_above : (p : ℕ) → p < length rows → over_at rows p ≡ false → (row_at rows p).id < job.id
  rows_above p l a = elim (waits_or_runs (row_at rows p).stage a) [
    | inl w ↦ let n = keeps.jobs.number p w.0 l w.1 in let m = waiting_above w.0 (waiting_member rows p w.0 l w.1) in omega (arith, n, m)
    | inr r ↦ running_above _ (holder_member was 0 rows p l r)
  ]

  after_here : after ≡ cond (eqb behind 0) (set marks (length rows) 1) marks
  after_here = after_is ∙ ap (λ n. cond (eqb behind 0) (set marks n 1) marks) row_is

  marks_made : ((p : ℕ) → (p ≡ length rows → ⊥) → get_or after p 0 ≡ get_or marks p 0) × ((get_or after (length rows) 0 ≡ bit (eqb behind 0)) × (length after ≡ length marks))
  marks_made = subst (λ m. ((p : ℕ) → (p ≡ length rows → ⊥) → get_or m p 0 ≡ get_or marks p 0) × ((get_or m (length rows) 0 ≡ bit (eqb behind 0)) × (length m ≡ length marks))) (sym after_here)
      (marks_after (eqb behind 0) (length rows) marks fits (keeps.marked.beyond (length rows) (omega arith)))

  pub marks_length : length after ≡ length marks
  marks_length = marks_made.1.1

  pushed_here : rows_after ≡ rows ++ record { id = job.id; stage = Waiting job; first = length was; end = end; behind = behind } ∷ []
  pushed_here = pushed ∙ ap (λ n. rows ++ record { id = job.id; stage = Waiting job; first = n; end = end; behind = behind } ∷ []) first_is

  found_here : (n : ℕ) → found n ≡ cond (eqb job.id n) (Some (length rows)) (place n)
  found_here n = entered n ∙ ap (λ m. cond (eqb job.id n) (Some m) (place n)) row_is

  end_here : end ≡ length was + length job.cowns
  end_here = omega (arith, first_is, end_is)

  pub keeps_after : KeepsJobs rows_after spots last found after
  keeps_after = subst (λ rs. KeepsJobs rs spots last found after) (sym pushed_here) (
      spawned_keeps rows was spots lastwas last place found marks after keeps job behind whole rows_above found_here
      (λ p l. marks_made.0 p (λ e. absurd (omega (arith, l, e)))) marks_made.1.0 (λ p l. marks_made.0 p (λ e. absurd (omega (arith, l, e)))) end end_here)

  pub waiting_after : waiting_jobs rows_after ≡ waiting_jobs rows ++ job ∷ []
  waiting_after = ap waiting_jobs pushed_here ∙ spawned_waiting rows was spots lastwas last place found marks after keeps job behind whole rows_above found_here
      (λ p l. marks_made.0 p (λ e. absurd (omega (arith, l, e)))) marks_made.1.0 (λ p l. marks_made.0 p (λ e. absurd (omega (arith, l, e)))) end end_here

  pub running_after : holders_from spots 0 rows_after ≡ holders_from was 0 rows
  running_after = ap (holders_from spots 0) pushed_here ∙ spawned_running rows was spots lastwas last place found marks after keeps job behind whole rows_above found_here
      (λ p l. marks_made.0 p (λ e. absurd (omega (arith, l, e)))) marks_made.1.0 (λ p l. marks_made.0 p (λ e. absurd (omega (arith, l, e)))) end end_here

-- one spot more, in the terms of the code
pub spawning_on : (rows : List Row) (was spots : List Spot) (last next : CownId → Option ℕ) (items : List CownId) (index behind : ℕ) (d : CownId) → Spawning rows was spots last (take index items) behind → index < length items
    → (now : List Row) → now ≡ rows → (after : List Spot) → after ≡ joined now spots (last (get_or items index d)) (get_or items index d)
    → (led : Bool) → led ≡ is_led now spots (last (get_or items index d)) → (more : ℕ) → more ≡ behind + bit led
    → ((c : CownId) → next c ≡ cond (same_cown (get_or items index d) c) (Some (length spots)) (last c))
    → Spawning rows was after next (take (index + 1) items) more
spawning_on rows was spots last next items index behind d so_far l now now_is after after_is led led_is more more_is entered =
    subst (λ cowns. Spawning rows was after next cowns more) (sym (take_more items index d l)) (
    subst (λ x. Spawning rows was x next (take index items ++ get_or items index d ∷ []) more) (sym (after_is ∙ ap (λ r. joined r spots (last (get_or items index d)) (get_or items index d)) now_is)) (
    spawning_more rows was spots last next (take index items) behind (get_or items index d) so_far entered more
    (more_is ∙ ap (λ b. behind + bit b) (led_is ∙ ap (λ r. is_led r spots (last (get_or items index d))) now_is))))

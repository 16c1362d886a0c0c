-- A running job ends: its spots lead on no more, and then its row is over.
use Rattle.std.proofs.Common.{Bool, List, None, Option, Some, [], ap, arith, cond, count_by, eqb, false, filter, get_or, inl, inr, leb, length, ltb, not, refl, set, subst, suc, sym, true, zero, ℕ, ◌&&◌, ◌++◌, ◌+◌, ◌-◌, ◌<◌, ◌≤◌, ◌∙◌, ◌∷◌, ◌≡◌, ◌⊎◌}
use Rattle.std.proofs.lemmas.Bool.{eq-eqb, eqb-true, lt-ltb, ltb-true}
use Rattle.std.proofs.lemmas.List.{get_or-set_other, get_or-set_same, length-set}
use Rattle.lf_base.specs.declared.behaviours.Job.{Job}
use Rattle.lf_base.specs.declared.ids.CownId.{CownId}
use Rattle.lf_base.specs.Sets.{Member}
use Rattle.lf_base.proofs.ListLemmas.Members.{any_Member}
use Rattle.lf_base.proofs.ListLemmas.Tests.{some_is}
use Rattle.lf_queue.specs.declared.row.Row.{Row}
use Rattle.lf_queue.specs.declared.row.Stage.{Stage}
use Rattle.lf_queue.specs.declared.row.Stage.TheVariants.{Waiting, Running, Ended}
use Rattle.lf_queue.specs.declared.spot.Spot.{Spot}
use Rattle.lf_queue.specs.Lines.{AreCounted, AreMarked, CanLessen, KeepsJobs, bit, freed, holder_in, holders_from, is_free, is_next, is_over, is_waiting, job_in, leads_to, lessened, next_row, no_spot, over_at, restaged, row_at, row_cowns, spot_at, waiting_jobs, waits_at, without_next}
use Rattle.lf_queue.specs.Queues.{is_running, without_holder}
use Rattle.lf_queue.specs.Ready.{Holder}
use Rattle.lf_queue.proofs.Joining.{spot_member, true_not_false}
use Rattle.lf_queue.proofs.Rows.{holder_place, holders_same}
use Rattle.lf_queue.proofs.SpotLists.{count_set, cowns_in, pair_of, pairs, pairs_at, pairs_length, pairs_set, row_cowns_pairs}
use Rattle.lf_queue.proofs.Starts.{one_or_other, restaged_at, restaged_length, restaged_other, restaged_same}

-- how far the spots of a row have been left: those from `first` to `at`
pub record Leaving (rows : List Row) (spots : List Spot) (first at : ℕ) (rest : List Row) (left : List Spot) (marks : List ℕ) : Type 0 where
  pub rows_length : length rest ≡ length rows
  pub row_stays : (q : ℕ) → row_at rest q ≡ record (row_at rows q) { behind = (row_at rest q).behind }
  pub counted : AreCounted rest left
  pub marked : AreMarked rest marks
  pub marks_room : length rows ≤ length marks
  pub pairs_stay : pairs left ≡ pairs spots
  pub left_now : (k : ℕ) → first ≤ k → k < at → (spot_at left k).next ≡ None
  pub before : (k : ℕ) → k < first → (spot_at left k).next ≡ (spot_at spots k).next
  pub after : (k : ℕ) → at ≤ k → (spot_at left k).next ≡ (spot_at spots k).next

member_place : (spots : List Spot) (s : Spot) → Member s spots → (k : ℕ) × ((k < length spots) × (spot_at spots k ≡ s))
member_place [] s m = absurd m
member_place (x ∷ xs) s (inl e) = (0, (omega arith, e))
member_place (x ∷ xs) s (inr m) = let r = member_place xs s m in (suc r.0, (let a = r.1.0 in omega arith, r.1.1))

same_length : (xs ys : List Spot) → pairs xs ≡ pairs ys → length xs ≡ length ys
same_length xs ys e = sym (pairs_length xs) ∙ ap length e ∙ pairs_length ys

same_pair : (xs ys : List Spot) (k : ℕ) → pairs xs ≡ pairs ys → pair_of (spot_at xs k) ≡ pair_of (spot_at ys k)
same_pair xs ys k e = sym (pairs_at xs k) ∙ ap (λ l. get_or l k (pair_of no_spot)) e ∙ pairs_at ys k

cases : (o : Option ℕ) → (o ≡ None) ⊎ ((q : ℕ) × (o ≡ Some q))
cases None = inl refl
cases (Some q) = inr (q, refl)

none_some : (o : Option ℕ) (q : ℕ) → o ≡ None → o ≡ Some q → ⊥
none_some o q e f = cc

next_is : (p q : ℕ) (o : Option ℕ) → o ≡ Some q → is_next p o ≡ eqb q p
next_is p q o e = ap (is_next p) e

module _ (rows : List Row) (spots : List Spot) (last : CownId → Option ℕ) (place : ℕ → Option ℕ) (was : List ℕ) (keeps : KeepsJobs rows spots last place was) (p : ℕ) (l : p < length rows) (runs : (row_at rows p).stage ≡ Running) where
  -- the spots of the row are those from its first to its end
  pub in_range : (k : ℕ) → (row_at rows p).first ≤ k → k < (row_at rows p).end → (spot_at spots k).row ≡ p
  in_range k a b =
      let e = keeps.together.ends p l in
      eqb-true (spot_at spots k).row p (keeps.together.range p k l (omega arith) ∙ both (leb (row_at rows p).first k) (ltb k (row_at rows p).end) (leb_is (row_at rows p).first k a) (lt-ltb k (row_at rows p).end b))
    where
      both : (a b : Bool) → a ≡ true → b ≡ true → (a && b) ≡ true
      both a b e f = ap (λ c. c && b) e ∙ f

      leb_is : (a b : ℕ) → a ≤ b → leb a b ≡ true
      leb_is a b l = grind arith

  pub range_of : (k : ℕ) → k < length spots → (spot_at spots k).row ≡ p → ((row_at rows p).first ≤ k) × (k < (row_at rows p).end)
  range_of k m e =
      let t = parts (leb (row_at rows p).first k) (ltb k (row_at rows p).end) (sym (keeps.together.range p k l m) ∙ eq-eqb (spot_at spots k).row p e) in
      (leb_from (row_at rows p).first k t.0, ltb-true k (row_at rows p).end t.1)
    where
      parts : (a b : Bool) → (a && b) ≡ true → (a ≡ true) × (b ≡ true)
      parts true b e = (refl, e)
      parts false b e = absurd (cc)

      leb_from : (a b : ℕ) → leb a b ≡ true → a ≤ b
      leb_from a b e = grind arith

  -- what a spot of the row leads to waits
  pub led_waits : (s : Spot) (q : ℕ) → Member s spots → s.row ≡ p → s.next ≡ Some q → (q < length rows) × (waits_at rows q ≡ true)
  led_waits s q m r e =
      let t = keeps.lines.there s q m e in
      let less = keeps.lines.later s q m e in
      let here = keeps.together.rows_there t.0 t.1.0 in
      let at = t.1.1.0 in (
        omega (arith, at, here),
        elim (waits_at rows q) as (λ b. waits_at rows q ≡ b → b ≡ true) [
          | true ↦ λ w. refl
          | false ↦ λ w. absurd (true_not_false (over_at rows s.row)
              (keeps.lines.order s t.0 m t.1.0 (sym t.1.1.1) (omega (arith, at, less)) (ap (waits_at rows) at ∙ w))
              (ap (over_at rows) r ∙ ap is_over runs))
        ] refl,
      )

  module _ (at : ℕ) (rest : List Row) (left : List Spot) (marks : List ℕ) (so_far : Leaving rows spots (row_at rows p).first at rest left marks) (begins : (row_at rows p).first ≤ at) (within : at < (row_at rows p).end) where
    spots_len : length left ≡ length spots
    spots_len = same_length left spots so_far.pairs_stay

    pub at_within : at < length left
    at_within = let e = keeps.together.ends p l in let s = spots_len in omega arith

    here : Member (spot_at spots at) spots
    here = spot_member spots at (let e = keeps.together.ends p l in omega arith)

    next_same : (spot_at left at).next ≡ (spot_at spots at).next
    next_same = so_far.after at (omega arith)

    counts_one : (q : ℕ) → (spot_at left at).next ≡ Some q → 0 < count_by (leads_to q) left
    counts_one q e =
        let a = count_set (leads_to q) left at (record (spot_at left at) { next = None }) at_within in
        let b = ap bit (next_is q q (spot_at left at).next e ∙ eq-eqb q q refl) in
        omega (arith, a, b)

    not_free : (q : ℕ) → 0 < (row_at rest q).behind → is_free (row_at rest q) ≡ false
    not_free q some = ap (λ b. is_waiting (row_at rest q).stage && b) (not_zero (row_at rest q).behind some) ∙ none (is_waiting (row_at rest q).stage)
      where
        not_zero : (n : ℕ) → 0 < n → eqb n 0 ≡ false
        not_zero n h = elim (eqb n 0) as (λ b. eqb n 0 ≡ b → b ≡ false) [ true ↦ λ e. absurd (let f = eqb-true n 0 e in omega arith) | false ↦ λ e. refl ] refl

        none : (b : Bool) → (b && false) ≡ false
        none true = refl
        none false = refl

    some_behind : (q : ℕ) → (spot_at left at).next ≡ Some q → (q < length rows) × (0 < (row_at rest q).behind)
    some_behind q e =
        let w = led_waits (spot_at spots at) q here (in_range at begins within) (sym next_same ∙ e) in
        let c = counts_one q e in
        let d = so_far.counted q (let r = so_far.rows_length in let v = w.0 in omega (arith, r, v)) in
        (w.0, omega (arith, c, d))

    pub can_lessen : CanLessen rest marks (spot_at left at).next
    can_lessen = elim (cases (spot_at left at).next) [
      | inl e ↦ subst (CanLessen rest marks) (sym e) tt
      | inr o ↦ subst (CanLessen rest marks) (sym o.1) (
          let b = some_behind o.0 o.1 in
          let r = so_far.rows_length in
          let v = b.0 in
          let m = so_far.marks_room in
          (omega (arith, r, v), (b.1, (omega (arith, v, m), so_far.marked.marks o.0 (omega (arith, r, v)) ∙ ap bit (not_free o.0 b.1)))))
    ]

    -- with one spot less
    with_none : (next : Option ℕ) → (spot_at left at).next ≡ next → Leaving rows spots (row_at rows p).first (at + 1) (lessened rest next) (without_next left at) (freed rest next marks)
    with_none None e = record {
      rows_length = so_far.rows_length;
      row_stays = so_far.row_stays;
      counted = λ q m. so_far.counted q m ∙ sym (count_none q);
      marked = so_far.marked;
      marks_room = so_far.marks_room;
      pairs_stay = pairs_set left at (record (spot_at left at) { next = None }) refl ∙ so_far.pairs_stay;
      left_now = left_more;
      before = λ k m. ap (λ (s : Spot). s.next) (get_or-set_other left at k (record (spot_at left at) { next = None }) no_spot (λ z. absurd (omega (arith, m, z, begins)))) ∙ so_far.before k m;
      after = λ k m. ap (λ (s : Spot). s.next) (get_or-set_other left at k (record (spot_at left at) { next = None }) no_spot (λ z. absurd (omega (arith, m, z)))) ∙ so_far.after k (omega (arith, m));
    }
      where
        count_none : (q : ℕ) → count_by (leads_to q) (without_next left at) ≡ count_by (leads_to q) left
        count_none q =
            let a = count_set (leads_to q) left at (record (spot_at left at) { next = None }) at_within in
            let b = ap (λ o. bit (is_next q o)) e in
            omega (arith, a, b)

        left_more : (k : ℕ) → (row_at rows p).first ≤ k → k < at + 1 → (spot_at (without_next left at) k).next ≡ None
        left_more k m n = elim (one_or_other at k) [
          | inl z ↦ ap (λ j. (spot_at (without_next left at) j).next) z ∙ ap (λ (s : Spot). s.next) (get_or-set_same left at (record (spot_at left at) { next = None }) no_spot at_within)
          | inr o ↦ ap (λ (s : Spot). s.next) (get_or-set_other left at k (record (spot_at left at) { next = None }) no_spot o) ∙ so_far.left_now k m (less k at n o)
        ]
          where
            less : (k at : ℕ) → k < at + 1 → (k ≡ at → ⊥) → k < at
            less k at n o = grind arith
    with_none (Some r) e = record {
      rows_length = length-set rest r (record (row_at rest r) { behind = (row_at rest r).behind - 1 }) ∙ so_far.rows_length;
      row_stays = stays;
      counted = counts;
      marked = record { marks = marks_now; beyond = beyond_now };
      marks_room = elim (eqb ((row_at rest r).behind - 1) 0) as (λ b. length rows ≤ length (cond b (set marks r 1) marks)) [
        | true ↦ let a = length-set marks r 1 in let m = so_far.marks_room in omega (arith, a, m)
        | false ↦ so_far.marks_room
      ];
      pairs_stay = pairs_set left at (record (spot_at left at) { next = None }) refl ∙ so_far.pairs_stay;
      left_now = left_more;
      before = λ k m. ap (λ (s : Spot). s.next) (get_or-set_other left at k (record (spot_at left at) { next = None }) no_spot (λ z. absurd (omega (arith, m, z, begins)))) ∙ so_far.before k m;
      after = λ k m. ap (λ (s : Spot). s.next) (get_or-set_other left at k (record (spot_at left at) { next = None }) no_spot (λ z. absurd (omega (arith, m, z)))) ∙ so_far.after k (omega (arith, m));
    }
      where
        some : (r < length rows) × (0 < (row_at rest r).behind)
        some = some_behind r e

        there : r < length rest
        there = let a = so_far.rows_length in let b = some.0 in omega (arith, a, b)

        now : List Row
        now = set rest r (record (row_at rest r) { behind = (row_at rest r).behind - 1 })

        at_r : row_at (set rest r (record (row_at rest r) { behind = (row_at rest r).behind - 1 })) r ≡ record (row_at rest r) { behind = (row_at rest r).behind - 1 }
        at_r = get_or-set_same rest r (record (row_at rest r) { behind = (row_at rest r).behind - 1 }) next_row there

        other : (q : ℕ) → (q ≡ r → ⊥) → row_at (set rest r (record (row_at rest r) { behind = (row_at rest r).behind - 1 })) q ≡ row_at rest q
        other q o = get_or-set_other rest r q (record (row_at rest r) { behind = (row_at rest r).behind - 1 }) next_row o

        stays : (q : ℕ) → row_at (set rest r (record (row_at rest r) { behind = (row_at rest r).behind - 1 })) q ≡ record (row_at rows q) { behind = (row_at (set rest r (record (row_at rest r) { behind = (row_at rest r).behind - 1 })) q).behind }
        stays q = elim (one_or_other r q) [
          | inl z ↦ subst (λ n. row_at (set rest r (record (row_at rest r) { behind = (row_at rest r).behind - 1 })) n ≡ record (row_at rows n) { behind = (row_at (set rest r (record (row_at rest r) { behind = (row_at rest r).behind - 1 })) n).behind }) (sym z) (
              at_r ∙ ap (λ (x : Row). record x { behind = (row_at rest r).behind - 1 }) (so_far.row_stays r) ∙ ap (λ n. record (row_at rows r) { behind = n }) (sym (ap (λ (x : Row). x.behind) at_r)))
          | inr o ↦ other q o ∙ so_far.row_stays q ∙ ap (λ n. record (row_at rows q) { behind = n }) (sym (ap (λ (x : Row). x.behind) (other q o)))
        ]

        count_less : (q : ℕ) → count_by (leads_to q) (without_next left at) + bit (eqb r q) ≡ count_by (leads_to q) left
        count_less q =
            let a = count_set (leads_to q) left at (record (spot_at left at) { next = None }) at_within in
            let b = ap bit (next_is q r (spot_at left at).next e) in
            omega (arith, a, b)

        bit_same : (q : ℕ) → q ≡ r → bit (eqb r q) ≡ 1
        bit_same q z = ap bit (eq-eqb r q (sym z))

        bit_other : (q : ℕ) → (q ≡ r → ⊥) → bit (eqb r q) ≡ 0
        bit_other q o = elim (eqb r q) as (λ b. eqb r q ≡ b → bit b ≡ 0) [ true ↦ λ z. absurd (o (sym (eqb-true r q z))) | false ↦ λ z. refl ] refl

        counts : (q : ℕ) → q < length (set rest r (record (row_at rest r) { behind = (row_at rest r).behind - 1 })) → (row_at (set rest r (record (row_at rest r) { behind = (row_at rest r).behind - 1 })) q).behind ≡ count_by (leads_to q) (without_next left at)
        counts q m =
            let len = length-set rest r (record (row_at rest r) { behind = (row_at rest r).behind - 1 }) in
            let c = so_far.counted q (omega (arith, len, m)) in
            let d = count_less q in
            elim (one_or_other r q) [
              | inl z ↦
                  let x = ap (λ n. (row_at (set rest r (record (row_at rest r) { behind = (row_at rest r).behind - 1 })) n).behind) z ∙ ap (λ (x : Row). x.behind) at_r in
                  let y = ap (λ n. (row_at rest n).behind) z in
                  let w = bit_same q z in
                  let v = some.1 in
                  omega (arith, c, d, x, y, w, v)
              | inr o ↦ let x = ap (λ (x : Row). x.behind) (other q o) in let w = bit_other q o in omega (arith, c, d, x, w)
            ]

        waits : is_waiting (row_at rest r).stage ≡ true
        waits = ap (λ (x : Row). is_waiting x.stage) (so_far.row_stays r) ∙ (led_waits (spot_at spots at) r here (in_range at begins within) (sym next_same ∙ e)).1

        marks_now : (q : ℕ) → q < length (set rest r (record (row_at rest r) { behind = (row_at rest r).behind - 1 })) → get_or (freed rest (Some r) marks) q 0 ≡ bit (is_free (row_at (set rest r (record (row_at rest r) { behind = (row_at rest r).behind - 1 })) q))
        marks_now q m =
            let len = length-set rest r (record (row_at rest r) { behind = (row_at rest r).behind - 1 }) in
            let old = so_far.marked.marks q (omega (arith, len, m)) in
            elim (one_or_other r q) [
              | inl z ↦
                  ap (λ n. get_or (freed rest (Some r) marks) n 0) z
                  ∙ mark_r (eqb ((row_at rest r).behind - 1) 0) refl
                  ∙ sym (ap (λ n. bit (is_free (row_at (set rest r (record (row_at rest r) { behind = (row_at rest r).behind - 1 })) n))) z ∙ ap (λ x. bit (is_free x)) at_r ∙ ap (λ b. bit (b && eqb ((row_at rest r).behind - 1) 0)) waits)
              | inr o ↦ mark_other (eqb ((row_at rest r).behind - 1) 0) q o ∙ old ∙ ap (λ x. bit (is_free x)) (sym (other q o))
            ]
          where
            mark_r : (b : Bool) → eqb ((row_at rest r).behind - 1) 0 ≡ b → get_or (cond b (set marks r 1) marks) r 0 ≡ bit b
            mark_r true z = get_or-set_same marks r 1 0 (let a = so_far.marks_room in let c = some.0 in omega (arith, a, c))
            mark_r false z = so_far.marked.marks r there ∙ ap bit (not_free r some.1)

            mark_other : (b : Bool) (q : ℕ) → (q ≡ r → ⊥) → get_or (cond b (set marks r 1) marks) q 0 ≡ get_or marks q 0
            mark_other true q o = get_or-set_other marks r q 1 0 o
            mark_other false q o = refl

        beyond_now : (q : ℕ) → length (set rest r (record (row_at rest r) { behind = (row_at rest r).behind - 1 })) ≤ q → get_or (freed rest (Some r) marks) q 0 ≡ 0
        beyond_now q m =
            let len = length-set rest r (record (row_at rest r) { behind = (row_at rest r).behind - 1 }) in
            mark_other (eqb ((row_at rest r).behind - 1) 0) q (λ z. let t = there in omega (arith, len, m, z, t)) ∙ so_far.marked.beyond q (omega (arith, len, m))
          where
            mark_other : (b : Bool) (q : ℕ) → (q ≡ r → ⊥) → get_or (cond b (set marks r 1) marks) q 0 ≡ get_or marks q 0
            mark_other true q o = get_or-set_other marks r q 1 0 o
            mark_other false q o = refl

        left_more : (k : ℕ) → (row_at rows p).first ≤ k → k < at + 1 → (spot_at (without_next left at) k).next ≡ None
        left_more k m n = elim (one_or_other at k) [
          | inl z ↦ ap (λ j. (spot_at (without_next left at) j).next) z ∙ ap (λ (s : Spot). s.next) (get_or-set_same left at (record (spot_at left at) { next = None }) no_spot at_within)
          | inr o ↦ ap (λ (s : Spot). s.next) (get_or-set_other left at k (record (spot_at left at) { next = None }) no_spot o) ∙ so_far.left_now k m (less k at n o)
        ]
          where
            less : (k at : ℕ) → k < at + 1 → (k ≡ at → ⊥) → k < at
            less k at n o = grind arith

    pub leaving_more : Leaving rows spots (row_at rows p).first (at + 1) (lessened rest (spot_at left at).next) (without_next left at) (freed rest (spot_at left at).next marks)
    leaving_more = with_none (spot_at left at).next refl

    -- in the terms of the code
    pub leaving_on : (first : ℕ) (next : List Row) (fewer : List Spot) (more : List ℕ) → first ≡ (row_at rows p).first
        → next ≡ lessened rest (spot_at left at).next → fewer ≡ without_next left at → more ≡ freed rest (spot_at left at).next marks → Leaving rows spots first (at + 1) next fewer more
    leaving_on first next fewer more first_is next_is fewer_is more_is =
        subst (λ n. Leaving rows spots n (at + 1) next fewer more) (sym first_is) (
        subst (λ x. Leaving rows spots (row_at rows p).first (at + 1) x fewer more) (sym next_is) (
        subst (λ x. Leaving rows spots (row_at rows p).first (at + 1) (lessened rest (spot_at left at).next) x more) (sym fewer_is) (
        subst (λ x. Leaving rows spots (row_at rows p).first (at + 1) (lessened rest (spot_at left at).next) (without_next left at) x) (sym more_is) leaving_more)))

-- ---- lists of rows that differ in stage or count alone
pub waiting_alike : (xs ys : List Row) → length xs ≡ length ys → ((q : ℕ) → job_in (row_at xs q).stage ≡ job_in (row_at ys q).stage) → waiting_jobs xs ≡ waiting_jobs ys
waiting_alike [] [] e h = refl
waiting_alike [] (y ∷ ys) e h = absurd (omega arith)
waiting_alike (x ∷ xs) [] e h = absurd (omega arith)
waiting_alike (x ∷ xs) (y ∷ ys) e h = ap (λ js. js ++ waiting_jobs xs) (h 0) ∙ ap (λ js. job_in y.stage ++ js) (waiting_alike xs ys (omega arith) (λ q. h (suc q)))

filter_all : (f : Holder → Bool) (xs : List Holder) → ((x : Holder) → Member x xs → f x ≡ true) → filter f xs ≡ xs
filter_all f [] h = refl
filter_all f (x ∷ xs) h = ap (λ b. cond b (x ∷ filter f xs) (filter f xs)) (h x (inl refl)) ∙ ap (λ l. x ∷ l) (filter_all f xs (λ y m. h y (inr m)))

filter_append : (f : Holder → Bool) (xs ys : List Holder) → filter f (xs ++ ys) ≡ filter f xs ++ filter f ys
filter_append f [] ys = refl
filter_append f (x ∷ xs) ys = elim (f x) as (λ b. cond b (x ∷ filter f (xs ++ ys)) (filter f (xs ++ ys)) ≡ cond b (x ∷ filter f xs) (filter f xs) ++ filter f ys) [
  | true ↦ ap (λ l. x ∷ l) (filter_append f xs ys)
  | false ↦ filter_append f xs ys
]

-- the running jobs of rows that are alike, but that one is over now
pub running_without : (spots : List Spot) (from : ℕ) (xs ys : List Row) (p id : ℕ) → length ys ≡ length xs → p < length xs → (row_at xs p).stage ≡ Running → eqb (row_at xs p).id id ≡ true → (row_at ys p).stage ≡ Ended
    → ((q : ℕ) → (q ≡ p → ⊥) → ((row_at ys q).stage ≡ (row_at xs q).stage) × ((row_at ys q).id ≡ (row_at xs q).id))
    → ((q : ℕ) → q < length xs → (q ≡ p → ⊥) → (row_at xs q).stage ≡ Running → eqb (row_at xs q).id id ≡ false)
    → holders_from spots from ys ≡ without_holder (holders_from spots from xs) id
running_without spots from [] ys p id len l r is o h d = absurd (omega arith)
running_without spots from (x ∷ xs) [] p id len l r is o h d = absurd (omega arith)
running_without spots from (x ∷ xs) (y ∷ ys) zero id len l r is o h d =
    ap (λ s. holder_in s (record { id = y.id; cowns = row_cowns spots from }) ++ holders_from spots (suc from) ys) o
    ∙ running_alike spots (suc from) xs ys (omega arith) (λ q. h (suc q) (λ z. absurd (omega arith)))
    ∙ sym (filter_append (λ (k : Holder). not (eqb k.id id)) (holder_in x.stage (record { id = x.id; cowns = row_cowns spots from })) (holders_from spots (suc from) xs)
    ∙ ap (λ s. filter (λ (k : Holder). not (eqb k.id id)) (holder_in s (record { id = x.id; cowns = row_cowns spots from })) ++ filter (λ (k : Holder). not (eqb k.id id)) (holders_from spots (suc from) xs)) r
    ∙ ap (λ b. cond (not b) (record { id = x.id; cowns = row_cowns spots from } ∷ []) [] ++ filter (λ (k : Holder). not (eqb k.id id)) (holders_from spots (suc from) xs)) is
    ∙ filter_all (λ (k : Holder). not (eqb k.id id)) (holders_from spots (suc from) xs) (λ k m.
    let q = holder_place spots (suc from) xs k m in
    ap (λ (j : Holder). not (eqb j.id id)) (sym q.1.1.1) ∙ ap not (d (suc q.0) (let a = q.1.0 in omega arith) (λ z. absurd (omega arith)) q.1.1.0)))
  where
    running_alike : (spots : List Spot) (from : ℕ) (xs ys : List Row) → length ys ≡ length xs → ((q : ℕ) → ((row_at ys q).stage ≡ (row_at xs q).stage) × ((row_at ys q).id ≡ (row_at xs q).id)) → holders_from spots from ys ≡ holders_from spots from xs
    running_alike spots from [] [] e h = refl
    running_alike spots from [] (y ∷ ys) e h = absurd (omega arith)
    running_alike spots from (x ∷ xs) [] e h = absurd (omega arith)
    running_alike spots from (x ∷ xs) (y ∷ ys) e h =
        ap (λ s. holder_in s (record { id = y.id; cowns = row_cowns spots from }) ++ holders_from spots (suc from) ys) (h 0).0
        ∙ ap (λ n. holder_in x.stage (record { id = n; cowns = row_cowns spots from }) ++ holders_from spots (suc from) ys) (h 0).1
        ∙ ap (λ l. holder_in x.stage (record { id = x.id; cowns = row_cowns spots from }) ++ l) (running_alike spots (suc from) xs ys (omega arith) (λ q. h (suc q)))
running_without spots from (x ∷ xs) (y ∷ ys) (suc p) id len l r is o h d =
    ap (λ s. holder_in s (record { id = y.id; cowns = row_cowns spots from }) ++ holders_from spots (suc from) ys) (h 0 (λ z. absurd (omega arith))).0
    ∙ ap (λ n. holder_in x.stage (record { id = n; cowns = row_cowns spots from }) ++ holders_from spots (suc from) ys) (h 0 (λ z. absurd (omega arith))).1
    ∙ ap (λ l. holder_in x.stage (record { id = x.id; cowns = row_cowns spots from }) ++ l)
    (running_without spots (suc from) xs ys p id (omega arith) (omega arith) r is o (λ q z. h (suc q) (λ w. z (omega arith))) (λ q m z e. d (suc q) (omega (arith, m)) (λ w. z (omega arith)) e))
    ∙ sym (filter_append (λ (k : Holder). not (eqb k.id id)) (holder_in x.stage (record { id = x.id; cowns = row_cowns spots from })) (holders_from spots (suc from) xs)
    ∙ ap (λ hs. hs ++ filter (λ (k : Holder). not (eqb k.id id)) (holders_from spots (suc from) xs)) (first_stays x.stage (λ e. d 0 (omega arith) (λ z. absurd (omega arith)) e)))
  where
    first_stays : (s : Stage) → (s ≡ Running → eqb x.id id ≡ false) → filter (λ (k : Holder). not (eqb k.id id)) (holder_in s (record { id = x.id; cowns = row_cowns spots from })) ≡ holder_in s (record { id = x.id; cowns = row_cowns spots from })
    first_stays (Waiting j) h = refl
    first_stays Running h = ap (λ b. cond (not b) (record { id = x.id; cowns = row_cowns spots from } ∷ []) []) (h refl)
    first_stays Ended h = refl

module _ (rows : List Row) (spots : List Spot) (last : CownId → Option ℕ) (place : ℕ → Option ℕ) (was : List ℕ) (keeps : KeepsJobs rows spots last place was) (id : ℕ) (running : is_running (holders_from spots 0 rows) id ≡ true) where
  -- the row of the running job
  pub running_row : (p : ℕ) × ((p < length rows) × (((row_at rows p).stage ≡ Running) × (((row_at rows p).id ≡ id) × (place id ≡ Some p))))
  running_row =
      let h = any_Member (λ (k : Holder). eqb k.id id) (holders_from spots 0 rows) running in
      let p = holder_place spots 0 rows h.0 h.1.0 in
      let n : (row_at rows p.0).id ≡ id = ap (λ (k : Holder). k.id) p.1.1.1 ∙ eqb-true h.0.id id h.1.1 in
      (p.0, (p.1.0, (p.1.1.0, (n, ap place (sym n) ∙ keeps.jobs.found p.0 p.1.0 (ap is_over p.1.1.0)))))

  -- the row at which the number is found
  pub running_at : (q : ℕ) → Some q ≡ place id → (q < length rows) × (((row_at rows q).stage ≡ Running) × ((row_at rows q).id ≡ id))
  running_at q e =
      let p = running_row in
      let same : p.0 ≡ q = sym (some_is q p.0 (e ∙ p.1.1.1.1)) in
      subst (λ n. (n < length rows) × (((row_at rows n).stage ≡ Running) × ((row_at rows n).id ≡ id))) same (p.1.0, (p.1.1.0, p.1.1.1.0))

  pub not_missing : None ≡ place id → ⊥
  not_missing e = none_some (place id) running_row.0 (sym e) running_row.1.1.1.1

module _ (rows : List Row) (spots : List Spot) (last : CownId → Option ℕ) (place found : ℕ → Option ℕ) (was : List ℕ) (keeps : KeepsJobs rows spots last place was) (p id : ℕ) (l : p < length rows) (runs : (row_at rows p).stage ≡ Running) (number : (row_at rows p).id ≡ id)
    (gone : (n : ℕ) → found n ≡ cond (eqb id n) None (place n))
    (at : ℕ) (rest : List Row) (left : List Spot) (marks : List ℕ) (done : Leaving rows spots (row_at rows p).first at rest left marks) (all : at ≡ (row_at rows p).end) where
  abbrev over_rows : List Row
  over_rows = restaged rest p Ended

  there : p < length rest
  there = let a = done.rows_length in omega arith

  over_length : length over_rows ≡ length rows
  over_length = restaged_length rest p Ended ∙ done.rows_length

  stays : {X : Type 0} (f : Row → X) → ((row : Row) (n : ℕ) → f (record row { behind = n }) ≡ f row) → (q : ℕ) → f (row_at rest q) ≡ f (row_at rows q)
  stays f h q = ap f (done.row_stays q) ∙ h (row_at rows q) (row_at rest q).behind

  both : {X : Type 0} (f : Row → X) → ((row : Row) (s : Stage) → f (record row { stage = s }) ≡ f row) → ((row : Row) (n : ℕ) → f (record row { behind = n }) ≡ f row) → (q : ℕ) → f (row_at over_rows q) ≡ f (row_at rows q)
  both f h k q = restaged_same f rest p Ended h there q ∙ stays f k q

  stage_other : (q : ℕ) → (q ≡ p → ⊥) → (row_at over_rows q).stage ≡ (row_at rows q).stage
  stage_other q o = ap (λ (r : Row). r.stage) (restaged_other rest p q Ended o) ∙ stays (λ (r : Row). r.stage) (λ r n. refl) q

  stage_here : (row_at over_rows p).stage ≡ Ended
  stage_here = ap (λ (r : Row). r.stage) (restaged_at rest p Ended there)

  waits_same : (q : ℕ) → waits_at over_rows q ≡ waits_at rows q
  waits_same q = elim (one_or_other p q) [
    | inl e ↦ ap (λ n. waits_at over_rows n) e ∙ ap is_waiting stage_here ∙ sym (ap (λ n. waits_at rows n) e ∙ ap is_waiting runs)
    | inr o ↦ ap is_waiting (stage_other q o)
  ]

  over_other : (q : ℕ) → (q ≡ p → ⊥) → over_at over_rows q ≡ over_at rows q
  over_other q o = ap is_over (stage_other q o)

  not_gone : (q : ℕ) → over_at over_rows q ≡ false → (q ≡ p → ⊥) × (over_at rows q ≡ false)
  not_gone q e = elim (one_or_other p q) [
    | inl same ↦ absurd (true_not_false (over_at over_rows q) (ap (λ n. over_at over_rows n) same ∙ ap is_over stage_here) e)
    | inr o ↦ (o, sym (over_other q o) ∙ e)
  ]

  len : length left ≡ length spots
  len = same_length left spots done.pairs_stay

  -- a spot that leads on is an old one of another row
  back : (s : Spot) (q : ℕ) → Member s left → s.next ≡ Some q → (o : Spot) × (Member o spots × ((pair_of s ≡ pair_of o) × ((o.next ≡ Some q) × (o.row ≡ p → ⊥))))
  back s q m e =
      let k = member_place left s m in
      let here : k.0 < length spots = let a = len in let b = k.1.0 in omega arith in
      let alike = ap pair_of (sym k.1.1) ∙ same_pair left spots k.0 done.pairs_stay in
      let next : (spot_at left k.0).next ≡ Some q = ap (λ (x : Spot). x.next) k.1.1 ∙ e in
      let outside : ((spot_at spots k.0).row ≡ p → ⊥) = λ r.
      let range = range_of rows spots last place was keeps p l runs k.0 here r in
      none_some (spot_at left k.0).next q (done.left_now k.0 range.0 (let a = range.1 in omega arith)) next in
      (spot_at spots k.0, (spot_member spots k.0 here, (alike, (same_next k.0 here outside q next, outside))))
    where
      which : (a b c : ℕ) → (b ≤ a → a < c → ⊥) → (a < b) ⊎ (c ≤ a)
      which a b c h = elim (split a b) [ inl x ↦ inl x | inr x ↦ elim (split a c) [ inl y ↦ absurd (h x y) | inr y ↦ inr y ] ]
        where
          split : (a b : ℕ) → (a < b) ⊎ (b ≤ a)
          split a b = grind arith

      same_next : (k : ℕ) → k < length spots → ((spot_at spots k).row ≡ p → ⊥) → (q : ℕ) → (spot_at left k).next ≡ Some q → (spot_at spots k).next ≡ Some q
      same_next k h o q e = elim (which k (row_at rows p).first at (λ a b. outside_of k h o a b q e)) [
        | inl x ↦ sym (done.before k x) ∙ e
        | inr x ↦ sym (done.after k x) ∙ e
      ]
        where
          outside_of : (k : ℕ) → k < length spots → ((spot_at spots k).row ≡ p → ⊥) → (row_at rows p).first ≤ k → k < at → (q : ℕ) → (spot_at left k).next ≡ Some q → ⊥
          outside_of k h o a b q e = none_some (spot_at left k).next q (done.left_now k a b) e

  -- each old spot is there, and leads where it led, but for those of the row
  forth : (o : Spot) → Member o spots → (s : Spot) × (Member s left × ((pair_of s ≡ pair_of o) × ((o.row ≡ p → ⊥) → s.next ≡ o.next)))
  forth o m =
      let k = member_place spots o m in
      let here : k.0 < length left = let a = len in let b = k.1.0 in omega arith in (
        spot_at left k.0,
        (
          spot_member left k.0 here,
          (
            same_pair left spots k.0 done.pairs_stay ∙ ap pair_of k.1.1,
            λ other.
                elim (which k.0 (row_at rows p).first (row_at rows p).end) [
                  | inl x ↦ done.before k.0 x ∙ ap (λ (x : Spot). x.next) k.1.1
                  | inr x ↦ elim x [
                    | inl y ↦ done.after k.0 (omega (arith, y, all)) ∙ ap (λ (x : Spot). x.next) k.1.1
                    | inr y ↦ absurd (other (ap (λ (x : Spot). x.row) (sym k.1.1) ∙ in_range rows spots last place was keeps p l runs k.0 y.0 y.1))
                  ]
                ],
          ),
        ),
      )
    where
      which : (a b c : ℕ) → (a < b) ⊎ ((c ≤ a) ⊎ ((b ≤ a) × (a < c)))
      which a b c = elim (split a b) [ inl x ↦ inl x | inr x ↦ elim (split a c) [ inl y ↦ inr (inr (x, y)) | inr y ↦ inr (inl y) ] ]
        where
          split : (a b : ℕ) → (a < b) ⊎ (b ≤ a)
          split a b = grind arith

  like : (s : Spot) → Member s left → (o : Spot) × (Member o spots × (pair_of s ≡ pair_of o))
  like s m =
      let k = member_place left s m in
      (spot_at spots k.0, (spot_member spots k.0 (let a = len in let b = k.1.0 in omega arith), ap pair_of (sym k.1.1) ∙ same_pair left spots k.0 done.pairs_stay))

  cowns_same : (q : ℕ) → row_cowns left q ≡ row_cowns spots q
  cowns_same q = row_cowns_pairs left q ∙ ap (cowns_in q) done.pairs_stay ∙ sym (row_cowns_pairs spots q)

  ids : (q : ℕ) → (row_at over_rows q).id ≡ (row_at rows q).id
  ids q = both (λ (r : Row). r.id) (λ r s. refl) (λ r n. refl) q

  waiting_was : (q : ℕ) (j : Job) → (row_at over_rows q).stage ≡ Waiting j → (row_at rows q).stage ≡ Waiting j
  waiting_was q j e = elim (one_or_other p q) [
    | inl same ↦ absurd (never j (sym stage_here ∙ ap (λ n. (row_at over_rows n).stage) (sym same) ∙ e))
    | inr o ↦ sym (stage_other q o) ∙ e
  ]
    where
      never : (j : Job) → Ended ≡ Waiting j → ⊥
      never j e = cc

  -- no other job that isn't over has the number
  other_id : (q : ℕ) → q < length rows → (q ≡ p → ⊥) → over_at rows q ≡ false → eqb id (row_at rows q).id ≡ false
  other_id q m o a = elim (eqb id (row_at rows q).id) as (λ b. eqb id (row_at rows q).id ≡ b → b ≡ false) [
    | true ↦ λ e. absurd (
        let same = eqb-true id (row_at rows q).id e in
        elim (which q p) [
          | inl less ↦ let r = keeps.jobs.rising q p less l a (ap is_over runs) in omega (arith, same, number, r)
          | inr x ↦ elim x [
            | inl more ↦ let r = keeps.jobs.rising p q more m (ap is_over runs) a in omega (arith, same, number, r)
            | inr one ↦ o one
          ]
        ])
    | false ↦ λ e. refl
  ] refl
    where
      which : (a b : ℕ) → (a < b) ⊎ ((b < a) ⊎ (a ≡ b))
      which a b = grind arith

  pub ended_keeps : KeepsJobs over_rows left last found marks
  ended_keeps = record {
    lines = record {
      ahead = λ s q m e. let o = back s q m e in
          ap (over_at over_rows) (ap (λ x. x.0) o.1.1.0) ∙ over_other o.0.row o.1.1.1.1 ∙ keeps.lines.ahead o.0 q o.1.0 o.1.1.1.0;
      later = λ s q m e. let o = back s q m e in let a = keeps.lines.later o.0 q o.1.0 o.1.1.1.0 in let b = ap (λ x. x.0) o.1.1.0 in omega (arith, a, b);
      there = λ s q m e.
          let o = back s q m e in
          let t = keeps.lines.there o.0 q o.1.0 o.1.1.1.0 in
          let u = forth t.0 t.1.0 in
          (u.0, (u.1.0, (ap (λ x. x.0) u.1.1.0 ∙ t.1.1.0, ap (λ x. x.1) u.1.1.0 ∙ t.1.1.1 ∙ sym (ap (λ x. x.1) o.1.1.0))));
      nearest = λ s t q m n e same less.
          let o = back s q m e in
          let u = like t n in
          let a = ap (λ x. x.0) o.1.1.0 in
          let b = ap (λ x. x.0) u.1.1 in
          let r = keeps.lines.nearest o.0 u.0 q o.1.0 u.1.0 o.1.1.1.0 (sym (ap (λ x. x.1) u.1.1) ∙ same ∙ ap (λ x. x.1) o.1.1.0) (omega (arith, a, b, less)) in
          omega (arith, b, r);
      led = λ s t m n same less alive.
          let o = like s m in
          let v = like t n in
          let a = ap (λ x. x.0) o.1.1 in
          let b = ap (λ x. x.0) v.1.1 in
          let g = not_gone s.row alive in
          let on : over_at rows o.0.row ≡ false = ap (over_at rows) (sym a) ∙ g.1 in
          let shared : o.0.cown ≡ v.0.cown = sym (ap (λ x. x.1) o.1.1) ∙ same ∙ ap (λ x. x.1) v.1.1 in
          let u = keeps.lines.led o.0 v.0 o.1.0 v.1.0 shared (omega (arith, a, b, less)) on in
          let w = forth u.0 u.1.0 in
          let outside : (u.0.row ≡ p → ⊥) = λ z. elim (which o.0.row p) [
            | inl x ↦ true_not_false (over_at rows o.0.row) (keeps.lines.order o.0 u.0 o.1.0 u.1.0 (shared ∙ sym u.1.1.0) (omega (arith, x, z)) (ap (waits_at rows) z ∙ ap is_waiting runs)) on
            | inr x ↦ elim x [
              | inl y ↦ let r = keeps.lines.nearest u.0 o.0 v.0.row u.1.0 o.1.0 u.1.1.1 (shared ∙ sym u.1.1.0) (omega (arith, y, z)) in omega (arith, r, a, b, less)
              | inr y ↦ g.0 (a ∙ y)
            ]
          ] in
          (w.0, (w.1.0, (ap (λ x. x.1) w.1.1.0 ∙ u.1.1.0 ∙ sym (ap (λ x. x.1) v.1.1), w.1.1.1 outside ∙ u.1.1.1 ∙ ap (λ r. Some r) (sym b))));
      order = λ s t m n same less w.
          let o = like s m in
          let v = like t n in
          let a = ap (λ x. x.0) o.1.1 in
          let b = ap (λ x. x.0) v.1.1 in
          let r = keeps.lines.order o.0 v.0 o.1.0 v.1.0 (sym (ap (λ x. x.1) o.1.1) ∙ same ∙ ap (λ x. x.1) v.1.1) (omega (arith, a, b, less)) (sym (ap (waits_at rows) b) ∙ sym (waits_same t.row) ∙ w) in
          still_over s.row (ap (over_at rows) a ∙ r);
    };
    lasts = record {
      within = λ c k e. let a = keeps.lasts.within c k e in let b = len in omega (arith, a, b);
      cown = λ c k e. ap (λ x. x.1) (same_pair left spots k done.pairs_stay) ∙ keeps.lasts.cown c k e;
      latest = λ c k e t m same. let o = like t m in
          let a = keeps.lasts.latest c k e o.0 o.1.0 (sym (ap (λ x. x.1) o.1.1) ∙ same) in
          let b = ap (λ x. x.0) o.1.1 in let d = ap (λ x. x.0) (same_pair left spots k done.pairs_stay) in omega (arith, a, b, d);
      none = λ c e t m same. let o = like t m in keeps.lasts.none c e o.0 o.1.0 (sym (ap (λ x. x.1) o.1.1) ∙ same);
    };
    counted = λ q m. restaged_same (λ (r : Row). r.behind) rest p Ended (λ r s. refl) there q ∙ done.counted q (let a = restaged_length rest p Ended in omega (arith, a, m));
    together = record {
      range = λ q k m n.
          ap (λ x. eqb x.0 q) (same_pair left spots k done.pairs_stay)
          ∙ keeps.together.range q k (omega (arith, over_length, m)) (let a = len in omega (arith, a, n))
          ∙ sym (both (λ (r : Row). leb r.first k && ltb k r.end) (λ r s. refl) (λ r n. refl) q);
      ends = λ q m. let a = keeps.together.ends q (omega (arith, over_length, m)) in let b = both (λ (r : Row). r.end) (λ r s. refl) (λ r n. refl) q in let d = len in omega (arith, a, b, d);
      begins = λ q m. let a = keeps.together.begins q (omega (arith, over_length, m)) in let b = both (λ (r : Row). r.end) (λ r s. refl) (λ r n. refl) q in let d = both (λ (r : Row). r.first) (λ r s. refl) (λ r n. refl) q in omega (arith, a, b, d);
      rows_there = λ s m. let o = like s m in let a = keeps.together.rows_there o.0 o.1.0 in let b = ap (λ x. x.0) o.1.1 in omega (arith, over_length, a, b);
    };
    jobs = record {
      rising = λ a b less m x y. let r = keeps.jobs.rising a b less (omega (arith, over_length, m)) (not_gone a x).1 (not_gone b y).1 in let i = ids a in let j = ids b in omega (arith, r, i, j);
      number = λ q j m e. keeps.jobs.number q j (omega (arith, over_length, m)) (waiting_was q j e) ∙ sym (ids q);
      cowns = λ q j m e. keeps.jobs.cowns q j (omega (arith, over_length, m)) (waiting_was q j e) ∙ sym (cowns_same q);
      leads = λ n q e. elim (eqb id n) as (λ b. eqb id n ≡ b → (q < length over_rows) × ((over_at over_rows q ≡ false) × ((row_at over_rows q).id ≡ n))) [
        | true ↦ λ h. absurd (none_some (found n) q (gone n ∙ ap (λ b. cond b None (place n)) h) e)
        | false ↦ λ h.
            let r = keeps.jobs.leads n q (sym (ap (λ b. cond b None (place n)) h) ∙ sym (gone n) ∙ e) in
            let o : (q ≡ p → ⊥) = λ z. true_not_false (eqb id n) (eq-eqb id n (sym number ∙ ap (λ m. (row_at rows m).id) (sym z) ∙ r.1.1)) h in
            (let a = r.0 in omega (arith, over_length, a), (over_other q o ∙ r.1.0, ids q ∙ r.1.1))
      ] refl;
      found = λ q m a.
          let g = not_gone q a in
          ap found (ids q) ∙ gone (row_at rows q).id ∙ ap (λ b. cond b None (place (row_at rows q).id)) (other_id q (omega (arith, over_length, m)) g.0 g.1)
          ∙ keeps.jobs.found q (omega (arith, over_length, m)) g.1;
    };
    marked = record {
      marks = λ q m. done.marked.marks q (let a = restaged_length rest p Ended in omega (arith, a, m)) ∙ elim (one_or_other p q) [
        | inl e ↦ ap (λ n. bit (is_free (row_at rest n))) e ∙ ap (λ s. bit (is_waiting s && eqb (row_at rest p).behind 0)) (stays (λ (r : Row). r.stage) (λ r n. refl) p ∙ runs)
            ∙ sym (ap (λ n. bit (is_free (row_at over_rows n))) e ∙ ap (λ s. bit (is_waiting s && eqb (row_at over_rows p).behind 0)) stage_here)
        | inr o ↦ ap (λ r. bit (is_free r)) (sym (restaged_other rest p q Ended o))
      ];
      beyond = λ q m. done.marked.beyond q (let a = restaged_length rest p Ended in omega (arith, a, m));
    };
  }
    where
      which : (a b : ℕ) → (a < b) ⊎ ((b < a) ⊎ (a ≡ b))
      which a b = grind arith

      still_over : (q : ℕ) → over_at rows q ≡ true → over_at over_rows q ≡ true
      still_over q e = elim (one_or_other p q) [
        | inl z ↦ ap (over_at over_rows) z ∙ ap is_over stage_here
        | inr o ↦ over_other q o ∙ e
      ]

  pub ended_waiting : waiting_jobs over_rows ≡ waiting_jobs rows
  ended_waiting = waiting_alike over_rows rows over_length (λ q. elim (one_or_other p q) [
    | inl e ↦ ap (λ n. job_in (row_at over_rows n).stage) e ∙ ap job_in stage_here ∙ sym (ap (λ n. job_in (row_at rows n).stage) e ∙ ap job_in runs)
    | inr o ↦ ap job_in (stage_other q o)
  ])

  pub ended_running : holders_from left 0 over_rows ≡ without_holder (holders_from spots 0 rows) id
  ended_running =
      holders_same spots left 0 over_rows (λ q m. cowns_same q)
      ∙ running_without spots 0 rows over_rows p id over_length l runs (eq-eqb (row_at rows p).id id number) stage_here (λ q o. (stage_other q o, ids q))
      (λ q m o e. flip id (row_at rows q).id (other_id q m o (ap is_over e)))
    where
      flip : (a b : ℕ) → eqb a b ≡ false → eqb b a ≡ false
      flip a b e = elim (eqb b a) as (λ t. eqb b a ≡ t → t ≡ false) [
        | true ↦ λ f. absurd (true_not_false (eqb a b) (eq-eqb a b (sym (eqb-true b a f))) e)
        | false ↦ λ f. refl
      ] refl

pub freed_length : (rows : List Row) (next : Option ℕ) (marks : List ℕ) → length (freed rows next marks) ≡ length marks
freed_length rows None marks = refl
freed_length rows (Some q) marks = elim (eqb ((row_at rows q).behind - 1) 0) as (λ b. length (cond b (set marks q 1) marks) ≡ length marks) [
  | true ↦ length-set marks q 1
  | false ↦ refl
]

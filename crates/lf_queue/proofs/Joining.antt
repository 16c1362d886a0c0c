-- A job joins a line: the lines stay lines.
use Rattle.std.proofs.Common.{Bool, List, None, Option, Some, [], ap, arith, cond, false, inl, inr, length, ltb, not, refl, set, subst, suc, sym, true, zero, ℕ, ◌&&◌, ◌++◌, ◌<◌, ◌≤◌, ◌∙◌, ◌∷◌, ◌≡◌, ◌⊎◌}
use Rattle.std.proofs.lemmas.Bool.{ltb-true, ltb-false}
use Rattle.lf_base.specs.declared.ids.CownId.{CownId}
use Rattle.lf_base.specs.Sets.{Member}
use Rattle.lf_base.proofs.ListLemmas.Members.{Member_left, Member_of_append, Member_right}
use Rattle.lf_queue.specs.declared.row.Row.{Row}
use Rattle.lf_queue.specs.declared.row.Stage.{Stage}
use Rattle.lf_queue.specs.declared.row.Stage.TheVariants.{Waiting, Running, Ended}
use Rattle.lf_queue.specs.declared.spot.Spot.{Spot}
use Rattle.std.proofs.lemmas.List.{get_or_append_left, get_or_at, get_or_past}
use Rattle.lf_queue.specs.Lines.{AreLasts, InLines, is_ahead, is_over, is_waiting, joined, next_row, no_spot, over_at, row_at, spot_at, waits_at, with_next}

some_not_none : {X : Type 0} (o : Option X) (x : X) → o ≡ None → o ≡ Some x → ⊥
some_not_none o x e f = cc

pub true_not_false : (b : Bool) → b ≡ true → b ≡ false → ⊥
true_not_false b e f = cc

-- the same spot on the same line
abbrev pub Alike : Spot → Spot → Type 0
Alike s t = (t.row ≡ s.row) × (t.cown ≡ s.cown)

-- how a list of spots comes from another when a job joins the line of a cown
pub record Joins (over : ℕ → Bool) (n : ℕ) (c : CownId) (spots after : List Spot) : Type 0 where
  pub back : (t : Spot) → Member t after →
      ((s : Spot) × (Member s spots × (Alike s t × (t.next ≡ s.next))))
      ⊎ (((s : Spot) × (Member s spots × (Alike s t × ((t.next ≡ Some n) × ((over s.row ≡ false) × ((s.row < n) × ((s.cown ≡ c) × ((u : Spot) → Member u spots → u.cown ≡ c → u.row ≤ s.row))))))))
      ⊎ ((t.row ≡ n) × ((t.cown ≡ c) × (t.next ≡ None))))
  pub forth : (s : Spot) → Member s spots → (t : Spot) × (Member t after × (Alike s t × ((q : ℕ) → s.next ≡ Some q → t.next ≡ Some q)))
  pub fresh : (t : Spot) × (Member t after × ((t.row ≡ n) × (t.cown ≡ c)))
  pub leads : (s : Spot) → Member s spots → s.cown ≡ c → s.row < n → over s.row ≡ false → (u : Spot) × (Member u after × ((u.cown ≡ c) × (u.next ≡ Some n)))

module _ (over waits : ℕ → Bool) (n : ℕ) (c : CownId) (spots after : List Spot) (lines : InLines over waits spots) (upto : (s : Spot) → Member s spots → s.row ≤ n) (waiting : waits n ≡ true) (joins : Joins over n c spots after) where
  -- each spot is like an old one, or new
  old_or_new : (t : Spot) → Member t after → ((s : Spot) × (Member s spots × Alike s t)) ⊎ ((t.row ≡ n) × ((t.cown ≡ c) × (t.next ≡ None)))
  old_or_new t m = elim (joins.back t m) [
    | inl o ↦ inl (o.0, (o.1.0, o.1.1.0))
    | inr r ↦ elim r [ inl o ↦ inl (o.0, (o.1.0, o.1.1.0)) | inr f ↦ inr f ]
  ]

  upto_after : (t : Spot) → Member t after → t.row ≤ n
  upto_after t m = elim (old_or_new t m) [
    | inl o ↦ let a = upto o.0 o.1.0 in let b = o.1.1.0 in omega arith
    | inr f ↦ let a = f.0 in omega arith
  ]

  pub joined_lines : InLines over waits after
  joined_lines = record {
    ahead = λ s q m e. elim (joins.back s m) [
      | inl o ↦ subst (λ r. over r ≡ false) (sym o.1.1.0.0) (lines.ahead o.0 q o.1.0 (sym o.1.1.1 ∙ e))
      | inr r ↦ elim r [
        | inl o ↦ subst (λ r. over r ≡ false) (sym o.1.1.0.0) o.1.1.1.1.0
        | inr f ↦ absurd (some_not_none s.next q f.1.1 e)
      ]
    ];
    later = λ s q m e. elim (joins.back s m) [
      | inl o ↦ let a = lines.later o.0 q o.1.0 (sym o.1.1.1 ∙ e) in let b = o.1.1.0.0 in omega arith
      | inr r ↦ elim r [
        | inl o ↦ let a = o.1.1.1.1.1.0 in let b = o.1.1.0.0 in let d = same_next n q (sym o.1.1.1.0 ∙ e) in omega arith
        | inr f ↦ absurd (some_not_none s.next q f.1.1 e)
      ]
    ];
    there = λ s q m e. elim (joins.back s m) [
      | inl o ↦
          let t = lines.there o.0 q o.1.0 (sym o.1.1.1 ∙ e) in
          let u = joins.forth t.0 t.1.0 in
          (u.0, (u.1.0, (u.1.1.0.0 ∙ t.1.1.0, u.1.1.0.1 ∙ t.1.1.1 ∙ sym o.1.1.0.1)))
      | inr r ↦ elim r [
        | inl o ↦ let u = joins.fresh in (u.0, (u.1.0, (u.1.1.0 ∙ same_next n q (sym o.1.1.1.0 ∙ e), u.1.1.1 ∙ sym o.1.1.1.1.1.1.0 ∙ sym o.1.1.0.1)))
        | inr f ↦ absurd (some_not_none s.next q f.1.1 e)
      ]
    ];
    nearest = λ s t q m k e same l. elim (joins.back s m) [
      | inl o ↦ elim (old_or_new t k) [
        | inl p ↦
            let a = lines.nearest o.0 p.0 q o.1.0 p.1.0 (sym o.1.1.1 ∙ e) (sym p.1.1.1 ∙ same ∙ o.1.1.0.1) (let x = p.1.1.0 in let y = o.1.1.0.0 in omega arith) in
            let b = p.1.1.0 in omega arith
        | inr f ↦
            let u = lines.there o.0 q o.1.0 (sym o.1.1.1 ∙ e) in
            let a = upto u.0 u.1.0 in let b = u.1.1.0 in let d = f.0 in omega arith
      ]
      | inr r ↦ elim r [
        | inl o ↦ elim (old_or_new t k) [
          | inl p ↦ absurd (
              let a = o.1.1.1.1.1.1.1 p.0 p.1.0 (sym p.1.1.1 ∙ same ∙ o.1.1.0.1 ∙ o.1.1.1.1.1.1.0) in
              let b = p.1.1.0 in let d = o.1.1.0.0 in omega arith)
          | inr f ↦ let a = f.0 in let d = same_next n q (sym o.1.1.1.0 ∙ e) in omega arith
        ]
        | inr f ↦ absurd (some_not_none s.next q f.1.1 e)
      ]
    ];
    led = λ s t m k same l alive. elim (old_or_new s m) [
      | inl o ↦ elim (old_or_new t k) [
        | inl p ↦
            let u = lines.led o.0 p.0 o.1.0 p.1.0 (sym o.1.1.1 ∙ same ∙ p.1.1.1) (let x = p.1.1.0 in let y = o.1.1.0 in omega arith) (subst (λ r. over r ≡ false) o.1.1.0 alive) in
            let v = joins.forth u.0 u.1.0 in
            (v.0, (v.1.0, (v.1.1.0.1 ∙ u.1.1.0 ∙ sym p.1.1.1, v.1.1.1 p.0.row u.1.1.1 ∙ ap (λ r. Some r) (sym p.1.1.0))))
        | inr f ↦
            let u = joins.leads o.0 o.1.0 (sym o.1.1.1 ∙ same ∙ f.1.0) (let x = f.0 in let y = o.1.1.0 in omega arith) (subst (λ r. over r ≡ false) o.1.1.0 alive) in
            (u.0, (u.1.0, (u.1.1.0 ∙ sym f.1.0, u.1.1.1 ∙ ap (λ r. Some r) (sym f.0))))
      ]
      | inr f ↦ absurd (let a = upto_after t k in let b = f.0 in omega arith)
    ];
    order = λ s t m k same l w. elim (old_or_new s m) [
      | inl o ↦ elim (old_or_new t k) [
        | inl p ↦ subst (λ r. over r ≡ true) (sym o.1.1.0)
            (lines.order o.0 p.0 o.1.0 p.1.0 (sym o.1.1.1 ∙ same ∙ p.1.1.1) (let x = p.1.1.0 in let y = o.1.1.0 in omega arith) (subst (λ r. waits r ≡ false) p.1.1.0 w))
        | inr f ↦ absurd (true_not_false (waits n) waiting (subst (λ r. waits r ≡ false) f.0 w))
      ]
      | inr f ↦ absurd (let a = upto_after t k in let b = f.0 in omega arith)
    ];
  }
    where
      same_next : (a b : ℕ) → Some a ≡ Some b → a ≡ b
      same_next a b e = ap (λ o. elim o [ Some x ↦ x | None ↦ a ]) e

-- ---- the members of a list with one item replaced
pub set_member : (spots : List Spot) (k : ℕ) (y t : Spot) → Member t (set spots k y) → Member t spots ⊎ (t ≡ y)
set_member [] k y t m = absurd m
set_member (x ∷ xs) zero y t (inl e) = inr (sym e)
set_member (x ∷ xs) zero y t (inr m) = inl (inr m)
set_member (x ∷ xs) (suc k) y t (inl e) = inl (inl e)
set_member (x ∷ xs) (suc k) y t (inr m) = elim (set_member xs k y t m) [ inl n ↦ inl (inr n) | inr e ↦ inr e ]

pub member_set : (spots : List Spot) (k : ℕ) (y s : Spot) → Member s spots → Member s (set spots k y) ⊎ (s ≡ spot_at spots k)
member_set [] k y s m = absurd m
member_set (x ∷ xs) zero y s (inl e) = inr (sym e)
member_set (x ∷ xs) zero y s (inr m) = inl (inr m)
member_set (x ∷ xs) (suc k) y s (inl e) = inl (inl e)
member_set (x ∷ xs) (suc k) y s (inr m) = elim (member_set xs k y s m) [ inl n ↦ inl (inr n) | inr e ↦ inr e ]

pub new_member : (spots : List Spot) (k : ℕ) (y : Spot) → k < length spots → Member y (set spots k y)
new_member [] k y l = absurd (omega arith)
new_member (x ∷ xs) zero y l = inl refl
new_member (x ∷ xs) (suc k) y l = inr (new_member xs k y (omega arith))

pub spot_member : (spots : List Spot) (k : ℕ) → k < length spots → Member (spot_at spots k) spots
spot_member [] k l = absurd (omega arith)
spot_member (x ∷ xs) zero l = inl refl
spot_member (x ∷ xs) (suc k) l = inr (spot_member xs k (omega arith))

and_split : (a b : Bool) → (a && b) ≡ true → (a ≡ true) × (b ≡ true)
and_split true b e = (refl, e)
and_split false b e = absurd (cc)

and_other : (a b : Bool) → (a && b) ≡ false → (a ≡ false) ⊎ (b ≡ false)
and_other true b e = inr e
and_other false b e = inl refl

not_true_is : (b : Bool) → not b ≡ true → b ≡ false
not_true_is true e = absurd (cc)
not_true_is false e = refl

not_false_is : (b : Bool) → not b ≡ false → b ≡ true
not_false_is true e = refl
not_false_is false e = absurd (cc)

over_waits : (rows : List Row) (p : ℕ) → over_at rows p ≡ true → waits_at rows p ≡ false
over_waits rows p e = by_stage (row_at rows p).stage e
  where
    by_stage : (stage : Stage) → is_over stage ≡ true → is_waiting stage ≡ false
    by_stage (Waiting job) e = absurd (cc)
    by_stage Running e = absurd (cc)
    by_stage Ended e = refl

less_or_same : (a b : ℕ) → a ≤ b → (a < b) ⊎ (a ≡ b)
less_or_same a b l = grind arith

-- ---- a spot is put last
module _ (spots : List Spot) (new : Spot) where
  member_more : (t : Spot) → Member t (spots ++ new ∷ []) → Member t spots ⊎ (t ≡ new)
  member_more t m = elim (Member_of_append t spots (new ∷ []) m) [
    | inl n ↦ inl n
    | inr n ↦ elim n [ inl e ↦ inr (sym e) | inr a ↦ absurd a ]
  ]

  last_member : Member new (spots ++ new ∷ [])
  last_member = Member_right new spots (new ∷ []) (inl refl)

  pub spot_before : (k : ℕ) → k < length spots → spot_at (spots ++ new ∷ []) k ≡ spot_at spots k
  spot_before k l = get_or_append_left spots (new ∷ []) no_spot k l

  pub spot_last : spot_at (spots ++ new ∷ []) (length spots) ≡ new
  spot_last = get_or_at spots new [] no_spot (length spots) refl

module _ (rows : List Row) (spots : List Spot) (last : CownId → Option ℕ) (c : CownId) (lines : InLines (over_at rows) (waits_at rows) spots) (lasts : AreLasts last spots) (upto : (s : Spot) → Member s spots → s.row ≤ length rows) where
  abbrev new_spot : Spot
  new_spot = record { cown = c; row = length rows; next = None }

  -- nothing leads to the new row, but what led to it
  plain : ((s : Spot) → Member s spots → s.cown ≡ c → s.row < length rows → over_at rows s.row ≡ false → (u : Spot) × (Member u spots × ((u.cown ≡ c) × (u.next ≡ Some (length rows)))))
      → Joins (over_at rows) (length rows) c spots (spots ++ new_spot ∷ [])
  plain led = record {
    back = λ t m. elim (member_more spots new_spot t m) [
      | inl n ↦ inl (t, (n, ((refl, refl), refl)))
      | inr e ↦ inr (inr (ap (λ s. s.row) e, (ap (λ s. s.cown) e, ap (λ s. s.next) e)))
    ];
    forth = λ s m. (s, (Member_left s spots (new_spot ∷ []) m, ((refl, refl), λ q e. e)));
    fresh = (new_spot, (last_member spots new_spot, (refl, refl)));
    leads = λ s m e l a. let u = led s m e l a in (u.0, (Member_left u.0 spots (new_spot ∷ []) u.1.0, u.1.1));
  }

  -- the last spot on the line is that of the new row itself, or of a job that is over
  stays : (k : ℕ) → last c ≡ Some k → is_ahead rows (spot_at spots k).row ≡ false → Joins (over_at rows) (length rows) c spots (spots ++ new_spot ∷ [])
  stays k e apart = plain (λ s m same l alive.
      let there = spot_member spots k (lasts.within c k e) in
      let late = lasts.latest c k e s m same in
      elim (and_other (ltb (spot_at spots k).row (length rows)) (not (over_at rows (spot_at spots k).row)) apart) [
        | inl far ↦
            let x = ltb-false (spot_at spots k).row (length rows) far in
            let y = upto (spot_at spots k) there in
            let row : (spot_at spots k).row ≡ length rows = omega arith in
            let u = lines.led s (spot_at spots k) m there (same ∙ sym (lasts.cown c k e)) (omega arith) alive in
            (u.0, (u.1.0, (u.1.1.0 ∙ lasts.cown c k e, u.1.1.1 ∙ ap (λ r. Some r) row)))
        | inr gone ↦
            let over = not_false_is (over_at rows (spot_at spots k).row) gone in
            absurd (elim (less_or_same s.row (spot_at spots k).row late) [
              | inl less ↦ true_not_false (over_at rows s.row) (lines.order s (spot_at spots k) m there (same ∙ sym (lasts.cown c k e)) less (over_waits rows (spot_at spots k).row over)) alive
              | inr one ↦ true_not_false (over_at rows s.row) (ap (over_at rows) one ∙ over) alive
            ])
      ])

  -- it leads to the new row from now on
  module _ (k : ℕ) (e : last c ≡ Some k) (yes : is_ahead rows (spot_at spots k).row ≡ true) where
    here : Member (spot_at spots k) spots
    here = spot_member spots k (lasts.within c k e)

    abbrev led_spot : Spot
    led_spot = record (spot_at spots k) { next = Some (length rows) }

    -- it led nowhere
    pub no_next : (q : ℕ) → (spot_at spots k).next ≡ Some q → ⊥
    no_next q n =
        let t = lines.there (spot_at spots k) q here n in
        let a = lasts.latest c k e t.0 t.1.0 (t.1.1.1 ∙ lasts.cown c k e) in
        let b = lines.later (spot_at spots k) q here n in
        let d = t.1.1.0 in
        omega arith

    leads_on : Joins (over_at rows) (length rows) c spots (set spots k led_spot ++ new_spot ∷ [])
    leads_on = record {
      back = λ t m. elim (member_more (set spots k led_spot) new_spot t m) [
        | inl n ↦ elim (set_member spots k led_spot t n) [
          | inl o ↦ inl (t, (o, ((refl, refl), refl)))
          | inr f ↦
              let parts = and_split (ltb (spot_at spots k).row (length rows)) (not (over_at rows (spot_at spots k).row)) yes in
              inr (inl (
                spot_at spots k,
                (
                  here,
                  (
                    (ap (λ s. s.row) f, ap (λ s. s.cown) f),
                    (
                      ap (λ s. s.next) f,
                      (not_true_is (over_at rows (spot_at spots k).row) parts.1, (ltb-true (spot_at spots k).row (length rows) parts.0, (lasts.cown c k e, λ u n o. lasts.latest c k e u n o))),
                    ),
                  ),
                ),
              ))
        ]
        | inr f ↦ inr (inr (ap (λ s. s.row) f, (ap (λ s. s.cown) f, ap (λ s. s.next) f)))
      ];
      forth = λ s m. elim (member_set spots k led_spot s m) [
        | inl n ↦ (s, (Member_left s (set spots k led_spot) (new_spot ∷ []) n, ((refl, refl), λ q g. g)))
        | inr f ↦ (
          led_spot,
          (
            Member_left led_spot (set spots k led_spot) (new_spot ∷ []) (new_member spots k led_spot (lasts.within c k e)),
            ((sym (ap (λ x. x.row) f), sym (ap (λ x. x.cown) f)), λ q g. absurd (no_next q (sym (ap (λ x. x.next) f) ∙ g))),
          ),
        )
      ];
      fresh = (new_spot, (last_member (set spots k led_spot) new_spot, (refl, refl)));
      leads = λ s m same l alive.
          (led_spot, (Member_left led_spot (set spots k led_spot) (new_spot ∷ []) (new_member spots k led_spot (lasts.within c k e)), (lasts.cown c k e, refl)));
    }

  pub joins_so : Joins (over_at rows) (length rows) c spots (joined rows spots (last c) c)
  joins_so = elim (last c) as (λ o. last c ≡ o → Joins (over_at rows) (length rows) c spots (joined rows spots o c)) [
    | None ↦ λ e. plain (λ s m same l alive. absurd (lasts.none c e s m same))
    | Some k ↦ λ e. elim (is_ahead rows (spot_at spots k).row) as (λ b. is_ahead rows (spot_at spots k).row ≡ b → Joins (over_at rows) (length rows) c spots ((cond b (with_next spots k (length rows)) spots) ++ new_spot ∷ [])) [
      | true ↦ λ y. leads_on k e y
      | false ↦ λ n. stays k e n
    ] refl
  ] refl

  waits_next : waits_at rows (length rows) ≡ true
  waits_next = ap (λ (row : Row). is_waiting row.stage) (get_or_past rows (length rows) next_row (omega arith))

  pub lines_after : InLines (over_at rows) (waits_at rows) (joined rows spots (last c) c)
  lines_after = joined_lines (over_at rows) (waits_at rows) (length rows) c spots (joined rows spots (last c) c) lines upto waits_next joins_so

  pub upto_joined : (t : Spot) → Member t (joined rows spots (last c) c) → t.row ≤ length rows
  upto_joined t m = upto_after (over_at rows) (waits_at rows) (length rows) c spots (joined rows spots (last c) c) lines upto waits_next joins_so t m

-- The regions that lose rows by a freeze, one after the other.
use Rattle.std.proofs.Common.{Bool, List, [], ap, arith, cond, drop, eqb, false, filter, length, not, refl, reverse, subst, sym, true, ℕ, ◌&&◌, ◌+◌, ◌++◌, ◌-◌, ◌||◌, ◌∙◌, ◌∷◌, ◌≡◌, ◌≤◌}
use Rattle.std.proofs.lemmas.Bool.{false_from_ne_true}
use Rattle.std.proofs.lemmas.List.{append-nil, append_assoc, reverse-append}
use Rattle.lf_base.specs.declared.ids.ObjId.{ObjId}
use Rattle.lf_base.specs.declared.values.Value.{Value}
use Rattle.lf_base.specs.Edges.{Edge, edges}
use Rattle.lf_base.specs.FreezeResult.{freeze_result, freeze_set}
use Rattle.lf_base.specs.Names.{same_name}
use Rattle.lf_base.specs.Owners.{has_name, has_row, is_bridge, is_in}
use Rattle.lf_base.specs.Ownership.{is_owned, is_owning}
use Rattle.lf_base.specs.PlainState.{State}
use Rattle.lf_base.specs.Sets.{Differ}
use Rattle.lf_base.specs.WalkCounts.{borrowed, borrows}
use Rattle.lf_base.specs.WellFormed.{WellFormed}
use Rattle.lf_base.proofs.NameLemmas.SameNames.{same_name_is, same_name_itself}
use Rattle.lf_barrier.proofs.MovingEdges.RowLoops.{head_there}
use Rattle.lf_domain.proofs.NearCounts.{bridge_has_row, from_near}
use Rattle.lf_domain.proofs.TableEdges.{flag_borrowed, has_borrowed, number_borrowed}
use Rattle.lf_graph.specs.StoredRows.{CountedRow}
use Rattle.lf_laws.proofs.Dropping.RowsWithout.{owner_lost, owner_stay}
use Rattle.lf_laws.proofs.Edges.EdgeParts.{any_same, count_alike_on}
use Rattle.lf_laws.proofs.Edges.FrozenCounts.{borrowed_freeze, owning_freeze}
use Rattle.lf_laws.proofs.Rows.RowsByName.{differ_apart, has_append}
use Rattle.lf_regions.specs.declared.region.Region.{Region}
use Rattle.lf_regions.specs.RegionChanges.{with_borrowed}
use Rattle.lf_regions.specs.Regions.{borrowed_of, has_region, owned_of}
use Rattle.lf_regions.specs.TableCounts.{IsTableOf}
use Rattle.lf_transfer.specs.Freezing.{MayLose, MayLoseAll, TurnsTo, borrows_of_taken, is_bare_region}

-- ---- bridges and owners after a freeze
module _ (s : State) (well : WellFormed s) (v : Value) where
  abbrev pub after : State
  after = freeze_result s v

  abbrev pub gone : ObjId → Bool
  gone o = has_row (freeze_set s v) o

  pub bridge_stays : (q : ObjId) → gone q ≡ false → is_bridge (after).rows q ≡ is_bridge s.rows q
  bridge_stays q h = ap (is_in q) (owner_stay s.rows gone q h)

  pub bridge_goes : (q : ObjId) → gone q ≡ true → is_bridge (after).rows q ≡ false
  bridge_goes q h = ap (is_in q) (owner_lost s.rows gone q h)

  pub bridge_was : (q : ObjId) → is_bridge (after).rows q ≡ true → (gone q ≡ false) × (is_bridge s.rows q ≡ true)
  bridge_was q b =
      let out : gone q ≡ false = false_from_ne_true _ (λ h. let z : false ≡ true = sym (bridge_goes q h) ∙ b in cc) in
      (out, sym (bridge_stays q out) ∙ b)

  pub owned_stays : (q : ObjId) → is_bridge s.rows q ≡ true → gone q ≡ false → is_owned after q ≡ is_owned s q
  owned_stays q b out =
      any_same (λ (e : Edge). is_owning (after).rows e.from q && same_name e.to q) (edges after) (λ (e : Edge). is_owning s.rows e.from q && same_name e.to q) (edges s)
      (owning_freeze s v well q (bridge_has_row s well q b) out)

-- ---- one region
module _ (rows : List CountedRow) (table : List Region) (s : State) (v : Value) (taken : List ObjId) (r : ObjId) (now : List Region) (m : MayLose rows table s v taken r now) where
  well : WellFormed s
  well = (m.domain).well_formed

  abbrev then_state : State
  then_state = freeze_result s v

  told : IsTableOf table s.rows (edges s)
  told = (from_near s well rows table (m.domain).counts).table

  lost_then : borrowed then_state r + borrows_of_taken s taken r ≡ borrowed s r
  lost_then = omega (
    arith,
    borrowed_freeze s v well r,
    count_alike_on (λ (e : Edge). has_name taken e.to && borrows s.rows r e) (λ (e : Edge). has_row (freeze_set s v) e.to && borrows s.rows r e) (edges s) (λ e n. ap (λ b. b && borrows s.rows r e) (m.takes e.to)),
  )

  -- its bridge freezes
  module _ (h : has_name taken r ≡ true) where
    goes : is_bridge (then_state).rows r ≡ false
    goes = bridge_goes s well v r (sym (m.takes r) ∙ h)

    other : (q : ObjId) → is_bridge (then_state).rows q ≡ true → same_name r q ≡ false
    other q b = false_from_ne_true _ (λ k. let z : false ≡ true = sym goes ∙ ap (is_bridge (then_state).rows) (same_name_is r q k) ∙ b in cc)

    pub turned_gone : (next : List Region) → ((q : ObjId) → has_region next q ≡ (not (same_name r q) && has_region now q)) → ((q : ObjId) → same_name r q ≡ false → borrowed_of next q ≡ borrowed_of now q)
        → ((q : ObjId) → same_name r q ≡ false → owned_of next q ≡ owned_of now q) → TurnsTo then_state (r ∷ []) now next
    turned_gone next names numbers flags = record {
      names = λ q. names q ∙ (elim (same_name r q) as (λ b. same_name r q ≡ b → (not b && has_region now q) ≡ cond (b || false) (is_bridge (then_state).rows q) (has_region now q)) [
        | true ↦ λ k. sym (ap (is_bridge (then_state).rows) (sym (same_name_is r q k)) ∙ goes)
        | false ↦ λ k. refl
      ] refl);
      numbers = λ q b. numbers q (other q b) ∙ sym (ap (λ c. cond (c || false) (borrowed then_state q) (borrowed_of now q)) (other q b));
      flags = λ q b. flags q (other q b);
    }

    pub not_bare : is_bare_region then_state r ≡ false
    not_bare = ap (λ b. b && (not (is_owned then_state r) && eqb (borrowed then_state r) 0)) goes

  -- it stays
  module _ (h : has_name taken r ≡ false) where
    out : has_row (freeze_set s v) r ≡ false
    out = sym (m.takes r) ∙ h

    stays_bridge : is_bridge (then_state).rows r ≡ true
    stays_bridge = bridge_stays s well v r out ∙ m.bridge

    number_now : borrowed_of now r ≡ borrowed s r
    number_now = m.number h ∙ (told).borrowed r m.bridge

    module _ (lost : ℕ) (is : lost ≡ borrows_of_taken s taken r) where
      pub not_less : lost ≤ borrowed_of now r
      not_less = omega (arith, is, number_now, lost_then)

      abbrev pub lowered : List Region
      lowered = with_borrowed now r (borrowed_of now r - lost)

      number_then : borrowed_of lowered r ≡ borrowed then_state r
      number_then = omega (arith, is, number_now, lost_then, number_borrowed now r r (borrowed_of now r - lost) m.there ∙ ap (λ c. cond c (borrowed_of now r - lost) (borrowed_of now r)) (same_name_itself r))

      flag_then : owned_of lowered r ≡ is_owned then_state r
      flag_then = flag_borrowed now r r (borrowed_of now r - lost) ∙ m.flag h ∙ (told).owned r m.bridge ∙ sym (owned_stays s well v r m.bridge out)

      pub still_there : has_region lowered r ≡ true
      still_there = has_borrowed now r r (borrowed_of now r - lost) ∙ m.there

      pub turned_stay : TurnsTo then_state (r ∷ []) now lowered
      turned_stay = record {
        names = λ q. has_borrowed now r q (borrowed_of now r - lost) ∙ (elim (same_name r q) as (λ b. same_name r q ≡ b → has_region now q ≡ cond (b || false) (is_bridge (then_state).rows q) (has_region now q)) [
          | true ↦ λ k. ap (has_region now) (sym (same_name_is r q k)) ∙ m.there ∙ sym (ap (is_bridge (then_state).rows) (sym (same_name_is r q k)) ∙ stays_bridge)
          | false ↦ λ k. refl
        ] refl);
        numbers = λ q b. elim (same_name r q) as (λ c. same_name r q ≡ c → borrowed_of lowered q ≡ cond (c || false) (borrowed then_state q) (borrowed_of now q)) [
          | true ↦ λ k. ap (borrowed_of lowered) (sym (same_name_is r q k)) ∙ number_then ∙ ap (borrowed then_state) (same_name_is r q k)
          | false ↦ λ k. number_borrowed now r q (borrowed_of now r - lost) m.there ∙ ap (λ c. cond c (borrowed_of now r - lost) (borrowed_of now q)) k
        ] refl;
        flags = λ q b. flag_borrowed now r q (borrowed_of now r - lost);
      }

      pub bare_is : is_bare_region then_state r ≡ (not (owned_of lowered r) && eqb (borrowed_of lowered r) 0)
      bare_is = ap (λ b. b && (not (is_owned then_state r) && eqb (borrowed then_state r) 0)) stays_bridge ∙ (λ i. not (sym flag_then i) && eqb (sym number_then i) 0)

-- ---- all of them
two_conds : {X : Type 0} (x y : Bool) (new old : X) → cond y new (cond x new old) ≡ cond (x || y) new old
two_conds true true new old = refl
two_conds true false new old = refl
two_conds false true new old = refl
two_conds false false new old = refl

pub turns_none : (t : State) (table : List Region) → TurnsTo t [] table table
turns_none t table = record { names = λ q. refl; numbers = λ q b. refl; flags = λ q b. refl }

turns_on : (t : State) (rs ps : List ObjId) (a b c : List Region) → TurnsTo t rs a b → TurnsTo t ps b c → TurnsTo t (rs ++ ps) a c
turns_on t rs ps a b c e f = record {
  names = λ q. f.names q ∙ ap (cond (has_name ps q) (is_bridge t.rows q)) (e.names q) ∙ two_conds (has_name rs q) (has_name ps q) (is_bridge t.rows q) (has_region a q)
      ∙ ap (λ x. cond x (is_bridge t.rows q) (has_region a q)) (sym (has_append rs ps q));
  numbers = λ q h. f.numbers q h ∙ ap (cond (has_name ps q) (borrowed t q)) (e.numbers q h) ∙ two_conds (has_name rs q) (has_name ps q) (borrowed t q) (borrowed_of a q)
      ∙ ap (λ x. cond x (borrowed t q) (borrowed_of a q)) (sym (has_append rs ps q));
  flags = λ q h. f.flags q h ∙ e.flags q h;
}

filter_last : {X : Type 0} (p : X → Bool) (xs : List X) (x : X) → filter p (xs ++ x ∷ []) ≡ filter p xs ++ cond (p x) (x ∷ []) []
filter_last p [] x = elim (p x) as (λ b. cond b (x ∷ []) [] ≡ cond b (x ∷ []) []) [ true ↦ refl | false ↦ refl ]
filter_last p (y ∷ ys) x = elim (p y) as (λ b. cond b (y ∷ filter p (ys ++ x ∷ [])) (filter p (ys ++ x ∷ [])) ≡ cond b (y ∷ filter p ys) (filter p ys) ++ cond (p x) (x ∷ []) []) [
  | true ↦ ap (λ l. y ∷ l) (filter_last p ys x)
  | false ↦ filter_last p ys x
]

named_last : (b : Bool) (r : ObjId) (xs old : List ObjId) → cond b (r ∷ (reverse xs ++ old)) (reverse xs ++ old) ≡ reverse (xs ++ cond b (r ∷ []) []) ++ old
named_last true r xs old = sym (ap (λ l. l ++ old) (reverse-append xs (r ∷ [])))
named_last false r xs old = sym (ap (λ l. reverse l ++ old) (append-nil xs))

pub record Losing (t : State) (rs : List ObjId) (i : ℕ) (before now : List Region) (old names : List ObjId) : Type 0 where
  pub done : List ObjId
  pub split : rs ≡ done ++ drop i rs
  pub turned : TurnsTo t done before now
  pub named : names ≡ reverse (filter (is_bare_region t) done) ++ old

pub losing_begins : (t : State) (rs : List ObjId) (before : List Region) (old : List ObjId) → Losing t rs 0 before before old old
losing_begins t rs before old = record { done = []; split = refl; turned = turns_none t before; named = refl }

module _ (rows : List CountedRow) (before : List Region) (s : State) (v : Value) (taken rs : List ObjId) (m : MayLoseAll rows before s v taken rs) (i : ℕ) (now : List Region) (old names : List ObjId)
    (g : Losing (freeze_result s v) rs i before now old names) (r : ObjId) (at : drop i rs ≡ r ∷ drop (i + 1) rs) where
  split_here : rs ≡ g.done ++ r ∷ drop (i + 1) rs
  split_here = g.split ∙ ap (λ l. g.done ++ l) at

  not_done : has_name g.done r ≡ false
  not_done = false_from_ne_true _ (λ h. differ_apart g.done (r ∷ drop (i + 1) rs) (subst (Differ same_name) split_here m.differ) r h (head_there r (drop (i + 1) rs)))

  in_all : has_name rs r ≡ true
  in_all = ap (λ l. has_name l r) split_here ∙ has_append g.done (r ∷ drop (i + 1) rs) r ∙ ap (λ b. b || has_name (r ∷ drop (i + 1) rs) r) not_done ∙ head_there r (drop (i + 1) rs)

  was_bridge : is_bridge s.rows r ≡ true
  was_bridge = m.bridges r in_all

  stays_then : has_name taken r ≡ false → is_bridge (freeze_result s v).rows r ≡ true
  stays_then h = bridge_stays s (m.domain).well_formed v r (sym (m.takes r) ∙ h) ∙ was_bridge

  pub may_lose_one : MayLose rows before s v taken r now
  may_lose_one = record {
    domain = m.domain;
    takes = m.takes;
    bridge = was_bridge;
    there = (g.turned).names r ∙ ap (λ b. cond b (is_bridge (freeze_result s v).rows r) (has_region before r)) not_done ∙ ((((m.domain).counts).table).regions r) ∙ was_bridge;
    number = λ h. (g.turned).numbers r (stays_then h) ∙ ap (λ b. cond b (borrowed (freeze_result s v) r) (borrowed_of before r)) not_done;
    flag = λ h. (g.turned).flags r (stays_then h);
  }

  pub losing_on : (next : List Region) → TurnsTo (freeze_result s v) (r ∷ []) now next → (more : List ObjId) → more ≡ cond (is_bare_region (freeze_result s v) r) (r ∷ names) names
      → Losing (freeze_result s v) rs (i + 1) before next old more
  losing_on next e more is = record {
    done = g.done ++ r ∷ [];
    split = split_here ∙ sym (append_assoc g.done (r ∷ []) (drop (i + 1) rs));
    turned = turns_on (freeze_result s v) g.done (r ∷ []) before now next g.turned e;
    named = is ∙ ap (λ l. cond (is_bare_region (freeze_result s v) r) (r ∷ l) l) g.named
        ∙ named_last (is_bare_region (freeze_result s v) r) r (filter (is_bare_region (freeze_result s v)) g.done) old
        ∙ ap (λ l. reverse l ++ old) (sym (filter_last (is_bare_region (freeze_result s v)) g.done r));
  }

pub all_done : (t : State) (rs : List ObjId) (i : ℕ) (before now : List Region) (old names : List ObjId) (g : Losing t rs i before now old names) → drop i rs ≡ [] → g.done ≡ rs
all_done t rs i before now old names g none = sym (g.split ∙ ap (λ l. g.done ++ l) none ∙ append-nil g.done)

pub one_more_fits : (b : Bool) (r : ObjId) (names more : List ObjId) → more ≡ cond b (r ∷ names) names → length more ≤ length names + 1
one_more_fits true r names more is = omega (arith, ap length is)
one_more_fits false r names more is = omega (arith, ap length is)

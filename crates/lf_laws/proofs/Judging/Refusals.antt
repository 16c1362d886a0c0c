-- What a write into a region is refused for, by the edges that it touches.
use Rattle.std.proofs.Common.{ℕ, ◌≤◌, ◌<◌, Bool, List, None, Some, [], ap, arith, false, ltb, not, refl, subst, sym, true, ◌+◌, ◌∙◌, ◌∷◌, ◌≡◌}
use Rattle.std.specs.List.{list_any}
use Rattle.lf_base.specs.Names.{same_name}
use Rattle.lf_base.specs.Owners.{bridges, is_bridge, is_in, names, row_at}
use Rattle.lf_base.specs.Ownership.{Above, owning_edges, round, below}
use Rattle.lf_base.specs.PlainState.{State}
use Rattle.lf_base.specs.TouchedEdges.{OtherBridge, TouchesOnce, TouchesOther, TouchesTwice, WritesInto, closes_round, gives_second_owner, leads_inside_other, touched_edges, touches}
use Rattle.lf_base.specs.TakeResult.{row_field}
use Rattle.lf_base.specs.WalkCounts.{counted}
use Rattle.lf_base.specs.WriteResult.{first_shown, is_some_list, refusal_by, shows_interior, shows_round, shows_two, write_refusal, write_result}
use Rattle.lf_base.specs.declared.faults.Fault.TheVariants.{Cycle, Interior, SecondOwner}
use Rattle.lf_base.specs.declared.ids.ObjId.{ObjId}
use Rattle.lf_base.specs.declared.values.Key.{Key}
use Rattle.lf_base.specs.declared.values.Value.{Value}
use Rattle.lf_base.proofs.ListLemmas.Filters.{Member_of_filter}
use Rattle.lf_base.proofs.ListLemmas.Members.{Member_any, any_Member}
use Rattle.lf_base.proofs.ListLemmas.Tests.{any_none, none_any}
use Rattle.lf_base.proofs.NameLemmas.SameNames.{same_name_is, same_name_itself}
use Rattle.lf_laws.proofs.Judging.InteriorShown.{interior_shown}
use Rattle.lf_laws.proofs.Judging.OwnersCounted.{other_owners, own_owners}
use Rattle.lf_laws.proofs.Judging.OwnersRound.{is_bridge_still, round_by_touched, was_bridge}
use Rattle.lf_laws.proofs.Judging.WrittenRegion.{final}
use Rattle.lf_laws.proofs.Rows.RowsByName.{Member_has_name, has_name_Member}
use Rattle.std.proofs.lemmas.Bool.{le-ltb, lt-ltb, and_from, and_parts, both_ways, ltb-true, not-true, false_from_ne_true}
use Rattle.std.specs.Prelude.{◌↔◌}
use Rattle.lf_laws.proofs.Edges.EdgeParts.{same_by}
use Rattle.lf_laws.proofs.Owners.PathsOfSets.{below_path}
use Rattle.lf_laws.proofs.Owners.ListedBridges.{bridge_listed}

some_there : {X : Type 0} (xs : List X) → (xs ≡ [] → ⊥) → is_some_list xs ≡ true
some_there [] h = absurd (h refl)
some_there (x ∷ xs) h = refl

at_most : (m n : ℕ) → (m < n → ⊥) → n ≤ m
at_most m n h = grind (arith, h)

module _ (s : State) (x : ObjId) (k : Key) (v : Value) (home : ObjId) (ms : List ObjId) (w : WritesInto s x v home ms) where
  abbrev after : State
  after = write_result s x k v

  abbrev some_inside : Bool
  some_inside = list_any (λ e. leads_inside_other s.rows home e) (touched_edges s x v ms)

  before : (r : ObjId) → is_bridge after.rows r ≡ true → is_bridge s.rows r ≡ true
  before r h = elim (same_name home r) as (λ c. same_name home r ≡ c → is_bridge s.rows r ≡ true) [
    | true ↦ λ t. subst (λ q. is_bridge s.rows q ≡ true) (same_name_is home r t) (ap (is_in home) ((w.well_formed).bridge x home w.target) ∙ same_name_itself home)
    | false ↦ λ t. was_bridge s x k v home ms w r t (ap (λ (z : State). is_bridge z.rows r) (sym (final s x k v home ms w)) ∙ h)
  ] refl

  few : TouchesOnce s x k v home ms → (r : ObjId) → is_bridge s.rows r ≡ true → owning_edges after r ≤ 1
  few once r h = elim (same_name home r) as (λ c. same_name home r ≡ c → owning_edges after r ≤ 1) [
    | true ↦ λ t. subst (λ q. owning_edges after q ≤ 1) (same_name_is home r t)
        (let own : is_bridge s.rows home ≡ true = ap (is_bridge s.rows) (same_name_is home r t) ∙ h in omega (arith, own_owners s x k v home ms w, (w.well_formed).one_owner home own))
    | false ↦ λ t. omega (arith, other_owners s x k v home ms w r t, once r (record { bridge = h; other = t }))
  ] refl

  no_two : TouchesOnce s x k v home ms → shows_two after ≡ false
  no_two once = any_none (λ r. ltb 1 (owning_edges after r)) (bridges after) (λ r m.
      le-ltb 1 (owning_edges after r) (few once r (before r (Member_of_filter (is_bridge after.rows) r (names after.rows) m).1)))

  some_two : (b : ObjId) → TouchesTwice s x k v home ms b → shows_two after ≡ true
  some_two b t =
      let h : is_bridge after.rows b ≡ true = ap (λ (z : State). is_bridge z.rows b) (final s x k v home ms w) ∙ is_bridge_still s x k v home ms w b (t.at).bridge in
      let two : 1 < owning_edges after b = omega (arith, t.two, other_owners s x k v home ms w b (t.at).other) in
      Member_any (λ r. ltb 1 (owning_edges after r)) b (bridges after) (bridge_listed after b h) (lt-ltb 1 (owning_edges after b) two)

  by_parts : (a b c : Bool) → some_inside ≡ a → shows_two after ≡ b → shows_round after ≡ c → write_refusal s x k v ≡ first_shown a b c
  by_parts a b c p q r =
      let shown : shows_interior after ≡ a = interior_shown s x k v home ms w ∙ p in
      ap (refusal_by s x k v) w.target ∙ (λ i. first_shown (shown i) (q i) (r i))

  pub refused_inside : some_inside ≡ true → write_refusal s x k v ≡ Some Interior
  refused_inside h = by_parts true (shows_two after) (shows_round after) h refl refl

  pub refused_second : some_inside ≡ false → (b : ObjId) → TouchesTwice s x k v home ms b → write_refusal s x k v ≡ Some SecondOwner
  refused_second h b t = by_parts false true (shows_round after) h (some_two b t) refl

  pub refused_cycle : some_inside ≡ false → TouchesOnce s x k v home ms → (b : ObjId) → TouchesOther s x v home ms b → Above s b home → write_refusal s x k v ≡ Some Cycle
  refused_cycle h once b t a = by_parts false false true h (no_two once) (some_there (round after) (λ e. (round_by_touched s x k v home ms w).0 e b t a))

  pub not_refused : some_inside ≡ false → TouchesOnce s x k v home ms → ((b : ObjId) → TouchesOther s x v home ms b → Above s b home → ⊥) → write_refusal s x k v ≡ None
  not_refused h once clear = by_parts false false false h (no_two once) (ap is_some_list ((round_by_touched s x k v home ms w).1 clear))

  -- ---- the same as one equation, by tests of the bridges before
  abbrev second : ObjId → Bool
  second b = gives_second_owner s x k v home ms b

  abbrev rounds : ObjId → Bool
  rounds b = closes_round s x v home ms b

  other_by : (b : ObjId) → is_bridge s.rows b ≡ true → not (same_name home b) ≡ true → OtherBridge s home b
  other_by b h n = record { bridge = h; other = not-true _ n }

  to_second : shows_two after ≡ true → list_any second (bridges s) ≡ true
  to_second h =
      let found = any_Member (λ r. ltb 1 (owning_edges after r)) (bridges after) h in
      let r = found.0 in
      let m = before r (Member_of_filter (is_bridge after.rows) r (names after.rows) found.1.0).1 in
      let two : 1 < owning_edges after r = ltb-true 1 (owning_edges after r) found.1.1 in
      elim (same_name home r) as (λ c. same_name home r ≡ c → list_any second (bridges s) ≡ true) [
        | true ↦ λ t.
            let own : is_bridge s.rows home ≡ true = ap (is_bridge s.rows) (same_name_is home r t) ∙ m in
            absurd (omega (arith, two, ap (owning_edges after) (sym (same_name_is home r t)), own_owners s x k v home ms w, (w.well_formed).one_owner home own))
        | false ↦ λ t. Member_any second r (bridges s) (bridge_listed s r m)
            (and_from _ _ (ap not t) (lt-ltb (counted r (row_field (row_at s.rows x) k) + 1) (owning_edges s r + touches s x v ms r) (omega (arith, two, other_owners s x k v home ms w r t))))
      ] refl

  from_second : list_any second (bridges s) ≡ true → shows_two after ≡ true
  from_second h =
      let found = any_Member second (bridges s) h in
      let b = found.0 in
      let p = and_parts (not (same_name home b)) _ found.1.1 in
      some_two b (record {
        at = other_by b (Member_of_filter (is_bridge s.rows) b (names s.rows) found.1.0).1 p.0;
        two = ltb-true (counted b (row_field (row_at s.rows x) k) + 1) (owning_edges s b + touches s x v ms b) p.1;
      })

  -- a bridge that is touched and above the region passes the test
  passes : (b : ObjId) → TouchesOther s x v home ms b → Above s b home → list_any rounds (bridges s) ≡ true
  passes b t a =
      Member_any rounds b (bridges s) (bridge_listed s b (t.at).bridge)
      (and_from _ _ (ap not (t.at).other) (and_from _ _ (lt-ltb 0 (touches s x v ms b) t.touched) (Member_has_name home (below s b) ((below_path s b home).1 a))))

  to_rounds : shows_round after ≡ true → list_any rounds (bridges s) ≡ true
  to_rounds h = elim (list_any rounds (bridges s)) as (λ c. list_any rounds (bridges s) ≡ c → c ≡ true) [
    | true ↦ λ t. refl
    | false ↦ λ t. sym (ap is_some_list ((round_by_touched s x k v home ms w).1 (λ b o a. both_ways _ t (passes b o a)))) ∙ h
  ] refl

  from_rounds : list_any rounds (bridges s) ≡ true → shows_round after ≡ true
  from_rounds h =
      let found = any_Member rounds (bridges s) h in
      let b = found.0 in
      let p = and_parts (not (same_name home b)) _ found.1.1 in
      let q = and_parts (ltb 0 (touches s x v ms b)) _ p.1 in
      let t : TouchesOther s x v home ms b = record {
        at = other_by b (Member_of_filter (is_bridge s.rows) b (names s.rows) found.1.0).1 p.0;
        touched = ltb-true 0 (touches s x v ms b) q.0;
      } in
      some_there (round after) (λ e. (round_by_touched s x k v home ms w).0 e b t ((below_path s b home).0 (has_name_Member home (below s b) q.1)))

  pub refusal_is : write_refusal s x k v ≡ first_shown some_inside (list_any second (bridges s)) (list_any rounds (bridges s))
  refusal_is = by_parts some_inside _ _ refl (same_by _ _ to_second from_second) (same_by _ _ to_rounds from_rounds)

  -- no bridge passes the test of a second owner exactly where each is touched once at most
  pub once_is : TouchesOnce s x k v home ms ↔ (list_any second (bridges s) ≡ false)
  once_is = (
    (λ once. any_none second (bridges s) (λ b m. false_from_ne_true _ (λ h.
        let p = and_parts (not (same_name home b)) _ h in
        let few = once b (other_by b (Member_of_filter (is_bridge s.rows) b (names s.rows) m).1 p.0) in
        absurd (omega (arith, few, ltb-true (counted b (row_field (row_at s.rows x) k) + 1) (owning_edges s b + touches s x v ms b) p.1))))),
    (λ none b at. at_most (counted b (row_field (row_at s.rows x) k) + 1) (owning_edges s b + touches s x v ms b) (λ more.
        both_ways _ (none_any second (bridges s) none b (bridge_listed s b at.bridge))
        (and_from _ _ (ap not at.other) (lt-ltb (counted b (row_field (row_at s.rows x) k) + 1) (owning_edges s b + touches s x v ms b) more)))),
  )

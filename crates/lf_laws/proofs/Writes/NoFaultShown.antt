-- A well-formed state shows no fault of the topology.
use Rattle.std.proofs.Common.{Bool, List, None, Option, Some, [], ap, false, map, not, refl, sym, true, ◌||◌, ◌∙◌, ◌∷◌, ◌≡◌}
use Rattle.std.specs.Prelude.{ltb}
use Rattle.lf_base.specs.declared.ids.ObjId.{ObjId}
use Rattle.lf_base.specs.declared.values.Owner.{Owner}
use Rattle.lf_base.specs.declared.values.Owner.TheVariants.{Frozen, In, Local}
use Rattle.lf_base.specs.Edges.{Content, Field, Slot, Source, edges}
use Rattle.lf_base.specs.Names.{same_name}
use Rattle.lf_base.specs.Owners.{bridges, has_row, is_bridge, or_frozen, owner_in}
use Rattle.lf_base.specs.Ownership.{is_in_other, owning_edges}
use Rattle.lf_base.specs.PlainState.{State}
use Rattle.lf_base.specs.WellFormed.{Leads, WellFormed, from_inner, from_row, may_lead}
use Rattle.lf_base.specs.WriteResult.{fault_shown, first_shown, is_some_list, leads_inside, shows_interior}
use Rattle.std.proofs.lemmas.Bool.{le-ltb, and_from, and_parts, both_ways, false_from_ne_true}
use Rattle.lf_base.proofs.ListLemmas.Tests.{any_none, or_nor}
use Rattle.lf_base.proofs.ListLemmas.Filters.{Member_of_filter}
use Rattle.lf_laws.proofs.Rows.OwnerTests.{other_is}

pub empty_list : {X : Type 0} (xs : List X) → is_some_list xs ≡ false → xs ≡ []
empty_list [] e = refl
empty_list (x ∷ xs) e = cc

pub record NoneShown (a b c : Bool) : Type 0 where
  pub first : a ≡ false
  pub second : b ≡ false
  pub third : c ≡ false

pub none_shown : (a b c : Bool) → first_shown a b c ≡ None → NoneShown a b c
none_shown false false false e = record { first = refl; second = refl; third = refl }
none_shown true b c e = cc
none_shown false true c e = cc
none_shown false false true e = cc

-- ---- a state with the topology shows no fault
pub inner_quiet : (s : State) (f : Source) (t : ObjId) → may_lead s f t ≡ true → (b : Option Owner) → owner_in s.rows t ≡ b → leads_inside s.rows (record { from = f; to = t }) b ≡ false
inner_quiet s f t l None h = refl
inner_quiet s f t l (Some Local) h = refl
inner_quiet s f t l (Some Frozen) h = refl
inner_quiet s Slot t l (Some (In q)) h = refl
inner_quiet s (Content c) t l (Some (In q)) h = refl
inner_quiet s (Field p) t l (Some (In q)) h = false_from_ne_true _ (λ e.
    let a = and_parts (is_in_other q (owner_in s.rows p)) (not (same_name q t)) e in
    let o = other_is q (owner_in s.rows p) a.0 in
    let k : from_inner o.region t (Some (In q)) ≡ true = (λ i. from_row (or_frozen (has_row s.given p || has_row s.own p) (sym o.is i)) t (or_frozen (has_row s.given t || has_row s.own t) (sym h i))) ∙ l in
    both_ways _ (or_nor (same_name o.region q) (same_name q t) k) (and_from _ _ (ap not o.other) a.1))

pub interior_quiet : (s : State) → Leads s → shows_interior s ≡ false
interior_quiet s l = any_none (λ e. leads_inside s.rows e (owner_in s.rows e.to)) (edges s) (λ e m. inner_quiet s e.from e.to (l e m) (owner_in s.rows e.to) refl)

pub well_formed_quiet : (s : State) → WellFormed s → fault_shown s ≡ None
well_formed_quiet s t =
    (λ i. first_shown (interior_quiet s t.leads i)
    (any_none (λ r. ltb 1 (owning_edges s r)) (bridges s) (λ r m. le-ltb 1 (owning_edges s r) (t.one_owner r (Member_of_filter (is_bridge s.rows) r (map (λ r. r.name) s.rows) m).1)) i)
    (is_some_list (t.no_round i)))

-- Losses of many edges: what lost its last justification is the target of one of them, or lies in the region of one.
use Rattle.std.proofs.Common.{Bool, List, Some, ap, arith, refl, suc, subst, true, false, zero, ℕ, ◌&&◌, ◌+◌, ◌<◌, ◌∙◌, ◌≡◌}
use Rattle.std.specs.List.{count_by}
use Rattle.lf_base.specs.Edges.{Edge}
use Rattle.lf_base.specs.Losses.{LosesEdges, LossesKnown, LostLast, is_held, last_edge, last_of_region}
use Rattle.lf_base.specs.Names.{same_name}
use Rattle.lf_base.specs.Owners.{is_bridge, owner_in}
use Rattle.lf_base.specs.Ownership.{is_owning, owning_edges}
use Rattle.lf_base.specs.PlainState.{State}
use Rattle.lf_base.specs.Sets.{Member}
use Rattle.lf_base.specs.Suspects.{Object, Suspect}
use Rattle.lf_base.specs.WalkCounts.{borrowed, borrows, is_borrower, refs}
use Rattle.lf_base.specs.declared.ids.ObjId.{ObjId}
use Rattle.lf_base.specs.declared.values.Owner.TheVariants.{In}
use Rattle.lf_base.proofs.ListLemmas.Members.{any_Member}
use Rattle.lf_base.proofs.NameLemmas.SameNames.{same_name_is, same_name_itself}
use Rattle.lf_laws.proofs.Edges.EdgeParts.{any_some, count_positive}
use Rattle.lf_laws.proofs.Losses.CountsFall.{above_zero, borrowed_fewer, owning_fewer, refs_fewer, zero_not}
use Rattle.lf_laws.proofs.Rows.OwnerTests.{in_region}
use Rattle.std.proofs.lemmas.Bool.{and_parts}

module _ (s t : State) (lost : List Edge) (loses : LosesEdges s t lost) where
  -- one of the edges passes where they count
  passing : (p : Edge → Bool) → 0 < count_by p lost → (e : Edge) × (Member e lost × (p e ≡ true))
  passing p h = any_Member p lost (any_some p lost h)

  pub refs_lost : (o : ObjId) → 0 < refs s o → refs t o ≡ 0 → (e : Edge) × (Member e lost × (e.to ≡ o))
  refs_lost o some none =
      let e = passing (λ (d : Edge). same_name d.to o) (omega (arith, some, none, refs_fewer s t lost loses o)) in
      (e.0, (e.1.0, same_name_is (e.0).to o e.1.1))

  by_owner : (r : ObjId) → is_bridge s.rows r ≡ true → 0 < count_by (λ (d : Edge). is_owning s.rows d.from r && same_name d.to r) lost → (e : Edge) × (Member e lost × (owner_in s.rows e.to ≡ Some (In r)))
  by_owner r b h =
      let e = passing (λ (d : Edge). is_owning s.rows d.from r && same_name d.to r) h in
      let p = and_parts (is_owning s.rows (e.0).from r) (same_name (e.0).to r) e.1.1 in
      (e.0, (e.1.0, ap (owner_in s.rows) (same_name_is (e.0).to r p.1) ∙ in_region r (owner_in s.rows r) b))

  by_borrow : (r : ObjId) → 0 < count_by (borrows s.rows r) lost → (e : Edge) × (Member e lost × (owner_in s.rows e.to ≡ Some (In r)))
  by_borrow r h =
      let e = passing (borrows s.rows r) h in
      (e.0, (e.1.0, in_region r (owner_in s.rows (e.0).to) (and_parts (is_borrower s.rows (e.0).from) _ e.1.1).1))

  -- an edge into a region that has neither owner nor borrow any more was lost
  pub into : (r : ObjId) → is_bridge s.rows r ≡ true → is_held s r ≡ true → is_held t r ≡ false → (e : Edge) × (Member e lost × (owner_in s.rows e.to ≡ Some (In r)))
  into r b h n =
      let some : 0 < owning_edges s r + borrowed s r = above_zero (owning_edges s r + borrowed s r) h in
      let none : owning_edges t r + borrowed t r ≡ 0 = zero_not (owning_edges t r + borrowed t r) n in
      by_counts (count_by (λ (d : Edge). is_owning s.rows d.from r && same_name d.to r) lost) refl (omega (arith, some, none, owning_fewer s t lost loses r, borrowed_fewer s t lost loses r))
    where
      by_counts : (m : ℕ) → count_by (λ (d : Edge). is_owning s.rows d.from r && same_name d.to r) lost ≡ m → 0 < m + count_by (borrows s.rows r) lost → (e : Edge) × (Member e lost × (owner_in s.rows e.to ≡ Some (In r)))
      by_counts zero eq k = by_borrow r (omega (arith, k))
      by_counts (suc m) eq k = by_owner r b (omega (arith, eq))

  pub named : (e : Edge) → Member e lost → 0 < refs s e.to
  named e m = omega (arith, refs_fewer s t lost loses e.to, count_positive (λ (d : Edge). same_name d.to e.to) lost e m (same_name_itself e.to))

  -- where each target that lost its last justification is a suspect, the losses are known
  pub edges_known : (old new : List Suspect) → ((u : Suspect) → Member u old → Member u new)
      → ((e : Edge) → Member e lost → LostLast s t e.to → Member (Object e.to) new) → LossesKnown s t old new
  edges_known old new stay cover = record {
    owners = loses.owners;
    rows_lost = λ o w h some none. let e = refs_lost o some none in
        subst (λ q. Member (Object q) new) e.1.1 (cover e.0 e.1.0 (last_edge (ap (refs t) e.1.1 ∙ none)));
    regions_lost = λ r b h n. let e = into r b h n in
        record { row = (e.0).to; inside = e.1.1; named = named e.0 e.1.0; suspect = cover e.0 e.1.0 (last_of_region r e.1.1 h n) };
    suspects_stay = stay;
  }

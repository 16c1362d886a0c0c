-- At a behaviour's end nothing is borrowed and nothing is open.
use Rattle.std.proofs.Common.{Some, ap, false, ltb, refl, subst, true, ◌&&◌, ◌++◌, ◌∙◌, ◌≡◌}
use Rattle.lf_base.specs.declared.ids.ObjId.{ObjId}
use Rattle.lf_base.specs.declared.values.Owner.{Owner}
use Rattle.lf_base.specs.declared.values.Owner.TheVariants.{Frozen, In, Local}
use Rattle.lf_base.specs.Edges.{Edge, edges, slot_edges}
use Rattle.lf_base.specs.Kept.{kept}
use Rattle.lf_base.specs.Names.{is_local, same_name}
use Rattle.lf_base.specs.Owners.{bridges, has_row, is_bridge, is_in, is_local_at, names, owner_in}
use Rattle.lf_base.specs.Ownership.{below, is_owned, is_owning, owns}
use Rattle.lf_base.specs.PlainState.{State}
use Rattle.lf_base.specs.Sets.{Member}
use Rattle.lf_base.specs.WalkCounts.{borrowed, borrows, is_borrower, is_open, open_children}
use Rattle.lf_base.proofs.ListLemmas.Tests.{any_none, none_count}
use Rattle.lf_laws.proofs.Rows.EdgeSources.{at_content, at_frozen, at_row, at_slot, edge_begins}
use Rattle.lf_laws.proofs.Rows.OwnerTests.{in_region}
use Rattle.lf_laws.proofs.Rows.RowsByName.{row_of, mem_has, owner_mem, differ_rows}
use Rattle.lf_base.proofs.ListLemmas.Members.{Member_any}
use Rattle.std.proofs.lemmas.Bool.{both_ways, and_right, or_from}
use Rattle.lf_laws.proofs.Dropping.RowsInPlace.{rows_in_place}
use Rattle.lf_base.specs.Contents.{part}
use Rattle.lf_base.specs.WholeContents.{Ended}
use Rattle.lf_laws.proofs.Contents.PartsCover.{rows_covered}
use Rattle.lf_laws.proofs.Contents.PartsApart.{part_owner}

not_near : (o : Owner) → is_local o ≡ false → is_local_at (Some o) ≡ false
not_near Local k = absurd (both_ways true k refl)
not_near (In r) k = refl
not_near Frozen k = refl

module _ (e : State) (t : Ended e) where
  no_borrower : (d : Edge) → Member d (edges e) → is_borrower e.rows d.from ≡ false
  no_borrower d m = elim (edge_begins e d m) [
    | at_slot f n ↦ absurd (subst (λ slots. Member d (slot_edges slots)) t.no_slots n)
    | at_row x n f k ↦ ap (is_borrower e.rows) f ∙ ap is_local_at (owner_mem e.rows (differ_rows e.rows (names e.given ++ names e.own) (t.whole).names_differ) x n) ∙ not_near x.owner (t.no_locals x n)
    | at_content c f n ↦ ap (is_borrower e.rows) f
    | at_frozen x h f ↦ ap (is_borrower e.rows) f ∙ ap is_local_at ((rows_in_place e t.whole).apart x.name h)
  ]

  pub none_borrowed : (r : ObjId) → borrowed e r ≡ 0
  none_borrowed r = none_count (borrows e.rows r) (edges e) (λ d m. ap (λ b. b && is_in r (owner_in e.rows d.to)) (no_borrower d m))

  none_wide : (r : ObjId) → is_open e r ≡ false
  none_wide r = or_from _ _ (ap (ltb 0) (none_borrowed r)) (any_none (λ c. ltb 0 (borrowed e c)) (below e r) (λ c m. ap (ltb 0) (none_borrowed c)))

  pub none_open : (r : ObjId) → open_children e r ≡ 0
  none_open r = none_count (λ c. owns e r c && is_open e c) (bridges e) (λ c m. and_right (owns e r c) (is_open e c) (none_wide c))

-- each region is owned, by a content or by a row of a content's tree
pub all_owned : (e : State) → Ended e → kept e ≡ e → (r : ObjId) → is_bridge e.rows r ≡ true → is_owned e r ≡ true
all_owned e t all r h =
    let b : owner_in e.rows r ≡ Some (In r) = in_region r (owner_in e.rows r) h in
    let y = row_of e.rows r (In r) b in
    let c = rows_covered e t all y.row y.mem in
    let z = part_owner e t c.0 c.1.0 r b (subst (λ n. has_row (part e c.0) n ≡ true) y.name (mem_has y.row (part e c.0) c.1.1)) in
    Member_any (λ (d : Edge). is_owning e.rows d.from r && same_name d.to r) z.edge (edges e) z.mem z.owning

-- The parts of a tree's regions make a packed content.
use Rattle.std.proofs.Common.{List, Some, [], ap, arith, inl, inr, is_some, length, subst, sym, ◌+◌, ◌++◌, ◌∙◌, ◌∷◌, ◌≡◌, ◌≤◌, ℕ}
use Rattle.std.proofs.lemmas.List.Sums.{sum_by-cons}
use Rattle.std.specs.List.{sum_by}
use Rattle.lf_base.specs.declared.ids.CownId.{CownId}
use Rattle.lf_base.specs.declared.ids.ObjId.{ObjId}
use Rattle.lf_base.specs.declared.values.Owner.{Owner}
use Rattle.lf_base.specs.declared.values.Owner.TheVariants.{In}
use Rattle.lf_base.specs.declared.values.Value.{Value}
use Rattle.lf_base.specs.ContentTrees.{lies_in_one, regions_from}
use Rattle.lf_base.specs.Contents.{alone, part}
use Rattle.lf_base.specs.EdgeLists.{near_edges}
use Rattle.lf_base.specs.Kept.{kept, stays}
use Rattle.lf_base.specs.Names.{name_below}
use Rattle.lf_base.specs.Owners.{bridge_of, is_in, names}
use Rattle.lf_base.specs.PlainState.{Row, State}
use Rattle.lf_base.specs.Sets.{InOrder, Member}
use Rattle.lf_base.specs.WellFormed.{all_cowns, all_names}
use Rattle.lf_base.specs.WholeContents.{Ended, IsUnborn, StandsAlone}
use Rattle.lf_base.proofs.ListLemmas.Filters.{Member_filter, Member_of_filter}
use Rattle.lf_base.proofs.ListLemmas.Members.{Member_any, Member_map, Member_of_map, Within, any_Member}
use Rattle.lf_base.proofs.ListLemmas.Sublists.{order_sub, sub_map, sub_shrink}
use Rattle.lf_base.proofs.NameLemmas.NameOrder.{name_below_trans}
use Rattle.lf_base.proofs.NameLemmas.SameNames.{same_name_itself}
use Rattle.lf_graph.specs.StoreCounts.{IsStoreOf}
use Rattle.lf_graph.specs.StoredRows.{AreRowsOf, CountedRow, HasRow, NamesDiffer, plain, refs_at, refs_by, row_named, rows_by_name}
use Rattle.lf_graph.proofs.Stores.StateRows.{by_name_rises}
use Rattle.lf_laws.proofs.Contents.ContentsReturn.{whole_alone}
use Rattle.lf_laws.proofs.Contents.ContentsStand.{content_stands}
use Rattle.lf_laws.proofs.Contents.JoinedRows.{into_all}
use Rattle.lf_laws.proofs.Contents.PartsAreTrees.{part_in_tree, tree_in_part}
use Rattle.lf_laws.proofs.Edges.FrozenEdges.{near_refs}
use Rattle.lf_laws.proofs.Rows.InsertedRows.{all_inserted}
use Rattle.lf_laws.proofs.Rows.OwnerTests.{in_region}
use Rattle.lf_laws.proofs.Rows.RowsByName.{Member_has_name, has_name_Member}
use Rattle.lf_laws.proofs.Rows.RowsInOrder.{same_rows}
use Rattle.lf_parcel.specs.Packed.{IsPacked, counts_in}
use Rattle.lf_parcel.specs.TreeRows.{ListsTree, packed_by, rows_in_regions}
use Rattle.lf_parcel.proofs.Beginnings.CountsTogether.{tree_counts}
use Rattle.lf_parcel.proofs.Beginnings.StoredTogether.{stored_there}
use Rattle.lf_parcel.proofs.Trees.StoredRegions.{found_member, in_region_rows, named_member, region_rows_there, regions_differ}

-- ---- a number above all births
not_over_sum : {X : Type 0} (f : X → ℕ) (xs : List X) (x : X) → Member x xs → f x ≤ sum_by f xs
not_over_sum f (y ∷ ys) x (inl e) = let same : f y ≡ f x = ap f e in omega (arith, same, sum_by-cons f y ys)
not_over_sum f (y ∷ ys) x (inr m) = omega (arith, not_over_sum f ys x m, sum_by-cons f y ys)
not_over_sum f [] x m = absurd m

unborn : (s : State) → IsUnborn (1 + (sum_by (λ (o : ObjId). o.birth) (all_names s) + sum_by (λ (c : CownId). c.birth) (all_cowns s))) s
unborn s = record {
  no_object = λ o m e. let h = not_over_sum (λ (o : ObjId). o.birth) (all_names s) o m in omega (arith, h, e);
  no_cown = λ c m e. let h = not_over_sum (λ (c : CownId). c.birth) (all_cowns s) c m in omega (arith, h, e);
}

-- ---- the parts of a content's tree
module _ (e : State) (t : Ended e) (all : kept e ≡ e) (c : CownId × Value) (here : Member c (e.held ++ e.made)) (stored : List CountedRow) (is : IsStoreOf stored e.rows (near_edges e))
    (qs : List ObjId) (lists : ListsTree e c.1 qs) where
  abbrev own : List CountedRow
  own = rows_in_regions qs stored

  own_differ : NamesDiffer own
  own_differ = regions_differ qs stored (is.rows).differ lists.differ

  in_state : (x : Row) → Member x e.rows → (z : CountedRow) × (Member z stored × (z.row ≡ x))
  in_state x m = elim (all_inserted (plain stored) [] x (subst (Member x) (sym (is.rows).rise) m)) [ inl k ↦ Member_of_map (λ (z : CountedRow). z.row) x stored k | inr k ↦ absurd k ]

  of_state : (z : CountedRow) → Member z stored → Member z.row e.rows
  of_state z m = subst (Member z.row) (is.rows).rise (into_all (plain stored) [] z.row (inl (Member_map (λ (z : CountedRow). z.row) z stored m)))

  abbrev tree : List ObjId
  tree = regions_from e (bridge_of e c.1)

  own_in : Within (rows_by_name (plain own)) (part e c)
  own_in x m = elim (all_inserted (plain own) [] x m) [
    | inl k ↦
        let z = Member_of_map (λ (z : CountedRow). z.row) x own k in
        let q = in_region_rows qs stored z.0 z.1.0 in
        let in_tree : Member q.0 tree = has_name_Member q.0 tree (sym (lists.same q.0) ∙ Member_has_name q.0 qs q.1.0) in
        subst (λ r. Member r (part e c)) z.1.1 (tree_in_part e t all c here (z.0).row (Member_filter (lies_in_one tree) (z.0).row e.rows (of_state z.0 q.1.1.0) (Member_any (λ r. is_in r (Some (((z.0).row).owner))) q.0 tree in_tree (ap (λ w. is_in q.0 (Some w)) q.1.1.1 ∙ same_name_itself q.0))))
    | inr k ↦ absurd k
  ]

  in_own : Within (part e c) (rows_by_name (plain own))
  in_own x m =
      let k = Member_of_filter (lies_in_one tree) x e.rows (part_in_tree e t all c here x m) in
      let q = any_Member (λ q. is_in q (Some (x.owner))) tree k.1 in
      let z = in_state x k.0 in
      let owner : ((z.0).row).owner ≡ In q.0 = ap (λ (r : Row). r.owner) z.1.1 ∙ some_owner x.owner (In q.0) (in_region q.0 (Some (x.owner)) q.1.1) in
      let listed : Member q.0 qs = has_name_Member q.0 qs (lists.same q.0 ∙ Member_has_name q.0 tree q.1.0) in
      into_all (plain own) [] x (inl (subst (λ r. Member r (plain own)) z.1.1 (Member_map (λ (z : CountedRow). z.row) z.0 own (region_rows_there qs stored z.0 q.0 listed z.1.0 owner))))
    where
      some_owner : (v w : Owner) → Some v ≡ Some w → v ≡ w
      some_owner v w e = cc

  pub part_rises : InOrder name_below (names (part e c))
  part_rises = order_sub name_below name_below_trans (sub_map (λ (r : Row). r.name) (sub_shrink (stays (alone e c)) (length e.rows) e.rows)) (t.whole).rows_rise

  own_are : AreRowsOf own (part e c)
  own_are = record { differ = own_differ; rise = same_rows (rows_by_name (plain own)) (part e c) (by_name_rises (plain own) own_differ) part_rises own_in in_own }

  own_stands : StandsAlone c.0 (record { value = c.1; rows = part e c })
  own_stands = let new = unborn e in whole_alone _ c.0 _ _ (content_stands e t _ c here new.no_object new.no_cown)

  own_refs : (o : ObjId) → HasRow own o → refs_at own o ≡ counts_in (record { value = c.1; rows = part e c }) o
  own_refs o h =
      let z = found_member own o h in
      let k = in_region_rows qs stored z.0 z.1.0 in
      let there : row_named stored o ≡ Some z.0 = ap (row_named stored) (sym z.1.1.0) ∙ named_member stored (is.rows).differ z.0 k.1.1.0 in
      ap refs_by (z.1.1.1 ∙ sym there) ∙ is.refs o (ap is_some there) ∙ sym (near_refs e t.whole o (stored_there stored e.rows o is.rows (ap is_some there)))
      ∙ tree_counts e t all c here o (stored_there own (part e c) o own_are h)

  -- the rows of its regions are a packed content
  pub parts_are_packed : IsPacked (packed_by e c own)
  parts_are_packed = record { are = own_are; stands = own_stands; refs = own_refs }

-- A content that stands alone does so behind each cown, so a parcel needs none.
use Rattle.std.proofs.Common.{Bool, List, [], ap, cond, count_by, inl, refl, sym, true, ◌&&◌, ◌+◌, ◌++◌, ◌||◌, ◌∙◌, ◌∷◌, ◌≡◌, ℕ}
use Rattle.std.proofs.lemmas.Bool.{both_ways}
use Rattle.std.specs.List.{list_any}
use Rattle.lf_base.specs.declared.ids.CownId.{CownId}
use Rattle.lf_base.specs.declared.ids.ObjId.{ObjId}
use Rattle.lf_base.specs.declared.values.Owner.{Owner}
use Rattle.lf_base.specs.declared.values.Owner.TheVariants.{Frozen, In, Local}
use Rattle.lf_base.specs.declared.values.Value.{Value}
use Rattle.lf_base.specs.declared.values.Value.TheVariants as value
use Rattle.lf_base.specs.Contents.{Parked, lone}
use Rattle.lf_base.specs.Edges.{Edge, content_edges, rows_edges}
use Rattle.lf_base.specs.Kept.{kept_rows, points, points_into, stays_by_owner}
use Rattle.lf_base.specs.Names.{same_name}
use Rattle.lf_base.specs.Owners.{has_row, is_bridge}
use Rattle.lf_base.specs.Ownership.{is_owning}
use Rattle.lf_base.specs.PlainState.{Row}
use Rattle.lf_base.specs.Sets.{greatest}
use Rattle.lf_base.specs.WholeContents.{StandsAlone}
use Rattle.lf_parcel.specs.declared.heads.RegionHead.{RegionHead}
use Rattle.lf_parcel.specs.Heads.{bridges_in, region_heads}
use Rattle.lf_parcel.specs.Packed.{IsPacked, rooted, rowless}
use Rattle.lf_parcel.specs.Parcels.{ArePartsOfRegions, IsParcel, StoredRegion, regions_of_parts, rows_of_parts}
use Rattle.lf_parcel.proofs.Beginnings.CountsTogether.{root_counted}

any_same : (p : Edge → Bool) (xs ys zs : List Edge) → list_any p ys ≡ list_any p zs → list_any p (xs ++ ys) ≡ list_any p (xs ++ zs)
any_same p [] ys zs e = e
any_same p (x ∷ xs) ys zs e = ap (λ b. p x || b) (any_same p xs ys zs e)

module _ (c d : CownId) (rows : List Row) where
  abbrev owns_it : List Row → ObjId → Edge → Bool
  owns_it of r e = is_owning of e.from r && same_name e.to r

  same_end : (of : List Row) (v : Value) (r : ObjId) → list_any (owns_it of r) (content_edges ((c, v) ∷ []) ++ []) ≡ list_any (owns_it of r) (content_edges ((d, v) ∷ []) ++ [])
  same_end of (value.Obj o) r = refl
  same_end of value.None r = refl
  same_end of (value.Bool x) r = refl
  same_end of (value.Int n) r = refl
  same_end of (value.Text n) r = refl
  same_end of (value.Cown n) r = refl

  same_stays : (v : Parked) (o : ObjId) (w : Owner) → stays_by_owner (lone c v) rows o w ≡ stays_by_owner (lone d v) rows o w
  same_stays v o Local = refl
  same_stays v o Frozen = refl
  same_stays v o (In r) =
      ap (λ b. cond (same_name r o) (b || points_into rows (lone c v) r) (has_row rows r && points rows (lone c v) o))
      (any_same (owns_it v.rows r) (rows_edges rows) (content_edges ((c, v.value) ∷ []) ++ []) (content_edges ((d, v.value) ∷ []) ++ []) (same_end v.rows v.value r))

same_kept : (c d : CownId) (v : Parked) → kept_rows (lone c v) ≡ kept_rows (lone d v)
same_kept c d v = ap (λ f. greatest f v.rows) (λ i rows row. same_stays c d rows v row.name row.owner i)

pub stands_anywhere : (c d : CownId) (v : Parked) → StandsAlone c v → StandsAlone d v
stands_anywhere c d v t = record { rise = t.rise; no_locals = t.no_locals; all_stay = same_kept d c v ∙ t.all_stay }

-- the count by the tree and by its content are one
root_counts : (root : ObjId) (rows : List Row) (o : ObjId) (n : ℕ) → n ≡ cond (same_name root o) 1 0 → count_by (λ (e : Edge). same_name e.to o) (rows_edges rows) + n ≡ count_by (λ (e : Edge). same_name e.to o) (rows_edges rows) + cond (same_name root o) 1 0
root_counts root rows o n e = ap (λ (n : ℕ). count_by (λ (e : Edge). same_name e.to o) (rows_edges rows) + n) e

pub parcel_packed : (told : List RegionHead) (parts : List StoredRegion) (root : ObjId) (rows : List Row) (c : CownId) → IsParcel told parts root rows → IsPacked (rooted c root rows (rows_of_parts parts))
parcel_packed told parts root rows c p = record {
  are = p.are;
  stands = (p.tree).stands c;
  refs = λ o h. p.refs o h ∙ sym (root_counts root rows o _ (root_counted o (value.Obj root) root (inl refl)));
}

pub packed_parcel : (parts : List StoredRegion) (root : ObjId) (rows : List Row) (c : CownId) → IsPacked (rooted c root rows (rows_of_parts parts)) → is_bridge rows root ≡ true → regions_of_parts parts ≡ bridges_in rows → ArePartsOfRegions parts
    → IsParcel (region_heads rows) parts root rows
packed_parcel parts root rows c p b regions each = record {
  heads_are = refl;
  regions_are = regions;
  each = each;
  are = p.are;
  tree = record { root_there = b; stands = λ d. stands_anywhere c d _ p.stands };
  refs = λ o h. p.refs o h ∙ root_counts root rows o _ (root_counted o (value.Obj root) root (inl refl));
}

pub rowless_packed : (c : CownId) (v : Value) → IsPacked (rowless c v)
rowless_packed c v = record {
  are = record { differ = tt; rise = refl };
  stands = record { rise = tt; no_locals = λ x m. absurd m; all_stay = refl };
  refs = λ o h. absurd (both_ways _ refl h);
}

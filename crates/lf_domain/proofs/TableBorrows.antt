-- A table of regions that counts one edge more or one less from a slot or a local row.
use Rattle.std.proofs.Common.{List, None, Option, Some, ap, arith, cond, false, length, refl, subst, sym, true, ℕ, ◌&&◌, ◌+◌, ◌-◌, ◌<◌, ◌^◌, ◌||◌, ◌∙◌, ◌∷◌, ◌≡◌, ◌≤◌}
use Rattle.std.proofs.lemmas.List.Sums.{count_by-le-length}
use Rattle.std.specs.List.{count_by}
use Rattle.lf_base.specs.declared.ids.ObjId.{ObjId}
use Rattle.lf_base.specs.declared.values.Owner.{Owner}
use Rattle.lf_base.specs.declared.values.Owner.TheVariants.{Frozen, In, Local}
use Rattle.lf_base.specs.EdgeLists.{SameEdges}
use Rattle.lf_base.specs.Edges.{Content, Edge, Field, Slot, Source}
use Rattle.lf_base.specs.Names.{same_name}
use Rattle.lf_base.specs.Owners.{is_bridge, is_in, is_local_at, owner_in}
use Rattle.lf_base.specs.Ownership.{is_in_other, is_owning}
use Rattle.lf_base.specs.PlainState.{Row}
use Rattle.lf_base.specs.WalkCounts.{borrows, is_borrower}
use Rattle.lf_base.proofs.NameLemmas.SameNames.{same_name_flips, same_name_is, same_name_itself}
use Rattle.lf_regions.specs.declared.region.Region.{Region}
use Rattle.lf_regions.specs.RegionChanges.{with_borrowed}
use Rattle.lf_regions.specs.Regions.{borrowed_of, has_region, owned_of}
use Rattle.lf_regions.specs.TableCounts.{IsTableOf, owns_region}
use Rattle.lf_domain.proofs.EdgeTests.{count_cons, lowered_bit, raised_bit, zero_bit}
use Rattle.lf_domain.proofs.TableEdges.{by_name, flag_borrowed, has_borrowed, number_borrowed, table_less, table_more}

local_owns_nothing : (w : Option Owner) (r : ObjId) → is_local_at w ≡ true → is_in_other r w ≡ false
local_owns_nothing None r h = refl
local_owns_nothing (Some Local) r h = refl
local_owns_nothing (Some (In q)) r h = absurd (cc)
local_owns_nothing (Some Frozen) r h = refl

borrower_owns_nothing : (of : List Row) (f : Source) (r : ObjId) → is_borrower of f ≡ true → is_owning of f r ≡ false
borrower_owns_nothing of Slot r h = refl
borrower_owns_nothing of (Field p) r h = local_owns_nothing (owner_in of p) r h
borrower_owns_nothing of (Content c) r h = absurd (cc)

module _ (regions : List Region) (of : List Row) (es : List Edge) (t : IsTableOf regions of es) (e : Edge) (near : is_borrower of e.from ≡ true) where
  owns_none : (r : ObjId) → owns_region of r e ≡ false
  owns_none r = ap (λ b. b && same_name e.to r) (borrower_owns_nothing of e.from r near)

  borrows_by_target : (r : ObjId) → borrows of r e ≡ is_in r (owner_in of e.to)
  borrows_by_target r = ap (λ b. b && is_in r (owner_in of e.to)) near

  never_owns : (r : ObjId) → is_bridge of r ≡ true → owns_region of r e ≡ true → count_by (owns_region of r) es ≤ 1
  never_owns r b h = absurd (let z : false ≡ true = sym (owns_none r) ∙ h in cc)

  -- an edge to no region
  module _ (w : Option Owner) (k : owner_in of e.to ≡ w) (out : (r : ObjId) → is_in r w ≡ false) where
    not_borrowed : (r : ObjId) → borrows of r e ≡ false
    not_borrowed r = borrows_by_target r ∙ ap (is_in r) k ∙ out r

    pub table_with_outside : IsTableOf regions of (e ∷ es)
    table_with_outside = table_more regions of es t e regions (record {
      there = λ r. refl;
      borrowed = λ r b. sym (zero_bit (borrowed_of regions r) (borrows of r e) (not_borrowed r));
      owned = λ r b. sym (ap (λ x. x || owned_of regions r) (owns_none r));
    })

    pub table_without_outside : (fs : List Edge) → SameEdges es (e ∷ fs) → IsTableOf regions of fs
    table_without_outside fs same = table_less regions of es t e fs same never_owns regions (record {
      there = λ r. refl;
      borrowed = λ r b. zero_bit (borrowed_of regions r) (borrows of r e) (not_borrowed r);
      owned = λ r b. sym (ap (λ x. cond x false (owned_of regions r)) (owns_none r));
    })

  -- an edge into region z
  module _ (z : ObjId) (k : owner_in of e.to ≡ Some (In z)) (there : has_region regions z ≡ true) where
    is_region : is_bridge of z ≡ true
    is_region = sym (t.regions z) ∙ there

    borrows_by_name : (r : ObjId) → same_name z r ≡ borrows of r e
    borrows_by_name r = same_name_flips z r ∙ sym (borrows_by_target r ∙ ap (is_in r) k)

    pub borrowed_few : length es < 2 ^ 63 → borrowed_of regions z + 1 < 2 ^ 64
    borrowed_few few = omega (arith, t.borrowed z is_region, count_by-le-length (borrows of z) es, few)

    pub table_with_inside : IsTableOf (with_borrowed regions z (borrowed_of regions z + 1)) of (e ∷ es)
    table_with_inside = table_more regions of es t e (with_borrowed regions z (borrowed_of regions z + 1)) (record {
      there = λ r. has_borrowed regions z r (borrowed_of regions z + 1);
      borrowed = λ r b. number_borrowed regions z r (borrowed_of regions z + 1) there
          ∙ by_name (borrowed_of regions) (λ n. n + 1) z r
          ∙ raised_bit (borrowed_of regions r) (same_name z r) (borrows of r e) (borrows_by_name r);
      owned = λ r b. flag_borrowed regions z r (borrowed_of regions z + 1) ∙ sym (ap (λ x. x || owned_of regions r) (owns_none r));
    })

    module _ (fs : List Edge) (same : SameEdges es (e ∷ fs)) where
      pub borrowed_some : 0 < borrowed_of regions z
      borrowed_some =
          let one : cond (borrows of z e) 1 0 ≡ 1 = ap {B = ℕ} (λ b. cond b 1 0) (sym (borrows_by_name z) ∙ same_name_itself z) in
          omega (arith, t.borrowed z is_region, same (borrows of z), count_cons (borrows of z) e fs, one)

      pub table_without_inside : IsTableOf (with_borrowed regions z (borrowed_of regions z - 1)) of fs
      table_without_inside = table_less regions of es t e fs same never_owns (with_borrowed regions z (borrowed_of regions z - 1)) (record {
        there = λ r. has_borrowed regions z r (borrowed_of regions z - 1);
        borrowed = λ r b. ap (λ n. cond (borrows of r e) 1 0 + n)
            (number_borrowed regions z r (borrowed_of regions z - 1) there ∙ by_name (borrowed_of regions) (λ n. n - 1) z r)
            ∙ lowered_bit (borrowed_of regions r) (same_name z r) (borrows of r e) (borrows_by_name r)
            (λ h. subst (λ p. 0 < borrowed_of regions p) (same_name_is z r h) borrowed_some);
        owned = λ r b. flag_borrowed regions z r (borrowed_of regions z - 1) ∙ sym (ap (λ x. cond x false (owned_of regions r)) (owns_none r));
      })

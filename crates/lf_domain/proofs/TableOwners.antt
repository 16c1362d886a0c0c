-- A table of regions that counts one edge more or one less from a row of a region or from a content.
use Rattle.std.proofs.Common.{Bool, List, None, Option, Some, ap, cond, false, refl, subst, sym, true, ◌&&◌, ◌+◌, ◌||◌, ◌∙◌, ◌∷◌, ◌≡◌}
use Rattle.lf_base.specs.declared.ids.ObjId.{ObjId}
use Rattle.lf_base.specs.declared.values.Owner.{Owner}
use Rattle.lf_base.specs.declared.values.Owner.TheVariants.{In}
use Rattle.lf_base.specs.EdgeLists.{SameEdges}
use Rattle.lf_base.specs.Edges.{Content, Edge, Field, Slot, Source}
use Rattle.lf_base.specs.Names.{same_name}
use Rattle.lf_base.specs.Owners.{is_bridge, is_in, is_local_at, owner_in}
use Rattle.lf_base.specs.Ownership.{is_in_other, is_owning}
use Rattle.lf_base.specs.PlainState.{Row}
use Rattle.lf_base.specs.WalkCounts.{borrows, is_borrower}
use Rattle.lf_base.proofs.NameLemmas.SameNames.{same_name_is}
use Rattle.lf_regions.specs.declared.region.Region.{Region}
use Rattle.lf_regions.specs.RegionChanges.{with_owned}
use Rattle.lf_regions.specs.Regions.{borrowed_of, has_region, owned_of}
use Rattle.lf_regions.specs.TableCounts.{IsTableOf, owns_region}
use Rattle.lf_domain.specs.OneEdge.{HasOneOwner, LiesIn, is_other_region, other_owned}
use Rattle.lf_domain.proofs.EdgeTests.{zero_bit}
use Rattle.lf_domain.proofs.TableEdges.{flag_owned, has_owned, number_owned, table_less, table_more}

lies_borrows_nothing : (of : List Row) (f : Source) (home : Option ObjId) → LiesIn of f home → is_borrower of f ≡ false
lies_borrows_nothing of Slot home l = absurd l
lies_borrows_nothing of (Field p) None l = absurd l
lies_borrows_nothing of (Field p) (Some home) l = ap is_local_at l
lies_borrows_nothing of (Content c) home l = refl

lies_owns_others : (of : List Row) (f : Source) (home : Option ObjId) → LiesIn of f home → (r : ObjId) → is_owning of f r ≡ is_other_region home r
lies_owns_others of Slot home l r = absurd l
lies_owns_others of (Field p) None l r = absurd l
lies_owns_others of (Field p) (Some home) l r = ap (is_in_other r) l
lies_owns_others of (Content c) None l r = refl
lies_owns_others of (Content c) (Some home) l r = absurd l

and_false : (b : Bool) → (b && false) ≡ false
and_false true = refl
and_false false = refl

raised_flag : (c x y : Bool) → c ≡ y → cond c true x ≡ (y || x)
raised_flag true x y e = ap (λ b. b || x) e
raised_flag false x y e = ap (λ b. b || x) e

module _ (regions : List Region) (of : List Row) (es : List Edge) (t : IsTableOf regions of es) (e : Edge) (home : Option ObjId) (lies : LiesIn of e.from home) where
  borrows_none : (r : ObjId) → borrows of r e ≡ false
  borrows_none r = ap (λ b. b && is_in r (owner_in of e.to)) (lies_borrows_nothing of e.from home lies)

  owns_by_home : (r : ObjId) → owns_region of r e ≡ (is_other_region home r && same_name e.to r)
  owns_by_home r = ap (λ b. b && same_name e.to r) (lies_owns_others of e.from home lies r)

  -- an edge to no other region
  module _ (w : Option Owner) (k : owner_in of e.to ≡ w) (within : (r : ObjId) → is_in r w ≡ true → is_other_region home r ≡ false) where
    owns_none : (r : ObjId) → is_bridge of r ≡ true → owns_region of r e ≡ false
    owns_none r b =
        owns_by_home r ∙ (elim (same_name e.to r) as (λ x. same_name e.to r ≡ x → (is_other_region home r && x) ≡ false) [
          | true ↦ λ h. ap (λ y. y && true) (within r (sym (ap (is_in r) (ap (owner_in of) (sym (same_name_is e.to r h)) ∙ k)) ∙ b))
          | false ↦ λ h. and_false (is_other_region home r)
        ] refl)

    pub owner_with_outside : IsTableOf regions of (e ∷ es)
    owner_with_outside = table_more regions of es t e regions (record {
      there = λ r. refl;
      borrowed = λ r b. sym (zero_bit (borrowed_of regions r) (borrows of r e) (borrows_none r));
      owned = λ r b. sym (ap (λ x. x || owned_of regions r) (owns_none r b));
    })

    pub owner_without_outside : (fs : List Edge) → SameEdges es (e ∷ fs) → HasOneOwner of es → IsTableOf regions of fs
    owner_without_outside fs same one = table_less regions of es t e fs same (λ r b h. one r b) regions (record {
      there = λ r. refl;
      borrowed = λ r b. zero_bit (borrowed_of regions r) (borrows of r e) (borrows_none r);
      owned = λ r b. sym (ap (λ x. cond x false (owned_of regions r)) (owns_none r b));
    })

  -- an edge into region z
  module _ (z : ObjId) (k : owner_in of e.to ≡ Some (In z)) (there : has_region regions z ≡ true) (leads : is_other_region home z ≡ true → z ≡ e.to) where
    at_home : is_other_region home z ≡ false → (r : ObjId) → is_in r (Some (In z)) ≡ true → is_other_region home r ≡ false
    at_home n r h = ap (is_other_region home) (same_name_is r z h) ∙ n

    owns_by_name : is_other_region home z ≡ true → (r : ObjId) → same_name z r ≡ owns_region of r e
    owns_by_name other r =
        (elim (same_name z r) as (λ x. same_name z r ≡ x → x ≡ (is_other_region home r && x)) [
          | true ↦ λ h. sym (ap (λ y. y && true) (ap (is_other_region home) (sym (same_name_is z r h)) ∙ other))
          | false ↦ λ h. sym (and_false (is_other_region home r))
        ] refl)
        ∙ ap (λ o. is_other_region home r && same_name o r) (leads other)
        ∙ sym (owns_by_home r)

    pub owner_with_inside : (after : List Region) → after ≡ other_owned regions z home true → IsTableOf after of (e ∷ es)
    owner_with_inside after is = elim (is_other_region home z) as (λ x. is_other_region home z ≡ x → after ≡ cond x (with_owned regions z true) regions → IsTableOf after of (e ∷ es)) [
      | true ↦ λ other l. subst (λ a. IsTableOf a of (e ∷ es)) (sym l) (table_more regions of es t e (with_owned regions z true) (record {
        there = λ r. has_owned regions z r true;
        borrowed = λ r b. number_owned regions z r true ∙ sym (zero_bit (borrowed_of regions r) (borrows of r e) (borrows_none r));
        owned = λ r b. flag_owned regions z r true there ∙ raised_flag (same_name z r) (owned_of regions r) (owns_region of r e) (owns_by_name other r);
      }))
      | false ↦ λ n l. subst (λ a. IsTableOf a of (e ∷ es)) (sym l) (owner_with_outside (Some (In z)) k (at_home n))
    ] refl is

    pub owner_without_inside : (fs : List Edge) → SameEdges es (e ∷ fs) → HasOneOwner of es → (after : List Region) → after ≡ other_owned regions z home false → IsTableOf after of fs
    owner_without_inside fs same one after is = elim (is_other_region home z) as (λ x. is_other_region home z ≡ x → after ≡ cond x (with_owned regions z false) regions → IsTableOf after of fs) [
      | true ↦ λ other l. subst (λ a. IsTableOf a of fs) (sym l) (table_less regions of es t e fs same (λ r b h. one r b) (with_owned regions z false) (record {
        there = λ r. has_owned regions z r false;
        borrowed = λ r b. ap (λ n. cond (borrows of r e) 1 0 + n) (number_owned regions z r false) ∙ zero_bit (borrowed_of regions r) (borrows of r e) (borrows_none r);
        owned = λ r b. flag_owned regions z r false there ∙ ap (λ x. cond x false (owned_of regions r)) (owns_by_name other r);
      }))
      | false ↦ λ n l. subst (λ a. IsTableOf a of fs) (sym l) (owner_without_outside (Some (In z)) k (at_home n) fs same one)
    ] refl is

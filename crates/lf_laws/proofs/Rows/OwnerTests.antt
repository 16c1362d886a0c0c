-- What tests of an owner say of it.
use Rattle.std.proofs.Common.{None, Option, Some, ap, false, refl, sym, true, ◌≡◌, Bool}
use Rattle.lf_base.specs.declared.ids.ObjId.{ObjId}
use Rattle.lf_base.specs.declared.values.Owner.{Owner}
use Rattle.lf_base.specs.declared.values.Owner.TheVariants.{Frozen, In, Local}
use Rattle.lf_base.specs.Names.{same_name, is_local}
use Rattle.lf_base.specs.Owners.{is_in, or_frozen, is_local_at}
use Rattle.lf_base.proofs.NameLemmas.SameNames.{same_name_is}
use Rattle.std.proofs.lemmas.Bool.{not-true}
use Rattle.lf_base.proofs.ListLemmas.Tests.{some_is}
use Rattle.lf_base.specs.WellFormed.{from_row, from_frozen, from_near}
use Rattle.lf_base.specs.Ownership.{is_in_other}
use Rattle.lf_laws.proofs.Rows.RowEdges.{to_local}

pub in_region : (r : ObjId) (w : Option Owner) → is_in r w ≡ true → w ≡ Some (In r)
in_region r None e = cc
in_region r (Some Local) e = cc
in_region r (Some Frozen) e = cc
in_region r (Some (In q)) e = ap (λ n. Some (In n)) (sym (same_name_is r q e))

pub in_is : (r q : ObjId) → In r ≡ In q → r ≡ q
in_is r q e = cc

pub local_is : (w : Owner) → is_local w ≡ true → w ≡ Local
local_is Local e = refl
local_is (In r) e = cc
local_is Frozen e = cc

pub local_at_is : (w : Option Owner) → is_local_at w ≡ true → w ≡ Some Local
local_at_is None e = cc
local_at_is (Some Local) e = refl
local_at_is (Some (In r)) e = cc
local_at_is (Some Frozen) e = cc

pub record Other (r : ObjId) (w : Option Owner) : Type 0 where
  pub region : ObjId
  pub is : w ≡ Some (In region)
  pub other : same_name region r ≡ false

pub other_is : (r : ObjId) (w : Option Owner) → is_in_other r w ≡ true → Other r w
other_is r None e = cc
other_is r (Some Local) e = cc
other_is r (Some (In q)) e = record { region = q; is = refl; other = not-true (same_name q r) e }
other_is r (Some Frozen) e = cc

pub lead_near : (a : Option Owner) (t : ObjId) (b : Option Owner) → from_row a t b ≡ true → from_near b ≡ true
lead_near a t (Some w) e = refl
lead_near None t None e = e
lead_near (Some Local) t None e = e
lead_near (Some (In r)) t None e = e
lead_near (Some Frozen) t None e = e

pub lead_local : (a : Option Owner) (t : ObjId) → from_row a t (Some Local) ≡ true → a ≡ Some Local
lead_local None t e = cc
lead_local (Some w) t e = ap Some (to_local w t e)

pub frozen_target : (u : Option Owner) → from_frozen u ≡ true → u ≡ Some Frozen
frozen_target None e = cc
frozen_target (Some Local) e = cc
frozen_target (Some (In q)) e = cc
frozen_target (Some Frozen) e = refl

pub is_or_frozen : (b : Bool) (w : Option Owner) (v : Owner) → (v ≡ Frozen → ⊥) → or_frozen b w ≡ Some v → w ≡ Some v
is_or_frozen b (Some u) v n e = e
is_or_frozen true None v n e = absurd (n (some_is v Frozen (sym e)))
is_or_frozen false None v n e = cc

pub local_not_frozen : Local ≡ Frozen → ⊥
local_not_frozen e = cc

pub in_not_frozen : (q : ObjId) → In q ≡ Frozen → ⊥
in_not_frozen q e = cc

pub in_not_local : (q : ObjId) → Some (In q) ≡ Some Local → ⊥
in_not_local q e = cc

-- what an edge begins at is in the domain
pub source_near : (a : Option Owner) (t : ObjId) (b : Option Owner) → from_row a t b ≡ true → from_near a ≡ true
source_near (Some w) t b e = refl
source_near None t b e = e

pub frozen_there : (b : Bool) → from_near (or_frozen b None) ≡ true → b ≡ true
frozen_there true e = refl
frozen_there false e = cc

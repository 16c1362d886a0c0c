-- What is found of each name after a name was entered in the order, or taken out of it, and that the map by name leads to the same.
use Rattle.std.proofs.Common.{◌≡◌, ◌∙◌, ℕ, List, [], ◌∷◌, Option, Some, None, ap, Bool, cond, false, filter, is_some, not, refl, sym, true}
use Rattle.std.specs.HashMap.{HashMap}
use Rattle.std.specs.Map.{keys_of, lookup, remove_entry}
use Rattle.std.specs.BTreeMap.{insert_entry}
use Rattle.std.specs.declared.cmp.Ordering.{Ordering}
use Rattle.std.specs.declared.cmp.Ordering.TheVariants.{Less, Equal, Greater}
use Rattle.std.specs.Ordering.{is_eq, match_ordering}
use Rattle.slab.specs.Slab.{Slab}
use Rattle.lf_base.specs.declared.ids.ObjId.{ObjId}
use Rattle.lf_base.specs.Names.{name_below, same_name}
use Rattle.lf_base.specs.Sets.{InOrder}
use Rattle.lf_base.proofs.NameLemmas.SameNames.{other_way, same_name_is}
use Rattle.lf_regions.specs.declared.region.Region.{Region}
use Rattle.lf_regions.specs.KeptRegions.{Entry, KeepsPlaces, KeepsRegions, slab_place_of}
use Rattle.lf_regions.proofs.KeptRegions.{is_name, is_other, key_in, removed}
use Rattle.lf_regions.proofs.NameCompare.{name_cmp, same_cmp}

-- ---- two tests, one in the other
turns : {X : Type 0} (a b : Bool) (x y z : X) → (a ≡ true → b ≡ false) → cond a x (cond b y z) ≡ cond b y (cond a x z)
turns true true x y z h = let e : true ≡ false = h refl in cc
turns true false x y z h = refl
turns false b x y z h = refl

absorbs : {X : Type 0} (b : Bool) (x y z : X) → cond b x z ≡ cond b x (cond b y z)
absorbs true x y z = refl
absorbs false x y z = refl

-- a name that an entry has is no other name
no_other : (n r q : ObjId) → same_name n r ≡ false → is_name q n ≡ true → same_name r q ≡ false
no_other n r q differ same = other_way q r (ap (λ x. same_name x r) (sym (same_name_is n q (sym (same_cmp q n) ∙ same))) ∙ differ)

-- ---- the order
key_entered_by : (r q : ObjId) (k : ℕ) (f : Entry) (fs : List Entry) (o : Ordering) → is_eq o ≡ same_name f.0 r
    → key_in (insert_entry name_cmp fs r k) q ≡ cond (same_name r q) (Some k) (key_in fs q)
    → key_in (match_ordering o ((r, k) ∷ f ∷ fs) ((f.0, k) ∷ fs) (f ∷ insert_entry name_cmp fs r k)) q ≡ cond (same_name r q) (Some k) (key_in (f ∷ fs) q)
key_entered_by r q k f fs Less eq later = ap (λ b. cond b (Some k) (key_in (f ∷ fs) q)) (same_cmp q r)
key_entered_by r q k f fs Equal eq later =
    let e : is_name q f.0 ≡ same_name r q = same_cmp q f.0 ∙ ap (λ n. same_name n q) (same_name_is f.0 r (sym eq)) in
    ap (λ b. cond b (Some k) (key_in fs q)) e ∙ absorbs (same_name r q) (Some k) (Some f.1) (key_in fs q)
    ∙ ap (λ b. cond (same_name r q) (Some k) (cond b (Some f.1) (key_in fs q))) (sym e)
key_entered_by r q k f fs Greater eq later =
    ap (λ t. cond (is_name q f.0) (Some f.1) t) later
    ∙ turns (is_name q f.0) (same_name r q) (Some f.1) (Some k) (key_in fs q) (no_other f.0 r q (sym eq))

pub key_entered : (entries : List Entry) (r : ObjId) (k : ℕ) (q : ObjId) → key_in (insert_entry name_cmp entries r k) q ≡ cond (same_name r q) (Some k) (key_in entries q)
key_entered [] r k q = ap (λ b. cond b (Some k) None) (same_cmp q r)
key_entered (f ∷ fs) r k q = key_entered_by r q k f fs (name_cmp r f.0) (same_cmp r f.0) (key_entered fs r k q)

key_filtered : (es : List Entry) (r q : ObjId) → key_in (filter (is_other r) es) q ≡ cond (same_name r q) None (key_in es q)
key_filtered [] r q = elim (same_name r q) as (λ b. ◌≡◌ {A = Option ℕ} None (cond b None None)) [ true ↦ refl | false ↦ refl ]
key_filtered (e ∷ es) r q = elim (same_name e.0 r) as (λ b. same_name e.0 r ≡ b → key_in (cond (not b) (e ∷ filter (is_other r) es) (filter (is_other r) es)) q ≡ cond (same_name r q) None (key_in (e ∷ es) q)) [
  | true ↦ λ t.
      let same : is_name q e.0 ≡ same_name r q = same_cmp q e.0 ∙ ap (λ n. same_name n q) (same_name_is e.0 r t) in
      key_filtered es r q ∙ absorbs (same_name r q) None (Some e.1) (key_in es q)
      ∙ ap (λ b. cond (same_name r q) None (cond b (Some e.1) (key_in es q))) (sym same)
  | false ↦ λ n.
      ap (λ t. cond (is_name q e.0) (Some e.1) t) (key_filtered es r q)
      ∙ turns (is_name q e.0) (same_name r q) (Some e.1) None (key_in es q) (no_other e.0 r q n)
] refl

pub key_left : (entries : List Entry) (r : ObjId) → InOrder name_below (keys_of entries) → (q : ObjId) → key_in (remove_entry (is_name r) entries) q ≡ cond (same_name r q) None (key_in entries q)
key_left entries r rise q = ap (λ es. key_in es q) (removed entries r rise) ∙ key_filtered entries r q

-- ---- the map by name
-- one test of names is as good as the other
among : (entries : List Entry) (r : ObjId) → lookup (λ name. same_name name r) entries ≡ key_in entries r
among entries r = sym (λ i. lookup (λ name. same_cmp r name i) entries)

module _ {S : Type 0} (slab : Slab Region) (places : HashMap ObjId ℕ S) (entries : List Entry) (keeps : KeepsPlaces slab places entries) where
  pub leads_to : (r : ObjId) → slab_place_of places r ≡ key_in entries r
  leads_to r = keeps.leads r ∙ among entries r

  -- the place that is found is the one in the order
  pub place_is_key : (r : ObjId) (k : ℕ) → slab_place_of places r ≡ Some k → key_in entries r ≡ Some k
  place_is_key r k e = sym (leads_to r) ∙ e

  pub has_place : (r : ObjId) → is_some (key_in entries r) ≡ true → is_some (slab_place_of places r) ≡ true
  has_place r h = ap is_some (leads_to r) ∙ h

  module _ {T : Type 0} (new : Slab Region) (after : HashMap ObjId ℕ T) where
    -- no name comes or goes
    pub same_places : KeepsRegions new entries → ((q : ObjId) → slab_place_of after q ≡ slab_place_of places q) → KeepsPlaces new after entries
    same_places kept same = record { kept = kept; leads = λ q. same q ∙ keeps.leads q }

    pub place_entered : (r : ObjId) (k : ℕ) (now : List Entry) → now ≡ insert_entry name_cmp entries r k → KeepsRegions new now
        → ((q : ObjId) → slab_place_of after q ≡ cond (same_name r q) (Some k) (slab_place_of places q)) → KeepsPlaces new after now
    place_entered r k now is kept entered = record {
      kept = kept;
      leads = λ q. entered q ∙ ap (cond (same_name r q) (Some k)) (leads_to q) ∙ sym (key_entered entries r k q) ∙ ap (λ es. key_in es q) (sym is) ∙ sym (among now q);
    }

    pub place_left : (r : ObjId) (now : List Entry) → now ≡ remove_entry (is_name r) entries → KeepsRegions new now
        → ((q : ObjId) → slab_place_of after q ≡ cond (same_name r q) None (slab_place_of places q)) → KeepsPlaces new after now
    place_left r now is kept left = record {
      kept = kept;
      leads = λ q. left q ∙ ap (cond (same_name r q) None) (leads_to q) ∙ sym (key_left entries r keeps.kept.rise q) ∙ ap (λ es. key_in es q) (sym is) ∙ sym (among now q);
    }

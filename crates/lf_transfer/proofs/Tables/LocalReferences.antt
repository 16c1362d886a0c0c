-- References that turn local, one after the other.
use Rattle.std.proofs.Common.{Bool, List, Some, [], ap, arith, cond, count_by, false, length, not, refl, sym, true, ℕ, ◌&&◌, ◌+◌, ◌++◌, ◌||◌, ◌∙◌, ◌∷◌, ◌≡◌, ◌≤◌}
use Rattle.std.proofs.lemmas.List.Sums.{count_by-le-length, sum_by-cons}
use Rattle.std.specs.List.{list_any}
use Rattle.lf_base.specs.declared.ids.ObjId.{ObjId}
use Rattle.lf_base.specs.declared.values.Owner.TheVariants.{In}
use Rattle.lf_base.specs.Names.{same_name}
use Rattle.lf_base.proofs.NameLemmas.SameNames.{same_name_flips, same_name_is}
use Rattle.lf_domain.proofs.TableEdges.{flag_borrowed, flag_owned, has_borrowed, has_owned, number_borrowed, number_owned}
use Rattle.lf_graph.specs.StoredRows.{CountedRow, owner_at}
use Rattle.lf_laws.proofs.Edges.EdgeParts.{count_app}
use Rattle.lf_regions.specs.declared.region.Region.{Region}
use Rattle.lf_regions.specs.RegionChanges.{with_borrowed, with_owned}
use Rattle.lf_regions.specs.Regions.{borrowed_of, has_region, owned_of}
use Rattle.lf_transfer.specs.RegionRows.{HasBorrowRoom, RegionsThere, TurnsLocal, lies_outside}

any_app : {X : Type 0} (p : X → Bool) (xs ys : List X) → list_any p (xs ++ ys) ≡ (list_any p xs || list_any p ys)
any_app p [] ys = refl
any_app p (x ∷ xs) ys = elim (p x) as (λ b. (b || list_any p (xs ++ ys)) ≡ ((b || list_any p xs) || list_any p ys)) [ true ↦ refl | false ↦ any_app p xs ys ]

neither_then : (x a b : Bool) → ((x && not a) && not b) ≡ (x && not (a || b))
neither_then false a b = refl
neither_then true true b = refl
neither_then true false b = refl

stays : (x : Bool) → (x && true) ≡ x
stays true = refl
stays false = refl

gone : (x : Bool) → (x && false) ≡ false
gone true = refl
gone false = refl

-- a region that nothing owns any more
pub released_there_of : (table : List Region) (z : ObjId) → has_region table z ≡ true → has_region (with_owned table z false) z ≡ true
released_there_of table z there = has_owned table z z false ∙ there

pub released_number_of : (table : List Region) (z : ObjId) → borrowed_of (with_owned table z false) z ≡ borrowed_of table z
released_number_of table z = number_owned table z z false

module _ (rows : List CountedRow) (r : ObjId) where
  abbrev out : ObjId → ObjId → Bool
  out q o = lies_outside r q (owner_at rows o)

  pub turns_none : (before : List Region) → TurnsLocal rows r [] before before
  turns_none before = record { names = λ q. refl; borrowed = λ q h. omega arith; owned = λ q h. sym (stays (owned_of before q)) }

  pub turns_on : (os ps : List ObjId) (a b c : List Region) → TurnsLocal rows r os a b → TurnsLocal rows r ps b c → TurnsLocal rows r (os ++ ps) a c
  turns_on os ps a b c e f = record {
    names = λ q. f.names q ∙ e.names q;
    borrowed = λ q h. omega (arith, f.borrowed q (e.names q ∙ h), e.borrowed q h, count_app (out q) os ps);
    owned = λ q h. f.owned q (e.names q ∙ h) ∙ ap (λ x. x && not (list_any (out q) ps)) (e.owned q h)
        ∙ neither_then (owned_of a q) (list_any (out q) os) (list_any (out q) ps)
        ∙ ap (λ x. owned_of a q && not x) (sym (any_app (out q) os ps));
  }

  -- what is left of the room for more
  pub room_left : (os : List ObjId) (n all : ℕ) (a b : List Region) → TurnsLocal rows r os a b → length os + n ≤ all → HasBorrowRoom a all → HasBorrowRoom b n
  room_left os n all a b e fits room q h = omega (arith, fits, e.borrowed q (sym (e.names q) ∙ h), room q (sym (e.names q) ∙ h), count_by-le-length (out q) os)

  pub regions_stay : (os : List ObjId) (a b : List Region) → TurnsLocal rows r os a b → RegionsThere rows a → RegionsThere rows b
  regions_stay os a b e there o q k = e.names q ∙ there o q k

  -- ---- one object
  -- it lies in no other region
  pub turns_nowhere : (o : ObjId) (before : List Region) → ((q : ObjId) → out q o ≡ false) → TurnsLocal rows r (o ∷ []) before before
  turns_nowhere o before none = record {
    names = λ q. refl;
    borrowed = λ q h. omega (arith, sum_by-cons (λ p. cond (out q p) 1 0) o [], ap {B = ℕ} (λ b. cond b 1 0) (none q));
    owned = λ q h. sym (ap (λ b. owned_of before q && not (b || false)) (none q) ∙ stays (owned_of before q));
  }

  -- it lies in region z
  module _ (o z : ObjId) (k : owner_at rows o ≡ Some (In z)) (table : List Region) where
    out_here : (q : ObjId) → out q o ≡ (same_name z q && not (same_name r q))
    out_here q = ap (lies_outside r q) k ∙ ap (λ b. b && not (same_name r q)) (same_name_flips q z)

    pub turns_at_home : same_name r z ≡ true → TurnsLocal rows r (o ∷ []) table table
    turns_at_home e = turns_nowhere o table (λ q.
        out_here q ∙ ap (λ n. same_name n q && not (same_name r q)) (sym (same_name_is r z e))
        ∙ (elim (same_name r q) as (λ b. (b && not b) ≡ false) [ true ↦ refl | false ↦ refl ]))

    module _ (other : same_name r z ≡ false) (there : has_region table z ≡ true) where
      abbrev released : List Region
      released = with_owned table z false

      abbrev after : List Region
      after = with_borrowed released z (borrowed_of released z + 1)

      out_is : (q : ObjId) → out q o ≡ same_name z q
      out_is q = out_here q ∙ (elim (same_name z q) as (λ b. same_name z q ≡ b → (b && not (same_name r q)) ≡ b) [
        | true ↦ λ e. ap (λ n. not (same_name r n)) (sym (same_name_is z q e)) ∙ ap not other
        | false ↦ λ e. refl
      ] refl)

      pub turns_elsewhere : TurnsLocal rows r (o ∷ []) table after
      turns_elsewhere = record {
        names = λ q. has_borrowed released z q (borrowed_of released z + 1) ∙ has_owned table z q false;
        borrowed = λ q h.
            number_borrowed released z q (borrowed_of released z + 1) (released_there_of table z there)
            ∙ (elim (same_name z q) as (λ b. same_name z q ≡ b → cond b (borrowed_of released z + 1) (borrowed_of released q) ≡ borrowed_of table q + count_by (out q) (o ∷ [])) [
              | true ↦ λ e. omega (
                arith,
                released_number_of table z,
                ap (borrowed_of table) (same_name_is z q e),
                sum_by-cons (λ p. cond (out q p) 1 0) o [],
                ap {B = ℕ} (λ b. cond b 1 0) (out_is q ∙ e),
              )
              | false ↦ λ e. omega (
                arith,
                number_owned table z q false,
                sum_by-cons (λ p. cond (out q p) 1 0) o [],
                ap {B = ℕ} (λ b. cond b 1 0) (out_is q ∙ e),
              )
            ] refl);
        owned = λ q h.
            flag_borrowed released z q (borrowed_of released z + 1) ∙ flag_owned table z q false there
            ∙ (elim (same_name z q) as (λ b. cond b false (owned_of table q) ≡ (owned_of table q && not (b || false))) [ true ↦ sym (gone (owned_of table q)) | false ↦ sym (stays (owned_of table q)) ])
            ∙ ap (λ b. owned_of table q && not (b || false)) (sym (out_is q));
      }

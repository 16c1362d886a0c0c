-- A region that takes the borrows of another one, which ends.
use Rattle.std.proofs.Common.{Bool, List, ap, arith, cond, false, not, true, ℕ, ◌&&◌, ◌+◌, ◌-◌, ◌<◌, ◌^◌, ◌∙◌, ◌≡◌}
use Rattle.lf_base.specs.declared.ids.ObjId.{ObjId}
use Rattle.lf_base.specs.Names.{same_name}
use Rattle.lf_base.proofs.NameLemmas.SameNames.{other_way, same_name_itself}
use Rattle.lf_domain.proofs.TableEdges.{flag_borrowed, flag_owned, has_borrowed, has_owned, number_borrowed, number_owned}
use Rattle.lf_regions.specs.declared.region.Region.{Region}
use Rattle.lf_regions.specs.RegionChanges.{with_borrowed, with_owned, without_region}
use Rattle.lf_regions.specs.Regions.{borrowed_of, has_region, owned_of}
use Rattle.lf_regions.proofs.ChangeLaws.{ended_has}
use Rattle.lf_regions.proofs.RegionNumbers.{read_ended}
use Rattle.lf_transfer.specs.Merging.{Joins}

module _ (table : List Region) (a b : ObjId) (a_there : has_region table a ≡ true) (b_there : has_region table b ≡ true) (other : same_name b a ≡ false) where
  abbrev borrows : ℕ
  borrows = borrowed_of table b

  abbrev pub unborrowed : List Region
  unborrowed = with_borrowed table b (borrows - borrows)

  abbrev pub unowned : List Region
  unowned = with_owned unborrowed b false

  abbrev pub taken : List Region
  taken = with_borrowed unowned a (borrowed_of unowned a + borrows)

  pub has_unborrowed : (q : ObjId) → has_region unborrowed q ≡ has_region table q
  has_unborrowed q = has_borrowed table b q (borrows - borrows)

  pub has_unowned : (q : ObjId) → has_region unowned q ≡ has_region table q
  has_unowned q = has_owned unborrowed b q false ∙ has_unborrowed q

  number_unowned : (q : ObjId) → borrowed_of unowned q ≡ cond (same_name b q) (borrows - borrows) (borrowed_of table q)
  number_unowned q = number_owned unborrowed b q false ∙ number_borrowed table b q (borrows - borrows) b_there

  flag_unowned : (q : ObjId) → owned_of unowned q ≡ cond (same_name b q) false (owned_of table q)
  flag_unowned q = flag_owned unborrowed b q false (has_unborrowed b ∙ b_there) ∙ ap (cond (same_name b q) false) (flag_borrowed table b q (borrows - borrows))

  pub number_of_other : borrowed_of unowned a ≡ borrowed_of table a
  number_of_other = number_unowned a ∙ ap (λ c. cond c (borrows - borrows) (borrowed_of table a)) other

  pub may_take : borrowed_of table a + borrows < 2 ^ 64 → borrowed_of unowned a + borrows < 2 ^ 64
  may_take fits = omega (arith, fits, number_of_other)

  pub has_taken : (q : ObjId) → has_region taken q ≡ has_region table q
  has_taken q = has_borrowed unowned a q (borrowed_of unowned a + borrows) ∙ has_unowned q

  module _ (flag : Bool) where
    abbrev pub flagged : List Region
    flagged = with_owned taken a flag

    pub has_flagged : (q : ObjId) → has_region flagged q ≡ has_region table q
    has_flagged q = has_owned taken a q flag ∙ has_taken q

    number_flagged : (q : ObjId) → borrowed_of flagged q ≡ cond (same_name a q) (borrowed_of table a + borrows) (cond (same_name b q) (borrows - borrows) (borrowed_of table q))
    number_flagged q =
        number_owned taken a q flag ∙ number_borrowed unowned a q (borrowed_of unowned a + borrows) (has_unowned a ∙ a_there)
        ∙ (λ i. cond (same_name a q) (number_of_other i + borrows) (number_unowned q i))

    flag_flagged : (q : ObjId) → owned_of flagged q ≡ cond (same_name a q) flag (cond (same_name b q) false (owned_of table q))
    flag_flagged q =
        flag_owned taken a q flag (has_taken a ∙ a_there) ∙ ap (cond (same_name a q) flag) (flag_borrowed unowned a q (borrowed_of unowned a + borrows) ∙ flag_unowned q)

    pub none_borrow : borrowed_of flagged b ≡ 0
    none_borrow =
        number_flagged b ∙ ap (λ c. cond c (borrowed_of table a + borrows) (cond (same_name b b) (borrows - borrows) (borrowed_of table b))) (other_way b a other)
        ∙ ap (λ c. cond c (borrows - borrows) (borrowed_of table b)) (same_name_itself b) ∙ nothing borrows
      where
        nothing : (n : ℕ) → n - n ≡ 0
        nothing n = omega arith

    pub none_owns : owned_of flagged b ≡ false
    none_owns =
        flag_flagged b ∙ ap (λ c. cond c flag (cond (same_name b b) false (owned_of table b))) (other_way b a other)
        ∙ ap (λ c. cond c false (owned_of table b)) (same_name_itself b)

    abbrev ended : List Region
    ended = without_region flagged b

    number_ended : (q : ObjId) → same_name b q ≡ false → borrowed_of ended q ≡ borrowed_of flagged q
    number_ended q n = read_ended (λ (x : Region). x.borrowed) 0 flagged b q ∙ ap (λ c. cond c 0 (borrowed_of flagged q)) n

    flag_ended : (q : ObjId) → same_name b q ≡ false → owned_of ended q ≡ owned_of flagged q
    flag_ended q n = read_ended (λ (x : Region). x.owned) false flagged b q ∙ ap (λ c. cond c false (owned_of flagged q)) n

  pub region_joined : (is_child : Bool) → Joins table (ended (not is_child && owned_of table a)) a b is_child
  region_joined is_child =
      let flag : Bool = not is_child && owned_of table a in
      record {
        names = λ q. ended_has (flagged flag) b q ∙ ap (λ h. not (same_name b q) && h) (has_flagged flag q);
        borrowed_there = number_ended flag a other ∙ number_flagged flag a ∙ ap (λ c. cond c (borrowed_of table a + borrows) (cond (same_name b a) (borrows - borrows) (borrowed_of table a))) (same_name_itself a);
        owned_there = flag_ended flag a other ∙ flag_flagged flag a ∙ ap (λ c. cond c flag (cond (same_name b a) false (owned_of table a))) (same_name_itself a);
        borrowed = λ q n m. number_ended flag q m ∙ number_flagged flag q ∙ ap (λ c. cond c (borrowed_of table a + borrows) (cond (same_name b q) (borrows - borrows) (borrowed_of table q))) n
            ∙ ap (λ c. cond c (borrows - borrows) (borrowed_of table q)) m;
        owned = λ q n m. flag_ended flag q m ∙ flag_flagged flag q ∙ ap (λ c. cond c flag (cond (same_name b q) false (owned_of table q))) n ∙ ap (λ c. cond c false (owned_of table q)) m;
      }

  -- ---- the calls, one after the other, with the number that was read
  module _ (n : ℕ) (n_is : n ≡ borrows) where
    pub is_unborrowed : (one : List Region) → one ≡ with_borrowed table b (borrows - n) → one ≡ unborrowed
    is_unborrowed one e = e ∙ ap (λ m. with_borrowed table b (borrows - m)) n_is

    pub is_unowned : (one two : List Region) → one ≡ with_borrowed table b (borrows - n) → two ≡ with_owned one b false → two ≡ unowned
    is_unowned one two e f = f ∙ ap (λ l. with_owned l b false) (is_unborrowed one e)

    pub is_taken : (one two three : List Region) → one ≡ with_borrowed table b (borrows - n) → two ≡ with_owned one b false → three ≡ with_borrowed two a (borrowed_of two a + n) → three ≡ taken
    is_taken one two three e f g = g ∙ (λ i. with_borrowed (is_unowned one two e f i) a (borrowed_of (is_unowned one two e f i) a + n_is i))

    pub is_flagged : (flag : Bool) (one two three four : List Region) → one ≡ with_borrowed table b (borrows - n) → two ≡ with_owned one b false → three ≡ with_borrowed two a (borrowed_of two a + n) → four ≡ with_owned three a flag
        → four ≡ flagged flag
    is_flagged flag one two three four e f g h = h ∙ ap (λ l. with_owned l a flag) (is_taken one two three e f g)

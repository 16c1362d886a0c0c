-- The names of a table are the bridges of its state, in their order.
use Rattle.std.proofs.Common.{Bool, List, [], ap, false, inl, inr, refl, subst, sym, true, ◌∙◌, ◌∷◌, ◌≡◌}
use Rattle.std.proofs.lemmas.Bool.{both_ways}
use Rattle.lf_base.specs.declared.ids.ObjId.{ObjId}
use Rattle.lf_base.specs.declared.values.Owner.TheVariants.{In}
use Rattle.lf_base.specs.Edges.{Edge}
use Rattle.lf_base.specs.Names.{name_below}
use Rattle.lf_base.specs.Owners.{bridges, is_bridge, names, owner_in}
use Rattle.lf_base.specs.PlainState.{Row, State}
use Rattle.lf_base.specs.Sets.{InOrder, Member}
use Rattle.lf_base.proofs.ListLemmas.Filters.{Member_filter, Member_of_filter}
use Rattle.lf_base.proofs.ListLemmas.Members.{Member_map, Within}
use Rattle.lf_base.proofs.ListLemmas.Sublists.{order_all, order_sub, order_tail, sub_filter}
use Rattle.lf_base.proofs.NameLemmas.NameOrder.{below_asym, name_below_trans, not_below_itself}
use Rattle.lf_laws.proofs.Rows.OwnerTests.{in_region}
use Rattle.lf_laws.proofs.Rows.RowsByName.{row_of}
use Rattle.lf_regions.specs.declared.region.Region.{Region}
use Rattle.lf_regions.specs.Regions.{InNameOrder, has_region, region_names}
use Rattle.lf_regions.specs.TableCounts.{IsTableOf}
use Rattle.lf_regions.proofs.ChangeLaws.{name_there}

-- two rising lists with the same names are one
first_same : (x y : ObjId) (xs ys : List ObjId) → InOrder name_below (x ∷ xs) → InOrder name_below (y ∷ ys) → Member x (y ∷ ys) → Member y (x ∷ xs) → x ≡ y
first_same x y xs ys a b (inl e) n = sym e
first_same x y xs ys a b (inr m) (inl e) = e
first_same x y xs ys a b (inr m) (inr n) =
    absurd (both_ways (name_below y x) (below_asym x y (order_all name_below name_below_trans x xs a y n)) (order_all name_below name_below_trans y ys b x m))

rest_within : (x : ObjId) (xs ys : List ObjId) → InOrder name_below (x ∷ xs) → Within (x ∷ xs) (x ∷ ys) → Within xs ys
rest_within x xs ys a w z m = elim (w z (inr m)) [
  | inl e ↦ absurd (both_ways (name_below x x) (not_below_itself x) (order_all name_below name_below_trans x xs a x (subst (λ o. Member o xs) (sym e) m)))
  | inr n ↦ n
]

rising_same : (xs ys : List ObjId) → InOrder name_below xs → InOrder name_below ys → Within xs ys → Within ys xs → xs ≡ ys
rising_same [] [] a b v w = refl
rising_same [] (y ∷ ys) a b v w = absurd (w y (inl refl))
rising_same (x ∷ xs) [] a b v w = absurd (v x (inl refl))
rising_same (x ∷ xs) (y ∷ ys) a b v w =
    let same = first_same x y xs ys a b (v x (inl refl)) (w y (inl refl)) in
    let b2 : InOrder name_below (x ∷ ys) = subst (λ o. InOrder name_below (o ∷ ys)) (sym same) b in
    let v2 : Within (x ∷ xs) (x ∷ ys) = subst (λ o. Within (x ∷ xs) (o ∷ ys)) (sym same) v in
    let w2 : Within (x ∷ ys) (x ∷ xs) = subst (λ o. Within (o ∷ ys) (x ∷ xs)) (sym same) w in
    ap (λ l. x ∷ l) (rising_same xs ys (order_tail name_below name_below_trans x xs a) (order_tail name_below name_below_trans x ys b2) (rest_within x xs ys a v2) (rest_within x ys xs b2 w2))
    ∙ ap (λ o. o ∷ ys) same

-- a bridge is among the names of the rows
pub bridge_name_listed : (rows : List Row) (r : ObjId) → is_bridge rows r ≡ true → Member r (names rows)
bridge_name_listed rows r b =
    let x = row_of rows r (In r) (in_region r (owner_in rows r) b) in
    subst (λ n. Member n (names rows)) x.name (Member_map (λ (y : Row). y.name) x.row rows x.mem)

pub names_are_bridges : (s : State) (regions : List Region) (es : List Edge) → InOrder name_below (names s.rows) → InNameOrder regions → IsTableOf regions s.rows es → region_names regions ≡ bridges s
names_are_bridges s regions es rise order t =
    rising_same (region_names regions) (bridges s) order
    (order_sub name_below name_below_trans (sub_filter (is_bridge s.rows) (names s.rows)) rise)
    (λ r m. let b = sym (t.regions r) ∙ (name_there regions r).1 m in Member_filter (is_bridge s.rows) r (names s.rows) (bridge_name_listed s.rows r b) b)
    (λ r m. (name_there regions r).0 (t.regions r ∙ (Member_of_filter (is_bridge s.rows) r (names s.rows) m).1))

-- and where the names are the bridges, there is a region for each
pub bridges_have_regions : (s : State) (regions : List Region) → region_names regions ≡ bridges s → (r : ObjId) → has_region regions r ≡ is_bridge s.rows r
bridges_have_regions s regions e r = same_test (has_region regions r) (is_bridge s.rows r)
    (λ h. (Member_of_filter (is_bridge s.rows) r (names s.rows) (subst (Member r) e ((name_there regions r).0 h))).1)
    (λ b. (name_there regions r).1 (subst (Member r) (sym e) (Member_filter (is_bridge s.rows) r (names s.rows) (bridge_name_listed s.rows r b) b)))
  where
    same_test : (a b : Bool) → (a ≡ true → b ≡ true) → (b ≡ true → a ≡ true) → a ≡ b
    same_test true b f g = sym (f refl)
    same_test a true f g = g refl
    same_test false false f g = refl

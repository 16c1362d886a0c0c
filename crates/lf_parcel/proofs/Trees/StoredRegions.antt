-- The stored rows of a list of regions: where each comes from, and that they have each name once.
use Rattle.std.proofs.Common.{List, Some, [], ap, cond, false, inl, inr, is_some, refl, subst, sym, true, ◌++◌, ◌∙◌, ◌∷◌, ◌≡◌}
use Rattle.std.proofs.lemmas.Bool.{both_ways, false_from_ne_true}
use Rattle.lf_base.specs.declared.ids.ObjId.{ObjId}
use Rattle.lf_base.specs.declared.values.Owner.TheVariants.{In}
use Rattle.lf_base.specs.Names.{same_name, same_owner}
use Rattle.lf_base.specs.Owners.{names}
use Rattle.lf_base.specs.PlainState.{Row}
use Rattle.lf_base.specs.Sets.{Differ, Member}
use Rattle.lf_base.proofs.ListLemmas.Filters.{Member_filter, Member_of_filter}
use Rattle.lf_base.proofs.ListLemmas.Members.{Member_any, Member_flat_map, Member_map, Member_of_append, Member_of_flat_map, Member_of_map}
use Rattle.lf_base.proofs.ListLemmas.Tests.{any_none}
use Rattle.lf_base.proofs.NameLemmas.SameNames.{same_name_is, same_name_itself}
use Rattle.lf_graph.specs.StoredRows.{CountedRow, HasRow, NamesDiffer, is_under, plain, row_named, rows_of}
use Rattle.lf_graph.proofs.Stores.Reordered.{same_owner_is, same_owner_itself}
use Rattle.lf_graph.proofs.Stores.Walks.{differ_filter}
use Rattle.lf_parcel.specs.TreeRows.{rows_in_regions}

-- ---- stored rows found
pub named_member : (rows : List CountedRow) → NamesDiffer rows → (c : CountedRow) → Member c rows → row_named rows (c.row).name ≡ Some c
named_member [] d c m = absurd m
named_member (x ∷ xs) d c (inl e) = ap (λ b. cond b (Some x) (row_named xs (c.row).name)) (ap (λ (z : CountedRow). same_name (x.row).name (z.row).name) (sym e) ∙ same_name_itself (x.row).name) ∙ ap Some e
named_member (x ∷ xs) d c (inr m) = elim (same_name (x.row).name (c.row).name) as (λ b. same_name (x.row).name (c.row).name ≡ b → cond b (Some x) (row_named xs (c.row).name) ≡ Some c) [
  | true ↦ λ e. absurd (both_ways _ d.0 (Member_any (λ n. same_name n (x.row).name) (c.row).name (names (plain xs)) (Member_map (λ (r : Row). r.name) c.row (plain xs) (Member_map (λ (z : CountedRow). z.row) c xs m)) (ap (same_name (c.row).name) (same_name_is (x.row).name (c.row).name e) ∙ same_name_itself (c.row).name)))
  | false ↦ λ e. named_member xs d.1 c m
] refl

pub found_member : (rows : List CountedRow) (o : ObjId) → HasRow rows o → (c : CountedRow) × (Member c rows × (((c.row).name ≡ o) × (row_named rows o ≡ Some c)))
found_member [] o h = absurd (both_ways _ refl h)
found_member (x ∷ xs) o h = elim (same_name (x.row).name o) as (λ b. same_name (x.row).name o ≡ b → is_some (cond b (Some x) (row_named xs o)) ≡ true → (c : CountedRow) × (Member c (x ∷ xs) × (((c.row).name ≡ o) × (cond b (Some x) (row_named xs o) ≡ Some c)))) [
  | true ↦ λ e k. (x, (inl refl, (same_name_is (x.row).name o e, refl)))
  | false ↦ λ e k. let r = found_member xs o k in (r.0, (inr r.1.0, r.1.1))
] refl h

-- ---- the rows of regions
pub in_region_rows : (qs : List ObjId) (stored : List CountedRow) (c : CountedRow) → Member c (rows_in_regions qs stored) → (q : ObjId) × (Member q qs × (Member c stored × ((c.row).owner ≡ In q)))
in_region_rows qs stored c m =
    let q = Member_of_flat_map (λ q. rows_of (In q) stored) c qs m in
    let k = Member_of_filter (is_under (In q.0)) c stored q.1.1 in
    (q.0, (q.1.0, (k.0, same_owner_is (c.row).owner (In q.0) k.1)))

pub region_rows_there : (qs : List ObjId) (stored : List CountedRow) (c : CountedRow) (q : ObjId) → Member q qs → Member c stored → (c.row).owner ≡ In q → Member c (rows_in_regions qs stored)
region_rows_there qs stored c q m n e = Member_flat_map (λ q. rows_of (In q) stored) q c qs m (Member_filter (is_under (In q)) c stored n (ap (λ w. same_owner w (In q)) e ∙ same_owner_itself (In q)))

one_region : (r q : ObjId) → In r ≡ In q → r ≡ q
one_region r q e = cc

pub plain_names : (xs ys : List CountedRow) → names (plain (xs ++ ys)) ≡ names (plain xs) ++ names (plain ys)
plain_names [] ys = refl
plain_names (x ∷ xs) ys = ap (λ l. (x.row).name ∷ l) (plain_names xs ys)

name_of : (xs : List CountedRow) (o : ObjId) → Member o (names (plain xs)) → (c : CountedRow) × (Member c xs × ((c.row).name ≡ o))
name_of xs o m =
    let r = Member_of_map (λ (r : Row). r.name) o (plain xs) m in
    let c = Member_of_map (λ (z : CountedRow). z.row) r.0 xs r.1.0 in
    (c.0, (c.1.0, ap (λ (r : Row). r.name) c.1.1 ∙ r.1.1))

pub names_join : (xs ys : List ObjId) → Differ same_name xs → Differ same_name ys → ((o : ObjId) → Member o xs → Member o ys → ⊥) → Differ same_name (xs ++ ys)
names_join [] ys d k h = k
names_join (x ∷ xs) ys d k h = (
  any_none (λ y. same_name y x) (xs ++ ys) (λ y m. elim (Member_of_append y xs ys m) [
    | inl n ↦ false_from_ne_true _ (λ q. both_ways _ d.0 (Member_any (λ z. same_name z x) y xs n q))
    | inr n ↦ false_from_ne_true _ (λ q. h x (inl refl) (subst (λ z. Member z ys) (same_name_is y x q) n))
  ]),
  names_join xs ys d.1 k (λ o m n. h o (inr m) n),
)

pub regions_differ : (qs : List ObjId) (stored : List CountedRow) → NamesDiffer stored → Differ same_name qs → NamesDiffer (rows_in_regions qs stored)
regions_differ [] stored d f = tt
regions_differ (q ∷ qs) stored d f =
    subst (Differ same_name) (sym (plain_names (rows_of (In q) stored) (rows_in_regions qs stored)))
    (names_join (names (plain (rows_of (In q) stored))) (names (plain (rows_in_regions qs stored))) (differ_filter (is_under (In q)) stored d) (regions_differ qs stored d f.1)
    (λ o m n.
    let x = name_of (rows_of (In q) stored) o m in
    let y = name_of (rows_in_regions qs stored) o n in
    let k = Member_of_filter (is_under (In q)) x.0 stored x.1.0 in
    let z = in_region_rows qs stored y.0 y.1.0 in
    let same : x.0 ≡ y.0 = some_same x.0 y.0 (sym (named_member stored d x.0 k.0) ∙ ap (row_named stored) (x.1.1 ∙ sym y.1.1) ∙ named_member stored d y.0 z.1.1.0) in
    let one : q ≡ z.0 = one_region q z.0 (sym (same_owner_is ((x.0).row).owner (In q) k.1) ∙ ap (λ (c : CountedRow). (c.row).owner) same ∙ z.1.1.1) in
    both_ways _ f.0 (Member_any (λ p. same_name p q) z.0 qs z.1.0 (ap (λ p. same_name p q) (sym one) ∙ same_name_itself q))))
  where
    some_same : (v w : CountedRow) → Some v ≡ Some w → v ≡ w
    some_same v w e = cc

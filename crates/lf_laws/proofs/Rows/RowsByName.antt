-- Rows found by name: one row for each name, its owner, and the names that differ.
use Rattle.std.proofs.Common.{List, None, [], ap, cond, false, inl, inr, refl, subst, sym, true, ◌||◌, ◌∙◌, ◌∷◌, ◌≡◌, Some, ◌++◌}
use Rattle.lf_base.specs.Names.{same_name}
use Rattle.lf_base.specs.Owners.{has_row, row_at, owner_in, row_owner, has_name, names}
use Rattle.lf_base.specs.PlainState.{Row}
use Rattle.lf_base.specs.Sets.{Member, Differ}
use Rattle.std.proofs.Math.Bool.{or-true, or_assoc}
use Rattle.lf_base.proofs.NameLemmas.SameNames.{same_name_itself, same_name_is}
use Rattle.lf_base.proofs.ListLemmas.Members.{Within, Member_any, Member_map, any_Member, Member_left, Member_right, any_more}
use Rattle.lf_base.proofs.ListLemmas.Sublists.{Sub, empty_sub, none, pass, sub_within, take}
use Rattle.lf_base.specs.declared.ids.ObjId.{ObjId}
use Rattle.lf_base.specs.declared.values.Owner.{Owner}
use Rattle.std.proofs.lemmas.Bool.{both_ways, false_from_ne_true, or_cases}
use Rattle.lf_base.proofs.ListLemmas.Tests.{some_is}

pub mem_has : (r : Row) (rows : List Row) → Member r rows → has_row rows r.name ≡ true
mem_has r [] m = absurd m
mem_has r (q ∷ rows) (inl e) = ap (λ b. b || has_row rows r.name) (ap (λ (z : Row). same_name z.name r.name) e ∙ same_name_itself r.name)
mem_has r (q ∷ rows) (inr m) = ap (λ b. same_name q.name r.name || b) (mem_has r rows m) ∙ or-true (same_name q.name r.name)

pub not_mem : (r : Row) (rows : List Row) → has_row rows r.name ≡ false → Member r rows → ⊥
not_mem r rows h m = let k = mem_has r rows m in cc

-- the front row of the whole is in both parts or in none
tail_within : (y : Row) (us vs ys : List Row) → has_row ys y.name ≡ false → Sub us ys → Within (y ∷ us) (y ∷ vs) → Within us vs
tail_within y us vs ys h p w x m =
    elim (w x (inr m)) [
      | inl e ↦ absurd (not_mem y ys h (sub_within p y (subst (λ z. Member z us) (sym e) m)))
      | inr n ↦ n
    ]

-- no two rows of one name
abbrev pub Distinct : List Row → Type 0
Distinct [] = Unit {0}
Distinct (r ∷ rs) = (has_row rs r.name ≡ false) × Distinct rs

-- two parts with the same rows are one list
pub sub_same : (us vs ys : List Row) → Distinct ys → Sub us ys → Sub vs ys → Within us vs → Within vs us → us ≡ vs
sub_same us vs [] d p q w v = empty_sub us p ∙ sym (empty_sub vs q)
sub_same us vs (y ∷ ys) d (take {xs = us'} p) (take {xs = vs'} q) w v = ap (λ l. y ∷ l) (sub_same us' vs' ys d.1 p q (tail_within y us' vs' ys d.0 p w) (tail_within y vs' us' ys d.0 q v))
sub_same us vs (y ∷ ys) d (take p) (pass q) w v = absurd (not_mem y ys d.0 (sub_within q y (w y (inl refl))))
sub_same us vs (y ∷ ys) d (pass p) (take q) w v = absurd (not_mem y ys d.0 (sub_within p y (v y (inl refl))))
sub_same us vs (y ∷ ys) d (pass p) (pass q) w v = sub_same us vs ys d.1 p q w v

pub record RowAt (rows : List Row) (o : ObjId) (w : Owner) : Type 0 where
  pub row : Row
  pub mem : Member row rows
  pub name : row.name ≡ o
  pub owner : row.owner ≡ w

-- the row found is the row there
pub owner_mem : (rows : List Row) → Distinct rows → (x : Row) → Member x rows → owner_in rows x.name ≡ Some (x.owner)
owner_mem [] d x m = absurd m
owner_mem (r ∷ rs) d x (inl e) = subst (λ (y : Row). owner_in (r ∷ rs) y.name ≡ Some (y.owner)) e (ap (λ c. row_owner (cond c (Some r) (row_at rs r.name))) (same_name_itself r.name))
owner_mem (r ∷ rs) d x (inr m) =
    elim (same_name r.name x.name) as (λ b. same_name r.name x.name ≡ b → row_owner (cond b (Some r) (row_at rs x.name)) ≡ Some (x.owner)) [
      | true ↦ λ e. let h : has_row rs r.name ≡ true = ap (has_row rs) (same_name_is r.name x.name e) ∙ mem_has x rs m in absurd (both_ways _ d.0 h)
      | false ↦ λ e. owner_mem rs d.1 x m
    ] refl

-- a name that has a row has an owner
pub record HasOwner (rows : List Row) (o : ObjId) : Type 0 where
  pub owner : Owner
  pub is : owner_in rows o ≡ Some owner

pub owner_there : (rows : List Row) → Distinct rows → (o : ObjId) → has_row rows o ≡ true → HasOwner rows o
owner_there rows d o h = let r = any_Member (λ (x : Row). same_name x.name o) rows h in
    record { owner = (r.0).owner; is = subst (λ n. owner_in rows n ≡ Some ((r.0).owner)) (same_name_is (r.0).name o r.1.1) (owner_mem rows d r.0 r.1.0) }

pub row_of : (rows : List Row) (o : ObjId) (w : Owner) → owner_in rows o ≡ Some w → RowAt rows o w
row_of [] o w e = cc
row_of (r ∷ rs) o w e =
    elim (same_name r.name o) as (λ b. same_name r.name o ≡ b → row_owner (cond b (Some r) (row_at rs o)) ≡ Some w → RowAt (r ∷ rs) o w) [
      | true ↦ λ h k. record { row = r; mem = inl refl; name = same_name_is r.name o h; owner = some_is r.owner w k }
      | false ↦ λ h k. let t = row_of rs o w k in record { row = t.row; mem = inr t.mem; name = t.name; owner = t.owner }
    ] refl e

pub owner_is : (rows : List Row) (o : ObjId) (v w : Owner) → owner_in rows o ≡ Some v → owner_in rows o ≡ Some w → v ≡ w
owner_is rows o v w e h = some_is v w (sym e ∙ h)

pub owner_has : (rows : List Row) (o : ObjId) (w : Owner) → owner_in rows o ≡ Some w → has_row rows o ≡ true
owner_has rows o w e = let t = row_of rows o w e in subst (λ n. has_row rows n ≡ true) t.name (mem_has t.row rows t.mem)

pub no_owner : (rows : List Row) (o : ObjId) → has_row rows o ≡ false → owner_in rows o ≡ None
no_owner rows o h = elim (owner_in rows o) as (λ u. owner_in rows o ≡ u → u ≡ None) [ None ↦ λ e. refl | Some w ↦ λ e. absurd (both_ways _ h (owner_has rows o w e)) ] refl

pub row_there : (rows : List Row) (o : ObjId) → has_row rows o ≡ true → (x : Row) × (Member x rows × (x.name ≡ o))
row_there rows o h = let r = any_Member (λ (x : Row). same_name x.name o) rows h in (r.0, (r.1.0, same_name_is (r.0).name o r.1.1))

pub at_mem : (rows : List Row) → Distinct rows → (x : Row) → Member x rows → row_at rows x.name ≡ Some x
at_mem [] d x m = absurd m
at_mem (r ∷ rs) d x (inl e) = subst (λ (y : Row). row_at (r ∷ rs) y.name ≡ Some y) e (ap (λ c. cond c (Some r) (row_at rs r.name)) (same_name_itself r.name))
at_mem (r ∷ rs) d x (inr m) =
    elim (same_name r.name x.name) as (λ b. same_name r.name x.name ≡ b → cond b (Some r) (row_at rs x.name) ≡ Some x) [
      | true ↦ λ e. let h : has_row rs r.name ≡ true = ap (has_row rs) (same_name_is r.name x.name e) ∙ mem_has x rs m in absurd (both_ways _ d.0 h)
      | false ↦ λ e. at_mem rs d.1 x m
    ] refl

pub same_row : (rows : List Row) → Distinct rows → (x y : Row) → Member x rows → Member y rows → x.name ≡ y.name → x ≡ y
same_row rows d x y m n e = some_is x y (sym (at_mem rows d x m) ∙ ap (row_at rows) e ∙ at_mem rows d y n)

pub differ_rows : (rows : List Row) (os : List ObjId) → Differ same_name (names rows ++ os) → Distinct rows
differ_rows [] os d = tt
differ_rows (r ∷ rs) os d = (
  false_from_ne_true _ (λ h. both_ways _ d.0 (let t = any_Member (λ (q : Row). same_name q.name r.name) rs h in
      Member_any (λ p. same_name p r.name) (t.0).name (names rs ++ os) (Member_left (t.0).name (names rs) os (Member_map (λ (q : Row). q.name) t.0 rs t.1.0)) t.1.1)),
  differ_rows rs os d.1,
)

pub differ_apart : (xs ys : List ObjId) → Differ same_name (xs ++ ys) → (o : ObjId) → has_name xs o ≡ true → has_name ys o ≡ true → ⊥
differ_apart [] ys d o h k = cc
differ_apart (x ∷ xs) ys d o h k =
    elim (or_cases (same_name x o) (has_name xs o) h) [
      | inl e ↦
          let t = any_Member (λ p. same_name p o) ys k in
          both_ways _ d.0 (Member_any (λ p. same_name p x) t.0 (xs ++ ys) (Member_right t.0 xs ys t.1.0) (ap (same_name t.0) (same_name_is x o e) ∙ t.1.1))
      | inr e ↦ differ_apart xs ys d.1 o e k
    ]

pub has_append : (os ps : List ObjId) (o : ObjId) → has_name (os ++ ps) o ≡ (has_name os o || has_name ps o)
has_append [] ps o = refl
has_append (p ∷ os) ps o = ap (λ b. same_name p o || b) (has_append os ps o) ∙ sym (or_assoc (same_name p o) (has_name os o) (has_name ps o))

pub distinct_sub : {xs ys : List Row} → Sub xs ys → Distinct ys → Distinct xs
distinct_sub none d = d
distinct_sub (take {x} {xs = us} {ys = vs} p) d = (false_from_ne_true _ (λ e. both_ways _ d.0 (any_more (λ (r : Row). same_name r.name x.name) us vs (sub_within p) e)), distinct_sub p d.1)
distinct_sub (pass p) d = distinct_sub p d.1

pub has_name_Member : (o : ObjId) (os : List ObjId) → has_name os o ≡ true → Member o os
has_name_Member o os e = let t = any_Member (λ p. same_name p o) os e in subst (λ p. Member p os) (same_name_is t.0 o t.1.1) t.1.0

pub Member_has_name : (o : ObjId) (os : List ObjId) → Member o os → has_name os o ≡ true
Member_has_name o os m = Member_any (λ p. same_name p o) o os m (same_name_itself o)

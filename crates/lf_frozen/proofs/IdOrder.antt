-- What `cmp` answers at two names, by the test of their order.
use Rattle.std.proofs.Common.{Bool, cond, eqb, false, ltb, refl, true, ◌&&◌, ◌||◌, ◌≡◌}
use Rattle.std.specs.Ordering.{is_lt, ordering_then}
use Rattle.std.specs.declared.cmp.Ordering.TheVariants.{Equal, Greater, Less}
use Rattle.std.specs.declared.cmp.Ordering.{Ordering}
use Rattle.lf_base.specs.Names.{name_below}
use Rattle.lf_base.specs.contracts.ids.ObjIdOrd.TheImpl as order
use Rattle.lf_base.specs.declared.ids.ObjId.{ObjId}

-- what `cmp` answers at two names
abbrev pub id_cmp : ObjId → ObjId → Ordering
id_cmp = (order.cmp-value).it

-- `cmp` by the tests of two numbers each: below, equal
abbrev by_tests : Bool → Bool → Bool → Bool → Ordering
by_tests below same below' same' = ordering_then (cond below Less (cond same Equal Greater)) (cond below' Less (cond same' Equal Greater))

lt_by_tests : (l e m f : Bool) → is_lt (by_tests l e m f) ≡ (l || (e && m))
lt_by_tests true e m f = refl
lt_by_tests false false m f = refl
lt_by_tests false true true f = refl
lt_by_tests false true false true = refl
lt_by_tests false true false false = refl

pub id_cmp_below : (a b : ObjId) → is_lt (id_cmp a b) ≡ name_below a b
id_cmp_below a b = lt_by_tests (ltb a.birth b.birth) (eqb a.birth b.birth) (ltb a.seq b.seq) (eqb a.seq b.seq)

-- What operators make of values.
use Rattle.std.specs.Prelude.{Bool, None, Option, Some, cond, int_div, int_le, int_lt, int_rem, nat_lt, neg_ℤ, negsuc, not, pos, ℤ, ◌*ℤ◌}
use Rattle.std.specs.Prelude.{◌+ℤ◌, ◌-ℤ◌, ◌^◌}
use Rattle.std.specs.Ordering.{int_eq}
use Rattle.lf_base.specs.declared.faults.Fault.{Fault}
use Rattle.lf_base.specs.declared.faults.Fault.TheVariants.{Kind, Overflow, ZeroDivisor}
use Rattle.lf_base.specs.declared.values.Op.{Op}
use Rattle.lf_base.specs.declared.values.Op.TheVariants.{Add, Div, Eq, Ge, Gt, Le, Lt, Mul, Ne, Rem, Sub}
use Rattle.lf_base.specs.declared.values.Value.{Value}
use Rattle.lf_base.specs.declared.values.Value.TheVariants as value
use Rattle.lf_base.specs.Names.{same_value}
use Rattle.lf_code.specs.declared.instr.Prefix.{Prefix}
use Rattle.lf_code.specs.declared.instr.Prefix.TheVariants.{Neg, Not}

-- a value, or a fault
pub data Computed : Type 0 where
  Yields : Value → Computed
  Faults : Fault → Computed

-- the truth value that a value is
abbrev pub truth_of : Value → Option Bool
truth_of (value.Bool b) = Some b
truth_of _ = None

-- a number lies within 64 signed bits
abbrev pub fits_word : ℤ → Bool
fits_word (pos n) = nat_lt n (2 ^ 63)
fits_word (negsuc n) = nat_lt n (2 ^ 63)

abbrev pub if_it_fits : ℤ → Computed
if_it_fits z = cond (fits_word z) (Yields (value.Int z)) (Faults Overflow)

abbrev pub unless_zero : ℤ → Computed → Computed
unless_zero z a = cond (int_eq z (pos 0)) (Faults ZeroDivisor) a

-- an operator between two integers; a quotient is rounded toward zero, and a remainder has the sign of the left one
abbrev pub between : Op → ℤ → ℤ → Computed
between Add x y = if_it_fits (x +ℤ y)
between Sub x y = if_it_fits (x -ℤ y)
between Mul x y = if_it_fits (x *ℤ y)
between Div x y = unless_zero y (if_it_fits (int_div x y))
between Rem x y = unless_zero y (if_it_fits (int_rem x y))
between Lt x y = Yields (value.Bool (int_lt x y))
between Le x y = Yields (value.Bool (int_le x y))
between Gt x y = Yields (value.Bool (int_lt y x))
between Ge x y = Yields (value.Bool (int_le y x))
between Eq x y = Yields (value.Bool (int_eq x y))
between Ne x y = Yields (value.Bool (not (int_eq x y)))

abbrev pub of_integers : Op → Value → Value → Computed
of_integers op (value.Int x) (value.Int y) = between op x y
of_integers op _ _ = Faults Kind

-- an operator between two values; any two are equal or not
abbrev pub binary : Op → Value → Value → Computed
binary Eq v w = Yields (value.Bool (same_value v w))
binary Ne v w = Yields (value.Bool (not (same_value v w)))
binary op v w = of_integers op v w

-- an operator before a value
abbrev pub unary : Prefix → Value → Computed
unary Neg (value.Int x) = if_it_fits (neg_ℤ x)
unary Not (value.Bool b) = Yields (value.Bool (not b))
unary _ _ = Faults Kind

-- Operators yield plain values.
use Rattle.std.proofs.Common.{Bool, cond, false, refl, true, ℤ}
use Rattle.std.specs.Prelude.{int_div, int_rem, neg_ℤ, ◌*ℤ◌, ◌+ℤ◌, ◌-ℤ◌}
use Rattle.lf_base.specs.declared.faults.Fault.TheVariants.{Overflow, ZeroDivisor}
use Rattle.lf_base.specs.declared.values.Op.{Op}
use Rattle.lf_base.specs.declared.values.Op.TheVariants.{Add, Div, Eq, Ge, Gt, Le, Lt, Mul, Ne, Rem, Sub}
use Rattle.lf_base.specs.declared.values.Value.{Value}
use Rattle.lf_base.specs.declared.values.Value.TheVariants as value
use Rattle.lf_code.specs.declared.instr.Prefix.{Prefix}
use Rattle.lf_code.specs.declared.instr.Prefix.TheVariants.{Neg, Not}
use Rattle.lf_code.specs.DroppingOnce.{YieldsPlain}
use Rattle.lf_code.specs.Operators.{Computed, Faults, Yields, between, binary, fits_word, if_it_fits, of_integers, unary, unless_zero}

chosen : (b : Bool) (x y : Computed) → YieldsPlain x → YieldsPlain y → YieldsPlain (cond b x y)
chosen true x y h k = h
chosen false x y h k = k

fitted : (z : ℤ) → YieldsPlain (if_it_fits z)
fitted z = chosen (fits_word z) (Yields (value.Int z)) (Faults Overflow) (refl, refl) tt

divided : (y : ℤ) (x : Computed) → YieldsPlain x → YieldsPlain (unless_zero y x)
divided y x h = chosen _ (Faults ZeroDivisor) x tt h

between_plain : (op : Op) (x y : ℤ) → YieldsPlain (between op x y)
between_plain Add x y = fitted (x +ℤ y)
between_plain Sub x y = fitted (x -ℤ y)
between_plain Mul x y = fitted (x *ℤ y)
between_plain Div x y = divided y (if_it_fits (int_div x y)) (fitted (int_div x y))
between_plain Rem x y = divided y (if_it_fits (int_rem x y)) (fitted (int_rem x y))
between_plain Lt x y = (refl, refl)
between_plain Le x y = (refl, refl)
between_plain Gt x y = (refl, refl)
between_plain Ge x y = (refl, refl)
between_plain Eq x y = (refl, refl)
between_plain Ne x y = (refl, refl)

of_integers_plain : (op : Op) (v w : Value) → YieldsPlain (of_integers op v w)
of_integers_plain op value.None w = tt
of_integers_plain op (value.Bool b) w = tt
of_integers_plain op (value.Text t) w = tt
of_integers_plain op (value.Obj o) w = tt
of_integers_plain op (value.Cown c) w = tt
of_integers_plain op (value.Int x) value.None = tt
of_integers_plain op (value.Int x) (value.Bool b) = tt
of_integers_plain op (value.Int x) (value.Text t) = tt
of_integers_plain op (value.Int x) (value.Obj o) = tt
of_integers_plain op (value.Int x) (value.Cown c) = tt
of_integers_plain op (value.Int x) (value.Int y) = between_plain op x y

pub binary_plain : (op : Op) (v w : Value) → YieldsPlain (binary op v w)
binary_plain Eq v w = (refl, refl)
binary_plain Ne v w = (refl, refl)
binary_plain Add v w = of_integers_plain Add v w
binary_plain Sub v w = of_integers_plain Sub v w
binary_plain Mul v w = of_integers_plain Mul v w
binary_plain Div v w = of_integers_plain Div v w
binary_plain Rem v w = of_integers_plain Rem v w
binary_plain Lt v w = of_integers_plain Lt v w
binary_plain Le v w = of_integers_plain Le v w
binary_plain Gt v w = of_integers_plain Gt v w
binary_plain Ge v w = of_integers_plain Ge v w

pub unary_plain : (op : Prefix) (v : Value) → YieldsPlain (unary op v)
unary_plain Neg (value.Int x) = fitted (neg_ℤ x)
unary_plain Neg value.None = tt
unary_plain Neg (value.Bool b) = tt
unary_plain Neg (value.Text t) = tt
unary_plain Neg (value.Obj o) = tt
unary_plain Neg (value.Cown c) = tt
unary_plain Not (value.Bool b) = (refl, refl)
unary_plain Not value.None = tt
unary_plain Not (value.Int x) = tt
unary_plain Not (value.Text t) = tt
unary_plain Not (value.Obj o) = tt
unary_plain Not (value.Cown c) = tt

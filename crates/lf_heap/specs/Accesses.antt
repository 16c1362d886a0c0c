-- What a target and a key name: a field of an object, or the content of a cown.
use Rattle.lf_base.specs.declared.values.Value.{Value}
use Rattle.lf_base.specs.declared.values.Value.TheVariants as value
use Rattle.lf_heap.specs.declared.access.Target.{Target}
use Rattle.lf_heap.specs.declared.access.Target.TheVariants.{Cown, Object}

-- the value that a target was given as
abbrev pub target_value : Target → Value
target_value (Object o) = value.Obj o
target_value (Cown c) = value.Cown c

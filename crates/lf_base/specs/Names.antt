-- Names, keys and owners, compared; and what a value refers to.
use Rattle.std.specs.Prelude.{Bool, true, false, ◌&&◌, ◌||◌, eqb, ltb, List, [], ◌∷◌, Option, Some, None}
use Rattle.std.specs.Bool.{beq}
use Rattle.std.specs.Ordering.{int_eq}
use Rattle.lf_base.specs.declared.ids.ObjId.{ObjId}
use Rattle.lf_base.specs.declared.ids.CownId.{CownId}
use Rattle.lf_base.specs.declared.values.Value.{Value}
use Rattle.lf_base.specs.declared.values.Value.TheVariants.{Obj, Cown}
use Rattle.lf_base.specs.declared.values.Value.TheVariants as value
use Rattle.lf_base.specs.declared.values.Key.{Key}
use Rattle.lf_base.specs.declared.values.Key.TheVariants.{Text, Int}
use Rattle.lf_base.specs.declared.values.Owner.{Owner}
use Rattle.lf_base.specs.declared.values.Owner.TheVariants.{Local, In, Frozen}

-- two names of objects are one
abbrev pub same_name : ObjId → ObjId → Bool
same_name a b = eqb a.birth b.birth && eqb a.seq b.seq

-- the rising order of names: by birth, then by number
abbrev pub name_below : ObjId → ObjId → Bool
name_below a b = ltb a.birth b.birth || (eqb a.birth b.birth && ltb a.seq b.seq)

-- two names of cowns are one
abbrev pub same_cown : CownId → CownId → Bool
same_cown a b = eqb a.birth b.birth && eqb a.seq b.seq

-- two keys are one
abbrev pub same_key : Key → Key → Bool
same_key (Text a) (Text b) = eqb a.index b.index
same_key (Text a) (Int y) = false
same_key (Int x) (Text b) = false
same_key (Int x) (Int y) = int_eq x y

-- two values are one
abbrev pub same_value : Value → Value → Bool
same_value value.None value.None = true
same_value (value.Bool a) (value.Bool b) = beq a b
same_value (value.Int x) (value.Int y) = int_eq x y
same_value (value.Text a) (value.Text b) = eqb a.index b.index
same_value (Obj a) (Obj b) = same_name a b
same_value (Cown a) (Cown b) = same_cown a b
same_value _ _ = false

-- two owners are one
abbrev pub same_owner : Owner → Owner → Bool
same_owner Local Local = true
same_owner Frozen Frozen = true
same_owner (In r) (In q) = same_name r q
same_owner _ _ = false

-- the owner is Local
abbrev pub is_local : Owner → Bool
is_local Local = true
is_local _ = false

-- the objects that a value refers to: one or none
abbrev pub targets_of_value : Value → List ObjId
targets_of_value (Obj o) = o ∷ []
targets_of_value _ = []

-- the cowns that a value names: one or none
abbrev pub cowns_of_value : Value → List CownId
cowns_of_value (Cown c) = c ∷ []
cowns_of_value _ = []

-- the key that a value is: a text or an integer
abbrev pub key_of : Value → Option Key
key_of (value.Text t) = Some (Text t)
key_of (value.Int n) = Some (Int n)
key_of _ = None

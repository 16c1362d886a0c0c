-- The suspects that names are.
use Rattle.lf_base.specs.declared.ids.ObjId.{ObjId}
use Rattle.lf_base.specs.Suspects.{Object, Region, Suspect}
use Rattle.lf_heap.specs.declared.suspects.Kind.{Kind}
use Rattle.lf_heap.specs.declared.suspects.Kind.TheVariants.{Objects, Regions}

-- the object of the name, or its region
abbrev pub suspected : Kind → ObjId → Suspect
suspected Objects = Object
suspected Regions = Region

-- An index of names that is dense for the names of one behaviour.
use Rattle.std.specs.Prelude.{Bool, Option, Some, None, List, cond, eqb, leb, length, min, slice_get, vec_capacity, ℕ, ◌-◌, ◌&&◌}
use Rattle.std.specs.HashMap.{spare}
use Rattle.lf_base.specs.declared.ids.ObjId.{ObjId}
use Rattle.lf_poolstore.specs.declared.place.Place.{Place}
use Rattle.lf_poolstore.specs.declared.name_index.NameIndex.{NameIndex}
use Rattle.lf_poolstore.specs.Places.{other_at}

-- the first of two places that is there
abbrev pub or_else : Option Place → Option Place → Option Place
or_else None p = p
or_else (Some q) p = Some q

-- the name is of that behaviour, and its number is no less than the first
abbrev pub is_own : ℕ → ℕ → ObjId → Bool
is_own birth base o = eqb o.birth birth && leb base o.seq

-- the place of a name in the dense part
abbrev pub own_at : ℕ → ℕ → List Place → ObjId → Option Place
own_at birth base own o = cond (is_own birth base o) (slice_get own (o.seq - base)) None

-- the place of a name
abbrev pub place_at : NameIndex → ObjId → Option Place
place_at t o = or_else (own_at t.birth t.base t.own.items o) (other_at (t.others).places o)

-- so many more names have room
abbrev pub index_room : NameIndex → ℕ
index_room t = min (vec_capacity t.own - length t.own.items) (spare (t.others).places)

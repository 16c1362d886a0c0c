-- What the visited objects show of a write into a region: what moves, and which bridges are touched.
use Rattle.std.specs.Prelude.{Bool, List, None, Option, Some, [], cond, count_by, false, flat_map, not, true}
use Rattle.std.specs.Prelude.{ℕ, ◌&&◌, ◌++◌, ◌<◌, ◌||◌, ◌∷◌, ◌≡◌, ◌≤◌, ◌⊎◌}
use Rattle.std.specs.List.{list_any}
use Rattle.lf_base.specs.declared.ids.ObjId.{ObjId}
use Rattle.lf_base.specs.declared.values.Owner.{Owner}
use Rattle.lf_base.specs.declared.values.Owner.TheVariants.{In}
use Rattle.lf_base.specs.declared.values.Value.{Value}
use Rattle.lf_base.specs.Edges.{field_targets}
use Rattle.lf_base.specs.Names.{same_name, targets_of_value}
use Rattle.lf_base.specs.Owners.{has_name, is_local_at}
use Rattle.lf_base.specs.Sets.{Differ}
use Rattle.lf_base.specs.TouchedEdges.{is_inside_other}
use Rattle.lf_graph.specs.StoredRows.{CountedRow, fields_at, owner_at}
use Rattle.lf_regions.specs.declared.region.Region.{Region}
use Rattle.lf_regions.specs.Regions.{owned_of}
use Rattle.lf_barrier.specs.declared.survey.Survey.{Survey}

-- the names with one more, last, where it isn't there
abbrev pub names_with : List ObjId → ObjId → List ObjId
names_with os o = cond (has_name os o) os (os ++ o ∷ [])

-- object o of that owner is the bridge of a region other than home
abbrev pub is_other_bridge : ObjId → ObjId → Option Owner → Bool
is_other_bridge home o (Some (In q)) = not (same_name home q) && same_name q o
is_other_bridge home o _ = false

-- it is that object
abbrev pub is_that : Option ObjId → ObjId → Bool
is_that None o = false
is_that (Some p) o = same_name p o

-- bridge b has an owner other than the field that refers to `old`
abbrev pub is_owned_besides : List Region → Option ObjId → ObjId → Bool
is_owned_besides regions old b = owned_of regions b && not (is_that old b)

-- how often an object was visited
abbrev pub visits_of : List ObjId → ObjId → ℕ
visits_of seen b = count_by (λ p. same_name p b) seen

-- the survey of these visited objects, in a region's store and table
pub record IsSurvey (rows : List CountedRow) (regions : List Region) (home : ObjId) (old : Option ObjId) (seen : List ObjId)
    (survey : Survey) : Type 0 where
  pub moves : (o : ObjId) → has_name (survey.moved).keys o ≡ list_any (λ p. is_local_at (owner_at rows p) && same_name p o) seen
  pub differ : Differ same_name (survey.moved).keys
  pub touches : (b : ObjId) → has_name (survey.touched).keys b
      ≡ list_any (λ p. is_other_bridge home p (owner_at rows p) && same_name p b) seen
  pub is_inside : survey.inside ≡ list_any (λ p. is_inside_other home p (owner_at rows p)) seen
  pub once : survey.second ≡ false → (b : ObjId) → is_other_bridge home b (owner_at rows b) ≡ true
      → (visits_of seen b ≤ 1) × (0 < visits_of seen b → is_owned_besides regions old b ≡ false)
  pub twice : survey.second ≡ true → (b : ObjId) × ((is_other_bridge home b (owner_at rows b) ≡ true)
      × ((1 < visits_of seen b) ⊎ ((0 < visits_of seen b) × (is_owned_besides regions old b ≡ true))))

-- what a visit of one object makes of a survey
pub record Visits (rows : List CountedRow) (regions : List Region) (home : ObjId) (old : Option ObjId) (o : ObjId)
    (before after : Survey) : Type 0 where
  pub moved : (after.moved).keys ≡ cond (is_local_at (owner_at rows o)) (names_with (before.moved).keys o) (before.moved).keys
  pub touched : (after.touched).keys
      ≡ cond (is_other_bridge home o (owner_at rows o)) (names_with (before.touched).keys o) (before.touched).keys
  pub is_inside : after.inside ≡ (before.inside || is_inside_other home o (owner_at rows o))
  pub is_second : after.second ≡ (before.second || (is_other_bridge home o (owner_at rows o)
      && (has_name (before.touched).keys o || is_owned_besides regions old o)))

-- a survey of more objects: the names that move grow at their end
pub record Extends (rows : List CountedRow) (regions : List Region) (home : ObjId) (old : Option ObjId) (os : List ObjId)
    (before after : Survey) : Type 0 where
  pub survey : (seen : List ObjId) → IsSurvey rows regions home old seen before → IsSurvey rows regions home old (seen ++ os) after
  pub more : List ObjId
  pub grows : (after.moved).keys ≡ (before.moved).keys ++ more

-- the objects that the value refers to, and those to which the fields of the rows of these names refer
abbrev pub objects_touched : List CountedRow → Value → List ObjId → List ObjId
objects_touched rows v os = targets_of_value v ++ flat_map (λ o. field_targets (fields_at rows o)) os

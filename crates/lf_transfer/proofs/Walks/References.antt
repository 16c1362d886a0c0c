-- Whether one of the objects to which a row's fields, or a region's rows, refer is a given one.
use Rattle.std.proofs.Common.{List, None, Option, Some, [], ap, false, flat_map, length, refl, sym, true, ℕ, ◌+◌, ◌++◌, ◌||◌, ◌∙◌, ◌∷◌, ◌≡◌, ◌≤◌}
use Rattle.std.proofs.Math.Bool.{or-true}
use Rattle.std.proofs.lemmas.Grind.{flat_map-append}
use Rattle.std.proofs.lemmas.List.{append-nil}
use Rattle.lf_base.specs.declared.ids.ObjId.{ObjId}
use Rattle.lf_base.specs.declared.values.Key.{Key}
use Rattle.lf_base.specs.declared.values.Value.{Value}
use Rattle.lf_base.specs.Edges.{field_targets}
use Rattle.lf_base.specs.FieldOrder.{field_after}
use Rattle.lf_base.specs.Links.{head_or}
use Rattle.lf_base.specs.Names.{targets_of_value}
use Rattle.lf_base.specs.Owners.{has_name}
use Rattle.lf_barrier.specs.Descents.{region_targets}
use Rattle.lf_barrier.proofs.MovingEdges.FieldLoops.{FieldWalk, head_is, walk_begins, walk_goes_on, walk_over}
use Rattle.lf_barrier.proofs.Surveys.SurveySteps.{flat_more, targets_more}
use Rattle.lf_graph.specs.StoredRows.{CountedRow, NamesDiffer, fields_at, first_name, name_after, rows_beside, rows_of}
use Rattle.lf_graph.proofs.Stores.FieldWalks.{FieldKeysDiffer}
use Rattle.lf_laws.proofs.Rows.RowsByName.{has_append}
use Rattle.lf_base.specs.declared.values.Owner.TheVariants.{In}
use Rattle.lf_transfer.proofs.Walks.RegionWalk.{RegionWalk, fields_here, region_begins, region_goes_on, region_over, split_here, this_row}

-- ---- a field that was found, and the ones after it
module _ (all rest : List (Key × Value)) (last : Option Key) (turn : ℕ) (walk : FieldWalk all rest last turn) (k : Key) (v : Value) (found : Some (k, v) ≡ field_after all last) where
  pub this_field : (later : List (Key × Value)) × (rest ≡ (k, v) ∷ later)
  this_field = head_is rest (k, v) (found ∙ walk.next)

  abbrev pub field_walk_here : FieldWalk all ((k, v) ∷ (this_field).0) last turn
  field_walk_here = record {
    so_far = walk.so_far;
    split = walk.split ∙ ap (λ l. walk.so_far ++ l) (this_field).1;
    next = walk.next ∙ ap (λ l. head_or l None) (this_field).1;
    count = walk.count;
  }

  pub targets_split : field_targets all ≡ field_targets walk.so_far ++ (targets_of_value v ++ field_targets (this_field).0)
  targets_split = ap field_targets (walk.split ∙ ap (λ l. walk.so_far ++ l) (this_field).1) ∙ flat_map-append (λ (f : Key × Value). targets_of_value f.1) walk.so_far ((k, v) ∷ (this_field).0)

  abbrev pub field_walk_on : FieldKeysDiffer all → FieldWalk all (this_field).0 (Some k) (turn + 1)
  field_walk_on d = walk_goes_on all (this_field).0 (k, v) last turn d field_walk_here

in_middle : (xs ys zs : List ObjId) (o : ObjId) → has_name ys o ≡ true → has_name (xs ++ (ys ++ zs)) o ≡ true
in_middle xs ys zs o h = has_append xs (ys ++ zs) o ∙ ap (λ b. has_name xs o || b) (has_append ys zs o ∙ ap (λ b. b || has_name zs o) h) ∙ or-true (has_name xs o)

in_neither : (xs ys : List ObjId) (o : ObjId) → has_name xs o ≡ false → has_name ys o ≡ false → has_name (xs ++ ys) o ≡ false
in_neither xs ys o h k = has_append xs ys o ∙ ap (λ b. b || has_name ys o) h ∙ k

-- ---- the fields of a row
pub record RowSearched (all : List (Key × Value)) (last : Option Key) (turn : ℕ) (o : ObjId) : Type 0 where
  pub rest : List (Key × Value)
  pub walk : FieldWalk all rest last turn
  pub none : has_name (field_targets walk.so_far) o ≡ false

pub search_begins : (all : List (Key × Value)) (o : ObjId) → RowSearched all None 0 o
search_begins all o = record { rest = all; walk = walk_begins all; none = refl }

module _ (all : List (Key × Value)) (last : Option Key) (turn : ℕ) (o : ObjId) (g : RowSearched all last turn o) where
  module _ (k : Key) (v : Value) (found : Some (k, v) ≡ field_after all last) where
    pub search_on : FieldKeysDiffer all → has_name (targets_of_value v) o ≡ false → RowSearched all (Some k) (turn + 1) o
    search_on d none = record {
      rest = (this_field all g.rest last turn g.walk k v found).0;
      walk = field_walk_on all g.rest last turn g.walk k v found d;
      none = ap (λ l. has_name l o) (targets_more (g.walk).so_far (k, v)) ∙ in_neither (field_targets (g.walk).so_far) (targets_of_value v) o g.none none;
    }

    pub row_found : has_name (targets_of_value v) o ≡ true → true ≡ has_name (field_targets all) o
    row_found h =
        sym (ap (λ l. has_name l o) (targets_split all g.rest last turn g.walk k v found)
        ∙ in_middle (field_targets (g.walk).so_far) (targets_of_value v) (field_targets (this_field all g.rest last turn g.walk k v found).0) o h)

  pub row_lacks : length all ≤ turn → false ≡ has_name (field_targets all) o
  row_lacks most =
      let none : g.rest ≡ [] = walk_over all g.rest last turn g.walk most in
      sym (ap (λ l. has_name (field_targets l) o) ((g.walk).split ∙ ap (λ l. (g.walk).so_far ++ l) none ∙ append-nil (g.walk).so_far) ∙ g.none)

-- ---- the rows of a region
abbrev pub row_targets : CountedRow → List ObjId
row_targets c = field_targets (c.row).fields

pub record RegionSearched (rows : List CountedRow) (r : ObjId) (next : Option ObjId) (o : ObjId) : Type 0 where
  pub walk : RegionWalk rows r next
  pub none : has_name (flat_map row_targets walk.done) o ≡ false

module _ (rows : List CountedRow) (r o : ObjId) where
  pub region_search_begins : (next : Option ObjId) → next ≡ first_name (rows_of (In r) rows) → RegionSearched rows r next o
  region_search_begins next e = record { walk = region_begins rows r next e; none = refl }

  pub region_lacks : (next : Option ObjId) → RegionSearched rows r next o → next ≡ None → false ≡ has_name (region_targets rows r) o
  region_lacks next g none = sym (ap (λ l. has_name (flat_map row_targets l) o) (sym (region_over rows r next g.walk none)) ∙ g.none)

  module _ (differ : NamesDiffer rows) (next : Option ObjId) (g : RegionSearched rows r next o) (p : ObjId) (is : next ≡ Some p) where
    pub region_found : true ≡ has_name (field_targets (fields_at rows p)) o → true ≡ has_name (region_targets rows r) o
    region_found h =
        let t = this_row rows r differ next g.walk p is in
        sym (ap (λ l. has_name (flat_map row_targets l) o) (split_here rows r differ next g.walk p is)
        ∙ ap (λ l. has_name l o) (flat_map-append row_targets (g.walk).done (t.row ∷ t.later))
        ∙ in_middle (flat_map row_targets (g.walk).done) (row_targets t.row) (flat_map row_targets t.later) o
        (ap (λ l. has_name (field_targets l) o) (sym (fields_here rows r differ next g.walk p is)) ∙ sym h))

    pub region_search_on : (after : Option ObjId) → after ≡ name_after (rows_beside rows p) p → false ≡ has_name (field_targets (fields_at rows p)) o → RegionSearched rows r after o
    region_search_on after after_is h =
        let t = this_row rows r differ next g.walk p is in
        record {
          walk = region_goes_on rows r differ next g.walk p is after after_is;
          none = ap (λ l. has_name l o) (flat_more row_targets (g.walk).done t.row)
              ∙ in_neither (flat_map row_targets (g.walk).done) (row_targets t.row) o g.none
              (ap (λ l. has_name (field_targets l) o) (sym (fields_here rows r differ next g.walk p is)) ∙ sym h);
        }

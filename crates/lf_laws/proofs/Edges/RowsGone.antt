-- The edges after rows leave: a set of rows that is dropped, and one that is frozen.
use Rattle.std.proofs.Common.{Bool, List, [], ap, arith, cond, false, length, map, not, refl, subst, true, ◌++◌, ◌+◌, ◌∷◌, ◌≡◌}
use Rattle.std.specs.List.{count_by, filter}
use Rattle.lf_base.specs.EdgeLists.{SameEdges, frozen_edges, near_edges}
use Rattle.lf_base.specs.Edges.{Edge, edges, row_edges, rows_edges}
use Rattle.lf_base.specs.FreezeResult.{freeze_result, freeze_set, frozen_row, insert_rows}
use Rattle.lf_base.specs.Kept.{kept, kept_rows, stays}
use Rattle.lf_base.specs.Names.{name_below}
use Rattle.lf_base.specs.Owners.{has_row}
use Rattle.lf_base.specs.PlainChanges.{insert_row}
use Rattle.lf_base.specs.PlainState.{Row, State}
use Rattle.lf_base.specs.Settling.{without}
use Rattle.lf_base.specs.Sets.{Member}
use Rattle.lf_base.specs.WellFormed.{WellFormed}
use Rattle.lf_base.specs.declared.ids.ObjId.{ObjId}
use Rattle.lf_base.specs.declared.values.Value.{Value}
use Rattle.lf_base.proofs.ListLemmas.Filters.{Member_filter, Member_of_filter}
use Rattle.lf_base.proofs.ListLemmas.Sublists.{Sub, sub_filter, sub_shrink, sub_within}
use Rattle.lf_laws.proofs.Dropping.RowsInPlace.{rows_in_place}
use Rattle.lf_laws.proofs.Edges.EdgeParts.{all_from_near, count_app, edges_count, near_count, near_rows}
use Rattle.lf_laws.proofs.Owners.PathsOfSets.{freeze_part}
use Rattle.lf_laws.proofs.Rows.RowsByName.{Distinct, mem_has, row_there, same_row, sub_same}

-- the edges of rows are those of the rows that pass a test and those of the others
pub rows_parted : (q : Row → Bool) (p : Edge → Bool) (rows : List Row) → count_by p (rows_edges rows) ≡ count_by p (rows_edges (filter q rows)) + count_by p (rows_edges (filter (λ r. not (q r)) rows))
rows_parted q p [] = refl
rows_parted q p (r ∷ rs) =
    let in_set : List Row = filter q rs in
    let others : List Row = filter (λ r. not (q r)) rs in
    elim (q r) as (λ b. count_by p (rows_edges (r ∷ rs)) ≡ count_by p (rows_edges (cond b (r ∷ in_set) in_set)) + count_by p (rows_edges (cond (not b) (r ∷ others) others))) [
      | true ↦ omega (arith, rows_parted q p rs, count_app p (row_edges r) (rows_edges rs), count_app p (row_edges r) (rows_edges in_set))
      | false ↦ omega (arith, rows_parted q p rs, count_app p (row_edges r) (rows_edges rs), count_app p (row_edges r) (rows_edges others))
    ]

-- ---- rows that are dropped
module _ (s : State) (gone : ObjId → Bool) where
  abbrev dropped : List Edge
  dropped = rows_edges (filter (λ r. gone r.name) s.rows)

  pub near_without : SameEdges (near_edges s) (dropped ++ near_edges (without s gone))
  near_without = near_rows s (without s gone).rows [] dropped (λ p.
      omega (arith, rows_parted (λ (r : Row). gone r.name) p s.rows, count_app p dropped (rows_edges (without s gone).rows)))

  pub all_without : SameEdges (edges s) (dropped ++ edges (without s gone))
  all_without = all_from_near s (without s gone) [] dropped refl near_without

-- a part of the rows is what the rows have by its names
pub part_is : (set rows : List Row) → Distinct rows → Sub set rows → filter (λ r. has_row set r.name) rows ≡ set
part_is set rows d part = sub_same (filter (λ (r : Row). has_row set r.name) rows) set rows d (sub_filter (λ (r : Row). has_row set r.name) rows) part
    (λ x m.
    let k = Member_of_filter (λ (r : Row). has_row set r.name) x rows m in
    let y = row_there set x.name k.1 in
    subst (λ z. Member z set) (same_row rows d y.0 x (sub_within part y.0 y.1.0) k.0 y.1.1) y.1.0)
    (λ x m. Member_filter (λ (r : Row). has_row set r.name) x rows (sub_within part x m) (mem_has x set m))

-- ---- rows that don't stay
module _ (s : State) (t : WellFormed s) where
  abbrev leaving : List Edge
  leaving = rows_edges (filter (λ r. not (has_row (kept_rows s) r.name)) s.rows)

  pub near_kept : SameEdges (near_edges s) (leaving ++ near_edges (kept s))
  near_kept = near_rows s (kept_rows s) [] leaving (λ p.
      omega (
        arith,
        rows_parted (λ (r : Row). has_row (kept_rows s) r.name) p s.rows,
        ap (λ l. count_by p (rows_edges l)) (part_is (kept_rows s) s.rows (rows_in_place s t).distinct (sub_shrink (stays s) (length s.rows) s.rows)),
        count_app p leaving (rows_edges (kept_rows s)),
      ))

  pub all_kept : SameEdges (edges s) (leaving ++ edges (kept s))
  all_kept = all_from_near s (kept s) [] leaving refl near_kept

-- ---- rows that are frozen
insert_count : (p : Edge → Bool) (x : Row) (rows : List Row) → count_by p (rows_edges (insert_row x rows)) ≡ count_by p (row_edges x) + count_by p (rows_edges rows)
insert_count p x [] = count_app p (row_edges x) []
insert_count p x (y ∷ ys) =
    elim (name_below x.name y.name) as (λ b. count_by p (rows_edges (cond b (x ∷ (y ∷ ys)) (y ∷ insert_row x ys))) ≡ count_by p (row_edges x) + count_by p (rows_edges (y ∷ ys))) [
      | true ↦ count_app p (row_edges x) (rows_edges (y ∷ ys))
      | false ↦ omega (arith, insert_count p x ys, count_app p (row_edges y) (rows_edges (insert_row x ys)), count_app p (row_edges y) (rows_edges ys))
    ]

insert_all : (p : Edge → Bool) (xs ys : List Row) → count_by p (rows_edges (insert_rows xs ys)) ≡ count_by p (rows_edges xs) + count_by p (rows_edges ys)
insert_all p [] ys = omega arith
insert_all p (x ∷ xs) ys = omega (arith, insert_count p x (insert_rows xs ys), insert_all p xs ys, count_app p (row_edges x) (rows_edges xs))

pub frozen_same : (rows : List Row) → rows_edges (map frozen_row rows) ≡ rows_edges rows
frozen_same [] = refl
frozen_same (r ∷ rs) = ap (λ l. row_edges r ++ l) (frozen_same rs)

module _ (s : State) (v : Value) (t : WellFormed s) where
  abbrev set : List Row
  set = freeze_set s v

  abbrev after : State
  after = freeze_result s v

  -- the set is what the rows have by its names
  set_is : filter (λ r. has_row set r.name) s.rows ≡ set
  set_is = part_is set s.rows (rows_in_place s t).distinct (freeze_part s v)

  pub near_freeze : SameEdges (near_edges s) (rows_edges set ++ near_edges after)
  near_freeze p =
      omega (
        arith,
        near_count p s,
        near_count p after,
        count_app p (rows_edges set) (near_edges after),
        rows_parted (λ (r : Row). has_row set r.name) p s.rows,
        ap (λ l. count_by p (rows_edges l)) set_is,
      )

  pub frozen_freeze : SameEdges (frozen_edges after) (rows_edges set ++ frozen_edges s)
  frozen_freeze p =
      omega (
        arith,
        count_app p (rows_edges s.given) (rows_edges after.own),
        count_app p (rows_edges s.given) (rows_edges s.own),
        count_app p (rows_edges set) (frozen_edges s),
        insert_all p (map frozen_row set) s.own,
        ap (count_by p) (frozen_same set),
      )

  pub all_freeze : SameEdges (edges after) (edges s)
  all_freeze p =
      omega (
        arith,
        near_freeze p,
        frozen_freeze p,
        edges_count p s,
        edges_count p after,
        count_app p (rows_edges set) (near_edges after),
        count_app p (rows_edges set) (frozen_edges s),
      )

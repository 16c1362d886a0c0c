-- A change of owners leaves the edges as they are.
use Rattle.std.proofs.Common.{List, None, Option, Some, ap, refl, ◌++◌, ◌≡◌}
use Rattle.lf_base.specs.EdgeLists.{near_edges}
use Rattle.lf_base.specs.Edges.{content_edges, edges, rows_edges, slot_edges}
use Rattle.lf_base.specs.MergeResult.{relabel_region}
use Rattle.lf_base.specs.MoveSet.{move_set}
use Rattle.lf_base.specs.Owners.{owner_in}
use Rattle.lf_base.specs.PlainState.{Row, State}
use Rattle.lf_base.specs.WriteResult.{moved, relabel, write_fields, write_result}
use Rattle.lf_base.specs.declared.ids.ObjId.{ObjId}
use Rattle.lf_base.specs.declared.values.Key.{Key}
use Rattle.lf_base.specs.declared.values.Owner.{Owner}
use Rattle.lf_base.specs.declared.values.Owner.TheVariants.{Frozen, In, Local}
use Rattle.lf_base.specs.declared.values.Value.{Value}
use Rattle.lf_laws.proofs.Changes.RelabelledRegion.{region_edges}
use Rattle.lf_laws.proofs.Rows.EdgeCounts.{with_rows}
use Rattle.lf_laws.proofs.Writes.MovedRows.{edges_relabel, moved_names}

-- rows with the same edges give the state the same edges
module _ (s : State) (xs ys : List Row) (h : rows_edges xs ≡ rows_edges ys) where
  pub near_same : near_edges (with_rows s xs) ≡ near_edges (with_rows s ys)
  near_same = ap (λ l. slot_edges s.slots ++ (l ++ (content_edges s.held ++ content_edges s.made))) h

  pub all_same : edges (with_rows s xs) ≡ edges (with_rows s ys)
  all_same = ap (λ l. slot_edges s.slots ++ (l ++ (content_edges s.held ++ (content_edges s.made ++ (rows_edges s.given ++ rows_edges s.own))))) h

moved_same : (s : State) (rows : List Row) (v : Value) (w : Option Owner) → rows_edges (moved rows (move_set s v) w) ≡ rows_edges rows
moved_same s rows v None = refl
moved_same s rows v (Some Local) = refl
moved_same s rows v (Some Frozen) = refl
moved_same s rows v (Some (In r)) = edges_relabel rows (moved_names s v) (In r)

-- a write has the edges that the field leaves, whatever moves
module _ (s : State) (x : ObjId) (k : Key) (v : Value) where
  same_rows : rows_edges (write_result s x k v).rows ≡ rows_edges (write_fields s.rows x k v)
  same_rows = moved_same s (write_fields s.rows x k v) v (owner_in s.rows x)

  pub near_written : near_edges (write_result s x k v) ≡ near_edges (with_rows s (write_fields s.rows x k v))
  near_written = near_same s (write_result s x k v).rows (write_fields s.rows x k v) same_rows

  pub all_written : edges (write_result s x k v) ≡ edges (with_rows s (write_fields s.rows x k v))
  all_written = all_same s (write_result s x k v).rows (write_fields s.rows x k v) same_rows

module _ (s : State) (os : List ObjId) (w : Owner) where
  pub near_relabel : near_edges (with_rows s (relabel s.rows os w)) ≡ near_edges s
  near_relabel = near_same s (relabel s.rows os w) s.rows (edges_relabel s.rows os w)

  pub all_relabel : edges (with_rows s (relabel s.rows os w)) ≡ edges s
  all_relabel = all_same s (relabel s.rows os w) s.rows (edges_relabel s.rows os w)

module _ (s : State) (r : ObjId) (w : Owner) where
  pub near_region : near_edges (with_rows s (relabel_region s.rows r w)) ≡ near_edges s
  near_region = near_same s (relabel_region s.rows r w) s.rows (region_edges r w s.rows)

  pub all_region : edges (with_rows s (relabel_region s.rows r w)) ≡ edges s
  all_region = all_same s (relabel_region s.rows r w) s.rows (region_edges r w s.rows)

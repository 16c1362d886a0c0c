-- The room of the owner that a row has.
use Rattle.std.proofs.Common.{List, Some, subst, sym, ℕ, ◌∙◌, ◌≡◌, ◌≤◌}
use Rattle.lf_base.specs.declared.ids.ObjId.{ObjId}
use Rattle.lf_base.specs.declared.values.Owner.{Owner}
use Rattle.lf_base.specs.Owners.{owner_in}
use Rattle.lf_base.specs.PlainState.{Row}
use Rattle.lf_base.proofs.ListLemmas.Tests.{some_is}
use Rattle.lf_domain.proofs.StoreEdges.{owner_told}
use Rattle.lf_graph.specs.Room.{OwnerHasRoom}
use Rattle.lf_graph.specs.StoredRows.{AreRowsOf, CountedRow}

pub room_here : (rows : List CountedRow) (of : List Row) (spare : Owner → ℕ) (o : ObjId) (w : Owner) (n : ℕ) → AreRowsOf rows of → owner_in of o ≡ Some w → n ≤ spare w → OwnerHasRoom spare rows o n
room_here rows of spare o w n a k room u e = subst (λ z. n ≤ spare z) (some_is w u (sym k ∙ owner_told rows of o a ∙ e)) room

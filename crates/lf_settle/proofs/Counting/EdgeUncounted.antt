-- That the edge of a place may be taken out of the counts, and what is there after it.
use Rattle.std.proofs.Common.{List, None, Option, Some, ap, refl, subst, sym, true, ◌&&◌, ◌∙◌, ◌≡◌, ◌≤◌}
use Rattle.lf_base.specs.declared.ids.ObjId.{ObjId}
use Rattle.lf_base.specs.EdgeLists.{near_edges}
use Rattle.lf_base.specs.Edges.{Content, Field, Slot, Source}
use Rattle.lf_base.specs.Names.{same_name}
use Rattle.lf_base.specs.Owners.{is_in, is_local_at, owner_in}
use Rattle.lf_base.specs.Ownership.{is_in_other, is_owning}
use Rattle.lf_base.specs.PlainState.{State}
use Rattle.lf_base.specs.WalkCounts.{is_borrower}
use Rattle.lf_domain.specs.Counts.{CountsOf}
use Rattle.lf_domain.specs.OneEdge.{LiesIn, MayUncount, MayUncountOwner}
use Rattle.lf_domain.proofs.EdgeTests.{count_alike}
use Rattle.lf_domain.proofs.StateEdges.{one_owner, only_bridges}
use Rattle.lf_graph.specs.StoredRows.{CountedRow}
use Rattle.lf_regions.specs.declared.region.Region.{Region}
use Rattle.lf_regions.specs.TableCounts.{owns_region}
use Rattle.lf_settle.specs.LostEdges.{BeginsAt, CanLose, HasLost}
use Rattle.lf_settle.specs.WorkLists.{WorkList}

module _ (rows : List CountedRow) (regions : List Region) (work : WorkList) (s t : State) (from : Source) (os : List ObjId) (can : CanLose rows regions work s t from os) where
  owners : (o : ObjId) → owner_in t.rows o ≡ owner_in s.rows o
  owners = can.loses.lost.owners

  borrower_after : (f : Source) → is_borrower s.rows f ≡ true → is_borrower t.rows f ≡ true
  borrower_after Slot e = refl
  borrower_after (Field p) e = ap is_local_at (owners p) ∙ e
  borrower_after (Content c) e = e

  owning_after : (f : Source) (r : ObjId) → is_owning t.rows f r ≡ is_owning s.rows f r
  owning_after Slot r = refl
  owning_after (Field p) r = ap (is_in_other r) (owners p)
  owning_after (Content c) r = refl

  lies_after : (f : Source) (home : Option ObjId) → LiesIn s.rows f home → LiesIn t.rows f home
  lies_after Slot home l = absurd l
  lies_after (Field p) None l = absurd l
  lies_after (Field p) (Some q) l = owners p ∙ l
  lies_after (Content c) None l = tt
  lies_after (Content c) (Some q) l = absurd l

  pub may_uncount : is_borrower s.rows from ≡ true → MayUncount rows regions t.rows (near_edges s) (near_edges t) from os
  may_uncount near = record { counts = can.counts; bridges = can.loses.after.bridge; near = borrower_after from near; edges = can.loses.near }

  pub may_uncount_owner : (home : Option ObjId) → LiesIn s.rows from home → MayUncountOwner rows regions t.rows (near_edges s) (near_edges t) from os home
  may_uncount_owner home l = record {
    counts = can.counts;
    bridges = can.loses.after.bridge;
    lies = lies_after from home l;
    leads = λ o r m k other. only_bridges s can.loses.before from os (near_edges t) home can.loses.near l o r m (sym (owners o) ∙ k) other;
    edges = can.loses.near;
    one = λ r b. subst (λ n. n ≤ 1)
        (sym (count_alike (owns_region t.rows r) (owns_region s.rows r) (near_edges s) (λ e m. ap (λ x. x && same_name e.to r) (owning_after e.from r))))
        (one_owner s can.loses.before r (sym (ap (is_in r) (owners r)) ∙ b));
  }

  pub has_lost : (home : Option ObjId) → BeginsAt s.rows from home → (next : List CountedRow) (table : List Region) → CountsOf next table t → HasLost next table work s t from os home
  has_lost home begins next table counts = record {
    loses = can.loses;
    begins = begins;
    counted = record { counts = counts; well_formed = can.loses.after };
    room = can.room;
  }

use Rattle.std.proofs.Common.{List, None, Option, Some, [], ap, cond, sym, ◌∙◌, ◌∷◌, ◌≡◌}
use Rattle.lf_base.specs.declared.ids.ObjId.{ObjId}
use Rattle.lf_base.specs.declared.values.Owner.{Owner}
use Rattle.lf_base.specs.declared.values.Value.{Value}
use Rattle.lf_base.specs.Names.{targets_of_value}
use Rattle.lf_base.specs.Owners.{bridge_of, first_bridge, is_in}
use Rattle.lf_base.specs.PlainState.{State}
use Rattle.lf_domain.specs.Counts.{IsDomain}
use Rattle.lf_domain.proofs.StoreEdges.{owner_told}
use Rattle.lf_graph.specs.StoredRows.{CountedRow, owner_at}
use Rattle.lf_regions.specs.declared.region.Region.{Region}
use Rattle.lf_transfer.proofs.bridges.bridge_of.Goals as goal

bridge_told : (rows : List CountedRow) (regions : List Region) (s : State) → IsDomain rows regions s → (v : Value) (o : ObjId) → o ∷ [] ≡ targets_of_value v → (w : Option Owner) → w ≡ owner_at rows o
    → cond (is_in o w) (Some o) None ≡ bridge_of s v
bridge_told rows regions s d v o t w own = ap (λ u. cond (is_in o u) (Some o) None) (own ∙ sym (owner_told rows s.rows o ((d.counts).store).rows)) ∙ ap (first_bridge s) t

pub returns : goal.returns
returns g c regions s d = c.bridge_at.ensures ∙ bridge_told (g.S.Store.rows c.args.store.now) regions s d c.args.v c.in_ok-o.o c.in_ok-o.ensures c.owner.result c.owner.ensures.owner

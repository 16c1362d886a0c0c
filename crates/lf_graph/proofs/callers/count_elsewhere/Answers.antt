use Rattle.std.proofs.Common.{ap, refl, subst, sym, ◌+◌, ◌<◌, ◌∙◌}
use Rattle.std.specs.Option.{is_some}
use Rattle.lf_graph.specs.RowChanges.{lowered, with_refs}
use Rattle.lf_graph.specs.StoredRows.{refs_by}
use Rattle.lf_graph.proofs.Stores.AfterCalls.{other_after}
use Rattle.lf_graph.proofs.Stores.Changes.{at_keeps_owner, same_map}
use Rattle.lf_graph.proofs.callers.count_elsewhere.Goals as goal

pub add_ref-requires-clause-there : goal.add_ref-requires-clause-there
add_ref-requires-clause-there g c = ap is_some (other_after (g.S.Store.rows c.sub_ref.new.self) (g.S.Store.rows c.args.store.now) c.args.from c.args.to c.requires.differ c.requires.other c.sub_ref.ensures.rows) ∙ c.requires.to

pub add_ref-requires-clause-below : goal.add_ref-requires-clause-below
add_ref-requires-clause-below g c =
    subst (λ t. refs_by t < 18446744073709551615) (sym (other_after (g.S.Store.rows c.sub_ref.new.self) (g.S.Store.rows c.args.store.now) c.args.from c.args.to c.requires.differ c.requires.other c.sub_ref.ensures.rows)) c.requires.below

pub returns-clause-rows : goal.returns-clause-rows
returns-clause-rows g c w =
    c.add_ref.ensures.rows w
    ∙ same_map (g.S.Store.rows c.sub_ref.new.self) (lowered (g.S.Store.rows c.args.store.now) c.args.from) c.sub_ref.ensures.rows _ (at_keeps_owner c.args.to (λ r. with_refs (r.refs + 1) r) (λ r. refl)) w

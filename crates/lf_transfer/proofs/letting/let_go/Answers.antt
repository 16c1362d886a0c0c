use Rattle.std.specs.Prelude.{option_to_list}
use Rattle.std.proofs.Common.{ap, true, sym, ◌∙◌, ◌≡◌}
use Rattle.lf_graph.specs.StoredRows.{owner_at}
use Rattle.lf_transfer.specs.Closing.{leads_within, lies_within}
use Rattle.lf_transfer.proofs.Closings.LooseRows.{leads_there, row_stays}
use Rattle.lf_transfer.proofs.letting.let_go.Goals as goal

pub is_loose-requires-clause-there : goal.is_loose-requires-clause-there
is_loose-requires-clause-there g c κs within =
    let rows = g.S.Store.rows c.args.store.now in
    let lies : lies_within c.args.within.now.keys (owner_at rows c.in-Some.o) ≡ true =
    ap (lies_within c.args.within.now.keys) (sym c.owner.ensures.owner) ∙ sym c.is_within.ensures ∙ c.if-not-is_within.false in
    let leads : leads_within rows c.args.within.now.keys c.args.v ≡ true =
    leads_there rows c.args.within.now.keys c.args.v c.in-Some.o (sym c.object.ensures ∙ ap option_to_list c.in-Some.is) lies in
    let may = c.requires.may leads in
    row_stays rows (g.S.Store.rows c.uncount_borrow.new.store) c.args.regions.now c.uncount_borrow.new.regions may.0 may.1.0 may.1.1.0
    may.1.1.1.1.counts (c.uncount_borrow.ensures.counted may.0 may.1.0 may.1.1.0 may.1.1.1.0 may.1.1.1.1) c.args.within.now.keys c.in-Some.o lies

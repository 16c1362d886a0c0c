use Rattle.std.proofs.Common.{sym, ◌∙◌}
use Rattle.lf_domain.proofs.StoreEdges.{owned_has_row}
use Rattle.lf_graph.specs.StoredRows.{row_named}
use Rattle.lf_transfer.specs.Taking.{is_stored}
use Rattle.lf_transfer.proofs.Taken.TakenObjects.{no_row, takes_absent, takes_one}
use Rattle.lf_transfer.proofs.taking.take_object.Goals as goal

pub returns-in_ok-add-in-Some : goal.returns-in_ok-add-in-Some
returns-in_ok-add-in-Some g c =
    let rows = g.S.Store.rows c.args.store.now in
    takes_one (is_stored rows) c.args.o c.args.taken.now.keys c.add.new.names.keys (owned_has_row rows c.args.o c.in-Some._owner (sym c.owner.ensures.owner ∙ c.in-Some.is)) c.in_ok-add-in-Some.ensures

pub returns-in-None : goal.returns-in-None
returns-in-None g c =
    let rows = g.S.Store.rows c.args.store.now in
    takes_absent (is_stored rows) c.args.o c.args.taken.now.keys (λ h. no_row (row_named rows c.args.o) (sym c.owner.ensures.owner ∙ c.in-None.is) h)

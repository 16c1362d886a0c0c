use Rattle.std.proofs.Common.{Some, length, refl, slice_get, sym, ◌≡◌}
use Rattle.std.proofs.lemmas.Bool.{ltb-true}
use Rattle.std.proofs.lemmas.Option.{slice_get_read}
use Rattle.lf_graph.proofs.FlatStores.PartRows.{head_found}
use Rattle.lf_graph.proofs.flat_part.head_at.Goals as goal

pub returns : goal.returns
returns c =
    let here : slice_get c.args.rows.now c.args.at ≡ Some c.in-Some.row.now = slice_get_read c.args.rows.now (length c.args.rows.now) c.args.at c.in-Some.row.now refl (ltb-true c.args.at (length c.args.rows.now) (sym c.in-Some.ensures.lookup.0)) c.in-Some.ensures.lookup.1 in
    head_found c.args.rows.now c.args.at c.in-Some.row.now c.requires here

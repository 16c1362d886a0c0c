use Rattle.lf_laws.proofs.Rows.RowsByName.{owner_there, differ_rows}
use Rattle.lf_laws.proofs.Writes.WriteLaw.{write_law}
use Rattle.lf_base.specs.Owners.{names}
use Rattle.std.proofs.Common.{◌++◌}
use Rattle.lf_laws.proofs.laws.write_law.Goals as goal

pub returns : goal.returns
returns c s x k v t h may =
    let w = owner_there s.rows (differ_rows s.rows (names s.given ++ names s.own) t.names_differ) x h in
    write_law s t x k v may w.owner w.is

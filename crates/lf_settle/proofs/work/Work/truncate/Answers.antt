use Rattle.std.proofs.Common.{ap}
use Rattle.lf_settle.specs.WorkLists.{WorkList}
use Rattle.lf_settle.proofs.SuspectLists.{first_suspects}
use Rattle.lf_settle.proofs.work.Work.truncate.Goals as goal

pub returns-clause-suspects : goal.returns-clause-suspects
returns-clause-suspects c = first_suspects c.self.inside.items.items c.truncate.new.self.items c.args.self.now.suspects c.args.len (ap (λ (w : WorkList). w.suspects) c.self.view_is) c.truncate.ensures.items

use Rattle.lf_laws.proofs.Losses.WriteNoticed.{counts_notice}
use Rattle.lf_laws.proofs.loss_laws.counts_notice_old_value.Goals as goal

pub returns : goal.returns
returns c = counts_notice

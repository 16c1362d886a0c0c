use Rattle.lf_transfer.proofs.Closings.LooseSuspects.{loosened_noticed}
use Rattle.lf_transfer.proofs.laws.loosened_rows_are_noticed.Goals as goal

pub returns : goal.returns
returns c s at r old new well held noticed stay named = loosened_noticed s at r well held old new noticed stay named

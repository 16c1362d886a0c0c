use Rattle.lf_laws.proofs.Losses.MergeNoticed.{merge_noticed}
use Rattle.lf_laws.proofs.loss_laws.merge_is_noticed.Goals as goal

pub returns : goal.returns
returns c s a b w h = merge_noticed s a b h w

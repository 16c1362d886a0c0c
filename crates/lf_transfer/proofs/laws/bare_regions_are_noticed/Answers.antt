use Rattle.lf_transfer.proofs.Freezes.BareRegions.{bare_noticed}
use Rattle.lf_transfer.proofs.laws.bare_regions_are_noticed.Goals as goal

pub returns : goal.returns
returns c s before v plan old new t p n stay named = bare_noticed s t before v plan p old new n stay named

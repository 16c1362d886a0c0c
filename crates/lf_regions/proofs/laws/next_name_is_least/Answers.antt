use Rattle.lf_regions.specs.NextName.{is_above}
use Rattle.lf_regions.specs.Regions.{region_names}
use Rattle.lf_regions.proofs.ChangeLaws.{found_in, next_least, next_none}
use Rattle.lf_regions.proofs.laws.next_name_is_least.Goals as goal

pub returns-clause-there : goal.returns-clause-there
returns-clause-there c regions after = found_in (is_above after) (region_names regions)

pub returns-clause-least : goal.returns-clause-least
returns-clause-least c = next_least

pub returns-clause-none : goal.returns-clause-none
returns-clause-none c = next_none

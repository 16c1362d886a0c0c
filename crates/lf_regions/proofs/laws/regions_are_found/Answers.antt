use Rattle.std.proofs.Common.{false}
use Rattle.lf_regions.specs.declared.region.Region.{Region}
use Rattle.lf_regions.proofs.ChangeLaws.{each_region_found, name_there, region_found}
use Rattle.lf_regions.proofs.RegionNumbers.{read_absent}
use Rattle.lf_regions.proofs.laws.regions_are_found.Goals as goal

pub returns-clause-found : goal.returns-clause-found
returns-clause-found c = region_found

pub returns-clause-there : goal.returns-clause-there
returns-clause-there c = name_there

pub returns-clause-each : goal.returns-clause-each
returns-clause-each c = each_region_found

pub returns-clause-absent : goal.returns-clause-absent
returns-clause-absent c regions r h = (read_absent (λ (x : Region). x.borrowed) 0 regions r h, read_absent (λ (x : Region). x.owned) false regions r h)

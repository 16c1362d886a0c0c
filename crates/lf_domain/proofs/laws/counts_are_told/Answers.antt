use Rattle.lf_domain.proofs.BridgeNames.{bridges_have_regions}
use Rattle.lf_domain.proofs.NearCounts.{from_all}
use Rattle.lf_domain.proofs.laws.counts_are_told.Goals as goal

pub returns : goal.returns
returns c rows regions s well are refs_are names borrowed_are owned_are = from_all s well rows regions (record {
  store = record { rows = are; refs = refs_are };
  table = record { regions = bridges_have_regions s regions names; borrowed = borrowed_are; owned = owned_are };
})

use Rattle.std.proofs.Common.{◌*◌, ◌+◌, ◌≡◌, ◌≤◌}
use Rattle.lf_domain.specs.Counts.{CountsOf}
use Rattle.lf_trials.specs.LocalChains.{chain}
use Rattle.lf_trials.proofs.LocalChains.{chain_suspects}
use Rattle.lf_trials.proofs.settled_chain.made_chain.Given as goal

abbrev pub invariant-loop-made : goal.invariant-loop-made
invariant-loop-made g l = record {
  counts : CountsOf (g.S.Store.rows l.store) l.regions (chain l.made);
  suspects : l.work.suspects ≡ chain_suspects l.made;
  room : 2 * (l.links + 1) ≤ l.work.spare + (l.made + 1);
}

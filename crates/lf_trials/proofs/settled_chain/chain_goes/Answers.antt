use Rattle.lf_trials.specs.LocalChains.{chain}
use Rattle.lf_trials.proofs.settled_chain.chain_goes.Goals as goal

pub settle-requires-clause-state : goal.settle-requires-clause-state
settle-requires-clause-state g c κs within = (chain c.args.links, c.in_ok-store.ensures)

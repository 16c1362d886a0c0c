use Rattle.std.proofs.Common.{refl}
use Rattle.lf_graph.specs.ChainMaps.{ends_of, heads_of}
use Rattle.lf_graph.specs.Chains.{refield}
use Rattle.lf_graph.proofs.LinkedRows.ChainWrites.{chains_restored, stored_restored}
use Rattle.lf_graph.proofs.chains.Chains.set_fields.Goals as goal

pub returns-clause-lists : goal.returns-clause-lists
returns-clause-lists c lists old =
    let o = c.requires.0 in
    chains_restored (heads_of c.args.self.now.rows) (heads_of c.set_fields.new.self) (ends_of c.args.self.now.ends) o (refield c.args.fields) (c.set_fields.ensures.rows o c.requires.1) (λ _. refl) lists old

pub returns-clause-rows : goal.returns-clause-rows
returns-clause-rows c o at = stored_restored (heads_of c.args.self.now.rows) (heads_of c.set_fields.new.self) (ends_of c.args.self.now.ends) o (refield c.args.fields) (c.set_fields.ensures.rows o at)

use Rattle.std.proofs.Common.{◌∙◌}
use Rattle.lf_graph.specs.ChainMaps.{ends_of, heads_of}
use Rattle.lf_graph.proofs.LinkedRows.ChainMoves.{AreChains-moved, stored_moved}
use Rattle.lf_graph.proofs.chains.Chains.move_last.Goals as goal

pub returns-clause-lists : goal.returns-clause-lists
returns-clause-lists c lists old =
    AreChains-moved (heads_of c.args.self.now.rows) (heads_of c.set_next.new.rows) (heads_of c.set_prev.new.rows) (heads_of c.set_next-2.new.rows) (heads_of c.set_owner.new.self)
    (ends_of c.args.self.now.ends) (ends_of c.cut.new.self) (ends_of c.push-last.new.self) c.args.o c.at-head.result.now c.args.owner c.push-last.result
    (c.at-head.ensures c.args.o c.place-place.ensures) c.set_next.ensures.rows c.set_prev.ensures.rows c.cut.ensures.ends c.push-last.ensures.last c.push-last.ensures.ends
    c.set_next-2.ensures.rows (c.set_owner.ensures.rows c.args.o (c.set_next-2.ensures.places c.args.o ∙ c.set_prev.ensures.places c.args.o ∙ c.set_next.ensures.places c.args.o ∙ c.place-place.ensures)) lists old

pub returns-clause-rows : goal.returns-clause-rows
returns-clause-rows c =
    stored_moved (heads_of c.args.self.now.rows) (heads_of c.set_next.new.rows) (heads_of c.set_prev.new.rows) (heads_of c.set_next-2.new.rows) (heads_of c.set_owner.new.self)
    (ends_of c.args.self.now.ends) (ends_of c.cut.new.self) (ends_of c.push-last.new.self) c.args.o c.at-head.result.now c.args.owner c.push-last.result
    (c.at-head.ensures c.args.o c.place-place.ensures) c.set_next.ensures.rows c.set_prev.ensures.rows c.cut.ensures.ends c.push-last.ensures.last c.push-last.ensures.ends
    c.set_next-2.ensures.rows (c.set_owner.ensures.rows c.args.o (c.set_next-2.ensures.places c.args.o ∙ c.set_prev.ensures.places c.args.o ∙ c.set_next.ensures.places c.args.o ∙ c.place-place.ensures))

use Rattle.std.proofs.Common.{◌≡◌, ℕ, Some, ap, sym, ◌∙◌, subst, arith, ◌<◌}
use Rattle.std.specs.Prelude.{eqb}
use Rattle.lf_base.specs.Links.{relinked, to_next}
use Rattle.lf_pool.specs.Cells.{link_at, node}
use Rattle.lf_pool.proofs.Chains.{begins, last_in, joined, three_writes}
use Rattle.lf_pool.proofs.Joins.{chain_in_range, joined_at, joined_beside, last_read, node_is}
use Rattle.lf_pool.proofs.links.join.Given.{Over}
use Rattle.lf_pool.proofs.links.join.Goals as goal

pub prev-last-requires : goal.prev-last-requires
prev-last-requires g c = let h = c.requires.chain in chain_in_range c.args.cells.now.items h.0 c.args.chain h.1.0 (begins c.args.chain h.0 h.1.1)

pub prev-end-requires : goal.prev-end-requires
prev-end-requires g c = let h = c.requires.other in chain_in_range c.args.cells.now.items h.0 c.args.other h.1.0 (begins c.args.other h.0 h.1.1)

pub set_prev-requires : goal.set_prev-requires
set_prev-requires g c = let h = c.requires.other in chain_in_range c.args.cells.now.items h.0 c.args.other h.1.0 (begins c.args.other h.0 h.1.1)

pub set_next-requires : goal.set_next-requires
set_next-requires g c =
    let h = c.requires.chain in
    subst (λ n. c.prev-last.result < n) (sym c.set_prev.ensures.relinks.size)
    (chain_in_range c.args.cells.now.items h.0 c.prev-last.result h.1.0 (last_in h.0 c.prev-last.result (last_read (link_at c.args.cells.now.items) c.args.chain h.0 c.prev-last.result h.1 c.prev-last.ensures)))

pub set_prev-requires-2 : goal.set_prev-requires-2
set_prev-requires-2 g c =
    let h = c.requires.chain in
    subst (λ n. c.args.chain < n) (sym (c.set_next.ensures.relinks.size ∙ c.set_prev.ensures.relinks.size))
    (chain_in_range c.args.cells.now.items h.0 c.args.chain h.1.0 (begins c.args.chain h.0 h.1.1))

module _ (g : Over) (c : goal.After-set_prev-2 g) where
  other_is : node c.args.other ≡ Some c.args.other
  other_is =
      let h = c.requires.other in
      let below = chain_in_range c.args.cells.now.items h.0 c.args.other h.1.0 (begins c.args.other h.0 h.1.1) in
      let few = c.requires.few in
      node_is c.args.other (omega arith)

  writes : (q : ℕ) → link_at c.set_prev-2.new.cells.items q ≡ joined (link_at c.args.cells.now.items) c.args.chain c.args.other (Some c.prev-last.result) (Some c.prev-end.result) q
  writes = three_writes (link_at c.args.cells.now.items) (link_at c.set_prev.new.cells.items) (link_at c.set_next.new.cells.items) (link_at c.set_prev-2.new.cells.items) c.args.chain c.args.other c.prev-last.result c.prev-end.result
      c.set_prev.ensures.relinks.links
      (λ q. c.set_next.ensures.relinks.links q ∙ ap (λ t. relinked eqb (link_at c.set_prev.new.cells.items) (Some c.prev-last.result) (to_next t) q) other_is)
      c.set_prev-2.ensures.relinks.links

pub returns-clause-joined : goal.returns-clause-joined
returns-clause-joined g c xs ys a b =
    joined_at (link_at c.args.cells.now.items) (link_at c.set_prev-2.new.cells.items) c.args.chain c.args.other c.prev-last.result c.prev-end.result xs ys c.requires.apart a b
    (last_read (link_at c.args.cells.now.items) c.args.chain xs c.prev-last.result a c.prev-last.ensures)
    (last_read (link_at c.args.cells.now.items) c.args.other ys c.prev-end.result b c.prev-end.ensures) (writes g c)

pub returns-clause-others : goal.returns-clause-others
returns-clause-others g c zs z hc hd =
    let h = c.requires.chain in
    joined_beside (link_at c.args.cells.now.items) (link_at c.set_prev-2.new.cells.items) c.args.chain c.args.other c.prev-last.result c.prev-end.result h.0 zs h.1
    (last_read (link_at c.args.cells.now.items) c.args.chain h.0 c.prev-last.result h.1 c.prev-last.ensures) hc hd (writes g c) z

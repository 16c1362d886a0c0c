use Rattle.std.proofs.Common.{ℕ, Some, subst, sym, ◌<◌, ◌≡◌, ◌∙◌}
use Rattle.lf_pool.specs.Cells.{link_at, node}
use Rattle.lf_pool.proofs.Cuts.{before_member, cut_alone_here, cut_beside_here, cut_here, cut_links, cut_writes, middle_in_range, second_member}
use Rattle.lf_pool.proofs.Joins.{chain_in_range}
use Rattle.lf_pool.proofs.links.cut.Given.{Over}
use Rattle.lf_pool.proofs.links.cut.Goals as goal

pub prev-before-requires : goal.prev-before-requires
prev-before-requires g c = let h = c.requires.chain in middle_in_range c.args.cells.now.items c.args.chain c.args.cell h.0 h.1 h.2

pub next-behind-requires : goal.next-behind-requires
next-behind-requires g c = let h = c.requires.chain in middle_in_range c.args.cells.now.items c.args.chain c.args.cell h.0 h.1 h.2

pub set_next-requires : goal.set_next-requires
set_next-requires g c =
    let h = c.requires.chain in
    let get = link_at c.args.cells.now.items in
    chain_in_range c.args.cells.now.items _ c.prev-before.result h.2 (before_member c.args.cells.now.items get c.args.chain c.args.cell c.prev-before.result c.next-behind.result 0 h.0 h.1 h.2 c.prev-before.ensures c.next-behind.ensures)

pub set_prev-requires : goal.set_prev-requires
set_prev-requires g c =
    let h = c.requires.chain in
    let get = link_at c.args.cells.now.items in
    subst (λ (n : ℕ). c.cell_or.result < n) (sym c.set_next.ensures.relinks.size)
    (chain_in_range c.args.cells.now.items _ c.cell_or.result h.2 (second_member c.args.cells.now.items get c.args.chain c.args.cell c.prev-before.result c.next-behind.result c.cell_or.result h.0 h.1 h.2 c.prev-before.ensures c.next-behind.ensures c.cell_or.ensures))

pub stand_alone-requires : goal.stand_alone-requires
stand_alone-requires g c =
    let h = c.requires.chain in
    subst (λ (n : ℕ). c.args.cell < n) (sym (c.set_prev.ensures.relinks.size ∙ c.set_next.ensures.relinks.size)) (middle_in_range c.args.cells.now.items c.args.chain c.args.cell h.0 h.1 h.2)

module _ (g : Over) (c : goal.After-stand_alone g) where
  writes : (w : ℕ) → link_at c.stand_alone.new.cells.items w ≡ cut_links (link_at c.args.cells.now.items) (Some c.prev-before.result) (node c.next-behind.result) c.cell_or.result c.args.cell w
  writes = cut_writes (link_at c.args.cells.now.items) (link_at c.set_next.new.cells.items) (link_at c.set_prev.new.cells.items) (link_at c.stand_alone.new.cells.items) c.prev-before.result c.cell_or.result c.args.cell (node c.next-behind.result)
      c.set_next.ensures.relinks.links c.set_prev.ensures.relinks.links c.stand_alone.ensures.links

pub returns-clause-rest : goal.returns-clause-rest
returns-clause-rest g c zs ws k =
    let h = c.requires.chain in
    cut_here c.args.cells.now.items (link_at c.stand_alone.new.cells.items) c.args.chain c.args.cell c.prev-before.result c.next-behind.result c.cell_or.result h.0 h.1 h.2 c.prev-before.ensures c.next-behind.ensures zs ws k c.cell_or.ensures (writes g c)

pub returns-clause-alone : goal.returns-clause-alone
returns-clause-alone g c =
    let h = c.requires.chain in
    cut_alone_here c.args.cells.now.items (link_at c.stand_alone.new.cells.items) c.args.chain c.args.cell c.prev-before.result c.next-behind.result c.cell_or.result h.0 h.1 h.2 c.prev-before.ensures c.next-behind.ensures (writes g c)

pub returns-clause-others : goal.returns-clause-others
returns-clause-others g c zs z n =
    let h = c.requires.chain in
    cut_beside_here c.args.cells.now.items (link_at c.stand_alone.new.cells.items) c.args.chain c.args.cell c.prev-before.result c.next-behind.result c.cell_or.result h.0 h.1 h.2 c.prev-before.ensures c.next-behind.ensures zs z n c.cell_or.ensures (writes g c)

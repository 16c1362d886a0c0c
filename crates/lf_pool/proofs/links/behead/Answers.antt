use Rattle.std.proofs.Common.{◌<◌, sym, ◌∙◌, subst}
use Rattle.lf_pool.specs.Cells.{link_at}
use Rattle.lf_pool.proofs.Beheads.{behead_alone, behead_others, behead_rest, first_of, second_in_range}
use Rattle.lf_pool.proofs.links.behead.Goals as goal

pub prev-last-requires : goal.prev-last-requires
prev-last-requires g c = first_of c.args.cells.now.items c.args.chain c.requires.chain.0 c.requires.chain.1

pub next-rest-requires : goal.next-rest-requires
next-rest-requires g c = first_of c.args.cells.now.items c.args.chain c.requires.chain.0 c.requires.chain.1

pub set_first-requires-clause-there : goal.set_first-requires-clause-there
set_first-requires-clause-there g c l e =
    let h = c.requires.chain.1 in
    second_in_range c.args.cells.now.items c.args.chain c.requires.chain.0 h l (c.next-rest.ensures _ h.links.0 ∙ e)

pub stand_alone-requires : goal.stand_alone-requires
stand_alone-requires g c = subst (λ n. c.args.chain < n) (sym c.set_first.ensures.size) (first_of c.args.cells.now.items c.args.chain c.requires.chain.0 c.requires.chain.1)

pub returns-clause-rest : goal.returns-clause-rest
returns-clause-rest g c ys h = (
  behead_rest (link_at c.args.cells.now.items) (link_at c.set_first.new.cells.items) (link_at c.stand_alone.new.cells.items) c.args.chain c.prev-last.result c.next-rest.result ys h
      (c.prev-last.ensures _ h.links.0) (sym (c.next-rest.ensures _ h.links.0)) c.set_first.ensures.links c.stand_alone.ensures.links,
  c.next-rest.ensures _ h.links.0,
)

pub returns-clause-alone : goal.returns-clause-alone
returns-clause-alone g c =
    let h = c.requires.chain.1 in
    behead_alone (link_at c.args.cells.now.items) (link_at c.set_first.new.cells.items) (link_at c.stand_alone.new.cells.items) c.args.chain c.prev-last.result c.next-rest.result c.requires.chain.0 h
    (c.prev-last.ensures _ h.links.0) (sym (c.next-rest.ensures _ h.links.0)) c.set_first.ensures.links c.stand_alone.ensures.links

pub returns-clause-others : goal.returns-clause-others
returns-clause-others g c =
    let h = c.requires.chain.1 in
    behead_others (link_at c.args.cells.now.items) (link_at c.set_first.new.cells.items) (link_at c.stand_alone.new.cells.items) c.args.chain c.prev-last.result c.next-rest.result c.requires.chain.0 h
    (c.prev-last.ensures _ h.links.0) (sym (c.next-rest.ensures _ h.links.0)) c.set_first.ensures.links c.stand_alone.ensures.links

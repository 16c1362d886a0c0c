use Rattle.lf_barrier.proofs.MovingEdges.GivenRow.{borrows_fit, given, given_there, home_there}
use Rattle.lf_barrier.proofs.moves.give_row.Goals as goal

pub refs-count-requires : goal.refs-count-requires
refs-count-requires g c =
    let h = c.requires.may in
    record { there = given_there (g.S.Store.rows c.args.store.now) c.args.regions.now h.0 h.1.0 c.args.o c.args.home h.1.1 }

pub set_owner-requires-clause-there : goal.set_owner-requires-clause-there
set_owner-requires-clause-there g c =
    let h = c.requires.may in
    given_there (g.S.Store.rows c.args.store.now) c.args.regions.now h.0 h.1.0 c.args.o c.args.home h.1.1

pub borrow-requires-clause-there : goal.borrow-requires-clause-there
borrow-requires-clause-there g c =
    let h = c.requires.may in
    home_there (g.S.Store.rows c.args.store.now) c.args.regions.now h.0 h.1.0 c.args.o c.args.home h.1.1

pub borrow-requires-clause-fits : goal.borrow-requires-clause-fits
borrow-requires-clause-fits g c =
    let h = c.requires.may in
    borrows_fit (g.S.Store.rows c.args.store.now) c.args.regions.now h.0 h.1.0 c.args.o c.args.home h.1.1 c.refs-count.result c.refs-count.ensures.refs

pub returns-clause-counted : goal.returns-clause-counted
returns-clause-counted g c of es m =
    given (g.S.Store.rows c.args.store.now) c.args.regions.now of es c.args.o c.args.home m c.refs-count.result c.refs-count.ensures.refs
    (g.S.Store.rows c.set_owner.new.self) c.set_owner.ensures.rows c.borrow.new.self c.borrow.ensures.added

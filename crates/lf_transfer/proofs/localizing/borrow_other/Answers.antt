use Rattle.std.proofs.Common.{ap, arith, subst, sym, ◌+◌, ◌∙◌, ◌∷◌, []}
use Rattle.lf_regions.specs.RegionChanges.{with_borrowed}
use Rattle.lf_regions.specs.Regions.{borrowed_of, has_region}
use Rattle.lf_transfer.specs.RegionRows.{TurnsLocal}
use Rattle.lf_transfer.proofs.Tables.LocalReferences.{released_number_of, released_there_of, turns_at_home, turns_elsewhere}
use Rattle.lf_transfer.proofs.localizing.borrow_other.Goals as goal

pub borrow-requires-clause-there : goal.borrow-requires-clause-there
borrow-requires-clause-there c = ap (λ l. has_region l c.args.q) c.set_owned.ensures.set ∙ released_there_of c.args.regions.now c.args.q c.requires.there

pub borrow-requires-clause-fits : goal.borrow-requires-clause-fits
borrow-requires-clause-fits c =
    omega (arith, ap (λ l. borrowed_of l c.args.q) c.set_owned.ensures.set, released_number_of c.args.regions.now c.args.q, c.requires.fits c.args.q c.requires.there)

pub returns-then-is_same : goal.returns-then-is_same
returns-then-is_same c rows o k = turns_at_home rows c.args.r o c.args.q k c.args.regions.now (sym c.is_same.ensures ∙ c.if-is_same.true)

pub returns : goal.returns
returns c rows o k =
    let other = sym c.is_same.ensures ∙ c.if-is_same.false in
    subst (λ l. TurnsLocal rows c.args.r (o ∷ []) c.args.regions.now l)
    (sym (c.borrow.ensures.added ∙ ap (λ l. with_borrowed l c.args.q (borrowed_of l c.args.q + 1)) c.set_owned.ensures.set))
    (turns_elsewhere rows c.args.r o c.args.q k c.args.regions.now other c.requires.there)

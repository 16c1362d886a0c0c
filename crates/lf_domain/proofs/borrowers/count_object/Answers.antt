use Rattle.std.proofs.Common.{Some, ap, refl, sym, ◌∙◌}
use Rattle.lf_base.specs.Edges.{Slot}
use Rattle.lf_base.specs.declared.values.Owner.TheVariants.{Frozen, Local}
use Rattle.lf_domain.proofs.CountedEdges.{count_inside, count_nowhere, count_outside, may_borrow, region_there}
use Rattle.lf_domain.proofs.StoreEdges.{refs_few}
use Rattle.lf_domain.proofs.borrowers.count_object.Goals as goal

pub returns-in_default-clause-counted : goal.returns-in_default-clause-counted
returns-in_default-clause-counted g c of es from m near =
    count_nowhere (g.S.Store.rows c.args.store.now) c.args.regions.now of es c.args.o from m near (sym c.owner.ensures.owner ∙ c.in_default.is)

pub add_ref-requires-clause-below : goal.add_ref-requires-clause-below
add_ref-requires-clause-below g c =
    let m = c.requires.may in
    refs_few (g.S.Store.rows c.args.store.now) m.0 m.1.0 (m.1.1.counts).store (record { from = Slot; to = c.args.o }) m.1.1.few c.in-Some.owner (sym c.in-Some.ensures.owner)

pub borrow-requires-clause-there : goal.borrow-requires-clause-there
borrow-requires-clause-there g c =
    let m = c.requires.may in
    region_there (g.S.Store.rows c.args.store.now) c.args.regions.now m.0 m.1.0 c.args.o m.1.1.counts m.1.1.bridges c.in-In.r (sym c.in-Some.ensures.owner ∙ ap Some c.in-In.is)

pub borrow-requires-clause-fits : goal.borrow-requires-clause-fits
borrow-requires-clause-fits g c =
    let m = c.requires.may in
    may_borrow (g.S.Store.rows c.args.store.now) c.args.regions.now m.0 m.1.0 c.args.o Slot m.1.1 refl c.in-In.r (sym c.in-Some.ensures.owner ∙ ap Some c.in-In.is)

pub returns-in-Local-clause-counted : goal.returns-in-Local-clause-counted
returns-in-Local-clause-counted g c of es from m near =
    count_outside (g.S.Store.rows c.args.store.now) c.args.regions.now of es c.args.o from m near Local (sym c.in-Some.ensures.owner ∙ ap Some c.in-Local.is) (λ r. refl) _ c.add_ref.ensures.rows

pub returns-in-Frozen-clause-counted : goal.returns-in-Frozen-clause-counted
returns-in-Frozen-clause-counted g c of es from m near =
    count_outside (g.S.Store.rows c.args.store.now) c.args.regions.now of es c.args.o from m near Frozen (sym c.in-Some.ensures.owner ∙ ap Some c.in-Frozen.is) (λ r. refl) _ c.add_ref.ensures.rows

pub returns-in-In-clause-counted : goal.returns-in-In-clause-counted
returns-in-In-clause-counted g c of es from m near =
    count_inside (g.S.Store.rows c.args.store.now) c.args.regions.now of es c.args.o from m near c.in-In.r (sym c.in-Some.ensures.owner ∙ ap Some c.in-In.is) _ c.add_ref.ensures.rows _ c.borrow.ensures.added

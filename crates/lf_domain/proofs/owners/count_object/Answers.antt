use Rattle.std.proofs.Common.{Some, ap, refl, sym, ◌∙◌}
use Rattle.lf_base.specs.declared.values.Owner.TheVariants.{Frozen, Local}
use Rattle.lf_domain.proofs.CountedEdges.{own_inside, own_nowhere, own_outside, region_there}
use Rattle.lf_domain.proofs.StoreEdges.{refs_few}
use Rattle.lf_domain.proofs.owners.count_object.Goals as goal

pub returns-in_default-clause-counted : goal.returns-in_default-clause-counted
returns-in_default-clause-counted g c of es from m =
    own_nowhere (g.S.Store.rows c.args.store.now) c.args.regions.now of es c.args.o from c.args.home m (sym c.owner.ensures.owner ∙ c.in_default.is)

pub add_ref-requires-clause-below : goal.add_ref-requires-clause-below
add_ref-requires-clause-below g c =
    let h = c.requires.may in
    let m = h.1.1.1 in
    refs_few (g.S.Store.rows c.args.store.now) h.0 h.1.0 (m.counts).store (record { from = h.1.1.0; to = c.args.o }) m.few c.in-Some.owner (sym c.in-Some.ensures.owner)

pub set_other-requires : goal.set_other-requires
set_other-requires g c =
    let h = c.requires.may in
    region_there (g.S.Store.rows c.args.store.now) c.args.regions.now h.0 h.1.0 c.args.o h.1.1.1.counts h.1.1.1.bridges c.in-In.r (sym c.in-Some.ensures.owner ∙ ap Some c.in-In.is)

pub returns-in-Local-clause-counted : goal.returns-in-Local-clause-counted
returns-in-Local-clause-counted g c of es from m =
    own_outside (g.S.Store.rows c.args.store.now) c.args.regions.now of es c.args.o from c.args.home m Local (sym c.in-Some.ensures.owner ∙ ap Some c.in-Local.is) (λ r. refl) _ c.add_ref.ensures.rows

pub returns-in-Frozen-clause-counted : goal.returns-in-Frozen-clause-counted
returns-in-Frozen-clause-counted g c of es from m =
    own_outside (g.S.Store.rows c.args.store.now) c.args.regions.now of es c.args.o from c.args.home m Frozen (sym c.in-Some.ensures.owner ∙ ap Some c.in-Frozen.is) (λ r. refl) _ c.add_ref.ensures.rows

pub returns-in-In-clause-counted : goal.returns-in-In-clause-counted
returns-in-In-clause-counted g c of es from m =
    own_inside (g.S.Store.rows c.args.store.now) c.args.regions.now of es c.args.o from c.args.home m c.in-In.r (sym c.in-Some.ensures.owner ∙ ap Some c.in-In.is) _ c.add_ref.ensures.rows _ c.set_other.ensures

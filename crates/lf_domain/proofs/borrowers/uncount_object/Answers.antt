use Rattle.std.proofs.Common.{Some, ap, refl, sym, ◌∙◌}
use Rattle.lf_base.specs.declared.values.Owner.TheVariants.{Frozen, Local}
use Rattle.lf_domain.proofs.CountedEdges.{may_unborrow, region_there, uncount_inside, uncount_nowhere, uncount_outside}
use Rattle.lf_domain.proofs.StoreEdges.{refs_some}
use Rattle.lf_graph.proofs.Stores.RowOrder.{count_order}
use Rattle.lf_domain.proofs.borrowers.uncount_object.Goals as goal

pub returns-in_default-clause-counted : goal.returns-in_default-clause-counted
returns-in_default-clause-counted g c of es fs from m =
    uncount_nowhere (g.S.Store.rows c.args.store.now) c.args.regions.now of es c.args.o from fs m (sym c.owner.ensures.owner ∙ c.in_default.is)

pub sub_ref-requires-clause-above : goal.sub_ref-requires-clause-above
sub_ref-requires-clause-above g c =
    let h = c.requires.may in
    let m = h.1.1.1.1 in
    refs_some (g.S.Store.rows c.args.store.now) h.0 h.1.0 (m.counts).store (record { from = h.1.1.1.0; to = c.args.o }) h.1.1.0 m.edges c.in-Some.owner (sym c.in-Some.ensures.owner)

pub unborrow-requires-clause-there : goal.unborrow-requires-clause-there
unborrow-requires-clause-there g c =
    let h = c.requires.may in
    region_there (g.S.Store.rows c.args.store.now) c.args.regions.now h.0 h.1.0 c.args.o h.1.1.1.1.counts h.1.1.1.1.bridges c.in-In.r (sym c.in-Some.ensures.owner ∙ ap Some c.in-In.is)

pub unborrow-requires-clause-not_less : goal.unborrow-requires-clause-not_less
unborrow-requires-clause-not_less g c =
    let h = c.requires.may in
    may_unborrow (g.S.Store.rows c.args.store.now) c.args.regions.now h.0 h.1.0 c.args.o h.1.1.1.0 h.1.1.0 h.1.1.1.1 c.in-In.r (sym c.in-Some.ensures.owner ∙ ap Some c.in-In.is)

pub returns-in-Local-clause-counted : goal.returns-in-Local-clause-counted
returns-in-Local-clause-counted g c of es fs from m =
    uncount_outside (g.S.Store.rows c.args.store.now) c.args.regions.now of es c.args.o from fs m Local (sym c.in-Some.ensures.owner ∙ ap Some c.in-Local.is) (λ r. refl) _ c.sub_ref.ensures.rows

pub returns-in-Frozen-clause-counted : goal.returns-in-Frozen-clause-counted
returns-in-Frozen-clause-counted g c of es fs from m =
    uncount_outside (g.S.Store.rows c.args.store.now) c.args.regions.now of es c.args.o from fs m Frozen (sym c.in-Some.ensures.owner ∙ ap Some c.in-Frozen.is) (λ r. refl) _ c.sub_ref.ensures.rows

pub returns-in-In-clause-counted : goal.returns-in-In-clause-counted
returns-in-In-clause-counted g c of es fs from m =
    uncount_inside (g.S.Store.rows c.args.store.now) c.args.regions.now of es c.args.o from fs m c.in-In.r (sym c.in-Some.ensures.owner ∙ ap Some c.in-In.is) _ c.sub_ref.ensures.rows _ c.unborrow.ensures.subtracted

pub returns-in_default-clause-order : goal.returns-in_default-clause-order
returns-in_default-clause-order g c w = refl

pub returns-in-Local-clause-order : goal.returns-in-Local-clause-order
returns-in-Local-clause-order g c = count_order (g.S.Store.rows c.args.store.now) _ c.args.o c.sub_ref.ensures.rows

pub returns-in-Frozen-clause-order : goal.returns-in-Frozen-clause-order
returns-in-Frozen-clause-order g c = count_order (g.S.Store.rows c.args.store.now) _ c.args.o c.sub_ref.ensures.rows

pub returns-in-In-clause-order : goal.returns-in-In-clause-order
returns-in-In-clause-order g c = count_order (g.S.Store.rows c.args.store.now) _ c.args.o c.sub_ref.ensures.rows

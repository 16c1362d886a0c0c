use Rattle.std.proofs.Common.{ap, subst, sym, ◌++◌, ◌∙◌}
use Rattle.std.specs.Arc.{arc_value}
use Rattle.lf_frozen.specs.Entries.{Apart, put_by_name, rows_of_tables}
use Rattle.lf_frozen.specs.FrozenRows.{RiseByName, with_all_frozen}
use Rattle.lf_frozen.proofs.Drafts.{apart_new, finished}
use Rattle.lf_frozen.proofs.RisenRows.{apart_permuted, risen_by_name, rows_added_by_name}
use Rattle.lf_frozen.proofs.map.FrozenMap.with.Goals as goal

pub of-requires : goal.of-requires
of-requires c =
    subst (λ rows. Apart (rows ++ rows_of_tables c.self.inside.tables.items)) (sym c.as_slice.ensures)
    (apart_new c.args.rows (rows_of_tables c.self.inside.tables.items) c.args.self.now c.self.view_is c.requires.apart c.requires.new
    c.self.invariant)

pub returns-in-Err-clause-rising : goal.returns-in-Err-clause-rising
returns-in-Err-clause-rising c = subst RiseByName c.self.view_is
    (risen_by_name (rows_of_tables c.self.inside.tables.items) c.self.invariant)

pub invariant_of-result : goal.invariant_of-result
invariant_of-result c =
    let old = rows_of_tables c.self.inside.tables.items in
    let apart = apart_new c.args.rows old c.args.self.now c.self.view_is c.requires.apart c.requires.new c.self.invariant in
    let rows = c.as_slice.result.now in
    apart_permuted (rows ++ old) (rows_of_tables c.finish.result.items)
    (finished rows c.self.inside.tables.items c.in-Ok.draft (arc_value c.in-Ok-new.batch) c.finish.result.items c.in-Ok.ensures
    (c.in-Ok-new.ensures.ok ∙ sym c.as_slice.ensures) c.finish.ensures)
    (subst (λ l. Apart (l ++ old)) (sym c.as_slice.ensures) apart)

pub returns-in-Ok-new-clause-added : goal.returns-in-Ok-new-clause-added
returns-in-Ok-new-clause-added c =
    let old = rows_of_tables c.self.inside.tables.items in
    let apart = apart_new c.args.rows old c.args.self.now c.self.view_is c.requires.apart c.requires.new c.self.invariant in
    let rows = c.as_slice.result.now in
    rows_added_by_name rows old (rows_of_tables c.finish.result.items) (subst (λ l. Apart (l ++ old)) (sym c.as_slice.ensures) apart)
    (finished rows c.self.inside.tables.items c.in-Ok.draft (arc_value c.in-Ok-new.batch) c.finish.result.items c.in-Ok.ensures
    (c.in-Ok-new.ensures.ok ∙ sym c.as_slice.ensures) c.finish.ensures)
    ∙ ap (λ l. with_all_frozen l (put_by_name old)) c.as_slice.ensures
    ∙ ap (with_all_frozen c.args.rows) c.self.view_is

pub returns-in-Ok-new-clause-rising : goal.returns-in-Ok-new-clause-rising
returns-in-Ok-new-clause-rising c = subst RiseByName c.self.view_is
    (risen_by_name (rows_of_tables c.self.inside.tables.items) c.self.invariant)

pub returns-in-Err-new-clause-rising : goal.returns-in-Err-new-clause-rising
returns-in-Err-new-clause-rising c = subst RiseByName c.self.view_is
    (risen_by_name (rows_of_tables c.self.inside.tables.items) c.self.invariant)

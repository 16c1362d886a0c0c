use Rattle.std.proofs.Common.{arith, subst, sym, ◌∙◌, ◌≡◌}
use Rattle.std.proofs.lemmas.List.{take_all}
use Rattle.lf_frozen.specs.Entries.{Apart, rows_of_tables}
use Rattle.lf_frozen.specs.FrozenRows.{RiseByName}
use Rattle.lf_frozen.proofs.RisenRows.{risen_by_name}
use Rattle.lf_frozen.proofs.map.FrozenMap.share.Goals as goal

pub returns-in_err-share_first-clause-rising : goal.returns-in_err-share_first-clause-rising
returns-in_err-share_first-clause-rising c = subst RiseByName c.self.view_is
    (risen_by_name (rows_of_tables c.self.inside.tables.items) c.self.invariant)

pub invariant_of-result : goal.invariant_of-result
invariant_of-result c =
    let same : c.in_ok-share_first.field-0.items ≡ c.self.inside.tables.items =
    c.in_ok-share_first.ensures.tables ∙ take_all c.len.result c.self.inside.tables.items
    (omega (arith, c.len.ensures, c.self.inside.tables.ok)) in
    subst (λ tables. Apart (rows_of_tables tables)) (sym same) c.self.invariant

pub returns-clause-rising : goal.returns-clause-rising
returns-clause-rising c = subst RiseByName c.self.view_is (risen_by_name (rows_of_tables c.self.inside.tables.items) c.self.invariant)

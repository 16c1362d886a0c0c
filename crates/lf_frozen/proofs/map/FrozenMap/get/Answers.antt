use Rattle.std.proofs.Common.{ap, arith, refl, subst, sym, ◌∙◌}
use Rattle.std.specs.Option.{option_copied}
use Rattle.lf_frozen.specs.Entries.{Apart, put_by_name, rows_of_tables}
use Rattle.lf_frozen.specs.FrozenRows.{RiseByName, frozen_at}
use Rattle.lf_frozen.proofs.RisenRows.{risen_by_name}
use Rattle.lf_frozen.proofs.TableLists.{found_first, found_nowhere, none_next, some_copied}
use Rattle.lf_frozen.proofs.map.FrozenMap.get.Goals as goal

pub loop-table-init : goal.loop-table-init
loop-table-init c = record {
  missing = refl;
  whole = ap (λ tables. put_by_name (rows_of_tables tables)) c.deref-table-items.ensures.value ∙ c.self.view_is;
  apart = subst (λ tables. Apart (rows_of_tables tables)) (sym c.deref-table-items.ensures.value) c.self.invariant;
}

pub loop-table-preserved : goal.loop-table-preserved
loop-table-preserved c = record {
  missing = none_next c.args.o c.deref-table-items.result.now c.loop-table.table-index c.table-item.result
      (option_copied c.get-found.result) c.loop-table-test.true
      c.loop-table.invariant.missing c.table-item.is (some_copied c.get-found.result ∙ sym c.is_some.ensures ∙ c.if-is_some.false)
      c.get-found.ensures;
  whole = c.loop-table.invariant.whole;
  apart = c.loop-table.invariant.apart;
}

pub returns-then-is_some-clause-found : goal.returns-then-is_some-clause-found
returns-then-is_some-clause-found c =
    let some = some_copied c.get-found.result ∙ sym c.is_some.ensures ∙ c.if-is_some.true in
    found_first c.args.o c.deref-table-items.result.now c.loop-table.table-index c.table-item.result (option_copied c.get-found.result)
    c.loop-table-test.true
    c.loop-table.invariant.missing c.table-item.is some c.get-found.ensures c.loop-table.invariant.apart
    ∙ ap (λ rows. frozen_at rows c.args.o) c.loop-table.invariant.whole

pub returns-then-is_some-clause-rising : goal.returns-then-is_some-clause-rising
returns-then-is_some-clause-rising c =
    subst RiseByName c.loop-table.invariant.whole (risen_by_name (rows_of_tables c.deref-table-items.result.now)
    c.loop-table.invariant.apart)

pub returns-clause-found : goal.returns-clause-found
returns-clause-found c =
    found_nowhere c.args.o c.deref-table-items.result.now c.loop-table.table-index (omega (arith, c.loop-table-test.false))
    c.loop-table.invariant.missing c.loop-table.invariant.apart
    ∙ ap (λ rows. frozen_at rows c.args.o) c.loop-table.invariant.whole

pub returns-clause-rising : goal.returns-clause-rising
returns-clause-rising c =
    subst RiseByName c.loop-table.invariant.whole (risen_by_name (rows_of_tables c.deref-table-items.result.now)
    c.loop-table.invariant.apart)

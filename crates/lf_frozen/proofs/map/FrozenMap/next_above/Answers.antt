use Rattle.std.proofs.Common.{ap, arith, subst, sym, take, ◌+◌, ◌∙◌}
use Rattle.std.specs.Option.{option_copied}
use Rattle.lf_frozen.specs.Entries.{Apart, put_by_name, rows_of_tables}
use Rattle.lf_frozen.specs.FrozenRows.{RiseByName, next_frozen}
use Rattle.lf_frozen.proofs.NextRows.{IsNext}
use Rattle.lf_frozen.proofs.RisenRows.{risen_by_name}
use Rattle.lf_frozen.proofs.TableLists.{next_more, next_of_all}
use Rattle.lf_frozen.proofs.map.FrozenMap.next_above.Goals as goal

pub loop-table-init : goal.loop-table-init
loop-table-init c = record {
  next = λ y m. absurd m;
  whole = ap (λ tables. put_by_name (rows_of_tables tables)) c.deref-table-items.ensures.value ∙ c.self.view_is;
  apart = subst (λ tables. Apart (rows_of_tables tables)) (sym c.deref-table-items.ensures.value) c.self.invariant;
}

pub loop-table-preserved : goal.loop-table-preserved
loop-table-preserved c = record {
  next = subst (IsNext (rows_of_tables (take (c.loop-table.table-index + 1) c.deref-table-items.result.now)) c.args.after)
      (sym c.lesser-next.ensures)
      (next_more c.args.after c.deref-table-items.result.now c.loop-table.table-index c.table-item.result (option_copied c.loop-table.next)
      (option_copied c.next_above.result) c.loop-table-test.true
      c.loop-table.invariant.next (subst RiseByName c.table-item.is c.next_above.ensures.rising)
      (c.next_above.ensures.next ∙ ap (λ rows. next_frozen rows c.args.after) c.table-item.is));
  whole = c.loop-table.invariant.whole;
  apart = c.loop-table.invariant.apart;
}

pub returns-clause-next : goal.returns-clause-next
returns-clause-next c =
    next_of_all c.args.after c.deref-table-items.result.now c.loop-table.table-index (option_copied c.loop-table.next)
    (omega (arith, c.loop-table-test.false))
    c.loop-table.invariant.next c.loop-table.invariant.apart
    ∙ ap (λ rows. next_frozen rows c.args.after) c.loop-table.invariant.whole

pub returns-clause-rising : goal.returns-clause-rising
returns-clause-rising c =
    subst RiseByName c.loop-table.invariant.whole (risen_by_name (rows_of_tables c.deref-table-items.result.now)
    c.loop-table.invariant.apart)

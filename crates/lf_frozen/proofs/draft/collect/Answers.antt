use Rattle.std.proofs.Common.{ap, drop, map, sym, ◌+◌, ◌++◌, ◌∙◌}
use Rattle.std.proofs.lemmas.List.{append_assoc}
use Rattle.lf_frozen.specs.Entries.{row_behind, rows_of_tables}
use Rattle.lf_frozen.proofs.TableLists.{rows_left}
use Rattle.lf_frozen.proofs.draft.collect.Goals as goal

pub loop-table-preserved : goal.loop-table-preserved
loop-table-preserved c =
    let tables = c.args.tables.now in
    let i = c.loop-table.table-index in
    record {
      rows = λ own.
          let before = map (row_behind own) c.loop-table.entries.items in
          ap (λ l. l ++ rows_of_tables (drop (i + 1) tables)) (c.in_ok-add_to.ensures.rows own)
          ∙ append_assoc before c.table-item.result (rows_of_tables (drop (i + 1) tables))
          ∙ ap (λ l. before ++ l) (sym (rows_left tables i c.table-item.result c.loop-table-test.true c.table-item.is))
          ∙ c.loop-table.invariant.rows own;
      leads = λ own h. c.in_ok-add_to.ensures.leads own (c.loop-table.invariant.leads own h);
    }

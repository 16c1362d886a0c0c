use Rattle.std.proofs.Common.{ap, arith, drop, length, map, rules, subst, sym, ◌++◌, ◌-◌, ◌∙◌, ◌≡◌}
use Rattle.std.specs.Arc.{arc_value}
use Rattle.std.specs.List.{All}
use Rattle.std.specs.List.Sorted.{IsPermutation}
use Rattle.std.proofs.lemmas.List.{length-drop, take_all}
use Rattle.std.proofs.lemmas.List.Sorted.{answers_always}
use Rattle.lf_frozen.specs.declared.entry.RowEntry.{RowEntry}
use Rattle.lf_frozen.specs.Entries.{EntriesRise, LeadsToRow, row_behind, rows_of_tables}
use Rattle.lf_frozen.proofs.Drafts.{sorted_all, sorted_leads, sorted_rise}
use Rattle.lf_frozen.proofs.draft.Draft.of.Goals as goal

pub returns : goal.returns
returns c =
    let rows = c.args.rows.now in
    let tables = c.args.tables.now.items in
    let kept = c.count_kept-kept.result in
    let found = c.collect.new.entries.items in
    let sorted = c.sort_by_key.new.self.items in
    let moved = c.in_ok-sort_by_key.ensures.permutation in
    let leads = c.in_ok-collect.ensures.leads rows c.in_ok-entries.ensures.leads in
    let all : map (row_behind rows) found ≡ rows ++ rows_of_tables (drop kept tables) =
    c.in_ok-collect.ensures.rows rows
    ∙ ap (λ l. map (row_behind rows) c.in_ok-entries.entries.items ++ rows_of_tables l)
    (take_all (length c.deref.result.now - kept) (drop kept c.deref.result.now) (omega (arith, length-drop kept c.deref.result.now)))
    ∙ ap (λ l. l ++ rows_of_tables (drop kept c.deref.result.now)) c.in_ok-entries.ensures.rows
    ∙ ap (λ l. rows ++ rows_of_tables (drop kept l)) c.deref.ensures.value in
    let there : (arc_value c.in_ok-new.field-0).items ≡ sorted = ap (λ v. v.items) c.in_ok-new.ensures.ok in
    record {
      leads = subst (All (LeadsToRow rows)) (sym there) (sorted_leads rows tables kept found sorted moved leads all c.requires);
      rising = subst EntriesRise (sym there) (sorted_rise rows tables kept found sorted moved leads all c.requires
          (c.in_ok-sort_by_key.ensures.sorted (λ (e : RowEntry). e.name) (answers_always _ _ _ (λ f a r g h. search rules))));
      all = subst (λ es. IsPermutation (rows ++ rows_of_tables tables)
          (rows_of_tables c.in_ok-share_first.field-0.items ++ map (row_behind rows) es))
          (sym there)
          (subst (λ ts. IsPermutation (rows ++ rows_of_tables tables) (rows_of_tables ts ++ map (row_behind rows) sorted))
          (sym c.in_ok-share_first.ensures.tables)
          (sorted_all rows tables kept found sorted moved leads all c.requires));
      room = c.in_ok-share_first.ensures.room;
    }

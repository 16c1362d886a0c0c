use Rattle.std.proofs.Common.{None, ap, arith, length, subst, sym, ◌+◌, ◌<◌, ◌∙◌, ◌≡◌, ◌∷◌, []}
use Rattle.std.proofs.lemmas.List.{length-append}
use Rattle.lf_base.specs.declared.values.Owner.TheVariants.{In}
use Rattle.lf_base.specs.Links.{head_or}
use Rattle.lf_graph.specs.FlatRows.{chain_of}
use Rattle.lf_graph.proofs.FlatStores.PartRows.{Copying, all_copied, fewer, is_part, next_there, no_row_copied, one_row_copied, owner_of_next}
use Rattle.lf_graph.proofs.flat_part.copied_rows.Goals as goal

pub loop-next-init : goal.loop-next-init
loop-next-init c flat =
    subst (λ n. Copying c.args.chains.now c.args.cells.now flat c.args.region c.new-rows.result n) (sym (c.first-next.ensures (chain_of c.args.chains.now) flat.chains))
    (subst (λ l. Copying c.args.chains.now c.args.cells.now flat c.args.region l (head_or (chain_of c.args.chains.now (In c.args.region)) None)) (sym c.new-rows.ensures) (no_row_copied c.args.chains.now c.args.cells.now flat c.args.region))

pub copied_row-requires-clause-there : goal.copied_row-requires-clause-there
copied_row-requires-clause-there c = next_there c.args.chains.now c.args.cells.now c.requires.flat c.args.region c.loop-next.rows c.loop-next.next c.in-Some.o (c.loop-next.invariant c.requires.flat) c.in-Some.is

pub loop-next-smaller : goal.loop-next-smaller
loop-next-smaller c =
    let l : length c.loop-next.rows < length (chain_of c.args.chains.now (In c.args.region)) = fewer c.args.chains.now c.args.cells.now c.requires.flat c.args.region c.loop-next.rows c.loop-next.next c.in-Some.o (c.loop-next.invariant c.requires.flat) c.in-Some.is in
    let n : length c.push.new.self ≡ length c.loop-next.rows + 1 = ap length c.in-Ok.ensures.ok ∙ length-append c.loop-next.rows (c.in_ok-row.row ∷ []) in
    grind arith

pub loop-next-preserved : goal.loop-next-preserved
loop-next-preserved c flat =
    subst (λ l. Copying c.args.chains.now c.args.cells.now flat c.args.region l c.next-next.result) (sym c.in-Ok.ensures.ok)
    (one_row_copied c.args.chains.now c.args.cells.now flat c.args.region c.loop-next.rows c.loop-next.next c.in-Some.o (c.loop-next.invariant flat) c.in-Some.is c.in_ok-row.row c.next-next.result c.in_ok-row.ensures.copy c.in_ok-row.ensures.part
    (c.next-next.ensures (chain_of c.args.chains.now) flat.chains (In c.args.region) (owner_of_next c.args.chains.now c.args.cells.now flat c.args.region c.loop-next.rows c.loop-next.next c.in-Some.o (c.loop-next.invariant flat) c.in-Some.is)))

pub returns-clause-copy : goal.returns-clause-copy
returns-clause-copy c = all_copied c.args.chains.now c.args.cells.now c.requires.flat c.args.region c.loop-next.rows (subst (Copying c.args.chains.now c.args.cells.now c.requires.flat c.args.region c.loop-next.rows) c.in_default.is (c.loop-next.invariant c.requires.flat))

pub returns-clause-part : goal.returns-clause-part
returns-clause-part c = is_part c.args.chains.now c.args.cells.now c.requires.flat c.args.region c.loop-next.rows (subst (Copying c.args.chains.now c.args.cells.now c.requires.flat c.args.region c.loop-next.rows) c.in_default.is (c.loop-next.invariant c.requires.flat))

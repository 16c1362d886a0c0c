use Rattle.std.proofs.Common.{◌++◌, length, sym, ap, ◌∙◌}
use Rattle.lf_parser.specs.Plain.{plain_expr, plain_block, plain_stmt, no_stmts}
use Rattle.lf_parser.specs.Plain as plain
use Rattle.lf_codegen.specs.GeneratedCode.{stmt_code}
use Rattle.lf_emit.proofs.StatementForms.{on_ok, plain_if, plain_while, if_alone_code, if_both_code, while_code}
use Rattle.lf_emit.proofs.statements.+statements.Goals as goal

pub emit_stmt-returns-then-is_none : goal.emit_stmt-returns-then-is_none
emit_stmt-returns-then-is_none g t c =
    let s = g.N.Numbering.source c.args.names.now in
    let vars = g.N.Numbering.vars c.args.names.now in
    let a = c.args.out.now.items in
    let line = c.in-If.line in
    let test = plain_expr c.in-If.test in
    on_ok c.land_unless.result (λ h.
    if_alone_code s vars line test (plain_block c.as_slice-first.result.now) (plain_block c.as_slice-second.result.now)
    a c.ticked.new.out.items c.open.new.out.items c.emit_stmts.new.out.items c.in_ok-at-in-If.at
    c.in_ok-at-in-If.ensures.code c.in_ok-at-in-If.ensures.at c.in_ok-emit_stmts-in-If.ensures
    c.land_unless.new.out.items c.in_ok-ticked-in-If.ensures (sym c.if-is_none.true ∙ c.is_none.ensures) h
    ∙ ap (λ st. a ++ stmt_code s vars st (length a))
    (ap (λ b. plain.If line test (plain_block b) (plain_block c.as_slice-second.result.now)) c.as_slice-first.ensures
    ∙ ap (λ b. plain.If line test (plain_block c.in-If.yes) (plain_block b)) c.as_slice-second.ensures
    ∙ plain_if line c.in-If.test c.in-If.yes c.in-If.no ∙ sym (ap plain_stmt c.in-If.is)))
    c.land_unless.ensures

pub emit_stmt-returns-in_ok-emit_stmts-in-If-2 : goal.emit_stmt-returns-in_ok-emit_stmts-in-If-2
emit_stmt-returns-in_ok-emit_stmts-in-If-2 g t c =
    let s = g.N.Numbering.source c.args.names.now in
    let vars = g.N.Numbering.vars c.args.names.now in
    let a = c.args.out.now.items in
    let line = c.in-If.line in
    let test = plain_expr c.in-If.test in
    on_ok c.land_jump.result (λ h.
    if_both_code s vars line test (plain_block c.as_slice-first.result.now) (plain_block c.as_slice-second.result.now)
    a c.ticked.new.out.items c.open.new.out.items c.emit_stmts.new.out.items c.in_ok-at-in-If.at
    c.in_ok-at-in-If.ensures.code c.in_ok-at-in-If.ensures.at c.in_ok-emit_stmts-in-If.ensures
    c.turn.new.out.items c.emit_stmts-in-If.new.out.items c.land_jump.new.out.items c.in_ok-skip-in-If.skip
    c.in_ok-ticked-in-If.ensures (sym c.if-is_none.false
    ∙ c.is_none.ensures) c.in_ok-skip-in-If.ensures.code c.in_ok-skip-in-If.ensures.at c.in_ok-emit_stmts-in-If-2.ensures h
    ∙ ap (λ st. a ++ stmt_code s vars st (length a))
    (ap (λ b. plain.If line test (plain_block b) (plain_block c.as_slice-second.result.now)) c.as_slice-first.ensures
    ∙ ap (λ b. plain.If line test (plain_block c.in-If.yes) (plain_block b)) c.as_slice-second.ensures
    ∙ plain_if line c.in-If.test c.in-If.yes c.in-If.no ∙ sym (ap plain_stmt c.in-If.is)))
    c.land_jump.ensures

pub emit_stmt-returns-in_ok-emit_stmts-in-While : goal.emit_stmt-returns-in_ok-emit_stmts-in-While
emit_stmt-returns-in_ok-emit_stmts-in-While g t c =
    let s = g.N.Numbering.source c.args.names.now in
    let vars = g.N.Numbering.vars c.args.names.now in
    let a = c.args.out.now.items in
    let line = c.in-While.line in
    let test = plain_expr c.in-While.test in
    on_ok c.go_round.result (λ h.
    while_code s vars line test (plain_block c.as_slice-turns.result.now) no_stmts
    a c.ticked-in-While.new.out.items c.open-in-While.new.out.items c.emit_stmts-in-While.new.out.items c.in_ok-at-in-While.at
    c.in_ok-at-in-While.ensures.code c.in_ok-at-in-While.ensures.at c.in_ok-emit_stmts-in-While.ensures
    c.put-in-While.new.out.items c.go_round.new.out.items c.in_ok-top-in-While.top
    c.in_ok-put-in-While.ensures c.in_ok-top-in-While.ensures c.in_ok-ticked-in-While.ensures h
    ∙ ap (λ st. a ++ stmt_code s vars st (length a))
    (ap (λ b. plain.While line test (plain_block b)) c.as_slice-turns.ensures ∙ plain_while line c.in-While.test c.in-While.body
    ∙ sym (ap plain_stmt c.in-While.is)))
    c.go_round.ensures

use Rattle.std.proofs.Common.{◌∙◌, ap, sym}
use Rattle.lf_codegen.specs.Frames.{is_among}
use Rattle.lf_codegen.proofs.NameTables.SetsOfNames.{among_again, old_name, with_old}
use Rattle.lf_codegen.proofs.variables.DistinctNames.add.Goals as goal

pub returns-then-not-branch : goal.returns-then-not-branch
returns-then-not-branch c names once =
    let h = old_name names c.args.name c.in_ok-add.field-0 (c.in_ok-add.ensures.is_new names once.seen) c.if-not-branch.true in
    let e = sym (with_old names c.args.name h) in
    record {
      names_are = once.names_are ∙ e;
      seen = λ id. c.in_ok-add.ensures.has names once.seen id ∙ among_again id names c.args.name h
          ∙ ap (is_among id) e;
    }

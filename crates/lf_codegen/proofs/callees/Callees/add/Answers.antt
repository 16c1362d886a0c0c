use Rattle.std.proofs.Common.{◌∙◌, ap, sym, is_some, Some, cond, length}
use Rattle.std.specs.HashMap.{get}
use Rattle.lf_parser.specs.Plain.{plain_function}
use Rattle.lf_base.specs.Texts.{same_text}
use Rattle.lf_codegen.proofs.NameTables.FunctionTables.{function_added, function_kept}
use Rattle.lf_codegen.proofs.callees.Callees.add.Goals as goal

pub returns-in_ok-insert : goal.returns-in_ok-insert
returns-in_ok-insert c texts fs knows =
    let f = plain_function c.args.function.now in
    record {
      texts_are = knows.texts_are;
      params_are = λ id. c.in_ok-insert.ensures.updates.0 id
          ∙ ap (λ n. cond (same_text f.name.id id) (Some n) (get same_text c.args.self.now.params id)) c.len.ensures
          ∙ ap (cond (same_text f.name.id id) (Some (length f.params))) (knows.params_are id)
          ∙ function_added fs f id (ap is_some (sym (knows.params_are f.name.id)) ∙ sym c.if-not-contains_key.ensures);
    }

pub returns-else-not-contains_key : goal.returns-else-not-contains_key
returns-else-not-contains_key c texts fs knows =
    let f = plain_function c.args.function.now in
    record {
      texts_are = knows.texts_are;
      params_are = λ id. knows.params_are id
          ∙ function_kept fs f id (ap is_some (sym (knows.params_are f.name.id)) ∙ sym c.if-not-contains_key.ensures);
    }

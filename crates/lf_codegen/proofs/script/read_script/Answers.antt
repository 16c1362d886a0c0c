use Rattle.std.proofs.Common.{rules}
use Rattle.lf_parser.specs.Plain.{plain_tree}
use Rattle.lf_codegen.specs.ScriptReading.{IsParsed}
use Rattle.lf_codegen.proofs.Answering.Reasons.{names_fail}
use Rattle.lf_codegen.proofs.script.read_script.Goals as goal

pub parse-requires : goal.parse-requires
parse-requires c = c.spelled_tokens_are_readable.ensures c.in_ok-lexed.lexed.tokens c.in_ok-lexed.lexed.texts
    (record { bytes = c.args.bytes.now; short = c.requires; spelled = c.in_ok-lexed.ensures.spelled })

pub returns-in_err-resolved-clause-refused : goal.returns-in_err-resolved-clause-refused
returns-in_err-resolved-clause-refused c =
    let parsed : IsParsed c.args.bytes.now c.in_ok-lexed.lexed.texts (plain_tree c.in_ok-tree.tree) =
    record { tokens = c.in_ok-lexed.lexed.tokens; spelled = c.in_ok-lexed.ensures.spelled; derived = c.in_ok-tree.ensures.tree } in
    let h = names_fail c.args.bytes.now c.in_ok-lexed.lexed.texts (plain_tree c.in_ok-tree.tree) c.in_err-resolved.field-0.0 parsed
    c.in_err-resolved.ensures.refused in
    search rules

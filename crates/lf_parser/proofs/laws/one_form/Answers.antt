use Rattle.lf_parser.proofs.Refusals.LawsOfTrees.{fields_by_text, elif_alone}
use Rattle.lf_parser.proofs.laws.one_form.Goals as goal

pub returns : goal.returns
returns c = record { fields = fields_by_text; elifs = elif_alone }

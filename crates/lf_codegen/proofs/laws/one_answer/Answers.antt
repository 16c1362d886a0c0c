use Rattle.lf_codegen.proofs.Answering.OneAnswer.{parsed_texts, parsed_tree, read_texts, read_tree, refused_once, read_not_refused}
use Rattle.lf_codegen.proofs.laws.one_answer.Goals as goal

pub returns : goal.returns
returns c = record {
  texts = parsed_texts;
  tree = parsed_tree;
  read_texts = read_texts;
  read_tree = read_tree;
  refusal = refused_once;
  read_or_refused = read_not_refused;
}

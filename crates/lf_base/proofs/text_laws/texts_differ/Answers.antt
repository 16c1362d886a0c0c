use Rattle.lf_base.proofs.TextLemmas.TextLists.{Differ-fixed_texts, Differ-with_text}
use Rattle.lf_base.proofs.text_laws.texts_differ.Goals as goal

pub returns-clause-first : goal.returns-clause-first
returns-clause-first c = Differ-fixed_texts

pub returns-clause-with_one : goal.returns-clause-with_one
returns-clause-with_one c = Differ-with_text

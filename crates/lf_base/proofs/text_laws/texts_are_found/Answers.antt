use Rattle.lf_base.proofs.TextLemmas.TextLists.{place_of-text_at}
use Rattle.lf_base.proofs.text_laws.texts_are_found.Goals as goal

pub returns : goal.returns
returns c = place_of-text_at

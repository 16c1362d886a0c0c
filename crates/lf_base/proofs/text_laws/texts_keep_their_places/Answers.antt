use Rattle.std.proofs.Common.{◌∙◌, ap, sym}
use Rattle.lf_base.specs.Texts.{with_text, text_at}
use Rattle.lf_base.proofs.TextLemmas.TextLists.{grows_self, list_any-with_text, place_of_grows, place_of-with_text, text_at-place_of}
use Rattle.lf_base.proofs.text_laws.texts_keep_their_places.Goals as goal

pub returns-clause-found : goal.returns-clause-found
returns-clause-found c texts text =
    let added = with_text texts text in
    ap (text_at added) (sym (place_of-with_text texts added text (grows_self added)))
    ∙ text_at-place_of added text (list_any-with_text texts text)

pub returns-clause-kept : goal.returns-clause-kept
returns-clause-kept c = place_of_grows

use Rattle.lf_lexer.proofs.TokenLaws.Named.{tokens_named, texts_begin, texts_differ}
use Rattle.lf_lexer.proofs.laws.spelled_texts_are_named.Goals as goal

pub returns-clause-fixed : goal.returns-clause-fixed
returns-clause-fixed c = texts_begin

pub returns-clause-differ : goal.returns-clause-differ
returns-clause-differ c = texts_differ

pub returns-clause-named : goal.returns-clause-named
returns-clause-named c = tokens_named

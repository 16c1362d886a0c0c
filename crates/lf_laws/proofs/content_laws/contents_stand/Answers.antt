use Rattle.lf_laws.proofs.Contents.ContentsStand.{content_stands, more_stands}
use Rattle.lf_laws.proofs.content_laws.contents_stand.Goals as goal

pub returns-clause-ended : goal.returns-clause-ended
returns-clause-ended d e b c t new here = content_stands e t b c here new.no_object new.no_cown

pub returns-clause-more : goal.returns-clause-more
returns-clause-more d = more_stands

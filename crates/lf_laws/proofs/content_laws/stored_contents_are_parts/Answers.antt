use Rattle.lf_laws.proofs.Contents.ContentsReturn.{end_is, parted_is}
use Rattle.lf_laws.proofs.content_laws.stored_contents_are_parts.Goals as goal

pub returns-clause-parts : goal.returns-clause-parts
returns-clause-parts c = parted_is

pub returns-clause-end : goal.returns-clause-end
returns-clause-end c b cs frozen m stands = end_is b cs frozen m.whole stands m.all_stay

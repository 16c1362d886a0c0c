use Rattle.lf_laws.proofs.Contents.ContentsReturn.{each_alone, may_begin}
use Rattle.lf_laws.proofs.content_laws.contents_come_back.Goals as goal

pub returns-clause-begin : goal.returns-clause-begin
returns-clause-begin c e b cs t all new among differ = may_begin e t all b new cs among differ

pub returns-clause-alone : goal.returns-clause-alone
returns-clause-alone c e b cs t all new among differ = each_alone e t all b new cs among differ

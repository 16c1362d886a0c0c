use Rattle.lf_laws.proofs.Contents.StoredContents.{contents_begin}
use Rattle.lf_laws.proofs.content_laws.contents_stand_together.Goals as goal

pub returns : goal.returns
returns c = contents_begin

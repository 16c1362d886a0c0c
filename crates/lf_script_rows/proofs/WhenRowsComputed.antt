-- The rows, computed.
use Rattle.std.proofs.Common.{[], ap, length, refl}
use Rattle.std.specs.Fmt.{digits}
use Rattle.lf_script_rows.specs.WhenRows.{FrozenCaptureRuns, OneCownTwiceRuns, NamedAgainRuns, FaultKeepsWritesRuns, MovedContentRuns}
use Rattle.lf_codegen.proofs.Following.Whole.{code_means_tree}
use Rattle.lf_script_rows.specs.RowForms.{main_job}
use Rattle.lf_script_rows.specs.WhenRows.{BodyReturnsRuns, AccountsRuns, EndlessWhensRuns, endless_whens_script}

pub frozen_capture_shows : FrozenCaptureRuns
unfolding digits
frozen_capture_shows = (((refl, refl), (refl, refl)), ((refl, refl, refl), (refl, refl, refl)))

pub one_cown_twice_shows : OneCownTwiceRuns
unfolding digits
one_cown_twice_shows = (((refl, refl), (refl, refl)), ((refl, refl, refl), (refl, refl, refl)))

pub named_again_shows : NamedAgainRuns
unfolding digits
named_again_shows = ((refl, refl), (refl, refl))

pub fault_keeps_writes_shows : FaultKeepsWritesRuns
unfolding digits
fault_keeps_writes_shows = (
  ((refl, refl), (refl, refl)),
  ((refl, refl, refl), (refl, refl, refl)),
  ((refl, refl, refl), (refl, refl, refl)),
)

pub moved_content_shows : MovedContentRuns
unfolding digits
moved_content_shows = (((refl, refl), (refl, refl)), ((refl, refl, refl), (refl, refl, refl)))

pub body_returns_shows : BodyReturnsRuns
unfolding digits
body_returns_shows = ((refl, refl, refl), (refl, refl, refl))

pub accounts_shows : AccountsRuns
unfolding digits
accounts_shows = (((refl, refl), (refl, refl)), ((refl, refl, refl), (refl, refl, refl)), ((refl, refl, refl), (refl, refl, refl)))

pub endless_whens_shows : EndlessWhensRuns
unfolding digits
endless_whens_shows = (
  ((refl, refl), (refl, refl)),
  refl,
  ap (λ r. length r.spawns) (code_means_tree endless_whens_script 1000000 main_job [] []),
)

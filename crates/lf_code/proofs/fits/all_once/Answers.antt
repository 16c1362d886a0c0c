use Rattle.std.proofs.Common.{[], sym, ◌∙◌}
use Rattle.lf_code.proofs.Checks.NewNumbers.{both_lists, first_list_fails}
use Rattle.lf_code.proofs.fits.all_once.Goals as goal
use Rattle.lf_code.proofs.fits.all_once.Goals.{else-branch, then-branch+in_ok-add_new-2}

pub returns : goal.returns
returns c =
    let first = c.in_ok-add_new.ensures [] c.new-named.ensures in
    elim c.if-branch.branch [
      | then-branch+in_ok-add_new-2 w ↦
          w.result-is ∙ (w.in_ok-add_new-2.ensures c.args.captures.now (first.1 w.if-branch.true)).0
          ∙ both_lists c.args.cowns.now c.args.captures.now (sym first.0 ∙ w.if-branch.true)
      | else-branch w ↦ w.result-is ∙ w.if-branch.false
          ∙ first_list_fails c.args.cowns.now c.args.captures.now (sym first.0 ∙ w.if-branch.false)
    ]

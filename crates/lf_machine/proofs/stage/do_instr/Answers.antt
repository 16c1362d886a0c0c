use Rattle.std.proofs.Common.{length, subst, true, ◌≡◌}
use Rattle.lf_code.specs.declared.instr.Instr.{Instr}
use Rattle.lf_code.specs.ValidCode.{instr_fits}
use Rattle.lf_machine.proofs.Standing.ValidParts.{params_within}
use Rattle.lf_machine.proofs.stage.do_instr.Goals as goal

pub call-requires-clause-params : goal.call-requires-clause-params
call-requires-clause-params g c κs within =
    let code = c.args.code.now in
    let ready = c.requires.ready in
    params_within code c.known_valid.ensures c.in-Call.body c.in-Call.count
    (subst (λ (i : Instr). instr_fits code.bodies (length code.texts) ready.vars ready.addresses i ≡ true) c.in-Call.is ready.fits)

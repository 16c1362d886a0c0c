use Rattle.std.proofs.Common.{ap, arith, length, ◌+◌, ◌∙◌, ◌≡◌}
use Rattle.lf_code.specs.Prints.{bytes_of}
use Rattle.lf_machine.proofs.Operands.PrintedBytes.{printed_more}
use Rattle.lf_machine.proofs.progress.Progress.print.Goals as goal

pub invariant_of-self-2 : goal.invariant_of-self-2
invariant_of-self-2 g c =
    let lines = c.self.inside.lines in
    let more : bytes_of c.push.new.self ≡ bytes_of lines + (length c.from_vec.result + 1) = ap bytes_of c.in-Ok.ensures.ok ∙ printed_more lines c.from_vec.result in
    let long : length c.from_vec.result ≡ length c.in_ok-line.line.items = ap length c.from_vec.ensures in
    (omega (arith, more, long, c.len-bytes.ensures, c.in_ok-line.line.ok, c.self.invariant.0), omega (arith, c.if-bytes-self.false, c.self.invariant.1))

use Rattle.std.proofs.Common.{arith}
use Rattle.lf_outside.proofs.Moves.{piece_read}
use Rattle.lf_outside.proofs.transfer.read_piece.Goals as goal

pub returns-clause-bytes : goal.returns-clause-bytes
returns-clause-bytes g c =
    piece_read _ _ c.read.result c.args.at _ c.args.buffer.now c.read.new.buffer (omega arith) c.read.ensures.bound c.read.ensures.bytes

use Rattle.std.proofs.Common.{arith}
use Rattle.lf_settle.proofs.RowsDropped.FieldsDropped.{units_are_room}
use Rattle.lf_settle.proofs.laws.room_lasts.Goals as goal

pub returns-clause-room : goal.returns-clause-room
returns-clause-room c s t from v work = units_are_room s t from v work

pub returns-clause-after : goal.returns-clause-after
returns-clause-after c s t old new loses sum room = omega (arith, loses.paid, sum, room)

use Rattle.lf_transfer.proofs.RegionsBelow.FoundBridges.{bridge_told, child_row, finds_one, room_for}
use Rattle.lf_transfer.proofs.below.look_at.Goals as goal

pub put-requires : goal.put-requires
put-requires g c =
    let rows = g.S.Store.rows c.args.store.now in
    let bridge = bridge_told rows c.args.q c.args.o c.owner.result c.is_bridge_of_other.result c.owner.ensures.owner c.is_bridge_of_other.ensures c.if-is_bridge_of_other.true in
    record { room = room_for rows c.args.below.now c.requires.room c.args.o (child_row rows c.args.q c.args.o bridge) }

pub returns-then-is_bridge_of_other : goal.returns-then-is_bridge_of_other
returns-then-is_bridge_of_other g c =
    let rows = g.S.Store.rows c.args.store.now in
    let bridge = bridge_told rows c.args.q c.args.o c.owner.result c.is_bridge_of_other.result c.owner.ensures.owner c.is_bridge_of_other.ensures c.if-is_bridge_of_other.true in
    finds_one rows c.args.q c.args.o c.args.below.now c.put.new.names bridge c.put.ensures.names c.put.ensures.capacity

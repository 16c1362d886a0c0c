-- A write of a field: the room that it needs, and which edges are counted between its calls.
pub mod InsideWrite
pub mod PlanRoom
pub mod RoomHere

-- How many slots a heap has, and room for how many more.
use Rattle.std.specs.Prelude.{length, ℕ, ◌≡◌, ◌≤◌}
use Rattle.lf_heap.specs.Heaps.{Domain}

-- so many slots, and room for at least so many more
pub record HasSlots (heap : Domain) (slots room : ℕ) : Type 0 where
  pub as_many : length heap.state.slots ≡ slots
  pub spare : room ≤ heap.spare

-- A walk over code along all its ways: what it has seen of the operands at each address, and what it has still to follow.
use Rattle.std.specs.Prelude.{Bool, List, Option, Some, count_by, false, is_some, length, not, slice_get, true, ℕ, ◌+◌, ◌-◌, ◌≡◌, ◌≤◌, ◌⊎◌}
use Rattle.lf_base.specs.Sets.{Member}
use Rattle.lf_code.specs.declared.body.Placed.{Placed}
use Rattle.lf_code.specs.Operations.{HasOperands, IsReached, Way, needs, way, ways}

-- so many operands were seen at that address
abbrev pub IsSeen : List (Option ℕ) → ℕ → ℕ → Type 0
IsSeen counts at d = slice_get counts at ≡ Some (Some d)

-- addresses without a number
abbrev pub unseen : List (Option ℕ) → ℕ
unseen counts = count_by (λ c. not (is_some c)) counts

-- what is left to do: addresses that may still be seen, and those whose ways are to be followed
abbrev pub left_over : List (Option ℕ) → List ℕ → ℕ
left_over counts left = unseen counts + length left

-- what was seen is reached; the ways of each address that was seen, and isn't left, were seen or are pending, and it has operands
-- enough; and the start was seen or is pending
pub record OperandWalk (list : List Placed) (counts : List (Option ℕ)) (left : List ℕ) (pending : List Way) : Type 0 where
  pub sized : length counts ≡ length list
  pub reached : (at d : ℕ) → IsSeen counts at d → IsReached list at d
  pub few : (at d : ℕ) → IsSeen counts at d → d + unseen counts ≤ length list
  pub seen : (at : ℕ) → Member at left → (d : ℕ) × IsSeen counts at d
  pub start : IsSeen counts 0 0 ⊎ Member (way 0 0) pending
  pub enough : (at d : ℕ) (i : Placed) → IsSeen counts at d → slice_get list at ≡ Some i → Member at left ⊎ (needs i.instr ≤ d)
  pub onward : (at d : ℕ) (i : Placed) (w : Way) → IsSeen counts at d → slice_get list at ≡ Some i
      → Member w (ways i.instr at (d - needs i.instr)) → Member at left ⊎ (IsSeen counts w.to w.operands ⊎ Member w pending)
  pub coming : (w : Way) → Member w pending → IsReached list w.to w.operands
  pub low : (w : Way) → Member w pending → w.operands + unseen counts ≤ length list + 1

-- the walk goes on, or the code hasn't one number of operands, and enough, at each address
abbrev pub Answers : List Placed → List (Option ℕ) → List ℕ → List Way → Bool → Type 0
Answers list counts left pending true = OperandWalk list counts left pending
Answers list counts left pending false = HasOperands list → ⊥

-- What a contract sees of a pool of cells.
use Rattle.std.specs.Prelude.{◌≡◌, ◌+◌, ◌-◌, ◌<◌, ℕ, false, true, eqb, List, Option, Some, None, length, min}
use Rattle.lf_pool.specs.declared.cell.TheConstants.{NONE}
use Rattle.lf_pool.specs.declared.cell.Cell.{Cell}
use Rattle.lf_pool.specs.Cells.{Covered, IsChain, IsChainAt, link_at, node}
use Rattle.lf_base.specs.Links.{has, head_or}

module _ {T : Type 0} where
  -- so many cells of a vector can be taken
  abbrev pub room : List (Cell T) → ℕ → ℕ → ℕ
  room cells capacity free_cells = free_cells + (min capacity NONE - length cells)

-- the cells, the first cell of the free chain, and how many cells can be taken without memory
pub record PoolView (T : Type 0) : Type 0 where
  pub cells : List (Cell T)
  pub free : ℕ
  pub spare : ℕ

module _ {T : Type 0} where
  -- the chain that begins at that cell, which isn't the free one
  abbrev pub Chain : PoolView T → ℕ → List ℕ → Type 0
  Chain p c xs = IsChainAt (link_at p.cells) c xs × (eqb c p.free ≡ false)

  -- what is left of a chain, which begins at that cell, where it has cells
  pub record IsLeft (p : PoolView T) (first : Option ℕ) (xs : List ℕ) : Type 0 where
    pub chain : IsChain (link_at p.cells) xs
    pub begins : head_or xs None ≡ first
    pub live : (c : ℕ) → first ≡ Some c → eqb c p.free ≡ false

  -- each cell lies in exactly one chain; one of them, which may be empty, is the free one, and shares no cell with any other
  pub record AreParts (p : PoolView T) : Type 0 where
    pub covered : (q : ℕ) → q < length p.cells → Covered (link_at p.cells) q
    pub one : (q : ℕ) → (xs ys : List ℕ) → IsChain (link_at p.cells) xs → IsChain (link_at p.cells) ys → has eqb q xs ≡ true → has eqb q ys ≡ true → xs ≡ ys
    pub free_chain : (fs : List ℕ) × IsChain (link_at p.cells) fs × (head_or fs None ≡ node p.free) × ((c : ℕ) → (xs : List ℕ) → Chain p c xs → (q : ℕ) → has eqb q xs ≡ true → has eqb q fs ≡ false)

-- Cells in chains, and the free chain among them.
use Rattle.std.specs.Prelude.{◌≡◌, ◌<◌, ◌≤◌, ℕ, true, cond, eqb, List, length, Option, Some, None, slice_get}
use Rattle.std.specs.Option.{option_map}
use Rattle.lf_base.specs.declared.links.Link.{Link}
use Rattle.lf_base.specs.Links.{NodesDiffer, LinksSpell, has, head_or, last_or, link, relinked}
use Rattle.lf_pool.specs.declared.cell.TheConstants.{NONE}
use Rattle.lf_pool.specs.declared.cell.Cell.{Cell}

-- the cell of a number, where it is one
abbrev pub node : ℕ → Option ℕ
node n = cond (eqb n NONE) None (Some n)

-- the cells of a chain: each leads to the next, the last one to none, and back, from the first to the last
pub record IsChain (get : ℕ → Option (Link ℕ)) (xs : List ℕ) : Type 0 where
  pub links : LinksSpell get (last_or None xs) xs None
  pub differ : NodesDiffer eqb xs

-- the chain that begins at that cell
abbrev pub IsChainAt : (ℕ → Option (Link ℕ)) → ℕ → List ℕ → Type 0
IsChainAt get c xs = IsChain get xs × (head_or xs None ≡ Some c)

-- that cell lies in a chain
abbrev pub Covered : (ℕ → Option (Link ℕ)) → ℕ → Type 0
Covered get q = (xs : List ℕ) × IsChain get xs × (has eqb q xs ≡ true)

module _ {T : Type 0} where
  -- the cells before and after one
  abbrev pub link_of : Cell T → Link ℕ
  link_of c = link (Some c.prev) (node c.next)

  -- the links of the cell at a place
  abbrev pub link_at : List (Cell T) → ℕ → Option (Link ℕ)
  link_at cells q = option_map link_of (slice_get cells q)

  -- the item of the cell at a place
  abbrev pub item_at : List (Cell T) → ℕ → Option T
  item_at cells q = option_map (λ (c : Cell T). c.item) (slice_get cells q)

  -- only the links of one cell change
  pub record Relinks (old new : List (Cell T)) (at : ℕ) (f : Link ℕ → Link ℕ) : Type 0 where
    pub links : (q : ℕ) → link_at new q ≡ relinked eqb (link_at old) (Some at) f q
    pub items : (q : ℕ) → item_at new q ≡ item_at old q
    pub size : length new ≡ length old

  -- each cell lies in a chain; one chain, which may be empty, is the free one and has so many cells
  pub record IsParted (cells : List (Cell T)) (free : ℕ) (count : ℕ) : Type 0 where
    pub few : length cells ≤ NONE
    pub covers : (q : ℕ) → q < length cells → (xs : List ℕ) × IsChain (link_at cells) xs × (has eqb q xs ≡ true)
    pub spare : (fs : List ℕ) × IsChain (link_at cells) fs × (head_or fs None ≡ node free) × (length fs ≡ count)

  -- each cell keeps its item
  abbrev pub SameItems : List (Cell T) → List (Cell T) → Type 0
  SameItems old new = (q : ℕ) → item_at new q ≡ item_at old q

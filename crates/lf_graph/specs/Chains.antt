-- Chains: the rows of each owner as a linked list, by the links that are kept with rows and the ends that are kept for owners.
use Rattle.std.specs.Prelude.{Bool, List, None, Option, Some, [], cond, false, ℕ, ◌++◌, ◌∷◌, ◌≡◌}
use Rattle.std.specs.Option.{option_map}
use Rattle.lf_base.specs.declared.ids.ObjId.{ObjId}
use Rattle.lf_base.specs.declared.values.Owner.{Owner}
use Rattle.lf_base.specs.Names.{same_name, same_owner}
use Rattle.lf_graph.specs.declared.cells.FieldEnds.{FieldEnds}
use Rattle.lf_graph.specs.declared.ends.Ends.{Ends}
use Rattle.lf_base.specs.declared.links.Link.{Link}
use Rattle.lf_graph.specs.declared.stored_row.Linked.{Linked}
use Rattle.lf_graph.specs.declared.stored_row.StoredRow.{StoredRow}
use Rattle.lf_base.specs.Links.{IsList, relinked, to_next, to_prev, without}

-- each row by its name, with the rows before and after it
abbrev pub HeadsAt : Type 0
HeadsAt = ObjId → Option Linked

-- the rows before and after a row
abbrev pub link_at : HeadsAt → ObjId → Option (Link ObjId)
link_at heads o = option_map (λ h. h.link) (heads o)

-- the row without its neighbours, where there is one
abbrev pub row_of_head : Option Linked → Option StoredRow
row_of_head head = option_map (λ (h : Linked). h.row) head

-- a row's owner, where there is one
abbrev pub owner_of_head : Option Linked → Option Owner
owner_of_head head = option_map (λ (r : StoredRow). r.owner) (row_of_head head)

-- the row of that name
abbrev pub linked_row_at : HeadsAt → ObjId → Option StoredRow
linked_row_at heads o = row_of_head (heads o)

-- a row's owner
abbrev pub linked_owner_at : HeadsAt → ObjId → Option Owner
linked_owner_at heads o = owner_of_head (heads o)

-- only the link of one row changes
pub record Relinks (old new : HeadsAt) (at : Option ObjId) (f : Link ObjId → Link ObjId) : Type 0 where
  pub links : (q : ObjId) → link_at new q ≡ relinked same_name (link_at old) at f q
  pub rows : (q : ObjId) → linked_row_at new q ≡ linked_row_at old q

-- only what comes after one row changes
abbrev pub RelinksNext : HeadsAt → HeadsAt → Option ObjId → Option ObjId → Type 0
RelinksNext old new at next = Relinks old new at (to_next next)

-- only what comes before one row changes
abbrev pub RelinksPrev : HeadsAt → HeadsAt → Option ObjId → Option ObjId → Type 0
RelinksPrev old new at prev = Relinks old new at (to_prev prev)

-- the owner found is that one
abbrev pub is_this_owner : Owner → Option Owner → Bool
is_this_owner w None = false
is_this_owner w (Some v) = same_owner v w

-- the ends with one more row at the end
abbrev pub owner_ends_with : ObjId → Option Ends → Option Ends
owner_ends_with o None = Some (record { first = o; last = o })
owner_ends_with o (Some t) = Some (record t { last = o })

-- the ends without the row between these two
abbrev pub owner_ends_without : Option ObjId → Option ObjId → Option Ends → Option Ends
owner_ends_without None None t = None
owner_ends_without None (Some n) t = option_map (λ (x : Ends). record x { first = n }) t
owner_ends_without (Some p) None t = option_map (λ (x : Ends). record x { last = p }) t
owner_ends_without (Some p) (Some n) t = t

-- the first row of an owner, where there is one
abbrev pub first_of : Option Ends → Option ObjId
first_of t = option_map (λ (x : Ends). x.first) t

-- the last row of an owner, where there is one
abbrev pub last_of : Option Ends → Option ObjId
last_of t = option_map (λ (x : Ends). x.last) t

module _ (heads : HeadsAt) (ends : Owner → Option Ends) where
  -- the rows of w are xs, in this order
  abbrev pub IsChain : Owner → List ObjId → Type 0
  IsChain w xs =
      IsList same_name (link_at heads) (first_of (ends w)) (last_of (ends w)) (λ q. is_this_owner w (linked_owner_at heads q)) xs

  -- the rows of each owner are its list, in this order
  abbrev pub AreChains : (Owner → List ObjId) → Type 0
  AreChains lists = (w : Owner) → IsChain w (lists w)

-- only what is found at o changes
abbrev pub OnlyRowAt : HeadsAt → HeadsAt → ObjId → Option Linked → Type 0
OnlyRowAt old new o v = (q : ObjId) → new q ≡ cond (same_name o q) v (old q)

-- only the row of that name changes, where there is one, and f says how
abbrev pub ChangesRowAt : HeadsAt → HeadsAt → ObjId → (Linked → Linked) → Type 0
ChangesRowAt old new o f = OnlyRowAt old new o (option_map f (old o))

-- a row with other neighbours
abbrev pub relink_head : (Link ObjId → Link ObjId) → Linked → Linked
relink_head f h = record h { link = f h.link }

-- a row with the same neighbours
abbrev pub restore_head : (StoredRow → StoredRow) → Linked → Linked
restore_head f h = record h { row = f h.row }

-- a row under another owner
abbrev pub reown : Owner → StoredRow → StoredRow
reown w r = record r { owner = w }

-- a row under another owner, where it comes last after that one
abbrev pub reown_head : Owner → Option ObjId → Linked → Linked
reown_head w prev h = record { row = reown w h.row; link = record { prev = prev; next = None } }

-- a row with another count
abbrev pub recount : (ℕ → ℕ) → StoredRow → StoredRow
recount f r = record r { refs = f r.refs }

-- a row with other fields
abbrev pub refield : FieldEnds → StoredRow → StoredRow
refield fields r = record r { fields = fields }

-- only the ends of one owner change
abbrev pub OnlyEndsOf : (Owner → Option Ends) → (Owner → Option Ends) → Owner → Option Ends → Type 0
OnlyEndsOf old new owner v = (w : Owner) → new w ≡ cond (same_owner owner w) v (old w)

-- the lists with o last under that owner
abbrev pub list_pushed : (Owner → List ObjId) → Owner → ObjId → Owner → List ObjId
list_pushed lists owner o w = cond (same_owner owner w) (lists w ++ o ∷ []) (lists w)

-- the lists without o
abbrev pub left_without : (Owner → List ObjId) → ObjId → Owner → List ObjId
left_without lists o w = without same_name o (lists w)

-- only the row of that name changes, or comes or goes
abbrev pub OnlyStoredAt : HeadsAt → HeadsAt → ObjId → Option StoredRow → Type 0
OnlyStoredAt old new o row = (q : ObjId) → linked_row_at new q ≡ cond (same_name o q) row (linked_row_at old q)

-- only the row of that name changes, where there is one, and f says how
abbrev pub ChangesStoredAt : HeadsAt → HeadsAt → ObjId → (StoredRow → StoredRow) → Type 0
ChangesStoredAt old new o f = OnlyStoredAt old new o (option_map f (linked_row_at old o))

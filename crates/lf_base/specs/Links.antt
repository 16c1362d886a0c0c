-- Nodes that know the node before and the node after.
use Rattle.std.specs.Prelude.{◌≡◌, ℕ, zero, suc, Bool, false, not, ◌||◌, cond, filter, List, [], ◌∷◌, Option, Some, None}
use Rattle.std.specs.Option.{option_map}
use Rattle.lf_base.specs.declared.links.Link.{Link}

module _ {N : Type 0} where
  -- the link of a node between two others
  abbrev pub link : Option N → Option N → Link N
  link p n = record { prev = p; next = n }

  -- the first of the list, or else what comes after it
  abbrev pub head_or : List N → Option N → Option N
  head_or [] after = after
  head_or (x ∷ xs) after = Some x

  -- the last of the list, or else what comes before it
  abbrev pub last_or : Option N → List N → Option N
  last_or before [] = before
  last_or before (x ∷ xs) = last_or (Some x) xs

  -- the links of xs lead from one to the next and back, between `before` and `after`
  abbrev pub LinksSpell : (N → Option (Link N)) → Option N → List N → Option N → Type 0
  LinksSpell get before [] after = Unit {0}
  LinksSpell get before (x ∷ xs) after = (get x ≡ Some (link before (head_or xs after))) × LinksSpell get (Some x) xs after

  -- the node after the one of that link
  abbrev pub next_of : Option (Link N) → Option N
  next_of None = None
  next_of (Some l) = l.next

  -- the node after one, where there is one
  abbrev pub next_from : (N → Option (Link N)) → Option N → Option N
  next_from get None = None
  next_from get (Some x) = next_of (get x)

  -- at most n nodes from a node on
  abbrev pub walk : ℕ → (N → Option (Link N)) → Option N → List N
  walk zero get at = []
  walk (suc n) get None = []
  walk (suc n) get (Some x) = x ∷ walk n get (next_of (get x))

  -- another node comes after
  abbrev pub to_next : Option N → Link N → Link N
  to_next n l = record l { next = n }

  -- another node comes before
  abbrev pub to_prev : Option N → Link N → Link N
  to_prev p l = record l { prev = p }

  module _ (same : N → N → Bool) where
    -- x is not in the list
    abbrev pub Lacks : N → List N → Type 0
    Lacks x [] = Unit {0}
    Lacks x (y ∷ ys) = (same x y ≡ false) × Lacks x ys

    -- no node comes twice
    abbrev pub NodesDiffer : List N → Type 0
    NodesDiffer [] = Unit {0}
    NodesDiffer (x ∷ xs) = Lacks x xs × NodesDiffer xs

    -- the links after f is done to that of the node `at`, if there is one
    abbrev pub relinked : (N → Option (Link N)) → Option N → (Link N → Link N) → N → Option (Link N)
    relinked get None f q = get q
    relinked get (Some x) f q = cond (same x q) (option_map f (get q)) (get q)

    -- that node, where there is one, is not in the list
    abbrev pub LacksAt : Option N → List N → Type 0
    LacksAt None xs = Unit {0}
    LacksAt (Some x) xs = Lacks x xs

    -- the links after p and n are linked past what stood between them
    abbrev pub unlinked : (N → Option (Link N)) → Option N → Option N → N → Option (Link N)
    unlinked get p n = relinked (relinked get p (to_next n)) n (to_prev p)

    -- x stands in the list
    abbrev pub has : N → List N → Bool
    has x [] = false
    has x (y ∷ ys) = same x y || has x ys

    -- the list without x
    abbrev pub without : N → List N → List N
    without x xs = filter (λ y. not (same x y)) xs

    -- the node after x in the list
    abbrev pub after : N → List N → Option N
    after x [] = None
    after x (y ∷ ys) = cond (same x y) (head_or ys None) (after x ys)

    -- xs is the whole list of a table of links: the links spell it, none of it comes twice, it begins and ends
    -- with these nodes, and its nodes are the members
    pub record IsList (get : N → Option (Link N)) (first_node last_node : Option N) (member : N → Bool) (xs : List N) : Type 0 where
      pub links : LinksSpell get None xs None
      pub differ : NodesDiffer xs
      pub first : first_node ≡ head_or xs None
      pub last : last_node ≡ last_or None xs
      pub members : (q : N) → has q xs ≡ member q

  -- the first node of a list with x put last, where `first_node` was the first
  abbrev pub first_after_push : N → Option N → Option N
  first_after_push x None = Some x
  first_after_push x (Some y) = Some y

  -- the end of a list: it stays where there is a node beyond the one that goes, and else is its other neighbour
  abbrev pub or_else : Option N → Option N → Option N → Option N
  or_else None end other = other
  or_else (Some x) end other = end

  -- the first node, where that of this link goes
  abbrev pub first_after_removal : Link N → Option N → Option N
  first_after_removal l first_node = or_else l.prev first_node l.next

  -- the last node, where that of this link goes
  abbrev pub last_after_removal : Link N → Option N → Option N
  last_after_removal l last_node = or_else l.next last_node l.prev

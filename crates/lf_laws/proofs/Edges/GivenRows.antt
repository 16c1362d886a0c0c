-- What it does to borrows and owning edges that local rows are given to a region by their names.
use Rattle.std.proofs.Common.{Bool, List, None, Option, Some, [], ap, arith, false, not, refl, sym, true, ◌&&◌, ◌+◌, ◌||◌, ◌∙◌, ◌∷◌, ◌≡◌}
use Rattle.std.proofs.lemmas.List.Sums.{sum_by-cons}
use Rattle.std.specs.List.{count_by}
use Rattle.lf_base.specs.EdgeLists.{begins_at}
use Rattle.lf_base.specs.Edges.{Content, Edge, Field, Slot, Source}
use Rattle.lf_base.specs.Names.{same_name}
use Rattle.lf_base.specs.Owners.{has_name, is_in, is_local_at, owner_in}
use Rattle.lf_base.specs.Ownership.{is_in_other, is_owning}
use Rattle.lf_base.specs.PlainState.{Row}
use Rattle.lf_base.specs.WalkCounts.{borrows, is_borrower}
use Rattle.lf_base.specs.WriteResult.{relabel}
use Rattle.lf_base.specs.declared.ids.ObjId.{ObjId}
use Rattle.lf_base.specs.declared.values.Owner.{Owner}
use Rattle.lf_base.specs.declared.values.Owner.TheVariants.{In, Local}
use Rattle.lf_base.proofs.NameLemmas.SameNames.{other_way, same_name_itself}
use Rattle.lf_laws.proofs.Writes.Relabelling.{owner_over, owner_relabel}
use Rattle.std.proofs.Math.Bool.{and-false, and-true, or-false, or-true}
use Rattle.lf_laws.proofs.Edges.EdgeParts.{bit, counts_one, counts_same}

-- two counts are two others where each edge counts alike in both
pub counts_two : {X : Type 0} (p q u w : X → Bool) (xs : List X) → ((x : X) → bit (p x) + bit (q x) ≡ bit (u x) + bit (w x))
    → count_by p xs + count_by q xs ≡ count_by u xs + count_by w xs
counts_two p q u w [] h = refl
counts_two p q u w (x ∷ xs) h =
    omega (
      arith,
      h x,
      counts_two p q u w xs h,
      sum_by-cons (λ z. bit (p z)) x xs,
      sum_by-cons (λ z. bit (q z)) x xs,
      sum_by-cons (λ z. bit (u z)) x xs,
      sum_by-cons (λ z. bit (w z)) x xs,
    )

-- ---- tests of one edge
-- a mover borrowed before and doesn't then; what it led to is tested alike
leaves : (was mover into : Bool) → (mover ≡ true → was ≡ true) → bit ((was && not mover) && into) + bit (mover && into) ≡ bit (was && into)
leaves true true into h = omega arith
leaves true false into h = omega arith
leaves false true into h = let z = h refl in cc
leaves false false into h = omega arith

-- what leads to the rows that move leads into their region then
pub comes : (was into moved : Bool) → (into ≡ true → moved ≡ true → ⊥) → bit (was && (into || moved)) ≡ bit (was && into) + bit (was && moved)
comes true true true h = absurd (h refl refl)
comes true true false h = omega arith
comes true false moved h = omega arith
comes false into moved h = omega arith

owns_more : (was mover to : Bool) → (mover ≡ true → was ≡ false) → bit ((was || mover) && to) ≡ bit (was && to) + bit (mover && to)
owns_more true true to h = let z = h refl in cc
owns_more true false to h = omega arith
owns_more false true to h = omega arith
owns_more false false to h = omega arith

-- an owner that isn't changed
pub over_false : (w : Owner) (u : Option Owner) → owner_over false w u ≡ u
over_false w None = refl
over_false w (Some y) = refl

-- ---- local rows given to region h by their names
module _ (rows : List Row) (os : List ObjId) (h : ObjId) (local : (o : ObjId) → has_name os o ≡ true → owner_in rows o ≡ Some Local) where
  abbrev after : List Row
  after = relabel rows os (In h)

  owner_moved : (o : ObjId) → has_name os o ≡ true → owner_in after o ≡ Some (In h)
  owner_moved o m = owner_relabel rows os (In h) o ∙ ap (λ b. owner_over b (In h) (owner_in rows o)) m ∙ ap (owner_over true (In h)) (local o m)

  owner_unmoved : (o : ObjId) → has_name os o ≡ false → owner_in after o ≡ owner_in rows o
  owner_unmoved o m = owner_relabel rows os (In h) o ∙ ap (λ b. owner_over b (In h) (owner_in rows o)) m ∙ over_false (In h) (owner_in rows o)

  -- by whether the row moves
  by_move : (P : Bool → Type 0) (o : ObjId) → (has_name os o ≡ true → P true) → (has_name os o ≡ false → P false) → P (has_name os o)
  by_move P o f g = elim (has_name os o) as (λ b. has_name os o ≡ b → P b) [ true ↦ f | false ↦ g ] refl

  mover_local : (f : Source) → begins_at os f ≡ true → is_borrower rows f ≡ true
  mover_local Slot e = refl
  mover_local (Field p) e = ap is_local_at (local p e)
  mover_local (Content c) e = cc

  borrower_then : (f : Source) → is_borrower after f ≡ (is_borrower rows f && not (begins_at os f))
  borrower_then Slot = refl
  borrower_then (Field p) = by_move (λ b. is_local_at (owner_in after p) ≡ (is_local_at (owner_in rows p) && not b)) p
      (λ m. ap is_local_at (owner_moved p m) ∙ sym (and-false (is_local_at (owner_in rows p))))
      (λ m. ap is_local_at (owner_unmoved p m) ∙ sym (and-true (is_local_at (owner_in rows p))))
  borrower_then (Content c) = refl

  in_other_then : (q o : ObjId) → same_name h q ≡ false → is_in q (owner_in after o) ≡ is_in q (owner_in rows o)
  in_other_then q o n = by_move (λ b. is_in q (owner_in after o) ≡ is_in q (owner_in rows o)) o
      (λ m. ap (is_in q) (owner_moved o m) ∙ other_way h q n ∙ sym (ap (is_in q) (local o m)))
      (λ m. ap (is_in q) (owner_unmoved o m))

  in_home_then : (o : ObjId) → is_in h (owner_in after o) ≡ (is_in h (owner_in rows o) || has_name os o)
  in_home_then o = by_move (λ b. is_in h (owner_in after o) ≡ (is_in h (owner_in rows o) || b)) o
      (λ m. ap (is_in h) (owner_moved o m) ∙ same_name_itself h ∙ sym (or-true (is_in h (owner_in rows o))))
      (λ m. ap (is_in h) (owner_unmoved o m) ∙ sym (or-false (is_in h (owner_in rows o))))

  -- another region is borrowed less by what the rows lead to
  pub borrows_other : (es : List Edge) (q : ObjId) → same_name h q ≡ false
      → count_by (borrows after q) es + count_by (λ e. begins_at os e.from && is_in q (owner_in rows e.to)) es ≡ count_by (borrows rows q) es
  borrows_other es q n = counts_one (borrows after q) (λ e. begins_at os e.from && is_in q (owner_in rows e.to)) (borrows rows q) es (λ e m.
      ap (λ b. bit (b && is_in q (owner_in after e.to)) + bit (begins_at os e.from && is_in q (owner_in rows e.to))) (borrower_then e.from)
      ∙ ap (λ b. bit ((is_borrower rows e.from && not (begins_at os e.from)) && b) + bit (begins_at os e.from && is_in q (owner_in rows e.to))) (in_other_then q e.to n)
      ∙ leaves (is_borrower rows e.from) (begins_at os e.from) (is_in q (owner_in rows e.to)) (mover_local e.from))

  -- their own is borrowed more by what leads to them, and less by what they lead to
  pub borrows_home : (es : List Edge)
      → count_by (borrows after h) es + count_by (λ e. begins_at os e.from && (is_in h (owner_in rows e.to) || has_name os e.to)) es
      ≡ count_by (borrows rows h) es + count_by (λ e. is_borrower rows e.from && has_name os e.to) es
  borrows_home es = counts_two (borrows after h) (λ e. begins_at os e.from && (is_in h (owner_in rows e.to) || has_name os e.to)) (borrows rows h) (λ e. is_borrower rows e.from && has_name os e.to) es (λ e.
      let into : Bool = is_in h (owner_in rows e.to) in
      let moved : Bool = has_name os e.to in
      ap (λ b. bit (b && is_in h (owner_in after e.to)) + bit (begins_at os e.from && (into || moved))) (borrower_then e.from)
      ∙ ap (λ b. bit ((is_borrower rows e.from && not (begins_at os e.from)) && b) + bit (begins_at os e.from && (into || moved))) (in_home_then e.to)
      ∙ leaves (is_borrower rows e.from) (begins_at os e.from) (into || moved) (mover_local e.from)
      ∙ comes (is_borrower rows e.from) into moved (λ i m. let z = sym (ap (is_in h) (local e.to m)) ∙ i in cc))

  mover_owned_none : (b : ObjId) (f : Source) → begins_at os f ≡ true → is_owning rows f b ≡ false
  mover_owned_none b Slot e = refl
  mover_owned_none b (Field p) e = ap (is_in_other b) (local p e)
  mover_owned_none b (Content c) e = cc

  owning_then : (b : ObjId) → same_name h b ≡ false → (f : Source) → is_owning after f b ≡ (is_owning rows f b || begins_at os f)
  owning_then b n Slot = refl
  owning_then b n (Field p) = by_move (λ m. is_in_other b (owner_in after p) ≡ (is_in_other b (owner_in rows p) || m)) p
      (λ m. ap (is_in_other b) (owner_moved p m) ∙ ap not n ∙ sym (or-true (is_in_other b (owner_in rows p))))
      (λ m. ap (is_in_other b) (owner_unmoved p m) ∙ sym (or-false (is_in_other b (owner_in rows p))))
  owning_then b n (Content c) = refl

  -- another bridge is owned by what they lead to besides
  pub owning_other : (es : List Edge) (b : ObjId) → same_name h b ≡ false
      → count_by (λ e. is_owning after e.from b && same_name e.to b) es
      ≡ count_by (λ e. is_owning rows e.from b && same_name e.to b) es + count_by (λ e. begins_at os e.from && same_name e.to b) es
  owning_other es b n = sym (counts_one (λ (e : Edge). is_owning rows e.from b && same_name e.to b) (λ (e : Edge). begins_at os e.from && same_name e.to b) (λ (e : Edge). is_owning after e.from b && same_name e.to b) es (λ e m.
      sym (ap (λ c. bit (c && same_name e.to b)) (owning_then b n e.from) ∙ owns_more (is_owning rows e.from b) (begins_at os e.from) (same_name e.to b) (mover_owned_none b e.from))))

  owning_home_then : (f : Source) → is_owning after f h ≡ is_owning rows f h
  owning_home_then Slot = refl
  owning_home_then (Field p) = by_move (λ m. is_in_other h (owner_in after p) ≡ is_in_other h (owner_in rows p)) p
      (λ m. ap (is_in_other h) (owner_moved p m) ∙ ap not (same_name_itself h) ∙ sym (ap (is_in_other h) (local p m)))
      (λ m. ap (is_in_other h) (owner_unmoved p m))
  owning_home_then (Content c) = refl

  -- and their own region's bridge as it was
  pub owning_home : (es : List Edge) → count_by (λ e. is_owning after e.from h && same_name e.to h) es ≡ count_by (λ e. is_owning rows e.from h && same_name e.to h) es
  owning_home es = counts_same (λ (e : Edge). is_owning after e.from h && same_name e.to h) (λ (e : Edge). is_owning rows e.from h && same_name e.to h) es (λ e. ap (λ c. c && same_name e.to h) (owning_home_then e.from))

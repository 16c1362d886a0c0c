use Rattle.std.proofs.Common.{arith, refl, subst, sym, ◌<◌, ◌∙◌, vec_capacity}
use Rattle.std.specs.Prelude.{ℕ, length}
use Rattle.lf_pool.specs.declared.cell.TheConstants.{NONE}
use Rattle.lf_pool.specs.Pools.{Chain, PoolView}
use Rattle.lf_pool.proofs.Joins.{node_is}
use Rattle.lf_pool.proofs.Parts.{fresh_kept, fresh_lacks, fresh_parted, low_room, some_free, taken_in_range, taken_others, taken_parted}
use Rattle.lf_pool.proofs.pool.Pool.take.Goals as goal

pub invariant_of-self : goal.invariant_of-self
invariant_of-self g c =
    let room = subst (λ (p : PoolView _). 0 < p.spare) (sym c.self.view_is) c.requires.room in
    fresh_parted c.self.inside.cells.items c.push_cell.new.cells.items c.push_cell.result c.push_cell.ensures.at c.push_cell.ensures.size c.push_cell.ensures.link c.push_cell.ensures.links c.self.inside.free c.self.inside.free_cells
    (subst (λ (n : ℕ). n < NONE) (sym c.push_cell.ensures.at) (low_room c.self.inside.free_cells (length c.self.inside.cells.items) (vec_capacity c.self.inside.cells) c.if-self-eq0.true room)) c.self.invariant

pub returns-then-self-eq0-clause-others : goal.returns-then-self-eq0-clause-others
returns-then-self-eq0-clause-others g c d zs old =
    let z = subst (λ (p : PoolView _). Chain p d zs) (sym c.self.view_is) old in (
      ((fresh_kept c.self.inside.cells.items c.push_cell.new.cells.items c.push_cell.result c.push_cell.ensures.at c.push_cell.ensures.size c.push_cell.ensures.link c.push_cell.ensures.links zs z.0.0, z.0.1), z.1),
      fresh_lacks c.self.inside.cells.items c.push_cell.new.cells.items c.push_cell.result c.push_cell.ensures.at c.push_cell.ensures.size c.push_cell.ensures.link c.push_cell.ensures.links zs z.0.0,
    )

pub set_item-requires : goal.set_item-requires
set_item-requires g c =
    let b = c.behead-self-inside in
    subst (λ (n : ℕ). c.self.inside.free < n) (sym b.ensures.size)
    (taken_in_range c.self.inside.cells.items b.new.cells.items b.new.cells.items c.self.inside.free c.self.inside.free_cells b.result c.self.invariant (some_free c.self.inside.free_cells c.if-self-eq0.false) b.ensures.rest b.ensures.alone b.ensures.others (λ _. refl) b.ensures.size)

pub invariant_of-self-2 : goal.invariant_of-self-2
invariant_of-self-2 g c =
    let b = c.behead-self-inside in
    taken_parted c.self.inside.cells.items b.new.cells.items c.set_item.new.cells.items c.self.inside.free c.self.inside.free_cells b.result c.self.invariant (some_free c.self.inside.free_cells c.if-self-eq0.false) b.ensures.rest b.ensures.alone b.ensures.others c.set_item.ensures.links (c.set_item.ensures.size ∙ b.ensures.size)

pub returns-clause-others : goal.returns-clause-others
returns-clause-others g c d zs old =
    let b = c.behead-self-inside in
    let z = subst (λ (p : PoolView _). Chain p d zs) (sym c.self.view_is) old in
    taken_others c.self.inside.cells.items b.new.cells.items c.set_item.new.cells.items c.self.inside.free c.self.inside.free_cells b.result c.self.invariant (some_free c.self.inside.free_cells c.if-self-eq0.false) b.ensures.rest b.ensures.alone b.ensures.others c.set_item.ensures.links (c.set_item.ensures.size ∙ b.ensures.size) d zs z.0 z.1

pub returns-then-self-eq0-clause-number : goal.returns-then-self-eq0-clause-number
returns-then-self-eq0-clause-number g c =
    let room = subst (λ (p : PoolView _). 0 < p.spare) (sym c.self.view_is) c.requires.room in
    node_is c.push_cell.result (subst (λ (n : ℕ). n < NONE) (sym c.push_cell.ensures.at) (low_room c.self.inside.free_cells (length c.self.inside.cells.items) (vec_capacity c.self.inside.cells) c.if-self-eq0.true room))

pub returns-clause-number : goal.returns-clause-number
returns-clause-number g c =
    let b = c.behead-self-inside in
    let there = taken_in_range c.self.inside.cells.items b.new.cells.items b.new.cells.items c.self.inside.free c.self.inside.free_cells b.result c.self.invariant (some_free c.self.inside.free_cells c.if-self-eq0.false) b.ensures.rest b.ensures.alone b.ensures.others (λ _. refl) b.ensures.size in
    let few = c.self.invariant.few in
    node_is c.self.inside.free (omega (arith, there, few))

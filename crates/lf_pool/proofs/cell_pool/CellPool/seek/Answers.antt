use Rattle.std.proofs.Common.{List, None, Some, ap, cond, subst, sym, true, ℕ, ◌∙◌, ◌≡◌}
use Rattle.std.specs.Prelude.{eqb}
use Rattle.std.proofs.lemmas.Bool.Decides.{Decides-eqb}
use Rattle.lf_base.specs.Links.{after, has}
use Rattle.lf_pool.specs.declared.cell.TheConstants.{NONE}
use Rattle.lf_pool.specs.Cells.{IsChain, link_at, node}
use Rattle.lf_pool.specs.Pools.{PoolView}
use Rattle.lf_pool.proofs.Beheads.{node_other}
use Rattle.lf_pool.proofs.Finds.{fewer_left, from_first, from_in_range, from_member, from_next, from_over}
use Rattle.lf_pool.proofs.cell_pool.CellPool.seek.Goals as goal

pub loop-self-init : goal.loop-self-init
loop-self-init c xs z = from_first c.args.self.now.cells c.args.key xs c.args.chain z.0.1

pub has_key-requires : goal.has_key-requires
has_key-requires c =
    let xs = c.requires.0 in
    let z = c.requires.1 in
    from_in_range c.args.self.now.cells c.args.key xs c.loop-self.at z.0.0 (c.loop-self.invariant xs z)

pub next-at-requires : goal.next-at-requires
next-at-requires c =
    let xs = c.requires.0 in
    let z = c.requires.1 in
    let member = from_member c.args.self.now.cells c.args.key xs c.loop-self.at z.0.0 (c.loop-self.invariant xs z) in
    (xs, subst (λ (t : PoolView _). IsChain (link_at t.cells) xs) (sym c.self.view_is) z.0.0, member)

-- what the pool's call says, said of what is seen of the pool
stepped : {T : Type 0} (p q : PoolView T) (at on : ℕ) → p ≡ q → ((xs : List ℕ) → IsChain (link_at p.cells) xs → has eqb at xs ≡ true → node on ≡ after eqb at xs)
    → (xs : List ℕ) → IsChain (link_at q.cells) xs → has eqb at xs ≡ true → node on ≡ after eqb at xs
stepped p q at on e k = subst (λ (t : PoolView _). (xs : List ℕ) → IsChain (link_at t.cells) xs → has eqb at xs ≡ true → node on ≡ after eqb at xs) e k

no_cell : (n : ℕ) → n ≡ NONE → node n ≡ None
no_cell n e = ap (λ b. cond b None (Some n)) ((Decides-eqb n NONE).1 e)

pub returns-then-at : goal.returns-then-at
returns-then-at c xs z =
    let r = c.loop-self.invariant xs z in
    let m = from_member c.args.self.now.cells c.args.key xs c.loop-self.at z.0.0 r in
    from_over c.args.self.now.cells c.args.key xs c.loop-self.at z.0.0 r c.next-at.result
    (stepped c.self.inside.pool c.args.self.now c.loop-self.at c.next-at.result c.self.view_is c.next-at.ensures xs z.0.0 m) (sym c.has_key.ensures.key ∙ c.loop-self-test.true) (no_cell c.next-at.result c.if-at.true)

pub loop-self-smaller : goal.loop-self-smaller
loop-self-smaller c =
    let xs = c.requires.0 in
    let z = c.requires.1 in
    let r = c.loop-self.invariant xs z in
    let m = from_member c.args.self.now.cells c.args.key xs c.loop-self.at z.0.0 r in
    fewer_left c.args.self.now.cells c.args.key xs c.loop-self.at z.0.0 r c.next-at.result
    (stepped c.self.inside.pool c.args.self.now c.loop-self.at c.next-at.result c.self.view_is c.next-at.ensures xs z.0.0 m) (sym c.has_key.ensures.key ∙ c.loop-self-test.true) (node_other c.next-at.result c.if-at.false)

pub loop-self-preserved : goal.loop-self-preserved
loop-self-preserved c xs z =
    let r = c.loop-self.invariant xs z in
    let m = from_member c.args.self.now.cells c.args.key xs c.loop-self.at z.0.0 r in
    (from_next c.args.self.now.cells c.args.key xs c.loop-self.at z.0.0 r c.next-at.result
    (stepped c.self.inside.pool c.args.self.now c.loop-self.at c.next-at.result c.self.view_is c.next-at.ensures xs z.0.0 m) (sym c.has_key.ensures.key ∙ c.loop-self-test.true) (node_other c.next-at.result c.if-at.false)).0

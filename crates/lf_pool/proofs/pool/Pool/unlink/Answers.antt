use Rattle.std.proofs.Common.{None, ap, refl, subst, sym, ◌≡◌, ◌∙◌, ◌∷◌, ◌++◌}
use Rattle.std.specs.Prelude.{eqb}
use Rattle.lf_base.specs.Links.{has, head_or, without}
use Rattle.lf_pool.specs.Cells.{IsChain, link_at}
use Rattle.lf_pool.specs.Pools.{Chain, PoolView}
use Rattle.lf_pool.proofs.Chains.{begins}
use Rattle.lf_pool.proofs.Joins.{some_is}
use Rattle.lf_pool.proofs.Parts.{elsewhere}
use Rattle.lf_pool.proofs.Unlinks.{chain_number, first_parts, headed, later, one_chain, member_live, member_number, middle, middle_parts, split_parted, without_first, without_middle}
use Rattle.lf_pool.proofs.pool.Pool.unlink.Goals as goal

pub invariant_of-self : goal.invariant_of-self
invariant_of-self g c =
    let xs = c.requires.there.0 in
    let z = subst (λ (t : PoolView _). Chain t c.args.chain xs) (sym c.self.view_is) c.requires.there.1 in
    let h = headed c.args.chain xs z.0.1 in
    let b = c.behead in
    let old = c.self.inside.cells.items in
    let here : IsChain (link_at old) (c.args.chain ∷ h.rest) = subst (IsChain (link_at old)) h.is z.0.0 in
    split_parted old c.self.inside.free c.self.inside.free_cells c.args.chain xs c.self.invariant z.0 z.1 b.new.cells.items c.args.chain h.rest b.ensures.alone (b.ensures.rest h.rest here).0
    (λ w m e. first_parts c.args.chain h.rest w (ap (has eqb w) (sym h.is) ∙ m) e) b.ensures.others b.ensures.size

pub returns-then-cell-chain-clause-rest : goal.returns-then-cell-chain-clause-rest
returns-then-cell-chain-clause-rest g c xs now =
    let z = subst (λ (t : PoolView _). Chain t c.args.chain xs) (sym c.self.view_is) now in
    let h = headed c.args.chain xs z.0.1 in
    let b = c.behead in
    let old = c.self.inside.cells.items in
    let here : IsChain (link_at old) (c.args.chain ∷ h.rest) = subst (IsChain (link_at old)) h.is z.0.0 in
    let left : without eqb c.args.cell xs ≡ h.rest = ap (λ t. without eqb t xs) c.if-cell-chain.true ∙ ap (without eqb c.args.chain) h.is ∙ without_first c.args.chain h.rest here.differ in
    let r = b.ensures.rest h.rest here in
    record {
      chain = subst (IsChain (link_at b.new.cells.items)) (sym left) r.0;
      begins = ap (λ t. head_or t None) left ∙ r.1;
      live = λ w e. member_live old c.self.inside.free c.self.inside.free_cells c.args.chain xs c.self.invariant z.0 z.1 w
          (ap (has eqb w) h.is ∙ later w c.args.chain h.rest (begins w h.rest (r.1 ∙ e)));
    }

pub returns-then-cell-chain-clause-others : goal.returns-then-cell-chain-clause-others
returns-then-cell-chain-clause-others g c d zs now n =
    let xs = c.requires.there.0 in
    let z = subst (λ (t : PoolView _). Chain t c.args.chain xs) (sym c.self.view_is) c.requires.there.1 in
    let y = subst (λ (t : PoolView _). Chain t d zs) (sym c.self.view_is) now in
    ((c.behead.ensures.others zs y.0.0 (elsewhere (link_at c.self.inside.cells.items) c.args.chain d xs zs z.0 y.0 n), y.0.1), y.1)

pub cut-requires-clause-chain : goal.cut-requires-clause-chain
cut-requires-clause-chain g c =
    let xs = c.requires.there.0 in
    let z = subst (λ (t : PoolView _). Chain t c.args.chain xs) (sym c.self.view_is) c.requires.there.1 in
    let m = middle c.args.chain c.args.cell xs z.0.1 c.if-cell-chain.false c.requires.there.2 in
    (m.before, m.behind, subst (IsChain (link_at c.self.inside.cells.items)) m.is z.0.0)

pub invariant_of-self-2 : goal.invariant_of-self-2
invariant_of-self-2 g c =
    let xs = c.requires.there.0 in
    let z = subst (λ (t : PoolView _). Chain t c.args.chain xs) (sym c.self.view_is) c.requires.there.1 in
    let m = middle c.args.chain c.args.cell xs z.0.1 c.if-cell-chain.false c.requires.there.2 in
    let old = c.self.inside.cells.items in
    let k = c.cut in
    split_parted old c.self.inside.free c.self.inside.free_cells c.args.chain xs c.self.invariant z.0 z.1 k.new.cells.items c.args.cell ((c.args.chain ∷ m.before) ++ m.behind) k.ensures.alone
    (k.ensures.rest m.before m.behind (subst (IsChain (link_at old)) m.is z.0.0))
    (λ w h e. middle_parts c.args.cell (c.args.chain ∷ m.before) m.behind w (ap (has eqb w) (sym m.is) ∙ h) e) k.ensures.others k.ensures.size

pub returns-clause-rest : goal.returns-clause-rest
returns-clause-rest g c xs now =
    let z = subst (λ (t : PoolView _). Chain t c.args.chain xs) (sym c.self.view_is) now in
    let m = middle c.args.chain c.args.cell xs z.0.1 c.if-cell-chain.false (one_chain (link_at c.self.inside.cells.items) c.args.chain c.args.cell c.requires.there.0 xs (subst (λ (t : PoolView _). Chain t c.args.chain c.requires.there.0) (sym c.self.view_is) c.requires.there.1).0 z.0 c.requires.there.2) in
    let old = c.self.inside.cells.items in
    let here : IsChain (link_at old) ((c.args.chain ∷ m.before) ++ c.args.cell ∷ m.behind) = subst (IsChain (link_at old)) m.is z.0.0 in
    let left : without eqb c.args.cell xs ≡ (c.args.chain ∷ m.before) ++ m.behind = ap (without eqb c.args.cell) m.is ∙ without_middle c.args.cell (c.args.chain ∷ m.before) m.behind here.differ in
    record {
      chain = subst (IsChain (link_at c.cut.new.cells.items)) (sym left) (c.cut.ensures.rest m.before m.behind here);
      begins = ap (λ t. head_or t None) left ∙ sym (chain_number old c.self.inside.free c.self.inside.free_cells c.self.invariant c.args.chain xs z.0);
      live = λ w e. ap (λ t. eqb t c.self.inside.free) (sym (some_is c.args.chain w (sym (chain_number old c.self.inside.free c.self.inside.free_cells c.self.invariant c.args.chain xs z.0) ∙ e))) ∙ z.1;
    }

pub returns-clause-alone : goal.returns-clause-alone
returns-clause-alone g c =
    let xs = c.requires.there.0 in
    let z = subst (λ (t : PoolView _). Chain t c.args.chain xs) (sym c.self.view_is) c.requires.there.1 in
    ((c.cut.ensures.alone, refl), member_live c.self.inside.cells.items c.self.inside.free c.self.inside.free_cells c.args.chain xs c.self.invariant z.0 z.1 c.args.cell c.requires.there.2)

pub returns-clause-others : goal.returns-clause-others
returns-clause-others g c d zs now n =
    let xs = c.requires.there.0 in
    let z = subst (λ (t : PoolView _). Chain t c.args.chain xs) (sym c.self.view_is) c.requires.there.1 in
    let y = subst (λ (t : PoolView _). Chain t d zs) (sym c.self.view_is) now in
    ((c.cut.ensures.others zs y.0.0 (elsewhere (link_at c.self.inside.cells.items) c.args.chain d xs zs z.0 y.0 n), y.0.1), y.1)

pub returns-then-cell-chain-clause-number : goal.returns-then-cell-chain-clause-number
returns-then-cell-chain-clause-number g c =
    let xs = c.requires.there.0 in
    let z = subst (λ (t : PoolView _). Chain t c.args.chain xs) (sym c.self.view_is) c.requires.there.1 in
    member_number c.self.inside.cells.items c.self.inside.free c.self.inside.free_cells c.self.invariant c.args.cell xs z.0.0 c.requires.there.2

pub returns-clause-number : goal.returns-clause-number
returns-clause-number g c =
    let xs = c.requires.there.0 in
    let z = subst (λ (t : PoolView _). Chain t c.args.chain xs) (sym c.self.view_is) c.requires.there.1 in
    member_number c.self.inside.cells.items c.self.inside.free c.self.inside.free_cells c.self.invariant c.args.cell xs z.0.0 c.requires.there.2

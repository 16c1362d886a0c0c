use Rattle.std.proofs.Common.{None, Some, [], ap, cond, not, refl, sym, ◌||◌, ◌∙◌, ◌∷◌}
use Rattle.std.specs.Prelude.{eqb, pos}
use Rattle.std.proofs.lemmas.Bool.Decides.{Decides-eqb}
use Rattle.lf_base.specs.Links.{has, head_or}
use Rattle.lf_base.specs.declared.values.Key.TheVariants.{Int}
use Rattle.lf_pool.specs.Cells.{item_at}
use Rattle.lf_pool.specs.Fields.{is_keyed}
use Rattle.lf_pool.proofs.TwoCells.{apart, not_first, second_chain, second_left}
use Rattle.lf_pool.proofs.callers.two_cells.Goals as goal

pub push_last-requires-clause-chain : goal.push_last-requires-clause-chain
push_last-requires-clause-chain c = (c.take-a.result ∷ [], (c.take-b.ensures.others c.take-a.result (c.take-a.result ∷ []) c.take-a.ensures.chain).0)

pub push_last-requires-clause-apart : goal.push_last-requires-clause-apart
push_last-requires-clause-apart c = apart c.take-a.result c.take-b.result (c.take-b.ensures.others c.take-a.result (c.take-a.result ∷ []) c.take-a.ensures.chain).1

pub find-found-requires : goal.find-found-requires
find-found-requires c =
    let a = c.take-a.result in
    let b = c.take-b.result in
    (a ∷ b ∷ [], c.push_last.ensures.joined (a ∷ []) (b ∷ []) (c.take-b.ensures.others a (a ∷ []) c.take-a.ensures.chain).0 c.take-b.ensures.chain)

pub unlink-left-requires : goal.unlink-left-requires
unlink-left-requires c =
    let a = c.take-a.result in
    let b = c.take-b.result in
    record {
      there = (
        a ∷ b ∷ [],
        c.push_last.ensures.joined (a ∷ []) (b ∷ []) (c.take-b.ensures.others a (a ∷ []) c.take-a.ensures.chain).0 c.take-b.ensures.chain,
        ap (λ t. t || has eqb a (b ∷ [])) ((Decides-eqb a a).1 refl),
      );
    }

pub returns-clause-found : goal.returns-clause-found
returns-clause-found c =
    let a = c.take-a.result in
    let b = c.take-b.result in
    let others = c.take-b.ensures.others a (a ∷ []) c.take-a.ensures.chain in
    let chain = c.push_last.ensures.joined (a ∷ []) (b ∷ []) others.0 c.take-b.ensures.chain in
    let first = c.push_last.ensures.items a ∙ c.take-b.ensures.items a (not_first a b others.1) ∙ c.take-a.ensures.item in
    let second = c.push_last.ensures.items b ∙ c.take-b.ensures.item in
    c.find-found.ensures (a ∷ b ∷ []) chain
    ∙ ap (λ t. cond (is_keyed (Int (pos 2)) t) (Some a) (cond (is_keyed (Int (pos 2)) (item_at c.push_last.new.self.cells b)) (Some b) None)) first
    ∙ ap (λ t. cond (is_keyed (Int (pos 2)) t) (Some b) None) second

pub returns-clause-left : goal.returns-clause-left
returns-clause-left c =
    let a = c.take-a.result in
    let b = c.take-b.result in
    let others = c.take-b.ensures.others a (a ∷ []) c.take-a.ensures.chain in
    let chain = c.push_last.ensures.joined (a ∷ []) (b ∷ []) others.0 c.take-b.ensures.chain in
    sym (c.unlink-left.ensures.rest (a ∷ b ∷ []) chain).begins ∙ ap (λ t. head_or t None) (second_left a b others.1)

pub returns-clause-other : goal.returns-clause-other
returns-clause-other c =
    let a = c.take-a.result in
    let b = c.take-b.result in
    let others = c.take-b.ensures.others a (a ∷ []) c.take-a.ensures.chain in
    let chain = c.push_last.ensures.joined (a ∷ []) (b ∷ []) others.0 c.take-b.ensures.chain in
    let alone = second_chain c.unlink-left.new.self a b c.unlink-left.result others.1 (c.unlink-left.ensures.rest (a ∷ b ∷ []) chain) in
    let kept = c.give.ensures.others b (b ∷ []) alone (λ e. apart a b others.1 (sym e)) in
    ap not (not_first b c.take-last.result (c.take-last.ensures.others b (b ∷ []) kept).1)

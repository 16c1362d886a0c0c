use Rattle.std.proofs.Common.{ap, arith, false, length, refl, subst, suc, sym, take, true, List, ◌+◌, ◌<◌, ◌≤◌, ◌≡◌, ◌∙◌, slice_index_or}
use Rattle.std.proofs.lemmas.List.{take_all}
use Rattle.lf_base.specs.ContentResult.{has_cown}
use Rattle.lf_base.specs.Names.{same_cown}
use Rattle.lf_base.specs.declared.ids.CownId.{CownId}
use Rattle.lf_base.specs.declared.values.Value.{Value}
use Rattle.lf_base.specs.declared.values.Value.TheVariants as value
use Rattle.lf_heap.proofs.CownContents.HeldPlaces.{none_more, put_nowhere, put_there}
use Rattle.lf_heap.proofs.contents.CownContents.place.Goals as goal

pub loop-at-init : goal.loop-at-init
loop-at-init c = refl

pub returns-then-is_same : goal.returns-then-is_same
returns-then-is_same c =
    let none : CownId × Value = (record { birth = 0; seq = 0 }, value.None) in
    let there = subst (λ (l : List (CownId × Value)). c.loop-at.at < length l) c.as_slice-name-items.ensures c.loop-at-test.true in
    let same = subst (λ (l : List (CownId × Value)). same_cown (slice_index_or l c.loop-at.at none).0 c.args.cown ≡ true) c.as_slice-name-items.ensures (sym c.if-is_same.ensures) in
    record { there = there; put = put_there c.args.cown c.args.self.now.held c.loop-at.at none there c.loop-at.invariant same }

pub loop-at-preserved : goal.loop-at-preserved
loop-at-preserved c =
    let none : CownId × Value = (record { birth = 0; seq = 0 }, value.None) in
    let there = subst (λ (l : List (CownId × Value)). c.loop-at.at < length l) c.as_slice-name-items.ensures c.loop-at-test.true in
    let other = subst (λ (l : List (CownId × Value)). same_cown (slice_index_or l c.loop-at.at none).0 c.args.cown ≡ false) c.as_slice-name-items.ensures (sym c.if-is_same.ensures) in
    let next : c.loop-at.at + 1 ≡ suc c.loop-at.at = omega arith in
    ap (λ n. has_cown (take n c.args.self.now.held) c.args.cown) next ∙ none_more c.args.cown c.args.self.now.held c.loop-at.at none there c.loop-at.invariant other

pub returns : goal.returns
returns c v =
    let end : length c.args.self.now.held ≤ c.loop-at.at = subst (λ (l : List (CownId × Value)). length l ≤ c.loop-at.at) c.as_slice-name-items.ensures c.loop-at-test.false in
    put_nowhere c.args.cown c.args.self.now.held (ap (λ l. has_cown l c.args.cown) (sym (take_all c.loop-at.at c.args.self.now.held end)) ∙ c.loop-at.invariant) v

use Rattle.std.proofs.Common.{[], ap, arith, length, subst, sym, ◌∙◌, ◌∷◌, ◌≡◌}
use Rattle.lf_queue.specs.Counts.{IsTower, first_level, pair_sums, total}
use Rattle.lf_queue.proofs.Counts.{pairs_shorter, pairs_total}
use Rattle.lf_queue.proofs.Levels.{first_stays, items_push}
use Rattle.lf_queue.proofs.ready_set.levels_over.Goals as goal

pub loop-alloc-smaller : goal.loop-alloc-smaller
loop-alloc-smaller c =
    let sums = c.in_ok-above.ensures in
    let top = c.deref.ensures.value in
    let is : c.in_ok-above.above.items ≡ pair_sums c.loop-alloc.top.items = sums ∙ ap pair_sums top in
    let e = ap length is in
    let test = c.loop-alloc-test.true in
    let len = c.len.ensures in
    let ok = c.loop-alloc.top.ok.0 in
    let s = pairs_shorter c.loop-alloc.top.items (omega (arith, test, len, ok)) in
    omega (arith, e, s)

pub loop-alloc-preserved : goal.loop-alloc-preserved
loop-alloc-preserved c =
    let is : c.in_ok-above.above.items ≡ pair_sums c.loop-alloc.top.items = c.in_ok-above.ensures ∙ ap pair_sums c.deref.ensures.value in
    let test = c.loop-alloc-test.true in
    let len = c.len.ensures in
    let ok = c.loop-alloc.top.ok.0 in
    record {
      tower = λ above h. subst IsTower (sym (items_push c.loop-alloc.levels.items c.push.new.self.items c.loop-alloc.top (c.in_ok-above.above.items ∷ above) c.in_ok-push.ensures.items))
          (c.loop-alloc.invariant.tower (c.in_ok-above.above.items ∷ above) (is, h));
      counts = ap first_level (items_push c.loop-alloc.levels.items c.push.new.self.items c.loop-alloc.top (c.in_ok-above.above.items ∷ []) c.in_ok-push.ensures.items)
          ∙ first_stays c.loop-alloc.levels.items c.loop-alloc.top.items (c.in_ok-above.above.items ∷ [])
          ∙ c.loop-alloc.invariant.counts;
      fits = let e = ap total is ∙ pairs_total c.loop-alloc.top.items in let f = c.loop-alloc.invariant.fits in omega (arith, e, f);
    }

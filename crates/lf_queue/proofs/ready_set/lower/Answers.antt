use Rattle.std.proofs.Common.{[], ap, arith, get_or, length, set, sym, ◌-◌, ◌/◌, ◌<◌, ◌∙◌}
use Rattle.std.proofs.lemmas.List.{get_or_read}
use Rattle.lf_queue.proofs.Counts.{changed_all, halved_next, level_place, level_unit}
use Rattle.lf_queue.proofs.Levels.{items_length, items_of, items_set, one_more, still}
use Rattle.lf_queue.proofs.ready_set.lower.Goals as goal

pub index_mut-requires : goal.index_mut-requires
index_mut-requires c =
    let same = still (λ n. n - 1) c.args.levels.now c.loop-level.levels c.loop-level.level-index c.args.at c.level-item.result (omega arith) c.loop-level.invariant.counts in
    let within = level_place (items_of c.args.levels.now) c.loop-level.level-index c.args.at c.requires.tower c.requires.place (let e = items_length c.args.levels.now in omega arith) in
    let len = (get_or c.loop-level.levels c.loop-level.level-index c.level-item.result).ok.0 ∙ ap length same in
    let place = c.loop-level.invariant.place in
    omega (arith, len, within, place)

within : (c : goal.After-levels-1) → c.loop-level.place < length (get_or c.loop-level.levels c.loop-level.level-index c.level-item.result).items
within c =
    let same = still (λ n. n - 1) c.args.levels.now c.loop-level.levels c.loop-level.level-index c.args.at c.level-item.result (omega arith) c.loop-level.invariant.counts in
    let within = level_place (items_of c.args.levels.now) c.loop-level.level-index c.args.at c.requires.tower c.requires.place (let e = items_length c.args.levels.now in omega arith) in
    let len = ap length same in
    let place = c.loop-level.invariant.place in
    omega (arith, len, within, place)

pub loop-level-preserved : goal.loop-level-preserved
loop-level-preserved c = record {
  counts =
      items_set c.loop-level.levels c.loop-level.level-index _
      ∙ ap (λ p. set (items_of c.loop-level.levels) c.loop-level.level-index (set (get_or c.loop-level.levels c.loop-level.level-index c.level-item.result).items p (c.index_mut.result.now - 1))) c.loop-level.invariant.place
      ∙ one_more (λ n. n - 1) c.args.levels.now c.loop-level.levels c.loop-level.level-index c.args.at c.level-item.result (omega arith) c.loop-level.invariant.counts c.index_mut.result.now c.loop-level.auto.levels
      (get_or_read (get_or c.loop-level.levels c.loop-level.level-index c.level-item.result).items c.loop-level.place c.index_mut.result.now (within c) c.index_mut.ensures.value 0
      ∙ ap (λ p. get_or (get_or c.loop-level.levels c.loop-level.level-index c.level-item.result).items p 0) c.loop-level.invariant.place);
  place = ap (λ n. n / 2) c.loop-level.invariant.place ∙ sym (halved_next c.loop-level.level-index c.args.at);
}

pub returns : goal.returns
returns c = c.loop-level.invariant.counts ∙ changed_all (λ n. n - 1) c.loop-level.level-index c.args.at (items_of c.args.levels.now) (let e = items_length c.args.levels.now in omega arith)

pub overflow_sub-index_mut : goal.overflow_sub-index_mut
overflow_sub-index_mut c =
    let same = still (λ n. n - 1) c.args.levels.now c.loop-level.levels c.loop-level.level-index c.args.at c.level-item.result (omega arith) c.loop-level.invariant.counts in
    let within = level_place (items_of c.args.levels.now) c.loop-level.level-index c.args.at c.requires.tower c.requires.place (let e = items_length c.args.levels.now in omega arith) in
    let len = ap length same in
    let place = c.loop-level.invariant.place in
    let read = get_or_read (get_or c.loop-level.levels c.loop-level.level-index c.level-item.result).items c.loop-level.place c.index_mut.result.now (omega (arith, len, within, place)) c.index_mut.ensures.value 0
    ∙ ap (λ l. get_or l c.loop-level.place 0) same ∙ ap (λ p. get_or (get_or (items_of c.args.levels.now) c.loop-level.level-index []) p 0) place in
    let unit = level_unit (items_of c.args.levels.now) c.loop-level.level-index c.args.at c.requires.tower c.requires.counted (let e = items_length c.args.levels.now in omega arith) in
    omega (arith, read, unit)

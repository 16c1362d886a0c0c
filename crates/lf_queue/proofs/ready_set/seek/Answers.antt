use Rattle.std.proofs.Common.{[], ap, arith, get_or, length, sym, ◌+◌, ◌-◌, ◌*◌, ◌∙◌}
use Rattle.lf_queue.proofs.Counts.{find_only, level_last, level_length, level_total, seek_high, seek_low, seek_within}
use Rattle.lf_queue.proofs.Levels.{items_length, items_of, not_none, read_count, read_length}
use Rattle.lf_queue.proofs.ready_set.seek.Goals as goal

pub loop-level-init : goal.loop-level-init
loop-level-init c =
    let some = not_none c.args.levels.now c.args.number c.requires.there in
    let same = items_length c.args.levels.now in
    record {
      within = omega arith;
      found = sym (find_only (get_or (items_of c.args.levels.now) (length c.args.levels.now - 1) []) c.args.number
          (level_last (items_of c.args.levels.now) (length c.args.levels.now - 1) c.requires.tower (omega arith))
          (let e = level_total (items_of c.args.levels.now) (length c.args.levels.now - 1) c.requires.tower (omega arith) in let t = c.requires.there in omega (arith, e, t)));
    }

pub overflow_mul-place : goal.overflow_mul-place
overflow_mul-place c =
    let same = items_length c.args.levels.now in
    let w = seek_within (items_of c.args.levels.now) c.args.number c.loop-level.level (c.loop-level.level - 1) c.loop-level.place c.loop-level.left c.requires.tower (omega arith) (omega (arith, same)) c.requires.there c.loop-level.invariant.found in
    let l = level_length (items_of c.args.levels.now) (c.loop-level.level - 1) c.requires.tower (omega (arith, same)) in
    let s = c.requires.short in
    omega (arith, w, l, s)

pub index-first-requires : goal.index-first-requires
index-first-requires c =
    let same = items_length c.args.levels.now in
    let w = seek_within (items_of c.args.levels.now) c.args.number c.loop-level.level (c.loop-level.level - 1) c.loop-level.place c.loop-level.left c.requires.tower (omega arith) (omega (arith, same)) c.requires.there c.loop-level.invariant.found in
    let l = read_length c.args.levels.now (c.loop-level.level - 1) c.index-levels-level.result (omega arith) c.index-levels-level.is in
    omega (arith, w, l)

pub overflow_add-place : goal.overflow_add-place
overflow_add-place c =
    let same = items_length c.args.levels.now in
    let w = seek_within (items_of c.args.levels.now) c.args.number c.loop-level.level (c.loop-level.level - 1) c.loop-level.place c.loop-level.left c.requires.tower (omega arith) (omega (arith, same)) c.requires.there c.loop-level.invariant.found in
    let l = level_length (items_of c.args.levels.now) (c.loop-level.level - 1) c.requires.tower (omega (arith, same)) in
    let s = c.requires.short in
    omega (arith, w, l, s)

pub loop-level-preserved-then-left-first : goal.loop-level-preserved-then-left-first
loop-level-preserved-then-left-first c =
    let same = items_length c.args.levels.now in
    let w = seek_within (items_of c.args.levels.now) c.args.number c.loop-level.level (c.loop-level.level - 1) c.loop-level.place c.loop-level.left c.requires.tower (omega arith) (omega (arith, same)) c.requires.there c.loop-level.invariant.found in
    let n = read_count c.args.levels.now (c.loop-level.level - 1) (c.loop-level.place * 2) c.index-levels-level.result c.index-first.result.now (omega arith) c.index-levels-level.is w c.index-first.ensures in
    let t = c.if-left-first.true in
    record {
      within = omega arith;
      found = ap (λ m. (c.loop-level.place * 2 + 1, c.loop-level.left - m)) n ∙ seek_high (items_of c.args.levels.now) c.args.number c.loop-level.level (c.loop-level.level - 1) c.loop-level.place c.loop-level.left c.requires.tower (omega arith) (omega (arith, same)) c.requires.there c.loop-level.invariant.found (omega (arith, n, t));
    }

pub loop-level-preserved : goal.loop-level-preserved
loop-level-preserved c =
    let same = items_length c.args.levels.now in
    let w = seek_within (items_of c.args.levels.now) c.args.number c.loop-level.level (c.loop-level.level - 1) c.loop-level.place c.loop-level.left c.requires.tower (omega arith) (omega (arith, same)) c.requires.there c.loop-level.invariant.found in
    let n = read_count c.args.levels.now (c.loop-level.level - 1) (c.loop-level.place * 2) c.index-levels-level.result c.index-first.result.now (omega arith) c.index-levels-level.is w c.index-first.ensures in
    let t = c.if-left-first.false in
    record {
      within = omega arith;
      found = seek_low (items_of c.args.levels.now) c.args.number c.loop-level.level (c.loop-level.level - 1) c.loop-level.place c.loop-level.left c.requires.tower (omega arith) (omega (arith, same)) c.requires.there c.loop-level.invariant.found (omega (arith, n, t));
    }

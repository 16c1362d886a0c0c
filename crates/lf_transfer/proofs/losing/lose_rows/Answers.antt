use Rattle.std.proofs.Common.{ap, arith, filter, refl, reverse, slice_index_or, subst, ◌++◌, ◌∙◌}
use Rattle.std.proofs.lemmas.List.{drop_more}
use Rattle.lf_base.specs.FreezeResult.{freeze_result}
use Rattle.lf_barrier.proofs.MovingEdges.RowLoops.{drop_none, no_name}
use Rattle.lf_transfer.specs.Freezing.{TurnsTo, is_bare_region}
use Rattle.lf_transfer.proofs.Freezes.LostRegions.{all_done, losing_begins, losing_on, may_lose_one, one_more_fits}
use Rattle.lf_transfer.proofs.losing.lose_rows.Goals as goal

pub loop-r-init : goal.loop-r-init
loop-r-init g c = record {
  losing = λ s v m. losing_begins (freeze_result s v) c.args.losing.now c.args.regions.now c.args.work.now.names;
  room = refl;
  fits = omega (arith, c.requires.room);
}

pub lose_from-requires-clause-may : goal.lose_from-requires-clause-may
lose_from-requires-clause-may g c κs within =
    let rs = c.args.losing.now in
    let i = c.loop-r.r-index in
    let h = c.requires.may in (
      c.args.regions.now,
      (
        h.0,
        (
          h.1.0,
          may_lose_one (g.S.Store.rows c.args.store.now) c.args.regions.now h.0 h.1.0 c.args.taken.now.keys rs h.1.1 i c.loop-r.regions c.args.work.now.names c.loop-r.work.names
              (c.loop-r.invariant.losing h.0 h.1.0 h.1.1) (slice_index_or rs i no_name) (drop_more rs i no_name c.loop-r-test.true),
        ),
      ),
    )

pub lose_from-requires-clause-room : goal.lose_from-requires-clause-room
lose_from-requires-clause-room g c κs within = omega (arith, c.loop-r.invariant.fits, c.loop-r-test.true)

pub loop-r-preserved : goal.loop-r-preserved
loop-r-preserved g c =
    let rows = g.S.Store.rows c.args.store.now in
    let rs = c.args.losing.now in
    let i = c.loop-r.r-index in
    let r = slice_index_or rs i no_name in
    let at = drop_more rs i no_name c.loop-r-test.true in
    let h = c.requires.may in
    let one = may_lose_one rows c.args.regions.now h.0 h.1.0 c.args.taken.now.keys rs h.1.1 i c.loop-r.regions c.args.work.now.names c.loop-r.work.names (c.loop-r.invariant.losing h.0 h.1.0 h.1.1) r at in
    record {
      losing = λ s v m.
          let before = c.loop-r.invariant.losing s v m in
          let may = may_lose_one rows c.args.regions.now s v c.args.taken.now.keys rs m i c.loop-r.regions c.args.work.now.names c.loop-r.work.names before r at in
          losing_on rows c.args.regions.now s v c.args.taken.now.keys rs m i c.loop-r.regions c.args.work.now.names c.loop-r.work.names before r at c.lose_from.new.regions
          (c.lose_from.ensures.turned c.args.regions.now s v may) c.lose_from.new.work.names (c.lose_from.ensures.named c.args.regions.now s v may);
      room = omega (arith, c.loop-r.invariant.room, c.lose_from.ensures.room);
      fits = omega (
        arith,
        c.loop-r.invariant.fits,
        c.lose_from.ensures.room,
        one_more_fits (is_bare_region (freeze_result h.0 h.1.0) r) r c.loop-r.work.names c.lose_from.new.work.names (c.lose_from.ensures.named c.args.regions.now h.0 h.1.0 one),
      );
    }

pub returns-clause-turned : goal.returns-clause-turned
returns-clause-turned g c s v m =
    let rs = c.args.losing.now in
    let i = c.loop-r.r-index in
    let done = c.loop-r.invariant.losing s v m in
    subst (λ l. TurnsTo (freeze_result s v) l c.args.regions.now c.loop-r.regions)
    (all_done (freeze_result s v) rs i c.args.regions.now c.loop-r.regions c.args.work.now.names c.loop-r.work.names done (drop_none rs i c.loop-r-test.false)) done.turned

pub returns-clause-named : goal.returns-clause-named
returns-clause-named g c s v m =
    let rs = c.args.losing.now in
    let i = c.loop-r.r-index in
    let done = c.loop-r.invariant.losing s v m in
    done.named ∙ ap (λ l. reverse (filter (is_bare_region (freeze_result s v)) l) ++ c.args.work.now.names)
    (all_done (freeze_result s v) rs i c.args.regions.now c.loop-r.regions c.args.work.now.names c.loop-r.work.names done (drop_none rs i c.loop-r-test.false))

use Rattle.std.proofs.Common.{[], arith, refl, ◌∷◌}
use Rattle.lf_base.specs.declared.ids.CownId.{CownId}
use Rattle.lf_base.specs.Edges.{Content, edges_by}
use Rattle.lf_trials.specs.TwoRegions.{two_regions}
use Rattle.lf_trials.proofs.TwoRegions.{content_less, content_more, home}
use Rattle.lf_trials.proofs.counted_edges.counts_content.Goals as goal

-- any cown
abbrev cown : CownId
cown = record { birth = 1; seq = 1 }

pub count_content-requires-clause-may : goal.count_content-requires-clause-may
count_content-requires-clause-may g c κs within =
    (two_regions.rows, ([], (cown, content_more (g.S.Store.rows c.in_ok-store.store) c.in_ok-store.regions [] c.in_ok-store.ensures (omega arith) cown)))

pub told-requires-after_bounds : goal.told-requires-after_bounds
told-requires-after_bounds g c κs within =
    let one = c.count_content.ensures.counted two_regions.rows [] cown (content_more (g.S.Store.rows c.in_ok-store.store) c.in_ok-store.regions [] c.in_ok-store.ensures (omega arith) cown) in
    (two_regions.rows, (edges_by (Content cown) (home ∷ []), (one, refl)))

pub uncount_content-requires-clause-may : goal.uncount_content-requires-clause-may
uncount_content-requires-clause-may g c κs within =
    let one = c.count_content.ensures.counted two_regions.rows [] cown (content_more (g.S.Store.rows c.in_ok-store.store) c.in_ok-store.regions [] c.in_ok-store.ensures (omega arith) cown) in
    (two_regions.rows, (edges_by (Content cown) (home ∷ []), ([], (cown, content_less (g.S.Store.rows c.count_content.new.store) c.count_content.new.regions cown one))))

pub told-requires-2-after_bounds : goal.told-requires-2-after_bounds
told-requires-2-after_bounds g c κs within =
    let one = c.count_content.ensures.counted two_regions.rows [] cown (content_more (g.S.Store.rows c.in_ok-store.store) c.in_ok-store.regions [] c.in_ok-store.ensures (omega arith) cown) in
    let none = c.uncount_content.ensures.counted two_regions.rows (edges_by (Content cown) (home ∷ [])) [] cown (content_less (g.S.Store.rows c.count_content.new.store) c.count_content.new.regions cown one) in
    (two_regions.rows, ([], (none, refl)))

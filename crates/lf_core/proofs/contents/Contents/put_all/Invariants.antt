use Rattle.std.proofs.Common.{length, true, ◌≡◌}
use Rattle.lf_base.specs.declared.ids.CownId.{CownId}
use Rattle.lf_base.specs.Sets.{Member}
use Rattle.lf_core.specs.Contents.{has_place, kept}
use Rattle.lf_core.specs.Keyed.{put_all}
use Rattle.lf_core.proofs.contents.Contents.put_all.Given as goal

abbrev pub invariant-loop-cown : goal.invariant-loop-cown
invariant-loop-cown g l =
    (put_all l.more (kept l.self.places.entries) ≡ put_all l.fn.more (kept l.fn.self.places.entries))
    × (((x : CownId × g.row.C.Denot) → Member x l.more → has_place l.self.places.entries x.0 ≡ true)
    × ((c : CownId) → has_place l.self.places.entries c ≡ has_place l.fn.self.places.entries c))

abbrev pub decreases-loop-cown : goal.decreases-loop-cown
decreases-loop-cown g l = length l.more

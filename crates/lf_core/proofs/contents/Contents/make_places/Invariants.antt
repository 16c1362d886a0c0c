use Rattle.std.proofs.Common.{take, true, ◌≡◌}
use Rattle.lf_base.specs.declared.ids.CownId.{CownId}
use Rattle.lf_base.specs.Sets.{Member}
use Rattle.lf_core.specs.Contents.{has_place, kept}
use Rattle.lf_core.proofs.contents.Contents.make_places.Given as goal

abbrev pub invariant-loop-pair : goal.invariant-loop-pair
invariant-loop-pair g l =
    (kept l.self.places.entries ≡ kept l.fn.self.places.entries)
    × (((x : CownId × g.row.C.Denot) → Member x (take l.pair-index l.more) → has_place l.self.places.entries x.0 ≡ true)
    × ((c : CownId) → has_place l.fn.self.places.entries c ≡ true → has_place l.self.places.entries c ≡ true))

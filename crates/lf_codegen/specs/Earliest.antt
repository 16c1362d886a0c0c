-- The refusal that stands first of those that were noted, of two at one place the one that was noted before.
use Rattle.std.specs.Prelude.{List, Option, Some, None, fold, if◌then◌else◌}
use Rattle.lf_base.specs.declared.refusals.Refusal.{Refusal}
use Rattle.lf_parser.specs.TreeNames.{place_before}

abbrev pub earlier_refusal : Option Refusal → Refusal → Option Refusal
earlier_refusal None refusal = Some refusal
earlier_refusal (Some first) refusal = if place_before refusal.place first.place then Some refusal else Some first

-- after these were noted
abbrev pub earliest : Option Refusal → List Refusal → Option Refusal
earliest first noted = fold earlier_refusal first noted

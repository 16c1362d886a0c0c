use Rattle.std.proofs.Common.{ap, ◌∙◌}
use Rattle.std.specs.Option.{option_map}
use Rattle.lf_base.specs.TakeResult.{row_field}
use Rattle.lf_frozen.specs.FrozenRows.{as_row}
use Rattle.lf_heap.proofs.frozen.field_in.Goals as goal

pub returns-in-Some : goal.returns-in-Some
returns-in-Some c = c.field_of_row.ensures ∙ ap (λ w. row_field (option_map as_row w) c.args.key) c.in-Some.ensures.found

use Rattle.std.proofs.Common.{◌∙◌}
use Rattle.lf_graph.specs.StoredRows.{is_under}
use Rattle.lf_graph.proofs.Stores.Walks.{differ_filter, first_there, next_in_walk, none_outside, part_new, round_again}
use Rattle.lf_graph.proofs.laws.walks_and_parts.Goals as goal

pub returns-clause-first_is_there : goal.returns-clause-first_is_there
returns-clause-first_is_there c rows w o e = first_there rows w o e

pub returns-clause-next : goal.returns-clause-next
returns-clause-next c rows before after w r d e = next_in_walk rows before after w r d e

pub returns-clause-part_differs : goal.returns-clause-part_differs
returns-clause-part_differs c rows w d = differ_filter (is_under w) rows d

pub returns-clause-part_is_new : goal.returns-clause-part_is_new
returns-clause-part_is_new c rows rest w d same = part_new rows rest w d same

pub returns-clause-none_left : goal.returns-clause-none_left
returns-clause-none_left c rows rest w same = same w ∙ none_outside w rows

pub returns-clause-round : goal.returns-clause-round
returns-clause-round c rows w = round_again rows w

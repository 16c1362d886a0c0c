-- A tree that is still growing, as what a script has so far.
use Rattle.std.specs.Prelude.{map}
use Rattle.lf_parser.specs.declared.tree.Tree.{Tree}
use Rattle.lf_parser.specs.Grammar.{Items}
use Rattle.lf_parser.specs.Plain.{plain_function, plain_stmt}

abbrev pub items_of : Tree → Items
items_of t = record { functions = map plain_function t.functions; main = map plain_stmt t.main }

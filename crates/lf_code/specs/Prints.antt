-- Built-in calls whose arguments are operands.
use Rattle.std.specs.Prelude.{List, Some, [], cond, leb, length, ℕ, ◌++◌, ◌+◌, ◌∷◌}
use Rattle.lf_base.specs.declared.faults.Fault.TheVariants.{OutputFull}
use Rattle.lf_base.specs.declared.limits.TheConstants.{MOST_PRINTED_BYTES}
use Rattle.lf_base.specs.declared.values.Value.TheVariants as value
use Rattle.lf_base.specs.HeapCalls.{dissolve_change, frozen, merge_change, new_cown_change, new_region_change}
use Rattle.lf_base.specs.Operands.{pushed}
use Rattle.lf_base.specs.Texts.{Text}
use Rattle.lf_code.specs.declared.instr.BuiltName.{BuiltName}
use Rattle.lf_code.specs.declared.instr.BuiltName.TheVariants.{Cown, Dissolve, Freeze, Merge, Print, Region}
use Rattle.lf_code.specs.Actions.{operands, pops}
use Rattle.lf_code.specs.Progress.{Progress, Did, Does, Faulted, on_state, to_state}
use Rattle.lf_code.specs.Spelling.{spelled_all}

-- the bytes of lines, each with its line feed
abbrev pub bytes_of : List (List ℕ) → ℕ
bytes_of [] = 0
bytes_of (line ∷ lines) = length line + 1 + bytes_of lines

-- a line more, and None in the place of n operands
abbrev pub with_line : ℕ → Progress → List ℕ → Did
with_line n c line = cond (leb (bytes_of c.lines + (length line + 1)) MOST_PRINTED_BYTES)
    (Does (record c { state = pushed (Some value.None) (pops n c.state); lines = c.lines ++ line ∷ [] }))
    (Faulted OutputFull)

abbrev pub print_line : List Text → ℕ → Progress → Did
print_line texts n c = with_line n c (spelled_all texts (operands n c.state))

-- a built-in call with n operands
abbrev pub built : List Text → BuiltName → ℕ → Progress → Did
built texts Print n = print_line texts n
built texts Region n = on_state new_region_change
built texts Cown n = on_state new_cown_change
built texts Freeze n = to_state frozen
built texts Merge n = on_state merge_change
built texts Dissolve n = on_state dissolve_change

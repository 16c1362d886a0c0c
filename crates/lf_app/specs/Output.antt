-- What the program writes.
use Rattle.std.specs.Prelude.{ℕ, List, [], ◌∷◌, ◌++◌, codes, flat_map, Option, Some, None}
use Rattle.std.specs.Fmt.{decimal}
use Rattle.lf_base.specs.declared.faults.FaultAt.{FaultAt}
use Rattle.lf_base.specs.declared.refusals.Refusal.{Refusal}
use Rattle.lf_base.specs.FaultTable.{fault_name, fault_number}
use Rattle.lf_base.specs.RefusalKinds.{kind_name}
use Rattle.lf_code.specs.Listing.{joined, listing}
use Rattle.lf_app.specs.Verdicts.{Verdict, Runs, Checked, Lists, Refuses}

-- a line with its line feed
abbrev pub with_feed : List ℕ → List ℕ
with_feed line = line ++ 10 ∷ []

-- the line of a refusal
abbrev pub refusal_line : Refusal → List ℕ
refusal_line refusal =
    with_feed (codes "refused " ++ kind_name refusal.kind
    ++ codes " at line " ++ decimal refusal.place.line ++ codes " column " ++ decimal refusal.place.column)

-- the line of a fault
abbrev pub fault_line : FaultAt → List ℕ
fault_line at =
    joined (codes "fault F" ∷ decimal (fault_number at.fault) ∷ codes " " ∷ fault_name at.fault ∷ codes " at line " ∷ decimal at.line
    ∷ codes "\n" ∷ [])

-- the closing line of a run that no fault ended, and that of one that a fault did
abbrev pub closing_line : List ℕ
closing_line = with_feed (codes "done 1 behaviours 0 faults")

abbrev pub faulted_line : List ℕ
faulted_line = with_feed (codes "done 1 behaviours 1 faults")

-- how a run ends that a fault ended, or none
abbrev pub last_lines : Option FaultAt → List ℕ
last_lines None = closing_line
last_lines (Some at) = fault_line at ++ faulted_line

-- the text of a run of one behaviour: its heading, what it printed, its fault, and the closing line
abbrev pub run_text : List (List ℕ) → Option FaultAt → List ℕ
run_text lines fault = with_feed (codes "[0]") ++ flat_map with_feed lines ++ last_lines fault

-- what is written of a script
abbrev pub output_of : Verdict → List ℕ
output_of (Runs lines fault) = run_text lines fault
output_of Checked = with_feed (codes "script ok")
output_of (Lists code) = listing code
output_of (Refuses refusal) = refusal_line refusal

-- the journal of a script: the numbers of the behaviours of its run, in the order in which they were committed
abbrev pub journal_of : Verdict → List ℕ
journal_of (Runs lines fault) = 0 ∷ []
journal_of Checked = []
journal_of (Lists code) = []
journal_of (Refuses refusal) = []

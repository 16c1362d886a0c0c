use Rattle.std.proofs.Common.{List, drop, take, ℕ, ◌++◌, ◌≡◌}
use Rattle.lf_code.specs.VarSets.{HasVars, all_new}
use Rattle.lf_code.proofs.var_set.VarSet.add_new.Given as goal

abbrev pub invariant-loop-v : goal.invariant-loop-v
invariant-loop-v l = (known : List ℕ) → HasVars l.fn.self known
    → HasVars l.self (known ++ take l.v-index l.vars)
    × (all_new (known ++ take l.v-index l.vars) (drop l.v-index l.vars) ≡ all_new known l.vars)

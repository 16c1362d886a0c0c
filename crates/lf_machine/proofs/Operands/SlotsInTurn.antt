-- Slots that come or go one after another.
use Rattle.std.proofs.Common.{None, ap, arith, suc, ℕ, ◌+◌, ◌-◌, ◌<◌, ◌∙◌, ◌≡◌}
use Rattle.lf_base.specs.Operands.{popped, pushed}
use Rattle.lf_base.specs.PlainState.{State}
use Rattle.lf_code.specs.Actions.{pops, unset_pushed}

pub unset_next : (n k : ℕ) (s t : State) → k < n → t ≡ pushed None s → unset_pushed (n - (k + 1)) t ≡ unset_pushed (n - k) s
unset_next n k s t h e =
    let left : suc (n - (k + 1)) ≡ n - k = omega (arith, h) in
    ap (unset_pushed (n - (k + 1))) e ∙ ap (λ m. unset_pushed m s) left

pub pops_next : (n k : ℕ) (s t : State) → k < n → t ≡ popped s → pops (n - (k + 1)) t ≡ pops (n - k) s
pops_next n k s t h e =
    let left : suc (n - (k + 1)) ≡ n - k = omega (arith, h) in
    ap (pops (n - (k + 1))) e ∙ ap (λ m. pops m s) left

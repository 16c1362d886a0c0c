-- How many bytes of a kind stand at the front.
use Rattle.std.proofs.Common.{◌≡◌, ◌∙◌, ℕ, suc, ◌+◌, Bool, true, false, cond, List, [], ◌∷◌, ◌++◌, length, take, drop, refl, ap, arith, one-add}
use Rattle.std.specs.List.{prefix_len}
use Rattle.lf_lexer.specs.Bytes.{Passes, PassesNoMore}

pub prefix : (test : ℕ → Bool) (bytes rest : List ℕ) → Passes test bytes → PassesNoMore test rest → prefix_len test (bytes ++ rest) ≡ length bytes
prefix test [] [] passes stops = refl
prefix test [] (byte ∷ rest) passes stops = ap (λ b. cond b (1 + prefix_len test rest) 0) stops
prefix test (byte ∷ bytes) rest passes stops =
    ap (λ b. cond b (1 + prefix_len test (bytes ++ rest)) 0) passes.0 ∙ (let e = prefix test bytes rest passes.1 stops in omega arith)

pub passes_prefix : (test : ℕ → Bool) (bytes : List ℕ) → Passes test (take (prefix_len test bytes) bytes)
passes_prefix test [] = tt
passes_prefix test (byte ∷ bytes) = by_test (test byte) refl (passes_prefix test bytes)
  where
    by_test : (b : Bool) → test byte ≡ b → Passes test (take (prefix_len test bytes) bytes) → Passes test (take (cond b (1 + prefix_len test bytes) 0) (byte ∷ bytes))
    by_test true e rest = rw (one-add (prefix_len test bytes)) (e, rest)
    by_test false e rest = tt

pub stops_prefix : (test : ℕ → Bool) (bytes : List ℕ) → PassesNoMore test (drop (prefix_len test bytes) bytes)
stops_prefix test [] = tt
stops_prefix test (byte ∷ bytes) = by_test (test byte) refl (stops_prefix test bytes)
  where
    by_test : (b : Bool) → test byte ≡ b → PassesNoMore test (drop (prefix_len test bytes) bytes) → PassesNoMore test (drop (cond b (1 + prefix_len test bytes) 0) (byte ∷ bytes))
    by_test true e rest = rw (one-add (prefix_len test bytes)) rest
    by_test false e rest = e

pub prefix_more : (test : ℕ → Bool) (byte : ℕ) (bytes : List ℕ) → test byte ≡ true → prefix_len test (byte ∷ bytes) ≡ suc (prefix_len test bytes)
prefix_more test byte bytes h = ap (λ b. cond b (1 + prefix_len test bytes) 0) h ∙ one-add (prefix_len test bytes)

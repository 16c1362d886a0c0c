-- One more piece of what was read or written.
use Rattle.std.proofs.Common.{◌≡◌, ◌∙◌, ◌≤◌, ◌+◌, ◌-◌, ℕ, List, ◌++◌, length, take, drop, Option, Result, Ok, Err, IfOk, sym, ap, subst, arith}
use Rattle.std.proofs.lemmas.Grind.{common_steps}
use Rattle.std.specs.Io.{ReadsAtMost}
use Rattle.std.specs.Io.KnownBytes.{Consumes, Appends, ReadConsumes}
use Rattle.std.proofs.KnownBytes.{Consumes-trans, Appends-trans}
use Rattle.std.proofs.Math.Seq.{take-append-add, take-add}
use Rattle.std.proofs.lemmas.List.{take-append-le, take_at, take-append-drop}
use borrow.Rule.Slice.PartMut.{put_mid}

-- the prefix of a buffer, after a write of ys after its first bytes
pub prefix_grows : (at n k : ℕ) (xs ys : List ℕ) → at ≤ length xs → n ≤ length ys
    → take (at + n) (put_mid at k xs ys) ≡ take at xs ++ take n ys
prefix_grows at n k xs ys a d =
    let len : length (take at xs) ≡ at = grind (arith, common_steps) in
    let seam = take-append-add (take at xs) (ys ++ drop k (drop at xs)) n in
    let prefix = take-append-le n ys (drop k (drop at xs)) d in
    ap (λ m. take (m + n) (take at xs ++ (ys ++ drop k (drop at xs)))) (sym len) ∙ seam ∙ ap (λ l. take at xs ++ l) prefix

-- a read into the middle of a buffer
pub piece_read : {E : Type 0} (old new : Option (List ℕ)) (r : Result ℕ E) (at k : ℕ) (xs ys : List ℕ)
    → at ≤ length xs → ReadsAtMost r ys → ReadConsumes old new r ys
    → IfOk r (λ n. (bs : List ℕ) × (take (at + n) (put_mid at k xs ys) ≡ take at xs ++ bs) × Consumes old new bs)
piece_read old new (Ok n) at k xs ys within most moved = (take n ys, prefix_grows at n k xs ys within most.0, moved.0)
piece_read old new (Err e) at k xs ys within most moved = tt

-- the bytes written so far, and those of one call more
pub prefix_follows : (at n : ℕ) (xs : List ℕ) → at ≤ length xs → n ≤ length xs - at
    → take (at + n) xs ≡ take at xs ++ take n (take (length xs - at) (drop at xs))
prefix_follows at n xs a b =
    let whole : take (length xs - at) (drop at xs) ≡ drop at xs = grind (arith, common_steps) in
    take-add at n xs ∙ ap (λ l. take at xs ++ take n l) (sym whole)

pub consumes_more : (a b c : Option (List ℕ)) (xs ys all : List ℕ) → all ≡ xs ++ ys → Consumes a b xs → Consumes b c ys → Consumes a c all
consumes_more a b c xs ys all e p q = subst (Consumes a c) (sym e) (Consumes-trans a b c xs ys p q)

pub appends_more : (a b c : Option (List ℕ)) (xs ys all : List ℕ) → all ≡ xs ++ ys → Appends a b xs → Appends b c ys → Appends a c all
appends_more a b c xs ys all e p q = subst (Appends a c) (sym e) (Appends-trans a b c xs ys p q)

-- the next bytes were copied to the start of a buffer
pub copied : (at n : ℕ) (all copy rest : List ℕ) → copy ≡ take n (drop at all) → length copy ≡ n → drop at all ≡ take n (copy ++ rest) ++ drop (at + n) all
copied at n all copy rest is len =
    let prefix : take n (copy ++ rest) ≡ copy = take_at copy rest n len in
    let back : drop (at + n) all ≡ drop n (drop at all) = grind (arith, common_steps) in
    sym (rw (prefix, back, is) (take-append-drop n (drop at all)))

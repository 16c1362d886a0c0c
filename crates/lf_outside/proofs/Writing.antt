-- Bytes written in parts: what was written so far, and those of one part more, or of a prefix of it.
use Rattle.std.proofs.Common.{Err, IsErr, List, Ok, Option, Result, [], ap, arith, drop, flat_map, get_or, length, refl, subst, suc, sym, take, ℕ, ◌++◌, ◌+◌, ◌∙◌, ◌<◌, ◌∷◌, ◌≡◌, ◌≤◌}
use Rattle.std.specs.Io.KnownBytes.{Appends}
use Rattle.std.proofs.KnownBytes.{Appends-nil}
use Rattle.std.proofs.lemmas.List.{append-nil, length-append, take-append-drop, take-append-le}
use Rattle.std.proofs.lemmas.List.Concat.{flat_map-append}
use Rattle.std.proofs.Math.Seq.{drop-cons, take-append-add}
use Rattle.lf_outside.specs.declared.streams.Failed.{Failed}
use Rattle.lf_outside.specs.Causes.{HasCause, Rose}
use Rattle.lf_outside.specs.Streams.{Stream}
use Rattle.lf_outside.specs.Transfer.{AppendsPrefix, Writes}
use Rattle.lf_outside.proofs.Moves.{appends_more}

-- a prefix of the next part, after those before it
prefix_more : (a b c : Option (List ℕ)) (xs ys zs : List ℕ) → Appends a b xs → AppendsPrefix ys b c → AppendsPrefix (xs ++ (ys ++ zs)) a c
prefix_more a b c xs ys zs p (n, within, q) = (
  length xs + n,
  omega (arith, within, length-append xs (ys ++ zs), length-append ys zs),
  appends_more a b c xs (take n ys) (take (length xs + n) (xs ++ (ys ++ zs)))
      (take-append-add xs (ys ++ zs) n ∙ ap (λ l. xs ++ l) (take-append-le n ys zs within)) p q,
)

-- the next of several parts fails
pub part_fails : (s t u : Stream) (xs ys zs all : List ℕ) (f : Failed) (r : Result (Unit {0}) Failed) → all ≡ xs ++ (ys ++ zs) → t.faults ≡ s.faults
    → Appends s.bytes t.bytes xs → AppendsPrefix ys t.bytes u.bytes → HasCause {T = Unit {0}} t.faults u.faults (Err f) → IsErr r → Writes all s u r
part_fails s t u xs ys zs all f (Ok v) e kept done prefix cause failed = cc
part_fails s t u xs ys zs all f (Err g) e kept done prefix cause failed = record {
  all = tt;
  prefix = subst (λ l. AppendsPrefix l s.bytes u.bytes) (sym e) (prefix_more s.bytes t.bytes u.bytes xs ys zs done prefix);
  cause = record {
    later = subst (λ n. n ≤ u.faults) kept cause.later;
    failed = subst (λ n. Rose n u.faults) kept cause.failed;
    kept = tt;
  };
}

-- the parts before a place, the one there, and those after it
pub parts_at : {X : Type 0} (f : X → List ℕ) (xs : List X) (i : ℕ) (d : X) → i < length xs
    → flat_map f xs ≡ flat_map f (take i xs) ++ (f (get_or xs i d) ++ flat_map f (drop (i + 1) xs))
parts_at f xs i d within =
    let e : suc i ≡ i + 1 = omega arith in
    ap (flat_map f) (sym (take-append-drop i xs)) ∙ flat_map-append f (take i xs) (drop i xs)
    ∙ ap (λ l. flat_map f (take i xs) ++ flat_map f l) (drop-cons xs i d within ∙ ap (λ j. get_or xs i d ∷ drop j xs) e)

-- ---- two pieces, one after the other

pub second_ends : (s t u : Stream) (xs ys : List ℕ) (v : Unit {0}) (r : Result (Unit {0}) Failed) → Writes xs s t (Ok v) → Writes ys t u r → Writes (xs ++ ys) s u r
second_ends s t u xs ys v (Ok w) p q = record {
  all = appends_more s.bytes t.bytes u.bytes xs ys (xs ++ ys) refl p.all q.all;
  prefix = tt;
  cause = record {
    later = subst (λ n. n ≤ u.faults) p.cause.kept q.cause.later;
    failed = tt;
    kept = q.cause.kept ∙ p.cause.kept;
  };
}
second_ends s t u xs ys v (Err f) p q = part_fails s t u xs ys [] (xs ++ ys) f (Err f) (ap (λ l. xs ++ l) (sym (append-nil ys))) p.cause.kept p.all q.prefix q.cause refl

pub first_fails : (s t : Stream) (xs ys : List ℕ) (f : Failed) (r : Result (Unit {0}) Failed) → Writes xs s t (Err f) → IsErr r → Writes (xs ++ ys) s t r
first_fails s t xs ys f r p failed = part_fails s s t [] xs ys (xs ++ ys) f r refl refl (Appends-nil s.bytes) p.prefix p.cause failed

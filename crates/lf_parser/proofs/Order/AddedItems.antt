-- Forms that add what is among their tokens to what stands before, in the order of the tokens.
use Rattle.std.proofs.Common.{List, Option, [], ap, append-nil, append_assoc, inl, inr, subst, sym, ℕ, ◌++◌, ◌∙◌, ◌≡◌, ◌⊎◌}
use Rattle.lf_lexer.specs.declared.tokens.Token.{Token}
use Rattle.lf_parser.specs.Forms.{Form, Yields, Takes, Only, ◌⨟◌, ◌∣◌, Many, done, more, Located}

-- how items stand among tokens that lead from one state to another
pub record Among (State X : Type 0) : Type 1 where
  pub Stand : State → State → List X → List Token → Type 0
  pub none : (i : State) (tokens : List Token) → Stand i i [] tokens
  pub join : {i j k : State} {us vs : List X} {xs ys : List Token} → Stand i j us xs → Stand j k vs ys → Stand i k (us ++ vs) (xs ++ ys)

-- the items that f sees in a value are these and some more, which stand among the tokens
pub record Added {State X A : Type 0} (M : Among State X) (i j : State) (before : List X) (f : A → List X) (tokens : List Token) (a : A) : Type 0 where
  pub items : List X
  pub is : f a ≡ before ++ items
  pub stand : M.Stand i j items tokens

-- a form whose values have these items and those of its tokens
pub record AddsInOrder {State X A : Type 0} (M : Among State X) (i j : State) (before : List X) (f : A → List X) (P : Form A) : Type 0 where
  pub each : (tokens : List Token) (a : A) → P tokens a → Added M i j before f tokens a

-- no items are seen in a form's value
pub nothing : {State X A : Type 0} {M : Among State X} {i : State} {before : List X} {P : Form A} → AddsInOrder M i i before (λ _. before) P
nothing {M = M} {i = i} {before = before} = record { each = λ ts a h. record { items = []; is = sym (append-nil before); stand = M.none i ts } }

pub yields_adds : {State X A : Type 0} {M : Among State X} {i : State} {before : List X} {f : A → List X} (a : A) → f a ≡ before → AddsInOrder M i i before f (Yields a)
yields_adds {M = M} {i = i} {before = before} {f = f} a e = record {
  each = λ ts b h. record { items = []; is = ap f h.1 ∙ e ∙ sym (append-nil before); stand = M.none i ts };
}

pub takes_none : {State X A : Type 0} {M : Among State X} {i : State} {before : List X} {make : Token → Option A} → AddsInOrder M i i before (λ _. before) (Takes make)
takes_none = nothing

pub then_adds : {State X A B : Type 0} {M : Among State X} {i j k : State} {before : List X} {f : A → List X} {g : B → List X} {P : Form A} {Q : A → Form B}
    → AddsInOrder M i j before f P → ((a : A) → AddsInOrder M j k (f a) g (Q a)) → AddsInOrder M i k before g (P ⨟ Q)
then_adds {A = A} {B = B} {M = M} {i = i} {j = j} {k = k} {before = before} {f = f} {g = g} {P = P} {Q = Q} p q =
    record { each = λ ts b h. joined ts b h.0 h.1 h.2 h.3 (p.each h.0 h.2 h.4) ((q h.2).each h.1 b h.5) }
  where
    joined : (ts : List Token) (b : B) (xs ys : List Token) (a : A) → ts ≡ xs ++ ys → Added M i j before f xs a → Added M j k (f a) g ys b → Added M i k before g ts b
    joined ts b xs ys a e u v = record {
      items = u.items ++ v.items;
      is = v.is ∙ ap (λ ns. ns ++ v.items) u.is ∙ append_assoc before u.items v.items;
      stand = subst (M.Stand i k (u.items ++ v.items)) (sym e) (M.join u.stand v.stand);
    }

-- the same where the items of what is first may be lost
pub then_some_add : {State X A B : Type 0} {M : Among State X} {i : State} {f : A → List X} {g : B → List X} {P : Form A} {Q : A → Form B}
    → AddsInOrder M i i [] f P → ((a : A) → AddsInOrder M i i (f a) g (Q a) ⊎ AddsInOrder M i i [] g (Q a)) → AddsInOrder M i i [] g (P ⨟ Q)
then_some_add {A = A} {B = B} {M = M} {i = i} {f = f} {g = g} {P = P} {Q = Q} p q = record { each = λ ts b h. joined ts b h.0 h.1 h.2 h.3 (p.each h.0 h.2 h.4) h.5 (q h.2) }
  where
    joined : (ts : List Token) (b : B) (xs ys : List Token) (a : A) → ts ≡ xs ++ ys → Added M i i [] f xs a → Q a ys b → AddsInOrder M i i (f a) g (Q a) ⊎ AddsInOrder M i i [] g (Q a) → Added M i i [] g ts b
    joined ts b xs ys a e u h (inl k) =
        let v = k.each ys b h in
        record { items = u.items ++ v.items; is = v.is ∙ ap (λ ns. ns ++ v.items) u.is; stand = subst (M.Stand i i (u.items ++ v.items)) (sym e) (M.join u.stand v.stand) }
    joined ts b xs ys a e u h (inr k) =
        let v = k.each ys b h in
        record { items = v.items; is = v.is; stand = subst (M.Stand i i v.items) (sym e) (M.join (M.none i xs) v.stand) }

pub either_adds : {State X A : Type 0} {M : Among State X} {i j : State} {before : List X} {f : A → List X} {P Q : Form A} → AddsInOrder M i j before f P → AddsInOrder M i j before f Q → AddsInOrder M i j before f (P ∣ Q)
either_adds {A = A} {M = M} {i = i} {j = j} {before = before} {f = f} {P = P} {Q = Q} p q = record { each = λ ts a h. by_case ts a h }
  where
    by_case : (ts : List Token) (a : A) → (P ∣ Q) ts a → Added M i j before f ts a
    by_case ts a (inl h) = p.each ts a h
    by_case ts a (inr h) = q.each ts a h

pub only_adds : {State X A : Type 0} {M : Among State X} {i j : State} {before : List X} {f : A → List X} {condition : Type 0} {P : Form A} → AddsInOrder M i j before f P → AddsInOrder M i j before f (Only condition P)
only_adds p = record { each = λ ts a h. p.each ts a h.1 }

pub located_adds : {State X A : Type 0} {M : Among State X} {i j : State} {before : List X} {f : A → List X} {P : ℕ → Form A} → ((line : ℕ) → AddsInOrder M i j before f (P line)) → AddsInOrder M i j before f (Located P)
located_adds p = record { each = λ ts a h. (p (h.0).place.line).each ts a h.3 }

-- what a form adds to no items it adds to any
pub adds_after : {State X A : Type 0} {M : Among State X} {i j : State} {f : A → List X} {P : Form A} (before : List X) → AddsInOrder M i j [] f P → AddsInOrder M i j before (λ a. before ++ f a) P
adds_after before p = record {
  each = λ ts a h. let k = p.each ts a h in record { items = k.items; is = ap (λ ns. before ++ ns) k.is; stand = k.stand };
}

-- any number of steps
module _ {State X S : Type 0} {M : Among State X} {i : State} {Step : S → Form S} {f : S → List X} (step : (s : S) → AddsInOrder M i i (f s) f (Step s)) where
  steps_add : {s u : S} {ts : List Token} → Many Step s ts u → Added M i i (f s) f ts u
  steps_add (done {s}) = record { items = []; is = sym (append-nil (f s)); stand = M.none i [] }
  steps_add (more {s} {t} {u} {xs} {ys} h rest) =
      let first = (step s).each xs t h in
      let others = steps_add rest in
      record {
        items = first.items ++ others.items;
        is = others.is ∙ ap (λ ns. ns ++ others.items) first.is ∙ append_assoc (f s) first.items others.items;
        stand = M.join first.stand others.stand;
      }

  pub many_adds : (s : S) → AddsInOrder M i i (f s) f (Many Step s)
  many_adds s = record { each = λ ts a h. steps_add h }

-- what a form adds to no items stands among its tokens
pub stand_of : {State X A : Type 0} {M : Among State X} {i j : State} {f : A → List X} {P : Form A} → AddsInOrder M i j [] f P → (ts : List Token) (a : A) → P ts a → M.Stand i j (f a) ts
stand_of {M = M} {i = i} {j = j} p ts a h = let k = p.each ts a h in subst (λ ns. M.Stand i j ns ts) (sym k.is) k.stand

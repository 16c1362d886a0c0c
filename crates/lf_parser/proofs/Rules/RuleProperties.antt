-- What is said of a reading function, whatever it reads: what it reads is of its form, a refusal stands where the
-- form can't go on, both are seen by one token ahead, all that is of the form is read, and larger limits change only
-- the refusals that want of them brings.
use Rattle.std.proofs.Common.{◌≡◌, ℕ, ◌+◌, ◌<◌, ◌≤◌, List, [], ◌∷◌, ◌++◌, length, Option, refl, sym, ap, ◌∙◌, subst, arith, append_assoc, length-append, ◌⊎◌, inl, inr}
use Rattle.lf_lexer.specs.declared.tokens.Token.{Token}
use Rattle.lf_parser.specs.declared.halt.Cause.{Cause}
use Rattle.lf_parser.specs.declared.halt.Cause.TheVariants.{Unexpected, TooDeep, TooMany}
use Rattle.lf_parser.specs.Kinds.{head}
use Rattle.lf_parser.specs.Forms.{Form, Yields, ◌⨟◌, HasPrefix}
use Rattle.lf_parser.specs.Parsers.{ReadOutcome, Ok, Err, Parser, then_read, ◌>>=◌, pure}

pub by_either : {A B C : Type 0} → (A → C) → (B → C) → A ⊎ B → C
by_either f g (inl a) = f a
by_either f g (inr b) = g b

-- forms under the limits themselves (Unexpected), and under those that a cause needs larger
abbrev pub Family : Type 0 → Type 1
Family A = Cause → Form A

-- which causes stay under larger limits, and which tokens may be taken
pub record RuleSetting : Type 1 where
  pub stays : Cause → Type 0
  pub fits : Token → Type 0

abbrev pub Each : (Token → Type 0) → List Token → Type 0
Each K [] = Unit {0}
Each K (t ∷ ts) = K t × Each K ts

pub each_append : (K : Token → Type 0) (xs ys : List Token) → Each K xs → Each K ys → Each K (xs ++ ys)
each_append K [] ys h k = k
each_append K (t ∷ xs) ys h k = (h.0, each_append K xs ys h.1 k)

abbrev pub OnwardAt : {A : Type 0} → Form A → List Token → List Token → Type 0
OnwardAt S pre r = (x : Token) × (rest : List Token) × (r ≡ x ∷ rest) × HasPrefix S (pre ++ x ∷ [])

-- with a larger limit the refused token goes on
abbrev pub Onward : {A : Type 0} → Family A → Cause → List Token → List Token → Type 0
Onward S Unexpected pre r = Unit {0}
Onward S TooDeep pre r = OnwardAt (S TooDeep) pre r
Onward S TooMany pre r = OnwardAt (S TooMany) pre r

pub onward_map : {A B : Type 0} (S : Family A) (S' : Family B) (c : Cause) (pre pre' r : List Token) → ((x : Token) → HasPrefix (S c) (pre ++ x ∷ []) → HasPrefix (S' c) (pre' ++ x ∷ [])) → Onward S c pre r → Onward S' c pre' r
onward_map S S' Unexpected pre pre' r f h = tt
onward_map S S' TooDeep pre pre' r f h = (h.0, h.1, h.2, f h.0 h.3)
onward_map S S' TooMany pre pre' r f h = (h.0, h.1, h.2, f h.0 h.3)

pub onward_by : {A : Type 0} (S : Family A) (c : Cause) (pre : List Token) (x : Token) (rest : List Token) → HasPrefix (S c) (pre ++ x ∷ []) → Onward S c pre (x ∷ rest)
onward_by S Unexpected pre x rest h = tt
onward_by S TooDeep pre x rest h = (x, rest, refl, h)
onward_by S TooMany pre x rest h = (x, rest, refl, h)

-- what an outcome of p on ts says
abbrev pub OutcomeSays : {A : Type 0} → RuleSetting → Family A → Parser A → List Token → ReadOutcome A → Type 0
OutcomeSays g S p ts (Ok a r) = (pre : List Token) × (ts ≡ pre ++ r) × ((c : Cause) → S c pre a) × ((s : List Token) → head r ≡ head s → p (pre ++ s) ≡ Ok a s) × Each g.fits pre
OutcomeSays g S p ts (Err c r) = (pre : List Token) × (ts ≡ pre ++ r) × ((pre ≡ []) ⊎ HasPrefix (S Unexpected) pre) × Onward S c pre r × ((s : List Token) → head r ≡ head s → p (pre ++ s) ≡ Err c s) × Each g.fits pre

abbrev pub Stays : {A : Type 0} → RuleSetting → ReadOutcome A → Type 0
Stays g (Ok a r) = Unit {0}
Stays g (Err c r) = g.stays c

-- the outcome stays, or the tokens are few
abbrev pub StaysOrFew : {A : Type 0} → RuleSetting → ℕ → List Token → ReadOutcome A → Type 0
StaysOrFew g n ts o = (length ts < n) ⊎ Stays g o

-- p reads the form R, which begins with B where F follows; q is p under larger limits
pub record RuleProperties {A : Type 0} (g : RuleSetting) (n : ℕ) (R : Form A) (S : Family A) (B F : Option Token → Type 0) (p q : Parser A) : Type 0 where
  pub good : (ts : List Token) → OutcomeSays g S p ts (p ts)
  pub whole : (xs s : List Token) (a : A) → R xs a → F (head s) → p (xs ++ s) ≡ Ok a s
  pub begin : (xs s : List Token) (a : A) → R xs a → F (head s) → B (head (xs ++ s))
  pub grows : (ts : List Token) → StaysOrFew g n ts (p ts) → q ts ≡ p ts

pub head_append : (pre r s : List Token) → head r ≡ head s → head (pre ++ r) ≡ head (pre ++ s)
head_append [] r s e = e
head_append (t ∷ pre) r s e = refl

pub step : {A B : Type 0} (p : Parser A) (f : A → Parser B) (ts us : List Token) (a : A) → p ts ≡ Ok a us → (p >>= f) ts ≡ f a us
step p f ts us a e = ap (λ o. then_read o f) e

pub stays_or_few_first : {A B : Type 0} (g : RuleSetting) (n : ℕ) (ts : List Token) (f : A → Parser B) (o : ReadOutcome A) → StaysOrFew g n ts (then_read o f) → StaysOrFew g n ts o
stays_or_few_first g n ts f (Ok a r) (inl h) = inl h
stays_or_few_first g n ts f (Ok a r) (inr h) = inr tt
stays_or_few_first g n ts f (Err c r) h = h

-- what Q says goes on with what P says
pub glue : {A B : Type 0} (P : Form A) (Q : A → Form B) (pre xs : List Token) (a : A) → P pre a → HasPrefix (Q a) xs → HasPrefix (P ⨟ Q) (pre ++ xs)
glue P Q pre xs a h b = (b.0, b.1, (pre, xs ++ b.0, a, append_assoc pre xs b.0, h, b.2))

pub glue_more : {A B : Type 0} (P : Form A) (Q : A → Form B) (xs : List Token) → ((a : A) → HasPrefix (Q a) []) → HasPrefix P xs → HasPrefix (P ⨟ Q) xs
glue_more P Q xs s h = let k = s h.1 in (h.0 ++ k.0, k.1, (xs ++ h.0, k.0, h.1, sym (append_assoc xs h.0 k.0), h.2, k.2))

-- some tokens are of such a form
pub some_then : {A B : Type 0} (P : Form A) (Q : A → Form B) → HasPrefix P [] → ((a : A) → HasPrefix (Q a) []) → HasPrefix (P ⨟ Q) []
some_then P Q h s = glue_more P Q [] s h

pub some_yields : {A : Type 0} (a : A) → HasPrefix (Yields a) []
some_yields a = ([], a, (refl, refl))

-- one after the other, where p takes so many tokens that n is reached
module _ {A B : Type 0} (g : RuleSetting) (n m : ℕ) (P : Form A) (SP : Family A) (BP FP : Option Token → Type 0) (p p' : Parser A)
    (Q : A → Form B) (SQ : A → Family B) (BQ FQ : Option Token → Type 0) (f f' : A → Parser B)
    (hp : RuleProperties g n P SP BP FP p p') (hq : (a : A) → RuleProperties g m (Q a) (SQ a) BQ FQ (f a) (f' a))
    (sq : (c : Cause) (a : A) → HasPrefix (SQ a c) []) (link : (o : Option Token) → BQ o → FP o)
    (size : (xs : List Token) (a : A) → SP Unexpected xs a → n ≤ m + length xs) where
  abbrev S : Family B
  S c = SP c ⨟ (λ a. SQ a c)

  weak : (a : A) (xs : List Token) → (xs ≡ []) ⊎ HasPrefix (SQ a Unexpected) xs → HasPrefix (SQ a Unexpected) xs
  weak a xs (inl e) = subst (HasPrefix (SQ a Unexpected)) (sym e) (sq Unexpected a)
  weak a xs (inr h) = h

  local : (ts t1 pre xs r s : List Token) (a : A) → ((s : List Token) → head t1 ≡ head s → p (pre ++ s) ≡ Ok a s) → t1 ≡ xs ++ r → head r ≡ head s → (p >>= f) ((pre ++ xs) ++ s) ≡ f a (xs ++ s)
  local ts t1 pre xs r s a l e hs = ap (p >>= f) (append_assoc pre xs s) ∙ step p f (pre ++ (xs ++ s)) (xs ++ s) a (l (xs ++ s) (ap head e ∙ head_append xs r s hs))

  then_says : (ts t1 : List Token) (a : A) → OutcomeSays g SP p ts (Ok a t1) → (o : ReadOutcome B) → OutcomeSays g (SQ a) (f a) t1 o → OutcomeSays g S (p >>= f) ts o
  then_says ts t1 a h (Ok b r) q = (
    h.0 ++ q.0,
    h.1 ∙ ap (λ x. h.0 ++ x) q.1 ∙ sym (append_assoc h.0 q.0 r),
    λ c. (h.0, q.0, a, refl, h.2 c, q.2 c),
    λ s hs. local ts t1 h.0 q.0 r s a h.3 q.1 hs ∙ q.3 s hs,
    each_append g.fits h.0 q.0 h.4 q.4,
  )
  then_says ts t1 a h (Err c r) q = (
    h.0 ++ q.0,
    h.1 ∙ ap (λ x. h.0 ++ x) q.1 ∙ sym (append_assoc h.0 q.0 r),
    inr (glue (SP Unexpected) (λ a. SQ a Unexpected) h.0 q.0 a (h.2 Unexpected) (weak a q.0 q.2)),
    onward_map (SQ a) S c q.0 (h.0 ++ q.0) r (λ x b. subst (HasPrefix (S c)) (sym (append_assoc h.0 q.0 (x ∷ []))) (glue (SP c) (λ a. SQ a c) h.0 (q.0 ++ x ∷ []) a (h.2 c) b)) q.3,
    λ s hs. local ts t1 h.0 q.0 r s a h.3 q.1 hs ∙ q.4 s hs,
    each_append g.fits h.0 q.0 h.4 q.5,
  )

  good_part : (ts : List Token) (o : ReadOutcome A) → OutcomeSays g SP p ts o → OutcomeSays g S (p >>= f) ts (then_read o f)
  good_part ts (Ok a t1) h = then_says ts t1 a h (f a t1) ((hq a).good t1)
  good_part ts (Err c r) h = (
    h.0,
    h.1,
    by_either inl (λ b. inr (glue_more (SP Unexpected) (λ a. SQ a Unexpected) h.0 (sq Unexpected) b)) h.2,
    onward_map SP S c h.0 h.0 r (λ x b. glue_more (SP c) (λ a. SQ a c) (h.0 ++ x ∷ []) (sq c) b) h.3,
    λ s hs. ap (λ o. then_read o f) (h.4 s hs),
    h.5,
  )

  split_at : (zs x y s : List Token) → zs ≡ x ++ y → zs ++ s ≡ x ++ (y ++ s)
  split_at zs x y s e = ap (λ z. z ++ s) e ∙ append_assoc x y s

  fewer : (ts t1 : List Token) (a : A) → OutcomeSays g SP p ts (Ok a t1) → (o : ReadOutcome B) → StaysOrFew g n ts o → StaysOrFew g m t1 o
  fewer ts t1 a h o (inl lt) =
      let e : length ts ≡ length h.0 + length t1 = ap length h.1 ∙ length-append h.0 t1 in
      let k = size h.0 a (h.2 Unexpected) in
      inl (omega arith)
  fewer ts t1 a h o (inr st) = inr st

  grows_part : (ts : List Token) (o : ReadOutcome A) → p ts ≡ o → OutcomeSays g SP p ts o → StaysOrFew g n ts (then_read o f) → then_read (p' ts) f' ≡ then_read o f
  grows_part ts (Ok a t1) e h st =
      ap (λ o. then_read o f') (hp.grows ts (subst (StaysOrFew g n ts) (sym e) (stays_or_few_first g n ts f (Ok a t1) st)) ∙ e) ∙ (hq a).grows t1 (fewer ts t1 a h (f a t1) st)
  grows_part ts (Err c r) e h st = ap (λ o. then_read o f') (hp.grows ts (subst (StaysOrFew g n ts) (sym e) st) ∙ e)

  pub rule_after : RuleProperties g n (P ⨟ Q) S BP FQ (p >>= f) (p' >>= f')
  rule_after = record {
    good = λ ts. good_part ts (p ts) (hp.good ts);
    whole = λ zs s b h k. ap (p >>= f) (split_at zs h.0 h.1 s h.3) ∙ step p f (h.0 ++ (h.1 ++ s)) (h.1 ++ s) h.2 (hp.whole h.0 (h.1 ++ s) h.2 h.4 (link _ ((hq h.2).begin h.1 s b h.5 k))) ∙ (hq h.2).whole h.1 s b h.5 k;
    begin = λ zs s b h k. subst (λ us. BP (head us)) (sym (split_at zs h.0 h.1 s h.3)) (hp.begin h.0 (h.1 ++ s) h.2 h.4 (link _ ((hq h.2).begin h.1 s b h.5 k)));
    grows = λ ts st. grows_part ts (p ts) refl (hp.good ts) st;
  }

pub rule_then : {A B : Type 0} {g : RuleSetting} {n : ℕ} {P : Form A} {SP : Family A} {BP FP : Option Token → Type 0} {p p' : Parser A}
    {Q : A → Form B} {SQ : A → Family B} {BQ FQ : Option Token → Type 0} {f f' : A → Parser B}
    → RuleProperties g n P SP BP FP p p' → ((a : A) → RuleProperties g n (Q a) (SQ a) BQ FQ (f a) (f' a))
    → ((c : Cause) (a : A) → HasPrefix (SQ a c) []) → ((o : Option Token) → BQ o → FP o)
    → RuleProperties g n (P ⨟ Q) (λ c. SP c ⨟ (λ a. SQ a c)) BP FQ (p >>= f) (p' >>= f')
rule_then {g = g} {n = n} {P = P} {SP = SP} {BP = BP} {FP = FP} {p = p} {p' = p'} {Q = Q} {SQ = SQ} {BQ = BQ} {FQ = FQ} {f = f} {f' = f'} hp hq sq link =
    rule_after g n n P SP BP FP p p' Q SQ BQ FQ f f' hp hq sq link (λ xs a h. omega arith)

pub rule_pure : {A : Type 0} {g : RuleSetting} {n : ℕ} {F : Option Token → Type 0} (a : A) → RuleProperties g n (Yields a) (λ c. Yields a) F F (pure a) (pure a)
rule_pure {F = F} a = record {
  good = λ ts. ([], refl, λ c. (refl, refl), λ s hs. refl, tt);
  whole = λ xs s b h k. ap (λ z. pure a (z ++ s)) h.0 ∙ ap (λ x. Ok x s) (sym h.1);
  begin = λ xs s b h k. subst (λ z. F (head (z ++ s))) (sym h.0) k;
  grows = λ ts st. refl;
}

-- other words for the form, and wider sets of tokens
pub rule_from : {A : Type 0} {g : RuleSetting} {n : ℕ} {R R' : Form A} {S S' : Family A} {B B' F F' : Option Token → Type 0} {p q : Parser A}
    → RuleProperties g n R S B F p q → ((c : Cause) (ts : List Token) (a : A) → S c ts a → S' c ts a) → ((ts : List Token) (a : A) → R' ts a → R ts a)
    → ((o : Option Token) → B o → B' o) → ((o : Option Token) → F' o → F o) → RuleProperties g n R' S' B' F' p q
rule_from {A} {g} {S = S} {S' = S'} {p = p} h to back b f = record {
  good = λ ts. good_from ts (p ts) (h.good ts);
  whole = λ xs s a r k. h.whole xs s a (back xs a r) (f _ k);
  begin = λ xs s a r k. b _ (h.begin xs s a (back xs a r) (f _ k));
  grows = h.grows;
}
  where
    begins_from : (c : Cause) (xs : List Token) → HasPrefix (S c) xs → HasPrefix (S' c) xs
    begins_from c xs b = (b.0, b.1, to c _ _ b.2)

    good_from : (ts : List Token) (o : ReadOutcome A) → OutcomeSays g S p ts o → OutcomeSays g S' p ts o
    good_from ts (Ok a r) h = (h.0, h.1, λ c. to c h.0 a (h.2 c), h.3, h.4)
    good_from ts (Err c r) h = (h.0, h.1, by_either inl (λ b. inr (begins_from Unexpected h.0 b)) h.2, onward_map S S' c h.0 h.0 r (λ x b. begins_from c (h.0 ++ x ∷ []) b) h.3, h.4, h.5)

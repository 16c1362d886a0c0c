-- Rules that take one token, and rules that choose by the next one, have their properties.
use Rattle.std.proofs.Common.{◌≡◌, ℕ, ◌<◌, List, [], ◌∷◌, ◌++◌, Option, Some, None, Bool, true, false, refl, sym, ap, ◌∙◌, subst, arith, ◌⊎◌, inl, inr}
use Rattle.std.specs.Prelude.{if◌then◌else◌}
use Rattle.lf_lexer.specs.declared.tokens.Token.{Token}
use Rattle.lf_parser.specs.declared.halt.Cause.{Cause}
use Rattle.lf_parser.specs.declared.halt.Cause.TheVariants.{Unexpected}
use Rattle.lf_parser.specs.Kinds.{head}
use Rattle.lf_parser.specs.Forms.{Form, Takes, Only, ◌⨟◌, ◌∣◌, HasPrefix}
use Rattle.lf_parser.specs.Parsers.{ReadOutcome, Ok, Err, Parser, then_read, ◌>>=◌, seeing, taken_if, allow, take}
use Rattle.lf_parser.proofs.Rules.RuleProperties.{Family, RuleSetting, onward_map, onward_by, OutcomeSays, StaysOrFew, RuleProperties, head_append, by_either, rule_then, glue_more}

-- what is known of the tokens that f takes
pub record Known {A : Type 0} (g : RuleSetting) (B : Option Token → Type 0) (f : Token → Option A) : Type 0 where
  pub begin : (t : Token) (a : A) → f t ≡ Some a → B (Some t)
  pub fits : (t : Token) (a : A) → f t ≡ Some a → g.fits t

abbrev pub Any : Option Token → Type 0
Any o = Unit {0}

-- whether a limit allows it, under each of the limits
pub record Guard (g : RuleSetting) (n : ℕ) (c : Cause) (G : Cause → Type 0) (b b' : Bool) : Type 0 where
  pub yes' : b ≡ true → (k : Cause) → G k
  pub no' : b ≡ false → G c
  pub back : G Unexpected → b ≡ true
  pub wider : b ≡ true → b' ≡ true
  pub alike : g.stays c ⊎ (0 < n) → b ≡ b'

module _ {A : Type 0} (g : RuleSetting) (n : ℕ) (B : Option Token → Type 0) (f : Token → Option A) (known : Known g B f) where
  allowed_good : (c : Cause) (R : Cause → Form A) → ((k : Cause) (ts : List Token) (a : A) → Takes f ts a → R k ts a) → (t : Token) (ts : List Token) (o : Option A) → f t ≡ o → OutcomeSays g R (allow true c f) (t ∷ ts) (taken_if true c o t ts)
  allowed_good c R to t ts (Some a) e = (t ∷ [], refl, λ k. to k (t ∷ []) a (t, refl, e), λ s hs. ap (λ o. taken_if true c o t s) e, (known.fits t a e, tt))
  allowed_good c R to t ts None e = ([], refl, inl refl, tt, λ s hs. refused s hs, tt)
    where
      refused : (s : List Token) → Some t ≡ head s → allow true c f s ≡ Err Unexpected s
      refused [] hs = absurd (cc)
      refused (x ∷ s) hs = let same : t ≡ x = cc in subst (λ y. allow true c f (y ∷ s) ≡ Err Unexpected (y ∷ s)) same (ap (λ o. taken_if true c o t s) e)

  allowed_at : (c : Cause) (R : Cause → Form A) → ((k : Cause) (ts : List Token) (a : A) → Takes f ts a → R k ts a) → (ts : List Token) → OutcomeSays g R (allow true c f) ts (allow true c f ts)
  allowed_at c R to [] = ([], refl, inl refl, tt, λ s hs. nothing s hs, tt)
    where
      nothing : (s : List Token) → None ≡ head s → allow true c f s ≡ Err Unexpected s
      nothing [] hs = refl
      nothing (x ∷ s) hs = absurd (cc)
  allowed_at c R to (t ∷ ts) = allowed_good c R to t ts (f t) refl

  pub rule_allow : (c : Cause) (R : Cause → Form A) → ((k : Cause) (ts : List Token) (a : A) → Takes f ts a → R k ts a) → ((ts : List Token) (a : A) → R Unexpected ts a → Takes f ts a) → RuleProperties g n (R Unexpected) R B Any (allow true c f) (allow true c f)
  rule_allow c R to from = record {
    good = allowed_at c R to;
    whole = λ xs s a r k. let h = from xs a r in ap (λ z. allow true c f (z ++ s)) h.1 ∙ ap (λ o. taken_if true c o h.0 s) h.2;
    begin = λ xs s a r k. let h = from xs a r in subst (λ z. B (head (z ++ s))) (sym h.1) (known.begin h.0 a h.2);
    grows = λ ts st. refl;
  }

pub rule_take : {A : Type 0} {g : RuleSetting} {n : ℕ} {B : Option Token → Type 0} {f : Token → Option A} → Known g B f → RuleProperties g n (Takes f) (λ k. Takes f) B Any (take f) (take f)
rule_take {g = g} {n = n} {B = B} {f = f} known = rule_allow g n B f known Unexpected (λ k. Takes f) (λ k ts a h. h) (λ ts a h. h)

-- a token that a limit may refuse, and what follows
module _ {A B : Type 0} (g : RuleSetting) (n : ℕ) (BP : Option Token → Type 0) (f : Token → Option A) (c : Cause) (G : Cause → Type 0)
    (Q : A → Form B) (SQ : A → Family B) (BQ FQ : Option Token → Type 0) (w w' : A → Parser B) (known : Known g BP f) where
  abbrev First : Cause → Form A
  First k = Only (G k) (Takes f)

  abbrev S : Family B
  S k = First k ⨟ (λ a. SQ a k)

  refused_good : (sq : (k : Cause) → G k → (a : A) → HasPrefix (SQ a k) []) → G c → (t : Token) (ts : List Token) (o : Option A) → f t ≡ o → OutcomeSays g S (allow false c f >>= w) (t ∷ ts) (then_read (taken_if false c o t ts) w)
  refused_good sq h t ts (Some a) e =
      ([], refl, inl refl, onward_by S c [] t ts (glue_more (First c) (λ a. SQ a c) (t ∷ []) (sq c h) ([], a, (h, (t, refl, e)))), λ s hs. refused s hs, tt)
    where
      refused : (s : List Token) → Some t ≡ head s → (allow false c f >>= w) s ≡ Err c s
      refused [] hs = absurd (cc)
      refused (x ∷ s) hs = let same : t ≡ x = cc in subst (λ y. (allow false c f >>= w) (y ∷ s) ≡ Err c (y ∷ s)) same (ap (λ o. then_read (taken_if false c o t s) w) e)
  refused_good sq h t ts None e = ([], refl, inl refl, tt, λ s hs. refused s hs, tt)
    where
      refused : (s : List Token) → Some t ≡ head s → (allow false c f >>= w) s ≡ Err Unexpected s
      refused [] hs = absurd (cc)
      refused (x ∷ s) hs = let same : t ≡ x = cc in subst (λ y. (allow false c f >>= w) (y ∷ s) ≡ Err Unexpected (y ∷ s)) same (ap (λ o. then_read (taken_if false c o t s) w) e)

  refused_script_at : (sq : (k : Cause) → G k → (a : A) → HasPrefix (SQ a k) []) → G c → (ts : List Token) → OutcomeSays g S (allow false c f >>= w) ts ((allow false c f >>= w) ts)
  refused_script_at sq h [] = ([], refl, inl refl, tt, λ s hs. nothing s hs, tt)
    where
      nothing : (s : List Token) → None ≡ head s → (allow false c f >>= w) s ≡ Err Unexpected s
      nothing [] hs = refl
      nothing (x ∷ s) hs = absurd (cc)
  refused_script_at sq h (t ∷ ts) = refused_good sq h t ts (f t) refl

  -- refused under the larger limits too, where that cause stays
  refused_grows : (b' : Bool) → (g.stays c ⊎ (0 < n) → false ≡ b') → (ts : List Token) → StaysOrFew g n ts ((allow false c f >>= w) ts) → (allow b' c f >>= w') ts ≡ (allow false c f >>= w) ts
  refused_grows b' e [] st = refl
  refused_grows b' e (t ∷ ts) st = at_token (f t) st
    where
      at_token : (o : Option A) → StaysOrFew g n (t ∷ ts) (then_read (taken_if false c o t ts) w) → then_read (taken_if b' c o t ts) w' ≡ then_read (taken_if false c o t ts) w
      at_token None st = refl
      at_token (Some a) (inl lt) = ap (λ b. then_read (taken_if b c (Some a) t ts) w') (sym (e (inr (omega arith))))
      at_token (Some a) (inr st) = ap (λ b. then_read (taken_if b c (Some a) t ts) w') (sym (e (inl st)))

  opened : (b b' : Bool) → Guard g n c G b b'
      → (b ≡ true → (a : A) → RuleProperties g n (Q a) (SQ a) BQ FQ (w a) (w' a)) → ((k : Cause) → G k → (a : A) → HasPrefix (SQ a k) [])
      → RuleProperties g n (First Unexpected ⨟ Q) S BP FQ (allow b c f >>= w) (allow b' c f >>= w')
  opened true true guard hq sq =
      rule_then (rule_allow g n BP f known c First (λ k ts a h. (guard.yes' refl k, h)) (λ ts a h. h.1)) (hq refl) (λ k a. sq k (guard.yes' refl k) a) (λ o h. tt)
  opened true false guard hq sq = absurd (let e = guard.wider refl in cc)
  opened false b' guard hq sq = record {
    good = refused_script_at sq (guard.no' refl);
    whole = λ xs s a r k. absurd (let e = guard.back r.4.0 in cc);
    begin = λ xs s a r k. absurd (let e = guard.back r.4.0 in cc);
    grows = refused_grows b' guard.alike;
  }

pub rule_opened : {A B : Type 0} {g : RuleSetting} {n : ℕ} {BP : Option Token → Type 0} {f : Token → Option A} {c : Cause} {G : Cause → Type 0}
    {Q : A → Form B} {SQ : A → Family B} {BQ FQ : Option Token → Type 0} {w w' : A → Parser B} {b b' : Bool} → Known g BP f → Guard g n c G b b'
    → (b ≡ true → (a : A) → RuleProperties g n (Q a) (SQ a) BQ FQ (w a) (w' a)) → ((k : Cause) → G k → (a : A) → HasPrefix (SQ a k) [])
    → RuleProperties g n (Only (G Unexpected) (Takes f) ⨟ Q) (λ k. Only (G k) (Takes f) ⨟ (λ a. SQ a k)) BP FQ (allow b c f >>= w) (allow b' c f >>= w')
rule_opened {g = g} {n = n} {BP = BP} {f = f} {c = c} {G = G} {Q = Q} {SQ = SQ} {BQ = BQ} {FQ = FQ} {w = w} {w' = w'} {b = b} {b' = b'} known guard hq sq =
    opened g n BP f c G Q SQ BQ FQ w w' known b b' guard hq sq

-- the choice of p where the next token passes a test
module _ {A : Type 0} (g : RuleSetting) (n : ℕ) (P Q : Form A) (SP SQ : Family A) (BP BQ F : Option Token → Type 0) (p p' : Parser A) (w w' : Option Token → Parser A)
    (test : Option Token → Bool) (B : Option Token → Type 0) where
  abbrev Both : Family A
  Both c = SP c ∣ SQ c

  abbrev chosen : Parser A
  chosen = seeing (λ o. if test o then p else w o)

  abbrev chosen' : Parser A
  chosen' = seeing (λ o. if test o then p' else w' o)

  same_head : (ts pre r s : List Token) → ts ≡ pre ++ r → head r ≡ head s → (b : Bool) → test (head ts) ≡ b → test (head (pre ++ s)) ≡ b
  same_head ts pre r s e hs b h = ap test (sym (ap head e ∙ head_append pre r s hs)) ∙ h

  by_first : (ts : List Token) → test (head ts) ≡ true → chosen ts ≡ p ts
  by_first ts h = ap (λ b. (if b then p else w (head ts)) ts) h

  by_second : (ts : List Token) → test (head ts) ≡ false → chosen ts ≡ seeing w ts
  by_second ts h = ap (λ b. (if b then p else w (head ts)) ts) h

  good_first : (ts : List Token) → test (head ts) ≡ true → (o : ReadOutcome A) → OutcomeSays g SP p ts o → OutcomeSays g Both chosen ts o
  good_first ts h (Ok a r) k = (k.0, k.1, λ c. inl (k.2 c), λ s hs. by_first (k.0 ++ s) (same_head ts k.0 r s k.1 hs true h) ∙ k.3 s hs, k.4)
  good_first ts h (Err c r) k = (
    k.0,
    k.1,
    by_either inl (λ b. inr (b.0, b.1, inl b.2)) k.2,
    onward_map SP Both c k.0 k.0 r (λ x b. (b.0, b.1, inl b.2)) k.3,
    λ s hs. by_first (k.0 ++ s) (same_head ts k.0 r s k.1 hs true h) ∙ k.4 s hs,
    k.5,
  )

  good_second : (ts : List Token) → test (head ts) ≡ false → (o : ReadOutcome A) → OutcomeSays g SQ (seeing w) ts o → OutcomeSays g Both chosen ts o
  good_second ts h (Ok a r) k = (k.0, k.1, λ c. inr (k.2 c), λ s hs. by_second (k.0 ++ s) (same_head ts k.0 r s k.1 hs false h) ∙ k.3 s hs, k.4)
  good_second ts h (Err c r) k = (
    k.0,
    k.1,
    by_either inl (λ b. inr (b.0, b.1, inr b.2)) k.2,
    onward_map SQ Both c k.0 k.0 r (λ x b. (b.0, b.1, inr b.2)) k.3,
    λ s hs. by_second (k.0 ++ s) (same_head ts k.0 r s k.1 hs false h) ∙ k.4 s hs,
    k.5,
  )

  chosen_part : RuleProperties g n P SP BP F p p' → RuleProperties g n Q SQ BQ F (seeing w) (seeing w')
      → ((o : Option Token) → BP o → test o ≡ true) → ((o : Option Token) → BQ o → test o ≡ false) → ((o : Option Token) → BP o → B o) → ((o : Option Token) → BQ o → B o)
      → RuleProperties g n (P ∣ Q) Both B F chosen chosen'
  chosen_part hp hq yes' no' bp bq = record {
    good = λ ts. good_by ts (test (head ts)) refl;
    whole = λ xs s a r k. whole_by xs s a k r;
    begin = λ xs s a r k. by_either (λ h. bp _ (hp.begin xs s a h k)) (λ h. bq _ (hq.begin xs s a h k)) r;
    grows = λ ts st. grows_by ts (test (head ts)) refl st;
  }
    where
      good_by : (ts : List Token) (b : Bool) → test (head ts) ≡ b → OutcomeSays g Both chosen ts ((if b then p else w (head ts)) ts)
      good_by ts true e = good_first ts e (p ts) (hp.good ts)
      good_by ts false e = good_second ts e (seeing w ts) (hq.good ts)

      whole_by : (xs s : List Token) (a : A) → F (head s) → (P ∣ Q) xs a → chosen (xs ++ s) ≡ Ok a s
      whole_by xs s a k (inl h) = by_first (xs ++ s) (yes' _ (hp.begin xs s a h k)) ∙ hp.whole xs s a h k
      whole_by xs s a k (inr h) = by_second (xs ++ s) (no' _ (hq.begin xs s a h k)) ∙ hq.whole xs s a h k

      grows_by : (ts : List Token) (b : Bool) → test (head ts) ≡ b → StaysOrFew g n ts ((if b then p else w (head ts)) ts) → (if b then p' else w' (head ts)) ts ≡ (if b then p else w (head ts)) ts
      grows_by ts true e st = hp.grows ts st
      grows_by ts false e st = hq.grows ts st

pub rule_either : {A : Type 0} {g : RuleSetting} {n : ℕ} {P Q : Form A} {SP SQ : Family A} {BP BQ F : Option Token → Type 0} {p p' : Parser A} (w w' : Option Token → Parser A)
    (test : Option Token → Bool) (B : Option Token → Type 0) → RuleProperties g n P SP BP F p p' → RuleProperties g n Q SQ BQ F (seeing w) (seeing w')
    → ((o : Option Token) → BP o → test o ≡ true) → ((o : Option Token) → BQ o → test o ≡ false) → ((o : Option Token) → BP o → B o) → ((o : Option Token) → BQ o → B o)
    → RuleProperties g n (P ∣ Q) (λ c. SP c ∣ SQ c) B F (seeing (λ o. if test o then p else w o)) (seeing (λ o. if test o then p' else w' o))
rule_either {g = g} {n = n} {P = P} {Q = Q} {SP = SP} {SQ = SQ} {BP = BP} {BQ = BQ} {F = F} {p = p} {p' = p'} w w' test B =
    chosen_part g n P Q SP SQ BP BQ F p p' w w' test B

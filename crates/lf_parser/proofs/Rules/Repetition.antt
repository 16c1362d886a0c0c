-- A rule that is any number of steps has its properties, and is one step and then the others.
use Rattle.std.proofs.Common.{◌≡◌, ℕ, zero, suc, ◌+◌, ◌<◌, ◌≤◌, List, [], ◌∷◌, ◌++◌, length, Option, Some, Bool, true, false, refl, sym, ap, ◌∙◌, subst, arith, append_assoc, append-nil, length-append, ◌⊎◌, inl, inr}
use Rattle.lf_lexer.specs.declared.tokens.Token.{Token}
use Rattle.lf_parser.specs.declared.halt.Cause.{Cause}
use Rattle.lf_parser.specs.declared.halt.Cause.TheVariants.{Unexpected, TooDeep, TooMany}
use Rattle.lf_parser.specs.Kinds.{head}
use Rattle.lf_parser.specs.Forms.{Form, Many, done, more, Located, HasPrefix}
use Rattle.lf_parser.specs.Parsers.{ReadOutcome, Ok, Err, Parser, then_read, seeing, loop_at, loop, many}
use Rattle.lf_parser.proofs.Rules.RuleProperties.{Family, RuleSetting, Each, each_append, Onward, onward_map, onward_by, OutcomeSays, Stays, StaysOrFew, RuleProperties, head_append, by_either, step}
use Rattle.lf_parser.proofs.Rules.RuleProperties as good

-- each step that is read takes a token
abbrev pub Shortens : {S : Type 0} → (S → Parser S) → Type 0
Shortens {S} step = (s t : S) (ts r : List Token) → step s ts ≡ Ok t r → length r < length ts

-- all that is read is one step where the next token goes on, and then all again
abbrev pub LoopUnrolls : {S : Type 0} → (Option Token → Bool) → (S → Parser S) → (S → Parser S) → Type 0
LoopUnrolls {S} goes step all = (s : S) (ts : List Token) → all s ts ≡ loop_at step all s (goes (head ts)) ts

module _ {St : Type 0} (goes : Option Token → Bool) (step : St → Parser St) (short : Shortens step) where
  enough_after : (n m : ℕ) → ((t : St) (r : List Token) → length r < n → length r < m → loop goes step n t r ≡ loop goes step m t r) → (s : St) (ts : List Token) → length ts < suc n → length ts < suc m → (o : ReadOutcome St) → step s ts ≡ o → then_read o (loop goes step n) ≡ then_read o (loop goes step m)
  enough_after n m go s ts h k (Err c r) e = refl
  enough_after n m go s ts h k (Ok t r) e = let lt : length r < length ts = short s t ts r e in go t r (omega arith) (omega arith)

  enough_at : (n m : ℕ) → ((t : St) (r : List Token) → length r < n → length r < m → loop goes step n t r ≡ loop goes step m t r) → (s : St) (ts : List Token) → length ts < suc n → length ts < suc m → (b : Bool) → loop_at step (loop goes step n) s b ts ≡ loop_at step (loop goes step m) s b ts
  enough_at n m go s ts h k false = refl
  enough_at n m go s ts h k true = enough_after n m go s ts h k (step s ts) refl

  enough : (n m : ℕ) (s : St) (ts : List Token) → length ts < n → length ts < m → loop goes step n s ts ≡ loop goes step m s ts
  enough zero m s ts h k = absurd (omega arith)
  enough (suc n) zero s ts h k = absurd (omega arith)
  enough (suc n) (suc m) s ts h k = enough_at n m (enough n m) s ts h k (goes (head ts))

  -- one step, and then the others
  pub unrolled : LoopUnrolls goes step (many goes step)
  unfolding many
  unrolled s ts = at_bool (goes (head ts))
    where
      at_read : (o : ReadOutcome St) → step s ts ≡ o → then_read o (loop goes step (length ts)) ≡ then_read o (many goes step)
      at_read (Err c r) e = refl
      at_read (Ok t r) e = let lt : length r < length ts = short s t ts r e in enough (length ts) (suc (length r)) t r lt (omega arith)

      at_bool : (b : Bool) → loop_at step (loop goes step (length ts)) s b ts ≡ loop_at step (many goes step) s b ts
      at_bool false = refl
      at_bool true = at_read (step s ts) refl

  pub loop_stops : (s : St) (ts : List Token) → goes (head ts) ≡ false → many goes step s ts ≡ Ok s ts
  loop_stops s ts e = unrolled s ts ∙ ap (λ b. loop_at step (many goes step) s b ts) e

  pub loop_goes_on : (s t : St) (ts r : List Token) → goes (head ts) ≡ true → step s ts ≡ Ok t r → many goes step s ts ≡ many goes step t r
  loop_goes_on s t ts r e h = unrolled s ts ∙ ap (λ b. loop_at step (many goes step) s b ts) e ∙ ap (λ o. then_read o (many goes step)) h

  pub loop_halts : (s : St) (c : Cause) (ts r : List Token) → goes (head ts) ≡ true → step s ts ≡ Err c r → many goes step s ts ≡ Err c r
  loop_halts s c ts r e h = unrolled s ts ∙ ap (λ b. loop_at step (many goes step) s b ts) e ∙ ap (λ o. then_read o (many goes step)) h

-- steps that are alike where they settle, make loops that are
module _ {St : Type 0} (g : RuleSetting) (n : ℕ) (goes : Option Token → Bool) (step step' : St → Parser St)
    (keeps : (s t : St) (ts r : List Token) → step s ts ≡ Ok t r → length r ≤ length ts)
    (grows : (s : St) (ts : List Token) → StaysOrFew g n ts (step s ts) → step' s ts ≡ step s ts) where
  loop_grows_after : (k : ℕ) → ((t : St) (r : List Token) → StaysOrFew g n r (loop goes step k t r) → loop goes step' k t r ≡ loop goes step k t r) → (s : St) (ts : List Token) (o : ReadOutcome St) → step s ts ≡ o → StaysOrFew g n ts (then_read o (loop goes step k)) → then_read o (loop goes step' k) ≡ then_read o (loop goes step k)
  loop_grows_after k go s ts (Err c r) e st = refl
  loop_grows_after k go s ts (Ok t r) e (inl lt) = let le : length r ≤ length ts = keeps s t ts r e in go t r (inl (omega arith))
  loop_grows_after k go s ts (Ok t r) e (inr st) = go t r (inr st)

  loop_grows_at : (k : ℕ) → ((t : St) (r : List Token) → StaysOrFew g n r (loop goes step k t r) → loop goes step' k t r ≡ loop goes step k t r) → (s : St) (ts : List Token) (b : Bool) → StaysOrFew g n ts (loop_at step (loop goes step k) s b ts) → loop_at step' (loop goes step' k) s b ts ≡ loop_at step (loop goes step k) s b ts
  loop_grows_at k go s ts false st = refl
  loop_grows_at k go s ts true st =
      ap (λ o. then_read o (loop goes step' k)) (grows s ts (good.stays_or_few_first g n ts (loop goes step k) (step s ts) st)) ∙ loop_grows_after k go s ts (step s ts) refl st

  loop_grows : (k : ℕ) (s : St) (ts : List Token) → StaysOrFew g n ts (loop goes step k s ts) → loop goes step' k s ts ≡ loop goes step k s ts
  loop_grows zero s ts st = refl
  loop_grows (suc k) s ts st = loop_grows_at k (loop_grows k) s ts (goes (head ts)) st

module _ {St : Type 0} (g : RuleSetting) (n : ℕ) (Step : St → Form St) (SS : St → Family St) (BS FS F B : Option Token → Type 0) (goes : Option Token → Bool) (step step' : St → Parser St)
    (hs : (s : St) → RuleProperties g n (Step s) (SS s) BS FS (step s) (step' s)) (proper : (s t : St) (xs : List Token) → SS s Unexpected xs t → 0 < length xs)
    (yes' : (o : Option Token) → BS o → goes o ≡ true) (no' : (o : Option Token) → F o → goes o ≡ false)
    (link : (o : Option Token) → BS o → FS o) (ends : (o : Option Token) → F o → FS o) (bs : (o : Option Token) → BS o → B o) (bf : (o : Option Token) → F o → B o) where
  abbrev S : St → Family St
  S s c = Many (λ x. SS x c) s

  abbrev loops : St → Parser St
  loops = many goes step

  short_at : (s t : St) (ts r : List Token) (o : ReadOutcome St) → o ≡ Ok t r → OutcomeSays g (SS s) (step s) ts o → length r < length ts
  short_at s t ts r (Err c u) e h = absurd (cc)
  short_at s t ts r (Ok x u) e h =
      let same : u ≡ r = cc in
      let len : length ts ≡ length h.0 + length u = ap length h.1 ∙ length-append h.0 u in
      let some : 0 < length h.0 = proper s x h.0 (h.2 Unexpected) in
      let lens : length u ≡ length r = ap length same in
      omega arith

  pub shortens : Shortens step
  shortens s t ts r e = short_at s t ts r (step s ts) e ((hs s).good ts)

  begins_step : (s : St) (c : Cause) (xs : List Token) → HasPrefix (SS s c) xs → HasPrefix (S s c) xs
  begins_step s c xs b = (b.0, b.1, subst (λ zs. Many (λ x. SS x c) s zs b.1) (append-nil (xs ++ b.0)) (more b.2 done))

  begins_after : (s t : St) (c : Cause) (pre xs : List Token) → SS s c pre t → HasPrefix (S t c) xs → HasPrefix (S s c) (pre ++ xs)
  begins_after s t c pre xs h b = (b.0, b.1, subst (λ zs. Many (λ x. SS x c) s zs b.1) (sym (append_assoc pre xs b.0)) (more h b.2))

  weak : (s : St) (xs : List Token) → (xs ≡ []) ⊎ HasPrefix (S s Unexpected) xs → HasPrefix (S s Unexpected) xs
  weak s xs (inl e) = ([], s, subst (λ zs. Many (λ x. SS x Unexpected) s (zs ++ []) s) (sym e) done)
  weak s xs (inr h) = h

  good_stop : (s : St) (ts : List Token) → goes (head ts) ≡ false → OutcomeSays g (S s) (loops s) ts (Ok s ts)
  good_stop s ts e = ([], refl, λ c. done, λ u hs. loop_stops goes step shortens s u (ap goes (sym hs) ∙ e), tt)

  good_err : (s : St) (ts r : List Token) (c : Cause) → goes (head ts) ≡ true → OutcomeSays g (SS s) (step s) ts (Err c r) → OutcomeSays g (S s) (loops s) ts (Err c r)
  good_err s ts r c e h = (
    h.0,
    h.1,
    by_either inl (λ b. inr (begins_step s Unexpected h.0 b)) h.2,
    onward_map (SS s) (S s) c h.0 h.0 r (λ x b. begins_step s c (h.0 ++ x ∷ []) b) h.3,
    λ u hs. loop_halts goes step shortens s c (h.0 ++ u) u (ap goes (sym (ap head h.1 ∙ head_append h.0 r u hs)) ∙ e) (h.4 u hs),
    h.5,
  )

  local : (s t : St) (ts t1 pre xs r u : List Token) → goes (head ts) ≡ true → ts ≡ pre ++ t1 → ((u : List Token) → head t1 ≡ head u → step s (pre ++ u) ≡ Ok t u) → t1 ≡ xs ++ r → head r ≡ head u → loops s ((pre ++ xs) ++ u) ≡ loops t (xs ++ u)
  local s t ts t1 pre xs r u e split l h hs =
      let hu : head t1 ≡ head (xs ++ u) = ap head h ∙ head_append xs r u hs in
      ap (loops s) (append_assoc pre xs u) ∙ loop_goes_on goes step shortens s t (pre ++ (xs ++ u)) (xs ++ u) (ap goes (sym (ap head split ∙ head_append pre t1 (xs ++ u) hu)) ∙ e) (l (xs ++ u) hu)

  good_more : (s t : St) (ts t1 : List Token) → goes (head ts) ≡ true → OutcomeSays g (SS s) (step s) ts (Ok t t1) → (o : ReadOutcome St) → OutcomeSays g (S t) (loops t) t1 o → OutcomeSays g (S s) (loops s) ts o
  good_more s t ts t1 e h (Ok b r) q = (
    h.0 ++ q.0,
    h.1 ∙ ap (λ x. h.0 ++ x) q.1 ∙ sym (append_assoc h.0 q.0 r),
    λ c. more (h.2 c) (q.2 c),
    λ u hs. local s t ts t1 h.0 q.0 r u e h.1 h.3 q.1 hs ∙ q.3 u hs,
    each_append g.fits h.0 q.0 h.4 q.4,
  )
  good_more s t ts t1 e h (Err c r) q = (
    h.0 ++ q.0,
    h.1 ∙ ap (λ x. h.0 ++ x) q.1 ∙ sym (append_assoc h.0 q.0 r),
    inr (begins_after s t Unexpected h.0 q.0 (h.2 Unexpected) (weak t q.0 q.2)),
    onward_map (S t) (S s) c q.0 (h.0 ++ q.0) r (λ x b. subst (HasPrefix (S s c)) (sym (append_assoc h.0 q.0 (x ∷ []))) (begins_after s t c h.0 (q.0 ++ x ∷ []) (h.2 c) b)) q.3,
    λ u hs. local s t ts t1 h.0 q.0 r u e h.1 h.3 q.1 hs ∙ q.4 u hs,
    each_append g.fits h.0 q.0 h.4 q.5,
  )

  good_read : (k : ℕ) → ((t : St) (r : List Token) → length r < k → OutcomeSays g (S t) (loops t) r (loops t r)) → (s : St) (ts : List Token) → length ts < suc k → goes (head ts) ≡ true → (o : ReadOutcome St) → step s ts ≡ o → OutcomeSays g (SS s) (step s) ts o → OutcomeSays g (S s) (loops s) ts (then_read o loops)
  good_read k go s ts lt e (Err c r) eq h = good_err s ts r c e h
  good_read k go s ts lt e (Ok t t1) eq h =
      let less : length t1 < length ts = shortens s t ts t1 eq in
      good_more s t ts t1 e h (loops t t1) (go t t1 (omega arith))

  good_at : (k : ℕ) → ((t : St) (r : List Token) → length r < k → OutcomeSays g (S t) (loops t) r (loops t r)) → (s : St) (ts : List Token) → length ts < suc k → (b : Bool) → goes (head ts) ≡ b → OutcomeSays g (S s) (loops s) ts (loop_at step loops s b ts)
  good_at k go s ts lt false e = good_stop s ts e
  good_at k go s ts lt true e = good_read k go s ts lt e (step s ts) refl ((hs s).good ts)

  good_loop : (k : ℕ) (s : St) (ts : List Token) → length ts < k → OutcomeSays g (S s) (loops s) ts (loops s ts)
  good_loop zero s ts lt = absurd (omega arith)
  good_loop (suc k) s ts lt = subst (OutcomeSays g (S s) (loops s) ts) (sym (unrolled goes step shortens s ts)) (good_at k (good_loop k) s ts lt (goes (head ts)) refl)

  begin_many : (s t : St) (xs u : List Token) → Many Step s xs t → F (head u) → BS (head (xs ++ u)) ⊎ F (head (xs ++ u))
  begin_many s _ _ u done k = inr k
  begin_many s t _ u (more {t = m} {xs = xs} {ys = ys} dx dy) k =
      inl (subst (λ us. BS (head us)) (sym (append_assoc xs ys u)) ((hs s).begin xs (ys ++ u) m dx (by_either (link _) (ends _) (begin_many m t ys u dy k))))

  whole_many : (s t : St) (xs u : List Token) → Many Step s xs t → F (head u) → loops s (xs ++ u) ≡ Ok t u
  whole_many s _ _ u done k = loop_stops goes step shortens s u (no' _ k)
  whole_many s t _ u (more {t = m} {xs = xs} {ys = ys} dx dy) k =
      let f : FS (head (ys ++ u)) = by_either (link _) (ends _) (begin_many m t ys u dy k) in
      ap (loops s) (append_assoc xs ys u)
      ∙ loop_goes_on goes step shortens s m (xs ++ (ys ++ u)) (ys ++ u) (yes' _ ((hs s).begin xs (ys ++ u) m dx f)) ((hs s).whole xs (ys ++ u) m dx f)
      ∙ whole_many m t ys u dy k

  grows_many : (s : St) (ts : List Token) → StaysOrFew g n ts (loops s ts) → many goes step' s ts ≡ loops s ts
  unfolding many
  grows_many s ts st = loop_grows g n goes step step' (λ s t ts r e. let lt = shortens s t ts r e in omega arith) (λ s ts st. (hs s).grows ts st) (suc (length ts)) s ts st

  pub rule_many : (s : St) → RuleProperties g n (Many Step s) (S s) B F (loops s) (many goes step' s)
  rule_many s = record {
    good = λ ts. good_loop (suc (length ts)) s ts (omega arith);
    whole = λ xs u t h k. whole_many s t xs u h k;
    begin = λ xs u t h k. by_either (bs _) (bf _) (begin_many s t xs u h k);
    grows = λ ts st. grows_many s ts st;
  }

pub rule_loop : {St : Type 0} {g : RuleSetting} {n : ℕ} {Step : St → Form St} {SS : St → Family St} {BS FS F B : Option Token → Type 0} {goes : Option Token → Bool} {step step' : St → Parser St}
    → ((s : St) → RuleProperties g n (Step s) (SS s) BS FS (step s) (step' s)) → ((s t : St) (xs : List Token) → SS s Unexpected xs t → 0 < length xs)
    → ((o : Option Token) → BS o → goes o ≡ true) → ((o : Option Token) → F o → goes o ≡ false) → ((o : Option Token) → BS o → FS o) → ((o : Option Token) → F o → FS o)
    → ((o : Option Token) → BS o → B o) → ((o : Option Token) → F o → B o)
    → (s : St) → RuleProperties g n (Many Step s) (λ c. Many (λ x. SS x c) s) B F (many goes step s) (many goes step' s)
rule_loop {g = g} {n = n} {Step = Step} {SS = SS} {BS = BS} {FS = FS} {F = F} {B = B} {goes = goes} {step = step} {step' = step'} hs proper yes' no' link ends bs bf s =
    rule_many g n Step SS BS FS F B goes step step' hs proper yes' no' link ends bs bf s

-- with the line of the first token
module _ {A : Type 0} (g : RuleSetting) (n : ℕ) (P : ℕ → Form A) (SP : ℕ → Family A) (B F : Option Token → Type 0) (p p' : ℕ → Parser A) (line_at : Option Token → ℕ)
    (lines : (t : Token) → line_at (Some t) ≡ t.place.line)
    (hp : (line : ℕ) → RuleProperties g n (P line) (SP line) B F (p line) (p' line)) (proper : (line : ℕ) (a : A) (c : Cause) (xs : List Token) → SP line c xs a → 0 < length xs) where
  abbrev LS : Family A
  LS c = Located (λ line. SP line c)

  abbrev located : Parser A
  located = seeing (λ o. p (line_at o))

  -- a form with a token, at its own line
  at_line : (c : Cause) (ts pre r : List Token) (a : A) → ts ≡ pre ++ r → (xs : List Token) → (xs ≡ pre) → SP (line_at (head ts)) c xs a → LS c xs a
  at_line c ts pre r a e [] same h = absurd (let lt = proper _ a c [] h in omega arith)
  at_line c ts pre r a e (t ∷ xs) same h =
      (t, xs, refl, subst (λ line. SP line c (t ∷ xs) a) (ap (λ z. line_at (head z)) (e ∙ ap (λ z. z ++ r) (sym same)) ∙ lines t) h)

  begins_line : (c : Cause) (ts r : List Token) (xs : List Token) → 0 < length xs → (r' : List Token) → ts ≡ xs ++ r' → HasPrefix (SP (line_at (head ts)) c) xs → HasPrefix (LS c) xs
  begins_line c ts r [] lt r' e b = absurd (omega arith)
  begins_line c ts r (t ∷ xs) lt r' e b = (b.0, b.1, (t, xs ++ b.0, refl, subst (λ line. SP line c (t ∷ (xs ++ b.0)) b.1) (ap (λ z. line_at (head z)) e ∙ lines t) b.2))

  weak_line : (ts r : List Token) (pre : List Token) → ts ≡ pre ++ r → (pre ≡ []) ⊎ HasPrefix (SP (line_at (head ts)) Unexpected) pre → (pre ≡ []) ⊎ HasPrefix (LS Unexpected) pre
  weak_line ts r pre e (inl h) = inl h
  weak_line ts r [] e (inr b) = inl refl
  weak_line ts r (t ∷ pre) e (inr b) = inr (begins_line Unexpected ts r (t ∷ pre) (omega arith) r e b)

  -- the refused token too
  onward_line : (c : Cause) (ts pre r : List Token) → ts ≡ pre ++ r → Onward (SP (line_at (head ts))) c pre r → Onward LS c pre r
  onward_line Unexpected ts pre r e h = tt
  onward_line TooDeep ts pre r e h = (h.0, h.1, h.2, begins_line TooDeep ts r (pre ++ h.0 ∷ []) (let l = length-append pre (h.0 ∷ []) in omega arith) h.1 (e ∙ ap (λ z. pre ++ z) h.2 ∙ sym (append_assoc pre (h.0 ∷ []) h.1)) h.3)
  onward_line TooMany ts pre r e h = (h.0, h.1, h.2, begins_line TooMany ts r (pre ++ h.0 ∷ []) (let l = length-append pre (h.0 ∷ []) in omega arith) h.1 (e ∙ ap (λ z. pre ++ z) h.2 ∙ sym (append_assoc pre (h.0 ∷ []) h.1)) h.3)

  same_line : (ts pre r u : List Token) → ts ≡ pre ++ r → head r ≡ head u → line_at (head (pre ++ u)) ≡ line_at (head ts)
  same_line ts pre r u e hs = ap line_at (sym (ap head e ∙ head_append pre r u hs))

  good_located : (ts : List Token) (o : ReadOutcome A) → OutcomeSays g (SP (line_at (head ts))) (p (line_at (head ts))) ts o → OutcomeSays g LS located ts o
  good_located ts (Ok a r) h = (h.0, h.1, λ c. at_line c ts h.0 r a h.1 h.0 refl (h.2 c), λ u hs. ap (λ l. p l (h.0 ++ u)) (same_line ts h.0 r u h.1 hs) ∙ h.3 u hs, h.4)
  good_located ts (Err c r) h = (h.0, h.1, weak_line ts r h.0 h.1 h.2, onward_line c ts h.0 r h.1 h.3, λ u hs. ap (λ l. p l (h.0 ++ u)) (same_line ts h.0 r u h.1 hs) ∙ h.4 u hs, h.5)

  line_of : (xs s rest : List Token) (t : Token) → xs ≡ t ∷ rest → t.place.line ≡ line_at (head (xs ++ s))
  line_of xs s rest t e = sym (ap (λ z. line_at (head (z ++ s))) e ∙ lines t)

  pub rule_located : RuleProperties g n (Located P) LS B F located (seeing (λ o. p' (line_at o)))
  rule_located = record {
    good = λ ts. good_located ts (p (line_at (head ts)) ts) ((hp _).good ts);
    whole = λ xs s a h k. ap (λ l. p l (xs ++ s)) (sym (line_of xs s h.1 h.0 h.2)) ∙ (hp h.0.place.line).whole xs s a h.3 k;
    begin = λ xs s a h k. (hp h.0.place.line).begin xs s a h.3 k;
    grows = λ ts st. (hp _).grows ts st;
  }

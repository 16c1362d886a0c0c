-- Reading is exact: what is read is the script's tree, a refusal is its first one, and there is one tree at most.
use Rattle.std.proofs.Common.{◌≡◌, ℕ, zero, suc, ◌+◌, ◌<◌, ◌≤◌, List, [], ◌∷◌, ◌++◌, length, Option, Some, None, Bool, true, false, refl, sym, ap, ◌∙◌, subst, arith, append-nil, append_assoc, length-append, ◌⊎◌, inl, inr}
use Rattle.std.specs.Prelude.{if◌then◌else◌}
use Rattle.std.proofs.lemmas.List.{append_cancel_right}
use Rattle.std.proofs.lemmas.Bool.{lt-ltb, eqb-true}
use borrow.Author.Tests.{ltb-true}
use Rattle.lf_base.specs.declared.limits.TheConstants.{MOST_ELIFS, MOST_EXPRESSION_LEVELS, MOST_PARTS}
use Rattle.lf_lexer.specs.declared.tokens.Token.{Token}
use Rattle.lf_parser.specs.declared.halt.Cause.{Cause}
use Rattle.lf_parser.specs.declared.halt.Cause.TheVariants.{Unexpected, TooDeep, TooMany}
use Rattle.lf_parser.specs.Kinds.{kind, is, END}
use Rattle.lf_parser.specs.Forms.{Form, Many, HasPrefix}
use Rattle.lf_parser.specs.Words.{the_end}
use Rattle.lf_parser.specs.Plain.{PlainTree}
use Rattle.lf_parser.specs.Grammar as form
use Rattle.lf_parser.specs.Grammar.{Script, Items, no_items, tree_of}
use Rattle.lf_parser.specs.Parsers.{ReadOutcome, Ok, Err, then_read, ◌>>=◌, pure, take, taken_if, many}
use Rattle.lf_parser.specs.ReadingFunctions as read
use Rattle.lf_parser.specs.Refusals.{Bounded, AnyCount, PartFits, Derives, WithinLevels, WithinLimits, EndsOnce, WhyCause, GrammarRefuses}
use Rattle.lf_parser.specs.Limits.{part_fits, within_limits}
use Rattle.lf_parser.proofs.Rules.RuleProperties.{RuleSetting, OutcomeSays, StaysOrFew, RuleProperties, Each, Onward}
use Rattle.lf_parser.proofs.Rules.OneToken.{Any}
use Rattle.lf_parser.proofs.Rules.ExpressionLevels.{levels_for}
use Rattle.lf_parser.proofs.Rules.StatementRules.{elifs_for}
use Rattle.lf_parser.proofs.Rules.ScriptRules.{Limits, rule_script, rule_items, some_script}

-- no levels and parts more than there are, but where a refusal wants them
levels_for_same : (c : Cause) (d : ℕ) → (c ≡ TooDeep → ⊥) → levels_for c d ≡ d
levels_for_same Unexpected zero h = refl
levels_for_same TooMany zero h = refl
levels_for_same TooDeep d h = absurd (h refl)
levels_for_same Unexpected (suc d) h = ap suc (levels_for_same Unexpected d h)
levels_for_same TooMany (suc d) h = ap suc (levels_for_same TooMany d h)

elifs_for_same : (c : Cause) (e : ℕ) → (c ≡ TooMany → ⊥) → elifs_for c e ≡ e
elifs_for_same Unexpected zero h = refl
elifs_for_same TooDeep zero h = refl
elifs_for_same TooMany e h = absurd (h refl)
elifs_for_same Unexpected (suc e) h = ap suc (elifs_for_same Unexpected e h)
elifs_for_same TooDeep (suc e) h = ap suc (elifs_for_same TooDeep e h)

-- no limit on parts where a refusal wants larger ones
abbrev pub RoomOf : (ℕ → Type 0) → Cause → ℕ → Type 0
RoomOf R Unexpected count = R count
RoomOf R TooDeep count = Unit {0}
RoomOf R TooMany count = Unit {0}

-- a limit on parts, as a test
pub record Tested (R : ℕ → Type 0) (room : ℕ → Bool) : Type 0 where
  pub yes' : (count : ℕ) → room count ≡ true → R count
  pub back : (count : ℕ) → R count → room count ≡ true

abbrev any_room : ℕ → Bool
any_room count = true

tested_any : Tested AnyCount any_room
tested_any = record { yes' = λ count h. tt; back = λ count h. refl }

pub tested_fits : Tested PartFits part_fits
tested_fits = record { yes' = λ count h. ltb-true count MOST_PARTS h; back = λ count h. lt-ltb count MOST_PARTS h }

to_room : (R : ℕ → Type 0) (c : Cause) (count : ℕ) → R count → RoomOf R c count
to_room R Unexpected count h = h
to_room R TooDeep count h = tt
to_room R TooMany count h = tt

-- the setting in which these causes stay, and any token is taken, or all but the end
abbrev pub staying : (Cause → Type 0) → RuleSetting
staying T = record { stays = T; fits = λ t. Unit {0} }

abbrev before_end : RuleSetting
before_end = record { stays = λ c. Unit {0}; fits = λ t. END < kind (Some t) }

abbrev pub none_reached : ℕ → ℕ
none_reached k = 0

abbrev all_reached : ℕ → ℕ
all_reached k = k

-- from some limits to larger ones: the causes that stay find their own limits alike
limits_to : (T : Cause → Type 0) (R : ℕ → Type 0) (room room' : ℕ → Bool) (d d' e e' : ℕ) → Tested R room → ((count : ℕ) → room count ≡ true → room' count ≡ true) → d ≤ d' → e ≤ e'
    → (T TooDeep → d ≡ d') → (T TooMany → (e ≡ e') × ((count : ℕ) → room count ≡ room' count)) → Limits (staying T) (λ t h. tt) none_reached (RoomOf R) room room' d d' e e'
limits_to T R room room' d d' e e' tested wide dd ee deep many' = record {
  roomy = λ k count. record {
    yes' = λ h c. to_room R c count (tested.yes' count h);
    no' = λ h. tt;
    back = tested.back count;
    wider = wide count;
    alike = by_many count;
  };
  deeper = dd;
  same = λ k h. by_deep h;
  longer' = ee;
  alike = λ k h. by_elifs h;
  step = λ k. omega arith;
}
  where
    by_many : (count : ℕ) → T TooMany ⊎ (0 < 0) → room count ≡ room' count
    by_many count (inl t) = let h = many' t in h.1 count
    by_many count (inr h) = absurd (omega arith)

    by_deep : T TooDeep ⊎ (0 < 0) → d ≡ d'
    by_deep (inl t) = deep t
    by_deep (inr h) = absurd (omega arith)

    by_elifs : T TooMany ⊎ (0 < 0) → e ≡ e'
    by_elifs (inl t) = let h = many' t in h.0
    by_elifs (inr h) = absurd (omega arith)

-- the same limits, in any setting
pub limits_same : (g : RuleSetting) (fits : (t : Token) → END < kind (Some t) → g.fits t) (reach : ℕ → ℕ) (R : ℕ → Type 0) (room : ℕ → Bool) (d e : ℕ) → Tested R room → ((k : ℕ) → reach (suc k) ≤ suc (reach k)) → Limits g fits reach (RoomOf R) room room d d e e
limits_same g fits reach R room d e tested step = record {
  roomy = λ k count. record { yes' = λ h c. to_room R c count (tested.yes' count h); no' = λ h. tt; back = tested.back count; wider = λ h. h; alike = λ h. refl };
  deeper = omega arith;
  same = λ k h. refl;
  longer' = omega arith;
  alike = λ k h. refl;
  step = step;
}

abbrev Self : (R : ℕ → Type 0) (room : ℕ → Bool) (d e k : ℕ) → Type 0
Self R room d e k = RuleProperties (staying (λ c. ⊥)) 0 (Script (RoomOf R Unexpected) (elifs_for Unexpected e) (levels_for Unexpected d) k) (λ c. Script (RoomOf R c) (elifs_for c e) (levels_for c d) (suc k)) Any Any (read.a_script room e d k) (read.a_script room e d k)

self : (R : ℕ → Type 0) (room : ℕ → Bool) (d e k : ℕ) → Tested R room → Self R room d e k
self R room d e k tested =
    rule_script (staying (λ c. ⊥)) (λ t h. tt) none_reached (RoomOf R) room room d d e e (limits_same (staying (λ c. ⊥)) (λ t h. tt) none_reached R room d e tested (λ k. omega arith)) k k (omega arith) (λ h. refl) (λ t. tt)

-- what is derived is read
whole_script : (R : ℕ → Type 0) (room : ℕ → Bool) (d e k : ℕ) → Tested R room → (ts : List Token) (t : PlainTree) → Script R e d k ts t → read.a_script room e d k ts ≡ Ok t []
whole_script R room d e k tested ts t h =
    let h' : Script (RoomOf R Unexpected) (elifs_for Unexpected e) (levels_for Unexpected d) k ts t =
    subst (λ e. Script R e (levels_for Unexpected d) k ts t) (sym (elifs_for_same Unexpected e (λ z. cc))) (subst (λ d. Script R e d k ts t) (sym (levels_for_same Unexpected d (λ z. cc))) h) in
    ap (read.a_script room e d k) (sym (append-nil ts)) ∙ (self R room d e k tested).whole ts [] t h' tt

-- larger limits and more blocks leave what is read
stays_read : (R : ℕ → Type 0) (room room' : ℕ → Bool) (d d' e e' k k' : ℕ) → Tested R room → ((count : ℕ) → room count ≡ true → room' count ≡ true) → d ≤ d' → e ≤ e' → k ≤ k' → (ts r : List Token) (t : PlainTree)
    → read.a_script room e d k ts ≡ Ok t r → read.a_script room' e' d' k' ts ≡ Ok t r
stays_read R room room' d d' e e' k k' tested wide dd ee kk ts r t h =
    let g = staying (λ c. ⊥) in
    let p = rule_script g (λ t h. tt) none_reached (RoomOf R) room room' d d' e e' (limits_to (λ c. ⊥) R room room' d d' e e' tested wide dd ee (λ z. absurd z) (λ z. absurd z)) k k' kk (λ h. no_reach h) (λ t. tt) in
    p.grows ts (subst (StaysOrFew g 0 ts) (sym h) (inr tt)) ∙ h
  where
    no_reach : ⊥ ⊎ (0 < 0) → k ≡ k'
    no_reach (inl h) = absurd h
    no_reach (inr h) = absurd (omega arith)

-- more blocks change nothing on few tokens
more_blocks : (room : ℕ → Bool) (R : ℕ → Type 0) (d e k k' : ℕ) → Tested R room → k ≤ k' → (ts : List Token) → length ts < k → read.a_script room e d k' ts ≡ read.a_script room e d k ts
more_blocks room R d e k k' tested kk ts lt =
    let g = staying (λ c. ⊥) in
    let p = rule_script g (λ t h. tt) all_reached (RoomOf R) room room d d e e (limits_same g (λ t h. tt) all_reached R room d e tested (λ k. omega arith)) k k' kk (λ h. no_reach h) (λ t. tt) in
    p.grows ts (inl lt)
  where
    no_reach : ⊥ ⊎ (0 < 0) → k ≡ k'
    no_reach (inl h) = absurd h
    no_reach (inr h) = absurd (omega arith)

-- nothing goes on from a refusal that larger limits leave
module _ (c : Cause) (T : Cause → Type 0) (stays : T c) (R : ℕ → Type 0) (room : ℕ → Bool) (tested : Tested R room) (d d' e e' : ℕ)
    (wide : (count : ℕ) → part_fits count ≡ true → room count ≡ true) (levels_wide : MOST_EXPRESSION_LEVELS ≤ d') (elifs_wide : MOST_ELIFS ≤ e') (dd : d ≤ d') (ee : e ≤ e')
    (deep : T TooDeep → MOST_EXPRESSION_LEVELS ≡ d') (many' : T TooMany → (MOST_ELIFS ≡ e') × ((count : ℕ) → part_fits count ≡ room count)) where
  abbrev g : RuleSetting
  g = staying T

  at_other : (n m : ℕ) (ts pre r more : List Token) (x : Token) → length ts < n → n ≤ m → within_limits read.a_script n ts ≡ Err c (x ∷ r) → ts ≡ pre ++ x ∷ r → within_limits read.a_script m (pre ++ x ∷ more) ≡ Err c (x ∷ more)
  at_other n m ts pre r more x lt le er split =
      let p = self PartFits part_fits MOST_EXPRESSION_LEVELS MOST_ELIFS m tested_fits in
      let there : within_limits read.a_script m ts ≡ Err c (x ∷ r) = more_blocks part_fits PartFits MOST_EXPRESSION_LEVELS MOST_ELIFS n m tested_fits le ts lt ∙ er in
      let h = subst (OutcomeSays (staying (λ c. ⊥)) (λ c. Script (RoomOf PartFits c) (elifs_for c MOST_ELIFS) (levels_for c MOST_EXPRESSION_LEVELS) (suc m)) (within_limits read.a_script m) ts) there (p.good ts) in
      let same : h.0 ≡ pre = append_cancel_right h.0 pre (x ∷ r) (sym h.1 ∙ split) in
      subst (λ z. within_limits read.a_script m (z ++ x ∷ more) ≡ Err c (x ∷ more)) same (h.4 (x ∷ more) refl)

  none_begins : (n : ℕ) (ts pre r : List Token) (x : Token) → length ts < n → within_limits read.a_script n ts ≡ Err c (x ∷ r) → ts ≡ pre ++ x ∷ r → HasPrefix (Bounded R e d) (pre ++ x ∷ []) → ⊥
  none_begins n ts pre r x lt er split b =
      let more = b.0 in
      let k = b.2.0 in
      let m : ℕ = n + k in
      let zs : List Token = pre ++ x ∷ more in
      let h : Script R e d k zs b.1 = subst (λ z. Script R e d k z b.1) (append_assoc pre (x ∷ []) more) b.2.1 in
      let one_token : read.a_script room e d k zs ≡ Ok b.1 [] = whole_script R room d e k tested zs b.1 h in
      let two : read.a_script room e' d' m zs ≡ Ok b.1 [] = stays_read R room room d d' e e' k m tested (λ count h. h) dd ee (omega arith) zs [] b.1 one_token in
      let four : within_limits read.a_script m zs ≡ Err c (x ∷ more) = at_other n m ts pre r more x lt (omega arith) er split in
      let p = rule_script g (λ t h. tt) none_reached (RoomOf PartFits) part_fits room MOST_EXPRESSION_LEVELS d' MOST_ELIFS e' (limits_to T PartFits part_fits room MOST_EXPRESSION_LEVELS d' MOST_ELIFS e' tested_fits wide levels_wide elifs_wide deep many') m m (omega arith) (λ h. refl) (λ t. tt) in
      let five : read.a_script room e' d' m zs ≡ Err c (x ∷ more) = p.grows zs (subst (StaysOrFew g 0 zs) (sym four) (inr stays)) ∙ four in
      let both : Ok b.1 [] ≡ Err c (x ∷ more) = sym two ∙ five in
      cc

abbrev OnlyUnexpected : Cause → Type 0
OnlyUnexpected Unexpected = Unit {0}
OnlyUnexpected _ = ⊥

abbrev OnlyTooDeep : Cause → Type 0
OnlyTooDeep TooDeep = Unit {0}
OnlyTooDeep _ = ⊥

abbrev Every : Cause → Type 0
Every c = Unit {0}

no_script : (n : ℕ) (ts pre r : List Token) (x : Token) → length ts < n → within_limits read.a_script n ts ≡ Err Unexpected (x ∷ r) → ts ≡ pre ++ x ∷ r → ¬ HasPrefix Derives (pre ++ x ∷ [])
no_script n ts pre r x lt er split b =
    let e = b.2.0 in let d = b.2.1 in
    none_begins Unexpected OnlyUnexpected tt AnyCount any_room tested_any d (MOST_EXPRESSION_LEVELS + d) e (MOST_ELIFS + e) (λ count h. refl) (omega arith) (omega arith) (omega arith) (omega arith) (λ z. absurd z) (λ z. absurd z)
    n ts pre r x lt er split (b.0, b.1, b.2.2)

no_levels : (n : ℕ) (ts pre r : List Token) (x : Token) → length ts < n → within_limits read.a_script n ts ≡ Err TooDeep (x ∷ r) → ts ≡ pre ++ x ∷ r → ¬ HasPrefix WithinLevels (pre ++ x ∷ [])
no_levels n ts pre r x lt er split b =
    let e = b.2.0 in
    none_begins TooDeep OnlyTooDeep tt AnyCount any_room tested_any MOST_EXPRESSION_LEVELS MOST_EXPRESSION_LEVELS e (MOST_ELIFS + e) (λ count h. refl) (omega arith) (omega arith) (omega arith) (omega arith) (λ z. refl) (λ z. absurd z)
    n ts pre r x lt er split (b.0, b.1, b.2.1)

no_parts : (n : ℕ) (ts pre r : List Token) (x : Token) → length ts < n → within_limits read.a_script n ts ≡ Err TooMany (x ∷ r) → ts ≡ pre ++ x ∷ r → ¬ HasPrefix WithinLimits (pre ++ x ∷ [])
no_parts n ts pre r x lt er split b =
    none_begins TooMany Every tt PartFits part_fits tested_fits MOST_EXPRESSION_LEVELS MOST_EXPRESSION_LEVELS MOST_ELIFS MOST_ELIFS (λ count h. h) (omega arith) (omega arith) (omega arith) (omega arith) (λ z. refl) (λ z. (refl, λ count. refl))
    n ts pre r x lt er split b

abbrev Scripts : ℕ → Cause → Form PlainTree
Scripts n c = Script (RoomOf PartFits c) (elifs_for c MOST_ELIFS) (levels_for c MOST_EXPRESSION_LEVELS) (suc n)

to_limits : (n : ℕ) (ts : List Token) (t : PlainTree) → Scripts n Unexpected ts t → WithinLimits ts t
to_limits n ts t h = (suc n, subst (λ e. Script PartFits e MOST_EXPRESSION_LEVELS (suc n) ts t) (elifs_for_same Unexpected MOST_ELIFS (λ z. cc)) (subst (λ d. Script PartFits (elifs_for Unexpected MOST_ELIFS) d (suc n) ts t) (levels_for_same Unexpected MOST_EXPRESSION_LEVELS (λ z. cc)) h))

to_levels : (n : ℕ) (ts : List Token) (t : PlainTree) → Scripts n TooMany ts t → WithinLevels ts t
to_levels n ts t h = (elifs_for TooMany MOST_ELIFS, (suc n, subst (λ d. Script AnyCount (elifs_for TooMany MOST_ELIFS) d (suc n) ts t) (levels_for_same TooMany MOST_EXPRESSION_LEVELS (λ z. cc)) h))

to_derives : (n : ℕ) (ts : List Token) (t : PlainTree) → Scripts n TooDeep ts t → Derives ts t
to_derives n ts t h = (elifs_for TooDeep MOST_ELIFS, levels_for TooDeep MOST_EXPRESSION_LEVELS, (suc n, h))

-- what reading a whole script says
pub record ScriptRead (ts : List Token) (t : PlainTree) (r : List Token) : Type 0 where
  pub none_left : r ≡ []
  pub tree : WithinLimits ts t

-- the end is the last token alone
ends_tail : (x : Token) (zs : List Token) → 0 < length zs → EndsOnce (x ∷ zs) → (END < kind (Some x)) × EndsOnce zs
ends_tail x [] lt h = absurd (omega arith)
ends_tail x (z ∷ zs) lt h = (h.0, h.1)

ends_last : (xs r : List Token) (t : Token) → kind (Some t) ≡ END → EndsOnce (xs ++ t ∷ r) → r ≡ []
ends_last [] [] t e h = refl
ends_last [] (y ∷ r) t e h = absurd (let k = h.0 in omega arith)
ends_last (x ∷ xs) r t e h =
    let k = ends_tail x (xs ++ t ∷ r) (let l = length-append xs (t ∷ r) in omega arith) h in
    ends_last xs r t e k.1

none_ends : (xs : List Token) → EndsOnce xs → Each (λ t. END < kind (Some t)) xs → ⊥
none_ends [] h e = h
none_ends (x ∷ []) h e = let k = e.0 in omega arith
none_ends (x ∷ y ∷ xs) h e = none_ends (y ∷ xs) h.1 e.1

-- a refusal has a token
module _ (n : ℕ) (ts r : List Token) (c : Cause) (ends : EndsOnce ts) where
  abbrev ItemsS : Cause → Form Items
  ItemsS c = Many (λ i. form.Item (RoomOf PartFits c) (elifs_for c MOST_ELIFS) (levels_for c MOST_EXPRESSION_LEVELS) (suc n) i) no_items

  abbrev HasToken : List Token → Type 0
  HasToken us = (x : Token) × (rest : List Token) × (us ≡ x ∷ rest)

  nonempty : (pre us : List Token) → ts ≡ pre ++ us → Each (λ t. END < kind (Some t)) pre → HasToken us
  nonempty pre [] e each = absurd (none_ends pre (subst EndsOnce (e ∙ append-nil pre) ends) each)
  nonempty pre (x ∷ rest) e each = (x, rest, refl)

  by_token : (items : Items) (t : Token) (us : List Token) (o : Option Token) → then_read (taken_if true Unexpected o t us) (λ _. pure (tree_of items)) ≡ Err c r → HasToken r
  by_token items t us None e = (t, us, let z : r ≡ t ∷ us = cc in z)
  by_token items t us (Some a) e = absurd (cc)

  by_end : (items : Items) (us : List Token) → HasToken us → then_read (take the_end us) (λ _. pure (tree_of items)) ≡ Err c r → HasToken r
  by_end items [] k e = absurd (let z = k.2 in cc)
  by_end items (t ∷ us) k e = by_token items t us (the_end t) e

  by_items : (o : ReadOutcome Items) → OutcomeSays before_end ItemsS (many read.before_end (within_limits read.item n) no_items) ts o → then_read o (λ items. take the_end >>= (λ _. pure (tree_of items))) ≡ Err c r → HasToken r
  by_items (Ok items t1) h e = by_end items t1 (nonempty h.0 t1 h.1 h.4) e
  by_items (Err c' r') h e = let same : r' ≡ r = cc in subst HasToken same (nonempty h.0 r' h.1 h.5)

  stands : within_limits read.a_script n ts ≡ Err c r → HasToken r
  unfolding read.a_script read.items_from
  stands er =
      let p = rule_items before_end (λ t h. h) none_reached (RoomOf PartFits) part_fits part_fits MOST_EXPRESSION_LEVELS MOST_EXPRESSION_LEVELS MOST_ELIFS MOST_ELIFS (limits_same before_end (λ t h. h) none_reached PartFits part_fits MOST_EXPRESSION_LEVELS MOST_ELIFS tested_fits (λ k. omega arith)) n n (omega arith) (λ h. refl) no_items in
      by_items (many read.before_end (within_limits read.item n) no_items ts) (p.good ts) er

none_after : (xs ys : List Token) → xs ++ ys ≡ [] → xs ≡ []
none_after [] ys e = refl
none_after (x ∷ xs) ys e = absurd (cc)

-- what is read from a prefix of some tokens
pub read_prefix : (n : ℕ) (ts more r : List Token) (t : PlainTree) → EndsOnce (ts ++ more) → within_limits read.a_script n ts ≡ Ok t r → ScriptRead ts t r
read_prefix n ts more r t ends e =
    let p = self PartFits part_fits MOST_EXPRESSION_LEVELS MOST_ELIFS n tested_fits in
    let h = subst (OutcomeSays (staying (λ c. ⊥)) (Scripts n) (within_limits read.a_script n) ts) e (p.good ts) in
    let s = h.2 Unexpected in
    let q = s.5 in
    let tok = q.4 in
    let own : h.0 ≡ s.0 ++ tok.0 ∷ [] = s.3 ∙ ap (λ z. s.0 ++ z) (q.3 ∙ ap (λ z. q.0 ++ z) q.5.0 ∙ append-nil q.0 ∙ tok.1) in
    let all : ts ≡ s.0 ++ tok.0 ∷ r = h.1 ∙ ap (λ z. z ++ r) own ∙ append_assoc s.0 (tok.0 ∷ []) r in
    let with_more : ts ++ more ≡ s.0 ++ tok.0 ∷ (r ++ more) = ap (λ z. z ++ more) all ∙ append_assoc s.0 (tok.0 ∷ r) more in
    let nil : r ≡ [] = none_after r more (ends_last s.0 (r ++ more) tok.0 (end_kind tok.0 q.2 (is END (Some tok.0)) refl tok.2) (subst EndsOnce with_more ends)) in
    record { none_left = nil; tree = to_limits n ts t (subst (λ z. Scripts n Unexpected z t) (sym (h.1 ∙ ap (λ z. h.0 ++ z) nil ∙ append-nil h.0)) s) }
  where
    end_kind : (t a : Token) (b : Bool) → is END (Some t) ≡ b → (if b then Some t else None) ≡ Some a → kind (Some t) ≡ END
    end_kind t a true h e = eqb-true (kind (Some t)) 0 h
    end_kind t a false h e = absurd (cc)

-- what is read
pub read_script : (n : ℕ) (ts r : List Token) (t : PlainTree) → EndsOnce ts → within_limits read.a_script n ts ≡ Ok t r → ScriptRead ts t r
read_script n ts r t ends e = read_prefix n ts [] r t (subst EndsOnce (sym (append-nil ts)) ends) e

begins_of : (n : ℕ) (pre : List Token) → (pre ≡ []) ⊎ HasPrefix (Scripts n Unexpected) pre → HasPrefix WithinLimits pre
begins_of n pre (inr b) = (b.0, b.1, to_limits n (pre ++ b.0) b.1 b.2)
begins_of n pre (inl e) =
    let b = some_script (staying (λ c. ⊥)) (λ t h. tt) none_reached (RoomOf PartFits) part_fits part_fits MOST_EXPRESSION_LEVELS MOST_EXPRESSION_LEVELS MOST_ELIFS MOST_ELIFS (limits_same (staying (λ c. ⊥)) (λ t h. tt) none_reached PartFits part_fits MOST_EXPRESSION_LEVELS MOST_ELIFS tested_fits (λ k. omega arith)) n n (omega arith) (λ h. refl) Unexpected in
    (b.0, b.1, subst (λ z. WithinLimits (z ++ b.0) b.1) (sym e) (to_limits n b.0 b.1 b.2))

why_by : (n : ℕ) (ts pre r : List Token) (x : Token) (c : Cause) → length ts < n → within_limits read.a_script n ts ≡ Err c (x ∷ r) → ts ≡ pre ++ x ∷ r → Onward (Scripts n) c pre (x ∷ r) → WhyCause c (pre ++ x ∷ [])
why_by n ts pre r x Unexpected lt er split o = no_script n ts pre r x lt er split
why_by n ts pre r x TooDeep lt er split o =
    let same : o.0 ≡ x = cc in
    let b = subst (λ z. HasPrefix (Scripts n TooDeep) (pre ++ z ∷ [])) same o.3 in
    ((b.0, b.1, to_derives n ((pre ++ x ∷ []) ++ b.0) b.1 b.2), no_levels n ts pre r x lt er split)
why_by n ts pre r x TooMany lt er split o =
    let same : o.0 ≡ x = cc in
    let b = subst (λ z. HasPrefix (Scripts n TooMany) (pre ++ z ∷ [])) same o.3 in
    ((b.0, b.1, to_levels n ((pre ++ x ∷ []) ++ b.0) b.1 b.2), no_parts n ts pre r x lt er split)

-- what is refused at a token
pub refused_script_at : (n : ℕ) (ts r : List Token) (x : Token) (c : Cause) → length ts < n → within_limits read.a_script n ts ≡ Err c (x ∷ r) → GrammarRefuses ts c (x ∷ r)
refused_script_at n ts r x c lt er =
    let p = self PartFits part_fits MOST_EXPRESSION_LEVELS MOST_ELIFS n tested_fits in
    let h = subst (OutcomeSays (staying (λ c. ⊥)) (Scripts n) (within_limits read.a_script n) ts) er (p.good ts) in
    record {
      before = h.0;
      token = x;
      after = r;
      left_is = refl;
      split = h.1;
      begins = begins_of n h.0 h.2;
      why = why_by n ts h.0 r x c lt er h.1 h.3;
    }

-- what is refused
pub refused_script : (n : ℕ) (ts r : List Token) (c : Cause) → EndsOnce ts → length ts < n → within_limits read.a_script n ts ≡ Err c r → GrammarRefuses ts c r
refused_script n ts r c ends lt er =
    let s = stands n ts r c ends er in
    subst (GrammarRefuses ts c) (sym s.2) (refused_script_at n ts s.1 s.0 c lt (er ∙ ap (λ z. Err c z) s.2))

-- tokens that are taken, before a refusal for want of more, begin a script
pub begins_all : (n : ℕ) (ts : List Token) (c : Cause) → within_limits read.a_script n ts ≡ Err c [] → HasPrefix WithinLimits ts
begins_all n ts c er =
    let p = self PartFits part_fits MOST_EXPRESSION_LEVELS MOST_ELIFS n tested_fits in
    let h = subst (OutcomeSays (staying (λ c. ⊥)) (Scripts n) (within_limits read.a_script n) ts) er (p.good ts) in
    subst (HasPrefix WithinLimits) (sym (h.1 ∙ append-nil h.0)) (begins_of n h.0 h.2)

-- a tree within the limits is one within the levels
pub limits_levels : (ts : List Token) (t : PlainTree) → WithinLimits ts t → WithinLevels ts t
limits_levels ts t w =
    let p = self PartFits part_fits MOST_EXPRESSION_LEVELS MOST_ELIFS w.0 tested_fits in
    let e = whole_script PartFits part_fits MOST_EXPRESSION_LEVELS MOST_ELIFS w.0 tested_fits ts t w.1 in
    let h = subst (OutcomeSays (staying (λ c. ⊥)) (Scripts w.0) (within_limits read.a_script w.0) ts) e (p.good ts) in
    to_levels w.0 ts t (subst (λ z. Scripts w.0 TooMany z t) (sym (h.1 ∙ append-nil h.0)) (h.2 TooMany))

-- at most one tree
pub unique : (ts : List Token) (t u : PlainTree) → Derives ts t → Derives ts u → t ≡ u
unique ts t u a b =
    let e = a.0 in let d = a.1 in let k = a.2.0 in
    let e' = b.0 in let d' = b.1 in let k' = b.2.0 in
    let one_token : read.a_script any_room (e + e') (d + d') (k + k') ts ≡ Ok t [] =
    stays_read AnyCount any_room any_room d (d + d') e (e + e') k (k + k') tested_any (λ count h. refl) (omega arith) (omega arith) (omega arith) ts [] t (whole_script AnyCount any_room d e k tested_any ts t a.2.1) in
    let two : read.a_script any_room (e + e') (d + d') (k + k') ts ≡ Ok u [] =
    stays_read AnyCount any_room any_room d' (d + d') e' (e + e') k' (k + k') tested_any (λ count h. refl) (omega arith) (omega arith) (omega arith) ts [] u (whole_script AnyCount any_room d' e' k' tested_any ts u b.2.1) in
    let both : Ok t [] ≡ Ok u [] = sym one_token ∙ two in
    cc

-- The first refusal where a line is too long: the grammar's, on the tokens up to the one that is too many, or of that one.
use Rattle.std.proofs.Common.{◌≡◌, ℕ, ◌+◌, ◌<◌, ◌≤◌, List, [], ◌∷◌, ◌++◌, take, drop, get_or, length, refl, sym, ap, ◌∙◌, subst, arith, append-nil, append_assoc}
use Rattle.std.proofs.lemmas.List.{take_more, take-append-drop, length-take}
use Rattle.lf_base.specs.declared.limits.TheConstants.{MOST_LINE_TOKENS}
use Rattle.lf_lexer.specs.declared.tokens.Token.{Token}
use Rattle.lf_parser.specs.declared.halt.Cause.{Cause}
use Rattle.lf_parser.specs.declared.halt.Cause.TheVariants as cause
use Rattle.lf_parser.specs.Forms.{HasPrefix}
use Rattle.lf_parser.specs.Parsers.{Ok, Err}
use Rattle.lf_parser.specs.Plain.{PlainTree}
use Rattle.lf_parser.specs.ReadingFunctions as read
use Rattle.lf_parser.specs.Refusals.{WithinLimits, last_count, LinesFit, EndsOnce, IsRefusal, IsFirstPast, Why, WhyCause, GrammarRefuses, kind_of, stopped, too_many}
use Rattle.lf_parser.specs.Limits.{within_limits}
use Rattle.lf_parser.proofs.Refusals.ExactReading.{limits_levels, read_prefix, refused_script_at, begins_all}
use Rattle.lf_parser.proofs.Refusals.LongLines.{fits_prefix, fits_before}

-- a refusal of the grammar in a prefix of the tokens, where the lines before it fit
stopped_in : (ts prefix more left : List Token) (c : Cause) (s : GrammarRefuses prefix c left) → ts ≡ prefix ++ more → LinesFit s.before → IsRefusal ts (stopped c s.token)
stopped_in ts prefix more left c s e fits = record {
  before = s.before;
  token = s.token;
  after = s.after ++ more;
  split = e ∙ ap (λ z. z ++ more) (s.split ∙ ap (λ z. s.before ++ z) s.left_is) ∙ append_assoc s.before (s.token ∷ s.after) more;
  place_is = refl;
  begins = (s.begins, fits);
  why = by_cause c s.why;
}
  where
    by_cause : (c : Cause) → WhyCause c (s.before ++ s.token ∷ []) → Why (kind_of c) (s.before ++ s.token ∷ [])
    by_cause cause.Unexpected w = w
    by_cause cause.TooDeep w = w
    by_cause cause.TooMany w = (w.0, λ both. w.1 both.0)

-- a refusal of the grammar, where all lines fit
pub stopped_whole : (ts left : List Token) (c : Cause) (s : GrammarRefuses ts c left) → LinesFit ts → IsRefusal ts (stopped c s.token)
stopped_whole ts left c s fits = stopped_in ts ts [] left c s (sym (append-nil ts)) (fits_prefix ts s.before left s.split fits)

-- the tokens up to the first that is one too many on its line, as they are read
module _ (ts : List Token) (i : ℕ) (d : Token) (p : IsFirstPast ts i) where
  abbrev before : List Token
  before = take i ts

  abbrev last : Token
  last = get_or ts i d

  abbrev pub up_to_past : List Token
  up_to_past = take (i + 1) ts

  abbrev more : List Token
  more = drop (i + 1) ts

  one_more : up_to_past ≡ before ++ last ∷ []
  one_more = take_more ts i d p.there

  all : ts ≡ up_to_past ++ more
  all = sym (take-append-drop (i + 1) ts)

  -- where they begin a script, the last one is refused
  past_refused : HasPrefix WithinLimits up_to_past → IsRefusal ts (too_many last)
  past_refused b =
      let c : HasPrefix WithinLimits (before ++ last ∷ []) = subst (HasPrefix WithinLimits) one_more b in
      let past : MOST_LINE_TOKENS < last_count (before ++ last ∷ []) = subst (λ z. MOST_LINE_TOKENS < last_count z) one_more p.past in
      record {
        before = before;
        token = last;
        after = more;
        split = all ∙ ap (λ z. z ++ more) one_more ∙ append_assoc before (last ∷ []) more;
        place_is = refl;
        begins = ((last ∷ c.0, c.1, subst (λ z. WithinLimits z c.1) (append_assoc before (last ∷ []) c.0) c.2), p.fits);
        why = (
          (c.0, c.1, limits_levels ((before ++ last ∷ []) ++ c.0) c.1 c.2),
          λ both. let le = both.1 (before ++ last ∷ []) [] (sym (append-nil (before ++ last ∷ []))) in omega (arith, le, past),
        );
      }

  pub whole_prefix : (n : ℕ) (r : List Token) (t : PlainTree) → EndsOnce ts → within_limits read.a_script n up_to_past ≡ Ok t r → IsRefusal ts (too_many last)
  whole_prefix n r t ends e =
      let f = read_prefix n up_to_past more r t (subst EndsOnce all ends) e in
      past_refused ([], t, subst (λ z. WithinLimits z t) (sym (append-nil up_to_past)) f.tree)

  -- where all of them are taken before a refusal, too
  pub taken_prefix : (n : ℕ) (left : List Token) (c : Cause) → length left < 1 → within_limits read.a_script n up_to_past ≡ Err c left → IsRefusal ts (too_many last)
  taken_prefix n [] c none e = past_refused (begins_all n up_to_past c e)
  taken_prefix n (x ∷ r) c none e = absurd (omega arith)

  -- else the grammar's refusal stands
  pub stopped_prefix : (n : ℕ) (left : List Token) (c : Cause) → i + 1 < n → 1 ≤ length left → within_limits read.a_script n up_to_past ≡ Err c left → IsRefusal ts (stopped c (get_or left 0 d))
  stopped_prefix n [] c lt some e = absurd (omega arith)
  stopped_prefix n (y ∷ r) c lt some e =
      let s = refused_script_at n up_to_past r y c (omega (arith, length-take (i + 1) ts)) e in
      let left = s.left_is in
      let same : s.token ≡ y = cc in
      let fits = fits_before before s.before s.after last s.token p.fits (sym one_more ∙ s.split ∙ ap (λ z. s.before ++ z) s.left_is) in
      subst (λ z. IsRefusal ts (stopped c z)) same (stopped_in ts up_to_past more (y ∷ r) c s all fits)

-- Some bytes have one answer at most: one script, or one first refusal.
use Rattle.std.proofs.Common.{◌≡◌, ℕ, ◌<◌, ◌≤◌, ◌⊎◌, List, true, count_by, refl, ap, sym, ◌∙◌, subst, inl, inr, arith}
use Rattle.std.proofs.lemmas.Bool.{eq-eqb, and_from}
use Rattle.lf_base.specs.declared.limits.TheConstants.{MOST_EXPRESSION_LEVELS}
use Rattle.lf_base.specs.declared.refusals.Place.{Place}
use Rattle.lf_base.specs.declared.refusals.Refusal.{Refusal}
use Rattle.lf_base.specs.Sets.{Member}
use Rattle.lf_base.specs.Texts.{Text}
use Rattle.lf_lexer.specs.declared.tokens.Token.{Token}
use Rattle.lf_lexer.specs.Reading.{Spells}
use Rattle.lf_lexer.proofs.TokenLaws.LineOrders.{tokens_on_lines}
use Rattle.lf_lexer.proofs.TokenLaws.Orders.{tokens_in_order}
use Rattle.lf_lexer.proofs.OneOutcome.ScriptOutcomes.{tokens_once, texts_once, refusal_once, never_both}
use Rattle.lf_parser.specs.Plain.{PlainTree}
use Rattle.lf_parser.specs.Refusals as parser
use Rattle.lf_parser.specs.TreeLines.{LinesInOrder}
use Rattle.lf_parser.specs.TreeNames.{same_place, NamesInOrder}
use Rattle.lf_parser.proofs.Refusals.ExactReading.{limits_levels}
use Rattle.lf_parser.proofs.Refusals.LawsOfTrees.{one_tree, tree_or_refusal, one_refusal}
use Rattle.lf_parser.proofs.Order.ScriptLinesInOrder.{lines_in_order}
use Rattle.lf_parser.proofs.Order.ScriptNamesInOrder.{names_in_order}
use Rattle.lf_codegen.specs.NameRefusals.{Resolves, IsFirstOf, refusals}
use Rattle.lf_codegen.specs.ScriptReading.{IsParsed, IsRead, TokensRefused, NamesRefused, IsFirstRefusal}
use Rattle.lf_codegen.proofs.OverLists.Counted.{one_passes}
use Rattle.lf_codegen.proofs.FirstRefusal.First.{not_before_from}
use Rattle.lf_codegen.proofs.FirstRefusal.RefusalPlaces.{refused_here, refused_names}

-- ---- the first of some refusals, where no two stand at one place
at_one_place : (a b : Place) → (a.line < b.line) ⊎ ((a.line ≡ b.line) × (a.column ≤ b.column))
    → (b.line < a.line) ⊎ ((b.line ≡ a.line) × (b.column ≤ a.column)) → same_place a b ≡ true
at_one_place a b (inl h) (inl k) = absurd (omega arith)
at_one_place a b (inl h) (inr k) = absurd (omega (arith, k.0))
at_one_place a b (inr h) (inl k) = absurd (omega (arith, h.0))
at_one_place a b (inr h) (inr k) = and_from _ _ (eq-eqb a.line b.line h.0) (eq-eqb a.column b.column (omega (arith, h.1, k.1)))

first_once : (all : List Refusal) (r s : Refusal) → ((place : Place) → count_by (refused_here place) all ≤ 1) → IsFirstOf all r
    → IsFirstOf all s → r ≡ s
first_once all r s once f g =
    let here = at_one_place r.place s.place (not_before_from s.place r.place (f.least s g.is_there))
    (not_before_from r.place s.place (g.least r f.is_there)) in
    one_passes (refused_here r.place) r s all (once r.place) f.is_there g.is_there
    (and_from _ _ (eq-eqb r.place.line r.place.line refl) (eq-eqb r.place.column r.place.column refl)) here

-- ---- one script
pub derives : (tokens : List Token) (tree : PlainTree) → parser.IsTree tokens tree → parser.Derives tokens tree
derives tokens tree h = let d = limits_levels tokens tree h.0 in (d.0, MOST_EXPRESSION_LEVELS, d.1)

module _ (bytes : List ℕ) where
  module _ (x y : List Text) (t u : PlainTree) where
    pub parsed_texts : IsParsed bytes x t → IsParsed bytes y u → x ≡ y
    parsed_texts p q = texts_once bytes p.tokens q.tokens x y p.spelled q.spelled

    pub parsed_tree : IsParsed bytes x t → IsParsed bytes y u → t ≡ u
    parsed_tree p q =
        let same = tokens_once bytes p.tokens q.tokens x y p.spelled q.spelled in
        one_tree q.tokens t u (subst (λ ts. parser.Derives ts t) same (derives p.tokens t p.derived)) (derives q.tokens u q.derived)

  pub read_texts : (x y : List Text) (t u : PlainTree) → IsRead bytes x t → IsRead bytes y u → x ≡ y
  read_texts x y t u p q = parsed_texts x y t u p.parsed q.parsed

  pub read_tree : (x y : List Text) (t u : PlainTree) → IsRead bytes x t → IsRead bytes y u → t ≡ u
  read_tree x y t u p q = parsed_tree x y t u p.parsed q.parsed

  pub parsed_names : (x : List Text) (t : PlainTree) → IsParsed bytes x t → NamesInOrder t
  parsed_names x t p = names_in_order p.tokens t (tokens_in_order bytes p.tokens x p.spelled) (derives p.tokens t p.derived)

  pub parsed_lines : (x : List Text) (t : PlainTree) → IsParsed bytes x t → LinesInOrder t
  parsed_lines x t p = lines_in_order p.tokens t (tokens_on_lines bytes p.tokens x p.spelled) (derives p.tokens t p.derived)

  -- ---- one refusal
  spelled_not_refused : (ts us : List Token) (x y : List Text) (t : PlainTree) (r : Refusal) → Spells bytes ts x → parser.IsTree ts t
      → Spells bytes us y → parser.IsRefusal us r → ⊥
  spelled_not_refused ts us x y t r s h s' k =
      tree_or_refusal us t r (subst (λ l. parser.IsTree l t) (tokens_once bytes ts us x y s s') h) k

  parsed_not_refused : (x : List Text) (t : PlainTree) (r : Refusal) → IsParsed bytes x t → TokensRefused bytes r → ⊥
  parsed_not_refused x t r p k = spelled_not_refused p.tokens k.tokens x k.texts t r p.spelled p.derived k.spelled k.refused

  tokens_refused_once : (r s : Refusal) → TokensRefused bytes r → TokensRefused bytes s → r ≡ s
  tokens_refused_once r s h k =
      let same = tokens_once bytes h.tokens k.tokens h.texts k.texts h.spelled k.spelled in
      one_refusal k.tokens r s (subst (λ l. parser.IsRefusal l r) same h.refused) k.refused

  names_refused_once : (r s : Refusal) → NamesRefused bytes r → NamesRefused bytes s → r ≡ s
  names_refused_once r s h k =
      let texts = parsed_texts h.texts k.texts h.tree k.tree h.parsed k.parsed in
      let trees = parsed_tree h.texts k.texts h.tree k.tree h.parsed k.parsed in
      let there : IsFirstOf (refusals k.texts k.tree) r =
      subst (λ t. IsFirstOf (refusals k.texts t) r) trees (subst (λ x. IsFirstOf (refusals x h.tree) r) texts h.refused) in
      let order = parsed_names k.texts k.tree k.parsed in
      first_once (refusals k.texts k.tree) r s
      (λ place. let le = refused_names place k.texts k.tree in let one = order.once place in omega arith) there k.refused

  pub refused_once : (r s : Refusal) → IsFirstRefusal bytes r → IsFirstRefusal bytes s → r ≡ s
  refused_once r s (inl h) (inl k) = refusal_once bytes r s h k
  refused_once r s (inl h) (inr (inl k)) = absurd (never_both bytes k.tokens k.texts r k.spelled h)
  refused_once r s (inl h) (inr (inr k)) = absurd (let p = k.parsed in never_both bytes p.tokens k.texts r p.spelled h)
  refused_once r s (inr (inl h)) (inl k) = absurd (never_both bytes h.tokens h.texts s h.spelled k)
  refused_once r s (inr (inl h)) (inr (inl k)) = tokens_refused_once r s h k
  refused_once r s (inr (inl h)) (inr (inr k)) = absurd (parsed_not_refused k.texts k.tree r k.parsed h)
  refused_once r s (inr (inr h)) (inl k) = absurd (let p = h.parsed in never_both bytes p.tokens h.texts s p.spelled k)
  refused_once r s (inr (inr h)) (inr (inl k)) = absurd (parsed_not_refused h.texts h.tree s h.parsed k)
  refused_once r s (inr (inr h)) (inr (inr k)) = names_refused_once r s h k

  none_there : (x y : List Text) (t u : PlainTree) (r : Refusal) → x ≡ y → t ≡ u → Resolves x t → Member r (refusals y u) → ⊥
  none_there x y t u r a b e m = subst (Member r) (ap (λ z. refusals z u) (sym a) ∙ ap (refusals x) (sym b) ∙ e) m

  pub read_not_refused : (x : List Text) (t : PlainTree) (r : Refusal) → IsRead bytes x t → IsFirstRefusal bytes r → ⊥
  read_not_refused x t r h (inl k) = let p = h.parsed in never_both bytes p.tokens x r p.spelled k
  read_not_refused x t r h (inr (inl k)) = parsed_not_refused x t r h.parsed k
  read_not_refused x t r h (inr (inr k)) =
      let p = h.parsed in
      let q = k.parsed in
      none_there x k.texts t k.tree r (parsed_texts x k.texts t k.tree p q) (parsed_tree x k.texts t k.tree p q) h.resolves
      (k.refused).is_there

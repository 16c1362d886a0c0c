-- The laws of trees and refusals, proved: one tree, one refusal, never both, and which forms are one.
use Rattle.std.proofs.Common.{◌≡◌, ℕ, List, [], ◌∷◌, ◌++◌, Some, None, Bool, true, false, refl, sym, ap, ◌∙◌, subst, append-nil, append_assoc, ◌⊎◌, inl, inr}
use Rattle.std.specs.Prelude.{if◌then◌else◌}
use Rattle.lf_base.specs.declared.limits.TheConstants.{MOST_EXPRESSION_LEVELS}
use Rattle.lf_parser.specs.Kinds.{is, ELIF}
use Rattle.lf_base.specs.declared.ids.TextId.{TextId}
use Rattle.lf_base.specs.declared.refusals.Refusal.{Refusal}
use Rattle.lf_base.specs.declared.refusals.RefusalKind.{RefusalKind}
use Rattle.lf_base.specs.declared.refusals.RefusalKind.TheVariants as kind
use Rattle.lf_lexer.specs.declared.tokens.Token.{Token}
use Rattle.lf_lexer.specs.declared.tokens.Lexeme.TheVariants as lexeme
use Rattle.lf_lexer.specs.declared.tokens.Mark.TheVariants as mark
use Rattle.lf_parser.specs.Forms.{HasPrefix, done}
use Rattle.lf_parser.specs.Words.{mark_of, name_at, literal}
use Rattle.lf_parser.specs.Plain.{PlainExpr, PlainArm, PlainStmt, PlainTree}
use Rattle.lf_parser.specs.Plain as plain
use Rattle.lf_parser.specs.Grammar.{Deeper, within}
use Rattle.lf_parser.specs.Grammar as form
use Rattle.lf_parser.specs.Refusals.{AnyCount, WithinLimits, LinesFit, IsRefusal, Why}
use Rattle.lf_parser.specs.Laws.{OneTree, TreeOrRefusal, OneRefusal, FieldsByText, ElifAlone}
use Rattle.lf_parser.proofs.Refusals.ExactReading.{unique, limits_levels}
use Rattle.lf_parser.proofs.Refusals.LongLines.{fits_prefix}

pub one_tree : OneTree
one_tree = unique

-- a script within the limits isn't refused at any of its tokens
not_why : (k : RefusalKind) (xs : List Token) → HasPrefix WithinLimits xs → LinesFit xs → Why k xs → ⊥
not_why kind.Unexpected xs b l w = let h = limits_levels (xs ++ b.0) b.1 b.2 in w (b.0, b.1, (h.0, MOST_EXPRESSION_LEVELS, h.1))
not_why kind.TooDeepExpr xs b l w = w.1 (b.0, b.1, limits_levels (xs ++ b.0) b.1 b.2)
not_why kind.TooManyParts xs b l w = w.1 (b, l)
not_why _ xs b l w = absurd w

begins_front : (xs ys : List Token) → HasPrefix WithinLimits (xs ++ ys) → HasPrefix WithinLimits xs
begins_front xs ys b = (ys ++ b.0, b.1, subst (λ z. WithinLimits z b.1) (append_assoc xs ys b.0) b.2)

pub tree_or_refusal : TreeOrRefusal
tree_or_refusal ts t r w s =
    let whole : ts ≡ (s.before ++ s.token ∷ []) ++ s.after = s.split ∙ sym (append_assoc s.before (s.token ∷ []) s.after) in
    not_why r.kind (s.before ++ s.token ∷ []) (s.after, t, subst (λ z. WithinLimits z t) whole w.0) (fits_prefix ts (s.before ++ s.token ∷ []) s.after whole w.1) s.why

-- two ways to part one list: at the same place, or one before the other
abbrev Later : List Token → Token → List Token → Type 0
Later xs x ys = (zs : List Token) × (ys ≡ (xs ++ x ∷ []) ++ zs)

abbrev Parted : List Token → Token → List Token → Token → Type 0
Parted xs x ys y = ((xs ≡ ys) × (x ≡ y)) ⊎ (Later xs x ys ⊎ Later ys y xs)

one_more : (z : Token) (xs ys : List Token) (x y : Token) → Parted xs x ys y → Parted (z ∷ xs) x (z ∷ ys) y
one_more z xs ys x y (inl h) = inl (ap (λ l. z ∷ l) h.0, h.1)
one_more z xs ys x y (inr (inl h)) = inr (inl (h.0, ap (λ l. z ∷ l) h.1))
one_more z xs ys x y (inr (inr h)) = inr (inr (h.0, ap (λ l. z ∷ l) h.1))

parted : (xs ys us vs : List Token) (x y : Token) → xs ++ x ∷ us ≡ ys ++ y ∷ vs → Parted xs x ys y
parted [] [] us vs x y e = inl (refl, let k : x ≡ y = cc in k)
parted [] (z ∷ ys) us vs x y e = inr (inl (ys, let k : x ≡ z = cc in ap (λ a. a ∷ ys) (sym k)))
parted (z ∷ xs) [] us vs x y e = inr (inr (xs, let k : z ≡ y = cc in ap (λ a. a ∷ xs) k))
parted (z ∷ xs) (w ∷ ys) us vs x y e =
    let k : z ≡ w = cc in
    let h : xs ++ x ∷ us ≡ ys ++ y ∷ vs = cc in
    subst (λ a. Parted (z ∷ xs) x (a ∷ ys) y) k (one_more z xs ys x y (parted xs ys us vs x y h))

same_kind : (k j : RefusalKind) (xs : List Token) → Why k xs → Why j xs → k ≡ j
same_kind kind.Unexpected kind.Unexpected xs a b = refl
same_kind kind.Unexpected kind.TooDeepExpr xs a b = absurd (a b.0)
same_kind kind.Unexpected kind.TooManyParts xs a b = absurd (let h = b.0 in a (h.0, h.1, (h.2.0, MOST_EXPRESSION_LEVELS, h.2.1)))
same_kind kind.TooDeepExpr kind.Unexpected xs a b = absurd (b a.0)
same_kind kind.TooDeepExpr kind.TooDeepExpr xs a b = refl
same_kind kind.TooDeepExpr kind.TooManyParts xs a b = absurd (a.1 b.0)
same_kind kind.TooManyParts kind.Unexpected xs a b = absurd (let h = a.0 in b (h.0, h.1, (h.2.0, MOST_EXPRESSION_LEVELS, h.2.1)))
same_kind kind.TooManyParts kind.TooDeepExpr xs a b = absurd (b.1 a.0)
same_kind kind.TooManyParts kind.TooManyParts xs a b = refl
same_kind kind.Unexpected _ xs a b = absurd b
same_kind kind.TooDeepExpr _ xs a b = absurd b
same_kind kind.TooManyParts _ xs a b = absurd b
same_kind _ j xs a b = absurd a

same_refusal : (a b : Refusal) → a.kind ≡ b.kind → a.place ≡ b.place → a ≡ b
same_refusal a b k p = ap (λ z. record { kind = z; place = a.place }) k ∙ ap (λ z. record { kind = b.kind; place = z }) p

pub one_refusal : OneRefusal
one_refusal ts a b s t = by_parts (parted s.before t.before s.after t.after s.token t.token (sym s.split ∙ t.split))
  where
    never : (s t : (r : Refusal) × IsRefusal ts r) → Later (s.1).before (s.1).token (t.1).before → ⊥
    never s t l =
        let xs : List Token = (s.1).before ++ (s.1).token ∷ [] in
        let b = (t.1).begins in
        not_why (s.0).kind xs (begins_front xs l.0 (subst (HasPrefix WithinLimits) l.1 b.0)) (fits_prefix (t.1).before xs l.0 l.1 b.1) (s.1).why

    by_parts : Parted s.before s.token t.before t.token → a ≡ b
    by_parts (inl h) =
        same_refusal a b
        (same_kind a.kind b.kind (s.before ++ s.token ∷ []) s.why (subst (λ z. Why b.kind (z ++ s.token ∷ [])) (sym h.0) (subst (λ z. Why b.kind (t.before ++ z ∷ [])) (sym h.1) t.why)))
        (s.place_is ∙ ap (λ z. z.place) h.1 ∙ sym t.place_is)
    by_parts (inr (inl h)) = absurd (never (a, s) (b, t) h)
    by_parts (inr (inr h)) = absurd (never (b, t) (a, s) h)

-- a text alone is an expression
text_expr : (Room : ℕ → Type 0) (D : Deeper) (text : Token) (id : TextId) → text.lexeme ≡ lexeme.Text id → form.Expr Room D (text ∷ []) (plain.Text id)
text_expr Room D text id e =
    let v = plain.Text id in
    let ts : List Token = text ∷ [] in
    let atom : form.Atom Room D ts v = inr (inr (inr (text, refl, ap literal e))) in
    let unary : form.Unary Room D ts v = inr (inr (ts, [], v, refl, atom, done)) in
    let term : form.Term Room D ts v = (ts, [], v, refl, unary, done) in
    let sum : form.Sum Room D ts v = (ts, [], v, refl, term, done) in
    let cmp : form.Cmp Room D ts v = (ts, [], v, refl, sum, inr (refl, refl)) in
    let both : form.Both Room D ts v = (ts, [], v, refl, inr cmp, done) in
    (ts, [], v, refl, both, done)

pub fields_by_text : (levels : ℕ) (target : PlainExpr) (id : TextId) → FieldsByText levels target id
unfolding within
fields_by_text levels target id = record {
  by_name = λ dot name d n. inl (dot ∷ [], name ∷ [], dot, refl, (dot, refl, d), (name ∷ [], [], record { id = id; place = name.place }, refl, (name, refl, ap (λ l. name_at l name.place) n), (refl, refl)));
  by_text = λ opening text close o t c. inr (
    opening ∷ [],
    text ∷ close ∷ [],
    opening,
    refl,
    (tt, (opening, refl, o)),
    (text ∷ [], close ∷ [], plain.Text id, refl, text_expr AnyCount (within AnyCount levels) text id t, (close ∷ [], [], close, refl, (close, refl, c), (refl, refl))),
  );
}

-- a token is taken as it is
taken_whole : (t a : Token) → mark_of mark.Elif t ≡ Some a → t ≡ a
taken_whole t a e = by_test (is ELIF (Some t)) e
  where
    by_test : (b : Bool) → (if b then Some t else None) ≡ Some a → t ≡ a
    by_test true e = cc
    by_test false e = absurd (cc)

pub elif_alone : (elifs levels nest : ℕ) → ElifAlone elifs levels nest
elif_alone elifs levels nest = record {
  alone = λ more arm rest a other h k. inl (arm ++ rest, [], form.if_arm a other, sym (append-nil (arm ++ rest)), (arm, rest, a, refl, h, (rest, [], other, sym (append-nil rest), k, (refl, refl))), (refl, refl));
  own_line = λ arm a h. line_of arm a h;
}
  where
    line_of : (arm : List Token) (a : PlainArm) → form.AnArm AnyCount elifs levels (form.blocks AnyCount elifs levels nest) mark.Elif arm a → (word : Token) × (rest : List Token) × (arm ≡ word ∷ rest) × (a.line ≡ word.place.line)
    line_of arm a h =
        let w = h.4 in
        let same : w.0 ≡ h.2 = taken_whole w.0 h.2 w.2 in
        let e = h.5 in let b = e.5 in let g = b.5 in
        (w.0, h.1, h.3 ∙ ap (λ z. z ++ h.1) w.1, ap (λ z. z.line) g.1 ∙ ap (λ t. t.place.line) (sym same))

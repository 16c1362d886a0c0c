-- The names of a script's tree ascend as their tokens do.
use Rattle.std.proofs.Common.{◌≡◌, ℕ, ◌+◌, ◌-◌, ◌<◌, ◌≤◌, List, Some, true, refl, sym, ap, ◌∙◌, subst, arith, ◌⊎◌, inl, inr}
use Rattle.std.specs.Prelude.{eqb}
use Rattle.std.proofs.lemmas.Bool.Decides.{Decides-eqb}
use Rattle.lf_base.specs.declared.limits.TheConstants.{MOST_EXPRESSION_LEVELS}
use Rattle.lf_base.specs.declared.refusals.Place.{Place}
use Rattle.lf_base.specs.Sets.{Member}
use Rattle.lf_base.specs.Texts.{Text}
use Rattle.std.proofs.lemmas.Bool.{and_parts}
use Rattle.lf_base.proofs.NameLemmas.PairOrder.{is_pair_below, pair_below}
use Rattle.lf_lexer.specs.declared.tokens.Lexeme.{Lexeme}
use Rattle.lf_lexer.specs.declared.tokens.Lexeme.TheVariants as lexeme
use Rattle.lf_lexer.specs.declared.tokens.Token.{Token}
use Rattle.lf_lexer.specs.Layout.{has_bytes}
use Rattle.lf_lexer.specs.Order.{AtOrAfter, HasSpan, InTokenOrder}
use Rattle.lf_lexer.specs.Reading.{AreSpelled}
use Rattle.lf_lexer.proofs.TokenLaws.Orders.{tokens_in_order}
use Rattle.lf_parser.specs.declared.name.Name.{Name}
use Rattle.lf_parser.specs.Words.{name_at}
use Rattle.lf_parser.specs.Plain.{PlainTree}
use Rattle.lf_parser.specs.Grammar.{Items, no_items, with_function, with_stmt}
use Rattle.lf_parser.specs.Grammar as form
use Rattle.lf_parser.specs.Refusals.{AnyCount, Derives, IsTree}
use Rattle.lf_parser.specs.Ascending.{Ascending}
use Rattle.lf_parser.specs.TreeNames.{function_names, stmt_names, block_names, place_before, same_place, stands_before, stands_at, NamesInOrder}
use Rattle.lf_parser.proofs.Refusals.ExactReading.{limits_levels}
use Rattle.lf_parser.proofs.Order.NamesInTokenOrder.{Stand, nowhere, past, here}
use Rattle.lf_parser.proofs.Order.NamesInTokenOrder as standing
use Rattle.lf_parser.proofs.Order.FunctionsAndMain.{script_spread}
use Rattle.lf_parser.proofs.Order.MergedLists.{first_part, second_part, count_of_both, ascending_part, once_in, brought_part}
use Rattle.lf_parser.proofs.Order.StatementNamesInOrder.{stmts_names_last, blocks_add, stmt_adds, def_adds}

pub same_place_is : (a b : Place) → same_place a b ≡ true → (a.line ≡ b.line) × (a.column ≡ b.column)
same_place_is a b e = let p = and_parts (eqb a.line b.line) (eqb a.column b.column) e in ((Decides-eqb a.line b.line).0 p.0, (Decides-eqb a.column b.column).0 p.1)

-- names at one place don't stand before each other
apart : (place : Place) (x y : Name) → stands_at place x ≡ true → stands_at place y ≡ true → stands_before x y ≡ true → ⊥
apart place x y h k e =
    let a = same_place_is place x.place h in
    let b = same_place_is place y.place k in
    never (pair_below x.place.line y.place.line x.place.column y.place.column e) (sym a.0 ∙ b.0) (sym a.1 ∙ b.1)
  where
    never : (x.place.line < y.place.line) ⊎ ((x.place.line ≡ y.place.line) × (x.place.column < y.place.column)) → x.place.line ≡ y.place.line → x.place.column ≡ y.place.column → ⊥
    never (inl lt) l c = omega arith
    never (inr lt) l c = let k = lt.1 in omega arith

-- what is known of a token that is a name
named_place : (l : Lexeme) (place : Place) (x : Name) → name_at l place ≡ Some x → (x.place ≡ place) × (has_bytes l ≡ true)
named_place (lexeme.Name id) place x e = ((let k : record { id = id; place = place } ≡ x = cc in ap (λ n. n.place) (sym k)), refl)
named_place _ place x e = absurd (cc)

at_or_after : (l c m d : ℕ) (place : Place) → (l < m) ⊎ ((l ≡ m) × (c ≤ d)) → AtOrAfter m d place → AtOrAfter l c place
at_or_after l c m d place (inl h) (inl k) = inl (omega arith)
at_or_after l c m d place (inl h) (inr k) = inl (let e = k.0 in omega arith)
at_or_after l c m d place (inr h) (inl k) = inl (let e = h.0 in omega arith)
at_or_after l c m d place (inr h) (inr k) = inr ((let e = h.0 in let f = k.0 in omega arith), (let e = h.1 in let f = k.1 in omega arith))

-- names among tokens stand at or after the place from which on these are in order
at_least : {names : List Name} {tokens : List Token} → Stand names tokens → (l c b : ℕ) → InTokenOrder l c b tokens → (y : Name) → Member y names → AtOrAfter l c y.place
at_least nowhere l c b o y m = absurd m
at_least (past {names} {t} {tokens} s) l c b o y m =
    let f = o.0 in
    at_or_after l c t.place.line t.place.column y.place f.place
    (at_or_after t.place.line t.place.column t.place.line (t.place.column + (t.end - t.start)) y.place (inr (refl, omega arith)) (at_least s _ _ _ o.1 y m))
at_least (here {name} {names} {t} {tokens} e s) l c b o y (inl same) =
    let f = o.0 in subst (AtOrAfter l c) (sym (named_place t.lexeme t.place name e).0 ∙ ap (λ n. n.place) same) f.place
at_least (here {name} {names} {t} {tokens} e s) l c b o y (inr m) =
    let f = o.0 in
    at_or_after l c t.place.line t.place.column y.place f.place
    (at_or_after t.place.line t.place.column t.place.line (t.place.column + (t.end - t.start)) y.place (inr (refl, omega arith)) (at_least s _ _ _ o.1 y m))

after_place : (t : Token) (place : Place) → t.start < t.end → AtOrAfter t.place.line (t.place.column + (t.end - t.start)) place → place_before t.place place ≡ true
after_place t place lt (inl h) = is_pair_below t.place.line place.line t.place.column place.column (inl h)
after_place t place lt (inr h) = is_pair_below t.place.line place.line t.place.column place.column (inr (h.0, (let k = h.1 in omega arith)))

pub names_ascend : {names : List Name} {tokens : List Token} → Stand names tokens → (l c b : ℕ) → InTokenOrder l c b tokens → Ascending stands_before names
names_ascend nowhere l c b o = tt
names_ascend (past s) l c b o = names_ascend s _ _ _ o.1
names_ascend (here {name} {names} {t} {tokens} e s) l c b o =
    let f = o.0 in
    let n = named_place t.lexeme t.place name e in
    let span : t.start < t.end = subst (λ has. HasSpan has t) n.1 f.span in
    ((λ y m. ap (λ p. place_before p y.place) n.0 ∙ after_place t y.place span (at_least s _ _ _ o.1 y m)), names_ascend s _ _ _ o.1)

pub names_in_order : (tokens : List Token) (tree : PlainTree) → InTokenOrder 1 1 0 tokens → Derives tokens tree → NamesInOrder tree
names_in_order tokens tree o d =
    let h = d.2 in
    let s = script_spread standing.names_among tt function_names stmt_names block_names stmts_names_last AnyCount d.0 d.1 h.0 (def_adds AnyCount d.0 d.1 h.0)
    (stmt_adds AnyCount d.0 d.1 (form.blocks AnyCount d.0 d.1 h.0) (blocks_add AnyCount d.0 d.1 h.0)) refl tokens tree h.1 in
    let rise = names_ascend s.stand 1 1 0 o in
    let of_functions = ascending_part stands_before (first_part s.merged) rise in
    record {
      main = ascending_part stands_before (second_part s.merged) rise;
      functions = of_functions;
      each = λ f m. ascending_part stands_before (brought_part function_names f tree.functions m) of_functions;
      once = λ place. subst (λ n. n ≤ 1) (sym (count_of_both (stands_at place) s.merged)) (once_in stands_before (stands_at place) (apart place) s.items rise);
    }

-- what `parse` answers for a script's tokens
pub read_names_in_order : (tokens : List Token) (texts : List Text) (tree : PlainTree) → AreSpelled tokens texts → IsTree tokens tree → NamesInOrder tree
read_names_in_order tokens texts tree s h = let d = limits_levels tokens tree h.0 in names_in_order tokens tree (tokens_in_order s.bytes tokens texts s.spelled) (d.0, MOST_EXPRESSION_LEVELS, d.1)

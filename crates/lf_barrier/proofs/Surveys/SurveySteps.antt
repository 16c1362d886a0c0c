-- A survey of one more object, and of more objects one after the other.
use Rattle.std.proofs.Common.{Bool, List, None, Option, Some, [], ap, arith, cond, false, flat_map, inl, inr, length, refl, subst, sym, true, ℕ, ◌&&◌, ◌+◌, ◌++◌, ◌<◌, ◌||◌, ◌∙◌, ◌∷◌, ◌≡◌, ◌≤◌, ◌⊎◌}
use Rattle.std.proofs.lemmas.Bool.{and_parts, or_cases, or_parts}
use Rattle.std.proofs.lemmas.Grind.{flat_map-append}
use Rattle.std.proofs.lemmas.List.{append-nil, append_assoc}
use Rattle.std.proofs.lemmas.List.Folds.{list_any-append}
use Rattle.std.proofs.Math.Bool.{or-false, or-true}
use Rattle.std.specs.List.{list_any}
use Rattle.lf_base.specs.declared.ids.ObjId.{ObjId}
use Rattle.lf_base.specs.declared.values.Key.{Key}
use Rattle.lf_base.specs.declared.values.Value.{Value}
use Rattle.lf_base.specs.Edges.{field_targets}
use Rattle.lf_base.specs.FieldOrder.{field_after}
use Rattle.lf_base.specs.Links.{head_or}
use Rattle.lf_base.specs.Names.{same_name, targets_of_value}
use Rattle.lf_base.specs.Owners.{has_name, is_local_at}
use Rattle.lf_base.specs.Sets.{Differ}
use Rattle.lf_base.specs.TouchedEdges.{is_inside_other}
use Rattle.lf_base.proofs.ListLemmas.Sublists.{differ_push}
use Rattle.lf_base.proofs.NameLemmas.SameNames.{same_name_flips, same_name_is, same_name_itself}
use Rattle.lf_graph.specs.StoredRows.{CountedRow, owner_at}
use Rattle.lf_graph.proofs.Stores.FieldWalks.{FieldKeysDiffer}
use Rattle.lf_laws.proofs.Edges.EdgeParts.{any_some, count_app, some_any}
use Rattle.lf_regions.specs.declared.region.Region.{Region}
use Rattle.lf_barrier.proofs.MovingEdges.FieldLoops.{FieldWalk, walk_begins, walk_goes_on, walk_over}
use Rattle.lf_barrier.specs.declared.survey.Survey.{Survey}
use Rattle.lf_barrier.specs.Surveys.{Extends, IsSurvey, Visits, is_other_bridge, is_owned_besides, names_with, visits_of}

any_more_one : {X : Type 0} (p : X → Bool) (xs : List X) (x : X) → list_any p (xs ++ x ∷ []) ≡ (list_any p xs || p x)
any_more_one p xs x = list_any-append p xs (x ∷ []) ∙ ap (λ b. list_any p xs || b) (or-false (p x))

has_more_one : (os : List ObjId) (o q : ObjId) → has_name (os ++ o ∷ []) q ≡ (has_name os q || same_name o q)
has_more_one os o q = any_more_one (λ p. same_name p q) os o

-- one more name, or none
has_with : (os : List ObjId) (o q : ObjId) → has_name (names_with os o) q ≡ (has_name os q || same_name o q)
has_with os o q =
    elim (has_name os o) as (λ b. has_name os o ≡ b → has_name (cond b os (os ++ o ∷ [])) q ≡ (has_name os q || same_name o q)) [
      | true ↦ λ h. elim (same_name o q) as (λ b. same_name o q ≡ b → has_name os q ≡ (has_name os q || b)) [
        | true ↦ λ t. ap (has_name os) (sym (same_name_is o q t)) ∙ h ∙ sym (or-true (has_name os q))
        | false ↦ λ t. sym (or-false (has_name os q))
      ] refl
      | false ↦ λ h. has_more_one os o q
    ] refl

differ_with : (os : List ObjId) (o : ObjId) → Differ same_name os → Differ same_name (names_with os o)
differ_with os o d =
    elim (has_name os o) as (λ b. has_name os o ≡ b → Differ same_name (cond b os (os ++ o ∷ []))) [
      | true ↦ λ h. d
      | false ↦ λ h. differ_push same_name os o d (flip_any os ∙ h)
    ] refl where
      flip_any : (xs : List ObjId) → list_any (same_name o) xs ≡ list_any (λ p. same_name p o) xs
      flip_any [] = refl
      flip_any (x ∷ xs) = λ i. same_name_flips o x i || flip_any xs i

-- by whether the object passes a test
pub has_if : (b : Bool) (os : List ObjId) (o q : ObjId) → has_name (cond b (names_with os o) os) q ≡ (has_name os q || (b && same_name o q))
has_if true os o q = has_with os o q
has_if false os o q = sym (or-false (has_name os q))

pub grows_if : (b : Bool) (os : List ObjId) (o : ObjId) → (more : List ObjId) × (cond b (names_with os o) os ≡ os ++ more)
grows_if true os o = elim (has_name os o) as (λ b. (more : List ObjId) × (cond b os (os ++ o ∷ []) ≡ os ++ more)) [ true ↦ ([], sym (append-nil os)) | false ↦ (o ∷ [], refl) ]
grows_if false os o = ([], sym (append-nil os))

pub zero_if_not_positive : (n : ℕ) → (0 < n → ⊥) → n ≡ 0
zero_if_not_positive n f = grind (arith, f)

count_more_one : (seen : List ObjId) (o b : ObjId) → visits_of (seen ++ o ∷ []) b ≡ visits_of seen b + cond (same_name o b) 1 0
count_more_one seen o b = count_app (λ p. same_name p b) seen (o ∷ []) ∙ (elim (same_name o b) as (λ c. visits_of seen b + (0 + cond c 1 0) ≡ visits_of seen b + cond c 1 0) [ true ↦ omega arith | false ↦ omega arith ])

pub flat_more : {X Y : Type 0} (f : X → List Y) (xs : List X) (x : X) → flat_map f (xs ++ x ∷ []) ≡ flat_map f xs ++ f x
flat_more f xs x = flat_map-append f xs (x ∷ []) ∙ ap (λ l. flat_map f xs ++ l) (append-nil (f x))

pub targets_more : (fs : List (Key × Value)) (f : Key × Value) → field_targets (fs ++ f ∷ []) ≡ field_targets fs ++ targets_of_value f.1
targets_more fs f = flat_more (λ (g : Key × Value). targets_of_value g.1) fs f

module _ (rows : List CountedRow) (regions : List Region) (home : ObjId) (old : Option ObjId) where
  abbrev other : ObjId → Bool
  other p = is_other_bridge home p (owner_at rows p)

  -- a bridge of another region was visited where it was touched
  pub touched_is : (seen : List ObjId) (b : ObjId) → other b ≡ true → list_any (λ p. other p && same_name p b) seen ≡ list_any (λ p. same_name p b) seen
  touched_is [] b h = refl
  touched_is (p ∷ ps) b h = λ i. one p i || touched_is ps b h i where
    one : (p : ObjId) → (other p && same_name p b) ≡ same_name p b
    one p = elim (same_name p b) as (λ c. same_name p b ≡ c → (other p && c) ≡ c) [
      | true ↦ λ t. ap (λ c. c && true) (ap other (same_name_is p b t) ∙ h)
      | false ↦ λ t. elim (other p) as (λ c. (c && false) ≡ false) [ true ↦ refl | false ↦ refl ]
    ] refl

  visited_if : (seen : List ObjId) (b : ObjId) → list_any (λ p. same_name p b) seen ≡ true → 0 < visits_of seen b
  visited_if seen b h = some_any (λ p. same_name p b) seen h

  not_visited : (seen : List ObjId) (b : ObjId) → list_any (λ p. same_name p b) seen ≡ false → visits_of seen b ≡ 0
  not_visited seen b h = zero_if_not_positive (visits_of seen b) (λ m. let z : true ≡ false = sym (any_some (λ p. same_name p b) seen m) ∙ h in cc)

  module _ (seen : List ObjId) (o : ObjId) (before after : Survey) (is : IsSurvey rows regions home old seen before) (v : Visits rows regions home old o before after) where
    -- whether the object was visited as such a bridge before
    was_there : other o ≡ true → has_name (before.touched).keys o ≡ list_any (λ p. same_name p o) seen
    was_there h = is.touches o ∙ touched_is seen o h

    once_more : after.second ≡ false → (b : ObjId) → other b ≡ true → (visits_of (seen ++ o ∷ []) b ≤ 1) × (0 < visits_of (seen ++ o ∷ []) b → is_owned_besides regions old b ≡ false)
    once_more none b h =
        let parts = or_parts before.second (other o && (has_name (before.touched).keys o || is_owned_besides regions old o)) (sym v.is_second ∙ none) in
        let first = is.once parts.0 b h in
        elim (same_name o b) as (λ c. same_name o b ≡ c → (visits_of (seen ++ o ∷ []) b ≤ 1) × (0 < visits_of (seen ++ o ∷ []) b → is_owned_besides regions old b ≡ false)) [
          | true ↦ λ t.
              let same : o ≡ b = same_name_is o b t in
              let o_other : other o ≡ true = ap other same ∙ h in
              let two = or_parts (has_name (before.touched).keys o) (is_owned_besides regions old o) (ap (λ c. c && (has_name (before.touched).keys o || is_owned_besides regions old o)) (sym o_other) ∙ parts.1) in
              let zero_before : visits_of seen b ≡ 0 = subst (λ q. visits_of seen q ≡ 0) same (not_visited seen o (sym (was_there o_other) ∙ two.0)) in
              (omega (arith, zero_before, count_more_one seen o b, ap {B = ℕ} (λ c. cond c 1 0) t), λ m. ap (is_owned_besides regions old) (sym same) ∙ two.1)
          | false ↦ λ t.
              let count : visits_of (seen ++ o ∷ []) b ≡ visits_of seen b = omega (arith, count_more_one seen o b, ap {B = ℕ} (λ c. cond c 1 0) t) in
              (omega (arith, count, first.0), λ m. first.1 (omega (arith, count, m)))
        ] refl

    abbrev Twice : List ObjId → Type 0
    Twice list = (b : ObjId) × ((other b ≡ true) × ((1 < visits_of list b) ⊎ ((0 < visits_of list b) × (is_owned_besides regions old b ≡ true))))

    still_twice : Twice seen → Twice (seen ++ o ∷ [])
    still_twice t = (
      t.0,
      (
        t.1.0,
        elim (t.1.1) as (λ _. (1 < visits_of (seen ++ o ∷ []) t.0) ⊎ ((0 < visits_of (seen ++ o ∷ []) t.0) × (is_owned_besides regions old t.0 ≡ true))) [
          | inl m ↦ inl (omega (arith, m, count_more_one seen o t.0))
          | inr m ↦ inr (omega (arith, m.0, count_more_one seen o t.0), m.1)
        ],
      ),
    )

    itself : visits_of (seen ++ o ∷ []) o ≡ visits_of seen o + 1
    itself = count_more_one seen o o ∙ ap {B = ℕ} (λ c. visits_of seen o + cond c 1 0) (same_name_itself o)

    twice_now : (other o && (has_name (before.touched).keys o || is_owned_besides regions old o)) ≡ true → Twice (seen ++ o ∷ [])
    twice_now h =
        let parts = and_parts (other o) (has_name (before.touched).keys o || is_owned_besides regions old o) h in (
          o,
          (
            parts.0,
            elim (or_cases (has_name (before.touched).keys o) (is_owned_besides regions old o) parts.1) as (λ _. (1 < visits_of (seen ++ o ∷ []) o) ⊎ ((0 < visits_of (seen ++ o ∷ []) o) × (is_owned_besides regions old o ≡ true))) [
              | inl t ↦ inl (omega (arith, itself, visited_if seen o (sym (was_there parts.0) ∙ t)))
              | inr t ↦ inr (omega (arith, itself), t)
            ],
          ),
        )

    pub one_more : IsSurvey rows regions home old (seen ++ o ∷ []) after
    one_more = record {
      moves = λ q. ap (λ l. has_name l q) v.moved ∙ has_if (is_local_at (owner_at rows o)) (before.moved).keys o q ∙ ap (λ b. b || (is_local_at (owner_at rows o) && same_name o q)) (is.moves q)
          ∙ sym (any_more_one (λ p. is_local_at (owner_at rows p) && same_name p q) seen o);
      differ = subst (Differ same_name) (sym v.moved) (elim (is_local_at (owner_at rows o)) as (λ b. Differ same_name (cond b (names_with (before.moved).keys o) (before.moved).keys)) [ true ↦ differ_with (before.moved).keys o is.differ | false ↦ is.differ ]);
      touches = λ q. ap (λ l. has_name l q) v.touched ∙ has_if (other o) (before.touched).keys o q ∙ ap (λ b. b || (other o && same_name o q)) (is.touches q)
          ∙ sym (any_more_one (λ p. other p && same_name p q) seen o);
      is_inside = v.is_inside ∙ ap (λ b. b || is_inside_other home o (owner_at rows o)) is.is_inside ∙ sym (any_more_one (λ p. is_inside_other home p (owner_at rows p)) seen o);
      once = once_more;
      twice = λ h. elim (or_cases before.second (other o && (has_name (before.touched).keys o || is_owned_besides regions old o)) (sym v.is_second ∙ h)) as (λ _. Twice (seen ++ o ∷ [])) [
        | inl t ↦ still_twice (is.twice t)
        | inr t ↦ twice_now t
      ];
    }

  pub extends_one : (o : ObjId) (before after : Survey) → Visits rows regions home old o before after → Extends rows regions home old (o ∷ []) before after
  extends_one o before after v =
      let g = grows_if (is_local_at (owner_at rows o)) (before.moved).keys o in
      record { survey = λ seen is. one_more seen o before after is v; more = g.0; grows = v.moved ∙ g.1 }

  pub extends_none : (before : Survey) → Extends rows regions home old [] before before
  extends_none before = record {
    survey = λ seen is. subst (λ l. IsSurvey rows regions home old l before) (sym (append-nil seen)) is;
    more = [];
    grows = sym (append-nil (before.moved).keys);
  }

  pub extends_on : (os ps : List ObjId) (a b c : Survey) → Extends rows regions home old os a b → Extends rows regions home old ps b c → Extends rows regions home old (os ++ ps) a c
  extends_on os ps a b c e f = record {
    survey = λ seen is. subst (λ l. IsSurvey rows regions home old l c) (append_assoc seen os ps) (f.survey (seen ++ os) (e.survey seen is));
    more = e.more ++ f.more;
    grows = f.grows ∙ ap (λ l. l ++ f.more) e.grows ∙ append_assoc (a.moved).keys e.more f.more;
  }

  -- ---- the fields of a row
  pub record RowVisited (all : List (Key × Value)) (last : Option Key) (turn : ℕ) (before after : Survey) : Type 0 where
    pub rest : List (Key × Value)
    pub walk : FieldWalk all rest last turn
    pub extends : Extends rows regions home old (field_targets walk.so_far) before after

  pub row_begins : (all : List (Key × Value)) (before : Survey) → RowVisited all None 0 before before
  row_begins all before = record { rest = all; walk = walk_begins all; extends = extends_none before }

  pub row_goes_on : (all : List (Key × Value)) (last : Option Key) (turn : ℕ) (before now after : Survey) (k : Key) (v : Value) → FieldKeysDiffer all → RowVisited all last turn before now
      → Some (k, v) ≡ field_after all last → Extends rows regions home old (targets_of_value v) now after → RowVisited all (Some k) (turn + 1) before after
  row_goes_on all last turn before now after k v d r found e = go r.rest r.walk r.extends (found ∙ (r.walk).next) where
    go : (rest : List (Key × Value)) (walk : FieldWalk all rest last turn) → Extends rows regions home old (field_targets walk.so_far) before now → Some (k, v) ≡ head_or rest None → RowVisited all (Some k) (turn + 1) before after
    go [] walk so_far found = absurd (cc)
    go (f ∷ fs) walk so_far found =
        let same : f ≡ (k, v) = cc in
        subst (λ h. RowVisited all (Some h.0) (turn + 1) before after) same (record {
          rest = fs;
          walk = walk_goes_on all fs f last turn d walk;
          extends = subst (λ l. Extends rows regions home old l before after) (sym (targets_more walk.so_far f))
              (extends_on (field_targets walk.so_far) (targets_of_value f.1) before now after so_far (subst (λ (h : Key × Value). Extends rows regions home old (targets_of_value h.1) now after) (sym same) e));
        })

  pub row_visited : (all : List (Key × Value)) (last : Option Key) (turn : ℕ) (before after : Survey) → RowVisited all last turn before after → length all ≤ turn → Extends rows regions home old (field_targets all) before after
  row_visited all last turn before after r most =
      let none : r.rest ≡ [] = walk_over all r.rest last turn r.walk most in
      subst (λ l. Extends rows regions home old (field_targets l) before after) (sym ((r.walk).split ∙ ap (λ l. (r.walk).so_far ++ l) none ∙ append-nil (r.walk).so_far)) r.extends

-- A walk over a row's fields, each of which is shut when the walk comes to it.
use Rattle.std.proofs.Common.{Bool, List, None, Option, Some, [], ap, arith, cond, false, inl, inr, length, map, refl, subst, sym, true, ℕ, ◌+◌, ◌++◌, ◌<◌, ◌∙◌, ◌∷◌, ◌≡◌, ◌≤◌}
use Rattle.std.proofs.lemmas.List.{append-nil, append_assoc, length-append}
use Rattle.lf_base.specs.declared.values.Key.{Key}
use Rattle.lf_base.specs.declared.values.Value.{Value}
use Rattle.lf_base.specs.declared.values.Value.TheVariants as value
use Rattle.lf_base.specs.FieldOrder.{field_after, field_past}
use Rattle.lf_base.specs.Links.{head_or}
use Rattle.lf_base.specs.Names.{same_key}
use Rattle.lf_base.specs.TakeResult.{field_at}
use Rattle.lf_base.specs.WriteResult.{put_field}
use Rattle.lf_base.proofs.ListLemmas.Members.{Member_map, Member_of_append, Member_right}
use Rattle.lf_base.proofs.ListLemmas.Tests.{by_test, none_any}
use Rattle.lf_base.proofs.NameLemmas.SameNames.{other_key, same_key_itself}
use Rattle.lf_barrier.proofs.MovingEdges.FieldLoops.{head_is}
use Rattle.lf_graph.proofs.Stores.FieldWalks.{FieldKeysDiffer, after_field}
use Rattle.lf_transfer.specs.Closing.{AreFieldsShut, shut_field_at, shut_value}

abbrev Fields : Type 0
Fields = List (Key × Value)

-- the fields so far are shut, of which that key is the last one's and which are so many; and those are left
pub record ShutWalk (leads : Value → Bool) (all : Fields) (last : Option Key) (turn : ℕ) : Type 0 where
  pub so_far : Fields
  pub rest : Fields
  pub split : all ≡ so_far ++ rest
  pub next : (xs : Fields) → FieldKeysDiffer (so_far ++ xs) → field_after (so_far ++ xs) last ≡ head_or xs None
  pub count : length so_far ≡ turn
  pub shut : AreFieldsShut leads so_far

-- ---- the field of a key that stands once
module _ (k : Key) (later : Fields) where
  key_apart : (f : Key × Value) (before : Fields) (v : Value) → FieldKeysDiffer (f ∷ (before ++ (k, v) ∷ later)) → same_key f.0 k ≡ false
  key_apart f before v d = other_key k f.0 (none_any (λ (j : Key). same_key j f.0) (map (λ f. f.0) (before ++ (k, v) ∷ later)) d.0 k
      (Member_map (λ (g : Key × Value). g.0) (k, v) (before ++ (k, v) ∷ later) (Member_right (k, v) before ((k, v) ∷ later) (inl refl))))

  pub found_there : (before : Fields) (v : Value) → FieldKeysDiffer (before ++ (k, v) ∷ later) → field_at (before ++ (k, v) ∷ later) k ≡ Some v
  found_there [] v d = ap (λ b. cond b (Some v) (field_at later k)) (same_key_itself k)
  found_there (f ∷ fs) v d = ap (λ b. cond b (Some f.1) (field_at (fs ++ (k, v) ∷ later) k)) (key_apart f fs v d) ∙ found_there fs v d.1

  put_there : (before : Fields) (v w : Value) → FieldKeysDiffer (before ++ (k, v) ∷ later) → put_field (before ++ (k, v) ∷ later) k w ≡ before ++ (k, w) ∷ later
  put_there [] v w d = ap (λ b. cond b ((k, w) ∷ later) ((k, v) ∷ put_field later k w)) (same_key_itself k)
  put_there (f ∷ fs) v w d =
      ap (λ b. cond b ((k, w) ∷ (fs ++ (k, v) ∷ later)) (f ∷ put_field (fs ++ (k, v) ∷ later) k w)) (key_apart f fs v d)
      ∙ ap (λ l. f ∷ l) (put_there fs v w d.1)

module _ (leads : Value → Bool) where
  pub shut_walk_begins : (all : Fields) → ShutWalk leads all None 0
  shut_walk_begins all = record {
    so_far = [];
    rest = all;
    split = refl;
    next = λ xs d. refl;
    count = refl;
    shut = λ f m. absurd m;
  }

  module _ (all : Fields) (last : Option Key) (turn : ℕ) (walk : ShutWalk leads all last turn) (differ : FieldKeysDiffer all) where
    next_found : field_after all last ≡ head_or walk.rest None
    next_found = ap (λ l. field_after l last) walk.split ∙ walk.next walk.rest (subst FieldKeysDiffer walk.split differ)

    -- the walk isn't over before its turns are
    pub shut_not_over : None ≡ field_after all last → turn < length all → ⊥
    shut_not_over none less = go walk.rest refl where
      go : (rest : Fields) → walk.rest ≡ rest → ⊥
      go [] e = omega (arith, less, walk.count, ap length walk.split ∙ length-append walk.so_far walk.rest, ap length e)
      go (f ∷ fs) e = let z : None ≡ Some f = none ∙ next_found ∙ ap (λ l. head_or l None) e in cc

    pub shut_all : length all ≤ turn → AreFieldsShut leads all
    shut_all most = subst (AreFieldsShut leads) (sym (walk.split ∙ ap (λ l. walk.so_far ++ l) (none_left walk.rest refl) ∙ append-nil walk.so_far)) walk.shut where
      none_left : (rest : Fields) → walk.rest ≡ rest → walk.rest ≡ []
      none_left [] e = e
      none_left (f ∷ fs) e = absurd (omega (arith, most, walk.count, ap length walk.split ∙ length-append walk.so_far walk.rest, ap length e))

    module _ (k : Key) (v : Value) (found : Some (k, v) ≡ field_after all last) where
      here : (later : Fields) × (walk.rest ≡ (k, v) ∷ later)
      here = head_is walk.rest (k, v) (found ∙ next_found)

      split_here : all ≡ walk.so_far ++ (k, v) ∷ here.0
      split_here = walk.split ∙ ap (λ l. walk.so_far ++ l) here.1

      differ_here : FieldKeysDiffer (walk.so_far ++ (k, v) ∷ here.0)
      differ_here = subst FieldKeysDiffer split_here differ

      pub field_is_there : field_at all k ≡ Some v
      field_is_there = ap (λ l. field_at l k) split_here ∙ found_there k here.0 walk.so_far v differ_here

      shut_at_seam : shut_field_at leads all k v ≡ walk.so_far ++ (k, shut_value leads v) ∷ here.0
      shut_at_seam = elim (leads v) as (λ b. cond b (put_field all k value.None) all ≡ walk.so_far ++ (k, cond b value.None v) ∷ here.0) [
        | true ↦ ap (λ l. put_field l k value.None) split_here ∙ put_there k here.0 walk.so_far v value.None differ_here
        | false ↦ split_here
      ]

      pub same_width : length (shut_field_at leads all k v) ≡ length all
      same_width = omega (
        arith,
        ap length shut_at_seam ∙ length-append walk.so_far ((k, shut_value leads v) ∷ here.0),
        ap length split_here ∙ length-append walk.so_far ((k, v) ∷ here.0),
      )

      module _ (none : leads value.None ≡ false) where
        now_shut : leads (shut_value leads v) ≡ false
        now_shut = by_test (leads v) (λ e. ap (λ b. leads (cond b value.None v)) e ∙ none) (λ e. ap (λ b. leads (cond b value.None v)) e ∙ e)

        pub shut_walk_on : ShutWalk leads (shut_field_at leads all k v) (Some k) (turn + 1)
        shut_walk_on = record {
          so_far = walk.so_far ++ (k, shut_value leads v) ∷ [];
          rest = here.0;
          split = shut_at_seam ∙ sym (append_assoc walk.so_far ((k, shut_value leads v) ∷ []) here.0);
          next = λ xs d.
              let is : (walk.so_far ++ (k, shut_value leads v) ∷ []) ++ xs ≡ walk.so_far ++ (k, shut_value leads v) ∷ xs = append_assoc walk.so_far ((k, shut_value leads v) ∷ []) xs in
              ap (λ l. field_past l k) is ∙ after_field walk.so_far xs (k, shut_value leads v) (subst FieldKeysDiffer is d);
          count = length-append walk.so_far ((k, shut_value leads v) ∷ []) ∙ ap (λ n. n + 1) walk.count;
          shut = λ f m. elim (Member_of_append f walk.so_far ((k, shut_value leads v) ∷ []) m) [
            | inl h ↦ walk.shut f h
            | inr (inl e) ↦ ap (λ (g : Key × Value). leads g.1) (sym e) ∙ now_shut
            | inr (inr n) ↦ absurd n
          ];
        }

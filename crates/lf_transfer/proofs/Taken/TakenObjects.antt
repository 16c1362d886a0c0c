-- Objects that are taken one after the other: those of a row's fields, and those of a region.
use Rattle.std.proofs.Common.{Bool, List, None, Option, Some, [], ap, false, inl, inr, is_some, refl, subst, sym, true, ℕ, ◌+◌, ◌++◌, ◌||◌, ◌∙◌, ◌∷◌, ◌≡◌, ◌≤◌, ◌⊎◌, length, cond}
use Rattle.std.proofs.lemmas.Bool.{or_cases}
use Rattle.std.proofs.lemmas.List.{append-nil, append_assoc}
use Rattle.std.proofs.Math.Bool.{or-true}
use Rattle.std.specs.List.{list_any}
use Rattle.lf_base.specs.declared.ids.ObjId.{ObjId}
use Rattle.lf_base.specs.declared.values.Key.{Key}
use Rattle.lf_base.specs.declared.values.Owner.TheVariants.{In}
use Rattle.lf_base.specs.declared.values.Value.{Value}
use Rattle.lf_base.specs.Edges.{field_targets}
use Rattle.lf_base.specs.FieldOrder.{field_after}
use Rattle.lf_base.specs.Names.{same_name, targets_of_value}
use Rattle.lf_base.specs.Owners.{has_name, names}
use Rattle.lf_base.specs.Sets.{Differ, Member}
use Rattle.lf_base.proofs.ListLemmas.Members.{Member_left, Member_of_append, Member_right}
use Rattle.lf_base.proofs.ListLemmas.Sublists.{differ_push}
use Rattle.lf_base.proofs.NameLemmas.SameNames.{same_name_flips, same_name_is, same_name_itself}
use Rattle.lf_barrier.specs.Surveys.{names_with}
use Rattle.lf_barrier.proofs.MovingEdges.FieldLoops.{FieldWalk, walk_begins, walk_over}
use Rattle.lf_barrier.proofs.Surveys.SurveySteps.{grows_if, has_if, targets_more}
use Rattle.lf_graph.specs.RowOrder.{names_under}
use Rattle.lf_graph.specs.StoredRows.{CountedRow, NamesDiffer, first_name, name_after, owner_by, plain, rows_beside, rows_of}
use Rattle.lf_graph.proofs.Stores.FieldWalks.{FieldKeysDiffer}
use Rattle.lf_laws.proofs.Rows.RowsByName.{has_append}
use Rattle.lf_transfer.specs.Taking.{Takes, is_stored}
use Rattle.lf_transfer.proofs.Walks.References.{field_walk_on, this_field}
use Rattle.lf_transfer.proofs.Walks.RegionWalk.{RegionWalk, region_begins, region_goes_on, region_over, this_row}

flip_any : (o : ObjId) (xs : List ObjId) → list_any (same_name o) xs ≡ list_any (λ p. same_name p o) xs
flip_any o [] = refl
flip_any o (x ∷ xs) = λ i. same_name_flips o x i || flip_any o xs i

pub differ_with : (os : List ObjId) (o : ObjId) → Differ same_name os → Differ same_name (names_with os o)
differ_with os o d =
    elim (has_name os o) as (λ b. has_name os o ≡ b → Differ same_name (cond b os (os ++ o ∷ []))) [
      | true ↦ λ h. d
      | false ↦ λ h. differ_push same_name os o d (flip_any o os ∙ h)
    ] refl

pub no_row : (t : Option CountedRow) → owner_by t ≡ None → is_some t ≡ true → ⊥
no_row None e h = let z : false ≡ true = h in cc
no_row (Some c) e h = absurd (cc)

names_more : (cs : List CountedRow) (c : CountedRow) → names (plain (cs ++ c ∷ [])) ≡ names (plain cs) ++ (c.row).name ∷ []
names_more [] c = refl
names_more (x ∷ xs) c = ap (λ l. (x.row).name ∷ l) (names_more xs c)

module _ (is_wanted : ObjId → Bool) where
  pub takes_none : (before : List ObjId) → Takes is_wanted [] before before
  takes_none before = record { covered = λ t m h. absurd m; only = λ t h. inl h; differ = λ d. d; more = []; grows = sym (append-nil before) }

  -- one object, which passes
  pub takes_one : (o : ObjId) (before after : List ObjId) → is_wanted o ≡ true → after ≡ names_with before o → Takes is_wanted (o ∷ []) before after
  takes_one o before after there is =
      let has : (t : ObjId) → has_name after t ≡ (has_name before t || same_name o t) = λ t. ap (λ l. has_name l t) is ∙ has_if true before o t in
      let g = grows_if true before o in
      record {
        covered = λ t m h. elim m as (λ _. has_name after t ≡ true) [
          | inl e ↦ has t ∙ ap (λ x. has_name before t || x) (ap (same_name o) (sym e) ∙ same_name_itself o) ∙ or-true (has_name before t)
          | inr n ↦ absurd n
        ];
        only = λ t h. elim (or_cases (has_name before t) (same_name o t) (sym (has t) ∙ h)) as (λ _. (has_name before t ≡ true) ⊎ (Member t (o ∷ []) × (is_wanted t ≡ true))) [
          | inl k ↦ inl k
          | inr k ↦ let same : o ≡ t = same_name_is o t k in inr (inl same, ap is_wanted (sym same) ∙ there)
        ];
        differ = λ d. subst (Differ same_name) (sym is) (differ_with before o d);
        more = g.0;
        grows = is ∙ g.1;
      }

  -- one object, which doesn't pass
  pub takes_absent : (o : ObjId) (before : List ObjId) → (is_wanted o ≡ true → ⊥) → Takes is_wanted (o ∷ []) before before
  takes_absent o before none = record {
    covered = λ t m h. elim m as (λ _. has_name before t ≡ true) [ inl e ↦ absurd (none (ap is_wanted e ∙ h)) | inr n ↦ absurd n ];
    only = λ t h. inl h;
    differ = λ d. d;
    more = [];
    grows = sym (append-nil before);
  }

  pub takes_on : (os ps a b c : List ObjId) → Takes is_wanted os a b → Takes is_wanted ps b c → Takes is_wanted (os ++ ps) a c
  takes_on os ps a b c e f = record {
    covered = λ t m h. elim (Member_of_append t os ps m) as (λ _. has_name c t ≡ true) [
      | inl n ↦ ap (λ l. has_name l t) f.grows ∙ has_append b f.more t ∙ ap (λ x. x || has_name f.more t) (e.covered t n h)
      | inr n ↦ f.covered t n h
    ];
    only = λ t h. elim (f.only t h) as (λ _. (has_name a t ≡ true) ⊎ (Member t (os ++ ps) × (is_wanted t ≡ true))) [
      | inl n ↦ elim (e.only t n) as (λ _. (has_name a t ≡ true) ⊎ (Member t (os ++ ps) × (is_wanted t ≡ true))) [
        | inl k ↦ inl k
        | inr k ↦ inr (Member_left t os ps k.0, k.1)
      ]
      | inr n ↦ inr (Member_right t os ps n.0, n.1)
    ];
    differ = λ d. f.differ (e.differ d);
    more = e.more ++ f.more;
    grows = f.grows ∙ ap (λ l. l ++ f.more) e.grows ∙ append_assoc a e.more f.more;
  }

  -- ---- the fields of a row
  pub record FieldsTaken (all : List (Key × Value)) (last : Option Key) (turn : ℕ) (fields : List (Key × Value)) (before now : List ObjId) : Type 0 where
    pub rest : List (Key × Value)
    pub walk : FieldWalk all rest last turn
    pub takes : Takes is_wanted (field_targets walk.so_far) before now
    pub copied : fields ≡ walk.so_far

  pub fields_begin : (all fields : List (Key × Value)) (before : List ObjId) → fields ≡ [] → FieldsTaken all None 0 fields before before
  fields_begin all fields before none = record { rest = all; walk = walk_begins all; takes = takes_none before; copied = none }

  module _ (all : List (Key × Value)) (last : Option Key) (turn : ℕ) (fields : List (Key × Value)) (before now : List ObjId) (g : FieldsTaken all last turn fields before now) where
    pub fields_on : FieldKeysDiffer all → (k : Key) (v : Value) → Some (k, v) ≡ field_after all last → (after : List ObjId) → Takes is_wanted (targets_of_value v) now after
        → (more : List (Key × Value)) → more ≡ fields ++ (k, v) ∷ [] → FieldsTaken all (Some k) (turn + 1) more before after
    fields_on d k v found after e more is = record {
      rest = (this_field all g.rest last turn g.walk k v found).0;
      walk = field_walk_on all g.rest last turn g.walk k v found d;
      takes = subst (λ l. Takes is_wanted l before after) (sym (targets_more (g.walk).so_far (k, v))) (takes_on (field_targets (g.walk).so_far) (targets_of_value v) before now after g.takes e);
      copied = is ∙ ap (λ l. l ++ (k, v) ∷ []) g.copied;
    }

    pub all_so_far : length all ≤ turn → all ≡ (g.walk).so_far
    all_so_far most =
        let none : g.rest ≡ [] = walk_over all g.rest last turn g.walk most in
        (g.walk).split ∙ ap (λ l. (g.walk).so_far ++ l) none ∙ append-nil (g.walk).so_far

    pub fields_taken : length all ≤ turn → Takes is_wanted (field_targets all) before now
    fields_taken most = subst (λ l. Takes is_wanted (field_targets l) before now) (sym (all_so_far most)) g.takes

    pub fields_copied : length all ≤ turn → fields ≡ all
    fields_copied most = g.copied ∙ sym (all_so_far most)

-- ---- the rows of a region
module _ (rows : List CountedRow) where
  pub record RowsTaken (r : ObjId) (next : Option ObjId) (before now : List ObjId) : Type 0 where
    pub walk : RegionWalk rows r next
    pub takes : Takes (is_stored rows) (names (plain walk.done)) before now

  module _ (r : ObjId) (next : Option ObjId) where
    pub rows_begin : (before : List ObjId) → next ≡ first_name (rows_of (In r) rows) → RowsTaken r next before before
    rows_begin before e = record { walk = region_begins rows r next e; takes = takes_none (is_stored rows) before }

    module _ (before now : List ObjId) (g : RowsTaken r next before now) where
      pub rows_taken : next ≡ None → Takes (is_stored rows) (names_under (In r) rows) before now
      rows_taken none = subst (λ l. Takes (is_stored rows) (names (plain l)) before now) (region_over rows r next g.walk none) g.takes

      pub rows_on : (differ : NamesDiffer rows) (p : ObjId) (is : next ≡ Some p) → (then_next : Option ObjId) → then_next ≡ name_after (rows_beside rows p) p
          → (after : List ObjId) → Takes (is_stored rows) (p ∷ []) now after → RowsTaken r then_next before after
      rows_on differ p is then_next then_is after e =
          let t = this_row rows r differ next g.walk p is in
          record {
            walk = region_goes_on rows r differ next g.walk p is then_next then_is;
            takes = subst (λ l. Takes (is_stored rows) l before after) (ap (λ n. names (plain (g.walk).done) ++ n ∷ []) (sym t.name) ∙ sym (names_more (g.walk).done t.row))
                (takes_on (is_stored rows) (names (plain (g.walk).done)) (p ∷ []) before now after g.takes e);
          }

-- The bridges that a region owns, found row by row; and those below others, region by region.
use Rattle.std.proofs.Common.{Bool, List, None, Option, Some, [], ap, cond, false, flat_map, inl, inr, length, not, refl, subst, sym, true, ℕ, ◌&&◌, ◌+◌, ◌++◌, ◌||◌, ◌∙◌, ◌∷◌, ◌≡◌, ◌≤◌, ◌⊎◌}
use Rattle.std.proofs.lemmas.Bool.{and_parts, or_cases}
use Rattle.std.proofs.lemmas.List.{append-nil, append_assoc}
use Rattle.std.proofs.Math.Bool.{or-true}
use Rattle.std.specs.List.{list_any}
use Rattle.std.specs.Option.{is_some}
use Rattle.lf_base.specs.declared.ids.ObjId.{ObjId}
use Rattle.lf_base.specs.declared.values.Key.{Key}
use Rattle.lf_base.specs.declared.values.Owner.TheVariants.{In}
use Rattle.lf_base.specs.declared.values.Value.{Value}
use Rattle.lf_base.specs.Edges.{field_targets}
use Rattle.lf_base.specs.FieldOrder.{field_after}
use Rattle.lf_base.specs.Links.{head_or}
use Rattle.lf_base.specs.Names.{same_name, targets_of_value}
use Rattle.lf_base.specs.Owners.{has_name, names}
use Rattle.lf_base.specs.Sets.{Member}
use Rattle.lf_base.proofs.ListLemmas.Filters.{Member_of_filter}
use Rattle.lf_base.proofs.ListLemmas.Members.{Member_flat_map, Member_left, Member_of_append, Member_right}
use Rattle.lf_base.proofs.NameLemmas.SameNames.{same_name_is, same_name_itself}
use Rattle.lf_barrier.specs.Descents.{Looked, Passed, is_child, region_targets}
use Rattle.lf_barrier.specs.Surveys.{names_with}
use Rattle.lf_barrier.proofs.MovingEdges.FieldLoops.{FieldWalk, walk_begins, walk_goes_on, walk_over}
use Rattle.lf_barrier.proofs.Surveys.SurveySteps.{flat_more, grows_if, has_if, targets_more}
use Rattle.lf_graph.specs.StoredRows.{CountedRow, HasRow, NamesDiffer, fields_at, fields_by, first_name, is_under, name_after, owner_at, plain, row_named, rows_beside, rows_of}
use Rattle.lf_graph.proofs.Stores.FieldWalks.{FieldKeysDiffer}
use Rattle.lf_graph.proofs.Stores.Walks.{next_in_walk}

module _ (rows : List CountedRow) (r home : ObjId) where
  abbrev child : ObjId → Bool
  child t = is_child r t (owner_at rows t)

  passed_by : (b : Bool) (o : ObjId) (before after : List ObjId) → after ≡ cond b (names_with before o) before → ((t : ObjId) → t ≡ o → child t ≡ true → (b ≡ true) × (same_name t home ≡ false))
      → (b ≡ true → child o ≡ true) → (b ≡ true → same_name o home ≡ false) → Passed rows r home (o ∷ []) before after
  passed_by b o before after is cover one far =
      let has : (t : ObjId) → has_name after t ≡ (has_name before t || (b && same_name o t)) = λ t. ap (λ l. has_name l t) is ∙ has_if b before o t in
      let g = grows_if b before o in
      record {
        covered = λ t m c. elim m as (λ _. (has_name after t ≡ true) × (same_name t home ≡ false)) [
          | inl e ↦
              let k = cover t (sym e) c in
              (has t ∙ ap (λ x. has_name before t || (x && same_name o t)) k.0 ∙ ap (λ x. has_name before t || x) (ap (same_name o) (sym e) ∙ same_name_itself o) ∙ or-true (has_name before t), k.1)
          | inr n ↦ absurd n
        ];
        only = λ t h. elim (or_cases (has_name before t) (b && same_name o t) (sym (has t) ∙ h)) as (λ _. (has_name before t ≡ true) ⊎ (Member t (o ∷ []) × (child t ≡ true))) [
          | inl k ↦ inl k
          | inr k ↦
              let p = and_parts b (same_name o t) k in
              let same : o ≡ t = same_name_is o t p.1 in
              inr (inl same, ap child (sym same) ∙ one p.0)
        ];
        apart = λ h. has home ∙ ap (λ x. x || (b && same_name o home)) h ∙ none_here b far;
        more = g.0;
        grows = is ∙ g.1;
      } where
        none_here : (c : Bool) → (c ≡ true → same_name o home ≡ false) → (c && same_name o home) ≡ false
        none_here true f = f refl
        none_here false f = refl

  pub looked_one : (o : ObjId) (before after : List ObjId) (found : Bool) → found ≡ (child o && same_name o home) → after ≡ cond (child o && not (same_name o home)) (names_with before o) before → Looked rows r home (o ∷ []) before after found
  looked_one o before after found f is = by_child (child o) (same_name o home) refl refl found f is where
    by_child : (b c : Bool) → child o ≡ b → same_name o home ≡ c → (found : Bool) → found ≡ (b && c) → after ≡ cond (b && not c) (names_with before o) before → Looked rows r home (o ∷ []) before after found
    by_child true true p q found f is = subst (Looked rows r home (o ∷ []) before after) (sym f) (let same : o ≡ home = same_name_is o home q in (inl same, ap child (sym same) ∙ p))
    by_child true false p q found f is = subst (Looked rows r home (o ∷ []) before after) (sym f) (passed_by true o before after is (λ t e k. (refl, ap (λ n. same_name n home) e ∙ q)) (λ e. p) (λ e. q))
    by_child false c p q found f is = subst (Looked rows r home (o ∷ []) before after) (sym f)
        (passed_by false o before after is (λ t e k. absurd (let z : false ≡ true = sym p ∙ ap child (sym e) ∙ k in cc)) (λ e. absurd (let z : false ≡ true = e in cc)) (λ e. absurd (let z : false ≡ true = e in cc)))

  pub passed_none : (before : List ObjId) → Passed rows r home [] before before
  passed_none before = record { covered = λ t m c. absurd m; only = λ t h. inl h; apart = λ h. h; more = []; grows = sym (append-nil before) }

  still_there : (a more : List ObjId) (t : ObjId) → has_name a t ≡ true → has_name (a ++ more) t ≡ true
  still_there [] more t h = absurd (let z : false ≡ true = h in cc)
  still_there (x ∷ xs) more t h = elim (same_name x t) as (λ b. (b || has_name xs t) ≡ true → (b || has_name (xs ++ more) t) ≡ true) [ true ↦ λ k. refl | false ↦ λ k. still_there xs more t k ] h

  pub passed_on : (os ps a b c : List ObjId) → Passed rows r home os a b → Passed rows r home ps b c → Passed rows r home (os ++ ps) a c
  passed_on os ps a b c e f = record {
    covered = λ t m k. elim (Member_of_append t os ps m) as (λ _. (has_name c t ≡ true) × (same_name t home ≡ false)) [
      | inl n ↦ let z = e.covered t n k in (ap (λ l. has_name l t) f.grows ∙ still_there b f.more t z.0, z.1)
      | inr n ↦ f.covered t n k
    ];
    only = λ t h. elim (f.only t h) as (λ _. (has_name a t ≡ true) ⊎ (Member t (os ++ ps) × (child t ≡ true))) [
      | inl n ↦ elim (e.only t n) as (λ _. (has_name a t ≡ true) ⊎ (Member t (os ++ ps) × (child t ≡ true))) [
        | inl k ↦ inl k
        | inr k ↦ inr (Member_left t os ps k.0, k.1)
      ]
      | inr n ↦ inr (Member_right t os ps n.0, n.1)
    ];
    apart = λ h. f.apart (e.apart h);
    more = e.more ++ f.more;
    grows = f.grows ∙ ap (λ l. l ++ f.more) e.grows ∙ append_assoc a e.more f.more;
  }

  -- ---- the fields of a row
  pub record RowLooked (all : List (Key × Value)) (last : Option Key) (turn : ℕ) (before now : List ObjId) : Type 0 where
    pub rest : List (Key × Value)
    pub walk : FieldWalk all rest last turn
    pub passed : Passed rows r home (field_targets walk.so_far) before now

  pub row_look_begins : (all : List (Key × Value)) (before : List ObjId) → RowLooked all None 0 before before
  row_look_begins all before = record { rest = all; walk = walk_begins all; passed = passed_none before }

  pub row_look_on : (all : List (Key × Value)) (last : Option Key) (turn : ℕ) (before now after : List ObjId) (k : Key) (v : Value) → FieldKeysDiffer all → RowLooked all last turn before now
      → Some (k, v) ≡ field_after all last → Passed rows r home (targets_of_value v) now after → RowLooked all (Some k) (turn + 1) before after
  row_look_on all last turn before now after k v d g found e = go g.rest g.walk g.passed (found ∙ (g.walk).next) where
    go : (rest : List (Key × Value)) (walk : FieldWalk all rest last turn) → Passed rows r home (field_targets walk.so_far) before now → Some (k, v) ≡ head_or rest None → RowLooked all (Some k) (turn + 1) before after
    go [] walk so_far found = absurd (cc)
    go (f ∷ fs) walk so_far found =
        let same : f ≡ (k, v) = cc in
        subst (λ h. RowLooked all (Some h.0) (turn + 1) before after) same (record {
          rest = fs;
          walk = walk_goes_on all fs f last turn d walk;
          passed = subst (λ l. Passed rows r home l before after) (sym (targets_more walk.so_far f))
              (passed_on (field_targets walk.so_far) (targets_of_value f.1) before now after so_far (subst (λ (h : Key × Value). Passed rows r home (targets_of_value h.1) now after) (sym same) e));
        })

  in_fields : (xs ys : List (Key × Value)) (f : Key × Value) (t : ObjId) → Member t (targets_of_value f.1) → Member t (field_targets (xs ++ f ∷ ys))
  in_fields [] ys f t m = Member_left t (targets_of_value f.1) (field_targets ys) m
  in_fields (x ∷ xs) ys f t m = Member_right t (targets_of_value x.1) (field_targets (xs ++ f ∷ ys)) (in_fields xs ys f t m)

  pub row_look_found : (all : List (Key × Value)) (last : Option Key) (turn : ℕ) (before now : List ObjId) (k : Key) (v : Value) → RowLooked all last turn before now → Some (k, v) ≡ field_after all last
      → (t : ObjId) → Member t (targets_of_value v) → Member t (field_targets all)
  row_look_found all last turn before now k v g found t m = go g.rest (g.walk).split (found ∙ (g.walk).next) where
    go : (rest : List (Key × Value)) → all ≡ (g.walk).so_far ++ rest → Some (k, v) ≡ head_or rest None → Member t (field_targets all)
    go [] split found = absurd (cc)
    go (f ∷ fs) split found =
        let same : f ≡ (k, v) = cc in
        subst (λ l. Member t (field_targets l)) (sym split) (in_fields (g.walk).so_far fs f t (subst (λ (h : Key × Value). Member t (targets_of_value h.1)) (sym same) m))

  pub row_looked : (all : List (Key × Value)) (last : Option Key) (turn : ℕ) (before now : List ObjId) → RowLooked all last turn before now → length all ≤ turn → Passed rows r home (field_targets all) before now
  row_looked all last turn before now g most =
      let none : g.rest ≡ [] = walk_over all g.rest last turn g.walk most in
      subst (λ l. Passed rows r home (field_targets l) before now) (sym ((g.walk).split ∙ ap (λ l. (g.walk).so_far ++ l) none ∙ append-nil (g.walk).so_far)) g.passed

  -- ---- the rows of a region
  abbrev targets_of_row : CountedRow → List ObjId
  targets_of_row c = field_targets (c.row).fields

  pub record RegionLooked (next : Option ObjId) (before now : List ObjId) : Type 0 where
    pub done : List CountedRow
    pub rest : List CountedRow
    pub split : rows_of (In r) rows ≡ done ++ rest
    pub at : next ≡ first_name rest
    pub passed : Passed rows r home (flat_map targets_of_row done) before now

  pub region_look_begins : (next : Option ObjId) (before : List ObjId) → next ≡ first_name (rows_of (In r) rows) → RegionLooked next before before
  region_look_begins next before e = record { done = []; rest = rows_of (In r) rows; split = refl; at = e; passed = passed_none before }

pub named_here : (rows : List CountedRow) (c : CountedRow) → NamesDiffer rows → Member c rows → row_named rows (c.row).name ≡ Some c
named_here [] c d m = absurd m
named_here (x ∷ xs) c d (inl e) = ap (λ b. cond b (Some x) (row_named xs (c.row).name)) (ap (λ y. same_name (x.row).name (y.row).name) (sym e) ∙ same_name_itself (x.row).name) ∙ ap Some e
named_here (x ∷ xs) c d (inr m) =
    elim (same_name (x.row).name (c.row).name) as (λ b. same_name (x.row).name (c.row).name ≡ b → cond b (Some x) (row_named xs (c.row).name) ≡ Some c) [
      | true ↦ λ t.
          let same : (x.row).name ≡ (c.row).name = same_name_is (x.row).name (c.row).name t in
          let twice : list_any (λ y. same_name y (x.row).name) (names (plain xs)) ≡ true = named_any xs c m (x.row).name (ap (λ n. same_name n (x.row).name) (sym same) ∙ same_name_itself (x.row).name) in
          absurd (let z : true ≡ false = sym twice ∙ d.0 in cc)
      | false ↦ λ t. named_here xs c d.1 m
    ] refl where
      named_any : (ys : List CountedRow) (c : CountedRow) → Member c ys → (n : ObjId) → same_name (c.row).name n ≡ true → list_any (λ y. same_name y n) (names (plain ys)) ≡ true
      named_any [] c m n h = absurd m
      named_any (y ∷ ys) c (inl e) n h = ap (λ z. same_name (z.row).name n || list_any (λ y. same_name y n) (names (plain ys))) e ∙ ap (λ b. b || list_any (λ y. same_name y n) (names (plain ys))) h
      named_any (y ∷ ys) c (inr m) n h = ap (λ b. same_name (y.row).name n || b) (named_any ys c m n h) ∙ or-true (same_name (y.row).name n)

fields_of_row : (rows : List CountedRow) (c : CountedRow) → NamesDiffer rows → Member c rows → fields_at rows (c.row).name ≡ (c.row).fields
fields_of_row rows c d m = ap fields_by (named_here rows c d m)

module _ (rows : List CountedRow) (r home : ObjId) (differ : NamesDiffer rows) (next : Option ObjId) (before now : List ObjId) (g : RegionLooked rows r home next before now) (p : ObjId) (is : next ≡ Some p) where
  pub record ThisRow : Type 0 where
    pub row : CountedRow
    pub later : List CountedRow
    pub rest : g.rest ≡ row ∷ later
    pub name : (row.row).name ≡ p

  this_row : ThisRow
  this_row = go g.rest refl (sym is ∙ g.at) where
    go : (rest : List CountedRow) → g.rest ≡ rest → Some p ≡ first_name rest → ThisRow
    go [] e n = absurd (cc)
    go (c ∷ cs) e n = let same : (c.row).name ≡ p = cc in record { row = c; later = cs; rest = e; name = same }

  split_here : rows_of (In r) rows ≡ g.done ++ (this_row).row ∷ (this_row).later
  split_here = g.split ∙ ap (λ l. g.done ++ l) (this_row).rest

  in_region : Member (this_row).row (rows_of (In r) rows)
  in_region = subst (Member (this_row).row) (sym split_here) (Member_right (this_row).row g.done ((this_row).row ∷ (this_row).later) (inl refl))

  in_store : Member (this_row).row rows
  in_store = (Member_of_filter (is_under (In r)) (this_row).row rows in_region).0

  fields_here : fields_at rows p ≡ (((this_row).row).row).fields
  fields_here = ap (fields_at rows) (sym (this_row).name) ∙ fields_of_row rows (this_row).row differ in_store

  pub look_row_there : HasRow rows p
  look_row_there = ap (λ n. is_some (row_named rows n)) (sym (this_row).name) ∙ ap is_some (named_here rows (this_row).row differ in_store)

  pub look_found : (t : ObjId) → Member t (field_targets (fields_at rows p)) → Member t (region_targets rows r)
  look_found t m = Member_flat_map (λ (c : CountedRow). field_targets (c.row).fields) (this_row).row t (rows_of (In r) rows) in_region (subst (λ l. Member t (field_targets l)) fields_here m)

  pub region_look_on : (after : List ObjId) (then_next : Option ObjId) → Passed rows r home (field_targets (fields_at rows p)) now after → then_next ≡ name_after (rows_beside rows p) p → RegionLooked rows r home then_next before after
  region_look_on after then_next e n = record {
    done = g.done ++ (this_row).row ∷ [];
    rest = (this_row).later;
    split = split_here ∙ sym (append_assoc g.done ((this_row).row ∷ []) (this_row).later);
    at = n ∙ ap (λ q. name_after (rows_beside rows q) q) (sym (this_row).name) ∙ next_in_walk rows g.done (this_row).later (In r) (this_row).row differ split_here;
    passed = subst (λ l. Passed rows r home l before after) (sym (flat_more (λ (c : CountedRow). field_targets (c.row).fields) g.done (this_row).row))
        (passed_on rows r home (flat_map (λ (c : CountedRow). field_targets (c.row).fields) g.done) (field_targets (((this_row).row).row).fields) before now after g.passed
        (subst (λ l. Passed rows r home (field_targets l) now after) fields_here e));
  }

pub region_looked : (rows : List CountedRow) (r home : ObjId) (next : Option ObjId) (before now : List ObjId) → RegionLooked rows r home next before now → next ≡ None → Passed rows r home (region_targets rows r) before now
region_looked rows r home next before now g is = go g.rest g.split (sym is ∙ g.at) where
  go : (rest : List CountedRow) → rows_of (In r) rows ≡ g.done ++ rest → None ≡ first_name rest → Passed rows r home (region_targets rows r) before now
  go [] split n = subst (λ l. Passed rows r home (flat_map (λ (c : CountedRow). field_targets (c.row).fields) l) before now) (sym (split ∙ append-nil g.done)) g.passed
  go (c ∷ cs) split n = absurd (cc)

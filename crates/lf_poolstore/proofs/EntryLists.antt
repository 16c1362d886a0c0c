-- A row more, and a row less, among rows with numbers and names.
use Rattle.std.proofs.Common.{◌≡◌, ◌≢◌, ℕ, Bool, true, false, cond, not, ◌⊎◌, inl, inr, List, [], ◌∷◌, ◌++◌, length, map, Some, None, refl, ap, sym, ◌∙◌, subst}
use Rattle.std.specs.Prelude.{eqb}
use Rattle.std.specs.List.{filter_map}
use Rattle.std.specs.Map.{lookup}
use Rattle.std.specs.Option.{IsSome}
use Rattle.std.proofs.lemmas.Bool.Decides.{Decides-eqb}
use Rattle.std.proofs.lemmas.List.{map-append}
use Rattle.lf_base.specs.declared.ids.ObjId.{ObjId}
use Rattle.lf_base.specs.declared.values.Owner.{Owner}
use Rattle.lf_base.specs.Links.{Lacks, NodesDiffer, head_or}
use Rattle.lf_base.specs.Names.{same_name}
use Rattle.lf_base.proofs.NameLemmas.SameNames.{same_name_flips, same_name_is}
use Rattle.lf_pool.specs.declared.cell.TheConstants.{NONE}
use Rattle.lf_pool.specs.Cells.{IsChain, item_at, link_at, node}
use Rattle.lf_pool.specs.Pools.{Chain}
use Rattle.lf_base.specs.declared.values.Key.{Key}
use Rattle.lf_base.specs.declared.values.Value.{Value}
use Rattle.lf_graph.proofs.ListLemmas.{cond_same}
use Rattle.lf_graph.specs.RowChanges.{with_new_row, without_row}
use Rattle.lf_graph.specs.StoredRows.{IsNewName, row_named}
use Rattle.lf_poolstore.specs.declared.unit_row.UnitRow.{UnitRow}
use Rattle.lf_poolstore.specs.RowLists.{entry_at, names_in, numbers, numbers_in, without_entry}
use Rattle.lf_poolstore.specs.Units.{Apart, FieldPool, IsUnit, KeepsFields, places_in, rows_in, whole}
use Rattle.lf_poolstore.proofs.Entries.{Agree, Entries}
use Rattle.lf_poolstore.proofs.RowLists.{entry, walk_none}
use Rattle.lf_poolstore.proofs.SeenUnits.{found_later, kept_fields_by, kept_row_by, same_row}

-- ---- lists without repeats
module _ {N : Type 0} (same : N → N → Bool) (flips : (a b : N) → same a b ≡ false → same b a ≡ false) where
  lacks_push : (x : N) (xs : List N) (y : N) → Lacks same x xs → same x y ≡ false → Lacks same x (xs ++ y ∷ [])
  lacks_push x [] y l n = (n, tt)
  lacks_push x (z ∷ xs) y l n = (l.0, lacks_push x xs y l.1 n)

  pub differ_push : (xs : List N) (y : N) → NodesDiffer same xs → Lacks same y xs → NodesDiffer same (xs ++ y ∷ [])
  differ_push [] y d l = (tt, tt)
  differ_push (x ∷ xs) y d l = (lacks_push x xs y d.0 (flips y x l.0), differ_push xs y d.1 l.1)

numbers_flip : (x y : ℕ) → eqb x y ≡ false → eqb y x ≡ false
numbers_flip x y n = elim (eqb y x) as (λ b. eqb y x ≡ b → b ≡ false) [
  | true ↦ λ e. let k : eqb x y ≡ true = (Decides-eqb x y).1 (sym ((Decides-eqb y x).0 e)) in cc (k, n)
  | false ↦ λ _. refl
] refl

names_flip : (x y : ObjId) → same_name x y ≡ false → same_name y x ≡ false
names_flip x y n = same_name_flips y x ∙ n

-- ---- a row less
pub without_found : (at : ℕ) (es : Entries) (x : ℕ) → entry_at (without_entry at es) x ≡ cond (eqb at x) None (entry_at es x)
without_found at [] x = sym (cond_same (eqb at x) None)
without_found at (e ∷ es) x = go (without_found at es x) (eqb at e.0) refl (eqb x e.0) refl where
  go : entry_at (without_entry at es) x ≡ cond (eqb at x) None (entry_at es x) → (b : Bool) → eqb at e.0 ≡ b → (t : Bool) → eqb x e.0 ≡ t
      → entry_at (cond (not b) (e ∷ without_entry at es) (without_entry at es)) x ≡ cond (eqb at x) None (cond t (Some e.1) (entry_at es x))
  go ih true k true m =
      let s : eqb at x ≡ true = (Decides-eqb at x).1 ((Decides-eqb at e.0).0 k ∙ sym ((Decides-eqb x e.0).0 m)) in
      ih ∙ ap (λ b. cond b None (entry_at es x)) s ∙ sym (ap (λ b. cond b None (Some e.1)) s)
  go ih true k false m = ih
  go ih false k true m =
      ap (λ b. cond b (Some e.1) (entry_at (without_entry at es) x)) m ∙ sym (ap (λ b. cond b None (Some e.1)) (ap (eqb at) ((Decides-eqb x e.0).0 m) ∙ k))
  go ih false k false m = ap (λ b. cond b (Some e.1) (entry_at (without_entry at es) x)) m ∙ ih

pub lacks_without : {N : Type 0} (same : N → N → Bool) (f : ℕ × UnitRow → N) (x : N) (at : ℕ) (es : Entries) → Lacks same x (map f es) → Lacks same x (map f (without_entry at es))
lacks_without same f x at [] l = tt
lacks_without same f x at (e ∷ es) l = elim (eqb at e.0) as (λ b. Lacks same x (map f (cond (not b) (e ∷ without_entry at es) (without_entry at es)))) [
  | true ↦ lacks_without same f x at es l.1
  | false ↦ (l.0, lacks_without same f x at es l.1)
]

differ_without : {N : Type 0} (same : N → N → Bool) (f : ℕ × UnitRow → N) (at : ℕ) (es : Entries) → NodesDiffer same (map f es) → NodesDiffer same (map f (without_entry at es))
differ_without same f at [] d = tt
differ_without same f at (e ∷ es) d = elim (eqb at e.0) as (λ b. NodesDiffer same (map f (cond (not b) (e ∷ without_entry at es) (without_entry at es)))) [
  | true ↦ differ_without same f at es d.1
  | false ↦ (lacks_without same f (f e) at es d.0, differ_without same f at es d.1)
]

pub without_places : (at : ℕ) (o : ObjId) (es : Entries) → Agree at o es → (q : ObjId) → lookup (same_name q) (places_in (without_entry at es)) ≡ cond (same_name o q) None (lookup (same_name q) (places_in es))
without_places at o [] a q = sym (cond_same (same_name o q) None)
without_places at o (e ∷ es) a q = go (without_places at o es a.1 q) (eqb at e.0) (sym a.0) (same_name q (e.1).name) refl where
  go : lookup (same_name q) (places_in (without_entry at es)) ≡ cond (same_name o q) None (lookup (same_name q) (places_in es)) → (b : Bool) → same_name o (e.1).name ≡ b → (t : Bool) → same_name q (e.1).name ≡ t
      → lookup (same_name q) (places_in (cond (not b) (e ∷ without_entry at es) (without_entry at es))) ≡ cond (same_name o q) None (cond t (Some e.0) (lookup (same_name q) (places_in es)))
  go ih true k true m =
      let s : same_name o q ≡ true = ap (same_name o) (same_name_is q (e.1).name m) ∙ k in
      ih ∙ ap (λ b. cond b None (lookup (same_name q) (places_in es))) s ∙ sym (ap (λ b. cond b None (Some e.0)) s)
  go ih true k false m = ih
  go ih false k true m =
      ap (λ b. cond b (Some e.0) (lookup (same_name q) (places_in (without_entry at es)))) m ∙ sym (ap (λ b. cond b None (Some e.0)) (ap (same_name o) (same_name_is q (e.1).name m) ∙ k))
  go ih false k false m = ap (λ b. cond b (Some e.0) (lookup (same_name q) (places_in (without_entry at es)))) m ∙ ih

-- the cells of a row are given back, and it goes
module _ (m n : FieldPool) (items : (x : ℕ) → item_at n.cells x ≡ item_at m.cells x) (es : Entries) (unit : IsUnit es m) (at : ℕ) (row : UnitRow) (found : entry_at es at ≡ Some row)
    (others : (d : ℕ) → (zs : List ℕ) → Chain m d zs → node row.fields ≢ Some d → Chain n d zs) where
  -- the chain of another row stays
  stays : (x : ℕ) (r : UnitRow) → entry_at es x ≡ Some r → eqb at x ≡ false → (c : ℕ) → Chain m c (numbers m r.fields) → Chain n c (numbers m r.fields)
  stays x r f apart c z = others c (numbers m r.fields) z (λ e. unit.apart at x row r found f apart c e (sym ((unit.fields x r f).chain).begins ∙ z.0.1))

  left_found : (x : ℕ) (r : UnitRow) → entry_at (without_entry at es) x ≡ Some r → (entry_at es x ≡ Some r) × (eqb at x ≡ false)
  left_found x r f = elim (eqb at x) as (λ b. cond b None (entry_at es x) ≡ Some r → (entry_at es x ≡ Some r) × (b ≡ false)) [
    | true ↦ λ k. absurd (cc k)
    | false ↦ λ k. (k, refl)
  ] (sym (without_found at es x) ∙ f)

  pub left_unit : IsUnit (without_entry at es) n
  left_unit =
      record {
        numbers_differ = differ_without eqb (λ e. e.0) at es unit.numbers_differ;
        names_differ = differ_without same_name (λ e. (e.1).name) at es unit.names_differ;
        fields = λ x r f. let g = left_found x r f in kept_row_by m n items r (unit.fields x r g.0) (stays x r g.0 g.1);
        apart = λ a b r s f g. unit.apart a b r s (left_found a r f).0 (left_found b s g).0;
      }

  pub left_rows : (owner : Owner) (o : ObjId) (us : Entries) → Agree at o us → NodesDiffer eqb (numbers_in us) → ((x : ℕ) → (r : UnitRow) → entry_at us x ≡ Some r → entry_at es x ≡ Some r)
      → rows_in owner n (without_entry at us) ≡ without_row (rows_in owner m us) o
  left_rows owner o [] a d k = refl
  left_rows owner o (e ∷ us) a d k =
      go (left_rows owner o us a.1 d.1 (λ x r f. k x r (found_later e us x d.0 (subst IsSome (sym f) refl) ∙ f))) (eqb at e.0) refl
      ∙ ap (λ b. cond (not b) (whole owner m e.1 ∷ without_row (rows_in owner m us) o) (without_row (rows_in owner m us) o)) (a.0 ∙ same_name_flips o (e.1).name)
    where
      go : rows_in owner n (without_entry at us) ≡ without_row (rows_in owner m us) o → (b : Bool) → eqb at e.0 ≡ b
          → rows_in owner n (cond (not b) (e ∷ without_entry at us) (without_entry at us)) ≡ cond (not b) (whole owner m e.1 ∷ without_row (rows_in owner m us) o) (without_row (rows_in owner m us) o)
      go ih true t = ih
      go ih false t = λ i. one i ∷ ih i where
        here : entry_at es e.0 ≡ Some e.1
        here = k e.0 e.1 (ap (λ b. cond b (Some e.1) (entry_at us e.0)) ((Decides-eqb e.0 e.0).1 refl))

        one : whole owner n e.1 ≡ whole owner m e.1
        one = ap (λ (fs : List (Key × Value)). record { row = record { name = (e.1).name; owner = owner; fields = fs }; refs = (e.1).refs })
            (kept_fields_by m n items e.1 (unit.fields e.0 e.1 here) (stays e.0 e.1 here t))

-- ---- a row more
pub none_lacks : (es : Entries) (at : ℕ) → entry_at es at ≡ None → Lacks eqb at (numbers_in es)
none_lacks [] at h = tt
none_lacks (e ∷ es) at h = elim (eqb at e.0) as (λ b. cond b (Some e.1) (entry_at es at) ≡ None → (b ≡ false) × Lacks eqb at (numbers_in es)) [
  | true ↦ λ k. absurd (cc k)
  | false ↦ λ k. (refl, none_lacks es at k)
] h

-- the row comes last, with its fields
module _ (cells : FieldPool) (at : ℕ) (row : UnitRow) where
  place_last : (us : Entries) (q : ObjId) → Lacks same_name row.name (names_in us) → lookup (same_name q) (places_in (us ++ entry at row ∷ [])) ≡ cond (same_name row.name q) (Some at) (lookup (same_name q) (places_in us))
  place_last [] q l = ap (λ b. cond b (Some at) None) (same_name_flips q row.name)
  place_last (u ∷ us) q l = elim (same_name q (u.1).name) as (λ b. same_name q (u.1).name ≡ b
      → cond b (Some u.0) (lookup (same_name q) (places_in (us ++ entry at row ∷ []))) ≡ cond (same_name row.name q) (Some at) (cond b (Some u.0) (lookup (same_name q) (places_in us)))) [
        | true ↦ λ k. sym (ap (λ b. cond b (Some at) (Some u.0)) (ap (same_name row.name) (same_name_is q (u.1).name k) ∙ l.0))
        | false ↦ λ _. place_last us q l.1
      ] refl

  -- what is found then was found before, or is the row
  found_more : (us : Entries) (x : ℕ) (r : UnitRow) → entry_at (us ++ entry at row ∷ []) x ≡ Some r → (entry_at us x ≡ Some r) ⊎ ((x ≡ at) × (r ≡ row))
  found_more [] x r f = elim (eqb x at) as (λ b. eqb x at ≡ b → cond b (Some row) None ≡ Some r → (entry_at [] x ≡ Some r) ⊎ ((x ≡ at) × (r ≡ row))) [
    | true ↦ λ t k. inr ((Decides-eqb x at).0 t, sym (same_row k))
    | false ↦ λ _ k. absurd (cc k)
  ] refl f
  found_more (u ∷ us) x r f = elim (eqb x u.0) as (λ b. cond b (Some u.1) (entry_at (us ++ entry at row ∷ []) x) ≡ Some r → (cond b (Some u.1) (entry_at us x) ≡ Some r) ⊎ ((x ≡ at) × (r ≡ row))) [
    | true ↦ λ k. inl k
    | false ↦ λ k. found_more us x r k
  ] f

  module _ (es : Entries) (unit : IsUnit es cells) (fresh : entry_at es at ≡ None) (lacks : Lacks same_name row.name (names_in es)) (keeps : KeepsFields cells row)
      (apart : (x : ℕ) → (s : UnitRow) → entry_at es x ≡ Some s → Apart row s) where
    pub more_places : (q : ObjId) → lookup (same_name q) (places_in (es ++ entry at row ∷ [])) ≡ cond (same_name row.name q) (Some at) (lookup (same_name q) (places_in es))
    more_places q = place_last es q lacks

    pub more_unit : IsUnit (es ++ entry at row ∷ []) cells
    more_unit =
        record {
          numbers_differ = subst (NodesDiffer eqb) (sym (map-append (λ (e : ℕ × UnitRow). e.0) es (entry at row ∷ []))) (differ_push eqb numbers_flip (numbers_in es) at unit.numbers_differ (none_lacks es at fresh));
          names_differ = subst (NodesDiffer same_name) (sym (map-append (λ (e : ℕ × UnitRow). (e.1).name) es (entry at row ∷ []))) (differ_push same_name names_flip (names_in es) row.name unit.names_differ lacks);
          fields = λ x r f. in_fields r x (found_more es x r f);
          apart = λ a b r s f g n c h k. in_apart a b r s n c h k (found_more es a r f) (found_more es b s g);
        }
      where
        in_fields : (r : UnitRow) (x : ℕ) → (entry_at es x ≡ Some r) ⊎ ((x ≡ at) × (r ≡ row)) → KeepsFields cells r
        in_fields r x (inl f) = unit.fields x r f
        in_fields r x (inr e) = subst (KeepsFields cells) (sym e.1) keeps

        in_apart : (a b : ℕ) (r s : UnitRow) → eqb a b ≡ false → (c : ℕ) → node r.fields ≡ Some c → node s.fields ≡ Some c → (entry_at es a ≡ Some r) ⊎ ((a ≡ at) × (r ≡ row)) → (entry_at es b ≡ Some s) ⊎ ((b ≡ at) × (s ≡ row)) → ⊥
        in_apart a b r s n c h k (inl f) (inl g) = unit.apart a b r s f g n c h k
        in_apart a b r s n c h k (inr e) (inl g) = apart b s g c (ap (λ (t : UnitRow). node t.fields) (sym e.1) ∙ h) k
        in_apart a b r s n c h k (inl f) (inr e) = apart a r f c (ap (λ (t : UnitRow). node t.fields) (sym e.1) ∙ k) h
        in_apart a b r s n c h k (inr e) (inr g) = let t : eqb a b ≡ true = (Decides-eqb a b).1 (e.0 ∙ sym g.0) in absurd (cc (t, n))

module _ (cells : FieldPool) where
  pub no_numbers : numbers cells NONE ≡ []
  no_numbers = walk_none (length cells.cells) (link_at cells.cells)

  -- a row without fields keeps none
  pub bare_row : (o : ObjId) (refs : ℕ) → KeepsFields cells (record { name = o; refs = refs; fields = NONE; width = 0 })
  bare_row o refs = record {
    chain = record { chain = subst (IsChain (link_at cells.cells)) (sym no_numbers) (record { links = tt; differ = tt }); begins = ap (λ ns. head_or ns None) no_numbers; live = λ c e. cc e };
    count = ap length no_numbers;
  }

module _ (owner : Owner) (cells : FieldPool) where
  pub new_lacks : (es : Entries) (o : ObjId) → IsNewName (rows_in owner cells es) o → Lacks same_name o (names_in es)
  new_lacks [] o h = tt
  new_lacks (e ∷ es) o h = elim (same_name (e.1).name o) as (λ b. same_name (e.1).name o ≡ b → cond b (Some (whole owner cells e.1)) (row_named (rows_in owner cells es) o) ≡ None → Lacks same_name o (names_in (e ∷ es))) [
    | true ↦ λ _ k. absurd (cc k)
    | false ↦ λ n k. (same_name_flips o (e.1).name ∙ n, new_lacks es o k)
  ] refl h

  module _ (es : Entries) (unit : IsUnit es cells) (o : ObjId) (at : ℕ) (row : UnitRow) (is : row ≡ record { name = o; refs = 0; fields = NONE; width = 0 })
      (fresh : entry_at es at ≡ None) (new : IsNewName (rows_in owner cells es) o) where
    name_is : row.name ≡ o
    name_is = ap (λ (r : UnitRow). r.name) is

    pub push_rows : rows_in owner cells (es ++ entry at row ∷ []) ≡ with_new_row (rows_in owner cells es) o owner
    push_rows = map-append (λ (e : ℕ × UnitRow). whole owner cells e.1) es (entry at row ∷ [])
        ∙ ap (λ (r : UnitRow). rows_in owner cells es ++ whole owner cells r ∷ []) is
        ∙ ap (λ ns. rows_in owner cells es ++ record { row = record { name = o; owner = owner; fields = filter_map (item_at cells.cells) ns }; refs = 0 } ∷ []) (no_numbers cells)

    bare : node row.fields ≡ None
    bare = ap (λ (r : UnitRow). node r.fields) is

    bare_keeps : KeepsFields cells row
    bare_keeps = subst (KeepsFields cells) (sym is) (bare_row cells o 0)

    bare_apart : (x : ℕ) → (s : UnitRow) → entry_at es x ≡ Some s → Apart row s
    bare_apart x s f c e k = cc (e, bare)

    lacked_name : Lacks same_name row.name (names_in es)
    lacked_name = subst (λ n. Lacks same_name n (names_in es)) (sym name_is) (new_lacks es o new)

    pub push_places : (q : ObjId) → lookup (same_name q) (places_in (es ++ entry at row ∷ [])) ≡ cond (same_name o q) (Some at) (lookup (same_name q) (places_in es))
    push_places q = more_places cells at row es unit fresh lacked_name bare_keeps bare_apart q ∙ ap (λ n. cond (same_name n q) (Some at) (lookup (same_name q) (places_in es))) name_is

    pub push_unit : IsUnit (es ++ entry at row ∷ []) cells
    push_unit = more_unit cells at row es unit fresh lacked_name bare_keeps bare_apart

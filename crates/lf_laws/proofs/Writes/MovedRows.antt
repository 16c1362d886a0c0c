-- The rows that move with a value, and what a write leaves of names and keys.
use Rattle.std.proofs.Common.{Bool, List, Some, [], ap, cond, false, inl, inr, map, refl, subst, sym, true, ◌&&◌, ◌++◌, ◌||◌, ◌∙◌, ◌∷◌, ◌≡◌}
use Rattle.std.specs.List.{list_any}
use Rattle.lf_base.specs.declared.ids.ObjId.{ObjId}
use Rattle.lf_base.specs.declared.values.Key.{Key}
use Rattle.lf_base.specs.declared.values.Owner.{Owner}
use Rattle.lf_base.specs.declared.values.Owner.TheVariants.{Local}
use Rattle.lf_base.specs.declared.values.Value.{Value}
use Rattle.lf_base.specs.Edges.{Edge, Field, field_targets, row_edges, rows_edges}
use Rattle.lf_base.specs.MoveSet.{move_set}
use Rattle.lf_base.specs.Names.{is_local, same_key, same_name, targets_of_value}
use Rattle.lf_base.specs.Owners.{has_name, names, owner_in}
use Rattle.lf_base.specs.PlainState.{Row, State}
use Rattle.lf_base.specs.Sets.{Differ, Member}
use Rattle.lf_base.specs.WriteResult.{put_field, relabel, write_fields}
use Rattle.lf_laws.proofs.Rows.RowsByName.{Distinct, row_of, mem_has, row_there, owner_mem, same_row}
use Rattle.std.proofs.lemmas.Bool.{and_from, and_parts, or_left, or_cases}
use Rattle.lf_base.proofs.ListLemmas.LeastSets.{JoinsMore, least_closed}
use Rattle.lf_laws.proofs.Rows.RowEdges.{edge_row, field_is}
use Rattle.lf_base.proofs.ListLemmas.Members.{Member_any, any_more}
use Rattle.std.proofs.Math.Bool.{or-true}
use Rattle.lf_base.proofs.NameLemmas.SameNames.{same_name_itself, other_key, same_key_is}
use Rattle.lf_base.proofs.ListLemmas.Filters.{Member_filter, Member_of_filter}
use Rattle.lf_laws.proofs.Rows.OwnerTests.{local_is}
use Rattle.lf_base.proofs.NameLemmas.RowNames.{has_names}

-- ---- keys
abbrev pub has_key : List (Key × Value) → Key → Bool
has_key fs k = list_any (λ j. same_key j k) (map (λ (f : Key × Value). f.0) fs)

abbrev pub KeysDiffer : List (Key × Value) → Type 0
KeysDiffer fs = Differ same_key (map (λ (f : Key × Value). f.0) fs)

has_key_put : (fs : List (Key × Value)) (k : Key) (v : Value) (j : Key) → same_key k j ≡ false → has_key (put_field fs k v) j ≡ has_key fs j
has_key_put [] k v j e = ap (λ b. b || false) e
has_key_put (f ∷ fs) k v j e =
    elim (same_key f.0 k) as (λ b. same_key f.0 k ≡ b → has_key (cond b ((k, v) ∷ fs) (f ∷ put_field fs k v)) j ≡ has_key (f ∷ fs) j) [
      | true ↦ λ h. ap (λ z. same_key z j || has_key fs j) (sym (same_key_is f.0 k h))
      | false ↦ λ h. ap (λ b. same_key f.0 j || b) (has_key_put fs k v j e)
    ] refl

pub keys_put : (fs : List (Key × Value)) (k : Key) (v : Value) → KeysDiffer fs → KeysDiffer (put_field fs k v)
keys_put [] k v d = (refl, tt)
keys_put (f ∷ fs) k v d =
    elim (same_key f.0 k) as (λ b. same_key f.0 k ≡ b → KeysDiffer (cond b ((k, v) ∷ fs) (f ∷ put_field fs k v))) [
      | true ↦ λ h. (ap (has_key fs) (sym (same_key_is f.0 k h)) ∙ d.0, d.1)
      | false ↦ λ h. (has_key_put fs k v f.0 (other_key f.0 k h) ∙ d.0, keys_put fs k v d.1)
    ] refl

-- ---- names stay
pub names_write : (rows : List Row) (x : ObjId) (k : Key) (v : Value) → names (write_fields rows x k v) ≡ names rows
names_write [] x k v = refl
names_write (r ∷ rs) x k v =
    elim (same_name r.name x) as (λ b. names (cond b (record r { fields = put_field r.fields k v }) r ∷ write_fields rs x k v) ≡ r.name ∷ names rs) [
      | true ↦ ap (λ l. r.name ∷ l) (names_write rs x k v)
      | false ↦ ap (λ l. r.name ∷ l) (names_write rs x k v)
    ]

pub names_relabel : (rows : List Row) (os : List ObjId) (w : Owner) → names (relabel rows os w) ≡ names rows
names_relabel [] os w = refl
names_relabel (r ∷ rs) os w =
    elim (has_name os r.name) as (λ b. names (cond b (record r { owner = w }) r ∷ relabel rs os w) ≡ r.name ∷ names rs) [
      | true ↦ ap (λ l. r.name ∷ l) (names_relabel rs os w)
      | false ↦ ap (λ l. r.name ∷ l) (names_relabel rs os w)
    ]

pub edges_relabel : (rows : List Row) (os : List ObjId) (w : Owner) → rows_edges (relabel rows os w) ≡ rows_edges rows
edges_relabel [] os w = refl
edges_relabel (r ∷ rs) os w =
    elim (has_name os r.name) as (λ b. row_edges (cond b (record r { owner = w }) r) ++ rows_edges (relabel rs os w) ≡ row_edges r ++ rows_edges rs) [
      | true ↦ ap (λ l. row_edges r ++ l) (edges_relabel rs os w)
      | false ↦ ap (λ l. row_edges r ++ l) (edges_relabel rs os w)
    ]

-- ---- the rows that move
module _ (s : State) (v : Value) where
  abbrev pub joins : List Row → Row → Bool
  joins marked row = is_local row.owner && (has_name (targets_of_value v) row.name || list_any (λ m. has_name (field_targets m.fields) row.name) marked)

  joins_more : JoinsMore joins s.rows
  joins_more xs ys x w e =
      let p = and_parts (is_local x.owner) (has_name (targets_of_value v) x.name || list_any (λ m. has_name (field_targets m.fields) x.name) xs) e in
      and_from _ _ p.0 (elim (or_cases (has_name (targets_of_value v) x.name) (list_any (λ m. has_name (field_targets m.fields) x.name) xs) p.1) [
        | inl h ↦ or_left _ _ h
        | inr h ↦ ap (λ b. has_name (targets_of_value v) x.name || b) (any_more (λ m. has_name (field_targets m.fields) x.name) xs ys w h) ∙ or-true _
      ])

  member : (y : Row) → Member y (move_set s v) → Member y s.rows × (joins (move_set s v) y ≡ true)
  member y m = Member_of_filter (joins (move_set s v)) y s.rows (subst (Member y) (sym (least_closed joins s.rows joins_more)) m)

  joined : (y : Row) → Member y s.rows → joins (move_set s v) y ≡ true → Member y (move_set s v)
  joined y m e = subst (Member y) (least_closed joins s.rows joins_more) (Member_filter (joins (move_set s v)) y s.rows m e)

  pub move_local : (y : Row) → Member y (move_set s v) → Member y s.rows × (y.owner ≡ Local)
  move_local y m = let t = member y m in (t.0, local_is y.owner (and_parts (is_local y.owner) _ t.1).0)

  pub move_start : (y : Row) → Member y s.rows → y.owner ≡ Local → Member y.name (targets_of_value v) → Member y (move_set s v)
  move_start y m l t = joined y m (and_from _ _ (ap is_local l) (or_left _ _ (Member_any (λ p. same_name p y.name) y.name (targets_of_value v) t (same_name_itself y.name))))

  pub move_step : (x y : Row) → Member x (move_set s v) → Member y s.rows → y.owner ≡ Local → Member y.name (field_targets x.fields) → Member y (move_set s v)
  move_step x y k m l t = joined y m (and_from _ _ (ap is_local l)
      (ap (λ b. has_name (targets_of_value v) y.name || b)
      (Member_any (λ (m : Row). has_name (field_targets m.fields) y.name) x (move_set s v) k (Member_any (λ p. same_name p y.name) y.name (field_targets x.fields) t (same_name_itself y.name)))
      ∙ or-true _))

  abbrev pub moved_names : List ObjId
  moved_names = names (move_set s v)

  pub of_moved : (o : ObjId) → has_name moved_names o ≡ true → (y : Row) × (Member y (move_set s v) × (y.name ≡ o))
  of_moved o h = row_there (move_set s v) o (sym (has_names (move_set s v) o) ∙ h)

  pub to_moved : (y : Row) → Member y (move_set s v) → has_name moved_names y.name ≡ true
  to_moved y m = has_names (move_set s v) y.name ∙ mem_has y (move_set s v) m

  module _ (d : Distinct s.rows) where
    pub moved_local : (o : ObjId) → has_name moved_names o ≡ true → owner_in s.rows o ≡ Some Local
    moved_local o h = let t = of_moved o h in let m = move_local t.0 t.1.0 in subst (λ n. owner_in s.rows n ≡ Some Local) t.1.1 (owner_mem s.rows d t.0 m.0 ∙ ap Some m.1)

    pub moved_start : (o : ObjId) → Member o (targets_of_value v) → owner_in s.rows o ≡ Some Local → has_name moved_names o ≡ true
    moved_start o m h = let y = row_of s.rows o Local h in
        subst (λ n. has_name moved_names n ≡ true) y.name (to_moved y.row (move_start y.row y.mem y.owner (subst (λ n. Member n (targets_of_value v)) (sym y.name) m)))

    pub moved_step : (e : Edge) → Member e (rows_edges s.rows) → (p : ObjId) → e.from ≡ Field p → has_name moved_names p ≡ true → owner_in s.rows e.to ≡ Some Local → has_name moved_names e.to ≡ true
    moved_step e m p f h k =
        let x = edge_row s.rows e m in
        let t = of_moved p h in
        let same : t.0 ≡ x.row = same_row s.rows d t.0 x.row (move_local t.0 t.1.0).0 x.mem (t.1.1 ∙ field_is p (x.row).name (sym f ∙ x.from)) in
        let y = row_of s.rows e.to Local k in
        subst (λ n. has_name moved_names n ≡ true) y.name
        (to_moved y.row (move_step x.row y.row (subst (λ z. Member z (move_set s v)) same t.1.0) y.mem y.owner (subst (λ n. Member n (field_targets (x.row).fields)) (sym y.name) x.to)))

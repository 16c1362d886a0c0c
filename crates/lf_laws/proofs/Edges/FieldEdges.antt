-- The edges after a field of a row is written or taken out.
use Rattle.std.proofs.Common.{Bool, List, Some, [], ap, arith, cond, false, map, refl, subst, sym, true, ℕ, ◌++◌, ◌+◌, ◌||◌, ◌∙◌, ◌∷◌, ◌≡◌}
use Rattle.std.specs.List.{count_by}
use Rattle.lf_base.specs.EdgeLists.{SameEdges, near_edges}
use Rattle.lf_base.specs.Edges.{Edge, Field, Source, edges, edges_by, field_targets, row_edges, rows_edges, slot_targets}
use Rattle.lf_base.specs.Names.{same_key, same_name, targets_of_value}
use Rattle.lf_base.specs.Owners.{has_row, row_at}
use Rattle.lf_base.specs.PlainState.{Row, State}
use Rattle.lf_base.specs.TakeResult.{drop_field, field_at, take_result}
use Rattle.lf_base.specs.WellFormed.{WellFormed}
use Rattle.lf_base.specs.WriteResult.{is_at, put_field, write_fields, write_result}
use Rattle.lf_base.specs.declared.ids.ObjId.{ObjId}
use Rattle.lf_base.specs.declared.values.Key.{Key}
use Rattle.lf_base.specs.declared.values.Value.{Value}
use Rattle.lf_base.proofs.NameLemmas.SameNames.{same_name_is, same_name_itself}
use Rattle.lf_laws.proofs.Dropping.RowsInPlace.{rows_in_place}
use Rattle.lf_laws.proofs.Edges.EdgeParts.{all_from_near, count_app, near_rows}
use Rattle.lf_laws.proofs.Edges.OwnerEdges.{near_written}
use Rattle.lf_laws.proofs.Rows.RowsByName.{Distinct}
use Rattle.std.proofs.lemmas.List.{map-append}

pub name_of_found : (rows : List Row) (x : ObjId) (row : Row) → row_at rows x ≡ Some row → row.name ≡ x
name_of_found [] x row e = cc
name_of_found (r ∷ rs) x row e =
    elim (same_name r.name x) as (λ b. same_name r.name x ≡ b → cond b (Some r) (row_at rs x) ≡ Some row → row.name ≡ x) [
      | true ↦ λ same found. let here : r ≡ row = cc in ap (λ (w : Row). w.name) (sym here) ∙ same_name_is r.name x same
      | false ↦ λ same found. name_of_found rs x row found
    ] refl e

-- ---- rows of which one changes
module _ (f : Row → Row) (x : ObjId) (same : (r : Row) → is_at x r ≡ false → f r ≡ r) where
  pub unchanged : (rows : List Row) → has_row rows x ≡ false → map f rows ≡ rows
  unchanged [] h = refl
  unchanged (r ∷ rs) h =
      elim (is_at x r) as (λ b. is_at x r ≡ b → (b || has_row rs x) ≡ false → f r ∷ map f rs ≡ r ∷ rs) [
        | true ↦ λ e k. cc
        | false ↦ λ e k. ap (λ q. q ∷ map f rs) (same r e) ∙ ap (λ l. r ∷ l) (unchanged rs k)
      ] refl h

  -- the rows' edges change by those of that row
  pub changed : (p : Edge → Bool) (rows : List Row) (row : Row) → Distinct rows → row_at rows x ≡ Some row
      → count_by p (rows_edges (map f rows)) + count_by p (row_edges row) ≡ count_by p (rows_edges rows) + count_by p (row_edges (f row))
  changed p [] row d e = cc
  changed p (r ∷ rs) row d e =
      elim (same_name r.name x) as (λ b. same_name r.name x ≡ b → cond b (Some r) (row_at rs x) ≡ Some row
      → count_by p (rows_edges (map f (r ∷ rs))) + count_by p (row_edges row) ≡ count_by p (rows_edges (r ∷ rs)) + count_by p (row_edges (f row))) [
        | true ↦ λ h found.
            let here : r ≡ row = cc in
            let rest : map f rs ≡ rs = unchanged rs (ap (has_row rs) (sym (same_name_is r.name x h)) ∙ d.0) in
            omega (
              arith,
              count_app p (row_edges (f r)) (rows_edges (map f rs)),
              count_app p (row_edges r) (rows_edges rs),
              ap (λ l. count_by p (rows_edges l)) rest,
              ap (λ w. count_by p (row_edges w)) here,
              ap (λ w. count_by p (row_edges (f w))) here,
            )
        | false ↦ λ h found.
            omega (
              arith,
              count_app p (row_edges (f r)) (rows_edges (map f rs)),
              count_app p (row_edges r) (rows_edges rs),
              ap (λ w. count_by p (row_edges w)) (same r h),
              changed p rs row d.1 found,
            )
      ] refl e

-- ---- the fields of one row
module _ (p : Edge → Bool) (from : Source) where
  abbrev worth : List ObjId → ℕ
  worth os = count_by p (edges_by from os)

  worth_app : (os ps : List ObjId) → worth (os ++ ps) ≡ worth os + worth ps
  worth_app os ps = ap (count_by p) (map-append (λ (o : ObjId). record { from = from; to = o }) os ps) ∙ count_app p (edges_by from os) (edges_by from ps)

  pub put_worth : (fs : List (Key × Value)) (k : Key) (v : Value)
      → worth (field_targets (put_field fs k v)) + worth (slot_targets (field_at fs k)) ≡ worth (field_targets fs) + worth (targets_of_value v)
  put_worth [] k v = omega (arith, worth_app (targets_of_value v) [])
  put_worth (f ∷ fs) k v =
      elim (same_key f.0 k) as (λ b. worth (field_targets (cond b ((k, v) ∷ fs) (f ∷ put_field fs k v))) + worth (slot_targets (cond b (Some f.1) (field_at fs k))) ≡ worth (field_targets (f ∷ fs)) + worth (targets_of_value v)) [
        | true ↦ omega (arith, worth_app (targets_of_value v) (field_targets fs), worth_app (targets_of_value f.1) (field_targets fs))
        | false ↦ omega (arith, worth_app (targets_of_value f.1) (field_targets (put_field fs k v)), worth_app (targets_of_value f.1) (field_targets fs), put_worth fs k v)
      ]

  pub drop_worth : (fs : List (Key × Value)) (k : Key) → worth (field_targets (drop_field fs k)) + worth (slot_targets (field_at fs k)) ≡ worth (field_targets fs)
  drop_worth [] k = omega arith
  drop_worth (f ∷ fs) k =
      elim (same_key f.0 k) as (λ b. worth (field_targets (cond b fs (f ∷ drop_field fs k))) + worth (slot_targets (cond b (Some f.1) (field_at fs k))) ≡ worth (field_targets (f ∷ fs))) [
        | true ↦ omega (arith, worth_app (targets_of_value f.1) (field_targets fs))
        | false ↦ omega (arith, worth_app (targets_of_value f.1) (field_targets (drop_field fs k)), worth_app (targets_of_value f.1) (field_targets fs), drop_worth fs k)
      ]

-- ---- the rows after a write and after a take
abbrev pub put_row : ObjId → Key → Value → Row → Row
put_row x k v r = cond (is_at x r) (record r { fields = put_field r.fields k v }) r

pub put_elsewhere : (x : ObjId) (k : Key) (v : Value) (r : Row) → is_at x r ≡ false → put_row x k v r ≡ r
put_elsewhere x k v r h = ap (λ b. cond b (record r { fields = put_field r.fields k v }) r) h

abbrev drop_row : ObjId → Key → Row → Row
drop_row x k r = cond (is_at x r) (record r { fields = drop_field r.fields k }) r

drop_elsewhere : (x : ObjId) (k : Key) (r : Row) → is_at x r ≡ false → drop_row x k r ≡ r
drop_elsewhere x k r h = ap (λ b. cond b (record r { fields = drop_field r.fields k }) r) h

module _ (x : ObjId) (k : Key) (rows : List Row) (row : Row) (d : Distinct rows) (found : row_at rows x ≡ Some row) where
  name : row.name ≡ x
  name = name_of_found rows x row found

  here : is_at x row ≡ true
  here = ap (λ n. same_name n x) name ∙ same_name_itself x

  abbrev pub old_edges : List Edge
  old_edges = edges_by (Field x) (slot_targets (field_at row.fields k))

  at_field : (p : Edge → Bool) (os : List ObjId) → count_by p (edges_by (Field row.name) os) ≡ count_by p (edges_by (Field x) os)
  at_field p os = ap (λ n. count_by p (edges_by (Field n) os)) name

  pub write_rows : (v : Value) → SameEdges (edges_by (Field x) (targets_of_value v) ++ rows_edges rows) (old_edges ++ rows_edges (write_fields rows x k v))
  write_rows v p =
      omega (
        arith,
        count_app p (edges_by (Field x) (targets_of_value v)) (rows_edges rows),
        count_app p old_edges (rows_edges (write_fields rows x k v)),
        changed (put_row x k v) x (put_elsewhere x k v) p rows row d found,
        ap (λ b. count_by p (row_edges (cond b (record row { fields = put_field row.fields k v }) row))) here,
        put_worth p (Field row.name) row.fields k v,
        at_field p (slot_targets (field_at row.fields k)),
        at_field p (targets_of_value v),
      )

  pub take_rows : SameEdges (rows_edges rows) (old_edges ++ rows_edges (map (drop_row x k) rows))
  take_rows p =
      omega (
        arith,
        count_app p old_edges (rows_edges (map (drop_row x k) rows)),
        changed (drop_row x k) x (drop_elsewhere x k) p rows row d found,
        ap (λ b. count_by p (row_edges (cond b (record row { fields = drop_field row.fields k }) row))) here,
        drop_worth p (Field row.name) row.fields k,
        at_field p (slot_targets (field_at row.fields k)),
      )

-- ---- the edges of the state
module _ (s : State) (x : ObjId) (k : Key) (row : Row) (t : WellFormed s) (found : row_at s.rows x ≡ Some row) where
  pub d : Distinct s.rows
  d = (rows_in_place s t).distinct

  abbrev gone : List Edge
  gone = old_edges x k s.rows row d found

  pub near_take : SameEdges (near_edges s) (gone ++ near_edges (take_result s x k))
  near_take = near_rows s (take_result s x k).rows [] gone (take_rows x k s.rows row d found)

  pub all_take : SameEdges (edges s) (gone ++ edges (take_result s x k))
  all_take = all_from_near s (take_result s x k) [] gone refl near_take

  module _ (v : Value) where
    abbrev new : List Edge
    new = edges_by (Field x) (targets_of_value v)

    abbrev after : State
    after = write_result s x k v

    pub near_write : SameEdges (new ++ near_edges s) (gone ++ near_edges after)
    near_write = subst (λ l. SameEdges (new ++ near_edges s) (gone ++ l)) (sym (near_written s x k v)) (near_rows s (write_fields s.rows x k v) new gone (write_rows x k s.rows row d found v))

    pub all_write : SameEdges (new ++ edges s) (gone ++ edges after)
    all_write = all_from_near s after new gone refl near_write

    -- the edges after the write are the new value's and those that a take leaves
    pub near_put : SameEdges (new ++ near_edges (take_result s x k)) (near_edges after)
    near_put p =
        omega (
          arith,
          near_write p,
          near_take p,
          count_app p new (near_edges s),
          count_app p new (near_edges (take_result s x k)),
          count_app p gone (near_edges after),
          count_app p gone (near_edges (take_result s x k)),
        )

    pub all_put : SameEdges (new ++ edges (take_result s x k)) (edges after)
    all_put = all_from_near (take_result s x k) after new [] refl near_put

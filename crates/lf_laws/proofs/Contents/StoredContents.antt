-- Contents that stand each by itself stand together, where their cowns and names differ.
use Rattle.std.proofs.Common.{List, Some, [], ap, false, inl, inr, refl, subst, sym, true, ℕ, ◌++◌, ◌∙◌, ◌∷◌, ◌≡◌}
use Rattle.std.proofs.lemmas.Bool.{both_ways}
use Rattle.std.specs.List.{list_any}
use Rattle.lf_base.specs.declared.ids.CownId.{CownId}
use Rattle.lf_base.specs.declared.ids.ObjId.{ObjId}
use Rattle.lf_base.specs.declared.values.Owner.{Owner}
use Rattle.lf_base.specs.declared.values.Value.{Value}
use Rattle.lf_base.specs.Contents.{Parked, cowns_of, joined_rows, single, stored, values_of}
use Rattle.lf_base.specs.Edges.{Content, content_edges, edges_by, row_edges, rows_edges}
use Rattle.lf_base.specs.Kept.{kept}
use Rattle.lf_base.specs.Names.{same_cown, same_name, targets_of_value}
use Rattle.lf_base.specs.Owners.{has_row, names, owner_in}
use Rattle.lf_base.specs.PlainState.{Row, State}
use Rattle.lf_base.specs.Sets.{Differ, Member}
use Rattle.lf_base.specs.WellFormed.{MayBeGiven, WellFormed}
use Rattle.lf_base.specs.WholeContents.{MayBegin, Whole}
use Rattle.lf_base.proofs.ListLemmas.Members.{Member_any, Member_map, Within, Within_append, Within_flat_map, any_more}
use Rattle.lf_base.proofs.NameLemmas.SameNames.{one_cown}
use Rattle.lf_laws.proofs.Changes.FirstState.{first_whole}
use Rattle.lf_laws.proofs.Contents.JoinedContents.{joined_whole}
use Rattle.lf_laws.proofs.Contents.JoinedRows.{joined_in, rows_in}
use Rattle.lf_laws.proofs.KeptStates.NothingDropped.{Adds, justified_of, justified_on, kept_itself}
use Rattle.lf_laws.proofs.Rows.RowsByName.{differ_rows, mem_has, owner_mem, row_of, row_there}

pub same_cowns : (cs : List (CownId × Parked)) → cowns_of (values_of cs) ≡ cowns_of cs
same_cowns [] = refl
same_cowns (c ∷ cs) = ap (λ l. c.0 ∷ l) (same_cowns cs)

-- the names of two contents of different cowns differ
abbrev pub NamesApart : List (CownId × Parked) → Type 0
NamesApart cs = (c d : CownId × Parked) (o : ObjId) → Member c cs → Member d cs → has_row (c.1).rows o ≡ true → has_row (d.1).rows o ≡ true → c.0 ≡ d.0

pub stored_whole : (b : ℕ) (frozen : List Row) → MayBeGiven b frozen → (cs : List (CownId × Parked)) → ((c : CownId × Parked) → Member c cs → Whole b c.0 c.1 frozen)
    → NamesApart cs → Differ same_cown (cowns_of cs) → WellFormed (stored b cs frozen)
stored_whole b frozen g [] w a d = first_whole b frozen g
stored_whole b frozen g (c ∷ cs) w a d = joined_whole b c.0 c.1 cs frozen (w c (inl refl)).whole
    (stored_whole b frozen g cs (λ x m. w x (inr m)) (λ x y o m n. a x y o (inr m) (inr n)) d.1)
    (λ o h k.
    let r = row_there (joined_rows cs) o k in
    let x = joined_in cs r.0 r.1.0 in
    let same : c.0 ≡ (x.0).0 = a c x.0 o (inl refl) (inr x.1.0) h (subst (λ n. has_row ((x.0).1).rows n ≡ true) r.1.1 (mem_has r.0 ((x.0).1).rows x.1.1)) in
    both_ways _ d.0 (Member_any (λ z. same_cown z c.0) (x.0).0 (cowns_of cs) (Member_map (λ (z : CownId × Parked). z.0) x.0 cs x.1.0) (one_cown (x.0).0 c.0 (sym same))))
    (subst (λ ks. list_any (λ z. same_cown z c.0) ks ≡ false) (sym (same_cowns cs)) d.0)

module _ (b : ℕ) (cs : List (CownId × Parked)) (frozen : List Row) (w : WellFormed (stored b cs frozen)) (whole : (c : CownId × Parked) → Member c cs → Whole b c.0 c.1 frozen) where
  abbrev all : State
  all = stored b cs frozen

  module _ (c : CownId × Parked) (m : Member c cs) where
    abbrev one : State
    one = single b c.0 c.1 frozen

    owner_on : (o : ObjId) (v : Owner) → owner_in one.rows o ≡ Some v → owner_in all.rows o ≡ Some v
    owner_on o v e =
        let x = row_of one.rows o v e in
        subst (λ n. owner_in all.rows n ≡ Some v) x.name (owner_mem all.rows (differ_rows all.rows (names frozen ++ []) w.names_differ) x.row (rows_in cs c m x.row x.mem) ∙ ap Some x.owner)

    edges_on : Within (rows_edges one.rows) (rows_edges all.rows)
    edges_on = Within_flat_map row_edges one.rows all.rows (rows_in cs c m)

    content_on : Within (content_edges one.held) (content_edges all.held)
    content_on = Within_flat_map (λ (d : CownId × Value). edges_by (Content d.0) (targets_of_value d.1)) one.held all.held (λ d n. elim n [
      | inl e ↦ subst (λ z. Member z (values_of cs)) e (Member_map (λ (z : CownId × Parked). (z.0, (z.1).value)) c cs m)
      | inr n ↦ absurd n
    ])

    adds : Adds one all
    adds = record {
      owners = owner_on;
      near = edges_on;
      owning = Within_append (rows_edges one.rows) (rows_edges all.rows) (content_edges one.held ++ []) (content_edges all.held ++ []) edges_on
          (Within_append (content_edges one.held) (content_edges all.held) [] [] content_on (λ e n. n));
      here = λ o e. any_more (λ (x : Row). same_name x.name o) one.rows all.rows (rows_in cs c m) e;
    }

  pub stored_stay : kept all ≡ all
  stored_stay = kept_itself all (λ x n. let y = joined_in cs x n in
      justified_on (one y.0 y.1.0) all (adds y.0 y.1.0) x.name x.owner (justified_of (one y.0 y.1.0) (whole y.0 y.1.0).all_stay x y.1.1))

pub contents_begin : (b : ℕ) (frozen : List Row) (cs : List (CownId × Parked)) → MayBeGiven b frozen → ((c : CownId × Parked) → Member c cs → Whole b c.0 c.1 frozen)
    → NamesApart cs → Differ same_cown (cowns_of cs) → MayBegin b cs frozen
contents_begin b frozen cs g whole apart differ =
    let w = stored_whole b frozen g cs whole apart differ in
    record { whole = w; all_stay = stored_stay b cs frozen w whole }

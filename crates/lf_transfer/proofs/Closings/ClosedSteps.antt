-- One step of a close: from the state that it had come to, to one with an edge less.
use Rattle.std.proofs.Common.{Bool, List, None, Option, Some, [], ap, arith, cond, count_by, eqb, false, filter, inl, inr, length, map, not, refl, subst, sym, true, ℕ, ◌&&◌, ◌+◌, ◌++◌, ◌<◌, ◌^◌, ◌∙◌, ◌∷◌, ◌≡◌, ◌≤◌, ◌||◌}
use Rattle.std.proofs.lemmas.Bool.{and_parts}
use Rattle.std.proofs.lemmas.List.{length-append}
use Rattle.std.specs.List.{list_any}
use Rattle.lf_base.specs.declared.ids.ObjId.{ObjId}
use Rattle.lf_base.specs.declared.values.Owner.{Owner}
use Rattle.lf_base.specs.declared.values.Value.{Value}
use Rattle.lf_base.specs.declared.values.Value.TheVariants as value
use Rattle.lf_base.specs.CloseResult.{leads_into}
use Rattle.lf_base.specs.EdgeLists.{SameEdges, near_edges}
use Rattle.lf_base.specs.Edges.{Edge, Source, edges, edges_by}
use Rattle.lf_base.specs.Names.{is_local, name_below, same_name, targets_of_value}
use Rattle.lf_base.specs.Owners.{has_row, owner_in}
use Rattle.lf_base.specs.PlainChanges.{insert_row}
use Rattle.lf_base.specs.PlainState.{Row, State}
use Rattle.lf_base.specs.Sets.{Differ, Member}
use Rattle.lf_base.specs.WalkCounts.{refs}
use Rattle.lf_base.specs.WellFormed.{WellFormed}
use Rattle.lf_base.proofs.ListLemmas.Filters.{Member_filter, Member_of_filter, filter_full, full_or_less}
use Rattle.lf_base.proofs.ListLemmas.Tests.{none_any}
use Rattle.lf_base.proofs.NameLemmas.SameNames.{same_name_itself}
use Rattle.lf_domain.specs.Counts.{Counts, CountsOf, IsDomain}
use Rattle.lf_domain.proofs.StoreEdges.{owned_has_row, owner_told}
use Rattle.lf_graph.specs.StoredRows.{CountedRow, owner_at, plain, refs_at, rows_by_name}
use Rattle.lf_laws.proofs.Edges.EdgeParts.{count_app}
use Rattle.lf_laws.proofs.Edges.FrozenEdges.{near_refs}
use Rattle.lf_laws.proofs.Rows.MappedRows.{mapped_owner}
use Rattle.lf_laws.proofs.Rows.RowsByName.{Member_has_name, owner_has, row_there}
use Rattle.lf_regions.specs.declared.region.Region.{Region}
use Rattle.lf_transfer.specs.Closing.{Closing, LetsLoose, come_to, is_inner, leads_within, lies_within, shut, shut_fields, with_loose}
use Rattle.lf_transfer.specs.LooseNames.{LooseNames}
use Rattle.lf_transfer.proofs.Closings.LooseSteps.{lets_loose, not_loose, one_more}

module _ (leads : Value → Bool) (row : Row) where
  shut_name : (shut_fields leads row).name ≡ row.name
  shut_name = elim (is_local row.owner) as (λ b. (cond b (record row { fields = map (λ f. (f.0, cond (leads f.1) value.None f.1)) row.fields }) row).name ≡ row.name) [ true ↦ refl | false ↦ refl ]

  shut_owner : (shut_fields leads row).owner ≡ row.owner
  shut_owner = elim (is_local row.owner) as (λ b. (cond b (record row { fields = map (λ f. (f.0, cond (leads f.1) value.None f.1)) row.fields }) row).owner ≡ row.owner) [ true ↦ refl | false ↦ refl ]

pub same_owners_shut : (leads : Value → Bool) (rows : List Row) (o : ObjId) → owner_in (map (shut_fields leads) rows) o ≡ owner_in rows o
same_owners_shut leads = mapped_owner (shut_fields leads) (shut_name leads) (shut_owner leads)

all_counted : (es : List Edge) → count_by (λ e. true) es ≡ length es
all_counted [] = refl
all_counted (e ∷ es) = omega (arith, count_app (λ (e : Edge). true) (e ∷ []) es, all_counted es)

inserted_length : (r : Row) (rows : List Row) → length (insert_row r rows) ≡ length rows + 1
inserted_length r [] = refl
inserted_length r (x ∷ xs) = elim (name_below r.name x.name) as (λ b. length (cond b (r ∷ (x ∷ xs)) (x ∷ insert_row r xs)) ≡ length (x ∷ xs) + 1) [
  | true ↦ omega arith
  | false ↦ omega (arith, inserted_length r xs)
]

-- by rising name there are as many rows
pub ordered_length : (rows : List CountedRow) → length (rows_by_name (plain rows)) ≡ length rows
ordered_length [] = refl
ordered_length (c ∷ cs) = omega (arith, inserted_length c.row (rows_by_name (plain cs)), ordered_length cs)

-- ---- names that differ are no more than the rows that they name
fewer_without : (rows : List Row) (x : Row) (o : ObjId) → Member x rows → x.name ≡ o → length (filter (λ y. not (same_name y.name o)) rows) < length rows
fewer_without rows x o m name = elim (full_or_less (λ (y : Row). not (same_name y.name o)) rows) as (λ _. length (filter (λ y. not (same_name y.name o)) rows) < length rows) [
  | inl full ↦ absurd (
      let kept = Member_of_filter (λ (y : Row). not (same_name y.name o)) x rows (subst (Member x) (sym (filter_full (λ (y : Row). not (same_name y.name o)) rows full)) m) in
      let z : true ≡ false = sym kept.1 ∙ ap not (ap (λ n. same_name n o) name ∙ same_name_itself o) in cc)
  | inr less ↦ less
]

pub no_more_than_rows : (rows : List Row) (os : List ObjId) → Differ same_name os → ((o : ObjId) → Member o os → (x : Row) × (Member x rows × (x.name ≡ o))) → length os ≤ length rows
no_more_than_rows rows [] d named = omega arith
no_more_than_rows rows (o ∷ os) d named =
    let first = named o (inl refl) in
    omega (
      arith,
      fewer_without rows first.0 o first.1.0 first.1.1,
      no_more_than_rows (filter (λ y. not (same_name y.name o)) rows) os d.1 (λ p m.
          let x = named p (inr m) in (
            x.0,
            (
              Member_filter (λ (y : Row). not (same_name y.name o)) x.0 rows x.1.0
                  (ap (λ n. not (same_name n o)) x.1.1 ∙ ap not (none_any (λ q. same_name q o) os d.0 p m)),
              x.1.1,
            ),
          )),
    )

-- ---- what leads into the regions
pub any_same : (p q : ObjId → Bool) → ((o : ObjId) → p o ≡ q o) → (os : List ObjId) → list_any p os ≡ list_any q os
any_same p q same [] = refl
any_same p q same (o ∷ os) = (λ i. same o i || any_same p q same os i)

leads_alike : (rows next : List CountedRow) (within : List ObjId) → ((o : ObjId) → owner_at next o ≡ owner_at rows o) → (v : Value) → leads_within next within v ≡ leads_within rows within v
leads_alike rows next within same v = any_same (λ o. lies_within within (owner_at next o)) (λ o. lies_within within (owner_at rows o)) (λ o. ap (lies_within within) (same o)) (targets_of_value v)

inner_there : (o : ObjId) (w : Option Owner) → is_inner o w ≡ true → (u : Owner) × (w ≡ Some u)
inner_there o None e = absurd (cc)
inner_there o (Some u) e = (u, refl)

-- ---- what is so after each step
module _ (s : State) (at : ℕ) (r : ObjId) (within : List ObjId) (before : LooseNames)
    (rows : List CountedRow) (regions : List Region) (slots : List (Option Value)) (mid : LooseNames)
    (c : Closing s at r within before rows regions slots mid) where
  abbrev pub here : State
  here = come_to s rows slots

  pub owners_stay : (o : ObjId) → owner_in here.rows o ≡ owner_in s.rows o
  owners_stay o = sym (same_owners_shut (leads_into s r) here.rows o) ∙ ap (λ (u : State). owner_in u.rows o) c.same ∙ same_owners_shut (leads_into s r) s.rows o

  pub stored_owner : (o : ObjId) → owner_at rows o ≡ owner_in s.rows o
  stored_owner o = sym (owner_told rows here.rows o (((c.domain).counts).store).rows) ∙ owners_stay o

  named_rows : (p : ObjId) → Member p ((c.loose).names).more → (x : Row) × (Member x s.rows × (x.name ≡ p))
  named_rows p m =
      let z = inner_there p (owner_in s.rows p) (and_parts _ _ (sym (((c.loose).names).each p) ∙ Member_has_name p ((c.loose).names).more m)).0 in
      row_there s.rows p (owner_has s.rows p z.0 z.1)

  -- the list has no more names than there are rows, besides those that it had
  pub no_more_names : length mid.names ≤ length s.rows + length before.names
  no_more_names = omega (
    arith,
    no_more_than_rows s.rows ((c.loose).names).more ((c.loose).names).once named_rows,
    ap length ((c.loose).names).grows ∙ length-append ((c.loose).names).more before.names,
  )

  -- the list has room for one more name of a row that wasn't let loose yet
  has_room : (o : ObjId) (w : Owner) → owner_in s.rows o ≡ Some w → 0 < refs here o → 1 ≤ mid.spare
  has_room o w there some =
      let named : (p : ObjId) → Member p (o ∷ ((c.loose).names).more) → (x : Row) × (Member x s.rows × (x.name ≡ p)) = λ p m. elim m [
        | inl e ↦ row_there s.rows p (subst (λ n. has_row s.rows n ≡ true) e (owner_has s.rows o w there))
        | inr k ↦ named_rows p k
      ] in
      omega (
        arith,
        no_more_than_rows s.rows (o ∷ ((c.loose).names).more) (((c.loose).names).each o ∙ not_loose s here o some, ((c.loose).names).once) named,
        ap length ((c.loose).names).grows ∙ length-append ((c.loose).names).more before.names,
        (c.loose).room,
        c.fits,
      )

  -- ---- a state with one edge less, whose owners are the same
  module _ (u : State) (from : Source) (o : ObjId) (w : Owner) (there : owner_in s.rows o ≡ Some w)
      (near : SameEdges (near_edges here) (edges_by from (o ∷ []) ++ near_edges u))
      (all : SameEdges (edges here) (edges_by from (o ∷ []) ++ edges u)) where
    lost : (q : ObjId) → refs here q ≡ refs u q + cond (same_name o q) 1 0
    lost q = omega (arith, all (λ e. same_name e.to q), count_app (λ (e : Edge). same_name e.to q) (edges_by from (o ∷ [])) (edges u))

    pub room_here : 1 ≤ mid.spare
    room_here = has_room o w there (omega (arith, one_more s here u o lost))

    module _ (owners : (q : ObjId) → owner_in u.rows q ≡ owner_in here.rows q) (keeps : WellFormed u)
        (same : shut (leads_into s r) at u ≡ shut (leads_into s r) at here)
        (next : List CountedRow) (table : List Region) (of : List Row) (counts : Counts next table of (near_edges u))
        (of_owners : (q : ObjId) → owner_in of q ≡ owner_in s.rows q) where
      owner_is : (q : ObjId) → owner_in u.rows q ≡ owner_in s.rows q
      owner_is q = owners q ∙ owners_stay q

      owner_next : (q : ObjId) → owner_at next q ≡ owner_in s.rows q
      owner_next q = sym (owner_told next of q (counts.store).rows) ∙ of_owners q

      refs_next : refs_at next o ≡ refs u o
      refs_next = (counts.store).refs o (owned_has_row next o w (owner_next o ∙ there)) ∙ sym (near_refs u keeps o (owner_has u.rows o w (owner_is o ∙ there)))

      few : length (near_edges u) < 2 ^ 63
      few = omega (
        arith,
        near (λ e. true),
        count_app (λ (e : Edge). true) (edges_by from (o ∷ [])) (near_edges u),
        all_counted (near_edges u),
        all_counted (near_edges here),
        (c.domain).few,
      )

      -- where the object was named by its count in that store
      pub one_less : (last : List CountedRow) (regions_then : List Region) (slots_then : List (Option Value)) (names : LooseNames)
          → u ≡ come_to s last slots_then → CountsOf last regions_then u
          → names.names ≡ with_loose next (o ∷ []) mid.names → names.spare + length names.names ≡ mid.spare + length mid.names
          → Closing s at r within before last regions_then slots_then names
      one_less last regions_then slots_then names is last_counts named room = record {
        domain = subst (IsDomain last regions_then) is (record { counts = last_counts; well_formed = keeps; few = few });
        leads = λ v. leads_alike rows last within (λ q. sym (owner_told last u.rows q (last_counts.store).rows) ∙ owner_is q ∙ sym (stored_owner q)) v ∙ c.leads v;
        same = ap (shut (leads_into s r) at) (sym is) ∙ same ∙ c.same;
        fewer = λ q. subst (λ (x : State). refs x q ≤ refs s q) is (omega (arith, lost q, c.fewer q));
        loose = record {
          names = subst (λ (x : State). LetsLoose s x before.names names.names) is (lets_loose s here u o lost c.fewer before.names mid.names names.names (c.loose).names
              (named ∙ (λ i. cond (is_inner o (owner_next o i) && eqb (refs_next i) 0) (o ∷ mid.names) mid.names)));
          room = room ∙ (c.loose).room;
        };
        fits = c.fits;
      }

-- Rows gone over one by one: their edges taken out of the counts, the rows given to a region, their edges counted.
use Rattle.std.proofs.Common.{List, None, Option, Some, [], ap, arith, cond, drop, false, get_or, length, map, refl, subst, suc, sym, true, zero, ℕ, ◌++◌, ◌<◌, ◌||◌, ◌∙◌, ◌∷◌, ◌≡◌, ◌≤◌}
use Rattle.std.proofs.lemmas.Bool.{false_from_ne_true, or_parts}
use Rattle.std.proofs.lemmas.List.{append_assoc}
use Rattle.std.proofs.Math.Bool.{or-true}
use Rattle.std.specs.Option.{option_map}
use Rattle.lf_base.specs.declared.ids.ObjId.{ObjId}
use Rattle.lf_base.specs.declared.values.Owner.{Owner}
use Rattle.lf_base.specs.declared.values.Owner.TheVariants.{In, Local}
use Rattle.lf_base.specs.EdgeLists.{SameEdges, begins_at}
use Rattle.lf_base.specs.Edges.{Content, Edge, Field, Slot, Source, edges_by}
use Rattle.lf_base.specs.Names.{same_name}
use Rattle.lf_base.specs.Owners.{has_name, is_local_at, owner_in, row_at}
use Rattle.lf_base.specs.PlainState.{Row}
use Rattle.lf_base.specs.TouchedEdges.{edges_from, row_fields}
use Rattle.lf_base.specs.WalkCounts.{is_borrower}
use Rattle.lf_base.specs.WriteResult.{relabel}
use Rattle.lf_base.proofs.NameLemmas.SameNames.{same_name_is, same_name_itself}
use Rattle.lf_barrier.specs.MovingEdges.{MayCountRow, MayCountRows, MayGive, MayGiveRows, MayUncountRow, MayUncountRows, fields_in, targets_in}
use Rattle.lf_barrier.proofs.MovingEdges.FieldLoops.{fields_told, length_counts, length_edges, same_lists}
use Rattle.lf_domain.specs.Counts.{Counts}
use Rattle.lf_domain.proofs.CountedEdges.{same_counts}
use Rattle.lf_graph.specs.StoredRows.{AreRowsOf, CountedRow, fields_at}
use Rattle.lf_graph.proofs.Stores.RowLists.{relabel_none, relabel_twice}
use Rattle.lf_laws.proofs.Edges.EdgeParts.{count_app}
use Rattle.lf_laws.proofs.Edges.GivenRows.{over_false}
use Rattle.lf_laws.proofs.Writes.Relabelling.{owner_over, owner_relabel}
use Rattle.lf_regions.specs.declared.region.Region.{Region}

-- ---- names in a list
pub head_there : (o : ObjId) (os : List ObjId) → has_name (o ∷ os) o ≡ true
head_there o os = ap (λ b. b || has_name os o) (same_name_itself o)

pub tail_there : (o : ObjId) (os : List ObjId) (q : ObjId) → has_name os q ≡ true → has_name (o ∷ os) q ≡ true
tail_there o os q h = ap (λ b. same_name o q || b) h ∙ or-true (same_name o q)

other_than_head : (o : ObjId) (os : List ObjId) (q : ObjId) → has_name os o ≡ false → has_name os q ≡ true → same_name o q ≡ false
other_than_head o os q lacks h = false_from_ne_true _ (λ t. let z : true ≡ false = sym h ∙ ap (has_name os) (sym (same_name_is o q t)) ∙ lacks in cc)

pub drop_none : {X : Type 0} (xs : List X) (i : ℕ) → length xs ≤ i → drop i xs ≡ []
drop_none [] zero h = refl
drop_none [] (suc i) h = refl
drop_none (x ∷ xs) zero h = absurd (omega (arith, h))
drop_none (x ∷ xs) (suc i) h = drop_none xs i (omega (arith, h))

-- ---- edges taken out
module _ (rows now : List CountedRow) (regions regions_now : List Region) (os rest : List ObjId) (o : ObjId) where
  pub row_may_go : (of : List Row) (es fs : List Edge) → MayUncountRows rows regions of es fs os → has_name os o ≡ true
      → Counts now regions_now of (edges_from of (o ∷ rest) ++ fs) → MayUncountRow now regions_now of (edges_from of (o ∷ rest) ++ fs) (edges_from of rest ++ fs) o
  row_may_go of es fs m there c = record {
    counts = c;
    bridges = m.bridges;
    keys = m.keys;
    local = m.local o there;
    edges = same_lists _ _ (append_assoc (edges_by (Field o) (targets_in of o)) (edges_from of rest) fs);
  }

-- ---- rows given
pub record Given (rows now : List CountedRow) (regions_now : List Region) (of : List Row) (es : List Edge) (left all : List ObjId) (home : ObjId) : Type 0 where
  pub of_now : List Row
  pub may : MayGiveRows now regions_now of_now es left home
  pub then_of : relabel of_now left (In home) ≡ relabel of all (In home)

module _ (rows now : List CountedRow) (regions_now : List Region) (of : List Row) (es : List Edge) (left all : List ObjId) (o : ObjId) (rest : List ObjId) (home : ObjId) (is : left ≡ o ∷ rest) (g : Given rows now regions_now of es left all home) where
  one : MayGiveRows now regions_now g.of_now es (o ∷ rest) home
  one = subst (λ l. MayGiveRows now regions_now g.of_now es l home) is g.may

  not_from : (f : Source) → begins_at (o ∷ rest) f ≡ false → f ≡ Field o → ⊥
  not_from f h e = let z : true ≡ false = sym (head_there o rest) ∙ ap (begins_at (o ∷ rest)) (sym e) ∙ h in cc

  pub row_may_be_given : MayGive now regions_now g.of_now es o home
  row_may_be_given = record {
    counts = (one).counts;
    local = (one).local o (head_there o rest);
    region = (one).region;
    none_from = λ e m. not_from e.from ((one).none_from e m);
    near = λ e m to. (one).near e m (ap (has_name (o ∷ rest)) to ∙ head_there o rest);
    few = (one).few;
  }

  abbrev next_of : List Row
  next_of = relabel g.of_now (o ∷ []) (In home)

  owner_else : (q : ObjId) → same_name o q ≡ false → owner_in next_of q ≡ owner_in g.of_now q
  owner_else q n = owner_relabel g.of_now (o ∷ []) (In home) q ∙ ap (λ b. owner_over (b || false) (In home) (owner_in g.of_now q)) n ∙ over_false (In home) (owner_in g.of_now q)

  home_else : same_name o home ≡ false
  home_else = false_from_ne_true _ (λ t. let z : Some (In home) ≡ Some Local = sym (one).region ∙ ap (owner_in g.of_now) (sym (same_name_is o home t)) ∙ (one).local o (head_there o rest) in cc)

  still_near : (f : Source) → begins_at (o ∷ rest) f ≡ false → is_borrower g.of_now f ≡ true → is_borrower next_of f ≡ true
  still_near Slot h e = refl
  still_near (Field p) h e = ap is_local_at (owner_else p (or_parts (same_name o p) (has_name rest p) h).0) ∙ e
  still_near (Content c) h e = e

  rest_not : (f : Source) → begins_at (o ∷ rest) f ≡ false → begins_at rest f ≡ false
  rest_not Slot h = refl
  rest_not (Field p) h = false_from_ne_true _ (λ t. let z : true ≡ false = sym (tail_there o rest p t) ∙ h in cc)
  rest_not (Content c) h = refl

  pub rest_given : (next : List CountedRow) (regions_next : List Region) → Counts next regions_next next_of es → Given rows next regions_next of es rest all home
  rest_given next regions_next c = record {
    of_now = next_of;
    may = record {
      counts = c;
      differ = ((one).differ).1;
      local = λ q h. owner_else q (other_than_head o rest q ((one).differ).0 h) ∙ (one).local q (tail_there o rest q h);
      region = owner_else home home_else ∙ (one).region;
      none_from = λ e m. rest_not e.from ((one).none_from e m);
      near = λ e m h. still_near e.from ((one).none_from e m) ((one).near e m (tail_there o rest e.to h));
      few = (one).few;
    };
    then_of = relabel_twice g.of_now o rest (In home) ∙ ap (λ l. relabel g.of_now l (In home)) (sym is) ∙ g.then_of;
  }

pub all_given : (rows now : List CountedRow) (regions_now : List Region) (of : List Row) (es : List Edge) (left all : List ObjId) (home : ObjId) → left ≡ [] → Given rows now regions_now of es left all home → Counts now regions_now (relabel of all (In home)) es
all_given rows now regions_now of es left all home none g =
    subst (λ l. Counts now regions_now l es) (relabel_none g.of_now (In home) ∙ ap (λ l. relabel g.of_now l (In home)) (sym none) ∙ g.then_of) (g.may).counts

-- ---- fields stay
pub found_in_map : (f : Row → Row) → ((r : Row) → (f r).name ≡ r.name) → (rows : List Row) (o : ObjId) → row_at (map f rows) o ≡ option_map f (row_at rows o)
found_in_map f keeps [] o = refl
found_in_map f keeps (r ∷ rs) o =
    ap (λ n. cond (same_name n o) (Some (f r)) (row_at (map f rs) o)) (keeps r)
    ∙ (elim (same_name r.name o) as (λ b. cond b (Some (f r)) (row_at (map f rs) o) ≡ option_map f (cond b (Some r) (row_at rs o))) [ true ↦ refl | false ↦ found_in_map f keeps rs o ])

same_fields : (f : Row → Row) → ((r : Row) → (f r).fields ≡ r.fields) → (t : Option Row) → row_fields (option_map f t) ≡ row_fields t
same_fields f keeps None = refl
same_fields f keeps (Some r) = keeps r

-- a row keeps its fields under another owner
pub fields_given : (of : List Row) (os : List ObjId) (w : Owner) (o : ObjId) → fields_in (relabel of os w) o ≡ fields_in of o
fields_given of os w o =
    let f : Row → Row = λ r. cond (has_name os r.name) (record r { owner = w }) r in
    ap row_fields (found_in_map f (λ r. elim (has_name os r.name) as (λ b. (cond b (record r { owner = w }) r).name ≡ r.name) [ true ↦ refl | false ↦ refl ]) of o)
    ∙ same_fields f (λ r. elim (has_name os r.name) as (λ b. (cond b (record r { owner = w }) r).fields ≡ r.fields) [ true ↦ refl | false ↦ refl ]) (row_at of o)

pub fields_then : (rows next : List CountedRow) (of : List Row) (os : List ObjId) (w : Owner) (o : ObjId) → AreRowsOf rows of → AreRowsOf next (relabel of os w) → fields_at next o ≡ fields_at rows o
fields_then rows next of os w o a b = fields_told next (relabel of os w) o b ∙ fields_given of os w o ∙ sym (fields_told rows of o a)

-- ---- edges counted
pub record RowsCounted (now : List CountedRow) (regions_now : List Region) (of : List Row) (es : List Edge) (left all : List ObjId) : Type 0 where
  pub edges : List Edge
  pub counts : Counts now regions_now of edges
  pub same : SameEdges (edges_from of left ++ edges) (edges_from of all ++ es)

module _ (rows now : List CountedRow) (regions regions_now : List Region) (of : List Row) (es : List Edge) (left all : List ObjId) (o : ObjId) (rest : List ObjId) (home : ObjId) (is : left ≡ o ∷ rest) (m : MayCountRows rows regions of es all home) (so : RowsCounted now regions_now of es left all) where
  abbrev own : List Edge
  own = edges_by (Field o) (targets_in of o)

  parted : SameEdges (own ++ (edges_from of rest ++ so.edges)) (edges_from of all ++ es)
  parted = subst (λ l. SameEdges l (edges_from of all ++ es)) (ap (λ l. edges_from of l ++ so.edges) is ∙ append_assoc own (edges_from of rest) so.edges) so.same

  pub row_may_come : has_name all o ≡ true → MayCountRow now regions_now of so.edges o home
  row_may_come there = record {
    counts = so.counts;
    bridges = m.bridges;
    keys = m.keys;
    inside = m.inside o there;
    leads = m.leads o there;
    few = omega (
      arith,
      m.few,
      parted (λ e. true),
      count_app (λ e. true) own (edges_from of rest ++ so.edges),
      count_app (λ e. true) (edges_from of rest) so.edges,
      count_app (λ e. true) (edges_from of all) es,
      length_counts own,
      length_counts so.edges,
      length_counts es,
      length_counts (edges_from of all),
      length_edges (Field o) (targets_in of o),
    );
  }

  pub rest_counted : (next : List CountedRow) (regions_next : List Region) → Counts next regions_next of (own ++ so.edges) → RowsCounted next regions_next of es rest all
  rest_counted next regions_next c = record {
    edges = own ++ so.edges;
    counts = c;
    same = λ q. omega (
      arith,
      parted q,
      count_app q own (edges_from of rest ++ so.edges),
      count_app q (edges_from of rest) so.edges,
      count_app q (edges_from of rest) (own ++ so.edges),
      count_app q own so.edges,
    );
  }

pub rows_counted : (now : List CountedRow) (regions_now : List Region) (of : List Row) (es : List Edge) (left all : List ObjId) → left ≡ [] → RowsCounted now regions_now of es left all → Counts now regions_now of (edges_from of all ++ es)
rows_counted now regions_now of es left all none so =
    same_counts now regions_now of so.edges (edges_from of all ++ es) (subst (λ l. SameEdges (edges_from of l ++ so.edges) (edges_from of all ++ es)) none so.same) so.counts

pub name_at_is_there : (os : List ObjId) (i : ℕ) (d : ObjId) → i < length os → has_name os (get_or os i d) ≡ true
name_at_is_there [] i d h = absurd (omega (arith, h))
name_at_is_there (o ∷ os) zero d h = head_there o os
name_at_is_there (o ∷ os) (suc i) d h = tail_there o os (get_or os i d) (name_at_is_there os i d (omega (arith, h)))

abbrev pub no_name : ObjId
no_name = record { birth = 0; seq = 0 }

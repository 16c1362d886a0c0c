-- A row's fields gone over one by one: their edges are taken out of the counts, or counted.
use Rattle.std.proofs.Common.{List, None, Option, Some, [], ap, arith, length, refl, subst, sym, true, ℕ, ◌+◌, ◌++◌, ◌<◌, ◌^◌, ◌∙◌, ◌∷◌, ◌≡◌, ◌≤◌}
use Rattle.std.proofs.lemmas.List.{append-nil, append_assoc, length-append}
use Rattle.std.specs.List.{count_by}
use Rattle.std.specs.Option.{option_map}
use Rattle.lf_base.specs.declared.ids.ObjId.{ObjId}
use Rattle.lf_base.specs.declared.values.Key.{Key}
use Rattle.lf_base.specs.declared.values.Owner.{Owner}
use Rattle.lf_base.specs.declared.values.Owner.TheVariants.{In, Local}
use Rattle.lf_base.specs.declared.values.Value.{Value}
use Rattle.lf_base.specs.EdgeLists.{SameEdges}
use Rattle.lf_base.specs.Edges.{Edge, Field, Source, edges_by, field_targets, slot_targets}
use Rattle.lf_base.specs.FieldOrder.{field_after, field_past}
use Rattle.lf_base.specs.Links.{head_or}
use Rattle.lf_base.specs.Names.{targets_of_value}
use Rattle.lf_base.specs.Owners.{is_local_at, owner_in}
use Rattle.lf_base.specs.PlainState.{Row}
use Rattle.lf_base.specs.Sets.{Member}
use Rattle.lf_base.specs.TouchedEdges.{row_fields}
use Rattle.lf_base.proofs.ListLemmas.Members.{Member_left, Member_right}
use Rattle.lf_barrier.specs.MovingEdges.{MayCountRow, MayUncountRow, fields_in, targets_in}
use Rattle.lf_domain.specs.Counts.{Counts}
use Rattle.lf_domain.specs.OneEdge.{MayCountOwner, MayUncount}
use Rattle.lf_domain.proofs.CountedEdges.{same_counts}
use Rattle.lf_domain.proofs.EdgeTests.{count_cons}
use Rattle.lf_domain.proofs.StoreEdges.{owned_has_row, owner_told}
use Rattle.lf_graph.specs.StoredRows.{AreRowsOf, CountedRow, HasRow, fields_at, fields_by, row_named}
use Rattle.lf_graph.proofs.Stores.FieldWalks.{FieldKeysDiffer, after_field}
use Rattle.lf_graph.proofs.Stores.StateRows.{found_of}
use Rattle.lf_laws.proofs.Edges.EdgeParts.{count_app}
use Rattle.lf_regions.specs.declared.region.Region.{Region}

-- ---- fields that the store tells
fields_of_found : (t : Option CountedRow) → fields_by t ≡ row_fields (option_map (λ c. c.row) t)
fields_of_found None = refl
fields_of_found (Some c) = refl

pub fields_told : (rows : List CountedRow) (of : List Row) (o : ObjId) → AreRowsOf rows of → fields_at rows o ≡ fields_in of o
fields_told rows of o a = fields_of_found (row_named rows o) ∙ ap row_fields (sym (found_of rows of o a))

pub has_row_by_owner : (rows : List CountedRow) (of : List Row) (o : ObjId) (w : Owner) → AreRowsOf rows of → owner_in of o ≡ Some w → HasRow rows o
has_row_by_owner rows of o w a k = owned_has_row rows o w (sym (owner_told rows of o a) ∙ k)

-- ---- a walk over fields
-- the fields so far, of which that key is the last one's, are so many, and those are left
pub record FieldWalk (all rest : List (Key × Value)) (last : Option Key) (turn : ℕ) : Type 0 where
  pub so_far : List (Key × Value)
  pub split : all ≡ so_far ++ rest
  pub next : field_after all last ≡ head_or rest None
  pub count : length so_far ≡ turn

abbrev pub walk_begins : (all : List (Key × Value)) → FieldWalk all all None 0
walk_begins all = record { so_far = []; split = refl; next = refl; count = refl }

abbrev pub walk_goes_on : (all tail : List (Key × Value)) (f : Key × Value) (last : Option Key) (turn : ℕ) → FieldKeysDiffer all → FieldWalk all (f ∷ tail) last turn → FieldWalk all tail (Some f.0) (turn + 1)
walk_goes_on all tail f last turn d w = record {
  so_far = w.so_far ++ f ∷ [];
  split = w.split ∙ sym (append_assoc w.so_far (f ∷ []) tail);
  next = ap (λ l. field_past l f.0) w.split ∙ after_field w.so_far tail f (subst FieldKeysDiffer w.split d);
  count = length-append w.so_far (f ∷ []) ∙ ap (λ n. n + 1) w.count;
}

pub head_is : (rest : List (Key × Value)) (f : Key × Value) → Some f ≡ head_or rest None → (tail : List (Key × Value)) × (rest ≡ f ∷ tail)
head_is [] f e = absurd (cc)
head_is (x ∷ xs) f e = let same : x ≡ f = cc in (xs, ap (λ y. y ∷ xs) same)

pub walk_not_over : (all rest : List (Key × Value)) (last : Option Key) (turn : ℕ) → FieldWalk all rest last turn → None ≡ field_after all last → turn < length all → ⊥
walk_not_over all [] last turn w e less = let l : length all ≡ length w.so_far = ap length (w.split ∙ append-nil w.so_far) in omega (arith, l, w.count, less)
walk_not_over all (x ∷ xs) last turn w e less = let z : None ≡ Some x = e ∙ w.next in cc

pub walk_over : (all rest : List (Key × Value)) (last : Option Key) (turn : ℕ) → FieldWalk all rest last turn → length all ≤ turn → rest ≡ []
walk_over all [] last turn w most = refl
walk_over all (x ∷ xs) last turn w most = absurd (omega (arith, ap length w.split, length-append w.so_far (x ∷ xs), w.count, most))

-- ---- lists of edges
pub edges_app : (f : Source) (xs ys : List ObjId) → edges_by f (xs ++ ys) ≡ edges_by f xs ++ edges_by f ys
edges_app f [] ys = refl
edges_app f (x ∷ xs) ys = ap (λ l. record { from = f; to = x } ∷ l) (edges_app f xs ys)

pub length_counts : (es : List Edge) → length es ≡ count_by (λ e. true) es
length_counts [] = refl
length_counts (e ∷ es) = omega (arith, count_cons (λ e. true) e es, length_counts es)

pub length_edges : (f : Source) (os : List ObjId) → length (edges_by f os) ≡ length os
length_edges f [] = refl
length_edges f (o ∷ os) = omega (arith, length_edges f os)

-- the edges of fields: the first one's and the others'
field_edges : (p : ObjId) (f : Key × Value) (tail : List (Key × Value)) (es : List Edge) → edges_by (Field p) (field_targets (f ∷ tail)) ++ es ≡ edges_by (Field p) (targets_of_value f.1) ++ (edges_by (Field p) (field_targets tail) ++ es)
field_edges p f tail es = ap (λ l. l ++ es) (edges_app (Field p) (targets_of_value f.1) (field_targets tail)) ∙ append_assoc (edges_by (Field p) (targets_of_value f.1)) (edges_by (Field p) (field_targets tail)) es

pub same_lists : (xs ys : List Edge) → xs ≡ ys → SameEdges xs ys
same_lists xs ys e p = ap (count_by p) e

-- ---- edges taken out
pub record Uncounting (rows now : List CountedRow) (regions regions_now : List Region) (p : ObjId) (last : Option Key) (turn : ℕ) : Type 0 where
  pub rest : List (Key × Value)
  pub walk : FieldWalk (fields_at rows p) rest last turn
  pub there : HasRow now p
  pub same : fields_at now p ≡ fields_at rows p
  pub left : (of : List Row) (es fs : List Edge) → MayUncountRow rows regions of es fs p → Counts now regions_now of (edges_by (Field p) (field_targets rest) ++ fs)

pub uncounting_begins : (rows : List CountedRow) (regions : List Region) (p : ObjId) → HasRow rows p → Uncounting rows rows regions regions p None 0
uncounting_begins rows regions p there = record {
  rest = fields_at rows p;
  walk = walk_begins (fields_at rows p);
  there = there;
  same = refl;
  left = λ of es fs m. same_counts rows regions of es (edges_by (Field p) (field_targets (fields_at rows p)) ++ fs)
      (subst (λ l. SameEdges es (edges_by (Field p) (field_targets l) ++ fs)) (sym (fields_told rows of p ((m.counts).store).rows)) m.edges) m.counts;
}

module _ (rows now : List CountedRow) (regions regions_now : List Region) (p : ObjId) (last : Option Key) (turn : ℕ) (u : Uncounting rows now regions regions_now p last turn) (k : Key) (v : Value) (found : Some (k, v) ≡ field_after (fields_at now p) last) where
  pub uncount_tail : (tail : List (Key × Value)) × (u.rest ≡ (k, v) ∷ tail)
  uncount_tail = head_is u.rest (k, v) (found ∙ ap (λ l. field_after l last) u.same ∙ (u.walk).next)

  pub value_may_go : (of : List Row) (es fs : List Edge) → MayUncountRow rows regions of es fs p
      → MayUncount now regions_now of (edges_by (Field p) (field_targets u.rest) ++ fs) (edges_by (Field p) (field_targets (uncount_tail).0) ++ fs) (Field p) (slot_targets (Some v))
  value_may_go of es fs m = record {
    counts = u.left of es fs m;
    bridges = m.bridges;
    near = ap is_local_at m.local;
    edges = same_lists _ _ (ap (λ l. edges_by (Field p) (field_targets l) ++ fs) (uncount_tail).1 ∙ field_edges p (k, v) (uncount_tail).0 fs);
  }

  pub uncounting_on : (next : List CountedRow) (regions_next : List Region)
      → ((of : List Row) (es fs : List Edge) → MayUncountRow rows regions of es fs p → Counts next regions_next of (edges_by (Field p) (field_targets (uncount_tail).0) ++ fs))
      → (of : List Row) (es fs : List Edge) → MayUncountRow rows regions of es fs p → Uncounting rows next regions regions_next p (Some k) (turn + 1)
  uncounting_on next regions_next counted of es fs m =
      let a : AreRowsOf rows of = ((m.counts).store).rows in
      let b : AreRowsOf next of = ((counted of es fs m).store).rows in
      record {
        rest = (uncount_tail).0;
        walk = walk_goes_on (fields_at rows p) (uncount_tail).0 (k, v) last turn (subst FieldKeysDiffer (sym (fields_told rows of p a)) (m.keys p))
            (subst (λ l. FieldWalk (fields_at rows p) l last turn) (uncount_tail).1 u.walk);
        there = has_row_by_owner next of p Local b m.local;
        same = fields_told next of p b ∙ sym (fields_told rows of p a);
        left = counted;
      }

pub uncounted : (rows now : List CountedRow) (regions regions_now : List Region) (p : ObjId) (last : Option Key) (turn : ℕ) → Uncounting rows now regions regions_now p last turn → length (fields_at rows p) ≤ turn
    → (of : List Row) (es fs : List Edge) → MayUncountRow rows regions of es fs p → Counts now regions_now of fs
uncounted rows now regions regions_now p last turn u most of es fs m =
    subst (λ l. Counts now regions_now of (edges_by (Field p) (field_targets l) ++ fs)) (walk_over (fields_at rows p) u.rest last turn u.walk most) (u.left of es fs m)

-- ---- edges counted
pub record CountedSoFar (now : List CountedRow) (regions_now : List Region) (of : List Row) (es : List Edge) (p : ObjId) (rest all : List (Key × Value)) : Type 0 where
  pub edges : List Edge
  pub counts : Counts now regions_now of edges
  pub same : SameEdges (edges_by (Field p) (field_targets rest) ++ edges) (edges_by (Field p) (field_targets all) ++ es)

pub record Counting (rows now : List CountedRow) (regions regions_now : List Region) (p home : ObjId) (last : Option Key) (turn : ℕ) : Type 0 where
  pub rest : List (Key × Value)
  pub walk : FieldWalk (fields_at rows p) rest last turn
  pub there : HasRow now p
  pub same : fields_at now p ≡ fields_at rows p
  pub so_far : (of : List Row) (es : List Edge) → MayCountRow rows regions of es p home → CountedSoFar now regions_now of es p rest (fields_at rows p)

pub counting_begins : (rows : List CountedRow) (regions : List Region) (p home : ObjId) → HasRow rows p → Counting rows rows regions regions p home None 0
counting_begins rows regions p home there = record {
  rest = fields_at rows p;
  walk = walk_begins (fields_at rows p);
  there = there;
  same = refl;
  so_far = λ of es m. record { edges = es; counts = m.counts; same = λ p. refl };
}

module _ (rows now : List CountedRow) (regions regions_now : List Region) (p home : ObjId) (last : Option Key) (turn : ℕ) (u : Counting rows now regions regions_now p home last turn) (k : Key) (v : Value) (found : Some (k, v) ≡ field_after (fields_at now p) last) where
  pub count_tail : (tail : List (Key × Value)) × (u.rest ≡ (k, v) ∷ tail)
  count_tail = head_is u.rest (k, v) (found ∙ ap (λ l. field_after l last) u.same ∙ (u.walk).next)

  few_now : (of : List Row) (es : List Edge) (m : MayCountRow rows regions of es p home) → length (u.so_far of es m).edges < 2 ^ 63
  few_now of es m =
      let so = u.so_far of es m in
      omega (
        arith,
        m.few,
        so.same (λ e. true),
        count_app (λ e. true) (edges_by (Field p) (field_targets u.rest)) so.edges,
        count_app (λ e. true) (edges_by (Field p) (field_targets (fields_at rows p))) es,
        length_counts so.edges,
        length_counts es,
        length_counts (edges_by (Field p) (field_targets (fields_at rows p))),
        length_edges (Field p) (field_targets (fields_at rows p)),
        ap (λ l. length (field_targets l)) (fields_told rows of p ((m.counts).store).rows),
      )

  pub value_may_come : (of : List Row) (es : List Edge) (m : MayCountRow rows regions of es p home)
      → MayCountOwner now regions_now of (u.so_far of es m).edges (Field p) (slot_targets (Some v)) (Some home)
  value_may_come of es m = record {
    counts = (u.so_far of es m).counts;
    bridges = m.bridges;
    lies = m.inside;
    leads = λ o r h. m.leads o r (subst (λ l. Member o (field_targets l)) (sym ((u.walk).split) ∙ fields_told rows of p ((m.counts).store).rows)
        (subst (λ l. Member o (field_targets ((u.walk).so_far ++ l))) (sym (count_tail).1) (in_rest (u.walk).so_far o h)));
    few = few_now of es m;
  } where
    in_rest : (xs : List (Key × Value)) (o : ObjId) → Member o (targets_of_value v) → Member o (field_targets (xs ++ (k, v) ∷ (count_tail).0))
    in_rest [] o h = Member_left o (targets_of_value v) (field_targets (count_tail).0) h
    in_rest (x ∷ xs) o h = Member_right o (targets_of_value x.1) (field_targets (xs ++ (k, v) ∷ (count_tail).0)) (in_rest xs o h)

  counted_on : (next : List CountedRow) (regions_next : List Region) (of : List Row) (es : List Edge) (m : MayCountRow rows regions of es p home)
      → Counts next regions_next of (edges_by (Field p) (slot_targets (Some v)) ++ (u.so_far of es m).edges) → CountedSoFar next regions_next of es p (count_tail).0 (fields_at rows p)
  counted_on next regions_next of es m c =
      let so = u.so_far of es m in
      let value : List Edge = edges_by (Field p) (targets_of_value v) in
      let tail : List Edge = edges_by (Field p) (field_targets (count_tail).0) in
      record {
        edges = value ++ so.edges;
        counts = c;
        same = λ q. omega (
          arith,
          so.same q,
          same_lists _ _ (ap (λ l. edges_by (Field p) (field_targets l) ++ so.edges) (count_tail).1 ∙ field_edges p (k, v) (count_tail).0 so.edges) q,
          count_app q value (tail ++ so.edges),
          count_app q tail so.edges,
          count_app q tail (value ++ so.edges),
          count_app q value so.edges,
        );
      }

  pub counting_on : (next : List CountedRow) (regions_next : List Region)
      → ((of : List Row) (es : List Edge) (m : MayCountRow rows regions of es p home) → Counts next regions_next of (edges_by (Field p) (slot_targets (Some v)) ++ (u.so_far of es m).edges))
      → (of : List Row) (es : List Edge) → MayCountRow rows regions of es p home → Counting rows next regions regions_next p home (Some k) (turn + 1)
  counting_on next regions_next counted of es m =
      let a : AreRowsOf rows of = ((m.counts).store).rows in
      let b : AreRowsOf next of = ((counted of es m).store).rows in
      record {
        rest = (count_tail).0;
        walk = walk_goes_on (fields_at rows p) (count_tail).0 (k, v) last turn (subst FieldKeysDiffer (sym (fields_told rows of p a)) (m.keys p))
            (subst (λ l. FieldWalk (fields_at rows p) l last turn) (count_tail).1 u.walk);
        there = has_row_by_owner next of p (In home) b m.inside;
        same = fields_told next of p b ∙ sym (fields_told rows of p a);
        so_far = λ of es m. counted_on next regions_next of es m (counted of es m);
      }

pub all_counted : (rows now : List CountedRow) (regions regions_now : List Region) (p home : ObjId) (last : Option Key) (turn : ℕ) → Counting rows now regions regions_now p home last turn → length (fields_at rows p) ≤ turn
    → (of : List Row) (es : List Edge) → MayCountRow rows regions of es p home → Counts now regions_now of (edges_by (Field p) (targets_in of p) ++ es)
all_counted rows now regions regions_now p home last turn u most of es m =
    let so = u.so_far of es m in
    let none : u.rest ≡ [] = walk_over (fields_at rows p) u.rest last turn u.walk most in
    let same : SameEdges so.edges (edges_by (Field p) (field_targets (fields_at rows p)) ++ es) = subst (λ l. SameEdges (edges_by (Field p) (field_targets l) ++ so.edges) (edges_by (Field p) (field_targets (fields_at rows p)) ++ es)) none so.same in
    same_counts now regions_now of so.edges (edges_by (Field p) (targets_in of p) ++ es)
    (subst (λ l. SameEdges so.edges (edges_by (Field p) (field_targets l) ++ es)) (fields_told rows of p ((m.counts).store).rows) same) so.counts

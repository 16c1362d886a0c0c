-- The counts of rows that a content owns are those of its tree by itself.
use Rattle.std.proofs.Common.{Bool, List, None, Option, Some, [], ap, arith, cond, count_by, false, inl, inr, map, not, refl, subst, sym, true, ◌&&◌, ◌+◌, ◌++◌, ◌||◌, ◌∙◌, ◌∷◌, ◌≡◌, ℕ}
use Rattle.std.proofs.lemmas.List.Sums.{sum_by-append}
use Rattle.std.specs.List.{filter, list_any}
use Rattle.lf_base.specs.declared.ids.CownId.{CownId}
use Rattle.lf_base.specs.declared.ids.ObjId.{ObjId}
use Rattle.lf_base.specs.declared.values.Owner.{Owner}
use Rattle.lf_base.specs.declared.values.Owner.TheVariants.{Frozen, In, Local}
use Rattle.lf_base.specs.declared.values.Value.{Value}
use Rattle.lf_base.specs.declared.values.Value.TheVariants as value
use Rattle.lf_base.specs.Edges.{Content, Edge, Field, content_edges, edges, edges_by, field_targets, row_edges, rows_edges, slot_edges}
use Rattle.lf_base.specs.Kept.{kept}
use Rattle.lf_base.specs.Names.{is_local, same_cown, same_name, targets_of_value}
use Rattle.lf_base.specs.Owners.{bridge_of, has_row, is_in, names, or_frozen, owner_in}
use Rattle.lf_base.specs.Ownership.{is_in_other, is_owning}
use Rattle.lf_base.specs.PlainState.{Row, State}
use Rattle.lf_base.specs.Sets.{Differ, Member}
use Rattle.lf_base.specs.WalkCounts.{refs}
use Rattle.lf_base.specs.WellFormed.{from_content, from_inner, from_row, may_lead}
use Rattle.lf_laws.proofs.Rows.RowsByName.{Distinct, mem_has, row_there, owner_mem, differ_rows, same_row}
use Rattle.lf_base.proofs.ListLemmas.Tests.{none_count, count_one, some_is}
use Rattle.lf_laws.proofs.Dropping.KeptState.{frozen_leads_on}
use Rattle.lf_laws.proofs.Rows.RowEdges.{edge_row, row_edge, row_leads, field_is}
use Rattle.lf_laws.proofs.Dropping.KeptRows.{kept_in}
use Rattle.std.proofs.lemmas.Bool.{both_ways, and_from, false_from_ne_true, or_left, or_cases}
use Rattle.lf_base.proofs.ListLemmas.Members.{Member_any, Member_flat_map, Member_map, Member_of_map, Member_left, Member_of_append, Member_right}
use Rattle.std.proofs.Math.Bool.{or-true}
use Rattle.lf_base.proofs.NameLemmas.SameNames.{same_name_is, same_name_itself}
use Rattle.lf_base.proofs.ListLemmas.Filters.{Member_filter, Member_of_filter}
use Rattle.std.proofs.lemmas.Option.{none-some}
use Rattle.lf_base.proofs.NameLemmas.SameNames.{one_cown}
use Rattle.lf_base.specs.ContentTrees.{refs_in}
use Rattle.lf_base.specs.ContentTrees.{lies_in_one, regions_from}
use Rattle.lf_laws.proofs.Contents.PartsAreTrees.{bridge_named, names_bridge, part_in_tree, part_is_tree, tree_in_part}
use Rattle.lf_base.specs.Contents.{alone, part}
use Rattle.lf_base.specs.WholeContents.{Ended}
use Rattle.lf_laws.proofs.Contents.PartsApart.{part_bridge, part_owner, parts_apart}

keys_append : (xs ys : List (CownId × Value)) → map (λ (c : CownId × Value). c.0) (xs ++ ys) ≡ map (λ (c : CownId × Value). c.0) xs ++ map (λ (c : CownId × Value). c.0) ys
keys_append [] ys = refl
keys_append (x ∷ xs) ys = ap (λ l. x.0 ∷ l) (keys_append xs ys)

module _ (o : ObjId) where
  abbrev hit : Edge → Bool
  hit d = same_name d.to o

  abbrev hits : List Edge → ℕ
  hits ds = count_by hit ds

  hits_append : (xs ys : List Edge) → hits (xs ++ ys) ≡ hits xs + hits ys
  hits_append xs ys = sum_by-append (λ d. cond (hit d) 1 0) xs ys

  -- rows that are left out without an edge to o don't count
  hits_filter : (f : Row → Bool) (rows : List Row) → ((x : Row) → Member x rows → f x ≡ false → hits (row_edges x) ≡ 0) → hits (rows_edges rows) ≡ hits (rows_edges (filter f rows))
  hits_filter f [] h = refl
  hits_filter f (x ∷ xs) h = elim (f x) as (λ b. f x ≡ b → hits (row_edges x ++ rows_edges xs) ≡ hits (rows_edges (cond b (x ∷ filter f xs) (filter f xs)))) [
    | true ↦ λ e. hits_append (row_edges x) (rows_edges xs) ∙ ap (λ n. hits (row_edges x) + n) (hits_filter f xs (λ y m. h y (inr m))) ∙ sym (hits_append (row_edges x) (rows_edges (filter f xs)))
    | false ↦ λ e. omega (arith, hits_append (row_edges x) (rows_edges xs), h x (inl refl) e, hits_filter f xs (λ y m. h y (inr m)))
  ] refl

  abbrev from_content_of : CownId × Value → List Edge
  from_content_of c = edges_by (Content c.0) (targets_of_value c.1)

  none_of : (cs : List (CownId × Value)) → ((d : CownId × Value) → Member d cs → hits (from_content_of d) ≡ 0) → hits (content_edges cs) ≡ 0
  none_of [] h = refl
  none_of (d ∷ ds) h = hits_append (from_content_of d) (content_edges ds) ∙ (λ i. h d (inl refl) i + none_of ds (λ x m. h x (inr m)) i)

  -- of contents of different cowns one alone counts
  one_counts : (cs : List (CownId × Value)) → Differ same_cown (map (λ (c : CownId × Value). c.0) cs) → (c : CownId × Value) → Member c cs → ((d : CownId × Value) → Member d cs → (d.0 ≡ c.0 → ⊥) → hits (from_content_of d) ≡ 0) → hits (content_edges cs) ≡ hits (from_content_of c)
  one_counts [] f c m h = absurd m
  one_counts (x ∷ xs) f c (inl e) h =
      let rest : hits (content_edges xs) ≡ 0 = none_of xs (λ d n. h d (inr n) (λ k. both_ways _ f.0 (Member_any (λ z. same_cown z x.0) d.0 (map (λ (c : CownId × Value). c.0) xs) (Member_map (λ (c : CownId × Value). c.0) d xs n) (one_cown d.0 x.0 (k ∙ ap (λ (z : CownId × Value). z.0) (sym e)))))) in
      let one : hits (from_content_of x) ≡ hits (from_content_of c) = ap (λ (z : CownId × Value). hits (from_content_of z)) e in
      omega (arith, hits_append (from_content_of x) (content_edges xs), rest, one)
  one_counts (x ∷ xs) f c (inr m) h =
      let front : hits (from_content_of x) ≡ 0 = h x (inl refl) (λ k. both_ways _ f.0 (Member_any (λ z. same_cown z x.0) c.0 (map (λ (c : CownId × Value). c.0) xs) (Member_map (λ (c : CownId × Value). c.0) c xs m) (one_cown c.0 x.0 (sym k)))) in
      omega (arith, hits_append (from_content_of x) (content_edges xs), front, one_counts xs f.1 c m (λ d n. h d (inr n)))

  contents_append : (xs ys : List (CownId × Value)) → hits (content_edges (xs ++ ys)) ≡ hits (content_edges xs) + hits (content_edges ys)
  contents_append [] ys = omega (arith)
  contents_append (x ∷ xs) ys = omega (arith, hits_append (from_content_of x) (content_edges (xs ++ ys)), hits_append (from_content_of x) (content_edges xs), contents_append xs ys)

  root_counts : (c : CownId) (v : Value) (root : ObjId) → Member root (targets_of_value v) → hits (edges_by (Content c) (targets_of_value v)) ≡ cond (same_name root o) 1 0
  root_counts c (value.Obj r) root (inl h) = ap (λ z. 0 + cond (same_name z o) 1 0) h ∙ omega (arith)
  root_counts c (value.Obj r) root (inr h) = absurd h
  root_counts c value.None root h = absurd h
  root_counts c (value.Bool x) root h = absurd h
  root_counts c (value.Int n) root h = absurd h
  root_counts c (value.Text n) root h = absurd h
  root_counts c (value.Cown d) root h = absurd h

module _ (e : State) (t : Ended e) (all : kept e ≡ e) (c : CownId × Value) (here : Member c (e.held ++ e.made))
    (root : ObjId) (names_root : bridge_of e c.1 ≡ Some root) (o : ObjId) (there : has_row (part e c) o ≡ true) where
  distinct : Distinct e.rows
  distinct = differ_rows e.rows (names e.given ++ names e.own) (t.whole).names_differ

  row_owner_is : (x : Row) → Member x e.rows → owner_in e.rows x.name ≡ Some (x.owner)
  row_owner_is x m = owner_mem e.rows distinct x m

  abbrev tree : List ObjId
  tree = regions_from e (bridge_of e c.1)

  -- where o lies
  record Home : Type 0 where
    region : ObjId
    owner : owner_in e.rows o ≡ Some (In region)

  home : Home
  home = let x = row_there (part e c) o there in go x.0 x.1.1 (kept_in (alone e c) x.0 x.1.0) (x.0).owner refl
    where
      go : (x : Row) → x.name ≡ o → Member x e.rows → (w : Owner) → x.owner ≡ w → Home
      go x n m (In q) h = record { region = q; owner = ap (owner_in e.rows) (sym n) ∙ row_owner_is x m ∙ ap Some h }
      go x n m Local h = absurd (both_ways _ (t.no_locals x m) (ap is_local h))
      go x n m Frozen h = absurd ((t.whole).mutable x m h)

  -- an edge to o comes from a row of the part
  from_part : (x : Row) → Member x e.rows → (d : Edge) → Member d (row_edges x) → same_name d.to o ≡ true → has_row (part e c) x.name ≡ true
  from_part x m d n k = go x.owner refl
    where
      edge_of : (y : Row) → Member d (row_edges y) → (d.from ≡ Field y.name) × Member d.to (field_targets y.fields)
      edge_of y n = let z = Member_of_map (λ (z : ObjId). record { from = Field y.name; to = z }) d (field_targets y.fields) n in (ap (λ (d : Edge). d.from) (sym z.1.1), subst (λ (d : Edge). Member d.to (field_targets y.fields)) z.1.1 z.1.0)

      from : d.from ≡ Field x.name
      from = (edge_of x n).0

      in_rows : Member d (rows_edges e.rows)
      in_rows = row_edge e.rows x d m from (edge_of x n).1

      in_edges : Member d (edges e)
      in_edges = Member_right d (slot_edges e.slots) _ (Member_left d (rows_edges e.rows) _ in_rows)

      to : d.to ≡ o
      to = same_name_is d.to o k

      own : (w : Owner) → x.owner ≡ w → owner_in e.rows x.name ≡ Some w
      own w h = row_owner_is x m ∙ ap Some h

      home_in : has_row (part e c) home.region ≡ true
      home_in = part_bridge e t c here o home.region home.owner there

      go : (w : Owner) → x.owner ≡ w → has_row (part e c) x.name ≡ true
      go Local h = absurd (both_ways _ (t.no_locals x m) (ap is_local h))
      go Frozen h = absurd ((t.whole).mutable x m h)
      go (In r) h =
          let lead : from_row (Some (x.owner)) d.to (Some (In home.region)) ≡ true = row_leads e distinct (t.whole).leads x m d in_edges from (In home.region) (ap (owner_in e.rows) to ∙ home.owner) in
          let two : from_inner r d.to (Some (In home.region)) ≡ true = ap (λ w. from_row (Some w) d.to (Some (In home.region))) (sym h) ∙ lead in
          elim (or_cases (same_name r home.region) (same_name home.region d.to) two) [
            | inl z ↦ whole_region home.region home_in (h ∙ ap In (same_name_is r home.region z))
            | inr z ↦ elim (same_name r home.region) as (λ b. same_name r home.region ≡ b → has_row (part e c) x.name ≡ true) [
              | true ↦ λ y. whole_region home.region home_in (h ∙ ap In (same_name_is r home.region y))
              | false ↦ λ y. by_owner r h (same_name_is home.region d.to z ∙ to) y
            ] refl
          ]
        where
          -- with its bridge a region is in the part
          whole_region : (q : ObjId) → has_row (part e c) q ≡ true → x.owner ≡ In q → has_row (part e c) x.name ≡ true
          whole_region q z w =
              let y = row_there (part e c) q z in
              let top : owner_in e.rows q ≡ Some (In q) = (t.whole).bridge x.name q (own (In q) w) in
              let lies = Member_of_filter (lies_in_one tree) y.0 e.rows (part_in_tree e t all c here y.0 y.1.0) in
              let same : (y.0).owner ≡ In q = some_is (y.0).owner (In q) (sym (row_owner_is y.0 lies.0) ∙ ap (owner_in e.rows) y.1.1 ∙ top) in
              mem_has x (part e c) (tree_in_part e t all c here x (Member_filter (lies_in_one tree) x e.rows m (ap (λ w. list_any (λ q. is_in q (Some w)) tree) (w ∙ sym same) ∙ lies.1)))

          -- o is a bridge that x's region owns: the one owning edge is of the part
          by_owner : (r : ObjId) → x.owner ≡ In r → home.region ≡ o → same_name r home.region ≡ false → has_row (part e c) x.name ≡ true
          by_owner r h b y =
              let top : owner_in e.rows o ≡ Some (In o) = home.owner ∙ ap (λ q. Some (In q)) b in
              let other : same_name r o ≡ false = ap (same_name r) (sym b) ∙ y in
              let owning : (is_owning e.rows d.from o && same_name d.to o) ≡ true = and_from _ _ (ap (λ f. is_owning e.rows f o) from ∙ ap (is_in_other o) (own (In r) h) ∙ ap not other) k in
              let z = part_owner e t c here o top there in
              let one : d ≡ z.edge = count_one (λ (f : Edge). is_owning e.rows f.from o && same_name f.to o) (edges e) ((t.whole).one_owner o (ap (is_in o) top ∙ same_name_itself o)) d z.edge in_edges z.mem owning z.owning in
              let as_from : (z.edge).from ≡ Field x.name = ap (λ (d : Edge). d.from) (sym one) ∙ from in
              elim z.source [
                | inl y ↦ absurd (let w = sym y ∙ as_from in cc)
                | inr y ↦ subst (λ n. has_row (part e c) n ≡ true) (field_is y.0 x.name (sym y.1.0 ∙ as_from)) y.1.1
              ]

  rows_count : hits o (rows_edges e.rows) ≡ hits o (rows_edges (part e c))
  rows_count = hits_filter o (lies_in_one tree) e.rows (λ x m out. none_count (hit o) (row_edges x) (λ d n. false_from_ne_true _ (λ k. both_ways _ out (in_tree x m (from_part x m d n k))))) ∙ ap (λ rows. hits o (rows_edges rows)) (sym (part_is_tree e t all c here))
    where
      in_tree : (x : Row) → Member x e.rows → has_row (part e c) x.name ≡ true → lies_in_one tree x ≡ true
      in_tree x m h =
          let y = row_there (part e c) x.name h in
          let k = Member_of_filter (lies_in_one tree) y.0 e.rows (part_in_tree e t all c here y.0 y.1.0) in
          subst (λ (z : Row). lies_in_one tree z ≡ true) (same_row e.rows distinct y.0 x k.0 m y.1.1) k.1

  abbrev contents : List (CownId × Value)
  contents = e.held ++ e.made

  content_in : (d : CownId × Value) → Member d contents → (f : Edge) → Member f (from_content_of o d) → Member f (edges e)
  content_in d m f n = Member_right f (slot_edges e.slots) _ (Member_right f (rows_edges e.rows) _ (elim (Member_of_append d e.held e.made m) [
    | inl h ↦ Member_left f (content_edges e.held) _ (Member_flat_map (λ (c : CownId × Value). edges_by (Content c.0) (targets_of_value c.1)) d f e.held h n)
    | inr h ↦ Member_right f (content_edges e.held) _ (Member_left f (content_edges e.made) _ (Member_flat_map (λ (c : CownId × Value). edges_by (Content c.0) (targets_of_value c.1)) d f e.made h n))
  ]))

  -- no other content names o
  others_none : (d : CownId × Value) → Member d contents → (d.0 ≡ c.0 → ⊥) → hits o (from_content_of o d) ≡ 0
  others_none d m differ = none_count (hit o) (from_content_of o d) (λ f n. false_from_ne_true _ (λ k. no_edge f n (same_name_is f.to o k)))
    where
      no_edge : (f : Edge) → Member f (from_content_of o d) → f.to ≡ o → ⊥
      no_edge f n to =
          let z = Member_of_map (λ (z : ObjId). record { from = Content d.0; to = z }) f (targets_of_value d.1) n in
          let from : f.from ≡ Content d.0 = ap (λ (f : Edge). f.from) (sym z.1.1) in
          let target : Member o (targets_of_value d.1) = subst (λ p. Member p (targets_of_value d.1)) (ap (λ (f : Edge). f.to) z.1.1 ∙ to) z.1.0 in
          let lead : may_lead e (Content d.0) o ≡ true = (λ i. may_lead e (sym from i) (sym to i)) ∙ (t.whole).leads f (content_in d m f n) in
          let same : home.region ≡ o = same_name_is home.region o (ap (λ w. from_content o (or_frozen (has_row e.given o || has_row e.own o) w)) (sym home.owner) ∙ lead) in
          let top : owner_in e.rows o ≡ Some (In o) = home.owner ∙ ap (λ q. Some (In q)) same in
          let y = row_there (part e c) o there in
          let y_in : Member y.0 e.rows = kept_in (alone e c) y.0 y.1.0 in
          let lies : (y.0).owner ≡ In o = some_is (y.0).owner (In o) (sym (row_owner_is y.0 y_in) ∙ ap (owner_in e.rows) y.1.1 ∙ top) in
          let root_in : Member o (regions_from e (bridge_of e d.1)) = root_of (bridge_of e d.1) (bridge_named e d.1 o target top) in
          let there_too : Member y.0 (part e d) = tree_in_part e t all d m y.0 (Member_filter (lies_in_one (regions_from e (bridge_of e d.1))) y.0 e.rows y_in (Member_any (λ q. is_in q (Some ((y.0).owner))) o (regions_from e (bridge_of e d.1)) root_in (ap (λ w. is_in o (Some w)) lies ∙ same_name_itself o))) in
          parts_apart e t d c m here differ o (subst (λ n. has_row (part e d) n ≡ true) y.1.1 (mem_has y.0 (part e d) there_too)) there
        where
          root_of : (root : Option ObjId) → root ≡ Some o → Member o (regions_from e root)
          root_of (Some r) h = inl (some_is r o h)
          root_of None h = absurd (none-some o h)

  contents_count : hits o (content_edges contents) ≡ cond (same_name root o) 1 0
  contents_count = one_counts o contents (subst (Differ same_cown) (sym (keys_append e.held e.made)) (t.whole).cowns_differ) c here others_none ∙ root_counts o c.0 c.1 root (names_bridge e c.1 root names_root).0

  frozen_count : hits o (rows_edges e.given ++ rows_edges e.own) ≡ 0
  frozen_count = none_count (hit o) (rows_edges e.given ++ rows_edges e.own) (λ f m. false_from_ne_true _ (λ k. no_edge f m (same_name_is f.to o k)))
    where
      no_edge : (f : Edge) → Member f (rows_edges e.given ++ rows_edges e.own) → f.to ≡ o → ⊥
      no_edge f m to =
          let in_edges : Member f (edges e) = Member_right f (slot_edges e.slots) _ (Member_right f (rows_edges e.rows) _ (Member_right f (content_edges e.held) _ (Member_right f (content_edges e.made) _ m))) in
          elim (Member_of_append f (rows_edges e.given) (rows_edges e.own) m) [
            | inl n ↦ let x = edge_row e.given f n in frozen_leads_on e t.whole f x.row (or_left _ _ (mem_has x.row e.given x.mem)) x.from in_edges (In home.region) (ap (owner_in e.rows) to ∙ home.owner)
            | inr n ↦ let x = edge_row e.own f n in frozen_leads_on e t.whole f x.row (ap (λ b. has_row e.given (x.row).name || b) (mem_has x.row e.own x.mem) ∙ or-true _) x.from in_edges (In home.region) (ap (owner_in e.rows) to ∙ home.owner)
          ]

  slots_count : hits o (slot_edges e.slots) ≡ 0
  slots_count = ap (λ slots. hits o (slot_edges slots)) t.no_slots

  pub refs_of_tree : refs e o ≡ refs_in (part e c) root o
  refs_of_tree = omega (
    arith,
    slots_count,
    rows_count,
    contents_count,
    frozen_count,
    contents_append o e.held e.made,
    hits_append o (slot_edges e.slots) (rows_edges e.rows ++ (content_edges e.held ++ (content_edges e.made ++ (rows_edges e.given ++ rows_edges e.own)))),
    hits_append o (rows_edges e.rows) (content_edges e.held ++ (content_edges e.made ++ (rows_edges e.given ++ rows_edges e.own))),
    hits_append o (content_edges e.held) (content_edges e.made ++ (rows_edges e.given ++ rows_edges e.own)),
    hits_append o (content_edges e.made) (rows_edges e.given ++ rows_edges e.own),
  )

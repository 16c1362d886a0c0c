-- The rows of a region copied out of a flat store, one after the other.
use Rattle.std.proofs.Common.{List, None, Option, Some, [], ap, arith, cond, false, length, map, refl, slice_get, subst, sym, take, true, ℕ, suc, zero, ◌+◌, ◌<◌, ◌||◌, ◌++◌, ◌∙◌, ◌∷◌, ◌≡◌}
use Rattle.std.specs.Option.{IsSome, option_map}
use Rattle.std.proofs.lemmas.List.{append-nil, length-map, map-append}
use Rattle.std.proofs.Math.Bool.{or-true}
use Rattle.lf_base.specs.declared.ids.ObjId.{ObjId}
use Rattle.lf_base.specs.declared.values.Key.{Key}
use Rattle.lf_base.specs.declared.values.Owner.{Owner}
use Rattle.lf_base.specs.declared.values.Owner.TheVariants.{In}
use Rattle.lf_base.specs.declared.values.Value.{Value}
use Rattle.lf_base.specs.Links.{Lacks, NodesDiffer, after, has, head_or}
use Rattle.lf_base.specs.Names.{same_key, same_name}
use Rattle.lf_base.proofs.NameLemmas.SameNames.{other_way, same_name_itself}
use Rattle.lf_graph.specs.declared.cells.Cells.{Cells}
use Rattle.lf_graph.specs.declared.cells.FieldEnds.{FieldEnds}
use Rattle.lf_graph.specs.declared.chains.Chains.{Chains}
use Rattle.lf_graph.specs.declared.flat_part.PartRow.{PartRow}
use Rattle.lf_graph.specs.declared.stored_row.StoredRow.{StoredRow}
use Rattle.lf_graph.specs.Cells.{CellsAt, IsFieldList, cells_of, paired, pairs, walked_keys}
use Rattle.lf_graph.specs.ChainMaps.{heads_of}
use Rattle.lf_graph.specs.Chains.{HeadsAt, is_this_owner, linked_owner_at, linked_row_at}
use Rattle.lf_graph.specs.FlatParts.{CopiesRow, EachRow, IsPart, IsPartRow, part_cells, part_head, part_row, rows_cells}
use Rattle.lf_graph.specs.FlatRows.{IsFlat, chain_of, rows_under, whole_row_at, whole_row_by}
use Rattle.lf_graph.specs.StoredRows.{CountedRow}
use Rattle.lf_graph.proofs.ListLemmas.{take_next}
use Rattle.lf_graph.proofs.FlatStores.FlatView.{whole_row_owner}
use Rattle.lf_graph.proofs.Stores.Reordered.{same_owner_is}

cells_push : (rows : List PartRow) (r : PartRow) → rows_cells (rows ++ r ∷ []) ≡ rows_cells rows + (1 + length r.fields)
cells_push [] r = omega arith
cells_push (x ∷ xs) r = let n = cells_push xs r in omega arith

-- ---- a row
keys_again : (m : CellsAt) (o : ObjId) (keys : List Key) → map (λ (f : Key × Value). f.0) (pairs m o keys) ≡ keys
keys_again m o [] = refl
keys_again m o (k ∷ ks) = ap (λ l. k ∷ l) (keys_again m o ks)

pub is_part_row : (m : CellsAt) (o : ObjId) (ends : FieldEnds) (keys : List Key) (r : PartRow) → IsFieldList m o ends keys → r.width ≡ ends.width → r.fields ≡ pairs m o keys → IsPartRow r
is_part_row m o ends keys r list w e = record {
  differ = subst (λ f. NodesDiffer same_key (map (λ (x : Key × Value). x.0) f)) (sym e) (subst (NodesDiffer same_key) (sym (keys_again m o keys)) list.list.differ);
  width = w ∙ list.width ∙ sym (ap length e ∙ length-map keys (paired m o));
}

pub copies_row : (heads : HeadsAt) (m : CellsAt) (o : ObjId) (r : StoredRow) (fields : List (Key × Value)) → linked_row_at heads o ≡ Some r → fields ≡ pairs m o (walked_keys m o r.fields)
    → CopiesRow heads m o (record { name = o; refs = r.refs; width = r.fields.width; fields = fields })
copies_row heads m o r fields here e = record {
  name = refl;
  refs = sym (ap (λ x. (whole_row_by m o x).refs) here);
  fields = e ∙ sym (ap (λ x. ((whole_row_by m o x).row).fields) here);
}

-- ---- the rows
after_prefix : (prefix : List ObjId) (o : ObjId) (rest : List ObjId) → NodesDiffer same_name (prefix ++ o ∷ rest) → after same_name o (prefix ++ o ∷ rest) ≡ head_or rest None
after_prefix [] o rest d = ap (λ b. cond b (head_or rest None) (after same_name o rest)) (same_name_itself o)
after_prefix (x ∷ xs) o rest d = ap (λ b. cond b (head_or (xs ++ o ∷ rest) None) (after same_name o (xs ++ o ∷ rest))) (other_way x o (lacks_middle x xs o rest d.0)) ∙ after_prefix xs o rest d.1 where
  lacks_middle : (x : ObjId) (xs : List ObjId) (o : ObjId) (rest : List ObjId) → Lacks same_name x (xs ++ o ∷ rest) → same_name x o ≡ false
  lacks_middle x [] o rest l = l.0
  lacks_middle x (y ∷ ys) o rest l = lacks_middle x ys o rest l.1

has_middle : (prefix : List ObjId) (o : ObjId) (rest : List ObjId) → has same_name o (prefix ++ o ∷ rest) ≡ true
has_middle [] o rest = ap (λ b. b || has same_name o rest) (same_name_itself o)
has_middle (x ∷ xs) o rest = ap (λ b. same_name o x || b) (has_middle xs o rest) ∙ or-true (same_name o x)

each_push : (rows : List PartRow) (r : PartRow) → EachRow rows → IsPartRow r → EachRow (rows ++ r ∷ [])
each_push [] r e p = (p, tt)
each_push (x ∷ xs) r e p = (e.0, each_push xs r e.1 p)

push_rest : {X : Type 0} (prefix : List X) (x : X) (rest : List X) → prefix ++ x ∷ rest ≡ (prefix ++ x ∷ []) ++ rest
push_rest [] x rest = refl
push_rest (y ∷ ys) x rest = ap (λ l. y ∷ l) (push_rest ys x rest)

length_middle : {X : Type 0} (prefix : List X) (x : X) (rest : List X) → length prefix < length (prefix ++ x ∷ rest)
length_middle [] x rest = omega arith
length_middle (y ∷ ys) x rest = let l = length_middle ys x rest in omega arith

module _ (t : Chains) (cells : Cells) (flat : IsFlat t cells) (region : ObjId) where
  abbrev row : ObjId → CountedRow
  row = whole_row_at (heads_of t.rows) (cells_of cells)

  abbrev chain : List ObjId
  chain = chain_of t (In region)

  -- the first rows were copied, and `next` is the one after them
  pub record Copying (rows : List PartRow) (next : Option ObjId) : Type 0 where
    pub prefix : List ObjId
    pub rest : List ObjId
    pub whole : chain ≡ prefix ++ rest
    pub shown : map (part_row region) rows ≡ map row prefix
    pub names : map (λ (r : PartRow). r.name) rows ≡ prefix
    pub each : EachRow rows
    pub next_is : next ≡ head_or rest None

  pub no_row_copied : Copying [] (head_or chain None)
  no_row_copied = record { prefix = []; rest = chain; whole = refl; shown = refl; names = refl; each = tt; next_is = refl }

  record Next (o : ObjId) (rest : List ObjId) : Type 0 where
    pub rest_after : List ObjId
    pub splits : rest ≡ o ∷ rest_after

  next_of : (rest : List ObjId) (o : ObjId) → head_or rest None ≡ Some o → Next o rest
  next_of [] o e = cc
  next_of (x ∷ xs) o e = record { rest_after = xs; splits = let same : x ≡ o = cc in ap (λ y. y ∷ xs) same }

  module _ (rows : List PartRow) (next : Option ObjId) (o : ObjId) (copying : Copying rows next) (here : next ≡ Some o) where
    abbrev split_here : Next o copying.rest
    split_here = next_of copying.rest o (sym copying.next_is ∙ here)

    splits_at : chain ≡ copying.prefix ++ o ∷ split_here.rest_after
    splits_at = copying.whole ∙ ap (λ l. copying.prefix ++ l) split_here.splits

    pub next_of_region : is_this_owner (In region) (linked_owner_at (heads_of t.rows) o) ≡ true
    next_of_region = sym ((flat.chains (In region)).members o) ∙ ap (has same_name o) splits_at ∙ has_middle copying.prefix o split_here.rest_after

    pub owner_of_next : linked_owner_at (heads_of t.rows) o ≡ Some (In region)
    owner_of_next = go (linked_owner_at (heads_of t.rows) o) next_of_region where
      go : (w : Option Owner) → is_this_owner (In region) w ≡ true → w ≡ Some (In region)
      go None e = cc
      go (Some w) e = ap Some (same_owner_is w (In region) e)

    pub next_there : IsSome (linked_row_at (heads_of t.rows) o)
    next_there = go (linked_row_at (heads_of t.rows) o) next_of_region where
      go : (r : Option StoredRow) → is_this_owner (In region) (option_map (λ (x : StoredRow). x.owner) r) ≡ true → IsSome r
      go None e = cc
      go (Some r) e = refl

    pub fewer : length rows < length chain
    fewer =
        let a : length rows ≡ length copying.prefix = sym (length-map rows (λ (r : PartRow). r.name)) ∙ ap length copying.names in
        let b : length chain ≡ length (copying.prefix ++ o ∷ split_here.rest_after) = ap length splits_at in
        let l = length_middle copying.prefix o split_here.rest_after in
        omega arith

    pub one_row_copied : (r : PartRow) (then_next : Option ObjId) → CopiesRow (heads_of t.rows) (cells_of cells) o r → IsPartRow r → then_next ≡ after same_name o chain → Copying (rows ++ r ∷ []) then_next
    one_row_copied r then_next copy part e = record {
      prefix = copying.prefix ++ o ∷ [];
      rest = split_here.rest_after;
      whole = splits_at ∙ push_rest copying.prefix o split_here.rest_after;
      shown = map-append (part_row region) rows (r ∷ []) ∙ (λ i. copying.shown i ++ same_row i ∷ []) ∙ sym (map-append row copying.prefix (o ∷ []));
      names = map-append (λ (x : PartRow). x.name) rows (r ∷ []) ∙ (λ i. copying.names i ++ copy.name i ∷ []);
      each = each_push rows r copying.each part;
      next_is = e ∙ ap (after same_name o) splits_at ∙ after_prefix copying.prefix o split_here.rest_after (subst (NodesDiffer same_name) splits_at (flat.chains (In region)).differ);
    } where
      owned : (row o).row.owner ≡ In region
      owned = whole_row_owner (cells_of cells) (In region) o (linked_row_at (heads_of t.rows) o) next_of_region

      same_name_there : (x : Option StoredRow) → ((whole_row_by (cells_of cells) o x).row).name ≡ o
      same_name_there None = refl
      same_name_there (Some x) = refl

      same_row : part_row region r ≡ row o
      same_row i = record { row = record { name = (copy.name ∙ sym (same_name_there (linked_row_at (heads_of t.rows) o))) i; owner = sym owned i; fields = copy.fields i }; refs = copy.refs i }

  module _ (rows : List PartRow) (copying : Copying rows None) where
    no_rest : (rest : List ObjId) → None ≡ head_or rest None → rest ≡ []
    no_rest [] e = refl
    no_rest (x ∷ xs) e = cc

    all_prefix : chain ≡ copying.prefix
    all_prefix = copying.whole ∙ ap (λ l. copying.prefix ++ l) (no_rest copying.rest copying.next_is) ∙ append-nil copying.prefix

    pub all_copied : map (part_row region) rows ≡ rows_under t cells (In region)
    all_copied = copying.shown ∙ ap (map row) (sym all_prefix)

    pub is_part : IsPart rows
    is_part = record { each = copying.each; names = subst (NodesDiffer same_name) (all_prefix ∙ sym copying.names) (flat.chains (In region)).differ }

-- ---- rows by place
pub each_at : (rows : List PartRow) (i : ℕ) (r : PartRow) → EachRow rows → slice_get rows i ≡ Some r → IsPartRow r
each_at [] i r e h = cc
each_at (x ∷ xs) zero r e h = let same : x ≡ r = cc in subst IsPartRow same e.0
each_at (x ∷ xs) (suc i) r e h = each_at xs i r e.1 h

-- the cells of one row more
pub cells_more : (rows : List PartRow) (i : ℕ) (r : PartRow) → slice_get rows i ≡ Some r → rows_cells (take (i + 1) rows) ≡ rows_cells (take i rows) + (1 + length r.fields)
cells_more rows i r e = ap rows_cells (take_next rows i r e) ∙ cells_push (take i rows) r

pub cells_of_part : (region : ObjId) (rows : List PartRow) → part_cells (map (part_row region) rows) ≡ rows_cells rows
cells_of_part region [] = refl
cells_of_part region (r ∷ rs) = ap (λ n. (1 + length r.fields) + n) (cells_of_part region rs)

pub no_cells : (rows : List PartRow) → 0 ≡ rows_cells (take 0 rows)
no_cells [] = refl
no_cells (r ∷ rs) = refl

pub head_found : (rows : List PartRow) (i : ℕ) (r : PartRow) → IsPart rows → slice_get rows i ≡ Some r → Some (record { name = r.name; width = r.width; refs = r.refs }) ≡ option_map part_head (slice_get rows i)
head_found rows i r part here = (λ j. Some (record { name = r.name; width = (each_at rows i r part.each here).width j; refs = r.refs })) ∙ ap (option_map part_head) (sym here)

-- What a survey of all that moves says of the write.
use Rattle.std.proofs.Common.{Bool, List, None, Option, Some, [], ap, arith, cond, false, flat_map, inl, inr, ltb, not, refl, subst, sym, true, ℕ, ◌&&◌, ◌+◌, ◌<◌, ◌∙◌, ◌∷◌, ◌≡◌, ◌≤◌, ◌⊎◌}
use Rattle.std.proofs.lemmas.Bool.{and_parts, false_from_ne_true, lt-ltb, ltb-true}
use Rattle.std.specs.List.{count_by, list_any}
use Rattle.std.specs.Option.{option_to_list}
use Rattle.lf_base.specs.declared.faults.Fault.TheVariants.{Cycle, Interior, SecondOwner}
use Rattle.lf_base.specs.declared.ids.ObjId.{ObjId}
use Rattle.lf_base.specs.declared.values.Key.{Key}
use Rattle.lf_base.specs.declared.values.Owner.{Owner}
use Rattle.lf_base.specs.declared.values.Owner.TheVariants.{Frozen, In, Local}
use Rattle.lf_base.specs.declared.values.Value.{Value}
use Rattle.lf_base.specs.EdgeLists.{near_edges}
use Rattle.lf_base.specs.Edges.{Edge, Field, Source, edges_by, field_targets, slot_targets}
use Rattle.lf_base.specs.MoveSet.{LocalPath, continues, move_set, starts}
use Rattle.lf_base.specs.Names.{same_name, targets_of_value}
use Rattle.lf_base.specs.Owners.{has_name, is_bridge, is_in, is_local_at, names, owner_in, row_at}
use Rattle.lf_base.specs.Ownership.{owning_edges}
use Rattle.lf_base.specs.PlainState.{Row, State}
use Rattle.lf_base.specs.Sets.{Member}
use Rattle.lf_base.specs.TakeResult.{row_field}
use Rattle.lf_base.specs.TouchedEdges.{OtherBridge, TouchesOnce, TouchesOther, TouchesTwice, WritesInto, edges_from, is_inside_other, leads_inside_other, row_fields, touched_edges, touches}
use Rattle.lf_base.specs.WalkCounts.{counted}
use Rattle.lf_base.specs.WellFormed.{SlotMayHold}
use Rattle.lf_base.specs.WriteResult.{write_refusal}
use Rattle.lf_base.proofs.ListLemmas.Members.{Member_any, Member_flat_map, Member_left, Member_right, any_Member}
use Rattle.lf_base.proofs.NameLemmas.SameNames.{same_name_is, same_name_itself}
use Rattle.lf_barrier.specs.declared.survey.Survey.{Survey}
use Rattle.lf_barrier.specs.Descents.{IsBelow}
use Rattle.lf_barrier.specs.Surveys.{IsSurvey, is_other_bridge, is_that, objects_touched, visits_of}
use Rattle.lf_barrier.proofs.ContentCalls.{some_left}
use Rattle.lf_barrier.proofs.MovingEdges.FieldLoops.{fields_told}
use Rattle.lf_barrier.proofs.Surveys.SurveySteps.{touched_is, zero_if_not_positive}
use Rattle.lf_domain.specs.Counts.{IsDomain}
use Rattle.lf_domain.proofs.EdgeTests.{count_cons}
use Rattle.lf_domain.proofs.NearCounts.{bridge_has_row}
use Rattle.lf_domain.proofs.StoreEdges.{field_told, owner_told}
use Rattle.lf_graph.specs.StoredRows.{CountedRow, field_value_at, fields_at, owner_at}
use Rattle.lf_laws.proofs.Dropping.RowsInPlace.{rows_in_place}
use Rattle.lf_laws.proofs.Edges.EdgeParts.{any_same, any_some, count_app, same_by, some_any}
use Rattle.lf_laws.proofs.Edges.FrozenEdges.{near_owning}
use Rattle.lf_laws.proofs.Judging.OwnersCounted.{old_owns}
use Rattle.lf_laws.proofs.Judging.Refusals.{not_refused, refused_cycle, refused_inside, refused_second}
use Rattle.lf_laws.proofs.Owners.PathsOfSets.{move_set_path}
use Rattle.lf_laws.proofs.Rows.OwnerTests.{in_region}
use Rattle.lf_laws.proofs.Rows.RowsByName.{at_mem, has_name_Member, owner_mem}
use Rattle.lf_laws.proofs.Writes.MovedRows.{of_moved}
use Rattle.lf_regions.specs.declared.region.Region.{Region}
use Rattle.lf_regions.specs.Regions.{owned_of}
use Rattle.lf_regions.specs.TableCounts.{owns_region}

-- a test of where edges lead
leads_by : (p : ObjId → Bool) (f : Source) (os : List ObjId) → count_by (λ (e : Edge). p e.to) (edges_by f os) ≡ count_by p os
leads_by p f [] = refl
leads_by p f (o ∷ os) = omega (arith, count_cons (λ (e : Edge). p e.to) (record { from = f; to = o }) (edges_by f os), count_app p (o ∷ []) os, one, leads_by p f os) where
  one : count_by p (o ∷ []) ≡ cond (p o) 1 0
  one = elim (p o) as (λ c. 0 + cond c 1 0 ≡ cond c 1 0) [ true ↦ refl | false ↦ refl ]

once_fits : (n c visits : ℕ) (owned that : Bool) → n ≤ 1 → ltb 0 n ≡ owned → c ≡ cond that 1 0 → visits ≤ 1 → (0 < visits → (owned && not that) ≡ false) → n + visits ≤ c + 1
once_fits n c visits false that one e k most h = omega (arith, most, zero_if_not_positive n (λ m. let z : true ≡ false = sym (lt-ltb 0 n m) ∙ e in cc))
once_fits n c visits true true one e k most h = omega (arith, one, k, most)
once_fits n c visits true false one e k most h = omega (arith, one, zero_if_not_positive visits (λ m. let z : true ≡ false = h m in cc))

twice_fits : (n c visits : ℕ) (owned that : Bool) → ltb 0 n ≡ owned → c ≡ cond that 1 0 → c ≤ n → (1 < visits) ⊎ ((0 < visits) × ((owned && not that) ≡ true)) → c + 1 < n + visits
twice_fits n c visits owned that e k less (inl m) = omega (arith, less, m)
twice_fits n c visits false that e k less (inr m) = absurd (let z : false ≡ true = m.1 in cc)
twice_fits n c visits true true e k less (inr m) = absurd (let z : false ≡ true = m.1 in cc)
twice_fits n c visits true false e k less (inr m) = omega (arith, k, m.0, ltb-true 0 n e)

counted_old : (old : Option ObjId) (w : Option Value) (b : ObjId) → option_to_list old ≡ slot_targets w → counted b w ≡ cond (is_that old b) 1 0
counted_old None w b e = ap (count_by (λ p. same_name p b)) (sym e)
counted_old (Some p) w b e = ap (count_by (λ p. same_name p b)) (sym e) ∙ (elim (same_name p b) as (λ c. 0 + cond c 1 0 ≡ cond c 1 0) [ true ↦ refl | false ↦ refl ])

module _ (rows : List CountedRow) (regions : List Region) (s : State) (d : IsDomain rows regions s) (x : ObjId) (k : Key) (v : Value) (home : ObjId) (target : owner_in s.rows x ≡ Some (In home)) (may : SlotMayHold s v)
    (old : Option ObjId) (old_is : option_to_list old ≡ slot_targets (row_field (row_at s.rows x) k)) (found : Survey) (is : IsSurvey rows regions home old (objects_touched rows v (found.moved).keys) found)
    (within : (o : ObjId) → has_name (found.moved).keys o ≡ true → has_name (names (move_set s v)) o ≡ true) where
  abbrev ms : List ObjId
  ms = (found.moved).keys

  abbrev seen : List ObjId
  seen = objects_touched rows v ms

  told : (o : ObjId) → owner_in s.rows o ≡ owner_at rows o
  told o = owner_told rows s.rows o ((d.counts).store).rows

  -- ---- what moves
  local_seen : (y : Row) → Member y s.rows → y.owner ≡ Local → Member y.name seen → has_name ms y.name ≡ true
  local_seen y m l t =
      let owner : owner_at rows y.name ≡ Some Local = sym (told y.name) ∙ owner_mem s.rows (rows_in_place s d.well_formed).distinct y m ∙ ap Some l in
      is.moves y.name ∙ Member_any (λ p. is_local_at (owner_at rows p) && same_name p y.name) y.name seen t (ap (λ w. is_local_at w && same_name y.name y.name) owner ∙ same_name_itself y.name)

  path_row : (y : Row) → LocalPath s v y → Member y s.rows
  path_row y (starts m l t) = m
  path_row y (continues path m l t) = m

  on_path : (y : Row) → LocalPath s v y → has_name ms y.name ≡ true
  on_path y (starts m l t) = local_seen y m l (Member_left y.name (targets_of_value v) (flat_map (λ o. field_targets (fields_at rows o)) ms) t)
  on_path y (continues {x = z} path m l t) =
      let fields : fields_at rows z.name ≡ z.fields = fields_told rows s.rows z.name ((d.counts).store).rows ∙ ap row_fields (at_mem s.rows (rows_in_place s d.well_formed).distinct z (path_row z path)) in
      local_seen y m l (Member_right y.name (targets_of_value v) (flat_map (λ o. field_targets (fields_at rows o)) ms)
      (Member_flat_map (λ o. field_targets (fields_at rows o)) z.name y.name ms (has_name_Member z.name ms (on_path z path)) (subst (λ l. Member y.name (field_targets l)) (sym fields) t)))

  pub writes : WritesInto s x v home ms
  writes = record {
    well_formed = d.well_formed;
    target = target;
    value = may;
    differ = is.differ;
    moves = λ o. same_by (has_name ms o) (has_name (names (move_set s v)) o) (within o) (λ h.
        let y = of_moved s v o h in subst (λ n. has_name ms n ≡ true) y.1.1 (on_path y.0 ((move_set_path s v y.0).0 y.1.0)));
  }

  -- ---- what is touched
  from_rows : (p : ObjId → Bool) (os : List ObjId) → count_by (λ (e : Edge). p e.to) (edges_from s.rows os) ≡ count_by p (flat_map (λ o. field_targets (fields_at rows o)) os)
  from_rows p [] = refl
  from_rows p (o ∷ os) =
      let one : List ObjId = field_targets (row_fields (row_at s.rows o)) in
      omega (
        arith,
        count_app (λ (e : Edge). p e.to) (edges_by (Field o) one) (edges_from s.rows os),
        leads_by p (Field o) one,
        ap (λ l. count_by p (field_targets l)) (fields_told rows s.rows o ((d.counts).store).rows),
        count_app p (field_targets (fields_at rows o)) (flat_map (λ o. field_targets (fields_at rows o)) os),
        from_rows p os,
      )

  touched_seen : (p : ObjId → Bool) → count_by (λ (e : Edge). p e.to) (touched_edges s x v ms) ≡ count_by p seen
  touched_seen p =
      omega (
        arith,
        count_app (λ (e : Edge). p e.to) (edges_by (Field x) (targets_of_value v)) (edges_from s.rows ms),
        leads_by p (Field x) (targets_of_value v),
        from_rows p ms,
        count_app p (targets_of_value v) (flat_map (λ o. field_targets (fields_at rows o)) ms),
      )

  inside_is : list_any (λ e. leads_inside_other s.rows home e) (touched_edges s x v ms) ≡ found.inside
  inside_is =
      any_same (λ (e : Edge). leads_inside_other s.rows home e) (touched_edges s x v ms) (λ o. is_inside_other home o (owner_in s.rows o)) seen (touched_seen (λ o. is_inside_other home o (owner_in s.rows o)))
      ∙ (λ i. list_any (λ o. is_inside_other home o (told o i)) seen) ∙ sym is.is_inside

  other_is : (b : ObjId) → OtherBridge s home b → is_other_bridge home b (owner_at rows b) ≡ true
  other_is b o = ap (is_other_bridge home b) (sym (told b) ∙ in_region b (owner_in s.rows b) o.bridge) ∙ ap (λ c. not c && same_name b b) o.other ∙ same_name_itself b

  by_owner : (b : ObjId) (w : Option Owner) → is_other_bridge home b w ≡ true → (w ≡ Some (In b)) × (same_name home b ≡ false)
  by_owner b (Some (In q)) e =
      let p = and_parts (not (same_name home q)) (same_name q b) e in
      let same : q ≡ b = same_name_is q b p.1 in
      (ap (λ n. Some (In n)) same, false_from_ne_true _ (λ h. let z : false ≡ true = ap not (sym h) ∙ ap (λ n. not (same_name home n)) (sym same) ∙ p.0 in cc))
  by_owner b (Some Local) e = absurd (let z : false ≡ true = e in cc)
  by_owner b (Some Frozen) e = absurd (let z : false ≡ true = e in cc)
  by_owner b None e = absurd (let z : false ≡ true = e in cc)

  other_bridge : (b : ObjId) → is_other_bridge home b (owner_at rows b) ≡ true → OtherBridge s home b
  other_bridge b e = let p = by_owner b (owner_at rows b) e in record { bridge = ap (is_in b) (told b ∙ p.0) ∙ same_name_itself b; other = p.1 }

  owners : (b : ObjId) → is_bridge s.rows b ≡ true → ltb 0 (owning_edges s b) ≡ owned_of regions b
  owners b h =
      ap (ltb 0) (near_owning s d.well_formed b (bridge_has_row s d.well_formed b h)) ∙ some_left (owns_region s.rows b) (near_edges s) ∙ sym (((d.counts).table).owned b h)

  visits : (b : ObjId) → touches s x v ms b ≡ visits_of seen b
  visits b = touched_seen (λ p. same_name p b)

  once : found.second ≡ false → TouchesOnce s x k v home ms
  once h b o =
      let first = is.once h b (other_is b o) in
      let fits = once_fits (owning_edges s b) (counted b (row_field (row_at s.rows x) k)) (visits_of seen b) (owned_of regions b) (is_that old b) ((d.well_formed).one_owner b o.bridge) (owners b o.bridge)
      (counted_old old (row_field (row_at s.rows x) k) b old_is) first.0 first.1 in
      omega (arith, fits, visits b)

  twice : found.second ≡ true → (b : ObjId) × TouchesTwice s x k v home ms b
  twice h =
      let t = is.twice h in
      let o = other_bridge t.0 t.1.0 in
      let fits = twice_fits (owning_edges s t.0) (counted t.0 (row_field (row_at s.rows x) k)) (visits_of seen t.0) (owned_of regions t.0) (is_that old t.0) (owners t.0 o.bridge)
      (counted_old old (row_field (row_at s.rows x) k) t.0 old_is) (old_owns s x k v home ms writes t.0 o.other) t.1.1 in
      (t.0, record { at = o; two = omega (arith, fits, visits t.0) })

  pub touched_other : (b : ObjId) → has_name (found.touched).keys b ≡ true → is_other_bridge home b (owner_at rows b) ≡ true
  touched_other b h =
      let t = any_Member (λ p. is_other_bridge home p (owner_at rows p) && same_name p b) seen (sym (is.touches b) ∙ h) in
      let p = and_parts (is_other_bridge home t.0 (owner_at rows t.0)) (same_name t.0 b) t.1.1 in
      ap (λ n. is_other_bridge home n (owner_at rows n)) (sym (same_name_is t.0 b p.1)) ∙ p.0

  touched_named : (b : ObjId) → TouchesOther s x v home ms b → has_name (found.touched).keys b ≡ true
  touched_named b t =
      let o : is_other_bridge home b (owner_at rows b) ≡ true = other_is b t.at in
      is.touches b ∙ touched_is rows regions home old seen b o ∙ any_some (λ p. same_name p b) seen (omega (arith, t.touched, visits b))

  named_touched : (b : ObjId) → has_name (found.touched).keys b ≡ true → TouchesOther s x v home ms b
  named_touched b h =
      let o = touched_other b h in
      record {
        at = other_bridge b o;
        touched = omega (arith, visits b, some_any (λ p. same_name p b) seen (sym (touched_is rows regions home old seen b o) ∙ sym (is.touches b) ∙ h));
      }

  -- ---- the answers
  pub says_inside : found.inside ≡ true → write_refusal s x k v ≡ Some Interior
  says_inside h = refused_inside s x k v home ms writes (inside_is ∙ h)

  pub says_second : found.inside ≡ false → found.second ≡ true → write_refusal s x k v ≡ Some SecondOwner
  says_second i h = let t = twice h in refused_second s x k v home ms writes (inside_is ∙ i) t.0 t.1

  pub says_cycle : found.inside ≡ false → found.second ≡ false → IsBelow s (found.touched).keys home true → write_refusal s x k v ≡ Some Cycle
  says_cycle i n t = refused_cycle s x k v home ms writes (inside_is ∙ i) (once n) t.0 (named_touched t.0 t.1.0) t.1.1

  pub says_none : found.inside ≡ false → found.second ≡ false → IsBelow s (found.touched).keys home false → write_refusal s x k v ≡ None
  says_none i n clear = not_refused s x k v home ms writes (inside_is ∙ i) (once n) (λ b t up. clear b (touched_named b t) up)

-- the object that the field refers to so far
pub old_told : (rows : List CountedRow) (regions : List Region) (s : State) → IsDomain rows regions s → (x : ObjId) (k : Key) (old : Option ObjId) (w : Option Value) → option_to_list old ≡ slot_targets w → w ≡ field_value_at rows x k
    → option_to_list old ≡ slot_targets (row_field (row_at s.rows x) k)
old_told rows regions s d x k old w e f = e ∙ ap slot_targets (f ∙ field_told rows s.rows x k ((d.counts).store).rows)

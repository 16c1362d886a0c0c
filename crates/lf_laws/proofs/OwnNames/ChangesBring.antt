-- What each change leaves of names, of cowns and of the frozen rows that were given.
use Rattle.std.proofs.Common.{List, None, Option, Some, [], ap, cond, false, inl, inr, map, not, refl, subst, suc, sym, true, zero, ℕ, ◌++◌, ◌∙◌, ◌∷◌, ◌≡◌, ◌⊎◌}
use Rattle.std.specs.List.{filter}
use Rattle.std.specs.Prelude.{option_to_list}
use Rattle.lf_base.specs.declared.ids.CownId.{CownId}
use Rattle.lf_base.specs.declared.ids.ObjId.{ObjId}
use Rattle.lf_base.specs.declared.values.Key.{Key}
use Rattle.lf_base.specs.declared.values.Owner.{Owner}
use Rattle.lf_base.specs.declared.values.Owner.TheVariants.{Frozen, In, Local}
use Rattle.lf_base.specs.declared.values.Value.{Value}
use Rattle.lf_base.specs.declared.values.Value.TheVariants as value
use Rattle.lf_base.specs.CloseResult.{close_result, closed_fields, closed_slot, closed_value, leads_into}
use Rattle.lf_base.specs.ContentResult.{content_result, put_content}
use Rattle.lf_base.specs.FreezeResult.{freeze_result, freeze_set, frozen_row, insert_rows}
use Rattle.lf_base.specs.Kept.{kept, kept_rows}
use Rattle.lf_base.specs.MergeResult.{lies_in, relabel_region}
use Rattle.lf_base.specs.MoveSet.{move_set}
use Rattle.lf_base.specs.Names.{cowns_of_value, is_local, same_cown, same_key}
use Rattle.lf_base.specs.NewCown.{made_result, next_cown}
use Rattle.lf_base.specs.Owners.{has_row, names, owner_in}
use Rattle.lf_base.specs.PlainChanges.{insert_row, next_object, put_slot, slot_at, with_row, with_slots}
use Rattle.lf_base.specs.PlainState.{Row, State}
use Rattle.lf_base.specs.Sets.{Member}
use Rattle.lf_base.specs.TakeResult.{drop_field, take_result}
use Rattle.lf_base.specs.WellFormed.{content_values, field_values}
use Rattle.lf_base.specs.WriteResult.{is_at, moved, write_fields, write_result}
use Rattle.lf_laws.proofs.Writes.CownNames.{relabel_values, write_values}
use Rattle.lf_laws.proofs.Rows.InsertedRows.{all_inserted, inserted_values}
use Rattle.lf_base.proofs.NameLemmas.RowNames.{inserted_name}
use Rattle.lf_laws.proofs.Dropping.KeptRows.{kept_in}
use Rattle.lf_base.proofs.ListLemmas.Members.{Member_flat_map, Member_map, Member_of_flat_map, Member_of_map, Within_flat_map, Member_left, Member_of_append, Member_right, Within}
use Rattle.lf_laws.proofs.Writes.MovedRows.{names_relabel, names_write}
use Rattle.lf_laws.proofs.Owners.PathsOfSets.{freeze_within}
use Rattle.lf_base.proofs.ListLemmas.Filters.{Member_of_filter}
use Rattle.lf_base.specs.Contents.{cowns_of}
use Rattle.lf_base.specs.OwnNames.{KnowsCowns}
use Rattle.lf_laws.proofs.OwnNames.KnownCowns.{Comes, by_parts, in_given, in_held, in_made, in_own, in_rows, in_slots, names_no_cown}

module _ (s : State) where
  -- ---- other slots
  pub slots_come : (new : List (Option Value)) → ((v : Value) → Member (Some v) new → KnowsCowns s v) → Comes s (with_slots s new)
  slots_come new may = record {
    birth = refl;
    given = refl;
    held = refl;
    names = λ o m. inl m;
    made = λ c m. m;
    own = λ c m. inl m;
    values = (by_parts s) new s.rows s.given s.own s.held s.made
        (λ w m. let x = Member_of_flat_map option_to_list w new m in may w (subst (λ z. Member z new) (some_of x.0 w x.1.1) x.1.0))
        (in_rows s) (in_held s) (in_made s) (in_given s) (in_own s);
  }
    where
      some_of : (z : Option Value) (w : Value) → Member w (option_to_list z) → z ≡ Some w
      some_of None w m = absurd m
      some_of (Some v) w (inl e) = ap Some e
      some_of (Some v) w (inr m) = absurd m

  -- ---- a new row
  pub row_comes : (u : Owner) → Comes s (with_row s u)
  row_comes u = record {
    birth = refl;
    given = refl;
    held = refl;
    made = λ c m. m;
    own = λ c m. inl m;
    names = λ o m. elim (Member_of_append o (names (insert_row row s.rows)) (names s.own) m) [
      | inl n ↦ elim (inserted_name row s.rows o n) [ inl e ↦ inr (ap (λ (z : ObjId). z.birth) (sym e)) | inr k ↦ inl (Member_left o (names s.rows) (names s.own) k) ]
      | inr n ↦ inl (Member_right o (names s.rows) (names s.own) n)
    ];
    values = (by_parts s) s.slots (insert_row row s.rows) s.given s.own s.held s.made (in_slots s) (λ w m. (in_rows s) w (subst (Member w) (inserted_values row s.rows refl) m)) (in_held s) (in_made s) (in_given s) (in_own s);
  }
    where
      row : Row
      row = record { name = next_object s; owner = u; fields = [] }

  -- ---- a new cown
  pub cown_comes : (v : Value) → KnowsCowns s v → Comes s (made_result s v)
  cown_comes v may = record {
    birth = refl;
    given = refl;
    held = refl;
    names = λ o m. inl m;
    made = λ c m. subst (Member c) (sym (cowns_end s.made)) (Member_left c (cowns_of s.made) (next_cown s ∷ []) m);
    own = λ c m. elim (Member_of_append c (cowns_of s.held) (cowns_of (s.made ++ (next_cown s, v) ∷ [])) m) [ inl n ↦ inl (Member_left c (cowns_of s.held) (cowns_of s.made) n) | inr n ↦ inr n ];
    values = (by_parts s) s.slots s.rows s.given s.own s.held (s.made ++ (next_cown s, v) ∷ []) (in_slots s) (in_rows s) (in_held s)
        (λ w m. let x = Member_of_map (λ (z : CownId × Value). z.1) w (s.made ++ (next_cown s, v) ∷ []) m in
        elim (Member_of_append x.0 s.made ((next_cown s, v) ∷ []) x.1.0) [
          | inl n ↦ (in_made s) w (subst (λ z. Member z (content_values s.made)) x.1.1 (Member_map (λ (z : CownId × Value). z.1) x.0 s.made n))
          | inr n ↦ elim n [ inl e ↦ subst (KnowsCowns s) (ap (λ (z : CownId × Value). z.1) e ∙ x.1.1) may | inr z ↦ absurd z ]
        ])
        (in_given s) (in_own s);
  }
    where
      cowns_end : (xs : List (CownId × Value)) → cowns_of (xs ++ (next_cown s, v) ∷ []) ≡ cowns_of xs ++ next_cown s ∷ []
      cowns_end [] = refl
      cowns_end (x ∷ xs) = ap (λ l. x.0 ∷ l) (cowns_end xs)

  -- ---- rows of the same names
  rows_come : (rows : List Row) → names rows ≡ names s.rows → ((w : Value) → Member w (field_values rows) → KnowsCowns s w) → Comes s (record s { rows = rows })
  rows_come rows e fine = record {
    birth = refl;
    given = refl;
    held = refl;
    made = λ c m. m;
    own = λ c m. inl m;
    names = λ o m. inl (subst (λ os. Member o (os ++ names s.own)) e m);
    values = (by_parts s) s.slots rows s.given s.own s.held s.made (in_slots s) fine (in_held s) (in_made s) (in_given s) (in_own s);
  }

  pub write_comes : (x : ObjId) (k : Key) (v : Value) → KnowsCowns s v → Comes s (write_result s x k v)
  write_comes x k v may = go (owner_in s.rows x)
    where
      fine : (w : Value) → Member w (field_values (write_fields s.rows x k v)) → KnowsCowns s w
      fine w m = elim (write_values s.rows x k v w m) [ inl n ↦ (in_rows s) w n | inr e ↦ subst (KnowsCowns s) e may ]

      still : Comes s (record s { rows = write_fields s.rows x k v })
      still = rows_come (write_fields s.rows x k v) (names_write s.rows x k v) fine

      go : (u : Option Owner) → Comes s (record s { rows = moved (write_fields s.rows x k v) (move_set s v) u })
      go None = still
      go (Some Local) = still
      go (Some Frozen) = still
      go (Some (In r)) = rows_come _ (names_relabel (write_fields s.rows x k v) (names (move_set s v)) (In r) ∙ names_write s.rows x k v)
          (λ w m. fine w (subst (Member w) (relabel_values (write_fields s.rows x k v) (names (move_set s v)) (In r)) m))

  -- a change of each row that leaves its name
  map_names : (f : Row → Row) → ((r : Row) → (f r).name ≡ r.name) → (rows : List Row) → names (map f rows) ≡ names rows
  map_names f h [] = refl
  map_names f h (r ∷ rs) = λ i. h r i ∷ map_names f h rs i

  map_values : (f : Row → Row) → ((r : Row) (w : Value) → Member w (map (λ (g : Key × Value). g.1) (f r).fields) → Member w (map (λ (g : Key × Value). g.1) r.fields) ⊎ (cowns_of_value w ≡ [])) → (w : Value) → Member w (field_values (map f s.rows)) → KnowsCowns s w
  map_values f h w m =
      let x = Member_of_flat_map (λ (r : Row). map (λ (g : Key × Value). g.1) r.fields) w (map f s.rows) m in
      let y = Member_of_map f x.0 s.rows x.1.0 in
      elim (h y.0 w (subst (λ (r : Row). Member w (map (λ (g : Key × Value). g.1) r.fields)) (sym y.1.1) x.1.1)) [
        | inl n ↦ (in_rows s) w (Member_flat_map (λ (r : Row). map (λ (g : Key × Value). g.1) r.fields) y.0 w s.rows y.1.0 n)
        | inr e ↦ names_no_cown s w e
      ]

  drops : (fs : List (Key × Value)) (k : Key) (w : Value) → Member w (map (λ (g : Key × Value). g.1) (drop_field fs k)) → Member w (map (λ (g : Key × Value). g.1) fs)
  drops [] k w m = m
  drops (f ∷ fs) k w m = elim (same_key f.0 k) as (λ b. Member w (map (λ (g : Key × Value). g.1) (cond b fs (f ∷ drop_field fs k))) → Member w (map (λ (g : Key × Value). g.1) (f ∷ fs))) [
    | true ↦ λ n. inr n
    | false ↦ λ n. elim n [ inl e ↦ inl e | inr q ↦ inr (drops fs k w q) ]
  ] m

  pub take_comes : (x : ObjId) (k : Key) → Comes s (take_result s x k)
  take_comes x k = rows_come (map one s.rows) (map_names one (λ r. elim (is_at x r) as (λ b. (cond b (record r { fields = drop_field r.fields k }) r).name ≡ r.name) [ true ↦ refl | false ↦ refl ]) s.rows)
      (map_values one (λ r w. elim (is_at x r) as (λ b. Member w (map (λ (g : Key × Value). g.1) (cond b (record r { fields = drop_field r.fields k }) r).fields) → Member w (map (λ (g : Key × Value). g.1) r.fields) ⊎ (cowns_of_value w ≡ [])) [ true ↦ λ m. inl (drops r.fields k w m) | false ↦ λ m. inl m ]))
    where
      one : Row → Row
      one r = cond (is_at x r) (record r { fields = drop_field r.fields k }) r

  pub region_comes : (r : ObjId) (u : Owner) → Comes s (record s { rows = relabel_region s.rows r u })
  region_comes q u = rows_come (relabel_region s.rows q u) (map_names _ (λ r. elim (lies_in q r) as (λ b. (cond b (record r { owner = u }) r).name ≡ r.name) [ true ↦ refl | false ↦ refl ]) s.rows)
      (map_values _ (λ r w. elim (lies_in q r) as (λ b. Member w (map (λ (g : Key × Value). g.1) (cond b (record r { owner = u }) r).fields) → Member w (map (λ (g : Key × Value). g.1) r.fields) ⊎ (cowns_of_value w ≡ [])) [ true ↦ λ m. inl m | false ↦ λ m. inl m ]))

  -- ---- contents
  pub content_comes : (d : CownId) (v : Value) → KnowsCowns s v → Comes s (content_result s d v)
  content_comes d v fine = record {
    birth = refl;
    given = refl;
    names = λ o m. inl m;
    made = λ c m. m;
    held = same_cowns s.held;
    own = λ c m. inl (subst (λ ks. Member c (ks ++ cowns_of s.made)) (same_cowns s.held) m);
    values = (by_parts s) s.slots s.rows s.given s.own (put_content s.held d v) s.made (in_slots s) (in_rows s)
        (λ w m. elim (put_in s.held w m) [ inl n ↦ (in_held s) w n | inr e ↦ subst (KnowsCowns s) e fine ]) (in_made s) (in_given s) (in_own s);
  }
    where
      same_cowns : (hs : List (CownId × Value)) → cowns_of (put_content hs d v) ≡ cowns_of hs
      same_cowns [] = refl
      same_cowns (h ∷ hs) = elim (same_cown h.0 d) as (λ b. cowns_of (cond b ((h.0, v) ∷ hs) (h ∷ put_content hs d v)) ≡ cowns_of (h ∷ hs)) [ true ↦ refl | false ↦ ap (λ l. h.0 ∷ l) (same_cowns hs) ]

      put_in : (hs : List (CownId × Value)) (w : Value) → Member w (content_values (put_content hs d v)) → Member w (content_values hs) ⊎ (v ≡ w)
      put_in [] w m = inl m
      put_in (h ∷ hs) w m = elim (same_cown h.0 d) as (λ b. Member w (content_values (cond b ((h.0, v) ∷ hs) (h ∷ put_content hs d v))) → Member w (content_values (h ∷ hs)) ⊎ (v ≡ w)) [
        | true ↦ λ n. elim n [ inl e ↦ inr e | inr q ↦ inl (inr q) ]
        | false ↦ λ n. elim n [ inl e ↦ inl (inl e) | inr q ↦ elim (put_in hs w q) [ inl z ↦ inl (inr z) | inr z ↦ inr z ] ]
      ] m

  -- ---- rows that leave
  names_in : (xs ys : List Row) → Within xs ys → Within (names xs) (names ys)
  names_in xs ys h o m = let x = Member_of_map (λ (r : Row). r.name) o xs m in subst (λ p. Member p (names ys)) x.1.1 (Member_map (λ (r : Row). r.name) x.0 ys (h x.0 x.1.0))

  pub fewer_come : (rows : List Row) → Within rows s.rows → Comes s (record s { rows = rows })
  fewer_come rows h = record {
    birth = refl;
    given = refl;
    held = refl;
    made = λ c m. m;
    own = λ c m. inl m;
    names = λ o m. elim (Member_of_append o (names rows) (names s.own) m) [ inl n ↦ inl (Member_left o (names s.rows) (names s.own) (names_in rows s.rows h o n)) | inr n ↦ inl (Member_right o (names s.rows) (names s.own) n) ];
    values = (by_parts s) s.slots rows s.given s.own s.held s.made (in_slots s) (λ w m. (in_rows s) w (Within_flat_map (λ (r : Row). map (λ (g : Key × Value). g.1) r.fields) rows s.rows h w m)) (in_held s) (in_made s) (in_given s) (in_own s);
  }

  pub kept_comes : Comes s (kept s)
  kept_comes = fewer_come (kept_rows s) (kept_in s)

  -- no change
  pub here_comes : Comes s s
  here_comes = fewer_come s.rows (λ x m. m)

  pub freeze_comes : (v : Value) → Comes s (freeze_result s v)
  freeze_comes v = record {
    birth = refl;
    given = refl;
    held = refl;
    made = λ c m. m;
    own = λ c m. inl m;
    names = λ o m. elim (Member_of_append o (names rows) (names own) m) [
      | inl n ↦ inl (Member_left o (names s.rows) (names s.own) (names_in rows s.rows left o n))
      | inr n ↦ let x = Member_of_map (λ (r : Row). r.name) o own n in elim (from x.0 x.1.0) [
        | inl y ↦ inl (Member_left o (names s.rows) (names s.own) (subst (λ p. Member p (names s.rows)) (ap (λ (r : Row). r.name) y.1.1 ∙ x.1.1) (Member_map (λ (r : Row). r.name) y.0 s.rows y.1.0)))
        | inr k ↦ inl (Member_right o (names s.rows) (names s.own) (subst (λ p. Member p (names s.own)) x.1.1 (Member_map (λ (r : Row). r.name) x.0 s.own k)))
      ]
    ];
    values = (by_parts s) s.slots rows s.given own s.held s.made (in_slots s)
        (λ w m. (in_rows s) w (Within_flat_map (λ (r : Row). map (λ (g : Key × Value). g.1) r.fields) rows s.rows left w m)) (in_held s) (in_made s) (in_given s)
        (λ w m. let x = Member_of_flat_map (λ (r : Row). map (λ (g : Key × Value). g.1) r.fields) w own m in elim (from x.0 x.1.0) [
          | inl y ↦ (in_rows s) w (Member_flat_map (λ (r : Row). map (λ (g : Key × Value). g.1) r.fields) y.0 w s.rows y.1.0 (subst (λ (r : Row). Member w (map (λ (g : Key × Value). g.1) r.fields)) (sym y.1.1) x.1.1))
          | inr k ↦ (in_own s) w (Member_flat_map (λ (r : Row). map (λ (g : Key × Value). g.1) r.fields) x.0 w s.own k x.1.1)
        ]);
  }
    where
      rows : List Row
      rows = filter (λ r. not (has_row (freeze_set s v) r.name)) s.rows

      own : List Row
      own = insert_rows (map frozen_row (freeze_set s v)) s.own

      left : Within rows s.rows
      left x m = (Member_of_filter (λ (r : Row). not (has_row (freeze_set s v) r.name)) x s.rows m).0

      from : (x : Row) → Member x own → ((y : Row) × (Member y s.rows × (frozen_row y ≡ x))) ⊎ Member x s.own
      from x m = elim (all_inserted (map frozen_row (freeze_set s v)) s.own x m) [
        | inl n ↦ let y = Member_of_map frozen_row x (freeze_set s v) n in inl (y.0, (freeze_within s v y.0 y.1.0, y.1.1))
        | inr n ↦ inr n
      ]

  -- ---- a closing
  closed_or : (r : ObjId) (v : Value) → (v ≡ closed_value s r v) ⊎ (cowns_of_value (closed_value s r v) ≡ [])
  closed_or r v = elim (leads_into s r v) as (λ b. (v ≡ cond b value.None v) ⊎ (cowns_of_value (cond b value.None v) ≡ [])) [ true ↦ inr refl | false ↦ inl refl ]

  pub close_comes : (n : ℕ) (r : ObjId) → Comes s (close_result s n r)
  close_comes n r = record {
    birth = refl;
    given = refl;
    held = refl;
    made = λ c m. m;
    own = λ c m. inl m;
    names = λ o m. inl (subst (λ os. Member o (os ++ names s.own)) (map_names (closed_fields s r) (λ x. elim (is_local x.owner) as (λ b. (cond b (record x { fields = map (λ (f : Key × Value). (f.0, closed_value s r f.1)) x.fields }) x).name ≡ x.name) [ true ↦ refl | false ↦ refl ]) s.rows) m);
    values = (by_parts s) slots (map (closed_fields s r) s.rows) s.given s.own s.held s.made
        (λ w m. let x = Member_of_flat_map option_to_list w slots m in in_slot (map (closed_slot s r) s.slots) n (slot_at s.slots n) x.0 w closed_slots at_slot x.1.0 x.1.1)
        (map_values (closed_fields s r) (λ x w. elim (is_local x.owner) as (λ b. Member w (map (λ (g : Key × Value). g.1) (cond b (record x { fields = map (λ (f : Key × Value). (f.0, closed_value s r f.1)) x.fields }) x).fields) → Member w (map (λ (g : Key × Value). g.1) x.fields) ⊎ (cowns_of_value w ≡ [])) [ true ↦ λ m. in_fields x.fields w m | false ↦ λ m. inl m ]))
        (in_held s) (in_made s) (in_given s) (in_own s);
  }
    where
      slots : List (Option Value)
      slots = put_slot (map (closed_slot s r) s.slots) n (slot_at s.slots n)

      closed_fine : (v : Value) → KnowsCowns s v → KnowsCowns s (closed_value s r v)
      closed_fine v f = elim (closed_or r v) [ inl e ↦ subst (KnowsCowns s) e f | inr e ↦ names_no_cown s (closed_value s r v) e ]

      slot_fine : (z : Option Value) → Member z s.slots → (w : Value) → Member w (option_to_list z) → KnowsCowns s w
      slot_fine z m w k = (in_slots s) w (Member_flat_map option_to_list z w s.slots m k)

      closed_slots : (z : Option Value) → Member z (map (closed_slot s r) s.slots) → (w : Value) → Member w (option_to_list z) → KnowsCowns s w
      closed_slots z m w k = let y = Member_of_map (closed_slot s r) z s.slots m in by_slot y.0 y.1.0 (subst (λ u. Member w (option_to_list u)) (sym y.1.1) k)
        where
          by_slot : (y : Option Value) → Member y s.slots → Member w (option_to_list (closed_slot s r y)) → KnowsCowns s w
          by_slot None q j = absurd j
          by_slot (Some v) q (inl e) = subst (KnowsCowns s) e (closed_fine v (slot_fine (Some v) q v (inl refl)))
          by_slot (Some v) q (inr j) = absurd j

      at_slot : (w : Value) → Member w (option_to_list (slot_at s.slots n)) → KnowsCowns s w
      at_slot w k = go s.slots n (λ z m. slot_fine z m) k
        where
          go : (zs : List (Option Value)) (m : ℕ) → ((z : Option Value) → Member z zs → (w : Value) → Member w (option_to_list z) → KnowsCowns s w) → Member w (option_to_list (slot_at zs m)) → KnowsCowns s w
          go [] m h k = absurd k
          go (z ∷ zs) zero h k = h z (inl refl) w k
          go (z ∷ zs) (suc m) h k = go zs m (λ y q. h y (inr q)) k

      in_slot : (zs : List (Option Value)) (m : ℕ) (u z : Option Value) (w : Value) → ((z : Option Value) → Member z zs → (w : Value) → Member w (option_to_list z) → KnowsCowns s w) → ((w : Value) → Member w (option_to_list u) → KnowsCowns s w) → Member z (put_slot zs m u) → Member w (option_to_list z) → KnowsCowns s w
      in_slot [] m u z w h g q k = absurd q
      in_slot (y ∷ zs) zero u z w h g (inl e) k = g w (subst (λ v. Member w (option_to_list v)) (sym e) k)
      in_slot (y ∷ zs) zero u z w h g (inr q) k = h z (inr q) w k
      in_slot (y ∷ zs) (suc m) u z w h g (inl e) k = h z (inl e) w k
      in_slot (y ∷ zs) (suc m) u z w h g (inr q) k = in_slot zs m u z w (λ v p. h v (inr p)) g q k

      in_fields : (fs : List (Key × Value)) (w : Value) → Member w (map (λ (g : Key × Value). g.1) (map (λ (f : Key × Value). (f.0, closed_value s r f.1)) fs)) → Member w (map (λ (g : Key × Value). g.1) fs) ⊎ (cowns_of_value w ≡ [])
      in_fields [] w m = inl m
      in_fields (f ∷ fs) w (inl e) = elim (closed_or r f.1) [ inl h ↦ inl (inl (h ∙ e)) | inr h ↦ inr (ap cowns_of_value (sym e) ∙ h) ]
      in_fields (f ∷ fs) w (inr m) = elim (in_fields fs w m) [ inl q ↦ inl (inr q) | inr q ↦ inr q ]

-- Each world of Serial is good.
use Rattle.std.proofs.Common.{◌≡◌, ℕ, suc, Bool, true, false, cond, not, ◌||◌, List, [], ◌∷◌, ◌++◌, Option, Some, None, map, refl, ap, sym, ◌∙◌, subst, inl, inr, arith, ◌⊎◌, length-append}
use Rattle.lf_base.proofs.ListLemmas.Filters.{Member_of_filter}
use Rattle.lf_base.proofs.ListLemmas.Members.{Member_any, Member_flat_map, Member_map, Member_of_flat_map, Member_of_map, Member_left, Member_of_append, Member_right}
use Rattle.lf_base.proofs.NameLemmas.RowNames.{has_names}
use Rattle.lf_base.proofs.NameLemmas.SameNames.{same_name_itself}
use Rattle.lf_core.proofs.Tests.{no_both, false_by, or_split}
use Rattle.lf_laws.proofs.Rows.InsertedRows.{all_inserted, has_all}
use Rattle.lf_laws.proofs.Rows.RowsByName.{differ_apart, row_there}
use Rattle.std.specs.List.{filter, flat_map}
use Rattle.std.proofs.lemmas.Bool.{eq-eqb, cases_Bool}
use Rattle.lf_base.specs.declared.behaviours.Job.{Job}
use Rattle.lf_base.specs.declared.behaviours.Spawn.{Spawn}
use Rattle.lf_base.specs.declared.ids.CownId.{CownId}
use Rattle.lf_base.specs.declared.ids.ObjId.{ObjId}
use Rattle.lf_base.specs.declared.values.Key.{Key}
use Rattle.lf_base.specs.declared.values.Value.{Value}
use Rattle.lf_base.specs.FreezeResult.{insert_rows}
use Rattle.lf_base.specs.Names.{name_below, same_cown, same_name}
use Rattle.lf_base.specs.Owners.{has_name, has_row, names, row_at}
use Rattle.lf_base.specs.PlainChanges.{insert_row}
use Rattle.lf_base.specs.PlainState.{Row}
use Rattle.lf_base.specs.Sets.{Differ, Member}
use Rattle.lf_base.specs.WellFormed.{field_values}
use Rattle.lf_base.specs.Names.{cowns_of_value}
use Rattle.lf_core.specs.declared.journal.Entry.{Entry}
use Rattle.lf_core.specs.Keyed.{at, without, found, pick, keys}
use Rattle.lf_queue.specs.Queues.{holder_of, without_holder, with_holder}
use Rattle.lf_queue.specs.Ready.{among}
use Rattle.lf_core.specs.Lawful.{Good, HasCown, HasName, IsPast, Keeps, cowns_of_spawns, cowns_of_values, outcome_cowns, outcome_names}
use Rattle.lf_core.specs.Reading.{Reading, all_cowns_in, all_names_in, cowns_in, names_in, row_cowns}
use Rattle.lf_core.specs.Tracks.{Numbered, Fits}
use Rattle.lf_core.specs.World.{Outcome, Runs, World, done, entry_of, numbered}
use Rattle.lf_core.proofs.Keyed.{or_at, at_put_all, at_append, at_without, at_pick, among_Member, at_key, cowns_one}
use Rattle.lf_core.proofs.Tracks.{numbered_from, numbered_unique}
use Rattle.lf_core.proofs.Holders.{not_same, other}

-- ---- look-ups and lists
pub key_there : {C : Type 0} (xs : List (CownId × C)) (c : CownId) (v : C) → at xs c ≡ Some v → Member c (keys xs)
key_there {C} xs c v e = Member_map (λ (x : CownId × C). x.0) (c, v) xs (at_key xs c v e)

pub there_key : {C : Type 0} (xs : List (CownId × C)) (c : CownId) → Member c (keys xs) → at xs c ≡ None → ⊥
there_key [] c m e = m
there_key {C} (x ∷ xs) c m e = elim (same_cown x.0 c) as (λ b. same_cown x.0 c ≡ b → cond b (Some (x.1)) (at xs c) ≡ None → ⊥) [
  | true ↦ λ h k. cc
  | false ↦ λ h k. elim m [ inl q ↦ no_both _ (cowns_one x.0 c q) h | inr q ↦ there_key xs c q k ]
] refl e

-- what was picked stands there
pub pick_member : {C : Type 0} (cs : List CownId) (xs : List (CownId × C)) (x : CownId × C) → Member x (pick cs xs) → (at xs x.0 ≡ Some (x.1)) × (among cs x.0 ≡ true)
pick_member [] xs x m = absurd m
pick_member {C} (c ∷ cs) xs x m = go (λ q. pick_member cs xs x q) (at xs c) refl m
  where
    later : (at xs x.0 ≡ Some (x.1)) × (among cs x.0 ≡ true) → (at xs x.0 ≡ Some (x.1)) × (among (c ∷ cs) x.0 ≡ true)
    later p = (p.0, elim (same_cown c x.0) as (λ b. (b || among cs x.0) ≡ true) [ true ↦ refl | false ↦ p.1 ])

    go : (Member x (pick cs xs) → (at xs x.0 ≡ Some (x.1)) × (among cs x.0 ≡ true)) → (o : Option C) → at xs c ≡ o → Member x (found c o ++ pick cs xs) → (at xs x.0 ≡ Some (x.1)) × (among (c ∷ cs) x.0 ≡ true)
    go rec None e q = later (rec q)
    go rec (Some v) e (inl q) = (ap (at xs) (sym (ap (λ (y : CownId × C). y.0) q)) ∙ e ∙ ap Some (ap (λ (y : CownId × C). y.1) q), ap (λ b. (b || among cs x.0)) (cowns_one c x.0 (ap (λ (y : CownId × C). y.0) q)))
    go rec (Some v) e (inr q) = later (rec q)

-- rows put in at other names don't matter to a look-up
pub at_insert_row : (x : Row) (ys : List Row) (n : ObjId) → same_name x.name n ≡ false → row_at (insert_row x ys) n ≡ row_at ys n
at_insert_row x [] n h = ap (λ b. cond b (Some x) None) h
at_insert_row x (y ∷ ys) n h =
    elim (name_below x.name y.name) as (λ b. row_at (cond b (x ∷ (y ∷ ys)) (y ∷ insert_row x ys)) n ≡ row_at (y ∷ ys) n) [
      | true ↦ ap (λ b. cond b (Some x) (row_at (y ∷ ys) n)) h
      | false ↦ ap (cond (same_name y.name n) (Some y)) (at_insert_row x ys n h)
    ]

or_both : (a b : Bool) → (a || b) ≡ false → (a ≡ false) × (b ≡ false)
or_both false false e = (refl, refl)
or_both true b e = absurd cc
or_both false true e = absurd cc

pub at_insert_rows : (xs ys : List Row) (n : ObjId) → has_row xs n ≡ false → row_at (insert_rows xs ys) n ≡ row_at ys n
at_insert_rows [] ys n h = refl
at_insert_rows (x ∷ xs) ys n h = let p = or_both (same_name x.name n) (has_row xs n) h in at_insert_row x (insert_rows xs ys) n p.0 ∙ at_insert_rows xs ys n p.1

-- a name that stands in two items of a list whose names differ
pub name_member : (os : List ObjId) (n : ObjId) → Member n os → has_name os n ≡ true
name_member os n m = Member_any (λ p. same_name p n) n os m (same_name_itself n)

pub differ_tail : (xs ys : List ObjId) → Differ same_name (xs ++ ys) → Differ same_name ys
differ_tail [] ys d = d
differ_tail (x ∷ xs) ys d = differ_tail xs ys d.1

pub one_item : {X : Type 0} (f : X → List ObjId) (xs : List X) (os : List ObjId) → Differ same_name (flat_map f xs ++ os) → (x y : X) (n : ObjId) → Member x xs → Member y xs → Member n (f x) → Member n (f y) → x ≡ y
one_item f [] os d x y n p q a b = absurd p
one_item {X} f (z ∷ zs) os d x y n p q a b = go (λ e h. one_item f zs os (differ_tail (f z) (flat_map f zs ++ os) split) x y n e h a b) p q
  where
    split : Differ same_name (f z ++ (flat_map f zs ++ os))
    split = subst (Differ same_name) (sym (assoc (f z) (flat_map f zs) os)) d
      where
        assoc : (us vs ws : List ObjId) → us ++ (vs ++ ws) ≡ (us ++ vs) ++ ws
        assoc [] vs ws = refl
        assoc (u ∷ us) vs ws = ap (λ l. u ∷ l) (assoc us vs ws)

    clash : (w : X) → Member w zs → Member n (f w) → Member n (f z) → ⊥
    clash w m h k = differ_apart (f z) (flat_map f zs ++ os) split n (name_member (f z) n k) (name_member (flat_map f zs ++ os) n (Member_left n (flat_map f zs) os (Member_flat_map f w n zs m h)))

    go : (Member x zs → Member y zs → x ≡ y) → (z ≡ x) ⊎ Member x zs → (z ≡ y) ⊎ Member y zs → x ≡ y
    go rec (inl e) (inl h) = sym e ∙ h
    go rec (inl e) (inr h) = absurd (clash y h b (subst (λ w. Member n (f w)) (sym e) a))
    go rec (inr e) (inl h) = absurd (clash x e a (subst (λ w. Member n (f w)) (sym h) b))
    go rec (inr e) (inr h) = rec e h

pub or_Some : {C : Type 0} (x y : Option C) (v : C) → or_at x y ≡ Some v → (x ≡ Some v) ⊎ ((x ≡ None) × (y ≡ Some v))
or_Some None y v e = inr (refl, e)
or_Some (Some u) y v e = inl e

pub or_None : {C : Type 0} (x y : Option C) → or_at x y ≡ None → (x ≡ None) × (y ≡ None)
or_None None y e = (refl, e)
or_None (Some u) y e = absurd cc

pub cond_none : {C : Type 0} (b : Bool) (x : Option C) (v : C) → cond b None x ≡ Some v → (b ≡ false) × (x ≡ Some v)
cond_none true x v e = absurd cc
cond_none false x v e = (refl, e)

pub cond_some : {C : Type 0} (b : Bool) (x : Option C) (v : C) → cond b x None ≡ Some v → (b ≡ true) × (x ≡ Some v)
cond_some true x v e = (refl, e)
cond_some false x v e = absurd cc

pub is_some : {C : Type 0} (x : Option C) → (x ≡ None → ⊥) → (v : C) × (x ≡ Some v)
is_some None h = absurd (h refl)
is_some (Some v) h = (v, refl)

numbered_Member : (n : ℕ) (ss : List Spawn) (k : Job) → Member k (numbered n ss) → (s : Spawn) × (Member s ss × (s.cowns ++ cowns_of_values s.values ≡ k.cowns ++ cowns_of_values k.values))
numbered_Member n [] k m = absurd m
numbered_Member n (s ∷ ss) k (inl e) = (s, (inl refl, ap (λ (k : Job). k.cowns ++ cowns_of_values k.values) e))
numbered_Member n (s ∷ ss) k (inr m) = let r = numbered_Member (suc n) ss k m in (r.0, (inr r.1.0, r.1.1))

module _ {C : Type 0} (r : Reading C) (f : Runs C) (s : World C) (j : Job) (g : Good r s) (m : Member j s.waiting) (k : Keeps r f j (pick j.cowns s.parked) s.frozen) where
  abbrev cs : List (CownId × C)
  cs = pick j.cowns s.parked

  abbrev o : Outcome C
  o = f j cs s.frozen

  abbrev new : List (CownId × C)
  new = o.held ++ o.made

  -- ---- what the five points say of look-ups
  look_held : (c : CownId) (v : C) → at o.held c ≡ Some v → among j.cowns c ≡ true
  look_held c v e =
      let x = Member_of_map (λ (x : CownId × C). x.0) c cs (subst (Member c) k.same_held (key_there o.held c v e)) in
      subst (λ d. among j.cowns d ≡ true) x.1.1 (pick_member j.cowns s.parked x.0 x.1.0).1

  look_back : (c : CownId) (v : C) → at cs c ≡ Some v → at o.held c ≡ None → ⊥
  look_back c v e n = there_key o.held c (subst (Member c) (sym k.same_held) (key_there cs c v e)) n

  look_made : (c : CownId) (v : C) → at o.made c ≡ Some v → c.birth ≡ j.id
  look_made c v e = k.made_births c (key_there o.made c v e)

  in_names : (n : ObjId) → HasName r new n → Member n (all_names_in r new)
  in_names n h = Member_flat_map (λ (x : CownId × C). names_in r x.1) (h.cown, h.content) n new (at_key new h.cown h.content h.there) h.named

  has_of : (n : ObjId) → Member n (all_names_in r cs) → HasName r cs n
  has_of n q =
      let x = Member_of_flat_map (λ (x : CownId × C). names_in r x.1) n cs q in
      let p = pick_member j.cowns s.parked x.0 x.1.0 in
      record { cown = (x.0).0; content = (x.0).1; there = at_pick j.cowns s.parked (x.0).0 ∙ ap (λ b. cond b (at s.parked (x.0).0) None) p.1 ∙ p.0; named = x.1.1 }

  cown_of : (c : CownId) → Member c (all_cowns_in r cs) → HasCown r cs c
  cown_of c q =
      let x = Member_of_flat_map (λ (x : CownId × C). cowns_in r x.1) c cs q in
      let p = pick_member j.cowns s.parked x.0 x.1.0 in
      record { cown = (x.0).0; content = (x.0).1; there = at_pick j.cowns s.parked (x.0).0 ∙ ap (λ b. cond b (at s.parked (x.0).0) None) p.1 ∙ p.0; named = x.1.1 }

  named_by : (n : ObjId) → Member n (outcome_names r o) → HasName r cs n ⊎ (n.birth ≡ j.id)
  named_by n q = elim (k.names_from n q) [ inl p ↦ inl (has_of n p) | inr b ↦ inr b ]

  look_from : (n : ObjId) → HasName r new n → HasName r cs n ⊎ (n.birth ≡ j.id)
  look_from n h = named_by n (Member_left n (all_names_in r new) (names o.rows) (in_names n h))

  row_name : (n : ObjId) → has_row o.rows n ≡ true → Member n (names o.rows)
  row_name n e = let x = row_there o.rows n e in subst (λ p. Member p (names o.rows)) x.1.1 (Member_map (λ (x : Row). x.name) x.0 o.rows x.1.0)

  pub look_rows : (n : ObjId) → has_row o.rows n ≡ true → HasName r cs n ⊎ (n.birth ≡ j.id)
  look_rows n e = named_by n (Member_right n (all_names_in r new) (names o.rows) (row_name n e))

  look_once : (c d : CownId) (v w : C) (n : ObjId) → at new c ≡ Some v → at new d ≡ Some w → Member n (names_in r v) → Member n (names_in r w) → c ≡ d
  look_once c d v w n e h p q = ap (λ (x : CownId × C). x.0) (one_item (λ (x : CownId × C). names_in r x.1) new (names o.rows) k.names_differ (c, v) (d, w) n (at_key new c v e) (at_key new d w h) p q)

  look_rows_once : (n : ObjId) → HasName r new n → has_row o.rows n ≡ false
  look_rows_once n h = false_by _ (λ e. differ_apart (all_names_in r new) (names o.rows) k.names_differ n (name_member (all_names_in r new) n (in_names n h)) (has_names o.rows n ∙ e))

  abbrev Known : CownId → Type 0
  Known c = (Member c (j.cowns ++ cowns_of_values j.values) ⊎ (HasCown r cs c ⊎ Member c (row_cowns s.frozen))) ⊎ (at o.made c ≡ None → ⊥)

  look_cowns : (c : CownId) → Member c (outcome_cowns r o) → Known c
  look_cowns c q = elim (k.cowns_from c q) [
    | inl p ↦ inl (elim (Member_of_append c (j.cowns ++ cowns_of_values j.values) (all_cowns_in r cs ++ row_cowns s.frozen) p) [
      | inl a ↦ inl a
      | inr a ↦ inr (elim (Member_of_append c (all_cowns_in r cs) (row_cowns s.frozen) a) [ inl b ↦ inl (cown_of c b) | inr b ↦ inr b ])
    ])
    | inr p ↦ inr (there_key o.made c p)
  ]

  abbrev after : World C
  after = done f s j

  -- it isn't in the journal
  pub not_past : IsPast s j.id → ⊥
  not_past p = g.numbered.fresh j p.0 m p.1.0 p.1.1

  still_past : (b : ℕ) → IsPast s b → IsPast after b
  still_past b p = (p.0, (Member_left p.0 s.journal (entry_of j.id o ∷ []) p.1.0, p.1.1))

  now_past : (b : ℕ) → b ≡ j.id → IsPast after b
  now_past b e = (entry_of j.id o, (Member_right _ s.journal (entry_of j.id o ∷ []) (inl refl), sym e))

  parked_is : (c : CownId) → at after.parked c ≡ or_at (at new c) (cond (among j.cowns c) None (at s.parked c))
  parked_is c = at_put_all new (without j.cowns s.parked) c ∙ ap (or_at (at new c)) (at_without j.cowns s.parked c)

  pub split : (c : CownId) (v : C) → at after.parked c ≡ Some v → (at new c ≡ Some v) ⊎ ((among j.cowns c ≡ false) × (at s.parked c ≡ Some v))
  split c v e = elim (or_Some (at new c) (cond (among j.cowns c) None (at s.parked c)) v (sym (parked_is c) ∙ e)) [ inl x ↦ inl x | inr x ↦ inr (cond_none (among j.cowns c) (at s.parked c) v x.1) ]

  pub frozen_is : (n : ObjId) → has_row after.frozen n ≡ (has_row o.rows n || has_row s.frozen n)
  frozen_is n = has_all o.rows s.frozen n

  picked : (c : CownId) (v : C) → at cs c ≡ Some v → (among j.cowns c ≡ true) × (at s.parked c ≡ Some v)
  picked c v e = cond_some (among j.cowns c) (at s.parked c) v (sym (at_pick j.cowns s.parked c) ∙ e)

  from_parked : (n : ObjId) → HasName r cs n → HasName r s.parked n
  from_parked n h = record { cown = h.cown; content = h.content; there = (picked h.cown h.content h.there).1; named = h.named }

  cown_from_parked : (n : CownId) → HasCown r cs n → HasCown r s.parked n
  cown_from_parked n h = record { cown = h.cown; content = h.content; there = (picked h.cown h.content h.there).1; named = h.named }

  pub fits : Fits s j o
  fits = record {
    contents = λ c v e. elim (or_Some (at o.held c) (at o.made c) v (sym (at_append o.held o.made c) ∙ e)) [
      | inl x ↦ inl (look_held c v x)
      | inr x ↦ inr (elim (at s.parked c) as (λ y. at s.parked c ≡ y → y ≡ None) [
        | None ↦ λ h. refl
        | Some u ↦ λ h. absurd (not_past (subst (IsPast s) (look_made c v x.1) (g.cown_births c u h)))
      ] refl)
    ];
  }

  -- ---- cowns keep a content
  stays : (c : CownId) → (at s.parked c ≡ None → ⊥) → at after.parked c ≡ None → ⊥
  stays c h e =
      let x = or_None (at new c) (cond (among j.cowns c) None (at s.parked c)) (sym (parked_is c) ∙ e) in
      let y = or_None (at o.held c) (at o.made c) (sym (at_append o.held o.made c) ∙ x.0) in
      let v = is_some (at s.parked c) h in
      elim (cases_Bool (among j.cowns c)) [
        | inl a ↦ look_back c v.0 (at_pick j.cowns s.parked c ∙ ap (λ b. cond b (at s.parked c) None) a ∙ v.1) y.0
        | inr a ↦ h (sym (ap (λ b. cond b None (at s.parked c)) a) ∙ x.1)
      ]

  made_there : (c : CownId) → (at o.made c ≡ None → ⊥) → at after.parked c ≡ None → ⊥
  made_there c h e =
      let x = or_None (at new c) (cond (among j.cowns c) None (at s.parked c)) (sym (parked_is c) ∙ e) in
      h (or_None (at o.held c) (at o.made c) (sym (at_append o.held o.made c) ∙ x.0)).1

  known_after : (c : CownId) → Known c → at after.parked c ≡ None → ⊥
  known_after c (inl (inl a)) = stays c (g.job_cowns j c m a)
  known_after c (inl (inr (inl h))) = stays c (g.content_cowns c (cown_from_parked c h))
  known_after c (inl (inr (inr h))) = stays c (g.frozen_cowns c h)
  known_after c (inr h) = made_there c h

  -- ---- numbers
  waits_after : (i : Job) → Member i after.waiting → (Member i s.waiting × (j.id ≡ i.id → ⊥)) ⊎ Member i (numbered s.next o.spawns)
  waits_after i q = elim (Member_of_append i (filter (other j.id) s.waiting) (numbered s.next o.spawns) q) [
    | inl x ↦ let y = Member_of_filter (other j.id) i s.waiting x in inl (y.0, not_same j.id i y.1)
    | inr x ↦ inr x
  ]

  past_after : (e : Entry) → Member e after.journal → Member e s.journal ⊎ (e.id ≡ j.id)
  past_after e q = elim (Member_of_append e s.journal (entry_of j.id o ∷ []) q) [ inl x ↦ inl x | inr x ↦ elim x [ inl y ↦ inr (sym (ap (λ (e : Entry). e.id) y)) | inr y ↦ absurd y ] ]

  numbered_after : Numbered after
  numbered_after = record {
    idle = ap (λ hs. without_holder (with_holder (holder_of j) hs) j.id) g.numbered.idle ∙ ap (λ b. cond (not b) (holder_of j ∷ []) []) (eq-eqb j.id j.id refl);
    unique = λ a b p q e. elim (waits_after a p) [
      | inl x ↦ elim (waits_after b q) [
        | inl y ↦ g.numbered.unique a b x.0 y.0 e
        | inr y ↦ let low = g.numbered.below a x.0 in let high = (numbered_from s.next o.spawns b y).0 in absurd (omega arith)
      ]
      | inr x ↦ elim (waits_after b q) [
        | inl y ↦ let low = g.numbered.below b y.0 in let high = (numbered_from s.next o.spawns a x).0 in absurd (omega arith)
        | inr y ↦ numbered_unique s.next o.spawns a b x y e
      ]
    ];
    below = λ a p. elim (waits_after a p) [
      | inl x ↦ let low = g.numbered.below a x.0 in omega arith
      | inr x ↦ (numbered_from s.next o.spawns a x).1
    ];
    past = λ e q. elim (past_after e q) [
      | inl x ↦ let low = g.numbered.past e x in omega arith
      | inr x ↦ let low = g.numbered.below j m in omega arith
    ];
    fresh = λ a e p q same. elim (waits_after a p) [
      | inl x ↦ elim (past_after e q) [
        | inl y ↦ g.numbered.fresh a e x.0 y same
        | inr y ↦ x.1 (sym y ∙ same)
      ]
      | inr x ↦ let high = (numbered_from s.next o.spawns a x).0 in elim (past_after e q) [
        | inl y ↦ let low = g.numbered.past e y in omega arith
        | inr y ↦ let low = g.numbered.below j m in omega arith
      ]
    ];
  }

  -- ---- names
  new_name : (c : CownId) (v : C) (n : ObjId) → at new c ≡ Some v → Member n (names_in r v) → HasName r new n
  new_name c v n e q = record { cown = c; content = v; there = e; named = q }

  -- a name of the outcome is in no content and no frozen row that it didn't have
  pub not_elsewhere : (n : ObjId) → HasName r cs n ⊎ (n.birth ≡ j.id) → (d : CownId) (w : C) → at s.parked d ≡ Some w → Member n (names_in r w) → among j.cowns d ≡ false → ⊥
  not_elsewhere n (inl h) d w e q a =
      let x = picked h.cown h.content h.there in
      let same = g.apart h.cown d h.content w n x.1 e h.named q in
      let y = x.0 in
      let bad : among j.cowns d ≡ true = subst (λ c. among j.cowns c ≡ true) same y in cc
  not_elsewhere n (inr b) d w e q a = not_past (subst (IsPast s) b (g.name_births n (record { cown = d; content = w; there = e; named = q })))

  pub not_frozen : (n : ObjId) → HasName r cs n ⊎ (n.birth ≡ j.id) → has_row s.frozen n ≡ false
  not_frozen n (inl h) = g.frozen_apart n (from_parked n h)
  not_frozen n (inr b) = false_by _ (λ h. not_past (subst (IsPast s) b (g.frozen_births n h)))

  born : (n : ObjId) → HasName r cs n ⊎ (n.birth ≡ j.id) → IsPast after n.birth
  born n (inl h) = still_past n.birth (g.name_births n (from_parked n h))
  born n (inr b) = now_past n.birth b

  pub good_after : Good r after
  good_after = record {
    numbered = numbered_after;
    count = omega (arith, g.count, length-append s.journal (entry_of j.id o ∷ []));
    job_cowns = λ a c p e. elim (waits_after a p) [
      | inl x ↦ stays c (g.job_cowns a c x.0 e)
      | inr x ↦ let y = numbered_Member s.next o.spawns a x in known_after c (look_cowns c (Member_right c (all_cowns_in r new) (row_cowns o.rows ++ cowns_of_spawns o.spawns) (Member_right c (row_cowns o.rows) (cowns_of_spawns o.spawns) (Member_flat_map (λ (z : Spawn). z.cowns ++ cowns_of_values z.values) y.0 c o.spawns y.1.0 (subst (Member c) (sym y.1.1) e)))))
    ];
    content_cowns = λ c h. elim (split h.cown h.content h.there) [
      | inl x ↦ known_after c (look_cowns c (Member_left c (all_cowns_in r new) (row_cowns o.rows ++ cowns_of_spawns o.spawns) (Member_flat_map (λ (z : CownId × C). cowns_in r z.1) (h.cown, h.content) c new (at_key new h.cown h.content x) h.named)))
      | inr x ↦ stays c (g.content_cowns c (record { cown = h.cown; content = h.content; there = x.1; named = h.named }))
    ];
    frozen_cowns = λ c p.
        let v = Member_of_flat_map cowns_of_value c (field_values after.frozen) p in
        let x = Member_of_flat_map (λ (y : Row). map (λ (f : Key × Value). f.1) y.fields) v.0 after.frozen v.1.0 in
        elim (all_inserted o.rows s.frozen x.0 x.1.0) [
          | inl a ↦ known_after c (look_cowns c (Member_right c (all_cowns_in r new) (row_cowns o.rows ++ cowns_of_spawns o.spawns) (Member_left c (row_cowns o.rows) (cowns_of_spawns o.spawns) (Member_flat_map cowns_of_value v.0 c (field_values o.rows) (Member_flat_map (λ (y : Row). map (λ (f : Key × Value). f.1) y.fields) x.0 v.0 o.rows a x.1.1) v.1.1))))
          | inr a ↦ stays c (g.frozen_cowns c (Member_flat_map cowns_of_value v.0 c (field_values s.frozen) (Member_flat_map (λ (y : Row). map (λ (f : Key × Value). f.1) y.fields) x.0 v.0 s.frozen a x.1.1) v.1.1))
        ];
    cown_births = λ c v e. elim (split c v e) [
      | inl x ↦ elim (or_Some (at o.held c) (at o.made c) v (sym (at_append o.held o.made c) ∙ x)) [
        | inl y ↦ let u = is_some (at s.parked c) (g.job_cowns j c m (Member_left c j.cowns (cowns_of_values j.values) (among_Member j.cowns c (look_held c v y)))) in still_past c.birth (g.cown_births c u.0 u.1)
        | inr y ↦ now_past c.birth (look_made c v y.1)
      ]
      | inr x ↦ still_past c.birth (g.cown_births c v x.1)
    ];
    name_births = λ n h. elim (split h.cown h.content h.there) [
      | inl x ↦ born n (look_from n (new_name h.cown h.content n x h.named))
      | inr x ↦ still_past n.birth (g.name_births n (record { cown = h.cown; content = h.content; there = x.1; named = h.named }))
    ];
    frozen_births = λ n e. elim (or_split (has_row o.rows n) (has_row s.frozen n) (sym (frozen_is n) ∙ e)) [
      | inl x ↦ born n (look_rows n x)
      | inr x ↦ still_past n.birth (g.frozen_births n x)
    ];
    apart = λ c d v w n e h p q. elim (split c v e) [
      | inl x ↦ elim (split d w h) [
        | inl y ↦ look_once c d v w n x y p q
        | inr y ↦ absurd (not_elsewhere n (look_from n (new_name c v n x p)) d w y.1 q y.0)
      ]
      | inr x ↦ elim (split d w h) [
        | inl y ↦ absurd (not_elsewhere n (look_from n (new_name d w n y q)) c v x.1 p x.0)
        | inr y ↦ g.apart c d v w n x.1 y.1 p q
      ]
    ];
    frozen_apart = λ n h. frozen_is n ∙ elim (split h.cown h.content h.there) [
      | inl x ↦ (λ i. look_rows_once n (new_name h.cown h.content n x h.named) i || not_frozen n (look_from n (new_name h.cown h.content n x h.named)) i)
      | inr x ↦ (λ i. false_by (has_row o.rows n) (λ e. not_elsewhere n (look_rows n e) h.cown h.content x.1 h.named x.0) i || g.frozen_apart n (record { cown = h.cown; content = h.content; there = x.1; named = h.named }) i)
    ];
  }

-- What a slab and an index say of the list of regions that they keep.
use Rattle.std.proofs.Common.{◌≡◌, ◌≢◌, ◌∙◌, ◌⊎◌, ◌||◌, ℕ, List, [], ◌∷◌, Option, Some, None, ap, Bool, cond, false, filter, length, map, not, refl, sym, true, inl, inr, is_some, slice_index_or, subst, unwrap_or, true≢false}
use Rattle.std.proofs.lemmas.Bool.{or_parts, both_ways}
use Rattle.std.specs.Map.{keys_of, lookup, remove_entry}
use Rattle.std.specs.BTreeMap.{insert_entry, is_at}
use Rattle.std.specs.Option.{option_and_then, option_map_or}
use Rattle.std.specs.declared.cmp.Ordering.{Ordering}
use Rattle.std.specs.declared.cmp.Ordering.TheVariants.{Less, Equal, Greater}
use Rattle.std.specs.Ordering.{is_eq, is_lt, match_ordering}
use Rattle.slab.specs.Slab.{ContainsKey, Slab, Updates, get, slab_len, with_value}
use Rattle.slab.proofs.SlabLemmas.{Updates-with_value}
use Rattle.lf_base.specs.declared.ids.ObjId.{ObjId}
use Rattle.lf_base.specs.Names.{name_below, same_name}
use Rattle.lf_base.specs.Sets.{InOrder, Member}
use Rattle.lf_base.proofs.ListLemmas.Filters.{Member_of_filter}
use Rattle.lf_base.proofs.ListLemmas.Members.{Member_map}
use Rattle.lf_base.proofs.ListLemmas.SlotCounts.{count_kept}
use Rattle.lf_base.proofs.ListLemmas.Sublists.{order_all, order_tail}
use Rattle.lf_base.proofs.NameLemmas.NameOrder.{below_apart, name_below_trans}
use Rattle.lf_base.proofs.NameLemmas.SameNames.{other_way, same_name_is, same_name_itself}
use Rattle.lf_regions.specs.declared.region.Region.{Region}
use Rattle.lf_regions.specs.KeptRegions.{Entry, KeepsRegions, region_at, regions_at}
use Rattle.lf_regions.specs.RegionChanges.{new_region, with_borrowed, with_owned, with_region, without_region}
use Rattle.lf_regions.specs.Regions.{InNameOrder, borrowed_of, has_region, owned_of, region_named, region_names}
use Rattle.lf_regions.proofs.NameCompare.{below_cmp, name_cmp, same_cmp}
use Rattle.lf_regions.proofs.RegionNames.{order_with, order_without}

-- the test by which the index finds a name
abbrev pub is_name : ObjId → ObjId → Bool
is_name r = is_at (name_cmp r)

-- the key that the index has for a name
abbrev pub key_in : List Entry → ObjId → Option ℕ
key_in entries r = lookup (is_name r) entries

-- ---- the index
-- an entry that the index finds is in it
member_found : (entries : List Entry) (r : ObjId) (k : ℕ) → key_in entries r ≡ Some k → Member (r, k) entries
member_found [] r k e = absurd (cc)
member_found (f ∷ fs) r k found = go (is_name r f.0) refl (member_found fs r k) found
  where
    go : (b : Bool) → is_name r f.0 ≡ b → (key_in fs r ≡ Some k → Member (r, k) fs) → cond b (Some f.1) (key_in fs r) ≡ Some k → Member (r, k) (f ∷ fs)
    go true test later e =
        let name : f.0 ≡ r = same_name_is f.0 r (sym (same_cmp r f.0) ∙ test) in
        let key : f.1 ≡ k = cc in
        inl (ap (λ n. (n, f.1)) name ∙ ap (λ m. (r, m)) key)
    go false test later e = inr (later e)

-- a later name of the index is another one
apart : (f : Entry) (fs : List Entry) → InOrder name_below (keys_of (f ∷ fs)) → (e : Entry) → Member e fs → same_name f.0 e.0 ≡ false
apart f fs rise e m = below_apart f.0 e.0 (order_all name_below name_below_trans f.0 (keys_of fs) rise e.0 (Member_map (λ (g : Entry). g.0) e fs m))

-- an entry of an index is found by its name
found_member : (entries : List Entry) → InOrder name_below (keys_of entries) → (e : Entry) → Member e entries → key_in entries e.0 ≡ Some e.1
found_member [] rise e m = absurd m
found_member (f ∷ fs) rise e (inl same) =
    let test : is_name e.0 f.0 ≡ true = same_cmp e.0 f.0 ∙ ap (λ (g : Entry). same_name g.0 e.0) same ∙ same_name_itself e.0 in
    ap (λ b. cond b (Some f.1) (key_in fs e.0)) test ∙ ap (λ (g : Entry). Some g.1) same
found_member (f ∷ fs) rise e (inr m) =
    ap (λ b. cond b (Some f.1) (key_in fs e.0)) (same_cmp e.0 f.0 ∙ apart f fs rise e m)
    ∙ found_member fs (order_tail name_below name_below_trans f.0 (keys_of fs) rise) e m

-- whether an entry has another name
abbrev pub is_other : ObjId → Entry → Bool
is_other r e = not (same_name e.0 r)

filter_all : (r : ObjId) (es : List Entry) → ((e : Entry) → Member e es → same_name e.0 r ≡ false) → filter (is_other r) es ≡ es
filter_all r [] h = refl
filter_all r (e ∷ es) h = ap (λ b. cond (not b) (e ∷ filter (is_other r) es) (filter (is_other r) es)) (h e (inl refl)) ∙ ap (λ l. e ∷ l) (filter_all r es (λ f m. h f (inr m)))

-- a removal takes the entries of that name
pub removed : (entries : List Entry) (r : ObjId) → InOrder name_below (keys_of entries) → remove_entry (is_name r) entries ≡ filter (is_other r) entries
removed [] r rise = refl
removed (e ∷ es) r rise = go (is_name r e.0) (same_name e.0 r) (same_cmp r e.0) refl (removed es r (order_tail name_below name_below_trans e.0 (keys_of es) rise))
  where
    go : (a b : Bool) → a ≡ b → same_name e.0 r ≡ b → remove_entry (is_name r) es ≡ filter (is_other r) es → cond a es (e ∷ remove_entry (is_name r) es) ≡ cond (not b) (e ∷ filter (is_other r) es) (filter (is_other r) es)
    go true true same test later = sym (filter_all r es (λ f m. other_way r f.0 (ap (λ n. same_name n f.0) (sym (same_name_is e.0 r test)) ∙ apart e es rise f m)))
    go true false same test later = absurd (true≢false same)
    go false true same test later = absurd (true≢false (sym same))
    go false false same test later = ap (λ l. e ∷ l) later

-- the entries with a new one: it, and those before
member_inserted : (es : List Entry) (r : ObjId) (k : ℕ) (e : Entry) → Member e (insert_entry name_cmp es r k) → (e ≡ (r, k)) ⊎ Member e es
member_inserted [] r k e (inl same) = inl (sym same)
member_inserted [] r k e (inr m) = absurd m
member_inserted (f ∷ fs) r k e m = go (name_cmp r f.0) (same_cmp r f.0) m (member_inserted fs r k e)
  where
    go : (o : Ordering) → is_eq o ≡ same_name f.0 r → Member e (match_ordering o ((r, k) ∷ f ∷ fs) ((f.0, k) ∷ fs) (f ∷ insert_entry name_cmp fs r k)) → (Member e (insert_entry name_cmp fs r k) → (e ≡ (r, k)) ⊎ Member e fs) → (e ≡ (r, k)) ⊎ Member e (f ∷ fs)
    go Less eq (inl same) later = inl (sym same)
    go Less eq (inr m) later = inr m
    go Equal eq (inl same) later = inl (sym same ∙ ap (λ n. (n, k)) (same_name_is f.0 r (sym eq)))
    go Equal eq (inr m) later = inr (inr m)
    go Greater eq (inl same) later = inr (inl same)
    go Greater eq (inr m) later = elim (later m) [ inl same ↦ inl same | inr there ↦ inr (inr there) ]

-- ---- the list that is kept
-- each entry of the list has what f gives
map_at : {Y : Type 0} (f g : Entry → Y) (es : List Entry) → ((e : Entry) → Member e es → f e ≡ g e) → map f es ≡ map g es
map_at f g [] h = refl
map_at f g (e ∷ es) h = ap (λ y. y ∷ map f es) (h e (inl refl)) ∙ ap (λ l. g e ∷ l) (map_at f g es (λ d m. h d (inr m)))

-- each of these entries leads to a region of its name
abbrev EntriesNamed : Slab Region → List Entry → Type 0
EntriesNamed slab es = (e : Entry) → Member e es → (region_at slab e).name ≡ e.0

module _ (slab : Slab Region) where
  -- the names are the index's
  pub names_kept : (entries : List Entry) → EntriesNamed slab entries → region_names (regions_at slab entries) ≡ keys_of entries
  names_kept [] named = refl
  names_kept (e ∷ es) named = ap (λ r. r ∷ region_names (regions_at slab es)) (named e (inl refl)) ∙ ap (λ l. e.0 ∷ l) (names_kept es (λ d m. named d (inr m)))

  -- the test of an entry's name is that of its region's name
  same_test : (e : Entry) → (region_at slab e).name ≡ e.0 → (r : ObjId) → same_name (region_at slab e).name r ≡ is_name r e.0
  same_test e name r = ap (λ n. same_name n r) name ∙ sym (same_cmp r e.0)

  -- a region is in the list exactly where the index has its name
  has_kept : (entries : List Entry) (r : ObjId) → EntriesNamed slab entries → has_region (regions_at slab entries) r ≡ is_some (key_in entries r)
  has_kept [] r named = refl
  has_kept (e ∷ es) r named =
      ap (λ b. b || has_region (regions_at slab es) r) (same_test e (named e (inl refl)) r) ∙ go (is_name r e.0) (has_kept es r (λ d m. named d (inr m)))
    where
      go : (b : Bool) → has_region (regions_at slab es) r ≡ is_some (key_in es r) → (b || has_region (regions_at slab es) r) ≡ is_some (cond b (Some e.1) (key_in es r))
      go true same = refl
      go false same = same

  -- the region of a name is at the key that the index has for it
  region_kept : (entries : List Entry) (r : ObjId) → EntriesNamed slab entries → ((e : Entry) → Member e entries → get slab e.1 ≡ Some (region_at slab e)) → region_named (regions_at slab entries) r ≡ option_and_then (get slab) (key_in entries r)
  region_kept [] r named there = refl
  region_kept (e ∷ es) r named there =
      ap (λ b. cond b (Some (region_at slab e)) (region_named (regions_at slab es) r)) (same_test e (named e (inl refl)) r)
      ∙ go (is_name r e.0) (sym (there e (inl refl))) (region_kept es r (λ d m. named d (inr m)) (λ d m. there d (inr m)))
    where
      go : (b : Bool) → Some (region_at slab e) ≡ get slab e.1 → region_named (regions_at slab es) r ≡ option_and_then (get slab) (key_in es r)
          → cond b (Some (region_at slab e)) (region_named (regions_at slab es) r) ≡ option_and_then (get slab) (cond b (Some e.1) (key_in es r))
      go true here same = here
      go false here same = same

-- the list that is kept is in order
pub kept_order : (slab : Slab Region) (entries : List Entry) → KeepsRegions slab entries → InNameOrder (regions_at slab entries)
kept_order slab entries keeps = subst (InOrder name_below) (sym (names_kept slab entries keeps.named)) keeps.rise

-- a list in order is that of entries whose names rise
rise_from_order : (slab : Slab Region) (entries : List Entry) (regions : List Region) → EntriesNamed slab entries → regions_at slab entries ≡ regions → InNameOrder regions → InOrder name_below (keys_of entries)
rise_from_order slab entries regions named is order = subst (InOrder name_below) (ap region_names (sym is) ∙ names_kept slab entries named) order

-- where both slabs have the same at an entry's key
module _ (old new : Slab Region) (e : Entry) (same : get new e.1 ≡ get old e.1) where
  same_region : region_at new e ≡ region_at old e
  same_region = ap (λ o. unwrap_or o (new_region e.0)) same

  here_still : get old e.1 ≡ Some (region_at old e) → get new e.1 ≡ Some (region_at new e)
  here_still here = same ∙ here ∙ ap Some (sym same_region)

  named_still : (region_at old e).name ≡ e.0 → (region_at new e).name ≡ e.0
  named_still named = ap (λ (x : Region). x.name) same_region ∙ named

-- two entries that lead to one key have one name
one_name : (slab : Slab Region) (entries : List Entry) → KeepsRegions slab entries → (e f : Entry) → Member e entries → Member f entries → e.1 ≡ f.1 → e.0 ≡ f.0
one_name slab entries keeps e f m n same =
    let both : Some (region_at slab e) ≡ Some (region_at slab f) = sym (keeps.here e m) ∙ ap (get slab) same ∙ keeps.here f n in
    sym (keeps.named e m) ∙ ap (λ o. (unwrap_or o (region_at slab e)).name) both ∙ keeps.named f n

-- an entry of another name leads to another key than that which is found for a name
other_key : (slab : Slab Region) (entries : List Entry) → KeepsRegions slab entries → (r : ObjId) (k : ℕ) → key_in entries r ≡ Some k → (e : Entry) → Member e entries → same_name e.0 r ≡ false → e.1 ≢ k
other_key slab entries keeps r k found e m differ same =
    let one = one_name slab entries keeps e (r, k) m (member_found entries r k found) same in
    both_ways (same_name e.0 r) differ (ap (λ n. same_name n r) one ∙ same_name_itself r)

-- ---- a write of one region, which keeps its name
module _ (old new : Slab Region) (entries : List Entry) (keeps : KeepsRegions old entries) (r : ObjId) (k : ℕ) (found : key_in entries r ≡ Some k)
    (f : Region → Region) (name_stays : (region : Region) → (f region).name ≡ region.name) (region : Region) (here : get old k ≡ Some region)
    (write : Updates old new k (Some (f region))) (count : slab_len new ≡ slab_len old) where
  -- the entry of that name leads to that key
  this_key : (e : Entry) → Member e entries → same_name e.0 r ≡ true → e.1 ≡ k
  this_key e m same =
      let both : Some e.1 ≡ Some k = sym (found_member entries keeps.rise e m) ∙ ap (key_in entries) (same_name_is e.0 r same) ∙ found in
      ap (λ o. unwrap_or o e.1) both

  -- what the slab has at an entry's key, by the test of its name
  pub slot_after : (e : Entry) → Member e entries → (b : Bool) → same_name e.0 r ≡ b → get new e.1 ≡ Some (cond b (f (region_at old e)) (region_at old e))
  slot_after e m true same =
      let key = this_key e m same in
      let before : region_at old e ≡ region = ap (λ o. unwrap_or o (new_region e.0)) (ap (get old) key ∙ here) in
      ap (get new) key ∙ write.changed ∙ ap (λ x. Some (f x)) (sym before)
  slot_after e m false differ = write.others e.1 (other_key old entries keeps r k found e m differ) ∙ keeps.here e m

  region_after : (e : Entry) → Member e entries → region_at new e ≡ cond (same_name (region_at old e).name r) (f (region_at old e)) (region_at old e)
  region_after e m =
      ap (λ o. unwrap_or o (new_region e.0)) (slot_after e m (same_name (region_at old e).name r) (ap (λ n. same_name n r) (sym (keeps.named e m))))

  -- the list changes at that name alone
  pub regions_written : regions_at new entries ≡ map (λ x. cond (same_name x.name r) (f x) x) (regions_at old entries)
  regions_written = map_at (region_at new) (λ e. cond (same_name (region_at old e).name r) (f (region_at old e)) (region_at old e)) entries region_after ∙ sym (map_map entries)
    where
      map_map : (es : List Entry) → map (λ x. cond (same_name x.name r) (f x) x) (regions_at old es) ≡ map (λ e. cond (same_name (region_at old e).name r) (f (region_at old e)) (region_at old e)) es
      map_map [] = refl
      map_map (e ∷ es) = ap (λ l. cond (same_name (region_at old e).name r) (f (region_at old e)) (region_at old e) ∷ l) (map_map es)

  name_after : (b : Bool) (x : Region) → (cond b (f x) x).name ≡ x.name
  name_after true x = name_stays x
  name_after false x = refl

  pub written_keeps : KeepsRegions new entries
  written_keeps = record {
    here = λ e m. let slot = slot_after e m (same_name e.0 r) refl in slot ∙ ap (λ o. Some (unwrap_or o (new_region e.0))) (sym slot);
    named = λ e m. ap (λ (x : Region). x.name) (region_after e m) ∙ name_after _ (region_at old e) ∙ keeps.named e m;
    rise = keeps.rise;
    count = count ∙ keeps.count;
  }

-- ---- a new region
module _ (old new : Slab Region) (entries : List Entry) (keeps : KeepsRegions old entries) (r : ObjId) (k : ℕ) (absent : has_region (regions_at old entries) r ≡ false)
    (vacant : get old k ≡ None) (write : Updates old new k (Some (new_region r))) where
  still : (e : Entry) → Member e entries → get new e.1 ≡ get old e.1
  still e m = write.others e.1 (λ same. let none : Some (region_at old e) ≡ None = sym (keeps.here e m) ∙ ap (get old) same ∙ vacant in cc)

  named_now : EntriesNamed new entries
  named_now e m = named_still old new e (still e m) (keeps.named e m)

  regions_still : regions_at new entries ≡ regions_at old entries
  regions_still = map_at (region_at new) (region_at old) entries (λ e m. same_region old new e (still e m))

  made_here : region_at new (r, k) ≡ new_region r
  made_here = ap (λ o. unwrap_or o (new_region r)) write.changed

  inserted : (es : List Entry) → EntriesNamed new es → has_region (regions_at new es) r ≡ false → regions_at new (insert_entry name_cmp es r k) ≡ with_region (regions_at new es) r
  inserted [] named none = ap (λ x. x ∷ []) made_here
  inserted (e ∷ es) named none =
      let parts = or_parts (same_name (region_at new e).name r) (has_region (regions_at new es) r) none in
      let name = named e (inl refl) in
      go (name_cmp r e.0) (below_cmp r e.0 ∙ ap (name_below r) (sym name)) (same_cmp r e.0 ∙ ap (λ n. same_name n r) (sym name) ∙ parts.0) (inserted es (λ d m. named d (inr m)) parts.1)
    where
      go : (o : Ordering) → is_lt o ≡ name_below r (region_at new e).name → is_eq o ≡ false → regions_at new (insert_entry name_cmp es r k) ≡ with_region (regions_at new es) r
          → regions_at new (match_ordering o ((r, k) ∷ e ∷ es) ((e.0, k) ∷ es) (e ∷ insert_entry name_cmp es r k))
          ≡ cond (name_below r (region_at new e).name) (new_region r ∷ region_at new e ∷ regions_at new es) (region_at new e ∷ with_region (regions_at new es) r)
      go Less below differ list =
          ap (λ x. x ∷ region_at new e ∷ regions_at new es) made_here
          ∙ ap (λ b. cond b (new_region r ∷ region_at new e ∷ regions_at new es) (region_at new e ∷ with_region (regions_at new es) r)) below
      go Equal below differ list = absurd (true≢false differ)
      go Greater below differ list =
          ap (λ l. region_at new e ∷ l) list
          ∙ ap (λ b. cond b (new_region r ∷ region_at new e ∷ regions_at new es) (region_at new e ∷ with_region (regions_at new es) r)) below

  -- the list gains the new region
  pub regions_made : regions_at new (insert_entry name_cmp entries r k) ≡ with_region (regions_at old entries) r
  regions_made = inserted entries named_now (ap (λ xs. has_region xs r) regions_still ∙ absent) ∙ ap (λ xs. with_region xs r) regions_still

  pub made_keeps : slab_len new ≡ length (insert_entry name_cmp entries r k) → KeepsRegions new (insert_entry name_cmp entries r k)
  made_keeps count =
      let named : EntriesNamed new (insert_entry name_cmp entries r k)
      = λ e m. elim (member_inserted entries r k e m) [
        | inl same ↦ ap (λ (d : Entry). (region_at new d).name) same ∙ ap (λ (x : Region). x.name) made_here ∙ ap (λ (d : Entry). d.0) (sym same)
        | inr there ↦ named_now e there
      ] in
      record {
        here = λ e m. elim (member_inserted entries r k e m) [
          | inl same ↦ subst (λ (d : Entry). get new d.1 ≡ Some (region_at new d)) (sym same) (write.changed ∙ ap Some (sym made_here))
          | inr there ↦ here_still old new e (still e there) (keeps.here e there)
        ];
        named = named;
        rise = rise_from_order new (insert_entry name_cmp entries r k) (with_region (regions_at old entries) r) named regions_made (order_with (regions_at old entries) r (kept_order old entries keeps) absent);
        count = count;
      }

-- ---- the end of a region
module _ (old new : Slab Region) (entries : List Entry) (keeps : KeepsRegions old entries) (r : ObjId) (k : ℕ) (found : key_in entries r ≡ Some k) (write : Updates old new k None) where
  other_left : (e : Entry) → Member e (filter (is_other r) entries) → Member e entries × (get new e.1 ≡ get old e.1)
  other_left e m =
      let both = Member_of_filter (is_other r) e entries m in
      (both.0, write.others e.1 (other_key old entries keeps r k found e both.0 (was_false (same_name e.0 r) both.1)))
    where
      was_false : (b : Bool) → not b ≡ true → b ≡ false
      was_false true e = cc
      was_false false e = refl

  filtered : (es : List Entry) → EntriesNamed old es → regions_at old (filter (is_other r) es) ≡ without_region (regions_at old es) r
  filtered [] named = refl
  filtered (e ∷ es) named =
      go (is_other r e) (filtered es (λ d m. named d (inr m)))
      ∙ ap (λ n. cond (not (same_name n r)) (region_at old e ∷ without_region (regions_at old es) r) (without_region (regions_at old es) r)) (sym (named e (inl refl)))
    where
      go : (b : Bool) → regions_at old (filter (is_other r) es) ≡ without_region (regions_at old es) r
          → regions_at old (cond b (e ∷ filter (is_other r) es) (filter (is_other r) es)) ≡ cond b (region_at old e ∷ without_region (regions_at old es) r) (without_region (regions_at old es) r)
      go true same = ap (λ l. region_at old e ∷ l) same
      go false same = same

  ended_filter : regions_at new (filter (is_other r) entries) ≡ without_region (regions_at old entries) r
  ended_filter =
      map_at (region_at new) (region_at old) (filter (is_other r) entries) (λ e m. same_region old new e (other_left e m).1)
      ∙ filtered entries keeps.named

  -- the list loses that region
  pub regions_ended : regions_at new (remove_entry (is_name r) entries) ≡ without_region (regions_at old entries) r
  regions_ended = ap (regions_at new) (removed entries r keeps.rise) ∙ ended_filter

  pub ended_keeps : slab_len new ≡ length (remove_entry (is_name r) entries) → KeepsRegions new (remove_entry (is_name r) entries)
  ended_keeps count = subst (KeepsRegions new) (sym (removed entries r keeps.rise)) (record {
    here = λ e m. let left = other_left e m in here_still old new e left.1 (keeps.here e left.0);
    named = named;
    rise = rise_from_order new (filter (is_other r) entries) (without_region (regions_at old entries) r) named ended_filter (order_without (regions_at old entries) r (kept_order old entries keeps));
    count = count ∙ ap length (removed entries r keeps.rise);
  })
    where
      named : EntriesNamed new (filter (is_other r) entries)
      named e m = let left = other_left e m in named_still old new e left.1 (keeps.named e left.0)

-- ---- the calls of a table
-- the slab has a region at a key that the index finds
pub found_key : (slab : Slab Region) (entries : List Entry) (r : ObjId) (k : ℕ) → KeepsRegions slab entries → key_in entries r ≡ Some k → ContainsKey slab k
found_key slab entries r k keeps found = ap is_some (keeps.here (r, k) (member_found entries r k found))

-- what a table's look-ups find, by the list that the slab and the index keep
module _ (slab : Slab Region) (entries : List Entry) (keeps : KeepsRegions slab entries) (regions : List Region) (view : regions_at slab entries ≡ regions) (r : ObjId) where
  -- the index finds the name of a region that is there
  pub found_name : has_region regions r ≡ true → is_some (key_in entries r) ≡ true
  found_name there = sym (has_kept slab entries r keeps.named) ∙ ap (λ xs. has_region xs r) view ∙ there

  pub absent_name : has_region regions r ≡ true → key_in entries r ≡ None → ⊥
  absent_name there none = true≢false (sym (found_name there) ∙ ap is_some none)

  -- a name that isn't there has no key
  pub absent_no_key : has_region regions r ≡ false → is_some (key_in entries r) ≡ false
  absent_no_key absent = sym (has_kept slab entries r keeps.named) ∙ ap (λ xs. has_region xs r) view ∙ absent

  module _ (k : ℕ) (found : key_in entries r ≡ Some k) (region : Region) (here : get slab k ≡ Some region) where
    region_found : region_named regions r ≡ Some region
    region_found = ap (λ xs. region_named xs r) (sym view) ∙ region_kept slab entries r keeps.named keeps.here ∙ ap (option_and_then (get slab)) found ∙ here

    pub number_found : borrowed_of regions r ≡ region.borrowed
    number_found = ap (λ o. option_map_or (λ (x : Region). x.borrowed) o 0) region_found

    pub flag_found : owned_of regions r ≡ region.owned
    flag_found = ap (λ o. option_map_or (λ (x : Region). x.owned) o false) region_found

    abbrev written_region : ℕ → Bool → Region
    written_region n b = record { name = region.name; borrowed = n; owned = b }

    write_of : (value : Region) → Updates slab (with_value slab k value) k (Some value)
    write_of value = Updates-with_value slab k value (found_key slab entries r k keeps found)

    count_of : (value : Region) → slab_len (with_value slab k value) ≡ slab_len slab
    count_of value = count_kept slab.slots k value (found_key slab entries r k keeps found)

    -- a write through the slab changes that number alone
    pub number_written : (n m : ℕ) → n ≡ m → regions_at (with_value slab k (written_region n region.owned)) entries ≡ with_borrowed regions r m
    number_written n m same =
        regions_written slab (with_value slab k (written_region n region.owned)) entries keeps r k found
        (λ x. record x { borrowed = n }) (λ x. refl) region here (write_of (written_region n region.owned)) (count_of (written_region n region.owned))
        ∙ ap (λ xs. with_borrowed xs r n) view
        ∙ ap (with_borrowed regions r) same

    -- a write through the slab changes that flag alone
    pub flag_written : (b : Bool) → regions_at (with_value slab k (written_region region.borrowed b)) entries ≡ with_owned regions r b
    flag_written b =
        regions_written slab (with_value slab k (written_region region.borrowed b)) entries keeps r k found
        (λ x. record x { owned = b }) (λ x. refl) region here (write_of (written_region region.borrowed b)) (count_of (written_region region.borrowed b))
        ∙ ap (λ xs. with_owned xs r b) view

    pub write_keeps : (n : ℕ) (b : Bool) → KeepsRegions (with_value slab k (written_region n b)) entries
    write_keeps n b =
        written_keeps slab (with_value slab k (written_region n b)) entries keeps r k found
        (λ x. record { name = x.name; borrowed = n; owned = b }) (λ x. refl) region here (write_of (written_region n b)) (count_of (written_region n b))

-- a slab with the same slots keeps the same list
module _ (old new : Slab Region) (entries : List Entry) (keeps : KeepsRegions old entries) (same : new.slots ≡ old.slots) where
  same_slot : (e : Entry) → get new e.1 ≡ get old e.1
  same_slot e = ap (λ slots. slice_index_or slots e.1 None) same

  pub same_slots_keep : KeepsRegions new entries
  same_slots_keep = record {
    here = λ e m. here_still old new e (same_slot e) (keeps.here e m);
    named = λ e m. named_still old new e (same_slot e) (keeps.named e m);
    rise = keeps.rise;
    count = ap (λ slots. slab_len (record new { slots = slots })) same ∙ keeps.count;
  }

  pub same_slots_regions : regions_at new entries ≡ regions_at old entries
  same_slots_regions = map_at (region_at new) (region_at old) entries (λ e m. same_region old new e (same_slot e))

-- a region is made: room is found, the index gets the name with the vacant key, and the slab gets the region there
module _ (old room new : Slab Region) (before after : List Entry) (keeps : KeepsRegions old before) (regions : List Region) (view : regions_at old before ≡ regions) (r : ObjId) (k : ℕ)
    (absent : has_region regions r ≡ false) (same : room.slots ≡ old.slots) (vacant : get room k ≡ None) (entered : after ≡ insert_entry name_cmp before r k) (write : Updates room new k (Some (new_region r))) where
  room_view : regions_at room before ≡ regions
  room_view = same_slots_regions old room before keeps same ∙ view

  room_absent : has_region (regions_at room before) r ≡ false
  room_absent = ap (λ xs. has_region xs r) room_view ∙ absent

  pub made_by_calls : regions_at new after ≡ with_region regions r
  made_by_calls =
      ap (regions_at new) entered
      ∙ regions_made room new before (same_slots_keep old room before keeps same) r k room_absent vacant write
      ∙ ap (λ xs. with_region xs r) room_view

  pub made_by_calls_keeps : slab_len new ≡ length after → KeepsRegions new after
  made_by_calls_keeps count = subst (KeepsRegions new) (sym entered) (made_keeps room new before (same_slots_keep old room before keeps same) r k room_absent vacant write (count ∙ ap length entered))

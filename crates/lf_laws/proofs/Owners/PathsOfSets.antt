-- Least sets as ends of paths: what moves with a value, what lies below a region, what a freeze takes.
use Rattle.std.proofs.Common.{Bool, List, [], ap, inl, inr, length, refl, subst, suc, sym, true, zero, ℕ, ◌&&◌, ◌<◌, ◌||◌, ◌∙◌, ◌≡◌, ◌⊎◌}
use Rattle.std.proofs.lemmas.Bool.Decides.{Decides-ltb}
use Rattle.std.specs.List.{filter, list_any}
use Rattle.std.specs.Prelude.{ltb, ◌↔◌}
use Rattle.lf_base.specs.declared.ids.ObjId.{ObjId}
use Rattle.lf_base.specs.declared.values.Owner.TheVariants.{Local}
use Rattle.lf_base.specs.declared.values.Value.{Value}
use Rattle.lf_base.specs.Edges.{field_targets}
use Rattle.lf_base.specs.FreezeResult.{FreezeClosed, brings_in, freeze_set}
use Rattle.lf_base.specs.MoveSet.{LocalPath, continues, move_set, starts}
use Rattle.lf_base.specs.Names.{is_local, targets_of_value}
use Rattle.lf_base.specs.Owners.{bridges, has_name}
use Rattle.lf_base.specs.Ownership.{Above, below, direct, owns, step}
use Rattle.lf_base.specs.PlainState.{Row, State}
use Rattle.lf_base.specs.Sets.{Member, grow, least}
use Rattle.lf_base.specs.WalkCounts.{borrowed, is_open}
use Rattle.lf_base.proofs.ListLemmas.Sublists.{Sub, sub_filter}
use Rattle.std.proofs.lemmas.Bool.{and_parts, or_left, or_cases}
use Rattle.lf_base.proofs.ListLemmas.LeastSets.{JoinsMore, least_closed, least_in}
use Rattle.lf_base.proofs.ListLemmas.Members.{Member_any, any_Member, any_more}
use Rattle.std.proofs.Math.Bool.{or-true}
use Rattle.lf_laws.proofs.Writes.MovedRows.{move_start, move_step}
use Rattle.lf_laws.proofs.Owners.OwnersGoRound.{bridge_listed}
use Rattle.lf_base.proofs.ListLemmas.Filters.{Member_filter, Member_of_filter}
use Rattle.lf_laws.proofs.Rows.OwnerTests.{local_is}
use Rattle.lf_laws.proofs.Rows.RowsByName.{Member_has_name, has_name_Member}

-- what holds of all that a set brings in, wherever it holds of the set, holds of the least set
module _ {X : Type 0} (joins : List X → X → Bool) (all : List X) (P : X → Type 0)
    (brought : (xs : List X) (x : X) → ((y : X) → Member y xs → P y) → Member x all → joins xs x ≡ true → P x) where
  grow_holds : (n : ℕ) (xs : List X) → ((y : X) → Member y xs → P y) → (y : X) → Member y (grow joins all n xs) → P y
  grow_holds zero xs h y m = h y m
  grow_holds (suc n) xs h y m = grow_holds n (filter (joins xs) all) (λ z k. let r = Member_of_filter (joins xs) z all k in brought xs z h r.0 r.1) y m

  pub least_holds : (y : X) → Member y (least joins all) → P y
  least_holds y m = grow_holds (length all) [] (λ z k. absurd k) y m

-- ---- the rows that move with a value
module _ (s : State) (v : Value) where
  path_of : (y : Row) → Member y (move_set s v) → LocalPath s v y
  path_of = least_holds (λ found row. is_local row.owner && (has_name (targets_of_value v) row.name || list_any (λ x. has_name (field_targets x.fields) row.name) found)) s.rows (LocalPath s v)
      (λ xs x h m e.
      let p = and_parts (is_local x.owner) _ e in
      let near : x.owner ≡ Local = local_is x.owner p.0 in
      elim (or_cases (has_name (targets_of_value v) x.name) (list_any (λ z. has_name (field_targets z.fields) x.name) xs) p.1) [
        | inl k ↦ starts m near (has_name_Member x.name (targets_of_value v) k)
        | inr k ↦ let z = any_Member (λ (z : Row). has_name (field_targets z.fields) x.name) xs k in
            continues (h z.0 z.1.0) m near (has_name_Member x.name (field_targets (z.0).fields) z.1.1)
      ])

  in_move_set : {y : Row} → LocalPath s v y → Member y (move_set s v)
  in_move_set (starts {y} m l t) = move_start s v y m l t
  in_move_set (continues {x} {y} p m l t) = move_step s v x y (in_move_set p) m l t

  pub move_set_path : (y : Row) → Member y (move_set s v) ↔ LocalPath s v y
  move_set_path y = (path_of y, in_move_set)

-- ---- what lies below a region
module _ (s : State) where
  abbrev brings : ObjId → List ObjId → ObjId → Bool
  brings r found c = owns s r c || list_any (λ q. owns s q c) found

  brings_more : (r : ObjId) → JoinsMore (brings r) (bridges s)
  brings_more r xs ys x w e = elim (or_cases (owns s r x) (list_any (λ q. owns s q x) xs) e) [
    | inl h ↦ or_left _ _ h
    | inr h ↦ ap (λ b. owns s r x || b) (any_more (λ q. owns s q x) xs ys w h) ∙ or-true (owns s r x)
  ]

  pub above_then : {q p r : ObjId} → Above s q p → owns s p r ≡ true → Above s q r
  above_then (direct e) h = step e (direct h)
  above_then (step e a) h = step e (above_then a h)

  above_of : (q r : ObjId) → Member r (below s q) → Above s q r
  above_of q = least_holds (brings q) (bridges s) (Above s q)
      (λ xs x h m e. elim (or_cases (owns s q x) (list_any (λ p. owns s p x) xs) e) [
        | inl k ↦ direct k
        | inr k ↦ let p = any_Member (λ p. owns s p x) xs k in above_then (h p.0 p.1.0) p.1.1
      ])

  brought : (q r p : ObjId) → owns s p r ≡ true → brings q (below s q) r ≡ true → Member r (below s q)
  brought q r p e h = subst (Member r) (least_closed (brings q) (bridges s) (brings_more q)) (Member_filter (brings q (below s q)) r (bridges s) (bridge_listed s p r e) h)

  owned_by_one : (q p r : ObjId) → (p ≡ q) ⊎ Member p (below s q) → owns s p r ≡ true → Member r (below s q)
  owned_by_one q p r m e = brought q r p e (elim m [
    | inl h ↦ or_left _ _ (ap (λ z. owns s z r) (sym h) ∙ e)
    | inr h ↦ ap (λ b. owns s q r || b) (Member_any (λ z. owns s z r) p (below s q) h e) ∙ or-true (owns s q r)
  ])

  from_above : (q : ObjId) {p r : ObjId} → (p ≡ q) ⊎ Member p (below s q) → Above s p r → Member r (below s q)
  from_above q m (direct {q = p} {r} e) = owned_by_one q p r m e
  from_above q m (step {q = p} {p = x} {r} e a) = from_above q (inr (owned_by_one q p x m e)) a

  pub below_path : (q r : ObjId) → Member r (below s q) ↔ Above s q r
  below_path q r = (above_of q r, from_above q (inl refl))

  -- a region is open where it, or one below it, is borrowed
  abbrev pub BorrowedBelow : ObjId → Type 0
  BorrowedBelow r = (q : ObjId) × (Above s r q × (0 < borrowed s q))

  positive : (n : ℕ) → ltb 0 n ≡ true → 0 < n
  positive n e = (Decides-ltb 0 n).0 e

  is_positive : (n : ℕ) → 0 < n → ltb 0 n ≡ true
  is_positive n h = (Decides-ltb 0 n).1 h

  pub open_path : (r : ObjId) → (is_open s r ≡ true) ↔ ((0 < borrowed s r) ⊎ BorrowedBelow r)
  open_path r = (
    λ e. elim (or_cases (ltb 0 (borrowed s r)) _ e) [
      | inl h ↦ inl (positive (borrowed s r) h)
      | inr h ↦ let q = any_Member (λ c. ltb 0 (borrowed s c)) (below s r) h in inr (q.0, (above_of r q.0 q.1.0, positive (borrowed s q.0) q.1.1))
    ],
    λ h. elim h [
      | inl k ↦ or_left _ _ (is_positive (borrowed s r) k)
      | inr k ↦ ap (λ b. ltb 0 (borrowed s r) || b) (Member_any (λ c. ltb 0 (borrowed s c)) k.0 (below s r) (from_above r (inl refl) k.1.0) (is_positive (borrowed s k.0) k.1.1)) ∙ or-true _
    ],
  )

-- ---- what a freeze takes
module _ (s : State) (v : Value) where
  abbrev taken : List Row → Row → Bool
  taken found row = has_name (targets_of_value v) row.name || list_any (λ x. brings_in x row) found

  taken_more : JoinsMore taken s.rows
  taken_more xs ys x w e = elim (or_cases (has_name (targets_of_value v) x.name) (list_any (λ z. brings_in z x) xs) e) [
    | inl h ↦ or_left _ _ h
    | inr h ↦ ap (λ b. has_name (targets_of_value v) x.name || b) (any_more (λ z. brings_in z x) xs ys w h) ∙ or-true _
  ]

  in_taken : (y : Row) → Member y s.rows → taken (freeze_set s v) y ≡ true → Member y (freeze_set s v)
  in_taken y m e = subst (Member y) (least_closed taken s.rows taken_more) (Member_filter (taken (freeze_set s v)) y s.rows m e)

  pub freeze_closed : FreezeClosed s v (freeze_set s v)
  freeze_closed = record {
    first = λ y m n. in_taken y m (or_left _ _ (Member_has_name y.name (targets_of_value v) n));
    next = λ x y m n e. in_taken y n (ap (λ b. has_name (targets_of_value v) y.name || b) (Member_any (λ z. brings_in z y) x (freeze_set s v) m e) ∙ or-true _);
  }

  pub freeze_least : (rows : List Row) → FreezeClosed s v rows → (y : Row) → Member y (freeze_set s v) → Member y rows
  freeze_least rows c y m = least_in taken s.rows taken_more rows
      (λ x n e. elim (or_cases (has_name (targets_of_value v) x.name) (list_any (λ z. brings_in z x) rows) e) [
        | inl h ↦ c.first x n (has_name_Member x.name (targets_of_value v) h)
        | inr h ↦ let z = any_Member (λ z. brings_in z x) rows h in c.next z.0 x z.1.0 n z.1.1
      ]) y m

  pub freeze_within : (y : Row) → Member y (freeze_set s v) → Member y s.rows
  freeze_within y m = (Member_of_filter (taken (freeze_set s v)) y s.rows (subst (Member y) (sym (least_closed taken s.rows taken_more)) m)).0

  pub freeze_part : Sub (freeze_set s v) s.rows
  freeze_part = subst (λ l. Sub l s.rows) (least_closed taken s.rows taken_more) (sub_filter (taken (freeze_set s v)) s.rows)

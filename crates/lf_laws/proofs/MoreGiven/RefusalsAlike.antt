-- With more frozen rows each change is refused for the same, and gives the same.
use Rattle.std.proofs.Common.{List, None, Option, Some, [], ap, cond, inl, refl, ℕ, ◌&&◌, ◌∷◌, ◌≡◌}
use Rattle.std.specs.Option.{option_or}
use Rattle.lf_base.specs.declared.faults.Fault.TheVariants.{Owned}
use Rattle.lf_base.specs.declared.ids.ObjId.{ObjId}
use Rattle.lf_base.specs.declared.values.Key.{Key}
use Rattle.lf_base.specs.declared.values.Value.{Value}
use Rattle.lf_base.specs.declared.values.Value.TheVariants.{Cown, Obj}
use Rattle.lf_base.specs.Accesses.{or_no_field, read_fault, read_refusal, remove_fault, remove_refusal, remove_result, store_fault, store_refusal, store_result}
use Rattle.lf_base.specs.CloseResult.{close_result}
use Rattle.lf_base.specs.ContentResult.{content_result}
use Rattle.lf_base.specs.DissolveResult.{dissolve_refusal, dissolve_refusal_by, dissolve_result}
use Rattle.lf_base.specs.HeapCalls.{merged_by, on_bridge}
use Rattle.lf_base.specs.MergeResult.{merge_refusal, merge_refusal_by}
use Rattle.lf_base.specs.MoreGiven.{Foreign, More, with_given}
use Rattle.lf_base.specs.Names.{key_of, targets_of_value}
use Rattle.lf_base.specs.NewCown.{is_open_region, made_result, new_cown_refusal, or_open}
use Rattle.lf_base.specs.Owners.{bridge_of, is_bridge}
use Rattle.lf_base.specs.PlainChecks.{cown_refusal, plain_refusal}
use Rattle.lf_base.specs.PlainState.{Row, State}
use Rattle.lf_base.specs.TakeResult.{row_field}
use Rattle.lf_base.specs.WellFormed.{SlotMayHold}
use Rattle.lf_laws.proofs.MoreGiven.GivenRows.{close_given, content_same, few_foreign, many_foreign, merge_same, open_same, owned_same, write_same}
use Rattle.lf_laws.proofs.MoreGiven.ReadsAlike.{row_same}

-- ---- results
module _ (s : State) (many : List Row) where
  abbrev other : State
  other = with_given s many

  pub store_given : (target : Value) (k : Option Key) (v : Value) → store_result other target k v ≡ with_given (store_result s target k v) many
  store_given (Obj x) (Some k) v = refl
  store_given (Cown c) (Some k) v = refl
  store_given _ _ v = refl

  pub remove_given : (target : Value) (k : Option Key) → remove_result other target k ≡ with_given (remove_result s target k) many
  remove_given (Obj x) (Some k) = refl
  remove_given (Cown c) (Some k) = refl
  remove_given _ _ = refl

  pub merged_given : (a b : Option ObjId) → merged_by a b other ≡ with_given (merged_by a b s) many
  merged_given (Some a) (Some b) = refl
  merged_given _ _ = refl

  pub dissolved_given : (a : Option ObjId) → on_bridge a (dissolve_result other) other ≡ with_given (on_bridge a (dissolve_result s) s) many
  dissolved_given (Some r) = refl
  dissolved_given None = refl

module _ (s : State) (many : List Row) (h : More s many) where
  abbrev big : State
  big = with_given s many

  far : Foreign s.rows s.given
  far = few_foreign s many h

  far_more : Foreign s.rows many
  far_more = many_foreign s many h

  open_alike : (os : List ObjId) → is_open_region big os ≡ is_open_region s os
  open_alike [] = refl
  open_alike (o ∷ os) = ap (λ b. is_bridge s.rows o && b) (open_same s many far far_more o)

  pub new_cown_alike : (v : Value) → SlotMayHold s v → new_cown_refusal big v ≡ new_cown_refusal s v
  new_cown_alike v may = λ i. or_open (content_same s many h (made_result s v) refl refl refl v may.object_there i) (open_alike (targets_of_value v) i)

  store_at : (target : Value) (k : Option Key) (v : Value) → SlotMayHold s v → store_fault big target k v ≡ store_fault s target k v
  store_at (Obj x) (Some k) v may = write_same s many h x k v
  store_at (Cown c) (Some k) v may = ap (option_or (cown_refusal s c k)) (content_same s many h (content_result s c v) refl refl refl v may.object_there)
  store_at _ _ v may = refl

  pub store_alike : (target key v : Value) → SlotMayHold s v → store_refusal big target key v ≡ store_refusal s target key v
  store_alike target key v may = ap (option_or (plain_refusal target key)) (store_at target (key_of key) v may)

  remove_at : (target : Value) (k : Option Key) → remove_fault big target k ≡ remove_fault s target k
  remove_at (Obj x) (Some k) = refl
  remove_at (Cown c) (Some k) = refl
  remove_at _ _ = refl

  pub remove_alike : (target key : Value) → remove_refusal big target key ≡ remove_refusal s target key
  remove_alike target key = ap (option_or (plain_refusal target key)) (remove_at target (key_of key))

  read_at : (target : Value) (k : Option Key) → SlotMayHold s target → read_fault big target k ≡ read_fault s target k
  read_at (Obj x) (Some k) may = ap (λ r. or_no_field (row_field r k)) (row_same s many h x (may.object_there x (inl refl)))
  read_at (Cown c) (Some k) may = refl
  read_at _ _ may = refl

  pub read_refused_alike : (target key : Value) → SlotMayHold s target → read_refusal big target key ≡ read_refusal s target key
  read_refused_alike target key may = ap (option_or (plain_refusal target key)) (read_at target (key_of key) may)

  merge_by : (a b : Option ObjId) → merge_refusal_by big a b ≡ merge_refusal_by s a b
  merge_by (Some a) (Some b) = merge_same s many far far_more a b
  merge_by _ _ = refl

  pub merge_alike : (v w : Value) → merge_refusal big v w ≡ merge_refusal s v w
  merge_alike v w = merge_by (bridge_of s v) (bridge_of s w)

  dissolve_by : (a : Option ObjId) → dissolve_refusal_by big a ≡ dissolve_refusal_by s a
  dissolve_by (Some r) = ap (λ b. cond b (Some Owned) None) (owned_same s many far far_more r)
  dissolve_by None = refl

  pub dissolve_alike : (v : Value) → dissolve_refusal big v ≡ dissolve_refusal s v
  dissolve_alike v = dissolve_by (bridge_of s v)

  pub closed_given : (at : ℕ) (a : Option ObjId) → on_bridge a (close_result big at) big ≡ with_given (on_bridge a (close_result s at) s) many
  closed_given at (Some r) = close_given s at r many far far_more
  closed_given at None = refl

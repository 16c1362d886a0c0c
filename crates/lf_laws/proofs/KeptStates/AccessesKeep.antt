-- A write and a take that aren't refused, of any target, leave a well-formed state.
use Rattle.std.proofs.Common.{None, Option, Some, ap, cond, false, refl, sym, true, ◌||◌, ◌∙◌, ◌≡◌}
use Rattle.std.specs.Option.{option_or}
use Rattle.std.proofs.lemmas.Option.{none-some}
use Rattle.lf_base.specs.declared.ids.CownId.{CownId}
use Rattle.lf_base.specs.declared.ids.ObjId.{ObjId}
use Rattle.lf_base.specs.declared.faults.Fault.TheVariants.{NoField, NotAcquired}
use Rattle.lf_base.specs.declared.values.Key.{Key}
use Rattle.lf_base.specs.declared.values.Owner.{Owner}
use Rattle.lf_base.specs.declared.values.Owner.TheVariants.{Frozen, In, Local}
use Rattle.lf_base.specs.declared.values.Value.{Value}
use Rattle.lf_base.specs.declared.values.Value.TheVariants as value
use Rattle.lf_base.specs.declared.values.Value.TheVariants.{Cown, Obj}
use Rattle.lf_base.specs.Accesses.{remove_fault, remove_refusal, remove_result, store_fault, store_refusal, store_result}
use Rattle.lf_base.specs.ContentResult.{has_cown}
use Rattle.lf_base.specs.Names.{key_of}
use Rattle.lf_base.specs.Owners.{has_row, or_frozen, owner_in}
use Rattle.lf_base.specs.PlainChecks.{cown_refusal, is_content_key, plain_refusal}
use Rattle.lf_base.specs.PlainState.{State}
use Rattle.lf_base.specs.WellFormed.{SlotMayHold, WellFormed, from_near}
use Rattle.lf_base.specs.WriteResult.{refusal_by, write_result}
use Rattle.lf_laws.proofs.Changes.ContentLaw.{content_law}
use Rattle.lf_laws.proofs.Changes.FewerFields.{take_keeps, taken, taken_trims, trimmed_owner}
use Rattle.lf_laws.proofs.Writes.WriteLaw.{write_law}

pub no_earlier : {X : Type 0} (a b : Option X) → option_or a b ≡ None → a ≡ None
no_earlier None b e = refl
no_earlier (Some x) b e = e

pub no_later : {X : Type 0} (a b : Option X) → option_or a b ≡ None → b ≡ None
no_later None b e = e
no_later (Some x) b e = absurd (none-some x (sym e))

-- a plain value may be held anywhere
pub nothing_held : (s : State) → SlotMayHold s value.None
nothing_held s = record { object_there = λ o m. absurd m; cown_numbered = λ c m. absurd m }

module _ (s : State) (w : WellFormed s) where
  write_keeps : (o : ObjId) (k : Key) (v : Value) → SlotMayHold s v → (u : Option Owner) → owner_in s.rows o ≡ u → refusal_by s o k v u ≡ None → WellFormed (write_result s o k v)
  write_keeps o k v may None h e = absurd (none-some _ (sym e))
  write_keeps o k v may (Some Frozen) h e = absurd (none-some _ (sym e))
  write_keeps o k v may (Some Local) h e = (write_law s w o k v may Local h).0 (ap (refusal_by s o k v) h ∙ e)
  write_keeps o k v may (Some (In r)) h e = (write_law s w o k v may (In r) h).0 (ap (refusal_by s o k v) h ∙ e)

  held_cown : (c : CownId) (k : Key) → cown_refusal s c k ≡ None → has_cown s.held c ≡ true
  held_cown c k e = elim (has_cown s.held c) as (λ b. cond b (cond (is_content_key k) None (Some NoField)) (Some NotAcquired) ≡ None → b ≡ true) [
    | true ↦ λ h. refl
    | false ↦ λ h. absurd (none-some NotAcquired (sym h))
  ] e

  store_at : (target : Value) (k : Option Key) (v : Value) → SlotMayHold s v → store_fault s target k v ≡ None → WellFormed (store_result s target k v)
  store_at (Obj o) (Some k) v may e = write_keeps o k v may (owner_in s.rows o) refl e
  store_at (Cown c) (Some k) v may e = (content_law s c v (held_cown c k (no_earlier _ _ e)) w may).0 (no_later _ _ e)
  store_at _ _ v may e = w

  pub store_keeps : (target key v : Value) → SlotMayHold s v → store_refusal s target key v ≡ None → WellFormed (store_result s target (key_of key) v)
  store_keeps target key v may e = store_at target (key_of key) v may (no_later (plain_refusal target key) _ e)

  remove_at : (target : Value) (k : Option Key) → remove_fault s target k ≡ None → WellFormed (remove_result s target k)
  remove_at (Obj o) (Some k) e = take_keeps s o k w
  remove_at (Cown c) (Some k) e = (content_law s c value.None (held_cown c k e) w (nothing_held s)).0 refl
  remove_at _ _ e = w

  pub remove_keeps : (target key : Value) → remove_refusal s target key ≡ None → WellFormed (remove_result s target (key_of key))
  remove_keeps target key e = remove_at target (key_of key) (no_later (plain_refusal target key) _ e)

  -- what a slot may hold before a take it may hold after it
  pub held_after_remove : (target : Value) (k : Option Key) (v : Value) → SlotMayHold s v → SlotMayHold (remove_result s target k) v
  held_after_remove (Obj o) (Some k) v may = record {
    object_there = λ p m. ap (λ u. from_near (or_frozen (has_row s.given p || has_row s.own p) u)) (trimmed_owner (taken o k) (taken_trims o k) s.rows p) ∙ may.object_there p m;
    cown_numbered = may.cown_numbered;
  }
  held_after_remove (Cown c) (Some k) v may = record { object_there = may.object_there; cown_numbered = may.cown_numbered }
  held_after_remove _ _ v may = may

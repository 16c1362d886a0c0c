-- What nothing justifies after losses is watched, where all rows stayed before.
use Rattle.std.proofs.Common.{List, Some, ap, arith, false, refl, sym, true, ◌+◌, ◌<◌, ◌∙◌, ◌≡◌}
use Rattle.lf_base.specs.declared.ids.ObjId.{ObjId}
use Rattle.lf_base.specs.declared.values.Owner.{Owner}
use Rattle.lf_base.specs.declared.values.Owner.TheVariants.{In, Local}
use Rattle.lf_base.specs.Kept.{kept_rows, points, stays_by_owner}
use Rattle.lf_base.specs.Owners.{has_row, is_in, owner_in}
use Rattle.lf_base.specs.Ownership.{owning_edges}
use Rattle.lf_base.specs.PlainState.{State}
use Rattle.lf_base.specs.Settling.{Watched, WatchedBy, Watches}
use Rattle.lf_base.specs.Suspects.{Bare, Object, Region, Suspect}
use Rattle.lf_base.specs.WalkCounts.{borrowed, refs}
use Rattle.lf_base.specs.WellFormed.{WellFormed}
use Rattle.lf_laws.proofs.Dropping.CountsJustifyDropping.{into_zero, owned_zero, points_zero, zero_into, zero_owned, zero_points}
use Rattle.std.proofs.lemmas.Bool.{both_ways}
use Rattle.lf_laws.proofs.Rows.RowsByName.{owner_has}
use Rattle.lf_base.proofs.NameLemmas.SameNames.{same_name_itself}
use Rattle.lf_laws.proofs.Dropping.RowsInPlace.{rows_in_place, RowsInPlace}
use Rattle.lf_laws.proofs.Dropping.HangingIsWatched.{bare_inner, bare_region, stays_all}
use Rattle.lf_base.specs.Sets.{Member}
use Rattle.lf_base.specs.Losses.{Loses, LossesKnown, is_held}
use Rattle.lf_base.specs.Noticing.{Noticed}
use Rattle.lf_laws.proofs.Losses.CountsFall.{not_above, zero_not, not_none}

-- where all rows stay there is nothing to notice
pub kept_notices : (s : State) → WellFormed s → kept_rows s ≡ s.rows → (w : List Suspect) → Noticed s w
kept_notices s t all w =
    let g : RowsInPlace s = rows_in_place s t in
    let stays : (o : ObjId) (u : Owner) → owner_in s.rows o ≡ Some u → stays_by_owner s s.rows o u ≡ true = λ o u h. stays_all s g o u h (ap (λ l. has_row l o) all ∙ owner_has s.rows o u h) in
    record {
      locals = λ o h n. absurd (both_ways _ n (stays o Local h));
      regions = λ r h b. absurd (both_ways _ (bare_region s g r b) (stays r (In r) h));
      inners = λ o r h d n. absurd (both_ways _ (bare_inner s g o r d n) (stays o (In r) h));
    }

pub noticed_watched : (s : State) (w : List Suspect) → Noticed s w → Watched s w
noticed_watched s w n = record {
  locals = n.locals;
  regions = n.regions;
  inners = λ o r h d k z. n.inners o r h d z;
}

module _ (s t : State) (old new : List Suspect) (before : WellFormed s) (after : WellFormed t) (noticed : Noticed s old) (loses : LossesKnown s t old new) where
  g : RowsInPlace s
  g = rows_in_place s before

  h : RowsInPlace t
  h = rows_in_place t after

  named : (o : ObjId) → points s.rows s o ≡ true → 0 < refs s o
  named o p = not_none (refs s o) (λ z. both_ways _ (zero_points s g o z) p)

  row_noticed : (o : ObjId) (w : Owner) → owner_in s.rows o ≡ Some w → (points s.rows s o ≡ false → Member (Object o) old) → refs t o ≡ 0 → Member (Object o) new
  row_noticed o w e f z = elim (points s.rows s o) as (λ b. points s.rows s o ≡ b → Member (Object o) new) [
    | true ↦ λ p. loses.rows_lost o w e (named o p) z
    | false ↦ λ n. loses.suspects_stay (Object o) (f n)
  ] refl

  watches_still : (r : ObjId) (u : Suspect) → Member u old → Watches s r u → WatchedBy t new r
  watches_still r (Object o) m e = (Object o, (loses.suspects_stay (Object o) m, loses.owners o ∙ e))
  watches_still r (Region q) m e = (Region q, (loses.suspects_stay (Region q) m, e))

  unheld : (r : ObjId) → Bare t r → is_held t r ≡ false
  unheld r b = not_above (owning_edges t r + borrowed t r) (omega (arith, owned_zero t h r b.unowned, into_zero t h r b.unborrowed))

  bare_before : (r : ObjId) → is_held s r ≡ false → Bare s r
  bare_before r n =
      let z : owning_edges s r + borrowed s r ≡ 0 = zero_not (owning_edges s r + borrowed s r) n in
      record { unowned = zero_owned s g r (omega (arith, z)); unborrowed = zero_into s g r (omega (arith, z)) }

  region_noticed : (r : ObjId) → owner_in s.rows r ≡ Some (In r) → Bare t r → WatchedBy t new r
  region_noticed r at b = elim (is_held s r) as (λ z. is_held s r ≡ z → WatchedBy t new r) [
    | true ↦ λ k.
        let l = loses.regions_lost r (ap (is_in r) at ∙ same_name_itself r) k (unheld r b) in
        (Object l.row, (l.suspect, loses.owners l.row ∙ l.inside))
    | false ↦ λ k. let u = noticed.regions r at (bare_before r k) in watches_still r u.0 u.1.0 u.1.1
  ] refl

  pub known_noticed : Noticed t new
  known_noticed = record {
    locals = λ o e n.
        let at : owner_in s.rows o ≡ Some Local = sym (loses.owners o) ∙ e in
        row_noticed o Local at (noticed.locals o at) (points_zero t h o Local e tt n);
    regions = λ r e. region_noticed r (sym (loses.owners r) ∙ e);
    inners = λ o r e d n.
        let at : owner_in s.rows o ≡ Some (In r) = sym (loses.owners o) ∙ e in
        row_noticed o (In r) at (noticed.inners o r at d) (points_zero t h o (In r) e d n);
  }

-- ---- losses that are paid for by what they take away
known_of : (s t : State) (old new : List Suspect) → Loses s t old new → LossesKnown s t old new
known_of s t old new l = record { owners = l.owners; rows_lost = l.rows_lost; regions_lost = l.regions_lost; suspects_stay = l.suspects_stay }

pub losses_noticed : (s t : State) (old new : List Suspect) → WellFormed s → WellFormed t → Noticed s old → Loses s t old new → Noticed t new
losses_noticed s t old new before after noticed loses = known_noticed s t old new before after noticed (known_of s t old new loses)

pub losses_watched : (s t : State) (old new : List Suspect) → WellFormed s → WellFormed t → kept_rows s ≡ s.rows → Loses s t old new → Watched t new
losses_watched s t old new before after all loses = noticed_watched t new (losses_noticed s t old new before after (kept_notices s before all old) loses)

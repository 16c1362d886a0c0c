-- The next content, as a range of the places begins.
use Rattle.std.proofs.Common.{◌≡◌, ◌∙◌, ◌++◌, List, [], ◌∷◌, Option, Some, None, ap, cond, refl, true, false}
use Rattle.std.proofs.Math.Bool.{and-true}
use Rattle.std.specs.List.{find}
use Rattle.std.specs.BTreeMap.Range.{entries_between, range_contains}
use Rattle.std.specs.declared.ops.Bound.TheVariants.{Unbounded}
use Rattle.lf_base.specs.declared.ids.CownId.{CownId}
use Rattle.lf_core.specs.Contents.{Places, is_above, kept, next_content, start_above}
use Rattle.lf_core.specs.Keyed.{found}
use Rattle.lf_core.proofs.Places.{below_cmp, cown_cmp}

above_test : (after : Option CownId) (c : CownId) → range_contains cown_cmp (start_above after) Unbounded c ≡ is_above after c
above_test None c = refl
above_test (Some a) c = and-true _ ∙ below_cmp a c

module _ {C : Type 0} where
  abbrev pub first_of : List (CownId × C) → Option (CownId × C)
  first_of [] = None
  first_of (x ∷ xs) = Some x

  -- the places whose cowns are above that one
  abbrev pub places_above : Option CownId → Places C → Places C
  places_above after places = entries_between cown_cmp (start_above after) Unbounded places

  pub first_above : (after : Option CownId) (places : Places C) → first_of (kept (places_above after places)) ≡ next_content (kept places) after
  first_above after [] = refl
  first_above after (p ∷ ps) =
      ap (λ b. first_of (kept (cond b (p ∷ places_above after ps) (places_above after ps)))) (above_test after p.0)
      ∙ elim p.1 as (λ o. first_of (kept (cond (is_above after p.0) ((p.0, o) ∷ places_above after ps) (places_above after ps))) ≡ find (λ (x : CownId × C). is_above after x.0) (found p.0 o ++ kept ps)) [
        | None ↦ elim (is_above after p.0) as (λ b. first_of (kept (cond b ((p.0, None) ∷ places_above after ps) (places_above after ps))) ≡ next_content (kept ps) after) [ true ↦ first_above after ps | false ↦ first_above after ps ]
        | Some v ↦ elim (is_above after p.0) as (λ b. first_of (kept (cond b ((p.0, Some v) ∷ places_above after ps) (places_above after ps))) ≡ cond b (Some (p.0, v)) (next_content (kept ps) after)) [ true ↦ refl | false ↦ first_above after ps ]
      ]

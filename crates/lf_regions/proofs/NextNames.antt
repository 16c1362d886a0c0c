-- The next name, as a range of the index begins.
use Rattle.std.proofs.Common.{◌≡◌, ◌∙◌, List, [], ◌∷◌, Option, Some, None, ap, Bool, cond, refl, sym, true, false}
use Rattle.std.proofs.Math.Bool.{and-true}
use Rattle.std.specs.List.{find}
use Rattle.std.specs.Map.{keys_of}
use Rattle.std.specs.BTreeMap.Range.{entries_between, range_contains}
use Rattle.std.specs.declared.ops.Bound.TheVariants.{Unbounded}
use Rattle.slab.specs.Slab.{Slab}
use Rattle.lf_base.specs.declared.ids.ObjId.{ObjId}
use Rattle.lf_regions.specs.declared.region.Region.{Region}
use Rattle.lf_regions.specs.KeptRegions.{Entry, KeepsRegions, regions_at, start_above}
use Rattle.lf_regions.specs.NextName.{is_above, next_name}
use Rattle.lf_regions.proofs.NameCompare.{below_cmp, name_cmp}
use Rattle.lf_regions.proofs.KeptRegions.{names_kept}

-- the name of the first entry
abbrev pub first_entry_name : List Entry → Option ObjId
first_entry_name [] = None
first_entry_name (e ∷ es) = Some e.0

-- the entries whose names are above that one
abbrev pub entries_above : Option ObjId → List Entry → List Entry
entries_above after entries = entries_between name_cmp (start_above after) Unbounded entries

above_test : (after : Option ObjId) (q : ObjId) → range_contains name_cmp (start_above after) Unbounded q ≡ is_above after q
above_test None q = refl
above_test (Some a) q = and-true _ ∙ below_cmp a q

first_above : (after : Option ObjId) (entries : List Entry) → find (is_above after) (keys_of entries) ≡ first_entry_name (entries_above after entries)
first_above after [] = refl
first_above after (e ∷ es) =
    go (is_above after e.0) (first_above after es)
    ∙ ap (λ b. first_entry_name (cond b (e ∷ entries_above after es) (entries_above after es))) (sym (above_test after e.0))
  where
    go : (b : Bool) → find (is_above after) (keys_of es) ≡ first_entry_name (entries_above after es)
        → cond b (Some e.0) (find (is_above after) (keys_of es)) ≡ first_entry_name (cond b (e ∷ entries_above after es) (entries_above after es))
    go true later = refl
    go false later = later

-- the next name of the list that is kept
pub next_kept : (slab : Slab Region) (entries : List Entry) → KeepsRegions slab entries → (regions : List Region) → regions_at slab entries ≡ regions
    → (after : Option ObjId) (range : List Entry) → range ≡ entries_above after entries → first_entry_name range ≡ next_name regions after
next_kept slab entries keeps regions view after range is =
    ap first_entry_name is
    ∙ sym (first_above after entries)
    ∙ ap (find (is_above after)) (sym (names_kept slab entries keeps.named))
    ∙ ap (λ xs. next_name xs after) view

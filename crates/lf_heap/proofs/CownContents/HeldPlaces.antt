-- The place of a held cown's content among the others.
use Rattle.std.proofs.Common.{List, [], ap, arith, cond, false, get_or, length, refl, suc, sym, take, true, zero, ℕ, ◌<◌, ◌∙◌, ◌∷◌, ◌≡◌}
use Rattle.std.proofs.lemmas.Bool.{or_from, or_parts}
use Rattle.std.specs.List.{slice_set}
use Rattle.lf_base.specs.declared.ids.CownId.{CownId}
use Rattle.lf_base.specs.declared.values.Value.{Value}
use Rattle.lf_base.specs.ContentResult.{has_cown, put_content}
use Rattle.lf_base.specs.Names.{same_cown}
use Rattle.lf_base.proofs.NameLemmas.SameNames.{same_cown_is}

module _ (c : CownId) where
  -- nothing is put where the cown isn't held
  pub put_nowhere : (hs : List (CownId × Value)) → has_cown hs c ≡ false → (v : Value) → put_content hs c v ≡ hs
  put_nowhere [] none v = refl
  put_nowhere (h ∷ hs) none v =
      let parts = or_parts (same_cown h.0 c) (has_cown hs c) none in
      ap (λ b. cond b ((h.0, v) ∷ hs) (h ∷ put_content hs c v)) parts.0 ∙ ap (λ l. h ∷ l) (put_nowhere hs parts.1 v)

  -- a content is put where the cown stands that no one before it is
  pub put_there : (hs : List (CownId × Value)) (at : ℕ) (d : CownId × Value) → at < length hs → has_cown (take at hs) c ≡ false → same_cown (get_or hs at d).0 c ≡ true
      → (v : Value) → slice_set hs at (c, v) ≡ put_content hs c v
  put_there [] at d there none same v = absurd (omega (arith, there))
  put_there (h ∷ hs) zero d there none same v =
      ap (λ (n : CownId). (n, v) ∷ hs) (sym (same_cown_is h.0 c same)) ∙ sym (ap (λ b. cond b ((h.0, v) ∷ hs) (h ∷ put_content hs c v)) same)
  put_there (h ∷ hs) (suc at) d there none same v =
      let parts = or_parts (same_cown h.0 c) (has_cown (take at hs) c) none in
      ap (λ l. h ∷ l) (put_there hs at d (omega (arith, there)) parts.1 same v) ∙ sym (ap (λ b. cond b ((h.0, v) ∷ hs) (h ∷ put_content hs c v)) parts.0)

  -- one content more
  pub none_more : (hs : List (CownId × Value)) (at : ℕ) (d : CownId × Value) → at < length hs → has_cown (take at hs) c ≡ false → same_cown (get_or hs at d).0 c ≡ false
      → has_cown (take (suc at) hs) c ≡ false
  none_more [] at d there none other = absurd (omega (arith, there))
  none_more (h ∷ hs) zero d there none other = or_from (same_cown h.0 c) false other refl
  none_more (h ∷ hs) (suc at) d there none other =
      let parts = or_parts (same_cown h.0 c) (has_cown (take at hs) c) none in
      or_from (same_cown h.0 c) (has_cown (take (suc at) hs) c) parts.0 (none_more hs at d (omega (arith, there)) parts.1 other)

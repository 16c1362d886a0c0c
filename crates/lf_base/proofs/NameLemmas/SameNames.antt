-- Names, cowns and keys that a test finds the same are one.
use Rattle.std.proofs.Common.{ap, eqb, false, refl, sym, true, ◌∙◌, ◌≡◌}
use Rattle.std.proofs.lemmas.Bool.Decides.{Decides-and, Decides-eqb, Decides-like, Decides-int_eq}
use Rattle.std.specs.Bool.{Decides}
use Rattle.lf_base.specs.declared.ids.CownId.{CownId}
use Rattle.lf_base.specs.declared.ids.ObjId.{ObjId}
use Rattle.lf_base.specs.Names.{same_cown, same_key, same_name}
use Rattle.lf_base.specs.declared.values.Key.{Key}
use Rattle.lf_base.specs.declared.values.Key.TheVariants.{Int, Text}
use Rattle.std.proofs.lemmas.Bool.{both_ways, false_from_ne_true}

pub Decides-same_name : (a b : ObjId) → Decides (same_name a b) (a ≡ b)
Decides-same_name a b =
    Decides-like (same_name a b) (λ p. λ i. record { birth = p.0 i; seq = p.1 i }) (λ e. (ap (λ (x : ObjId). x.birth) e, ap (λ (x : ObjId). x.seq) e))
    (Decides-and (eqb a.birth b.birth) (eqb a.seq b.seq) (Decides-eqb a.birth b.birth) (Decides-eqb a.seq b.seq))

pub same_name_itself : (a : ObjId) → same_name a a ≡ true
same_name_itself a = (Decides-same_name a a).1 refl

pub same_name_is : (a b : ObjId) → same_name a b ≡ true → a ≡ b
same_name_is a b = (Decides-same_name a b).0

Decides-same_cown : (a b : CownId) → Decides (same_cown a b) (a ≡ b)
Decides-same_cown a b =
    Decides-like (same_cown a b) (λ p. λ i. record { birth = p.0 i; seq = p.1 i }) (λ e. (ap (λ (x : CownId). x.birth) e, ap (λ (x : CownId). x.seq) e))
    (Decides-and (eqb a.birth b.birth) (eqb a.seq b.seq) (Decides-eqb a.birth b.birth) (Decides-eqb a.seq b.seq))

pub same_cown_is : (a b : CownId) → same_cown a b ≡ true → a ≡ b
same_cown_is a b = (Decides-same_cown a b).0

pub one_cown : (a b : CownId) → a ≡ b → same_cown a b ≡ true
one_cown a b = (Decides-same_cown a b).1

pub same_key_is : (a b : Key) → same_key a b ≡ true → a ≡ b
same_key_is (Text a) (Text b) e = λ i. Text (record { index = (Decides-eqb a.index b.index).0 e i })
same_key_is (Text a) (Int y) e = cc
same_key_is (Int x) (Text b) e = cc
same_key_is (Int x) (Int y) e = ap Int ((Decides-int_eq x y).0 e)

pub same_key_itself : (a : Key) → same_key a a ≡ true
same_key_itself (Text a) = (Decides-eqb a.index a.index).1 refl
same_key_itself (Int x) = (Decides-int_eq x x).1 refl

pub other_key : (a b : Key) → same_key a b ≡ false → same_key b a ≡ false
other_key a b h = false_from_ne_true _ (λ e. both_ways _ h (ap (λ z. same_key a z) (same_key_is b a e) ∙ same_key_itself a))

pub other_way : (a b : ObjId) → same_name a b ≡ false → same_name b a ≡ false
other_way a b h = false_from_ne_true _ (λ e. both_ways _ h (ap (same_name a) (same_name_is b a e) ∙ same_name_itself a))

pub same_name_flips : (a b : ObjId) → same_name a b ≡ same_name b a
same_name_flips a b =
    elim (same_name a b) as (λ t. same_name a b ≡ t → t ≡ same_name b a) [
      | true ↦ λ e. sym (ap (same_name b) (same_name_is a b e) ∙ same_name_itself b)
      | false ↦ λ e. sym (other_way a b e)
    ] refl

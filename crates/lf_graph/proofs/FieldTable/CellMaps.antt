-- The map of cells, read and written by the comparison of names that is derived for it.
use Rattle.std.proofs.Common.{Bool, Option, Some, ap, cond, false, refl, subst, sym, true, ◌&&◌, ◌∙◌, ◌≡◌}
use Rattle.std.proofs.lemmas.Bool.Decides.{Decides-and, Decides-like}
use Rattle.std.specs.Bool.{Decides}
use Rattle.std.specs.Option.{IsSome, option_map}
use Rattle.std.specs.HashMap.{HashMap, WritesThrough}
use Rattle.std.specs.HashMap as hash
use Rattle.lf_base.specs.contracts.values.KeyPartialEq.TheImpl.{eq-value}
use Rattle.lf_base.specs.declared.ids.ObjId.{ObjId}
use Rattle.lf_base.specs.declared.links.Link.{Link}
use Rattle.lf_base.specs.declared.values.Key.{Key}
use Rattle.lf_base.specs.declared.values.Key.TheVariants.{Int, Text}
use Rattle.lf_base.specs.Names.{same_key, same_name}
use Rattle.lf_base.proofs.NameLemmas.SameNames.{Decides-same_name, same_key_is, same_key_itself}
use Rattle.lf_graph.specs.declared.cells.Cell.{Cell}
use Rattle.lf_graph.specs.declared.cells.FieldName.{FieldName}
use Rattle.lf_graph.specs.Cells.{OnlyCellAt, RelinksField, field_name, same_field, with_link}

pub Decides-same_key : (a b : Key) → Decides (same_key a b) (a ≡ b)
Decides-same_key a b = (same_key_is a b, λ e. ap (same_key a) (sym e) ∙ same_key_itself a)

pub Decides-same_field : (a b : FieldName) → Decides (same_field a b) (a ≡ b)
Decides-same_field a b =
    Decides-like (same_field a b) (λ p. λ i. record { row = p.0 i; key = p.1 i }) (λ e. (ap (λ (x : FieldName). x.row) e, ap (λ (x : FieldName). x.key) e))
    (Decides-and (same_name a.row b.row) (same_key a.key b.key) (Decides-same_name a.row b.row) (Decides-same_key a.key b.key))

keys_agree : (a b : Key) → eq-value.it a b ≡ same_key a b
keys_agree (Text a) (Text b) = refl
keys_agree (Text a) (Int b) = refl
keys_agree (Int a) (Text b) = refl
keys_agree (Int a) (Int b) = refl

pub names_agree : (a b : FieldName) → (same_name a.row b.row && eq-value.it a.key b.key) ≡ same_field a b
names_agree a b = ap (λ t. same_name a.row b.row && t) (keys_agree a.key b.key)

-- the cells of a map
abbrev pub held : {S : Type 0} → HashMap FieldName Cell S → ObjId → Key → Option Cell
held m o k = hash.get same_field m (field_name o k)

module _ {S : Type 0} (eq : FieldName → FieldName → Bool) (agrees : (a b : FieldName) → eq a b ≡ same_field a b) where
  pub cells_read : (m : HashMap FieldName Cell S) (o : ObjId) (k : Key) → hash.get eq m (field_name o k) ≡ held m o k
  cells_read m o k = λ i. hash.get (λ a b. agrees a b i) m (field_name o k)

  pub cells_kept : (m n : HashMap FieldName Cell S) → ((q : FieldName) → hash.get eq n q ≡ hash.get eq m q) → (o : ObjId) (k : Key) → held n o k ≡ held m o k
  cells_kept m n h o k = sym (cells_read n o k) ∙ h (field_name o k) ∙ cells_read m o k

  pub cells_updated : (m n : HashMap FieldName Cell S) (o : ObjId) (key : Key) (w : Option Cell) → ((q : FieldName) → hash.get eq n q ≡ cond (eq (field_name o key) q) w (hash.get eq m q))
      → OnlyCellAt (held m) (held n) o key (λ _. w)
  cells_updated m n o key w h q k = sym (cells_read n q k) ∙ h (field_name q k) ∙ (λ i. cond (agrees (field_name o key) (field_name q k) i) w (cells_read m q k i))

  -- one cell is written in its place
  pub cells_written : (m n : HashMap FieldName Cell S) (o : ObjId) (key : Key) (c w : Cell) (f : Option Cell → Option Cell) → Some c ≡ hash.get eq m (field_name o key) → f (Some c) ≡ Some w
      → WritesThrough eq (eq (field_name o key)) m w n → OnlyCellAt (held m) (held n) o key f
  cells_written m n o key c w f is new wrote q k =
      cells_updated m n o key (Some w) (wrote.3 (subst IsSome is refl)).0 q k
      ∙ elim (same_name o q && same_key key k) as (λ b. (same_name o q && same_key key k) ≡ b → cond b (Some w) (held m q k) ≡ cond b (f (held m q k)) (held m q k)) [
        | true ↦ λ t. sym new ∙ ap f (is ∙ cells_read m o key ∙ ap (hash.get same_field m) ((Decides-same_field (field_name o key) (field_name q k)).0 t))
        | false ↦ λ t. refl
      ] refl

  -- the link of one cell is written
  pub cells_relinked : (m n : HashMap FieldName Cell S) (o : ObjId) (at : Option Key) (key : Key) (c : Cell) (f : Link Key → Link Key) → at ≡ Some key → Some c ≡ hash.get eq m (field_name o key)
      → WritesThrough eq (eq (field_name o key)) m (with_link f c) n → RelinksField (held m) (held n) o at f
  cells_relinked m n o at key c f a is wrote =
      subst (λ t. RelinksField (held m) (held n) o t f) (sym a) (cells_written m n o key c (with_link f c) (option_map (with_link f)) is refl wrote)

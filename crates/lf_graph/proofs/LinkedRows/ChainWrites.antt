-- A row that is changed in its place: its link alone, or all but its link.
use Rattle.std.proofs.Common.{List, None, Option, Some, ap, cond, false, refl, sym, true, ◌∙◌, ◌≡◌}
use Rattle.std.specs.Option.{option_map}
use Rattle.lf_base.specs.declared.ids.ObjId.{ObjId}
use Rattle.lf_base.specs.declared.links.Link.{Link}
use Rattle.lf_base.specs.declared.values.Owner.{Owner}
use Rattle.lf_base.specs.Links.{relinked}
use Rattle.lf_base.specs.Names.{same_name}
use Rattle.lf_base.proofs.NameLemmas.SameNames.{same_name_is}
use Rattle.lf_graph.specs.declared.ends.Ends.{Ends}
use Rattle.lf_graph.specs.declared.stored_row.Linked.{Linked}
use Rattle.lf_graph.specs.declared.stored_row.StoredRow.{StoredRow}
use Rattle.lf_graph.specs.Chains.{AreChains, ChangesRowAt, ChangesStoredAt, HeadsAt, Relinks, link_at, linked_row_at, owner_of_head, relink_head, restore_head}
use Rattle.lf_graph.proofs.LinkedRows.ChainLemmas.{AreChains-kept}
use Rattle.lf_graph.proofs.ListLemmas.{cond_same}

-- what is found of each row where one is changed: a part of it that G changes
module _ (m n : HeadsAt) (o : ObjId) (f : Linked → Linked) (written : ChangesRowAt m n o f) where
  pub part_written : {X : Type 0} (g : Linked → X) (G : X → X) → ((h : Linked) → g (f h) ≡ G (g h))
      → (q : ObjId) → option_map g (n q) ≡ cond (same_name o q) (option_map G (option_map g (m q))) (option_map g (m q))
  part_written {X} g G e q = ap (option_map g) (written q) ∙ (elim (same_name o q) as (λ b. same_name o q ≡ b
      → option_map g (cond b (option_map f (m o)) (m q)) ≡ cond b (option_map G (option_map g (m q))) (option_map g (m q))) [
        | true ↦ λ t. each (m o) ∙ ap (λ x. option_map G (option_map g (m x))) (same_name_is o q t)
        | false ↦ λ _. refl
      ] refl) where
        each : (t : Option Linked) → option_map g (option_map f t) ≡ option_map G (option_map g t)
        each None = refl
        each (Some h) = ap Some (e h)

  -- a part that f keeps stays
  pub part_kept : {X : Type 0} (g : Linked → X) → ((h : Linked) → g (f h) ≡ g h) → (q : ObjId) → option_map g (n q) ≡ option_map g (m q)
  part_kept {X} g e q = part_written g (λ x. x) e q ∙ ap (λ t. cond (same_name o q) t (option_map g (m q))) (itself (option_map g (m q))) ∙ cond_same (same_name o q) (option_map g (m q)) where
    itself : (t : Option X) → option_map (λ x. x) t ≡ t
    itself None = refl
    itself (Some x) = refl

-- the link of one row alone changes
pub Relinks-written : (m n : HeadsAt) (at : Option ObjId) (o : ObjId) (f : Link ObjId → Link ObjId) → at ≡ Some o → ChangesRowAt m n o (relink_head f) → Relinks m n at f
Relinks-written m n at o f a w = record {
  links = λ q. part_written m n o (relink_head f) w (λ x. x.link) f (λ _. refl) q ∙ ap (λ t. relinked same_name (link_at m) t f q) (sym a);
  rows = part_kept m n o (relink_head f) w (λ x. x.row) (λ _. refl);
}

-- one row is changed, which keeps its neighbours and its owner
module _ (m n : HeadsAt) (e : Owner → Option Ends) (o : ObjId) (f : StoredRow → StoredRow) (w : ChangesRowAt m n o (restore_head f)) where
  pub chains_restored : ((r : StoredRow) → (f r).owner ≡ r.owner) → (L : Owner → List ObjId) → AreChains m e L → AreChains n e L
  chains_restored owned L = AreChains-kept m n e e L
      (part_kept m n o (restore_head f) w (λ x. x.link) (λ _. refl))
      (λ q. turned (n q) ∙ part_kept m n o (restore_head f) w (λ x. (x.row).owner) (λ h. owned h.row) q ∙ sym (turned (m q)))
      (λ _. refl) where
        turned : (t : Option Linked) → owner_of_head t ≡ option_map (λ x. (x.row).owner) t
        turned None = refl
        turned (Some h) = refl

  pub stored_restored : ChangesStoredAt m n o f
  stored_restored q = part_written m n o (restore_head f) w (λ x. x.row) f (λ _. refl) q ∙ (elim (same_name o q) as (λ b. same_name o q ≡ b
      → cond b (option_map f (linked_row_at m q)) (linked_row_at m q) ≡ cond b (option_map f (linked_row_at m o)) (linked_row_at m q)) [
        | true ↦ λ t. ap (λ x. option_map f (linked_row_at m x)) (sym (same_name_is o q t))
        | false ↦ λ _. refl
      ] refl)

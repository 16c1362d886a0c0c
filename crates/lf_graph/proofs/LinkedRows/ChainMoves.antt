-- A row that moves under another owner, and is never out of the table.
use Rattle.std.proofs.Common.{Bool, List, None, Option, Some, ap, cond, false, refl, sym, true, ◌∙◌, ◌≡◌}
use Rattle.std.specs.Option.{option_map}
use Rattle.lf_base.specs.declared.ids.ObjId.{ObjId}
use Rattle.lf_base.specs.declared.links.Link.{Link}
use Rattle.lf_base.specs.declared.values.Owner.{Owner}
use Rattle.lf_base.specs.Links.{link, relinked, to_next, to_prev}
use Rattle.lf_base.specs.Names.{same_name, same_owner}
use Rattle.lf_base.proofs.NameLemmas.SameNames.{same_name_itself}
use Rattle.lf_graph.specs.declared.ends.Ends.{Ends}
use Rattle.lf_graph.specs.declared.stored_row.Linked.{Linked}
use Rattle.lf_graph.specs.declared.stored_row.StoredRow.{StoredRow}
use Rattle.lf_graph.specs.Chains.{AreChains, ChangesRowAt, ChangesStoredAt, HeadsAt, Relinks, left_without, link_at, linked_row_at, owner_ends_with, owner_ends_without, list_pushed, reown, reown_head, row_of_head}
use Rattle.lf_graph.proofs.LinkedRows.ChainLemmas.{AreChains-pushed, AreChains-unlinked}

-- the rows without that one
abbrev gone : ObjId → HeadsAt → HeadsAt
gone o m q = cond (same_name o q) None (m q)

none_linked : (c : Bool) (f : Link ObjId → Link ObjId) → None ≡ cond c (option_map f None) None
none_linked true f = refl
none_linked false f = refl

-- what changes a link changes it among the others
gone_relinks : (o : ObjId) (m n : HeadsAt) (at : Option ObjId) (f : Link ObjId → Link ObjId) → Relinks m n at f → Relinks (gone o m) (gone o n) at f
gone_relinks o m n at f step = record { links = λ q. links at (λ q. step.links q) q; rows = rows } where
  links : (at : Option ObjId) → ((q : ObjId) → link_at n q ≡ relinked same_name (link_at m) at f q) → (q : ObjId) → link_at (gone o n) q ≡ relinked same_name (link_at (gone o m)) at f q
  links None h q = elim (same_name o q) as (λ b. option_map (λ (x : Linked). x.link) (cond b None (n q)) ≡ option_map (λ (x : Linked). x.link) (cond b None (m q))) [ true ↦ refl | false ↦ h q ]
  links (Some z) h q = elim (same_name o q) as (λ b. option_map (λ (x : Linked). x.link) (cond b None (n q))
      ≡ cond (same_name z q) (option_map f (option_map (λ (x : Linked). x.link) (cond b None (m q)))) (option_map (λ (x : Linked). x.link) (cond b None (m q)))) [
        | true ↦ none_linked (same_name z q) f
        | false ↦ h q
      ]

  rows : (q : ObjId) → linked_row_at (gone o n) q ≡ linked_row_at (gone o m) q
  rows q = elim (same_name o q) as (λ b. row_of_head (cond b None (n q)) ≡ row_of_head (cond b None (m q))) [ true ↦ refl | false ↦ step.rows q ]

-- out of its owner's list, and last under w
module _ (m m1 m2 m3 n : HeadsAt) (e e1 new : Owner → Option Ends) (o : ObjId) (h : Linked) (w : Owner) (last : Option ObjId)
    (is : m o ≡ Some h)
    (one : Relinks m m1 h.link.prev (to_next h.link.next))
    (two : Relinks m1 m2 h.link.next (to_prev h.link.prev))
    (cut : (v : Owner) → e1 v ≡ cond (same_owner (h.row).owner v) (owner_ends_without h.link.prev h.link.next (e (h.row).owner)) (e v))
    (last_is : last ≡ option_map (λ (t : Ends). t.last) (e1 w))
    (push : (v : Owner) → new v ≡ cond (same_owner w v) (owner_ends_with o (e1 w)) (e1 v))
    (three : Relinks m2 m3 last (to_next (Some o)))
    (put : ChangesRowAt m3 n o (reown_head w last)) where
  rows_stay : (q : ObjId) → linked_row_at m3 q ≡ linked_row_at m q
  rows_stay q = three.rows q ∙ two.rows q ∙ one.rows q

  abbrev moved_head : Linked
  moved_head = record { row = reown w h.row; link = link last None }

  head_is : (t : Option Linked) → row_of_head t ≡ Some h.row → option_map (reown_head w last) t ≡ Some moved_head
  head_is None e = cc
  head_is (Some x) e = let r : x.row ≡ h.row = cc in ap (λ (y : StoredRow). Some (record { row = reown w y; link = link last None })) r

  back : (q : ObjId) → n q ≡ cond (same_name o q) (Some moved_head) (gone o m3 q)
  back q = put q ∙ (elim (same_name o q) as (λ b. cond b (option_map (reown_head w last) (m3 o)) (m3 q) ≡ cond b (Some moved_head) (cond b None (m3 q))) [
    | true ↦ head_is (m3 o) (rows_stay o ∙ ap row_of_head is)
    | false ↦ refl
  ])

  pub AreChains-moved : (L : Owner → List ObjId) → AreChains m e L → AreChains n new (list_pushed (left_without L o) w o)
  AreChains-moved L old =
      AreChains-pushed (gone o m2) (gone o m3) n e1 new o w (reown w h.row) last (left_without L o) refl
      (ap (λ b. cond b None (m2 o)) (same_name_itself o)) last_is (gone_relinks o m2 m3 last (to_next (Some o)) three) back push
      (AreChains-unlinked m (gone o m) (gone o m1) (gone o m2) e e1 o h L is (λ q. refl)
      (gone_relinks o m m1 h.link.prev (to_next h.link.next) one) (gone_relinks o m1 m2 h.link.next (to_prev h.link.prev) two) cut old)

  pub stored_moved : ChangesStoredAt m n o (reown w)
  stored_moved q = ap row_of_head (back q) ∙ (elim (same_name o q) as (λ b. row_of_head (cond b (Some moved_head) (cond b None (m3 q))) ≡ cond b (option_map (reown w) (linked_row_at m o)) (linked_row_at m q)) [
    | true ↦ sym (ap (λ t. option_map (reown w) (row_of_head t)) is)
    | false ↦ rows_stay q
  ])

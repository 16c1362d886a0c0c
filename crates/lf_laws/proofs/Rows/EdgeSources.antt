-- Where an edge of a state begins: at a slot, a row, a content or a frozen row.
use Rattle.std.proofs.Common.{List, Option, ap, inl, inr, sym, true, ◌++◌, ◌||◌, ◌∙◌, ◌≡◌}
use Rattle.lf_base.specs.declared.ids.CownId.{CownId}
use Rattle.lf_base.specs.declared.values.Value.{Value}
use Rattle.lf_base.specs.Edges.{Content, Edge, Field, Slot, content_edges, edges, rows_edges, slot_edges}
use Rattle.lf_base.specs.Owners.{has_row}
use Rattle.lf_base.specs.PlainState.{Row, State}
use Rattle.lf_base.specs.Sets.{Member}
use Rattle.lf_laws.proofs.Rows.RowsByName.{mem_has}
use Rattle.std.proofs.lemmas.Bool.{or_left}
use Rattle.lf_laws.proofs.Rows.RowEdges.{edge_row}
use Rattle.lf_base.proofs.ListLemmas.Members.{Member_of_flat_map, Member_of_map, Member_left, Member_of_append, Member_right}
use Rattle.std.proofs.Math.Bool.{or-true}

-- where an edge comes from
pub data EdgeBegins (s : State) (e : Edge) : Type 0 where
  at_slot : e.from ≡ Slot → Member e (slot_edges s.slots) → EdgeBegins s e
  at_row : (x : Row) → Member x s.rows → e.from ≡ Field x.name → Member e (rows_edges s.rows) → EdgeBegins s e
  at_content : (c : CownId) → e.from ≡ Content c → Member e (content_edges s.held ++ content_edges s.made) → EdgeBegins s e
  at_frozen : (x : Row) → (has_row s.given x.name || has_row s.own x.name) ≡ true → e.from ≡ Field x.name → EdgeBegins s e

pub content_begins : (cs : List (CownId × Value)) (e : Edge) → Member e (content_edges cs) → (c : CownId) × (e.from ≡ Content c)
content_begins cs e m = let t = Member_of_flat_map _ e cs m in let o = Member_of_map _ e _ t.1.1 in ((t.0).0, ap (λ (d : Edge). d.from) (sym o.1.1))

pub slot_begins : (slots : List (Option Value)) (e : Edge) → Member e (slot_edges slots) → e.from ≡ Slot
slot_begins slots e m = let t = Member_of_flat_map _ e slots m in let o = Member_of_map _ e _ t.1.1 in ap (λ (d : Edge). d.from) (sym o.1.1)

pub edge_begins : (s : State) (e : Edge) → Member e (edges s) → EdgeBegins s e
edge_begins s e m =
    elim (Member_of_append e (slot_edges s.slots) _ m) [
      | inl k ↦ at_slot (slot_begins s.slots e k) k
      | inr k ↦ elim (Member_of_append e (rows_edges s.rows) _ k) [
        | inl n ↦ let x = edge_row s.rows e n in at_row x.row x.mem x.from n
        | inr n ↦ elim (Member_of_append e (content_edges s.held) _ n) [
          | inl q ↦ let c = content_begins s.held e q in at_content c.0 c.1 (Member_left e (content_edges s.held) _ q)
          | inr q ↦ elim (Member_of_append e (content_edges s.made) _ q) [
            | inl z ↦ let c = content_begins s.made e z in at_content c.0 c.1 (Member_right e (content_edges s.held) _ z)
            | inr z ↦ elim (Member_of_append e (rows_edges s.given) (rows_edges s.own) z) [
              | inl y ↦ let x = edge_row s.given e y in at_frozen x.row (or_left _ _ (mem_has x.row s.given x.mem)) x.from
              | inr y ↦ let x = edge_row s.own e y in at_frozen x.row (ap (λ b. has_row s.given (x.row).name || b) (mem_has x.row s.own x.mem) ∙ or-true _) x.from
            ]
          ]
        ]
      ]
    ]

-- The rows that stay: what justifies them, and that more rows justify no less.
use Rattle.std.proofs.Common.{List, Some, ap₂, cond, false, inl, inr, length, subst, sym, true, ◌++◌, ◌||◌, ◌∙◌, ◌≡◌, ◌&&◌}
use Rattle.lf_base.specs.declared.ids.ObjId.{ObjId}
use Rattle.lf_base.specs.declared.values.Owner.{Owner}
use Rattle.lf_base.specs.declared.values.Owner.TheVariants.{Frozen, In, Local}
use Rattle.lf_base.specs.Edges.{row_edges, rows_edges, slot_edges, content_edges}
use Rattle.lf_base.specs.Kept.{kept_rows, stays, stays_by_owner, is_owned_by, points, points_into}
use Rattle.lf_base.specs.Names.{same_name}
use Rattle.lf_base.specs.Owners.{has_row, owner_in}
use Rattle.lf_base.specs.PlainState.{Row, State}
use Rattle.lf_base.specs.Sets.{Member}
use Rattle.lf_laws.proofs.Rows.RowsByName.{Distinct, row_there, owner_is, owner_mem}
use Rattle.lf_base.proofs.ListLemmas.Sublists.{sub_shrink, sub_within}
use Rattle.lf_base.proofs.ListLemmas.Tests.{or_map, and_both}
use Rattle.lf_base.proofs.ListLemmas.Members.{Member_left, Member_of_append, Member_right, Within, Within_append, Within_flat_map, any_more}
use Rattle.lf_base.proofs.ListLemmas.GreatestSets.{Meets, Monotone, greatest_has, greatest_meets}

-- the rows that stay are rows
pub kept_in : (s : State) → Within (kept_rows s) s.rows
kept_in s = sub_within (sub_shrink (stays s) (length s.rows) s.rows)

-- the rows that stay meet the conditions
pub kept_meets : (s : State) → Meets (stays s) (kept_rows s)
kept_meets s = greatest_meets (stays s) s.rows

-- what stays is justified by all
pub kept_stays : (s : State) → Distinct s.rows → (o : ObjId) (w : Owner) → owner_in s.rows o ≡ Some w → has_row (kept_rows s) o ≡ true → stays_by_owner s (kept_rows s) o w ≡ true
kept_stays s d o w e h =
    let t = row_there (kept_rows s) o h in
    let k : owner_in s.rows o ≡ Some ((t.0).owner) = subst (λ n. owner_in s.rows n ≡ Some ((t.0).owner)) t.1.1 (owner_mem s.rows d t.0 (kept_in s t.0 t.1.0)) in
    ap₂ (stays_by_owner s (kept_rows s)) (sym t.1.1) (owner_is s.rows o w ((t.0).owner) e k) ∙ kept_meets s t.0 t.1.0

more_edges : (s : State) (xs ys : List Row) → Within xs ys → Within (slot_edges s.slots ++ rows_edges xs) (slot_edges s.slots ++ rows_edges ys)
more_edges s xs ys w = Within_append (slot_edges s.slots) (slot_edges s.slots) (rows_edges xs) (rows_edges ys) (λ x h. h) (Within_flat_map row_edges xs ys w)

pub by_owner : (s : State) (xs ys : List Row) (o : ObjId) (w : Owner) → Within xs ys → stays_by_owner s xs o w ≡ true → stays_by_owner s ys o w ≡ true
by_owner s xs ys o Local w = any_more _ (slot_edges s.slots ++ rows_edges xs) (slot_edges s.slots ++ rows_edges ys) (more_edges s xs ys w)
by_owner s xs ys o Frozen w = λ e. e
by_owner s xs ys o (In r) w =
    elim (same_name r o) as (λ b. cond b (is_owned_by xs s r || points_into xs s r) (has_row xs r && points xs s o) ≡ true → cond b (is_owned_by ys s r || points_into ys s r) (has_row ys r && points ys s o) ≡ true) [
      | true ↦ or_map _ _ _ _
          (any_more _ (rows_edges xs ++ (content_edges s.held ++ content_edges s.made)) (rows_edges ys ++ (content_edges s.held ++ content_edges s.made))
          (Within_append (rows_edges xs) (rows_edges ys) (content_edges s.held ++ content_edges s.made) (content_edges s.held ++ content_edges s.made) (Within_flat_map row_edges xs ys w) (λ x h. h)))
          (any_more _ (slot_edges s.slots ++ rows_edges xs) (slot_edges s.slots ++ rows_edges ys) (more_edges s xs ys w))
      | false ↦ and_both _ _ _ _
          (any_more _ xs ys w)
          (any_more _ (slot_edges s.slots ++ rows_edges xs) (slot_edges s.slots ++ rows_edges ys) (more_edges s xs ys w))
    ]

pub stays_more : (s : State) → Monotone (stays s)
stays_more s xs ys row w e = by_owner s xs ys row.name row.owner w e

-- each set of rows that meets them stays
pub kept_has : (s : State) (rows : List Row) → Meets (stays s) rows → Within rows s.rows → Within rows (kept_rows s)
kept_has s rows m w = greatest_has (stays s) (stays_more s) s.rows rows m w

-- a set that justifies its own members, by name
pub joined_has : (s : State) (rows : List Row) → ((x : Row) → Member x rows → Member x s.rows × (stays_by_owner s (kept_rows s ++ rows) x.name x.owner ≡ true)) → Within rows (kept_rows s)
joined_has s rows h x m =
    kept_has s (kept_rows s ++ rows)
    (λ y k. elim (Member_of_append y (kept_rows s) rows k) [
      | inl a ↦ stays_more s (kept_rows s) (kept_rows s ++ rows) y (λ z n. Member_left z (kept_rows s) rows n) (kept_meets s y a)
      | inr a ↦ (h y a).1
    ])
    (λ y k. elim (Member_of_append y (kept_rows s) rows k) [ inl a ↦ kept_in s y a | inr a ↦ (h y a).0 ])
    x (Member_right x (kept_rows s) rows m)

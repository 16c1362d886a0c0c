-- Local rows in a close: they are there, one after the other, and all of them are shut at last.
use Rattle.std.proofs.Common.{Bool, List, None, Option, Some, [], ap, arith, cond, false, inl, inr, length, refl, subst, sym, true, ℕ, ◌++◌, ◌<◌, ◌∙◌, ◌∷◌, ◌≡◌}
use Rattle.std.proofs.lemmas.List.{append-nil, append_assoc}
use Rattle.lf_base.specs.declared.ids.ObjId.{ObjId}
use Rattle.lf_base.specs.declared.values.Owner.TheVariants.{Local}
use Rattle.lf_base.specs.declared.values.Value.{Value}
use Rattle.lf_base.specs.declared.values.Value.TheVariants as value
use Rattle.lf_base.specs.CloseResult.{leads_into}
use Rattle.lf_base.specs.Names.{same_name, same_owner}
use Rattle.lf_base.specs.Owners.{names, owner_in}
use Rattle.lf_base.specs.PlainState.{Row, State}
use Rattle.lf_base.specs.Sets.{Differ, Member}
use Rattle.lf_base.proofs.ListLemmas.Filters.{Member_filter, Member_of_filter}
use Rattle.lf_base.proofs.ListLemmas.Members.{Member_map, Member_of_append, Member_right}
use Rattle.lf_base.proofs.ListLemmas.Tests.{by_test, none_any}
use Rattle.lf_base.proofs.NameLemmas.SameNames.{same_name_flips, same_name_is, same_name_itself}
use Rattle.lf_barrier.proofs.Descents.OwnedRegions.{named_here}
use Rattle.lf_domain.proofs.StoreEdges.{owned_has_row}
use Rattle.lf_graph.specs.RowOrder.{names_under}
use Rattle.lf_graph.specs.StoredRows.{CountedRow, HasRow, NamesDiffer, fields_at, first_name, is_under, name_after, owner_at, owner_by, plain, row_named, rows_beside, rows_of}
use Rattle.lf_graph.proofs.Stores.Reordered.{same_owner_is}
use Rattle.lf_graph.proofs.Stores.Walks.{differ_filter, next_in_walk}
use Rattle.lf_regions.specs.declared.region.Region.{Region}
use Rattle.lf_transfer.specs.Closing.{AreFieldsShut, Closing}
use Rattle.lf_transfer.specs.LooseNames.{LooseNames}
use Rattle.lf_transfer.proofs.Closings.ClosedSteps.{stored_owner}
use Rattle.lf_transfer.proofs.Taken.TakenRows.{name_found, row_found_member}

pub none_into : (s : State) (r : ObjId) → leads_into s r value.None ≡ false
none_into s r = refl

pub local_there : (s : State) (at : ℕ) (r : ObjId) (within : List ObjId) (before : LooseNames) (rows : List CountedRow) (regions : List Region) (slots : List (Option Value)) (names : LooseNames)
    → Closing s at r within before rows regions slots names → (p : ObjId) → owner_in s.rows p ≡ Some Local → HasRow rows p
local_there s at r within before rows regions slots names c p local =
    owned_has_row rows p Local (stored_owner s at r within before rows regions slots names c p ∙ local)

-- ---- a list whose names are parted at one of them
pub record PartedAt (rows : List CountedRow) (done : List ObjId) (p : ObjId) (todo : List ObjId) : Type 0 where
  pub before : List CountedRow
  pub row : CountedRow
  pub after : List CountedRow
  pub split : rows ≡ before ++ row ∷ after
  pub name : (row.row).name ≡ p
  pub later : names (plain after) ≡ todo

parted_at : (rows : List CountedRow) (done : List ObjId) (p : ObjId) (todo : List ObjId) → names (plain rows) ≡ done ++ p ∷ todo → PartedAt rows done p todo
parted_at [] [] p todo e = absurd (cc)
parted_at [] (d ∷ ds) p todo e = absurd (cc)
parted_at (c ∷ cs) [] p todo e = record { before = []; row = c; after = cs; split = refl; name = (let z : (c.row).name ≡ p = cc in z); later = (let z : names (plain cs) ≡ todo = cc in z) }
parted_at (c ∷ cs) (d ∷ ds) p todo e =
    let rest : names (plain cs) ≡ ds ++ p ∷ todo = cc in
    let t = parted_at cs ds p todo rest in
    record { before = c ∷ t.before; row = t.row; after = t.after; split = ap (λ l. c ∷ l) t.split; name = t.name; later = t.later }

-- ---- the walk over the names of local rows
abbrev pub first_listed : List ObjId → Option ObjId
first_listed [] = None
first_listed (o ∷ os) = Some o

-- the names from that one on, where it is among them
abbrev pub names_from : Option ObjId → List ObjId → List ObjId
names_from None os = []
names_from (Some o) [] = []
names_from (Some o) (p ∷ ps) = cond (same_name p o) (p ∷ ps) (names_from (Some o) ps)

pub first_names : (rows : List CountedRow) → first_name rows ≡ first_listed (names (plain rows))
first_names [] = refl
first_names (c ∷ cs) = refl

from_first : (done todo : List ObjId) → Differ same_name (done ++ todo) → names_from (first_listed todo) (done ++ todo) ≡ todo
from_first [] [] d = refl
from_first (x ∷ done) [] d = refl
from_first [] (p ∷ ps) d = ap (λ b. cond b (p ∷ ps) (names_from (Some p) ps)) (same_name_itself p)
from_first (x ∷ done) (p ∷ ps) d =
    let other : same_name x p ≡ false = same_name_flips x p ∙ none_any (λ n. same_name n x) (done ++ p ∷ ps) d.0 p (Member_right p done (p ∷ ps) (inl refl)) in
    ap (λ b. cond b (x ∷ (done ++ p ∷ ps)) (names_from (Some p) (done ++ p ∷ ps))) other ∙ from_first done (p ∷ ps) d.1

-- the names that are done and those that are left, of which the next one is the first
pub record LocalWalk (all : List ObjId) (next : Option ObjId) : Type 0 where
  pub done : List ObjId
  pub todo : List ObjId
  pub split : all ≡ done ++ todo
  pub at : next ≡ first_listed todo

abbrev pub local_begins : (rows : List CountedRow) (next : Option ObjId) → next ≡ first_name (rows_of Local rows) → LocalWalk (names_under Local rows) next
local_begins rows next e = record { done = []; todo = names_under Local rows; split = refl; at = e ∙ first_names (rows_of Local rows) }

pub local_over : (all : List ObjId) (next : Option ObjId) (w : LocalWalk all next) → next ≡ None → all ≡ w.done
local_over all next w none = go w.todo w.split (sym none ∙ w.at) where
  go : (todo : List ObjId) → all ≡ w.done ++ todo → None ≡ first_listed todo → all ≡ w.done
  go [] split e = split ∙ append-nil w.done
  go (p ∷ ps) split e = absurd (cc)

-- ---- at one of them
module _ (all : List ObjId) (next : Option ObjId) (w : LocalWalk all next) (p : ObjId) (is : next ≡ Some p) where
  pub this_one : (later : List ObjId) × (w.todo ≡ p ∷ later)
  this_one = go w.todo refl (sym is ∙ w.at) where
    go : (todo : List ObjId) → w.todo ≡ todo → Some p ≡ first_listed todo → (later : List ObjId) × (w.todo ≡ p ∷ later)
    go [] e f = absurd (cc)
    go (q ∷ qs) e f = let same : q ≡ p = cc in (qs, e ∙ ap (λ n. n ∷ qs) same)

  pub split_here : all ≡ w.done ++ p ∷ this_one.0
  split_here = w.split ∙ ap (λ l. w.done ++ l) this_one.1

  module _ (rows : List CountedRow) (differ : NamesDiffer rows) (same : names_under Local rows ≡ all) where
    pub parted : PartedAt (rows_of Local rows) w.done p this_one.0
    parted = parted_at (rows_of Local rows) w.done p this_one.0 (same ∙ split_here)

    inside : Member (parted.row) (rows_of Local rows)
    inside = subst (Member parted.row) (sym parted.split) (Member_right parted.row parted.before (parted.row ∷ parted.after) (inl refl))

    pub local_here : owner_at rows p ≡ Some Local
    local_here =
        ap (owner_at rows) (sym parted.name)
        ∙ ap owner_by (named_here rows parted.row differ (Member_of_filter (is_under Local) parted.row rows inside).0)
        ∙ ap (λ x. Some x) (same_owner_is ((parted.row).row).owner Local (Member_of_filter (is_under Local) parted.row rows inside).1)

    module _ (after : Option ObjId) (after_is : after ≡ name_after (rows_beside rows p) p) where
      abbrev pub local_goes_on : LocalWalk all after
      local_goes_on = record {
        done = w.done ++ p ∷ [];
        todo = this_one.0;
        split = split_here ∙ sym (append_assoc w.done (p ∷ []) this_one.0);
        at = after_is ∙ ap (λ q. name_after (rows_beside rows q) q) (sym parted.name)
            ∙ next_in_walk rows parted.before parted.after Local parted.row differ parted.split
            ∙ first_names parted.after ∙ ap first_listed parted.later;
      }

      pub fewer_locals : Differ same_name all → length (names_from after all) < length (names_from next all)
      fewer_locals apart =
          let now : names_from next all ≡ w.todo = (λ i. names_from (w.at i) (w.split i)) ∙ from_first w.done w.todo (subst (Differ same_name) w.split apart) in
          let then : names_from after all ≡ this_one.0 = (λ i. names_from (local_goes_on.at i) (local_goes_on.split i)) ∙ from_first (w.done ++ p ∷ []) this_one.0 (subst (Differ same_name) local_goes_on.split apart) in
          omega (arith, ap length now, ap length then, ap length this_one.1)

-- each local row is among them
pub local_listed : (rows : List CountedRow) (p : ObjId) → owner_at rows p ≡ Some Local → Member p (names_under Local rows)
local_listed rows p e = go (row_named rows p) refl e where
  go : (t : Option CountedRow) → row_named rows p ≡ t → owner_by t ≡ Some Local → Member p (names_under Local rows)
  go None n o = absurd (cc)
  go (Some c) n o =
      let is : (c.row).owner ≡ Local = cc in
      let here : Member c (rows_of Local rows) = Member_filter (is_under Local) c rows (row_found_member rows p c n) (ap (λ x. same_owner x Local) is) in
      subst (λ q. Member q (names_under Local rows)) (name_found rows p c n)
      (Member_map (λ (x : Row). x.name) c.row (plain (rows_of Local rows)) (Member_map (λ (x : CountedRow). x.row) c (rows_of Local rows) here))

pub locals_differ : (rows : List CountedRow) → NamesDiffer rows → Differ same_name (names_under Local rows)
locals_differ rows differ = differ_filter (is_under Local) rows differ

-- those that were shut are so still, and this one is
pub done_shut : (leads : Value → Bool) (rows next : List CountedRow) (done : List ObjId) (p : ObjId) → ((q : ObjId) → Member q done → AreFieldsShut leads (fields_at rows q))
    → AreFieldsShut leads (fields_at next p) → ((q : ObjId) → same_name q p ≡ false → fields_at next q ≡ fields_at rows q)
    → (q : ObjId) → Member q (done ++ p ∷ []) → AreFieldsShut leads (fields_at next q)
done_shut leads rows next done p so_far here others q m = by_test (same_name q p)
    (λ e. subst (λ o. AreFieldsShut leads (fields_at next o)) (sym (same_name_is q p e)) here)
    (λ e. subst (AreFieldsShut leads) (sym (others q e)) (so_far q (elim (Member_of_append q done (p ∷ []) m) [
      | inl h ↦ h
      | inr (inl is) ↦ absurd (let z : true ≡ false = sym (ap (λ o. same_name q o) is ∙ same_name_itself q) ∙ e in cc)
      | inr (inr n) ↦ absurd n
    ])))

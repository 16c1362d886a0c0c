-- What a change of the rows makes of each owner's rows, of names and of what is found.
use Rattle.std.proofs.Common.{Bool, List, None, Option, Some, [], ap, cond, false, map, not, refl, subst, sym, true, ◌++◌, ◌∙◌, ◌∷◌, ◌≡◌}
use Rattle.std.specs.List.{filter}
use Rattle.std.specs.Option.{option_map, option_or}
use Rattle.lf_base.specs.declared.ids.ObjId.{ObjId}
use Rattle.lf_base.specs.declared.values.Owner.{Owner}
use Rattle.lf_base.specs.Names.{same_name, same_owner}
use Rattle.lf_base.proofs.NameLemmas.SameNames.{same_name_flips, same_name_is, same_name_itself}
use Rattle.lf_graph.specs.RowChanges.{changed, moved_last, moved_under, new_row, with_new_row, with_owner, without_row}
use Rattle.lf_graph.specs.StoredRows.{CountedRow, IsNewName, SameByOwner, is_named, is_under, row_named, rows_of}
use Rattle.lf_graph.proofs.Stores.Reordered.{rows_append}
use Rattle.lf_graph.proofs.ListLemmas.{cond_same, filter_turns}

-- ---- each owner's rows
-- a change that leaves owners as they are
abbrev pub KeepsOwner : (CountedRow → CountedRow) → Type 0
KeepsOwner f = (c : CountedRow) → ((f c).row).owner ≡ (c.row).owner

-- a change that leaves names as they are
abbrev pub KeepsName : (CountedRow → CountedRow) → Type 0
KeepsName f = (c : CountedRow) → ((f c).row).name ≡ (c.row).name

pub rows_of_map : (w : Owner) (f : CountedRow → CountedRow) → KeepsOwner f → (xs : List CountedRow) → rows_of w (map f xs) ≡ map f (rows_of w xs)
rows_of_map w f keeps [] = refl
rows_of_map w f keeps (x ∷ xs) =
    ap (λ v. cond (same_owner v w) (f x ∷ rows_of w (map f xs)) (rows_of w (map f xs))) (keeps x)
    ∙ (elim (is_under w x) as (λ b. cond b (f x ∷ rows_of w (map f xs)) (rows_of w (map f xs)) ≡ map f (cond b (x ∷ rows_of w xs) (rows_of w xs))) [
      | true ↦ ap (λ l. f x ∷ l) (rows_of_map w f keeps xs)
      | false ↦ rows_of_map w f keeps xs
    ])

module _ (xs ys : List CountedRow) (same : SameByOwner xs ys) where
  pub same_map : (f : CountedRow → CountedRow) → KeepsOwner f → SameByOwner (map f xs) (map f ys)
  same_map f keeps w = rows_of_map w f keeps xs ∙ ap (map f) (same w) ∙ sym (rows_of_map w f keeps ys)

  pub same_filter : (p : CountedRow → Bool) → SameByOwner (filter p xs) (filter p ys)
  same_filter p w = filter_turns (is_under w) p xs ∙ ap (filter p) (same w) ∙ sym (filter_turns (is_under w) p ys)

  pub same_append : (us : List CountedRow) → SameByOwner (xs ++ us) (ys ++ us)
  same_append us w = rows_append w xs us ∙ ap (λ l. l ++ rows_of w us) (same w) ∙ sym (rows_append w ys us)

pub same_moved : (xs ys : List CountedRow) (o : ObjId) (w : Owner) → SameByOwner xs ys → row_named xs o ≡ row_named ys o → SameByOwner (moved_last xs o w) (moved_last ys o w)
same_moved xs ys o w same found v =
    same_append (without_row xs o) (without_row ys o) (same_filter xs ys same (λ c. not (is_named o c))) (moved_under w (row_named xs o)) v
    ∙ ap (λ t. rows_of v (without_row ys o ++ moved_under w t)) found

-- one row changed among others keeps what each change keeps
pub at_keeps_owner : (o : ObjId) (f : CountedRow → CountedRow) → KeepsOwner f → KeepsOwner (λ c. cond (is_named o c) (f c) c)
at_keeps_owner o f keeps c = elim (is_named o c) as (λ b. ((cond b (f c) c).row).owner ≡ (c.row).owner) [ true ↦ keeps c | false ↦ refl ]

pub at_keeps_name : (o : ObjId) (f : CountedRow → CountedRow) → KeepsName f → KeepsName (λ c. cond (is_named o c) (f c) c)
at_keeps_name o f keeps c = elim (is_named o c) as (λ b. ((cond b (f c) c).row).name ≡ (c.row).name) [ true ↦ keeps c | false ↦ refl ]

-- ---- what is found
pub found_changed : (o : ObjId) (f : CountedRow → CountedRow) → KeepsName f → (rows : List CountedRow) (q : ObjId)
    → row_named (changed rows o f) q ≡ cond (same_name q o) (option_map f (row_named rows q)) (row_named rows q)
found_changed o f keeps [] q = sym (cond_same (same_name q o) None)
found_changed o f keeps (c ∷ cs) q =
    ap (λ n. cond (same_name n q) (Some (cond (is_named o c) (f c) c)) (row_named (changed cs o f) q)) (at_keeps_name o f keeps c)
    ∙ (elim (is_named q c) as (λ b. is_named q c ≡ b → cond b (Some (cond (is_named o c) (f c) c)) (row_named (changed cs o f) q) ≡ cond (same_name q o) (option_map f (cond b (Some c) (row_named cs q))) (cond b (Some c) (row_named cs q))) [
      | true ↦ λ e. ap (λ n. Some (cond (same_name n o) (f c) c)) (same_name_is (c.row).name q e)
          ∙ (elim (same_name q o) as (λ b. Some (cond b (f c) c) ≡ cond b (Some (f c)) (Some c)) [ true ↦ refl | false ↦ refl ])
      | false ↦ λ e. found_changed o f keeps cs q
    ] refl)

pub found_append : (xs ys : List CountedRow) (q : ObjId) → row_named (xs ++ ys) q ≡ option_or (row_named xs q) (row_named ys q)
found_append [] ys q = refl
found_append (x ∷ xs) ys q =
    elim (is_named q x) as (λ b. cond b (Some x) (row_named (xs ++ ys) q) ≡ option_or (cond b (Some x) (row_named xs q)) (row_named ys q)) [
      | true ↦ refl
      | false ↦ found_append xs ys q
    ]

pub found_with_row : (rows : List CountedRow) (o : ObjId) (w : Owner) → IsNewName rows o → (q : ObjId)
    → row_named (with_new_row rows o w) q ≡ cond (same_name q o) (Some (new_row o w)) (row_named rows q)
found_with_row rows o w new q =
    found_append rows (new_row o w ∷ []) q
    ∙ (elim (same_name q o) as (λ b. same_name q o ≡ b → option_or (row_named rows q) (cond (same_name o q) (Some (new_row o w)) None) ≡ cond b (Some (new_row o w)) (row_named rows q)) [
      | true ↦ λ e. ap (λ t. option_or t (cond (same_name o q) (Some (new_row o w)) None)) (ap (row_named rows) (same_name_is q o e) ∙ new)
          ∙ ap (λ b. cond b (Some (new_row o w)) None) (same_name_flips o q ∙ e)
      | false ↦ λ e. ap (λ b. option_or (row_named rows q) (cond b (Some (new_row o w)) None)) (same_name_flips o q ∙ e)
          ∙ (elim (row_named rows q) as (λ t. option_or t None ≡ t) [ None ↦ refl | Some c ↦ refl ])
    ] refl)

pub found_without_row : (rows : List CountedRow) (o q : ObjId) → row_named (without_row rows o) q ≡ cond (same_name q o) None (row_named rows q)
found_without_row [] o q = sym (cond_same (same_name q o) None)
found_without_row (c ∷ cs) o q =
    elim (is_named o c) as (λ b. is_named o c ≡ b → row_named (cond (not b) (c ∷ without_row cs o) (without_row cs o)) q ≡ cond (same_name q o) None (cond (is_named q c) (Some c) (row_named cs q))) [
      | true ↦ λ e. found_without_row cs o q
          ∙ (elim (is_named q c) as (λ b. is_named q c ≡ b → cond (same_name q o) None (row_named cs q) ≡ cond (same_name q o) None (cond b (Some c) (row_named cs q))) [
            | true ↦ λ k. let here : same_name q o ≡ true = ap (λ n. same_name n o) (sym (same_name_is (c.row).name q k)) ∙ e in
                ap (λ b. cond b None (row_named cs q)) here ∙ sym (ap (λ b. cond b None (Some c)) here)
            | false ↦ λ k. refl
          ] refl)
      | false ↦ λ e.
          elim (is_named q c) as (λ b. is_named q c ≡ b → cond b (Some c) (row_named (without_row cs o) q) ≡ cond (same_name q o) None (cond b (Some c) (row_named cs q))) [
            | true ↦ λ k. let there : same_name q o ≡ false = ap (λ n. same_name n o) (sym (same_name_is (c.row).name q k)) ∙ e in
                sym (ap (λ b. cond b None (Some c)) there)
            | false ↦ λ k. found_without_row cs o q
          ] refl
    ] refl

name_found : (rows : List CountedRow) (o : ObjId) (c : CountedRow) → row_named rows o ≡ Some c → (c.row).name ≡ o
name_found [] o c e = cc
name_found (x ∷ xs) o c e =
    elim (is_named o x) as (λ b. is_named o x ≡ b → cond b (Some x) (row_named xs o) ≡ Some c → (c.row).name ≡ o) [
      | true ↦ λ k h. let same : x ≡ c = cc in ap (λ (z : CountedRow). (z.row).name) (sym same) ∙ same_name_is (x.row).name o k
      | false ↦ λ k h. name_found xs o c h
    ] refl e

under_found : (o : ObjId) (w : Owner) (t : Option CountedRow) → ((c : CountedRow) → t ≡ Some c → (c.row).name ≡ o) → (q : ObjId) → same_name q o ≡ false → row_named (moved_under w t) q ≡ None
under_found o w None named q e = refl
under_found o w (Some c) named q e =
    ap (λ n. cond (same_name n q) (Some (with_owner w c)) None) (named c refl) ∙ ap (λ b. cond b (Some (with_owner w c)) None) (same_name_flips o q ∙ e)

under_itself : (o : ObjId) (w : Owner) (t : Option CountedRow) → ((c : CountedRow) → t ≡ Some c → (c.row).name ≡ o) → row_named (moved_under w t) o ≡ option_map (with_owner w) t
under_itself o w None named = refl
under_itself o w (Some c) named = ap (λ b. cond b (Some (with_owner w c)) None) (ap (λ n. same_name n o) (named c refl) ∙ same_name_itself o)

pub found_moved_last : (rows : List CountedRow) (o : ObjId) (w : Owner) (q : ObjId)
    → row_named (moved_last rows o w) q ≡ cond (same_name q o) (option_map (with_owner w) (row_named rows q)) (row_named rows q)
found_moved_last rows o w q =
    found_append (without_row rows o) (moved_under w (row_named rows o)) q
    ∙ ap (λ t. option_or t (row_named (moved_under w (row_named rows o)) q)) (found_without_row rows o q)
    ∙ (elim (same_name q o) as (λ b. same_name q o ≡ b → option_or (cond b None (row_named rows q)) (row_named (moved_under w (row_named rows o)) q) ≡ cond b (option_map (with_owner w) (row_named rows q)) (row_named rows q)) [
      | true ↦ λ e. let one : o ≡ q = sym (same_name_is q o e) in
          subst (λ n. row_named (moved_under w (row_named rows o)) n ≡ option_map (with_owner w) (row_named rows n)) one (under_itself o w (row_named rows o) (name_found rows o))
      | false ↦ λ e. ap (option_or (row_named rows q)) (under_found o w (row_named rows o) (name_found rows o) q e)
          ∙ (elim (row_named rows q) as (λ t. option_or t None ≡ t) [ None ↦ refl | Some c ↦ refl ])
    ] refl)

-- The lists of all owners after a row comes or goes.
use Rattle.std.proofs.Common.{◌≡◌, true, false, cond, List, [], ◌∷◌, ◌++◌, Option, Some, None, refl, ap, sym, ◌∙◌, subst}
use Rattle.std.specs.Option.{option_map}
use Rattle.lf_base.specs.declared.ids.ObjId.{ObjId}
use Rattle.lf_base.specs.declared.values.Owner.{Owner}
use Rattle.lf_base.specs.Names.{same_name, same_owner}
use Rattle.lf_base.proofs.ListLemmas.LinkedLists.{IsList-after, IsList-end, IsList-kept, IsList-neighbours, IsList-pushed, IsList-unlinked, Lacks-from_has, members_apart, relinked-agree, relinked_away, without-lacking}
use Rattle.lf_base.proofs.NameLemmas.SameNames.{Decides-same_name, same_name_is, same_name_itself}
use Rattle.lf_base.specs.declared.links.Link.{Link}
use Rattle.lf_graph.specs.declared.stored_row.Linked.{Linked}
use Rattle.lf_graph.specs.declared.stored_row.StoredRow.{StoredRow}
use Rattle.lf_graph.specs.declared.ends.Ends.{Ends}
use Rattle.lf_base.specs.Links.{IsList, after, first_after_push, has, head_or, link, or_else, relinked, to_next, to_prev, unlinked, without}
use Rattle.lf_graph.specs.Chains.{HeadsAt, Relinks, is_this_owner, link_at, linked_owner_at, owner_ends_with, owner_ends_without, owner_of_head, row_of_head}
use Rattle.lf_graph.specs.Chains.{first_of, last_of, IsChain, AreChains}
use Rattle.lf_graph.proofs.Stores.Reordered.{same_owner_is, same_owner_itself}

-- rows of one owner are not another's
pub not_of_other_owner : (v w : Owner) (x : Option Owner) → same_owner v w ≡ false → is_this_owner v x ≡ true → is_this_owner w x ≡ false
not_of_other_owner v w None e h = cc
not_of_other_owner v w (Some u) e h = ap (λ t. same_owner t w) (same_owner_is u v h) ∙ e

-- the rows of one owner, where its ends are these
chain_at : (m : HeadsAt) (e : Owner → Option Ends) (w : Owner) (xs : List ObjId) {first last : Option ObjId} → first_of (e w) ≡ first → last_of (e w) ≡ last
    → IsList same_name (link_at m) first last (λ q. is_this_owner w (linked_owner_at m q)) xs → IsChain m e w xs
chain_at m e w xs f l c = record { links = c.links; differ = c.differ; first = f ∙ c.first; last = l ∙ c.last; members = c.members }

first_with : (t : Option Ends) (o : ObjId) → first_of (owner_ends_with o t) ≡ first_after_push o (first_of t)
first_with None o = refl
first_with (Some t) o = refl

last_with : (t : Option Ends) (o : ObjId) → last_of (owner_ends_with o t) ≡ Some o
last_with None o = refl
last_with (Some t) o = refl

first_without : (p n : Option ObjId) (t : Ends) → first_of (owner_ends_without p n (Some t)) ≡ or_else p (Some t.first) n
first_without None None t = refl
first_without None (Some n) t = refl
first_without (Some p) None t = refl
first_without (Some p) (Some n) t = refl

last_without : (p n : Option ObjId) (t : Ends) → last_of (owner_ends_without p n (Some t)) ≡ or_else n (Some t.last) p
last_without None None t = refl
last_without None (Some n) t = refl
last_without (Some p) None t = refl
last_without (Some p) (Some n) t = refl

-- an owner of rows has ends
some_ends : (t : Option Ends) (xs : List ObjId) (o : ObjId) → first_of t ≡ head_or xs None → has same_name o xs ≡ true → (u : Ends) × (t ≡ Some u)
some_ends (Some t) xs o e h = (t, refl)
some_ends None [] o e h = cc
some_ends None (x ∷ xs) o e h = cc

-- where only a link changes, owners stay
owner_kept : {m n : ObjId → Option Linked} {at : Option ObjId} {f : Link ObjId → Link ObjId} → Relinks m n at f → (q : ObjId) → linked_owner_at n q ≡ linked_owner_at m q
owner_kept s q = ap (option_map (λ (r : StoredRow). r.owner)) (s.rows q)

module _ (m m1 m3 : HeadsAt) (e new : Owner → Option Ends) (o : ObjId) (v : Owner) (row : StoredRow) (last : Option ObjId) (L : Owner → List ObjId)
    (owned : row.owner ≡ v)
    (fresh : m o ≡ None)
    (last_is : last ≡ option_map (λ (t : Ends). t.last) (e v))
    (step : Relinks m m1 last (to_next (Some o)))
    (put : (q : ObjId) → m3 q ≡ cond (same_name o q) (Some (record { row = row; link = link last None })) (m1 q))
    (ends : (w : Owner) → new w ≡ cond (same_owner v w) (owner_ends_with o (e v)) (e w))
    (old : AreChains m e L) where
  links : (q : ObjId) → link_at m3 q ≡ cond (same_name o q) (Some (link last None)) (relinked same_name (link_at m) last (to_next (Some o)) q)
  links q = ap (option_map (λ (h : Linked). h.link)) (put q) ∙ elim (same_name o q) as (λ b. option_map (λ (h : Linked). h.link) (cond b (Some (record { row = row; link = link last None })) (m1 q)) ≡ cond b (Some (link last None)) (relinked same_name (link_at m) last (to_next (Some o)) q)) [
    | true ↦ refl
    | false ↦ step.links q
  ]

  owners : (q : ObjId) → linked_owner_at m3 q ≡ cond (same_name o q) (Some v) (linked_owner_at m q)
  owners q = ap owner_of_head (put q) ∙ elim (same_name o q) as (λ b. owner_of_head (cond b (Some (record { row = row; link = link last None })) (m1 q)) ≡ cond b (Some v) (linked_owner_at m q)) [
    | true ↦ ap Some owned
    | false ↦ owner_kept step q
  ]

  absent : (w : Owner) → is_this_owner w (linked_owner_at m o) ≡ false
  absent w = ap (λ t. is_this_owner w (owner_of_head t)) fresh

  other : (q : ObjId) → same_name o q ≡ false → link_at m3 q ≡ relinked same_name (link_at m) last (to_next (Some o)) q
  other q n = links q ∙ ap (λ b. cond b (Some (link last None)) (relinked same_name (link_at m) last (to_next (Some o)) q)) n

  here : IsChain m3 new v (L v ++ o ∷ [])
  here =
      let own : new v ≡ owner_ends_with o (e v) = ends v ∙ ap (λ b. cond b (owner_ends_with o (e v)) (e v)) (same_owner_itself v) in
      chain_at m3 new v (L v ++ o ∷ []) (ap first_of own ∙ first_with (e v) o) (ap last_of own ∙ last_with (e v) o)
      (IsList-pushed same_name Decides-same_name (link_at m) (link_at m3) (first_of (e v)) (last_of (e v)) (λ q. is_this_owner v (linked_owner_at m q)) (λ q. is_this_owner v (linked_owner_at m3 q)) (L v) o (absent v)
      (links o ∙ ap (λ b. cond b (Some (link last None)) (relinked same_name (link_at m) last (to_next (Some o)) o)) (same_name_itself o) ∙ ap (λ t. Some (link t None)) last_is)
      (λ q n. other q n ∙ ap (λ t. relinked same_name (link_at m) t (to_next (Some o)) q) last_is)
      (λ q. ap (is_this_owner v) (owners q) ∙ (elim (same_name o q) as (λ b. is_this_owner v (cond b (Some v) (linked_owner_at m q)) ≡ cond b true (is_this_owner v (linked_owner_at m q))) [
        | true ↦ same_owner_itself v
        | false ↦ refl
      ]))
      (old v))

  there : (w : Owner) → same_owner v w ≡ false → IsChain m3 new w (L w)
  there w n =
      let same : new w ≡ e w = ends w ∙ ap (λ b. cond b (owner_ends_with o (e v)) (e w)) n in
      chain_at m3 new w (L w) (ap first_of same) (ap last_of same)
      (IsList-kept same_name Decides-same_name (link_at m) (link_at m3) (first_of (e w)) (last_of (e w)) (λ q. is_this_owner w (linked_owner_at m q)) (λ q. is_this_owner w (linked_owner_at m3 q)) (L w)
      (λ q k. other q (members_apart same_name Decides-same_name (λ x. is_this_owner w (linked_owner_at m x)) o q (absent w) k)
      ∙ relinked_away same_name Decides-same_name (link_at m) last (to_next (Some o)) q (λ x h.
      members_apart same_name Decides-same_name (λ x. is_this_owner w (linked_owner_at m x)) x q
      (not_of_other_owner v w (linked_owner_at m x) n (IsList-end same_name Decides-same_name (link_at m) (first_of (e v)) (last_of (e v)) (λ q. is_this_owner v (linked_owner_at m q)) (L v) x (old v) (sym last_is ∙ h)))
      k))
      (λ q. ap (is_this_owner w) (owners q) ∙ (elim (same_name o q) as (λ b. same_name o q ≡ b → is_this_owner w (cond b (Some v) (linked_owner_at m q)) ≡ is_this_owner w (linked_owner_at m q)) [
        | true ↦ λ t. n ∙ sym (absent w) ∙ ap (λ u. is_this_owner w (linked_owner_at m u)) (same_name_is o q t)
        | false ↦ λ _. refl
      ] refl))
      (old w))

  pub AreChains-pushed : AreChains m3 new (λ w. cond (same_owner v w) (L w ++ o ∷ []) (L w))
  AreChains-pushed w = elim (same_owner v w) as (λ b. same_owner v w ≡ b → IsChain m3 new w (cond b (L w ++ o ∷ []) (L w))) [
    | true ↦ λ t. subst (λ u. IsChain m3 new u (L u ++ o ∷ [])) (same_owner_is v w t) here
    | false ↦ there w
  ] refl

module _ (m m1 m2 m3 : HeadsAt) (e new : Owner → Option Ends) (o : ObjId) (h : Linked) (L : Owner → List ObjId)
    (is : m o ≡ Some h)
    (gone : (q : ObjId) → m1 q ≡ cond (same_name o q) None (m q))
    (one : Relinks m1 m2 h.link.prev (to_next h.link.next))
    (two : Relinks m2 m3 h.link.next (to_prev h.link.prev))
    (ends : (w : Owner) → new w ≡ cond (same_owner (h.row).owner w) (owner_ends_without h.link.prev h.link.next (e (h.row).owner)) (e w))
    (old : AreChains m e L) where
  abbrev prev : Option ObjId
  prev = h.link.prev

  abbrev next : Option ObjId
  next = h.link.next

  relinks : (q : ObjId) → same_name o q ≡ false → link_at m3 q ≡ unlinked same_name (link_at m) prev next q
  relinks q n =
      let a : link_at m1 q ≡ link_at m q = ap (option_map (λ (x : Linked). x.link)) (gone q ∙ ap (λ b. cond b None (m q)) n) in
      let b : link_at m2 q ≡ relinked same_name (link_at m) prev (to_next next) q = one.links q ∙ relinked-agree same_name Decides-same_name (link_at m1) (link_at m) prev (to_next next) q a in
      two.links q ∙ relinked-agree same_name Decides-same_name (link_at m2) (relinked same_name (link_at m) prev (to_next next)) next (to_prev prev) q b

  owners_left : (q : ObjId) → linked_owner_at m3 q ≡ cond (same_name o q) None (linked_owner_at m q)
  owners_left q = owner_kept two q ∙ owner_kept one q ∙ ap owner_of_head (gone q) ∙ elim (same_name o q) as (λ b. owner_of_head (cond b None (m q)) ≡ cond b None (linked_owner_at m q)) [
    | true ↦ refl
    | false ↦ refl
  ]

  its_owner : linked_owner_at m o ≡ Some (h.row).owner
  its_owner = ap owner_of_head is

  abbrev owner : Owner
  owner = (h.row).owner

  stands : is_this_owner owner (linked_owner_at m o) ≡ true
  stands = ap (is_this_owner owner) its_owner ∙ same_owner_itself owner

  linked : link_at m o ≡ Some h.link
  linked = ap (option_map (λ (x : Linked). x.link)) is

  left_here : IsChain m3 new owner (without same_name o (L owner))
  left_here =
      let c = old owner in
      let t = some_ends (e owner) (L owner) o c.first (c.members o ∙ stands) in
      let own : new owner ≡ owner_ends_without prev next (Some t.0)
      = ends owner ∙ ap (λ b. cond b (owner_ends_without prev next (e owner)) (e owner)) (same_owner_itself owner) ∙ ap (owner_ends_without prev next) t.1 in
      chain_at m3 new owner (without same_name o (L owner))
      (ap first_of own ∙ first_without prev next t.0 ∙ ap (λ u. or_else prev (first_of u) next) (sym t.1))
      (ap last_of own ∙ last_without prev next t.0 ∙ ap (λ u. or_else next (last_of u) prev) (sym t.1))
      (IsList-unlinked same_name Decides-same_name (link_at m) (link_at m3) (first_of (e owner)) (last_of (e owner)) (λ q. is_this_owner owner (linked_owner_at m q)) (λ q. is_this_owner owner (linked_owner_at m3 q)) (L owner) o h.link
      stands linked relinks
      (λ q. ap (is_this_owner owner) (owners_left q) ∙ (elim (same_name o q) as (λ b. is_this_owner owner (cond b None (linked_owner_at m q)) ≡ cond b false (is_this_owner owner (linked_owner_at m q))) [
        | true ↦ refl
        | false ↦ refl
      ]))
      c)

  left_there : (w : Owner) → same_owner owner w ≡ false → IsChain m3 new w (without same_name o (L w))
  left_there w n =
      let absent : is_this_owner w (linked_owner_at m o) ≡ false = ap (is_this_owner w) its_owner ∙ n in
      let same : new w ≡ e w = ends w ∙ ap (λ b. cond b (owner_ends_without prev next (e owner)) (e w)) n in
      let near = IsList-neighbours same_name Decides-same_name (link_at m) (first_of (e owner)) (last_of (e owner)) (λ q. is_this_owner owner (linked_owner_at m q)) (L owner) o h.link stands linked
      (old owner) in
      let apart : (x q : ObjId) → is_this_owner owner (linked_owner_at m x) ≡ true → is_this_owner w (linked_owner_at m q) ≡ true → same_name x q ≡ false
      = λ x q a b. members_apart same_name Decides-same_name (λ y. is_this_owner w (linked_owner_at m y)) x q (not_of_other_owner owner w (linked_owner_at m x) n a) b in
      subst (IsChain m3 new w) (sym (without-lacking same_name Decides-same_name o (L w) (Lacks-from_has same_name Decides-same_name o (L w) ((old w).members o ∙ absent))))
      (chain_at m3 new w (L w) (ap first_of same) (ap last_of same)
      (IsList-kept same_name Decides-same_name (link_at m) (link_at m3) (first_of (e w)) (last_of (e w)) (λ q. is_this_owner w (linked_owner_at m q)) (λ q. is_this_owner w (linked_owner_at m3 q)) (L w)
      (λ q k. relinks q (apart o q stands k)
      ∙ relinked_away same_name Decides-same_name (relinked same_name (link_at m) prev (to_next next)) next (to_prev prev) q (λ x a. apart x q ((near x).1 a) k)
      ∙ relinked_away same_name Decides-same_name (link_at m) prev (to_next next) q (λ x a. apart x q ((near x).0 a) k))
      (λ q. ap (is_this_owner w) (owners_left q) ∙ (elim (same_name o q) as (λ b. same_name o q ≡ b → is_this_owner w (cond b None (linked_owner_at m q)) ≡ is_this_owner w (linked_owner_at m q)) [
        | true ↦ λ t. sym absent ∙ ap (λ u. is_this_owner w (linked_owner_at m u)) (same_name_is o q t)
        | false ↦ λ _. refl
      ] refl))
      (old w)))

  pub AreChains-unlinked : AreChains m3 new (λ w. without same_name o (L w))
  AreChains-unlinked w = elim (same_owner owner w) as (λ b. same_owner owner w ≡ b → IsChain m3 new w (without same_name o (L w))) [
    | true ↦ λ t. subst (λ u. IsChain m3 new u (without same_name o (L u))) (same_owner_is owner w t) left_here
    | false ↦ left_there w
  ] refl

pub chain_next : (m : HeadsAt) (e : Owner → Option Ends) (o : ObjId) (h : Linked) (w : Owner) (xs : List ObjId) → IsChain m e w xs → linked_owner_at m o ≡ Some w → m o ≡ Some h → h.link.next ≡ after same_name o xs
chain_next m e o h w xs c own g =
    IsList-after same_name Decides-same_name (link_at m) (first_of (e w)) (last_of (e w)) (λ q. is_this_owner w (linked_owner_at m q)) xs o h.link
    (ap (is_this_owner w) own ∙ same_owner_itself w) (ap (option_map (λ (x : Linked). x.link)) g) c

-- where links, owners and ends stay, the lists do
pub AreChains-kept : (m n : HeadsAt) (e f : Owner → Option Ends) (L : Owner → List ObjId)
    → ((q : ObjId) → link_at n q ≡ link_at m q) → ((q : ObjId) → linked_owner_at n q ≡ linked_owner_at m q) → ((w : Owner) → f w ≡ e w) → AreChains m e L → AreChains n f L
AreChains-kept m n e f L links owners ends old w =
    chain_at n f w (L w) (ap first_of (ends w)) (ap last_of (ends w))
    (IsList-kept same_name Decides-same_name (link_at m) (link_at n) (first_of (e w)) (last_of (e w)) (λ q. is_this_owner w (linked_owner_at m q)) (λ q. is_this_owner w (linked_owner_at n q)) (L w)
    (λ q _. links q) (λ q. ap (is_this_owner w) (owners q)) (old w))

pub AreChains-same : (m n : HeadsAt) (e f : Owner → Option Ends) (L : Owner → List ObjId)
    → ((q : ObjId) → n q ≡ m q) → ((w : Owner) → f w ≡ e w) → AreChains m e L → AreChains n f L
AreChains-same m n e f L h = AreChains-kept m n e f L (λ q. ap (option_map (λ (x : Linked). x.link)) (h q)) (λ q. ap owner_of_head (h q))

pub none_kept : (t : Option Linked) → row_of_head t ≡ None → t ≡ None
none_kept None e = refl
none_kept (Some h) e = cc

pub no_row : (t : Option Linked) → t ≡ None → row_of_head t ≡ None
no_row t e = ap row_of_head e

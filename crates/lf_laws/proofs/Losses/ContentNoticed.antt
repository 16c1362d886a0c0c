-- After a write of a content the old content is suspect enough, and after the making of a cown nothing is.
use Rattle.std.proofs.Common.{Bool, List, Some, [], ap, cond, false, inl, inr, refl, subst, true, ◌&&◌, ◌++◌, ◌∙◌, ◌∷◌, ◌≡◌, ◌⊎◌}
use Rattle.lf_base.specs.ContentResult.{content_at, content_result, put_content}
use Rattle.lf_base.specs.Edges.{Content, Edge, content_edges, edges_by, rows_edges}
use Rattle.lf_base.specs.Kept.{is_owned_by}
use Rattle.lf_base.specs.Names.{same_cown, same_name, targets_of_value}
use Rattle.lf_base.specs.NewCown.{made_result, next_cown}
use Rattle.lf_base.specs.Noticing.{Noticed}
use Rattle.lf_base.specs.Owners.{owner_in}
use Rattle.lf_base.specs.Ownership.{is_owning}
use Rattle.lf_base.specs.PlainState.{State}
use Rattle.lf_base.specs.Sets.{Member}
use Rattle.lf_base.specs.Settling.{WatchedBy}
use Rattle.lf_base.specs.Suspects.{Bare, Object, Region, Suspect}
use Rattle.lf_base.specs.declared.ids.CownId.{CownId}
use Rattle.lf_base.specs.declared.ids.ObjId.{ObjId}
use Rattle.lf_base.specs.declared.values.Owner.TheVariants.{In}
use Rattle.lf_base.specs.declared.values.Value.{Value}
use Rattle.lf_base.proofs.ListLemmas.Members.{Member_any, Member_left, Member_of_append, Member_of_map, Member_right, Within, Within_append, Within_flat_map, any_Member, any_more}
use Rattle.lf_base.proofs.ListLemmas.Tests.{some_is}
use Rattle.lf_base.proofs.NameLemmas.SameNames.{same_name_is}
use Rattle.std.proofs.lemmas.Bool.{and_parts, both_ways, false_from_ne_true}

-- an edge of a content stays, or is that of the old one
content_stays : (hs : List (CownId × Value)) (c : CownId) (v old : Value) → content_at hs c ≡ Some old → (e : Edge) → Member e (content_edges hs)
    → Member e (content_edges (put_content hs c v)) ⊎ Member e.to (targets_of_value old)
content_stays [] c v old at e m = absurd m
content_stays (h ∷ hs) c v old at e m =
    let first : List Edge = edges_by (Content h.0) (targets_of_value h.1) in
    elim (same_cown h.0 c) as (λ b. cond b (Some h.1) (content_at hs c) ≡ Some old → Member e (content_edges (cond b ((h.0, v) ∷ hs) (h ∷ put_content hs c v))) ⊎ Member e.to (targets_of_value old)) [
      | true ↦ λ k. elim (Member_of_append e first (content_edges hs) m) [
        | inl n ↦
            let o = Member_of_map (λ (o : ObjId). record { from = Content h.0; to = o }) e (targets_of_value h.1) n in
            inr (subst (λ u. Member e.to (targets_of_value u)) (some_is h.1 old k) (subst (λ (d : Edge). Member d.to (targets_of_value h.1)) o.1.1 o.1.0))
        | inr n ↦ inl (Member_right e (edges_by (Content h.0) (targets_of_value v)) (content_edges hs) n)
      ]
      | false ↦ λ k. elim (Member_of_append e first (content_edges hs) m) [
        | inl n ↦ inl (Member_left e first (content_edges (put_content hs c v)) n)
        | inr n ↦ elim (content_stays hs c v old k e n) [
          | inl z ↦ inl (Member_right e first (content_edges (put_content hs c v)) z)
          | inr z ↦ inr z
        ]
      ]
    ] at

-- ---- rows and slots stay, and so does what suspects watch
pub watches_still : (s after : State) (r : ObjId) (old new : List Suspect) → after.rows ≡ s.rows → ((u : Suspect) → Member u old → Member u new) → WatchedBy s old r → WatchedBy after new r
watches_still s after r old new same stay (Object o, (m, h)) = (Object o, (stay (Object o) m, ap (λ rows. owner_in rows o) same ∙ h))
watches_still s after r old new same stay (Region q, (m, h)) = (Region q, (stay (Region q) m, h))

module _ (s : State) (c : CownId) (v u : Value) (at : content_at s.held c ≡ Some u) (old new : List Suspect) (before : Noticed s old) (stay : (x : Suspect) → Member x old → Member x new) where
  abbrev after : State
  after = content_result s c v

  abbrev owners : ObjId → Edge → Bool
  owners r e = is_owning s.rows e.from r && same_name e.to r

  -- an owning edge stays, or is that of the old content
  owned_or : (r : ObjId) → is_owned_by s.rows s r ≡ true → (is_owned_by s.rows after r ≡ true) ⊎ Member r (targets_of_value u)
  owned_or r h =
      let d = any_Member (owners r) (rows_edges s.rows ++ (content_edges s.held ++ content_edges s.made)) h in
      let e = d.0 in
      let then : List Edge = content_edges (put_content s.held c v) ++ content_edges s.made in
      elim (Member_of_append e (rows_edges s.rows) (content_edges s.held ++ content_edges s.made) d.1.0) [
        | inl m ↦ inl (Member_any (owners r) e (rows_edges s.rows ++ then) (Member_left e (rows_edges s.rows) then m) d.1.1)
        | inr m ↦ elim (Member_of_append e (content_edges s.held) (content_edges s.made) m) [
          | inl n ↦ elim (content_stays s.held c v u at e n) [
            | inl z ↦ inl (Member_any (owners r) e (rows_edges s.rows ++ then) (Member_right e (rows_edges s.rows) then (Member_left e (content_edges (put_content s.held c v)) (content_edges s.made) z)) d.1.1)
            | inr z ↦ inr (subst (λ o. Member o (targets_of_value u)) (same_name_is e.to r (and_parts (is_owning s.rows e.from r) (same_name e.to r) d.1.1).1) z)
          ]
          | inr n ↦ inl (Member_any (owners r) e (rows_edges s.rows ++ then) (Member_right e (rows_edges s.rows) then (Member_right e (content_edges (put_content s.held c v)) (content_edges s.made) n)) d.1.1)
        ]
      ]

  region_watched : ((o : ObjId) → Member o (targets_of_value u) → Bare after o → Member (Object o) new) → (r : ObjId) → owner_in s.rows r ≡ Some (In r) → Bare after r → WatchedBy after new r
  region_watched cover r h bare = elim (is_owned_by s.rows s r) as (λ b. is_owned_by s.rows s r ≡ b → WatchedBy after new r) [
    | true ↦ λ k. elim (owned_or r k) [
      | inl z ↦ absurd (both_ways _ bare.unowned z)
      | inr z ↦ (Object r, (cover r z bare, h))
    ]
    | false ↦ λ k. watches_still s after r old new refl stay (before.regions r h (record { unowned = k; unborrowed = bare.unborrowed }))
  ] refl

  pub content_noticed : ((o : ObjId) → Member o (targets_of_value u) → Bare after o → Member (Object o) new) → Noticed after new
  content_noticed cover = record {
    locals = λ o h n. stay (Object o) (before.locals o h n);
    regions = region_watched cover;
    inners = λ o r h d n. stay (Object o) (before.inners o r h d n);
  }

-- ---- a cown that is made
module _ (s : State) (v : Value) (w : List Suspect) (before : Noticed s w) where
  abbrev with_cown : State
  with_cown = made_result s v

  more : Within (rows_edges s.rows ++ (content_edges s.held ++ content_edges s.made)) (rows_edges s.rows ++ (content_edges s.held ++ content_edges with_cown.made))
  more = Within_append (rows_edges s.rows) (rows_edges s.rows) _ _ (λ x m. m)
      (Within_append (content_edges s.held) (content_edges s.held) _ _ (λ x m. m)
      (Within_flat_map (λ (h : CownId × Value). edges_by (Content h.0) (targets_of_value h.1)) s.made with_cown.made (λ x m. Member_left x s.made ((next_cown s, v) ∷ []) m)))

  unowned_before : (r : ObjId) → is_owned_by s.rows with_cown r ≡ false → is_owned_by s.rows s r ≡ false
  unowned_before r n = false_from_ne_true _ (λ h. both_ways _ n (any_more (λ (e : Edge). is_owning s.rows e.from r && same_name e.to r) _ _ more h))

  pub made_noticed : Noticed with_cown w
  made_noticed = record {
    locals = before.locals;
    regions = λ r h bare. watches_still s with_cown r w w refl (λ u m. m) (before.regions r h (record { unowned = unowned_before r bare.unowned; unborrowed = bare.unborrowed }));
    inners = before.inners;
  }

-- A region that comes to own further bridges: owners go round exactly where one of these was above it.
use Rattle.std.proofs.Common.{ap, false, inl, inr, refl, subst, sym, true, ◌∙◌, ◌≡◌, ◌⊎◌}
use Rattle.lf_base.specs.declared.ids.ObjId.{ObjId}
use Rattle.lf_base.specs.Names.{same_name}
use Rattle.lf_base.specs.Ownership.{Above, NoRound, direct, owns, step}
use Rattle.lf_base.specs.PlainState.{State}
use Rattle.lf_base.proofs.NameLemmas.SameNames.{same_name_is}

-- a change after which only region home owns more
pub record Gains (s after : State) (home : ObjId) (New : ObjId → Type 0) : Type 0 where
  pub old_or_new : (q r : ObjId) → owns after q r ≡ true → (owns s q r ≡ true) ⊎ ((q ≡ home) × New r)
  pub not_itself : New home → ⊥

-- what a write into region home does to owners
pub record OwnsMore (s after : State) (home : ObjId) (New : ObjId → Type 0) : Type 0 where
  pub gains : Gains s after home New
  pub others_stay : (q r : ObjId) → owns s q r ≡ true → same_name q home ≡ false → owns after q r ≡ true
  pub new_owned : (r : ObjId) → New r → owns after home r ≡ true

module _ (s after : State) (home : ObjId) (New : ObjId → Type 0) (o : Gains s after home New) where
  abbrev To : ObjId → Type 0
  To q = (q ≡ home) ⊎ Above s q home

  -- the last newly owned bridge on the way
  pub record Through (q r : ObjId) : Type 0 where
    pub bridge : ObjId
    pub new : New bridge
    pub from : To q
    pub rest : (bridge ≡ r) ⊎ Above s bridge r

  to_step : (q p : ObjId) → owns s q p ≡ true → To p → To q
  to_step q p e (inl h) = inr (direct (ap (owns s q) (sym h) ∙ e))
  to_step q p e (inr a) = inr (step e a)

  cut : {q r : ObjId} → Above after q r → Above s q r ⊎ Through q r
  cut (direct {q} {r} e) = elim (o.old_or_new q r e) [
    | inl h ↦ inl (direct h)
    | inr h ↦ inr (record { bridge = r; new = h.1; from = inl h.0; rest = inl refl })
  ]
  cut (step {q} {p} {r} e a) = elim (cut a) [
    | inl b ↦ elim (o.old_or_new q p e) [
      | inl h ↦ inl (step h b)
      | inr h ↦ inr (record { bridge = p; new = h.1; from = inl h.0; rest = inr b })
    ]
    | inr t ↦ elim (o.old_or_new q p e) [
      | inl h ↦ inr (record { bridge = t.bridge; new = t.new; from = to_step q p h t.from; rest = t.rest })
      | inr h ↦ inr (record { bridge = t.bridge; new = t.new; from = inl h.0; rest = t.rest })
    ]
  ]

  join : {q p r : ObjId} → Above s q p → Above s p r → Above s q r
  join (direct e) b = step e b
  join (step e a) b = step e (join a b)

  meets : (b r : ObjId) → New b → (b ≡ r) ⊎ Above s b r → To r → To b
  meets b r n (inl h) t = subst To (sym h) t
  meets b r n (inr a) (inl h) = inr (subst (λ z. Above s b z) h a)
  meets b r n (inr a) (inr c) = inr (join a c)

  -- no newly owned bridge was above the region: owners don't go round
  pub straight_after : NoRound s → ((b : ObjId) → New b → Above s b home → ⊥) → NoRound after
  straight_after flat clear r a = elim (cut a) [
    | inl b ↦ flat r b
    | inr t ↦ elim (meets t.bridge r t.new t.rest t.from) [
      | inl h ↦ o.not_itself (subst New h t.new)
      | inr b ↦ clear t.bridge t.new b
    ]
  ]

module _ (s after : State) (home : ObjId) (New : ObjId → Type 0) (o : OwnsMore s after home New) where
  -- the way up to the region, until it is first met
  first_met : {q r : ObjId} → Above s q r → r ≡ home → same_name q home ≡ false → Above after q home
  first_met (direct {q} {r} e) h n = direct (o.others_stay q home (ap (owns s q) (sym h) ∙ e) n)
  first_met (step {q} {p} e a) h n =
      elim (same_name p home) as (λ b. same_name p home ≡ b → Above after q home) [
        | true ↦ λ k. direct (o.others_stay q home (ap (owns s q) (sym (same_name_is p home k)) ∙ e) n)
        | false ↦ λ k. step (o.others_stay q p e n) (first_met a h k)
      ] refl

  -- one was: they do
  pub round_after : (b : ObjId) → New b → Above s b home → NoRound after → ⊥
  round_after b n a flat =
      elim (same_name b home) as (λ c. same_name b home ≡ c → ⊥) [
        | true ↦ λ h. o.gains.not_itself (subst New (same_name_is b home h) n)
        | false ↦ λ h. flat home (step (o.new_owned b n) (first_met a refl h))
      ] refl

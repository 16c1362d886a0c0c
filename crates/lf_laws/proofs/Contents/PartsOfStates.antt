-- A state that is a part of another one with the same frozen rows: what it shows of owners and edges the other shows too.
use Rattle.std.proofs.Common.{None, Option, Some, ap, refl, sym, true, ◌||◌, ◌∙◌, ◌≡◌}
use Rattle.lf_base.specs.declared.ids.ObjId.{ObjId}
use Rattle.lf_base.specs.declared.values.Owner.{Owner}
use Rattle.lf_base.specs.Edges.{Content, Edge, Field, Slot, Source, edges}
use Rattle.lf_base.specs.Owners.{has_row, is_in, or_frozen, owner_in, owner_of}
use Rattle.lf_base.specs.Ownership.{is_from, is_in_other, is_owning}
use Rattle.lf_base.specs.PlainState.{State}
use Rattle.lf_base.specs.Sets.{Member}
use Rattle.lf_base.specs.WellFormed.{WellFormed, from_content, from_near, from_row, may_lead}
use Rattle.lf_laws.proofs.Rows.OwnerTests.{frozen_there, source_near}
use Rattle.lf_laws.proofs.Changes.SameOwners.{lead_there}

pub record PartOf (a u : State) : Type 0 where
  pub whole : WellFormed a
  pub keeps : (o : ObjId) (w : Owner) → owner_in a.rows o ≡ Some w → owner_in u.rows o ≡ Some w
  pub given : a.given ≡ u.given
  pub own : a.own ≡ u.own
  pub frozen_apart : (o : ObjId) → (has_row u.given o || has_row u.own o) ≡ true → owner_in u.rows o ≡ None

module _ (a u : State) (p : PartOf a u) where
  froze : (o : ObjId) → (has_row a.given o || has_row a.own o) ≡ (has_row u.given o || has_row u.own o)
  froze o i = has_row (p.given i) o || has_row (p.own i) o

  owner_on : (o : ObjId) → from_near (owner_of a o) ≡ true → owner_of u o ≡ owner_of a o
  owner_on o near = go (owner_in a.rows o) refl
    where
      go : (w : Option Owner) → owner_in a.rows o ≡ w → owner_of u o ≡ owner_of a o
      go (Some w) e = ap (or_frozen (has_row u.given o || has_row u.own o)) (p.keeps o w e) ∙ sym (ap (or_frozen (has_row a.given o || has_row a.own o)) e)
      go None e =
          let here : (has_row a.given o || has_row a.own o) ≡ true = frozen_there (has_row a.given o || has_row a.own o) (ap (λ w. from_near (or_frozen (has_row a.given o || has_row a.own o) w)) (sym e) ∙ near) in
          (λ i. or_frozen (sym (froze o) i) (p.frozen_apart o (sym (froze o) ∙ here) i)) ∙ sym (ap (or_frozen (has_row a.given o || has_row a.own o)) e)

  pub lead_on : (f : Source) (o : ObjId) → may_lead a f o ≡ true → may_lead u f o ≡ true
  lead_on Slot o e = ap from_near (owner_on o e) ∙ e
  lead_on (Field x) o e = (λ i. from_row (owner_on x (source_near (owner_of a x) o (owner_of a o) e) i) o (owner_on o (lead_there a (Field x) o e) i)) ∙ e
  lead_on (Content c) o e = ap (from_content o) (owner_on o (lead_there a (Content c) o e)) ∙ e

  -- an owner in the part is what it is in the whole, for a row that the part has or that is frozen
  pub owner_back : (x : ObjId) → from_near (owner_of a x) ≡ true → owner_in u.rows x ≡ owner_in a.rows x
  owner_back x near = go (owner_in a.rows x) refl
    where
      go : (w : Option Owner) → owner_in a.rows x ≡ w → owner_in u.rows x ≡ owner_in a.rows x
      go (Some w) e = p.keeps x w e ∙ sym e
      go None e =
          let here : (has_row a.given x || has_row a.own x) ≡ true = frozen_there (has_row a.given x || has_row a.own x) (ap (λ w. from_near (or_frozen (has_row a.given x || has_row a.own x) w)) (sym e) ∙ near) in
          p.frozen_apart x (sym (froze x) ∙ here) ∙ sym e

  begin_near : (e : Edge) → Member e (edges a) → (x : ObjId) → e.from ≡ Field x → from_near (owner_of a x) ≡ true
  begin_near e m x f = source_near (owner_of a x) e.to (owner_of a e.to) (ap (λ z. may_lead a z e.to) (sym f) ∙ p.whole.leads e m)

  pub owning_back : (e : Edge) → Member e (edges a) → (f : Source) → e.from ≡ f → (r : ObjId) → is_owning u.rows f r ≡ is_owning a.rows f r
  owning_back e m Slot h r = refl
  owning_back e m (Field x) h r = ap (is_in_other r) (owner_back x (begin_near e m x h))
  owning_back e m (Content c) h r = refl

  pub from_back : (e : Edge) → Member e (edges a) → (f : Source) → e.from ≡ f → (q : ObjId) → is_from u.rows q f ≡ is_from a.rows q f
  from_back e m Slot h q = refl
  from_back e m (Field x) h q = ap (is_in q) (owner_back x (begin_near e m x h))
  from_back e m (Content c) h q = refl

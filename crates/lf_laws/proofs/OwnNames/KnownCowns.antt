-- Changes by which each value names cowns that were known before, and values by the places where they stand.
use Rattle.std.proofs.Common.{List, Option, [], inl, inr, subst, ◌++◌, ◌∙◌, ◌≡◌, ◌⊎◌}
use Rattle.std.specs.List.{flat_map}
use Rattle.lf_base.specs.declared.ids.CownId.{CownId}
use Rattle.lf_base.specs.declared.ids.ObjId.{ObjId}
use Rattle.lf_base.specs.declared.values.Value.{Value}
use Rattle.lf_base.specs.Names.{cowns_of_value}
use Rattle.lf_base.specs.Owners.{names}
use Rattle.lf_base.specs.PlainState.{Row, State}
use Rattle.lf_base.specs.Sets.{Member}
use Rattle.lf_base.specs.WellFormed.{all_values, content_values, field_values, own_cowns, slot_values}
use Rattle.lf_base.proofs.ListLemmas.Members.{Member_flat_map, Member_of_flat_map, Member_left, Member_of_append, Member_right}
use Rattle.lf_base.specs.Contents.{cowns_of}
use Rattle.lf_base.specs.OwnNames.{AddsOwnNames, KnowsCowns}

-- a change by which each value names cowns that were known before
pub record Comes (s t : State) : Type 0 where
  pub birth : t.birth ≡ s.birth
  pub given : t.given ≡ s.given
  pub held : cowns_of t.held ≡ cowns_of s.held
  pub names : (o : ObjId) → Member o (names t.rows ++ names t.own) → Member o (names s.rows ++ names s.own) ⊎ (o.birth ≡ s.birth)
  pub made : (c : CownId) → Member c (cowns_of s.made) → Member c (cowns_of t.made)
  pub own : (c : CownId) → Member c (own_cowns t) → Member c (own_cowns s) ⊎ Member c (cowns_of t.made)
  pub values : (w : Value) → Member w (all_values t) → KnowsCowns s w

-- it adds own names alone
pub adds_own : (s t : State) → Comes s t → AddsOwnNames s t
adds_own s t k = record {
  birth = k.birth;
  given = k.given;
  held = k.held;
  names = k.names;
  made = k.made;
  cowns = λ c m. elim (Member_of_append c (own_cowns t) (flat_map cowns_of_value (all_values t)) m) [
    | inl n ↦ elim (k.own c n) [ inl q ↦ inl (Member_left c (own_cowns s) (flat_map cowns_of_value (all_values s)) q) | inr q ↦ inr q ]
    | inr n ↦ let x = Member_of_flat_map cowns_of_value c (all_values t) n in inl (k.values x.0 x.1.0 c x.1.1)
  ];
}

-- one such change after another is one
pub adds_then : (s t u : State) → AddsOwnNames s t → AddsOwnNames t u → AddsOwnNames s u
adds_then s t u a b = record {
  birth = b.birth ∙ a.birth;
  given = b.given ∙ a.given;
  held = b.held ∙ a.held;
  names = λ o m. elim (b.names o m) [ inl n ↦ a.names o n | inr e ↦ inr (e ∙ a.birth) ];
  made = λ c m. b.made c (a.made c m);
  cowns = λ c m. elim (b.cowns c m) [ inl n ↦ elim (a.cowns c n) [ inl q ↦ inl q | inr q ↦ inr (b.made c q) ] | inr n ↦ inr n ];
}

-- ---- values by their places
pub old : (s : State) (w : Value) → Member w (all_values s) → KnowsCowns s w
old s w m c n = Member_right c (own_cowns s) (flat_map cowns_of_value (all_values s)) (Member_flat_map cowns_of_value w c (all_values s) m n)

pub names_no_cown : (s : State) (w : Value) → cowns_of_value w ≡ [] → KnowsCowns s w
names_no_cown s w e c n = absurd (subst (Member c) e n)

module _ (s : State) where
  pub in_slots : (w : Value) → Member w (slot_values s.slots) → KnowsCowns s w
  in_slots w m = old s w (Member_left w (slot_values s.slots) _ m)

  pub in_rows : (w : Value) → Member w (field_values s.rows) → KnowsCowns s w
  in_rows w m = old s w (Member_right w (slot_values s.slots) _ (Member_left w (field_values s.rows) _ m))

  pub in_held : (w : Value) → Member w (content_values s.held) → KnowsCowns s w
  in_held w m = old s w (Member_right w (slot_values s.slots) _ (Member_right w (field_values s.rows) _ (Member_left w (content_values s.held) _ m)))

  pub in_made : (w : Value) → Member w (content_values s.made) → KnowsCowns s w
  in_made w m = old s w (Member_right w (slot_values s.slots) _ (Member_right w (field_values s.rows) _ (Member_right w (content_values s.held) _ (Member_left w (content_values s.made) _ m))))

  pub in_given : (w : Value) → Member w (field_values s.given) → KnowsCowns s w
  in_given w m = old s w (Member_right w (slot_values s.slots) _ (Member_right w (field_values s.rows) _ (Member_right w (content_values s.held) _ (Member_right w (content_values s.made) _ (Member_left w (field_values s.given) (field_values s.own) m)))))

  pub in_own : (w : Value) → Member w (field_values s.own) → KnowsCowns s w
  in_own w m = old s w (Member_right w (slot_values s.slots) _ (Member_right w (field_values s.rows) _ (Member_right w (content_values s.held) _ (Member_right w (content_values s.made) _ (Member_right w (field_values s.given) (field_values s.own) m)))))

  pub by_parts : (slots : List (Option Value)) (rows given own : List Row) (held made : List (CownId × Value))
      → ((w : Value) → Member w (slot_values slots) → KnowsCowns s w) → ((w : Value) → Member w (field_values rows) → KnowsCowns s w)
      → ((w : Value) → Member w (content_values held) → KnowsCowns s w) → ((w : Value) → Member w (content_values made) → KnowsCowns s w)
      → ((w : Value) → Member w (field_values given) → KnowsCowns s w) → ((w : Value) → Member w (field_values own) → KnowsCowns s w)
      → (w : Value) → Member w (slot_values slots ++ (field_values rows ++ (content_values held ++ (content_values made ++ (field_values given ++ field_values own))))) → KnowsCowns s w
  by_parts slots rows given own held made a b c d e f w m = elim (Member_of_append w (slot_values slots) _ m) [
    | inl n ↦ a w n
    | inr n ↦ elim (Member_of_append w (field_values rows) _ n) [
      | inl n ↦ b w n
      | inr n ↦ elim (Member_of_append w (content_values held) _ n) [
        | inl n ↦ c w n
        | inr n ↦ elim (Member_of_append w (content_values made) _ n) [
          | inl n ↦ d w n
          | inr n ↦ elim (Member_of_append w (field_values given) (field_values own) n) [ inl n ↦ e w n | inr n ↦ f w n ]
        ]
      ]
    ]
  ]

-- A write that the barrier is asked for where nothing is but a frozen object.
use Rattle.std.proofs.Common.{List, [], arith, inl, inr, map, refl, subst, sym, true, ◌∷◌, ◌≡◌}
use Rattle.lf_base.specs.declared.ids.ObjId.{ObjId}
use Rattle.lf_base.specs.declared.values.Key.{Key}
use Rattle.lf_base.specs.declared.values.Owner.TheVariants.{Frozen}
use Rattle.lf_base.specs.declared.values.Value.{Value}
use Rattle.lf_base.specs.declared.values.Value.TheVariants.{Obj}
use Rattle.lf_base.specs.Owners.{owner_of}
use Rattle.lf_base.specs.Names.{cowns_of_value, same_key, targets_of_value}
use Rattle.lf_base.specs.PlainChanges.{first_state}
use Rattle.lf_base.specs.PlainState.{Row, State}
use Rattle.lf_base.specs.Sets.{Differ, Member}
use Rattle.lf_base.specs.WellFormed.{MayBeGiven, SlotMayHold, from_near}
use Rattle.lf_barrier.specs.WritePlans.{IsAsked}
use Rattle.lf_domain.proofs.NewRowCounts.{none_counted}
use Rattle.lf_graph.specs.StoredRows.{CountedRow}
use Rattle.lf_laws.proofs.Changes.FirstState.{first_whole}
use Rattle.lf_regions.specs.declared.region.Region.{Region}
use Rattle.lf_trials.proofs.BarrierStates.{holds}

abbrev pub frozen : ObjId
frozen = record { birth = 2; seq = 1 }

abbrev row : Row
row = record { name = frozen; owner = Frozen; fields = [] }

abbrev pub with_frozen : State
with_frozen = first_state 1 (row ∷ [])

given : MayBeGiven 1 (row ∷ [])
given = record {
  rise = tt;
  keys_differ = λ x m. elim m [ inl e ↦ subst (λ (r : Row). Differ same_key (map (λ (f : Key × Value). f.0) r.fields)) e tt | inr n ↦ absurd n ];
  frozen = λ x m. elim m [ inl e ↦ subst (λ (r : Row). r.owner ≡ Frozen) e refl | inr n ↦ absurd n ];
  leads = λ e m. absurd m;
  no_object = λ o m b. elim m [ inl e ↦ absurd (let z : 2 ≡ 1 = subst (λ (q : ObjId). q.birth ≡ 1) (sym e) b in omega (arith, z)) | inr n ↦ absurd n ];
  no_cown = λ c m b. absurd m;
}

plain : (v : Value) → targets_of_value v ≡ [] → cowns_of_value v ≡ [] → SlotMayHold with_frozen v
plain v none unnamed = record {
  object_there = λ o m. absurd (subst (Member o) none m);
  cown_numbered = λ c m b. absurd (subst (Member c) unnamed m);
}

pub frozen_asked : (rows : List CountedRow) (regions : List Region) (v : Value) → rows ≡ [] → regions ≡ [] → targets_of_value v ≡ [] → cowns_of_value v ≡ []
    → IsAsked rows regions with_frozen frozen v
frozen_asked rows regions v e f none unnamed =
    subst (λ rs. IsAsked rs regions with_frozen frozen v) (sym e) (subst (λ ts. IsAsked [] ts with_frozen frozen v) (sym f) (record {
      domain = record { counts = none_counted 1 (row ∷ []); well_formed = first_whole 1 (row ∷ []) given; few = omega arith };
      target = holds with_frozen frozen refl;
      value = plain v none unnamed;
    }))

-- What a content is refused for, by the state before it is written.
use Rattle.std.proofs.Common.{Bool, List, None, Option, Some, ap, arith, cond, ltb, refl, ℕ, ◌&&◌, ◌+◌, ◌∙◌, ◌≡◌}
use Rattle.std.specs.List.{count_by}
use Rattle.lf_base.specs.ContentRefusal.{refusal_as_content, refused_target}
use Rattle.lf_base.specs.ContentResult.{content_at, content_fault, content_refusal, content_result, target_fault}
use Rattle.lf_base.specs.Edges.{Content, Edge, edges, edges_by, slot_targets}
use Rattle.lf_base.specs.Names.{same_name, targets_of_value}
use Rattle.lf_base.specs.NewCown.{made_result, next_cown}
use Rattle.lf_base.specs.Owners.{owner_of}
use Rattle.lf_base.specs.Ownership.{is_owning, owning_edges}
use Rattle.lf_base.specs.PlainState.{Row, State}
use Rattle.lf_base.specs.WalkCounts.{counted}
use Rattle.lf_base.specs.declared.faults.Fault.TheVariants.{Interior, SecondOwner}
use Rattle.lf_base.specs.declared.ids.CownId.{CownId}
use Rattle.lf_base.specs.declared.ids.ObjId.{ObjId}
use Rattle.lf_base.specs.declared.values.Owner.{Owner}
use Rattle.lf_base.specs.declared.values.Owner.TheVariants.{Frozen, In, Local}
use Rattle.lf_base.specs.declared.values.Value.{Value}
use Rattle.lf_base.specs.declared.values.Value.TheVariants as value
use Rattle.lf_base.proofs.NameLemmas.SameNames.{same_name_itself}
use Rattle.lf_laws.proofs.Edges.EdgeParts.{count_app, count_alike_on, same_by}
use Rattle.lf_laws.proofs.Edges.NamedRows.{begins}
use Rattle.lf_laws.proofs.Edges.SlotEdges.{all_content, all_made}
use Rattle.lf_laws.proofs.Rows.EdgeCounts.{count_edges_by}
use Rattle.std.proofs.lemmas.Bool.{lt-ltb, ltb-true}

-- more than one is left exactly where there were more than those that go
more_than : (after gone before : ℕ) → after + gone ≡ before + 1 → ltb 1 after ≡ ltb gone before
more_than after gone before h =
    same_by (ltb 1 after) (ltb gone before)
    (λ e. lt-ltb gone before (omega (arith, h, ltb-true 1 after e)))
    (λ e. lt-ltb 1 after (omega (arith, h, ltb-true gone before e)))

-- a content owns the bridge that it names
content_owns : (rows : List Row) (c : CownId) (o : ObjId) (u : Option Value) → count_by (λ e. is_owning rows e.from o && same_name e.to o) (edges_by (Content c) (slot_targets u)) ≡ counted o u
content_owns rows c o u =
    count_alike_on (λ e. is_owning rows e.from o && same_name e.to o) (λ e. same_name e.to o) (edges_by (Content c) (slot_targets u)) (λ e m.
    ap (λ f. is_owning rows f o && same_name e.to o) (begins (Content c) (slot_targets u) e m))
    ∙ count_edges_by o (Content c) (slot_targets u)

itself_once : (o : ObjId) → counted o (Some (value.Obj o)) ≡ 1
itself_once o = ap {B = ℕ} (λ b. 0 + cond b 1 0) (same_name_itself o)

-- by the owner of the object that is named
by_owner : (s after : State) (old : Option Value) (o : ObjId) → owning_edges after o + counted o old ≡ owning_edges s o + 1 → (w : Option Owner) → target_fault after o w ≡ refused_target s old o w
by_owner s after old o h None = refl
by_owner s after old o h (Some Local) = refl
by_owner s after old o h (Some Frozen) = refl
by_owner s after old o h (Some (In q)) = ap (λ b. cond (same_name q o) (cond b (Some SecondOwner) None) (Some Interior)) (more_than (owning_edges after o) (counted o old) (owning_edges s o) h)

module _ (s : State) (c : CownId) (v old : Value) (at : content_at s.held c ≡ Some old) where
  held_owners : (o : ObjId) → owning_edges (content_result s c v) o + counted o (Some old) ≡ owning_edges s o + counted o (Some v)
  held_owners o =
      let p : Edge → Bool = λ e. is_owning s.rows e.from o && same_name e.to o in
      omega (
        arith,
        all_content s c v old at p,
        count_app p (edges_by (Content c) (targets_of_value v)) (edges s),
        count_app p (edges_by (Content c) (targets_of_value old)) (edges (content_result s c v)),
        content_owns s.rows c o (Some v),
        content_owns s.rows c o (Some old),
      )

pub held_refusal : (s : State) (c : CownId) (old : Value) → content_at s.held c ≡ Some old → (v : Value) → content_refusal s c v ≡ refusal_as_content s (Some old) v
held_refusal s c old at value.None = refl
held_refusal s c old at (value.Bool b) = refl
held_refusal s c old at (value.Int n) = refl
held_refusal s c old at (value.Text t) = refl
held_refusal s c old at (value.Cown d) = refl
held_refusal s c old at (value.Obj o) =
    by_owner s (content_result s c (value.Obj o)) (Some old) o (held_owners s c (value.Obj o) old at o ∙ ap (λ n. owning_edges s o + n) (itself_once o)) (owner_of s o)

made_owners : (s : State) (v : Value) (o : ObjId) → owning_edges (made_result s v) o ≡ owning_edges s o + counted o (Some v)
made_owners s v o =
    let p : Edge → Bool = λ e. is_owning s.rows e.from o && same_name e.to o in
    omega (arith, all_made s v p, count_app p (edges_by (Content (next_cown s)) (targets_of_value v)) (edges s), content_owns s.rows (next_cown s) o (Some v))

pub made_refusal : (s : State) (v : Value) → content_fault (made_result s v) v ≡ refusal_as_content s None v
made_refusal s value.None = refl
made_refusal s (value.Bool b) = refl
made_refusal s (value.Int n) = refl
made_refusal s (value.Text t) = refl
made_refusal s (value.Cown d) = refl
made_refusal s (value.Obj o) =
    let none : counted o None ≡ 0 = refl in
    by_owner s (made_result s (value.Obj o)) None o (omega (arith, none, made_owners s (value.Obj o) o, itself_once o)) (owner_of s o)

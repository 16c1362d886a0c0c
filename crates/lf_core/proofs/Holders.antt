-- The running behaviours with one more, and without one.
use Rattle.std.proofs.Common.{Bool, List, [], ap, cond, eqb, false, inl, inr, length, ltb, not, refl, suc, sym, true, ℕ, ◌||◌, ◌∙◌, ◌∷◌, ◌≡◌}
use Rattle.std.specs.List.{list_any}
use Rattle.std.proofs.lemmas.Bool.{eqb-true, eqb-false, eq-eqb, ne_eqb}
use Rattle.lf_base.proofs.ListLemmas.Filters.{Member_filter, Member_of_filter}
use Rattle.lf_base.proofs.ListLemmas.Members.{Member_any, any_Member}
use Rattle.lf_base.specs.declared.behaviours.Job.{Job}
use Rattle.lf_base.specs.declared.ids.CownId.{CownId}
use Rattle.lf_base.specs.Sets.{Member}
use Rattle.lf_core.specs.Tracks.{Apart, holds}
use Rattle.lf_core.proofs.Tests.{is_false, not_true}
use Rattle.lf_queue.specs.Queues.{is_running, with_holder, without_holder}
use Rattle.lf_queue.specs.Ready.{Holder, among}

-- ---- numbers that differ
abbrev pub other : ℕ → Job → Bool
other b j = not (eqb j.id b)

pub not_same : (b : ℕ) (j : Job) → other b j ≡ true → b ≡ j.id → ⊥
not_same b j e same = eqb-false j.id b (not_true (eqb j.id b) e) (sym same)

pub is_other : (b : ℕ) (j : Job) → (b ≡ j.id → ⊥) → other b j ≡ true
is_other b j h = ap not (ne_eqb j.id b (λ e. h (sym e)))

-- ---- who runs, and who holds a cown
pub runs_Member : (hs : List Holder) (b : ℕ) → is_running hs b ≡ true → (h : Holder) × (Member h hs × (h.id ≡ b))
runs_Member hs b e = let r = any_Member (λ (h : Holder). eqb h.id b) hs e in (r.0, (r.1.0, eqb-true (r.0).id b r.1.1))

pub Member_runs : (hs : List Holder) (h : Holder) (b : ℕ) → Member h hs → h.id ≡ b → is_running hs b ≡ true
Member_runs hs h b m e = Member_any (λ (h : Holder). eqb h.id b) h hs m (eq-eqb h.id b e)

pub holds_Member : (hs : List Holder) (c : CownId) → holds hs c ≡ true → (h : Holder) × (Member h hs × (among h.cowns c ≡ true))
holds_Member hs c e = any_Member (λ (h : Holder). among h.cowns c) hs e

pub Member_holds : (hs : List Holder) (h : Holder) (c : CownId) → Member h hs → among h.cowns c ≡ true → holds hs c ≡ true
Member_holds hs h c m e = Member_any (λ (h : Holder). among h.cowns c) h hs m e

-- ---- one more
swapped : (a b c : Bool) → (a || (b || c)) ≡ (b || (a || c))
swapped true true c = refl
swapped true false c = refl
swapped false b c = refl

pub any_with : (p : Holder → Bool) (x : Holder) (hs : List Holder) → list_any p (with_holder x hs) ≡ (p x || list_any p hs)
any_with p x [] = refl
any_with p x (h ∷ hs) = elim (ltb x.id h.id) as (λ b. list_any p (cond b (x ∷ h ∷ hs) (h ∷ with_holder x hs)) ≡ (p x || (p h || list_any p hs))) [
  | true ↦ refl
  | false ↦ ap (λ t. p h || t) (any_with p x hs) ∙ swapped (p h) (p x) (list_any p hs)
]

pub length_with : (x : Holder) (hs : List Holder) → length (with_holder x hs) ≡ suc (length hs)
length_with x [] = refl
length_with x (h ∷ hs) = elim (ltb x.id h.id) as (λ b. length (cond b (x ∷ h ∷ hs) (h ∷ with_holder x hs)) ≡ suc (suc (length hs))) [
  | true ↦ refl
  | false ↦ ap suc (length_with x hs)
]

pub with_here : (x : Holder) (hs : List Holder) → Member x (with_holder x hs)
with_here x [] = inl refl
with_here x (h ∷ hs) = elim (ltb x.id h.id) as (λ b. Member x (cond b (x ∷ h ∷ hs) (h ∷ with_holder x hs))) [ true ↦ inl refl | false ↦ inr (with_here x hs) ]

pub with_there : (x h : Holder) (hs : List Holder) → Member h hs → Member h (with_holder x hs)
with_there x h [] m = absurd m
with_there x h (k ∷ hs) m = elim (ltb x.id k.id) as (λ b. Member h (cond b (x ∷ k ∷ hs) (k ∷ with_holder x hs))) [
  | true ↦ inr m
  | false ↦ elim m [ inl e ↦ inl e | inr n ↦ inr (with_there x h hs n) ]
]

pub apart_with : (x : Holder) (hs : List Holder) → is_running hs x.id ≡ false → Apart hs → Apart (with_holder x hs)
apart_with x [] n a = (refl, tt)
apart_with x (h ∷ hs) n a = elim (ltb x.id h.id) as (λ b. Apart (cond b (x ∷ h ∷ hs) (h ∷ with_holder x hs))) [
  | true ↦ (n, a)
  | false ↦ (
    any_with (λ (k : Holder). eqb k.id h.id) x hs ∙ (λ i. turned i || a.0 i),
    apart_with x hs (rest (eqb h.id x.id) (is_running hs x.id) n).1 a.1,
  )
]
  where
    rest : (a b : Bool) → (a || b) ≡ false → (a ≡ false) × (b ≡ false)
    rest true b e = absurd cc
    rest false b e = (refl, e)

    turned : eqb x.id h.id ≡ false
    turned = ne_eqb x.id h.id (λ e. eqb-false h.id x.id (rest (eqb h.id x.id) (is_running hs x.id) n).0 (sym e))

-- ---- one less
pub left_is : (hs : List Holder) (b : ℕ) (h : Holder) → Member h (without_holder hs b) → Member h hs × (b ≡ h.id → ⊥)
left_is hs b h m = let r = Member_of_filter (λ (h : Holder). not (eqb h.id b)) h hs m in (r.0, λ e. eqb-false h.id b (not_true (eqb h.id b) r.1) (sym e))

pub in_left : (hs : List Holder) (b : ℕ) (h : Holder) → Member h hs → (b ≡ h.id → ⊥) → Member h (without_holder hs b)
in_left hs b h m n = Member_filter (λ (h : Holder). not (eqb h.id b)) h hs m (ap not (ne_eqb h.id b (λ e. n (sym e))))

pub apart_left : (b : ℕ) (hs : List Holder) → Apart hs → Apart (without_holder hs b)
apart_left b [] a = a
apart_left b (h ∷ hs) a = elim (not (eqb h.id b)) as (λ t. Apart (cond t (h ∷ without_holder hs b) (without_holder hs b))) [
  | true ↦ (is_false _ (λ e. let x = runs_Member (without_holder hs b) h.id e in let bad = Member_runs hs x.0 h.id (left_is hs b x.0 x.1.0).0 x.1.1 in let u = a.0 in cc), apart_left b hs a.1)
  | false ↦ apart_left b hs a.1
]

none_left : (b : ℕ) (hs : List Holder) → is_running hs b ≡ false → without_holder hs b ≡ hs
none_left b [] n = refl
none_left b (h ∷ hs) n = elim (eqb h.id b) as (λ t. (t || is_running hs b) ≡ false → cond (not t) (h ∷ without_holder hs b) (without_holder hs b) ≡ h ∷ hs) [
  | true ↦ λ e. absurd cc
  | false ↦ λ e. ap (λ l. h ∷ l) (none_left b hs e)
] n

pub one_less : (b : ℕ) (hs : List Holder) → Apart hs → is_running hs b ≡ true → suc (length (without_holder hs b)) ≡ length hs
one_less b [] a e = absurd cc
one_less b (h ∷ hs) a e = elim (eqb h.id b) as (λ t. eqb h.id b ≡ t → (t || is_running hs b) ≡ true → suc (length (cond (not t) (h ∷ without_holder hs b) (without_holder hs b))) ≡ suc (length hs)) [
  | true ↦ λ q r. ap (λ l. suc (length l)) (none_left b hs (ap (is_running hs) (sym (eqb-true h.id b q)) ∙ a.0))
  | false ↦ λ q r. ap suc (one_less b hs a.1 r)
] refl e

pub one_of : (hs : List Holder) → Apart hs → (h k : Holder) → Member h hs → Member k hs → h.id ≡ k.id → h ≡ k
one_of [] a h k m n e = absurd m
one_of (x ∷ hs) a h k (inl p) (inl q) e = sym p ∙ q
one_of (x ∷ hs) a h k (inl p) (inr q) e = absurd (let bad = Member_runs hs k x.id q (sym e ∙ ap (λ (y : Holder). y.id) (sym p)) in let u = a.0 in cc)
one_of (x ∷ hs) a h k (inr p) (inl q) e = absurd (let bad = Member_runs hs h x.id p (e ∙ ap (λ (y : Holder). y.id) (sym q)) in let u = a.0 in cc)
one_of (x ∷ hs) a h k (inr p) (inr q) e = one_of hs a.1 h k p q e

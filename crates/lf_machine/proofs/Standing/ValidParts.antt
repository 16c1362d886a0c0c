-- What valid code says of one body and of one of its instructions.
use Rattle.std.proofs.Common.{Bool, List, Option, Some, None, [], ap, arith, false, length, refl, subst, suc, true, zero, ℕ, ◌&&◌, ◌∙◌, ◌∷◌, ◌≡◌, ◌≤◌}
use Rattle.std.specs.Prelude.{nat_le, slice_get}
use Rattle.std.specs.List.{AllByRecursion, list_all}
use Rattle.std.proofs.lemmas.Bool.{eqb-true, leb-true}
use Rattle.lf_code.specs.declared.body.Body.{Body}
use Rattle.lf_code.specs.declared.body.Placed.{Placed}
use Rattle.lf_code.specs.CodeStep.{Program, vars_at, vars_of}
use Rattle.lf_code.specs.ValidCode.{ValidCode, bodies_fit, body_fits, ends_in_return, has_params, instr_fits, instrs_fit}

pub first_of : (a b : Bool) → (a && b) ≡ true → a ≡ true
first_of true b e = refl
first_of false b e = e

pub second_of : (a b : Bool) → (a && b) ≡ true → b ≡ true
second_of true b e = e
second_of false b e = absurd (cc)

-- one of a list all of which pass a test
pub passes_at : {X : Type 0} (test : X → Bool) (xs : List X) (n : ℕ) (x : X) → list_all test xs ≡ true → slice_get xs n ≡ Some x → test x ≡ true
passes_at test [] n x all e = absurd (cc)
passes_at test (y ∷ ys) zero x all e = let same : x ≡ y = cc in ap test same ∙ first_of (test y) (list_all test ys) all
passes_at test (y ∷ ys) (suc n) x all e = passes_at test ys n x (second_of (test y) (list_all test ys) all) e

pub holds_at : {X : Type 0} (P : X → Type 0) (xs : List X) (n : ℕ) (x : X) → AllByRecursion P xs → slice_get xs n ≡ Some x → P x
holds_at P [] n x all e = absurd (cc)
holds_at P (y ∷ ys) zero x all e = let same : y ≡ x = cc in subst P same all.0
holds_at P (y ∷ ys) (suc n) x all e = holds_at P ys n x all.1 e

module _ (bodies : List Body) (texts : ℕ) where
  pub fits_at : (bs : List Body) (n : ℕ) (b : Body) → bodies_fit bodies texts bs ≡ true → slice_get bs n ≡ Some b → body_fits bodies texts b ≡ true
  fits_at [] n b all e = absurd (cc)
  fits_at (y ∷ ys) zero b all e =
      let same : b ≡ y = cc in ap (body_fits bodies texts) same ∙ first_of (body_fits bodies texts y) (bodies_fit bodies texts ys) all
  fits_at (y ∷ ys) (suc n) b all e = fits_at ys n b (second_of (body_fits bodies texts y) (bodies_fit bodies texts ys) all) e

  module _ (vars addresses : ℕ) where
    pub instr_fits_at : (is : List Placed) (n : ℕ) (i : Placed) → instrs_fit bodies texts vars addresses is ≡ true → slice_get is n ≡ Some i
        → instr_fits bodies texts vars addresses i.instr ≡ true
    instr_fits_at [] n i all e = absurd (cc)
    instr_fits_at (y ∷ ys) zero i all e =
        let same : i ≡ y = cc in
        ap (λ (j : Placed). instr_fits bodies texts vars addresses j.instr) same
        ∙ first_of (instr_fits bodies texts vars addresses y.instr) (instrs_fit bodies texts vars addresses ys) all
    instr_fits_at (y ∷ ys) (suc n) i all e =
        instr_fits_at ys n i (second_of (instr_fits bodies texts vars addresses y.instr) (instrs_fit bodies texts vars addresses ys) all) e

  pub params_fit : (b : Body) → body_fits bodies texts b ≡ true → b.params ≤ b.vars
  params_fit b e = leb-true b.params b.vars (first_of (nat_le b.params b.vars) _ e)

  pub list_fits : (b : Body) → body_fits bodies texts b ≡ true → instrs_fit bodies texts b.vars (length b.list) b.list ≡ true
  list_fits b e =
      second_of (ends_in_return b.list) (instrs_fit bodies texts b.vars (length b.list) b.list)
      (second_of (nat_le b.params b.vars) (ends_in_return b.list && instrs_fit bodies texts b.vars (length b.list) b.list) e)

-- a body with that many parameters
pub record HasParams (bodies : List Body) (body count : ℕ) : Type 0 where
  pub called : Body
  pub there : slice_get bodies body ≡ Some called
  pub many : called.params ≡ count

has_by : (bodies : List Body) (body count : ℕ) (o : Option Body) → slice_get bodies body ≡ o → has_params o count ≡ true → HasParams bodies body count
has_by bodies body count None at e = absurd (cc)
has_by bodies body count (Some b) at e = record { called = b; there = at; many = eqb-true b.params count e }

pub params_at : (bodies : List Body) (body count : ℕ) → has_params (slice_get bodies body) count ≡ true → HasParams bodies body count
params_at bodies body count e = has_by bodies body count (slice_get bodies body) refl e

pub valid_bodies : (p : Program) → ValidCode p → bodies_fit p.bodies (length p.texts) p.bodies ≡ true
valid_bodies p v = second_of (has_params (slice_get p.bodies 0) 0) (bodies_fit p.bodies (length p.texts) p.bodies) v.fits

-- a call's operands are no more than the variables of its body
pub params_within : (p : Program) → ValidCode p → (body count : ℕ) → has_params (slice_get p.bodies body) count ≡ true → count ≤ vars_at p body
params_within p v body count e =
    let has : HasParams p.bodies body count = params_at p.bodies body count e in
    let vars : vars_at p body ≡ has.called.vars = ap vars_of has.there in
    let few : has.called.params ≤ has.called.vars =
    params_fit p.bodies (length p.texts) has.called (fits_at p.bodies (length p.texts) p.bodies body has.called (valid_bodies p v) has.there) in
    omega (arith, has.many, vars, few)

-- The refusals of functions and of parameters, taken one by one.
use Rattle.std.proofs.Common.{◌≡◌, ◌<◌, ◌+◌, ℕ, Bool, not, length, take, get_or, List, [], ◌∷◌, ◌++◌, is_some, ap, sym, ◌∙◌, append_assoc}
use Rattle.std.proofs.Common.{append-nil, Option}
use Rattle.lf_base.specs.declared.refusals.Refusal.{Refusal}
use Rattle.lf_base.specs.declared.refusals.RefusalKind.{RefusalKind}
use Rattle.lf_base.specs.declared.refusals.RefusalKind.TheVariants.{DuplicateFunction, DuplicateName}
use Rattle.std.proofs.Math.Bool.{not-not}
use Rattle.std.proofs.lemmas.List.{take_more}
use Rattle.lf_base.specs.Texts.{Text}
use Rattle.lf_parser.specs.declared.name.Name.{Name}
use Rattle.lf_parser.specs.Plain.{PlainFunction}
use Rattle.std.proofs.lemmas.List.Sums.{fold-append}
use Rattle.lf_codegen.specs.Earliest.{earlier_refusal, earliest}
use Rattle.lf_codegen.specs.Frames.{is_among}
use Rattle.lf_codegen.specs.Callees.{callee_of}
use Rattle.lf_codegen.specs.NameRefusals.{refusals_at, kind_where, names_refusals, repeats}

-- the refusal of one function after others
abbrev pub duplicate : List Text → List PlainFunction → PlainFunction → List Refusal
duplicate texts known f = refusals_at (kind_where (is_some (callee_of texts known f.name.id)) DuplicateFunction) f.name

pub one_function_more : (texts : List Text) (known fs : List PlainFunction) (f : PlainFunction)
    → names_refusals texts known (fs ++ f ∷ []) ≡ names_refusals texts known fs ++ duplicate texts (known ++ fs) f
one_function_more texts known [] f =
    append-nil (duplicate texts known f) ∙ ap (λ l. duplicate texts l f) (sym (append-nil known))
one_function_more texts known (g ∷ gs) f =
    ap (λ l. duplicate texts known g ++ l) (one_function_more texts (known ++ g ∷ []) gs f
    ∙ ap (λ l. names_refusals texts (known ++ g ∷ []) gs ++ duplicate texts l f) (append_assoc known (g ∷ []) gs))
    ∙ sym (append_assoc (duplicate texts known g) (names_refusals texts (known ++ g ∷ []) gs) (duplicate texts (known ++ (g ∷ gs)) f))

-- the refusal of one parameter after others
abbrev pub repeated : List Name → Name → List Refusal
repeated known x = refusals_at (kind_where (is_among x.id known) DuplicateName) x

pub one_param_more : (known xs : List Name) (x : Name) → repeats known (xs ++ x ∷ []) ≡ repeats known xs ++ repeated (known ++ xs) x
one_param_more known [] x = append-nil (repeated known x) ∙ ap (λ l. repeated l x) (sym (append-nil known))
one_param_more known (y ∷ ys) x =
    ap (λ l. repeated known y ++ l) (one_param_more (known ++ y ∷ []) ys x
    ∙ ap (λ l. repeats (known ++ y ∷ []) ys ++ repeated l x) (append_assoc known (y ∷ []) ys))
    ∙ sym (append_assoc (repeated known y) (repeats (known ++ y ∷ []) ys) (repeated (known ++ (y ∷ ys)) x))

-- one function more was judged
pub judged_functions : (texts : List Text) (first : Option Refusal) (fs : List PlainFunction) (f : PlainFunction)
    → earliest (earliest first (names_refusals texts [] fs)) (duplicate texts fs f) ≡ earliest first
    (names_refusals texts [] (fs ++ f ∷ []))
judged_functions texts first fs f =
    sym (fold-append earlier_refusal first (names_refusals texts [] fs) (duplicate texts fs f))
    ∙ ap (earliest first) (sym (one_function_more texts [] fs f))

-- one parameter more was judged
pub judged_params : (first : Option Refusal) (xs : List Name) (x : Name)
    → earliest (earliest first (repeats [] xs)) (repeated xs x) ≡ earliest first (repeats [] (xs ++ x ∷ []))
judged_params first xs x =
    sym (fold-append earlier_refusal first (repeats [] xs) (repeated xs x)) ∙ ap (earliest first) (sym (one_param_more [] xs x))

-- one parameter more was judged, by what the calls say of it
pub param_step : (first : Option Refusal) (xs : List Name) (i : ℕ) (d : Name) → i < length xs
    → (is_new : Bool) (kind : Option RefusalKind) (old new : Option Refusal)
    → is_new ≡ not (is_among (get_or xs i d).id (take i xs)) → kind ≡ kind_where (not is_new) DuplicateName
    → new ≡ earliest old (refusals_at kind (get_or xs i d)) → old ≡ earliest first (repeats [] (take i xs))
    → new ≡ earliest first (repeats [] (take (i + 1) xs))
param_step first xs i d h is_new kind old new fresh why noted before =
    let x = get_or xs i d in
    let kind_is : kind ≡ kind_where (is_among x.id (take i xs)) DuplicateName =
    why ∙ ap (λ b. kind_where b DuplicateName) (ap not fresh ∙ not-not (is_among x.id (take i xs))) in
    noted ∙ ap (λ k. earliest old (refusals_at k x)) kind_is ∙ ap (λ o. earliest o (repeated (take i xs) x)) before
    ∙ judged_params first (take i xs) x ∙ ap (λ l. earliest first (repeats [] l)) (sym (take_more xs i d h))

-- three lists, one after another
pub in_three : (first : Option Refusal) (a b c : List Refusal) → earliest (earliest (earliest first a) b) c ≡ earliest first (a ++ (b ++ c))
in_three first a b c = sym (fold-append earlier_refusal first a (b ++ c) ∙ fold-append earlier_refusal (earliest first a) b c)

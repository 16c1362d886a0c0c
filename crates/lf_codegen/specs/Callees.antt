-- What may be called, and with how many arguments.
use Rattle.std.specs.Prelude.{ℕ, true, false, List, [], ◌∷◌, length, codes, Option, Some, None, if◌then◌else◌}
use Rattle.std.specs.Str.{bytes_eq}
use Rattle.lf_base.specs.declared.limits.TheConstants.{MOST_PARTS}
use Rattle.lf_base.specs.declared.ids.TextId.{TextId}
use Rattle.lf_base.specs.Texts.{Text, text_at, same_text}
use Rattle.lf_parser.specs.Plain.{PlainFunction}
use Rattle.lf_code.specs.declared.instr.AskName.TheVariants.{Borrowed, Close, IsClosed, OpenChildren, Owner, Refs}
use Rattle.lf_code.specs.declared.instr.BuiltName.TheVariants.{Cown, Dissolve, Freeze, Merge, Print, Region}
use Rattle.lf_codegen.specs.declared.callee.Callee.{Callee}
use Rattle.lf_codegen.specs.declared.called.Called.{Called}
use Rattle.lf_codegen.specs.declared.called.Called.TheVariants.{Built, Question}

-- a callee that takes from least to most arguments
abbrev pub callee_taking : ℕ → ℕ → Callee
callee_taking least most = record { least = least; most = most; asks = false }

-- a question, of one variable
abbrev pub question : Callee
question = record { least = 1; most = 1; asks = true }

-- a built-in call: its name, what may be given to it, and what it calls
pub record BuiltIn : Type 0 where
  pub name : Text
  pub callee : Callee
  pub called : Called

abbrev pub built_in_named : List ℕ → Callee → Called → BuiltIn
built_in_named name callee called = record { name = name; callee = callee; called = called }

-- the built-in calls
abbrev pub built_ins : List BuiltIn
built_ins =
    built_in_named (codes "print") (callee_taking 0 MOST_PARTS) (Built Print)
    ∷ built_in_named (codes "Region") (callee_taking 0 0) (Built Region)
    ∷ built_in_named (codes "Cown") (callee_taking 1 1) (Built Cown)
    ∷ built_in_named (codes "freeze") (callee_taking 1 1) (Built Freeze)
    ∷ built_in_named (codes "merge") (callee_taking 2 2) (Built Merge)
    ∷ built_in_named (codes "dissolve") (callee_taking 1 1) (Built Dissolve)
    ∷ built_in_named (codes "close") question (Question Close)
    ∷ built_in_named (codes "refs") question (Question Refs)
    ∷ built_in_named (codes "borrowed") question (Question Borrowed)
    ∷ built_in_named (codes "open_children") question (Question OpenChildren)
    ∷ built_in_named (codes "owner") question (Question Owner)
    ∷ built_in_named (codes "is_closed") question (Question IsClosed)
    ∷ []

-- the callee of this name among some built-in calls
abbrev pub built_in_among : List BuiltIn → Text → Option Callee
built_in_among [] text = None
built_in_among (b ∷ bs) text = if bytes_eq text b.name then Some b.callee else built_in_among bs text

unfoldable pub built_in : Text → Option Callee
built_in text = built_in_among built_ins text

-- the number of parameters of the first function of a name
abbrev pub params_of : List PlainFunction → TextId → Option ℕ
params_of [] id = None
params_of (f ∷ fs) id = if same_text id f.name.id then Some (length f.params) else params_of fs id

abbrev pub exactly : Option ℕ → Option Callee
exactly None = None
exactly (Some count) = Some (callee_taking count count)

-- a built-in call goes before a function
abbrev pub built_in_or : Option Callee → Option ℕ → Option Callee
built_in_or (Some callee) params = Some callee
built_in_or None params = exactly params

-- what a call of a name means
abbrev pub callee_of : List Text → List PlainFunction → TextId → Option Callee
callee_of texts functions id = built_in_or (built_in (text_at texts id.index)) (params_of functions id)

-- The listing of code: a line for each body, and one for each of its instructions.
use Rattle.std.specs.Prelude.{Bool, List, [], codes, cond, false, flat_map, nat_eq, true, ℕ, ◌++◌, ◌+◌, ◌||◌, ◌∷◌}
use Rattle.std.specs.Fmt.{decimal, signed_decimal}
use Rattle.lf_base.specs.declared.values.Op.{Op}
use Rattle.lf_base.specs.declared.values.Op.TheVariants as op
use Rattle.lf_base.specs.Texts.{Text, text_at}
use Rattle.lf_code.specs.declared.body.Body.{Body}
use Rattle.lf_code.specs.declared.body.BodyName.{BodyName}
use Rattle.lf_code.specs.declared.body.BodyName.TheVariants as name
use Rattle.lf_code.specs.declared.body.Placed.{Placed}
use Rattle.lf_code.specs.declared.instr.AskName.{AskName}
use Rattle.lf_code.specs.declared.instr.AskName.TheVariants as ask
use Rattle.lf_code.specs.declared.instr.BuiltName.{BuiltName}
use Rattle.lf_code.specs.declared.instr.BuiltName.TheVariants as built
use Rattle.lf_code.specs.declared.instr.Instr.{Instr}
use Rattle.lf_code.specs.declared.instr.Instr.TheVariants as instr
use Rattle.lf_code.specs.declared.instr.Prefix.{Prefix}
use Rattle.lf_code.specs.declared.instr.Prefix.TheVariants as prefix
use Rattle.lf_code.specs.CodeStep.{Program}

-- parts, one after another
abbrev pub joined : List (List ℕ) → List ℕ
joined parts = flat_map (λ part. part) parts

-- what is written of each item, which is told its number, counted from n
abbrev pub numbered : {X : Type 0} → (ℕ → X → List ℕ) → ℕ → List X → List ℕ
numbered f n [] = []
numbered f n (x ∷ xs) = f n x ++ numbered f (n + 1) xs

-- a quotation mark or a backslash is written as a pair
abbrev pub quoted_byte : ℕ → List ℕ
quoted_byte b = cond (nat_eq b 34 || nat_eq b 92) (92 ∷ b ∷ []) (b ∷ [])

-- a text in quotation marks
abbrev pub quoted : Text → List ℕ
quoted text = joined (codes "\"" ∷ flat_map quoted_byte text ∷ codes "\"" ∷ [])

abbrev pub truth_word : Bool → List ℕ
truth_word true = codes "True"
truth_word false = codes "False"

abbrev pub prefix_sign : Prefix → List ℕ
prefix_sign prefix.Neg = codes "-"
prefix_sign prefix.Not = codes "not"

abbrev pub op_sign : Op → List ℕ
op_sign op.Add = codes "+"
op_sign op.Sub = codes "-"
op_sign op.Mul = codes "*"
op_sign op.Div = codes "/"
op_sign op.Rem = codes "%"
op_sign op.Lt = codes "<"
op_sign op.Le = codes "<="
op_sign op.Gt = codes ">"
op_sign op.Ge = codes ">="
op_sign op.Eq = codes "=="
op_sign op.Ne = codes "!="

abbrev pub built_word : BuiltName → List ℕ
built_word built.Print = codes "print"
built_word built.Region = codes "Region"
built_word built.Cown = codes "Cown"
built_word built.Freeze = codes "freeze"
built_word built.Merge = codes "merge"
built_word built.Dissolve = codes "dissolve"

abbrev pub ask_word : AskName → List ℕ
ask_word ask.Close = codes "close"
ask_word ask.Refs = codes "refs"
ask_word ask.Borrowed = codes "borrowed"
ask_word ask.OpenChildren = codes "open_children"
ask_word ask.Owner = codes "owner"
ask_word ask.IsClosed = codes "is_closed"

-- a word with a number
abbrev pub with_number : List ℕ → ℕ → List ℕ
with_number word n = joined (word ∷ codes " " ∷ decimal n ∷ [])

-- a variable, after a space
abbrev pub spaced : ℕ → List ℕ
spaced v = joined (codes " " ∷ decimal v ∷ [])

-- a word and variables
abbrev pub with_vars : List ℕ → List ℕ → List ℕ
with_vars word vars = word ++ flat_map spaced vars

-- a `when`: its body, and the variables of its cowns and of its captures
abbrev pub when_words : ℕ → List ℕ → List ℕ → List ℕ
when_words body cowns captures = with_number (codes "when") body ++ (with_vars (codes " cowns") cowns ++ with_vars (codes " with") captures)

-- an instruction with its arguments
abbrev pub instr_words : List Text → Instr → List ℕ
instr_words texts instr.Tick = codes "tick"
instr_words texts instr.None = codes "none"
instr_words texts (instr.Bool b) = joined (codes "bool " ∷ truth_word b ∷ [])
instr_words texts (instr.Int n) = joined (codes "int " ∷ signed_decimal n ∷ [])
instr_words texts (instr.Text t) = codes "text " ++ quoted (text_at texts t.index)
instr_words texts (instr.Get v) = with_number (codes "get") v
instr_words texts (instr.Take v) = with_number (codes "take") v
instr_words texts (instr.Set v) = with_number (codes "set") v
instr_words texts (instr.Drop v) = with_number (codes "drop") v
instr_words texts instr.Object = codes "object"
instr_words texts instr.Read = codes "read"
instr_words texts instr.Write = codes "write"
instr_words texts instr.Remove = codes "remove"
instr_words texts (instr.Unary sign) = joined (codes "unary " ∷ prefix_sign sign ∷ [])
instr_words texts (instr.Binary sign) = joined (codes "binary " ∷ op_sign sign ∷ [])
instr_words texts (instr.Jump a) = with_number (codes "jump") a
instr_words texts (instr.Unless a) = with_number (codes "unless") a
instr_words texts (instr.And a) = with_number (codes "and") a
instr_words texts (instr.Or a) = with_number (codes "or") a
instr_words texts instr.Test = codes "test"
instr_words texts (instr.Call body count) = joined (codes "call " ∷ decimal body ∷ codes " " ∷ decimal count ∷ [])
instr_words texts instr.Return = codes "return"
instr_words texts (instr.Built name count) = joined (codes "built " ∷ built_word name ∷ codes " " ∷ decimal count ∷ [])
instr_words texts (instr.Ask name v) = joined (codes "ask " ∷ ask_word name ∷ codes " " ∷ decimal v ∷ [])
instr_words texts (instr.When body cowns captures) = when_words body cowns captures
instr_words texts instr.Pop = codes "pop"

-- the address of an instruction, and the line of its faults
abbrev pub place_words : ℕ → ℕ → List ℕ
place_words at line = joined (decimal at ∷ codes " " ∷ decimal line ∷ codes " " ∷ [])

-- an instruction's line
abbrev pub instr_line : List Text → ℕ → Placed → List ℕ
instr_line texts at p = joined (place_words at p.line ∷ instr_words texts p.instr ∷ codes "\n" ∷ [])

-- the word for what a body is the body of
abbrev pub body_word : List Text → BodyName → List ℕ
body_word texts name.Main = codes "main"
body_word texts (name.Function t) = text_at texts t.index
body_word texts name.When = codes "when"

-- a body's line: its number, its name, and how many parameters and variables it has
abbrev pub body_line : List Text → ℕ → Body → List ℕ
body_line texts number b =
    joined (codes "body " ∷ decimal number ∷ codes " " ∷ body_word texts b.name ∷ codes " " ∷ decimal b.params ∷ codes " " ∷ decimal b.vars
    ∷ codes "\n" ∷ [])

-- a body with all its instructions
abbrev pub body_listing : List Text → ℕ → Body → List ℕ
body_listing texts number b = body_line texts number b ++ numbered (instr_line texts) 0 b.list

-- the whole listing
abbrev pub listing : Program → List ℕ
listing p = numbered (body_listing p.texts) 0 p.bodies

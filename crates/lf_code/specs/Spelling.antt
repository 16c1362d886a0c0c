-- How `print` spells values.
use Rattle.std.specs.Prelude.{List, [], codes, false, true, ℕ, ◌++◌, ◌∷◌}
use Rattle.std.specs.Fmt.{decimal, signed_decimal}
use Rattle.lf_base.specs.declared.values.Value.{Value}
use Rattle.lf_base.specs.declared.values.Value.TheVariants as value
use Rattle.lf_base.specs.Texts.{Text, text_at}

-- an object or a cown, by its name: the word, and the two numbers with a dot between them
abbrev pub spelled_name : List ℕ → ℕ → ℕ → List ℕ
spelled_name word birth seq = word ++ (32 ∷ (decimal birth ++ 46 ∷ decimal seq))

-- a value
abbrev pub spelled : List Text → Value → List ℕ
spelled texts value.None = codes "None"
spelled texts (value.Bool true) = codes "True"
spelled texts (value.Bool false) = codes "False"
spelled texts (value.Int z) = signed_decimal z
spelled texts (value.Text t) = text_at texts t.index
spelled texts (value.Obj o) = spelled_name (codes "object") o.birth o.seq
spelled texts (value.Cown c) = spelled_name (codes "cown") c.birth c.seq

-- values, parted by one space
abbrev pub spelled_all : List Text → List Value → List ℕ
spelled_all texts [] = []
spelled_all texts (v ∷ []) = spelled texts v
spelled_all texts (v ∷ (w ∷ vs)) = spelled texts v ++ 32 ∷ spelled_all texts (w ∷ vs)

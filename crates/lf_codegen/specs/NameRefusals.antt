-- The refusals of a tree's names and calls, and which of them is the first.
use Rattle.std.specs.Prelude.{◌≡◌, ℕ, ltb, Bool, false, not, ◌&&◌, ◌||◌, List, [], ◌∷◌, ◌++◌, flat_map, Option, Some, None, is_some}
use Rattle.std.specs.Prelude.{if◌then◌else◌}
use Rattle.std.specs.Bool.{then_some}
use Rattle.lf_base.specs.declared.refusals.Refusal.{Refusal}
use Rattle.lf_base.specs.declared.refusals.RefusalKind.{RefusalKind}
use Rattle.lf_base.specs.declared.refusals.RefusalKind.TheVariants.{UnknownName, UnknownFunction, WrongArity, DuplicateFunction}
use Rattle.lf_base.specs.declared.refusals.RefusalKind.TheVariants.{DuplicateName, NotVariable}
use Rattle.lf_base.specs.declared.refusals.ReadFail.{ReadFail}
use Rattle.lf_base.specs.declared.refusals.ReadFail.TheVariants as fail
use Rattle.lf_base.specs.Sets.{Member}
use Rattle.lf_base.specs.Texts.{Text}
use Rattle.lf_parser.specs.declared.name.Name.{Name}
use Rattle.lf_parser.specs.Plain.{PlainFunction, PlainTree}
use Rattle.lf_parser.specs.TreeNames.{place_before}
use Rattle.lf_codegen.specs.declared.callee.Callee.{Callee}
use Rattle.lf_codegen.specs.declared.mention.Mention.{Mention}
use Rattle.lf_codegen.specs.declared.mention.Mention.TheVariants.{Use, Bind, Call}
use Rattle.lf_codegen.specs.Mentions.{block_mentions}
use Rattle.lf_codegen.specs.Frames.{PlainFrame, frames, bound, is_among}
use Rattle.lf_codegen.specs.Callees.{callee_of}

-- a refusal of this kind at a name, where there is one
abbrev pub refusals_at : Option RefusalKind → Name → List Refusal
refusals_at None x = []
refusals_at (Some kind) x = record { kind = kind; place = x.place } ∷ []

-- the kind, where the test holds
abbrev pub kind_where : Bool → RefusalKind → Option RefusalKind
kind_where test kind = then_some test kind

-- the number of arguments isn't one that the callee takes
abbrev pub misfits : Callee → ℕ → Bool
misfits callee count = ltb count callee.least || ltb callee.most count

-- why a call of so many arguments is refused
abbrev pub call_refusal : Option Callee → ℕ → Bool → Option RefusalKind
call_refusal None count of_variable = Some UnknownFunction
call_refusal (Some callee) count of_variable =
    if misfits callee count then Some WrongArity else kind_where (callee.asks && not of_variable) NotVariable

-- the refusal of a mention, in a frame in which these names are bound
abbrev pub mention_refusals : List Text → List PlainFunction → List Name → Mention → List Refusal
mention_refusals texts functions names (Use x) = refusals_at (kind_where (not (is_among x.id names)) UnknownName) x
mention_refusals texts functions names (Bind x) = []
mention_refusals texts functions names (Call x count of_variable) =
    refusals_at (call_refusal (callee_of texts functions x.id) count of_variable) x

abbrev pub frame_refusals : List Text → List PlainFunction → PlainFrame → List Refusal
frame_refusals texts functions f = flat_map (mention_refusals texts functions (bound f)) (block_mentions f.body)

-- the refusals of parameters, where these come before them: each that has the name of an earlier one
abbrev pub repeats : List Name → List Name → List Refusal
repeats earlier [] = []
repeats earlier (x ∷ xs) = refusals_at (kind_where (is_among x.id earlier) DuplicateName) x ++ repeats (earlier ++ x ∷ []) xs

abbrev pub params_refusals : PlainFunction → List Refusal
params_refusals f = repeats [] f.params

-- the refusals of functions, where these come before them: each whose name the built-in calls or an earlier function have
abbrev pub names_refusals : List Text → List PlainFunction → List PlainFunction → List Refusal
names_refusals texts earlier [] = []
names_refusals texts earlier (f ∷ fs) =
    refusals_at (kind_where (is_some (callee_of texts earlier f.name.id)) DuplicateFunction) f.name
    ++ names_refusals texts (earlier ++ f ∷ []) fs

-- all refusals of a tree's names and calls
abbrev pub refusals : List Text → PlainTree → List Refusal
refusals texts tree =
    names_refusals texts [] tree.functions
    ++ (flat_map params_refusals tree.functions ++ flat_map (frame_refusals texts tree.functions) (frames tree))

-- no refusal of names and calls applies
abbrev pub Resolves : List Text → PlainTree → Type 0
Resolves texts tree = refusals texts tree ≡ []

-- the refusal is one of these, and none of them stands before it
pub record IsFirstOf (all : List Refusal) (refusal : Refusal) : Type 0 where
  pub is_there : Member refusal all
  pub least : (other : Refusal) → Member other all → place_before other.place refusal.place ≡ false

-- what failing says of a tree: want of memory may come at any
abbrev pub ResolveFailsAs : List Text → PlainTree → ReadFail → Type 0
ResolveFailsAs texts tree (fail.Refused refusal) = IsFirstOf (refusals texts tree) refusal
ResolveFailsAs texts tree fail.OutOfMemory = Unit {0}

-- The names of the kinds of refusal.
use Rattle.std.specs.Prelude.{ℕ, List, codes}
use Rattle.lf_base.specs.declared.refusals.RefusalKind.{RefusalKind}
use Rattle.lf_base.specs.declared.refusals.RefusalKind.TheVariants.{BadByte, BadIndent, OpenText, WideNumber, TooDeepIndent, Unexpected}
use Rattle.lf_base.specs.declared.refusals.RefusalKind.TheVariants.{TooDeepExpr, TooManyParts, UnknownName, UnknownFunction, WrongArity}
use Rattle.lf_base.specs.declared.refusals.RefusalKind.TheVariants.{DuplicateFunction, DuplicateName, NotVariable, NotBuilt}

-- a kind's name, in bytes
abbrev pub kind_name : RefusalKind → List ℕ
kind_name BadByte = codes "BadByte"
kind_name BadIndent = codes "BadIndent"
kind_name OpenText = codes "OpenText"
kind_name WideNumber = codes "WideNumber"
kind_name TooDeepIndent = codes "TooDeepIndent"
kind_name Unexpected = codes "Unexpected"
kind_name TooDeepExpr = codes "TooDeepExpr"
kind_name TooManyParts = codes "TooManyParts"
kind_name UnknownName = codes "UnknownName"
kind_name UnknownFunction = codes "UnknownFunction"
kind_name WrongArity = codes "WrongArity"
kind_name DuplicateFunction = codes "DuplicateFunction"
kind_name DuplicateName = codes "DuplicateName"
kind_name NotVariable = codes "NotVariable"
kind_name NotBuilt = codes "NotBuilt"

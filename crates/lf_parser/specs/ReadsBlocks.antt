-- A function value that reads a block.
use Rattle.std.specs.Prelude.{ℕ, ◌-◌, ◌<◌, Result, List, map}
use Rattle.std.specs.declared.alloc.Global.{Global}
use denote.Ref.{MutBor}
use Rattle.lf_lexer.specs.declared.tokens.Token.{Token}
use Rattle.lf_parser.specs.declared.stmt.Stmt.{Stmt}
use Rattle.lf_parser.specs.declared.halt.Halt.{Halt}
use Rattle.lf_parser.specs.Plain.{plain_stmt}
use Rattle.lf_parser.specs.Parsers.{Reads}
use Rattle.lf_parser.specs.ReadingFunctions.{block_from}
use Rattle.lf_parser.specs.Limits.{within_blocks}

pub record ReadsBlocks (pre : Global → MutBor (List Token) → ℕ → Type 0)
    (post : Global → MutBor (List Token) → ℕ → Result (List Stmt) Halt → MutBor (List Token) → Type 0) (nest : ℕ) : Type 0 where
  pub callable : (alloc : Global) (old : MutBor (List Token)) → 0 < nest → pre alloc old (nest - 1)
  pub reads : (alloc : Global) (old new : MutBor (List Token)) (result : Result (List Stmt) Halt) → post alloc old (nest - 1) result new
      → 0 < nest → Reads (map plain_stmt) (within_blocks block_from (nest - 1) old.now) result new.now

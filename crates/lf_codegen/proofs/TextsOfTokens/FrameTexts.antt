-- The texts of each frame are among those of the tree.
use Rattle.std.proofs.Common.{◌≡◌, List, [], ◌∷◌, ◌++◌, map, flat_map, sym, subst, inl, inr}
use Rattle.lf_base.specs.declared.ids.TextId.{TextId}
use Rattle.lf_base.specs.Sets.{Member}
use Rattle.lf_base.proofs.ListLemmas.Members.{Member_left, Member_right, Member_of_map, Member_of_append, Member_flat_map}
use Rattle.lf_base.proofs.ListLemmas.Members.{Member_of_flat_map}
use Rattle.lf_parser.specs.Plain.{PlainStmt, PlainBlock, PlainFunction, PlainTree, no_stmts, stmt}
use Rattle.lf_parser.specs.Plain as plain
use Rattle.lf_codegen.specs.Frames.{PlainFrame, stmt_whens, block_whens, function_whens, frame_line, when_frames, function_frame, frames}
use Rattle.lf_codegen.specs.TextsNamed.{expr_texts, stmt_texts, block_texts, function_texts, tree_texts}
use Rattle.lf_codegen.proofs.OverLists.StableSorts.{of_rising}

in_parts : (f : PlainFrame) (t : TextId) (fs gs : List PlainFrame) (ts us : List TextId) → (Member f fs → Member t ts) → (Member f gs
    → Member t us)
    → Member f (fs ++ gs) → Member t (ts ++ us)
in_parts f t fs gs ts us p q m = elim (Member_of_append f fs gs m) [
  | inl k ↦ Member_left t ts us (p k)
  | inr k ↦ Member_right t ts us (q k)
]

mutual
  stmt_when_texts : (st : PlainStmt) (f : PlainFrame) (t : TextId) → Member t (block_texts f.body) → Member f (stmt_whens st) → Member t
      (stmt_texts st)
  stmt_when_texts (plain.Assign line x value) f t k m = absurd m
  stmt_when_texts (plain.Store line target key value) f t k m = absurd m
  stmt_when_texts (plain.Drop line x) f t k m = absurd m
  stmt_when_texts (plain.Return line value) f t k m = absurd m
  stmt_when_texts (plain.Pass line) f t k m = absurd m
  stmt_when_texts (plain.Eval line value) f t k m = absurd m
  stmt_when_texts (plain.If line test body other) f t k m =
      Member_right t (expr_texts test) (block_texts body ++ block_texts other)
      (in_parts f t (block_whens body) (block_whens other) (block_texts body) (block_texts other)
      (block_when_texts body f t k) (block_when_texts other f t k) m)
  stmt_when_texts (plain.While line test body) f t k m = Member_right t (expr_texts test) (block_texts body) (block_when_texts body f t k m)
  stmt_when_texts (plain.When line cowns captures body) f t k (inl e) = subst (λ g. Member t (block_texts g.body)) (sym e) k
  stmt_when_texts (plain.When line cowns captures body) f t k (inr m) = block_when_texts body f t k m

  block_when_texts : (b : PlainBlock) (f : PlainFrame) (t : TextId) → Member t (block_texts f.body) → Member f (block_whens b) → Member t
      (block_texts b)
  block_when_texts no_stmts f t k m = absurd m
  block_when_texts (stmt st ss) f t k m =
      in_parts f t (stmt_whens st) (block_whens ss) (stmt_texts st) (block_texts ss) (stmt_when_texts st f t k)
      (block_when_texts ss f t k) m

module _ (tree : PlainTree) where
  of_function : (f : PlainFunction) (t : TextId) → Member f tree.functions → Member t (block_texts f.body) → Member t (tree_texts tree)
  of_function f t m k =
      Member_left t (flat_map function_texts tree.functions) (block_texts tree.main) (Member_flat_map function_texts f t tree.functions m k)

  of_when : (f : PlainFrame) (t : TextId) → Member f (when_frames tree) → Member t (block_texts f.body) → Member t (tree_texts tree)
  of_when f t m k = elim (Member_of_append f (flat_map function_whens tree.functions) (block_whens tree.main)
      (of_rising frame_line f _ m)) [
        | inl l ↦ let at = Member_of_flat_map function_whens f tree.functions l in
            of_function at.0 t at.1.0 (block_when_texts (at.0).body f t k at.1.1)
        | inr l ↦ Member_right t (flat_map function_texts tree.functions) (block_texts tree.main) (block_when_texts tree.main f t k l)
      ]

  pub frame_texts : (f : PlainFrame) (t : TextId) → Member f (frames tree) → Member t (block_texts f.body) → Member t (tree_texts tree)
  frame_texts f t (inl e) k =
      Member_right t (flat_map function_texts tree.functions) (block_texts tree.main) (subst (λ g. Member t (block_texts g.body)) (sym e) k)
  frame_texts f t (inr m) k = elim (Member_of_append f (map function_frame tree.functions) (when_frames tree) m) [
    | inl l ↦ let at = Member_of_map function_frame f tree.functions l in
        of_function at.0 t at.1.0 (subst (λ g. Member t (block_texts g.body)) (sym at.1.1) k)
    | inr l ↦ of_when f t l k
  ]

-- No two refusals of names and calls stand at one place.
use Rattle.std.proofs.Common.{◌≡◌, ℕ, ◌+◌, ◌≤◌, List, [], ◌∷◌, ◌++◌, Bool, cond, map, flat_map, sum_by, count_by, Option, Some, None}
use Rattle.std.proofs.Common.{is_some, refl, arith}
use Rattle.std.proofs.lemmas.List.Sums.{sum_by-cons, sum_by-append}
use Rattle.lf_base.specs.declared.refusals.Place.{Place}
use Rattle.lf_base.specs.declared.refusals.Refusal.{Refusal}
use Rattle.lf_base.specs.declared.refusals.RefusalKind.{RefusalKind}
use Rattle.lf_base.specs.declared.refusals.RefusalKind.TheVariants.{DuplicateFunction, DuplicateName}
use Rattle.lf_base.specs.Texts.{Text}
use Rattle.lf_parser.specs.declared.name.Name.{Name}
use Rattle.lf_parser.specs.Plain.{PlainFunction, PlainTree}
use Rattle.lf_parser.specs.TreeNames.{block_names, function_names, functions_names, tree_names, same_place, stands_at}
use Rattle.lf_codegen.specs.declared.mention.Mention.{Mention}
use Rattle.lf_codegen.specs.declared.mention.Mention.TheVariants.{Use, Bind, Call}
use Rattle.lf_codegen.specs.Mentions.{block_mentions}
use Rattle.lf_codegen.specs.Frames.{PlainFrame, frame_line, block_whens, function_whens, when_frames, main_frame, function_frame, frames}
use Rattle.lf_codegen.specs.Frames.{bound, is_among}
use Rattle.lf_codegen.specs.Callees.{callee_of}
use Rattle.lf_codegen.specs.NameRefusals.{refusals_at, kind_where, mention_refusals, frame_refusals, repeats, params_refusals}
use Rattle.lf_codegen.specs.NameRefusals.{names_refusals, refusals}
use Rattle.lf_codegen.proofs.OverLists.Counted.{flat_bound}
use Rattle.lf_codegen.proofs.OverLists.StableSorts.{rising_sum}
use Rattle.lf_codegen.proofs.Mentioning.MentionedNames.{mentioned, mention_times, frame_mention_times, block_times}

module _ (place : Place) where
  abbrev pub refused_here : Refusal → Bool
  refused_here r = same_place place r.place

  abbrev refused : List Refusal → ℕ
  refused rs = count_by refused_here rs

  abbrev bit : Name → ℕ
  bit x = cond (stands_at place x) 1 0

  abbrev refusal_bit : Refusal → ℕ
  refusal_bit r = cond (refused_here r) 1 0

  abbrev params_times : PlainFunction → ℕ
  params_times f = count_by (stands_at place) f.params

  abbrev frame_times : PlainFrame → ℕ
  frame_times f = mention_times (stands_at place) (block_mentions f.body)

  abbrev in_frames : List PlainFrame → ℕ
  in_frames fs = frame_mention_times (stands_at place) fs

  at_name : (kind : Option RefusalKind) (x : Name) → refused (refusals_at kind x) ≤ bit x
  at_name None x = omega arith
  at_name (Some kind) x = omega (arith, sum_by-cons refusal_bit (record { kind = kind; place = x.place }) [])

  at_mention : (texts : List Text) (functions : List PlainFunction) (names : List Name) (m : Mention)
      → refused (mention_refusals texts functions names m) ≤ bit (mentioned m)
  at_mention texts functions names (Use x) = at_name _ x
  at_mention texts functions names (Bind x) = omega arith
  at_mention texts functions names (Call x count of_variable) = at_name _ x

  in_frame : (texts : List Text) (functions : List PlainFunction) (f : PlainFrame)
      → refused (frame_refusals texts functions f) ≤ frame_times f
  in_frame texts functions f = flat_bound refused_here (mention_refusals texts functions (bound f)) (λ m. bit (mentioned m))
      (at_mention texts functions (bound f)) (block_mentions f.body)

  in_params : (known xs : List Name) → refused (repeats known xs) ≤ count_by (stands_at place) xs
  in_params known [] = omega arith
  in_params known (x ∷ xs) =
      let kind = kind_where (is_among x.id known) DuplicateName in
      omega (
        arith,
        sum_by-append refusal_bit (refusals_at kind x) (repeats (known ++ x ∷ []) xs),
        sum_by-cons bit x xs,
        at_name kind x,
        in_params (known ++ x ∷ []) xs,
      )

  in_names : (texts : List Text) (known fs : List PlainFunction) → refused (names_refusals texts known fs) ≤ sum_by (λ f. bit f.name) fs
  in_names texts known [] = omega arith
  in_names texts known (f ∷ fs) =
      let kind = kind_where (is_some (callee_of texts known f.name.id)) DuplicateFunction in
      omega (
        arith,
        sum_by-append refusal_bit (refusals_at kind f.name) (names_refusals texts (known ++ f ∷ []) fs),
        sum_by-cons (λ (g : PlainFunction). bit g.name) f fs,
        at_name kind f.name,
        in_names texts (known ++ f ∷ []) fs,
      )

  -- the functions' names: their own, those of their parameters, and those that their frames mention
  functions_times : (fs : List PlainFunction)
      → sum_by (λ f. bit f.name) fs + (sum_by params_times fs + (in_frames (map function_frame fs) + in_frames
      (flat_map function_whens fs)))
      ≡ count_by (stands_at place) (functions_names fs)
  functions_times [] = refl
  functions_times (f ∷ fs) = omega (
    arith,
    sum_by-cons (λ (g : PlainFunction). bit g.name) f fs,
    sum_by-cons params_times f fs,
    sum_by-cons frame_times (function_frame f) (map function_frame fs),
    sum_by-append frame_times (function_whens f) (flat_map function_whens fs),
    sum_by-append bit (function_names f) (functions_names fs),
    sum_by-cons bit f.name (f.params ++ block_names f.body),
    sum_by-append bit f.params (block_names f.body),
    block_times (stands_at place) f.body,
    functions_times fs,
  )

  frames_times : (tree : PlainTree) → in_frames (frames tree)
      ≡ frame_times (main_frame tree) + (in_frames (map function_frame tree.functions)
      + (in_frames (flat_map function_whens tree.functions) + in_frames (block_whens tree.main)))
  frames_times tree =
      omega (
        arith,
        sum_by-cons frame_times (main_frame tree) (map function_frame tree.functions ++ when_frames tree),
        sum_by-append frame_times (map function_frame tree.functions) (when_frames tree),
        rising_sum frame_line frame_times (flat_map function_whens tree.functions ++ block_whens tree.main),
        sum_by-append frame_times (flat_map function_whens tree.functions) (block_whens tree.main),
      )

  -- there are no more refusals at a place than names of the tree
  pub refused_names : (texts : List Text) (tree : PlainTree)
      → count_by refused_here (refusals texts tree) ≤ count_by (stands_at place) (tree_names tree)
  refused_names texts tree =
      let fs = tree.functions in
      let names = names_refusals texts [] fs in
      let params = flat_map params_refusals fs in
      let mentions = flat_map (frame_refusals texts fs) (frames tree) in
      omega (
        arith,
        sum_by-append refusal_bit names (params ++ mentions),
        sum_by-append refusal_bit params mentions,
        in_names texts [] fs,
        flat_bound refused_here params_refusals params_times (λ f. in_params [] f.params) fs,
        flat_bound refused_here (frame_refusals texts fs) frame_times (in_frame texts fs) (frames tree),
        frames_times tree,
        functions_times fs,
        block_times (stands_at place) tree.main,
        sum_by-append bit (functions_names fs) (block_names tree.main),
      )

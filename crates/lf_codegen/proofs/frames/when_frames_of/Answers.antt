use Rattle.std.proofs.Common.{◌≡◌, ◌++◌, ◌∙◌, ap, map, flat_map, rules}
use Rattle.std.proofs.lemmas.List.Sorted.{answers_always, IsNonDecreasingBy-from_sort_by_key}
use Rattle.lf_parser.specs.Plain.{plain_block, plain_function}
use Rattle.lf_codegen.specs.declared.frame.Frame.{Frame}
use Rattle.lf_codegen.specs.Frames.{block_whens, function_whens, frame_line, rising}
use Rattle.lf_codegen.specs.TablesMean.{plain_frame, plain_frames}
use Rattle.lf_codegen.proofs.OverLists.StableSorts.{is_rising, map_rising, stable_keys}
use Rattle.lf_codegen.proofs.frames.when_frames_of.Goals as goal

pub returns : goal.returns
returns c =
    let of_main = block_whens (plain_block c.args.tree.now.main) in
    let up = IsNonDecreasingBy-from_sort_by_key (λ (f : Frame). f.line) _ c.in_ok-sort_by_key.ensures.sorted (λ a r q k. search rules) in
    let stays = stable_keys (λ (f : Frame). f.line) _ _ (c.in_ok-sort_by_key.ensures.stable (λ f. f.line)
    (answers_always _ _ _ (λ f a r g h. search rules))) in
    let found : plain_frames c.of_stmts.new.out.items ≡ flat_map function_whens (map plain_function c.args.tree.now.functions) ++ of_main =
    c.in_ok-of_stmts.ensures
    ∙ ap (λ l. plain_frames c.of_functions.new.out.items ++ block_whens (plain_block l)) c.as_slice-2.ensures
    ∙ ap (λ l. l ++ of_main) c.in_ok-of_functions.ensures
    ∙ ap (λ l. plain_frames l ++ flat_map function_whens (map plain_function c.as_slice.result.now) ++ of_main) c.new-whens.ensures.items
    ∙ ap (λ l. flat_map function_whens (map plain_function l) ++ of_main) c.as_slice.ensures in
    ap plain_frames (is_rising (λ (f : Frame). f.line) _ _ up stays) ∙ map_rising plain_frame frame_line c.of_stmts.new.out.items
    ∙ ap (rising frame_line) found

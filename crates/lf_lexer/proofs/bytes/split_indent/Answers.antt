use Rattle.std.proofs.Common.{◌∙◌, ◌+◌, ℕ, ap}
use Rattle.lf_lexer.specs.SourceLines.{full_line_len}
use Rattle.lf_lexer.proofs.LineBytes.LineRests.{full_len_after}
use Rattle.lf_lexer.proofs.LineBytes.Spaces.{indented}
use Rattle.lf_lexer.proofs.bytes.split_indent.Goals as goal

pub returns-clause-len : goal.returns-clause-len
returns-clause-len c = (indented c.args.bytes.now c.spaces_len-len.result c.split_at.result.1.now c.spaces_len-len.ensures.len c.split_at.ensures.back).indent_is

pub returns-clause-whole : goal.returns-clause-whole
returns-clause-whole c = (indented c.args.bytes.now c.spaces_len-len.result c.split_at.result.1.now c.spaces_len-len.ensures.len c.split_at.ensures.back).whole

pub returns-clause-after : goal.returns-clause-after
returns-clause-after c = (indented c.args.bytes.now c.spaces_len-len.result c.split_at.result.1.now c.spaces_len-len.ensures.len c.split_at.ensures.back).after_is

pub returns-clause-full : goal.returns-clause-full
returns-clause-full c =
    let i = indented c.args.bytes.now c.spaces_len-len.result c.split_at.result.1.now c.spaces_len-len.ensures.len c.split_at.ensures.back in
    ap (λ (n : ℕ). c.spaces_len-len.result + n) (ap full_line_len c.split_at.ensures.back) ∙ full_len_after c.spaces_len-len.result c.args.bytes.now i.within

pub returns-clause-blank : goal.returns-clause-blank
returns-clause-blank c = (indented c.args.bytes.now c.spaces_len-len.result c.split_at.result.1.now c.spaces_len-len.ensures.len c.split_at.ensures.back).blank_is

use Rattle.std.proofs.Common.{ap, ◌∙◌, ◌+◌, ◌*◌, ◌/◌, ◌-◌, ◌^◌, ◌%◌}
use Rattle.jxlm_inverse.proofs.PaletteColours.{implicit_first, implicit_second}
use Rattle.jxlm_inverse.proofs.palette.implicit_colour.Goals as goal

pub returns-then-j-lt64-clause-value : goal.returns-then-j-lt64-clause-value
returns-then-j-lt64-clause-value c =
    ap (λ q. q + c.eighth.result) (c.quarters.ensures.value ∙ ap (λ d. d * (2 ^ c.args.depth - 1) / 4) c.digit_of_four.ensures.value)
    ∙ ap (λ e. (c.args.j / 4 ^ c.args.c % 4) * (2 ^ c.args.depth - 1) / 4 + e) c.eighth.ensures.value ∙ implicit_first c.args.depth c.args.j c.args.c c.if-j-lt64.true

pub returns-else-j-lt64-clause-value : goal.returns-else-j-lt64-clause-value
returns-else-j-lt64-clause-value c =
    c.quarters-else-j-lt64.ensures.value ∙ ap (λ d. d * (2 ^ c.args.depth - 1) / 4) c.digit_of_five.ensures.value ∙ implicit_second c.args.depth c.args.j c.args.c c.if-j-lt64.false

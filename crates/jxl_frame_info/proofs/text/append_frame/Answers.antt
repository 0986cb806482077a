use Rattle.std.proofs.Common.{ℕ, ◌/◌, ◌%◌, ◌++◌, ◌∙◌, ap, string_bytes, codes}
use Rattle.std.specs.Fmt.{decimal}
use Rattle.jxl_frame_info.specs.Lines.{frame_line, tenths}
use Rattle.jxl_frame_info.proofs.TextPieces.{line_of_seven}
use Rattle.jxl_frame_info.proofs.text.append_frame.Goals as goal

pub returns : goal.returns
unfolding frame_line
returns c =
    let s = string_bytes c.args.text.now in
    let time = tenths c.args.animation c.args.ticks in
    let first = codes "frame " in
    let middle = codes ": duration: " in
    let text = ap (λ (n : ℕ). s ++ (first ++ (decimal c.args.number ++ (middle ++ (decimal (n / 10) ++ (codes "." ++ (decimal (n % 10) ++ codes " ms\n"))))))) c.tenths-time.ensures in
    line_of_seven s (string_bytes c.writeln.new.self) first (decimal c.args.number) middle (decimal (time / 10)) (codes ".") (decimal (time % 10)) (codes " ms") (c.in_ok-writeln.ensures.bytes ∙ text)

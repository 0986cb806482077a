use Rattle.std.proofs.Common.{◌≡◌, ◌∷◌, ◌++◌, [], ◌∙◌, ap, List, ℕ, string_bytes, codes}
use Rattle.std.specs.Fmt.{decimal}
use Rattle.jxl_text.specs.Printing.{line}
use Rattle.jxl_info.specs.Texts.{flag_text, rate_lines}
use Rattle.jxl_info.proofs.TextPieces.{ended_four, ended_two, three}
use Rattle.jxl_info.proofs.text.append_rate.Goals as goal

pub returns : goal.returns
unfolding rate_lines
returns c =
    let a = c.args.animation in
    let s = string_bytes c.args.text.now in
    let t = string_bytes c.writeln.new.self in
    let u = string_bytes c.writeln-2.new.self in
    let v = string_bytes c.writeln-3.new.self in
    let first = codes "ticks per second (numerator / denominator): " in
    let ticks : t ≡ s ++ line (((first ++ decimal a.tps_numerator) ++ codes " / ") ++ decimal a.tps_denominator) =
    ended_four s t first (decimal a.tps_numerator) (codes " / ") (decimal a.tps_denominator) (10 ∷ []) c.in_ok-writeln.ensures.bytes in
    let loops : u ≡ t ++ line (codes "num_loops: " ++ decimal a.num_loops) =
    ended_two t u (codes "num_loops: ") (decimal a.num_loops) (10 ∷ []) c.in_ok-writeln-2.ensures.bytes in
    let flag : v ≡ u ++ line (codes "have_timecodes: " ++ flag_text a.have_timecodes) =
    ended_two u v (codes "have_timecodes: ") c.flag_text-timecodes.result.now (10 ∷ []) c.in_ok-writeln-3.ensures.bytes
    ∙ ap (λ (n : List ℕ). u ++ line (codes "have_timecodes: " ++ n)) c.flag_text-timecodes.ensures in
    three s t u v _ _ _ ticks loops flag

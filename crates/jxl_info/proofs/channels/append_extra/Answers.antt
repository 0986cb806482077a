use Rattle.std.proofs.Common.{◌++◌, ◌∙◌, ap, List, ℕ, string_bytes, codes}
use Rattle.std.specs.Fmt.{decimal}
use Rattle.jxl_info.specs.Channels.{depth_text, extra_line, premultiplied_text, shift_text}
use Rattle.jxl_info.specs.Names.{kind_name}
use Rattle.jxl_info.proofs.TextPieces.{extra_grown}
use Rattle.jxl_info.proofs.channels.append_extra.Goals as goal

pub returns : goal.returns
unfolding extra_line
returns c =
    let k = c.args.channel.now in
    let s = string_bytes c.args.text.now in
    let first = codes "extra channel " in
    let name = ap (λ (n : List ℕ). s ++ (first ++ (decimal c.args.number ++ (codes ": " ++ (n ++ codes ", "))))) c.kind_name-name.ensures in
    extra_grown s (string_bytes c.write.new.self) (string_bytes c.append_depth.new.text) (string_bytes c.append_shift.new.text) (string_bytes c.append_premultiplied.new.text) (string_bytes c.writeln.new.self)
    first (decimal c.args.number) (codes ": ") (kind_name k.kind) (codes ", ") (depth_text k.bit_depth) (shift_text k.dim_shift) (premultiplied_text k.alpha_associated)
    (c.in_ok-write.ensures.bytes ∙ name) c.in_ok-append_depth.ensures c.in_ok-append_shift.ensures c.in_ok-append_premultiplied.ensures c.in_ok-writeln.ensures.bytes

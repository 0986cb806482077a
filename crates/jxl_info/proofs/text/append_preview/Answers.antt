use Rattle.std.proofs.Common.{◌++◌, ◌∙◌, ap, sym, Option, string_bytes, codes}
use Rattle.jxl_image_header.specs.declared.size.Size.{Size}
use Rattle.jxl_info.specs.Texts.{preview_line, size_text}
use Rattle.jxl_info.proofs.TextPieces.{line_grown}
use Rattle.jxl_info.proofs.text.append_preview.Goals as goal

pub returns-in_ok-writeln : goal.returns-in_ok-writeln
unfolding preview_line
returns-in_ok-writeln c =
    let s = string_bytes c.args.text.now in
    line_grown s (string_bytes c.write.new.self) (string_bytes c.append_size.new.text) (string_bytes c.writeln.new.self) (codes "Preview image: ") (size_text c.in-Some.size) c.in_ok-write.ensures.bytes c.in_ok-append_size.ensures c.in_ok-writeln.ensures.bytes
    ∙ ap (λ (size : Option Size). s ++ preview_line size) (sym c.in-Some.is)

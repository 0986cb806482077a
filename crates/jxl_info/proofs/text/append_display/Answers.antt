use Rattle.std.proofs.Common.{◌≡◌, ◌∷◌, ◌++◌, [], ◌∙◌, ap, List, ℕ, string_bytes, codes}
use Rattle.std.specs.Fmt.{decimal}
use Rattle.jxl_image_header.specs.Images.{image_of}
use Rattle.jxl_text.specs.Printing.{line}
use Rattle.jxl_info.specs.Names.{orientation_name}
use Rattle.jxl_info.specs.Texts.{animation_lines, display_lines, intrinsic_line, preview_line}
use Rattle.jxl_info.proofs.TextPieces.{ended_five, four}
use Rattle.jxl_info.proofs.text.append_display.Goals as goal

pub returns : goal.returns
unfolding display_lines
returns c =
    let d = image_of c.args.header.now in
    let v = string_bytes c.append_intrinsic.new.text in
    let w = string_bytes c.writeln.new.self in
    let n = decimal d.orientation in
    let turned : w ≡ v ++ line ((((codes "Orientation: " ++ n) ++ codes " (") ++ orientation_name d.orientation) ++ codes ")") =
    ended_five v w (codes "Orientation: ") n (codes " (") c.orientation_name-name.result.now (codes ")") (10 ∷ []) c.in_ok-writeln.ensures.bytes
    ∙ ap (λ (name : List ℕ). v ++ line ((((codes "Orientation: " ++ n) ++ codes " (") ++ name) ++ codes ")")) c.orientation_name-name.ensures in
    four (string_bytes c.args.text.now) (string_bytes c.append_preview.new.text) (string_bytes c.append_animation.new.text) v w
    (preview_line d.preview) (animation_lines d.animation) (intrinsic_line d.intrinsic_size) _ c.in_ok-append_preview.ensures c.in_ok-append_animation.ensures c.in_ok-append_intrinsic.ensures turned

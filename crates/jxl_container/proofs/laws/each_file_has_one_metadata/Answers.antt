use Rattle.std.proofs.Common.{List, ap, sym, ◌∙◌}
use Rattle.std.specs.Prelude.{find, slice_range}
use Rattle.std.specs.List.{list_any}
use Rattle.std.specs.Option.{option_map}
use Rattle.jxl_container.specs.Metadata.{exif_start, is_compressed, is_damaged_exif, is_exif, is_xmp}
use Rattle.jxl_container.specs.declared.boxes.FileBox.{FileBox}
use Rattle.jxl_container.proofs.Searches.{one_boxes}
use Rattle.jxl_container.proofs.laws.each_file_has_one_metadata.Goals as goal

pub returns-clause-exif : goal.returns-clause-exif
returns-clause-exif c = λ bytes x y h k. h.2 ∙ ap (λ (boxes : List FileBox). option_map (λ b. slice_range bytes (exif_start bytes b) b.end) (find (is_exif bytes) boxes)) (one_boxes bytes h.0 k.0 h.1 k.1) ∙ sym k.2

pub returns-clause-xmp : goal.returns-clause-xmp
returns-clause-xmp c = λ bytes x y h k. h.2 ∙ ap (λ (boxes : List FileBox). option_map (λ b. slice_range bytes b.body b.end) (find is_xmp boxes)) (one_boxes bytes h.0 k.0 h.1 k.1) ∙ sym k.2

pub returns-clause-damaged : goal.returns-clause-damaged
returns-clause-damaged c = λ bytes x y h k. h.2 ∙ ap (λ (boxes : List FileBox). list_any (is_damaged_exif bytes) boxes) (one_boxes bytes h.0 k.0 h.1 k.1) ∙ sym k.2

pub returns-clause-compressed : goal.returns-clause-compressed
returns-clause-compressed c = λ kind bytes x y h k. h.2 ∙ ap (λ (boxes : List FileBox). list_any (is_compressed kind bytes) boxes) (one_boxes bytes h.0 k.0 h.1 k.1) ∙ sym k.2

use Rattle.std.proofs.Common.{◌≡◌, length, map, take, true}
use Rattle.std.specs.List.{list_all}
use Rattle.jxl_codestream_write.specs.Tables.{is_section_size}
use Rattle.jxl_encode.proofs.sizes.sizes_of.Given as goal

abbrev pub invariant-loop-section : goal.invariant-loop-section
invariant-loop-section l = record {
  same : l.sizes.items ≡ map length (map (λ s. s.items) (take l.section-index l.sections));
  spelled : list_all is_section_size l.sizes.items ≡ true;
}

use Rattle.std.proofs.Common.{◌≡◌, ◌-◌, length}
use Rattle.std.specs.List.{sum_by}
use Rattle.jxlm_bits.specs.Bits.{bytes_of, position_of}
use Rattle.jxlm_bits.specs.Turns.{chain}
use Rattle.jxl_patches.specs.Patches.{one_rectangle}
use Rattle.jxl_patches.specs.Dictionaries.{area, patches_of}
use Rattle.jxl_patches.specs.SavedParts.{sizes_in}
use Rattle.jxl_patches.proofs.dictionary.rectangles.Given as goal

abbrev pub invariant-loop : goal.invariant-loop
invariant-loop g l = record {
  same : bytes_of l.bits ≡ bytes_of l.fn.bits;
  clusters : length (g.D.Decoder.meaning.cluster_map l.decoder) ≡ 10;
  counted : l.cells ≡ sum_by area l.growing.places.items;
  read : (chain (one_rectangle g.D.Decoder.meaning l.frame.size l.frame.kinds (sizes_in l.slots) l.limit) (l.count - l.counter) (patches_of l.growing) l.decoder).read (bytes_of l.fn.bits) (position_of l.bits)
      ≡ (chain (one_rectangle g.D.Decoder.meaning l.frame.size l.frame.kinds (sizes_in l.slots) l.limit) l.count (patches_of l.fn.growing) l.fn.decoder).read (bytes_of l.fn.bits) (position_of l.fn.bits);
}

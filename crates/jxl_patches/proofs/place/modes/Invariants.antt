use Rattle.std.proofs.Common.{◌≡◌, ◌-◌, length}
use Rattle.jxlm_bits.specs.Bits.{bytes_of, position_of}
use Rattle.jxlm_bits.specs.Turns.{chain}
use Rattle.jxl_patches.specs.Patches.{one_mode}
use Rattle.jxl_patches.specs.Dictionaries.{patches_of}
use Rattle.jxl_patches.proofs.place.modes.Given as goal

abbrev pub invariant-loop : goal.invariant-loop
invariant-loop g l = record {
  same : bytes_of l.bits ≡ bytes_of l.fn.bits;
  clusters : length (g.D.Decoder.meaning.cluster_map l.decoder) ≡ 10;
  read : (chain (one_mode g.D.Decoder.meaning l.kinds) (l.kinds - l.counter) (patches_of l.growing) l.decoder).read (bytes_of l.fn.bits) (position_of l.bits)
      ≡ (chain (one_mode g.D.Decoder.meaning l.kinds) l.kinds (patches_of l.fn.growing) l.fn.decoder).read (bytes_of l.fn.bits) (position_of l.fn.bits);
}

use Rattle.std.proofs.Common.{◌≡◌, ◌-◌, ℕ, List, [], length}
use Rattle.std.specs.Prelude.{reverse, slice_index}
use Rattle.jxlm_bits.specs.Bits.{bytes_of, position_of}
use Rattle.jxlm_bits.specs.Turns.{chain}
use Rattle.jxl_codestream.specs.Profiles.{one_byte}
use Rattle.jxl_codestream.proofs.profile.read_bytes.Given as goal

abbrev pub invariant-loop-i : goal.invariant-loop-i
invariant-loop-i g l = record {
  same : bytes_of l.bits ≡ bytes_of l.fn.bits;
  clusters : length (g.D.Decoder.meaning.cluster_map l.decoder) ≡ 41;
  all : List ℕ;
  items : reverse l.encoded.items ≡ all;
  count : length all ≡ l.i;
  last : slice_index all 0 ≡ l.last;
  before : slice_index all 1 ≡ l.before;
  read : (chain (one_byte g.D.Decoder.meaning) (l.count - l.i) all l.decoder).read (bytes_of l.fn.bits) (position_of l.bits)
      ≡ (chain (one_byte g.D.Decoder.meaning) l.count [] l.fn.decoder).read (bytes_of l.fn.bits) (position_of l.fn.bits);
}

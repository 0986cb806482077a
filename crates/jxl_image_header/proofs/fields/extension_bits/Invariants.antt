use Rattle.std.proofs.Common.{◌≡◌, ◌-◌, ◌*◌, ◌≤◌}
use Rattle.jxlm_bits.specs.Bits.{bytes_of, position_of}
use Rattle.jxlm_bits.specs.Grammar.{repeated}
use Rattle.jxl_image_header.specs.Fields.{long}
use Rattle.jxl_image_header.specs.Inner.Groups.{extension_bits}
use Rattle.jxl_image_header.proofs.SummedLoop.{with_sum}
use Rattle.jxl_image_header.proofs.fields.extension_bits.Given as goal

abbrev pub invariant-loop : goal.invariant-loop
invariant-loop l = record {
  bytes : bytes_of l.bits ≡ bytes_of l.fn.bits;
  small : l.total ≤ l.counter * 18446744073709551616;
  read : with_sum l.total ((repeated (l.count - l.counter) long).read (bytes_of l.fn.bits) (position_of l.bits))
      ≡ (extension_bits l.count).read (bytes_of l.fn.bits) (position_of l.fn.bits);
}

use Rattle.std.proofs.Common.{◌≡◌, ◌≤◌, refl, arith}
use Rattle.jxlm_bits.specs.Bits.{bytes_of, position_of}
use Rattle.jxl_coding_codes.proofs.LookupEntries.{read_tells}
use Rattle.jxl_coding_codes.proofs.lookup.Lookup.read_entry.Goals as goal

pub returns-then-symbol-lt65536-clause-tells : goal.returns-then-symbol-lt65536-clause-tells
returns-then-symbol-lt65536-clause-tells c =
    let most : c.position-length.result ≤ 9 = omega (arith, c.if-length-from.true, c.from.ensures, c.requires.most) in
    let end : position_of c.codeword.new.bits ≡ c.position-length.result = omega (arith, c.position-length.ensures, most) in
    read_tells c.args.counts.now c.args.symbols.now c.args.start c.args.bits (bytes_of c.new-reader.result) c.in-Ok.symbol c.position-length.result
    (omega (arith, c.requires.bits)) (omega (arith, most)) (rw c.new-reader.ensures.bytes refl) (rw c.new-reader.ensures.bytes refl)
    (rw (← end) (rw c.new-reader.ensures.position at c.in-Ok.ensures.gives))

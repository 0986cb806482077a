use Rattle.std.proofs.Common.{◌≡◌, ◌++◌, ◌∷◌, [], refl, rules, Some, arith}
use Rattle.std.proofs.lemmas.List.{length-append}
use Rattle.std.proofs.lemmas.Result.{err_from_is_err_and}
use Rattle.jxlm_bits.specs.Bits.{bytes_of, position_of}
use Rattle.jxlm_bits.specs.ErrorKind.{bitstream_kind}
use Rattle.jxl_codestream.specs.Inner.Entries.{entry_size}
use Rattle.jxlm_bits.proofs.RepeatedLoop.{goes_on, stops}
use Rattle.jxlm_bits.proofs.UnlessMemory.{unless_no_memory}
use Rattle.jxl_codestream.proofs.toc.entry_sizes.Goals as goal

pub returns-in_err-size-clause-gives : goal.returns-in_err-size-clause-gives
returns-in_err-size-clause-gives c =
    let p = err_from_is_err_and c.from_residual.result c.from_residual.ensures.1 in
    let refused = stops entry_size (bytes_of c.args.bits.now) c.loop.sizes.items c.args.count c.loop.counter (position_of c.loop.bits)
    (record { error = bitstream_kind c.in_err-size.field-0.0; position = Some (position_of c.read_u32.new.self) }) _ c.loop-test.true
    (rw c.loop.invariant.bytes at c.in_err-size.ensures.gives) c.loop.invariant.read in
    rw (p.1, p.2) (unless_no_memory (bitstream_kind c.in_err-size.field-0.0) _ (record { place = Some (position_of c.read_u32.new.self); refuses = refused; stands = refl }))

pub loop-preserved : goal.loop-preserved
loop-preserved c =
    let pushed : c.push.new.self.items ≡ c.loop.sizes.items ++ c.in_ok-size.size ∷ [] = search rules in
    record {
      bytes = search rules;
      so_many = rw pushed (omega (arith, length-append c.loop.sizes.items (c.in_ok-size.size ∷ []), c.loop.invariant.so_many));
      read = rw pushed (goes_on entry_size (bytes_of c.args.bits.now) c.loop.sizes.items c.args.count c.loop.counter (position_of c.loop.bits) c.in_ok-size.size (position_of c.read_u32.new.self) _
          c.loop-test.true (rw c.loop.invariant.bytes at c.in_ok-size.ensures.gives) c.loop.invariant.read);
    }

use Rattle.std.proofs.Common.{◌≡◌, ◌++◌, ◌∷◌, [], refl, rules, Some}
use Rattle.std.proofs.lemmas.Result.{err_from_is_err_and}
use Rattle.jxlm_bits.specs.Bits.{bytes_of, position_of}
use Rattle.jxlm_bits.specs.ErrorKind.{bitstream_kind}
use Rattle.jxlm_bits.proofs.UnlessMemory.{unless_no_memory}
use Rattle.jxl_frame_header.specs.Inner.Checked.{next}
use Rattle.jxl_frame_header.proofs.InTurn.{goes_on_after, stops_at}
use Rattle.jxl_frame_header.proofs.passes.in_turn.Goals as goal

pub returns-in_err-value : goal.returns-in_err-value
returns-in_err-value c =
    let p = err_from_is_err_and c.from_residual.result c.from_residual.ensures.1 in
    let refused = stops_at (next c.args.order) (bytes_of c.args.bits.now) c.loop.values.items c.loop.before c.args.n c.loop.counter (position_of c.loop.bits)
    (record { error = bitstream_kind c.in_err-value.field-0.0; position = Some (position_of c.next.new.bits) }) _ c.loop-test.true
    (rw c.loop.invariant.bytes at c.in_err-value.ensures.gives) c.loop.invariant.read in
    record { gives = rw (p.1, p.2) (unless_no_memory (bitstream_kind c.in_err-value.field-0.0) _ (record { place = Some (position_of c.next.new.bits); refuses = refused; stands = refl })); bytes = search rules }

pub loop-preserved : goal.loop-preserved
loop-preserved c =
    let pushed : c.push.new.self.items ≡ c.loop.values.items ++ c.in_ok-value.value ∷ [] = search rules in
    record {
      bytes = search rules;
      read = rw pushed (goes_on_after (next c.args.order) (bytes_of c.args.bits.now) c.loop.values.items c.loop.before c.args.n c.loop.counter (position_of c.loop.bits) c.in_ok-value.value (position_of c.next.new.bits) _
          c.loop-test.true (rw c.loop.invariant.bytes at c.in_ok-value.ensures.gives) c.loop.invariant.read);
    }

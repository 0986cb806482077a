use Rattle.std.proofs.Common.{◌≡◌, ◌++◌, ◌∷◌, [], refl, rules, Some, true}
use Rattle.std.proofs.lemmas.Result.{err_from_is_err_and}
use Rattle.jxlm_bits.specs.Bits.{bytes_of, position_of}
use Rattle.jxlm_bits.specs.ErrorKind.{bitstream_kind}
use Rattle.jxlm_bits.proofs.RepeatedLoop.{goes_on, stops}
use Rattle.jxlm_bits.proofs.UnlessMemory.{unless_no_memory}
use Rattle.jxl_frame_header.specs.Blendings.{blending_info}
use Rattle.jxl_frame_header.proofs.blending.read_infos.Goals as goal

pub returns-in_err-info : goal.returns-in_err-info
returns-in_err-info c =
    let p = err_from_is_err_and c.from_residual.result c.from_residual.ensures.1 in
    let refused = stops (blending_info true c.args.extra c.args.partial) (bytes_of c.args.bits.now) c.loop.infos.items c.args.count c.loop.counter (position_of c.loop.bits)
    (record { error = bitstream_kind c.in_err-info.field-0.0; position = Some (position_of c.parse.new.bits) }) _ c.loop-test.true
    (rw c.loop.invariant.bytes at c.in_err-info.ensures.gives) c.loop.invariant.read in
    record { gives = rw (p.1, p.2) (unless_no_memory (bitstream_kind c.in_err-info.field-0.0) _ (record { place = Some (position_of c.parse.new.bits); refuses = refused; stands = refl })); bytes = search rules }

pub loop-preserved : goal.loop-preserved
loop-preserved c =
    let pushed : c.push.new.self.items ≡ c.loop.infos.items ++ c.in_ok-info.info ∷ [] = search rules in
    record {
      bytes = search rules;
      read = rw pushed (goes_on (blending_info true c.args.extra c.args.partial) (bytes_of c.args.bits.now) c.loop.infos.items c.args.count c.loop.counter (position_of c.loop.bits) c.in_ok-info.info (position_of c.parse.new.bits) _
          c.loop-test.true (rw c.loop.invariant.bytes at c.in_ok-info.ensures.gives) c.loop.invariant.read);
    }

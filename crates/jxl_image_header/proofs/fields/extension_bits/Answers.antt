use Rattle.std.proofs.Common.{◌≡◌, rules, arith, Some}
use Rattle.std.proofs.lemmas.Result.{err_from_is_err_and}
use Rattle.jxlm_bits.specs.Bits.{bytes_of, position_of}
use Rattle.jxlm_bits.specs.ErrorKind.{bitstream_kind}
use Rattle.jxl_image_header.specs.Fields.{long}
use Rattle.jxl_image_header.proofs.SummedLoop.{adds, stops_adding, added, sizes_added}
use Rattle.jxl_image_header.proofs.fields.extension_bits.Goals as goal

pub loop-init : goal.loop-init
loop-init c = record { bytes = search rules; small = omega arith; read = sizes_added c.args.count (bytes_of c.args.bits.now) (position_of c.args.bits.now) }

pub returns-in_err-size : goal.returns-in_err-size
returns-in_err-size c =
    let p = err_from_is_err_and c.from_residual.result c.from_residual.ensures.1 in
    record {
      gives = rw (p.1, p.2) (stops_adding long (bytes_of c.args.bits.now) c.loop.total c.args.count c.loop.counter (position_of c.loop.bits)
          (record { error = bitstream_kind c.in_err-size.field-0.0; position = Some (position_of c.long.new.bits) }) _ c.loop-test.true
          (rw c.loop.invariant.bytes at c.in_err-size.ensures.gives) c.loop.invariant.read);
      bytes = search rules;
    }

pub returns : goal.returns
returns c =
    record { gives = added long (bytes_of c.args.bits.now) c.loop.total c.args.count c.loop.counter (position_of c.loop.bits) _ (omega (arith, c.loop-test.false)) c.loop.invariant.read; bytes = search rules }

pub loop-preserved : goal.loop-preserved
loop-preserved c =
    let same : c.from-total.result ≡ c.in_ok-size.size = search rules in
    record {
      bytes = search rules;
      small = search rules;
      read = rw same (adds long (bytes_of c.args.bits.now) c.loop.total c.args.count c.loop.counter (position_of c.loop.bits) c.in_ok-size.size (position_of c.long.new.bits) _ c.loop-test.true
          (rw c.loop.invariant.bytes at c.in_ok-size.ensures.gives) c.loop.invariant.read);
    }

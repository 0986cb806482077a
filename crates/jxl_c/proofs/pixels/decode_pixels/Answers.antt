use Rattle.std.proofs.Common.{length, inr, arith}
use Rattle.jxl_c.specs.Kinds.{limits_of}
use Rattle.jxl_c.proofs.Decodings.{other_pixels, pixels_by, right_bytes, unsuited_by}
use Rattle.jxl_c.proofs.pixels.decode_pixels.Goals as goal

pub returns-in-Ok-decode-clause-done : goal.returns-in-Ok-decode-clause-done
returns-in-Ok-decode-clause-done c = λ zero.
    pixels_by c.args.limits.now c.args.file.now c.in-Ok.read c.in-Ok.ensures.ok c.args.depth c.in-Ok-decode.picture c.new-steps.result c.decode.new.steps c.new-steps.ensures
    (c.in-Ok-decode.ensures.picture (limits_of c.args.limits.now) c.args.file.now c.in-Ok.ensures.ok.is) c.in-Ok-decode.ensures.whole c.deref.result.now c.deref.ensures.value c.all_are_full.ensures
    (c.put_pixels.ensures.suits (λ four. omega (arith, zero, four))) c.put_pixels.new.pixels (c.put_pixels.ensures.done zero)

pub returns-in-Ok-decode-clause-count : goal.returns-in-Ok-decode-clause-count
returns-in-Ok-decode-clause-count c = λ seven.
    other_pixels c.args.limits.now c.args.file.now c.in-Ok.read c.in-Ok.ensures.ok c.args.depth c.in-Ok-decode.picture c.new-steps.result c.decode.new.steps c.new-steps.ensures
    (c.in-Ok-decode.ensures.picture (limits_of c.args.limits.now) c.args.file.now c.in-Ok.ensures.ok.is) c.in-Ok-decode.ensures.whole c.deref.result.now c.deref.ensures.value c.all_are_full.ensures
    (c.put_pixels.ensures.suits (λ four. omega (arith, seven, four))) (length c.args.pixels.now) (c.put_pixels.ensures.count seven)

pub returns-in-Ok-decode-clause-enough : goal.returns-in-Ok-decode-clause-enough
returns-in-Ok-decode-clause-enough c = λ info of same seven.
    c.put_pixels.ensures.count seven
    (right_bytes c.args.limits.now c.args.file.now c.in-Ok.read c.in-Ok.ensures.ok c.args.depth c.in-Ok-decode.picture info (length c.args.pixels.now) c.in-Ok-decode.ensures.header of same)

pub returns-in-Ok-decode-clause-fails : goal.returns-in-Ok-decode-clause-fails
returns-in-Ok-decode-clause-fails c = λ some other.
    let four = c.put_pixels.ensures.other some other in
    inr (unsuited_by c.args.limits.now c.args.file.now c.in-Ok.read c.in-Ok.ensures.ok c.in-Ok-decode.picture c.new-steps.result c.decode.new.steps c.new-steps.ensures
    (c.in-Ok-decode.ensures.picture (limits_of c.args.limits.now) c.args.file.now c.in-Ok.ensures.ok.is) c.in-Ok-decode.ensures.whole c.deref.result.now c.deref.ensures.value c.all_are_full.ensures
    (c.put_pixels.ensures.unsuited four) c.put_pixels.result four)

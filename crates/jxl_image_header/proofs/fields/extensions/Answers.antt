use Rattle.std.proofs.Common.{◌∙◌, refl, rules}
use Rattle.std.proofs.lemmas.Result.{err_from_is_err_and}
use Rattle.jxlm_bits.specs.Bits.{bytes_of, position_of}
use Rattle.jxl_image_header.proofs.SummedLoop.{by_sum}
use Rattle.jxl_image_header.proofs.fields.extensions.Goals as goal

pub returns-in_err-count : goal.returns-in_err-count
returns-in_err-count c =
    let p = err_from_is_err_and c.from_residual-in_err-count.result c.from_residual-in_err-count.ensures.1 in
    let summed = by_sum (bytes_of c.args.bits.now) (position_of c.args.bits.now) c.in_ok-mask.mask (position_of c.long.new.bits) c.in_ok-mask.ensures.gives in
    record { gives = rw (p.1, p.2) (summed ∙ rw (rw c.long.ensures.bytes at c.in_err-count.ensures.gives) refl); bytes = search rules }

pub returns-in_err-skip_bits : goal.returns-in_err-skip_bits
returns-in_err-skip_bits c =
    let p = err_from_is_err_and c.from_residual-in_err-skip_bits.result c.from_residual-in_err-skip_bits.ensures.1 in
    let summed = by_sum (bytes_of c.args.bits.now) (position_of c.args.bits.now) c.in_ok-mask.mask (position_of c.long.new.bits) c.in_ok-mask.ensures.gives in
    let same = c.extension_bits.ensures.bytes ∙ c.long.ensures.bytes in
    record { gives = rw (p.1, p.2) (summed ∙ rw ((rw c.long.ensures.bytes at c.in_ok-count.ensures.gives), (rw same at c.in_err-skip_bits.ensures.gives)) refl); bytes = search rules }

pub returns : goal.returns
returns c =
    let summed = by_sum (bytes_of c.args.bits.now) (position_of c.args.bits.now) c.in_ok-mask.mask (position_of c.long.new.bits) c.in_ok-mask.ensures.gives in
    let same = c.extension_bits.ensures.bytes ∙ c.long.ensures.bytes in
    record { gives = summed ∙ rw ((rw c.long.ensures.bytes at c.in_ok-count.ensures.gives), (rw same at c.in_ok-skip_bits.ensures.gives)) refl; bytes = search rules }

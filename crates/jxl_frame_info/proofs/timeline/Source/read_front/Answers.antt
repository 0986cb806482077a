use Rattle.std.proofs.Common.{◌≡◌, ℕ, ◌+◌, ◌-◌, ◌<◌, ap, arith}
use Rattle.std.proofs.lemmas.Result.{err_from_is_err_and}
use Rattle.jxlm_bits.specs.Bits.{position_of}
use Rattle.jxl_image_header.specs.Images.{image_of}
use Rattle.jxl_frame_header.specs.Frames.{frame_of}
use Rattle.jxl_codestream.specs.FrontParts.{frame_at}
use Rattle.jxl_frame_info.specs.Timelines.{spare}
use Rattle.jxl_frame_info.proofs.Frames.{comes_at, parts_fail, too_large}
use Rattle.jxl_frame_info.proofs.timeline.Source.read_front.Goals as goal

pub returns-then-spare-self-clause-err : goal.returns-then-spare-self-clause-err
returns-then-spare-self-clause-err c =
    let x = c.args.self in
    let more : x.limits.pixels - c.args.used < c.spare_cells-spare.result = omega arith in
    too_large x.limits x.bytes.now (image_of x.image.now) c.args.start c.args.used (frame_of c.in_ok-header.header) (position_of c.read_header.new.bits) c.spare_cells-spare.result c.spare_cells-spare.ensures more c.requires.within
    c.in_ok-header.ensures.ok

pub overflow_add-place : goal.overflow_add-place
overflow_add-place c = omega (arith, c.requires.within)

pub returns-clause-ok : goal.returns-clause-ok
returns-clause-ok c =
    let x = c.args.self in
    let h = frame_of c.in_ok-header.header in
    let used = c.args.used + c.spare_cells-spare.result in
    let count : used ≡ c.args.used + spare (image_of x.image.now).size h = ap (λ (n : ℕ). c.args.used + n) c.spare_cells-spare.ensures in
    comes_at x.limits x.bytes.now (image_of x.image.now) c.args.start c.args.used h (position_of c.read_header.new.bits) used (frame_at c.in_ok-front.front) c.in_ok-front.ensures.start c.in_ok-front.ensures.header count c.in_ok-header.ensures.ok c.in_ok-front.ensures.stands

pub returns-in_err-header-clause-err : goal.returns-in_err-header-clause-err
returns-in_err-header-clause-err c =
    let p = err_from_is_err_and c.from_residual.result c.from_residual.ensures.1 in
    rw (p.1, p.2) (c.in_err-header.ensures.err c.args.used)

pub returns-in_err-front-clause-err : goal.returns-in_err-front-clause-err
returns-in_err-front-clause-err c =
    let x = c.args.self in
    let h = frame_of c.in_ok-header.header in
    let used = c.args.used + c.spare_cells-spare.result in
    let count : used ≡ c.args.used + spare (image_of x.image.now).size h = ap (λ (n : ℕ). c.args.used + n) c.spare_cells-spare.ensures in
    let p = err_from_is_err_and c.from_residual-in_err-front.result c.from_residual-in_err-front.ensures.1 in
    rw (p.1, p.2) (parts_fail x.limits x.bytes.now (image_of x.image.now) c.args.start c.args.used h (position_of c.read_header.new.bits) used c.in_err-front.field-0.0 count c.in_ok-header.ensures.ok c.in_err-front.ensures.err)

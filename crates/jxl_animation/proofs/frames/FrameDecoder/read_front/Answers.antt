use Rattle.std.proofs.Common.{◌≡◌, ℕ, ◌+◌, ◌-◌, ◌<◌, List, drop, ap, subst, arith}
use Rattle.jxlm_bits.specs.Bits.{position_of}
use Rattle.jxl_coding.specs.Parse.{decoder_at}
use Rattle.jxl_coding.specs.Tokens.{entropy}
use Rattle.jxl_frame_header.specs.Frames.{frame_of}
use Rattle.jxl_codestream.specs.FrontParts.{frame_at}
use Rattle.jxl_codestream.specs.Fronts.{PartsFail, PartsStand}
use Rattle.jxl_animation.specs.Decoders.{bytes_in, image_in, state_of}
use Rattle.jxl_animation.specs.States.{used_before}
use Rattle.jxl_animation.proofs.States.{comes_next, parts_fail, too_large}
use Rattle.jxl_animation.proofs.frames.FrameDecoder.read_front.Goals as goal

pub returns-then-spare-self-clause-err : goal.returns-then-spare-self-clause-err
returns-then-spare-self-clause-err c =
    let x = c.args.self.now in
    let more : x.source.limits.pixels - x.used < c.spare_cells-spare.result = omega arith in
    too_large x.source.limits (bytes_in x.source) (image_in x.source) (state_of x) (frame_of c.in_ok-header.header) (position_of c.read_header.new.bits) c.spare_cells-spare.result c.spare_cells-spare.ensures more c.requires.ready.state.within
    c.in_ok-header.ensures.ok

pub returns-in-Ok-clause-ok : goal.returns-in-Ok-clause-ok
returns-in-Ok-clause-ok c =
    let x = c.args.self.now in
    let h = frame_of c.in_ok-header.header in
    let used = x.used + c.spare_cells-spare.result in
    let count : used ≡ used_before (image_in x.source).size x.used h = ap (λ (n : ℕ). x.used + n) c.spare_cells-spare.ensures in
    let parts = subst (λ (b : List ℕ). PartsStand (entropy decoder_at) x.source.limits b (image_in x.source) used (frame_at c.in-Ok.front) (position_of c.read_header.new.bits)) c.bytes-bytes.ensures c.in-Ok.ensures.stands in
    comes_next x.source.limits (bytes_in x.source) (image_in x.source) (state_of x) h (position_of c.read_header.new.bits) used (frame_at c.in-Ok.front) c.requires.going c.in-Ok.ensures.start c.in-Ok.ensures.header count c.in_ok-header.ensures.ok parts

pub returns-in-Err-clause-err : goal.returns-in-Err-clause-err
returns-in-Err-clause-err c =
    let x = c.args.self.now in
    let h = frame_of c.in_ok-header.header in
    let used = x.used + c.spare_cells-spare.result in
    let count : used ≡ used_before (image_in x.source).size x.used h = ap (λ (n : ℕ). x.used + n) c.spare_cells-spare.ensures in
    let fails = subst (λ (b : List ℕ). PartsFail (entropy decoder_at) x.source.limits (drop x.start b) (image_in x.source) used h (position_of c.read_header.new.bits) c.in-Err.error) c.bytes-bytes.ensures c.in-Err.ensures.err in
    parts_fail x.source.limits (bytes_in x.source) (image_in x.source) (state_of x) h (position_of c.read_header.new.bits) used c.in-Err.error count c.in_ok-header.ensures.ok fails

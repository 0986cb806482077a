use Rattle.std.proofs.Common.{◌≡◌, ◌∙◌, ℕ, ◌*◌, ◌<◌, ◌^◌, List, length, sym, subst, ap, arith}
use Rattle.std.proofs.lemmas.Result.{err_from_is_err_and}
use Rattle.jxlm_bits.specs.Bits.{bytes_of, position_of}
use Rattle.jxlm_bits.specs.ErrorKind.{UnlessMemory, kind_of}
use Rattle.jxlm_bits.specs.Grammar.{IsErrorAt}
use Rattle.jxlm_ma_tree.proofs.Memory.{unless_so}
use Rattle.jxl_coding.specs.Parse.{decoder_at}
use Rattle.jxl_coding.specs.Tokens.{entropy}
use Rattle.jxl_image_header.proofs.Refusals.{low_shifts}
use Rattle.jxl_image_header.specs.Images.{image_of}
use Rattle.jxl_codestream.specs.FrontParts.{bytes_if}
use Rattle.jxl_codestream.specs.Fronts.{StandsAt, between}
use Rattle.jxl_layers.specs.Openings.{ImageGoesOn, OpeningFails}
use Rattle.jxl_layers.specs.Refusals.{still}
use Rattle.jxl_layers.proofs.opening.Opening.read.Goals as goal

pub returns-in_err-image-clause-err : goal.returns-in_err-image-clause-err
returns-in_err-image-clause-err c =
    let p = err_from_is_err_and c.from_residual.result c.from_residual.ensures.1 in
    rw (p.1, p.2) (subst (λ (b : List ℕ). OpeningFails c.args.limits.now b c.in_err-image.field-0.0) c.new-bits.ensures.bytes c.in_err-image.ensures.err)

pub returns-in-Ok-clause-ok : goal.returns-in-Ok-clause-ok
returns-in-Ok-clause-ok c =
    let image = c.in_ok-image.image in
    let here : bytes_of c.read_image.new.bits ≡ c.args.bytes.now = c.in_ok-image.ensures.bytes ∙ c.new-bits.ensures.bytes in
    record {
      end = position_of c.read_image.new.bits;
      goes = subst (λ (b : List ℕ). ImageGoesOn c.args.limits.now b (image_of image) (position_of c.read_image.new.bits)) c.new-bits.ensures.bytes c.in_ok-image.ensures.ok;
      next = position_of c.read_between.new.bits;
      between = subst (λ (b : List ℕ). StandsAt (between (entropy decoder_at) c.args.limits.now.profile image.colour_encoding.want_icc) b (position_of c.read_image.new.bits) (bytes_if c.in-Ok.profile) (position_of c.read_between.new.bits)) here
          c.in-Ok.ensures.gives;
      first = c.byte_of.ensures.is;
    }

pub returns-in-Ok-clause-ready : goal.returns-in-Ok-clause-ready
returns-in-Ok-clause-ready c =
    let image = c.in_ok-image.image in
    let here : bytes_of c.read_between.new.bits ≡ c.args.bytes.now = c.in-Ok.ensures.bytes ∙ c.in_ok-image.ensures.bytes ∙ c.new-bits.ensures.bytes in
    let length_is : length (bytes_of c.read_between.new.bits) ≡ length c.args.bytes.now = ap length here in
    record {
      short = omega arith;
      deep = c.in_ok-image.ensures.ok.allowed.deep;
      many = c.in_ok-image.ensures.ok.allowed.most;
      low = low_shifts (still (image_of image)) c.in_ok-image.ensures.ok.supported;
      inside = omega (arith, c.byte_of.ensures.inside, length_is);
    }

pub returns-in-Err-clause-err : goal.returns-in-Err-clause-err
returns-in-Err-clause-err c =
    let image = c.in_ok-image.image in
    let p = position_of c.read_image.new.bits in
    let q = position_of c.read_between.new.bits in
    let e = kind_of c.in-Err.error in
    let here : bytes_of c.read_image.new.bits ≡ c.args.bytes.now = c.in_ok-image.ensures.bytes ∙ c.new-bits.ensures.bytes in
    let goes : ImageGoesOn c.args.limits.now c.args.bytes.now (image_of image) p = subst (λ (b : List ℕ). ImageGoesOn c.args.limits.now b (image_of image) p) c.new-bits.ensures.bytes c.in_ok-image.ensures.ok in
    let fails = subst (λ (b : List ℕ). UnlessMemory e (IsErrorAt ((between (entropy decoder_at) c.args.limits.now.profile image.colour_encoding.want_icc).read b p) e q)) here c.in-Err.ensures.gives in
    unless_so e (λ f. (image_of image, p, goes, (q, f))) fails

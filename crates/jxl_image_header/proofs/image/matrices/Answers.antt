use Rattle.std.proofs.Common.{refl, ◌∙◌, ℕ, List, subst, ◌==◌, ◌/◌, ◌%◌}
use Rattle.std.proofs.lemmas.Result.{err_from_is_err_and}
use Rattle.jxlm_bits.specs.Bits.{position_of}
use Rattle.jxlm_bits.specs.Grammar.{Reads}
use Rattle.jxl_image_header.specs.Images.{matrices}
use Rattle.jxl_image_header.specs.Inner.Groups.{weights}
use Rattle.jxl_image_header.proofs.image.matrices.Goals as goal

pub returns : goal.returns
unfolding matrices
returns c =
    let b1 = c.bundle_follows.ensures.bytes in
    let b2 = c.bundle_follows-2.ensures.bytes ∙ b1 in
    let b3 = c.skip_if.ensures.bytes ∙ b2 in
    let b4 = c.number_if.ensures.reads.bytes ∙ b3 in
    let n = c.in_ok-mask.mask in
    let rest = subst (λ (bytes : List ℕ). Reads (λ v. v) c.weights.result (position_of c.weights.new.bits) ((weights (n % 2 == 1) (n / 2 % 2 == 1) (n / 4 == 1)).read bytes (position_of c.number_if.new.bits)))
    b4 c.weights.ensures.gives in
    record { gives = rw (c.in_ok-follows.ensures.gives, (rw b1 at c.in_ok-opsin.ensures.gives), (rw b2 at c.in_ok-skip_if.ensures.gives), (rw b3 at c.in_ok-mask.ensures.reads.gives)) rest; bytes = c.weights.ensures.bytes ∙ b4 }

pub returns-in_err-skip_if : goal.returns-in_err-skip_if
unfolding matrices
returns-in_err-skip_if c =
    let p = err_from_is_err_and c.from_residual-in_err-skip_if.result c.from_residual-in_err-skip_if.ensures.1 in
    let b1 = c.bundle_follows.ensures.bytes in
    let b2 = c.bundle_follows-2.ensures.bytes ∙ b1 in
    record {
      gives = rw (p.1, p.2, c.in_ok-follows.ensures.gives, (rw b1 at c.in_ok-opsin.ensures.gives), (rw b2 at c.in_err-skip_if.ensures.gives)) refl;
      bytes = c.skip_if.ensures.bytes ∙ b2;
    }

pub returns-in_err-mask : goal.returns-in_err-mask
unfolding matrices
returns-in_err-mask c =
    let p = err_from_is_err_and c.from_residual-in_err-mask.result c.from_residual-in_err-mask.ensures.1 in
    let b1 = c.bundle_follows.ensures.bytes in
    let b2 = c.bundle_follows-2.ensures.bytes ∙ b1 in
    let b3 = c.skip_if.ensures.bytes ∙ b2 in
    record {
      gives = rw (p.1, p.2, c.in_ok-follows.ensures.gives, (rw b1 at c.in_ok-opsin.ensures.gives), (rw b2 at c.in_ok-skip_if.ensures.gives), (rw b3 at c.in_err-mask.ensures.reads.gives)) refl;
      bytes = c.number_if.ensures.reads.bytes ∙ b3;
    }

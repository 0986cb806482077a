use Rattle.std.proofs.Common.{◌∙◌, refl, rules}
use Rattle.std.proofs.lemmas.Result.{err_from_is_err_and}
use Rattle.jxl_image_header.proofs.image.weights.Goals as goal

pub returns-in_err-skip_if-2 : goal.returns-in_err-skip_if-2
returns-in_err-skip_if-2 c =
    let p = err_from_is_err_and c.from_residual-in_err-skip_if-2.result c.from_residual-in_err-skip_if-2.ensures.1 in
    record { gives = rw (p.1, p.2, c.in_ok-skip_if.ensures.gives, (rw c.skip_if.ensures.bytes at c.in_err-skip_if-2.ensures.gives)) refl; bytes = search rules }

pub returns : goal.returns
returns c =
    record {
      gives = rw (c.in_ok-skip_if.ensures.gives, (rw c.skip_if.ensures.bytes at c.in_ok-skip_if-2.ensures.gives))
          (rw (c.skip_if-2.ensures.bytes ∙ c.skip_if.ensures.bytes) at c.skip_if-3.ensures.gives);
      bytes = search rules;
    }

use Rattle.std.proofs.Common.{ap, ◌∙◌, pos, ◌-ℤ◌, arith, w64, to_z, of_z, FitsSigned}
use Rattle.std.specs.Prelude.{neg_ℤ}
use Rattle.std.proofs.lemmas.Int.{to_z-of_z, fits_signed_from_abs}
use Rattle.jxlm_inverse.proofs.PaletteColours.{listed_even, listed_odd, minus_read}
use Rattle.jxlm_inverse.proofs.palette.listed_difference.Goals as goal

pub returns-then-i-eq0-clause-value : goal.returns-then-i-eq0-clause-value
returns-then-i-eq0-clause-value c =
    let bound = c.entry-entry.ensures.bound in
    let fits : FitsSigned w64 c.entry-entry.result = fits_signed_from_abs w64 c.entry-entry.result (omega arith) in
    ap (λ z. to_z w64 (of_z w64 (pos 0 -ℤ z))) (to_z-of_z w64 c.entry-entry.result fits) ∙ minus_read c.entry-entry.result bound ∙ ap neg_ℤ c.entry-entry.ensures.value
    ∙ listed_even c.args.k c.args.c (omega arith)

pub returns-else-i-eq0-clause-value : goal.returns-else-i-eq0-clause-value
returns-else-i-eq0-clause-value c =
    let bound = c.entry-entry.ensures.bound in
    let fits : FitsSigned w64 c.entry-entry.result = fits_signed_from_abs w64 c.entry-entry.result (omega arith) in
    to_z-of_z w64 c.entry-entry.result fits ∙ c.entry-entry.ensures.value ∙ listed_odd c.args.k c.args.c (omega arith)

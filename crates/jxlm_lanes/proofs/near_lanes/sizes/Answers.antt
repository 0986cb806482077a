use Rattle.std.proofs.Common.{◌≡◌, ◌∙◌, ap, sym, subst, pos, unsigned_abs, ◌-ℤ◌, FitsSigned, arith, w16, ℕ, ℤ, ◌<◌}
use Rattle.std.proofs.lemmas.Int.{ints}
use Rattle.std.proofs.lemmas.Simd.{get_or-replicate}
use lib.ListN.{replicate}
use lib.Lanes.{Each1}
use Rattle.jxlm_lanes.specs.Inner.Lanes.{lane}
use Rattle.jxlm_lanes.proofs.Each.{same_numbers}
use Rattle.jxlm_lanes.proofs.near_lanes.sizes.Goals as goal

pub gap-requires-clause-a_fit : goal.gap-requires-clause-a_fit
gap-requires-clause-a_fit c = subst (Each1 (FitsSigned w16)) (sym (same_numbers w16 c.args.v c.requires.fit)) c.requires.fit

zero_at : (j : ℕ) → j < 8 → lane (replicate 8 (pos 0)) j ≡ pos 0
zero_at j lt = get_or-replicate 8 j (pos 0) (pos 0) lt

less_zero : (z : ℤ) → unsigned_abs (z -ℤ pos 0) ≡ unsigned_abs z
less_zero z = omega (arith, ints)

pub returns-clause-value : goal.returns-clause-value
returns-clause-value c j lt =
    c.gap.ensures.value j lt
    ∙ ap (λ l. unsigned_abs (lane l j -ℤ lane (replicate 8 (pos 0)) j)) (same_numbers w16 c.args.v c.requires.fit)
    ∙ ap (λ z. unsigned_abs (lane c.args.v j -ℤ z)) (zero_at j lt)
    ∙ less_zero (lane c.args.v j)

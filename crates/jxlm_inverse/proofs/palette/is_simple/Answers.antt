use Rattle.std.proofs.Common.{◌≡◌, true, refl, rules, arith}
use Rattle.std.proofs.lemmas.Bool.Decides.{nat_tests}
use Rattle.jxlm_base.specs.Regions.{grid_of, store_meanings}
use Rattle.jxlm_inverse.specs.Inner.PaletteSteps.{IsSimpleRow}
use borrow.Author.Count.{below_more}
use Rattle.jxlm_inverse.proofs.palette.is_simple.Goals as goal

pub loop-y-preserved : goal.loop-y-preserved
loop-y-preserved g c =
    let yes : c.is_simple_row.result ≡ true = first_of (search rules, grind (arith, nat_tests)) in
    below_more (λ y. IsSimpleRow c.args.palette.now (grid_of (store_meanings g.S.Sealed.to_int c.args.store.now) c.args.index) y) c.loop-y.y c.loop-y.invariant (c.is_simple_row.ensures.0 yes)

pub returns : goal.returns
returns g c =
    let end = c.loop-y.auto.y-end in
    (λ e y h. c.loop-y.invariant y (omega (arith, h, end, c.loop-y-test.false)), λ h. refl)

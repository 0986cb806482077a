use Rattle.std.proofs.Common.{◌≡◌, ℕ, ◌<◌, sym, subst, arith}
use Rattle.jxlm_base.specs.Grid.{at}
use Rattle.jxlm_inverse.specs.Inner.PaletteSteps.{number_of}
use Rattle.jxlm_base.specs.Regions.{grid_of, store_meanings}
use Rattle.jxlm_inverse.specs.Inner.PaletteSteps.{IsSimpleIndex}
use Rattle.jxlm_inverse.proofs.PaletteRows.{row_number}
use Rattle.jxlm_inverse.proofs.palette.is_simple_row.Goals as goal

pub returns : goal.returns
returns g c =
    let to_int = g.S.Sealed.to_int in
    let xs = c.region_row.result.now in
    let t = c.args.palette.now in
    let len = c.region_row.ensures.len in
    let index = grid_of (store_meanings to_int c.args.store.now) c.args.index in
    let is : (x : ℕ) → x < c.args.index.width → at index x c.args.y ≡ number_of to_int xs x = λ x h.
    row_number to_int c.args.store.now c.args.index x c.args.y xs h c.requires.in_rows (c.region_row.ensures.cells x h) in (
      λ yes x h. subst (IsSimpleIndex t) (sym (is x h)) (c.are_simple.ensures.0 yes x (omega (arith, h, len))),
      λ all. c.are_simple.ensures.1 (λ x h. let l : x < c.args.index.width = omega (arith, h, len) in subst (IsSimpleIndex t) (is x l) (all x l)),
    )

use Rattle.std.proofs.Common.{◌≡◌, ◌∙◌, sym, rules, arith, w32, to_z, of_z, FitsSigned}
use Rattle.std.proofs.lemmas.Int.{to_z-of_z}
use Rattle.jxlm_inverse.specs.Inner.PaletteSteps.{number_of}
use Rattle.jxlm_inverse.proofs.PaletteRows.{number_read, simple_more}
use Rattle.jxlm_inverse.proofs.palette.are_simple.Goals as goal

pub loop-j-preserved : goal.loop-j-preserved
loop-j-preserved g c =
    let to_int = g.S.Sealed.to_int in
    let xs = c.args.indices.now in
    let j = c.loop-j.j in
    let fits : FitsSigned w32 c.to_i32.result = search rules in
    let is : to_z w32 (of_z w32 c.to_i32.result) ≡ number_of to_int xs j =
    to_z-of_z w32 c.to_i32.result fits ∙ c.to_i32.ensures.value ∙ sym (number_read to_int xs j c.index-indices-j.result (omega arith) c.index-indices-j.is) in
    simple_more c.args.palette.now (number_of to_int xs) j c.loop-j.simple c.is_simple_index-simple.result (to_z w32 (of_z w32 c.to_i32.result)) is c.loop-j.invariant c.is_simple_index-simple.ensures

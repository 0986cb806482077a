use Rattle.std.proofs.Common.{rules, ◌≡◌, ◌+◌, ◌*◌, ◌%◌, ◌+ℤ◌, ◌*ℤ◌, ◌∙◌, to_z, of_z, arith}
use Rattle.std.specs.Int.{w16, int_wrap}
use Rattle.std.proofs.lemmas.Int.{to_z-of_z, wraps}
use Rattle.jxlm_base.proofs.Wraps.{int_wrap-muladd}
use Rattle.jxlm_base.proofs.sample.I16Sealed.wrapping_muladd_i32.Goals as goal

pub returns : goal.returns
returns c =
    let first : int_wrap w16 (c.args.self *ℤ c.reduced_to_i16.result +ℤ c.reduced_to_i16-2.result) ≡ int_wrap w16 (c.args.self *ℤ c.args.mul +ℤ c.args.add) = grind (arith, to_z-of_z, int_wrap-muladd) in
    let second : to_z w16 ((of_z w16 c.args.self * of_z w16 c.reduced_to_i16.result % 65536 + of_z w16 c.reduced_to_i16-2.result) % 65536) ≡ int_wrap w16 (c.args.self *ℤ c.reduced_to_i16.result +ℤ c.reduced_to_i16-2.result) = search (rules, wraps) in
    second ∙ first

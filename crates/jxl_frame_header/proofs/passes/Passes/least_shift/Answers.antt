use Rattle.std.proofs.Common.{◌≡◌, ◌==◌, ◌∙◌, ℕ, suc, Option, Some, None, ap, sym, false, arith}
use Rattle.std.specs.Option.{option_map_or}
use Rattle.std.proofs.lemmas.Bool.{ne_eqb}
use Rattle.jxl_frame_header.specs.Inner.Ended.{ended}
use Rattle.jxl_frame_header.specs.Passes.{least_shift, passes_of, shift_of}
use Rattle.jxl_frame_header.proofs.Ended.{ended_in_pairs}
use Rattle.jxl_frame_header.proofs.passes.Passes.least_shift.Goals as goal

pub returns-in-Some-clause-is : goal.returns-in-Some-clause-is
returns-in-Some-clause-is c =
    let x = c.args.self.now in
    let p = c.args.pass in
    let before = least_shift (passes_of x) p in
    let isnt : (suc p == x.num_passes) ≡ false = ne_eqb (suc p) x.num_passes (λ e. c.if-pass-count.false (omega (arith, e))) in
    let found : ended x.downsample.items x.last_pass.items p ≡ Some c.in-Some.factor = sym c.ended.ensures ∙ c.in-Some.is in
    rw isnt (c.shift_of.ensures.is ∙ sym (ap (λ (o : Option ℕ). option_map_or shift_of o before) found) ∙ ended_in_pairs shift_of x.downsample.items x.last_pass.items p before)

pub returns-in-None-clause-is : goal.returns-in-None-clause-is
returns-in-None-clause-is c =
    let x = c.args.self.now in
    let p = c.args.pass in
    let before = least_shift (passes_of x) p in
    let isnt : (suc p == x.num_passes) ≡ false = ne_eqb (suc p) x.num_passes (λ e. c.if-pass-count.false (omega (arith, e))) in
    let none : ended x.downsample.items x.last_pass.items p ≡ None = sym c.ended.ensures ∙ c.in-None.is in
    rw isnt (c.requires.before ∙ sym (ap (λ (o : Option ℕ). option_map_or shift_of o before) none) ∙ ended_in_pairs shift_of x.downsample.items x.last_pass.items p before)

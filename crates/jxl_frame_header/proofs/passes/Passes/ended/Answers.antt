use Rattle.std.proofs.Common.{◌≡◌, ◌==◌, ◌∙◌, ◌+◌, ℕ, suc, ap, sym, subst, false, drop, get_or, rules, arith}
use Rattle.std.proofs.lemmas.Bool.{ne_eqb}
use Rattle.jxl_frame_header.specs.Inner.Ended.{ended}
use Rattle.jxl_frame_header.proofs.Ended.{none_left, passed_over}
use Rattle.jxl_frame_header.proofs.passes.Passes.ended.Goals as goal

pub loop-place-preserved : goal.loop-place-preserved
loop-place-preserved c =
    let items = c.args.self.now.last_pass.items in
    let d = c.index.result.now in
    let same : get_or items c.loop-place.place d ≡ d = search rules in
    let isnt : (d == c.args.pass) ≡ false = ne_eqb d c.args.pass c.if-index-pass.false in
    let other : (get_or items c.loop-place.place d == c.args.pass) ≡ false = ap (λ (n : ℕ). n == c.args.pass) same ∙ isnt in
    let ds = c.args.self.now.downsample.items in
    let n = c.loop-place.place in
    let next : suc n ≡ n + 1 = omega arith in
    subst (λ (k : ℕ). ended (drop k ds) (drop k items) c.args.pass ≡ ended ds items c.args.pass) next (passed_over ds items c.args.pass n d (search rules) other ∙ c.loop-place.invariant)

pub returns : goal.returns
returns c = sym (none_left c.args.self.now.downsample.items c.args.self.now.last_pass.items c.args.pass c.loop-place.place (search rules)) ∙ c.loop-place.invariant

use Rattle.std.proofs.Common.{◌≡◌, ℕ, ◌/◌, ◌<◌, ℤ, FitsSigned, length, arith, ◌∙◌, subst}
use Rattle.std.specs.Int.{Width}
use Rattle.jxlm_lanes.specs.Pairs.{number_at, line_in}
use Rattle.jxlm_kernels.proofs.Strips.{StripSoFar, strip_none, strip_more, strip_even, strip_odd}
use Rattle.jxlm_kernels.proofs.Turned.{line_numbers}
use Rattle.jxlm_kernels.proofs.lines.unsqueeze_strip.Goals as goal

pub loop-k-init : goal.loop-k-init
loop-k-init g c =
    let f = g.S.Pairs.to_int in
    let n : ℕ = c.args.columns in
    let col : ℕ → ℕ → ℤ = λ j. line_in f c.args.coded.now c.args.start c.args.stride j in
    let len : length c.line_of.result.now ≡ n = c.line_of.ensures.len in
    record {
      len = c.single_line.ensures.len;
      so_far = strip_none f g.S.Pairs.width c.args.len n col c.single_line.new.strip
          (λ j q. c.single_line.ensures.copied j (omega (arith, len)) ∙ line_numbers f c.args.coded.now c.line_of.result.now c.args.start c.args.stride n 0 c.line_of.ensures.value j q);
    }

pub loop-k-preserved : goal.loop-k-preserved
loop-k-preserved g c =
    let f = g.S.Pairs.to_int in
    let col : ℕ → ℕ → ℤ = λ j. line_in f c.args.coded.now c.args.start c.args.stride j in
    let done = c.strip_pair.ensures in
    record {
      len = done.len ∙ c.loop-k.invariant.len;
      so_far = strip_more f g.S.Pairs.width c.args.len c.args.columns col c.loop-k.strip c.strip_pair.new.strip c.loop-k.k done.kept done.first done.second done.averages_fit done.residuals_fit c.loop-k.invariant.so_far;
    }

pub returns-then-len-eq1 : goal.returns-then-len-eq1
returns-then-len-eq1 g c =
    let f = g.S.Pairs.to_int in
    let w : Width = g.S.Pairs.width in
    let n : ℕ = c.args.columns in
    let h : ℕ = c.args.len in
    let col : ℕ → ℕ → ℤ = λ j. line_in f c.args.coded.now c.args.start c.args.stride j in
    let e : c.loop-k.k ≡ h / 2 = omega arith in
    let so_far = subst (StripSoFar f w h n col c.loop-k.strip) e c.loop-k.invariant.so_far in
    let a = c.line_of-last.result.now in
    let len : length a ≡ n = c.line_of-last.ensures.len in
    let read : (j : ℕ) → j < n → number_at f a j ≡ col j (h / 2) = line_numbers f c.args.coded.now a c.args.start c.args.stride n (h / 2) c.line_of-last.ensures.value in
    let done = c.single_line-then-len-eq1.ensures in
    let all = strip_odd f w h n col c.loop-k.strip c.single_line-then-len-eq1.new.strip (omega arith) so_far done.kept (λ j q. done.copied j (omega (arith, len)) ∙ read j q)
    (λ j q. subst (FitsSigned w) (read j q) (done.fit j (omega (arith, len)))) in
    record { len = done.len ∙ c.loop-k.invariant.len; undone = λ j q. (all j q).0; samples = λ j q. (all j q).1 }

pub returns-else-len-eq1 : goal.returns-else-len-eq1
returns-else-len-eq1 g c =
    let f = g.S.Pairs.to_int in
    let w : Width = g.S.Pairs.width in
    let n : ℕ = c.args.columns in
    let h : ℕ = c.args.len in
    let col : ℕ → ℕ → ℤ = λ j. line_in f c.args.coded.now c.args.start c.args.stride j in
    let e : c.loop-k.k ≡ h / 2 = omega arith in
    let so_far = subst (StripSoFar f w h n col c.loop-k.strip) e c.loop-k.invariant.so_far in
    let all = strip_even f w h n col c.loop-k.strip (omega arith) so_far in
    record { len = c.loop-k.invariant.len; undone = λ j q. (all j q).0; samples = λ j q. (all j q).1 }

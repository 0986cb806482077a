use Rattle.std.proofs.Common.{◌≡◌, ◌+◌, ◌<◌, arith, length, map, pos, refl, rules, subst}
use Rattle.jxlm_samples.specs.Coded.{sample_of}
use Rattle.jxlm_samples.specs.Inner.Rows.{MakesCells}
use Rattle.jxlm_samples.proofs.Stretches.{cells_more}
use Rattle.jxlm_samples.proofs.zeros.zero_samples.Goals as goal

pub loop-k-init : goal.loop-k-init
loop-k-init g c = record { len = refl; made = record { before = refl; cells = λ k l. absurd (omega arith) } }

pub loop-k-preserved : goal.loop-k-preserved
loop-k-preserved g c =
    let same = c.loop-k.invariant.len in
    let inside : c.args.from + c.loop-k.k < length c.loop-k.row = omega (arith, same, c.loop-k-test.true) in
    record {
      len = search rules;
      made = cells_more g.S.Sealed.to_int (λ _ token. sample_of g.S.Sealed.width c.args.leaf (pos 0) token) c.args.row.now c.loop-k.row c.args.from c.args.tokens.now c.loop-k.k c.sample_over_zero.result inside
          c.loop-k.invariant.made c.sample_over_zero.ensures;
    }

pub returns : goal.returns
returns g c =
    let to_int = g.S.Sealed.to_int in
    let end = c.loop-k.auto.k-end in
    let all : c.loop-k.k ≡ c.args.count = omega (arith, end, c.loop-k-test.false) in
    subst (λ n. MakesCells (λ _ token. sample_of g.S.Sealed.width c.args.leaf (pos 0) token) (map to_int c.args.row.now) (map to_int c.loop-k.row) c.args.from c.args.tokens.now n) all c.loop-k.invariant.made

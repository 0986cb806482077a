use Rattle.std.proofs.Common.{rules, ◌<◌, length, arith, refl, ◌∙◌}
use Rattle.std.proofs.lemmas.List.{get_or-set_other}
use Rattle.jxlm_plain.proofs.RunTokens.{filled_more}
use Rattle.jxlm_plain.proofs.runs.fill_from.Goals as goal

pub loop-k-init : goal.loop-k-init
loop-k-init c = record {
  many = refl;
  filled = λ j least below. absurd (omega (arith, least, below));
  kept = λ j below. refl;
}

pub loop-k-preserved : goal.loop-k-preserved
loop-k-preserved c =
    let h = c.loop-k.invariant in
    let k = c.loop-k.k in
    let tokens = c.loop-k.tokens in
    let same = h.many in
    let room = c.requires.inside in
    let start = c.loop-k.auto.k in
    let inside : k < length tokens = omega (arith, same, room, c.loop-k-test.true) in
    record {
      many = search rules;
      filled = filled_more tokens c.args.from k c.args.token inside h.filled;
      kept = λ j below. get_or-set_other tokens k j c.args.token 0 (λ e. absurd (omega (arith, start, below))) ∙ h.kept j below;
    }

pub returns-clause-filled : goal.returns-clause-filled
returns-clause-filled c = λ j least below.
    let end = c.loop-k.auto.k-end in
    c.loop-k.invariant.filled j least (omega (arith, end, below, c.loop-k-test.false))

pub returns-clause-kept : goal.returns-clause-kept
returns-clause-kept c = c.loop-k.invariant.kept

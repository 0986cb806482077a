use Rattle.std.proofs.Common.{rules, ◌≡◌, ◌⊎◌, inl, inr, arith}
use Rattle.std.proofs.lemmas.Bool.{cases_lt}
use Rattle.std.specs.Prelude.{get_or}
use Rattle.jxlm_encode_write.proofs.Widths.{none_fits, step_all, step_fits, all_fit, is_least}
use Rattle.jxlm_encode_write.proofs.plain.width_of.Goals as goal

pub loop-token-init : goal.loop-token-init
loop-token-init c = record {
  all = λ k d b. absurd (omega (arith, b));
  fits = none_fits c.args.tokens.now;
  small = omega arith;
}

pub loop-token-preserved : goal.loop-token-preserved
loop-token-preserved c =
    let either : (c.max-greatest.result ≡ c.loop-token.greatest) ⊎ (c.max-greatest.result ≡ get_or c.args.tokens.now c.loop-token.token-index 0) = let e = c.max-greatest.ensures in elim (cases_lt c.loop-token.greatest (get_or c.args.tokens.now c.loop-token.token-index 0)) [ inl lt ↦ inr (grind (arith, e, lt)) | inr ge ↦ inl (grind (arith, e, ge)) ] in
    record {
      all = step_all c.args.tokens.now c.loop-token.token-index c.loop-token.greatest c.max-greatest.result c.loop-token-test.true c.loop-token.invariant.all (search rules) (search rules);
      fits = step_fits c.args.tokens.now c.loop-token.token-index c.loop-token.greatest c.max-greatest.result c.loop-token-test.true c.loop-token.invariant.fits either;
      small = search rules;
    }

pub returns-clause-fits : goal.returns-clause-fits
returns-clause-fits c = all_fit c.args.tokens.now c.loop-token.token-index c.loop-token.greatest (search rules) c.loop-token.invariant.all c.loop-token.invariant.small

pub returns-clause-least : goal.returns-clause-least
returns-clause-least c = is_least c.args.tokens.now c.loop-token.token-index c.loop-token.greatest (search rules) c.loop-token.invariant.fits c.loop-token.invariant.small

use Rattle.std.proofs.Common.{rules, sym, subst, w32, FitsSigned}
use Rattle.std.proofs.lemmas.Int.{to_z-of_z}
use Rattle.jxlm_encode_tokens.specs.Tokens.{IsSampleToken}
use Rattle.jxlm_encode_tokens.proofs.token.kept_token.Goals as goal

pub returns : goal.returns
returns g c =
    let w = g.S.Sealed.width in
    let sample = g.S.Sealed.to_int c.args.sample in
    let fits : FitsSigned w32 c.args.prediction = search rules in
    record {
      value = subst (IsSampleToken w c.args.leaf.now c.args.prediction sample) (sym c.new.ensures.value)
          (subst (λ z. IsSampleToken w c.args.leaf.now z sample c.sample_token.result) (to_z-of_z w32 c.args.prediction fits) c.sample_token.ensures);
      cluster = c.new.ensures.cluster;
    }

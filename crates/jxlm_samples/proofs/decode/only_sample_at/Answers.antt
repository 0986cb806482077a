use Rattle.std.proofs.Common.{◌∙◌, ap, sym}
use Rattle.jxlm_samples.proofs.decode.only_sample_at.Goals as goal

pub returns-in-Some : goal.returns-in-Some
returns-in-Some g c = λ p is.
    record {
      leaf = c.args.leaf;
      token = c.in-Some.token;
      path_is = is;
      single = sym c.single_token.ensures ∙ c.in-Some.is;
      is = ap g.S.Sealed.to_int c.sample_from.ensures ∙ g.met.S.Sealed.to_int_from_int _;
    }

pub returns-in-None : goal.returns-in-None
returns-in-None g c = λ p is. tt

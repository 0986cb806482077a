-- The last four fields of weights that are listed.
use Rattle.std.specs.Prelude.{◌<◌}
use Rattle.jxlm_bits.specs.Grammar.{Grammar, number, give, ◌>>=◌}
use Rattle.jxlm_weighted.specs.declared.weights.WpHeader.{WpHeader}

-- the weight of each sub-prediction: four numbers of 4 bits, in a header with the fields before them
abbrev pub last_weights : WpHeader → Grammar WpHeader
last_weights h =
    number 4 >>= λ w0. number 4 >>= λ w1. number 4 >>= λ w2. number 4 >>= λ w3.
    give (record { default_wp = h.default_wp; wp_p1 = h.wp_p1; wp_p2 = h.wp_p2; wp_p3a = h.wp_p3a; wp_p3b = h.wp_p3b; wp_p3c = h.wp_p3c; wp_p3d = h.wp_p3d; wp_p3e = h.wp_p3e; wp_w0 = w0; wp_w1 = w1; wp_w2 = w2; wp_w3 = w3 })

-- the fields before them are at most 31
pub record HasFactors (h : WpHeader) : Type 0 where
  pub p1 : h.wp_p1 < 32
  pub p2 : h.wp_p2 < 32
  pub p3a : h.wp_p3a < 32
  pub p3b : h.wp_p3b < 32
  pub p3c : h.wp_p3c < 32
  pub p3d : h.wp_p3d < 32
  pub p3e : h.wp_p3e < 32

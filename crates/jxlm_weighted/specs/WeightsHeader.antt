-- The weights of the weighted predictor, as they stand in the input (ISO/IEC 18181-1, Modular: the bundle WPHeader).
use Rattle.std.specs.Prelude.{ℕ, true, false, Result}
use Rattle.jxlm_bits.specs.Decoding.{Found}
use Rattle.jxlm_bits.specs.ErrorKind.{ErrorAt, kind_of}
use Rattle.jxlm_bits.specs.Grammar.{Grammar, IsErrorAt, Returns, number, flag, give, either, ◌>>=◌}
use Rattle.jxlm_bits.specs.declared.error.Error.{Error}
use Rattle.jxlm_weighted.specs.declared.weights.WpHeader.{WpHeader}

-- the default weights
abbrev pub default_weights : WpHeader
default_weights = record { default_wp = true; wp_p1 = 16; wp_p2 = 10; wp_p3a = 7; wp_p3b = 7; wp_p3c = 7; wp_p3d = 0; wp_p3e = 0; wp_w0 = 13; wp_w1 = 12; wp_w2 = 12; wp_w3 = 12 }

-- weights that are listed: seven numbers of 5 bits and four of 4 bits
abbrev pub listed_weights : Grammar WpHeader
listed_weights =
    number 5 >>= λ p1. number 5 >>= λ p2.
    number 5 >>= λ p3a. number 5 >>= λ p3b. number 5 >>= λ p3c. number 5 >>= λ p3d. number 5 >>= λ p3e.
    number 4 >>= λ w0. number 4 >>= λ w1. number 4 >>= λ w2. number 4 >>= λ w3.
    give (record { default_wp = false; wp_p1 = p1; wp_p2 = p2; wp_p3a = p3a; wp_p3b = p3b; wp_p3c = p3c; wp_p3d = p3d; wp_p3e = p3e; wp_w0 = w0; wp_w1 = w1; wp_w2 = w2; wp_w3 = w3 })

-- a flag, and after it the weights where they are not the default ones
abbrev pub wp_header : Grammar WpHeader
wp_header = flag >>= λ is_default. either is_default (give default_weights) listed_weights

-- What a call that takes no memory returned, and where it left the reader, are what reading gives.
abbrev pub GivesExactly : {X : Type 0} → Result X Error → ℕ → Result (Found X) ErrorAt → Type 0
GivesExactly result q reading = Returns (λ e reading q. IsErrorAt reading (kind_of e) q) (λ v. v) result q reading

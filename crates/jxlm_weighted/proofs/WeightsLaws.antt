-- Weights are read exactly.
use Rattle.std.specs.Prelude.{false}
use Rattle.jxlm_bits.specs.Grammar.{Grammar, IsExact, ◌>>=◌}
use Rattle.jxlm_bits.proofs.GrammarLaws.{exact-give, exact-number, exact-bind, exact-either, exact-flag}
use Rattle.jxlm_weighted.specs.WeightsHeader.{default_weights, listed_weights, wp_header}

bind : {X Y : Type 0} {field : Grammar X} {next : X → Grammar Y} → IsExact field → ((x : X) → IsExact (next x)) → IsExact (field >>= next)
bind {field} {next} first rest = exact-bind field next first rest

exact-listed : IsExact listed_weights
exact-listed =
    bind (exact-number 5) λ p1. bind (exact-number 5) λ p2. bind (exact-number 5) λ p3a. bind (exact-number 5) λ p3b.
    bind (exact-number 5) λ p3c. bind (exact-number 5) λ p3d. bind (exact-number 5) λ p3e.
    bind (exact-number 4) λ w0. bind (exact-number 4) λ w1. bind (exact-number 4) λ w2. bind (exact-number 4) λ w3.
    exact-give (record { default_wp = false; wp_p1 = p1; wp_p2 = p2; wp_p3a = p3a; wp_p3b = p3b; wp_p3c = p3c; wp_p3d = p3d; wp_p3e = p3e; wp_w0 = w0; wp_w1 = w1; wp_w2 = w2; wp_w3 = w3 })

pub exact-wp_header : IsExact wp_header
exact-wp_header = bind exact-flag λ usual. exact-either usual _ _ (exact-give default_weights) exact-listed

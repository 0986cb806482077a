-- Clusters as tokens of one context, and slots of tokens.
use Rattle.std.proofs.Common.{◌≡◌, ℕ, zero, suc, ◌<◌, List, [], ◌∷◌, length, get_or, map, Bool, false, Ok, refl, sym, subst, ◌∙◌, inl, inr, arith}
use Rattle.std.specs.Prelude.{IsTrue}
use Rattle.std.specs.List.{All}
use Rattle.std.proofs.lemmas.Bool.{true≢false, cases_lt}
use Rattle.jxl_coding.specs.Clusters.{count_of, greatest, are_used}
use Rattle.jxl_coding_stream_write.specs.Heads.{map_token}
use Rattle.jxl_coding_stream_write.specs.Tokens.{HasSlot}
use Rattle.jxl_coding_stream_write.specs.declared.cluster.ClusterWriter.{ClusterWriter}
use Rattle.jxlm_bit_writer.specs.declared.token.Token.{Token}
use Rattle.jxl_coding_stream_write.proofs.OneContext.{only_zero}
use Rattle.jxl_coding_build.specs.Histograms.{AllOccur}

pub one_used : count_of (0 ∷ []) ≡ Ok 1
unfolding greatest are_used
one_used = refl

pub zero_tokens : (clusters : List ℕ) → All (λ (t : Token). t.cluster < 1) (map map_token clusters)
zero_tokens [] k d lt = absurd (omega (arith, lt))
zero_tokens (c ∷ cs) zero d lt = omega arith
zero_tokens (c ∷ cs) (suc k) d lt = zero_tokens cs k d (omega (arith, lt))

below_one : (clusters : List ℕ) → All (λ c. c ≡ 0) clusters → All (λ c. c < 1) clusters
below_one clusters zeros k d lt = let z = zeros k d lt in omega (arith, z)

-- clusters that are not all 0 are those of two contexts and more
pub two_contexts : (clusters : List ℕ) (n : ℕ) (plain : Bool) → count_of clusters ≡ Ok n → (All (λ c. c < 1) clusters → IsTrue plain) → plain ≡ false → 1 < length clusters
two_contexts clusters n plain used one off =
    elim (cases_lt 1 (length clusters)) [
      | inl lt ↦ lt
      | inr le ↦ absurd (true≢false (sym (one (below_one clusters (only_zero clusters n used le))) ∙ off))
    ]

pub slots_all : (codes : List ClusterWriter) (tokens : List Token) (many : ℕ) → length codes ≡ many →
    ((k : ℕ) (d : ClusterWriter) → k < length codes → AllOccur (get_or codes k d).config k tokens (length tokens) (get_or codes k d).slots.counts.items) →
    All (λ (t : Token). t.cluster < many) tokens → All (HasSlot codes) tokens
slots_all codes tokens many m occur of k d lt =
    let inside : (get_or tokens k d).cluster < length codes = subst (λ (n : ℕ). (get_or tokens k d).cluster < n) (sym m) (of k d lt) in
    (inside, λ e. occur (get_or tokens k d).cluster e inside k d lt refl)

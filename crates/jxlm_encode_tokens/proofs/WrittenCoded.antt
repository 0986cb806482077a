-- Samples are coded where their tokens are read one after another, and where they were written.
use Rattle.std.proofs.Common.{◌≡◌, ℕ, zero, suc, ◌+◌, ◌^◌, ◌<◌, ◌≤◌, ℤ, pos, List, [], ◌∷◌, length, take, get_or, Ok, Some, refl, sym, ap, ◌∙◌, subst, arith}
use Rattle.std.specs.List.{All, flat_map}
use Rattle.std.specs.Int.{Width}
use Rattle.std.proofs.lemmas.List.Elements.{All-head, All-tail}
use Rattle.std.proofs.lemmas.List.{length-append}
use Rattle.std.proofs.lemmas.Option.{slice_get-get_or}
use Rattle.jxlm_bits.specs.Decoding.{Meaning}
use Rattle.jxlm_plain.specs.Plain.{plain, plain2, plain_begin}
use Rattle.jxlm_samples.specs.Coded.{part_rule}
use Rattle.jxlm_samples.specs.Part.{Part, max_width, cells_of}
use Rattle.jxlm_samples.specs.Rule.{CodedPrefix}
use Rattle.jxlm_bit_writer.specs.Written.{digits, HasBits}
use Rattle.jxlm_encode_write.specs.Tokens.{token_bits, one_cluster, gamma_bits, gamma_token_bits, one_gamma_cluster}
use Rattle.jxlm_bit_writer.proofs.BitLists.{has_first, has_rest}
use Rattle.jxlm_encode_write.proofs.TokenLaws.{fixed_reads}
use Rattle.jxlm_encode_write.proofs.GammaLaws.{gamma_writable}
use Rattle.jxlm_encode_tokens.specs.Laws.{AreRead, HasOneCluster, ReadIsCoded, WrittenIsCoded, GammaWrittenIsCoded}
use Rattle.jxlm_encode_tokens.specs.Tokens.{AreTokensOf}

module _ {S : Type 0} (d : Meaning S) (bytes : List ℕ) (s : S) (widest : ℕ) where
  -- where the first k of the tokens end
  abbrev end_of : (k : ℕ) (tokens : List ℕ) (p q : ℕ) → AreRead d bytes s widest tokens p q → ℕ
  end_of zero tokens p q read = p
  end_of (suc k) [] p q read = p
  end_of (suc k) (t ∷ tokens) p q read = end_of k tokens read.0 q read.2

  -- token k is read from where those before it end
  read_at : (k : ℕ) (tokens : List ℕ) (p q : ℕ) (read : AreRead d bytes s widest tokens p q) → k < length tokens →
      d.read s bytes (end_of k tokens p q read) 0 widest ≡ Ok (record { value = get_or tokens k 0; state = s; position = end_of (suc k) tokens p q read })
  read_at k [] p q read less = absurd (omega (arith, less))
  read_at zero (t ∷ tokens) p q read less = read.1
  read_at (suc k) (t ∷ tokens) p q read less = read_at k tokens read.0 q read.2 (omega (arith, less))

  -- they end where all are read
  all_end : (tokens : List ℕ) (p q : ℕ) (read : AreRead d bytes s widest tokens p q) → end_of (length tokens) tokens p q read ≡ q
  all_end [] p q read = read
  all_end (t ∷ tokens) p q read = all_end tokens read.0 q read.2

module _ {S : Type 0} (d : Meaning S) (w : Width) (part : Part) (bytes : List ℕ) (s : S) (p q : ℕ) (cells : List ℤ) (tokens : List ℕ)
    (are : AreTokensOf w part cells tokens) (cluster : HasOneCluster part) (read : AreRead d bytes s (max_width part.channels) tokens p q) where
  abbrev place : ℕ → ℕ
  place k = end_of d bytes s (max_width part.channels) k tokens p q read

  prefix : (k : ℕ) → k ≤ length cells → CodedPrefix (part_rule d w part bytes) cells s p k s (place k)
  prefix zero le = (refl, refl)
  prefix (suc k) le =
      let c = are.count in
      let here = read_at d bytes s (max_width part.channels) k tokens p q read (omega (arith, le, c)) in (
        s,
        place k,
        get_or tokens k 0,
        prefix k (omega (arith, le)),
        rw (cluster (take k cells)) here,
        slice_get-get_or cells k (pos 0) (omega (arith, le)) ∙ ap Some (sym (are.each k (omega (arith, le))).stands),
      )

-- samples whose tokens are read are coded to the end
pub read_coded : {S : Type 0} (d : Meaning S) → ReadIsCoded d
read_coded d w part bytes s p q grids tokens are count cluster begins read accepts =
    let n : ℕ = length (cells_of grids) in
    let end : end_of d bytes s (max_width part.channels) n tokens p q read ≡ q =
    ap (λ k. end_of d bytes s (max_width part.channels) k tokens p q read) (sym are.count) ∙ all_end d bytes s (max_width part.channels) tokens p q read in
    record {
      state = s;
      coded = record {
        start = record { value = s; position = p };
        begins = begins;
        joined = rw count (subst (CodedPrefix (part_rule d w part bytes) (cells_of grids) s p n s) end
            (prefix d w part bytes s p q (cells_of grids) tokens are cluster read n (omega arith)));
      };
      accepts = accepts;
    }

-- tokens that stand are read, where each is read from its bits
written_read : {S : Type 0} (d : Meaning S) (s : S) (one : ℕ → List ℕ) (Fits : ℕ → Type 0) (bytes : List ℕ) (widest : ℕ) →
    ((q v : ℕ) → Fits v → HasBits bytes q (one v) → d.read s bytes q 0 widest ≡ Ok (record { value = v; state = s; position = q + length (one v) })) →
    (p : ℕ) (tokens : List ℕ) → All Fits tokens → HasBits bytes p (flat_map one tokens) → AreRead d bytes s widest tokens p (p + length (flat_map one tokens))
written_read d s one Fits bytes widest reads p [] fit has = omega arith
written_read d s one Fits bytes widest reads p (t ∷ tokens) fit has =
    let more = written_read d s one Fits bytes widest reads (p + length (one t)) tokens (All-tail Fits t tokens fit) (has_rest bytes p (one t) (flat_map one tokens) has) in
    let end : p + length (one t) + length (flat_map one tokens) ≡ p + length (flat_map one (t ∷ tokens)) = let n = length-append (one t) (flat_map one tokens) in omega (arith, n) in (
      p + length (one t),
      reads p t (All-head Fits t tokens fit) (has_first bytes p (one t) (flat_map one tokens) has),
      subst (AreRead d bytes s widest tokens (p + length (one t))) end more,
    )

begun : (bytes : List ℕ) (contexts width p : ℕ) → plain_begin (one_cluster contexts width) bytes p ≡ Ok (record { value = one_cluster contexts width; position = p })
unfolding plain_begin
begun bytes contexts width p = refl

-- samples whose tokens stand are coded to the end
pub written_coded : WrittenIsCoded
written_coded w part bytes contexts width p grids tokens are count fit cluster has =
    read_coded plain w part bytes (one_cluster contexts width) p (p + length (token_bits width tokens)) grids tokens are count cluster (begun bytes contexts width p)
    (written_read plain (one_cluster contexts width) (digits width) (λ t. t < 2 ^ width) bytes (max_width part.channels)
    (λ q v small h. fixed_reads width contexts bytes q (max_width part.channels) v small h) p tokens fit has) refl

-- and so are those whose tokens stand as gamma codes
pub gamma_written_coded : GammaWrittenIsCoded
gamma_written_coded w part bytes contexts p grids tokens are count fit cluster has =
    read_coded plain2 w part bytes (one_gamma_cluster contexts) p (p + length (gamma_token_bits tokens)) grids tokens are count cluster (gamma_writable.begun bytes p contexts)
    (written_read plain2 (one_gamma_cluster contexts) gamma_bits (λ t. t < 2 ^ 32) bytes (max_width part.channels)
    (λ q v small h. gamma_writable.reads contexts bytes q (max_width part.channels) v small h) p tokens fit has) (gamma_writable.ended contexts)

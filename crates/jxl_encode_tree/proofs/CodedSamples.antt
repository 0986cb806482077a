-- Samples whose tokens were written as a stream are coded.
use Rattle.std.proofs.Common.{◌≡◌, ℕ, ◌*◌, ◌<◌, ℤ, List, [], ◌∷◌, ◌++◌, length, map, inl, inr, refl, sym, ap, ◌∙◌, subst, arith}
use Rattle.std.specs.Int.{Width}
use Rattle.std.proofs.Math.ListN.{get_or-map}
use Rattle.std.proofs.lemmas.Bool.{cases_lt}
use Rattle.std.proofs.lemmas.List.{get_or_default, length-map}
use Rattle.std.proofs.lemmas.List.Sums.{sum_by-cons}
use Rattle.jxlm_bits.specs.Decoding.{Asked}
use Rattle.jxlm_bit_writer.specs.ReadStreams.{IsRead}
use Rattle.jxlm_bit_writer.specs.Writes.{Adds}
use Rattle.jxlm_bit_writer.specs.declared.token.Token.{Token}
use Rattle.jxlm_bit_writer.proofs.WriteLaws.{becomes}
use Rattle.jxlm_samples.specs.Part.{Part, cell_count, cells_of, max_width}
use Rattle.jxlm_transform.specs.Channels.{Channel, area}
use Rattle.jxlm_encode_tokens.specs.Tokens.{AreClusteredTokensOf}
use Rattle.jxlm_encode_streams.specs.Streams.{AsksFor}
use Rattle.jxlm_encode_streams.proofs.ReadStreams.{read_streams_coded}
use Rattle.jxl_coding.specs.Parse.{decoder_at}
use Rattle.jxl_coding.specs.Tokens.{Entropy, entropy}
use Rattle.jxl_coding.specs.Symbols.{Codes}
use Rattle.jxl_coding_stream_write.specs.CopiedStreams.{AreAskedWide, IsCopiedStream}
use Rattle.jxl_coding_stream_write.specs.Streams.{AreAsked}
use Rattle.jxl_encode_tree.specs.Samples.{AreCoded}

-- the read of a token
abbrev ask : ℕ → Token → Asked
ask multiplier token = record { cluster = token.cluster; multiplier = multiplier }

asked_for : (multiplier : ℕ) (tokens : List Token) → AreAsked (map (ask multiplier) tokens) tokens
asked_for multiplier [] = refl
asked_for multiplier (t ∷ tokens) = ap (λ (cs : List ℕ). t.cluster ∷ cs) (asked_for multiplier tokens)

module _ (w : Width) (part : Part) (cells : List ℤ) (tokens : List Token) (are : AreClusteredTokensOf w part cells tokens) where
  many : length tokens ≡ length cells
  many = sym (length-map tokens (λ t. t.value)) ∙ are.values.count

  asks : AsksFor part cells (map (ask (max_width part.channels)) tokens)
  asks = (
    length-map tokens (ask (max_width part.channels)) ∙ many,
    λ k d lt.
        let none : Token = record { cluster = 0; value = 0 } in
        let n = length-map tokens (ask (max_width part.channels)) in
        get_or_default (map (ask (max_width part.channels)) tokens) k d (ask (max_width part.channels) none) (omega (arith, lt, n, many))
        ∙ get_or-map (ask (max_width part.channels)) tokens k none
        ∙ ap (λ (c : ℕ). record { cluster = c; multiplier = max_width part.channels }) (are.clusters k none lt),
  )

-- channels with cells have a width
zero_times : (h : ℕ) → 0 * h ≡ 0
zero_times h = omega arith

area_wide : (c : Channel) → 0 < area c → 0 < c.width
area_wide c some = elim (cases_lt 0 c.width) [
  | inl lt ↦ lt
  | inr ge ↦
      let none : c.width ≡ 0 = omega (arith, ge) in
      let e : c.width * c.height ≡ 0 = ap (λ (n : ℕ). n * c.height) none ∙ zero_times c.height in
      absurd (omega (arith, e, some))
]

widest_some : (channels : List Channel) → 0 < cell_count channels → 0 < max_width channels
widest_some [] some = absurd (omega (arith, some))
widest_some (c ∷ channels) some =
    let sum = sum_by-cons area c channels in
    elim (cases_lt 0 (area c)) [
      | inl lt ↦ let w = area_wide c lt in omega (arith, w)
      | inr ge ↦ let rest = widest_some channels (omega (arith, sum, ge, some)) in omega (arith, rest)
    ]

asked_wide : (multiplier : ℕ) (tokens : List Token) → (0 < length tokens → 0 < multiplier) → AreAskedWide (map (ask multiplier) tokens) tokens
asked_wide multiplier tokens some = record {
  clusters = asked_for multiplier tokens;
  wide = λ k d lt.
      let none : Token = record { cluster = 0; value = 0 } in
      let n = length-map tokens (ask multiplier) in
      let m : 0 < multiplier = some (omega (arith, lt, n)) in
      subst (λ (a : Asked). 0 < a.multiplier) (sym (get_or_default (map (ask multiplier) tokens) k d (ask multiplier none) lt ∙ get_or-map (ask multiplier) tokens k none)) m;
}

-- a stream was added
copied_added : (codes : Codes) (tokens : List Token) (old new : List ℕ) → (b : List ℕ) × (new ≡ old ++ b) × IsCopiedStream codes tokens b →
    Adds old new (λ bytes p q. (s : Entropy) (asked : List Asked) → s.codes ≡ codes → AreAskedWide asked tokens → IsRead (entropy decoder_at) s bytes p asked (map (λ t. t.value) tokens) q)
copied_added codes tokens old new s = record { word = s.0; added = s.1; holds = λ bytes p has decoder asked same are. s.2 decoder bytes p asked same are has }

pub samples_coded : (codes : Codes) (tokens : List Token) (old new : List ℕ) → (b : List ℕ) × (new ≡ old ++ b) × IsCopiedStream codes tokens b → Adds old new (AreCoded codes tokens)
samples_coded codes tokens old new s =
    becomes (copied_added codes tokens old new s)
    (λ bytes p q read w part grids decoder are count same.
    read_streams_coded (entropy decoder_at) w part bytes decoder p q grids (map (ask (max_width part.channels)) tokens) (map (λ t. t.value) tokens) are.values count (asks w part (cells_of grids) tokens are)
    (read decoder (map (ask (max_width part.channels)) tokens) same
    (asked_wide (max_width part.channels) tokens (λ some. let n = many w part (cells_of grids) tokens are in widest_some part.channels (omega (arith, some, n, count))))))

-- What reading a sample by a tree returns.
use Rattle.std.specs.Prelude.{◌≡◌, ℕ, ℤ, Result, Ok, Err}
use Rattle.jxlm_bits.specs.Bits.{bytes_of, position_of}
use Rattle.jxlm_bits.specs.Decoding.{Meaning, Taken}
use Rattle.jxlm_bits.specs.declared.bits.Bitstream.{Bitstream}
use Rattle.jxlm_bits.specs.declared.decoder.DecoderError.{DecoderError}
use Rattle.jxlm_bits.specs.declared.error.Error.{Error}
use Rattle.jxlm_bits.specs.declared.error.Error.TheVariants.{Decoder}
use Rattle.jxlm_tree.specs.FlatTree.{residual_of}
use Rattle.jxlm_ma_tree.specs.declared.leaf.Leaf.{Leaf}
use Rattle.jxlm_predictor.specs.declared.predictor.Predictor.{Predictor}

-- the token that reading gave, and the state t and the position q after it
pub record ReadsSample {S : Type 0} (l : Leaf) (residual : ℤ) (predictor : Predictor) (t : S) (q : ℕ) (reading : Result (Taken ℕ S) DecoderError) : Type 0 where
  pub token : ℕ
  pub reads : reading ≡ Ok (record { value = token; state = t; position = q })
  pub residual_is : residual ≡ residual_of l token
  pub predictor_is : predictor ≡ l.predictor

-- reading returns an error, and state and position stay
pub record FailsSample {S : Type 0} (e : Error) (s t : S) (p q : ℕ) (reading : Result (Taken ℕ S) DecoderError) : Type 0 where
  pub cause : DecoderError
  pub error : e ≡ Decoder cause
  pub fails : reading ≡ Err cause
  pub state : t ≡ s
  pub place : q ≡ p

-- What reading a sample at this leaf returned, with this multiplier of distances, and the decoder's state t and the
-- reader b after it, are what its token gives from state s and the reader a.
abbrev pub SampleGives : {S : Type 0} → Meaning S → ℕ → Leaf → Result (ℤ × Predictor) Error → S → S → Bitstream → Bitstream → Type 0
SampleGives d distances l (Ok x) s t a b =
    ReadsSample l x.0 x.1 t (position_of b) (d.read s (bytes_of a) (position_of a) l.cluster distances)
SampleGives d distances l (Err e) s t a b =
    FailsSample e s t (position_of a) (position_of b) (d.read s (bytes_of a) (position_of a) l.cluster distances)

-- How one cell of a part is read.
use Rattle.std.specs.Prelude.{◌≡◌, ◌≢◌, ℕ, ◌+◌, ◌≤◌, ℤ, Bool, List, Result, Ok, Err}
use Rattle.std.specs.Int.{Width}
use Rattle.jxlm_bits.specs.Bits.{bytes_of, position_of}
use Rattle.jxlm_bits.specs.Decoding.{Meaning, Taken}
use Rattle.jxlm_base.specs.Grid.{Grid}
use Rattle.jxlm_base.specs.Regions.{store_meanings}
use Rattle.jxlm_bits.specs.declared.bits.Bitstream.{Bitstream}
use Rattle.jxlm_bits.specs.declared.decoder.DecoderError.{DecoderError}
use Rattle.jxlm_bits.specs.declared.decoder.DecoderError.TheVariants.{OutOfMemory}
use Rattle.jxlm_tree.specs.FlatTree.{FlatTree}
use Rattle.jxlm_predictor.specs.Holding.{state_of, store_of}
use Rattle.jxlm_predictor.specs.Predictions.{prediction}
use Rattle.jxlm_predictor.specs.Standing.{Setting, StandsAt}
use Rattle.jxlm_ma_tree.specs.declared.leaf.Leaf.{Leaf}
use Rattle.jxlm_predictor.specs.declared.properties.Properties.{Properties}
use Rattle.jxlm_samples.specs.CellLeaves.{leaf_at}
use Rattle.jxlm_samples.specs.Coded.{sample_of}
use Rattle.jxlm_samples.specs.declared.source.Source.{Source}

-- what tokens are taken from, with another reader
abbrev pub source_of : {D : Type 0} → Source D → Bitstream → Source D
source_of source bits = record { decoder = source.decoder; bits = bits; steps = source.steps }

-- a sample was read at this leaf, over this prediction, from this reading; it left state t and position q
pub record ReadsNext {S X : Type 0} (w : Width) (from_int : ℤ → X) (l : Leaf) (predicted : ℤ) (sample : X)
    (t : S) (q : ℕ) (reading : Result (Taken ℕ S) DecoderError) : Type 0 where
  pub token : ℕ
  pub read : reading ≡ Ok (record { value = token; state = t; position = q })
  pub sample_is : sample ≡ from_int (sample_of w l predicted token)

-- the prediction there
abbrev pub predicted_at : Bool → FlatTree → Setting → List (Grid ℤ) → List ℤ → ℤ
predicted_at clamped flat s store samples =
    prediction s.weights samples s.width (leaf_at clamped flat s store samples).predictor

-- What the read of a sample at a cell with these properties returns, in whatever setting and after whatever samples the
-- state is at that cell.
module _ {D X : Type 0} (d : Meaning D) (to_int : X → ℤ) (clamped : Bool) (flat : FlatTree) (widest : ℕ) (properties : Properties X)
    (old new : Source D) where
  -- the numbers of the store that the properties look at
  abbrev pub numbers : List (Grid ℤ)
  numbers = store_meanings to_int (store_of properties)

  -- the read of its token
  abbrev pub reading : Setting → List ℤ → Result (Taken ℕ D) DecoderError
  reading s samples =
      d.read old.decoder (bytes_of old.bits) (position_of old.bits) (leaf_at clamped flat s numbers samples).cluster widest

  -- this sample
  pub record ReadsSample (w : Width) (from_int : ℤ → X) (cost : ℕ) (sample : X) : Type 0 where
    pub reads : (s : Setting) (samples : List ℤ) → StandsAt (state_of properties) s samples →
        ReadsNext w from_int (leaf_at clamped flat s numbers samples) (predicted_at clamped flat s numbers samples) sample
        new.decoder (position_of new.bits) (reading s samples)
    pub clusters : d.cluster_map new.decoder ≡ d.cluster_map old.decoder
    pub bytes : bytes_of new.bits ≡ bytes_of old.bits
    pub work : new.steps ≤ old.steps + cost
    pub more : old.steps ≤ new.steps

  -- this error
  pub record FailsSample (cost : ℕ) (e : DecoderError) : Type 0 where
    pub error : (s : Setting) (samples : List ℤ) → StandsAt (state_of properties) s samples → reading s samples ≡ Err e
    pub place_is : position_of new.bits ≡ position_of old.bits
    pub memory : e ≢ OutOfMemory
    pub bytes : bytes_of new.bits ≡ bytes_of old.bits
    pub work : new.steps ≤ old.steps + cost
    pub more : old.steps ≤ new.steps

  -- what was returned
  abbrev pub SampleGives : Width → (ℤ → X) → ℕ → Result X DecoderError → Type 0
  SampleGives w from_int cost (Ok sample) = ReadsSample w from_int cost sample
  SampleGives w from_int cost (Err e) = FailsSample cost e

-- The samples of a part, as they are coded (ISO/IEC 18181-1, Modular: decoding of samples).
use Rattle.std.specs.Prelude.{◌≡◌, ℕ, suc, ◌<◌, ◌⊎◌, ℤ, pos, ◌+ℤ◌, ◌*ℤ◌, List, take, Ok, Err}
use Rattle.std.specs.Int.{Width, int_wrap}
use Rattle.jxlm_bits.specs.Decoding.{Found, Meaning}
use Rattle.jxlm_base.specs.Grid.{Grid}
use Rattle.jxlm_bits.specs.Numbers.{unpack}
use Rattle.jxlm_bits.specs.declared.decoder.DecoderError.{DecoderError}
use Rattle.jxlm_predictor.specs.Predictions.{prediction}
use Rattle.jxlm_ma_tree.specs.declared.leaf.Leaf.{Leaf}
use Rattle.jxlm_samples.specs.Part.{Part, surroundings, next_leaf, cell_count, max_width, cells_of}
use Rattle.jxlm_samples.specs.Rule.{Rule, CodedPrefix}

-- the sample that a token stands for, at a leaf and over a prediction, reduced to the width of the samples
abbrev pub sample_of : Width → Leaf → ℤ → ℕ → ℤ
sample_of w leaf predicted token = int_wrap w (unpack token *ℤ pos leaf.multiplier +ℤ leaf.offset +ℤ predicted)

-- the prediction of the next sample of a part, after the samples before it
abbrev pub next_prediction : Part → List ℤ → ℤ
next_prediction part before =
    let s = surroundings part before in
    prediction s.weights s.samples s.width (next_leaf part before).predictor

module _ {S : Type 0} (d : Meaning S) (w : Width) (part : Part) (bytes : List ℕ) where
  -- the next sample of a part: its token is read from the cluster of its leaf, under the maximum width
  abbrev pub part_rule : Rule S
  part_rule = record {
    read = λ before s p. d.read s bytes p (next_leaf part before).cluster (max_width part.channels);
    value = λ before token. sample_of w (next_leaf part before) (next_prediction part before) token;
  }

  -- the decoder begins at position p, and the first k samples are coded from there up to this state and position
  pub record IsCoded (decoder : S) (p k : ℕ) (grids : List (Grid ℤ)) (state : S) (q : ℕ) : Type 0 where
    pub start : Found S
    pub begins : d.begin decoder bytes p ≡ Ok start
    pub joined : CodedPrefix part_rule (cells_of grids) start.value start.position k state q

  -- all samples are coded from position p up to position q, and the decoder accepts the end
  pub record IsCodedToTheEnd (decoder : S) (p : ℕ) (grids : List (Grid ℤ)) (q : ℕ) : Type 0 where
    pub state : S
    pub coded : IsCoded decoder p (cell_count part.channels) grids state q
    pub accepts : d.finalize state ≡ Ok tt

  -- n cells are coded from p up to q, and the next call, a read or finalize, returns e: the number of reads tried
  pub record FailsAfter (decoder : S) (p n : ℕ) (grids : List (Grid ℤ)) (q : ℕ) (e : DecoderError) (tried : ℕ) :
      Type 0 where
    pub state : S
    pub coded : IsCoded decoder p n grids state q
    pub error :
        ((n < cell_count part.channels) × (tried ≡ suc n) × (part_rule.read (take n (cells_of grids)) state q ≡ Err e))
        ⊎ ((n ≡ cell_count part.channels) × (tried ≡ n) × (d.finalize state ≡ Err e))

  -- decoding cells from position p returns the error e, of begin or of a call after it, and leaves the reader at q
  abbrev pub DecodingFails : S → ℕ → DecoderError → ℕ → ℕ → Type 0
  DecodingFails decoder p e q tried =
      (0 < cell_count part.channels) × (((d.begin decoder bytes p ≡ Err e) × (q ≡ p) × (tried ≡ 0))
      ⊎ ((n : ℕ) × (grids : List (Grid ℤ)) × FailsAfter decoder p n grids q e tried))

  -- the part is coded whole: its cells to the end, or none from p to p
  abbrev pub IsCodedWhole : S → ℕ → List (Grid ℤ) → ℕ → Type 0
  IsCodedWhole decoder p grids q =
      ((0 < cell_count part.channels) × IsCodedToTheEnd decoder p grids q) ⊎ ((cell_count part.channels ≡ 0) × (q ≡ p))

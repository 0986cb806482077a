-- What decoding a part returns, and what it leaves.
use Rattle.std.specs.Prelude.{◌≡◌, ℕ, ◌+◌, ◌<◌, ◌≤◌, ◌⊎◌, ℤ, List, drop, Bool, true, false, Result, Ok, Err}
use Rattle.std.specs.Int.{Width}
use Rattle.jxlm_bits.specs.Decoding.{Meaning}
use Rattle.jxlm_base.specs.Grid.{Grid}
use Rattle.jxlm_bits.specs.declared.decoder.DecoderError.{DecoderError}
use Rattle.jxlm_bits.specs.declared.decoder.DecoderError.TheVariants.{UnexpectedEof, Invalid, OutOfMemory}
use Rattle.jxlm_bits.specs.declared.error.Error.{Error}
use Rattle.jxlm_bits.specs.declared.error.Error.TheVariants.{Decoder, Buffer}
use Rattle.jxlm_transform.specs.Channels.{AreGridsOf}
use Rattle.jxlm_samples.specs.Coded.{FailsAfter, IsCodedWhole}
use Rattle.jxlm_samples.specs.Part.{Part, cell_count, cells_of}

-- what decoding changes: the reader's position, the part's grids, and whether it is partial
pub record Standing : Type 0 where
  pub position : ℕ
  pub grids : List (Grid ℤ)
  pub partial : Bool

module _ {S : Type 0} (d : Meaning S) (w : Width) (part : Part) (bytes : List ℕ) (decoder : S)
    (old new : Standing) where
  -- begin returns the error: nothing changed, and no read was tried
  pub record FailsToBegin (e : DecoderError) (tried : ℕ) : Type 0 where
    pub error : d.begin decoder bytes old.position ≡ Err e
    pub unchanged : new ≡ old
    pub tries : tried ≡ 0

  -- a later call returns the error: the cells before it are coded, the others as before, and the reader is before it
  pub record FailsLater (e : DecoderError) (tried : ℕ) : Type 0 where
    pub count : ℕ
    pub fails : FailsAfter d w part bytes decoder old.position count new.grids new.position e tried
    pub rest : drop count (cells_of new.grids) ≡ drop count (cells_of old.grids)
    pub fits : AreGridsOf part.channels new.grids
    pub as_partial : new.partial ≡ old.partial

  -- a part with cells fails with e at one of the two
  abbrev pub Fails : DecoderError → ℕ → Type 0
  Fails e tried = (0 < cell_count part.channels) × (FailsToBegin e tried ⊎ FailsLater e tried)

  -- all cells are coded, and the part is not partial any more
  pub record IsWhole (tried : ℕ) : Type 0 where
    pub coded : IsCodedWhole d w part bytes decoder old.position new.grids new.position
    pub fits : AreGridsOf part.channels new.grids
    pub whole : new.partial ≡ false
    pub tries : tried ≡ cell_count part.channels

  -- out of memory: nothing changed
  pub record IsUnchanged (tried : ℕ) : Type 0 where
    pub unchanged : new ≡ old
    pub tries : tried ≡ 0

  -- what decoding returns: Ok where the part is whole, or the input ends and that is allowed; else the decoder's error
  abbrev pub DecodeGives : Bool → Result (Unit {0}) Error → ℕ → Type 0
  DecodeGives allow_partial (Ok u) tried = IsWhole tried ⊎ ((allow_partial ≡ true) × Fails UnexpectedEof tried)
  DecodeGives allow_partial (Err (Decoder UnexpectedEof)) tried = (allow_partial ≡ false) × Fails UnexpectedEof tried
  DecodeGives allow_partial (Err (Decoder (Invalid k))) tried = Fails (Invalid k) tried
  DecodeGives allow_partial (Err (Decoder OutOfMemory)) tried = IsUnchanged tried
  DecodeGives allow_partial (Err (Buffer m)) tried = IsUnchanged tried
  DecodeGives allow_partial (Err e) tried = ⊥

-- a count went on, and by at most n
abbrev pub MovesWithin : ℕ → ℕ → ℕ → Type 0
MovesWithin before after most = (before ≤ after) × (after ≤ before + most)

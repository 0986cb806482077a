-- What decoding a part leaves in a store, whose regions hold the part's grids.
use Rattle.std.specs.Prelude.{ℕ, ◌+◌, ◌*◌, ◌<◌, ◌≤◌, ℤ, List, Bool}
use Rattle.std.specs.Int.{Width}
use Rattle.jxlm_bits.specs.Decoding.{Meaning}
use Rattle.jxlm_base.specs.Grid.{Grid}
pub use Rattle.jxlm_base.specs.Outside.{KeepsOutside, buffer_at}
pub use Rattle.jxlm_base.specs.Regions.{grids_in}
use Rattle.jxlm_bits.specs.declared.decoder.DecoderError.{DecoderError}
use Rattle.jxlm_base.specs.declared.subgrid.Region.{Region}
use Rattle.jxlm_transform.specs.Channels.{AreGridsOf}
use Rattle.jxlm_samples.specs.Coded.{IsCodedToTheEnd}
use Rattle.jxlm_samples.specs.Decode.{Fails}
use Rattle.jxlm_samples.specs.Part.{Part, cell_count}

module _ {S : Type 0} (d : Meaning S) (w : Width) (part : Part) (bytes : List ℕ) (regions : List Region)
    (decoder : S) (old : List (Grid ℤ)) (p : ℕ) (new : List (Grid ℤ)) (q : ℕ) where
  -- the part is coded to the end
  abbrev pub DecodesAll : Type 0
  DecodesAll =
      IsCodedToTheEnd d w part bytes decoder p (grids_in regions new) q × AreGridsOf part.channels (grids_in regions new)

  -- the part, where it has cells, fails with e, and stays as partial as it was; each read that was tried took at
  -- most `cost` steps
  abbrev pub DecodesSome : ℕ → ℕ → ℕ → DecoderError → Type 0
  DecodesSome cost before after e = (partial : Bool) → 0 < cell_count part.channels →
      (tried : ℕ) × Fails d w part bytes decoder
      (record { position = p; grids = grids_in regions old; partial = partial })
      (record { position = q; grids = grids_in regions new; partial = partial }) e tried ×
      (after ≤ before + tried * cost)

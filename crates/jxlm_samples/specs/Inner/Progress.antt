-- How far the decoding of a part has come: what its loops over channels, rows and columns keep.
use Rattle.std.specs.Prelude.{◌≡◌, ◌≢◌, ℕ, suc, ◌+◌, ◌*◌, ◌<◌, ◌≤◌, ℤ, List, take, drop, Result, Ok, Err}
use Rattle.std.specs.Int.{Width}
use Rattle.jxlm_bits.specs.Bits.{bytes_of, position_of}
use Rattle.jxlm_bits.specs.Decoding.{Meaning}
use Rattle.jxlm_base.specs.Grid.{Grid}
use Rattle.jxlm_base.specs.Outside.{KeepsOutside}
use Rattle.jxlm_base.specs.Regions.{grids_in, store_meanings}
use Rattle.jxlm_bits.specs.declared.decoder.DecoderError.{DecoderError}
use Rattle.jxlm_bits.specs.declared.decoder.DecoderError.TheVariants.{OutOfMemory}
use Rattle.jxlm_base.specs.declared.subgrid.Region.{Region}
use Rattle.jxlm_transform.specs.Channels.{AreGridsOf}
use Rattle.jxlm_samples.specs.Coded.{part_rule, IsCoded}
use Rattle.jxlm_samples.specs.Progress.{DecodesAll, DecodesSome}
use Rattle.jxlm_samples.specs.Part.{Part, channel, cell_count, cells_before, cells_of}
use Rattle.jxlm_samples.specs.Reading.{cost_of, part_of, regions_of}
use Rattle.jxlm_samples.specs.declared.source.Source.{Source}
use Rattle.jxlm_samples.specs.declared.coding.PartCoding.{PartCoding}

module _ {S : Type 0} (d : Meaning S) (w : Width) (part : Part) (bytes : List ℕ) (decoder : S)
    (p0 : ℕ) (old : List (Grid ℤ)) where
  -- the first k cells are coded, and the others are as before
  pub record Reached (k : ℕ) (now : List (Grid ℤ)) (state : S) (q : ℕ) : Type 0 where
    pub coded : IsCoded d w part bytes decoder p0 k now state q
    pub rest : drop k (cells_of now) ≡ drop k (cells_of old)
    pub fits : AreGridsOf part.channels now

  -- the read of the next cell returned the error e there
  pub record Stopped (e : DecoderError) (now : List (Grid ℤ)) (q : ℕ) : Type 0 where
    pub count : ℕ
    pub state : S
    pub within : count < cell_count part.channels
    pub reached : Reached count now state q
    pub error : (part_rule d w part bytes).read (take count (cells_of now)) state q ≡ Err e

-- how many cells of a part are before column x of row y of channel i
abbrev pub place_of : Part → ℕ → ℕ → ℕ → ℕ
place_of part i x y = cells_before part.channels i + (y * (channel part.channels i).width + x)

-- the cells before column x of row y of grid i
abbrev pub preceding_cells : Part → List (Grid ℤ) → ℕ → ℕ → ℕ → List ℤ
preceding_cells part grids i x y = take (place_of part i x y) (cells_of grids)

-- from one cell up to another, each took at most `cost` steps
abbrev pub TakesSteps : ℕ → ℕ → ℕ → ℕ → ℕ → Type 0
TakesSteps cost from to before after = after + from * cost ≤ before + to * cost

module _ {S : Type 0} (d : Meaning S) (w : Width) (part : Part) (bytes : List ℕ) (regions : List Region) where
  -- Whatever was decoded before: where the first `from` cells were decoded, the first `to` are now.
  abbrev pub GoesOn : ℕ → ℕ → List (Grid ℤ) → S → ℕ → List (Grid ℤ) → S → ℕ → Type 0
  GoesOn from to store s p store' s' p' = (decoder : S) (p0 : ℕ) (old : List (Grid ℤ)) →
      Reached d w part bytes decoder p0 old from (grids_in regions store) s p →
      Reached d w part bytes decoder p0 old to (grids_in regions store') s' p'

  -- Whatever was decoded before: where decoding had come to that cell, the read of it or of a later one returned the
  -- error e, and each read up to it took at most `cost` steps.
  abbrev pub Stops : ℕ → ℕ → ℕ → ℕ → List (Grid ℤ) → S → ℕ → List (Grid ℤ) → ℕ → DecoderError → Type 0
  Stops cost before after from store s p store' p' e = (decoder : S) (p0 : ℕ) (old : List (Grid ℤ)) →
      Reached d w part bytes decoder p0 old from (grids_in regions store) s p →
      (stopped : Stopped d w part bytes decoder p0 old e (grids_in regions store') p') ×
      TakesSteps cost from (suc stopped.count) before after

-- how far decoding is: what it goes through beside the store, and the store
pub record Moment (D X : Type 0) : Type 0 where
  pub source : Source D
  pub store : List (Grid X)

abbrev pub moment : {D X : Type 0} → Source D → List (Grid X) → Moment D X
moment source store = record { source = source; store = store }

-- what the loops over rows and channels return and leave
module _ {D X : Type 0} (c : PartCoding D) (d : Meaning D) (w : Width) (to_int : X → ℤ) where
  -- cells `from` up to `to` of the part were decoded
  pub record DecodesCells (from to : ℕ) (old new : Moment D X) : Type 0 where
    pub goes : GoesOn d w (part_of c) (bytes_of old.source.bits) (regions_of c) from to
        (store_meanings to_int old.store) old.source.decoder (position_of old.source.bits)
        (store_meanings to_int new.store) new.source.decoder (position_of new.source.bits)
    pub work : TakesSteps (cost_of c) from to old.source.steps new.source.steps
    pub more : old.source.steps ≤ new.source.steps
    pub keeps : KeepsOutside (regions_of c) old.store new.store
    pub clusters : d.cluster_map new.source.decoder ≡ d.cluster_map old.source.decoder
    pub bytes : bytes_of new.source.bits ≡ bytes_of old.source.bits

  -- the read of cell `from` or of a later one returned the error e, and the cells before it were decoded
  pub record FailsInCells (from : ℕ) (old new : Moment D X) (e : DecoderError) : Type 0 where
    pub stops : Stops d w (part_of c) (bytes_of old.source.bits) (regions_of c) (cost_of c) old.source.steps new.source.steps from
        (store_meanings to_int old.store) old.source.decoder (position_of old.source.bits)
        (store_meanings to_int new.store) (position_of new.source.bits) e
    pub more : old.source.steps ≤ new.source.steps
    pub keeps : KeepsOutside (regions_of c) old.store new.store
    pub memory : e ≢ OutOfMemory
    pub bytes : bytes_of new.source.bits ≡ bytes_of old.source.bits

  -- cells `from` up to `to` were decoded, or the read of one of them returned an error
  abbrev pub WalkGives : ℕ → ℕ → Result (Unit {0}) DecoderError → Moment D X → Moment D X → Type 0
  WalkGives from to (Ok u) old new = DecodesCells from to old new
  WalkGives from to (Err e) old new = FailsInCells from old new e

  -- the part was decoded to its end
  pub record IsPartDecoded (old new : Moment D X) : Type 0 where
    pub decodes : DecodesAll d w (part_of c) (bytes_of old.source.bits) (regions_of c)
        old.source.decoder (store_meanings to_int old.store) (position_of old.source.bits)
        (store_meanings to_int new.store) (position_of new.source.bits)
    pub work : new.source.steps ≤ old.source.steps + cell_count (part_of c).channels * cost_of c
    pub more : old.source.steps ≤ new.source.steps
    pub keeps : KeepsOutside (regions_of c) old.store new.store
    pub bytes : bytes_of new.source.bits ≡ bytes_of old.source.bits

  -- the beginning, the read of a cell or the end returned the error e
  pub record FailsInPart (old new : Moment D X) (e : DecoderError) : Type 0 where
    pub decodes : DecodesSome d w (part_of c) (bytes_of old.source.bits) (regions_of c)
        old.source.decoder (store_meanings to_int old.store) (position_of old.source.bits)
        (store_meanings to_int new.store) (position_of new.source.bits)
        (cost_of c) old.source.steps new.source.steps e
    pub more : old.source.steps ≤ new.source.steps
    pub keeps : KeepsOutside (regions_of c) old.store new.store
    pub memory : e ≢ OutOfMemory
    pub bytes : bytes_of new.source.bits ≡ bytes_of old.source.bits

  -- one of the two, by what was returned
  abbrev pub PartGives : Moment D X → Moment D X → Result (Unit {0}) DecoderError → Type 0
  PartGives old new (Ok u) = IsPartDecoded old new
  PartGives old new (Err e) = FailsInPart old new e

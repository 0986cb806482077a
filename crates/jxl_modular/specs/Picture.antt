-- A picture of one part, by its bits and by grids alone (ISO/IEC 18181-1, Modular: header to inverse transforms).
use Rattle.std.specs.Prelude.{◌≡◌, ℕ, ◌+◌, ◌*◌, ◌⊎◌, ℤ, List, Option, sum_by}
use Rattle.std.specs.Int.{Width}
use Rattle.jxlm_bits.specs.Decoding.{Meaning}
use Rattle.jxlm_bits.specs.ErrorKind.{ErrorKind, OfDecoder, UnlessMemory}
use Rattle.jxlm_bits.specs.Grammar.{IsErrorAt}
use Rattle.jxlm_base.specs.Grid.{Grid}
use Rattle.jxlm_bits.specs.declared.decoder.DecoderError.{DecoderError}
use Rattle.jxlm_chain.specs.Chain.{IsOnlyImage}
use Rattle.jxlm_transform.specs.Channels.{ChannelList, area}
use Rattle.jxlm_tree.specs.Tree.{Config, depth}
use Rattle.jxlm_samples.specs.Coded.{DecodingFails, IsCodedWhole}
use Rattle.jxlm_samples.specs.Decode.{MovesWithin}
use Rattle.jxlm_header.specs.Opening.{Opening}
use Rattle.jxlm_nested.specs.Starts.{IsStartAt, IsTreeErrorAt, coded_part, opening_at}

module _ {D : Type 0} (d : Meaning D) (w : Width) (global : Option (Config D)) (bytes : List ℕ) (stream : ℕ) (given : ChannelList) (p : ℕ) where
  -- At bit p, up to q, stand header, MA tree and samples of a picture: its grids alone are transformed into these samples.
  pub record IsPicture (bit_depth : ℕ) (grids : List (Grid ℤ)) (q : ℕ) : Type 0 where
    pub head : Opening
    pub config : Config D
    pub samples_at : ℕ
    pub samples : List (Grid ℤ)
    pub start : IsStartAt d global bytes given p head config samples_at
    pub coded : IsCodedWhole d w (coded_part stream head config) bytes config.decoder samples_at samples q
    pub only : IsOnlyImage w bit_depth head.coded.steps given grids samples

  -- Such a picture was read, and for each coded sample at most as many nodes were looked at as the tree is deep, and one more.
  pub record IsPictureRead (bit_depth : ℕ) (grids : List (Grid ℤ)) (q before after : ℕ) : Type 0 where
    pub picture : IsPicture bit_depth grids q
    pub steps : MovesWithin before after (sum_by area picture.head.coded.list.channels * (depth picture.config.tree + 1))

  -- After header and MA tree at p, decoding the samples returns this error at q, with as many nodes for each sample tried.
  pub record SamplesFail (error : ErrorKind) (q before after : ℕ) : Type 0 where
    pub head : Opening
    pub config : Config D
    pub samples_at : ℕ
    pub start : IsStartAt d global bytes given p head config samples_at
    pub cause : DecoderError
    pub tried : ℕ
    pub fails : DecodingFails d w (coded_part stream head config) bytes config.decoder samples_at cause q tried
    pub cause_is : error ≡ OfDecoder cause
    pub steps : MovesWithin before after (tried * (depth config.tree + 1))

  -- there is no picture, by the first error of header, tree or samples; it may be out of memory at any time
  abbrev pub PictureFails : ErrorKind → ℕ → ℕ → ℕ → Type 0
  PictureFails error q before after =
      UnlessMemory error (((IsErrorAt (opening_at global bytes given p) error q ⊎ IsTreeErrorAt d global bytes given p error q) × (after ≡ before)) ⊎ SamplesFail error q before after)

-- whatever is returned, no step was taken, or the bits code a header and a tree, and steps are within those for all samples
abbrev pub StepsWithin : {D : Type 0} → Meaning D → Option (Config D) → List ℕ → ChannelList → ℕ → ℕ → ℕ → Type 0
StepsWithin {D} d global bytes given p before after =
    (after ≡ before) ⊎ ((head : Opening) × (config : Config D) × (q : ℕ) × IsStartAt d global bytes given p head config q × MovesWithin before after (sum_by area head.coded.list.channels * (depth config.tree + 1)))

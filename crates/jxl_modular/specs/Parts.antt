-- A part of an image: the first of its coded channels; and what a call on it leaves.
use Rattle.std.specs.Prelude.{◌≡◌, ◌↔◌, ◌<◌, ◌≤◌, ℕ, ◌*◌, ℤ, List, length, Bool, IsTrue, Result}
use Rattle.std.specs.Borrow.{GName}
use Rattle.std.specs.Int.{Width}
use Rattle.jxlm_bits.specs.Decoding.{Meaning}
use Rattle.jxlm_bits.specs.declared.error.Error.{Error}
use Rattle.jxlm_base.specs.declared.subgrid.Region.{Region}
use Rattle.jxlm_transform.specs.Channels.{Channel}
use Rattle.jxlm_tree.specs.Steps.{most_steps}
use Rattle.jxlm_samples.specs.Decode.{DecodeGives, MovesWithin}
use Rattle.jxlm_samples.specs.Part.{Part, cell_count}
use Rattle.jxlm_samples.specs.Placed.{standing_in}
use Rattle.jxl_modular.specs.Image.{Image, front_channels, front_part, front_regions}
use Rattle.jxl_modular.specs.declared.image.TransformedModularSubimage.{TransformedModularSubimage}

-- What decoding a part of an image returns, whose channels lie in these regions, with what is before and after: the
-- image, the reader's position, whether samples are still to be decoded, and the steps. For each sample whose read was
-- tried, no more nodes were looked at than `most_steps` of the tree.
abbrev pub HeldGives : {S D : Type 0} → Meaning D → Width → (S → ℤ) → List ℕ → Part → List Region → Image S D → ℕ → Bool → ℕ → Image S D → ℕ → Bool → ℕ → Bool → Result (Unit {0}) Error → Type 0
HeldGives d w to_int bytes part regions old p partial before new q still after allow result =
    (tried : ℕ) × DecodeGives d w part bytes old.config.decoder
    (standing_in to_int regions old.store p partial) (standing_in to_int regions new.store q still) allow result tried
    × MovesWithin before after (tried * most_steps old.config.tree)

-- the same of its first n coded channels
abbrev pub FrontGives : {S D : Type 0} → Meaning D → Width → (S → ℤ) → List ℕ → ℕ → ℕ → Image S D → ℕ → Bool → ℕ → Image S D → ℕ → Bool → ℕ → Bool → Result (Unit {0}) Error → Type 0
FrontGives d w to_int bytes stream n old p partial before new q still after allow result =
    HeldGives d w to_int bytes (front_part n old stream) (front_regions n old) old p partial before new q still after allow result

module _ {S D : Type 0} where
  -- the image that the part is of, as it is now, and the name of its borrow
  abbrev pub image_of : TransformedModularSubimage S D → Image S D
  image_of part = part.image.now

  abbrev pub loan : TransformedModularSubimage S D → GName
  loan part = part.image.ghost_name

  -- how many of the coded channels it holds, and which, and their regions: the first ones
  abbrev pub count_of : TransformedModularSubimage S D → ℕ
  count_of part = part.count

  abbrev pub channels_of : TransformedModularSubimage S D → List Channel
  channels_of part = front_channels (count_of part) (image_of part)

  abbrev pub regions_of : TransformedModularSubimage S D → List Region
  regions_of part = front_regions (count_of part) (image_of part)

  -- whether samples of the part are still to be decoded
  abbrev pub is_partial : TransformedModularSubimage S D → Bool
  is_partial part = part.partial

  -- how many nodes of trees were looked at
  abbrev pub steps_of : TransformedModularSubimage S D → ℕ
  steps_of part = part.steps

  -- it holds all coded channels of its image
  abbrev pub HoldsAll : TransformedModularSubimage S D → Type 0
  HoldsAll part = length (image_of part).channels ≤ count_of part

  -- a new part of the first n coded channels: partial where some of them has samples, and without a step
  pub record HoldsFirst (n : ℕ) (part : TransformedModularSubimage S D) : Type 0 where
    pub count : count_of part ≡ n
    pub partial : IsTrue (is_partial part) ↔ (0 < cell_count (channels_of part))
    pub steps : steps_of part ≡ 0

  -- what decoding a part returns, with the reader's positions before and after
  abbrev pub PartGives : Meaning D → Width → (S → ℤ) → List ℕ → ℕ → TransformedModularSubimage S D → ℕ → TransformedModularSubimage S D → ℕ → Bool → Result (Unit {0}) Error → Type 0
  PartGives d w to_int bytes stream old p new q allow result =
      FrontGives d w to_int bytes stream (count_of old) (image_of old) p (is_partial old) (steps_of old) (image_of new) q (is_partial new) (steps_of new) allow result

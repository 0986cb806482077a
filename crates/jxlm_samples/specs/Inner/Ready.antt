-- What is made ready before the first bit of a part is read.
use Rattle.std.specs.Prelude.{◌≡◌, length}
use Rattle.jxlm_transform.specs.Channels.{infos}
use Rattle.jxlm_samples.specs.Reading.{HasFlats, IsRoomyFor, sampled_width, walked_width}
use Rattle.jxlm_samples.specs.declared.coding.Ready.{Ready}
use Rattle.jxlm_samples.specs.declared.part.PlacedPart.{PlacedPart}

-- the decoder of the part's tree, the tree for each channel, and a state with room for them
pub record IsReadyFor {S D : Type 0} (p : PlacedPart D) (r : Ready S D) : Type 0 where
  pub decoder_is : r.decoder ≡ p.config.now.decoder
  pub flats_are : HasFlats p.config.now.tree p.stream_index (length p.channels.now) r.flats.items
  pub roomy : IsRoomyFor (walked_width (infos p.channels.now) r.flats.items (length p.channels.now))
      (sampled_width (infos p.channels.now)) p.weights r.flats.items r.state

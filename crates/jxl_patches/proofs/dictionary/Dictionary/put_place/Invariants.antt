use Rattle.std.proofs.Common.{◌≡◌, ℕ, ◌<◌, ◌≤◌, [], length, get_or}
use Rattle.jxlm_base.specs.Grid.{grid}
use Rattle.jxl_image_header.specs.Images.{image_of}
use Rattle.jxl_patches.specs.Dictionaries.{patches_of}
use Rattle.jxl_patches.specs.Patched.{patching}
use Rattle.jxl_patches.specs.Inner.Rows.{IsChannelPut}
use Rattle.jxl_patches.specs.SavedParts.{frames_in}
use Rattle.jxl_patches.proofs.dictionary.Dictionary.put_place.Given as goal

abbrev pub invariant-loop-channel : goal.invariant-loop-channel
invariant-loop-channel l = record {
  count : length l.channels ≡ length l.fn.channels;
  done : (c : ℕ) → c < l.channel →
      IsChannelPut (patching (image_of l.image) (frames_in l.slots) l.colours (patches_of l.self) l.fn.channels) l.n c l.fn.channels (get_or l.fn.channels c (grid 0 0 [])) (get_or l.channels c (grid 0 0 []));
  left : (c : ℕ) → l.channel ≤ c → get_or l.channels c (grid 0 0 []) ≡ get_or l.fn.channels c (grid 0 0 []);
}

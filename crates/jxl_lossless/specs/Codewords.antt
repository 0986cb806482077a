-- How many codewords the codes of sections' own trees may have (ISO/IEC 18181-1, Modular: decoding of meta-adaptive trees;
-- entropy decoding: decoder initialisation), by JPEG XL's entropy decoder.
use Rattle.std.specs.Prelude.{◌≡◌, ℕ, List, Option, None, Some}
use Rattle.jxlm_transform.specs.Channels.{ChannelList}
use Rattle.jxlm_tree.specs.Tree.{Config}
pub use Rattle.jxlm_tree_depth.specs.Depths.{OwnTreeIs, UsesGlobalAt}
use Rattle.jxl_coding.specs.Parse.{decoder_at}
use Rattle.jxl_coding.specs.Tokens.{Entropy, entropy}

-- how many codewords the codes of a tree may have: as many as their alphabets have symbols; none where there is no tree
abbrev pub codewords_of : Option (Config Entropy) → ℕ
codewords_of None = 0
codewords_of (Some config) = config.decoder.codes.alphabets

-- the codes of the tree of its own of the header at bit p for these channels, if it has one, may have n codewords
abbrev pub HasCodewords : ChannelList → List ℕ → ℕ → ℕ → Type 0
HasCodewords given bytes p n = (tree : Option (Config Entropy)) × OwnTreeIs (entropy decoder_at) None given bytes p tree × (n ≡ codewords_of tree)

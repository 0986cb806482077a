-- The tokens of a part of coded channels.
use Rattle.std.proofs.Common.{◌≡◌, ℕ, ◌<◌, ℤ, List, sym, subst, arith}
use Rattle.std.specs.Int.{Width}
use Rattle.std.specs.List.{All}
use Rattle.std.proofs.lemmas.List.{length-map}
use Rattle.jxlm_base.specs.Grid.{Grid}
use Rattle.jxlm_base.specs.Regions.{grids_in, store_meanings}
use Rattle.jxlm_bit_writer.specs.declared.token.Token.{Token}
use Rattle.jxlm_encode_tokens.specs.Tokens.{AreClusteredTokensOf}
use Rattle.jxlm_groups.specs.Pieces.{part_channels}
use Rattle.jxlm_groups.specs.declared.part.SectionPart.{SectionPart}
use Rattle.jxlm_groups.specs.declared.pass.Pass.{Pass}
use Rattle.jxlm_samples.specs.Part.{Part, cells_of}
use Rattle.jxlm_samples.specs.Placed.{PartLies, part_placed}
use Rattle.jxlm_samples.specs.declared.part.PlacedPart.{PlacedPart}
use Rattle.jxlm_samples.proofs.Loops.{all_cells}
use Rattle.jxlm_transform.specs.Channels.{Channel, infos, regions}
use Rattle.jxlm_transform.specs.Lists.{list_of}
use Rattle.jxlm_transform.specs.declared.channels.ModularChannels.{ModularChannels}
use Rattle.jxlm_transform.specs.declared.channels.PlacedChannel.{PlacedChannel}
use Rattle.jxlm_tree.specs.Tree.{AllLeaves}
use Rattle.jxlm_ma_tree.specs.declared.leaf.Leaf.{Leaf}
use Rattle.jxlm_tree.proofs.FlatTrees.{reached_leaf}
use Rattle.jxlm_weighted.specs.SelfCorrecting.{IsHeader}
use Rattle.jxlm_weighted.specs.WeightsHeader.{default_weights}
use Rattle.jxlm_weighted.specs.declared.weights.WpHeader.{WpHeader}
use Rattle.jxl_encode_image.specs.Images.{IsPartIn, samples_in}
use Rattle.jxl_encode_image.proofs.Parts.{part_sides}
use Rattle.jxl_encode_sections.specs.Inner.Parts.{AreTokensIn, CodedSamples, part_grids, part_of}

default_header : IsHeader default_weights
default_header = record { p1 = omega arith; p2 = omega arith; p3a = omega arith; p3b = omega arith; p3c = omega arith; p3d = omega arith; p3e = omega arith; w0 = omega arith; w1 = omega arith; w2 = omega arith; w3 = omega arith }

module _ {D S : Type 0} (to_int : S → ℤ) (group_dim : ℕ) (passes : List Pass) (channels : ModularChannels) (store : List (Grid S)) (part : SectionPart) (placed : PlacedPart D) where
  -- the channels of a part lie in the store
  pub part_lies : (own : List PlacedChannel) → placed.channels.now ≡ own → IsPartIn to_int group_dim passes channels store part own → placed.weights ≡ default_weights → PartLies placed store
  part_lies own same is weights =
      let here : IsPartIn to_int group_dim passes channels store part placed.channels.now = subst (IsPartIn to_int group_dim passes channels store part) (sym same) is in
      record {
        sizes = here.sizes;
        narrow = here.narrow;
        few = here.few;
        weights = subst IsHeader (sym weights) default_header;
        lie = here.lie;
        apart = here.apart;
      }

  abbrev coded : CodedSamples
  coded = record { list = list_of channels; samples = samples_in to_int channels store }

  -- and their tokens are those of the part
  pub tokens_in : (own : List PlacedChannel) → placed.channels.now ≡ own → IsPartIn to_int group_dim passes channels store part own → placed.weights ≡ default_weights → (w : Width) (tokens : List Token) →
      AreClusteredTokensOf w (part_placed placed) (cells_of (grids_in (regions placed.channels.now) (store_meanings to_int store))) tokens →
      AreTokensIn w group_dim passes coded placed.config.now.tree part placed.stream_index tokens
  tokens_in own same is weights w tokens are =
      let here : IsPartIn to_int group_dim passes channels store part placed.channels.now = subst (IsPartIn to_int group_dim passes channels store part) (sym same) is in
      let by_weights : AreClusteredTokensOf w (record { channels = infos placed.channels.now; weights = default_weights; tree = placed.config.now.tree; stream = placed.stream_index }) (cells_of (grids_in (regions placed.channels.now) (store_meanings to_int store))) tokens =
      subst (λ (h : WpHeader). AreClusteredTokensOf w (record { channels = infos placed.channels.now; weights = h; tree = placed.config.now.tree; stream = placed.stream_index }) (cells_of (grids_in (regions placed.channels.now) (store_meanings to_int store))) tokens) weights are in
      let by_channels : AreClusteredTokensOf w (part_of group_dim passes (list_of channels) placed.config.now.tree part placed.stream_index) (cells_of (grids_in (regions placed.channels.now) (store_meanings to_int store))) tokens =
      subst (λ (cs : List Channel). AreClusteredTokensOf w (record { channels = cs; weights = default_weights; tree = placed.config.now.tree; stream = placed.stream_index }) (cells_of (grids_in (regions placed.channels.now) (store_meanings to_int store))) tokens) here.channels_are by_weights in
      record {
        are = subst (λ (gs : List (Grid ℤ)). AreClusteredTokensOf w (part_of group_dim passes (list_of channels) placed.config.now.tree part placed.stream_index) (cells_of gs) tokens) here.samples_are by_channels;
        count = sym (all_cells (part_channels group_dim passes (list_of channels) part) (part_grids group_dim passes coded part) (part_sides group_dim passes (list_of channels) part (samples_in to_int channels store)));
      }

-- tokens are in the clusters of the leaves
pub clusters_below : (w : Width) (part : Part) (cells : List ℤ) (tokens : List Token) (many : ℕ) → AreClusteredTokensOf w part cells tokens → AllLeaves (λ (l : Leaf). l.cluster < many) part.tree → All (λ (t : Token). t.cluster < many) tokens
clusters_below w part cells tokens many are leaves = λ k d lt.
    let n = length-map tokens (λ (t : Token). t.value) in
    let m = are.values.count in
    subst (λ c. c < many) (sym (are.clusters k d (omega (arith, lt, n, m)))) (reached_leaf (λ (l : Leaf). l.cluster < many) part.tree _ leaves)

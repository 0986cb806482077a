-- An image before any of its samples is decoded.
use Rattle.std.specs.Prelude.{ℕ, List}
use Rattle.jxlm_base.specs.Grid.{Grid}
use Rattle.jxlm_base.specs.declared.subgrid.Region.{Region}
use Rattle.jxlm_transform.specs.Layout.{buffers_of, first_layout, layout_after_all}
use Rattle.jxlm_tree.specs.Tree.{Config}
use Rattle.jxlm_transform.specs.Channels.{ChannelList}
use Rattle.jxl_modular.specs.Image.{Image}
use Rattle.jxlm_header.specs.Opening.{Opening}
use Rattle.jxlm_nested.specs.Zeros.{zeros}

-- the image of these channels, as its opening says, whose samples lie in these regions of a store
abbrev pub image_in : {S D : Type 0} → List (Grid S) → List Region → ChannelList → Opening → Config D → ℕ → ℕ → Image S D
image_in store regions given head config group_dim bit_depth = record {
  has_palette = head.has_palette;
  has_squeeze = head.has_squeeze;
  weights = head.weights;
  steps = head.coded.steps;
  config = config;
  group_dim = group_dim;
  bit_depth = bit_depth;
  given = given.channels;
  channels = head.coded.list.channels;
  nb_meta = head.coded.list.nb_meta;
  store = store;
  coded = regions;
}

-- the same, whose cells are all 0
abbrev pub fresh : {S D : Type 0} → S → ChannelList → Opening → Config D → ℕ → ℕ → Image S D
fresh zero given head config group_dim bit_depth =
    image_in (zeros zero (buffers_of given.channels head.coded.steps)) (layout_after_all head.coded.steps (first_layout given.channels)).regions
    given head config group_dim bit_depth

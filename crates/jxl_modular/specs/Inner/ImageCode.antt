-- An image by its fields: as a program keeps it, and a code by which a proof distinguishes images.
use Rattle.std.specs.Prelude.{ℕ, List, Bool, refl}
use Rattle.std.specs.List.{list_any}
use Rattle.std.specs.Coded.{Coded, code_by, coded×, coded_bool, coded_list, coded_ℕ}
use Rattle.jxlm_base.specs.Grid.{Grid, grid_code}
use Rattle.jxlm_base.specs.declared.subgrid.Region.{Region}
use Rattle.jxlm_header.specs.Header.{Header}
use Rattle.jxlm_transform.specs.Channels.{Channel, infos, regions}
use Rattle.jxlm_transform.specs.declared.channels.ModularChannels.{ModularChannels}
use Rattle.jxlm_transform.specs.ChannelSteps.{Step}
use Rattle.jxlm_transform.specs.Kinds.{is_palette, is_squeeze}
use Rattle.jxlm_transform.specs.Steps.{steps_in}
use Rattle.jxlm_tree.specs.Tree.{Config}
use Rattle.jxlm_weighted.specs.declared.weights.WpHeader.{WpHeader}
use Rattle.jxl_modular.specs.Image.{Image}

-- the image of these fields, in the order in which a program keeps them
abbrev pub image_kept : {S D : Type 0} → Header → Config D → ℕ → ℕ → List Channel → ModularChannels → List (Grid S) → Image S D
image_kept header config group_dim bit_depth given coded store = record {
  has_palette = list_any is_palette header.transform;
  has_squeeze = list_any is_squeeze header.transform;
  weights = header.wp_params;
  steps = steps_in header.transform;
  config = config;
  group_dim = group_dim;
  bit_depth = bit_depth;
  given = given;
  channels = infos coded.placed.items;
  nb_meta = coded.nb_meta_channels;
  store = store;
  coded = regions coded.placed.items;
}

-- the code of an image, from those of its parts
abbrev pub image_code : {S D : Type 0} → Coded WpHeader → Coded Step → Coded (Config D) → Coded Channel → Coded Region → Coded S → Coded (Image S D)
image_code {S} {D} w t c i r s =
    code_by ((Bool × Bool) × (WpHeader × (List Step × (Config D × (ℕ × (ℕ × (List Channel × (List Channel × (ℕ × (List (Grid S) × List Region))))))))))
    (coded× (coded× coded_bool coded_bool) (coded× w (coded× (coded_list t) (coded× c (coded× coded_ℕ (coded× coded_ℕ (coded× (coded_list i) (coded× (coded_list i) (coded× coded_ℕ (coded× (coded_list (grid_code s)) (coded_list r)))))))))))
    (λ x. ((x.has_palette, x.has_squeeze), (x.weights, (x.steps, (x.config, (x.group_dim, (x.bit_depth, (x.given, (x.channels, (x.nb_meta, (x.store, x.coded)))))))))))
    (λ p. record {
      has_palette = p.0.0;
      has_squeeze = p.0.1;
      weights = p.1.0;
      steps = p.1.1.0;
      config = p.1.1.1.0;
      group_dim = p.1.1.1.1.0;
      bit_depth = p.1.1.1.1.1.0;
      given = p.1.1.1.1.1.1.0;
      channels = p.1.1.1.1.1.1.1.0;
      nb_meta = p.1.1.1.1.1.1.1.1.0;
      store = p.1.1.1.1.1.1.1.1.1.0;
      coded = p.1.1.1.1.1.1.1.1.1.1;
    })
    (λ _. refl)

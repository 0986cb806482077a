-- An image before all transforms.
use Rattle.std.proofs.Common.{◌≡◌, ℕ, ◌≤◌, ℤ, List, [], length, Ok, refl, sym, ap, ◌∙◌, subst, arith}
use Rattle.std.specs.Int.{Width}
use Rattle.std.specs.List.{All}
use Rattle.std.proofs.lemmas.List.{length-map}
use Rattle.std.proofs.lemmas.List.Elements.{All-nil}
use Rattle.jxlm_base.specs.Grid.{Grid}
use Rattle.jxlm_base.specs.Regions.{grids_in, store_meanings}
use Rattle.jxlm_chain.specs.Chain.{Chain}
use Rattle.jxlm_chain.specs.Lying.{HasTables, LieIn}
use Rattle.jxlm_chain.proofs.LayoutLaws.{lie_first}
use Rattle.jxlm_transform.specs.Channels.{AreGridsOf, Channel, ChannelList, IsNarrow, image_channel, image_list}
use Rattle.jxlm_transform.specs.Layout.{Layout, first_layout}
use Rattle.jxlm_transform.specs.Lists.{layout_of, list_of}
use Rattle.jxlm_transform.specs.Params.{IsValidChannel}
use Rattle.jxlm_transform.specs.declared.channels.ModularChannels.{ModularChannels}
use Rattle.jxlm_transform.specs.declared.param.ModularChannelParams.{ModularChannelParams}
use Rattle.jxlm_transform.proofs.SideBounds.{narrow_image}
use Rattle.jxl_modular.proofs.Layouts.{given_grids}
use Rattle.jxl_encode_image.specs.Images.{IsCodedImage, LieCoded, samples_in}
use Rattle.jxl_encode_image.specs.Preparations.{IsSpelled}
use Rattle.jxl_encode_image.specs.Inner.Placing.{LieAlone}
use Rattle.jxl_encode_image.proofs.Buffers.{all_full, buffers_meanings, meanings_of, no_more_grids, own_buffers}

module _ {S : Type 0} (given : List ModularChannelParams) (valid : All IsValidChannel given) (few : length given ≤ 65536) (grids : List (Grid S)) (sizes : AreGridsOf (image_list given).channels grids)
    (p : ModularChannels) (list_is : list_of p ≡ image_list given) (layout_is : layout_of p ≡ first_layout (image_list given).channels) where
  abbrev cs : List Channel
  cs = (image_list given).channels

  first : LieIn cs (first_layout cs) grids × HasTables [] (length cs) grids
  first = lie_first cs [] grids (own_buffers cs grids sizes)

  few_coded : length (list_of p).channels ≤ 65536
  few_coded = let long = ap (λ (l : ChannelList). length l.channels) list_is in let count = length-map given image_channel in omega (arith, long, count, few)

  lie_coded : LieCoded p grids
  lie_coded = record {
    few = few_coded;
    narrow = subst (λ (l : ChannelList). All IsNarrow l.channels) (sym list_is) (narrow_image given valid);
    lie = subst (λ (l : ChannelList). LieIn l.channels (layout_of p) grids) (sym list_is) (subst (λ (l : Layout). LieIn cs l grids) (sym layout_is) first.0);
  }

  pub lie_alone : LieAlone p grids
  lie_alone = record {
    lie = lie_coded;
    meta = subst (λ (l : ChannelList). l.nb_meta ≤ length l.channels) (sym list_is) (omega arith);
    all = first.1 ∙ sym (ap (λ (l : Layout). l.buffers) layout_is);
    full = all_full cs grids sizes;
  }

  module _ (to_int : S → ℤ) (w : Width) where
    own_grids : samples_in to_int p grids ≡ store_meanings to_int grids
    own_grids =
        ap (λ (l : Layout). grids_in l.regions (store_meanings to_int grids)) layout_is
        ∙ given_grids cs [] (store_meanings to_int grids) (buffers_meanings to_int cs grids sizes) ∙ no_more_grids to_int cs grids sizes

    chain : (depth : ℕ) → Chain w depth [] (image_list given) (store_meanings to_int grids) (samples_in to_int p grids)
    chain depth = (meanings_of to_int cs grids sizes, own_grids)

    pub first_coded : IsCodedImage to_int w [] (image_list given) (store_meanings to_int grids) p grids
    first_coded = record {
      ready = record {
        transforms = [];
        coded = record { steps = []; list = list_of p };
        accepted = record { few = omega arith; spelled = All-nil IsSpelled; come = ap (λ (l : ChannelList). Ok (record { steps = []; list = l })) (sym list_is) };
        count = few_coded;
        samples = samples_in to_int p grids;
        chain = chain;
      };
      transforms_are = refl;
      list_is = refl;
      samples_are = refl;
      lie = lie_coded;
    }

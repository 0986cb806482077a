-- An image that was read can be encoded, and what is encoded is a picture of it.
use Rattle.std.proofs.Common.{◌≡◌, ◌≢◌, ℕ, ◌^◌, ◌≤◌, ℤ, pos, List, [], ◌∷◌, length, map, false, None, refl, ap, ◌∙◌, subst, arith}
use Rattle.std.specs.Int.{Width}
use Rattle.std.specs.List.{All}
use Rattle.std.proofs.lemmas.List.{length-map, get_or-map}
use Rattle.jxlm_base.specs.Grid.{Grid, meanings}
use Rattle.jxlm_encode.specs.Encoded.{IsSmall, given_list}
use Rattle.jxlm_header.specs.Opening.{Opening, opening_of}
use Rattle.jxlm_tree.specs.Tree.{Shape, leaf}
use Rattle.jxlm_tree.specs.TreeStands.{TreesAreReadExactly}
use Rattle.jxlm_ma_tree.specs.declared.leaf.Leaf.{Leaf}
use Rattle.jxlm_ma_tree.proofs.Listing.{levels-injective}
use Rattle.jxlm_plain.specs.Plain.{plain, plain2}
use Rattle.jxl_modular.specs.Picture.{IsPicture}
use Rattle.jxlmod_commands.specs.Channels.{channels_of, plain_channel}
use Rattle.jxlmod_commands.specs.Encoding.{IsEncodedIn, IsEncodedPicture, IsEncodedText, decoder_of, gradient_tree}
use Rattle.jxlmod_commands.specs.declared.arguments.Format.{Format}
use Rattle.jxlmod_commands.specs.declared.arguments.Format.TheVariants.{First, Second}
use Rattle.jxlmod_commands.proofs.Pictures.{each_asked}
use Rattle.jxlm_encode_roundtrip.proofs.EncodedPictures.{encoded_is_picture}
use Rattle.jxl_text.specs.Reading.{IsTextOf}
use Rattle.jxlm_transform.specs.Channels.{Channel, ChannelList, image_channel}
use Rattle.jxlm_transform.specs.ChannelSteps.{CodedList}
use Rattle.jxlm_transform.specs.Params.{channel_params}
use Rattle.jxlm_transform.specs.declared.param.ChannelShift.TheVariants.{Shifts}
use Rattle.jxlm_weighted.specs.WeightsHeader.{default_weights}
use Rattle.jxlm_predictor.specs.declared.predictor.Predictor.TheVariants.{Gradient}

-- ---- the channels of an image are those that its encoder is given

each_given : (image : List (Grid ℤ)) → map image_channel (map (λ g. channel_params g.width g.height (Shifts 0)) image) ≡ map (λ g. plain_channel g.width g.height) image
each_given [] = refl
each_given (g ∷ gs) =
    ap (λ (c : Channel). c ∷ map image_channel (map (λ h. channel_params h.width h.height (Shifts 0)) gs)) (each_asked g.width g.height)
    ∙ ap (λ (cs : List Channel). plain_channel g.width g.height ∷ cs) (each_given gs)

list_given : (image : List (Grid ℤ)) → given_list image ≡ channels_of image
list_given image = let list : List Channel → ChannelList = λ cs. record { channels = cs; nb_meta = 0 } in ap list (each_given image)

-- ---- what is encoded is a picture

-- a header with no global tree, the default weights and no transform
abbrev plain_head : ChannelList → Opening
plain_head l = record { uses_global = false; has_palette = false; has_squeeze = false; weights = default_weights; coded = record { steps = []; list = l } }

-- the leaf that predicts by the clamped gradient
abbrev gradient_leaf : Shape Leaf
gradient_leaf = leaf (record { cluster = 0; predictor = Gradient; offset = pos 0; multiplier = 1 })

module _ (format : Format) (exact : TreesAreReadExactly (decoder_of format)) (image : List (Grid ℤ)) (w : Width) (bytes : List ℕ) (bit_depth : ℕ) (e : IsEncodedIn format image w bytes) where
  -- a picture of this image under these channels, with this header and this tree
  abbrev IsPlainPicture : ChannelList → Type 0
  IsPlainPicture l = (picture : IsPicture (decoder_of format) w None bytes 0 l 0 bit_depth image e.end) × (picture.head ≡ plain_head l) × (picture.config.tree ≡ gradient_leaf)

  coded_is : e.coded ≡ record { steps = []; list = given_list image }
  coded_is = let come = e.accepted.come in cc

  tree_is : e.tree ≡ gradient_leaf
  tree_is = levels-injective e.tree gradient_leaf e.given.listed

  head_is : opening_of (record { use_global_tree = false; wp_params = default_weights; transform = [] }) e.coded ≡ plain_head (given_list image)
  head_is = ap (λ (coded : CodedList). opening_of (record { use_global_tree = false; wp_params = default_weights; transform = [] }) coded) coded_is

  given_picture : IsPlainPicture (given_list image)
  given_picture = (encoded_is_picture (decoder_of format) exact w [] gradient_tree image bytes bit_depth e, head_is, tree_is)

  pub encoded_picture : IsEncodedPicture format image w bytes bit_depth
  encoded_picture = let p : IsPlainPicture (channels_of image) = subst IsPlainPicture (list_given image) given_picture in record { end = e.end; picture = p.0; header = p.1; tree = p.2 }

-- trees of either format are read exactly
format_exact : TreesAreReadExactly plain → TreesAreReadExactly plain2 → (format : Format) → TreesAreReadExactly (decoder_of format)
format_exact first second First = first
format_exact first second Second = second

-- ---- an image that was read

module _ {S : Type 0} (to_int : S → ℤ) (w : Width) (text : List ℕ) (channels : List (Grid S)) (read : IsTextOf w text (map (meanings to_int) channels)) where
  small : (gs : List (Grid S)) → All (λ (g : Grid ℤ). (g.width ≤ 2 ^ 30) × (g.height ≤ 2 ^ 30)) (map (meanings to_int) gs) → All IsSmall gs
  small gs sides k d within =
      let e = get_or-map (meanings to_int) gs k d (meanings to_int d) within in
      let s = sides k (meanings to_int d) (omega (arith, length-map gs (meanings to_int))) in
      rw e at s

  pub sides_small : All IsSmall channels
  sides_small = small channels read.image.sides

  none_of : (gs : List (Grid S)) → map (meanings to_int) gs ≡ [] → gs ≡ []
  none_of [] e = refl
  none_of (g ∷ gs) e = absurd (omega (arith, ap length e))

  pub encoded_text : (format : Format) (bytes : List ℕ) → TreesAreReadExactly plain → TreesAreReadExactly plain2 → (channels ≡ [] → bytes ≡ []) → (channels ≢ [] → IsEncodedIn format (map (meanings to_int) channels) w bytes) → IsEncodedText format w text bytes
  encoded_text format bytes first second none some = record {
    image = map (meanings to_int) channels;
    read = read;
    none = λ e. none (none_of channels e);
    some = λ other bit_depth. encoded_picture format (format_exact first second format) (map (meanings to_int) channels) w bytes bit_depth (some (λ e. other (ap (map (meanings to_int)) e)));
  }

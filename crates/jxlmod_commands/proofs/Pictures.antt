-- The parameters of a command are valid, and its channels are those that it asks for.
use Rattle.std.proofs.Common.{◌≡◌, ℕ, zero, suc, pos, true, ◌≤◌, ◌%◌, ◌^◌, List, ◌∷◌, length, map, ℤ, refl, arith, ◌∙◌, sym, ap, subst}
use Rattle.std.specs.Prelude.{Option, None, replicate}
use Rattle.std.specs.List.{All}
use Rattle.std.specs.Int.{Width, div_ceil}
use Rattle.std.proofs.Math.Nat.{div-one}
use Rattle.std.proofs.lemmas.List.{length-replicate}
use Rattle.std.proofs.lemmas.List.Elements.{All-replicate}
use Rattle.std.proofs.lemmas.List.Sums.{list_all-from_AllPass}
use Rattle.std.proofs.lemmas.Bool.Decides.{nat_tests}
use Rattle.jxlm_transform.specs.Params.{IsValidParams, IsValidChannel, IsSide, channel_params}
use Rattle.jxlm_transform.specs.declared.param.ChannelShift.TheVariants.{Shifts}
use Rattle.jxlm_transform.specs.declared.param.GradientSums.TheVariants.{Wrapped}
use Rattle.jxlm_transform.specs.declared.param.PaletteTables.TheVariants.{OfColours}
use Rattle.jxlm_transform.specs.declared.param.ModularChannelParams.{ModularChannelParams}
use Rattle.jxlm_transform.specs.declared.param.ModularParams.{ModularParams}
use Rattle.jxlm_transform.specs.Channels.{Channel, ChannelList, image_channel, image_list}
use Rattle.jxlm_groups.specs.Passes.{is_of_picture_of, one_picture}
use Rattle.jxlm_section_split.specs.CutPicture.{IsCutPicture}
use Rattle.jxlmod_commands.specs.Channels.{channels_asked, plain_channel}
use Rattle.jxlmod_commands.specs.Printed.{IsCutPictureError, IsPictureError}
use Rattle.jxlm_bits.specs.ErrorKind.{NoMemory, kind_of}
use Rattle.jxlm_base.specs.Grid.{Grid}
use Rattle.jxlm_bits.specs.Decoding.{Meaning}
use Rattle.jxlm_bits.specs.declared.error.Error.{Error}
use Rattle.jxlm_tree.specs.Tree.{Config}
use Rattle.jxl_modular.specs.Picture.{IsPicture, PictureFails}
use Rattle.jxl_modular.proofs.PictureLaws.{no_memory}

pub valid_params : {D : Type 0} (width height channels bit_depth : ℕ) (p : ModularParams D) → p.group_dim ≡ 256 → p.bit_depth ≡ bit_depth →
    p.channels.items ≡ replicate channels (channel_params width height (Shifts 0)) → channels ≤ 2 ^ 20 → bit_depth ≤ 32 → IsSide width → IsSide height → IsValidParams p
valid_params width height channels bit_depth p g b is many deep wide high =
    let flat : 0 ≤ 30 = omega arith in
    let one : IsValidChannel (channel_params width height (Shifts 0)) = (wide, high, flat) in
    let count : length p.channels.items ≡ channels = ap length is ∙ length-replicate channels (channel_params width height (Shifts 0)) in
    record {
      group_dim = rw g (omega arith, omega arith, (8, refl));
      bit_depth = omega (arith, b, deep);
      count = omega (arith, count, many);
      channels = subst (All IsValidChannel) (sym is) (All-replicate IsValidChannel channels (channel_params width height (Shifts 0)) one);
    }

-- ---- the channels that are asked for

size_same : (n : ℕ) → div_ceil n (2 ^ 0) ≡ n
size_same n = let one = div-one n in let rest : n % 1 ≡ 0 = omega arith in rw (one, rest) (omega arith)

pub each_asked : (width height : ℕ) → image_channel (channel_params width height (Shifts 0)) ≡ plain_channel width height
each_asked width height =
    ap (λ n. record { width = n; height = div_ceil height (2 ^ 0); original_width = width; original_height = height; hshift = pos 0; vshift = pos 0; original_shift = Shifts 0; palette_tables = OfColours; gradient_sums = Wrapped }) (size_same width)
    ∙ ap (λ n. record { width = width; height = n; original_width = width; original_height = height; hshift = pos 0; vshift = pos 0; original_shift = Shifts 0; palette_tables = OfColours; gradient_sums = Wrapped }) (size_same height)

replicated : (n : ℕ) (c : ModularChannelParams) (d : Channel) → image_channel c ≡ d → map image_channel (replicate n c) ≡ replicate n d
replicated zero c d same = refl
replicated (suc n) c d same = ap (λ (e : Channel). e ∷ map image_channel (replicate n c)) same ∙ ap (λ (rest : List Channel). d ∷ rest) (replicated n c d same)

pub asked : (width height n : ℕ) (given : List ModularChannelParams) → given ≡ replicate n (channel_params width height (Shifts 0)) → image_list given ≡ channels_asked width height n
asked width height n given is =
    ap (λ (cs : List ModularChannelParams). image_list cs) is
    ∙ ap (λ (cs : List Channel). record { channels = cs; nb_meta = 0 }) (replicated n (channel_params width height (Shifts 0)) _ (each_asked width height))

-- they are of one picture
same_picture : (c : Channel) → is_of_picture_of c c ≡ true
same_picture c = grind (arith, nat_tests)

alike : (n : ℕ) (c : Channel) → one_picture (replicate n c) ≡ true
alike zero c = refl
alike (suc n) c = list_all-from_AllPass (is_of_picture_of c) (replicate n c) (All-replicate (λ (d : Channel). is_of_picture_of c d ≡ true) n c (same_picture c))

pub alike_asked : (width height n : ℕ) (given : List ModularChannelParams) → given ≡ replicate n (channel_params width height (Shifts 0)) → one_picture (image_list given).channels ≡ true
alike_asked width height n given is = ap (λ (l : ChannelList). one_picture l.channels) (asked width height n given is) ∙ alike n _

-- ---- what comes of a picture at the start of the bytes

module _ {V : Type 0} (d : Meaning V) (w : Width) (width height channels : ℕ) (bytes bytes' : List ℕ) (p : ℕ) (given : ChannelList) (global : Option (Config V)) (same : bytes' ≡ bytes) (start : p ≡ 0)
    (are : given ≡ channels_asked width height channels) (alone : global ≡ None) where
  pub at_start : (deep bit_depth : ℕ) (grids : List (Grid ℤ)) (q : ℕ) → deep ≡ bit_depth → IsPicture d w global bytes' 0 given p deep grids q → IsPicture d w None bytes 0 (channels_asked width height channels) 0 bit_depth grids q
  at_start deep bit_depth grids q depth h =
      subst (λ (t : Option (Config V)). IsPicture d w t bytes 0 (channels_asked width height channels) 0 bit_depth grids q) alone
      (subst (λ (l : ChannelList). IsPicture d w global bytes 0 l 0 bit_depth grids q) are
      (subst (λ (n : ℕ). IsPicture d w global bytes 0 given n bit_depth grids q) start (subst (λ (b : List ℕ). IsPicture d w global b 0 given p bit_depth grids q) same
      (subst (λ (n : ℕ). IsPicture d w global bytes' 0 given p n grids q) depth h))))

  pub error_at_start : (error : Error) (q before after : ℕ) → before ≡ 0 → PictureFails d w global bytes' 0 given p (kind_of error) q before after → IsPictureError d w width height channels bytes error
  error_at_start error q before after nought h = record {
    place = q;
    steps = after;
    fails = subst (λ (t : Option (Config V)). PictureFails d w t bytes 0 (channels_asked width height channels) 0 (kind_of error) q 0 after) alone
        (subst (λ (l : ChannelList). PictureFails d w global bytes 0 l 0 (kind_of error) q 0 after) are
        (subst (λ (n : ℕ). PictureFails d w global bytes 0 given n (kind_of error) q 0 after) start
        (subst (λ (b : List ℕ). PictureFails d w global b 0 given p (kind_of error) q 0 after) same
        (subst (λ (n : ℕ). PictureFails d w global bytes' 0 given p (kind_of error) q n after) nought h))));
  }

-- it was out of memory
pub out_of_memory : {V : Type 0} (d : Meaning V) (w : Width) (width height channels : ℕ) (bytes : List ℕ) (error : Error) → kind_of error ≡ NoMemory → IsPictureError d w width height channels bytes error
out_of_memory d w width height channels bytes error is = record { place = 0; steps = 0; fails = no_memory (kind_of error) _ is }

-- ---- what comes of a picture that is cut into sections

module _ {V : Type 0} (d : Meaning V) (w : Width) (given given' : ChannelList) (dim dim' deep deep' : ℕ) (bytes : List ℕ) (are : given' ≡ given) (cut : dim' ≡ dim) (depth : deep' ≡ deep) where
  pub cut_picture : (grids : List (Grid ℤ)) → IsCutPicture d w given' dim' deep' bytes grids → IsCutPicture d w given dim deep bytes grids
  cut_picture grids h =
      subst (λ (l : ChannelList). IsCutPicture d w l dim deep bytes grids) are
      (subst (λ (n : ℕ). IsCutPicture d w given' n deep bytes grids) cut
      (subst (λ (n : ℕ). IsCutPicture d w given' dim' n bytes grids) depth h))

  module _ {S : Type 0} (to_int : S → ℤ) (zero : S) where
    pub cut_error : (error : Error) → IsCutPictureError d w to_int zero given' dim' deep' bytes error → IsCutPictureError d w to_int zero given dim deep bytes error
    cut_error error h =
        subst (λ (l : ChannelList). IsCutPictureError d w to_int zero l dim deep bytes error) are
        (subst (λ (n : ℕ). IsCutPictureError d w to_int zero given' n deep bytes error) cut
        (subst (λ (n : ℕ). IsCutPictureError d w to_int zero given' dim' n bytes error) depth h))

-- The steps of the default squeeze.
use Rattle.std.proofs.Common.{◌≡◌, ℕ, suc, ◌+◌, ◌-◌, List, [], ◌∷◌, ◌++◌, length, take, drop, Ok, ap, refl, sym, ◌∙◌, arith}
use Rattle.std.proofs.lemmas.List.{drop-map, length-map}
use Rattle.jxlm_transform.proofs.Lists.{rest}
use Rattle.jxlm_transform.specs.Channels.{infos}
use Rattle.jxlm_transform.specs.Lists.{list_of}
use Rattle.jxlm_transform.specs.ChannelSteps.{default_of_all, default_of_chroma, steps_of_squeeze}
use Rattle.jxlm_transform.specs.declared.channels.ModularChannels.{ModularChannels}
use Rattle.jxlm_transform.specs.declared.channels.PlacedChannel.{PlacedChannel}
use Rattle.jxlm_transform.specs.declared.transform.SqueezeParams.{SqueezeParams}

-- the squeezes of chroma, and after them those of all channels, are the default squeeze
pub default_listed : (l : ModularChannels) (leader : PlacedChannel) (others : List PlacedChannel) (xs ys zs : List SqueezeParams) → xs ≡ [] →
    take (length l.placed.items - l.nb_meta_channels) (drop l.nb_meta_channels l.placed.items) ≡ leader ∷ others →
    ys ≡ xs ++ default_of_chroma l.nb_meta_channels (infos (leader ∷ others)) →
    zs ≡ ys ++ default_of_all l.nb_meta_channels (length others + 1) leader.info.width leader.info.height →
    steps_of_squeeze xs (list_of l) ≡ Ok zs
default_listed l leader others xs ys zs none there chroma all =
    let f : ℕ = l.nb_meta_channels in
    let after_it : drop f (infos l.placed.items) ≡ infos (leader ∷ others) =
    drop-map (λ (p : PlacedChannel). p.info) f l.placed.items ∙ ap infos (sym (rest f l.placed.items) ∙ there) in
    let many : length (infos others) ≡ length others = length-map others (λ (p : PlacedChannel). p.info) in
    let count : length others + 1 ≡ suc (length (infos others)) = omega arith in
    rw (none, after_it, all, chroma, none, count) refl

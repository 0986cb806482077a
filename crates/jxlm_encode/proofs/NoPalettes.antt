-- Where no transform is a palette, no step is.
use Rattle.std.proofs.Common.{◌≡◌, List, [], ◌∷◌, map, Result, Ok, refl, subst}
use Rattle.std.specs.List.{All}
use Rattle.std.proofs.lemmas.List.Elements.{All-nil, All-cons, All-head, All-tail, All-append}
use Rattle.jxlm_bits.specs.ErrorKind.{ErrorKind}
use Rattle.jxlm_transform.specs.Channels.{ChannelList}
use Rattle.jxlm_transform.specs.ChannelSteps.{CodedList, Step, RctStep, PaletteStep, SqueezeStep, coded_list, list_after_all, steps_of, steps_of_squeeze}
use Rattle.jxlm_transform.specs.Steps.{HasChannels, tables_of}
use Rattle.jxlm_transform.specs.Transforms.{Transform, OfRct, OfPalette, OfSqueeze}
use Rattle.jxlm_transform.specs.declared.transform.SqueezeParams.{SqueezeParams}
use Rattle.jxlm_transform.proofs.SideBounds.{came}
use Rattle.jxlm_encode_write.specs.Laws.{IsWritten}
use Rattle.jxlm_encode_transform.specs.Redo.{IsNoPalette}

same_ok : {X : Type 0} (x y : X) → ◌≡◌ {A = Result X ErrorKind} (Ok x) (Ok y) → x ≡ y
same_ok x y e = cc

squeezes : (steps : List SqueezeParams) → All IsNoPalette (map SqueezeStep steps)
squeezes [] = All-nil IsNoPalette
squeezes (s ∷ ss) = All-cons IsNoPalette (SqueezeStep s) (map SqueezeStep ss) tt (squeezes ss)

of_one : (t : Transform) (l : ChannelList) (ss : List Step) → IsWritten t → steps_of t l ≡ Ok ss → All IsNoPalette ss
of_one (OfRct t) l ss h e = subst (All IsNoPalette) (same_ok _ ss e) (All-cons IsNoPalette (RctStep t) [] tt (All-nil IsNoPalette))
of_one (OfPalette t) l ss h e = absurd h
of_one (OfSqueeze steps) l ss h e =
    let (listed, found, mapped) = came (steps_of_squeeze steps l) (λ steps. Ok (map SqueezeStep steps)) ss e in
    subst (All IsNoPalette) (same_ok _ ss mapped) (squeezes listed)

-- the steps of transforms that are written
pub written_steps : (ts : List Transform) (l : ChannelList) (c : CodedList) → All IsWritten ts → coded_list ts l ≡ Ok c → All IsNoPalette c.steps
written_steps [] l c h e = subst (λ (x : CodedList). All IsNoPalette x.steps) (same_ok _ c e) (All-nil IsNoPalette)
written_steps (t ∷ ts) l c h e =
    let (ss, steps, after_it) = came (steps_of t l) _ c e in
    let (m, list, rest) = came (list_after_all ss l) _ c after_it in
    let (others, all, last) = came (coded_list ts m) _ c rest in
    subst (λ (x : CodedList). All IsNoPalette x.steps) (same_ok _ c last)
    (All-append IsNoPalette ss others.steps (of_one t l ss (All-head IsWritten t ts h) steps) (written_steps ts m others (All-tail IsWritten t ts h) all))

-- they have no tables
pub no_tables : (ss : List Step) → All IsNoPalette ss → tables_of ss ≡ []
no_tables [] h = refl
no_tables (RctStep t ∷ ss) h = no_tables ss (All-tail IsNoPalette (RctStep t) ss h)
no_tables (PaletteStep t ∷ ss) h = absurd (All-head IsNoPalette (PaletteStep t) ss h)
no_tables (SqueezeStep t ∷ ss) h = no_tables ss (All-tail IsNoPalette (SqueezeStep t) ss h)

channels_of_one : (s : Step) → IsNoPalette s → HasChannels s
channels_of_one (RctStep t) h = tt
channels_of_one (PaletteStep t) h = absurd h
channels_of_one (SqueezeStep t) h = tt

-- each palette among them has channels
pub steps_have : (ss : List Step) → All IsNoPalette ss → All HasChannels ss
steps_have ss h = λ k d lt. channels_of_one _ (h k d lt)

-- The steps that the transforms of a header come to: what they keep, and the list after them.
use Rattle.std.proofs.Common.{◌≡◌, ◌≤◌, ◌^◌, List, [], ◌∷◌, ◌++◌, map, Result, Ok, refl, ap, ◌∙◌, subst, arith}
use Rattle.std.specs.List.{All}
use Rattle.std.proofs.lemmas.List.Elements.{All-nil, All-cons, All-head, All-tail, All-append}
use Rattle.jxlm_bits.specs.ErrorKind.{ErrorKind}
use Rattle.jxlm_weighted.specs.declared.weights.WpHeader.{WpHeader}
use Rattle.jxlm_transform.proofs.SideBounds.{came}
use Rattle.jxlm_transform.specs.Channels.{ChannelList}
use Rattle.jxlm_transform.specs.ChannelSteps.{CodedList, Step, RctStep, PaletteStep, SqueezeStep, coded_list, list_after, list_after_all, steps_of, steps_of_squeeze}
use Rattle.jxlm_transform.specs.Transforms.{Transform, OfRct, OfPalette, OfSqueeze, IsPalette, IsTransform, KeepsWeights}
use Rattle.jxlm_transform.specs.declared.transform.Rct.{Rct}
use Rattle.jxlm_transform.specs.declared.transform.Palette.{Palette}
use Rattle.jxlm_transform.specs.declared.transform.SqueezeParams.{SqueezeParams}
use Rattle.jxlm_transform.specs.Steps.{Sides, tables_of, HasChannels, HasWeights}

same_ok : {X : Type 0} (x y : X) → ◌≡◌ {A = Result X ErrorKind} (Ok x) (Ok y) → x ≡ y
same_ok x y e = cc

-- what holds of each palette that is listed holds of each palette among the steps
module _ (P : Transform → Type 0) (Q : Step → Type 0) (colour : (t : Rct) → Q (RctStep t)) (palette : (t : Palette) → P (OfPalette t) → Q (PaletteStep t)) (squeeze : (t : SqueezeParams) → Q (SqueezeStep t)) where
  squeezes : (steps : List SqueezeParams) → All Q (map SqueezeStep steps)
  squeezes [] = All-nil Q
  squeezes (s ∷ ss) = All-cons Q (SqueezeStep s) (map SqueezeStep ss) (squeeze s) (squeezes ss)

  of_one : (t : Transform) (l : ChannelList) (ss : List Step) → P t → steps_of t l ≡ Ok ss → All Q ss
  of_one (OfRct t) l ss p e = subst (All Q) (same_ok _ ss e) (All-cons Q (RctStep t) [] (colour t) (All-nil Q))
  of_one (OfPalette t) l ss p e = subst (All Q) (same_ok _ ss e) (All-cons Q (PaletteStep t) [] (palette t p) (All-nil Q))
  of_one (OfSqueeze steps) l ss p e =
      let (listed, found, mapped) = came (steps_of_squeeze steps l) (λ steps. Ok (map SqueezeStep steps)) ss e in
      subst (All Q) (same_ok _ ss mapped) (squeezes listed)

  of_all : (ts : List Transform) (l : ChannelList) (c : CodedList) → All P ts → coded_list ts l ≡ Ok c → All Q c.steps
  of_all [] l c p e = subst (λ (x : CodedList). All Q x.steps) (same_ok _ c e) (All-nil Q)
  of_all (t ∷ ts) l c p e =
      let (ss, steps, after_it) = came (steps_of t l) _ c e in
      let (m, list, rest) = came (list_after_all ss l) _ c after_it in
      let (others, all, last) = came (coded_list ts m) _ c rest in
      subst (λ (x : CodedList). All Q x.steps) (same_ok _ c last)
      (All-append Q ss others.steps (of_one t l ss (All-head P t ts p) steps) (of_all ts m others (All-tail P t ts p) all))

-- the palettes of the steps keep what those of the transforms keep
pub steps_weights : (weights : WpHeader) (ts : List Transform) (l : ChannelList) (c : CodedList) → All (KeepsWeights weights) ts → coded_list ts l ≡ Ok c → All (HasWeights weights) c.steps
steps_weights weights = of_all (KeepsWeights weights) (HasWeights weights) (λ t. tt) (λ t keeps. keeps) (λ t. tt)

-- a palette among the steps has a channel
pub steps_channels : (ts : List Transform) (l : ChannelList) (c : CodedList) → All IsTransform ts → coded_list ts l ≡ Ok c → All HasChannels c.steps
steps_channels = of_all IsTransform HasChannels (λ t. tt) (λ t is. is.some_channels) (λ t. tt)

-- steps after others go on from the list that those leave
pub after_both : (ss us : List Step) (l m : ChannelList) → list_after_all ss l ≡ Ok m → list_after_all (ss ++ us) l ≡ list_after_all us m
after_both [] us l m e = ap (list_after_all us) (same_ok l m e)
after_both (s ∷ ss) us l m e =
    let (n, first, rest) = came (list_after s l) (list_after_all ss) m e in
    rw first (after_both ss us n m rest)

-- the list after the transforms is the one after their steps
pub steps_list : (ts : List Transform) (l : ChannelList) (c : CodedList) → coded_list ts l ≡ Ok c → list_after_all c.steps l ≡ Ok c.list
steps_list [] l c e = subst (λ (x : CodedList). list_after_all x.steps l ≡ Ok x.list) (same_ok _ c e) refl
steps_list (t ∷ ts) l c e =
    let (ss, steps, after_it) = came (steps_of t l) _ c e in
    let (m, list, rest) = came (list_after_all ss l) _ c after_it in
    let (others, all, last) = came (coded_list ts m) _ c rest in
    subst (λ (x : CodedList). list_after_all x.steps l ≡ Ok x.list) (same_ok _ c last) (after_both ss others.steps l m list ∙ steps_list ts m others all)

-- a palette among the steps has the ranges of a header
abbrev HasRanges : Step → Type 0
HasRanges (PaletteStep t) = IsPalette t
HasRanges other = Unit {0}

abbrev IsNarrowTable : Sides → Type 0
IsNarrowTable s = (s.width ≤ 2 ^ 30) × (s.height ≤ 2 ^ 30)

narrow_in : (ss : List Step) → All HasRanges ss → All IsNarrowTable (tables_of ss)
narrow_in [] ranges = All-nil IsNarrowTable
narrow_in (RctStep t ∷ ss) ranges = narrow_in ss (All-tail HasRanges (RctStep t) ss ranges)
narrow_in (PaletteStep t ∷ ss) ranges =
    let is : IsPalette t = All-head HasRanges (PaletteStep t) ss ranges in
    All-cons IsNarrowTable (record { width = t.nb_colours; height = t.num_c }) (tables_of ss) (omega (arith, is.colours, is.deltas), omega (arith, is.channels)) (narrow_in ss (All-tail HasRanges (PaletteStep t) ss ranges))
narrow_in (SqueezeStep t ∷ ss) ranges = narrow_in ss (All-tail HasRanges (SqueezeStep t) ss ranges)

-- no table has a side above 2 ^ 30
pub narrow_tables : (ts : List Transform) (l : ChannelList) (c : CodedList) → All IsTransform ts → coded_list ts l ≡ Ok c → All (λ (s : Sides). (s.width ≤ 2 ^ 30) × (s.height ≤ 2 ^ 30)) (tables_of c.steps)
narrow_tables ts l c are e = narrow_in c.steps (of_all IsTransform HasRanges (λ t. tt) (λ t is. is) (λ t. tt) ts l c are e)

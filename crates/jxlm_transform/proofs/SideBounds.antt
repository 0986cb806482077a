-- No side of a coded channel is above 2 ^ 30.
use Rattle.std.proofs.Common.{◌≡◌, ℕ, ◌+◌, ◌-◌, Bool, true, false, if◌then◌else◌, List, [], ◌∷◌, ◌++◌, map, take, drop, Result, Ok, Err, refl, subst, arith}
use Rattle.std.proofs.lemmas.List.Elements.{All-nil, All-cons, All-head, All-tail, All-append, All-take, All-drop, All-map, All-weaker}
use Rattle.std.specs.List.{All}
use Rattle.jxlm_bits.specs.ErrorKind.{ErrorKind, BadRct, BadPalette, BadSqueeze, ◌>>=◌}
use Rattle.jxlm_transform.proofs.ImageChannels.{IsWithinLimits, All-image_list}
use Rattle.jxlm_transform.specs.Channels.{Channel, ChannelList, IsNarrow, image_list}
use Rattle.jxlm_transform.specs.ChannelSteps.{CodedList, Step, RctStep, PaletteStep, SqueezeStep, average_channel, coded_list, list_after, list_after_all, range, residual_channel, steps_of, steps_of_squeeze, table_of, with_halves, with_range}
use Rattle.jxlm_transform.specs.Params.{IsValidChannel}
use Rattle.jxlm_transform.specs.Transforms.{Transform, OfRct, OfPalette, OfSqueeze, IsPalette, IsTransform}
use Rattle.jxlm_transform.specs.declared.param.ModularChannelParams.{ModularChannelParams}
use Rattle.jxlm_transform.specs.declared.transform.Palette.{Palette}
use Rattle.jxlm_transform.specs.declared.transform.SqueezeParams.{SqueezeParams}

abbrev AreNarrow : List Channel → Type 0
AreNarrow cs = All IsNarrow cs

narrow_average : (horizontal : Bool) (c : Channel) → IsNarrow c → IsNarrow (average_channel horizontal c)
narrow_average true c h = (omega (arith, h.0), h.1)
narrow_average false c h = (h.0, omega (arith, h.1))

narrow_residual : (horizontal : Bool) (c : Channel) → IsNarrow c → IsNarrow (residual_channel horizontal c)
narrow_residual true c h = (omega (arith, h.0), h.1)
narrow_residual false c h = (h.0, omega (arith, h.1))

narrow_table : (t : Palette) (cs : List Channel) → IsPalette t → IsNarrow (table_of t cs)
narrow_table t cs p = (omega (arith, p.colours, p.deltas), omega (arith, p.channels))

narrow_range : (begin n : ℕ) (cs : List Channel) → AreNarrow cs → AreNarrow (range begin n cs)
narrow_range begin n cs h = All-take IsNarrow (begin + n - begin) (drop begin cs) (All-drop IsNarrow begin cs h)

narrow_with : (begin n : ℕ) (others cs : List Channel) → AreNarrow others → AreNarrow cs → AreNarrow (with_range begin n others cs)
narrow_with begin n others cs h k =
    All-append IsNarrow (take begin cs ++ others) (drop (begin + n) cs) (All-append IsNarrow (take begin cs) others (All-take IsNarrow begin cs k) h) (All-drop IsNarrow (begin + n) cs k)

narrow_halves : (t : SqueezeParams) (averages residuals cs : List Channel) → AreNarrow averages → AreNarrow residuals → AreNarrow cs → AreNarrow (with_halves t averages residuals cs)
narrow_halves t averages residuals cs a r k = by_place t.in_place where
  by_place : (inside : Bool) → AreNarrow (if inside then with_range t.begin_c t.num_c (averages ++ residuals) cs else with_range t.begin_c t.num_c averages cs ++ residuals)
  by_place true = narrow_with t.begin_c t.num_c (averages ++ residuals) cs (All-append IsNarrow averages residuals a r) k
  by_place false = All-append IsNarrow (with_range t.begin_c t.num_c averages cs) residuals (narrow_with t.begin_c t.num_c averages cs a k) r

-- a list that is there where a test holds
chosen : (b : Bool) (l m : ChannelList) (error : ErrorKind) → if◌then◌else◌ {A = Result ChannelList ErrorKind} b (Ok l) (Err error) ≡ Ok m → l ≡ m
chosen true l m error e = cc
chosen false l m error e = cc

-- the ranges of a step that widths come from
abbrev StepFits : Step → Type 0
StepFits (PaletteStep t) = IsPalette t
StepFits other = Unit {0}

narrow_step : (s : Step) (l m : ChannelList) → StepFits s → AreNarrow l.channels → list_after s l ≡ Ok m → AreNarrow m.channels
narrow_step (RctStep t) l m fits k e = subst (λ (x : ChannelList). AreNarrow x.channels) (chosen _ l m BadRct e) k
narrow_step (PaletteStep t) l m fits k e =
    subst (λ (x : ChannelList). AreNarrow x.channels) (chosen _ _ m BadPalette e) (All-cons IsNarrow (table_of t l.channels) (take (t.begin_c + 1) l.channels ++ drop (t.begin_c + t.num_c) l.channels)
    (narrow_table t l.channels fits)
    (All-append IsNarrow (take (t.begin_c + 1) l.channels) (drop (t.begin_c + t.num_c) l.channels) (All-take IsNarrow (t.begin_c + 1) l.channels k) (All-drop IsNarrow (t.begin_c + t.num_c) l.channels k)))
narrow_step (SqueezeStep t) l m fits k e =
    let cs = range t.begin_c t.num_c l.channels in
    let narrow = narrow_range t.begin_c t.num_c l.channels k in
    subst (λ (x : ChannelList). AreNarrow x.channels) (chosen _ _ m BadSqueeze e)
    (narrow_halves t (map (average_channel t.horizontal) cs) (map (residual_channel t.horizontal) cs) l.channels
    (All-map IsNarrow (average_channel t.horizontal) cs (All-weaker IsNarrow (λ c. IsNarrow (average_channel t.horizontal c)) (narrow_average t.horizontal) cs narrow))
    (All-map IsNarrow (residual_channel t.horizontal) cs (All-weaker IsNarrow (λ c. IsNarrow (residual_channel t.horizontal c)) (narrow_residual t.horizontal) cs narrow)) k)

-- what a result that is Ok came from
pub came : {X Y : Type 0} (r : Result X ErrorKind) (next : X → Result Y ErrorKind) (y : Y) → r >>= next ≡ Ok y → (x : X) × (r ≡ Ok x) × (next x ≡ Ok y)
came (Ok x) next y e = (x, refl, e)
came (Err f) next y e = absurd (search_none f y e) where
  search_none : {Z : Type 0} (g : ErrorKind) (z : Z) → ◌≡◌ {A = Result Z ErrorKind} (Err g) (Ok z) → ⊥
  search_none g z h = cc

narrow_steps : (ss : List Step) (l m : ChannelList) → All StepFits ss → AreNarrow l.channels → list_after_all ss l ≡ Ok m → AreNarrow m.channels
narrow_steps [] l m fits k e = subst (λ (x : ChannelList). AreNarrow x.channels) (same l m e) k where
  same : (x y : ChannelList) → ◌≡◌ {A = Result ChannelList ErrorKind} (Ok x) (Ok y) → x ≡ y
  same x y h = cc
narrow_steps (s ∷ ss) l m fits k e =
    let (n, first, rest) = came (list_after s l) (list_after_all ss) m e in
    narrow_steps ss n m (All-tail StepFits s ss fits) (narrow_step s l n (All-head StepFits s ss fits) k first) rest

squeezes_fit : (steps : List SqueezeParams) → All StepFits (map SqueezeStep steps)
squeezes_fit [] = All-nil StepFits
squeezes_fit (s ∷ ss) = All-cons StepFits (SqueezeStep s) (map SqueezeStep ss) tt (squeezes_fit ss)

same_steps : (ss us : List Step) → ◌≡◌ {A = Result (List Step) ErrorKind} (Ok ss) (Ok us) → ss ≡ us
same_steps ss us e = cc

steps_fit : (t : Transform) (l : ChannelList) (ss : List Step) → IsTransform t → steps_of t l ≡ Ok ss → All StepFits ss
steps_fit (OfRct t) l ss is e = subst (All StepFits) (same_steps _ ss e) (All-cons StepFits (RctStep t) [] tt (All-nil StepFits))
steps_fit (OfPalette t) l ss is e = subst (All StepFits) (same_steps _ ss e) (All-cons StepFits (PaletteStep t) [] is (All-nil StepFits))
steps_fit (OfSqueeze steps) l ss is e =
    let (listed, found, mapped) = came (steps_of_squeeze steps l) (λ steps. Ok (map SqueezeStep steps)) ss e in
    subst (All StepFits) (same_steps _ ss mapped) (squeezes_fit listed)

-- where no side is above 2 ^ 30 before transforms that a header can have, none is after them
pub narrow_coded : (ts : List Transform) (l : ChannelList) (coded : CodedList) → All IsTransform ts → All IsNarrow l.channels → coded_list ts l ≡ Ok coded → All IsNarrow coded.list.channels
narrow_coded [] l coded are k e = subst (λ (x : CodedList). AreNarrow x.list.channels) (same _ coded e) k where
  same : (x y : CodedList) → ◌≡◌ {A = Result CodedList ErrorKind} (Ok x) (Ok y) → x ≡ y
  same x y h = cc
narrow_coded (t ∷ ts) l coded are k e =
    let (ss, steps, after_it) = came (steps_of t l) _ coded e in
    let (m, list, rest) = came (list_after_all ss l) _ coded after_it in
    let (others, all, last) = came (coded_list ts m) _ coded rest in
    let narrow = narrow_steps ss l m (steps_fit t l ss (All-head IsTransform t ts are) steps) k list in
    subst (λ (x : CodedList). AreNarrow x.list.channels) (same _ coded last) (narrow_coded ts m others (All-tail IsTransform t ts are) narrow all) where
      same : (x y : CodedList) → ◌≡◌ {A = Result CodedList ErrorKind} (Ok x) (Ok y) → x ≡ y
      same x y h = cc

-- none is above it in an image of valid parameters
pub narrow_image : (ps : List ModularChannelParams) → All IsValidChannel ps → All IsNarrow (image_list ps).channels
narrow_image ps valid = All-weaker IsWithinLimits IsNarrow (λ c within. (within.width, within.height)) (image_list ps).channels (All-image_list ps valid)

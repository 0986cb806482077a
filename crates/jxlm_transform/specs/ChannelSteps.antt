-- What transforms do to a list of channels (ISO/IEC 18181-1, Modular: channels after each transform, default squeeze).
use Rattle.std.specs.Prelude.{◌≡◌, ℕ, zero, suc, ◌+◌, ◌-◌, ◌/◌, List, [], ◌∷◌, ◌++◌, length, map, take, drop, slice_range, Bool, true, false, not, ◌&&◌, ◌||◌, nat_lt, nat_le, ◌==◌, if◌then◌else◌, ℤ, pos, negsuc, int_le, Result, Ok, Err}
use Rattle.std.specs.List.{list_all}
use Rattle.std.specs.Int.{div_ceil}
use Rattle.jxlm_bits.specs.ErrorKind.{ErrorKind, BadRct, BadPalette, BadSqueeze, UnlessNoMemory, kind_of, ◌>>=◌}
use Rattle.jxlm_bits.specs.declared.error.Error.{Error}
use Rattle.jxlm_transform.specs.Channels.{Channel, ChannelList, sums_for}
use Rattle.jxlm_transform.specs.Transforms.{Transform, OfRct, OfPalette, OfSqueeze}
use Rattle.jxlm_transform.specs.declared.param.ChannelShift.TheVariants.{Raw}
use Rattle.jxlm_transform.specs.declared.param.GradientSums.{GradientSums}
use Rattle.jxlm_transform.specs.declared.param.GradientSums.TheVariants.{Wrapped}
use Rattle.jxlm_transform.specs.declared.param.PaletteTables.TheVariants.{OfColours}
use Rattle.jxlm_transform.specs.declared.transform.Rct.{Rct}
use Rattle.jxlm_transform.specs.declared.transform.Palette.{Palette}
use Rattle.jxlm_transform.specs.declared.transform.SqueezeParams.{SqueezeParams}

-- the n elements from begin on
abbrev pub range : {X : Type 0} → ℕ → ℕ → List X → List X
range begin n xs = slice_range xs begin (begin + n)

-- xs with others instead of the n elements from begin on
abbrev pub with_range : {X : Type 0} → ℕ → ℕ → List X → List X → List X
with_range begin n others xs = take begin xs ++ others ++ drop (begin + n) xs

-- xs after a squeeze step: averages instead of the range, residuals right after them or at the end
abbrev pub with_halves : {X : Type 0} → SqueezeParams → List X → List X → List X → List X
with_halves t averages residuals xs =
    if t.in_place then with_range t.begin_c t.num_c (averages ++ residuals) xs else with_range t.begin_c t.num_c averages xs ++ residuals

-- xs after a squeeze step that makes this average and this residual of each element of the range
abbrev pub with_each_halved : {X : Type 0} → SqueezeParams → (X → X) → (X → X) → List X → List X
with_each_halved t average residual xs = with_halves t (map average (range t.begin_c t.num_c xs)) (map residual (range t.begin_c t.num_c xs)) xs

-- the n elements from begin on are there
abbrev pub has_range : {X : Type 0} → ℕ → ℕ → List X → Bool
has_range begin n xs = nat_le (begin + n) (length xs)

-- all channels have the sides of the first
abbrev pub one_size : List Channel → Bool
one_size [] = true
one_size (c ∷ cs) = list_all (λ d. d.width == c.width && d.height == c.height) cs

-- a range that begins among the meta channels ends there
abbrev pub keeps_meta : ℕ → ℕ → ℕ → Bool
keeps_meta begin n nb_meta = not (nat_lt begin nb_meta) || nat_le (begin + n) nb_meta

-- a table: a column for each colour, a row for each channel; its shifts are -1, and no sums are asked for
abbrev pub table_channel : ℕ → ℕ → Channel
table_channel colours channels = record { width = colours; height = channels; original_width = colours; original_height = channels; hshift = negsuc 0; vshift = negsuc 0; original_shift = Raw (negsuc 0) (negsuc 0); palette_tables = OfColours; gradient_sums = Wrapped }

-- the same with these sums
abbrev pub table_by : ℕ → ℕ → GradientSums → Channel
table_by colours channels sums = record (table_channel colours channels) { gradient_sums = sums }

-- the table of a palette of some of these channels, with their sums
abbrev pub table_of : Palette → List Channel → Channel
table_of t cs = table_by t.nb_colours t.num_c (sums_for cs)

-- a shift grows by one where a side is halved; a table's stays
abbrev pub shift_of_half : ℤ → ℤ
shift_of_half (pos s) = pos (s + 1)
shift_of_half (negsuc s) = negsuc s

-- a channel that is squeezed across, or down, to what f makes of that side
abbrev pub squeeze_side : Bool → (ℕ → ℕ) → Channel → Channel
squeeze_side true f c = record c { width = f c.width; hshift = shift_of_half c.hshift }
squeeze_side false f c = record c { height = f c.height; vshift = shift_of_half c.vshift }

-- the averages of a channel that is squeezed
abbrev pub average_channel : Bool → Channel → Channel
average_channel horizontal c = squeeze_side horizontal (λ n. div_ceil n 2) c

-- its residuals
abbrev pub residual_channel : Bool → Channel → Channel
residual_channel horizontal c = squeeze_side horizontal (λ n. n / 2) c

-- it has samples, and is not squeezed too often already
abbrev pub can_be_squeezed : Channel → Bool
can_be_squeezed c = nat_lt 0 c.width && nat_lt 0 c.height && int_le c.hshift (pos 30) && int_le c.vshift (pos 30)

-- the range of a squeeze step is there; one that begins among the meta channels ends there and is squeezed in place
abbrev pub squeeze_range : SqueezeParams → ChannelList → Bool
squeeze_range t l = has_range t.begin_c t.num_c l.channels && (not (nat_lt t.begin_c l.nb_meta) || t.in_place && nat_le (t.begin_c + t.num_c) l.nb_meta)

-- A transform is one or more steps, each with its effect on the list.
pub data Step : Type 0 where
  RctStep : Rct → Step
  PaletteStep : Palette → Step
  SqueezeStep : SqueezeParams → Step

-- the list after a step, or its one error
abbrev pub list_after : Step → ChannelList → Result ChannelList ErrorKind
-- a colour transform needs three channels of one size, and changes no channel's size
list_after (RctStep t) l = if has_range t.begin_c 3 l.channels && one_size (range t.begin_c 3 l.channels) then Ok l else Err BadRct
-- channels of one size, all meta or none, become a table, which comes first and is meta, and a channel of indices
list_after (PaletteStep t) l =
    let cs : List Channel = l.channels in
    if has_range t.begin_c t.num_c cs && one_size (range t.begin_c t.num_c cs) && keeps_meta t.begin_c t.num_c l.nb_meta then
    Ok (record {
      channels = table_of t cs ∷ (take (t.begin_c + 1) cs ++ drop (t.begin_c + t.num_c) cs);
      nb_meta = if nat_lt t.begin_c l.nb_meta then l.nb_meta + 2 - t.num_c else l.nb_meta + 1;
    })
    else Err BadPalette
-- channels of such a range that can be squeezed become averages and residuals; those of meta channels are meta
list_after (SqueezeStep t) l =
    let cs : List Channel = range t.begin_c t.num_c l.channels in
    if squeeze_range t l && list_all can_be_squeezed cs then
    Ok (record {
      channels = with_each_halved t (average_channel t.horizontal) (residual_channel t.horizontal) l.channels;
      nb_meta = if nat_lt t.begin_c l.nb_meta then l.nb_meta + t.num_c else l.nb_meta;
    })
    else Err BadSqueeze

-- how often a side is halved, rounding up, until it is at most 8; n is at least that often
abbrev pub halvings_up_to : ℕ → ℕ → ℕ
halvings_up_to zero side = 0
halvings_up_to (suc n) side = if nat_lt 8 side then 1 + halvings_up_to n (div_ceil side 2) else 0

abbrev pub halvings : ℕ → ℕ
halvings side = halvings_up_to side side

-- a steps across and b steps down in turn, across first
abbrev pub in_turn : ℕ → ℕ → (Bool → SqueezeParams) → List SqueezeParams
in_turn zero zero step = []
in_turn zero (suc b) step = step false ∷ in_turn zero b step
in_turn (suc a) zero step = step true ∷ in_turn a zero step
in_turn (suc a) (suc b) step = step true ∷ step false ∷ in_turn a b step

-- a step of the default squeeze of the n channels from f on
abbrev pub step_of_all : ℕ → ℕ → Bool → SqueezeParams
step_of_all f n horizontal = record { horizontal = horizontal; in_place = true; begin_c = f; num_c = n }

-- the default squeeze of the n channels from f on, the first w by h: both ways in turn, the longer side first
abbrev pub default_of_all : ℕ → ℕ → ℕ → ℕ → List SqueezeParams
default_of_all f n w h =
    if nat_le w h && nat_lt 8 h then step_of_all f n false ∷ in_turn (halvings w) (halvings (div_ceil h 2)) (step_of_all f n) else in_turn (halvings w) (halvings h) (step_of_all f n)

-- a step of the two channels after channel f
abbrev pub step_of_chroma : ℕ → Bool → SqueezeParams
step_of_chroma f horizontal = record { horizontal = horizontal; in_place = false; begin_c = f + 1; num_c = 2 }

-- before it the two channels after the first are squeezed both ways, if there are three, the first two of one size
abbrev pub default_of_chroma : ℕ → List Channel → List SqueezeParams
default_of_chroma f cs = if nat_le 3 (length cs) && one_size (take 2 cs) then step_of_chroma f true ∷ step_of_chroma f false ∷ [] else []

-- the default squeeze of the channels that aren't meta
abbrev pub default_squeeze : ℕ → List Channel → Result (List SqueezeParams) ErrorKind
default_squeeze f [] = Err BadSqueeze
default_squeeze f (c ∷ cs) = Ok (default_of_chroma f (c ∷ cs) ++ default_of_all f (length (c ∷ cs)) c.width c.height)

-- the steps of a squeeze: those that it lists, or else the default ones
abbrev pub steps_of_squeeze : List SqueezeParams → ChannelList → Result (List SqueezeParams) ErrorKind
steps_of_squeeze [] l = default_squeeze l.nb_meta (drop l.nb_meta l.channels)
steps_of_squeeze (s ∷ ss) l = Ok (s ∷ ss)

-- the steps of a transform at a list of channels
abbrev pub steps_of : Transform → ChannelList → Result (List Step) ErrorKind
steps_of (OfRct t) l = Ok (RctStep t ∷ [])
steps_of (OfPalette t) l = Ok (PaletteStep t ∷ [])
steps_of (OfSqueeze steps) l = steps_of_squeeze steps l >>= λ steps. Ok (map SqueezeStep steps)

-- the list after steps in order
abbrev pub list_after_all : List Step → ChannelList → Result ChannelList ErrorKind
list_after_all [] l = Ok l
list_after_all (s ∷ ss) l = list_after s l >>= list_after_all ss

-- what all transforms come to: their steps, and the list that is coded
pub record CodedList : Type 0 where
  pub steps : List Step
  pub list : ChannelList

-- all transforms in order, each on the list that the ones before it leave
abbrev pub coded_list : List Transform → ChannelList → Result CodedList ErrorKind
coded_list [] l = Ok (record { steps = []; list = l })
coded_list (t ∷ ts) l =
    steps_of t l >>= λ steps.
    list_after_all steps l >>= λ m.
    coded_list ts m >>= λ rest.
    Ok (record { steps = steps ++ rest.steps; list = rest.list })

-- the steps that a transform lists
abbrev pub listed_steps : Transform → List Step
listed_steps (OfRct t) = RctStep t ∷ []
listed_steps (OfPalette t) = PaletteStep t ∷ []
listed_steps (OfSqueeze steps) = map SqueezeStep steps

-- What a call that changes a list returned, and the list after it, are what the definition gives. After an error
-- nothing is said of the list.
abbrev pub ListIs : Result ChannelList ErrorKind → Result (Unit {0}) Error → ChannelList → Type 0
ListIs step (Ok u) l = step ≡ Ok l
ListIs step (Err e) l = step ≡ Err (kind_of e)

-- the same of a call that takes memory, which may be out of it at any time
abbrev pub ListGives : Result ChannelList ErrorKind → Result (Unit {0}) Error → ChannelList → Type 0
ListGives step (Ok u) l = step ≡ Ok l
ListGives step (Err e) l = UnlessNoMemory (kind_of e) (step ≡ Err (kind_of e))

-- what a call that lists the steps of a squeeze returned, and the steps after it
abbrev pub StepsGive : Result (List SqueezeParams) ErrorKind → Result (Unit {0}) Error → List SqueezeParams → Type 0
StepsGive steps (Ok u) listed = steps ≡ Ok listed
StepsGive steps (Err e) listed = UnlessNoMemory (kind_of e) (steps ≡ Err (kind_of e))

-- what a call that applies a transform returned, the transform after it, which then lists its steps, and the list
abbrev pub TransformGives : Transform → ChannelList → Result (Unit {0}) Error → Transform → ChannelList → Type 0
TransformGives t l (Ok u) listed m = (steps_of t l ≡ Ok (listed_steps listed)) × (list_after_all (listed_steps listed) l ≡ Ok m)
TransformGives t l (Err e) listed m = UnlessNoMemory (kind_of e) ((steps_of t l >>= λ steps. list_after_all steps l) ≡ Err (kind_of e))

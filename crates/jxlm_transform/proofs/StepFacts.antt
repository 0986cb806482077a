-- What a step without an error says of the list before it, and of the one after it.
use Rattle.std.proofs.Common.{◌≡◌, ℕ, ◌+◌, ◌≤◌, Bool, true, false, ◌-◌, not, ◌&&◌, ◌||◌, nat_lt, nat_le, if◌then◌else◌, List, [], ◌∷◌, ◌++◌, length, map, take, drop, Result, Ok, Err, refl, leb-true}
use Rattle.std.specs.List.{list_all}
use Rattle.jxlm_bits.specs.ErrorKind.{ErrorKind, BadRct, BadPalette, BadSqueeze, ◌>>=◌}
use Rattle.jxlm_transform.specs.Channels.{Channel, ChannelList}
use Rattle.jxlm_transform.specs.ChannelSteps.{Step, RctStep, PaletteStep, SqueezeStep, average_channel, can_be_squeezed, has_range, keeps_meta, list_after, list_after_all, one_size, range, residual_channel, squeeze_range, table_of, with_halves}
use Rattle.jxlm_transform.specs.declared.transform.Rct.{Rct}
use Rattle.jxlm_transform.specs.declared.transform.Palette.{Palette}
use Rattle.jxlm_transform.specs.declared.transform.SqueezeParams.{SqueezeParams}

pub both_of : (a b : Bool) → (a && b) ≡ true → (a ≡ true) × (b ≡ true)
both_of true b e = (refl, e)
both_of false b e = cc

-- a list that is there where a test holds
pub chosen : (b : Bool) (l m : ChannelList) (error : ErrorKind) → if◌then◌else◌ {A = Result ChannelList ErrorKind} b (Ok l) (Err error) ≡ Ok m → (b ≡ true) × (l ≡ m)
chosen true l m error e = (refl, cc)
chosen false l m error e = cc

pub in_range : (begin n : ℕ) (cs : List Channel) → has_range begin n cs ≡ true → begin + n ≤ length cs
in_range begin n cs e = leb-true (begin + n) (length cs) e

-- a colour transform
pub record RctApplies (t : Rct) (l m : ChannelList) : Type 0 where
  pub there : t.begin_c + 3 ≤ length l.channels
  pub one_sized : one_size (range t.begin_c 3 l.channels) ≡ true
  pub after_it : l.channels ≡ m.channels

pub rct_applies : (t : Rct) (l m : ChannelList) → list_after (RctStep t) l ≡ Ok m → RctApplies t l m
rct_applies t l m e =
    let (test, same) = chosen (has_range t.begin_c 3 l.channels && one_size (range t.begin_c 3 l.channels)) l m BadRct e in
    let (a, b) = both_of (has_range t.begin_c 3 l.channels) (one_size (range t.begin_c 3 l.channels)) test in
    record { there = in_range t.begin_c 3 l.channels a; one_sized = b; after_it = λ i. (same i).channels }

-- a palette
pub record PaletteApplies (t : Palette) (l m : ChannelList) : Type 0 where
  pub there : t.begin_c + t.num_c ≤ length l.channels
  pub one_sized : one_size (range t.begin_c t.num_c l.channels) ≡ true
  pub after_it : table_of t l.channels ∷ (take (t.begin_c + 1) l.channels ++ drop (t.begin_c + t.num_c) l.channels) ≡ m.channels

pub palette_applies : (t : Palette) (l m : ChannelList) → list_after (PaletteStep t) l ≡ Ok m → PaletteApplies t l m
palette_applies t l m e =
    let here : Bool = has_range t.begin_c t.num_c l.channels in
    let sized : Bool = one_size (range t.begin_c t.num_c l.channels) in
    let meta : Bool = keeps_meta t.begin_c t.num_c l.nb_meta in
    let (test, same) = chosen (here && sized && meta) (record {
      channels = table_of t l.channels ∷ (take (t.begin_c + 1) l.channels ++ drop (t.begin_c + t.num_c) l.channels);
      nb_meta = if nat_lt t.begin_c l.nb_meta then l.nb_meta + 2 - t.num_c else l.nb_meta + 1;
    }) m BadPalette e in
    let (a, b) = both_of here sized (both_of (here && sized) meta test).0 in
    record { there = in_range t.begin_c t.num_c l.channels a; one_sized = b; after_it = λ i. (same i).channels }

-- a squeeze
pub record SqueezeApplies (t : SqueezeParams) (l m : ChannelList) : Type 0 where
  pub there : t.begin_c + t.num_c ≤ length l.channels
  pub can : list_all can_be_squeezed (range t.begin_c t.num_c l.channels) ≡ true
  pub after_it : with_halves t (map (average_channel t.horizontal) (range t.begin_c t.num_c l.channels)) (map (residual_channel t.horizontal) (range t.begin_c t.num_c l.channels)) l.channels ≡ m.channels

pub squeeze_applies : (t : SqueezeParams) (l m : ChannelList) → list_after (SqueezeStep t) l ≡ Ok m → SqueezeApplies t l m
squeeze_applies t l m e =
    let cs : List Channel = range t.begin_c t.num_c l.channels in
    let here : Bool = has_range t.begin_c t.num_c l.channels in
    let meta : Bool = not (nat_lt t.begin_c l.nb_meta) || t.in_place && nat_le (t.begin_c + t.num_c) l.nb_meta in
    let (test, same) = chosen (squeeze_range t l && list_all can_be_squeezed cs) (record {
      channels = with_halves t (map (average_channel t.horizontal) cs) (map (residual_channel t.horizontal) cs) l.channels;
      nb_meta = if nat_lt t.begin_c l.nb_meta then l.nb_meta + t.num_c else l.nb_meta;
    }) m BadSqueeze e in
    let (a, b) = both_of (here && meta) (list_all can_be_squeezed cs) test in
    record { there = in_range t.begin_c t.num_c l.channels (both_of here meta a).0; can = b; after_it = λ i. (same i).channels }

-- ---- steps one after another

-- what a result that is Ok came from
pub came : {X Y : Type 0} (r : Result X ErrorKind) (next : X → Result Y ErrorKind) (y : Y) → r >>= next ≡ Ok y → (x : X) × (r ≡ Ok x) × (next x ≡ Ok y)
came (Ok x) next y e = (x, refl, e)
came {Y} (Err f) next y e = absurd (not_both f y e) where
  not_both : {Z : Type 0} (g : ErrorKind) (z : Z) → ◌≡◌ {A = Result Z ErrorKind} (Err g) (Ok z) → ⊥
  not_both g z h = cc

pub same_ok : (l m : ChannelList) → list_after_all [] l ≡ Ok m → l ≡ m
same_ok l m e = cc

pub first_step : (s : Step) (ss : List Step) (l m : ChannelList) → list_after_all (s ∷ ss) l ≡ Ok m → (n : ChannelList) × (list_after s l ≡ Ok n) × (list_after_all ss n ≡ Ok m)
first_step s ss l m e = came (list_after s l) (list_after_all ss) m e

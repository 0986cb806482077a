-- Palettes of a few cells.
use Rattle.std.specs.Prelude.{◌≡◌, refl, Bool, true, false, ℕ, List, [], ◌∷◌, length, map, ℤ, pos, negsuc, neg_ℤ, None}
use Rattle.std.specs.Int.{w16, w32, int_wrap}
use Rattle.jxlm_base.specs.Grid.{grid}
use Rattle.jxlm_predictor.specs.declared.predictor.Predictor.TheVariants.{Zero, West, AvgWestAndNorth}
use Rattle.jxlm_transform.specs.declared.transform.Palette.{Palette}
use Rattle.jxlm_inverse.specs.Palette.{colour_index, colour_of, listed_difference, implicit_colour, deltas, finished_sample, finished_channels}

length_of_table : length deltas ≡ 72
unfolding deltas
length_of_table = refl

-- four channels, no colours
abbrev four : Bool → ℤ → List ℤ
four rgb i = map (colour_of 8 (record { begin_c = 0; num_c = 4; nb_colours = 0; nb_deltas = 0; d_pred = Zero; clamps_indices = false; implicit_rgb = rgb; wp_header = None }) (grid 0 4 []) i) (0 ∷ 1 ∷ 2 ∷ 3 ∷ [])

-- of each channel, or of RGB alone
index_0_of_four : four false (pos 0) ≡ pos 32 ∷ pos 32 ∷ pos 32 ∷ pos 32 ∷ []
unfolding colour_of implicit_colour
index_0_of_four = refl

index_0_of_rgb : four true (pos 0) ≡ pos 32 ∷ pos 32 ∷ pos 32 ∷ pos 0 ∷ []
unfolding colour_of implicit_colour
index_0_of_rgb = refl

index_189_of_rgb : four true (pos 189) ≡ pos 0 ∷ pos 0 ∷ pos 0 ∷ pos 0 ∷ []
unfolding colour_of implicit_colour
index_189_of_rgb = refl

-- three channels, no colours
abbrev no_colours : Palette
no_colours = record { begin_c = 0; num_c = 3; nb_colours = 0; nb_deltas = 0; d_pred = Zero; clamps_indices = false; implicit_rgb = false; wp_header = None }

abbrev three : ℤ → List ℤ
three i = map (colour_of 8 no_colours (grid 0 3 []) i) (0 ∷ 1 ∷ 2 ∷ [])

index_1 : three (pos 1) ≡ pos 95 ∷ pos 32 ∷ pos 32 ∷ []
unfolding colour_of implicit_colour
index_1 = refl

index_71 : three (pos 71) ≡ pos 127 ∷ pos 63 ∷ pos 0 ∷ []
unfolding colour_of implicit_colour
index_71 = refl

index_below_0 : three (negsuc 0) ≡ pos 0 ∷ pos 0 ∷ pos 0 ∷ []
unfolding colour_of listed_difference deltas
index_below_0 = refl

index_below_1 : three (negsuc 1) ≡ pos 4 ∷ pos 4 ∷ pos 4 ∷ []
unfolding colour_of listed_difference deltas
index_below_1 = refl

index_below_2 : three (negsuc 2) ≡ negsuc 3 ∷ negsuc 3 ∷ negsuc 3 ∷ []
unfolding colour_of listed_difference deltas
index_below_2 = refl

-- one delta, predicted from the left
one_delta : finished_channels w32 8 (record { begin_c = 0; num_c = 1; nb_colours = 2; nb_deltas = 1; d_pred = West; clamps_indices = false; implicit_rgb = false; wp_header = None }) (grid 2 1 (pos 5 ∷ pos 100 ∷ [])) (grid 3 1 (pos 1 ∷ pos 0 ∷ pos 0 ∷ []))
    ≡ grid 3 1 (pos 100 ∷ pos 105 ∷ pos 110 ∷ []) ∷ []
unfolding int_wrap colour_of colour_index finished_sample
one_delta = refl

-- two deltas in 16 bits, predicted from the stored samples
stored_deltas : finished_channels w16 8 (record { begin_c = 0; num_c = 1; nb_colours = 4; nb_deltas = 2; d_pred = AvgWestAndNorth; clamps_indices = false; implicit_rgb = false; wp_header = None }) (grid 4 1 (pos 1 ∷ pos 0 ∷ pos 32767 ∷ pos 0 ∷ [])) (grid 2 2 (pos 2 ∷ pos 3 ∷ pos 0 ∷ pos 1 ∷ []))
    ≡ grid 2 2 (pos 32767 ∷ pos 0 ∷ neg_ℤ (pos 32768) ∷ neg_ℤ (pos 16384) ∷ []) ∷ []
unfolding int_wrap colour_of colour_index finished_sample
stored_deltas = refl

-- a palette of one channel that clamps indices
abbrev clamping : ℕ → Palette
clamping colours = record { begin_c = 0; num_c = 1; nb_colours = colours; nb_deltas = 0; d_pred = Zero; clamps_indices = true; implicit_rgb = true; wp_header = None }

-- two colours: indices 2, 3, -1 and -2 are clamped to 1 and 0
clamped_to_two : finished_channels w32 8 (clamping 2) (grid 2 1 (pos 1 ∷ pos 3 ∷ [])) (grid 6 1 (pos 0 ∷ pos 1 ∷ pos 2 ∷ pos 3 ∷ negsuc 0 ∷ negsuc 1 ∷ []))
    ≡ grid 6 1 (pos 1 ∷ pos 3 ∷ pos 3 ∷ pos 3 ∷ pos 1 ∷ pos 1 ∷ []) ∷ []
unfolding int_wrap colour_of colour_index finished_sample
clamped_to_two = refl

-- no colours: an index from 0 on becomes -1, the delta 0, and a negative one the implicit colour 0
clamped_to_none : finished_channels w32 8 (clamping 0) (grid 0 1 []) (grid 3 1 (pos 0 ∷ pos 3 ∷ negsuc 0 ∷ []))
    ≡ grid 3 1 (pos 0 ∷ pos 0 ∷ pos 32 ∷ []) ∷ []
unfolding int_wrap colour_of colour_index finished_sample listed_difference implicit_colour deltas
clamped_to_none = refl

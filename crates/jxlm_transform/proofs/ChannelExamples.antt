-- Channel lists of small images.
use Rattle.std.specs.Prelude.{◌≡◌, refl, true, false, ℕ, List, [], ◌∷◌, map, None, Result, Ok, Err}
use Rattle.jxlm_bits.specs.ErrorKind.{ErrorKind, BadRct, BadPalette, BadSqueeze, ◌>>=◌}
use Rattle.jxlm_predictor.specs.declared.predictor.Predictor.TheVariants.{Zero}
use Rattle.jxlm_transform.specs.Channels.{Channel, image_channel}
use Rattle.jxlm_transform.specs.ChannelSteps.{coded_list, default_squeeze, step_of_all}
use Rattle.jxlm_transform.specs.Params.{channel_params}
use Rattle.jxlm_transform.specs.Transforms.{Transform, OfRct, OfPalette, OfSqueeze}
use Rattle.jxlm_transform.specs.declared.param.ChannelShift.TheVariants.{Shifts}

-- the sides of the coded channels
abbrev coded_sizes : List Transform → List Channel → Result (List (ℕ × ℕ)) ErrorKind
coded_sizes ts cs = coded_list ts (record { channels = cs; nb_meta = 0 }) >>= λ coded. Ok (map (λ c. (c.width, c.height)) coded.list.channels)

-- how many of them are meta channels
abbrev coded_meta : List Transform → List Channel → Result ℕ ErrorKind
coded_meta ts cs = coded_list ts (record { channels = cs; nb_meta = 0 }) >>= λ coded. Ok coded.list.nb_meta

abbrev square : Channel
square = image_channel (channel_params 16 16 (Shifts 0))

abbrev three : List Channel
three = square ∷ square ∷ square ∷ []

-- the default squeeze of one channel, down and then across
steps_of_square : default_squeeze 0 (square ∷ []) ≡ Ok (step_of_all 0 1 false ∷ step_of_all 0 1 true ∷ [])
steps_of_square = refl

squeezed_square : coded_sizes (OfSqueeze [] ∷ []) (square ∷ []) ≡ Ok ((8, 8) ∷ (8, 8) ∷ (16, 8) ∷ [])
squeezed_square = refl

-- and of three
squeezed_three : coded_sizes (OfSqueeze [] ∷ []) three ≡
    Ok ((8, 8) ∷ (4, 4) ∷ (4, 4) ∷ (8, 8) ∷ (4, 4) ∷ (4, 4) ∷ (16, 8) ∷ (8, 4) ∷ (8, 4) ∷ (8, 16) ∷ (8, 16) ∷ (8, 8) ∷ (8, 8) ∷ [])
squeezed_three = refl

no_channels : coded_sizes (OfSqueeze [] ∷ []) [] ≡ Err BadSqueeze
no_channels = refl

-- two channels are too few for a colour transform
two_channels : coded_sizes (OfRct (record { begin_c = 0; rct_type = 6 }) ∷ []) (square ∷ square ∷ []) ≡ Err BadRct
two_channels = refl

abbrev palette : ℕ → ℕ → Transform
palette n colours = OfPalette (record { begin_c = 0; num_c = n; nb_colours = colours; nb_deltas = 0; d_pred = Zero; clamps_indices = false; implicit_rgb = false; wp_header = None })

-- a palette over three channels, and one over its table
palette_of_three : coded_sizes (palette 3 5 ∷ []) three ≡ Ok ((5, 3) ∷ (16, 16) ∷ [])
palette_of_three = refl

palette_of_table : coded_sizes (palette 3 5 ∷ palette 1 7 ∷ []) three ≡ Ok ((7, 1) ∷ (5, 3) ∷ (16, 16) ∷ [])
palette_of_table = refl

tables_are_meta : coded_meta (palette 3 5 ∷ palette 1 7 ∷ []) three ≡ Ok 2
tables_are_meta = refl

-- a palette over a table and what is no meta channel
palette_across : coded_sizes (palette 3 5 ∷ palette 2 7 ∷ []) three ≡ Err BadPalette
palette_across = refl

-- a squeeze of the table: its shifts stay
squeezed_table : coded_sizes (palette 3 5 ∷ OfSqueeze (record { horizontal = true; in_place = true; begin_c = 0; num_c = 1 } ∷ []) ∷ []) three ≡ Ok ((3, 3) ∷ (2, 3) ∷ (16, 16) ∷ [])
squeezed_table = refl

-- the residuals of a table must be right after it
table_at_end : coded_sizes (palette 3 5 ∷ OfSqueeze (record { horizontal = true; in_place = false; begin_c = 0; num_c = 1 } ∷ []) ∷ []) three ≡ Err BadSqueeze
table_at_end = refl

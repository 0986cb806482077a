-- Computed examples: headers, trees and samples, from bits.
use Rattle.std.specs.Prelude.{◌≡◌, ℕ, ◌≤◌, ℤ, pos, List, [], ◌∷◌, Ok, Err, None, refl, false, true, Bool}
use Rattle.std.specs.Int.{w32, int_wrap}
use Rattle.std.specs.Int.Count.{count_leading_zeros}
use Rattle.std.proofs.Common.{arith, inl, inr, sym}
use Rattle.jxlm_base.specs.Grid.{Grid, grid}
use Rattle.jxlm_plain.specs.Plain.{PlainState, plain, number_at, mode_at, cluster_at, code_after, code_at, fields_at, plain_begin, plain_read, token_at, run_at}
use Rattle.jxlm_plain.specs.declared.plain.Code.TheVariants.{Constant, Fixed}
use Rattle.jxlm_plain.specs.declared.plain.Mode.TheVariants.{Unsealed, Sealed, Runs}
use Rattle.jxlm_plain.specs.declared.plain.Mode.{Mode}
use Rattle.jxlm_bits.specs.declared.decoder.DecoderError.TheVariants.{UnexpectedEof, Invalid}
use Rattle.jxlm_bits.specs.declared.error.Error.TheVariants.{Decoder}
use Rattle.jxlm_transform.specs.Channels.{image_list}
use Rattle.jxlm_transform.specs.ChannelSteps.{CodedList}
use Rattle.jxlm_transform.specs.Params.{channel_params}
use Rattle.jxlm_transform.specs.declared.param.ChannelShift.TheVariants.{Shifts}
use Rattle.jxlm_transform.specs.declared.param.ModularChannelParams.{ModularChannelParams}
use Rattle.jxlm_tree.specs.Tree.{Config, config_of, leaf, levels}
use Rattle.jxlm_tree.specs.TreeReading.{listing_at, drafts_at, nodes_at, node_at, leaf_at, predictor_at, multiplier_at, IsTreeAt}
use Rattle.jxlm_weighted.specs.WeightsHeader.{default_weights}
use Rattle.jxlm_ma_tree.specs.declared.leaf.Leaf.{Leaf}
use Rattle.jxlm_predictor.specs.declared.predictor.Predictor.TheVariants.{Zero, Gradient}
use Rattle.jxlm_samples.specs.Coded.{IsCodedWhole}
use Rattle.jxlm_samples.specs.Decode.{Standing, FailsLater, DecodeGives}
use Rattle.jxlm_header.specs.Header.{Header}
use Rattle.jxlm_header.specs.Opening.{opening, node_limit}
use Rattle.jxlm_samples.specs.Part.{Part}
use Rattle.jxl_modular.specs.Picture.{IsPicture}

-- one channel of 2 by 2
abbrev square : List ModularChannelParams
square = channel_params 2 2 (Shifts 0) ∷ []

abbrev plain_header : Header
plain_header = record { use_global_tree = false; wp_params = default_weights; transform = [] }

abbrev as_given : CodedList
as_given = record { steps = []; list = image_list square }

abbrev gradient : Leaf
gradient = record { cluster = 0; predictor = Gradient; offset = pos 0; multiplier = 1 }

-- a tree of one leaf
abbrev one_leaf : Leaf → PlainState → Config PlainState
one_leaf l decoder = config_of (leaf l) decoder

abbrev three_bits : Mode → PlainState
three_bits mode = record { mode = mode; codes = Fixed 3 ∷ []; clusters = 0 ∷ [] }

-- Four samples by the clamped gradient. The tokens are numbers of three bits, 2, 4, 1 and 0, from bit 68 on.
abbrev row_bytes : List ℕ
row_bytes = 0x42 ∷ 0x00 ∷ 0x04 ∷ 0x00 ∷ 0x04 ∷ 0x0E ∷ 0x05 ∷ 0xC0 ∷ 0x20 ∷ 0x06 ∷ []

row_opening : (opening false (image_list square)).read row_bytes 0 ≡ Ok (record { value = record { uses_global = false; has_palette = false; has_squeeze = false; weights = default_weights; coded = as_given }; position = 4 })
row_opening = refl

row_limit : node_limit (image_list square).channels ≡ 1028
row_limit = refl

row_listing : listing_at plain row_bytes 1028 4 ≡ Ok (record { value = levels (one_leaf gradient (three_bits Unsealed)).tree; state = three_bits Unsealed; position = 68 })
unfolding listing_at drafts_at nodes_at node_at leaf_at predictor_at multiplier_at fields_at plain_begin plain_read number_at mode_at cluster_at code_at code_after token_at
row_listing = refl

row_tree : IsTreeAt plain row_bytes 1028 2048 4 (one_leaf gradient (three_bits Unsealed)) 68
row_tree = record { reads = row_listing; within = let few : 0 ≤ 2048 = omega arith in few }

abbrev square_of : List ℤ → List (Grid ℤ)
square_of cells = grid 2 2 cells ∷ []

abbrev zeros_of_square : List (Grid ℤ)
zeros_of_square = square_of (pos 0 ∷ pos 0 ∷ pos 0 ∷ pos 0 ∷ [])

abbrev row_grids : List (Grid ℤ)
row_grids = square_of (pos 1 ∷ pos 3 ∷ pos 0 ∷ pos 2 ∷ [])

abbrev part_of : Leaf → Part
part_of l = record { channels = (image_list square).channels; weights = default_weights; tree = (one_leaf l (three_bits Unsealed)).tree; stream = 0 }

row_samples : IsCodedWhole plain w32 (part_of gradient) row_bytes (three_bits Unsealed) 68 row_grids 80
unfolding int_wrap count_leading_zeros plain_begin plain_read number_at token_at
row_samples = inl (
  omega arith,
  record {
    state = three_bits Unsealed;
    coded = record {
      start = record { value = three_bits Unsealed; position = 68 };
      begins = refl;
      joined = (three_bits Unsealed, 77, 0, (three_bits Unsealed, 74, 1, (three_bits Unsealed, 71, 4, (three_bits Unsealed, 68, 2, (refl, refl), refl, refl), refl, refl), refl, refl), refl, refl);
    };
    accepts = refl;
  },
)

-- Without its last byte the read of the second sample is an error: one is decoded, and the reader is after it.
abbrev truncated_bytes : List ℕ
truncated_bytes = 0x42 ∷ 0x00 ∷ 0x04 ∷ 0x00 ∷ 0x04 ∷ 0x0E ∷ 0x05 ∷ 0xC0 ∷ 0x20 ∷ []

abbrev standing : ℕ → List ℤ → Bool → Standing
standing p cells partial = record { position = p; grids = square_of cells; partial = partial }

truncated_samples : FailsLater plain w32 (part_of gradient) truncated_bytes (three_bits Unsealed) (standing 68 (pos 0 ∷ pos 0 ∷ pos 0 ∷ pos 0 ∷ []) true) (standing 71 (pos 1 ∷ pos 0 ∷ pos 0 ∷ pos 0 ∷ []) true) UnexpectedEof 2
unfolding int_wrap count_leading_zeros plain_begin plain_read number_at token_at
truncated_samples = record {
  count = 1;
  fails = record {
    state = three_bits Unsealed;
    coded = record { start = record { value = three_bits Unsealed; position = 68 }; begins = refl; joined = (three_bits Unsealed, 68, 2, (refl, refl), refl, refl) };
    error = inl (omega arith, refl, refl);
  };
  rest = refl;
  fits = (record { same_width = refl; same_height = refl; full = refl }, tt);
  as_partial = refl;
}

truncated_gives : DecodeGives plain w32 (part_of gradient) truncated_bytes (three_bits Unsealed) (standing 68 (pos 0 ∷ pos 0 ∷ pos 0 ∷ pos 0 ∷ []) true) (standing 71 (pos 1 ∷ pos 0 ∷ pos 0 ∷ pos 0 ∷ []) true) false (Err (Decoder UnexpectedEof)) 2
truncated_gives = (refl, (omega arith, inr truncated_samples))

-- The same samples after their sum, which is 7, and after 8: there all four are coded, and the end is an error.
abbrev sealed_bytes : ℕ → List ℕ
sealed_bytes seal = 0x42 ∷ 0x00 ∷ 0x04 ∷ 0x00 ∷ 0x04 ∷ 0x0E ∷ 0x15 ∷ 0xC0 ∷ seal ∷ 0x20 ∷ 0x06 ∷ []

abbrev sealed : ℕ → PlainState
sealed sum = three_bits (Sealed sum)

sealed_samples : IsCodedWhole plain w32 (part_of gradient) (sealed_bytes 0x70) (sealed 0) 68 row_grids 88
unfolding int_wrap count_leading_zeros plain_begin plain_read number_at token_at
sealed_samples = inl (
  omega arith,
  record {
    state = sealed 0;
    coded = record {
      start = record { value = sealed 7; position = 76 };
      begins = refl;
      joined = (sealed 0, 85, 0, (sealed 1, 82, 1, (sealed 5, 79, 4, (sealed 7, 76, 2, (refl, refl), refl, refl), refl, refl), refl, refl), refl, refl);
    };
    accepts = refl;
  },
)

wrongly_sealed_samples : FailsLater plain w32 (part_of gradient) (sealed_bytes 0x80) (sealed 0) (standing 68 (pos 0 ∷ pos 0 ∷ pos 0 ∷ pos 0 ∷ []) true) (standing 88 (pos 1 ∷ pos 3 ∷ pos 0 ∷ pos 2 ∷ []) true) (Invalid 4) 4
unfolding int_wrap count_leading_zeros plain_begin plain_read number_at token_at
wrongly_sealed_samples = record {
  count = 4;
  fails = record {
    state = sealed 1;
    coded = record {
      start = record { value = sealed 8; position = 76 };
      begins = refl;
      joined = (sealed 1, 85, 0, (sealed 2, 82, 1, (sealed 6, 79, 4, (sealed 8, 76, 2, (refl, refl), refl, refl), refl, refl), refl, refl), refl, refl);
    };
    error = inr (refl, refl, refl);
  };
  rest = refl;
  fits = (record { same_width = refl; same_height = refl; full = refl }, tt);
  as_partial = refl;
}

wrongly_sealed_gives : DecodeGives plain w32 (part_of gradient) (sealed_bytes 0x80) (sealed 0) (standing 68 (pos 0 ∷ pos 0 ∷ pos 0 ∷ pos 0 ∷ []) true) (standing 88 (pos 1 ∷ pos 3 ∷ pos 0 ∷ pos 2 ∷ []) true) false (Err (Decoder (Invalid 4))) 4
wrongly_sealed_gives = (omega arith, inr wrongly_sealed_samples)

-- The constant token 3, doubled, and 5 more: no bit is read after the tree, which ends at bit 79.
abbrev constant_bytes : List ℕ
constant_bytes = 0x82 ∷ 0x00 ∷ 0x40 ∷ 0x80 ∷ 0x04 ∷ 0x12 ∷ 0x3A ∷ 0x08 ∷ 0x40 ∷ 0x61 ∷ []

abbrev doubled : Leaf
doubled = record { cluster = 0; predictor = Zero; offset = pos 5; multiplier = 2 }

abbrev constant_decoder : PlainState
constant_decoder = record { mode = Unsealed; codes = Constant 3 ∷ []; clusters = 0 ∷ [] }

constant_listing : listing_at plain constant_bytes 1028 4 ≡ Ok (record { value = levels (one_leaf doubled constant_decoder).tree; state = constant_decoder; position = 79 })
unfolding listing_at drafts_at nodes_at node_at leaf_at predictor_at multiplier_at fields_at plain_begin plain_read number_at mode_at cluster_at code_at code_after token_at
constant_listing = refl

constant_samples : IsCodedWhole plain w32 (part_of doubled) constant_bytes constant_decoder 79 (square_of (pos 1 ∷ pos 1 ∷ pos 1 ∷ pos 1 ∷ [])) 79
unfolding int_wrap count_leading_zeros plain_begin plain_read number_at token_at
constant_samples = inl (
  omega arith,
  record {
    state = constant_decoder;
    coded = record {
      start = record { value = constant_decoder; position = 79 };
      begins = refl;
      joined = (constant_decoder, 79, 3, (constant_decoder, 79, 3, (constant_decoder, 79, 3, (constant_decoder, 79, 3, (refl, refl), refl, refl), refl, refl), refl, refl), refl, refl);
    };
    accepts = refl;
  },
)

-- A token of 2, and 200 more of it, of which three are read.
abbrev run_bytes : List ℕ
run_bytes = 0x42 ∷ 0x00 ∷ 0x04 ∷ 0x00 ∷ 0x04 ∷ 0x0E ∷ 0x0D ∷ 0xC0 ∷ 0x40 ∷ 0x8F ∷ 0x01 ∷ []

abbrev run_of : ℕ → ℕ → PlainState
run_of last left = three_bits (Runs last left)

run_samples : IsCodedWhole plain w32 (part_of gradient) run_bytes (run_of 0 0) 68 (square_of (pos 1 ∷ pos 2 ∷ pos 2 ∷ pos 3 ∷ [])) 81
unfolding int_wrap count_leading_zeros plain_begin plain_read number_at token_at run_at
run_samples = inl (
  omega arith,
  record {
    state = run_of 2 197;
    coded = record {
      start = record { value = run_of 0 0; position = 68 };
      begins = refl;
      joined = (run_of 2 198, 81, 2, (run_of 2 199, 81, 2, (run_of 2 0, 72, 2, (run_of 0 0, 68, 2, (refl, refl), refl, refl), refl, refl), refl, refl), refl, refl);
    };
    accepts = refl;
  },
)

-- A picture stands at the start of those bytes: header, tree and samples, up to bit 80, whatever the bit depth.
row_picture : (bit_depth : ℕ) → IsPicture plain w32 None row_bytes 0 (image_list square) 0 bit_depth row_grids 80
row_picture bit_depth = record {
  head = record { uses_global = false; has_palette = false; has_squeeze = false; weights = default_weights; coded = as_given };
  config = one_leaf gradient (three_bits Unsealed);
  samples_at = 68;
  samples = row_grids;
  start = record { tree_at = 4; header = row_opening; tree = row_tree };
  coded = row_samples;
  only = record {
    chain = ((record { same_width = refl; same_height = refl; full = refl }, tt), refl);
    only = λ other becomes. sym becomes.1;
  };
}

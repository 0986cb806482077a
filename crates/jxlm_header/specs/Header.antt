-- The header of an image (ISO/IEC 18181-1, Modular: Modular header).
use Rattle.std.specs.Prelude.{List, map, Bool}
use Rattle.std.specs.List.{All}
use Rattle.jxlm_bits.specs.Grammar.{Grammar, flag, u32, give, repeated, ◌>>=◌}
use Rattle.jxlm_bits.specs.declared.bits.U32Spec.TheVariants.{Const, Offset}
use Rattle.jxlm_transform.specs.Transforms.{Transform, IsTransform, KeepsWeights, transform_by, transform_of}
use Rattle.jxlm_transform.specs.declared.param.PaletteTables.{PaletteTables}
use Rattle.jxlm_transform.specs.declared.param.PaletteTables.TheVariants.{OfColours, OfDeltasToo}
use Rattle.jxlm_weighted.specs.SelfCorrecting.{IsHeader}
use Rattle.jxlm_weighted.specs.WeightsHeader.{wp_header}
use Rattle.jxlm_weighted.specs.declared.weights.WpHeader.{WpHeader}
use Rattle.jxlm_header.specs.declared.header.ModularHeader.{ModularHeader}

-- whether the global tree is used, the weights of the weighted (self-correcting) predictor, and the transforms
pub record Header : Type 0 where
  pub use_global_tree : Bool
  pub wp_params : WpHeader
  pub transform : List Transform

-- the flag of the global tree, the weights, and after their count, at most 273, the transforms, with these tables
abbrev pub header_by : PaletteTables → Grammar Header
header_by tables = do
  use_global_tree ← flag
  weights ← wp_header
  count ← u32 (Const 0) (Const 1) (Offset 2 4) (Offset 18 8)
  transforms ← repeated count (transform_by tables weights)
  give (record { use_global_tree = use_global_tree; wp_params = weights; transform = transforms })

-- by tables of colours alone
abbrev pub header : Grammar Header
header = header_by OfColours

-- by tables of deltas too, as in a file
abbrev pub file_header : Grammar Header
file_header = header_by OfDeltasToo

-- a header, seen without its memory
abbrev pub header_of : ModularHeader → Header
header_of h = record { use_global_tree = h.use_global_tree; wp_params = h.wp_params; transform = map transform_of h.transform.items }

-- the ranges of a header that was read
pub record IsReadHeader (h : Header) : Type 0 where
  pub weights : IsHeader h.wp_params
  pub transforms : All IsTransform h.transform
  pub palettes : All (KeepsWeights h.wp_params) h.transform

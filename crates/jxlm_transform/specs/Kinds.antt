-- Kinds of transforms (ISO/IEC 18181-1, Modular: TransformInfo).
use Rattle.std.specs.Prelude.{Bool, true, false}
use Rattle.jxlm_transform.specs.Transforms.{Transform, OfPalette, OfSqueeze}

-- whether a transform is a palette, and whether it is a squeeze
abbrev pub is_palette : Transform → Bool
is_palette (OfPalette t) = true
is_palette other = false

abbrev pub is_squeeze : Transform → Bool
is_squeeze (OfSqueeze steps) = true
is_squeeze other = false

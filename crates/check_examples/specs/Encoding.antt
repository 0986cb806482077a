-- How red, green and blue are encoded.
use Rattle.std.specs.Prelude.{pos, List, [], ◌∷◌}
use Rattle.jxl_modular.specs.Transforms.{OfRct, Transform}
use Rattle.jxl_modular.specs.Types.EncodeNode.{EncodeNode}
use Rattle.jxl_modular.specs.Types.EncodeNode.TheVariants.{Leaf}
use Rattle.jxl_modular.specs.Types.Predictor.TheVariants.{Gradient}

-- one transform, of the first three channels: brightness and two differences of colour
abbrev pub ycocg : List Transform
ycocg = OfRct (record { begin_c = 0; rct_type = 6 }) ∷ []

-- one leaf, which predicts by the clamped gradient
abbrev pub gradient_leaf : List EncodeNode
gradient_leaf = Leaf Gradient (pos 0) ∷ []

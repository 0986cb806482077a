-- An image has one encoding.
use Rattle.std.specs.Prelude.{◌≡◌, ℕ, ◌<◌, ℤ, List}
use Rattle.std.specs.List.{All}
use Rattle.std.specs.Int.{Width}
use Rattle.jxlm_base.specs.Grid.{Grid}
use Rattle.jxlm_transform.specs.Transforms.{Transform}
use Rattle.jxlm_encode_write.specs.declared.tree.EncodeNode.{EncodeNode}

-- a number of eight bits
abbrev pub IsByte : ℕ → Type 0
IsByte b = b < 256

-- Transforms, tree, image and width of samples determine the bytes, by what is said of them.
abbrev pub DetermineBytes : (List Transform → List EncodeNode → List (Grid ℤ) → Width → List ℕ → Type 0) → Type 0
DetermineBytes Are = (ts : List Transform) (nodes : List EncodeNode) (image : List (Grid ℤ)) (w : Width) (xs ys : List ℕ) →
    All IsByte xs → All IsByte ys → Are ts nodes image w xs → Are ts nodes image w ys → xs ≡ ys

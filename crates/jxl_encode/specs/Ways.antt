-- The ways to code a picture that an encoder tried, as the caller was told of them.
use Rattle.std.specs.Prelude.{◌≡◌, ◌≤◌, ℕ, List, length, Ok}
use Rattle.std.specs.List.{All, FoldsTo}
use Rattle.jxl_container.specs.Files.{HasCodestream}
use Rattle.jxl_picture.specs.declared.picture.Picture.{Picture}
use Rattle.jxl_encode.specs.Files.{IsCodestreamOf}

-- some codestream of the picture has this length
abbrev pub IsLengthOf : Picture → ℕ → Type 0
IsLengthOf picture n = (codestream : List ℕ) × IsCodestreamOf picture codestream × (n ≡ length codestream)

-- A progress heard of each way that was tried, by the length of its codestream; what each call leaves is said by `gives`. No codestream
-- that it heard of is shorter than this one.
pub record IsShortestTried {P : Type 0} (picture : Picture) (gives : P → ℕ → P → Type 0) (old new : P) (codestream : List ℕ) : Type 0 where
  pub tried : List ℕ
  pub told : FoldsTo gives old tried new
  pub are : All (IsLengthOf picture) tried
  pub shortest : All (λ n. length codestream ≤ n) tried

-- the file has such a codestream
abbrev pub HasShortest : {P : Type 0} → Picture → (P → ℕ → P → Type 0) → P → P → List ℕ → Type 0
HasShortest picture gives old new file =
    (codestream : List ℕ) × HasCodestream file (Ok codestream) × IsShortestTried picture gives old new codestream

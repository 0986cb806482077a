-- Boxes: where they stand in a file (ISO/IEC 18181-2, box structure).
use Rattle.std.specs.Prelude.{ℕ, ◌+◌, ◌*◌, List, [], ◌∷◌, length, slice_index, find, nat_lt, ◌==◌, Bool, if◌then◌else◌, Option}
use Rattle.std.specs.Option.{option_map}
use Rattle.jxl_container.specs.declared.error.FileError.{FileError}
use Rattle.jxl_container.specs.declared.error.FileError.TheVariants.{TruncatedBox, BoxTooSmall}
use Rattle.jxl_container.specs.declared.boxes.FileBox.{FileBox}

-- the number of the four bytes from p on, the first the most significant
unfoldable pub word_at : List ℕ → ℕ → ℕ
word_at bytes p = (slice_index bytes p * 256 + slice_index bytes (p + 1)) * 65536 + (slice_index bytes (p + 2) * 256 + slice_index bytes (p + 3))

-- the box from p on: four bytes of its size, this header included, and four of its type; size 0 reaches to the end of
-- the file, size 1 says that eight bytes of size follow
unfoldable pub box_from : List ℕ → ℕ → FileBox
box_from bytes p = record {
  kind = word_at bytes (p + 4);
  body = if word_at bytes p == 1 then p + 16 else p + 8;
  end = if word_at bytes p == 0 then length bytes else
      if word_at bytes p == 1 then p + (word_at bytes (p + 8) * 4294967296 + word_at bytes (p + 12)) else p + word_at bytes p;
}

-- the error of the first of these conditions that holds
abbrev pub first_of : List (Bool × FileError) → Option FileError
first_of reasons = option_map (λ r. r.1) (find (λ r. r.0) reasons)

-- why a box does not lie in a file, with its header
unfoldable pub outside : List ℕ → FileBox → List (Bool × FileError)
outside bytes b = (nat_lt (length bytes) b.body, TruncatedBox) ∷ (nat_lt b.end b.body, BoxTooSmall) ∷ (nat_lt (length bytes) b.end, TruncatedBox) ∷ []

-- The tag list (ISO/IEC 18181-1, ICC profile: tag list).
use Rattle.std.specs.Prelude.{ℕ, ◌+◌, ◌-◌, ◌*◌, ◌/◌, ◌%◌, List, [], ◌∷◌, ◌++◌, slice_index, slice_range, codes, nat_eq, nat_le, ◌==◌, Bool, true, if◌then◌else◌, Result, Ok}
use Rattle.std.specs.List.{list_any, starts_with}
use Rattle.jxl_icc.specs.Errors.{and_then}
use Rattle.jxl_icc.specs.Numbers.{number_if, word_bytes}
use Rattle.jxl_icc.specs.declared.error.ProfileError.{ProfileError}
use Rattle.jxl_icc.specs.declared.tags.Extent.{Extent}

-- the name of the tag of a code from 2 on: for 2 and 3 the first of three tags
abbrev pub known : ℕ → List ℕ
known code = let k = (if code == 2 then 7 else if code == 3 then 3 else code - 4) in
    slice_range (codes "cprtwtptbkptrXYZgXYZbXYZkXYZrTRCgTRCbTRCkTRCchaddescchrmdmnddmddlumi") (4 * k) (4 * k + 4)

-- the name of a tag, for code 1 the next bytes of the data, from d on
abbrev pub name : List ℕ → ℕ → ℕ → List ℕ
name bytes d code = if code == 1 then slice_range bytes d (d + 4) else known code

-- the names of tags whose contents have 20 bytes unless the command says more
abbrev pub is_short : List ℕ → Bool
is_short tag = list_any (λ known. starts_with nat_eq tag known)
    (codes "rXYZ" ∷ codes "gXYZ" ∷ codes "bXYZ" ∷ codes "kXYZ" ∷ codes "wtpt" ∷ codes "bkpt" ∷ codes "lumi" ∷ [])

-- Where the contents of a tag are, by its command at p: bit 6 says that their start follows, which else is the end of those
-- before; bit 7 that their size follows, which else is 20 or that before.
unfoldable pub extent_at : List ℕ → ℕ → ℕ → ℕ → ℕ → Result Extent ProfileError
extent_at bytes end p start size =
    let head = slice_index bytes p in
    and_then (number_if bytes end (head / 64 % 2 == 1) start (p + 1)) (λ first.
    and_then (number_if bytes end (nat_le 128 head) size first.after) (λ second.
    Ok (record { start = first.value; size = second.value; after = second.after })))

-- an entry of the list
abbrev pub entry : List ℕ → ℕ → ℕ → List ℕ
entry tag start size = tag ++ word_bytes start ++ word_bytes size

-- the profile so far with the entries of a command: of code 2 three curves of the same contents, of code 3 three colours, one
-- after another
abbrev pub entries : List ℕ → ℕ → List ℕ → ℕ → ℕ → List ℕ
entries out code tag start size = let first = out ++ entry tag start size in
    if code == 2 then first ++ entry (codes "gTRC") start size ++ entry (codes "bTRC") start size else
    if code == 3 then first ++ entry (codes "gXYZ") (start + size) size ++ entry (codes "bXYZ") (start + 2 * size) size else first

-- a number that a command writes is not below 2^32
abbrev pub is_large : ℕ → Extent → Bool
is_large code e = if nat_le 4294967296 e.size then true else
    nat_le 4294967296 (if code == 3 then e.start + 2 * e.size else e.start)

-- What the first section of a Modular frame begins with (ISO/IEC 18181-1, frame: LF global).
use Rattle.std.specs.Prelude.{ℕ, ◌+◌, ◌*◌, ◌/◌, ◌^◌, min, Bool, true}
use Rattle.jxlm_bits.specs.Grammar.{Grammar, flag, ◌>>=◌}
use Rattle.jxl_image_header.specs.Fields.{ignored_bytes, bundle_follows, when}
use Rattle.jxl_image_header.specs.declared.size.Size.{Size}

-- three floats of 16 bits, if the header signals them, which Modular does not use; and whether a tree follows that sections share
abbrev pub section_start : Grammar Bool
section_start = bundle_follows true >>= λ follows. when follows (ignored_bytes 6) tt >>= λ u. flag

-- how many nodes such a tree may have, less one
abbrev pub tree_limit : Size → ℕ → ℕ
tree_limit size channels = min (2 ^ 22) (1024 + size.width * size.height * channels / 16)

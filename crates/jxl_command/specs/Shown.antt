-- A name in a line of text.
use Rattle.std.specs.Prelude.{ℕ, false, List, ◌++◌, ◌/◌, ◌%◌, if◌then◌else◌, codes}
use Rattle.std.specs.Char.{encode_utf8, is_control}
use Rattle.std.specs.Fmt.{radix_digits}
use Rattle.std.specs.List.{flat_map}
use Rattle.std.specs.Str.{chars}

-- a character of a name; a control character by its code in two hexadecimal digits
unfoldable pub letter_text : ℕ → List ℕ
letter_text c = if is_control c then codes "\\x" ++ (radix_digits 16 false (c / 16) ++ radix_digits 16 false (c % 16)) else encode_utf8 c

-- a name in a line: its characters, of which none is a control character
unfoldable pub shown_text : List ℕ → List ℕ
shown_text name = flat_map letter_text (chars name)

-- The profile of an encoded stream (ISO/IEC 18181-1, ICC profile).
use Rattle.std.specs.Prelude.{ℕ, zero, suc, ◌+◌, ◌-◌, ◌*◌, ◌%◌, min, List, [], ◌++◌, length, slice_index, nat_lt, nat_le, ◌==◌, ◌||◌, not, if◌then◌else◌, Result, Ok, Err}
use Rattle.jxl_icc.specs.Commands.{command_at, misfit, output_after, needs}
use Rattle.jxl_icc.specs.Errors.{and_then, unless}
use Rattle.jxl_icc.specs.Growth.{extend}
use Rattle.jxl_icc.specs.Header.{header_byte}
use Rattle.jxl_icc.specs.Numbers.{number_from, word_bytes}
use Rattle.jxl_icc.specs.Tags.{name, is_short, extent_at, entries, is_large}
use Rattle.jxl_icc.specs.declared.error.ProfileError.{ProfileError}
use Rattle.jxl_icc.specs.declared.error.ProfileError.TheVariants.{TooLong, Truncated, DataTruncated, UnknownTag, TagTooLarge, PastSize, UnusedBytes, ShortOfSize}

-- a profile so far: the positions of the next command and of the next byte of the data, and the bytes
pub record SoFar : Type 0 where
  pub place : ℕ
  pub at : ℕ
  pub out : List ℕ

-- the same in the tag list: where the contents of the tag before begin, and how many bytes they have
pub record Listed : Type 0 where
  pub place : ℕ
  pub at : ℕ
  pub out : List ℕ
  pub start : ℕ
  pub size : ℕ

-- one command of the main content
unfoldable pub step : List ℕ → ℕ → ℕ → SoFar → Result SoFar ProfileError
step bytes end size s = and_then (command_at bytes end s.place) (λ p.
    unless (misfit p.command (length bytes - s.at) (length s.out) size) (Ok (record {
      place = p.after;
      at = s.at + needs p.command;
      out = output_after bytes s.at s.out p.command;
    })))

-- the commands of the main content up to their end, at most this many
unfoldable pub contents : List ℕ → ℕ → ℕ → ℕ → SoFar → Result SoFar ProfileError
contents bytes end size zero s = Ok s
contents bytes end size (suc n) s =
    if s.place == end then Ok s else and_then (step bytes end size s) (contents bytes end size n)

-- one tag
unfoldable pub tag : List ℕ → ℕ → ℕ → Listed → Result Listed ProfileError
tag bytes end size s =
    let code = slice_index bytes s.place % 64 in
    let named = name bytes s.at code in
    let taken = (if code == 1 then 4 else 0) in
    if nat_lt 20 code then Err UnknownTag else
    if nat_lt (length bytes - s.at) taken then Err DataTruncated else
    and_then (extent_at bytes end s.place (s.start + s.size) (if is_short named then 20 else s.size)) (λ e.
    if is_large code e then Err TagTooLarge else
    if nat_lt (size - length s.out) (if (code == 2) || (code == 3) then 36 else 12) then Err PastSize else
    Ok (record { place = e.after; at = s.at + taken; out = entries s.out code named e.start e.size; start = e.start; size = e.size }))

-- the tags, at most this many, up to the command 0, in its six lowest bits, or the end of the commands
unfoldable pub tags : List ℕ → ℕ → ℕ → ℕ → Listed → Result SoFar ProfileError
tags bytes end size zero s = Ok (record { place = s.place; at = s.at; out = s.out })
tags bytes end size (suc n) s =
    if s.place == end then Ok (record { place = s.place; at = s.at; out = s.out }) else
    if slice_index bytes s.place % 64 == 0 then Ok (record { place = s.place + 1; at = s.at; out = s.out }) else
    and_then (tag bytes end size s) (tags bytes end size n)

-- the tag list: the number of the tags and 1, or 0 if there is no list; then the tags, whose contents begin after the list
unfoldable pub list : List ℕ → ℕ → ℕ → SoFar → Result SoFar ProfileError
list bytes end size s = and_then (number_from bytes end s.place) (λ count.
    if count.value == 0 then Ok (record { place = count.after; at = s.at; out = s.out }) else
    let n = count.value - 1 in
    if nat_le 4294967296 n then Err TagTooLarge else if nat_lt (size - length s.out) 4 then Err PastSize else
    tags bytes end size (end - count.after) (record {
      place = count.after;
      at = s.at;
      out = s.out ++ word_bytes n;
      start = 128 + 12 * n;
      size = 0;
    }))

-- the profile, if all commands and data are used and it has its size
abbrev pub finished : List ℕ → ℕ → ℕ → SoFar → Result (List ℕ) ProfileError
finished bytes end size s = if not (s.place == end) || not (s.at == length bytes) then Err UnusedBytes else
    if length s.out == size then Ok s.out else Err ShortOfSize

-- the profile of this size, by commands from p up to `end`, and by the data from there on
unfoldable pub body : List ℕ → ℕ → ℕ → ℕ → Result (List ℕ) ProfileError
body bytes p end size =
    let n = min size 128 in
    if nat_lt (length bytes - end) n then Err DataTruncated else
    let s : SoFar = record { place = p; at = end + n; out = extend (header_byte bytes end size) [] n } in
    if nat_le size 128 then finished bytes end size s else
    and_then (list bytes end size s) (λ listed.
    and_then (contents bytes end size (end - listed.place) listed) (finished bytes end size))

-- The profile of an encoded stream, of at most this many bytes: its size, how many bytes the commands have, the commands, the
-- data.
unfoldable pub icc_of : ℕ → List ℕ → Result (List ℕ) ProfileError
icc_of max bytes = and_then (number_from bytes (length bytes) 0) (λ size.
    if nat_lt max size.value || nat_le 4294967296 size.value then Err TooLong else
    and_then (number_from bytes (length bytes) size.after) (λ commands.
    if nat_lt (length bytes - commands.after) commands.value then Err Truncated else
    body bytes commands.after (commands.after + commands.value) size.value))

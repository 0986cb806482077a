-- Prefix codes, as they stand in the input (ISO/IEC 18181-1, entropy decoding: prefix codes; RFC 7932, section 3).
use Rattle.std.specs.Prelude.{ℕ, zero, suc, ◌+◌, ◌-◌, ◌*◌, ◌/◌, ◌%◌, ◌^◌, List, [], ◌∷◌, ◌++◌, length, replicate, Bool, ◌||◌, if◌then◌else◌, nat_lt, nat_le, ◌==◌, Result, Ok, Err, slice_index, slice_index_or, slice_set, slice_range}
use Rattle.std.specs.List.{list_any}
use Rattle.jxlm_bits.specs.Decoding.{Found}
use Rattle.jxlm_bits.specs.ErrorKind.{◌>>=◌}
use Rattle.jxlm_bits.specs.declared.decoder.DecoderError.{DecoderError}
use Rattle.jxl_coding_codes.specs.Refusals.{refusal_error}
use Rattle.jxl_coding_codes.specs.declared.refusal.Refusal.TheVariants.{CodewordsOverfull, CodewordsUnderfull, LengthsOverrun, NoCodeword, SymbolOutside, SymbolTwice}
use Rattle.jxl_coding_codes.specs.Fields.{number_at, width_of}
use Rattle.jxl_coding_codes.specs.Reading.{steps}
use Rattle.jxl_coding_codes.specs.declared.lengths.PrefixCode.{PrefixCode}

-- The symbol of the codeword at position p. Codewords of a length are numbered from the number after the last shorter
-- one, doubled; `code` is the number of the bits so far less that of the first codeword that is longer than them, and
-- `place` is where the symbols of those begin.
unfoldable pub codeword_at : List ℕ → List ℕ → ℕ → ℕ → List ℕ → ℕ → Result (Found ℕ) DecoderError
codeword_at [] symbols code place bytes p = Err (refusal_error NoCodeword)
codeword_at (count ∷ counts) symbols code place bytes p = do
  bit ← number_at bytes p 1
  if nat_lt ((2 * code + bit.value) % 2 ^ 32) count
      then Ok (record { value = slice_index_or symbols ((place + (2 * code + bit.value) % 2 ^ 32) % 2 ^ 32) 0; position = bit.position })
      else codeword_at counts symbols ((2 * code + bit.value) % 2 ^ 32 - count) ((place + count) % 2 ^ 32) bytes bit.position

-- A prefix code: how many codewords have each length from 1 on, and the symbols of these codewords one after another.
pub record Prefix : Type 0 where
  pub counts : List ℕ
  pub symbols : List ℕ

-- what codewords take of 2^n, where n is the number of lengths: one of length l takes 2^(n - l)
abbrev pub space_taken : List ℕ → ℕ
space_taken [] = 0
space_taken (count ∷ counts) = count * 2 ^ length counts + space_taken counts

-- of the first n symbols, those whose codewords have this length
unfoldable pub of_length : ℕ → List ℕ → ℕ → List ℕ
of_length l lengths zero = []
of_length l lengths (suc n) = of_length l lengths n ++ (if slice_index lengths n == l then n ∷ [] else [])

-- all of them
abbrev pub all_of_length : ℕ → List ℕ → List ℕ
all_of_length l lengths = of_length l lengths (length lengths)

-- the codewords of the first n lengths
unfoldable pub of_lengths : List ℕ → ℕ → Prefix
of_lengths lengths zero = record { counts = replicate 15 0; symbols = [] }
of_lengths lengths (suc n) = record {
  counts = slice_set (of_lengths lengths n).counts n (length (all_of_length (n + 1) lengths));
  symbols = (of_lengths lengths n).symbols ++ all_of_length (n + 1) lengths;
}

-- the code whose codewords have these lengths, where 0 is none; the symbols of a length are in order
abbrev pub prefix_of : List ℕ → Prefix
prefix_of lengths = of_lengths lengths 15

-- the code of one symbol, which takes no bits
abbrev pub single_code : ℕ → Prefix
single_code symbol = record { counts = replicate 15 0; symbols = symbol ∷ [] }

-- the next symbol
abbrev pub next_symbol_at : Prefix → List ℕ → ℕ → Result (Found ℕ) DecoderError
next_symbol_at code bytes p =
    if length code.symbols == 1 then Ok (record { value = slice_index code.symbols 0; position = p })
    else codeword_at code.counts code.symbols 0 0 bytes p

-- what a codeword takes of this number of shares; none takes nothing
abbrev pub share : ℕ → ℕ → ℕ
share whole l = if l == 0 then 0 else whole / 2 ^ l

-- a length of a codeword of the lengths' own code, itself in a code of two to four bits
unfoldable pub length_code_length_at : List ℕ → ℕ → Result (Found ℕ) DecoderError
length_code_length_at bytes p = do
  two ← number_at bytes p 2
  if two.value == 0 then Ok (record { value = 0; position = two.position }) else
      if two.value == 1 then Ok (record { value = 4; position = two.position }) else
      if two.value == 2 then Ok (record { value = 3; position = two.position }) else (do
        third ← number_at bytes two.position 1
        if third.value == 0 then Ok (record { value = 2; position = third.position }) else (do
          fourth ← number_at bytes third.position 1
          if fourth.value == 0 then Ok (record { value = 1; position = fourth.position }) else
              Ok (record { value = 5; position = fourth.position })))

-- the order in which these lengths are signalled
abbrev pub length_code_order : List ℕ
length_code_order = 1 ∷ 2 ∷ 3 ∷ 4 ∷ 0 ∷ 5 ∷ 17 ∷ 6 ∷ 16 ∷ 7 ∷ 8 ∷ 9 ∷ 10 ∷ 11 ∷ 12 ∷ 13 ∷ 14 ∷ 15 ∷ []

-- The lengths of the code length code at these places, until 32 shares are taken. A code that leaves some, and is not
-- of one codeword, is refused, as is one that takes more.
unfoldable pub length_code_lengths_at : List ℕ → List ℕ → ℕ → ℕ → List ℕ → ℕ → Result (Found (List ℕ)) DecoderError
length_code_lengths_at [] lengths space used bytes p =
    if space == 0 || used == 1 then Ok (record { value = lengths; position = p }) else Err (refusal_error CodewordsUnderfull)
length_code_lengths_at (place ∷ places) lengths space used bytes p =
    if space == 0 then Ok (record { value = lengths; position = p }) else (do
      signalled ← length_code_length_at bytes p
      if nat_lt space (share 32 signalled.value) then Err (refusal_error CodewordsOverfull) else
          length_code_lengths_at places (slice_set lengths place signalled.value) (space - share 32 signalled.value)
          (used + (if signalled.value == 0 then 0 else 1)) bytes signalled.position)

-- Lengths as they are signalled: those so far, the shares of 2^15 that are left, the last that is not 0 (8 at first), and
-- a run that may go on: how many it has, and of which length.
pub record Lengths : Type 0 where
  pub lengths : List ℕ
  pub space : ℕ
  pub last : ℕ
  pub run : ℕ
  pub of : ℕ

-- before the first
abbrev pub no_lengths : Lengths
no_lengths = record { lengths = []; space = 2 ^ 15; last = 8; run = 0; of = 0 }

-- one more length
abbrev pub one_length : Lengths → ℕ → Result Lengths DecoderError
one_length s l =
    if nat_lt s.space (share (2 ^ 15) l) then Err (refusal_error CodewordsOverfull) else Ok (record {
      lengths = s.lengths ++ l ∷ [];
      space = s.space - share (2 ^ 15) l;
      last = if l == 0 then s.last else l;
      run = 0;
      of = s.of;
    })

-- the run that goes on with this length, which has none yet where the last was of another
abbrev pub open_run : Lengths → ℕ → ℕ
open_run s l = if s.of == l then s.run else 0

-- how many a run has with a number more, which counts that many times as much as those before
abbrev pub longer : ℕ → ℕ → ℕ → ℕ
longer run times more = (if run == 0 then 0 else (run - 2) * times) + 3 + more

-- a run of a length, up to this number; more than the alphabet, or than the room, is refused
abbrev pub run_up_to : Lengths → ℕ → ℕ → ℕ → ℕ → Result Lengths DecoderError
run_up_to s alphabet l before run =
    if nat_lt alphabet (length s.lengths + (run - before)) then Err (refusal_error LengthsOverrun) else
    if nat_lt s.space ((run - before) * share (2 ^ 15) l) then Err (refusal_error CodewordsOverfull) else Ok (record {
      lengths = s.lengths ++ replicate (run - before) l;
      space = s.space - (run - before) * share (2 ^ 15) l;
      last = s.last;
      run = run;
      of = l;
    })

-- a run of a length, which goes on with one of its kind
abbrev pub run_of : Lengths → ℕ → ℕ → ℕ → ℕ → Result Lengths DecoderError
run_of s alphabet l times more = run_up_to s alphabet l (open_run s l) (longer (open_run s l) times more)

-- what follows a symbol of the lengths' own code: below 16 it is a length, 16 is a run of the last, 17 one of zeros
unfoldable pub signalled_at : ℕ → Lengths → ℕ → List ℕ → ℕ → Result (Found Lengths) DecoderError
signalled_at alphabet s symbol bytes p =
    if nat_lt symbol 16 then (do
      lengths ← one_length s symbol
      Ok (record { value = lengths; position = p }))
    else if symbol == 16 then (do
      more ← number_at bytes p 2
      lengths ← run_of s alphabet s.last 4 more.value
      Ok (record { value = lengths; position = more.position }))
    else (do
      more ← number_at bytes p 3
      lengths ← run_of s alphabet 0 8 more.value
      Ok (record { value = lengths; position = more.position }))

-- more lengths, where there is room and not all are signalled
unfoldable pub lengths_step : Prefix → ℕ → Lengths → List ℕ → ℕ → Result (Found Lengths) DecoderError
lengths_step length_code alphabet s bytes p =
    if s.space == 0 || nat_le alphabet (length s.lengths) then Ok (record { value = s; position = p }) else (do
      symbol ← next_symbol_at length_code bytes p
      signalled_at alphabet s symbol.value bytes symbol.position)

-- The lengths of the codewords of an alphabet, in their own code. There is room for none more, or they are refused.
unfoldable pub lengths_at : Prefix → ℕ → List ℕ → ℕ → Result (Found (List ℕ)) DecoderError
lengths_at length_code alphabet bytes p = do
  all ← steps (lengths_step length_code alphabet) alphabet no_lengths bytes p
  if all.value.space == 0 then Ok (record { value = all.value.lengths; position = all.position }) else Err (refusal_error CodewordsUnderfull)

-- the lengths of the code length code, of which the first places are skipped
abbrev pub code_length_code_at : ℕ → List ℕ → ℕ → Result (Found (List ℕ)) DecoderError
code_length_code_at skipped bytes p = length_code_lengths_at (slice_range length_code_order skipped 18) (replicate 18 0) 32 0 bytes p

-- a code by its lengths, of which the first places of their own code are skipped
unfoldable pub long_code_at : ℕ → ℕ → List ℕ → ℕ → Result (Found Prefix) DecoderError
long_code_at skipped alphabet bytes p = do
  length_code ← code_length_code_at skipped bytes p
  lengths ← lengths_at (prefix_of length_code.value) alphabet bytes length_code.position
  Ok (record { value = prefix_of lengths.value; position = lengths.position })

-- one symbol more, signalled by its number; one that is not of the alphabet, or signalled twice, is refused
unfoldable pub symbols_step : ℕ → List ℕ → List ℕ → ℕ → Result (Found (List ℕ)) DecoderError
symbols_step alphabet symbols bytes p = do
  symbol ← number_at bytes p (width_of (alphabet - 1))
  if nat_le alphabet symbol.value then Err (refusal_error SymbolOutside) else
      if list_any (λ s. s == symbol.value) symbols then Err (refusal_error SymbolTwice) else
      Ok (record { value = symbols ++ symbol.value ∷ []; position = symbol.position })

-- lengths with those of the first n symbols set
unfoldable pub set_first : ℕ → List ℕ → List ℕ → List ℕ → List ℕ
set_first zero lengths symbols each = lengths
set_first (suc n) lengths symbols each = slice_set (set_first n lengths symbols each) (slice_index symbols n) (slice_index each n)

-- the lengths of two to four symbols that are signalled; of four there are two codes
abbrev pub lengths_of_few : ℕ → Bool → List ℕ
lengths_of_few n deep =
    if n == 2 then 1 ∷ 1 ∷ 0 ∷ 0 ∷ [] else if n == 3 then 1 ∷ 2 ∷ 2 ∷ 0 ∷ [] else if deep then 1 ∷ 2 ∷ 3 ∷ 3 ∷ [] else 2 ∷ 2 ∷ 2 ∷ 2 ∷ []

-- the simple code of these symbols
abbrev pub few_code : ℕ → List ℕ → Bool → Prefix
few_code alphabet symbols deep =
    if length symbols == 1 then single_code (slice_index symbols 0)
    else prefix_of (set_first (length symbols) (replicate alphabet 0) symbols (lengths_of_few (length symbols) deep))

-- whether four symbols have the deeper of their two codes
abbrev pub deep_at : ℕ → List ℕ → ℕ → Result (Found ℕ) DecoderError
deep_at n bytes p = if n == 4 then number_at bytes p 1 else Ok (record { value = 0; position = p })

-- a code of one to four symbols
unfoldable pub few_code_at : ℕ → List ℕ → ℕ → Result (Found Prefix) DecoderError
few_code_at alphabet bytes p = do
  more ← number_at bytes p 2
  symbols ← steps (symbols_step alphabet) (more.value + 1) [] bytes more.position
  deep ← deep_at (more.value + 1) bytes symbols.position
  Ok (record { value = few_code alphabet symbols.value (deep.value == 1); position = deep.position })

-- a prefix code of an alphabet; the only symbol of an alphabet of one takes no bits
unfoldable pub prefix_at : ℕ → List ℕ → ℕ → Result (Found Prefix) DecoderError
prefix_at alphabet bytes p =
    if alphabet == 1 then Ok (record { value = single_code 0; position = p }) else (do
      form ← number_at bytes p 2
      if form.value == 1 then few_code_at alphabet bytes form.position else long_code_at form.value alphabet bytes form.position)

-- a prefix code, as contracts see it
abbrev pub code_seen : PrefixCode → Prefix
code_seen c = record { counts = c.counts; symbols = c.symbols.items }

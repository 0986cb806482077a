-- Distributions of symbols: how often of 4096 times each comes (ISO/IEC 18181-1, entropy decoding: ANS distributions).
use Rattle.std.specs.Prelude.{ℕ, zero, suc, ◌+◌, ◌-◌, ◌*◌, ◌/◌, ◌%◌, ◌^◌, List, [], ◌∷◌, ◌++◌, length, replicate, sum, min, max, Bool, true, false, ◌&&◌, if◌then◌else◌, nat_lt, nat_le, ◌==◌, Result, Ok, Err, slice_set, slice_index, slice_index_or}
use Rattle.jxlm_bits.specs.Decoding.{Found}
use Rattle.jxlm_bits.specs.ErrorKind.{◌>>=◌}
use Rattle.jxlm_bits.specs.declared.decoder.DecoderError.{DecoderError}
use Rattle.jxl_coding_codes.specs.Refusals.{refusal_error}
use Rattle.jxl_coding_codes.specs.declared.refusal.Refusal.TheVariants.{CountPrecision, CountWidths, CountsOverfull, SymbolsEqual}
use Rattle.jxl_coding_codes.specs.Fields.{number_at, var_len_at}
use Rattle.jxl_coding_codes.specs.Reading.{steps}

-- the sum of each distribution
abbrev pub whole : ℕ
whole = 4096

-- the distribution of one symbol
abbrev pub one_symbol : ℕ → List ℕ
one_symbol symbol = slice_set (replicate (symbol + 1) 0) symbol whole

-- the distribution of two, of which the first comes so often
abbrev pub two_symbols : ℕ → ℕ → ℕ → List ℕ
two_symbols first second count =
    slice_set (slice_set (replicate (max first second + 1) 0) first count) second (whole - count)

-- one symbol or two, which are signalled; two that are the same are refused
unfoldable pub few_at : List ℕ → ℕ → Result (Found (List ℕ)) DecoderError
few_at bytes p = do
  two ← number_at bytes p 1
  first ← var_len_at bytes two.position false
  if two.value == 0 then Ok (record { value = one_symbol first.value; position = first.position }) else (do
    second ← var_len_at bytes first.position false
    if first.value == second.value then Err (refusal_error SymbolsEqual) else (do
      count ← number_at bytes second.position 12
      Ok (record { value = two_symbols first.value second.value count.value; position = count.position })))

-- how often a symbol comes of a number of symbols that come as often as each other, the first ones once more where that is not
-- exact
abbrev pub even_at : ℕ → ℕ → ℕ
even_at symbol all = if nat_lt symbol (whole % all) then whole / all + 1 else whole / all

-- the first n of them
unfoldable pub even_first : ℕ → ℕ → List ℕ
even_first zero all = []
even_first (suc n) all = even_first n all ++ even_at n all ∷ []

-- What is signalled of a symbol at first, in a code of three to seven bits: the width of its count, where 0 and 1 are
-- the count itself; or 13, that it comes as often as the symbol before.
unfoldable pub signalled_at : List ℕ → ℕ → Result (Found ℕ) DecoderError
signalled_at bytes p = do
  three ← number_at bytes p 3
  if three.value == 0 then Ok (record { value = 10; position = three.position }) else
      if three.value == 2 then Ok (record { value = 7; position = three.position }) else
      if three.value == 4 then Ok (record { value = 6; position = three.position }) else
      if three.value == 5 then Ok (record { value = 8; position = three.position }) else
      if three.value == 6 then Ok (record { value = 9; position = three.position }) else (do
        fourth ← number_at bytes three.position 1
        if three.value == 3 then Ok (record { value = if fourth.value == 1 then 1 else 3; position = fourth.position }) else
            if three.value == 7 then Ok (record { value = if fourth.value == 1 then 2 else 5; position = fourth.position }) else
            if fourth.value == 1 then Ok (record { value = 4; position = fourth.position }) else (do
              fifth ← number_at bytes fourth.position 1
              if fifth.value == 1 then Ok (record { value = 0; position = fifth.position }) else (do
                sixth ← number_at bytes fifth.position 1
                if sixth.value == 1 then Ok (record { value = 11; position = sixth.position }) else (do
                  seventh ← number_at bytes sixth.position 1
                  Ok (record { value = if seventh.value == 1 then 13 else 12; position = seventh.position })))))

-- Counts are signalled as widths first. What is signalled so far, a width each, where 13 says that the symbol comes as
-- often as the one before; how wide the widest is, plus one, and 0 where there is none; and the first symbol that is so wide.
pub record Widths : Type 0 where
  pub widths : List ℕ
  pub most : ℕ
  pub widest : ℕ

-- before the first
abbrev pub no_widths : Widths
no_widths = record { widths = []; most = 0; widest = 0 }

-- one width more
abbrev pub one_width : Widths → ℕ → Widths
one_width s width = record {
  widths = s.widths ++ width ∷ [];
  most = max s.most (width + 1);
  widest = if nat_le s.most width then length s.widths else s.widest;
}

-- more that come as often as the one before, up to all
abbrev pub same_widths : ℕ → Widths → ℕ → Widths
same_widths all s more = record {
  widths = s.widths ++ replicate (min more (all - length s.widths)) 13;
  most = s.most;
  widest = s.widest;
}

-- more widths, where not all are signalled
unfoldable pub widths_step : ℕ → Widths → List ℕ → ℕ → Result (Found Widths) DecoderError
widths_step all s bytes p =
    if nat_le all (length s.widths) then Ok (record { value = s; position = p }) else (do
      signalled ← signalled_at bytes p
      if signalled.value == 13 then (do
        more ← var_len_at bytes signalled.position false
        Ok (record { value = same_widths all s (more.value + 4); position = more.position })) else
          Ok (record { value = one_width s signalled.value; position = signalled.position }))

-- how many bits of a count follow its leading one, where counts have a precision
abbrev pub signalled_bits : ℕ → ℕ → ℕ
signalled_bits width precision = min (width - 1) (precision - (12 - (width - 1)) / 2)

-- a count by its width: its first bits are signalled, the others are 0
unfoldable pub count_at : ℕ → ℕ → List ℕ → ℕ → Result (Found ℕ) DecoderError
count_at precision width bytes p =
    if nat_lt width 2 then Ok (record { value = width; position = p }) else (do
      rest ← number_at bytes p (signalled_bits width precision)
      Ok (record { value = 2 ^ (width - 1) + rest.value * 2 ^ (width - 1 - signalled_bits width precision); position = rest.position }))

-- the count of the next symbol: the last once more; none yet of the widest; or by its width
unfoldable pub next_count_at : ℕ → Widths → List ℕ → List ℕ → ℕ → Result (Found ℕ) DecoderError
next_count_at precision signalled counts bytes p =
    if slice_index signalled.widths (length counts) == 13 then Ok (record { value = slice_index_or counts (length counts - 1) 0; position = p }) else
    if length counts == signalled.widest then Ok (record { value = 0; position = p }) else
    count_at precision (slice_index signalled.widths (length counts)) bytes p

-- the counts with that of the next symbol
abbrev pub counts_step : ℕ → Widths → List ℕ → List ℕ → ℕ → Result (Found (List ℕ)) DecoderError
counts_step precision signalled counts bytes p = do
  count ← next_count_at precision signalled counts bytes p
  Ok (record { value = counts ++ count.value ∷ []; position = count.position })

-- the widest symbol has what the others leave, which is not nothing
abbrev pub with_rest : List ℕ → ℕ → Result (List ℕ) DecoderError
with_rest counts widest =
    if nat_le whole (sum counts) then Err (refusal_error CountsOverfull) else Ok (slice_set counts widest (whole - sum counts))

-- the width of the precision: the ones before a 0, at most 3
unfoldable pub ones_at : List ℕ → ℕ → Result (Found ℕ) DecoderError
ones_at bytes p = do
  first ← number_at bytes p 1
  if first.value == 0 then Ok (record { value = 0; position = first.position }) else (do
    second ← number_at bytes first.position 1
    if second.value == 0 then Ok (record { value = 1; position = second.position }) else (do
      third ← number_at bytes second.position 1
      if third.value == 0 then Ok (record { value = 2; position = third.position }) else Ok (record { value = 3; position = third.position })))

-- the precision of counts, at most 13
unfoldable pub precision_at : List ℕ → ℕ → Result (Found ℕ) DecoderError
precision_at bytes p = do
  ones ← ones_at bytes p
  rest ← number_at bytes ones.position ones.value
  if nat_lt 14 (2 ^ ones.value + rest.value) then Err (refusal_error CountPrecision) else
      Ok (record { value = 2 ^ ones.value + rest.value - 1; position = rest.position })

-- whether widths can be counted by: there is one, and no symbol comes as often as the widest before it
abbrev pub are_widths : Widths → Bool
are_widths signalled = nat_lt 0 signalled.most && (if slice_index signalled.widths (signalled.widest + 1) == 13 then false else true)

-- many symbols: the widths of their counts, and then the counts
unfoldable pub many_at : List ℕ → ℕ → Result (Found (List ℕ)) DecoderError
many_at bytes p = do
  precision ← precision_at bytes p
  more ← var_len_at bytes precision.position false
  signalled ← steps (widths_step (more.value + 3)) (more.value + 3) no_widths bytes more.position
  if are_widths signalled.value then (do
    counts ← steps (counts_step precision.value signalled.value) (more.value + 3) [] bytes signalled.position
    all ← with_rest counts.value signalled.value.widest
    Ok (record { value = all; position = counts.position })) else
      Err (refusal_error CountWidths)

-- a distribution: how often each symbol comes
unfoldable pub distribution_at : List ℕ → ℕ → Result (Found (List ℕ)) DecoderError
distribution_at bytes p = do
  few ← number_at bytes p 1
  if few.value == 1 then few_at bytes few.position else (do
    even ← number_at bytes few.position 1
    if even.value == 1 then (do
      more ← var_len_at bytes even.position false
      Ok (record { value = even_first (more.value + 1) (more.value + 1); position = more.position })) else
        many_at bytes even.position)

-- The plain decoder, field by field: what parse, begin, read and finalize give, each error at the field that causes it.
use Rattle.std.specs.Prelude.{ℕ, zero, suc, ◌+◌, ◌-◌, ◌*◌, ◌%◌, ◌^◌, List, [], ◌∷◌, length, Bool, true, false, if◌then◌else◌, nat_lt, ◌==◌, ◌&&◌, Option, Some, None, Result, Ok, Err, slice_index_or}
use Rattle.std.specs.Int.{w64, trailing_zeros}
use Rattle.jxlm_bits.specs.Bits.{bits_at}
use Rattle.jxlm_bits.specs.Decoding.{Found, Taken, Meaning}
use Rattle.jxlm_bits.specs.ErrorKind.{◌>>=◌}
use Rattle.jxlm_bits.specs.declared.decoder.DecoderError.{DecoderError}
use Rattle.jxlm_bits.specs.declared.decoder.DecoderError.TheVariants.{UnexpectedEof, Invalid}
use Rattle.jxlm_bits.specs.declared.decoder.RleToken.{RleToken}
use Rattle.jxlm_bits.specs.declared.decoder.RleToken.TheVariants.{Value, Repeat}
use Rattle.jxlm_plain.specs.declared.plain.Code.{Code}
use Rattle.jxlm_plain.specs.declared.plain.Code.TheVariants.{Constant, Fixed, Gamma}
use Rattle.jxlm_plain.specs.declared.plain.Mode.{Mode}
use Rattle.jxlm_plain.specs.declared.plain.Mode.TheVariants.{Unsealed, Sealed, Runs}

-- all that a plain decoder's calls go by: the mode and its state, the code of each cluster, the cluster of each context
pub record PlainState : Type 0 where
  pub mode : Mode
  pub codes : List Code
  pub clusters : List ℕ

-- the number of n bits at position p
unfoldable pub number_at : List ℕ → ℕ → ℕ → Result (Found ℕ) DecoderError
number_at bytes p n =
    if nat_lt (8 * length bytes) (p + n) then Err UnexpectedEof else Ok (record { value = bits_at bytes p n; position = p + n })

-- f of what is found, and the position after it; an error stays
abbrev pub map_found : {X Y : Type 0} → (X → Y) → Result (Found X) DecoderError → Result (Found Y) DecoderError
map_found f read = read >>= λ x. Ok (record { value = f x.value; position = x.position })

-- the code of a cluster
abbrev pub code_of : List Code → ℕ → Code
code_of codes c = slice_index_or codes c (Fixed 0)

-- tokens may come in runs
abbrev pub is_runs : Mode → Bool
is_runs (Runs last left) = true
is_runs mode = false

-- the mode, of a bit for runs and a bit for a seal; both are Invalid(3)
unfoldable pub mode_at : List ℕ → ℕ → Result (Found Mode) DecoderError
mode_at bytes p = do
  runs ← number_at bytes p 1
  seal ← number_at bytes runs.position 1
  if runs.value == 0 then Ok (record { value = if seal.value == 0 then Unsealed else Sealed 0; position = seal.position })
      else if seal.value == 0 then Ok (record { value = Runs 0 0; position = seal.position }) else Err (Invalid 3)

-- n items, one after another
abbrev pub items_at : {X : Type 0} → (ℕ → Result (Found X) DecoderError) → ℕ → ℕ → Result (Found (List X)) DecoderError
items_at item zero p = Ok (record { value = []; position = p })
items_at item (suc n) p = do
  first ← item p
  others ← items_at item n first.position
  Ok (record { value = first.value ∷ others.value; position = others.position })

-- the cluster of a context, one of k; others are Invalid(1)
unfoldable pub cluster_at : List ℕ → ℕ → ℕ → Result (Found ℕ) DecoderError
cluster_at bytes k p = do
  cluster ← number_at bytes p 4
  if nat_lt cluster.value k then Ok cluster else Err (Invalid 1)

-- a code from its kind on: 0 fixed, 1 constant, but not under runs; then a width of at most 32, and a constant's token
unfoldable pub code_after : List ℕ → Bool → Found ℕ → Result (Found Code) DecoderError
code_after bytes runs kind =
    if runs && (kind.value == 1) then Err (Invalid 3) else (do
      width ← number_at bytes kind.position 6
      if nat_lt 32 width.value then Err (Invalid 2) else
          if kind.value == 1 then map_found Constant (number_at bytes width.position width.value)
          else Ok (record { value = Fixed width.value; position = width.position }))

-- a code: its kind, of one bit, and what follows it
unfoldable pub code_at : List ℕ → Bool → ℕ → Result (Found Code) DecoderError
code_at bytes runs p = number_at bytes p 1 >>= code_after bytes runs

-- a code of the second format: a kind of two bits; 3 is Invalid(6), 2 a gamma code, 0 and 1 go on as in the first
unfoldable pub code2_at : List ℕ → Bool → ℕ → Result (Found Code) DecoderError
code2_at bytes runs p = do
  kind ← number_at bytes p 2
  if kind.value == 3 then Err (Invalid 6) else
      if kind.value == 2 then Ok (record { value = Gamma; position = kind.position }) else code_after bytes runs kind

-- a decoder, by how its codes stand: mode, count of clusters, the cluster of each context, the code of each cluster
unfoldable pub fields_at : (List ℕ → Bool → ℕ → Result (Found Code) DecoderError) → List ℕ → ℕ → ℕ → Result (Found PlainState) DecoderError
fields_at code bytes p contexts = do
  mode ← mode_at bytes p
  count ← number_at bytes mode.position 4
  clusters ← items_at (cluster_at bytes (1 + count.value)) contexts count.position
  codes ← items_at (code bytes (is_runs mode.value)) (1 + count.value) clusters.position
  Ok (record { value = record { mode = mode.value; codes = codes.value; clusters = clusters.value }; position = codes.position })

-- the decoder of the second format at a bit position: the version, which is Invalid(5) unless it is 2, and those fields
unfoldable pub plain2_parse : List ℕ → ℕ → ℕ → Result (Found PlainState) DecoderError
plain2_parse bytes p contexts = do
  version ← number_at bytes p 4
  if version.value == 2 then fields_at code2_at bytes version.position contexts else Err (Invalid 5)

-- runs begin anew, and a seal is read
abbrev pub begin_mode : Mode → List ℕ → ℕ → Result (Found Mode) DecoderError
begin_mode Unsealed bytes p = Ok (record { value = Unsealed; position = p })
begin_mode (Sealed sum) bytes p = map_found Sealed (number_at bytes p 8)
begin_mode (Runs last left) bytes p = Ok (record { value = Runs 0 0; position = p })

-- the decoder at the beginning of its tokens
unfoldable pub plain_begin : PlainState → List ℕ → ℕ → Result (Found PlainState) DecoderError
plain_begin s bytes p = map_found (λ mode. record s { mode = mode }) (begin_mode s.mode bytes p)

-- the bits of a number; a constant takes none, and a gamma token as many as its own zeros say
abbrev pub width_of : Code → ℕ
width_of (Constant token) = 0
width_of (Fixed width) = width
width_of Gamma = 0

-- how many zero bits stand before the first one bit from a bit position on; 64 for all that are as many or more
unfoldable pub zeros_at : List ℕ → ℕ → ℕ
zeros_at bytes p = trailing_zeros w64 (bits_at bytes p 64)

-- The zeros of a gamma token: how many there are, and the position after the one bit that ends them. A 33rd is Invalid(7).
unfoldable pub zeros_end : List ℕ → ℕ → Result (Found ℕ) DecoderError
zeros_end bytes p =
    if nat_lt 32 (zeros_at bytes p) then number_at bytes p 33 >>= (λ all. Err (Invalid 7))
    else map_found (λ all. zeros_at bytes p) (number_at bytes p (zeros_at bytes p + 1))

-- the n bits after the one bit of a gamma token; of 32 each is 0, and the first that is not is Invalid(7)
unfoldable pub low_bits : List ℕ → ℕ → ℕ → Result (Found ℕ) DecoderError
low_bits bytes p n = if (n == 32) && nat_lt 0 (bits_at bytes p n) then Err (Invalid 7) else number_at bytes p n

-- a gamma token: n zeros, a one, and n bits, whose number with 2 ^ n is the token and one more
unfoldable pub gamma_at : List ℕ → ℕ → Result (Found ℕ) DecoderError
gamma_at bytes p = do
  zeros ← zeros_end bytes p
  map_found (λ low. 2 ^ zeros.value + low - 1) (low_bits bytes zeros.position zeros.value)

-- the number that a token of this code is where it is read, whatever the mode; a constant takes no bits
abbrev pub own_at : Code → List ℕ → ℕ → Result (Found ℕ) DecoderError
own_at (Constant token) bytes p = number_at bytes p 0
own_at (Fixed width) bytes p = number_at bytes p width
own_at Gamma bytes p = gamma_at bytes p

-- under runs, a flag and what it announces: 0 a token, 1 a run of 1 + u(8) tokens
unfoldable pub run_at : Code → List ℕ → ℕ → Result (Found RleToken) DecoderError
run_at code bytes p = do
  flag ← number_at bytes p 1
  if flag.value == 0 then map_found Value (own_at code bytes flag.position)
      else map_found (λ more. Repeat (1 + more)) (number_at bytes flag.position 8)

-- the first token of a run, where the token before is last
abbrev pub first_of_run : ℕ → RleToken → ℕ → Taken ℕ Mode
first_of_run last (Value token) q = record { value = token; state = Runs token 0; position = q }
first_of_run last (Repeat n) q = record { value = last; state = Runs last (n - 1); position = q }

-- A token of this code in this mode. A constant takes no bits, and counts for no seal.
unfoldable pub token_at : Mode → Code → List ℕ → ℕ → Result (Taken ℕ Mode) DecoderError
token_at (Runs last (suc left)) code bytes p = Ok (record { value = last; state = Runs last left; position = p })
token_at (Runs last zero) code bytes p = do
  run ← run_at code bytes p
  Ok (first_of_run last run.value run.position)
token_at mode (Constant token) bytes p = Ok (record { value = token; state = mode; position = p })
token_at (Sealed sum) code bytes p = do
  number ← own_at code bytes p
  Ok (record { value = number.value; state = Sealed ((sum + 256 - number.value % 256) % 256); position = number.position })
token_at mode code bytes p = do
  number ← own_at code bytes p
  Ok (record { value = number.value; state = mode; position = number.position })

-- a token of a cluster; the multiplier is not looked at
unfoldable pub plain_read : PlainState → List ℕ → ℕ → ℕ → ℕ → Result (Taken ℕ PlainState) DecoderError
plain_read s bytes p c m = do
  read ← token_at s.mode (code_of s.codes c) bytes p
  Ok (record { value = read.value; state = record s { mode = read.state }; position = read.position })

-- a seal of which something is left is Invalid(4)
abbrev pub finalize_mode : Mode → Result (Unit {0}) DecoderError
finalize_mode (Sealed sum) = if sum == 0 then Ok tt else Err (Invalid 4)
finalize_mode mode = Ok tt

-- the only token of a constant cluster; there is none under runs
abbrev pub single_of : Mode → Code → Option ℕ
single_of (Runs last left) code = None
single_of mode (Constant token) = Some token
single_of mode code = None

-- how many tokens an open run still owes
abbrev pub owed_in : Mode → ℕ
owed_in (Runs last left) = left
owed_in mode = 0

-- the last token, or 0
abbrev pub last_in : Mode → ℕ
last_in (Runs last left) = last
last_in mode = 0

-- the mode after an owed token
abbrev pub next_mode : Mode → Mode
next_mode (Runs last left) = Runs last (left - 1)
next_mode mode = mode

-- the plain decoder
abbrev pub plain : Meaning PlainState
plain = record {
  parse = fields_at code_at;
  begin = plain_begin;
  read = plain_read;
  finalize = λ s. finalize_mode s.mode;
  cluster_map = λ s. s.clusters;
  single_token = λ s c. single_of s.mode (code_of s.codes c);
  as_rle = λ s. is_runs s.mode;
  owed = λ s. owed_in s.mode;
  last = λ s. last_in s.mode;
  next = λ s. record s { mode = next_mode s.mode };
}

-- the plain decoder of the second format: it differs in what is parsed alone
abbrev pub plain2 : Meaning PlainState
plain2 = record plain { parse = plain2_parse }

-- the calls of both, one by one; parse is that of the first
abbrev pub plain_parse : List ℕ → ℕ → ℕ → Result (Found PlainState) DecoderError
plain_parse bytes p contexts = fields_at code_at bytes p contexts

abbrev pub plain_finalize : PlainState → Result (Unit {0}) DecoderError
plain_finalize s = finalize_mode s.mode

abbrev pub plain_single : PlainState → ℕ → Option ℕ
plain_single s c = single_of s.mode (code_of s.codes c)

abbrev pub plain_runs : PlainState → Bool
plain_runs s = is_runs s.mode

abbrev pub plain_owed : PlainState → ℕ
plain_owed s = owed_in s.mode

abbrev pub plain_last : PlainState → ℕ
plain_last s = last_in s.mode

abbrev pub plain_next : PlainState → PlainState
plain_next s = record s { mode = next_mode s.mode }

abbrev pub plain_clusters : PlainState → List ℕ
plain_clusters s = s.clusters

-- Fields of headers (ISO/IEC 18181-1, notation of bundles and fields). In a record `(← field)` is what is read there.
use Rattle.std.specs.Prelude.{◌≡◌, ℕ, zero, suc, ◌+◌, ◌-◌, ◌*◌, ◌%◌, List, Bool, false, not, ◌==◌, Option, Some, None, Ok, codes, count_ones, sum}
use Rattle.jxlm_bits.specs.ErrorKind.{ErrorKind, BadEnum}
use Rattle.jxlm_bits.specs.Grammar.{Grammar, number, flag, part, u32, give, fail, either, repeated, ◌>>=◌}
use Rattle.jxlm_bits.specs.declared.bits.U32Spec.TheVariants.{Const, Offset}

-- n groups of 8 bits and one of 4, each after a flag that says whether it is there; the first the least significant
unfoldable pub groups : ℕ → Grammar ℕ
groups zero = flag >>= λ more. either more (number 4) (give 0)
groups (suc n) = flag >>= λ more. either more (number 8 >>= λ v. groups n >>= λ rest. give (v + 256 * rest)) (give 0)

-- U64: 0, 4 bits above 1, 8 bits above 17, or 12 bits and groups
unfoldable pub long : Grammar ℕ
long = do
  selector ← number 2
  either (selector == 0) (give 0) (either (selector == 1) (part (Offset 1 4)) (either (selector == 2) (part (Offset 17 8))
      (number 12 >>= λ v. groups 6 >>= λ rest. give (v + 4096 * rest))))

-- a field where it is there, and else this value
abbrev pub when : {X : Type 0} → Bool → Grammar X → X → Grammar X
when there field usual = either there field (give usual)

-- a field after a flag that says whether it is there
abbrev pub optional : {X : Type 0} → Grammar X → Grammar (Option X)
optional field = flag >>= λ there. when there (field >>= λ v. give (Some v)) None

-- whether a bundle is coded: it may be there, and no flag says that all of it is as by default
abbrev pub bundle_follows : Bool → Grammar Bool
bundle_follows there = when there (flag >>= λ all_default. give (not all_default)) false

-- the number of an enumeration, before it is known to mean something
unfoldable pub enum_number : Grammar ℕ
enum_number = u32 (Const 0) (Const 1) (Offset 2 4) (Offset 18 6)

-- a value, or this error where there is none
abbrev pub value_or : {X : Type 0} → ErrorKind → Option X → Grammar X
value_or error (Some x) = give x
value_or error None = fail error

-- the variant that the number of an enumeration stands for in this table, or the error of this name
abbrev pub variant : {X : Type 0} → List ℕ → (ℕ → Option X) → Grammar X
variant name table = enum_number >>= λ v. value_or (BadEnum name v) (table v)

-- a number that has a meaning, or the error of this name
abbrev pub number_meant : List ℕ → Bool → ℕ → Grammar ℕ
number_meant name means v = either means (give v) (fail (BadEnum name v))

-- a number of which this holds, or the error of this name
abbrev pub number_where : List ℕ → (ℕ → Bool) → Grammar ℕ → Grammar ℕ
number_where name holds field = field >>= λ v. number_meant name (holds v) v

-- n bytes that are not looked at
abbrev pub ignored_bytes : ℕ → Grammar (Unit {0})
ignored_bytes n = number (8 * n) >>= λ v. give tt

-- extensions: which there are, as the bits of a mask, how many bits each has, and these, which are not looked at
unfoldable pub extensions : Grammar ℕ
extensions = do
  mask ← long
  sizes ← repeated (count_ones mask) long
  number (sum sizes) >>= λ v. give mask

-- a name: how many bytes it has, which are not looked at
unfoldable pub name : Grammar ℕ
name = u32 (Const 0) (Offset 0 4) (Offset 16 5) (Offset 48 10) >>= λ n. ignored_bytes n >>= λ u. give n

-- the bit position
abbrev pub here : Grammar ℕ
here = record { read = λ bytes p. Ok (record { value = p; position = p }); Stands = λ bytes p v q. (v ≡ p) × (q ≡ p) }

-- the bits up to the next byte, which are 0
unfoldable pub zero_pad_to_byte : Grammar ℕ
zero_pad_to_byte = here >>= λ p. number_where (codes "padding") (λ v. v == 0) (number ((8 - p % 8) % 8))

-- What calls and loops that read tokens return.
use Rattle.std.specs.Prelude.{◌≡◌, ℕ, nat_le, codes, Result, Ok, Err}
use Rattle.jxlm_bits.specs.Decoding.{Found, Meaning}
use Rattle.jxlm_bits.specs.ErrorKind.{BadProfile, ErrorAt, UnlessMemory, kind_of}
use Rattle.jxlm_bits.specs.Grammar.{Grammar, IsErrorAt, give, fail, either, ◌>>=◌}
use Rattle.jxlm_bits.specs.declared.error.Error.{Error}
use Rattle.jxl_image_header.specs.Fields.{long, number_meant}
use Rattle.jxlm_bits.specs.Tokens.{After, Tokens, decoder_call, token}
use Rattle.jxl_codestream.specs.Orders.{context_of}

-- What was read, seen by view, and the decoder's state s and the reader's position q after it, are what reading gives, unless it
-- or the decoder is out of memory.
abbrev pub TokensRead : {S X Y : Type 0} → (X → Y) → Result X Error → S → ℕ → Result (Found (After S Y)) ErrorAt → Type 0
TokensRead view (Ok v) s q reading = reading ≡ Ok (record { value = record { value = view v; state = s }; position = q })
TokensRead view (Err e) s q reading = UnlessMemory (kind_of e) (IsErrorAt reading (kind_of e) q)

-- the decoder of this number of contexts, at the begin of its tokens
abbrev pub decoder : {S : Type 0} → Meaning S → ℕ → Grammar S
decoder d contexts = decoder_call (λ bytes p. d.parse bytes p contexts) >>= λ s. decoder_call (λ bytes p. d.begin s bytes p)

-- how many digits a code of n numbers has
abbrev pub told_digits : {S : Type 0} → Meaning S → ℕ → Tokens S ℕ
told_digits d n = token d (context_of n) (λ v. number_meant (codes "permutation") (nat_le v n) v)

-- how many bytes a profile has, at most this many
abbrev pub length_in : ℕ → Grammar ℕ
length_in limit = long >>= λ n. either (nat_le n limit) (give n) (fail (BadProfile (codes "the profile is too long")))

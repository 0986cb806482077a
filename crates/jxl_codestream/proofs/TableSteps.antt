-- What a table gives where its code is not read, and where it is.
use Rattle.std.proofs.Common.{◌≡◌, ℕ, ◌*◌, Bool, List, [], Ok, Err, Result, refl}
use Rattle.jxlm_bits.specs.Decoding.{Found, Meaning}
use Rattle.jxlm_bits.specs.ErrorKind.{ErrorKind, ErrorAt, UnlessMemory, kind_of}
use Rattle.jxlm_bits.specs.Grammar.{IsErrorAt, flag, Parses}
use Rattle.jxlm_bits.specs.declared.error.Error.{Error}
use Rattle.jxl_image_header.specs.Fields.{when}
use Rattle.jxlm_bits.proofs.ReadSteps.{unless_so, with_decoder}
use Rattle.jxl_codestream.specs.Reading.{Decodes}
use Rattle.jxl_codestream.specs.Orders.{lehmer_code}
use Rattle.jxl_codestream.specs.Tocs.{room, toc}
use Rattle.jxl_codestream.specs.Inner.Entries.{sizes}

module _ {S : Type 0} (d : Meaning S) (n : ℕ) (bytes : List ℕ) (p m q : ℕ) (permuted : Bool)
    (first : (room (12 * n)).read bytes p ≡ Ok (record { value = tt; position = p })) (second : flag.read bytes p ≡ Ok (record { value = permuted; position = m })) where
  pub code_fails : (error : ErrorKind) → UnlessMemory error (IsErrorAt ((when permuted (lehmer_code d n) []).read bytes m) error q) → UnlessMemory error (IsErrorAt ((toc d n).read bytes p) error q)
  code_fails error refused =
      unless_so error {P = IsErrorAt ((when permuted (lehmer_code d n) []).read bytes m) error q} {Q = IsErrorAt ((toc d n).read bytes p) error q}
      (λ r. record { place = r.place; refuses = rw (first, second, r.refuses) refl; stands = r.stands }) refused

  pub rest_is : (code : List ℕ) → (when permuted (lehmer_code d n) []).read bytes m ≡ Ok (record { value = code; position = q }) → (toc d n).read bytes p ≡ (sizes code n).read bytes q
  rest_is code third = rw (first, second, third) refl

-- what a call without a decoder reads, a call with one may
pub decodes : {X Y : Type 0} (view : X → Y) (r : Result X Error) (q : ℕ) (reading : Result (Found Y) ErrorAt) → Parses view r q reading → Decodes view r q reading
decodes view (Ok x) q reading h = h
decodes view (Err e) q reading h = with_decoder (kind_of e) (IsErrorAt reading (kind_of e) q) h

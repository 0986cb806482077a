-- A codestream begins with its signature, the bytes 255 and 10.
use Rattle.std.proofs.Common.{◌≡◌, ℕ, ◌+◌, ◌*◌, ◌<◌, ◌≤◌, List, [], ◌∷◌, ◌++◌, length, Bool, true, false, Ok, refl, sym, subst, ◌∙◌, arith}
use Rattle.std.specs.Prelude.{◌==◌, codes, slice_index, MatchBool}
use Rattle.std.proofs.lemmas.List.{append-nil}
use Rattle.std.proofs.lemmas.Bool.{eqb-true}
use Rattle.jxlm_bits.specs.Bits.{bits_at}
use Rattle.jxlm_bits.specs.Grammar.{number}
use Rattle.jxlm_bits.proofs.BitsLemmas.{bits_at-byte, bits_at-join}
use Rattle.jxl_container.specs.Files.{HasCodestream, is_bare}
use Rattle.jxl_image_header.specs.Fields.{number_where}
use Rattle.jxl_image_header.specs.Images.{Image, image_header}
use Rattle.jxl_image_header.proofs.HeaderLaws.{exact-image_header}
use Rattle.jxl_codestream.specs.Fronts.{StandsAt}

meant : (v q x r : ℕ) (b : Bool) → (v == 0x0AFF) ≡ b → MatchBool b ((x ≡ v) × (r ≡ q)) ⊥ → v ≡ 0x0AFF
meant v q x r true e s = eqb-true v 0x0AFF e
meant v q x r false e s = absurd s

signature_first : (bytes : List ℕ) (v q : ℕ) → (number_where (codes "signature") (λ v. v == 0x0AFF) (number 16)).Stands bytes 0 v q → (16 ≤ 8 * length bytes) × (bits_at bytes 0 16 ≡ 0x0AFF)
signature_first bytes v q s = let i = s.2.0 in (omega (arith, i), sym s.2.1 ∙ meant s.0 s.1 v q (s.0 == 0x0AFF) refl s.3)

header_signature : (bytes : List ℕ) (image : Image) (end : ℕ) → StandsAt image_header bytes 0 image end → (16 ≤ 8 * length bytes) × (bits_at bytes 0 16 ≡ 0x0AFF)
unfolding image_header
header_signature bytes image end e =
    let s = exact-image_header.read_stands bytes 0 (record { value = image; position = end }) e in
    signature_first bytes s.0 s.1 s.2

two_bytes : (bytes : List ℕ) → ((i : ℕ) → slice_index bytes i < 256) → bits_at bytes 0 16 ≡ 0x0AFF → (slice_index bytes 0 ≡ 255) × (slice_index bytes 1 ≡ 10)
two_bytes bytes small e =
    let low : bits_at bytes 0 8 ≡ slice_index bytes 0 = bits_at-byte bytes 0 8 refl (small 0) in
    let high : bits_at bytes 8 8 ≡ slice_index bytes 1 = bits_at-byte bytes 1 8 refl (small 1) in
    let both : bits_at bytes 0 16 ≡ bits_at bytes 0 8 + bits_at bytes 8 8 * 256 = bits_at-join bytes 0 8 8 in
    let sum : slice_index bytes 0 + slice_index bytes 1 * 256 ≡ 2815 = sym (both ∙ rw (low, high) refl) ∙ e in
    let a = small 0 in
    let b = small 1 in
    (omega (arith, sum, a, b), omega (arith, sum, a, b))

begins_bare : (bytes rest : List ℕ) → 16 ≤ 8 * length bytes → slice_index bytes 0 ≡ 255 → slice_index bytes 1 ≡ 10 → is_bare (bytes ++ rest) ≡ true
begins_bare [] rest long a b = absurd (omega (arith, long))
begins_bare (x ∷ []) rest long a b = absurd (omega (arith, long))
begins_bare (x ∷ y ∷ bytes) rest long a b = rw (a, b) refl

-- bytes that an image header stands at the start of begin as a codestream
pub bare_front : (bytes rest : List ℕ) (image : Image) (end : ℕ) → StandsAt image_header (bytes ++ []) 0 image end → ((i : ℕ) → slice_index bytes i < 256) → is_bare (bytes ++ rest) ≡ true
bare_front bytes rest image end e small =
    let s = header_signature bytes image end (subst (λ (v : List ℕ). StandsAt image_header v 0 image end) (append-nil bytes) e) in
    let two = two_bytes bytes small s.1 in
    begins_bare bytes rest s.0 two.0 two.1

-- and are their own codestream
pub bare_codestream : (bytes : List ℕ) → is_bare bytes ≡ true → HasCodestream bytes (Ok bytes)
bare_codestream bytes e = rw e refl

-- Tables of contents and profiles are read exactly: the parser returns exactly what the bits at its position code.
use Rattle.std.proofs.Common.{◌≡◌, ℕ, ◌+◌, ◌*◌, ◌/◌, ◌%◌, Bool, true, false, List, [], ◌∷◌, ◌++◌, length, Ok, Err, Some, Result, refl, ap, sym}
use Rattle.std.specs.Prelude.{nat_lt, nat_le, codes, reverse, if◌then◌else◌}
use Rattle.std.proofs.lemmas.Bool.{ltb-false, le-ltb}
use Rattle.jxl_icc.specs.Profiles.{icc_of}
use Rattle.jxlm_bits.specs.Decoding.{Found, Meaning}
use Rattle.jxlm_bits.specs.ErrorKind.{Eof, ErrorAt, ErrorKind, BadEnum, BadProfile}
use Rattle.jxlm_bits.specs.Grammar.{IsExact, from_result}
use Rattle.jxlm_bits.specs.declared.bits.U32Spec.TheVariants.{Offset}
use Rattle.jxlm_bits.proofs.GrammarLaws.{bind, found_same, none_found, exact-give, exact-fail, exact-either, exact-flag, exact-u32, exact-repeated}
use Rattle.jxl_image_header.proofs.HeaderLaws.{exact-zero_pad_to_byte, exact-here, exact-long, exact-meant}
use Rattle.jxlm_bits.proofs.TokenLaws.{exact-token, exact-coded, exact-chained}
use Rattle.jxl_codestream.specs.Orders.{context_of, one_more, lehmer_code}
use Rattle.jxl_codestream.specs.Tocs.{room, toc}
use Rattle.jxl_codestream.specs.Inner.Entries.{entry_size}
use Rattle.jxl_codestream.specs.Profiles.{encoded_profile, icc_or_error, one_byte, profile}

rooms : (bytes : List ℕ) (p n : ℕ) (found : Found (Unit {0})) (b : Bool) → nat_lt (8 * length bytes) (p + n) ≡ b →
    if◌then◌else◌ {A = Result (Found (Unit {0})) ErrorAt} b (Err (record { error = Eof; position = Some p })) (Ok (record { value = tt; position = p })) ≡ Ok found →
    (room n).Stands bytes p found.value found.position
rooms bytes p n found true t e = absurd (none_found (record { error = Eof; position = Some p }) found e)
rooms bytes p n found false t e =
    let same = found_same (record { value = tt; position = p }) found e in
    (ltb-false (8 * length bytes) (p + n) t, ap (λ f. f.position) (sym same))

exact-room : (n : ℕ) → IsExact (room n)
exact-room n = record {
  read_stands = λ bytes p found e. rooms bytes p n found (nat_lt (8 * length bytes) (p + n)) refl e;
  stands_read = λ bytes p v q s. rw (le-ltb (8 * length bytes) (p + n) s.0, s.1) refl;
}

exact-result : {X : Type 0} (r : Result X ErrorKind) → IsExact (from_result r)
exact-result (Ok x) = exact-give x
exact-result (Err error) = exact-fail error

module _ {S : Type 0} (d : Meaning S) where
  exact-one_more : (n : ℕ) (code : List ℕ) (s : S) → IsExact (one_more d n code s)
  exact-one_more n code s =
      exact-token d _ _ (λ v. exact-either (nat_lt (v + length code) n) _ _ (exact-give (code ++ v ∷ [])) (exact-fail (BadEnum (codes "permutation") v))) s

  exact-lehmer_code : (n : ℕ) → IsExact (lehmer_code d n)
  exact-lehmer_code n = exact-coded d 8 _ λ s.
      bind (exact-token d (context_of n) _ (λ v. exact-meant (codes "permutation") (nat_le v n) v) s) λ told.
      exact-chained (one_more d n) (exact-one_more n) told.value [] told.state

  pub exact-toc : (n : ℕ) → IsExact (toc d n)
  exact-toc n =
      bind (exact-room (12 * n)) λ u. bind exact-flag λ permuted. bind (exact-either permuted _ _ (exact-lehmer_code n) (exact-give [])) λ code.
      bind exact-zero_pad_to_byte λ v. bind (exact-repeated n entry_size (exact-u32 (Offset 0 10) (Offset 1024 14) (Offset 17408 22) (Offset 4211712 30))) λ sizes.
      bind exact-zero_pad_to_byte λ w. bind exact-here λ p. exact-give (record { code = code; sizes = sizes; start = p / 8 })

  exact-one_byte : (all : List ℕ) (s : S) → IsExact (one_byte d all s)
  exact-one_byte all s = exact-token d _ _ (λ v. exact-give (v % 256 ∷ all)) s

  exact-encoded : (limit : ℕ) → IsExact (encoded_profile d limit)
  exact-encoded limit =
      bind (bind exact-long λ n. exact-either (nat_le n limit) _ _ (exact-give n) (exact-fail (BadProfile (codes "the profile is too long")))) λ n.
      bind (exact-coded d 41 _ (exact-chained (one_byte d) exact-one_byte n [])) λ all. exact-give (reverse all)

  pub exact-profile : (limit : ℕ) → IsExact (profile d limit)
  exact-profile limit = bind (exact-encoded limit) λ encoded. exact-result (icc_or_error (icc_of limit encoded))

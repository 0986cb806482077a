-- A table of contents after the header of its frame, as it was written.
use Rattle.std.proofs.Common.{◌≡◌, ℕ, ◌+◌, ◌*◌, ◌/◌, List, [], ◌++◌, length, false, refl, sym, ap, subst, ◌∙◌, arith, append_assoc}
use Rattle.std.proofs.lemmas.List.{length-append}
use Rattle.jxlm_bits.specs.Decoding.{Meaning}
use Rattle.jxlm_bits.specs.Grammar.{flag, repeated}
use Rattle.jxl_image_header.specs.Fields.{zero_pad_to_byte}
use Rattle.jxlm_bit_writer.specs.Written.{AreFilled, HasBits}
use Rattle.jxlm_bit_writer.specs.Writes.{Spells}
use Rattle.jxlm_bit_writer.proofs.BitLists.{filled_stands, has_first, has_moved, has_rest}
use Rattle.jxl_codestream.specs.Fronts.{StandsAt}
use Rattle.jxl_codestream.specs.Tocs.{toc}
use Rattle.jxl_codestream.proofs.TocLaws.{exact-toc}
use Rattle.jxl_codestream_write.specs.Tables.{Completes, table_of}
use Rattle.jxl_codestream_write.proofs.Padding.{filled_exact, has_more, has_behind, padding_stands}
use Rattle.jxl_codestream_write.proofs.Sizes.{entry, sizes_long}

module _ (bits flagged first table second : List ℕ) (sizes : List ℕ) (told : Spells bits flagged flag false) (fills : AreFilled first flagged)
    (sized : Spells [] table (repeated (length sizes) entry) sizes) (fills_too : AreFilled second table) where
  begins : HasBits first 0 (bits ++ told.word)
  begins = subst (λ (xs : List ℕ). HasBits first 0 xs) told.added (filled_stands first flagged fills)

  module _ {S : Type 0} (d : Meaning S) (rest : List ℕ) where
    abbrev bytes : List ℕ
    bytes = first ++ (second ++ rest)

    stands : (toc d (length sizes)).Stands bytes (length bits) (table_of sizes (length (first ++ second))) (8 * length (first ++ second))
    stands =
        let l = length-append first second in
        let m : length flagged ≡ length bits + length told.word = ap length told.added ∙ length-append bits told.word in
        let n : length table ≡ length sized.word = ap length sized.added in
        let all = has_more first (second ++ rest) 0 (bits ++ told.word) begins in
        let the_flag : flag.Stands bytes (length bits) false (length bits + length told.word) = told.holds bytes (length bits) (has_moved bytes (0 + length bits) (length bits) told.word (omega arith) (has_rest bytes 0 bits told.word all)) in
        let zeros : zero_pad_to_byte.Stands bytes (length bits + length told.word) 0 (8 * length first) =
        padding_stands [] first (second ++ rest) flagged (length bits + length told.word) (8 * length first) fills (omega (arith, m)) (omega arith) in
        let word : HasBits second 0 sized.word = subst (λ (xs : List ℕ). HasBits second 0 xs) sized.added (filled_stands second table fills_too) in
        let there : HasBits bytes (8 * length first) sized.word = has_behind first (second ++ rest) 0 (8 * length first) sized.word (omega arith) (has_more second rest 0 sized.word word) in
        let the_sizes : (repeated (length sizes) entry).Stands bytes (8 * length first) sizes (8 * length first + length sized.word) = sized.holds bytes (8 * length first) there in
        let more_zeros : zero_pad_to_byte.Stands bytes (8 * length first + length sized.word) 0 (8 * length (first ++ second)) =
        padding_stands first second rest table (8 * length first + length sized.word) (8 * length (first ++ second)) fills_too (omega (arith, n)) (omega (arith, l)) in
        let long = sizes_long (length sizes) bytes (8 * length first) sizes (8 * length first + length sized.word) the_sizes in
        let inside = there.inside in
        let few = filled_exact first flagged fills in
        let byte : length (first ++ second) ≡ 8 * length (first ++ second) / 8 = omega arith in (
          tt,
          length bits,
          (omega (arith, long, inside, few, m), refl),
          (
            false,
            length bits + length told.word,
            the_flag,
            (
              [],
              length bits + length told.word,
              (refl, refl),
              (
                0,
                8 * length first,
                zeros,
                (
                  sizes,
                  8 * length first + length sized.word,
                  the_sizes,
                  (
                    0,
                    8 * length (first ++ second),
                    more_zeros,
                    (
                      8 * length (first ++ second),
                      8 * length (first ++ second),
                      (refl, refl),
                      (ap (table_of sizes) byte, refl),
                    ),
                  ),
                ),
              ),
            ),
          ),
        )

  pub table_completes : {S : Type 0} (d : Meaning S) (all : List ℕ) → all ≡ first ++ second → Completes bits all (toc d (length sizes)) (table_of sizes (length all))
  table_completes d all e = subst (λ (v : List ℕ). Completes bits v (toc d (length sizes)) (table_of sizes (length v))) (sym e) (record {
    begins = has_more first second 0 bits (has_first first 0 bits told.word begins);
    stands = λ rest. subst (λ (v : List ℕ). StandsAt (toc d (length sizes)) v (length bits) (table_of sizes (length (first ++ second))) (8 * length (first ++ second)))
        (sym (append_assoc first second rest))
        ((exact-toc d (length sizes)).stands_read (first ++ (second ++ rest)) (length bits) (table_of sizes (length (first ++ second))) (8 * length (first ++ second)) (stands d rest));
  })

-- The bits of several words, added at once.
use Rattle.std.proofs.Common.{◌≡◌, ℕ, ◌+◌, ◌*◌, ◌/◌, ◌%◌, ◌^◌, ◌-◌, ◌<◌, ◌≤◌, List, [], ◌∷◌, ◌++◌, length, get_or, drop, sym, ap, ◌∙◌, arith, append_assoc}
use Rattle.std.specs.Int.{to_le_bytes, w64}
use Rattle.std.specs.List.{flat_map}
use Rattle.std.proofs.lemmas.List.{append-nil, drop_all, drop_more, flat_map_more}
use Rattle.std.proofs.lemmas.Grind.{flat_map-append}
use Rattle.std.proofs.lemmas.Nat.{one_shl}
use Rattle.std.proofs.Math.Nat.{mul-le-mul}
use Rattle.jxlm_bit_writer.specs.Written.{digits, bits_of, words_back}
use Rattle.jxlm_bit_writer.proofs.HeldBits.{above_bytes, above_fits, put_whole, wrapped_sum}

-- one moved by fewer than 32 bits
pub scale_is : (count : ℕ) → count < 32 → 1 * 2 ^ count % 18446744073709551616 ≡ 2 ^ count
scale_is count few = one_shl count 64 (omega (arith, few))

-- a product of two numbers of 64 bits, and a third, fit in 128
pub product_fits : (a b c : ℕ) → a < 18446744073709551616 → b < 18446744073709551616 → c < 18446744073709551616 → a + b * c < 340282366920938463463374607431768211456
product_fits a b c x y z =
    let m : b * c ≤ 18446744073709551615 * 18446744073709551615 = (let v : b ≤ 18446744073709551615 = omega (arith, y) in let w : c ≤ 18446744073709551615 = omega (arith, z) in mul-le-mul v w) in
    omega (arith, m, x)

-- a word after the bits that are held, by a power of two
module _ (count held word scale : ℕ) (small : held < 2 ^ count) (few : count < 32) (same : scale ≡ 2 ^ count) where
  pub next_fits : word < 2 ^ 64 → (next : ℕ) → next ≡ (held + word * scale) / 18446744073709551616 → next < 2 ^ count
  next_fits fits next e =
      let a = above_fits held count word small few fits in
      rw (e, same, ← above_bytes held count word small few) a

  pub next_bits : (row : List ℕ) (next : ℕ) → row ≡ to_le_bytes w64 ((held + word * scale) % 18446744073709551616) → next ≡ (held + word * scale) / 18446744073709551616 →
      digits count held ++ digits 64 word ≡ bits_of row ++ digits count next
  next_bits row next e f =
      let all : (x : ℕ) → x ≡ 2 ^ count → (held + word * x) / 18446744073709551616 ≡ word / 4294967296 / 2 ^ (32 - count) = λ x is. ap (λ y. (held + word * y) / 18446744073709551616) is ∙ sym (above_bytes held count word small few) in
      let low : row ≡ to_le_bytes w64 ((held + word * 2 ^ count % 18446744073709551616) % 18446744073709551616) =
      e ∙ ap (λ x. to_le_bytes w64 ((held + word * x) % 18446744073709551616)) same ∙ ap (to_le_bytes w64) (sym (wrapped_sum held (word * 2 ^ count))) in
      sym (ap (λ x. bits_of row ++ digits count x) (f ∙ all scale same) ∙ put_whole held count word small few [] row low)

-- rows of bytes, one after another
module _ (count : ℕ) where
  row_more : (start words : List ℕ) (rows : List (List ℕ)) (held next word : ℕ) (row : List ℕ) → start ++ words ≡ bits_of (flat_map (λ x. x) rows) ++ digits count held →
      digits count held ++ digits 64 word ≡ bits_of row ++ digits count next → start ++ (words ++ digits 64 word) ≡ bits_of (flat_map (λ x. x) (rows ++ row ∷ [])) ++ digits count next
  row_more start words rows held next word row e f =
      let so_far : List ℕ = flat_map (λ x. x) rows in
      sym (append_assoc start words (digits 64 word))
      ∙ ap (λ xs. xs ++ digits 64 word) e
      ∙ append_assoc (bits_of so_far) (digits count held) (digits 64 word)
      ∙ ap (λ xs. bits_of so_far ++ xs) f
      ∙ sym (append_assoc (bits_of so_far) (bits_of row) (digits count next))
      ∙ ap (λ xs. xs ++ digits count next) (sym (flat_map-append (digits 8) so_far row) ∙ ap bits_of (flat_map_more (λ x. x) [] rows row))

  -- the eight rows of eight words
  pub rows_are : (k0 k1 k2 k3 k4 k5 k6 k7 k8 a b c d e f g h : ℕ) (r0 r1 r2 r3 r4 r5 r6 r7 : List ℕ) →
      digits count k0 ++ digits 64 h ≡ bits_of r0 ++ digits count k1 → digits count k1 ++ digits 64 g ≡ bits_of r1 ++ digits count k2 →
      digits count k2 ++ digits 64 f ≡ bits_of r2 ++ digits count k3 → digits count k3 ++ digits 64 e ≡ bits_of r3 ++ digits count k4 →
      digits count k4 ++ digits 64 d ≡ bits_of r4 ++ digits count k5 → digits count k5 ++ digits 64 c ≡ bits_of r5 ++ digits count k6 →
      digits count k6 ++ digits 64 b ≡ bits_of r6 ++ digits count k7 → digits count k7 ++ digits 64 a ≡ bits_of r7 ++ digits count k8 →
      digits count k0 ++ words_back (a ∷ b ∷ c ∷ d ∷ e ∷ f ∷ g ∷ h ∷ []) ≡ bits_of (flat_map (λ x. x) (r0 ∷ r1 ∷ r2 ∷ r3 ∷ r4 ∷ r5 ∷ r6 ∷ r7 ∷ [])) ++ digits count k8
  rows_are k0 k1 k2 k3 k4 k5 k6 k7 k8 a b c d e f g h r0 r1 r2 r3 r4 r5 r6 r7 j0 j1 j2 j3 j4 j5 j6 j7 =
      let start : List ℕ = digits count k0 in
      let none : start ++ [] ≡ start = append-nil start in
      row_more start (words_back (b ∷ c ∷ d ∷ e ∷ f ∷ g ∷ h ∷ [])) (r0 ∷ r1 ∷ r2 ∷ r3 ∷ r4 ∷ r5 ∷ r6 ∷ []) k7 k8 a r7
      (row_more start (words_back (c ∷ d ∷ e ∷ f ∷ g ∷ h ∷ [])) (r0 ∷ r1 ∷ r2 ∷ r3 ∷ r4 ∷ r5 ∷ []) k6 k7 b r6
      (row_more start (words_back (d ∷ e ∷ f ∷ g ∷ h ∷ [])) (r0 ∷ r1 ∷ r2 ∷ r3 ∷ r4 ∷ []) k5 k6 c r5
      (row_more start (words_back (e ∷ f ∷ g ∷ h ∷ [])) (r0 ∷ r1 ∷ r2 ∷ r3 ∷ []) k4 k5 d r4
      (row_more start (words_back (f ∷ g ∷ h ∷ [])) (r0 ∷ r1 ∷ r2 ∷ []) k3 k4 e r3
      (row_more start (words_back (g ∷ h ∷ [])) (r0 ∷ r1 ∷ []) k2 k3 f r2
      (row_more start (words_back (h ∷ [])) (r0 ∷ []) k1 k2 g r1
      (row_more start [] [] k0 k1 h r0 none j0) j1) j2) j3) j4) j5) j6) j7

-- a list of eight by its elements
pub eight : (xs : List ℕ) → length xs ≡ 8 →
    xs ≡ get_or xs 0 0 ∷ get_or xs 1 0 ∷ get_or xs 2 0 ∷ get_or xs 3 0 ∷ get_or xs 4 0 ∷ get_or xs 5 0 ∷ get_or xs 6 0 ∷ get_or xs 7 0 ∷ []
eight xs n =
    one 0 (omega (arith, n)) ∙ ap (λ (r : List ℕ). get_or xs 0 0 ∷ r)
    (one 1 (omega (arith, n)) ∙ ap (λ (r : List ℕ). get_or xs 1 0 ∷ r)
    (one 2 (omega (arith, n)) ∙ ap (λ (r : List ℕ). get_or xs 2 0 ∷ r)
    (one 3 (omega (arith, n)) ∙ ap (λ (r : List ℕ). get_or xs 3 0 ∷ r)
    (one 4 (omega (arith, n)) ∙ ap (λ (r : List ℕ). get_or xs 4 0 ∷ r)
    (one 5 (omega (arith, n)) ∙ ap (λ (r : List ℕ). get_or xs 5 0 ∷ r)
    (one 6 (omega (arith, n)) ∙ ap (λ (r : List ℕ). get_or xs 6 0 ∷ r)
    (one 7 (omega (arith, n)) ∙ ap (λ (r : List ℕ). get_or xs 7 0 ∷ r)
    (drop_all 8 xs (omega (arith, n))))))))))
  where
    one : (i : ℕ) → i < length xs → drop i xs ≡ get_or xs i 0 ∷ drop (i + 1) xs
    one i lt = drop_more xs i 0 lt

-- the bytes with the rows, and the bits that are held then
pub block_put : (bytes new held words : List ℕ) (rows kept : List ℕ) → new ≡ bytes ++ rows → held ++ words_back words ≡ bits_of rows ++ kept →
    bits_of new ++ kept ≡ (bits_of bytes ++ held) ++ words_back words
block_put bytes new held words rows kept e f =
    ap (λ xs. bits_of xs ++ kept) e
    ∙ ap (λ xs. xs ++ kept) (flat_map-append (digits 8) bytes rows)
    ∙ append_assoc (bits_of bytes) (bits_of rows) kept
    ∙ ap (λ xs. bits_of bytes ++ xs) (sym f)
    ∙ sym (append_assoc (bits_of bytes) held (words_back words))

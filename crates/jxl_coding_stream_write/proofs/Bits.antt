-- Bits that were written from the last to the first.
use Rattle.std.proofs.Common.{◌≡◌, ℕ, ◌+◌, ◌-◌, ◌*◌, ◌/◌, ◌%◌, ◌^◌, ◌<◌, ◌≤◌, zero, suc, List, [], ◌∷◌, ◌++◌, length, get_or, take, drop, sym, ap, ◌∙◌, arith, append_assoc}
use Rattle.std.proofs.lemmas.List.{append-nil, drop_more, drop_all, length-drop, take_all, take-append-drop}
use Rattle.std.proofs.Math.Seq.{take-add}
use Rattle.std.specs.List.{flat_map}
use Rattle.std.specs.Int.{rotate_right, w64}
use Rattle.std.specs.Int.Bits.{bit_or, or_zero_l}
use Rattle.std.specs.Simd.{first_chunks}
use Rattle.std.proofs.lemmas.Nat.{pow_pos, pow-add, shr_high, field_of, mod_below, mod-pow-add, or_shr, shl-shr, shr-shr, div-add-mod'}
use Rattle.std.proofs.Math.Nat.{add-mul, mul_assoc, mul_comm, suc-mul, zero-mul}
use Rattle.jxlm_bit_writer.specs.Written.{digits, words_back}
use Rattle.jxlm_bit_writer.proofs.BitLists.{digits_low}
use Rattle.jxlm_bit_writer.proofs.HeldBits.{digits_split, digits_mod}

-- the low digits of a number are those of its remainder
pub digits_wrapped : (k m x : ℕ) → k ≤ m → digits k (x % 2 ^ m) ≡ digits k x
digits_wrapped k m x le =
    let e : m ≡ k + (m - k) = omega (arith, le) in
    let p : 2 ^ m ≡ 2 ^ (m - k) * 2 ^ k = ap (λ n. 2 ^ n) e ∙ pow-add 2 k (m - k) ∙ mul_comm (2 ^ k) (2 ^ (m - k)) in
    let q : x / 2 ^ m * 2 ^ m ≡ x / 2 ^ m * 2 ^ (m - k) * 2 ^ k = ap (λ n. x / 2 ^ m * n) p ∙ sym (mul_assoc (x / 2 ^ m) (2 ^ (m - k)) (2 ^ k)) in
    let whole : x ≡ x % 2 ^ m + x / 2 ^ m * 2 ^ (m - k) * 2 ^ k = let d = div-add-mod' x (2 ^ m) in omega (arith, d, q) in
    sym (ap (digits k) whole ∙ digits_low k (x % 2 ^ m) (x / 2 ^ m * 2 ^ (m - k)))

-- a piece below the digits of a number
module _ (value count n piece : ℕ) (fits : piece < 2 ^ n) where
  sum_digits : digits (count + n) (value * 2 ^ n + piece) ≡ digits n piece ++ digits count value
  sum_digits =
      let e : count + n ≡ n + count = omega arith in
      let turned : value * 2 ^ n + piece ≡ piece + value * 2 ^ n = omega arith in
      ap (λ k. digits k (value * 2 ^ n + piece)) e
      ∙ digits_split n count (value * 2 ^ n + piece)
      ∙ ap (λ x. digits n x ++ digits count ((value * 2 ^ n + piece) / 2 ^ n)) turned
      ∙ ap (λ xs. xs ++ digits count ((value * 2 ^ n + piece) / 2 ^ n)) (digits_low n piece value)
      ∙ ap (λ x. digits n piece ++ digits count x) (shr_high value n piece fits)

  -- in 64 bits, before words
  pub held_before : (sum : ℕ) (words : List ℕ) → count + n ≤ 64 → sum % 18446744073709551616 ≡ (value * 2 ^ n + piece) % 18446744073709551616 →
      digits (count + n) sum ++ words_back words ≡ digits n piece ++ (digits count value ++ words_back words)
  held_before sum words le same =
      ap (λ xs. xs ++ words_back words)
      (sym (digits_wrapped (count + n) 64 sum le) ∙ ap (digits (count + n)) same ∙ digits_wrapped (count + n) 64 (value * 2 ^ n + piece) le ∙ sum_digits)
      ∙ append_assoc (digits n piece) (digits count value) (words_back words)

-- the lowest bits of a number after the last 16 of a state
pub after_state : (width token state : ℕ) →
    digits (width + 16) ((token * 65536 + state % 65536) % 2 ^ (width + 16)) ≡ digits 16 (state % 65536) ++ digits width (token % 2 ^ width)
after_state width token state =
    digits_mod (width + 16) (token * 65536 + state % 65536)
    ∙ sum_digits token width 16 (state % 65536) (omega arith)
    ∙ ap (λ xs. digits 16 (state % 65536) ++ xs) (sym (digits_mod width token))

-- a sum in 64 bits
sum_wrapped : (x piece : ℕ) → (x % 18446744073709551616 + piece) % 18446744073709551616 % 18446744073709551616 ≡ (x + piece) % 18446744073709551616
sum_wrapped x piece = omega arith

-- a number that is rotated has its lowest bits highest
pub rotated_high : (number n : ℕ) → number < 2 ^ 64 → n < 64 → rotate_right w64 number n / 2 ^ (64 - n) ≡ number % 2 ^ n
rotated_high number zero small narrow =
    let low : number / 2 ^ 0 / 2 ^ 64 ≡ 0 = omega (arith, small) in
    let high : number * 2 ^ 0 % 2 ^ 64 / 2 ^ 64 ≡ number % 2 ^ 0 = omega (arith, small) in
    or_shr (number / 2 ^ 0) (number * 2 ^ 0 % 2 ^ 64) 64
    ∙ ap (λ x. bit_or x (number * 2 ^ 0 % 2 ^ 64 / 2 ^ 64)) low
    ∙ or_zero_l (number * 2 ^ 0 % 2 ^ 64 / 2 ^ 64)
    ∙ high
rotated_high number (suc m) small narrow =
    let n : ℕ = suc m in
    let by : n % 64 ≡ n = omega (arith, narrow) in
    let up : (64 - n % 64) % 64 ≡ 64 - n = omega (arith, narrow) in
    let all : n + (64 - n) ≡ 64 = omega (arith, narrow) in
    let low : number / 2 ^ (n % 64) / 2 ^ (64 - n) ≡ 0 =
    ap (λ k. number / 2 ^ k / 2 ^ (64 - n)) by ∙ shr-shr number n (64 - n) ∙ ap (λ k. number / 2 ^ k) all ∙ above_all number small in
    let high : number * 2 ^ ((64 - n % 64) % 64) % 2 ^ 64 / 2 ^ (64 - n) ≡ number % 2 ^ n =
    ap (λ k. number * 2 ^ k % 2 ^ 64 / 2 ^ (64 - n)) up ∙ ap (λ k. number * 2 ^ (64 - n) % 2 ^ k / 2 ^ (64 - n)) (sym all)
    ∙ field_of (number * 2 ^ (64 - n)) n (64 - n) ∙ ap (λ x. x % 2 ^ n) (shl-shr number (64 - n)) in
    or_shr (number / 2 ^ (n % 64)) (number * 2 ^ ((64 - n % 64) % 64) % 2 ^ 64) (64 - n)
    ∙ ap (λ x. bit_or x (number * 2 ^ ((64 - n % 64) % 64) % 2 ^ 64 / 2 ^ (64 - n))) low
    ∙ or_zero_l (number * 2 ^ ((64 - n % 64) % 64) % 2 ^ 64 / 2 ^ (64 - n))
    ∙ high
  where
    above_all : (x : ℕ) → x < 2 ^ 64 → x / 2 ^ 64 ≡ 0
    above_all x lt = omega (arith, lt)

-- the lowest bits of a number below others, as the machine computes them
pub low_same : (value n number : ℕ) → number < 2 ^ 64 → n < 64 → (by piece : ℕ) → by ≡ n → piece ≡ rotate_right w64 number n →
    (value * 2 ^ by % 18446744073709551616 + piece / 2 ^ 1 / 2 ^ (63 - by)) % 18446744073709551616 % 18446744073709551616 ≡ (value * 2 ^ n + number % 2 ^ n) % 18446744073709551616
low_same value n number small narrow by piece e is =
    let moved : 1 + (63 - by) ≡ 64 - n = omega (arith, e, narrow) in
    let high : piece / 2 ^ 1 / 2 ^ (63 - by) ≡ number % 2 ^ n = shr-shr piece 1 (63 - by) ∙ ap (λ k. piece / 2 ^ k) moved ∙ ap (λ x. x / 2 ^ (64 - n)) is ∙ rotated_high number n small narrow in
    ap (λ x. (value * 2 ^ by % 18446744073709551616 + x) % 18446744073709551616 % 18446744073709551616) high
    ∙ ap (λ k. (value * 2 ^ k % 18446744073709551616 + number % 2 ^ n) % 18446744073709551616 % 18446744073709551616) e
    ∙ sum_wrapped (value * 2 ^ n) (number % 2 ^ n)

-- the words with one more
words_and_one : (words : List ℕ) (word : ℕ) → words_back (words ++ word ∷ []) ≡ digits 64 word ++ words_back words
words_and_one [] word = sym (append-nil (digits 64 word))
words_and_one (x ∷ words) word = ap (λ (xs : List ℕ). xs ++ digits 64 x) (words_and_one words word) ∙ append_assoc (digits 64 word) (words_back words) (digits 64 x)

-- if the lowest n bits of a number come before others, the last 64 of them all are a word
module _ (value count n number : ℕ) (small : number < 2 ^ 64) (few : count < 64) (full : 64 ≤ count + n) where
  abbrev rest : ℕ
  rest = count + n - 64

  abbrev last : ℕ
  last = 64 - count

  abbrev high : ℕ
  high = value * 2 ^ last + number / 2 ^ rest % 2 ^ last

  two_parts : value * 2 ^ n + number % 2 ^ n ≡ high * 2 ^ rest + number % 2 ^ rest
  two_parts =
      let e : n ≡ last + rest = omega (arith, few, full) in
      let p : 2 ^ n ≡ 2 ^ last * 2 ^ rest = ap (λ k. 2 ^ k) e ∙ pow-add 2 last rest in
      let a : value * 2 ^ n ≡ value * 2 ^ last * 2 ^ rest = ap (λ x. value * x) p ∙ sym (mul_assoc value (2 ^ last) (2 ^ rest)) in
      let b : number % 2 ^ n ≡ number / 2 ^ rest % 2 ^ last * 2 ^ rest + number % 2 ^ rest = ap (λ k. number % 2 ^ k) e ∙ mod-pow-add number last rest in
      let d : high * 2 ^ rest ≡ value * 2 ^ last * 2 ^ rest + number / 2 ^ rest % 2 ^ last * 2 ^ rest = add-mul (value * 2 ^ last) (number / 2 ^ rest % 2 ^ last) (2 ^ rest) in
      omega (arith, a, b, d)

  halves : digits n (number % 2 ^ n) ++ digits count value ≡ digits rest number ++ digits 64 high
  halves =
      let e : count + n ≡ 64 + rest = omega (arith, full) in
      sym (sum_digits value count n (number % 2 ^ n) (mod_below number (2 ^ n) (pow_pos n)))
      ∙ ap (digits (count + n)) two_parts
      ∙ ap (λ k. digits k (high * 2 ^ rest + number % 2 ^ rest)) e
      ∙ sum_digits high 64 rest (number % 2 ^ rest) (mod_below number (2 ^ rest) (pow_pos rest))
      ∙ ap (λ xs. xs ++ digits 64 high) (digits_mod rest number)

  -- the word, as the machine computes it
  pub word_same : n < 64 → (upper piece : ℕ) → upper ≡ last → piece ≡ rotate_right w64 number n →
      (value * 2 ^ upper % 18446744073709551616 + piece / 2 ^ (64 - upper)) % 18446744073709551616 % 18446744073709551616 ≡ high % 18446744073709551616
  word_same narrow upper piece e is =
      let moved : 64 - upper ≡ 64 - n + rest = omega (arith, e, few, full, narrow) in
      let wide : n ≡ last + rest = omega (arith, few, full) in
      let field : piece / 2 ^ (64 - upper) ≡ number / 2 ^ rest % 2 ^ last =
      ap (λ k. piece / 2 ^ k) moved ∙ sym (shr-shr piece (64 - n) rest) ∙ ap (λ x. x / 2 ^ (64 - n) / 2 ^ rest) is ∙ ap (λ x. x / 2 ^ rest) (rotated_high number n small narrow)
      ∙ ap (λ k. number % 2 ^ k / 2 ^ rest) wide ∙ field_of number last rest in
      ap (λ x. (value * 2 ^ upper % 18446744073709551616 + x) % 18446744073709551616 % 18446744073709551616) field
      ∙ ap (λ k. (value * 2 ^ k % 18446744073709551616 + number / 2 ^ rest % 2 ^ last) % 18446744073709551616 % 18446744073709551616) e
      ∙ sum_wrapped (value * 2 ^ last) (number / 2 ^ rest % 2 ^ last)

  pub word_kept : (word kept : ℕ) (words new : List ℕ) → word % 18446744073709551616 ≡ high % 18446744073709551616 → kept ≡ number → new ≡ words ++ word ∷ [] →
      digits rest kept ++ words_back new ≡ digits n (number % 2 ^ n) ++ (digits count value ++ words_back words)
  word_kept word kept words new same k e =
      ap (λ x. digits rest x ++ words_back new) k
      ∙ ap (λ xs. digits rest number ++ words_back xs) e
      ∙ ap (λ xs. digits rest number ++ xs) (words_and_one words word ∙ ap (λ xs. xs ++ words_back words) (sym (digits_mod 64 word) ∙ ap (digits 64) same ∙ digits_mod 64 high))
      ∙ sym (append_assoc (digits rest number) (digits 64 high) (words_back words))
      ∙ ap (λ xs. xs ++ words_back words) (sym halves)
      ∙ append_assoc (digits n (number % 2 ^ n)) (digits count value) (words_back words)

  -- the same where the code computes the number of bits otherwise
  pub word_kept_by : (r word kept : ℕ) (words new : List ℕ) → r ≡ rest → word % 18446744073709551616 ≡ high % 18446744073709551616 → kept ≡ number → new ≡ words ++ word ∷ [] →
      digits r kept ++ words_back new ≡ digits n (number % 2 ^ n) ++ (digits count value ++ words_back words)
  word_kept_by r word kept words new is_rest same k e = ap (λ m. digits m kept ++ words_back new) is_rest ∙ word_kept word kept words new same k e

-- a piece of no bits
pub none_before : (n piece : ℕ) (bits : List ℕ) → n ≡ 0 → bits ≡ digits n piece ++ bits
none_before n piece bits e = sym (ap (λ k. digits k piece ++ bits) e)

-- the words from one on
words_one_more : (words : List ℕ) (k : ℕ) → k < length words → words_back (drop k words) ≡ words_back (drop (k + 1) words) ++ digits 64 (get_or words k 0)
words_one_more words k lt = ap words_back (drop_more words k 0 lt)

-- words from the end on
pub put_none : (start words : List ℕ) → start ≡ start ++ words_back (drop (length words - 0) words)
put_none start words = sym (ap (λ (xs : List ℕ). start ++ words_back xs) (drop_all (length words - 0) words (omega arith)) ∙ append-nil start)

pub put_more : (start a b words : List ℕ) (i : ℕ) → i < length words → a ≡ start ++ words_back (drop (length words - i) words) →
    b ≡ a ++ digits 64 (get_or words (length words - 1 - i) 0) → b ≡ start ++ words_back (drop (length words - (i + 1)) words)
put_more start a b words i lt so_far more =
    let word : ℕ = get_or words (length words - 1 - i) 0 in
    let k : length words - 1 - i + 1 ≡ length words - i = omega (arith, lt) in
    let m : length words - 1 - i ≡ length words - (i + 1) = omega arith in
    let e : words_back (drop (length words - (i + 1)) words) ≡ words_back (drop (length words - i) words) ++ digits 64 word =
    ap (λ (n : ℕ). words_back (drop n words)) (sym m) ∙ words_one_more words (length words - 1 - i) (omega (arith, lt)) ∙ ap (λ (n : ℕ). words_back (drop n words) ++ digits 64 word) k in
    more ∙ ap (λ (xs : List ℕ). xs ++ digits 64 word) so_far ∙ append_assoc start (words_back (drop (length words - i) words)) (digits 64 word)
    ∙ ap (λ (xs : List ℕ). start ++ xs) (sym e)

pub put_all : (start a words : List ℕ) (i : ℕ) → length words ≤ i → a ≡ start ++ words_back (drop (length words - i) words) → a ≡ start ++ words_back words
put_all start a words i le e = let z : length words - i ≡ 0 = omega (arith, le) in e ∙ ap (λ (n : ℕ). start ++ words_back (drop n words)) z

-- the words of two lists
words_both : (xs ys : List ℕ) → words_back (xs ++ ys) ≡ words_back ys ++ words_back xs
words_both [] ys = sym (append-nil (words_back ys))
words_both (x ∷ xs) ys = ap (λ (zs : List ℕ). zs ++ digits 64 x) (words_both xs ys) ∙ append_assoc (words_back ys) (words_back xs) (digits 64 x)

-- the words of blocks
abbrev in_blocks : List (List ℕ) → List ℕ
in_blocks blocks = words_back (flat_map (λ x. x) blocks)

-- blocks of words from the end on
pub blocks_none : (start : List ℕ) (blocks : List (List ℕ)) → start ≡ start ++ in_blocks (drop (length blocks - 0) blocks)
blocks_none start blocks = sym (ap (λ (xs : List (List ℕ)). start ++ in_blocks xs) (drop_all (length blocks - 0) blocks (omega arith)) ∙ append-nil start)

pub blocks_more : (start a b : List ℕ) (blocks : List (List ℕ)) (i : ℕ) → i < length blocks → a ≡ start ++ in_blocks (drop (length blocks - i) blocks) →
    b ≡ a ++ words_back (get_or blocks (length blocks - 1 - i) []) → b ≡ start ++ in_blocks (drop (length blocks - (i + 1)) blocks)
blocks_more start a b blocks i lt so_far more =
    let k : ℕ = length blocks - 1 - i in
    let block : List ℕ = get_or blocks k [] in
    let next : k + 1 ≡ length blocks - i = omega (arith, lt) in
    let same : k ≡ length blocks - (i + 1) = omega arith in
    let first : drop k blocks ≡ block ∷ drop (k + 1) blocks = drop_more blocks k [] (omega (arith, lt)) in
    let e : in_blocks (drop (length blocks - (i + 1)) blocks) ≡ in_blocks (drop (length blocks - i) blocks) ++ words_back block =
    ap (λ (n : ℕ). in_blocks (drop n blocks)) (sym same) ∙ ap in_blocks first ∙ words_both block (flat_map (λ x. x) (drop (k + 1) blocks))
    ∙ ap (λ (n : ℕ). in_blocks (drop n blocks) ++ words_back block) next in
    more ∙ ap (λ (xs : List ℕ). xs ++ words_back block) so_far ∙ append_assoc start (in_blocks (drop (length blocks - i) blocks)) (words_back block)
    ∙ ap (λ (xs : List ℕ). start ++ xs) (sym e)

pub blocks_all : (start a : List ℕ) (blocks : List (List ℕ)) (i : ℕ) → length blocks ≤ i → a ≡ start ++ in_blocks (drop (length blocks - i) blocks) → a ≡ start ++ in_blocks blocks
blocks_all start a blocks i le e = let z : length blocks - i ≡ 0 = omega (arith, le) in e ∙ ap (λ (n : ℕ). start ++ in_blocks (drop n blocks)) z

-- the first chunks of a list, joined
chunks_joined : (n k : ℕ) (xs : List ℕ) → flat_map (λ x. x) (first_chunks n k xs) ≡ take (k * n) xs
chunks_joined n zero xs = ap (λ (m : ℕ). take m xs) (sym (zero-mul n))
chunks_joined n (suc k) xs =
    let m : suc k * n ≡ k * n + n = suc-mul k n in
    let e : n + k * n ≡ suc k * n = omega (arith, m) in
    ap (λ ys. take n xs ++ ys) (chunks_joined n k (drop n xs)) ∙ sym (take-add n (k * n) xs) ∙ ap (λ m. take m xs) e

-- a list is its first elements, fewer than eight, and blocks of eight
whole_blocks : (xs : List ℕ) → take (length xs % 8) xs ++ flat_map (λ x. x) (first_chunks 8 (length xs / 8) (drop (length xs % 8) xs)) ≡ xs
whole_blocks xs =
    let l : length (drop (length xs % 8) xs) ≡ length xs - length xs % 8 = length-drop (length xs % 8) xs in
    ap (λ ys. take (length xs % 8) xs ++ ys) (chunks_joined 8 (length xs / 8) (drop (length xs % 8) xs) ∙ take_all (length xs / 8 * 8) (drop (length xs % 8) xs) (omega (arith, l)))
    ∙ take-append-drop (length xs % 8) xs

pub blocks_put : (start a b first words : List ℕ) (blocks : List (List ℕ)) → first ≡ take (length words % 8) words → blocks ≡ first_chunks 8 (length words / 8) (drop (length words % 8) words) →
    a ≡ start ++ in_blocks blocks → b ≡ a ++ words_back first → b ≡ start ++ words_back words
blocks_put start a b first words blocks is_first are_blocks e f =
    f ∙ ap (λ (xs : List ℕ). xs ++ words_back first) e ∙ append_assoc start (in_blocks blocks) (words_back first)
    ∙ ap (λ (xs : List ℕ). start ++ xs) (sym (words_both first (flat_map (λ x. x) blocks)))
    ∙ ap (λ (xs : List ℕ). start ++ words_back (xs ++ flat_map (λ x. x) blocks)) is_first
    ∙ ap (λ (bs : List (List ℕ)). start ++ words_back (take (length words % 8) words ++ flat_map (λ x. x) bs)) are_blocks
    ∙ ap (λ (xs : List ℕ). start ++ words_back xs) (whole_blocks words)

-- two additions are one
pub joined : (a b d first rest : List ℕ) → b ≡ a ++ first → d ≡ b ++ rest → d ≡ a ++ (first ++ rest)
joined a b d first rest e f = f ∙ ap (λ (xs : List ℕ). xs ++ rest) e ∙ append_assoc a first rest

-- the digits of a number in two additions
pub put_both : (start a b : List ℕ) (count value : ℕ) → 32 < count → a ≡ start ++ digits 32 (value % 4294967296) → b ≡ a ++ digits (count - 32) (value / 4294967296 % 4294967296) → count < 64 → b ≡ start ++ digits count value
put_both start a b count value full e f few =
    let all : 32 + (count - 32) ≡ count = omega (arith, full) in
    joined start a b (digits 32 (value % 4294967296)) (digits (count - 32) (value / 4294967296 % 4294967296)) e f
    ∙ ap (λ xs. start ++ (xs ++ digits (count - 32) (value / 4294967296 % 4294967296))) (digits_mod 32 value)
    ∙ ap (λ xs. start ++ (digits 32 value ++ xs)) (digits_wrapped (count - 32) 32 (value / 4294967296) (omega (arith, few)))
    ∙ ap (λ xs. start ++ xs) (sym (digits_split 32 (count - 32) value) ∙ ap (λ k. digits k value) all)

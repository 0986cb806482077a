-- Bytes are one where the same bits fill them.
use Rattle.std.proofs.Common.{◌≡◌, ℕ, zero, suc, ◌+◌, ◌*◌, ◌/◌, ◌%◌, ◌^◌, ◌<◌, List, [], ◌∷◌, ◌++◌, length, replicate, refl, sym, ap, ◌∙◌, subst, arith}
use Rattle.std.specs.List.{All}
use Rattle.std.proofs.lemmas.List.{length-append, length-replicate}
use Rattle.std.proofs.lemmas.List.Elements.{All-head, All-tail}
use Rattle.std.proofs.lemmas.Nat.{div-add-mod', pow_pos}
use Rattle.std.proofs.Math.Nat.{pow-suc, mod-lt}
use Rattle.jxlm_transform.specs.Transforms.{Transform}
use Rattle.jxlm_encode_write.specs.Headers.{header_bits}
use Rattle.jxlm_encode_write.specs.Nodes.{tree_tokens}
use Rattle.jxlm_encode_write.specs.Tokens.{token_bits}
use Rattle.jxlm_encode_write.specs.Trees.{tree_bits}
use Rattle.jxlm_bit_writer.specs.Written.{AreFilled, bits_of, digits}
use Rattle.jxlm_encode_write.specs.declared.tree.EncodeNode.{EncodeNode}
use Rattle.jxlm_bit_writer.proofs.BitLists.{digits_low, length-bits, length-digits}
use Rattle.jxlm_encode.specs.Bytes.{AreWritten, AreWritten2, IsLeastWidth}
use Rattle.jxlm_encode.specs.Laws.{IsByte}

-- two lists joined, the first ones of one length
pub same_front : {X : Type 0} (xs ys us vs : List X) → length xs ≡ length ys → xs ++ us ≡ ys ++ vs → (xs ≡ ys) × (us ≡ vs)
same_front [] [] us vs l e = (refl, e)
same_front [] (y ∷ ys) us vs l e = absurd (omega (arith, l))
same_front (x ∷ xs) [] us vs l e = absurd (omega (arith, l))
same_front (x ∷ xs) (y ∷ ys) us vs l e =
    let first : x ≡ y = cc in
    let others : xs ++ us ≡ ys ++ vs = cc in
    let rest = same_front xs ys us vs (omega (arith, l)) others in
    (cc (first, rest.0), rest.1)

low_part : (n v : ℕ) → digits n (v % 2 ^ n) ≡ digits n v
low_part n v =
    let whole : v % 2 ^ n + v / 2 ^ n * 2 ^ n ≡ v = (let parts = div-add-mod' v (2 ^ n) in omega (arith, parts)) in
    sym (digits_low n (v % 2 ^ n) (v / 2 ^ n)) ∙ ap (digits n) whole

-- a number below 2 ^ n is that of its n digits
digits_one : (n v w : ℕ) → v < 2 ^ n → w < 2 ^ n → digits n v ≡ digits n w → v ≡ w
digits_one zero v w a b e = omega (arith, a, b)
digits_one (suc n) v w a b e =
    let long : length (digits n v) ≡ length (digits n w) = length-digits n v ∙ sym (length-digits n w) in
    let parts = same_front (digits n v) (digits n w) (v / 2 ^ n % 2 ∷ []) (w / 2 ^ n % 2 ∷ []) long e in
    let high : v / 2 ^ n % 2 ≡ w / 2 ^ n % 2 = (let last = parts.1 in cc) in
    let vs = mod-lt v (pow_pos n) in
    let ws = mod-lt w (pow_pos n) in
    let low : v % 2 ^ n ≡ w % 2 ^ n = digits_one n (v % 2 ^ n) (w % 2 ^ n) vs ws (low_part n v ∙ parts.0 ∙ sym (low_part n w)) in
    let v_parts = div-add-mod' v (2 ^ n) in
    let w_parts = div-add-mod' w (2 ^ n) in
    let double : 2 ^ suc n ≡ 2 ^ n * 2 = pow-suc 2 n in
    let v_high : v / 2 ^ n < 2 = below (2 ^ n) v (v / 2 ^ n) (v % 2 ^ n) v_parts (subst (λ m. v < m) double a) in
    let w_high : w / 2 ^ n < 2 = below (2 ^ n) w (w / 2 ^ n) (w % 2 ^ n) w_parts (subst (λ m. w < m) double b) in
    let same : v / 2 ^ n ≡ w / 2 ^ n = omega (arith, high, v_high, w_high) in
    sym v_parts ∙ ap (λ q. q * 2 ^ n + v % 2 ^ n) same ∙ ap (λ r. w / 2 ^ n * 2 ^ n + r) low ∙ w_parts where
      below : (m x q r : ℕ) → q * m + r ≡ x → x < m * 2 → q < 2
      below m x zero r e h = omega arith
      below m x (suc zero) r e h = omega arith
      below m x (suc (suc q)) r e h = absurd (let more : suc (suc q) * m ≡ q * m + m * 2 = grind arith in omega (arith, e, h, more))

-- bytes are those of their bits
bits_one : (xs ys : List ℕ) → All IsByte xs → All IsByte ys → bits_of xs ≡ bits_of ys → xs ≡ ys
bits_one [] [] a b e = refl
bits_one [] (y ∷ ys) a b e = absurd (let l = ap length e in let m = length-bits (y ∷ ys) in let n = length-bits [] in omega (arith, l, m, n))
bits_one (x ∷ xs) [] a b e = absurd (let l = ap length e in let m = length-bits (x ∷ xs) in let n = length-bits [] in omega (arith, l, m, n))
bits_one (x ∷ xs) (y ∷ ys) a b e =
    let parts = same_front (digits 8 x) (digits 8 y) (bits_of xs) (bits_of ys) (length-digits 8 x ∙ sym (length-digits 8 y)) e in
    let first : x ≡ y = digits_one 8 x y (All-head IsByte x xs a) (All-head IsByte y ys b) parts.0 in
    let rest : xs ≡ ys = bits_one xs ys (All-tail IsByte x xs a) (All-tail IsByte y ys b) parts.1 in
    ap (λ z. z ∷ xs) first ∙ ap (λ zs. y ∷ zs) rest

-- bytes that the same bits fill
pub filled_one : (xs ys bits : List ℕ) → All IsByte xs → All IsByte ys → AreFilled xs bits → AreFilled ys bits → xs ≡ ys
filled_one xs ys bits a b f g =
    let lx = length-append bits (replicate f.zeros 0) in
    let ly = length-append bits (replicate g.zeros 0) in
    let mx = ap length f.filled in
    let my = ap length g.filled in
    let nx = length-bits xs in
    let ny = length-bits ys in
    let rx = length-replicate {A = ℕ} f.zeros 0 in
    let ry = length-replicate {A = ℕ} g.zeros 0 in
    let few = f.few in
    let less = g.few in
    let zeros : f.zeros ≡ g.zeros = omega (arith, lx, ly, mx, my, nx, ny, rx, ry, few, less) in
    bits_one xs ys a b (f.filled ∙ ap (λ n. bits ++ replicate n 0) zeros ∙ sym g.filled)

least_one : (tokens : List ℕ) (m n : ℕ) → IsLeastWidth tokens m → IsLeastWidth tokens n → m ≡ n
least_one tokens m n h k = let le = h.least n k.fits in let ge = k.least m h.fits in omega (arith, le, ge)

module _ (ts : List Transform) (nodes : List EncodeNode) (tokens xs ys : List ℕ) (a : All IsByte xs) (b : All IsByte ys) where
  -- what is written for one list of tokens
  pub written_one : AreWritten ts nodes tokens xs → AreWritten ts nodes tokens ys → xs ≡ ys
  written_one h k =
      let bits : ℕ → ℕ → List ℕ = λ own width. header_bits ts ++ (tree_bits nodes own width ++ token_bits width tokens) in
      let own : h.own ≡ k.own = least_one (tree_tokens nodes) h.own k.own h.own_least k.own_least in
      let width : h.width ≡ k.width = least_one tokens h.width k.width h.least k.least in
      filled_one xs ys (bits h.own h.width) a b h.filled (subst (λ n. AreFilled ys (bits h.own n)) (sym width) (subst (λ n. AreFilled ys (bits n k.width)) (sym own) k.filled))

  pub written_one2 : AreWritten2 ts nodes tokens xs → AreWritten2 ts nodes tokens ys → xs ≡ ys
  written_one2 h k = filled_one xs ys _ a b h k

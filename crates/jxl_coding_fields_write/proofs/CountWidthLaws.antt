-- The widths of counts, one after another.
use Rattle.std.proofs.Common.{◌≡◌, ℕ, zero, suc, ◌+◌, ◌*◌, ◌^◌, ◌<◌, ◌≤◌, List, [], ◌∷◌, ◌++◌, length, take, get_or, slice_index, map, max, Bool, true, false, cond, refl, sym, ap, ◌∙◌, subst, inl, inr, arith, append_assoc}
use Rattle.std.specs.Prelude.{nat_le}
use Rattle.std.specs.List.{fold, sum, All}
use Rattle.std.proofs.lemmas.Bool.{cases_lt, leb-true, leb-false}
use Rattle.std.proofs.lemmas.List.{append-nil, length_push, length-map, length-take-le, get_or_append_left, get_or_push, take_all, get_or_past}
use Rattle.std.proofs.lemmas.List.Sums.{fold_more, sum_by_more}
use Rattle.std.proofs.lemmas.Nat.{leading_length}
use Rattle.std.proofs.Math.Nat.{pow-le-pow_right}
use lib.Count.{count_leading_zeros}
use Rattle.jxl_coding_codes.specs.Distributions.{Widths, no_widths}
use Rattle.jxl_coding_fields_write.specs.CountWidths.{digit_count, count_widths, with_width}

-- the digits of a count
pub record Wide (c w : ℕ) : Type 0 where
  pub below : c < 2 ^ w
  pub least : 2 ^ w ≤ 2 * c + 1

pub wide : (c : ℕ) → c < 2 ^ 32 → Wide c (digit_count c)
wide c fits =
    let t = leading_length 32 c fits in
    let m : t.0 ≡ digit_count c = (let k = t.1 in omega (arith, k)) in
    record { below = subst (λ (n : ℕ). c < 2 ^ n) m t.2; least = subst (λ (n : ℕ). 2 ^ n ≤ 2 * c + 1) m t.3 }

grows : (a b : ℕ) → a ≤ b → 2 ^ a ≤ 2 ^ b
grows a b le = pow-le-pow_right {n = 2} (omega arith) le

pub zero_width : digit_count 0 ≡ 0
unfolding count_leading_zeros
zero_width = refl

pub one_digit_count : digit_count 1 ≡ 1
unfolding count_leading_zeros
one_digit_count = refl

pub width_few : (c : ℕ) → c < 4096 → digit_count c ≤ 12
width_few c small =
    let h = wide c (omega (arith, small)) in
    elim (cases_lt 12 (digit_count c)) [
      | inl lt ↦
          let up : 2 ^ 13 ≤ 2 ^ digit_count c = grows 13 (digit_count c) (omega (arith, lt)) in
          let l = h.least in
          absurd (omega (arith, up, l, small))
      | inr le ↦ le
    ]

-- a count that occurs has digits
pub some_digits : (c : ℕ) → c < 4096 → digit_count c ≡ 0 → c ≡ 0
some_digits c small e =
    let h = wide c (omega (arith, small)) in
    let b : c < 2 ^ 0 = subst (λ (n : ℕ). c < 2 ^ n) e h.below in
    omega (arith, b)

-- one more
pub count_widths_next : (counts : List ℕ) (i : ℕ) → i < length counts → count_widths (take (i + 1) counts) ≡ with_width (count_widths (take i counts)) (slice_index counts i)
count_widths_next counts i lt = fold_more with_width no_widths counts i 0 lt

widths_of : (s : Widths) (counts : List ℕ) → (fold with_width s counts).widths ≡ s.widths ++ map digit_count counts
widths_of s [] = sym (append-nil s.widths)
widths_of s (c ∷ counts) = widths_of (with_width s c) counts ∙ append_assoc s.widths (digit_count c ∷ []) (map digit_count counts)

pub widths_are : (counts : List ℕ) → (count_widths counts).widths ≡ map digit_count counts
widths_are counts = widths_of no_widths counts

pub count_widths_many : (counts : List ℕ) → length (count_widths counts).widths ≡ length counts
count_widths_many counts = ap length (widths_are counts) ∙ length-map counts digit_count

pub taken_many : (counts : List ℕ) (i : ℕ) → i ≤ length counts → length (count_widths (take i counts)).widths ≡ i
taken_many counts i le = count_widths_many (take i counts) ∙ length-take-le i counts le

map_at : (counts : List ℕ) (k : ℕ) → k < length counts → get_or (map digit_count counts) k 0 ≡ digit_count (get_or counts k 0)
map_at [] k lt = absurd (omega (arith, lt))
map_at (c ∷ counts) zero lt = refl
map_at (c ∷ counts) (suc k) lt = map_at counts k (omega (arith, lt))

pub width_at : (counts : List ℕ) (k : ℕ) → k < length counts → slice_index (count_widths counts).widths k ≡ digit_count (slice_index counts k)
width_at counts k lt = ap (λ (xs : List ℕ). slice_index xs k) (widths_are counts) ∙ map_at counts k lt

-- past the last count there is no width
pub width_past : (counts : List ℕ) (k : ℕ) → length counts ≤ k → slice_index (count_widths counts).widths k ≡ 0
width_past counts k le = get_or_past (count_widths counts).widths k 0 (let m = count_widths_many counts in omega (arith, m, le))

-- the widest is one of them, and none is wider
pub record IsTop (s : Widths) : Type 0 where
  pub top : (k : ℕ) → k < length s.widths → slice_index s.widths k < s.most
  pub there : 0 < length s.widths → (s.widest < length s.widths) × (slice_index s.widths s.widest + 1 ≡ s.most)
  pub none : length s.widths ≡ 0 → s.most ≡ 0

top_more : (s : Widths) (w : ℕ) (t : Bool) → nat_le s.most w ≡ t → IsTop s → IsTop (record { widths = s.widths ++ w ∷ []; most = max s.most (w + 1); widest = cond t (length s.widths) s.widest })
top_more s w true e h =
    let le : s.most ≤ w = leb-true s.most w e in
    let l = length_push s.widths w in
    record {
      top = λ k lt. elim (cases_lt k (length s.widths)) [
        | inl below ↦ let x = h.top k below in let g : slice_index (s.widths ++ w ∷ []) k ≡ slice_index s.widths k = get_or_append_left s.widths (w ∷ []) 0 k below in omega (arith, x, g)
        | inr above ↦ let g : slice_index (s.widths ++ w ∷ []) k ≡ w = get_or_push s.widths w 0 k (omega (arith, above, lt, l)) in omega (arith, g)
      ];
      there = λ some. (omega (arith, l), let g : slice_index (s.widths ++ w ∷ []) (length s.widths) ≡ w = get_or_push s.widths w 0 (length s.widths) refl in omega (arith, g, le));
      none = λ z. absurd (omega (arith, l, z));
    }
top_more s w false e h =
    let lt : w < s.most = leb-false s.most w e in
    let l = length_push s.widths w in
    let some : 0 < length s.widths = positive (length s.widths) refl lt in
    let t = h.there some in
    record {
      top = λ k less. elim (cases_lt k (length s.widths)) [
        | inl below ↦ let x = h.top k below in let g : slice_index (s.widths ++ w ∷ []) k ≡ slice_index s.widths k = get_or_append_left s.widths (w ∷ []) 0 k below in omega (arith, x, g)
        | inr above ↦ let g : slice_index (s.widths ++ w ∷ []) k ≡ w = get_or_push s.widths w 0 k (omega (arith, above, less, l)) in omega (arith, g, lt)
      ];
      there = λ some. (
        (let x = t.0 in omega (arith, l, x)),
        (let g : slice_index (s.widths ++ w ∷ []) s.widest ≡ slice_index s.widths s.widest = get_or_append_left s.widths (w ∷ []) 0 s.widest t.0 in let y = t.1 in omega (arith, g, y, lt)),
      );
      none = λ z. absurd (omega (arith, l, z));
    }
  where
    positive : (n : ℕ) → length s.widths ≡ n → w < s.most → 0 < length s.widths
    positive zero z less = let m = h.none z in absurd (omega (arith, m, less))
    positive (suc n) z less = omega (arith, z)

tops : (s : Widths) (counts : List ℕ) → IsTop s → IsTop (fold with_width s counts)
tops s [] h = h
tops s (c ∷ counts) h = tops (with_width s c) counts (top_more s (digit_count c) (nat_le s.most (digit_count c)) refl h)

pub count_widths_top : (counts : List ℕ) → IsTop (count_widths counts)
count_widths_top counts = tops no_widths counts (record { top = λ k lt. absurd (omega (arith, lt)); there = λ lt. absurd (omega (arith, lt)); none = λ z. refl })

sum_none : (counts : List ℕ) → ((k : ℕ) → k < length counts → slice_index counts k ≡ 0) → (n : ℕ) → n ≤ length counts → sum (take n counts) ≡ 0
sum_none counts none zero le = refl
sum_none counts none (suc n) le =
    let lt : n < length counts = omega (arith, le) in
    let m = sum_none counts none n (omega (arith, le)) in
    let e : sum (take (n + 1) counts) ≡ sum (take n counts) + slice_index counts n = sum_by_more (λ (x : ℕ). x) counts n 0 lt in
    let z = none n lt in
    let k : suc n ≡ n + 1 = omega arith in
    ap (λ (j : ℕ). sum (take j counts)) k ∙ omega (arith, e, m, z)

-- the widest occurs, where any does
pub widest_comes : (counts : List ℕ) → All (λ c. c < 4096) counts → 0 < sum counts → 0 < length counts → 0 < slice_index counts (count_widths counts).widest
widest_comes counts small some many =
    let m = count_widths_many counts in
    let h = count_widths_top counts in
    let t = h.there (omega (arith, m, many)) in
    let w = (count_widths counts).widest in
    elim (cases_lt 0 (slice_index counts (count_widths counts).widest)) [
      | inl lt ↦ lt
      | inr le ↦
          let z : slice_index counts (count_widths counts).widest ≡ 0 = omega (arith, le) in
          let inside : (count_widths counts).widest < length counts = (let x = t.0 in omega (arith, x, m)) in
          let wz : slice_index (count_widths counts).widths (count_widths counts).widest ≡ 0 = width_at counts (count_widths counts).widest inside ∙ ap digit_count z ∙ zero_width in
          let one : (count_widths counts).most ≡ 1 = (let y = t.1 in omega (arith, y, wz)) in
          let all : sum (take (length counts) counts) ≡ 0 = sum_none counts
          (λ k lt. some_digits (slice_index counts k) (small k 0 lt)
          (let x = h.top k (omega (arith, m, lt)) in let e = width_at counts k lt in omega (arith, x, e, one))) (length counts) (omega arith) in
          let whole : sum (take (length counts) counts) ≡ sum counts = ap sum (take_all (length counts) counts (omega arith)) in
          absurd (omega (arith, all, whole, some))
    ]

-- the widest of one count more
pub wider_next : (counts : List ℕ) (i most widest width m n : ℕ) → i < length counts → most ≡ (count_widths (take i counts)).most → widest ≡ (count_widths (take i counts)).widest → width ≡ digit_count (slice_index counts i) →
    m ≡ max most (width + 1) → n ≡ cond (nat_le most width) i widest → (m ≡ (count_widths (take (i + 1) counts)).most) × (n ≡ (count_widths (take (i + 1) counts)).widest)
wider_next counts i most widest width m n lt a b w f g =
    let k = taken_many counts i (omega (arith, lt)) in
    let next = sym (count_widths_next counts i lt) in (
      f ∙ ap (λ (x : ℕ). max x (width + 1)) a ∙ ap (λ (x : ℕ). max (count_widths (take i counts)).most (x + 1)) w ∙ ap (λ (s : Widths). s.most) next,
      g ∙ ap (λ (x : ℕ). cond (nat_le x width) i widest) a ∙ ap (λ (x : ℕ). cond (nat_le (count_widths (take i counts)).most x) i widest) w
          ∙ ap (λ (x : ℕ). cond (nat_le (count_widths (take i counts)).most (digit_count (slice_index counts i))) x widest) (sym k)
          ∙ ap (λ (x : ℕ). cond (nat_le (count_widths (take i counts)).most (digit_count (slice_index counts i))) (length (count_widths (take i counts)).widths) x) b
          ∙ ap (λ (s : Widths). s.widest) next,
    )

pub wider_all : (counts : List ℕ) (i widest : ℕ) → length counts ≤ i → widest ≡ (count_widths (take i counts)).widest → widest ≡ (count_widths counts).widest
wider_all counts i widest le e = e ∙ ap (λ (xs : List ℕ). (count_widths xs).widest) (take_all i counts le)

pub short_width : (c : ℕ) → c < 2 → digit_count c ≡ c
short_width zero lt = zero_width
short_width (suc zero) lt = one_digit_count
short_width (suc (suc c)) lt = absurd (omega (arith, lt))

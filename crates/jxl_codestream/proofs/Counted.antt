-- The tree that counts numbers that were not taken.
use Rattle.std.proofs.Common.{◌≡◌, ℕ, zero, suc, ◌+◌, ◌-◌, ◌*◌, ◌^◌, ◌/◌, ◌<◌, ◌≤◌, ◌≢◌, false, List, [], ◌∷◌, ◌++◌, length, set, refl, sym, ap, ◌∙◌, ◌⊎◌, inl, inr, arith}
use Rattle.std.specs.Prelude.{slice_index}
use Rattle.std.proofs.Math.Nat.{pow-suc, pow-zero, mul_comm, mul_assoc, suc-mul, zero-mul, one-mul, mul-one, div-div-eq-div-mul, div-lt_iff_lt-mul, div-mul-le_self, lt-div-mul-add, pow-le-pow_right, mul-le-mul_right}
use Rattle.std.proofs.lemmas.Nat.{pow_pos, pow-add, shl-shr}
use Rattle.std.proofs.lemmas.List.{get_or-set_same, get_or-set_other, get_or_push}
use Rattle.std.proofs.Math.ListN.{get_or-append}
use Rattle.jxlm_bits.proofs.Cases.{trichotomy, less_or_same}
use Rattle.jxl_codestream.proofs.Free.{free_all, free_up_to, free_over, free_same, free_after, free_none, is_found}
use Rattle.jxl_codestream.specs.Inner.Free.{free_below, is_taken, IsNext}
use Rattle.jxl_codestream.specs.Inner.Counts.{IsCounted, IsPartly, AreAllFree}

-- twice as many halves
pub halves : (a h : ℕ) → a * 2 * 2 ^ h ≡ a * 2 ^ suc h
halves a h = mul_assoc a 2 (2 ^ h) ∙ ap (λ (n : ℕ). a * n) (mul_comm 2 (2 ^ h) ∙ sym (pow-suc 2 h))

pub pow_next : (m : ℕ) → 2 ^ (m + 1) ≡ 2 ^ m * 2
pow_next m = let e : m + 1 ≡ suc m = omega arith in ap (λ (n : ℕ). 2 ^ n) e ∙ pow-suc 2 m

pub halved : (n j : ℕ) → n / 2 ^ j / 2 ≡ n / 2 ^ (j + 1)
halved n j = div-div-eq-div-mul n (2 ^ j) 2 ∙ ap (λ (m : ℕ). n / m) (sym (pow_next j))

-- the first step of all
pub find_first : (taken : List ℕ) (h digit : ℕ) → digit < free_below taken (2 ^ h) → (free_below taken (0 * 2 ^ h) + digit ≡ digit) × (digit < free_below taken (1 * 2 ^ h))
find_first taken h digit lt =
    let a : free_below taken (0 * 2 ^ h) ≡ 0 = ap (λ (n : ℕ). free_below taken n) (zero-mul (2 ^ h)) ∙ free_none taken in
    let b : free_below taken (1 * 2 ^ h) ≡ free_below taken (2 ^ h) = ap (λ (n : ℕ). free_below taken n) (one-mul (2 ^ h)) in
    (omega (arith, a), omega (arith, b, lt))

-- One step down: where a digit leads into a node, it leads into its lower half, or else into its higher one.
module _ (counts taken : List ℕ) (levels m h first place rest digit : ℕ) (first_is : first ≡ 2 ^ m) (depth : m + suc h ≡ levels) (within : place < 2 ^ m) (counted : IsCounted counts levels taken)
    (before : free_below taken (place * 2 ^ suc h) + rest ≡ digit) (after : digit < free_below taken (suc place * 2 ^ suc h)) where
  abbrev left : ℕ
  left = slice_index counts (first * 2 + place * 2)

  same_node : first * 2 + place * 2 ≡ 2 ^ suc m + place * 2
  same_node = omega (arith, first_is, pow-suc 2 m)

  node : left + free_below taken (place * 2 * 2 ^ h) ≡ free_below taken (suc (place * 2) * 2 ^ h)
  node = rw same_node (counted.each (suc m) h (place * 2) (omega (arith, depth)) (omega (arith, within, pow-suc 2 m)))

  start : free_below taken (place * 2 * 2 ^ h) ≡ free_below taken (place * 2 ^ suc h)
  start = ap (λ (n : ℕ). free_below taken n) (halves place h)

  twice : suc place * 2 ≡ suc (suc (place * 2))
  twice = omega arith

  end : free_below taken (suc (suc (place * 2)) * 2 ^ h) ≡ free_below taken (suc place * 2 ^ suc h)
  end = ap (λ (n : ℕ). free_below taken (n * 2 ^ h)) (sym twice) ∙ ap (λ (n : ℕ). free_below taken n) (halves (suc place) h)

  lower : rest < left → (free_below taken (place * 2 * 2 ^ h) + rest ≡ digit) × (digit < free_below taken (suc (place * 2) * 2 ^ h))
  lower lt = (omega (arith, start, before), omega (arith, start, before, node, lt))

  higher : left ≤ rest → (free_below taken (suc (place * 2) * 2 ^ h) + (rest - left) ≡ digit) × (digit < free_below taken (suc (suc (place * 2)) * 2 ^ h))
  higher le = (omega (arith, start, before, node, le), omega (arith, end, after))

  pub lower_at : (place' rest' : ℕ) → place' ≡ place * 2 → rest' ≡ rest → rest < left → (free_below taken (place' * 2 ^ h) + rest' ≡ digit) × (digit < free_below taken (suc place' * 2 ^ h))
  lower_at place' rest' p r lt = rw (p, r) (lower lt)

  pub higher_at : (place' rest' : ℕ) → place' ≡ place * 2 + 1 → rest' ≡ rest - left → left ≤ rest → (free_below taken (place' * 2 ^ h) + rest' ≡ digit) × (digit < free_below taken (suc place' * 2 ^ h))
  higher_at place' rest' p r le = let q : place' ≡ suc (place * 2) = omega (arith, p) in rw (q, r) (higher le)

-- the last step of all
pub find_last : (taken : List ℕ) (n place rest digit : ℕ) → place < n → free_below taken (place * 2 ^ 0) + rest ≡ digit → digit < free_below taken (suc place * 2 ^ 0) → IsNext n taken digit place
find_last taken n place rest digit within before after =
    let a : place * 2 ^ 0 ≡ place = mul-one place in
    let b : suc place * 2 ^ 0 ≡ suc place = mul-one (suc place) in
    let found = is_found taken place rest digit (is_taken taken place) refl (rw a at before) (rw b at after) in
    record { below = within; free = found.0; passes = found.1 }

-- A node of which v is one of the numbers counts one less once v is taken; one that lies before or after v counts the same.
one_node : (taken : List ℕ) (v a b count : ℕ) → is_taken taken v ≡ false → a ≤ v → v < b → count + free_below taken a ≡ free_below taken b →
    (count - 1) + free_below (taken ++ v ∷ []) a ≡ free_below (taken ++ v ∷ []) b
one_node taken v a b count free low high counted =
    let w = free_same taken v a low in
    let x = free_after taken v b free high in
    let y = free_up_to taken a v low in
    let z = free_over taken v b free high in
    omega (arith, w, x, y, z, counted)

node_before : (taken : List ℕ) (v a b count : ℕ) → b ≤ v → a ≤ b → count + free_below taken a ≡ free_below taken b →
    count + free_below (taken ++ v ∷ []) a ≡ free_below (taken ++ v ∷ []) b
node_before taken v a b count h le counted =
    let x = free_same taken v a (omega (arith, h, le)) in
    let y = free_same taken v b h in
    omega (arith, x, y, counted)

node_after : (taken : List ℕ) (v a b count : ℕ) → is_taken taken v ≡ false → v < a → a < b → count + free_below taken a ≡ free_below taken b →
    count + free_below (taken ++ v ∷ []) a ≡ free_below (taken ++ v ∷ []) b
node_after taken v a b count free h lt counted =
    let x = free_after taken v a free h in
    let y = free_after taken v b free (omega (arith, h, lt)) in
    omega (arith, x, y, counted)

-- nodes of different depths have different numbers
apart : (m n i p : ℕ) → m < n → i < 2 ^ m → 2 ^ m + i < 2 ^ n + p
apart m n i p lt h =
    let e = pow-suc 2 m in
    let le : 2 ^ suc m ≤ 2 ^ n = pow-le-pow_right {n = 2} (omega arith) lt in
    omega (arith, e, le, h)

-- One step up: node 2 ^ m + p, of height j, counts one less.
module _ (counts taken : List ℕ) (levels v m p j : ℕ) (depth : m + j ≡ levels) (p_in : p < 2 ^ m) (low : p * 2 ^ j ≤ v) (high : v < suc p * 2 ^ j)
    (long : 2 ^ m + p < length counts) (free : is_taken taken v ≡ false) (partly : IsPartly counts levels taken v j) where
  abbrev changed : List ℕ
  changed = set counts (2 ^ m + p) (slice_index counts (2 ^ m + p) - 1)

  other : (k : ℕ) → k ≢ 2 ^ m + p → slice_index changed k ≡ slice_index counts k
  other k n = get_or-set_other counts (2 ^ m + p) k (slice_index counts (2 ^ m + p) - 1) 0 n

  itself : slice_index changed (2 ^ m + p) ≡ slice_index counts (2 ^ m + p) - 1
  itself = get_or-set_same counts (2 ^ m + p) (slice_index counts (2 ^ m + p) - 1) 0 long

  deeper : (n i : ℕ) → m < n → 2 ^ n + i ≢ 2 ^ m + p
  deeper n i lt e = let a = apart m n p i lt p_in in omega (arith, a, e)

  higher_up : (n i : ℕ) → n < m → i < 2 ^ n → 2 ^ n + i ≢ 2 ^ m + p
  higher_up n i lt h e = let a = apart n m i p lt h in omega (arith, a, e)

  grows : (i : ℕ) → i * 2 ^ j < suc i * 2 ^ j
  grows i = let s = suc-mul i (2 ^ j) in let q = pow_pos j in omega (arith, s, q)

  -- the nodes of height j
  here_before : (i : ℕ) → i < p → i < 2 ^ m → slice_index changed (2 ^ m + i) + free_below (taken ++ v ∷ []) (i * 2 ^ j) ≡ free_below (taken ++ v ∷ []) (suc i * 2 ^ j)
  here_before i lt h =
      let same = other (2 ^ m + i) (λ e. omega (arith, e, lt)) in
      let le : suc i * 2 ^ j ≤ p * 2 ^ j = mul-le-mul_right (2 ^ j) lt in
      let g = grows i in
      rw same (node_before taken v (i * 2 ^ j) (suc i * 2 ^ j) (slice_index counts (2 ^ m + i)) (omega (arith, le, low)) (omega (arith, g)) (partly.uncounted m j i depth h (omega arith)))

  here_after : (i : ℕ) → p < i → i < 2 ^ m → slice_index changed (2 ^ m + i) + free_below (taken ++ v ∷ []) (i * 2 ^ j) ≡ free_below (taken ++ v ∷ []) (suc i * 2 ^ j)
  here_after i lt h =
      let same = other (2 ^ m + i) (λ e. omega (arith, e, lt)) in
      let le : suc p * 2 ^ j ≤ i * 2 ^ j = mul-le-mul_right (2 ^ j) lt in
      let g = grows i in
      rw same (node_after taken v (i * 2 ^ j) (suc i * 2 ^ j) (slice_index counts (2 ^ m + i)) free (omega (arith, le, high)) g (partly.uncounted m j i depth h (omega arith)))

  here_itself : slice_index changed (2 ^ m + p) + free_below (taken ++ v ∷ []) (p * 2 ^ j) ≡ free_below (taken ++ v ∷ []) (suc p * 2 ^ j)
  here_itself = rw itself (one_node taken v (p * 2 ^ j) (suc p * 2 ^ j) (slice_index counts (2 ^ m + p)) free low high (partly.uncounted m j p depth p_in (omega arith)))

  here : (i : ℕ) → i < 2 ^ m → (i < p) ⊎ ((i ≡ p) ⊎ (p < i)) → slice_index changed (2 ^ m + i) + free_below (taken ++ v ∷ []) (i * 2 ^ j) ≡ free_below (taken ++ v ∷ []) (suc i * 2 ^ j)
  here i h (inl lt) = here_before i lt h
  here i h (inr (inl same)) = rw same here_itself
  here i h (inr (inr lt)) = here_after i lt h

  -- those below
  below : (n h i : ℕ) → n + h ≡ levels → i < 2 ^ n → h < j → slice_index changed (2 ^ n + i) + free_below (taken ++ v ∷ []) (i * 2 ^ h) ≡ free_below (taken ++ v ∷ []) (suc i * 2 ^ h)
  below n h i d lt less = let same = other (2 ^ n + i) (deeper n i (omega (arith, d, depth, less))) in rw same (partly.counted n h i d lt less)

  above : (n h i : ℕ) → n + h ≡ levels → i < 2 ^ n → suc j ≤ h → slice_index changed (2 ^ n + i) + free_below taken (i * 2 ^ h) ≡ free_below taken (suc i * 2 ^ h)
  above n h i d lt more = let same = other (2 ^ n + i) (higher_up n i (omega (arith, d, depth, more)) lt) in rw same (partly.uncounted n h i d lt (omega (arith, more)))

  up_to : (n h i : ℕ) → n + h ≡ levels → i < 2 ^ n → (h < j) ⊎ (h ≡ j) → slice_index changed (2 ^ n + i) + free_below (taken ++ v ∷ []) (i * 2 ^ h) ≡ free_below (taken ++ v ∷ []) (suc i * 2 ^ h)
  up_to n h i d lt (inl less) = below n h i d lt less
  up_to n h i d lt (inr same) =
      let depths : n ≡ m = omega (arith, d, depth, same) in
      rw (same, depths) (here i (rw depths at lt) (trichotomy i p))

  pub one_up : IsPartly (set counts (2 ^ m + p) (slice_index counts (2 ^ m + p) - 1)) levels taken v (suc j)
  one_up = record {
    counted = λ n h i d lt less. up_to n h i d lt (less_or_same h j less);
    uncounted = above;
  }

-- the node that counts v at height j
pub take_step : (counts taken : List ℕ) (levels v j first place value : ℕ) → first ≡ 2 ^ levels / 2 ^ j → place ≡ v / 2 ^ j → value ≡ slice_index counts (first + place) - 1 →
    j ≤ levels → v < 2 ^ levels → length counts ≡ 2 * 2 ^ levels → is_taken taken v ≡ false → IsPartly counts levels taken v j → IsPartly (set counts (first + place) value) levels taken v (j + 1)
take_step counts taken levels v j first place value first_is place_is value_is le small long free partly =
    let depth : levels - j + j ≡ levels = omega (arith, le) in
    let whole : 2 ^ levels ≡ 2 ^ (levels - j) * 2 ^ j = ap (λ (n : ℕ). 2 ^ n) (sym depth) ∙ pow-add 2 (levels - j) j in
    let top : first ≡ 2 ^ (levels - j) = first_is ∙ ap (λ (n : ℕ). n / 2 ^ j) whole ∙ shl-shr (2 ^ (levels - j)) j in
    let some = pow_pos j in
    let p_in : v / 2 ^ j < 2 ^ (levels - j) = (div-lt_iff_lt-mul some).1 (rw whole at small) in
    let low : v / 2 ^ j * 2 ^ j ≤ v = div-mul-le_self v (2 ^ j) in
    let s = suc-mul (v / 2 ^ j) (2 ^ j) in
    let up = lt-div-mul-add {a = v} some in
    let high : v < suc (v / 2 ^ j) * 2 ^ j = omega (arith, s, up) in
    let most : 2 ^ (levels - j) ≤ 2 ^ levels = pow-le-pow_right {n = 2} (omega arith) (omega arith) in
    let within : 2 ^ (levels - j) + v / 2 ^ j < length counts = omega (arith, most, p_in, long) in
    let next : j + 1 ≡ suc j = omega arith in
    rw (value_is, top, place_is, next) (one_up counts taken levels v (levels - j) (v / 2 ^ j) j depth p_in low high within free partly)

-- the first nodes, and one more
module _ (counts : List ℕ) (levels k : ℕ) (long : length counts ≡ k) (some : 2 ≤ k) (free : AreAllFree counts levels k) where
  last : (m h i : ℕ) → m + h ≡ levels → i < 2 ^ m → 2 ^ m + i ≡ k → slice_index counts (k / 2) / 2 ≡ 2 ^ h
  last zero h i d lt e = absurd (omega (arith, lt, e, some, pow-zero 2))
  last (suc m) h i d lt e =
      let two = pow-suc 2 m in
      let half : k / 2 ≡ 2 ^ m + i / 2 = omega (arith, two, e) in
      let lower : i / 2 < 2 ^ m = omega (arith, two, lt) in
      let above = free.each m (suc h) (i / 2) (omega (arith, d)) lower (omega (arith, half, some)) in
      let double = pow-suc 2 h in
      rw (half, above, double) (omega arith)

  next : (m h i : ℕ) → m + h ≡ levels → i < 2 ^ m → (2 ^ m + i < k) ⊎ (2 ^ m + i ≡ k) → slice_index (counts ++ (slice_index counts (k / 2) / 2) ∷ []) (2 ^ m + i) ≡ 2 ^ h
  next m h i d lt (inl less) = get_or-append counts ((slice_index counts (k / 2) / 2) ∷ []) 0 (2 ^ m + i) (omega (arith, less, long)) ∙ free.each m h i d lt less
  next m h i d lt (inr same) = rw same (get_or_push counts (slice_index counts (k / 2) / 2) 0 k long ∙ last m h i d lt same)

  pub one_free : AreAllFree (counts ++ (slice_index counts (k / 2) / 2) ∷ []) levels (suc k)
  one_free = record { each = λ m h i d lt less. next m h i d lt (less_or_same (2 ^ m + i) k less) }

-- two nodes
no_depth : (m i levels h : ℕ) → m + h ≡ levels → i < 2 ^ m → 2 ^ m + i < 2 → (m ≡ 0) × (i ≡ 0)
no_depth zero i levels h d lt less = (refl, omega (arith, lt, pow-zero 2))
no_depth (suc m) i levels h d lt less = let e = pow-suc 2 m in let some = pow_pos m in absurd (omega (arith, e, some, less))

pub two_free : (levels : ℕ) → AreAllFree (2 ^ levels ∷ 2 ^ levels ∷ []) levels 2
two_free levels = record {
  each = λ m h i d lt less.
      let zeros = no_depth m i levels h d lt less in
      let same : h ≡ levels = omega (arith, d, zeros.0) in
      rw (zeros.0, zeros.1, same) refl;
}

-- a tree whose nodes all count all numbers counts where none is taken
pub all_counted : (counts : List ℕ) (levels k : ℕ) → 2 * 2 ^ levels ≤ k → AreAllFree counts levels k → IsCounted counts levels []
all_counted counts levels k enough free = record {
  each = λ m h i d lt.
      let le : 2 ^ suc m ≤ 2 ^ suc levels = pow-le-pow_right {n = 2} (omega arith) (omega (arith, d)) in
      let a = pow-suc 2 m in
      let b = pow-suc 2 levels in
      let count = free.each m h i d lt (omega (arith, le, a, b, lt, enough)) in
      let x = free_all (i * 2 ^ h) in
      let y = free_all (suc i * 2 ^ h) in
      let s = suc-mul i (2 ^ h) in
      omega (arith, count, x, y, s);
}

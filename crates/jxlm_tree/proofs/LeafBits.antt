-- Sets of leaves, bit by bit.
use Rattle.std.proofs.Common.{◌≡◌, ◌∙◌, ℕ, zero, suc, ℤ, [], ◌∷◌, SFits, w32, to_z, of_z, ◌+◌, ◌-◌, ◌*◌, ◌%◌, ◌^◌, ◌<◌, ◌≤◌, ◌-ℤ◌, min, Bool, true, false, List, ◌++◌, drop, length, get_or, take, refl, sym, ap, ap₂, arith, w64, ◌⊎◌, inl, inr}
use Rattle.std.specs.Int.{bit_at, bit_not, trailing_zeros}
use Rattle.std.specs.Int.Bits.{bit_and}
use Rattle.std.specs.Prelude.{◌↔◌, IsTrue, ◌==◌, ◌&&◌, not, nat_lt, int_lt, pos, neg_ℤ, replicate, slice_index, slice_index_or}
use Rattle.std.proofs.lemmas.Bool.{cases_lt, false≢true}
use Rattle.std.proofs.lemmas.Bool.Decides.{nat_tests}
use Rattle.std.proofs.lemmas.Int.{ints, to_z-of_z}
use Rattle.std.proofs.lemmas.List.{append-nil, drop_all, get_or-replicate, take_all}
use Rattle.std.proofs.lemmas.Nat.{one_shl}
use Rattle.std.proofs.lemmas.Nat.Bits.{bit_at-lt, bit_at-zero, bit_at-trailing_zeros, bit_at_and, bit_at_not, bit_at_ones, bit_at_mask_above, bit_at_mask_below, bit_at_mask_inside}
use Rattle.jxlm_tree.specs.ClusterTables.{slot}
use Rattle.jxlm_tree.specs.Inner.LeafSets.{AreEntriesOf, AreValuesOf, is_in_range, is_near, is_within}
use Rattle.jxlm_tree.specs.SetTables.{has, set_for, stays}
use Rattle.jxlm_tree.proofs.SumTrees.{second_of}

-- a bit is 0 or 1
either_bit : (x : ℕ) → x < 2 → (x ≡ 0) ⊎ (x ≡ 1)
either_bit x few = either (cases_lt x 1) where
  either : (x < 1) ⊎ (1 ≤ x) → (x ≡ 0) ⊎ (x ≡ 1)
  either (inl less) = inl (omega arith)
  either (inr more) = inr (omega arith)

both_bits : (x y : ℕ) → x < 2 → y < 2 → (min x y == 1) ≡ (x == 1 && y == 1)
both_bits x y few_x few_y = either (either_bit x few_x) (either_bit y few_y) where
  either : (x ≡ 0) ⊎ (x ≡ 1) → (y ≡ 0) ⊎ (y ≡ 1) → (min x y == 1) ≡ (x == 1 && y == 1)
  either (inl a) (inl b) = rw (a, b) refl
  either (inl a) (inr b) = rw (a, b) refl
  either (inr a) (inl b) = rw (a, b) refl
  either (inr a) (inr b) = rw (a, b) refl

other_bit : (x : ℕ) → x < 2 → (1 - x == 1) ≡ not (x == 1)
other_bit x few = either (either_bit x few) where
  either : (x ≡ 0) ⊎ (x ≡ 1) → (1 - x == 1) ≡ not (x == 1)
  either (inl a) = rw a refl
  either (inr a) = rw a refl

pub has-and : (a b i : ℕ) → has (bit_and a b) i ≡ (has a i && has b i)
unfolding has
has-and a b i = ap (λ x. x == 1) (bit_at_and a b i) ∙ both_bits (bit_at a i) (bit_at b i) (bit_at-lt a i) (bit_at-lt b i)

pub has-not : (a i : ℕ) → a < 2 ^ 64 → i < 64 → has (bit_not w64 a) i ≡ not (has a i)
unfolding has
has-not a i fits few = ap (λ x. x == 1) (bit_at_not w64 a i fits few) ∙ other_bit (bit_at a i) (bit_at-lt a i)

pub has-all : (i : ℕ) → i < 64 → has 18446744073709551615 i ≡ true
unfolding has
has-all i few = ap (λ x. x == 1) (bit_at_ones 64 i few)

-- the leaves from one number to before another
pub has-between : (first end i : ℕ) → has (2 ^ end - 2 ^ first) i ≡ is_within first end i
unfolding has
has-between first end i = below (cases_lt i first) (cases_lt i end) where
  below : (i < first) ⊎ (first ≤ i) → (i < end) ⊎ (end ≤ i) → (bit_at (2 ^ end - 2 ^ first) i == 1) ≡ is_within first end i
  below (inl less) either =
      let out : is_within first end i ≡ false = grind (arith, nat_tests) in
      ap (λ x. x == 1) (bit_at_mask_below first end i less) ∙ sym out
  below (inr from) (inl less) =
      let is : is_within first end i ≡ true = grind (arith, nat_tests) in
      ap (λ x. x == 1) (bit_at_mask_inside first end i from less) ∙ sym is
  below (inr from) (inr more) =
      let out : is_within first end i ≡ false = grind (arith, nat_tests) in
      ap (λ x. x == 1) (bit_at_mask_above first end i more) ∙ sym out

-- the first bit of a set that has one
pub record Lowest (set i : ℕ) : Type 0 where
  pub within : i < 64
  pub is_set : has set i ≡ true
  pub none_before : (j : ℕ) → j < i → has set j ≡ false

pub lowest : (set i : ℕ) → set < 2 ^ 64 → has set i ≡ true → Lowest set (trailing_zeros w64 set)
unfolding has
lowest set i fits some =
    let more : 0 < set = positive (cases_lt 0 set) in
    let t = bit_at-trailing_zeros w64 set more fits in
    record {
      within = t.0;
      is_set = ap (λ x. x == 1) t.1;
      none_before = λ j less. ap (λ x. x == 1) (t.2 j less);
    }
  where
    positive : (0 < set) ⊎ (set ≤ 0) → 0 < set
    positive (inl more) = more
    positive (inr none) =
        let zero_is : set ≡ 0 = omega arith in
        let no : false ≡ true = sym (ap (λ x. x == 1) (ap (λ s. bit_at s i) zero_is ∙ bit_at-zero i)) ∙ some in
        absurd (false≢true no)

-- which entries lie up to that of a cut in the range
pub entries-below : (v x : ℤ) → is_in_range v ≡ true → nat_lt (slot (neg_ℤ (pos 1024)) 2047 v) (slot (neg_ℤ (pos 1024)) 2047 x) ≡ int_lt v x
entries-below v x near = grind (arith, ints, nat_tests)

pub slot-within : (x : ℤ) → slot (neg_ℤ (pos 1024)) 2047 x < 2048
slot-within x = grind (arith, ints, nat_tests)

-- the first bit of a set comes no later than any other
pub lowest-first : (set i : ℕ) → set < 2 ^ 64 → has set i ≡ true → trailing_zeros w64 set ≤ i
lowest-first set i fits some = either (cases_lt i (trailing_zeros w64 set)) where
  either : (i < trailing_zeros w64 set) ⊎ (trailing_zeros w64 set ≤ i) → trailing_zeros w64 set ≤ i
  either (inl less) = absurd (false≢true (sym ((lowest set i fits some).none_before i less) ∙ some))
  either (inr from) = from

-- a one in this place
pub one-at : (k : ℕ) → k < 64 → 1 * 2 ^ k % 18446744073709551616 ≡ 2 ^ k
one-at k few = one_shl k 64 few

-- a table of all leaves
set-of-all : (sets : List ℕ) (table : ℕ) (x : ℤ) (i : ℕ) → sets ≡ replicate 14336 18446744073709551615 → table < 7 → i < 64 → has (set_for sets table x) i ≡ true
unfolding set_for
set-of-all sets table x i are less few =
    ap (λ s. has s i)
    (ap (λ xs. get_or xs (table * 2048 + slot (neg_ℤ (pos 1024)) 2047 x) 0) are
    ∙ get_or-replicate 14336 (table * 2048 + slot (neg_ℤ (pos 1024)) 2047 x) 18446744073709551615 0 (let w = slot-within x in omega (arith, w, less)))
    ∙ has-all i few

pub stays-of-all : (sets : List ℕ) (f : ℕ → ℤ) (i : ℕ) → sets ≡ replicate 14336 18446744073709551615 → i < 64 → stays sets f i ≡ true
stays-of-all sets f i are few =
    rw (
      set-of-all sets 0 (f 9) i are (omega arith) few,
      set-of-all sets 1 (f 10) i are (omega arith) few,
      set-of-all sets 2 (f 11) i are (omega arith) few,
      set-of-all sets 3 (f 12) i are (omega arith) few,
      set-of-all sets 4 (f 13) i are (omega arith) few,
      set-of-all sets 5 (f 14) i are (omega arith) few,
      set-of-all sets 6 (f 15) i are (omega arith) few,
    ) refl

-- the entries up to that of a cut
entry-within : (from last s : ℕ) → is_within from (from + last + 1) (from + s) ≡ not (nat_lt last s)
entry-within from last s = grind (arith, nat_tests)

pub entry-below : (from end e : ℕ) → e < from → is_within from end e ≡ false
entry-below from end e less = grind (arith, nat_tests)

pub entry-above : (from end e : ℕ) → end ≤ e → is_within from end e ≡ false
entry-above from end e more = grind (arith, nat_tests)

pub entry-inside : (from end e : ℕ) → from ≤ e → e < end → is_within from end e ≡ true
entry-inside from end e start less = grind (arith, nat_tests)

-- these leaves are taken out of the entries from one to before another
abbrev pub AreTaken : List ℕ → List ℕ → ℕ → ℕ → ℕ → Type 0
AreTaken old new from end leaves = (e i : ℕ) → e < length old → i < 64 → has (slice_index new e) i ≡ (has (slice_index old e) i && not (is_within from end e && has leaves i))

-- leaves that are taken out of the entries up to that of a cut are ruled out where the property is not greater
pub table-taken : (old new : List ℕ) (leaves first end from last table : ℕ) (v x : ℤ) (i : ℕ) → is_in_range v ≡ true → length old ≡ 14336 → table < 7 → from ≡ table * 2048 → last ≡ slot (neg_ℤ (pos 1024)) 2047 v → i < 64 →
    AreTaken old new from (from + last + 1) leaves → has leaves i ≡ is_within first end i →
    has (set_for new table x) i ≡ (has (set_for old table x) i && not (not (int_lt v x) && is_within first end i))
unfolding set_for
table-taken old new leaves first end from last table v x i near sized less start at few taken are =
    let s = slot (neg_ℤ (pos 1024)) 2047 x in
    let e = table * 2048 + s in
    taken e i (let w = slot-within x in omega (arith, w, less, sized)) few
    ∙ ap (λ b. has (slice_index old e) i && not (b && has leaves i))
    (ap (λ n. is_within from (from + last + 1) (n + s)) (sym start) ∙ entry-within from last s ∙ ap not (ap (λ k. nat_lt k s) at ∙ entries-below v x near))
    ∙ ap (λ b. has (slice_index old e) i && not (not (int_lt v x) && b)) are

-- and the other tables are as before
pub table-kept : (old new : List ℕ) (leaves from last own table : ℕ) (v x : ℤ) (i : ℕ) → length old ≡ 14336 → table < 7 → from ≡ own * 2048 → last ≡ slot (neg_ℤ (pos 1024)) 2047 v → i < 64 →
    AreTaken old new from (from + last + 1) leaves → (table < own) ⊎ (own < table) → has (set_for new table x) i ≡ has (set_for old table x) i
unfolding set_for
table-kept old new leaves from last own table v x i sized less start at few taken apart =
    let s = slot (neg_ℤ (pos 1024)) 2047 x in
    let e = table * 2048 + s in
    taken e i (let w = slot-within x in omega (arith, w, less, sized)) few
    ∙ ap (λ b. has (slice_index old e) i && not (b && has leaves i)) (outside apart)
    ∙ and-all (has (slice_index old e) i)
  where
    and-all : (x : Bool) → (x && true) ≡ x
    and-all true = refl
    and-all false = refl

    outside : (table < own) ⊎ (own < table) → is_within from (from + last + 1) (table * 2048 + slot (neg_ℤ (pos 1024)) 2047 x) ≡ false
    outside (inl below) = entry-below from (from + last + 1) (table * 2048 + slot (neg_ℤ (pos 1024)) 2047 x) (let w = slot-within x in omega (arith, w, below, start))
    outside (inr above) = entry-above from (from + last + 1) (table * 2048 + slot (neg_ℤ (pos 1024)) 2047 x) (let w = slot-within v in omega (arith, w, above, start, at))

-- the entry that serves a value has its set
pub set-at : (sets : List ℕ) (table entry : ℕ) (x : ℤ) → entry ≡ slot (neg_ℤ (pos 1024)) 2047 x → get_or sets (table * 2048 + entry) 0 ≡ set_for sets table x
unfolding set_for
set-at sets table entry x is = ap (λ e. get_or sets (table * 2048 + e) 0) is

-- the leaves that are in seven sets
seven : (p q r s t u v : Bool) → ((((((p && q) && r) && s) && t) && u) && v) ≡ (p && (q && (r && (s && (t && (u && (v && true)))))))
seven false q r s t u v = refl
seven true false r s t u v = refl
seven true true false s t u v = refl
seven true true true false t u v = refl
seven true true true true false u v = refl
seven true true true true true false v = refl
seven true true true true true true false = refl
seven true true true true true true true = refl

pub has-seven : (a b c d e f g i : ℕ) → has (bit_and (bit_and (bit_and (bit_and (bit_and (bit_and a b) c) d) e) f) g) i
    ≡ (has a i && (has b i && (has c i && (has d i && (has e i && (has f i && (has g i && true)))))))
has-seven a b c d e f g i =
    rw (
      has-and (bit_and (bit_and (bit_and (bit_and (bit_and a b) c) d) e) f) g i,
      has-and (bit_and (bit_and (bit_and (bit_and a b) c) d) e) f i,
      has-and (bit_and (bit_and (bit_and a b) c) d) e i,
      has-and (bit_and (bit_and a b) c) d i,
      has-and (bit_and a b) c i,
      has-and a b i,
    ) (seven (has a i) (has b i) (has c i) (has d i) (has e i) (has f i) (has g i))

-- the leaves that the sets of these entries leave over
pub left-over : (sets : List ℕ) (entries : List ℕ) (f : ℕ → ℤ) (a b c d e h g i : ℕ) → AreEntriesOf entries f →
    a ≡ slice_index sets (0 * 2048 + slice_index entries 0) → b ≡ slice_index sets (1 * 2048 + slice_index entries 1) → c ≡ slice_index sets (2 * 2048 + slice_index entries 2) →
    d ≡ slice_index sets (3 * 2048 + slice_index entries 3) → e ≡ slice_index sets (4 * 2048 + slice_index entries 4) → h ≡ slice_index sets (5 * 2048 + slice_index entries 5) →
    g ≡ slice_index sets (6 * 2048 + slice_index entries 6) → has (bit_and (bit_and (bit_and (bit_and (bit_and (bit_and a b) c) d) e) h) g) i ≡ stays sets f i
left-over sets entries f a b c d e h g i are is0 is1 is2 is3 is4 is5 is6 =
    has-seven a b c d e h g i
    ∙ rw (
      is0 ∙ set-at sets 0 (slice_index entries 0) (f 9) (are 0 (omega arith)),
      is1 ∙ set-at sets 1 (slice_index entries 1) (f 10) (are 1 (omega arith)),
      is2 ∙ set-at sets 2 (slice_index entries 2) (f 11) (are 2 (omega arith)),
      is3 ∙ set-at sets 3 (slice_index entries 3) (f 12) (are 3 (omega arith)),
      is4 ∙ set-at sets 4 (slice_index entries 4) (f 13) (are 4 (omega arith)),
      is5 ∙ set-at sets 5 (slice_index entries 5) (f 14) (are 5 (omega arith)),
      is6 ∙ set-at sets 6 (slice_index entries 6) (f 15) (are 6 (omega arith)),
    ) refl

-- what holds of seven numbers holds of all below 7
pub each-of-seven : (P : ℕ → Type 0) → P 0 → P 1 → P 2 → P 3 → P 4 → P 5 → P 6 → (k : ℕ) → k < 7 → P k
each-of-seven P a b c d e f g zero less = a
each-of-seven P a b c d e f g (suc zero) less = b
each-of-seven P a b c d e f g (suc (suc zero)) less = c
each-of-seven P a b c d e f g (suc (suc (suc zero))) less = d
each-of-seven P a b c d e f g (suc (suc (suc (suc zero)))) less = e
each-of-seven P a b c d e f g (suc (suc (suc (suc (suc zero))))) less = f
each-of-seven P a b c d e f g (suc (suc (suc (suc (suc (suc zero)))))) less = g
each-of-seven P a b c d e f g (suc (suc (suc (suc (suc (suc (suc k))))))) less = absurd (omega arith)

-- all of seven
first-is : (x y : Bool) → (x && y) ≡ true → x ≡ true
first-is true y h = refl
first-is false y h = h

pub all-of-seven : (x : ℕ → Bool) → ((((((x 0 && x 1) && x 2) && x 3) && x 4) && x 5) && x 6) ≡ true → (k : ℕ) → k < 7 → x k ≡ true
all-of-seven x h =
    let h5 = first-is (((((x 0 && x 1) && x 2) && x 3) && x 4) && x 5) (x 6) h in
    let h4 = first-is ((((x 0 && x 1) && x 2) && x 3) && x 4) (x 5) h5 in
    let h3 = first-is (((x 0 && x 1) && x 2) && x 3) (x 4) h4 in
    let h2 = first-is ((x 0 && x 1) && x 2) (x 3) h3 in
    let h1 = first-is (x 0 && x 1) (x 2) h2 in
    each-of-seven (λ k. x k ≡ true) (first-is (x 0) (x 1) h1) (second_of (x 0) (x 1) h1) (second_of (x 0 && x 1) (x 2) h2) (second_of ((x 0 && x 1) && x 2) (x 3) h3)
    (second_of (((x 0 && x 1) && x 2) && x 3) (x 4) h4) (second_of ((((x 0 && x 1) && x 2) && x 3) && x 4) (x 5) h5) (second_of (((((x 0 && x 1) && x 2) && x 3) && x 4) && x 5) (x 6) h)

-- seven values, each read back from its 32 bits
abbrev pub FitSeven : List ℤ → Type 0
FitSeven vs = (k : ℕ) → k < 7 → SFits w32 (get_or vs k (pos 0))

abbrev pub read_back : List ℤ → ℕ → ℤ
read_back vs k = to_z w32 (of_z w32 (get_or vs k (pos 0)))

-- they are near where each of them is
pub near-of-seven : (vs : List ℤ) (a b c d e f g : Bool) → FitSeven vs → a ≡ is_near (read_back vs 0) → b ≡ is_near (read_back vs 1) → c ≡ is_near (read_back vs 2) → d ≡ is_near (read_back vs 3) →
    e ≡ is_near (read_back vs 4) → f ≡ is_near (read_back vs 5) → g ≡ is_near (read_back vs 6) →
    IsTrue ((((((a && b) && c) && d) && e) && f) && g) ↔ ((k : ℕ) → k < 7 → is_near (get_or vs k (pos 0)) ≡ true)
near-of-seven vs a b c d e f g fits ia ib ic id ie if_ ig =
    let both : Bool → Bool → Bool = λ x y. x && y in
    let same = ap₂ both (ap₂ both (ap₂ both (ap₂ both (ap₂ both (ap₂ both (one 0 a (omega arith) ia) (one 1 b (omega arith) ib)) (one 2 c (omega arith) ic)) (one 3 d (omega arith) id)) (one 4 e (omega arith) ie))
    (one 5 f (omega arith) if_)) (one 6 g (omega arith) ig) in
    (λ h. all-of-seven (λ k. is_near (get_or vs k (pos 0))) (sym same ∙ h), λ h. same ∙ seven-true (λ k. is_near (get_or vs k (pos 0))) h)
  where
    one : (k : ℕ) (x : Bool) → k < 7 → x ≡ is_near (read_back vs k) → x ≡ is_near (get_or vs k (pos 0))
    one k x less is = is ∙ ap is_near (to_z-of_z w32 (get_or vs k (pos 0)) (fits k less))

    seven-true : (x : ℕ → Bool) → ((k : ℕ) → k < 7 → x k ≡ true) → ((((((x 0 && x 1) && x 2) && x 3) && x 4) && x 5) && x 6) ≡ true
    seven-true x h = rw (h 0 (omega arith), h 1 (omega arith), h 2 (omega arith), h 3 (omega arith), h 4 (omega arith), h 5 (omega arith), h 6 (omega arith)) refl

-- they are the properties of which the values are
pub values-of-seven : (vs : List ℤ) (f : ℕ → ℤ) → FitSeven vs → AreValuesOf vs f →
    AreValuesOf (read_back vs 0 ∷ read_back vs 1 ∷ read_back vs 2 ∷ read_back vs 3 ∷ read_back vs 4 ∷ read_back vs 5 ∷ read_back vs 6 ∷ []) f
values-of-seven vs f fits are =
    each-of-seven (λ k. slice_index_or (read_back vs 0 ∷ read_back vs 1 ∷ read_back vs 2 ∷ read_back vs 3 ∷ read_back vs 4 ∷ read_back vs 5 ∷ read_back vs 6 ∷ []) k (pos 0) ≡ f (9 + k))
    (one 0 (omega arith)) (one 1 (omega arith)) (one 2 (omega arith)) (one 3 (omega arith)) (one 4 (omega arith)) (one 5 (omega arith)) (one 6 (omega arith))
  where
    one : (k : ℕ) → k < 7 → read_back vs k ≡ f (9 + k)
    one k less = to_z-of_z w32 (get_or vs k (pos 0)) (fits k less) ∙ are k less

-- their entries lie in a table
abbrev pub entry_back : List ℤ → ℕ → ℕ
entry_back vs k = slot (neg_ℤ (pos 1024)) 2047 (read_back vs k)

pub within-of-seven : (vs : List ℤ) (a b c d e f g : ℕ) → a ≡ entry_back vs 0 → b ≡ entry_back vs 1 → c ≡ entry_back vs 2 → d ≡ entry_back vs 3 → e ≡ entry_back vs 4 → f ≡ entry_back vs 5 → g ≡ entry_back vs 6 →
    (k : ℕ) → k < 7 → slice_index (a ∷ b ∷ c ∷ d ∷ e ∷ f ∷ g ∷ []) k < 2048
within-of-seven vs a b c d e f g ia ib ic id ie if_ ig =
    each-of-seven (λ k. slice_index (a ∷ b ∷ c ∷ d ∷ e ∷ f ∷ g ∷ []) k < 2048) (one 0 a ia) (one 1 b ib) (one 2 c ic) (one 3 d id) (one 4 e ie) (one 5 f if_) (one 6 g ig)
  where
    one : (k n : ℕ) → n ≡ entry_back vs k → n < 2048
    one k n is = let w = slot-within (read_back vs k) in omega (arith, is, w)

-- and are those of the properties
pub entries-of-seven : (vs : List ℤ) (h : ℕ → ℤ) (a b c d e f g : ℕ) → FitSeven vs → AreValuesOf vs h → a ≡ entry_back vs 0 → b ≡ entry_back vs 1 → c ≡ entry_back vs 2 → d ≡ entry_back vs 3 → e ≡ entry_back vs 4 →
    f ≡ entry_back vs 5 → g ≡ entry_back vs 6 → AreEntriesOf (a ∷ b ∷ c ∷ d ∷ e ∷ f ∷ g ∷ []) h
entries-of-seven vs h a b c d e f g fits are ia ib ic id ie if_ ig =
    each-of-seven (λ k. slice_index (a ∷ b ∷ c ∷ d ∷ e ∷ f ∷ g ∷ []) k ≡ slot (neg_ℤ (pos 1024)) 2047 (h (9 + k)))
    (one 0 a (omega arith) ia) (one 1 b (omega arith) ib) (one 2 c (omega arith) ic) (one 3 d (omega arith) id) (one 4 e (omega arith) ie) (one 5 f (omega arith) if_) (one 6 g (omega arith) ig)
  where
    one : (k n : ℕ) → k < 7 → n ≡ entry_back vs k → n ≡ slot (neg_ℤ (pos 1024)) 2047 (h (9 + k))
    one k n less is = is ∙ ap (slot (neg_ℤ (pos 1024)) 2047) (to_z-of_z w32 (get_or vs k (pos 0)) (fits k less) ∙ are k less)

-- a value that is near has this entry
pub near-slot : (x : ℤ) (n : ℕ) → is_near x ≡ true → pos n ≡ x -ℤ neg_ℤ (pos 1024) → n ≡ slot (neg_ℤ (pos 1024)) 2047 x
near-slot x n near is = grind (arith, ints, nat_tests)

-- a list that is written back whole
pub written-back : (old new : List ℕ) (n : ℕ) → n ≡ length old → length new ≡ length old → take n (new ++ drop (length new) old) ≡ new
written-back old new n count long =
    ap (λ (xs : List ℕ). take n (new ++ xs)) (drop_all (length new) old (omega arith)) ∙ ap (take n) (append-nil new) ∙ take_all n new (omega arith)

-- Where sections of some sizes lie, one behind another.
use Rattle.std.proofs.Common.{◌≡◌, ℕ, zero, suc, ◌+◌, ◌<◌, ◌≤◌, List, [], ◌∷◌, ◌++◌, length, take, drop, map, get_or, Bool, true, false, Some, inl, inr, refl, sym, ap, ◌∙◌, arith, append_assoc}
use Rattle.std.specs.Prelude.{◌==◌, sum, slice_index, slice_get, nat_le, not, ◌||◌}
use Rattle.std.specs.List.{filter, list_all, list_any, range_with_len}
use Rattle.std.proofs.lemmas.List.{length-append}
use Rattle.std.proofs.lemmas.List.Folds.{list_any-append, list_any_none}
use Rattle.std.proofs.lemmas.List.FromFn.{get_or-map-range_with_len, length-map-range_with_len, take-map-range_with_len, map-range_with_len_more}
use Rattle.std.proofs.lemmas.List.Sums.{sum_by-cons}
use Rattle.std.proofs.lemmas.Bool.{cases_lt, eq-eqb, le-leb, ne_eqb}
use Rattle.std.proofs.Math.Seq.{drop-append_seam, take-append_seam}
use Rattle.jxl_codestream.specs.Orders.{IsOrder, left_of}
use Rattle.jxl_codestream.specs.Tocs.{IsToc, is_within}
use Rattle.jxl_codestream.specs.declared.toc.TocEntry.{TocEntry}
use Rattle.jxl_codestream.proofs.Entries.{in_order}
use Rattle.jxl_codestream_write.specs.StillFronts.{joined}
use Rattle.jxl_codestream_write.specs.Tables.{table_of}

abbrev pub entries_from : ℕ → List ℕ → List TocEntry
entries_from start [] = []
entries_from start (size ∷ sizes) = record { offset = start; size = size } ∷ entries_from (start + size) sizes

pub length-entries : (start : ℕ) (sizes : List ℕ) → length (entries_from start sizes) ≡ length sizes
length-entries start [] = refl
length-entries start (size ∷ sizes) = ap suc (length-entries (start + size) sizes)

entry_is : (sizes : List ℕ) (start k : ℕ) (d : TocEntry) → k < length sizes → get_or (entries_from start sizes) k d ≡ record { offset = start + sum (take k sizes); size = slice_index sizes k }
entry_is [] start k d lt = absurd (omega (arith, lt))
entry_is (size ∷ sizes) start zero d lt = let e : start ≡ start + 0 = omega arith in ap (λ (o : ℕ). record { offset = o; size = size }) e
entry_is (size ∷ sizes) start (suc k) d lt =
    let s = sum_by-cons (λ (x : ℕ). x) size (take k sizes) in
    let e : start + size + sum (take k sizes) ≡ start + sum (size ∷ take k sizes) = omega (arith, s) in
    entry_is sizes (start + size) k d (omega (arith, lt)) ∙ ap (λ (o : ℕ). record { offset = o; size = slice_index sizes k }) e

-- the numbers below n, one after another
abbrev own : ℕ → List ℕ
own n = map (λ (i : ℕ). i) (range_with_len 0 n)

own_at : (n i : ℕ) → i < n → get_or (own n) i 0 ≡ i
own_at n i lt = get_or-map-range_with_len (λ (j : ℕ). j) 0 n i i 0 lt (omega arith)

own_more : (n : ℕ) → own (n + 1) ≡ own n ++ n ∷ []
own_more n = map-range_with_len_more (λ (j : ℕ). j) 0 n n (omega arith)

length-own : (n : ℕ) → length (own n) ≡ n
length-own n = length-map-range_with_len (λ (j : ℕ). j) 0 n

-- none of them is n
not_own : (n : ℕ) → list_any (λ w. w == n) (own n) ≡ false
not_own n = list_any_none (λ w. w == n) (own n) (λ k d lt. let l = length-own n in let below : k < n = omega (arith, lt, l) in
    ne_eqb (get_or (own n) k d) n (λ e. let at = get_or-map-range_with_len (λ (j : ℕ). j) 0 n k k d below (omega arith) in omega (arith, e, at, below)))

or_true : (b : Bool) → (b || true) ≡ true
or_true true = refl
or_true false = refl

-- each number below n is
is_own : (n j : ℕ) → j < n → list_any (λ w. w == j) (own n) ≡ true
is_own zero j lt = absurd (omega (arith, lt))
is_own (suc n) j lt =
    let next : n + 1 ≡ suc n = omega arith in
    let more : list_any (λ w. w == j) (own (suc n)) ≡ (list_any (λ w. w == j) (own n) || ((n == j) || false)) =
    ap (λ t. list_any (λ w. w == j) t) (ap own (sym next) ∙ own_more n) ∙ list_any-append (λ w. w == j) (own n) (n ∷ []) in
    elim (cases_lt j n) [
      | inl below ↦ more ∙ ap (λ b. b || ((n == j) || false)) (is_own n j below)
      | inr above ↦ let same : n ≡ j = omega (arith, lt, above) in more ∙ ap (λ b. list_any (λ w. w == j) (own n) || (b || false)) (eq-eqb n j same) ∙ or_true (list_any (λ w. w == j) (own n))
    ]

-- the first number in a range that passes a test
first_passes : (p : ℕ → Bool) (k a m i : ℕ) → a + k ≡ i → ((j : ℕ) → a ≤ j → j < i → p j ≡ false) → p i ≡ true → k < m → slice_get (filter p (range_with_len a m)) 0 ≡ Some i
first_passes p k a zero i e before here lt = absurd (omega (arith, lt))
first_passes p zero a (suc m) i e before here lt =
    let same : i ≡ a = omega (arith, e) in
    let passes : p a ≡ true = ap p (sym same) ∙ here in
    rw passes (ap (λ (j : ℕ). Some j) (sym same))
first_passes p (suc k) a (suc m) i e before here lt =
    let fails : p a ≡ false = before a (omega arith) (omega (arith, e)) in
    rw fails (first_passes p k (a + 1) m i (omega (arith, e)) (λ j le below. before j (omega (arith, le)) below) here (omega (arith, lt)))

own_passes : (n i : ℕ) → i < n → slice_get (left_of n (own i)) 0 ≡ Some i
own_passes n i lt = first_passes (λ v. not (list_any (λ w. w == v) (own i))) i 0 n i (omega arith) (λ j le below. ap not (is_own i j below)) (ap not (not_own i)) lt

own_order : (n : ℕ) → IsOrder [] n (own n)
own_order n = record {
  length = length-own n;
  each = λ i lt.
      ap (λ t. slice_get (left_of n t) 0) (take-map-range_with_len (λ (j : ℕ). j) 0 n i (omega (arith, lt))) ∙ own_passes n i lt ∙ ap (λ (j : ℕ). Some j) (sym (own_at n i lt));
}

-- they are the entries of a table without a code
pub entries_of_table : (sizes : List ℕ) (start : ℕ) → IsToc (table_of sizes start) (entries_from start sizes)
entries_of_table sizes start =
    let n = length-entries start sizes in
    let m = length-own (length sizes) in
    in_order [] sizes start (entries_from start sizes) (entries_from start sizes) (own (length sizes)) (record { count = n; each = λ k d lt. entry_is sizes start k d (omega (arith, lt, n)) })
    (own_order (length sizes)) (omega (arith, n, m)) (λ i d lt. ap (λ k. get_or (entries_from start sizes) k d) (sym (own_at (length sizes) i (omega (arith, lt, m)))))

-- all of them lie in bytes that are long enough
pub all_within : (sizes : List ℕ) (start total : ℕ) → start + sum sizes ≤ total → list_all (is_within total) (entries_from start sizes) ≡ true
all_within [] start total le = refl
all_within (size ∷ sizes) start total le =
    let s = sum_by-cons (λ (x : ℕ). x) size sizes in
    let here : nat_le (start + size) total ≡ true = le-leb (start + size) total (omega (arith, s, le)) in
    let later : list_all (is_within total) (entries_from (start + size) sizes) ≡ true = all_within sizes (start + size) total (omega (arith, s, le)) in
    rw (here, later) refl

-- sections that are joined have the bytes of all
pub length-joined : (sections : List (List ℕ)) → length (joined sections) ≡ sum (map length sections)
length-joined [] = refl
length-joined (section ∷ sections) =
    let l = length-append section (joined sections) in
    let s = sum_by-cons (λ (x : ℕ). x) (length section) (map length sections) in
    let m = length-joined sections in
    omega (arith, l, s, m)

-- at the places of sections that are joined are these sections
pub sections_are : (sections : List (List ℕ)) (before bytes : List ℕ) → bytes ≡ before ++ joined sections →
    map (λ e. take e.size (drop e.offset bytes)) (entries_from (length before) (map length sections)) ≡ sections
sections_are [] before bytes e = refl
sections_are (section ∷ sections) before bytes e =
    let first : take (length section) (drop (length before) bytes) ≡ section =
    ap (λ v. take (length section) (drop (length before) v)) e ∙ ap (take (length section)) (drop-append_seam before (section ++ joined sections)) ∙ take-append_seam section (joined sections) in
    let l : length (before ++ section) ≡ length before + length section = length-append before section in
    let more = sections_are sections (before ++ section) bytes (e ∙ sym (append_assoc before section (joined sections))) in
    ap (λ x. x ∷ map (λ (t : TocEntry). take t.size (drop t.offset bytes)) (entries_from (length before + length section) (map length sections))) first
    ∙ ap (λ xs. section ∷ xs) (ap (λ (n : ℕ). map (λ (t : TocEntry). take t.size (drop t.offset bytes)) (entries_from n (map length sections))) (sym l) ∙ more)

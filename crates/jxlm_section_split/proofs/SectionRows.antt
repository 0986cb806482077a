-- Sections in a row: one that is split off, and one more behind others.
use Rattle.std.proofs.Common.{◌≡◌, ℕ, zero, suc, ◌+◌, ◌-◌, ◌<◌, ◌≤◌, ◌^◌, ◌⊎◌, inl, inr, List, [], ◌∷◌, ◌++◌, length, map, take, drop, get_or, Bool, true, false, cond, nat_lt, IsTrue, refl, sym, ap, ◌∙◌, subst, arith, append_assoc, length-append}
use Rattle.std.specs.Int.{w32, to_le_bytes, from_le_bytes}
use Rattle.std.specs.List.{All, IsSplitAt, filter, flat_map, range_with_len}
use Rattle.std.proofs.lemmas.List.{append-nil, length-take-le, map-append, get_or_append_left, get_or-append_right}
use Rattle.std.proofs.lemmas.List.Concat.{flat_map-append}
use Rattle.std.proofs.lemmas.List.Elements.{All-append}
use Rattle.std.proofs.lemmas.List.FromFn.{filter_of_map_range_with_len_more}
use Rattle.std.proofs.lemmas.Bool.Decides.{nat_tests}
use Rattle.std.proofs.lemmas.Nat.{le_bytes_4, from_le_bytes-to_le_bytes_4}
use Rattle.jxlm_bits.specs.Bits.{bytes_of}
use Rattle.jxlm_groups.specs.Counts.{group_count}
use Rattle.jxlm_groups.specs.declared.part.Kind.TheVariants as kinds
use Rattle.jxlm_groups.specs.declared.part.SectionPart.{SectionPart}
use Rattle.jxlm_groups.specs.declared.pass.Pass.{Pass}
use Rattle.jxl_modular.specs.Image.{Image, coded_list}
use Rattle.jxl_modular.specs.declared.sections.Section.{Section}
use Rattle.jxlm_section_split.specs.CutPicture.{AreNumbered, StandBefore, groups_in_order, lf_groups, one_pass, pass_groups, with_length, with_samples}
use Rattle.std.specs.Prelude.{IsFalse}
use Rattle.std.proofs.lemmas.List.{length-map}
use Rattle.jxlm_bits.specs.ErrorKind.{BadSqueeze, Eof, kind_of}
use Rattle.jxlm_bits.specs.declared.error.Error.{Error}
use Rattle.jxlm_groups.specs.Cutting.{can_cut}
use Rattle.jxlm_transform.proofs.Failures.{unless_so}
use Rattle.jxlm_section_split.specs.CutErrors.{EndsEarly, IsSplit, IsTruncated}
use Rattle.jxlm_section_split.specs.Splitting.{AreAdded, AreOfGroups, IsOfGlobal, IsOfGroup, ReadingFails}
use Rattle.jxlm_section_split.specs.Inner.Added.{AddingFails}

-- the bytes of sections in a row
abbrev pub in_a_row : List Section → List ℕ
in_a_row sections = flat_map (λ s. with_length (bytes_of s.bits)) sections

-- ---- one section

-- a list is its first four elements and the others
front_and_rest : (n : ℕ) (bytes : List ℕ) → bytes ≡ take n bytes ++ drop n bytes
front_and_rest zero bytes = refl
front_and_rest (suc n) [] = refl
front_and_rest (suc n) (b ∷ bs) = ap (λ xs. b ∷ xs) (front_and_rest n bs)

-- the first of some bytes are bytes
small_take : (n : ℕ) (xs : List ℕ) → ((i : ℕ) → get_or xs i 0 < 256) → (i : ℕ) → get_or (take n xs) i 0 < 256
small_take zero xs small zero = omega arith
small_take zero xs small (suc i) = omega arith
small_take (suc n) [] small zero = omega arith
small_take (suc n) [] small (suc i) = omega arith
small_take (suc n) (x ∷ xs) small zero = small 0
small_take (suc n) (x ∷ xs) small (suc i) = small_take n xs (λ k. small (suc k)) i

pub split_made : (bytes four behind section rest : List ℕ) (n : ℕ) → ((i : ℕ) → get_or bytes i 0 < 256) → four ≡ take 4 bytes → behind ≡ drop 4 bytes → length behind + 4 ≡ length bytes →
    n ≡ from_le_bytes w32 four → n < 2 ^ 32 → IsSplitAt behind n section rest → IsSplit bytes section rest
split_made bytes four behind section rest n bytes_small front back many is below split =
    let small : (i : ℕ) → get_or four i 0 < 256 = subst (λ (xs : List ℕ). (i : ℕ) → get_or xs i 0 < 256) (sym front) (small_take 4 bytes bytes_small) in
    let count : length four ≡ 4 = ap length front ∙ length-take-le 4 bytes (omega (arith, many)) in
    let written : to_le_bytes w32 n ≡ four = le_bytes_4 four n count small is in
    let long : length section ≡ n = split.3 in
    let parts : behind ≡ section ++ rest = front_and_rest n behind ∙ ap (λ s. s ++ drop n behind) (sym split.1) ∙ ap (λ r. section ++ r) (sym split.2) in
    record {
      row = front_and_rest 4 bytes ∙ ap (λ f. f ++ drop 4 bytes) (sym front) ∙ ap (λ b. four ++ b) (sym back) ∙ ap (λ b. four ++ b) parts
          ∙ ap (λ f. f ++ (section ++ rest)) (sym written ∙ ap (λ m. to_le_bytes w32 m) (sym long)) ∙ sym (append_assoc (to_le_bytes w32 (length section)) section rest);
      fits = omega (arith, long, below);
    }

-- the four bytes of a number, and what comes after them
head_of : (n : ℕ) (xs : List ℕ) → take 4 (to_le_bytes w32 n ++ xs) ≡ to_le_bytes w32 n
head_of n xs = refl

tail_of : (n : ℕ) (xs : List ℕ) → drop 4 (to_le_bytes w32 n ++ xs) ≡ xs
tail_of n xs = refl

split_row : (bytes section rest : List ℕ) → IsSplit bytes section rest → bytes ≡ to_le_bytes w32 (length section) ++ (section ++ rest)
split_row bytes section rest h = h.row ∙ append_assoc (to_le_bytes w32 (length section)) section rest

four_long : (n : ℕ) → length (to_le_bytes w32 n) ≡ 4
four_long n = refl

pub none_in_three : (bytes : List ℕ) → length bytes < 4 → IsTruncated bytes
none_in_three bytes few section rest h =
    let row = ap length (split_row bytes section rest h) in
    let count = length-append (to_le_bytes w32 (length section)) (section ++ rest) in
    omega (arith, row, count, four_long (length section), few)

pub none_in_few : (bytes four behind : List ℕ) (n : ℕ) → four ≡ take 4 bytes → behind ≡ drop 4 bytes → n ≡ from_le_bytes w32 four → length behind < n → IsTruncated bytes
none_in_few bytes four behind n front back is few section rest h =
    let row = split_row bytes section rest h in
    let head : four ≡ to_le_bytes w32 (length section) = front ∙ ap (take 4) row ∙ head_of (length section) (section ++ rest) in
    let same : n ≡ length section = is ∙ ap (from_le_bytes w32) head ∙ from_le_bytes-to_le_bytes_4 (length section) h.fits in
    let tail : length behind ≡ length (section ++ rest) = ap length (back ∙ ap (drop 4) row ∙ tail_of (length section) (section ++ rest)) in
    omega (arith, same, tail, length-append section rest, few)

-- ---- more sections

pub none_added : (before : List Section) (left : List ℕ) → AreAdded [] before left before left
none_added before left = record {
  more = [];
  in_order = sym (append-nil before);
  parts_are = refl;
  stand = record { row = refl; fit = λ k d within. absurd (omega (arith, within)) };
  groups = λ k d within. absurd (omega (arith, within));
}

is_behind : (m k : ℕ) → (m ≤ k) ⊎ (k < m)
is_behind zero k = inl (omega arith)
is_behind (suc m) zero = inr (omega arith)
is_behind (suc m) (suc k) = elim (is_behind m k) [ inl h ↦ inl (omega (arith, h)) | inr h ↦ inr (omega (arith, h)) ]

AreOfGroups-append : (n : ℕ) (xs ys : List Section) → AreOfGroups n xs → AreOfGroups (n + length xs) ys → AreOfGroups n (xs ++ ys)
AreOfGroups-append n xs ys p q k d within =
    elim (is_behind (length xs) k) [
      | inl behind ↦
          let at : get_or (xs ++ ys) k d ≡ get_or ys (k - length xs) d = get_or-append_right xs ys (length xs) k d refl behind in
          let place : (n + length xs) + (k - length xs) ≡ n + k = omega (arith, behind) in
          let inside : k - length xs < length ys = omega (arith, within, behind, length-append xs ys) in
          subst (λ (s : Section). IsOfGroup (n + k) s) (sym at) (subst (λ (m : ℕ). IsOfGroup m (get_or ys (k - length xs) d)) place (q (k - length xs) d inside))
      | inr first ↦ subst (λ (s : Section). IsOfGroup (n + k) s) (sym (get_or_append_left xs ys d k first)) (p k d first)
    ]

pub added_then : (ps qs : List SectionPart) (before : List Section) (left : List ℕ) (between : List Section) (there : List ℕ) (after : List Section) (rest : List ℕ) →
    AreAdded ps before left between there → AreAdded qs between there after rest → AreAdded (ps ++ qs) before left after rest
added_then ps qs before left between there after rest p q =
    let count : length between ≡ length before + length p.more = ap length p.in_order ∙ length-append before p.more in
    record {
      more = p.more ++ q.more;
      in_order = q.in_order ∙ ap (λ s. s ++ q.more) p.in_order ∙ append_assoc before p.more q.more;
      parts_are = map-append (λ (s : Section). s.part) p.more q.more ∙ ap (λ l. l ++ map (λ (s : Section). s.part) q.more) p.parts_are ∙ ap (λ l. ps ++ l) q.parts_are;
      stand = record {
        row = p.stand.row ∙ ap (λ r. in_a_row p.more ++ r) q.stand.row ∙ sym (append_assoc (in_a_row p.more) (in_a_row q.more) rest)
            ∙ ap (λ r. r ++ rest) (sym (flat_map-append (λ (s : Section). with_length (bytes_of s.bits)) p.more q.more));
        fit = All-append (λ (s : Section). length (bytes_of s.bits) < 2 ^ 32) p.more q.more p.stand.fit q.stand.fit;
      };
      groups = AreOfGroups-append (length before) p.more q.more p.groups (subst (λ (n : ℕ). AreOfGroups n q.more) count q.groups);
    }

-- what holds of the one element, at each place
one_fits : (s : Section) → length (bytes_of s.bits) < 2 ^ 32 → All (λ (t : Section). length (bytes_of t.bits) < 2 ^ 32) (s ∷ [])
one_fits s fits zero d within = fits
one_fits s fits (suc k) d within = absurd (omega (arith, within))

one_group : (n : ℕ) (s : Section) → IsOfGroup n s → AreOfGroups n (s ∷ [])
one_group n s group zero d within = subst (λ (m : ℕ). IsOfGroup m s) (omega arith) group
one_group n s group (suc k) d within = absurd (omega (arith, within))

-- the section that was split off, and pushed
pub one_added : (part : SectionPart) (before after : List Section) (left rest : List ℕ) (s : Section) → s.part ≡ part → after ≡ before ++ s ∷ [] → IsSplit left (bytes_of s.bits) rest →
    IsOfGroup (length before) s → AreAdded (part ∷ []) before left after rest
one_added part before after left rest s named pushed split group = record {
  more = s ∷ [];
  in_order = pushed;
  parts_are = ap (λ p. p ∷ []) named;
  stand = record {
    row = split.row ∙ ap (λ b. b ++ rest) (sym (append-nil (with_length (bytes_of s.bits))));
    fit = one_fits s split.fits;
  };
  groups = one_group (length before) s group;
}

-- ---- the first n groups, as far as they have samples

module _ {X : Type 0} (p : X → Bool) (f : ℕ → X) (n : ℕ) where
  pub passed_over : p (f n) ≡ false → filter p (map f (range_with_len 0 (n + 1))) ≡ filter p (map f (range_with_len 0 n))
  passed_over none = filter_of_map_range_with_len_more p f 0 n n (omega arith) ∙ rw none (append-nil (filter p (map f (range_with_len 0 n))))

  pub taken : p (f n) ≡ true → filter p (map f (range_with_len 0 (n + 1))) ≡ filter p (map f (range_with_len 0 n)) ++ f n ∷ []
  taken some = filter_of_map_range_with_len_more p f 0 n n (omega arith) ∙ rw some refl

-- whether a part of n samples is passed over, as the code asks
pub has_some : (b : Bool) (m n : ℕ) → ((b ≡ true → m ≡ 0) × (m ≡ 0 → b ≡ true)) → m ≡ n → b ≡ false → nat_lt 0 n ≡ true
has_some b m zero h same is = let e : b ≡ true = h.1 same in cc
has_some b m (suc n) h same is = grind (arith, nat_tests)

pub has_none : (b : Bool) (m n : ℕ) → ((b ≡ true → m ≡ 0) × (m ≡ 0 → b ≡ true)) → m ≡ n → b ≡ true → nat_lt 0 n ≡ false
has_none b m zero h same is = refl
has_none b m (suc n) h same is = let e : m ≡ 0 = h.0 is in absurd (omega (arith, e, same))

-- all groups of an image, LF groups before the others
pub all_added : {S D : Type 0} (x x' : Image S D) (ps : List Pass) (before begun : List Section) (left : List ℕ) (between : List Section) (there : List ℕ) (after : List Section) (rest : List ℕ) →
    x' ≡ x → ps ≡ one_pass → begun ≡ before →
    AreAdded (with_samples x' (lf_groups (group_count x'.group_dim ps (coded_list x') kinds.Lf))) begun left between there →
    AreAdded (with_samples x' (pass_groups (group_count x'.group_dim ps (coded_list x') (kinds.Pass 0)))) between there after rest → AreAdded (groups_in_order x) before left after rest
all_added {S} {D} x x' ps before begun left between there after rest image passes start p q =
    let groups : List Pass → List SectionPart = λ l. with_samples x' (lf_groups (group_count x'.group_dim l (coded_list x') kinds.Lf)) ++ with_samples x' (pass_groups (group_count x'.group_dim l (coded_list x') (kinds.Pass 0))) in
    let both : AreAdded (groups ps) begun left after rest = added_then _ _ begun left between there after rest p q in
    let cut : AreAdded (groups_in_order x') begun left after rest = subst (λ (l : List Pass). AreAdded (groups l) begun left after rest) passes both in
    subst (λ (b : List Section). AreAdded (groups_in_order x) b left after rest) start (subst (λ (y : Image S D). AreAdded (groups_in_order y) begun left after rest) image cut)

-- ---- all sections

some_before : (n : ℕ) → nat_lt 0 (suc n) ≡ true
some_before n = grind (arith, nat_tests)

-- that of the global part is the first, and those of groups come after it
pub all_numbered : (global : Section) (groups : List Section) → IsOfGlobal global → AreOfGroups 1 groups → AreNumbered (global ∷ groups)
all_numbered global groups first more zero d within = (first.stream, first.nested, λ some. absurd (omega (arith, some)))
all_numbered global groups first more (suc n) d within =
    let next : 1 + n ≡ suc n = omega arith in
    let group : IsOfGroup (suc n) (get_or groups n d) = subst (λ (m : ℕ). IsOfGroup m (get_or groups n d)) next (more n d (omega (arith, within))) in
    (group.stream, group.nested ∙ sym (some_before n), λ some. group.begins)

-- ---- a section that is truncated

-- the bytes that were left have the sections that were added, and then others
stand_both : (ps : List SectionPart) (before : List Section) (left : List ℕ) (between : List Section) (there : List ℕ) (more : List Section) (rest : List ℕ) (p : AreAdded ps before left between there) →
    StandBefore there more rest → StandBefore left (p.more ++ more) rest
stand_both ps before left between there more rest p q = record {
  row = p.stand.row ∙ ap (λ r. in_a_row p.more ++ r) q.row ∙ sym (append_assoc (in_a_row p.more) (in_a_row more) rest)
      ∙ ap (λ r. r ++ rest) (sym (flat_map-append (λ (s : Section). with_length (bytes_of s.bits)) p.more more));
  fit = All-append (λ (s : Section). length (bytes_of s.bits) < 2 ^ 32) p.more more p.stand.fit q.fit;
}

pub ends_later : (ps : List SectionPart) (before : List Section) (left : List ℕ) (between : List Section) (there : List ℕ) (m n : ℕ) (e : Error) → AreAdded ps before left between there → length ps + m ≤ n →
    AddingFails m there e → AddingFails n left e
ends_later ps before left between there m n e p le fails =
    let count : length p.more ≡ length ps = sym (length-map p.more (λ (s : Section). s.part)) ∙ ap length p.parts_are in
    unless_so (kind_of e) ((kind_of e ≡ Eof) × EndsEarly m there) ((kind_of e ≡ Eof) × EndsEarly n left)
    (λ h. (
      h.0,
      record {
        sections = p.more ++ h.1.sections;
        fewer = let few = h.1.fewer in omega (arith, le, few, count, length-append p.more h.1.sections);
        left = h.1.left;
        stand = stand_both ps before left between there h.1.sections h.1.left p h.1.stand;
        truncated = h.1.truncated;
      },
    )) fails

module _ {X : Type 0} (p : X → Bool) (f : ℕ → X) where
  abbrev many : ℕ → ℕ
  many n = length (filter p (map f (range_with_len 0 n)))

  one_grows : (n : ℕ) → many n ≤ many (n + 1)
  one_grows n =
      let e : many (n + 1) ≡ length (filter p (map f (range_with_len 0 n)) ++ cond (p (f n)) (f n ∷ []) []) = ap length (filter_of_map_range_with_len_more p f 0 n n (omega arith)) in
      let l = length-append (filter p (map f (range_with_len 0 n))) (cond (p (f n)) (f n ∷ []) []) in
      omega (arith, e, l)

  grows : (m d : ℕ) → many m ≤ many (m + d)
  grows m zero = let same : many (m + 0) ≡ many m = ap many (omega arith) in omega (arith, same)
  grows m (suc d) =
      let a = grows m d in
      let b = one_grows (m + d) in
      let c : many (m + d + 1) ≡ many (m + suc d) = ap many (omega arith) in
      omega (arith, a, b, c)

  -- there are more up to a later number, where this one counts
  pub counts_more : (k n : ℕ) → k < n → p (f k) ≡ true → many k + 1 ≤ many n
  counts_more k n lt some =
      let e : many (k + 1) ≡ length (filter p (map f (range_with_len 0 k)) ++ f k ∷ []) = ap length (taken p f k some) in
      let l = length-append (filter p (map f (range_with_len 0 k))) (f k ∷ []) in
      let g = grows (k + 1) (n - (k + 1)) in
      let c : many (k + 1 + (n - (k + 1))) ≡ many n = ap many (omega (arith, lt)) in
      omega (arith, e, l, g, c)

module _ {S D : Type 0} (x : Image S D) (left : List ℕ) (e : Error) (cut : IsTrue (can_cut x.group_dim (coded_list x))) where
  failed : AddingFails (length (groups_in_order x)) left e → ReadingFails x left e
  failed fails = unless_so (kind_of e) ((kind_of e ≡ Eof) × EndsEarly (length (groups_in_order x)) left)
      (((kind_of e ≡ BadSqueeze) × IsFalse (can_cut x.group_dim (coded_list x))) ⊎ ((kind_of e ≡ Eof) × IsTrue (can_cut x.group_dim (coded_list x)) × EndsEarly (length (groups_in_order x)) left))
      (λ h. inr (h.0, cut, h.1)) fails

  low_fails : AddingFails (length (with_samples x (lf_groups (group_count x.group_dim one_pass (coded_list x) kinds.Lf)))) left e → ReadingFails x left e
  low_fails fails =
      let begun : AreAdded [] [] left [] left = none_added [] left in
      let all = length-append (with_samples x (lf_groups (group_count x.group_dim one_pass (coded_list x) kinds.Lf))) (with_samples x (pass_groups (group_count x.group_dim one_pass (coded_list x) (kinds.Pass 0)))) in
      failed (ends_later [] [] left [] left (length (with_samples x (lf_groups (group_count x.group_dim one_pass (coded_list x) kinds.Lf)))) (length (groups_in_order x)) e begun (omega (arith, all)) fails)

  high_fails : (begun between : List Section) (there : List ℕ) → AreAdded (with_samples x (lf_groups (group_count x.group_dim one_pass (coded_list x) kinds.Lf))) begun left between there →
      AddingFails (length (with_samples x (pass_groups (group_count x.group_dim one_pass (coded_list x) (kinds.Pass 0))))) there e → ReadingFails x left e
  high_fails begun between there p fails =
      let all = length-append (with_samples x (lf_groups (group_count x.group_dim one_pass (coded_list x) kinds.Lf))) (with_samples x (pass_groups (group_count x.group_dim one_pass (coded_list x) (kinds.Pass 0)))) in
      failed (ends_later (with_samples x (lf_groups (group_count x.group_dim one_pass (coded_list x) kinds.Lf))) begun left between there
      (length (with_samples x (pass_groups (group_count x.group_dim one_pass (coded_list x) (kinds.Pass 0))))) (length (groups_in_order x)) e p (omega (arith, all)) fails)

-- the LF groups, and the other groups, of an image as it is held
pub low_failed : {S D : Type 0} (x x' : Image S D) (ps : List Pass) (left : List ℕ) (e : Error) → x' ≡ x → ps ≡ one_pass → IsTrue (can_cut x'.group_dim (coded_list x')) →
    AddingFails (length (with_samples x' (lf_groups (group_count x'.group_dim ps (coded_list x') kinds.Lf)))) left e → ReadingFails x left e
low_failed {S} {D} x x' ps left e image passes cut fails =
    subst (λ (y : Image S D). ReadingFails y left e) image
    (low_fails x' left e cut (subst (λ (l : List Pass). AddingFails (length (with_samples x' (lf_groups (group_count x'.group_dim l (coded_list x') kinds.Lf)))) left e) passes fails))

pub high_failed : {S D : Type 0} (x x' : Image S D) (ps : List Pass) (left : List ℕ) (e : Error) (begun between : List Section) (there : List ℕ) → x' ≡ x → ps ≡ one_pass → IsTrue (can_cut x'.group_dim (coded_list x')) →
    AreAdded (with_samples x' (lf_groups (group_count x'.group_dim ps (coded_list x') kinds.Lf))) begun left between there →
    AddingFails (length (with_samples x' (pass_groups (group_count x'.group_dim ps (coded_list x') (kinds.Pass 0))))) there e → ReadingFails x left e
high_failed {S} {D} x x' ps left e begun between there image passes cut added fails =
    subst (λ (y : Image S D). ReadingFails y left e) image
    (high_fails x' left e cut begun between there
    (subst (λ (l : List Pass). AreAdded (with_samples x' (lf_groups (group_count x'.group_dim l (coded_list x') kinds.Lf))) begun left between there) passes added)
    (subst (λ (l : List Pass). AddingFails (length (with_samples x' (pass_groups (group_count x'.group_dim l (coded_list x') (kinds.Pass 0))))) there e) passes fails))

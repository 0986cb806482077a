-- Lists in which each element comes before all later ones, and groups in the order of their sections.
use Rattle.std.proofs.Common.{◌≡◌, ◌≢◌, ℕ, zero, suc, ◌+◌, ◌*◌, ◌<◌, ◌⊎◌, inl, inr, Bool, true, false, cond, List, [], ◌∷◌, ◌++◌, map, get_or, nat_lt, if◌then◌else◌, Option, Some, None, refl, sym, ap, arith}
use Rattle.std.specs.Prelude.{◌&&◌, slice_get}
use Rattle.std.specs.Option.{option_map, option_map_or}
use Rattle.std.specs.List.{All, AllPairs, filter, flat_map, range_with_len}
use Rattle.std.proofs.lemmas.List.Elements.{All-head, All-tail, All-append, All-filter}
use Rattle.std.proofs.lemmas.List.Kept.{AllPairs-cons}
use Rattle.std.proofs.lemmas.Bool.{ltb-true}
use Rattle.jxlm_groups.specs.declared.part.SectionPart.{SectionPart}
use Rattle.jxlm_groups.specs.declared.part.SectionPart.TheVariants as parts
use Rattle.jxl_modular.specs.declared.sections.Section.{Section}
use Rattle.jxlm_section_split.proofs.PartLists.{each_of_range, each_section}
use Rattle.jxlm_bits.specs.Bits.{bytes_of}
use Rattle.jxl_codestream.specs.Layouts.{Layout, has_part, section_number, stream_index}
use Rattle.jxl_codestream.specs.LayoutParts.{parts_of}
use Rattle.jxl_lossless.proofs.Passes.{all_passes}
use Rattle.jxl_lossless.proofs.Places.{has_section}
use Rattle.jxl_lossless.specs.Inner.Listing.{IsOfGroup}
use Rattle.jxl_lossless.specs.Places.{lent}
use Rattle.jxl_lossless.specs.declared.still.places.Places.{Places}

module _ {X : Type 0} (R : X → X → Type 0) where
  abbrev pub Ordered : List X → Type 0
  Ordered [] = Unit {0}
  Ordered (x ∷ xs) = All (R x) xs × Ordered xs

  pub ordered_append : (xs ys : List X) → Ordered xs → Ordered ys → All (λ x. All (R x) ys) xs → Ordered (xs ++ ys)
  ordered_append [] ys p q r = q
  ordered_append (x ∷ xs) ys p q r = (
    All-append (R x) xs ys p.0 (All-head (λ x. All (R x) ys) x xs r),
    ordered_append xs ys p.1 q (All-tail (λ x. All (R x) ys) x xs r),
  )

  filter_one : (p : X → Bool) (b : Bool) (x : X) (xs : List X) → All (R x) xs → Ordered (filter p xs) → Ordered (cond b (x ∷ filter p xs) (filter p xs))
  filter_one p true x xs d a = (All-filter p (R x) xs d, a)
  filter_one p false x xs d a = a

  pub ordered_filter : (p : X → Bool) (xs : List X) → Ordered xs → Ordered (filter p xs)
  ordered_filter p [] a = tt
  ordered_filter p (x ∷ xs) a = filter_one p (p x) x xs a.0 (ordered_filter p xs a.1)

  pub ordered_range : (f : ℕ → X) → ((j k : ℕ) → j < k → R (f j) (f k)) → (a n : ℕ) → Ordered (map f (range_with_len a n))
  ordered_range f up a zero = tt
  ordered_range f up a (suc n) = (each_of_range f (R (f a)) (a + 1) n (λ k low high. up a k (omega (arith, low))), ordered_range f up (a + 1) n)

  pub ordered_passes : (f : ℕ → List X) → ((k : ℕ) → Ordered (f k)) → ((a b : ℕ) → a < b → All (λ x. All (R x) (f b)) (f a)) → (a n : ℕ) → Ordered (flat_map f (range_with_len a n))
  ordered_passes f own apart a zero = tt
  ordered_passes f own apart a (suc n) = ordered_append (f a) (flat_map f (range_with_len (a + 1) n)) (own a) (ordered_passes f own apart (a + 1) n) (λ i d lt.
      all_passes f (R (get_or (f a) i d)) (a + 1) n (λ b le. apart a b (omega (arith, le)) i d lt))

-- a part's section comes before another's
abbrev pub Before : SectionPart → SectionPart → Type 0
Before parts.Global (parts.Lf k) = Unit {0}
Before parts.Global (parts.Pass p k) = Unit {0}
Before (parts.Lf j) (parts.Lf k) = j < k
Before (parts.Lf j) (parts.Pass p k) = Unit {0}
Before (parts.Pass p j) (parts.Pass q k) = (p < q) ⊎ ((p ≡ q) × (j < k))
Before one other = ⊥

lf_of : (j k : ℕ) → parts.Lf j ≡ parts.Lf k → j ≡ k
lf_of j k e = cc

pass_of : (p q j k : ℕ) → parts.Pass p j ≡ parts.Pass q k → p ≡ q
pass_of p q j k e = cc

group_of : (p q j k : ℕ) → parts.Pass p j ≡ parts.Pass q k → j ≡ k
group_of p q j k e = cc

-- so they are two parts
pub before_unlike : (a b : SectionPart) → Before a b → a ≢ b
before_unlike parts.Global parts.Global h e = h
before_unlike parts.Global (parts.Lf k) h e = cc
before_unlike parts.Global (parts.Pass p k) h e = cc
before_unlike (parts.Lf j) parts.Global h e = h
before_unlike (parts.Lf j) (parts.Lf k) h e = let same = lf_of j k e in omega (arith, same, h)
before_unlike (parts.Lf j) (parts.Pass p k) h e = cc
before_unlike (parts.Pass p j) parts.Global h e = h
before_unlike (parts.Pass p j) (parts.Lf k) h e = h
before_unlike (parts.Pass p j) (parts.Pass q k) (inl h) e = let same = pass_of p q j k e in omega (arith, same, h)
before_unlike (parts.Pass p j) (parts.Pass q k) (inr h) e = let same = group_of p q j k e in let lt = h.1 in omega (arith, same, lt)

-- sections of parts in order
pub sections_ordered : (ss : List Section) → Ordered Before (map (λ s. s.part) ss) → AllPairs (λ s t. Before s.part t.part) ss
sections_ordered [] a = λ i j d lt within. absurd (omega (arith, within))
sections_ordered (s ∷ ss) a = AllPairs-cons (λ s t. Before s.part t.part) s ss (each_section (Before s.part) ss a.0) (sections_ordered ss a.1)

later_pass : (n p q j k : ℕ) → p < q → j < n → p * n + j < q * n + k
later_pass n p zero j k lt low = absurd (omega (arith, lt))
later_pass n zero (suc q) j k lt low = omega (arith, low)
later_pass n (suc p) (suc q) j k lt low = let rest = later_pass n p q j k (omega (arith, lt)) low in omega (arith, rest)

module _ (l : Layout) where
  group_below : (b c : Bool) → (b && c) ≡ true → c ≡ true
  group_below true c e = e
  group_below false c e = cc

  -- the index of the stream of an earlier part that the frame has is smaller
  rises : (a b : SectionPart) → has_part l a ≡ true → Before a b → stream_index l a < stream_index l b
  rises parts.Global parts.Global has h = absurd h
  rises parts.Global (parts.Lf k) has h = omega arith
  rises parts.Global (parts.Pass p k) has h = omega arith
  rises (parts.Lf j) parts.Global has h = absurd h
  rises (parts.Lf j) (parts.Lf k) has h = omega (arith, h)
  rises (parts.Lf j) (parts.Pass p k) has h =
      let lt : j < l.lf_groups = ltb-true j l.lf_groups has in
      omega (arith, lt)
  rises (parts.Pass p j) parts.Global has h = absurd h
  rises (parts.Pass p j) (parts.Lf k) has h = absurd h
  rises (parts.Pass p j) (parts.Pass q k) has (inl lt) =
      let below : j < l.groups = ltb-true j l.groups (group_below (nat_lt p l.passes) (nat_lt j l.groups) has) in
      let rest = later_pass l.groups p q j k lt below in
      omega (arith, rest)
  rises (parts.Pass p j) (parts.Pass q k) has (inr h) =
      let same : p * l.groups ≡ q * l.groups = ap (λ n. n * l.groups) h.0 in
      let lt = h.1 in
      omega (arith, same, lt)

-- the index that is found is the one that is looked for
with_index : (n m : ℕ) (bytes : List ℕ) (found : Option (List ℕ)) → option_map {U = List ℕ × ℕ} (λ (b : List ℕ). (b, n)) found ≡ Some (bytes, m) → m ≡ n
with_index n m bytes None e = cc
with_index n m bytes (Some b) e = sym (ap (λ (o : Option (List ℕ × ℕ)). option_map_or (λ (p : List ℕ × ℕ). p.1) o n) e)

module _ (x : Places) where
  abbrev cut : Layout
  cut = parts_of x.layout.now

  -- a section has the index of the stream of its part
  its_stream : (s : Section) → IsOfGroup x s → s.stream_index ≡ stream_index cut s.part
  its_stream s of = by (has_part cut s.part) refl of.there where
    by : (b : Bool) → has_part cut s.part ≡ b →
        (if b then option_map {U = List ℕ × ℕ} (λ (bytes : List ℕ). (bytes, stream_index cut s.part)) (slice_get (lent x.sections.now) (section_number cut s.part)) else None) ≡ Some (bytes_of s.bits, s.stream_index) →
        s.stream_index ≡ stream_index cut s.part
    by true is e = with_index (stream_index cut s.part) s.stream_index (bytes_of s.bits) (slice_get (lent x.sections.now) (section_number cut s.part)) e
    by false is e = cc

  stream_rises : (s t : Section) → IsOfGroup x s → IsOfGroup x t → Before s.part t.part → s.stream_index < t.stream_index
  stream_rises s t one other h =
      let lt = rises cut s.part t.part (has_section cut (lent x.sections.now) s.part (bytes_of s.bits, s.stream_index) one.there) h in
      let a = its_stream s one in
      let b = its_stream t other in
      omega (arith, lt, a, b)

  -- sections of groups in order come by rising index of their streams
  pub streams_rise : (ss : List Section) → All (IsOfGroup x) ss → Ordered Before (map (λ s. s.part) ss) → AllPairs (λ s t. s.stream_index < t.stream_index) ss
  streams_rise ss all order i j d lt within =
      stream_rises (get_or ss i d) (get_or ss j d) (all i d (omega (arith, lt, within))) (all j d within) (sections_ordered ss order i j d lt within)

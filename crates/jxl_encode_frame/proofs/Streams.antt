-- The streams of groups, in the order of their sections.
use Rattle.std.proofs.Common.{◌≡◌, ℕ, zero, suc, ◌+◌, ◌*◌, ◌<◌, inl, inr, Bool, true, false, List, get_or, nat_lt, if◌then◌else◌, Option, Some, None, sym, ap, arith}
use Rattle.std.specs.Prelude.{◌&&◌, slice_get, map}
use Rattle.std.specs.Option.{option_map, option_map_or}
use Rattle.std.specs.List.{All, AllPairs}
use Rattle.std.proofs.lemmas.Bool.{ltb-true}
use Rattle.jxlm_bits.specs.Bits.{bytes_of}
use Rattle.jxlm_groups.specs.declared.part.SectionPart.{SectionPart}
use Rattle.jxlm_groups.specs.declared.part.SectionPart.TheVariants as parts
use Rattle.jxl_modular.specs.declared.sections.Section.{Section}
use Rattle.jxl_codestream.specs.Layouts.{Layout, has_part, section_number, stream_index}
use Rattle.jxl_lossless.specs.Sections.{section_of}
use Rattle.jxl_lossless.proofs.Order.{Before, Ordered, sections_ordered}
use Rattle.jxl_lossless.proofs.Places.{has_section}

pub later_pass : (n p q j k : ℕ) → p < q → j < n → p * n + j < q * n + k
later_pass n p zero j k lt low = absurd (omega (arith, lt))
later_pass n zero (suc q) j k lt low = omega (arith, low)
later_pass n (suc p) (suc q) j k lt low = let rest = later_pass n p q j k (omega (arith, lt)) low in omega (arith, rest)

pub right_of : (b c : Bool) → (b && c) ≡ true → c ≡ true
right_of true c e = e
right_of false c e = cc

-- the index that is found is the one that is looked for
index_is : (n m : ℕ) (bytes : List ℕ) (found : Option (List ℕ)) → option_map {U = List ℕ × ℕ} (λ (b : List ℕ). (b, n)) found ≡ Some (bytes, m) → m ≡ n
index_is n m bytes None e = cc
index_is n m bytes (Some b) e = sym (ap (λ (o : Option (List ℕ × ℕ)). option_map_or (λ (p : List ℕ × ℕ). p.1) o n) e)

module _ (l : Layout) (sections : List (List ℕ)) where
  -- the index of the stream of an earlier part that the frame has is smaller
  rises : (a b : SectionPart) → has_part l a ≡ true → Before a b → stream_index l a < stream_index l b
  rises parts.Global parts.Global has h = absurd h
  rises parts.Global (parts.Lf k) has h = omega arith
  rises parts.Global (parts.Pass p k) has h = omega arith
  rises (parts.Lf j) parts.Global has h = absurd h
  rises (parts.Lf j) (parts.Lf k) has h = omega (arith, h)
  rises (parts.Lf j) (parts.Pass p k) has h =
      let lt : j < l.lf_groups = ltb-true j l.lf_groups has in
      omega (arith, lt)
  rises (parts.Pass p j) parts.Global has h = absurd h
  rises (parts.Pass p j) (parts.Lf k) has h = absurd h
  rises (parts.Pass p j) (parts.Pass q k) has (inl lt) =
      let below : j < l.groups = ltb-true j l.groups (right_of (nat_lt p l.passes) (nat_lt j l.groups) has) in
      let rest = later_pass l.groups p q j k lt below in
      omega (arith, rest)
  rises (parts.Pass p j) (parts.Pass q k) has (inr h) =
      let same : p * l.groups ≡ q * l.groups = ap (λ n. n * l.groups) h.0 in
      let lt = h.1 in
      omega (arith, same, lt)

  -- a section has the index of the stream of its part
  its_stream : (part : SectionPart) (bytes : List ℕ) (stream : ℕ) → section_of l sections part ≡ Some (bytes, stream) → stream ≡ stream_index l part
  its_stream part bytes stream e = by (has_part l part) e where
    by : (b : Bool) → (if b then option_map {U = List ℕ × ℕ} (λ (bytes : List ℕ). (bytes, stream_index l part)) (slice_get sections (section_number l part)) else None) ≡ Some (bytes, stream) → stream ≡ stream_index l part
    by true e = index_is (stream_index l part) stream bytes (slice_get sections (section_number l part)) e
    by false e = cc

  -- the section has the bytes and the stream that the frame has for its part
  abbrev pub IsFound : Section → Type 0
  IsFound s = section_of l sections s.part ≡ Some (bytes_of s.bits, s.stream_index)

  -- sections in order come by rising index of their streams
  pub streams_rise : (ss : List Section) → All IsFound ss → Ordered Before (map (λ s. s.part) ss) → AllPairs (λ s t. s.stream_index < t.stream_index) ss
  streams_rise ss all order i j d lt within =
      let s : Section = get_or ss i d in
      let t : Section = get_or ss j d in
      let one = all i d (omega (arith, lt, within)) in
      let other = all j d within in
      let up = rises s.part t.part (has_section l sections s.part (bytes_of s.bits, s.stream_index) one) (sections_ordered ss order i j d lt within) in
      let a = its_stream s.part (bytes_of s.bits) s.stream_index one in
      let b = its_stream t.part (bytes_of t.bits) t.stream_index other in
      omega (arith, up, a, b)

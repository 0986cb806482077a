-- Data whose orientation is set to 1.
use Rattle.std.proofs.Common.{◌≡◌, ◌≢◌, ℕ, ◌+◌, ◌*◌, ◌<◌, ◌≤◌, List, length, get_or, sym, ap, ◌∙◌, subst, inl, arith}
use Rattle.std.proofs.Math.ListN.{set, length-set}
use Rattle.std.proofs.lemmas.List.{get_or-set_other, get_or-set_same, set-get_or}
use Rattle.jxl_exif.specs.Tiff.{IsFirst, IsShort, entry_of, u16_at, u16_of, u32_at}
use Rattle.jxl_exif.specs.Orientations.{HasOneAt, IsOrientationOf, Says}
use Rattle.jxl_exif.specs.declared.tiff.ByteOrder.{ByteOrder}
use Rattle.jxl_exif.specs.declared.tiff.ByteOrder.TheVariants.{Little, Big}
use Rattle.jxl_exif.proofs.Places.{one_orientation, said_value}

-- two bytes of 1 are those of 1
first_of_one : (order : ByteOrder) (a b x y : ℕ) → u16_of order a b ≡ 1 → u16_of order x y ≡ 1 → a ≡ x
first_of_one Little a b x y e h = omega (arith, e, h)
first_of_one Big a b x y e h = omega (arith, e, h)

second_of_one : (order : ByteOrder) (a b x y : ℕ) → u16_of order a b ≡ 1 → u16_of order x y ≡ 1 → b ≡ y
second_of_one Little a b x y e h = omega (arith, e, h)
second_of_one Big a b x y e h = omega (arith, e, h)

-- bytes that are set to what they are stay
pub same_when_one : (order : ByteOrder) (old : List ℕ) (at a b : ℕ) → u16_at order old at ≡ 1 → u16_of order a b ≡ 1 → set (set old at a) (at + 1) b ≡ old
same_when_one order old at a b was one =
    let x : a ≡ get_or old at 0 = first_of_one order a b (get_or old at 0) (get_or old (at + 1) 0) one was in
    let y : b ≡ get_or old (at + 1) 0 = second_of_one order a b (get_or old at 0) (get_or old (at + 1) 0) one was in
    ap (λ (v : ℕ). set (set old at v) (at + 1) b) x
    ∙ ap (λ (l : List ℕ). set l (at + 1) b) (set-get_or old at 0)
    ∙ ap (λ (v : ℕ). set old (at + 1) v) y
    ∙ set-get_or old (at + 1) 0

pub one_set : (order : ByteOrder) (old : List ℕ) (at a b : ℕ) → at + 4 ≤ length old → u16_of order a b ≡ 1 → HasOneAt order at old (set (set old at a) (at + 1) b)
one_set order old at a b within one =
    let long : length (set old at a) ≡ length old = length-set old at a in
    let here : at < length old = omega (arith, within) in
    let next : at + 1 < length (set old at a) = omega (arith, within, long) in
    let before : at ≢ at + 1 = omega arith in
    let x : get_or (set (set old at a) (at + 1) b) at 0 ≡ a = get_or-set_other (set old at a) (at + 1) at b 0 before ∙ get_or-set_same old at a 0 here in
    let y : get_or (set (set old at a) (at + 1) b) (at + 1) 0 ≡ b = get_or-set_same (set old at a) (at + 1) b 0 next in
    record {
      long = length-set (set old at a) (at + 1) b ∙ long;
      value = ap (λ (v : ℕ). u16_of order v (get_or (set (set old at a) (at + 1) b) (at + 1) 0)) x ∙ ap (λ (v : ℕ). u16_of order a v) y ∙ one;
      others = λ i not_first not_second. get_or-set_other (set old at a) (at + 1) i b 0 not_second ∙ get_or-set_other old at i a 0 not_first;
    }

module _ (order : ByteOrder) (at : ℕ) (old new : List ℕ) (h : HasOneAt order at old new) where
  -- what is before the place stays
  byte_same : (i : ℕ) → i < at → get_or new i 0 ≡ get_or old i 0
  byte_same i lt = h.others i (omega (arith, lt)) (omega (arith, lt))

  u16_same : (i : ℕ) → i + 1 < at → u16_at order new i ≡ u16_at order old i
  u16_same i lt =
      ap (λ (v : ℕ). u16_of order v (get_or new (i + 1) 0)) (byte_same i (omega (arith, lt)))
      ∙ ap (λ (v : ℕ). u16_of order (get_or old i 0) v) (byte_same (i + 1) lt)

  first_same : (ifd tag k : ℕ) → at ≡ entry_of ifd k + 8 → IsFirst order old ifd tag k → IsFirst order new ifd tag k
  first_same ifd tag k place f =
      let n : u16_at order new ifd ≡ u16_at order old ifd = u16_same ifd (omega (arith, place)) in
      record {
        entry = record { counted = subst (λ (m : ℕ). k < m) (sym n) f.entry.counted; within = subst (λ (m : ℕ). entry_of ifd k + 12 ≤ m) (sym h.long) f.entry.within };
        tagged = u16_same (entry_of ifd k) (omega (arith, place)) ∙ f.tagged;
        first = λ j lt e. f.first j lt (sym (u16_same (entry_of ifd j) (omega (arith, place, lt))) ∙ e);
      }

u32_same : (order : ByteOrder) (at : ℕ) (old new : List ℕ) (h : HasOneAt order at old new) (i : ℕ) → i + 3 < at → u32_at order new i ≡ u32_at order old i
u32_same Little at old new h i lt =
    let a = u16_same Little at old new h i (omega (arith, lt)) in
    let b = u16_same Little at old new h (i + 2) (omega (arith, lt)) in
    ap (λ (v : ℕ). v + 65536 * u16_at Little new (i + 2)) a ∙ ap (λ (v : ℕ). u16_at Little old i + 65536 * v) b
u32_same Big at old new h i lt =
    let a = u16_same Big at old new h i (omega (arith, lt)) in
    let b = u16_same Big at old new h (i + 2) (omega (arith, lt)) in
    ap (λ (v : ℕ). 65536 * v + u16_at Big new (i + 2)) a ∙ ap (λ (v : ℕ). 65536 * u16_at Big old i + v) b

-- the data then say 1, at the same place
pub says_one : (order : ByteOrder) (at n : ℕ) (old new : List ℕ) → Says order old at n → HasOneAt order at old new → Says order new at 1
says_one order at n old new s h =
    let ifd : ℕ = u32_at order old 4 in
    let far : 9 < at = omega (arith, s.place) in
    let same : u32_at order new 4 ≡ ifd = u32_same order at old new h 4 (omega (arith, far)) in
    let number : IsShort order new (entry_of ifd s.k) 1 = record {
      kind = u16_same order at old new h (entry_of ifd s.k + 2) (omega (arith, s.place)) ∙ s.number.kind;
      count = u32_same order at old new h (entry_of ifd s.k + 4) (omega (arith, s.place)) ∙ s.number.count;
      value = ap (λ (i : ℕ). u16_at order new i) (sym s.place) ∙ h.value;
    } in
    record {
      tiff = record {
        long = subst (λ (m : ℕ). 8 ≤ m) (sym h.long) s.tiff.long;
        first = byte_same order at old new h 0 (omega (arith, far)) ∙ s.tiff.first;
        second = byte_same order at old new h 1 (omega (arith, far)) ∙ s.tiff.second;
        version = u16_same order at old new h 2 (omega (arith, far)) ∙ s.tiff.version;
      };
      k = s.k;
      entry = subst (λ (m : ℕ). IsFirst order new m 0x0112 s.k) (sym same) (first_same order at old new h ifd 0x0112 s.k s.place s.entry);
      number = subst (λ (m : ℕ). IsShort order new (entry_of m s.k) 1) (sym same) number;
      place = subst (λ (m : ℕ). at ≡ entry_of m s.k + 8) (sym same) s.place;
      least = omega arith;
      most = omega arith;
    }

-- data that say 1, or nothing, stay
pub stays : (order : ByteOrder) (old : List ℕ) (at n a b : ℕ) → Says order old at n → u16_of order a b ≡ 1 → IsOrientationOf old 1 → set (set old at a) (at + 1) b ≡ old
stays order old at n a b s one h = same_when_one order old at a b (said_value order old at n s ∙ one_orientation old n 1 (inl (order, at, s)) h) one

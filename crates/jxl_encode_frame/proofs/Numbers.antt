-- Parts of a frame have sections of their own.
use Rattle.std.proofs.Common.{◌≡◌, ◌≢◌, ◌∙◌, inl, inr, ℕ, zero, suc, ◌*◌, ◌<◌, Bool, true, false, nat_lt, List, [], ◌∷◌, length, map, set, Some, refl, ap, arith}
use Rattle.std.specs.Prelude.{slice_get}
use Rattle.std.specs.Global.{Vec}
use Rattle.std.specs.Option.{option_map}
use Rattle.std.proofs.lemmas.Bool.{cases_lt, ltb-true}
use Rattle.jxlm_groups.specs.declared.part.SectionPart.{SectionPart}
use Rattle.jxlm_groups.specs.declared.part.SectionPart.TheVariants as parts
use Rattle.jxl_codestream.specs.Layouts.{Layout, has_part, section_count_of, section_number, stream_index}
use Rattle.jxl_encode_frame.specs.Numbers.{HasNumber, IsFound, KeepsOthers, section_among}
use Rattle.jxl_encode_frame.proofs.Streams.{later_pass, right_of}

module _ (l : Layout) where
  -- no two parts have one number
  pub numbers_unlike : (a b : SectionPart) → has_part l a ≡ true → has_part l b ≡ true → a ≢ b → section_number l a ≢ section_number l b
  numbers_unlike parts.Global parts.Global x y ne e = ne refl
  numbers_unlike parts.Global (parts.Lf k) x y ne e = omega (arith, e)
  numbers_unlike parts.Global (parts.Pass p k) x y ne e = omega (arith, e)
  numbers_unlike (parts.Lf j) parts.Global x y ne e = omega (arith, e)
  numbers_unlike (parts.Lf j) (parts.Lf k) x y ne e = let same : j ≡ k = omega (arith, e) in ne (ap parts.Lf same)
  numbers_unlike (parts.Lf j) (parts.Pass p k) x y ne e = let lt : j < l.lf_groups = ltb-true j l.lf_groups x in omega (arith, e, lt)
  numbers_unlike (parts.Pass p j) parts.Global x y ne e = omega (arith, e)
  numbers_unlike (parts.Pass p j) (parts.Lf k) x y ne e = let lt : k < l.lf_groups = ltb-true k l.lf_groups y in omega (arith, e, lt)
  numbers_unlike (parts.Pass p j) (parts.Pass q k) x y ne e =
      let first : j < l.groups = ltb-true j l.groups (right_of (nat_lt p l.passes) (nat_lt j l.groups) x) in
      let second : k < l.groups = ltb-true k l.groups (right_of (nat_lt q l.passes) (nat_lt k l.groups) y) in
      elim (cases_lt p q) [
        | inl lt ↦ let up = later_pass l.groups p q j k lt first in omega (arith, e, up)
        | inr ge ↦ elim (cases_lt q p) [
          | inl lt ↦ let up = later_pass l.groups q p k j lt second in omega (arith, e, up)
          | inr le ↦
              let same : p ≡ q = omega (arith, ge, le) in
              let rows : p * l.groups ≡ q * l.groups = ap (λ n. n * l.groups) same in
              let own : j ≡ k = omega (arith, e, rows) in
              ne (ap (λ n. parts.Pass n j) same ∙ ap (parts.Pass q) own)
        ]
      ]

-- ---- a section that is put in its place

got : {X Y : Type 0} (f : X → Y) (xs : List X) (k : ℕ) (x : X) → k < length xs → slice_get (map f (set xs k x)) k ≡ Some (f x)
got f [] k x lt = absurd (omega (arith, lt))
got f (y ∷ ys) zero x lt = refl
got f (y ∷ ys) (suc k) x lt = got f ys k x (omega (arith, lt))

kept : {X Y : Type 0} (f : X → Y) (xs : List X) (k n : ℕ) (x : X) → n ≢ k → slice_get (map f (set xs k x)) n ≡ slice_get (map f xs) n
kept f [] k n x ne = refl
kept f (y ∷ ys) zero zero x ne = absurd (ne refl)
kept f (y ∷ ys) zero (suc n) x ne = refl
kept f (y ∷ ys) (suc k) zero x ne = refl
kept f (y ∷ ys) (suc k) (suc n) x ne = kept f ys k n x (λ e. ne (ap suc e))

module _ (l : Layout) (part : SectionPart) (there : HasNumber l part) (old : List (Vec ℕ)) (count : length old ≡ section_count_of l) (v : Vec ℕ) where
  pub put_found : IsFound l (set old (section_number l part) v) part v.items
  put_found =
      let below = there.below in
      rw there.has (ap (option_map {U = List ℕ × ℕ} (λ (bytes : List ℕ). (bytes, stream_index l part))) (got (λ (u : Vec ℕ). u.items) old (section_number l part) v (omega (arith, below, count))))

  pub put_others : KeepsOthers l part old (set old (section_number l part) v)
  put_others other ne = by (has_part l other) refl where
    by : (b : Bool) → has_part l other ≡ b → section_among l (set old (section_number l part) v) other ≡ section_among l old other
    by true is = rw is (ap (option_map {U = List ℕ × ℕ} (λ (bytes : List ℕ). (bytes, stream_index l other))) (kept (λ (u : Vec ℕ). u.items) old (section_number l part) (section_number l other) v (numbers_unlike l other part is there.has ne)))
    by false is = rw is refl

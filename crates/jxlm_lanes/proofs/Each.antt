-- Facts of the lanes of vectors.
use Rattle.std.proofs.Common.{◌≡◌, ℕ, negsuc, ◌<◌, ◌≤◌, List, [], ◌∷◌, map, length, get_or, ℤ, pos, to_z, of_z, FitsSigned, arith, ap, ◌∙◌, refl, sym, subst, cond, ltb, eqb, Bool, true, false, inl, inr, min, w16, w32, int_lt, int_le, unsigned_abs, ◌-ℤ◌, ◌+◌, ◌-◌, ◌%◌}
use Rattle.std.specs.Int.{Width}
use Rattle.std.proofs.lemmas.Int.{ints, to_z-of_z}
use Rattle.std.proofs.lemmas.List.{get_or-map, length-map}
use Rattle.std.proofs.lemmas.Simd.{Each1-get_or, get_or-zip2, length-zip2, tops_compared, length-sel_l, get_or-sel_l}
use Rattle.std.proofs.Math.Facts.{sfits_to_z}
use Rattle.std.proofs.lemmas.Bool.{cases_lt, lt-ltb, le-ltb, eq-eqb, ne_eqb}
use lib.Lanes.{Each1, zip2, sel_l, top}
use Rattle.jxlm_lanes.specs.Colour.{floor_half}
use Rattle.jxlm_lanes.specs.Inner.Lanes.{lane, AreEight}

pub Each1-map : {A B : Type 0} (Q : A → Type 0) (P : B → Type 0) (f : A → B) → ((a : A) → Q a → P (f a)) → (xs : List A) → Each1 Q xs → Each1 P (map f xs)
Each1-map Q P f h [] q = tt
Each1-map Q P f h (x ∷ xs) q = (h x q.0, Each1-map Q P f h xs q.1)

-- lane j of what an operator makes of two vectors of signed numbers
pub lane_of_two : (w : Width) (f : ℕ → ℕ → ℕ) (xs ys : List ℤ) (j : ℕ) → j < length xs → length ys ≡ length xs →
    lane (map (to_z w) (zip2 f (map (of_z w) xs) (map (of_z w) ys))) j ≡ to_z w (f (of_z w (lane xs j)) (of_z w (lane ys j)))
lane_of_two w f xs ys j lt e =
    let a = length-map xs (of_z w) in
    let b = length-map ys (of_z w) in
    let n = length-zip2 f (map (of_z w) xs) (map (of_z w) ys) (omega arith) in
    get_or-map (to_z w) (zip2 f (map (of_z w) xs) (map (of_z w) ys)) j 0 (pos 0) (omega arith)
    ∙ ap (to_z w) (get_or-zip2 f (map (of_z w) xs) (map (of_z w) ys) j 0 0 0 (omega arith) (omega arith))
    ∙ ap (λ z. to_z w (f z (get_or (map (of_z w) ys) j 0))) (get_or-map (of_z w) xs j (pos 0) 0 lt)
    ∙ ap (λ z. to_z w (f (of_z w (lane xs j)) z)) (get_or-map (of_z w) ys j (pos 0) 0 (omega arith))

-- what fits 16 bits fits 32
pub fits_wider : (z : ℤ) → FitsSigned w16 z → FitsSigned w32 z
fits_wider z h = omega (arith, ints)

-- numbers that fit, as bits and back
pub same_numbers : (w : Width) (xs : List ℤ) → Each1 (FitsSigned w) xs → map (to_z w) (map (of_z w) xs) ≡ xs
same_numbers w [] h = refl
same_numbers w (x ∷ xs) h = ap (λ z. z ∷ map (to_z w) (map (of_z w) xs)) (to_z-of_z w x h.0) ∙ ap (λ l. x ∷ l) (same_numbers w xs h.1)

-- the numbers of bits fit
pub Each1-numbers : (w : Width) (f : ℕ → ℕ → ℕ) (ys zs : List ℤ) → ((a b : ℤ) → FitsSigned w a → FitsSigned w b → FitsSigned w (to_z w (f (of_z w a) (of_z w b)))) →
    Each1 (FitsSigned w) ys → Each1 (FitsSigned w) zs → Each1 (FitsSigned w) (map (to_z w) (zip2 f (map (of_z w) ys) (map (of_z w) zs)))
Each1-numbers w f [] zs h p q = tt
Each1-numbers w f (y ∷ ys) [] h p q = tt
Each1-numbers w f (y ∷ ys) (z ∷ zs) h p q = (h y z p.0 q.0, Each1-numbers w f ys zs h p.1 q.1)

pub bits_of_two : (w : Width) (f : ℕ → ℕ → ℕ) (xs ys : List ℤ) (j : ℕ) → j < length xs → length ys ≡ length xs →
    get_or (zip2 f (map (of_z w) xs) (map (of_z w) ys)) j 0 ≡ f (of_z w (lane xs j)) (of_z w (lane ys j))
bits_of_two w f xs ys j lt e =
    let a = length-map xs (of_z w) in
    let b = length-map ys (of_z w) in
    get_or-zip2 f (map (of_z w) xs) (map (of_z w) ys) j 0 0 0 (omega arith) (omega arith)
    ∙ ap (λ z. f z (get_or (map (of_z w) ys) j 0)) (get_or-map (of_z w) xs j (pos 0) 0 lt)
    ∙ ap (f (of_z w (lane xs j))) (get_or-map (of_z w) ys j (pos 0) 0 (omega arith))

if_lt : (a b x y : ℕ) → a < b → cond (ltb a b) x y ≡ x
if_lt a b x y lt = ap (λ t. cond t x y) (lt-ltb a b lt)

if_ge : (a b x y : ℕ) → b ≤ a → cond (ltb a b) x y ≡ y
if_ge a b x y ge = ap (λ t. cond t x y) (le-ltb a b ge)

lesser_of : (x y : ℕ) → cond (ltb x y) x y ≡ min x y
lesser_of x y = elim (cases_lt x y) [ inl lt ↦ if_lt x y x y lt ∙ omega (arith, lt) | inr ge ↦ if_ge x y x y ge ∙ omega (arith, ge) ]

abbrev pub lessers : List ℕ → List ℕ → List ℕ
lessers xs ys = sel_l (map (top 15) (zip2 (λ a b. cond (ltb a b) 65535 0) xs ys)) xs ys

-- lane j of the lesser of two vectors
pub lesser_at : (xs ys : List ℕ) (j : ℕ) → j < length xs → length ys ≡ length xs →
    get_or (sel_l (map (top 15) (zip2 (λ a b. cond (ltb a b) 65535 0) xs ys)) xs ys) j 0 ≡ min (get_or xs j 0) (get_or ys j 0)
lesser_at xs ys j lt e =
    let n = length-zip2 ltb xs ys (omega arith) in
    ap (λ ms. get_or (sel_l ms xs ys) j 0) (tops_compared w16 ltb xs ys)
    ∙ get_or-sel_l (zip2 ltb xs ys) xs ys j 0 (omega arith) lt (omega arith)
    ∙ ap (λ t. cond t (get_or xs j 0) (get_or ys j 0)) (get_or-zip2 ltb xs ys j 0 0 false lt (omega arith))
    ∙ lesser_of (get_or xs j 0) (get_or ys j 0)

pub lesser_len : (xs ys : List ℕ) → length ys ≡ length xs → length (sel_l (map (top 15) (zip2 (λ a b. cond (ltb a b) 65535 0) xs ys)) xs ys) ≡ length xs
lesser_len xs ys e =
    let n = length-zip2 ltb xs ys (omega arith) in
    let is = ap (λ ms. length (sel_l ms xs ys)) (tops_compared w16 ltb xs ys) in
    let l = length-sel_l (zip2 ltb xs ys) xs ys (omega arith) (omega arith) in is ∙ omega arith

-- ---- signed lanes

-- numbers that fit, as bits, below 2 ^ 16; and as numbers
pub Each1-signed : (xs : List ℕ) → Each1 (λ x. x < 65536) xs → Each1 (FitsSigned w16) (map (to_z w16) xs)
Each1-signed xs h = Each1-map (λ x. x < 65536) (FitsSigned w16) (to_z w16) (λ (x : ℕ) lt. sfits_to_z {w = w16} {n = x} (record { fits = lt })) xs h

pub Each1-zip2_all : (P : ℕ → Type 0) (f : ℕ → ℕ → ℕ) → ((a b : ℕ) → P (f a b)) → (xs ys : List ℕ) → Each1 P (zip2 f xs ys)
Each1-zip2_all P f h [] ys = tt
Each1-zip2_all P f h (x ∷ xs) [] = tt
Each1-zip2_all P f h (x ∷ xs) (y ∷ ys) = (h x y, Each1-zip2_all P f h xs ys)

abbrev pub less : ℕ → ℕ → Bool
less x y = int_lt (to_z w16 x) (to_z w16 y)

-- of two vectors us and vs, us where a lane of xs is below that of ys as signed numbers, else vs
abbrev pub picked : (xs ys us vs : List ℕ) → List ℕ
picked xs ys us vs = sel_l (map (top 15) (zip2 (λ a b. cond (less a b) 65535 0) xs ys)) us vs

pub picked_len : (xs ys us vs : List ℕ) → length xs ≡ 8 → length ys ≡ 8 → length us ≡ 8 → length vs ≡ 8 → length (picked xs ys us vs) ≡ 8
picked_len xs ys us vs a b c d =
    let n = length-zip2 less xs ys (omega arith) in
    let is = ap (λ ms. length (sel_l ms us vs)) (tops_compared w16 less xs ys) in
    let l = length-sel_l (zip2 less xs ys) us vs (omega arith) (omega arith) in is ∙ omega arith

pub picked_at : (a b : List ℤ) (us vs : List ℕ) (j : ℕ) → length a ≡ 8 → length b ≡ 8 → length us ≡ 8 → length vs ≡ 8 → Each1 (FitsSigned w16) a → Each1 (FitsSigned w16) b → j < 8 →
    get_or (picked (map (of_z w16) a) (map (of_z w16) b) us vs) j 0 ≡ cond (int_lt (lane a j) (lane b j)) (get_or us j 0) (get_or vs j 0)
picked_at a b us vs j la lb lu lv fa fb lt =
    let xs = map (of_z w16) a in
    let ys = map (of_z w16) b in
    let u = get_or us j 0 in
    let v = get_or vs j 0 in
    let lx = length-map a (of_z w16) in
    let ly = length-map b (of_z w16) in
    let n = length-zip2 less xs ys (omega arith) in
    let ja : FitsSigned w16 (lane a j) = Each1-get_or (FitsSigned w16) a j (pos 0) (omega arith) fa in
    let jb : FitsSigned w16 (lane b j) = Each1-get_or (FitsSigned w16) b j (pos 0) (omega arith) fb in
    ap (λ ms. get_or (sel_l ms us vs) j 0) (tops_compared w16 less xs ys)
    ∙ get_or-sel_l (zip2 less xs ys) us vs j 0 (omega arith) (omega arith) (omega arith)
    ∙ ap (λ t. cond t u v) (get_or-zip2 less xs ys j 0 0 false (omega arith) (omega arith))
    ∙ ap (λ z. cond (less z (get_or ys j 0)) u v) (get_or-map (of_z w16) a j (pos 0) 0 (omega arith))
    ∙ ap (λ z. cond (less (of_z w16 (lane a j)) z) u v) (get_or-map (of_z w16) b j (pos 0) 0 (omega arith))
    ∙ ap (λ z. cond (int_lt z (to_z w16 (of_z w16 (lane b j)))) u v) (to_z-of_z w16 (lane a j) ja)
    ∙ ap (λ z. cond (int_lt (lane a j) z) u v) (to_z-of_z w16 (lane b j) jb)

-- the greater less the lesser, as bits
pub gap_of : (a b : ℤ) → FitsSigned w16 a → FitsSigned w16 b →
    (cond (int_lt a b) (of_z w16 b) (of_z w16 a) + (65536 - cond (int_lt a b) (of_z w16 a) (of_z w16 b))) % 65536 ≡ unsigned_abs (a -ℤ b)
gap_of a b fa fb = by (int_lt a b) refl
  where
    by : (t : Bool) → int_lt a b ≡ t → (cond t (of_z w16 b) (of_z w16 a) + (65536 - cond t (of_z w16 a) (of_z w16 b))) % 65536 ≡ unsigned_abs (a -ℤ b)
    by true e = omega (arith, ints)
    by false e = omega (arith, ints)

pub none_of : (a b k : ℤ) → FitsSigned w16 k → to_z w16 (cond (int_lt a b) 0 (of_z w16 k)) ≡ cond (int_le b a) k (pos 0)
none_of a b k fk = by (int_lt a b) (int_le b a) refl refl
  where
    by : (t u : Bool) → int_lt a b ≡ t → int_le b a ≡ u → to_z w16 (cond t 0 (of_z w16 k)) ≡ cond u k (pos 0)
    by true true e f = absurd (omega (arith, ints))
    by true false e f = refl
    by false true e f = to_z-of_z w16 k fk
    by false false e f = absurd (omega (arith, ints))

pub either : (t : Bool) (k : ℤ) → FitsSigned w16 k → FitsSigned w16 (cond t k (pos 0))
either true k f = f
either false k f = omega (arith, ints)

-- ---- eight numbers

-- eight numbers, as bits and back
pub eight_back : (v : List ℤ) → AreEight v → AreEight (map (to_z w16) (map (of_z w16) v))
eight_back v e = subst AreEight (sym (same_numbers w16 v e.fit)) e

pub lane_back : (v : List ℤ) (j : ℕ) → AreEight v → lane (map (to_z w16) (map (of_z w16) v)) j ≡ lane v j
lane_back v j e = ap (λ l. lane l j) (same_numbers w16 v e.fit)

-- what an operator makes of two vectors of eight
pub lanes_of_two : (f : ℕ → ℕ → ℕ) → ((a b : ℕ) → f a b < 65536) → (xs ys : List ℤ) → AreEight xs → AreEight ys →
    AreEight (map (to_z w16) (zip2 f (map (of_z w16) xs) (map (of_z w16) ys)))
lanes_of_two f h xs ys p q =
    let lx = p.len in
    let ly = q.len in
    let a = length-map xs (of_z w16) in
    let b = length-map ys (of_z w16) in
    let n = length-zip2 f (map (of_z w16) xs) (map (of_z w16) ys) (omega arith) in
    record {
      len = length-map (zip2 f (map (of_z w16) xs) (map (of_z w16) ys)) (to_z w16) ∙ omega arith;
      fit = Each1-signed (zip2 f (map (of_z w16) xs) (map (of_z w16) ys)) (Each1-zip2_all (λ x. x < 65536) f h (map (of_z w16) xs) (map (of_z w16) ys));
    }

pub halved_fits : (x : ℤ) → FitsSigned w16 x → FitsSigned w16 (floor_half x)
halved_fits (pos a) h = omega (arith, ints, h)
halved_fits (negsuc a) h = omega (arith, ints, h)

pub two : (p : ℤ → ℤ → ℤ) (x x2 y y2 : ℤ) → x ≡ x2 → y ≡ y2 → p x y ≡ p x2 y2
two p x x2 y y2 e f = ap (λ z. p z y) e ∙ ap (p x2) f

-- a choice by a number, where it is known
pub chosen : (m n : ℕ) (x y : ℤ) → m ≡ n → cond (eqb m n) x y ≡ x
chosen m n x y e = ap (λ t. cond t x y) (eq-eqb m n e)

pub not_chosen : (m n : ℕ) (x y : ℤ) → (m ≡ n → ⊥) → cond (eqb m n) x y ≡ y
not_chosen m n x y ne = ap (λ t. cond t x y) (ne_eqb m n ne)

-- Colour of three samples (ISO/IEC 18181-1, Modular: reversible colour transforms).
use Rattle.std.specs.Prelude.{◌≡◌, ℕ, ◌<◌, ◌/◌, ◌%◌, ◌==◌, if◌then◌else◌, ℤ, pos, ◌+ℤ◌, ◌-ℤ◌, List, length, get_or, FitsSigned}
use Rattle.std.specs.Int.{Width, int_wrap, int_shr}

-- three samples of one cell
pub record Triple : Type 0 where
  pub first : ℤ
  pub second : ℤ
  pub third : ℤ

abbrev pub triple : ℤ → ℤ → ℤ → Triple
triple x y z = record { first = x; second = y; third = z }

pub record IsTripleOf (w : Width) (t : Triple) : Type 0 where
  pub first : FitsSigned w t.first
  pub second : FitsSigned w t.second
  pub third : FitsSigned w t.third

-- The finished channels are in an order that the kind's multiple of seven names; 6 and above name the first again.
abbrev pub permute : ℕ → Triple → Triple
permute order t =
    if order == 1 then triple t.third t.first t.second else if order == 2 then triple t.second t.third t.first else if order == 3 then triple t.first t.third t.second
    else if order == 4 then triple t.second t.first t.third else if order == 5 then triple t.third t.second t.first else t

-- the order of a finished triple undone
abbrev pub unpermute : ℕ → Triple → Triple
unpermute order t =
    if order == 1 then triple t.second t.third t.first else if order == 2 then triple t.third t.first t.second else if order == 3 then triple t.first t.third t.second
    else if order == 4 then triple t.second t.first t.third else if order == 5 then triple t.third t.second t.first else t

-- half of a sample, rounded down
abbrev pub floor_half : ℤ → ℤ
floor_half x = int_shr x 1

module _ (w : Width) where
  -- sums and differences of w-bit samples
  abbrev pub plus : ℤ → ℤ → ℤ
  plus x y = int_wrap w (x +ℤ y)

  abbrev pub minus : ℤ → ℤ → ℤ
  minus x y = int_wrap w (x -ℤ y)

  -- luma and two differences, of kind 6
  abbrev pub to_luma : Triple → Triple
  to_luma t =
      let b : ℤ = minus t.first t.third in
      let middle : ℤ = plus t.third (floor_half b) in
      let c : ℤ = minus t.second middle in
      triple (plus middle (floor_half c)) b c

  abbrev pub from_luma : Triple → Triple
  from_luma t =
      let middle : ℤ = minus t.first (floor_half t.third) in
      let e : ℤ = plus t.third middle in
      let f : ℤ = minus middle (floor_half t.second) in
      triple (plus f t.second) e f

  -- The third loses the first where the kind is odd; the second loses nothing, the first, or the mean of the others.
  abbrev pub to_differences : ℕ → Triple → Triple
  to_differences t x =
      triple x.first
      (if t / 2 == 1 then minus x.second x.first else if t / 2 == 2 then minus x.second (floor_half (plus x.first x.third)) else x.second)
      (if t % 2 == 1 then minus x.third x.first else x.third)

  abbrev pub from_differences : ℕ → Triple → Triple
  from_differences t x =
      let f : ℤ = if t % 2 == 1 then plus x.third x.first else x.third in
      triple x.first
      (if t / 2 == 1 then plus x.second x.first else if t / 2 == 2 then plus x.second (floor_half (plus x.first f)) else x.second)
      f

  -- one of the seven ways to code a triple, and what it coded
  abbrev pub coded_by : ℕ → Triple → Triple
  coded_by t x = if t == 6 then to_luma x else to_differences t x

  abbrev pub finished_by : ℕ → Triple → Triple
  finished_by t x = if t == 6 then from_luma x else from_differences t x

  -- the coded triple of a finished one
  abbrev pub coded_triple : ℕ → Triple → Triple
  coded_triple kind x = coded_by (kind % 7) (unpermute (kind / 7) x)

  -- the finished triple of a coded one
  abbrev pub finished_triple : ℕ → Triple → Triple
  finished_triple kind x = permute (kind / 7) (finished_by (kind % 7) x)

  -- Each kind, also one that no header can name, loses nothing on any triple of the width, and leads to triples of it.
  pub record ColourIsLossless : Type 0 where
    pub there : (kind : ℕ) (x : Triple) → IsTripleOf w x → finished_triple kind (coded_triple kind x) ≡ x
    pub back : (kind : ℕ) (x : Triple) → IsTripleOf w x → coded_triple kind (finished_triple kind x) ≡ x
    pub coded : (kind : ℕ) (x : Triple) → IsTripleOf w x → IsTripleOf w (coded_triple kind x)
    pub finished : (kind : ℕ) (x : Triple) → IsTripleOf w x → IsTripleOf w (finished_triple kind x)

  -- No two triples of the width become the same coded one.
  abbrev pub ColourIsOneToOne : Type 0
  ColourIsOneToOne = (kind : ℕ) (x y : Triple) → IsTripleOf w x → IsTripleOf w y → coded_triple kind x ≡ coded_triple kind y → x ≡ y

-- the triple of cell i of three rows
abbrev pub triple_at : List ℤ → List ℤ → List ℤ → ℕ → Triple
triple_at a b c i = triple (get_or a i (pos 0)) (get_or b i (pos 0)) (get_or c i (pos 0))

-- three rows of w-bit samples, finished cell by cell, before they are put in their order
pub record FinishesRows (w : Width) (t : ℕ) (a b c a' b' c' : List ℤ) : Type 0 where
  pub first_length : length a' ≡ length a
  pub second_length : length b' ≡ length b
  pub third_length : length c' ≡ length c
  pub fits : (i : ℕ) → i < length a → IsTripleOf w (triple_at a b c i)
  pub each : (i : ℕ) → i < length a → triple_at a' b' c' i ≡ finished_by w t (triple_at a b c i)

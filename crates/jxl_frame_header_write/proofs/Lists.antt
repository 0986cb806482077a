-- Fields of one kind, one after another, as a loop writes them; and those of which each may depend on the one before.
use Rattle.std.proofs.Common.{◌≡◌, ℕ, zero, suc, ◌+◌, ◌<◌, ◌≤◌, List, [], ◌∷◌, length, take, drop, get_or, Bool, true, false, Option, Some, None, refl, sym, ◌∙◌, subst, arith}
use Rattle.std.specs.Prelude.{◌&&◌, nat_lt, MatchBool}
use Rattle.std.specs.List.{list_all, zip}
use Rattle.std.specs.Option.{option_map_or}
use Rattle.std.proofs.lemmas.List.{take_all, take_more}
use Rattle.std.proofs.lemmas.List.Folds.{list_all_at}
use Rattle.std.proofs.lemmas.Bool.{and_parts, false≢true}
use Rattle.jxlm_bits.specs.Grammar.{Grammar, repeated}
use Rattle.jxlm_bit_writer.specs.Writes.{Spells}
use Rattle.jxlm_bit_writer.proofs.WriteLaws.{one_more, becomes}
use Rattle.jxl_image_header.specs.Fields.{number_where}
use Rattle.jxl_frame_header.specs.Passes.{in_turn}

-- one of a list of which all pass a test
pub item_passes : {X : Type 0} (test : X → Bool) (xs : List X) (i : ℕ) (d : X) → list_all test xs ≡ true → i < length xs → test (get_or xs i d) ≡ true
item_passes {X} test xs i d all lt = by_test (test (get_or xs i d)) refl
  where
    by_test : (b : Bool) → test (get_or xs i d) ≡ b → test (get_or xs i d) ≡ true
    by_test true e = e
    by_test false e = absurd (false≢true (sym (list_all_at test xs i d lt e) ∙ all))

-- one field more of a list
pub list_next : {X : Type 0} (f : Grammar X) (xs : List X) (i : ℕ) (d : X) (a b c : List ℕ) → i < length xs → Spells a b (repeated i f) (take i xs) → Spells b c f (get_or xs i d) →
    Spells a c (repeated (i + 1) f) (take (i + 1) xs)
list_next f xs i d a b c lt u v = rw (take_more xs i d lt) (one_more i f (take i xs) (get_or xs i d) a b c u v)

-- all of them
pub list_all_written : {X : Type 0} (f : Grammar X) (xs : List X) (i : ℕ) (a b : List ℕ) → length xs ≤ i → i ≤ length xs → Spells a b (repeated i f) (take i xs) → Spells a b (repeated (length xs) f) xs
list_all_written {X} f xs i a b least most u =
    let e : i ≡ length xs = omega (arith, least, most) in
    subst (λ (ys : List X). Spells a b (repeated (length xs) f) ys) (take_all (length xs) xs (omega arith)) (subst (λ (n : ℕ). Spells a b (repeated n f) (take n xs)) e u)

-- each number passes a test that may depend on the number before it
abbrev InOrder : (Option ℕ → ℕ → Bool) → Option ℕ → List ℕ → Type 0
InOrder holds before [] = Unit {0}
InOrder holds before (x ∷ xs) = (holds before x ≡ true) × InOrder holds (Some x) xs

-- numbers that were spelled one after another are spelled in turn, where each passes its test
in_turn_stands : (text : List ℕ) (holds : Option ℕ → ℕ → Bool) (field : Grammar ℕ) (n : ℕ) (before : Option ℕ) (bytes : List ℕ) (p : ℕ) (xs : List ℕ) (q : ℕ) → InOrder holds before xs →
    (repeated n field).Stands bytes p xs q → (in_turn n (λ b. number_where text (holds b) field) before).Stands bytes p xs q
in_turn_stands text holds field zero before bytes p xs q order s = s
in_turn_stands text holds field (suc n) before bytes p xs q order s =
    let both = subst (λ (ys : List ℕ). InOrder holds before ys) s.3.3.0 order in
    let one = subst (λ (r : Bool). MatchBool r ((s.0 ≡ s.0) × (s.1 ≡ s.1)) ⊥) (sym both.0) (refl, refl) in
    (s.0, s.1, (s.0, s.1, s.2, one), (s.3.0, s.3.1, in_turn_stands text holds field n (Some s.0) bytes s.1 s.3.0 s.3.1 both.1 s.3.2, s.3.3))

-- a factor that is finer than the one before; a pass that is later than the one before, and is one of this number
abbrev pub finer : Option ℕ → ℕ → Bool
finer before v = option_map_or (λ b. nat_lt v b) before true

abbrev pub later : ℕ → Option ℕ → ℕ → Bool
later count before v = option_map_or (λ b. nat_lt b v) before true && nat_lt v count

falls_from : (x : ℕ) (xs : List ℕ) → list_all (λ (e : ℕ × ℕ). nat_lt e.1 e.0) (zip (x ∷ xs) xs) ≡ true → InOrder finer (Some x) xs
falls_from x [] h = tt
falls_from x (y ∷ ys) h =
    let s = and_parts (nat_lt y x) (list_all (λ (e : ℕ × ℕ). nat_lt e.1 e.0) (zip (y ∷ ys) ys)) h in
    (s.0, falls_from y ys s.1)

falls : (xs : List ℕ) → list_all (λ (e : ℕ × ℕ). nat_lt e.1 e.0) (zip xs (drop 1 xs)) ≡ true → InOrder finer None xs
falls [] h = tt
falls (x ∷ xs) h = (refl, falls_from x xs h)

both_true : (a b : Bool) → a ≡ true → b ≡ true → (a && b) ≡ true
both_true true b e f = f
both_true false b e f = absurd (false≢true e)

rises_from : (count x : ℕ) (xs : List ℕ) → list_all (λ v. nat_lt v count) xs ≡ true → list_all (λ (e : ℕ × ℕ). nat_lt e.0 e.1) (zip (x ∷ xs) xs) ≡ true → InOrder (later count) (Some x) xs
rises_from count x [] few h = tt
rises_from count x (y ∷ ys) few h =
    let s = and_parts (nat_lt x y) (list_all (λ (e : ℕ × ℕ). nat_lt e.0 e.1) (zip (y ∷ ys) ys)) h in
    let f = and_parts (nat_lt y count) (list_all (λ v. nat_lt v count) ys) few in
    (both_true (nat_lt x y) (nat_lt y count) s.0 f.0, rises_from count y ys f.1 s.1)

rises : (count : ℕ) (xs : List ℕ) → list_all (λ v. nat_lt v count) xs ≡ true → list_all (λ (e : ℕ × ℕ). nat_lt e.0 e.1) (zip xs (drop 1 xs)) ≡ true → InOrder (later count) None xs
rises count [] few h = tt
rises count (x ∷ xs) few h =
    let f = and_parts (nat_lt x count) (list_all (λ v. nat_lt v count) xs) few in
    (f.0, rises_from count x xs f.1 h)

-- the factors, and the last passes
pub falling_spelled : (text : List ℕ) (field : Grammar ℕ) (n : ℕ) (xs : List ℕ) (a b : List ℕ) → list_all (λ (e : ℕ × ℕ). nat_lt e.1 e.0) (zip xs (drop 1 xs)) ≡ true → Spells a b (repeated n field) xs →
    Spells a b (in_turn n (λ before. number_where text (finer before) field) None) xs
falling_spelled text field n xs a b order u = becomes u (λ bytes p q s. in_turn_stands text finer field n None bytes p xs q (falls xs order) s)

pub rising_spelled : (text : List ℕ) (field : Grammar ℕ) (n count : ℕ) (xs : List ℕ) (a b : List ℕ) → list_all (λ v. nat_lt v count) xs ≡ true →
    list_all (λ (e : ℕ × ℕ). nat_lt e.0 e.1) (zip xs (drop 1 xs)) ≡ true → Spells a b (repeated n field) xs → Spells a b (in_turn n (λ before. number_where text (later count before) field) None) xs
rising_spelled text field n count xs a b few order u = becomes u (λ bytes p q s. in_turn_stands text (later count) field n None bytes p xs q (rises count xs few order) s)

-- The resolution that ends with a pass, as a loop finds it, and as pairs have it.
use Rattle.std.proofs.Common.{◌≡◌, ℕ, zero, suc, ◌<◌, ◌≤◌, ◌==◌, Bool, true, false, Option, Some, List, [], ◌∷◌, length, drop, get_or, None, refl, arith}
use Rattle.std.specs.Prelude.{cond, if◌then◌else◌}
use Rattle.std.specs.List.{find, zip}
use Rattle.std.specs.Option.{option_map_or}
use Rattle.jxl_frame_header.specs.Inner.Ended.{ended}

-- one that does not end there is passed over
pub passed_over : (ds ls : List ℕ) (p i d : ℕ) → i < length ls → (get_or ls i d == p) ≡ false → ended (drop (suc i) ds) (drop (suc i) ls) p ≡ ended (drop i ds) (drop i ls) p
passed_over [] ls p zero d lt other = refl
passed_over [] ls p (suc i) d lt other = refl
passed_over (x ∷ ds) [] p i d lt other = absurd (omega (arith, lt))
passed_over (x ∷ ds) (l ∷ ls) p zero d lt other = rw other refl
passed_over (x ∷ ds) (l ∷ ls) p (suc i) d lt other = passed_over ds ls p i d (omega (arith, lt)) other

no_lasts : (ds : List ℕ) (p : ℕ) → ended ds [] p ≡ None
no_lasts [] p = refl
no_lasts (x ∷ ds) p = refl

-- after all of them there is none
pub none_left : (ds ls : List ℕ) (p i : ℕ) → length ls ≤ i → ended (drop i ds) (drop i ls) p ≡ None
none_left [] ls p zero le = refl
none_left [] ls p (suc i) le = refl
none_left (x ∷ ds) [] p zero le = refl
none_left (x ∷ ds) [] p (suc i) le = no_lasts (drop i ds) p
none_left (x ∷ ds) (l ∷ ls) p zero le = absurd (omega (arith, le))
none_left (x ∷ ds) (l ∷ ls) p (suc i) le = none_left ds ls p i (omega (arith, le))

-- and is the first of the pairs with this last pass
pub ended_in_pairs : (shift : ℕ → ℕ) (ds ls : List ℕ) (p before : ℕ) → option_map_or shift (ended ds ls p) before ≡ option_map_or (λ e. shift e.0) (find (λ e. e.1 == p) (zip ds ls)) before
ended_in_pairs shift [] ls p before = refl
ended_in_pairs shift (d ∷ ds) [] p before = refl
ended_in_pairs shift (d ∷ ds) (l ∷ ls) p before = by (l == p) (ended ds ls p) (find (λ e. e.1 == p) (zip ds ls)) (ended_in_pairs shift ds ls p before) where
  by : (b : Bool) (o : Option ℕ) (e : Option (ℕ × ℕ)) → option_map_or shift o before ≡ option_map_or (λ e. shift e.0) e before →
      option_map_or shift (if b then Some d else o) before ≡ option_map_or (λ e. shift e.0) (cond b (Some (d, l)) e) before
  by true o e same = refl
  by false o e same = same

-- Properties by what the state keeps.
use Rattle.std.proofs.Common.{◌≡◌, ℕ, zero, suc, ◌-◌, ◌/◌, ◌%◌, ◌<◌, ◌≤◌, ℤ, pos, ◌-ℤ◌, List, [], length, get_or, Some, sym, ap, ◌∙◌, refl, arith}
use Rattle.std.specs.Prelude.{map}
use Rattle.std.specs.List.{slice_get}
use Rattle.std.specs.Int.{w32, int_wrap}
use Rattle.std.proofs.lemmas.Int.{int_wrap_fits, SFits-int_wrap, ints}
use Rattle.std.proofs.lemmas.List.{get_or-map}
use Rattle.std.proofs.lemmas.Option.{slice_get_past}
use Rattle.std.proofs.lemmas.Bool.{lt-ltb, le-ltb}
use Rattle.jxlm_base.specs.Grid.{Grid}
use Rattle.jxlm_weighted.specs.Neighbours.{Neighbours, neighbours, column, row, west}
use Rattle.jxlm_predictor.specs.Properties.{Surroundings, own_properties, earlier_property, earlier_properties, place_property, west_change}
use Rattle.jxlm_weighted.specs.SelfCorrecting.{error_property}
use Rattle.jxlm_predictor.specs.Holding.{surroundings}
use Rattle.jxlm_predictor.specs.Inner.OwnProperties.{own_list, own_of}
use Rattle.jxlm_predictor.specs.Rolling.{Rolls}
use Rattle.jxlm_predictor.specs.Standing.{Setting}
use Rattle.jxlm_predictor.proofs.Rolling.{column_is, row_is}

-- no such earlier channel
pub earlier-none : (s : Surroundings) (n : ℕ) → length s.earlier ≤ n / 4 → earlier_property s n ≡ pos 0
earlier-none s n h = rw (slice_get_past s.earlier (n / 4) h) refl

pub earlier-some : (s : Surroundings) (n : ℕ) (g : Grid ℤ) → slice_get s.earlier (n / 4) ≡ Some g → earlier_property s n ≡ get_or (earlier_properties g (column s.samples s.width) (row s.samples s.width)) (n % 4) (pos 0)
earlier-some s n g h = rw h refl

pub zero_wraps : int_wrap w32 (pos 0) ≡ pos 0
zero_wraps = int_wrap_fits w32 (pos 0) (record { sfits = omega arith })

own-wraps : (xs : List ℤ) (k : ℕ) → k < length xs → get_or (map (int_wrap w32) xs) k (pos 0) ≡ int_wrap w32 (get_or xs k (pos 0))
own-wraps xs k h = get_or-map (int_wrap w32) xs k (pos 0) (pos 0) h

-- properties 0 to 15
pub own_property : (s : Surroundings) (k : ℕ) → k < 16 → get_or (own_of s) k (pos 0) ≡ place_property s k
own_property s zero h = refl
own_property s (suc zero) h = refl
own_property s (suc (suc k)) h =
    let below : k < 14 = omega arith in
    let t = le-ltb (suc (suc k)) 2 (omega arith) in
    let u = lt-ltb (suc (suc k)) 16 h in
    let e : suc (suc k) - 2 ≡ k = omega arith in
    rw (t, u, e) (own-wraps (own_properties s) k below)

-- and up
pub later_property : (s : Surroundings) (k : ℕ) → 16 ≤ k → place_property s k ≡ int_wrap w32 (earlier_property s (k - 16))
later_property s k h =
    let t = le-ltb k 2 (omega arith) in
    let u = le-ltb k 16 h in
    rw (t, u) refl

-- property 8, by what is kept
change_is : (width x y : ℕ) (w n nw g : ℤ) (previous current samples : List ℤ) → Rolls width x y w n nw g previous current samples → west samples width x y -ℤ g ≡ west_change samples width x y
change_is width zero y w n nw g previous current samples r = rw (r.start_is refl) (omega (arith, ints))
change_is width (suc x) y w n nw g previous current samples r = rw (r.gradient_is x refl) refl

wraps_again : (z : ℤ) → int_wrap w32 (int_wrap w32 z) ≡ int_wrap w32 z
wraps_again z = int_wrap_fits w32 (int_wrap w32 z) (SFits-int_wrap w32 z)

-- properties 0 to 15, by what is kept
pub own_kept : (s : Setting) (x y : ℕ) (w n nw g e : ℤ) (previous current samples : List ℤ) (a : Neighbours) → Rolls s.width x y w n nw g previous current samples → a ≡ neighbours samples s.width
    → e ≡ error_property s.weights samples s.width → map (int_wrap w32) (own_list x y a g e) ≡ own_of (surroundings s [] samples)
own_kept s x y w n nw g e previous current samples a r is error =
    let cx = column_is s.width x y w n nw g previous current samples r in
    let cy = row_is s.width x y w n nw g previous current samples r in
    rw is (rw (← error, cx, cy, zero_wraps, wraps_again, change_is s.width x y w n nw g previous current samples r) refl)

-- property k of 0 to 15, by what is kept
pub own_property_kept : (s : Setting) (x y : ℕ) (w n nw g e : ℤ) (previous current samples : List ℤ) (a : Neighbours) (k : ℕ) → Rolls s.width x y w n nw g previous current samples → a ≡ neighbours samples s.width
    → e ≡ error_property s.weights samples s.width → k < 16 → int_wrap w32 (get_or (own_list x y a g e) k (pos 0)) ≡ get_or (own_of (surroundings s [] samples)) k (pos 0)
own_property_kept s x y w n nw g e previous current samples a k r is error h =
    sym (own-wraps (own_list x y a g e) k h) ∙ ap (λ xs. get_or xs k (pos 0)) (own_kept s x y w n nw g e previous current samples a r is error)

-- The codes of coordinates, and what their tokens tell.
use Rattle.std.proofs.Common.{◌≡◌, ℕ, ◌+◌, ◌-◌, ◌*◌, ◌/◌, ◌%◌, ◌<◌, ◌≤◌, List, [], ◌∷◌, Bool, true, false, Some, None, Ok, refl, ap, arith}
use Rattle.std.specs.Prelude.{◌==◌, nat_le, if◌then◌else◌, slice_index, codes}
use Rattle.std.specs.Option.{ok_or, option_and_then}
use Rattle.std.proofs.lemmas.Bool.{le-leb, lt-ltb}
use Rattle.jxlm_bits.specs.ErrorKind.{BadEnum}
use Rattle.jxlm_bits.specs.Grammar.{from_result}
use Rattle.jxl_coding.specs.Parse.{decoder_at}
use Rattle.jxl_coding.specs.Tokens.{entropy}
use Rattle.jxl_patches.specs.Patches.{coordinate, coordinate_of}
use Rattle.jxl_patches_write.specs.Inner.Given.{Give}
use Rattle.jxl_patches_write.specs.Inner.Tokens.{clusters_in, token_in}
use Rattle.jxl_patches_write.proofs.TokenParts.{tells_token}

test_even : (v n : ℕ) → v % 2 ≡ n → (v % 2 == 0) ≡ (n == 0)
test_even v n e = ap (λ (k : ℕ). k == 0) e

-- a coordinate at or after the one before, and one before it
pub moved_up : (before now v : ℕ) → before ≤ now → v ≡ 2 * (now - before) → coordinate_of true before v ≡ Some now
moved_up before now v le is =
    let even = test_even v 0 (omega (arith, is)) in
    let there : before + v / 2 ≡ now = omega (arith, is, le) in
    rw (even, there) refl

pub moved_down : (before now v : ℕ) → now < before → v ≡ 2 * (before - now) - 1 → coordinate_of true before v ≡ Some now
moved_down before now v lt is =
    let odd = test_even v 1 (omega (arith, is, lt)) in
    let inside = lt-ltb (v / 2) before (omega (arith, is, lt)) in
    let there : before - (v / 2 + 1) ≡ now = omega (arith, is, lt) in
    rw (odd, inside, there) refl

-- the first coordinate is its own token, whatever comes before
pub first_is : (before before' v c : ℕ) → coordinate_of false before v ≡ Some c → coordinate_of false before' v ≡ Some c
first_is before before' v c e = e

cluster_of : (later : Bool) → slice_index clusters_in (if later then 6 else 4) ≡ (if later then 6 else 4)
cluster_of true = refl
cluster_of false = refl

context_below : (later : Bool) → (if later then 6 else 4) < 10
context_below true = omega arith
context_below false = omega arith

meant : (later : Bool) (before extent side v c : ℕ) → coordinate_of later before v ≡ Some c → c + extent ≤ side → (bytes : List ℕ) (p : ℕ) →
    (from_result (ok_or (option_and_then (λ (n : ℕ). if nat_le (n + extent) side then Some n else None) (coordinate_of later before v)) (BadEnum (codes "place of a patch") v))).read bytes p
    ≡ Ok (record { value = c; position = p })
meant later before extent side v c e le bytes p = rw (e, le-leb (c + extent) side le) refl

pub tells_coordinate : (later : Bool) (before extent side v c : ℕ) → coordinate_of later before v ≡ Some c → c + extent ≤ side →
    Give (coordinate (entropy decoder_at) later before extent side) (token_in (if later then 6 else 4) v ∷ []) c
tells_coordinate later before extent side v c e le =
    tells_token (if later then 6 else 4) (if later then 6 else 4) v
    (λ (n : ℕ). from_result (ok_or (option_and_then (λ (m : ℕ). if nat_le (m + extent) side then Some m else None) (coordinate_of later before n)) (BadEnum (codes "place of a patch") n))) c
    (context_below later) (cluster_of later) (meant later before extent side v c e le)

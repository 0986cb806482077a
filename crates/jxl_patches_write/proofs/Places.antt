-- Places of a rectangle, with their modes, one after another.
use Rattle.std.proofs.Common.{◌≡◌, ℕ, zero, suc, ◌+◌, ◌-◌, ◌*◌, ◌<◌, ◌≤◌, List, [], ◌∷◌, ◌++◌, length, get_or, take, replicate, Bool, false, Some, refl, sym, ap, ◌∙◌, subst, append_assoc, arith}
use Rattle.std.specs.Prelude.{nat_lt, if◌then◌else◌}
use Rattle.std.proofs.lemmas.Bool.{lt-ltb, le-ltb}
use Rattle.std.proofs.lemmas.List.{append-nil, get_or-append_right, get_or-take, length-append, length-take-le, replicate-append-replicate, take_more}
use Rattle.jxlm_bits.specs.Grammar.{give}
use Rattle.jxlm_bits.specs.Tokens.{Tokens}
use Rattle.jxlm_bits.specs.Turns.{◌>>=◌, chain}
use Rattle.jxlm_bit_writer.specs.declared.token.Token.{Token}
use Rattle.jxl_coding.specs.Parse.{decoder_at}
use Rattle.jxl_coding.specs.Tokens.{Entropy, entropy}
use Rattle.jxl_image_header.specs.declared.size.Size.{Size}
use Rattle.jxl_patches.specs.Patches.{Patches, alpha_channel, clamp_flag, coordinate, coordinate_of, mode_number, mode_of, nowhere, one_mode, one_place}
use Rattle.jxl_patches.specs.declared.dictionary.Place.{Place}
use Rattle.jxl_patches.specs.declared.dictionary.PatchMode.{PatchMode}
use Rattle.jxl_patches.specs.declared.dictionary.PatchMode.TheVariants.{Add}
use Rattle.jxl_patches.specs.declared.dictionary.Rectangle.{Rectangle}
use Rattle.jxl_patches_write.specs.Inner.Given.{HaveSource, IsNthPlace, LieIn, Give, GivePlaces, GiveSteps, with_places}
use Rattle.jxl_patches_write.specs.Inner.Tokens.{add_token, place_tokens, token_in}
use Rattle.jxl_patches_write.proofs.Chains.{first_step, no_steps, steps_more, steps_none}
use Rattle.jxl_patches_write.proofs.Codes.{tells_coordinate}
use Rattle.jxl_patches_write.proofs.TokenParts.{tells_both, tells_nothing, tells_token}

-- one mode more, by which samples are added
abbrev with_modes : ℕ → Patches → Patches
with_modes n a = record { places = a.places; modes = a.modes ++ replicate n Add }

tells_number : Give (mode_number (entropy decoder_at)) (add_token ∷ []) 2
tells_number = tells_token 5 5 2 _ 2 (omega arith) refl (λ bytes p. refl)

-- the mode of this number, alpha channel and clamp, after others; the parts of its grammar, from the last to the first
abbrev with_mode : Patches → ℕ → ℕ → Bool → Patches
with_mode a v alpha clamp = record { places = a.places; modes = a.modes ++ mode_of v alpha clamp ∷ [] }

abbrev by_all : Patches → ℕ → ℕ → Bool → Tokens Entropy Patches
by_all a v alpha clamp s = give (record { value = with_mode a v alpha clamp; state = s })

abbrev by_alpha : Patches → ℕ → ℕ → Tokens Entropy Patches
by_alpha a v alpha = clamp_flag (entropy decoder_at) v >>= by_all a v alpha

abbrev by_number : ℕ → Patches → ℕ → Tokens Entropy Patches
by_number kinds a v = alpha_channel (entropy decoder_at) kinds v >>= by_alpha a v

tells_mode : (kinds : ℕ) (a : Patches) → Give (one_mode (entropy decoder_at) kinds a) (add_token ∷ []) (with_modes 1 a)
tells_mode kinds a =
    tells_both (mode_number (entropy decoder_at)) (by_number kinds a) (add_token ∷ []) [] 2 (with_modes 1 a) tells_number
    (tells_both (alpha_channel (entropy decoder_at) kinds 2) (by_alpha a 2) [] [] 0 (with_modes 1 a) (tells_nothing (alpha_channel (entropy decoder_at) kinds 2) 0 (λ s bytes p. refl))
    (tells_both (clamp_flag (entropy decoder_at) 2) (by_all a 2 0) [] [] false (with_modes 1 a) (tells_nothing (clamp_flag (entropy decoder_at) 2) false (λ s bytes p. refl))
    (tells_nothing (by_all a 2 0 false) (with_modes 1 a) (λ s bytes p. refl))))

modes_next : (n : ℕ) (a : Patches) → with_modes n (with_modes 1 a) ≡ with_modes (suc n) a
modes_next n a = ap (λ (ms : List PatchMode). record { places = a.places; modes = ms }) (append_assoc a.modes (Add ∷ []) (replicate n Add))

tells_modes : (kinds n : ℕ) (a : Patches) → Give (chain (one_mode (entropy decoder_at) kinds) n a) (replicate n add_token) (with_modes n a)
tells_modes kinds zero a =
    subst (λ (ms : List PatchMode). Give (chain (one_mode (entropy decoder_at) kinds) 0 a) [] (record { places = a.places; modes = ms })) (sym (append-nil a.modes)) (no_steps (one_mode (entropy decoder_at) kinds) a)
tells_modes kinds (suc n) a =
    first_step (one_mode (entropy decoder_at) kinds) n a (with_modes 1 a) (with_modes (suc n) a) (add_token ∷ []) (replicate n add_token) (tells_mode kinds a)
    (subst (λ (b : Patches). Give (chain (one_mode (entropy decoder_at) kinds) n (with_modes 1 a)) (replicate n add_token) b) (modes_next n a) (tells_modes kinds n (with_modes 1 a)))

module _ (size : Size) (kinds : ℕ) (r : Rectangle) where
  -- patches, and after them one at this place
  abbrev with_place : Patches → ℕ → ℕ → Patches
  with_place a x y = record { places = a.places ++ (record { source = r; x = x; y = y }) ∷ []; modes = a.modes ++ replicate kinds Add }

  abbrev last_of : Patches → Place
  last_of a = get_or a.places (length a.places - 1) nowhere

  abbrev by_row : ℕ → Patches → ℕ → ℕ → Tokens Entropy Patches
  by_row first a x y = chain (one_mode (entropy decoder_at) kinds) kinds (record { places = a.places ++ (record { source = r; x = x; y = y }) ∷ []; modes = a.modes })

  abbrev by_column : ℕ → Patches → ℕ → Tokens Entropy Patches
  by_column first a x = coordinate (entropy decoder_at) (nat_lt first (length a.places)) (last_of a).y r.height size.height >>= by_row first a x

  tells_place : (first : ℕ) (a : Patches) (vx vy x y : ℕ) → coordinate_of (nat_lt first (length a.places)) (last_of a).x vx ≡ Some x → coordinate_of (nat_lt first (length a.places)) (last_of a).y vy ≡ Some y →
      x + r.width ≤ size.width → y + r.height ≤ size.height → Give (one_place (entropy decoder_at) size kinds first r a) (place_tokens (nat_lt first (length a.places)) vx vy kinds) (with_place a x y)
  tells_place first a vx vy x y cx cy wide high =
      let later : Bool = nat_lt first (length a.places) in
      let b : Patches = record { places = a.places ++ (record { source = r; x = x; y = y }) ∷ []; modes = a.modes } in
      let cluster : ℕ = if later then 6 else 4 in
      tells_both (coordinate (entropy decoder_at) later (last_of a).x r.width size.width) (by_column first a) (token_in cluster vx ∷ []) (token_in cluster vy ∷ replicate kinds add_token) x (with_place a x y)
      (tells_coordinate later (last_of a).x r.width size.width vx x cx wide)
      (tells_both (coordinate (entropy decoder_at) later (last_of a).y r.height size.height) (by_row first a x) (token_in cluster vy ∷ []) (replicate kinds add_token) y (with_place a x y)
      (tells_coordinate later (last_of a).y r.height size.height vy y cy high) (tells_modes kinds kinds b))

module _ (run : List Place) (n : ℕ) (inside : n < length run) (size : Size) (kinds : ℕ) (same : HaveSource run) (a : Patches) where
  long : length (take n run) ≡ n
  long = length-take-le n run (omega (arith, inside))

  abbrev so_far : Patches
  so_far = with_places kinds a (take n run)

  many : length so_far.places ≡ length a.places + n
  many = length-append a.places (take n run) ∙ ap (λ (k : ℕ). length a.places + k) long

  later_is : (m : ℕ) → length so_far.places ≡ length a.places + m → nat_lt (length a.places) (length so_far.places) ≡ nat_lt 0 m
  later_is zero e = le-ltb (length a.places) (length so_far.places) (omega (arith, e))
  later_is (suc m) e = lt-ltb (length a.places) (length so_far.places) (omega (arith, e)) ∙ sym (lt-ltb 0 (suc m) (omega arith))

  -- the place before, if there is one in the run
  last_is : 0 < n → get_or so_far.places (length so_far.places - 1) nowhere ≡ get_or run (n - 1) nowhere
  last_is lt =
      let at : length so_far.places - 1 - length a.places ≡ n - 1 = omega (arith, many, lt) in
      get_or-append_right a.places (take n run) (length a.places) (length so_far.places - 1) nowhere refl (omega (arith, many, lt))
      ∙ ap (λ (k : ℕ). get_or (take n run) k nowhere) at ∙ get_or-take n run (n - 1) nowhere (omega (arith, lt))

  code_is : (m : ℕ) (f : Place → ℕ) (v c : ℕ) → n ≡ m → coordinate_of (nat_lt 0 m) (f (get_or run (n - 1) nowhere)) v ≡ Some c →
      coordinate_of (nat_lt 0 m) (f (get_or so_far.places (length so_far.places - 1) nowhere)) v ≡ Some c
  code_is zero f v c is e = e
  code_is (suc m) f v c is e =
      let l = last_is (omega (arith, is)) in
      subst (λ (p : Place). coordinate_of (nat_lt 0 (suc m)) (f p) v ≡ Some c) (sym l) e

  abbrev nth : Place
  nth = get_or run n nowhere

  place_is : record { source = (get_or run 0 nowhere).source; x = nth.x; y = nth.y } ≡ nth
  place_is = ap (λ (r : Rectangle). record { source = r; x = nth.x; y = nth.y }) (sym (same n inside))

  next_is : with_place size kinds (get_or run 0 nowhere).source so_far nth.x nth.y ≡ with_places kinds a (take (n + 1) run)
  next_is =
      let taken : take (n + 1) run ≡ take n run ++ nth ∷ [] = take_more run n nowhere inside in
      let places : (a.places ++ take n run) ++ record { source = (get_or run 0 nowhere).source; x = nth.x; y = nth.y } ∷ [] ≡ a.places ++ take (n + 1) run =
      ap (λ (p : Place). (a.places ++ take n run) ++ p ∷ []) place_is ∙ append_assoc a.places (take n run) (nth ∷ []) ∙ ap (λ (ps : List Place). a.places ++ ps) (sym taken) in
      let count : length (take n run) * kinds + kinds ≡ length (take (n + 1) run) * kinds =
      ap (λ (k : ℕ). k * kinds + kinds) long ∙ mul_next n ∙ ap (λ (k : ℕ). k * kinds) (sym (length-take-le (n + 1) run (omega (arith, inside)))) in
      let modes : (a.modes ++ replicate (length (take n run) * kinds) Add) ++ replicate kinds Add ≡ a.modes ++ replicate (length (take (n + 1) run) * kinds) Add =
      append_assoc a.modes (replicate (length (take n run) * kinds) Add) (replicate kinds Add)
      ∙ ap (λ (ms : List PatchMode). a.modes ++ ms) (replicate-append-replicate (length (take n run) * kinds) kinds Add ∙ ap (λ (k : ℕ). replicate k Add) count) in
      ap (λ (ps : List Place). record { places = ps; modes = (a.modes ++ replicate (length (take n run) * kinds) Add) ++ replicate kinds Add }) places
      ∙ ap (λ (ms : List PatchMode). record { places = a.places ++ take (n + 1) run; modes = ms }) modes
    where
      mul_next : (k : ℕ) → k * kinds + kinds ≡ (k + 1) * kinds
      mul_next k = omega arith

  nth_read : (tokens : List Token) → IsNthPlace run n kinds tokens → (nth.x + nth.source.width ≤ size.width) × (nth.y + nth.source.height ≤ size.height) → Give (one_place (entropy decoder_at) size kinds (length a.places) (get_or run 0 nowhere).source so_far) tokens (with_places kinds a (take (n + 1) run))
  nth_read tokens t l =
      let source = same n inside in
      let wide : nth.x + (get_or run 0 nowhere).source.width ≤ size.width = subst (λ (r : Rectangle). nth.x + r.width ≤ size.width) source l.0 in
      let high : nth.y + (get_or run 0 nowhere).source.height ≤ size.height = subst (λ (r : Rectangle). nth.y + r.height ≤ size.height) source l.1 in
      let first : ℕ = length a.places in
      let r : Rectangle = (get_or run 0 nowhere).source in
      let later = later_is n many in
      let cx = code_is n (λ p. p.x) t.x nth.x refl t.column in
      let cy = code_is n (λ p. p.y) t.y nth.y refl t.row in
      let read_as = tells_place size kinds r first so_far t.x t.y nth.x nth.y
      (subst (λ (b : Bool). coordinate_of b (get_or so_far.places (length so_far.places - 1) nowhere).x t.x ≡ Some nth.x) (sym later) cx)
      (subst (λ (b : Bool). coordinate_of b (get_or so_far.places (length so_far.places - 1) nowhere).y t.y ≡ Some nth.y) (sym later) cy) wide high in
      let same_tokens = subst (λ (b : Bool). Give (one_place (entropy decoder_at) size kinds first r so_far) (place_tokens b t.x t.y kinds) (with_place size kinds r so_far nth.x nth.y)) later read_as in
      subst (λ (ts : List Token). Give (one_place (entropy decoder_at) size kinds first r so_far) ts (with_places kinds a (take (n + 1) run))) (sym t.are)
      (subst (λ (b : Patches). Give (one_place (entropy decoder_at) size kinds first r so_far) (place_tokens (nat_lt 0 n) t.x t.y kinds) b) next_is same_tokens)

-- no place, and one more of a run
pub places_none : (run : List Place) (kinds : ℕ) (r : Rectangle) → GivePlaces kinds r 0 (take 0 run) []
places_none run kinds r size a lie =
    let none : 0 ≡ length (take 0 run) * kinds = omega arith in
    let modes : a.modes ≡ a.modes ++ replicate (length (take 0 run) * kinds) Add = sym (append-nil a.modes) ∙ ap (λ (n : ℕ). a.modes ++ replicate n Add) none in
    subst (λ (b : Patches). GiveSteps (one_place (entropy decoder_at) size kinds (length a.places) r) 0 a [] b)
    (ap (λ (ps : List Place). record { places = ps; modes = a.modes }) (sym (append-nil a.places)) ∙ ap (λ (ms : List PatchMode). record { places = a.places ++ []; modes = ms }) modes)
    (steps_none (one_place (entropy decoder_at) size kinds (length a.places) r) a)

lie_before : (size : Size) (run : List Place) (n : ℕ) → n < length run → LieIn size (take (n + 1) run) → LieIn size (take n run)
lie_before size run n lt lie k below =
    let long = length-take-le n run (omega (arith, lt)) in
    let longer = length-take-le (n + 1) run (omega (arith, lt)) in
    let is : get_or (take (n + 1) run) k nowhere ≡ get_or (take n run) k nowhere = get_or-take (n + 1) run k nowhere (omega (arith, below, long)) ∙ sym (get_or-take n run k nowhere (omega (arith, below, long))) in
    subst (λ (p : Place). (p.x + p.source.width ≤ size.width) × (p.y + p.source.height ≤ size.height)) is (lie k (omega (arith, below, long, longer)))

pub places_more : (run : List Place) (n kinds : ℕ) (more tokens : List Token) → n < length run → HaveSource run → GivePlaces kinds (get_or run 0 nowhere).source n (take n run) more →
    IsNthPlace run n kinds tokens → GivePlaces kinds (get_or run 0 nowhere).source (n + 1) (take (n + 1) run) (more ++ tokens)
places_more run n kinds more tokens inside same before read_as size a lie =
    let longer = length-take-le (n + 1) run (omega (arith, inside)) in
    let is : get_or (take (n + 1) run) n nowhere ≡ get_or run n nowhere = get_or-take (n + 1) run n nowhere (omega arith) in
    let there = subst (λ (p : Place). (p.x + p.source.width ≤ size.width) × (p.y + p.source.height ≤ size.height)) is (lie n (omega (arith, longer))) in
    steps_more (one_place (entropy decoder_at) size kinds (length a.places) (get_or run 0 nowhere).source) n a (with_places kinds a (take n run)) (with_places kinds a (take (n + 1) run)) more tokens
    (before size a (lie_before size run n inside lie)) (nth_read run n inside size kinds same a tokens read_as there)

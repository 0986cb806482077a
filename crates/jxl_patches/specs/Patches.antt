-- The dictionary of patches: which rectangles of saved frames are put where (ISO/IEC 18181-1, frame: LF global, patches).
use Rattle.std.specs.Prelude.{ℕ, ◌+◌, ◌-◌, ◌*◌, ◌/◌, ◌%◌, ◌==◌, ◌&&◌, ◌||◌, not, nat_lt, nat_le, Bool, false, if◌then◌else◌, List, [], ◌∷◌, ◌++◌, length, get_or, codes, Option, Some, None, is_some, Ok, Err}
use Rattle.std.specs.List.{sum_by}
use Rattle.std.specs.Option.{ok_or, option_and_then, option_map_or}
use Rattle.jxlm_bits.specs.Decoding.{Meaning}
use Rattle.jxlm_bits.specs.ErrorKind.{BadEnum, BadProfile}
use Rattle.jxlm_bits.specs.Grammar.{Grammar, either, give, from_result}
use Rattle.jxl_image_header.specs.Fields.{number_meant}
use Rattle.jxl_frame_header.specs.declared.blending.BlendMode.{BlendMode}
use Rattle.jxl_frame_header.specs.declared.blending.BlendMode.TheVariants as modes
use Rattle.jxl_image_header.specs.declared.size.Size.{Size}
use Rattle.jxlm_bits.specs.Tokens.{Tokens, token, coded_tokens}
use Rattle.jxlm_bits.specs.Turns.{◌>>=◌, chain}
use Rattle.jxl_patches.specs.declared.dictionary.Rectangle.{Rectangle}
use Rattle.jxl_patches.specs.declared.dictionary.Place.{Place}
use Rattle.jxl_patches.specs.declared.dictionary.PatchMode.{PatchMode}
use Rattle.jxl_patches.specs.declared.dictionary.PatchMode.TheVariants.{Keep, Replace, Add, Blend}

-- the most rectangles that a frame of this size may name; of places four times as many
abbrev pub most_rectangles : Size → ℕ
most_rectangles size = 1024 + size.width * size.height / 4

-- a rectangle of the frame that a slot holds: the slot, the corner, and the sides less one; it lies in that frame
abbrev pub source : {S : Type 0} → Meaning S → List (Option Size) → Tokens S Rectangle
source d slots = do
  slot ← token d 1 (λ v. number_meant (codes "slot of a patch") (is_some (get_or slots v None)) v)
  x0 ← token d 3 give
  y0 ← token d 3 give
  w ← token d 2 give
  token d 2 (λ h. from_result (if option_map_or (λ f. nat_lt (x0 + w) f.width && nat_lt (y0 + h) f.height) (get_or slots slot None) false
      then Ok (record { slot = slot; x0 = x0; y0 = y0; width = w + 1; height = h + 1 }) else Err (BadEnum (codes "rectangle of a patch") slot)))

-- a coordinate is coded as it is; a later one as how far it lies from the one before: 2k for k, 2k + 1 for -k - 1, if at 0 or
-- above
abbrev pub coordinate_of : Bool → ℕ → ℕ → Option ℕ
coordinate_of later before v =
    if later then (if v % 2 == 0 then Some (before + v / 2) else if nat_lt (v / 2) before then Some (before - (v / 2 + 1)) else None) else Some v

-- such a coordinate, from which so much lies within a side
abbrev pub coordinate : {S : Type 0} → Meaning S → Bool → ℕ → ℕ → ℕ → Tokens S ℕ
coordinate d later before extent side = token d (if later then 6 else 4) (λ v.
    from_result (ok_or (option_and_then (λ c. if nat_le (c + extent) side then Some c else None) (coordinate_of later before v)) (BadEnum (codes "place of a patch") v)))

-- patches, in the order in which they are put; of each place one mode for the colours, and one for each extra channel
pub record Patches : Type 0 where
  pub places : List Place
  pub modes : List PatchMode

-- a place that covers no cell
abbrev pub nowhere : Place
nowhere = record { source = record { slot = 0; x0 = 0; y0 = 0; width = 0; height = 0 }; x = 0; y = 0 }

-- the number of a mode
abbrev pub mode_number : {S : Type 0} → Meaning S → Tokens S ℕ
mode_number d = token d 5 (λ v. number_meant (codes "mode of a patch") (nat_lt v 8) v)

-- the alpha channel of the mode of this number, if it takes alpha: coded if there are several extra channels, else the first
abbrev pub alpha_channel : {S : Type 0} → Meaning S → ℕ → ℕ → Tokens S ℕ
alpha_channel d kinds mode s = either (nat_lt 3 mode && nat_lt 2 kinds) (token d 8 (λ v. number_meant (codes "alpha channel of a patch") (nat_lt (v + 1) kinds) v) s)
    (give (record { value = 0; state = s }))

-- whether alpha, or the factor of a product, is clamped: coded for the modes that have one
abbrev pub clamp_flag : {S : Type 0} → Meaning S → ℕ → Tokens S Bool
clamp_flag d mode s = either (nat_lt 2 mode) (token d 9 (λ v. give (not (v == 0))) s) (give (record { value = false; state = s }))

-- what the mode of this number from 3 on is for frames: a product; blended over, above and below; added by alpha, above and below
abbrev pub frame_mode : ℕ → BlendMode
frame_mode v = if v == 3 then modes.Mul else if nat_lt v 6 then modes.Blend else modes.MulAdd

-- whether the patch of the mode of this number lies below the frame
abbrev pub is_below : ℕ → Bool
is_below v = v == 5 || v == 7

-- the mode of this number: samples are kept, replaced, added, or blended as those of frames
abbrev pub mode_of : ℕ → ℕ → Bool → PatchMode
mode_of v alpha clamp = if v == 0 then Keep else if v == 1 then Replace else if v == 2 then Add else
    Blend (record { mode = frame_mode v; below = is_below v; alpha_channel = alpha; clamp = clamp })

-- one mode more, of a place with this number of modes
abbrev pub one_mode : {S : Type 0} → Meaning S → ℕ → Patches → Tokens S Patches
one_mode d kinds a = do
  v ← mode_number d
  alpha ← alpha_channel d kinds v
  clamp ← clamp_flag d v
  λ s. give (record { value = record { places = a.places; modes = a.modes ++ mode_of v alpha clamp ∷ [] }; state = s })

-- a place of a rectangle whose first is place n, told from the last one if it is a later one; and its modes
abbrev pub one_place : {S : Type 0} → Meaning S → Size → ℕ → ℕ → Rectangle → Patches → Tokens S Patches
one_place d size kinds n r a = do
  x ← coordinate d (nat_lt n (length a.places)) (get_or a.places (length a.places - 1) nowhere).x r.width size.width
  y ← coordinate d (nat_lt n (length a.places)) (get_or a.places (length a.places - 1) nowhere).y r.height size.height
  chain (one_mode d kinds) kinds (record { places = a.places ++ (record { source = r; x = x; y = y }) ∷ []; modes = a.modes })

-- a rectangle, and its places, one more than is coded: with those before not too many, and of not too many cells
abbrev pub one_rectangle : {S : Type 0} → Meaning S → Size → ℕ → List (Option Size) → ℕ → Patches → Tokens S Patches
one_rectangle d size kinds slots limit a = do
  r ← source d slots
  n ← token d 7 (λ v. from_result (if nat_le (length a.places + (v + 1)) (4 * most_rectangles size) then (
      if nat_le (sum_by (λ (p : Place). p.source.width * p.source.height) a.places + r.width * r.height * (v + 1)) limit then Ok (v + 1)
      else Err (BadProfile (codes "patches of too many cells"))) else Err (BadEnum (codes "places of a patch") v)))
  chain (one_place d size kinds (length a.places) r) n a

-- the dictionary of a frame of this size with this number of extra channels, of slots with these sizes, that puts at most this
-- number of cells
abbrev pub dictionary : {S : Type 0} → Meaning S → Size → ℕ → List (Option Size) → ℕ → Grammar Patches
dictionary d size extra slots limit = coded_tokens d 10 (token d 0 (λ v. number_meant (codes "count of patches") (nat_le v (most_rectangles size)) v) >>= λ n.
    chain (one_rectangle d size (1 + extra) slots limit) n (record { places = []; modes = [] }))

-- Channels of a frame by the list of their shifts, and by their parts: those of colours, and the extra ones.
use Rattle.std.proofs.Common.{◌≡◌, ℕ, zero, suc, ◌+◌, ◌^◌, List, [], ◌∷◌, ◌++◌, length, map, take, drop, ℤ, refl, sym, ap, ◌∙◌, arith}
use Rattle.std.specs.Prelude.{Bool, IsTrue, ◌↔◌, replicate}
use Rattle.std.specs.Int.{div_ceil}
use Rattle.std.specs.List.{All, AllZip}
use Rattle.std.proofs.lemmas.List.Elements.{All-cons, All-head, All-nil, All-tail}
use Rattle.jxlm_base.specs.Grid.{Grid}
use Rattle.jxl_image_header.specs.Images.{Image}
use Rattle.jxl_image_header.specs.declared.channel.ExtraChannel.{ExtraChannel}
use Rattle.jxl_image_header.specs.declared.size.Size.{Size}
use Rattle.jxl_picture.specs.Pictures.{AreChannels, IsWhole, colour_count}
use Rattle.jxl_picture.specs.Sides.{HasShiftedSides, HasSides, HaveSides}
use Rattle.jxl_picture.proofs.Shifts.{shifted_none}

-- a channel of this shift, in a frame of this size
abbrev pub HasShift : Size → ℕ → Grid ℤ → Type 0
HasShift size s g = (g.width ≡ div_ceil size.width (2 ^ s)) × (g.height ≡ div_ceil size.height (2 ^ s))

-- there are as many
pub zip_length : {A B : Type 0} (R : A → B → Type 0) (xs : List A) (ys : List B) → AllZip R xs ys → length ys ≡ length xs
zip_length R [] [] s = refl
zip_length R [] (y ∷ ys) s = absurd s
zip_length R (x ∷ xs) [] s = absurd s
zip_length R (x ∷ xs) (y ∷ ys) s = ap suc (zip_length R xs ys s.1)

to_extra : (size : Size) (cs : List ExtraChannel) (gs : List (Grid ℤ)) → AllZip (HasShift size) (map (λ (c : ExtraChannel). c.dim_shift) cs) gs → AllZip (HasShiftedSides size) cs gs
to_extra size [] [] s = tt
to_extra size [] (g ∷ gs) s = absurd s
to_extra size (c ∷ cs) [] s = absurd s
to_extra size (c ∷ cs) (g ∷ gs) s = (record { wide = s.0.0; high = s.0.1 }, to_extra size cs gs s.1)

of_extra : (size : Size) (cs : List ExtraChannel) (gs : List (Grid ℤ)) → AllZip (HasShiftedSides size) cs gs → AllZip (HasShift size) (map (λ (c : ExtraChannel). c.dim_shift) cs) gs
of_extra size [] [] s = tt
of_extra size [] (g ∷ gs) s = absurd s
of_extra size (c ∷ cs) [] s = absurd s
of_extra size (c ∷ cs) (g ∷ gs) s = ((s.0.wide, s.0.high), of_extra size cs gs s.1)

-- this number of channels of colours, and extra ones
record Parts (size : Size) (n : ℕ) (cs : List ExtraChannel) (gs : List (Grid ℤ)) : Type 0 where
  count : length gs ≡ n + length cs
  colours : All (HasSides size.width size.height) (take n gs)
  extra : AllZip (HasShiftedSides size) cs (drop n gs)

abbrev Sides : Size → Grid ℤ → Type 0
Sides size g = HasSides size.width size.height g

to_parts : (size : Size) (n : ℕ) (cs : List ExtraChannel) (gs : List (Grid ℤ)) → AllZip (HasShift size) (replicate n 0 ++ map (λ (c : ExtraChannel). c.dim_shift) cs) gs → Parts size n cs gs
to_parts size zero cs gs s =
    let extra = to_extra size cs gs s in
    record { count = omega (arith, zip_length (HasShiftedSides size) cs gs extra); colours = All-nil (Sides size); extra = extra }
to_parts size (suc n) cs [] s = absurd s
to_parts size (suc n) cs (g ∷ gs) s =
    let rest = to_parts size n cs gs s.1 in
    record {
      count = omega (arith, rest.count);
      colours = All-cons (Sides size) g (take n gs) (record { wide = s.0.0 ∙ shifted_none size.width; high = s.0.1 ∙ shifted_none size.height }) rest.colours;
      extra = rest.extra;
    }

of_parts : (size : Size) (n : ℕ) (cs : List ExtraChannel) (gs : List (Grid ℤ)) → Parts size n cs gs → AllZip (HasShift size) (replicate n 0 ++ map (λ (c : ExtraChannel). c.dim_shift) cs) gs
of_parts size zero cs gs s = of_extra size cs gs s.extra
of_parts size (suc n) cs [] s = absurd (omega (arith, s.count))
of_parts size (suc n) cs (g ∷ gs) s =
    let first = All-head (Sides size) g (take n gs) s.colours in
    let rest : Parts size n cs gs = record { count = omega (arith, s.count); colours = All-tail (Sides size) g (take n gs) s.colours; extra = s.extra } in
    ((first.wide ∙ sym (shifted_none size.width), first.high ∙ sym (shifted_none size.height)), of_parts size n cs gs rest)

pub have_sides : (image : Image) (size : Size) (channels : List (Grid ℤ)) → AreChannels image size channels → HaveSides image size channels
have_sides image size channels s =
    let are = to_parts size (colour_count image) image.ec_info channels s in
    record { count = are.count; colours = are.colours; extra = are.extra }

pub are_channels : (image : Image) (size : Size) (channels : List (Grid ℤ)) → HaveSides image size channels → AreChannels image size channels
are_channels image size channels s = of_parts size (colour_count image) image.ec_info channels (record { count = s.count; colours = s.colours; extra = s.extra })

-- what tells the one tells the other
pub tells_whole : (image : Image) (channels : List (Grid ℤ)) (b : Bool) → (IsTrue b ↔ HaveSides image image.size channels) → (IsTrue b ↔ IsWhole image channels)
tells_whole image channels b tells = (λ t. are_channels image image.size channels (tells.0 t), λ s. tells.1 (have_sides image image.size channels s))

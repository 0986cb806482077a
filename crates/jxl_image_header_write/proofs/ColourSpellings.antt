-- Spellings of colours and of brightness.
use Rattle.std.proofs.Common.{◌≡◌, ℕ, ◌<◌, List, Bool, true, false, Option, Some, None, inl, inr, ◌⊎◌, refl, sym, ap, subst, arith}
use Rattle.std.specs.Prelude.{not, ◌*◌, ◌==◌, ◌&&◌, ◌||◌, nat_le, nat_lt, if◌then◌else◌, is_some, codes}
use Rattle.std.proofs.lemmas.Bool.{and_parts, eqb-true, leb-true, ltb-true, false≢true}
use Rattle.jxlm_bits.specs.Grammar.{number, flag, u32}
use Rattle.jxlm_bits.specs.declared.bits.U32Spec.TheVariants.{Offset}
use Rattle.jxlm_bit_writer.specs.Writes.{Spells}
use Rattle.jxlm_bit_writer.proofs.WriteLaws.{after, becomes, absent}
use Rattle.jxl_image_header.specs.Fields.{when, bundle_follows, enum_number, variant}
use Rattle.jxl_image_header.specs.Colours.{coordinate, chromaticity, custom_primaries, white_point, primaries, transfer_function, space_of, intent_of, is_grey, is_xyb, colour_encoding, is_positive, is_up_to, linear_limit, tone_mapping}
use Rattle.jxl_image_header.specs.declared.colour.Chromaticity.{Chromaticity}
use Rattle.jxl_image_header.specs.declared.colour.CustomPrimaries.{CustomPrimaries}
use Rattle.jxl_image_header.specs.declared.colour.ColourSpace.{ColourSpace}
use Rattle.jxl_image_header.specs.declared.colour.ColourSpace.TheVariants as spaces
use Rattle.jxl_image_header.specs.declared.colour.WhitePoint.{WhitePoint}
use Rattle.jxl_image_header.specs.declared.colour.WhitePoint.TheVariants as whites
use Rattle.jxl_image_header.specs.declared.colour.Primaries.{Primaries}
use Rattle.jxl_image_header.specs.declared.colour.Primaries.TheVariants as primary_sets
use Rattle.jxl_image_header.specs.declared.colour.TransferFunction.{TransferFunction}
use Rattle.jxl_image_header.specs.declared.colour.TransferFunction.TheVariants as functions
use Rattle.jxl_image_header.specs.declared.colour.RenderingIntent.{RenderingIntent}
use Rattle.jxl_image_header.specs.declared.colour.RenderingIntent.TheVariants as intents
use Rattle.jxl_image_header.specs.declared.colour.ColourEncoding.{ColourEncoding}
use Rattle.jxl_image_header.specs.declared.colour.ToneMapping.{ToneMapping}
use Rattle.jxl_image_header_write.specs.Writable.{is_chromaticity, is_usual_white, is_usual_primaries, is_usual_function, is_usual_intent, is_usual_space, is_unknown_space, is_white, are_primaries, is_function, is_colour, is_tone, is_usual_colour}
use Rattle.jxl_image_header_write.specs.Inner.Numbers.{white_coordinates, primaries_coordinates, exponent_of, IsWhiteNumber, IsPrimariesNumber, IsCurveNumber}
use Rattle.jxl_image_header_write.proofs.Spellings.{present, meant, meant_if, meant_when, variant_if}

-- coordinates
pub coordinate_present : (t : Bool) (v : ℕ) (a b : List ℕ) → t ≡ true → Spells a b (u32 (Offset 0 19) (Offset 524288 19) (Offset 1048576 20) (Offset 2097152 21)) v → Spells a b (coordinate t) v
unfolding coordinate
coordinate_present t v a b e u = present t (u32 (Offset 0 19) (Offset 524288 19) (Offset 1048576 20) (Offset 2097152 21)) 0 v a b e u

pub coordinate_absent : (t : Bool) (v : ℕ) (a : List ℕ) → t ≡ false → v ≡ 0 → Spells a a (coordinate t) v
unfolding coordinate
coordinate_absent t v a e zero = absent t (u32 (Offset 0 19) (Offset 524288 19) (Offset 1048576 20) (Offset 2097152 21)) 0 v a e zero

pub chromaticity_spelled : (t : Bool) (c : Chromaticity) (b0 b1 b2 : List ℕ) → Spells b0 b1 (coordinate t) c.x → Spells b1 b2 (coordinate t) c.y → Spells b0 b2 (chromaticity t) c
unfolding chromaticity
chromaticity_spelled t c b0 b1 b2 u v = becomes (after u v) (λ bytes p q s. (c.x, s.0, s.1, (c.y, q, s.2, (refl, refl))))

pub custom_spelled : (t : Bool) (c : CustomPrimaries) (b0 b1 b2 b3 : List ℕ) → Spells b0 b1 (chromaticity t) c.red → Spells b1 b2 (chromaticity t) c.green → Spells b2 b3 (chromaticity t) c.blue →
    Spells b0 b3 (custom_primaries t) c
unfolding custom_primaries
custom_spelled t c b0 b1 b2 b3 u v w = becomes (after u (after v w)) (λ bytes p q s. (c.red, s.0, s.1, (c.green, s.2.0, s.2.1, (c.blue, q, s.2.2, (refl, refl)))))

-- coordinates that are spelled
pub white_known : (w : WhitePoint) → is_white w ≡ true → is_chromaticity (white_coordinates w) ≡ true
white_known whites.D65 h = refl
white_known (whites.Custom c) h = h
white_known whites.E h = refl
white_known whites.Dci h = refl

pub primaries_known : (w : Primaries) → are_primaries w ≡ true →
    (is_chromaticity (primaries_coordinates w).red && is_chromaticity (primaries_coordinates w).green && is_chromaticity (primaries_coordinates w).blue) ≡ true
primaries_known primary_sets.Srgb h = refl
primaries_known (primary_sets.Custom c) h = h
primaries_known primary_sets.Bt2100 h = refl
primaries_known primary_sets.P3 h = refl

pub white_spelled : (t : Bool) (white : WhitePoint) (v : ℕ) (a b c : List ℕ) → IsWhiteNumber v white → Spells a b (when t enum_number 1) v → Spells b c (chromaticity (v == 2)) (white_coordinates white) →
    Spells a c (white_point t) white
unfolding white_point
white_spelled t white v a b c is u x =
    let w = meant_if t (codes "WhitePoint") (λ n. (n == 1) || (n == 2) || (n == 10) || (n == 11)) v 1 a b is.known u in
    becomes (after w x) (λ bytes p q s. (v, s.0, s.1, (white_coordinates white, q, s.2, (sym is.meant, refl))))

pub primaries_spelled : (t : Bool) (mixed : Primaries) (v : ℕ) (a b c : List ℕ) → IsPrimariesNumber v mixed → Spells a b (when t enum_number 1) v →
    Spells b c (custom_primaries (v == 2)) (primaries_coordinates mixed) → Spells a c (primaries t) mixed
unfolding primaries
primaries_spelled t mixed v a b c is u x =
    let w = meant_if t (codes "Primaries") (λ n. (n == 1) || (n == 2) || (n == 9) || (n == 11)) v 1 a b is.known u in
    becomes (after w x) (λ bytes p q s. (v, s.0, s.1, (primaries_coordinates mixed, q, s.2, (sym is.meant, refl))))

-- a transfer function by its exponent
pub exponent_spelled : (g : ℕ) (a b c : List ℕ) → is_function (functions.Gamma g) ≡ true → Spells a b flag true → Spells b c (number 24) g → Spells a c (transfer_function true) (functions.Gamma g)
unfolding transfer_function
exponent_spelled g a b c fits f u =
    let w = meant (codes "gamma") (λ v. nat_le v 10000000 && nat_le 10000000 (8192 * v)) (number 24) g b c fits u in
    becomes (after f w) (λ bytes p q s. (true, s.0, s.1, (g, q, s.2, (0, q, (refl, refl), (refl, refl)))))

-- an exponent is below 2^24
pub exponent_small : (g : ℕ) → is_function (functions.Gamma g) ≡ true → g < 16777216
exponent_small g h = let m = leb-true g 10000000 (and_parts (nat_le g 10000000) (nat_le 10000000 (8192 * g)) h).0 in omega (arith, m)

-- the transfer function of an exponent
some_is : (g h : ℕ) → Some g ≡ Some h → g ≡ h
some_is g h e = ap (λ (o : Option ℕ). option_or_zero o) e
  where
    option_or_zero : Option ℕ → ℕ
    option_or_zero (Some n) = n
    option_or_zero None = 0

none_some : (g : ℕ) → None ≡ Some g → ⊥
none_some g e = false≢true (ap is_some e)

pub exponent_is : (f : TransferFunction) (g : ℕ) → exponent_of f ≡ Some g → f ≡ functions.Gamma g
exponent_is (functions.Gamma x) g e = ap (λ (n : ℕ). functions.Gamma n) (some_is x g e)
exponent_is functions.Bt709 g e = absurd (none_some g e)
exponent_is functions.Linear g e = absurd (none_some g e)
exponent_is functions.Srgb g e = absurd (none_some g e)
exponent_is functions.Pq g e = absurd (none_some g e)
exponent_is functions.Dci g e = absurd (none_some g e)
exponent_is functions.Hlg g e = absurd (none_some g e)

-- a transfer function by its exponent is present, since it is not the one by default
pub exponent_present : (t : Bool) (f : TransferFunction) (g : ℕ) (a b : List ℕ) → exponent_of f ≡ Some g → (t ≡ false → is_usual_function f ≡ true) →
    Spells a b (transfer_function true) (functions.Gamma g) → Spells a b (transfer_function t) f
exponent_present true f g a b e usual u = subst (λ (x : TransferFunction). Spells a b (transfer_function true) x) (sym (exponent_is f g e)) u
exponent_present false f g a b e usual u = absurd (false≢true (subst (λ (x : TransferFunction). is_usual_function x ≡ true) (exponent_is f g e) (usual refl)))

pub exponent_known : (f : TransferFunction) (g : ℕ) → exponent_of f ≡ Some g → is_function f ≡ true → is_function (functions.Gamma g) ≡ true
exponent_known f g e h = subst (λ (x : TransferFunction). is_function x ≡ true) (exponent_is f g e) h

pub curve_spelled : (t : Bool) (function : TransferFunction) (v : ℕ) (a b c : List ℕ) → IsCurveNumber v function → Spells a b (when t flag false) false → Spells b c (when t enum_number 13) v →
    Spells a c (transfer_function t) function
unfolding transfer_function
curve_spelled t function v a b c is f u =
    let w = meant_if t (codes "TransferFunction") (λ n. (n == 1) || (n == 8) || (n == 13) || (n == 16) || (n == 17) || (n == 18)) v 13 b c is.known u in
    becomes (after f w) (λ bytes p q s. (false, s.0, s.1, (0, s.0, (refl, refl), (v, q, s.2, (sym (is.meant 0), refl)))))

intent_is : (intent : RenderingIntent) → is_usual_intent intent ≡ true → intent ≡ intents.Relative
intent_is intents.Relative h = refl
intent_is intents.Perceptual h = absurd (false≢true h)
intent_is intents.Saturation h = absurd (false≢true h)
intent_is intents.Absolute h = absurd (false≢true h)

pub intent_spelled : (t : Bool) (intent : RenderingIntent) (v : ℕ) (a b : List ℕ) → intent_of v ≡ Some intent → (t ≡ false → is_usual_intent intent ≡ true) → Spells a b (when t enum_number 1) v →
    Spells a b (when t (variant (codes "RenderingIntent") intent_of) intents.Relative) intent
intent_spelled t intent v a b means usual u = variant_if t (codes "RenderingIntent") intent_of v 1 intent intents.Relative a b means (λ e. intent_is intent (usual e)) u

space_is : (space : ColourSpace) → is_usual_space space ≡ true → space ≡ spaces.Rgb
space_is spaces.Rgb h = refl
space_is spaces.Grey h = absurd (false≢true h)
space_is spaces.Xyb h = absurd (false≢true h)
space_is spaces.Unknown h = absurd (false≢true h)

pub space_spelled : (t profile : Bool) (space : ColourSpace) (v : ℕ) (a b : List ℕ) → space_of profile v ≡ Some space → (t ≡ false → is_usual_space space ≡ true) → Spells a b (when t enum_number 0) v →
    Spells a b (when t (variant (codes "ColourSpace") (space_of profile)) spaces.Rgb) space
space_spelled t profile space v a b means usual u = variant_if t (codes "ColourSpace") (space_of profile) v 0 space spaces.Rgb a b means (λ e. space_is space (usual e)) u

-- colours, field by field
pub colour_spelled : (t follows : Bool) (c : ColourEncoding) (b0 b1 b2 b3 b4 b5 b6 b7 : List ℕ) → Spells b0 b1 (bundle_follows t) follows → Spells b1 b2 (when follows flag false) c.want_icc →
    Spells b2 b3 (when follows (variant (codes "ColourSpace") (space_of c.want_icc)) spaces.Rgb) c.colour_space →
    Spells b3 b4 (white_point (follows && not c.want_icc && not (is_xyb c.colour_space))) c.white_point →
    Spells b4 b5 (primaries (follows && not c.want_icc && not (is_grey c.colour_space || is_xyb c.colour_space))) c.primaries →
    Spells b5 b6 (transfer_function (follows && not c.want_icc && not (is_xyb c.colour_space))) c.transfer_function →
    Spells b6 b7 (when (follows && not c.want_icc) (variant (codes "RenderingIntent") intent_of) intents.Relative) c.rendering_intent → Spells b0 b7 (colour_encoding t) c
unfolding colour_encoding
colour_spelled t follows c b0 b1 b2 b3 b4 b5 b6 b7 u p s w m f i =
    becomes (after u (after p (after s (after w (after m (after f i)))))) (λ bytes x q k. (
      follows,
      k.0,
      k.1,
      (
        c.want_icc,
        k.2.0,
        k.2.1,
        (
          c.colour_space,
          k.2.2.0,
          k.2.2.1,
          (
            c.white_point,
            k.2.2.2.0,
            k.2.2.2.1,
            (
              c.primaries,
              k.2.2.2.2.0,
              k.2.2.2.2.1,
              (c.transfer_function, k.2.2.2.2.2.0, k.2.2.2.2.2.1, (c.rendering_intent, q, k.2.2.2.2.2.2, (refl, refl))),
            ),
          ),
        ),
      ),
    ))

-- what brightness is that the reader takes
pub record ToneParts (x : ToneMapping) : Type 0 where
  pub target : is_positive x.intensity_target ≡ true
  pub least : is_up_to x.intensity_target x.min_nits ≡ true
  pub below : is_up_to (linear_limit x.relative_to_max_display) x.linear_below ≡ true

pub tone_parts : (x : ToneMapping) → is_tone x ≡ true → ToneParts x
tone_parts x h =
    let s2 = and_parts (is_positive x.intensity_target && is_up_to x.intensity_target x.min_nits) (is_up_to (linear_limit x.relative_to_max_display) x.linear_below) h in
    let s1 = and_parts (is_positive x.intensity_target) (is_up_to x.intensity_target x.min_nits) s2.0 in
    record { target = s1.0; least = s1.1; below = s2.1 }

-- such a float has 16 bits
pub positive_low : (v : ℕ) → is_positive v ≡ true → v < 0x8000
positive_low v h = let t = and_parts (nat_lt 0 v) (nat_lt v 0x7C00) h in let low = ltb-true v 0x7C00 t.1 in omega (arith, low)

pub limit_low : (relative : Bool) → linear_limit relative < 0x8000
limit_low true = omega arith
limit_low false = omega arith

pub up_to_fits : (most v : ℕ) → most < 0x8000 → is_up_to most v ≡ true → v < 65536
up_to_fits most v low h = by (nat_le v most) refl h where
  by : (t : Bool) → nat_le v most ≡ t → (t || (v == 0x8000)) ≡ true → v < 65536
  by true e k = let le = leb-true v most e in omega (arith, le, low)
  by false e k = let is = eqb-true v 0x8000 k in omega (arith, is)

-- brightness, field by field
pub tone_spelled : (t follows : Bool) (x : ToneMapping) (b0 b1 b2 b3 b4 b5 : List ℕ) → ToneParts x → Spells b0 b1 (bundle_follows t) follows → Spells b1 b2 (when follows (number 16) 0x5BF8) x.intensity_target →
    Spells b2 b3 (when follows (number 16) 0) x.min_nits → Spells b3 b4 (when follows flag false) x.relative_to_max_display → Spells b4 b5 (when follows (number 16) 0) x.linear_below →
    Spells b0 b5 (tone_mapping t) x
unfolding tone_mapping
tone_spelled t follows x b0 b1 b2 b3 b4 b5 parts u v w r l =
    let target = meant_when follows (codes "intensity_target") is_positive (number 16) x.intensity_target 0x5BF8 b1 b2 parts.target v in
    let least = meant_when follows (codes "min_nits") (is_up_to x.intensity_target) (number 16) x.min_nits 0 b2 b3 parts.least w in
    let below = meant_when follows (codes "linear_below") (is_up_to (linear_limit x.relative_to_max_display)) (number 16) x.linear_below 0 b4 b5 parts.below l in
    becomes (after u (after target (after least (after r below)))) (λ bytes p q k.
    (follows, k.0, k.1, (x.intensity_target, k.2.0, k.2.1, (x.min_nits, k.2.2.0, k.2.2.1, (x.relative_to_max_display, k.2.2.2.0, k.2.2.2.1, (x.linear_below, q, k.2.2.2.2, (refl, refl)))))))

usual_white : (w : WhitePoint) → is_usual_white w ≡ true → is_white w ≡ true
usual_white whites.D65 h = refl
usual_white (whites.Custom c) h = absurd (false≢true h)
usual_white whites.E h = refl
usual_white whites.Dci h = refl

usual_mixed : (w : Primaries) → is_usual_primaries w ≡ true → are_primaries w ≡ true
usual_mixed primary_sets.Srgb h = refl
usual_mixed (primary_sets.Custom c) h = absurd (false≢true h)
usual_mixed primary_sets.Bt2100 h = refl
usual_mixed primary_sets.P3 h = refl

usual_function : (w : TransferFunction) → is_usual_function w ≡ true → is_function w ≡ true
usual_function (functions.Gamma g) h = absurd (false≢true h)
usual_function functions.Bt709 h = refl
usual_function functions.Linear h = refl
usual_function functions.Srgb h = refl
usual_function functions.Pq h = refl
usual_function functions.Dci h = refl
usual_function functions.Hlg h = refl

-- where a test holds the usual value, else a known one: so a known one
either_known : (t usual known : Bool) → (usual ≡ true → known ≡ true) → (if t then usual else known) ≡ true → known ≡ true
either_known true usual known f h = f h
either_known false usual known f h = h

either_usual : (t usual known : Bool) → (if t then usual else known) ≡ true → t ≡ true → usual ≡ true
either_usual true usual known h e = h
either_usual false usual known h e = absurd (false≢true e)

-- what is not explicit is usual, as all is usual or a profile tells it, or by its kind
implicit : (usual profile kind : Bool) → (not usual && not profile && not kind) ≡ false → (usual ≡ true) ⊎ ((profile || kind) ≡ true)
implicit true profile kind h = inl refl
implicit false true kind h = inr refl
implicit false false true h = inr refl
implicit false false false h = absurd (false≢true (sym h))

-- what colours that are spelled are
pub record ColourParts (c : ColourEncoding) : Type 0 where
  pub known : (c.want_icc || not (is_unknown_space c.colour_space)) ≡ true
  pub white : is_white c.white_point ≡ true
  pub white_usual : (c.want_icc || is_xyb c.colour_space) ≡ true → is_usual_white c.white_point ≡ true
  pub mixed : are_primaries c.primaries ≡ true
  pub mixed_usual : (c.want_icc || (is_grey c.colour_space || is_xyb c.colour_space)) ≡ true → is_usual_primaries c.primaries ≡ true
  pub curve : is_function c.transfer_function ≡ true
  pub curve_usual : (c.want_icc || is_xyb c.colour_space) ≡ true → is_usual_function c.transfer_function ≡ true
  pub intent : c.want_icc ≡ true → is_usual_intent c.rendering_intent ≡ true

untold_intent : (a b : Bool) → (not a || b) ≡ true → a ≡ true → b ≡ true
untold_intent true b h e = h
untold_intent false b h e = absurd (false≢true e)

pub colour_parts : (c : ColourEncoding) → is_colour c ≡ true → ColourParts c
colour_parts c w =
    let k : Bool = c.want_icc || not (is_unknown_space c.colour_space) in
    let t : Bool = c.want_icc || is_xyb c.colour_space in
    let g : Bool = c.want_icc || (is_grey c.colour_space || is_xyb c.colour_space) in
    let wh : Bool = if t then is_usual_white c.white_point else is_white c.white_point in
    let mi : Bool = if g then is_usual_primaries c.primaries else are_primaries c.primaries in
    let cu : Bool = if t then is_usual_function c.transfer_function else is_function c.transfer_function in
    let it : Bool = not c.want_icc || is_usual_intent c.rendering_intent in
    let s4 = and_parts (k && wh && mi && cu) (it) w in
    let s3 = and_parts (k && wh && mi) (cu) s4.0 in
    let s2 = and_parts (k && wh) (mi) s3.0 in
    let s1 = and_parts (k) (wh) s2.0 in
    record {
      known = s1.0;
      white = either_known t (is_usual_white c.white_point) (is_white c.white_point) (usual_white c.white_point) s1.1;
      white_usual = either_usual t (is_usual_white c.white_point) (is_white c.white_point) s1.1;
      mixed = either_known g (is_usual_primaries c.primaries) (are_primaries c.primaries) (usual_mixed c.primaries) s2.1;
      mixed_usual = either_usual g (is_usual_primaries c.primaries) (are_primaries c.primaries) s2.1;
      curve = either_known t (is_usual_function c.transfer_function) (is_function c.transfer_function) (usual_function c.transfer_function) s3.1;
      curve_usual = either_usual t (is_usual_function c.transfer_function) (is_function c.transfer_function) s3.1;
      intent = untold_intent c.want_icc (is_usual_intent c.rendering_intent) s4.1;
    }

-- what colours by default are
pub record UsualColours (c : ColourEncoding) : Type 0 where
  pub profile : c.want_icc ≡ false
  pub space : is_usual_space c.colour_space ≡ true
  pub white : is_usual_white c.white_point ≡ true
  pub mixed : is_usual_primaries c.primaries ≡ true
  pub curve : is_usual_function c.transfer_function ≡ true
  pub intent : is_usual_intent c.rendering_intent ≡ true

not_true : (b : Bool) → not b ≡ true → b ≡ false
not_true true h = absurd (false≢true h)
not_true false h = refl

pub usual_colours : (c : ColourEncoding) → is_usual_colour c ≡ true → UsualColours c
usual_colours c w =
    let sp : Bool = is_usual_space c.colour_space in
    let wh : Bool = is_usual_white c.white_point in
    let mi : Bool = is_usual_primaries c.primaries in
    let cu : Bool = is_usual_function c.transfer_function in
    let it : Bool = is_usual_intent c.rendering_intent in
    let s5 = and_parts (not c.want_icc && sp && wh && mi && cu) (it) w in
    let s4 = and_parts (not c.want_icc && sp && wh && mi) (cu) s5.0 in
    let s3 = and_parts (not c.want_icc && sp && wh) (mi) s4.0 in
    let s2 = and_parts (not c.want_icc && sp) (wh) s3.0 in
    let s1 = and_parts (not c.want_icc) (sp) s2.0 in
    record { profile = not_true c.want_icc s1.0; space = s1.1; white = s2.1; mixed = s3.1; curve = s4.1; intent = s5.1 }

-- what is not signalled is usual, in turn of the fields
pub white_untold : (c : ColourEncoding) → is_colour c ≡ true → (not (is_usual_colour c) && not c.want_icc && not (is_xyb c.colour_space)) ≡ false → is_usual_white c.white_point ≡ true
white_untold c w h = elim (implicit (is_usual_colour c) c.want_icc (is_xyb c.colour_space) h) [
  | inl u ↦ (usual_colours c u).white
  | inr t ↦ (colour_parts c w).white_usual t
]

pub mixed_untold : (c : ColourEncoding) → is_colour c ≡ true → (not (is_usual_colour c) && not c.want_icc && not (is_grey c.colour_space || is_xyb c.colour_space)) ≡ false → is_usual_primaries c.primaries ≡ true
mixed_untold c w h = elim (implicit (is_usual_colour c) c.want_icc (is_grey c.colour_space || is_xyb c.colour_space) h) [
  | inl u ↦ (usual_colours c u).mixed
  | inr t ↦ (colour_parts c w).mixed_usual t
]

pub curve_untold : (c : ColourEncoding) → is_colour c ≡ true → (not (is_usual_colour c) && not c.want_icc && not (is_xyb c.colour_space)) ≡ false → is_usual_function c.transfer_function ≡ true
curve_untold c w h = elim (implicit (is_usual_colour c) c.want_icc (is_xyb c.colour_space) h) [
  | inl u ↦ (usual_colours c u).curve
  | inr t ↦ (colour_parts c w).curve_usual t
]

implicit_two : (usual profile : Bool) → (not usual && not profile) ≡ false → (usual ≡ true) ⊎ (profile ≡ true)
implicit_two true profile h = inl refl
implicit_two false true h = inr refl
implicit_two false false h = absurd (false≢true (sym h))

pub intent_untold : (c : ColourEncoding) → is_colour c ≡ true → (not (is_usual_colour c) && not c.want_icc) ≡ false → is_usual_intent c.rendering_intent ≡ true
intent_untold c w h = elim (implicit_two (is_usual_colour c) c.want_icc h) [
  | inl u ↦ (usual_colours c u).intent
  | inr t ↦ (colour_parts c w).intent t
]

-- Spellings of a header that uses the frame's tree.
use Rattle.std.proofs.Common.{◌≡◌, ◌∙◌, ℕ, ◌+◌, ◌<◌, ◌≤◌, arith, get_or, length, take, List, [], Bool, true, false, ◌&&◌, codes, if◌then◌else◌, Option, None, Some, refl, sym, ap, subst}
use Rattle.std.specs.Prelude.{◌==◌, ok_or, slice_get}
use Rattle.std.specs.List.{All}
use Rattle.std.proofs.lemmas.List.{get_or-map, length-map, take_all, take_more}
use Rattle.jxlm_bits.specs.ErrorKind.{BadEnum}
use Rattle.jxlm_bits.specs.Grammar.{flag, from_result, number, repeated, u32}
use Rattle.jxlm_bits.specs.declared.bits.U32Spec.TheVariants.{Const, Offset}
use Rattle.jxlm_bit_writer.specs.Writes.{Spells}
use Rattle.jxlm_bit_writer.proofs.WriteLaws.{after, becomes, one_more}
use Rattle.jxlm_header.specs.Header.{file_header}
use Rattle.jxlm_transform.specs.Transforms.{OfPalette, OfRct, Transform, begin_channel, weights_for}
use Rattle.jxlm_transform.specs.Params.{clamps_indices, columns, is_zero}
use Rattle.jxlm_transform.specs.declared.param.PaletteTables.TheVariants.{OfDeltasToo}
use Rattle.jxlm_transform.proofs.TransformLaws.{rct_stands}
use Rattle.jxlm_transform.specs.declared.transform.Palette.{Palette}
use Rattle.jxlm_transform.specs.declared.transform.Rct.{Rct}
use Rattle.jxlm_predictor.specs.Predictions.{predictors}
use Rattle.jxlm_predictor.specs.declared.predictor.Predictor.{Predictor}
use Rattle.jxlm_predictor.specs.declared.predictor.Predictor.TheVariants.{West, Zero}
use Rattle.jxlm_weighted.specs.WeightsHeader.{default_weights}
use Rattle.jxlm_weighted.specs.declared.weights.WpHeader.{WpHeader}
use Rattle.jxl_encode_image.specs.Palettes.{plain_predictor}
use Rattle.jxl_encode_image.specs.Preparations.{IsPlainPalette, IsSpelled, image_transforms, shared_header, transform_listed}
use Rattle.jxl_encode_image.specs.declared.transform.ImageTransform.{ImageTransform}
use Rattle.jxl_encode_image.specs.Inner.Lists.{file_transform, transform_list}

pub colour_spelled : (t : Rct) → t.rct_type ≤ 41 → (b0 b1 b2 b3 : List ℕ) → Spells b0 b1 (number 2) 0 → Spells b1 b2 begin_channel t.begin_c → Spells b2 b3 (u32 (Const 6) (Offset 0 2) (Offset 2 4) (Offset 10 6)) t.rct_type →
    Spells b0 b3 file_transform (OfRct t)
colour_spelled t low b0 b1 b2 b3 n b k =
    becomes (after n (after b k)) (λ bytes p q s. (0, s.0, s.1, (t, q, rct_stands bytes s.0 t q low (t.begin_c, s.2.0, s.2.1, (t.rct_type, q, s.2.2, (refl, refl))), (refl, refl))))

-- a palette without differences keeps no weights
none_of : (one : Bool) → weights_for (if one then West else Zero) default_weights ≡ None
none_of true = refl
none_of false = refl

none_kept : (channels : ℕ) → weights_for (plain_predictor channels) default_weights ≡ None
none_kept channels = none_of (channels == 1)

-- by predictor 0 one channel would clamp indices
no_case : (one none : Bool) → (one && none && is_zero (if one then West else Zero)) ≡ false
no_case true true = refl
no_case true false = refl
no_case false none = refl

never_clamps : (channels : ℕ) → clamps_indices OfDeltasToo channels 0 (plain_predictor channels) ≡ false
never_clamps channels = no_case (channels == 1) true

pub palette_spelled : (t : Palette) → IsPlainPalette t → (m : ℕ) → slice_get predictors m ≡ Some t.d_pred → (b0 b1 b2 b3 b4 b5 b6 : List ℕ) → Spells b0 b1 (number 2) 1 → Spells b1 b2 begin_channel t.begin_c → Spells b2 b3 (u32 (Const 1) (Const 3) (Const 4) (Offset 1 13)) t.num_c →
    Spells b3 b4 (u32 (Offset 0 8) (Offset 256 10) (Offset 1280 12) (Offset 5376 16)) t.nb_colours → Spells b4 b5 (u32 (Const 0) (Offset 1 8) (Offset 257 10) (Offset 1281 16)) 0 → Spells b5 b6 (number 4) m →
    Spells b0 b6 file_transform (OfPalette t)
palette_spelled t plain m found b0 b1 b2 b3 b4 b5 b6 n b c k d p =
    let predictor : Predictor = plain_predictor t.num_c in
    let there : Some predictor ≡ slice_get predictors m = ap (λ (u : Palette). Some u.d_pred) (sym plain.is) ∙ sym found in
    let made : ℕ → Bool → Option WpHeader → Palette = λ width clamps kept. record { begin_c = t.begin_c; num_c = t.num_c; nb_colours = width; nb_deltas = 0; d_pred = predictor; clamps_indices = clamps; implicit_rgb = true; wp_header = kept } in
    let wide : t.nb_colours ≡ columns OfDeltasToo t.nb_colours 0 = omega arith in
    let is : t ≡ made (columns OfDeltasToo t.nb_colours 0) (clamps_indices OfDeltasToo t.num_c 0 predictor) (weights_for predictor default_weights) =
    plain.is ∙ ap (made t.nb_colours false) (sym (none_kept t.num_c)) ∙ ap (λ (n : ℕ). made n false (weights_for predictor default_weights)) wide
    ∙ ap (λ (b : Bool). made (columns OfDeltasToo t.nb_colours 0) b (weights_for predictor default_weights)) (sym (never_clamps t.num_c)) in
    becomes (after n (after b (after c (after k (after d p))))) (λ bytes from q s.
    let channels = s.2.2 in
    let colours = channels.2 in
    let deltas = colours.2 in
    (1, s.0, s.1, (t, q, (t.begin_c, s.2.0, s.2.1, (t.num_c, channels.0, channels.1, (t.nb_colours, colours.0, colours.1, (0, deltas.0, deltas.1, (predictor, q, (m, q, deltas.2, subst (λ (o : Option Predictor). (from_result (ok_or o (BadEnum (codes "MaProperty") m))).Stands bytes q predictor q) there (refl, refl)), (is, refl)))))), (refl, refl))))

pub all_listed : (n : ℕ) (ts : List Transform) (a b c : List ℕ) → Spells a b (u32 (Const 0) (Const 1) (Offset 2 4) (Offset 18 8)) n → Spells b c (repeated n file_transform) ts → Spells a c transform_list ts
all_listed n ts a b c u v = becomes (after u v) (λ bytes p q s. (n, s.0, s.1, s.2))

-- transforms one after another
pub next_listed : (ts : List ImageTransform) (i : ℕ) (d : ImageTransform) (a b c : List ℕ) → i < length ts → Spells a b (repeated i file_transform) (take i (image_transforms ts)) →
    Spells b c file_transform (transform_listed (get_or ts i d)) → Spells a c (repeated (i + 1) file_transform) (take (i + 1) (image_transforms ts))
next_listed ts i d a b c lt u v =
    let long = length-map ts transform_listed in
    let here : transform_listed (get_or ts i d) ≡ get_or (image_transforms ts) i (transform_listed d) = sym (get_or-map transform_listed ts i d (transform_listed d) lt) in
    rw (take_more (image_transforms ts) i (transform_listed d) (omega (arith, long, lt)))
    (one_more i file_transform (take i (image_transforms ts)) (get_or (image_transforms ts) i (transform_listed d)) a b c u (subst (λ (t : Transform). Spells b c file_transform t) here v))

pub whole_list : (ts : List ImageTransform) (i : ℕ) (a b : List ℕ) → length ts ≤ i → i ≤ length ts → Spells a b (repeated i file_transform) (take i (image_transforms ts)) →
    Spells a b (repeated (length ts) file_transform) (image_transforms ts)
whole_list ts i a b least most u =
    let long = length-map ts transform_listed in
    let e : i ≡ length ts = omega (arith, least, most) in
    subst (λ (ys : List Transform). Spells a b (repeated (length ts) file_transform) ys) (take_all (length ts) (image_transforms ts) (omega (arith, long)))
    (subst (λ (n : ℕ). Spells a b (repeated n file_transform) (take n (image_transforms ts))) e u)

pub listed_spelled : (ts : List ImageTransform) (i : ℕ) (d : ImageTransform) → All IsSpelled (image_transforms ts) → i < length ts → IsSpelled (transform_listed (get_or ts i d))
listed_spelled ts i d all lt =
    let long = length-map ts transform_listed in
    subst IsSpelled (get_or-map transform_listed ts i d (transform_listed d) lt) (all i (transform_listed d) (omega (arith, long, lt)))

pub header_spelled : (ts : List Transform) (b0 b1 b2 b3 : List ℕ) → Spells b0 b1 flag true → Spells b1 b2 flag true → Spells b2 b3 transform_list ts → Spells b0 b3 file_header (shared_header ts)
header_spelled ts b0 b1 b2 b3 f g l =
    becomes (after f (after g l)) (λ bytes p q s.
    let (count, k, counted, listed) = s.2.2 in
    (true, s.0, s.1, (default_weights, s.2.0, (true, s.2.0, s.2.1, (refl, refl)), (count, k, counted, (ts, q, listed, (refl, refl))))))

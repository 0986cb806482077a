-- Transforms are read exactly.
use Rattle.std.proofs.Common.{◌≡◌, ℕ, ◌≤◌, List, Bool, true, false, if◌then◌else◌, refl, sym, subst, arith, Some, Result, Ok, Err}
use Rattle.std.specs.Prelude.{ok_or, slice_get, codes}
use Rattle.std.proofs.lemmas.Bool.Decides.{nat_tests}
use Rattle.jxlm_bits.specs.ErrorKind.{ErrorKind, BadEnum, BadRct}
use Rattle.jxlm_bits.specs.Grammar.{Grammar, IsErrorAt, IsExact, ◌>>=◌, from_result}
use Rattle.jxlm_bits.specs.declared.bits.U32Spec.TheVariants.{Const, Offset}
use Rattle.jxlm_bits.proofs.GrammarLaws.{exact-give, exact-fail, exact-number, exact-bind, exact-either, exact-repeated, exact-flag, exact-u32}
use Rattle.jxlm_predictor.specs.Predictions.{predictors}
use Rattle.jxlm_weighted.specs.declared.weights.WpHeader.{WpHeader}
use Rattle.jxlm_transform.specs.Params.{clamps_indices, columns, has_colour_kind, has_deltas}
use Rattle.jxlm_transform.specs.declared.param.PaletteTables.{PaletteTables}
use Rattle.jxlm_transform.specs.declared.param.PaletteTables.TheVariants.{OfColours, OfDeltasToo}
use Rattle.jxlm_transform.specs.declared.transform.Rct.{Rct}
use Rattle.jxlm_transform.specs.Transforms.{OfRct, OfPalette, OfSqueeze, begin_channel, rct, rct_by, predictor, weights_for, palette_by, squeeze_params, squeeze, transform_by}

bind : {X Y : Type 0} {field : Grammar X} {next : X → Grammar Y} → IsExact field → ((x : X) → IsExact (next x)) → IsExact (field >>= next)
bind {field} {next} first rest = exact-bind field next first rest

exact-begin : IsExact begin_channel
exact-begin = exact-u32 (Offset 0 3) (Offset 8 6) (Offset 72 10) (Offset 1096 13)

pub exact-rct : IsExact rct
exact-rct = bind exact-begin λ begin. bind (exact-u32 (Const 6) (Offset 0 2) (Offset 2 4) (Offset 10 6)) λ kind. exact-give (record { begin_c = begin; rct_type = kind })

pub exact-checked : {X : Type 0} (r : Result X ErrorKind) → IsExact (from_result r)
exact-checked (Ok x) = exact-give x
exact-checked (Err e) = exact-fail e

-- and in a header with these tables
pub exact-rct_by : (tables : PaletteTables) → IsExact (rct_by tables)
exact-rct_by OfColours = exact-rct
exact-rct_by OfDeltasToo = bind exact-rct λ t. exact-checked (if has_colour_kind OfDeltasToo t.rct_type then Ok t else Err BadRct)

kept_there : (b : Bool) (bytes : List ℕ) (p : ℕ) (u : Rct) (m : ℕ) (t : Rct) (q : ℕ) → rct.Stands bytes p u m → (from_result (if b then Ok u else Err BadRct)).Stands bytes m t q → rct.Stands bytes p t q
kept_there true bytes p u m t q f l = subst (λ (v : Rct). rct.Stands bytes p v q) (sym l.0) (subst (λ n. rct.Stands bytes p u n) (sym l.1) f)
kept_there false bytes p u m t q f l = absurd l

-- it is one that stands there
pub rct_there : (tables : PaletteTables) (bytes : List ℕ) (p : ℕ) (t : Rct) (q : ℕ) → (rct_by tables).Stands bytes p t q → rct.Stands bytes p t q
rct_there OfColours bytes p t q s = s
rct_there OfDeltasToo bytes p t q s =
    let (u, m, first, last) = s in
    kept_there (has_colour_kind OfDeltasToo u.rct_type) bytes p u m t q first last

-- in a file its kind is at most 41
pub rct_stands : (bytes : List ℕ) (p : ℕ) (t : Rct) (q : ℕ) → t.rct_type ≤ 41 → rct.Stands bytes p t q → (rct_by OfDeltasToo).Stands bytes p t q
rct_stands bytes p t q low s =
    let has : has_colour_kind OfDeltasToo t.rct_type ≡ true = grind (arith, nat_tests) in
    (t, q, s, rw has (refl, refl))

taken : (b : Bool) (bytes : List ℕ) (q : ℕ) (t : Rct) → b ≡ true → (from_result (if b then Ok t else Err BadRct)).read bytes q ≡ Ok (record { value = t; position = q })
taken true bytes q t e = refl
taken false bytes q t e = cc

refused : (b : Bool) (bytes : List ℕ) (q : ℕ) (t : Rct) → b ≡ false → (from_result (if b then Ok t else Err BadRct)).read bytes q ≡ Err (record { error = BadRct; position = Some q })
refused true bytes q t e = cc
refused false bytes q t e = refl

-- what is read there
module _ (bytes : List ℕ) (p : ℕ) where
  pub rct_kept : (tables : PaletteTables) (t : Rct) (q : ℕ) → rct.read bytes p ≡ Ok (record { value = t; position = q }) → has_colour_kind tables t.rct_type ≡ true → (rct_by tables).read bytes p ≡ Ok (record { value = t; position = q })
  rct_kept OfColours t q read has = read
  rct_kept OfDeltasToo t q read has = rw read (taken (has_colour_kind OfDeltasToo t.rct_type) bytes q t has)

  pub rct_refused : (tables : PaletteTables) (t : Rct) (q : ℕ) → rct.read bytes p ≡ Ok (record { value = t; position = q }) → has_colour_kind tables t.rct_type ≡ false → IsErrorAt ((rct_by tables).read bytes p) BadRct q
  rct_refused OfColours t q read has = cc
  rct_refused OfDeltasToo t q read has = record { place = Some q; refuses = rw read (refused (has_colour_kind OfDeltasToo t.rct_type) bytes q t has); stands = refl }

  pub rct_fails : (tables : PaletteTables) (error : ErrorKind) (q : ℕ) → IsErrorAt (rct.read bytes p) error q → IsErrorAt ((rct_by tables).read bytes p) error q
  rct_fails OfColours error q h = h
  rct_fails OfDeltasToo error q h = record { place = h.place; refuses = rw h.refuses refl; stands = h.stands }

exact-predictor : IsExact predictor
exact-predictor = bind (exact-number 4) λ n. exact-checked (ok_or (slice_get predictors n) (BadEnum (codes "MaProperty") n))

pub exact-palette : (tables : PaletteTables) (weights : WpHeader) → IsExact (palette_by tables weights)
exact-palette tables weights =
    bind exact-begin λ begin.
    bind (exact-u32 (Const 1) (Const 3) (Const 4) (Offset 1 13)) λ channels.
    bind (exact-u32 (Offset 0 8) (Offset 256 10) (Offset 1280 12) (Offset 5376 16)) λ colours.
    bind (exact-u32 (Const 0) (Offset 1 8) (Offset 257 10) (Offset 1281 16)) λ deltas.
    bind exact-predictor λ predictor.
    exact-give (record { begin_c = begin; num_c = channels; nb_colours = columns tables colours deltas; nb_deltas = deltas; d_pred = predictor; clamps_indices = clamps_indices tables channels deltas predictor; implicit_rgb = has_deltas tables; wp_header = weights_for predictor weights })

exact-squeeze_params : IsExact squeeze_params
exact-squeeze_params =
    bind exact-flag λ horizontal. bind exact-flag λ in_place. bind exact-begin λ begin.
    bind (exact-u32 (Const 1) (Const 2) (Const 3) (Offset 4 4)) λ channels.
    exact-give (record { horizontal = horizontal; in_place = in_place; begin_c = begin; num_c = channels })

pub exact-squeeze : IsExact squeeze
exact-squeeze = bind (exact-u32 (Const 0) (Offset 1 4) (Offset 9 6) (Offset 41 8)) λ count. exact-repeated count squeeze_params exact-squeeze_params

pub exact-transform : (tables : PaletteTables) (weights : WpHeader) → IsExact (transform_by tables weights)
exact-transform tables weights =
    bind (exact-number 2) λ kind.
    exact-either _ _ _ (bind (exact-rct_by tables) λ t. exact-give (OfRct t))
    (exact-either _ _ _ (bind (exact-palette tables weights) λ t. exact-give (OfPalette t))
    (exact-either _ _ _ (bind exact-squeeze λ t. exact-give (OfSqueeze t)) (exact-fail (BadEnum (codes "TransformId") kind))))

-- Headers that were written stand where their bits stand.
use Rattle.std.proofs.Common.{ℕ, suc, ◌+◌, ◌≤◌, List, [], ◌∷◌, ◌++◌, length, Bool, true, false, refl, arith}
use Rattle.std.specs.List.{All, flat_map}
use Rattle.std.proofs.lemmas.List.{length-append}
use Rattle.jxlm_bits.specs.Grammar.{Grammar, flag, u32, give, repeated, ◌>>=◌}
use Rattle.jxlm_bits.specs.declared.bits.U32Spec.TheVariants.{Const, Offset}
use Rattle.jxlm_header.specs.Header.{Header, header}
use Rattle.jxlm_transform.specs.Transforms.{Transform, OfRct, OfPalette, OfSqueeze, IsSqueezeParams, IsRct, begin_channel, rct, squeeze_params, squeeze, transform}
use Rattle.jxlm_transform.specs.declared.transform.Rct.{Rct}
use Rattle.jxlm_transform.specs.declared.transform.SqueezeParams.{SqueezeParams}
use Rattle.jxlm_weighted.specs.declared.weights.WpHeader.{WpHeader}
use Rattle.jxlm_weighted.specs.WeightsHeader.{wp_header, default_weights}
use Rattle.jxlm_bit_writer.specs.Written.{digits}
use Rattle.jxlm_encode_write.specs.Laws.{IsWritten, HeadersStand}
use Rattle.jxlm_encode_write.specs.Headers.{flag_bits, begin_bits, kind_bits, count_bits, steps_count_bits, transforms_count_bits, rct_bits, params_bits, squeeze_bits, transform_bits, header_bits}
use Rattle.jxlm_bit_writer.proofs.BitLists.{has_first, has_rest}
use Rattle.jxlm_bit_writer.proofs.FieldLaws.{StandsAs, number_as, flag_as, u32_as}
use Rattle.jxlm_encode_write.proofs.Spelled.{begin_spelled, kind_spelled, count_spelled, steps_spelled, transforms_spelled}

-- one field after another
seq_as : {X Y : Type 0} (field : Grammar X) (next : X → Grammar Y) (x : X) (y : Y) (xs ys : List ℕ) → StandsAs field x xs → StandsAs (next x) y ys → StandsAs (field >>= next) y (xs ++ ys)
seq_as field next x y xs ys f n bytes p q h e =
    let l = length-append xs ys in
    (x, p + length xs, f bytes p (p + length xs) (has_first bytes p xs ys h) refl, n bytes (p + length xs) q (has_rest bytes p xs ys h) (omega (arith, l, e)))

-- a last field, and what is made of it
last_as : {X Y : Type 0} (field : Grammar X) (make : X → Y) (x : X) (xs : List ℕ) → StandsAs field x xs → StandsAs (field >>= λ x. give (make x)) (make x) xs
last_as field make x xs f bytes p q h e = (x, q, f bytes p q h e, (refl, refl))

nothing_as : {X : Type 0} (x : X) → StandsAs (give x) x []
nothing_as x bytes p q h e = (refl, omega (arith, e))

-- fields of one kind
repeated_as : {X : Type 0} (field : Grammar X) (bits : X → List ℕ) (P : X → Type 0) → ((x : X) → P x → StandsAs field x (bits x)) → (xs : List X) → All P xs →
    StandsAs (repeated (length xs) field) xs (flat_map bits xs)
repeated_as field bits P each [] all = nothing_as []
repeated_as field bits P each (x ∷ xs) all =
    seq_as field (λ y. repeated (length xs) field >>= λ ys. give (y ∷ ys)) x (x ∷ xs) (bits x) (flat_map bits xs) (each x (all 0 x (omega arith)))
    (last_as (repeated (length xs) field) (λ ys. x ∷ ys) xs (flat_map bits xs) (repeated_as field bits P each xs (λ k d lt. all (suc k) d (omega (arith, lt)))))

begin_as : (v : ℕ) → v ≤ 9287 → StandsAs begin_channel v (begin_bits v)
begin_as v h = u32_as (Offset 0 3) (Offset 8 6) (Offset 72 10) (Offset 1096 13) v (begin_spelled v h)

rct_as : (t : Rct) → IsRct t → StandsAs rct t (rct_bits t)
rct_as t h =
    let next : ℕ → Grammar Rct = λ x. u32 (Const 6) (Offset 0 2) (Offset 2 4) (Offset 10 6) >>= λ k. give (record { begin_c = x; rct_type = k }) in
    seq_as begin_channel next t.begin_c t (begin_bits t.begin_c) (kind_bits t.rct_type) (begin_as t.begin_c h.begin)
    (last_as {Y = Rct} (u32 (Const 6) (Offset 0 2) (Offset 2 4) (Offset 10 6)) (λ k. record { begin_c = t.begin_c; rct_type = k }) t.rct_type (kind_bits t.rct_type)
    (u32_as (Const 6) (Offset 0 2) (Offset 2 4) (Offset 10 6) t.rct_type (kind_spelled t.rct_type h.kind)))

params_as : (t : SqueezeParams) → IsSqueezeParams t → StandsAs squeeze_params t (params_bits t)
params_as t h =
    let n3 : Bool → Bool → ℕ → Grammar SqueezeParams = λ a b c. u32 (Const 1) (Const 2) (Const 3) (Offset 4 4) >>= λ n. give (record { horizontal = a; in_place = b; begin_c = c; num_c = n }) in
    let n2 : Bool → Bool → Grammar SqueezeParams = λ a b. begin_channel >>= λ c. n3 a b c in
    let n1 : Bool → Grammar SqueezeParams = λ a. flag >>= λ b. n2 a b in
    seq_as flag n1 t.horizontal t (flag_bits t.horizontal) (flag_bits t.in_place ++ (begin_bits t.begin_c ++ count_bits t.num_c)) (flag_as t.horizontal)
    (seq_as flag (n2 t.horizontal) t.in_place t (flag_bits t.in_place) (begin_bits t.begin_c ++ count_bits t.num_c) (flag_as t.in_place)
    (seq_as begin_channel (n3 t.horizontal t.in_place) t.begin_c t (begin_bits t.begin_c) (count_bits t.num_c) (begin_as t.begin_c h.begin)
    (last_as {Y = SqueezeParams} (u32 (Const 1) (Const 2) (Const 3) (Offset 4 4)) (λ n. record { horizontal = t.horizontal; in_place = t.in_place; begin_c = t.begin_c; num_c = n }) t.num_c (count_bits t.num_c)
    (u32_as (Const 1) (Const 2) (Const 3) (Offset 4 4) t.num_c (count_spelled t.num_c h.some_channels h.channels)))))

squeeze_as : (steps : List SqueezeParams) → length steps ≤ 296 → All IsSqueezeParams steps → StandsAs squeeze steps (squeeze_bits steps)
squeeze_as steps few each =
    seq_as (u32 (Const 0) (Offset 1 4) (Offset 9 6) (Offset 41 8)) (λ n. repeated n squeeze_params) (length steps) steps (steps_count_bits (length steps)) (flat_map params_bits steps)
    (u32_as (Const 0) (Offset 1 4) (Offset 9 6) (Offset 41 8) (length steps) (steps_spelled (length steps) few))
    (repeated_as squeeze_params params_bits IsSqueezeParams params_as steps each)

transform_as : (t : Transform) → IsWritten t → StandsAs (transform default_weights) t (transform_bits t)
transform_as (OfRct t) h bytes p q b e =
    let l = length-append (digits 2 0) (rct_bits t) in (
      0,
      p + length (digits 2 0),
      number_as 2 0 (omega arith) bytes p (p + length (digits 2 0)) (has_first bytes p (digits 2 0) (rct_bits t) b) refl,
      last_as rct OfRct t (rct_bits t) (rct_as t h) bytes (p + length (digits 2 0)) q (has_rest bytes p (digits 2 0) (rct_bits t) b) (omega (arith, l, e)),
    )
transform_as (OfPalette t) h bytes p q b e = absurd h
transform_as (OfSqueeze steps) h bytes p q b e =
    let l = length-append (digits 2 2) (squeeze_bits steps) in (
      2,
      p + length (digits 2 2),
      number_as 2 2 (omega arith) bytes p (p + length (digits 2 2)) (has_first bytes p (digits 2 2) (squeeze_bits steps) b) refl,
      last_as squeeze OfSqueeze steps (squeeze_bits steps) (squeeze_as steps h.count h.each) bytes (p + length (digits 2 2)) q (has_rest bytes p (digits 2 2) (squeeze_bits steps) b) (omega (arith, l, e)),
    )

-- the bits code the header that was written
pub header_as : (ts : List Transform) → length ts ≤ 273 → All IsWritten ts → StandsAs header (record { use_global_tree = false; wp_params = default_weights; transform = ts }) (header_bits ts)
header_as ts few each =
    let h : Header = record { use_global_tree = false; wp_params = default_weights; transform = ts } in
    let n3 : Bool → WpHeader → ℕ → Grammar Header = λ g w n. repeated n (transform w) >>= λ us. give (record { use_global_tree = g; wp_params = w; transform = us }) in
    let n2 : Bool → WpHeader → Grammar Header = λ g w. u32 (Const 0) (Const 1) (Offset 2 4) (Offset 18 8) >>= λ n. n3 g w n in
    let n1 : Bool → Grammar Header = λ g. wp_header >>= λ w. n2 g w in
    seq_as flag n1 false h (digits 1 0) (digits 1 1 ++ (transforms_count_bits (length ts) ++ flat_map transform_bits ts)) (flag_as false)
    (seq_as wp_header (n2 false) default_weights h (digits 1 1) (transforms_count_bits (length ts) ++ flat_map transform_bits ts)
    (λ bytes p q b e. (true, q, flag_as true bytes p q b e, (refl, refl)))
    (seq_as (u32 (Const 0) (Const 1) (Offset 2 4) (Offset 18 8)) (n3 false default_weights) (length ts) h (transforms_count_bits (length ts)) (flat_map transform_bits ts)
    (u32_as (Const 0) (Const 1) (Offset 2 4) (Offset 18 8) (length ts) (transforms_spelled (length ts) few))
    (last_as {Y = Header} (repeated (length ts) (transform default_weights)) (λ us. record { use_global_tree = false; wp_params = default_weights; transform = us }) ts (flat_map transform_bits ts)
    (repeated_as (transform default_weights) transform_bits IsWritten transform_as ts each))))

pub headers_stand : HeadersStand
headers_stand bytes p ts few each h = header_as ts few each bytes p (p + length (header_bits ts)) h refl

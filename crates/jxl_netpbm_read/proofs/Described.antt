-- The image header of a netpbm file can be written and is supported, and the channels are all of its channels.
use Rattle.std.proofs.Common.{◌≡◌, ℕ, zero, suc, ◌+◌, ◌-◌, ◌^◌, ◌≤◌, ℤ, inl, inr, List, [], ◌∷◌, ◌++◌, length, length-append, replicate, Bool, true, false, Some, None, refl, sym, ◌∙◌, subst, arith}
use Rattle.std.specs.Prelude.{◌⊎◌, ◌&&◌, ◌||◌, ◌==◌, nat_le, nat_lt, slice_get}
use Rattle.std.specs.List.{AllZip}
use Rattle.std.proofs.lemmas.Bool.{and_from}
use Rattle.std.proofs.lemmas.Bool.Decides.{nat_tests}
use Rattle.std.proofs.lemmas.Option.{same_Some, slice_get_within}
use Rattle.jxlm_base.specs.Grid.{Grid}
use Rattle.jxl_image_header.specs.Images.{image_refusal}
use Rattle.jxl_image_header.specs.declared.size.Size.{Size}
use Rattle.jxl_image_header_write.specs.Writable.{is_depth, is_size, is_side as can_spell_side, is_writable}
use Rattle.jxl_picture.specs.Pictures.{IsWhole}
use Rattle.jxl_picture.proofs.Channels.{HasShift}
use Rattle.jxl_picture.proofs.Shifts.{shifted_none}
use Rattle.jxl_netpbm_read.specs.Files.{depth_by, image_by}
use Rattle.jxl_netpbm_read.specs.Inner.Rows.{HoldsChannels}
use Rattle.jxl_netpbm_read.specs.Parts.{IsHeader, IsStorage, is_side}
use Rattle.jxl_netpbm_read.specs.Samples.{HoldsChannel, channels_of}
use Rattle.jxl_netpbm_read.specs.declared.header.Header.{Header}
use Rattle.jxl_netpbm_read.specs.declared.header.Storage.{Storage}
use Rattle.jxl_netpbm_read.specs.declared.header.Storage.TheVariants.{Numbers, Floats}
use Rattle.jxl_netpbm_read.proofs.Places.{side_least, side_most}

or_last : (a b c d : Bool) → d ≡ true → (a || b || c || d) ≡ true
or_last true b c d h = refl
or_last false true c d h = refl
or_last false false true d h = refl
or_last false false false d h = h

or_first : (a b : Bool) → a ≡ true → (a || b) ≡ true
or_first true b h = refl
or_first false b h = elim b as (λ v. (false || v) ≡ true) [ true ↦ refl | false ↦ h ]

within_spelled : (n : ℕ) → 1 ≤ n → n ≤ 2 ^ 30 → (nat_le 1 n && nat_lt (n - 1) (2 ^ 30)) ≡ true
within_spelled n low high =
    let a : nat_le 1 n ≡ true = grind (arith, nat_tests) in
    let b : nat_lt (n - 1) (2 ^ 30) ≡ true = grind (arith, nat_tests) in
    and_from (nat_le 1 n) (nat_lt (n - 1) (2 ^ 30)) a b

-- a side is spelled
side_spelled : (n : ℕ) → is_side n ≡ true → can_spell_side false n ≡ true
side_spelled n t =
    or_last (nat_le 1 n && nat_lt (n - 1) (2 ^ 9)) (nat_le 1 n && nat_lt (n - 1) (2 ^ 13)) (nat_le 1 n && nat_lt (n - 1) (2 ^ 18)) (nat_le 1 n && nat_lt (n - 1) (2 ^ 30))
    (within_spelled n (side_least n t) (side_most n t))

size_spelled : (w h : ℕ) → is_side w ≡ true → is_side h ≡ true → is_size false (record { width = w; height = h }) ≡ true
size_spelled w h wide high =
    let first = side_spelled h high in
    let second = side_spelled w wide in
    rw (first, second) refl

-- 1 to 16 bits are a depth
bits_spelled : (n : ℕ) → 1 ≤ n → n ≤ 16 → is_depth (record { bits_per_sample = n; exp_bits = 0 }) ≡ true
bits_spelled n low high =
    let a : nat_le 1 n ≡ true = grind (arith, nat_tests) in
    let b : nat_lt (n - 1) (2 ^ 6) ≡ true = grind (arith, nat_tests) in
    let few : nat_lt n 32 ≡ true = grind (arith, nat_tests) in
    and_from ((8 == n) || (10 == n) || (12 == n) || (nat_le 1 n && nat_lt (n - 1) (2 ^ 6))) (nat_lt n 32)
    (or_last (8 == n) (10 == n) (12 == n) (nat_le 1 n && nat_lt (n - 1) (2 ^ 6)) (and_from (nat_le 1 n) (nat_lt (n - 1) (2 ^ 6)) a b)) few

depth_spelled : (alpha : Bool) (s : Storage) → IsStorage alpha s → is_depth (depth_by s) ≡ true
depth_spelled alpha (Numbers bits) stored = bits_spelled bits stored.0 stored.1
depth_spelled alpha (Floats little) stored = refl

-- by cases of grey and alpha
parts_writable : (w h start : ℕ) (is_grey has_alpha : Bool) (s : Storage) → is_side w ≡ true → is_side h ≡ true → IsStorage has_alpha s →
    is_writable (image_by (record { width = w; height = h; grey = is_grey; alpha = has_alpha; storage = s; start = start })) ≡ true
parts_writable w h start true true (Numbers bits) wide high stored = let a = size_spelled w h wide high in let b = bits_spelled bits stored.0 stored.1 in rw (a, b) refl
parts_writable w h start true false (Numbers bits) wide high stored = let a = size_spelled w h wide high in let b = bits_spelled bits stored.0 stored.1 in rw (a, b) refl
parts_writable w h start false true (Numbers bits) wide high stored = let a = size_spelled w h wide high in let b = bits_spelled bits stored.0 stored.1 in rw (a, b) refl
parts_writable w h start false false (Numbers bits) wide high stored = let a = size_spelled w h wide high in let b = bits_spelled bits stored.0 stored.1 in rw (a, b) refl
parts_writable w h start true true (Floats little) wide high stored = cc
parts_writable w h start false true (Floats little) wide high stored = cc
parts_writable w h start true false (Floats little) wide high stored = let a = size_spelled w h wide high in rw a refl
parts_writable w h start false false (Floats little) wide high stored = let a = size_spelled w h wide high in rw a refl

pub is_writable-image_by : (h : Header) → IsHeader h → is_writable (image_by h) ≡ true
is_writable-image_by h is = parts_writable h.width h.height h.start h.grey h.alpha h.storage is.wide is.high is.stored

parts_supported : (w h start : ℕ) (is_grey has_alpha : Bool) (s : Storage) → IsStorage has_alpha s →
    image_refusal (image_by (record { width = w; height = h; grey = is_grey; alpha = has_alpha; storage = s; start = start })) ≡ None
parts_supported w h start is_grey true (Numbers bits) stored = refl
parts_supported w h start is_grey false (Numbers bits) stored = refl
parts_supported w h start is_grey true (Floats little) stored = cc
parts_supported w h start is_grey false (Floats little) stored = refl

pub image_refusal-image_by : (h : Header) → IsHeader h → image_refusal (image_by h) ≡ None
image_refusal-image_by h is = parts_supported h.width h.height h.start h.grey h.alpha h.storage is.stored

-- channels of the picture's size are not halved
all_full : (size : Size) (n : ℕ) (gs : List (Grid ℤ)) → length gs ≡ n → ((k : ℕ) (g : Grid ℤ) → slice_get gs k ≡ Some g → (g.width ≡ size.width) × (g.height ≡ size.height)) →
    AllZip (HasShift size) (replicate n 0) gs
all_full size zero [] e own = tt
all_full size zero (g ∷ gs) e own = absurd (omega (arith, e))
all_full size (suc n) [] e own = absurd (omega (arith, e))
all_full size (suc n) (g ∷ gs) e own =
    let first = own 0 g refl in
    ((first.0 ∙ sym (shifted_none size.width), first.1 ∙ sym (shifted_none size.height)), all_full size n gs (omega (arith, e)) (λ k other at. own (suc k) other at))

parts_whole : (w h start : ℕ) (is_grey has_alpha : Bool) (s : Storage) (gs : List (Grid ℤ)) →
    AllZip (HasShift (record { width = w; height = h })) (replicate (channels_of (record { width = w; height = h; grey = is_grey; alpha = has_alpha; storage = s; start = start })) 0) gs →
    IsWhole (image_by (record { width = w; height = h; grey = is_grey; alpha = has_alpha; storage = s; start = start })) gs
parts_whole w h start true true s gs all = all
parts_whole w h start true false s gs all = all
parts_whole w h start false true s gs all = all
parts_whole w h start false false s gs all = all

pub are_whole : (h : Header) (bytes : List ℕ) (gs : List (Grid ℤ)) → HoldsChannels h bytes (channels_of h) gs → IsWhole (image_by h) gs
are_whole h bytes gs holds =
    parts_whole h.width h.height h.start h.grey h.alpha h.storage gs
    (all_full (record { width = h.width; height = h.height }) (channels_of h) gs holds.count (λ k g at. let own = holds.samples k g at in (own.wide, own.high)))

-- no channels, and one more
pub no_channels : (h : Header) (bytes : List ℕ) → HoldsChannels h bytes 0 []
no_channels h bytes = record { count = refl; samples = λ k g at. absurd (omega (arith, slice_get_within [] k g at)) }

last_channel : (gs : List (Grid ℤ)) (g other : Grid ℤ) (k n : ℕ) → length gs ≡ n → slice_get (gs ++ g ∷ []) k ≡ Some other → (slice_get gs k ≡ Some other) ⊎ ((k ≡ n) × (g ≡ other))
last_channel [] g other zero n e at = inr (omega (arith, e), same_Some g other at)
last_channel [] g other (suc k) n e at = absurd (omega (arith, slice_get_within [] k other at))
last_channel (x ∷ xs) g other zero n e at = inl at
last_channel (x ∷ xs) g other (suc k) n e at =
    elim (last_channel xs g other k (n - 1) (omega (arith, e)) at) [ inl before ↦ inl before | inr last ↦ inr (omega (arith, e, last.0), last.1) ]

pub one_more_channel : (h : Header) (bytes : List ℕ) (n : ℕ) (gs : List (Grid ℤ)) (g : Grid ℤ) → HoldsChannels h bytes n gs → HoldsChannel h bytes n g → HoldsChannels h bytes (n + 1) (gs ++ g ∷ [])
one_more_channel h bytes n gs g holds one = record {
  count = omega (arith, length-append gs (g ∷ []), holds.count);
  samples = λ k other at. elim (last_channel gs g other k n holds.count at) [
    | inl before ↦ holds.samples k other before
    | inr last ↦ subst (λ (m : ℕ). HoldsChannel h bytes m other) (sym last.0) (subst (λ (v : Grid ℤ). HoldsChannel h bytes n v) last.1 one)
  ];
}

-- Spellings of sizes.
use Rattle.std.proofs.Common.{◌≡◌, ℕ, ◌+◌, ◌-◌, ◌*◌, ◌/◌, ◌%◌, ◌<◌, ◌≤◌, List, Bool, true, false, refl, sym, ap, ◌∙◌, subst, arith}
use Rattle.std.specs.Prelude.{not, ◌==◌, ◌&&◌, ◌||◌, nat_le}
use Rattle.std.proofs.lemmas.Bool.{and_parts, eqb-true, leb-true, false≢true}
use Rattle.jxlm_bits.specs.Grammar.{number, flag, u32, give, either}
use Rattle.jxlm_bits.specs.declared.bits.U32Spec.TheVariants.{Const, Offset}
use Rattle.jxlm_bit_writer.specs.Fields.{is_spelled}
use Rattle.jxlm_bit_writer.specs.Writes.{Spells}
use Rattle.jxlm_bit_writer.proofs.WriteLaws.{after, becomes, chose_first, chose_second, given}
use Rattle.jxl_image_header.specs.Sizes.{side, width_at, size}
use Rattle.jxl_image_header.specs.declared.size.Size.{Size}
use Rattle.jxl_image_header_write.specs.Inner.Sides.{is_short_side, fits}
use Rattle.jxl_image_header_write.specs.Writable.{is_side, has_ratio, is_size}

-- a side in short form: how many eights it is
pub short_parts : (v : ℕ) → fits false true v ≡ true → (v ≡ 8 * (v / 8)) × (8 ≤ v) × (v ≤ 256)
short_parts v h =
    let s = and_parts (v % 8 == 0) (nat_le 8 v && nat_le v 256) h in
    let e = eqb-true (v % 8) 0 s.0 in
    let r = and_parts (nat_le 8 v) (nat_le v 256) s.1 in
    (omega (arith, e), leb-true 8 v r.0, leb-true v 256 r.1)

pub eighth_small : (v : ℕ) → fits false true v ≡ true → (1 ≤ v / 8) × (v / 8 - 1 < 32)
eighth_small v h = let s = short_parts v h in let e = s.0 in let a = s.1 in let b = s.2 in (omega (arith, e, a), omega (arith, e, b))

pub image_short : (v : ℕ) (a b : List ℕ) → fits false true v ≡ true → Spells a b (number 5) (v / 8 - 1) → Spells a b (side false true) v
unfolding side
image_short v a b h u =
    let s = (short_parts v h).0 in
    let m = (eighth_small v h).0 in
    let e : v ≡ 8 * (v / 8 - 1 + 1) = omega (arith, s, m) in
    becomes u (λ bytes p q k. (v / 8 - 1, q, k, (e, refl)))

pub image_long : (v : ℕ) (a b : List ℕ) → Spells a b (u32 (Offset 1 9) (Offset 1 13) (Offset 1 18) (Offset 1 30)) v → Spells a b (side false false) v
unfolding side
image_long v a b u = u

pub preview_parts : (v : ℕ) → fits true true v ≡ true → (v ≡ 8 * (v / 8)) × (is_spelled (Const 16) (Const 32) (Offset 1 5) (Offset 33 9) (v / 8) ≡ true)
preview_parts v h =
    let s = and_parts (v % 8 == 0) (is_spelled (Const 16) (Const 32) (Offset 1 5) (Offset 33 9) (v / 8)) h in
    let e = eqb-true (v % 8) 0 s.0 in
    (omega (arith, e), s.1)

pub preview_short : (v : ℕ) (a b : List ℕ) → fits true true v ≡ true → Spells a b (u32 (Const 16) (Const 32) (Offset 1 5) (Offset 33 9)) (v / 8) → Spells a b (side true true) v
unfolding side
preview_short v a b h u = becomes u (λ bytes p q k. (v / 8, q, k, ((preview_parts v h).0, refl)))

pub preview_long : (v : ℕ) (a b : List ℕ) → Spells a b (u32 (Offset 1 6) (Offset 65 8) (Offset 321 10) (Offset 1345 12)) v → Spells a b (side true false) v
unfolding side
preview_long v a b u = u

-- the height fits the form that was chosen
pub height_fits : (preview short : Bool) (s : Size) (x : Bool) → short ≡ (is_short_side preview s.height && x) → is_size preview s ≡ true → fits preview short s.height ≡ true
height_fits preview true s x e w = (and_parts (is_short_side preview s.height) x (sym e)).0
height_fits preview false s x e w = (and_parts (is_side preview s.height) (is_side preview s.width || has_ratio s) w).0

second : (a b c : Bool) → a ≡ false → (a && b || c) ≡ true → c ≡ true
second true b c e h = absurd (false≢true (sym e))
second false b c e h = h

first : (a b : Bool) → b ≡ false → (a || b) ≡ true → a ≡ true
first true b e h = refl
first false b e h = absurd (false≢true (sym e ∙ h))

-- the width fits it too, where there is no ratio
pub width_fits : (preview short : Bool) (s : Size) (ratio : ℕ) (x : Bool) → short ≡ (is_short_side preview s.height && (not (ratio == 0) && x || is_short_side preview s.width)) →
    not (ratio == 0) ≡ has_ratio s → is_size preview s ≡ true → ratio ≡ 0 → fits preview short s.width ≡ true
width_fits preview true s ratio x e exists w zero =
    let n : not (ratio == 0) ≡ false = ap (λ (k : ℕ). not (k == 0)) zero in
    second (not (ratio == 0)) x (is_short_side preview s.width) n (and_parts (is_short_side preview s.height) (not (ratio == 0) && x || is_short_side preview s.width) (sym e)).1
width_fits preview false s ratio x e exists w zero =
    let n : not (ratio == 0) ≡ false = ap (λ (k : ℕ). not (k == 0)) zero in
    first (is_side preview s.width) (has_ratio s) (sym exists ∙ n) (and_parts (is_side preview s.height) (is_side preview s.width || has_ratio s) w).1

-- a width at a ratio, and by itself
pub width_given : (preview short : Bool) (ratio : ℕ) (s : Size) (a : List ℕ) → (ratio == 0) ≡ false → width_at ratio s.height ≡ s.width →
    Spells a a (either (ratio == 0) (side preview short) (give (width_at ratio s.height))) s.width
width_given preview short ratio s a e found =
    chose_second (ratio == 0) (side preview short) (give (width_at ratio s.height)) s.width a a e
    (subst (λ (w : ℕ). Spells a a (give (width_at ratio s.height)) w) found (given (width_at ratio s.height) a))

pub width_alone : (preview short : Bool) (ratio : ℕ) (s : Size) (a b : List ℕ) → (ratio == 0) ≡ true → Spells a b (side preview short) s.width →
    Spells a b (either (ratio == 0) (side preview short) (give (width_at ratio s.height))) s.width
width_alone preview short ratio s a b e u = chose_first (ratio == 0) (side preview short) (give (width_at ratio s.height)) s.width a b e u

pub size_spelled : (preview short : Bool) (ratio : ℕ) (s : Size) (b0 b1 b2 b3 b4 : List ℕ) → Spells b0 b1 flag short → Spells b1 b2 (side preview short) s.height → Spells b2 b3 (number 3) ratio →
    Spells b3 b4 (either (ratio == 0) (side preview short) (give (width_at ratio s.height))) s.width → Spells b0 b4 (size preview) s
unfolding size
size_spelled preview short ratio s b0 b1 b2 b3 b4 u v w x =
    becomes (after u (after v (after w x))) (λ bytes p q k. (short, k.0, k.1, (s.height, k.2.0, k.2.1, (ratio, k.2.2.0, k.2.2.1, (s.width, q, k.2.2.2, (refl, refl))))))

-- Spellings of the header of a still picture's frame.
use Rattle.std.proofs.Common.{◌≡◌, ℕ, ◌+◌, ◌≤◌, List, [], length, replicate, Bool, true, false, Option, None, refl, sym, subst, arith}
use Rattle.std.specs.Prelude.{not, ◌&&◌, ◌||◌, nat_lt, codes}
use Rattle.std.proofs.lemmas.Grind.{replicate_next}
use Rattle.jxlm_bits.specs.Grammar.{Grammar, number, flag, u32, repeated}
use Rattle.jxlm_bits.specs.declared.bits.U32Spec.TheVariants.{Const, Offset}
use Rattle.jxlm_bit_writer.specs.Writes.{Spells, Writes}
use Rattle.jxlm_bit_writer.proofs.WriteLaws.{after, becomes, absent, one_more, spelled_reads}
use Rattle.jxl_image_header.specs.Fields.{long, when, bundle_follows, number_where, extensions, name}
use Rattle.jxl_image_header.specs.Images.{Image}
use Rattle.jxl_image_header.specs.declared.image.Animation.{Animation}
use Rattle.jxl_frame_header.specs.Codings.{factor, coding, flags_of}
use Rattle.jxl_frame_header.specs.Passes.{passes}
use Rattle.jxl_frame_header.specs.Blendings.{blending_info, frame_use}
use Rattle.jxl_frame_header.specs.Filters.{filter}
use Rattle.jxl_frame_header.specs.Frames.{frame_header}
use Rattle.jxl_frame_header.specs.declared.coding.FrameType.TheVariants.{Regular}
use Rattle.jxl_frame_header.proofs.FrameLaws.{exact-frame_header}
use Rattle.jxl_frame_header_write.specs.Stills.{still_coding, one_pass, replaces, last_use, no_filter, still_frame}

pub one_spelled : (a b : List ℕ) → Spells a b (u32 (Const 1) (Const 2) (Const 4) (Const 8)) 1 → Spells a b factor 1
unfolding factor
one_spelled a b u = u

-- the same field once more
pub same_more : {X : Type 0} (n : ℕ) (f : Grammar X) (x : X) (a b c : List ℕ) → Spells a b (repeated n f) (replicate n x) → Spells b c f x → Spells a c (repeated (n + 1) f) (replicate (n + 1) x)
same_more n f x a b c u v = rw (replicate_next n x) (one_more n f (replicate n x) x a b c u v)

-- the same field n times
pub same_all : {X : Type 0} (n m : ℕ) (f : Grammar X) (x : X) (a b : List ℕ) → n ≤ m → m ≤ n → Spells a b (repeated m f) (replicate m x) → Spells a b (repeated n f) (replicate n x)
same_all n m f x a b least most u =
    let e : m ≡ n = omega (arith, least, most) in
    subst (λ (k : ℕ). Spells a b (repeated k f) (replicate k x)) e u

pub coding_spelled : (xyb : Bool) (b0 b1 b2 b3 b4 b5 : List ℕ) → Spells b0 b1 (number 2) 0 → Spells b1 b2 flag true → Spells b2 b3 (number 2) 0 → Spells b3 b4 (when (not xyb) flag false) false →
    Spells b4 b5 factor 1 → Spells b0 b5 (coding true xyb) still_coding
unfolding coding long
coding_spelled xyb b0 b1 b2 b3 b4 b5 n m l y f =
    becomes (after n (after m (after l (after y f)))) (λ bytes p q k.
    (0, k.0, k.1, (true, k.2.0, k.2.1, (flags_of 0, k.2.2.0, (0, k.2.2.0, (0, k.2.2.0, k.2.2.1, (refl, refl)), (refl, refl)), (false, k.2.2.2.0, k.2.2.2.1, (0, k.2.2.2.0, (refl, refl), (1, q, k.2.2.2.2, (refl, refl))))))))

pub pass_spelled : (a b : List ℕ) → Spells a b (u32 (Const 1) (Const 2) (Const 3) (Offset 4 3)) 1 → Spells a b (passes true) one_pass
unfolding passes
pass_spelled a b u = becomes u (λ bytes p q s. (1, q, s, (0, q, (refl, refl), ([], q, (refl, refl), ([], q, (refl, refl), ([], q, (refl, refl), (refl, refl)))))))

and_false : (b : Bool) → (b && false) ≡ false
and_false true = refl
and_false false = refl

or_false : (b : Bool) → (b && false || false) ≡ false
or_false true = refl
or_false false = refl

pub replaces_spelled : (extra : ℕ) (a b : List ℕ) → Spells a b (u32 (Const 0) (Const 1) (Const 2) (Offset 3 2)) 0 → Spells a b (blending_info true extra false) replaces
unfolding blending_info
replaces_spelled extra a b u =
    let alpha = absent (nat_lt 0 extra && false) (number_where (codes "alpha_channel") (λ v. nat_lt v extra) (u32 (Const 0) (Const 1) (Const 2) (Offset 3 3))) 0 0 b (and_false (nat_lt 0 extra)) refl in
    let clamp = absent (nat_lt 0 extra && false || false) flag false false b (or_false (nat_lt 0 extra)) refl in
    becomes (after u (after alpha clamp)) (λ bytes p q k.
    (0, k.0, (0, k.0, k.1, (refl, refl)), (0, k.2.0, k.2.1, (false, q, k.2.2, (0, q, (refl, refl), (refl, refl))))))

pub filter_spelled : (b0 b1 b2 b3 b4 : List ℕ) → Spells b0 b1 (bundle_follows true) true → Spells b1 b2 flag false → Spells b2 b3 (number 2) 0 → Spells b3 b4 (when true extensions 0) 0 →
    Spells b0 b4 (filter true true) no_filter
unfolding filter
filter_spelled b0 b1 b2 b3 b4 u g t e =
    becomes (after u (after g (after t e))) (λ bytes p q k. (
      true,
      k.0,
      k.1,
      (
        false,
        k.2.0,
        k.2.1,
        (
          tt,
          k.2.0,
          (refl, refl),
          (
            0,
            k.2.2.0,
            k.2.2.1,
            (
              tt,
              k.2.2.0,
              (refl, refl),
              (
                tt,
                k.2.2.0,
                (refl, refl),
                (
                  tt,
                  k.2.2.0,
                  (refl, refl),
                  (
                    tt,
                    k.2.2.0,
                    (refl, refl),
                    (0, q, k.2.2.2, (refl, refl)),
                  ),
                ),
              ),
            ),
          ),
        ),
      ),
    ))

-- the last frame of an image that is not animated
last_spelled : (a b : List ℕ) → Spells a b flag true → Spells a b (frame_use true None Regular true) last_use
unfolding frame_use
last_spelled a b u = becomes u (λ bytes p q s. (0, p, (refl, refl), (0, p, (refl, refl), (true, q, s, (0, q, (refl, refl), (false, q, (refl, refl), (refl, refl)))))))

pub frame_spelled : (image : Image) (shift : ℕ) (b0 b1 b2 b3 b4 b5 b6 b7 b8 b9 b10 b11 b12 : List ℕ) → image.animation ≡ None → Spells b0 b1 (bundle_follows true) true →
    Spells b1 b2 (coding true image.xyb_encoded) still_coding → Spells b2 b3 (repeated (length image.ec_info) factor) (replicate (length image.ec_info) 1) → Spells b3 b4 (number 2) shift →
    Spells b4 b5 (passes true) one_pass → Spells b5 b6 flag false → Spells b6 b7 (blending_info true (length image.ec_info) false) replaces →
    Spells b7 b8 (repeated (length image.ec_info) (blending_info true (length image.ec_info) false)) (replicate (length image.ec_info) replaces) → Spells b8 b9 flag true → Spells b9 b10 name 0 →
    Spells b10 b11 (filter true true) no_filter → Spells b11 b12 (when true extensions 0) 0 → Writes b0 b12 (frame_header image).read (still_frame image shift)
unfolding frame_header
frame_spelled image shift b0 b1 b2 b3 b4 b5 b6 b7 b8 b9 b10 b11 b12 still u0 u1 u2 u3 u4 u5 u6 u7 u8 u9 u10 u11 =
    let last = subst (λ (o : Option Animation). Spells b8 b9 (frame_use true o Regular true) last_use) (sym still) (last_spelled b8 b9 u8) in
    spelled_reads (frame_header image) (still_frame image shift) b0 b12 (exact-frame_header image)
    (becomes (after u0 (after u1 (after u2 (after u3 (after u4 (after u5 (after u6 (after u7 (after last (after u9 (after u10 u11))))))))))) (λ bytes p q t. (true, t.0, t.1, (still_coding, t.2.0, t.2.1, (replicate (length image.ec_info) 1, t.2.2.0, t.2.2.1, (shift, t.2.2.2.0, t.2.2.2.1, (0, t.2.2.2.0, (refl, refl), (one_pass, t.2.2.2.2.0, t.2.2.2.2.1, (0, t.2.2.2.2.0, (refl, refl), (None, t.2.2.2.2.2.0, (false, t.2.2.2.2.2.0, t.2.2.2.2.2.1, (refl, refl)), (replaces, t.2.2.2.2.2.2.0, t.2.2.2.2.2.2.1, (replicate (length image.ec_info) replaces, t.2.2.2.2.2.2.2.0, t.2.2.2.2.2.2.2.1, (last_use, t.2.2.2.2.2.2.2.2.0, t.2.2.2.2.2.2.2.2.1, (0, t.2.2.2.2.2.2.2.2.2.0, t.2.2.2.2.2.2.2.2.2.1, (no_filter, t.2.2.2.2.2.2.2.2.2.2.0, t.2.2.2.2.2.2.2.2.2.2.1, (0, q, t.2.2.2.2.2.2.2.2.2.2.2, (refl, refl)))))))))))))))))

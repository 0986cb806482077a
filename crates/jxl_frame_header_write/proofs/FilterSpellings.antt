-- Spellings of filters.
use Rattle.std.proofs.Common.{◌≡◌, ℕ, ◌<◌, List, Bool, true, false, refl, sym, ap, ◌∙◌, subst}
use Rattle.std.specs.Prelude.{not, ◌==◌, ◌&&◌}
use Rattle.std.proofs.lemmas.Bool.{and_parts, eqb-true, ltb-true, false≢true}
use Rattle.jxlm_bits.specs.Grammar.{number, flag}
use Rattle.jxlm_bit_writer.specs.Writes.{Spells}
use Rattle.jxlm_bit_writer.proofs.WriteLaws.{after, becomes, absent}
use Rattle.jxl_image_header.specs.Fields.{when, bundle_follows, extensions, ignored_bytes}
use Rattle.jxl_image_header_write.proofs.Spellings.{present}
use Rattle.jxl_frame_header.specs.Filters.{own_floats, filter}
use Rattle.jxl_frame_header.specs.declared.filter.RestorationFilter.{RestorationFilter}
use Rattle.jxl_frame_header_write.specs.Writable.{is_filter}

-- floats as by default
pub floats_usual : (t : Bool) (n : ℕ) (a b : List ℕ) → t ≡ true → Spells a b flag false → Spells a b (when t (own_floats n) tt) tt
unfolding own_floats
floats_usual t n a b e u = present t (own_floats n) tt tt a b e (becomes u (λ bytes p q s. (false, q, s, (refl, refl))))

pub floats_absent : (t : Bool) (n : ℕ) (a : List ℕ) → t ≡ false → Spells a a (when t (own_floats n) tt) tt
floats_absent t n a e = absent t (own_floats n) tt tt a e refl

-- a sigma
pub sigma_given : (t : Bool) (v : ℕ) (a b : List ℕ) → t ≡ true → Spells a b (number 16) v → Spells a b (when t (ignored_bytes 2) tt) tt
sigma_given t v a b e u = present t (ignored_bytes 2) tt tt a b e (becomes u (λ bytes p q s. (v, q, s, (refl, refl))))

pub sigma_absent : (t : Bool) (a : List ℕ) → t ≡ false → Spells a a (when t (ignored_bytes 2) tt) tt
sigma_absent t a e = absent t (ignored_bytes 2) tt tt a e refl

-- filters that are not told are as by default
pub untold_filter : (g : Bool) (n : ℕ) → not (g && (n == 2)) ≡ false → (g ≡ true) × (n ≡ 2)
untold_filter true n h = (refl, eqb-true n 2 (not_false (n == 2) h))
  where
    not_false : (b : Bool) → not b ≡ false → b ≡ true
    not_false true e = refl
    not_false false e = absurd (false≢true (sym e))
untold_filter false n h = absurd (false≢true (sym h))

pub filter_parts : (f : RestorationFilter) → is_filter f ≡ true → (f.epf_iters < 4) × (f.extensions ≡ 0)
filter_parts f w = let s = and_parts _ (f.extensions == 0) w in (ltb-true f.epf_iters 4 s.0, eqb-true f.extensions 0 s.1)

and_false : (b : Bool) → (b && false) ≡ false
and_false true = refl
and_false false = refl

and_true : (b : Bool) → b ≡ (b && true)
and_true true = refl
and_true false = refl

abbrev filter_by : RestorationFilter → ℕ → RestorationFilter
filter_by f extensions = record { gab = f.gab; epf_iters = f.epf_iters; extensions = extensions }

pub filter_spelled : (f : RestorationFilter) (follows edges : Bool) (b0 b1 b2 b3 b4 b5 b6 b7 b8 : List ℕ) → f.extensions ≡ 0 → edges ≡ (follows && not (f.epf_iters == 0)) →
    Spells b0 b1 (bundle_follows true) follows → Spells b1 b2 (when follows flag true) f.gab → Spells b2 b3 (when (follows && f.gab) (own_floats 12) tt) tt →
    Spells b3 b4 (when follows (number 2) 2) f.epf_iters → Spells b4 b5 (when edges (own_floats 10) tt) tt → Spells b5 b6 (when edges (own_floats 6) tt) tt →
    Spells b6 b7 (when edges (ignored_bytes 2) tt) tt → Spells b7 b8 (when follows extensions 0) 0 → Spells b0 b8 (filter true true) f
unfolding filter
filter_spelled f follows edges b0 b1 b2 b3 b4 b5 b6 b7 b8 none is u0 u1 u2 u3 u4 u5 u6 u7 =
    let t : Bool = follows && not (f.epf_iters == 0) in
    let s16 = absent (t && false) (own_floats 16) tt tt b4 (and_false t) refl in
    let v4 = subst (λ (r : Bool). Spells b4 b5 (when r (own_floats 10) tt) tt) is u4 in
    let v5 = subst (λ (r : Bool). Spells b5 b6 (when r (own_floats 6) tt) tt) is u5 in
    let v6 = subst (λ (r : Bool). Spells b6 b7 (when r (ignored_bytes 2) tt) tt) (is ∙ and_true t) u6 in
    let e : f ≡ filter_by f 0 = ap (filter_by f) none in
    becomes (after u0 (after u1 (after u2 (after u3 (after s16 (after v4 (after v5 (after v6 u7)))))))) (λ bytes p q k. (
      follows,
      k.0,
      k.1,
      (
        f.gab,
        k.2.0,
        k.2.1,
        (
          tt,
          k.2.2.0,
          k.2.2.1,
          (
            f.epf_iters,
            k.2.2.2.0,
            k.2.2.2.1,
            (
              tt,
              k.2.2.2.2.0,
              k.2.2.2.2.1,
              (
                tt,
                k.2.2.2.2.2.0,
                k.2.2.2.2.2.1,
                (tt, k.2.2.2.2.2.2.0, k.2.2.2.2.2.2.1, (tt, k.2.2.2.2.2.2.2.0, k.2.2.2.2.2.2.2.1, (0, q, k.2.2.2.2.2.2.2.2, (e, refl)))),
              ),
            ),
          ),
        ),
      ),
    ))

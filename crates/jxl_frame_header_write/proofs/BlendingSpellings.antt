-- Spellings of how a frame is blended, and of what becomes of it.
use Rattle.std.proofs.Common.{◌≡◌, ℕ, ◌-◌, ◌<◌, List, [], length, Bool, true, false, Option, refl, sym, ap, subst, arith}
use Rattle.std.specs.Prelude.{not, ◌==◌, ◌&&◌, ◌||◌, nat_lt, nat_le, if◌then◌else◌, is_some, codes}
use Rattle.std.specs.List.{list_all}
use Rattle.std.specs.Option.{option_map_or}
use Rattle.std.proofs.lemmas.Bool.{and_parts, eqb-true, ltb-true, false≢true}
use Rattle.std.proofs.lemmas.Bool.Decides.{nat_tests}
use Rattle.jxlm_bits.specs.Grammar.{Grammar, number, flag, u32, repeated}
use Rattle.jxlm_bits.specs.declared.bits.U32Spec.TheVariants.{Const, Offset}
use Rattle.jxlm_bit_writer.specs.Fields.{is_spelled}
use Rattle.jxlm_bit_writer.specs.Writes.{Spells}
use Rattle.jxlm_bit_writer.proofs.WriteLaws.{after, becomes}
use Rattle.jxl_image_header.specs.Fields.{when, number_where}
use Rattle.jxl_image_header.specs.declared.image.Animation.{Animation}
use Rattle.jxl_image_header_write.proofs.Spellings.{meant}
use Rattle.jxl_frame_header.specs.Places.{is_shown, is_lf}
use Rattle.jxl_frame_header.specs.Blendings.{blending_info, is_replace, frame_use}
use Rattle.jxl_frame_header.specs.declared.coding.FrameType.{FrameType}
use Rattle.jxl_frame_header.specs.declared.blending.BlendMode.{BlendMode}
use Rattle.jxl_frame_header.specs.declared.blending.BlendMode.TheVariants.{Replace, Add, Blend, MulAdd, Mul}
use Rattle.jxl_frame_header.specs.declared.blending.BlendingInfo.{BlendingInfo}
use Rattle.jxl_frame_header.specs.declared.blending.FrameUse.{FrameUse}
use Rattle.jxl_frame_header_write.specs.Inner.Numbers.{IsModeNumber}
use Rattle.jxl_frame_header_write.specs.Writable.{uses_alpha, is_product, is_blending, are_blendings, may_save_before, is_use}
use Rattle.jxl_frame_header_write.proofs.CodingSpellings.{not_true}

-- what the writer asks of a blending
pub record BlendingParts (told : Bool) (extra : ℕ) (partial : Bool) (b : BlendingInfo) : Type 0 where
  pub mode : told ≡ false → is_replace b.mode ≡ true
  pub alpha : (nat_lt 0 extra && uses_alpha b.mode) ≡ true → (is_spelled (Const 0) (Const 1) (Const 2) (Offset 3 3) b.alpha_channel ≡ true) × (nat_lt b.alpha_channel extra ≡ true)
  pub no_alpha : (nat_lt 0 extra && uses_alpha b.mode) ≡ false → b.alpha_channel ≡ 0
  pub clamp : (nat_lt 0 extra && uses_alpha b.mode || is_product b.mode) ≡ false → b.clamp ≡ false
  pub no_source : (not (is_replace b.mode) || told && partial) ≡ false → b.source ≡ 0
  pub small : b.source < 4

or_else : (a b : Bool) → (a || b) ≡ true → a ≡ false → b ≡ true
or_else true b h e = absurd (false≢true (sym e))
or_else false b h e = h

by_alpha : (t a b : Bool) (n : ℕ) → (if t then a && b else n == 0) ≡ true → (t ≡ true → (a ≡ true) × (b ≡ true)) × (t ≡ false → n ≡ 0)
by_alpha true a b n h = (λ e. and_parts a b h, λ e. absurd (false≢true (sym e)))
by_alpha false a b n h = (λ e. absurd (false≢true e), λ e. eqb-true n 0 h)

by_source : (t : Bool) (n : ℕ) → (if t then nat_lt n 4 else n == 0) ≡ true → t ≡ false → n ≡ 0
by_source true n h e = absurd (false≢true (sym e))
by_source false n h e = eqb-true n 0 h

always_small : (t : Bool) (n : ℕ) → (if t then nat_lt n 4 else n == 0) ≡ true → n < 4
always_small true n h = ltb-true n 4 h
always_small false n h = let e = eqb-true n 0 h in omega (arith, e)

pub blending_parts : (told : Bool) (extra : ℕ) (partial : Bool) (b : BlendingInfo) → is_blending told extra partial b ≡ true → BlendingParts told extra partial b
blending_parts told extra partial b w =
    let uses : Bool = nat_lt 0 extra && uses_alpha b.mode in
    let al : Bool = if uses then is_spelled (Const 0) (Const 1) (Const 2) (Offset 3 3) b.alpha_channel && nat_lt b.alpha_channel extra else b.alpha_channel == 0 in
    let cl : Bool = uses || is_product b.mode || not b.clamp in
    let so : Bool = if not (is_replace b.mode) || told && partial then nat_lt b.source 4 else b.source == 0 in
    let s3 = and_parts ((told || is_replace b.mode) && al && cl) so w in
    let s2 = and_parts ((told || is_replace b.mode) && al) cl s3.0 in
    let s1 = and_parts (told || is_replace b.mode) al s2.0 in
    let a = by_alpha uses (is_spelled (Const 0) (Const 1) (Const 2) (Offset 3 3) b.alpha_channel) (nat_lt b.alpha_channel extra) b.alpha_channel s1.1 in
    let s = by_source (not (is_replace b.mode) || told && partial) b.source s3.1 in
    record {
      mode = or_else told (is_replace b.mode) s1.0;
      alpha = a.0;
      no_alpha = a.1;
      clamp = λ e. not_true b.clamp (or_else (uses || is_product b.mode) (not b.clamp) s2.1 e);
      no_source = s;
      small = always_small (not (is_replace b.mode) || told && partial) b.source s3.1;
    }

-- a number that has a meaning, if it is present
where_if : (t : Bool) (text : List ℕ) (holds : ℕ → Bool) (field : Grammar ℕ) (v usual : ℕ) (a b : List ℕ) → (t ≡ true → holds v ≡ true) → Spells a b (when t field usual) v →
    Spells a b (when t (number_where text holds field) usual) v
where_if true text holds field v usual a b e u = meant text holds field v a b (e refl) u
where_if false text holds field v usual a b e u = u

abbrev blending_by : BlendingInfo → BlendMode → BlendingInfo
blending_by b mode = record { mode = mode; alpha_channel = b.alpha_channel; clamp = b.clamp; source = b.source }

pub blending_spelled : (told : Bool) (extra : ℕ) (partial : Bool) (b : BlendingInfo) (n : ℕ) (b0 b1 b2 b3 b4 : List ℕ) → BlendingParts told extra partial b → IsModeNumber n b.mode →
    Spells b0 b1 (when told (u32 (Const 0) (Const 1) (Const 2) (Offset 3 2)) 0) n →
    Spells b1 b2 (when (nat_lt 0 extra && uses_alpha b.mode) (u32 (Const 0) (Const 1) (Const 2) (Offset 3 3)) 0) b.alpha_channel →
    Spells b2 b3 (when (nat_lt 0 extra && uses_alpha b.mode || is_product b.mode) flag false) b.clamp →
    Spells b3 b4 (when (not (is_replace b.mode) || told && partial) (number 2) 0) b.source → Spells b0 b4 (blending_info told extra partial) b
unfolding blending_info
blending_spelled told extra partial b n b0 b1 b2 b3 b4 parts is u0 u1 u2 u3 =
    let m = where_if told (codes "BlendMode") (λ v. nat_lt v 5) (u32 (Const 0) (Const 1) (Const 2) (Offset 3 2)) n 0 b0 b1 (λ e. is.small) u0 in
    let a0 = where_if (nat_lt 0 extra && uses_alpha b.mode) (codes "alpha_channel") (λ v. nat_lt v extra) (u32 (Const 0) (Const 1) (Const 2) (Offset 3 3)) b.alpha_channel 0 b1 b2 (λ e. (parts.alpha e).1) u1 in
    let a = subst (λ (r : Bool). Spells b1 b2 (when (nat_lt 0 extra && r) (number_where (codes "alpha_channel") (λ v. nat_lt v extra) (u32 (Const 0) (Const 1) (Const 2) (Offset 3 3))) 0) b.alpha_channel) (sym is.alpha) a0 in
    let c0 = subst (λ (r : Bool). Spells b2 b3 (when (nat_lt 0 extra && r || is_product b.mode) flag false) b.clamp) (sym is.alpha) u2 in
    let c = subst (λ (r : Bool). Spells b2 b3 (when (nat_lt 0 extra && ((n == 2) || (n == 3)) || r) flag false) b.clamp) (sym is.product) c0 in
    let s = subst (λ (r : Bool). Spells b3 b4 (when (not r || told && partial) (number 2) 0) b.source) (sym is.replaces) u3 in
    let e : b ≡ blending_by b (if n == 0 then Replace else if n == 1 then Add else if n == 2 then Blend else if n == 3 then MulAdd else Mul) = ap (blending_by b) (sym is.meant) in
    becomes (after m (after a (after c s))) (λ bytes p q k. (n, k.0, k.1, (b.alpha_channel, k.2.0, k.2.1, (b.clamp, k.2.2.0, k.2.2.1, (b.source, q, k.2.2.2, (e, refl))))))

-- extra channels, each by itself
pub blendings_spelled : (t : Bool) (extra : ℕ) (partial : Bool) (bs : List BlendingInfo) (a b : List ℕ) → t ≡ true → are_blendings t extra partial bs ≡ true →
    Spells a b (repeated (length bs) (blending_info true extra partial)) bs → Spells a b (when t (repeated extra (blending_info true extra partial)) []) bs
blendings_spelled true extra partial bs a b e w u =
    let s = and_parts (length bs == extra) (list_all (is_blending true extra partial) bs) w in
    subst (λ (n : ℕ). Spells a b (repeated n (blending_info true extra partial)) bs) (eqb-true (length bs) extra s.0) u
blendings_spelled false extra partial bs a b e w u = absurd (false≢true e)

pub all_blend : (t : Bool) (extra : ℕ) (partial : Bool) (bs : List BlendingInfo) → t ≡ true → are_blendings t extra partial bs ≡ true → list_all (is_blending true extra partial) bs ≡ true
all_blend true extra partial bs e w = (and_parts (length bs == extra) (list_all (is_blending true extra partial) bs) w).1
all_blend false extra partial bs e w = absurd (false≢true e)

pub no_blendings : (t : Bool) (extra : ℕ) (partial : Bool) (bs : List BlendingInfo) → t ≡ false → are_blendings t extra partial bs ≡ true → (length bs == 0) ≡ true
no_blendings true extra partial bs e w = absurd (false≢true (sym e))
no_blendings false extra partial bs e w = w

-- what the writer asks of the use of a frame
pub record UseParts (shown : Bool) (animation : Option Animation) (frame_type : FrameType) (replaces : Bool) (u : FrameUse) : Type 0 where
  pub still : (shown && is_some animation) ≡ false → u.duration ≡ 0
  pub uncoded : (shown && option_map_or (λ a. a.have_timecodes) animation false) ≡ false → u.timecode ≡ 0
  pub last : shown ≡ false → u.is_last ≡ false
  pub small : u.save_as_reference < 4
  pub unsaved : (not (is_lf frame_type) && not u.is_last) ≡ false → u.save_as_reference ≡ 0
  pub before : may_save_before shown frame_type replaces u ≡ false → u.save_before_ct ≡ is_lf frame_type

or_zero : (a : Bool) (n : ℕ) → (a || (n == 0)) ≡ true → a ≡ false → n ≡ 0
or_zero a n h e = eqb-true n 0 (or_else a (n == 0) h e)

same_as : (t b : Bool) → (if t then b else not b) ≡ true → b ≡ t
same_as true b h = h
same_as false b h = not_true b h

pub use_parts : (shown : Bool) (animation : Option Animation) (frame_type : FrameType) (replaces : Bool) (u : FrameUse) → is_use shown animation frame_type replaces u ≡ true →
    UseParts shown animation frame_type replaces u
use_parts shown animation frame_type replaces u w =
    let c0 : Bool = shown && is_some animation || (u.duration == 0) in
    let c1 : Bool = shown && option_map_or (λ a. a.have_timecodes) animation false || (u.timecode == 0) in
    let c2 : Bool = shown || not u.is_last in
    let c3 : Bool = if not (is_lf frame_type) && not u.is_last then nat_lt u.save_as_reference 4 else u.save_as_reference == 0 in
    let c4 : Bool = may_save_before shown frame_type replaces u || (if is_lf frame_type then u.save_before_ct else not u.save_before_ct) in
    let s4 = and_parts (c0 && c1 && c2 && c3) c4 w in
    let s3 = and_parts (c0 && c1 && c2) c3 s4.0 in
    let s2 = and_parts (c0 && c1) c2 s3.0 in
    let s1 = and_parts c0 c1 s2.0 in
    let r = by_source (not (is_lf frame_type) && not u.is_last) u.save_as_reference s3.1 in
    record {
      still = or_zero (shown && is_some animation) u.duration s1.0;
      uncoded = or_zero (shown && option_map_or (λ a. a.have_timecodes) animation false) u.timecode s1.1;
      last = λ e. not_true u.is_last (or_else shown (not u.is_last) s2.1 e);
      small = always_small (not (is_lf frame_type) && not u.is_last) u.save_as_reference s3.1;
      unsaved = r;
      before = λ e. same_as (is_lf frame_type) u.save_before_ct (or_else (may_save_before shown frame_type replaces u) (if is_lf frame_type then u.save_before_ct else not u.save_before_ct) s4.1 e);
    }

or_last : (a b c d : Bool) → d ≡ true → (a || b || c || d) ≡ true
or_last true b c d h = refl
or_last false true c d h = refl
or_last false false true d h = refl
or_last false false false d h = h

-- each number of 32 bits is a duration
pub duration_spelled : (v : ℕ) → v < 4294967296 → is_spelled (Const 0) (Const 1) (Offset 0 8) (Offset 0 32) v ≡ true
duration_spelled v small =
    let least : nat_le 0 v ≡ true = grind (arith, nat_tests) in
    let most : nat_lt (v - 0) 4294967296 ≡ true = grind (arith, nat_tests) in
    let both : (nat_le 0 v && nat_lt (v - 0) 4294967296) ≡ true = rw (least, most) refl in
    or_last (0 == v) (1 == v) (nat_le 0 v && nat_lt (v - 0) 256) (nat_le 0 v && nat_lt (v - 0) 4294967296) both

pub use_spelled : (shown : Bool) (animation : Option Animation) (frame_type : FrameType) (replaces : Bool) (u : FrameUse) (b0 b1 b2 b3 b4 b5 : List ℕ) →
    Spells b0 b1 (when (shown && is_some animation) (u32 (Const 0) (Const 1) (Offset 0 8) (Offset 0 32)) 0) u.duration →
    Spells b1 b2 (when (shown && option_map_or (λ a. a.have_timecodes) animation false) (number 32) 0) u.timecode → Spells b2 b3 (when shown flag (is_shown frame_type)) u.is_last →
    Spells b3 b4 (when (not (is_lf frame_type) && not u.is_last) (number 2) 0) u.save_as_reference →
    Spells b4 b5 (when (may_save_before shown frame_type replaces u) flag (is_lf frame_type)) u.save_before_ct → Spells b0 b5 (frame_use shown animation frame_type replaces) u
unfolding frame_use
use_spelled shown animation frame_type replaces u b0 b1 b2 b3 b4 b5 v0 v1 v2 v3 v4 =
    becomes (after v0 (after v1 (after v2 (after v3 v4)))) (λ bytes p q k.
    (u.duration, k.0, k.1, (u.timecode, k.2.0, k.2.1, (u.is_last, k.2.2.0, k.2.2.1, (u.save_as_reference, k.2.2.2.0, k.2.2.2.1, (u.save_before_ct, q, k.2.2.2.2, (refl, refl)))))))

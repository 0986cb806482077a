-- What a still picture has before its sections, as it was written.
use Rattle.std.proofs.Common.{◌≡◌, ℕ, ◌+◌, ◌*◌, ◌/◌, ◌≤◌, List, [], ◌++◌, length, take, drop, map, replicate, Bool, true, false, Option, Some, None, IfSome, Ok, refl, sym, ap, subst, ◌∙◌, arith, append_assoc}
use Rattle.std.specs.Prelude.{◌==◌, not, is_some, sum, if◌then◌else◌}
use Rattle.std.specs.List.{list_all, list_any}
use Rattle.std.proofs.lemmas.List.{length-append, get_or-replicate, length-replicate}
use Rattle.std.proofs.lemmas.List.Folds.{list_any_none}
use Rattle.std.proofs.Math.Seq.{drop-append_seam}
use Rattle.jxlm_bits.specs.Decoding.{Meaning}
use Rattle.jxlm_bit_writer.specs.Written.{AreFilled, HasBits}
use Rattle.jxlm_bit_writer.specs.Writes.{Adds, Writes}
use Rattle.jxlm_bit_writer.proofs.BitLists.{filled_stands, has_first, has_moved, has_rest}
use Rattle.jxlm_bit_writer.proofs.WriteLaws.{becomes, none_added}
use Rattle.jxl_container.specs.Files.{is_bare}
use Rattle.jxl_image_header.specs.Fields.{zero_pad_to_byte}
use Rattle.jxl_image_header.specs.Images.{Image, image_header, image_refusal}
use Rattle.jxl_image_header.specs.declared.refusal.Refusal.{Refusal}
use Rattle.jxl_image_header.specs.declared.refusal.Refusal.TheVariants as image_refusals
use Rattle.jxl_image_header.proofs.HeaderLaws.{exact-zero_pad_to_byte}
use Rattle.jxl_frame_header.specs.Blendings.{is_replace}
use Rattle.jxl_frame_header.specs.Frames.{frame_header, frame_refusal}
use Rattle.jxl_frame_header_write.specs.Stills.{still_frame, replaces}
use Rattle.jxl_picture.specs.Limits.{Allow}
use Rattle.jxl_picture.specs.declared.limits.Limits.{Limits}
use Rattle.jxl_coding.specs.Parse.{decoder_at}
use Rattle.jxl_coding.specs.Tokens.{entropy}
use Rattle.jxl_codestream.specs.Fronts.{AreBefore, NoFrame, ContentsStand, FrontStands, HasProfile, StandsAt, between, layout_in, profile_if}
use Rattle.jxl_codestream.specs.Profiles.{profile}
use Rattle.jxl_profile_write.specs.Profiles.{AllowProfile, IsProfileAt}
use Rattle.jxl_codestream.specs.Layouts.{max_sections, section_count_of}
use Rattle.jxl_codestream.specs.Tocs.{is_within, toc}
use Rattle.jxl_codestream_write.specs.StillFronts.{IsProfiledFront, IsStillFront, joined, still_at}
use Rattle.jxl_codestream_write.specs.Inner.Parts.{IsFrameFront, IsFrontBefore, IsImageFront, IsProfileIf}
use Rattle.jxl_codestream_write.specs.Tables.{Completes, table_of}
use Rattle.jxl_codestream_write.proofs.Entries.{all_within, entries_from, entries_of_table, length-joined, sections_are}
use Rattle.jxl_codestream_write.proofs.Padding.{has_more, padding_stands}
use Rattle.jxl_codestream_write.proofs.Signatures.{bare_codestream}

from_zero : (n : ℕ) → 0 + n ≡ n
from_zero n = omega arith

-- an image header whose bits fill these bytes
pub image_front : (image : Image) (bits bytes : List ℕ) → Writes [] bits image_header.read image → AreFilled bytes bits → IsImageFront image bytes
image_front image bits bytes w fills = record {
  end = length w.word;
  header = λ rest. subst (λ (n : ℕ). StandsAt image_header (bytes ++ rest) 0 image n) (from_zero (length w.word)) (w.holds (bytes ++ rest) 0 (has_more bytes rest 0 w.word word));
  padding = λ rest. exact-zero_pad_to_byte.stands_read (bytes ++ rest) (length w.word) 0 (8 * length bytes)
      (padding_stands [] bytes rest bits (length w.word) (8 * length bytes) fills (let n = ap length w.added in omega (arith, n)) (omega arith));
} where
  word : HasBits bytes 0 w.word
  word = subst (λ (xs : List ℕ). HasBits bytes 0 xs) w.added (filled_stands bytes bits fills)

module _ {D : Type 0} (d : Meaning D) (image : Image) (shift : ℕ) (sizes : List ℕ) where
  -- the header of a frame and its table
  pub frame_front : (bits bytes : List ℕ) → Writes [] bits (frame_header image).read (still_frame image shift) → Completes bits bytes (toc d (length sizes)) (table_of sizes (length bytes)) →
      IsFrameFront d image shift sizes bytes
  frame_front bits bytes w c = record {
    end = length w.word;
    header = λ rest. subst (λ (n : ℕ). StandsAt (frame_header image) (bytes ++ rest) 0 (still_frame image shift) n) (from_zero (length w.word))
        (w.holds (bytes ++ rest) 0 (has_more bytes rest 0 w.word (subst (λ (xs : List ℕ). HasBits bytes 0 xs) w.added c.begins)));
    contents = λ rest. subst (λ n. StandsAt (toc d (length sizes)) (bytes ++ rest) n (table_of sizes (length bytes)) (8 * length bytes)) (ap length w.added) (c.stands rest);
  }

-- without a profile, the bits up to the next byte are all that is between the image header and the first frame
no_profile : {D : Type 0} (d : Meaning D) (limit : ℕ) (bytes : List ℕ) (p q : ℕ) → StandsAt zero_pad_to_byte bytes p 0 q → StandsAt (between d limit false) bytes p None q
no_profile d limit bytes p q e = rw e refl

-- an image header without a profile
without_profile : {D : Type 0} (d : Meaning D) (image : Image) (bytes : List ℕ) → IsImageFront image bytes → image.colour_encoding.want_icc ≡ false → IsFrontBefore d image None bytes
without_profile d image bytes i plain = record {
  end = i.end;
  header = i.header;
  stands = λ limit allowed rest.
      subst (λ (b : Bool). StandsAt (between d limit b) (bytes ++ rest) i.end None (8 * length bytes)) (sym plain) (no_profile d limit (bytes ++ rest) i.end (8 * length bytes) (i.padding rest));
}

-- the profile, if there is one, as it was written
pub no_profile_added : (a : List ℕ) → Adds a a (IsProfileIf None)
no_profile_added a = becomes (none_added a) (λ bytes p q e limit allowed. ap (λ (n : ℕ). Ok (record { value = None; position = n })) (sym e))

pub profile_added : (icc a b : List ℕ) → Adds a b (IsProfileAt icc) → Adds a b (IsProfileIf (Some icc))
profile_added icc a b u = becomes u (λ bytes p q at limit allowed. some_profile bytes p q limit (at limit allowed)) where
  some_profile : (bytes : List ℕ) (p q limit : ℕ) → StandsAt (profile (entropy decoder_at) limit) bytes p icc q → StandsAt (profile_if (entropy decoder_at) limit true) bytes p (Some icc) q
  some_profile bytes p q limit e = rw e refl

between_stands : {D : Type 0} (d : Meaning D) (limit : ℕ) (there : Bool) (icc : Option (List ℕ)) (bytes : List ℕ) (p m q : ℕ) → StandsAt (profile_if d limit there) bytes p icc m → StandsAt zero_pad_to_byte bytes m 0 q →
    StandsAt (between d limit there) bytes p icc q
between_stands d limit there icc bytes p m q first second = rw (first, second) refl

-- an image header and a profile, or none, whose bits fill these bytes
pub front_before : (image : Image) (icc : Option (List ℕ)) (mid bits bytes : List ℕ) → Writes [] mid image_header.read image → Adds mid bits (IsProfileIf icc) → AreFilled bytes bits → image.colour_encoding.want_icc ≡ is_some icc →
    IsFrontBefore (entropy decoder_at) image icc bytes
front_before image icc mid bits bytes w v fills asked = record {
  end = length w.word;
  header = λ rest. subst (λ (n : ℕ). StandsAt image_header (bytes ++ rest) 0 image n) (from_zero (length w.word)) (w.holds (bytes ++ rest) 0 (has_first (bytes ++ rest) 0 w.word v.word (has_more bytes rest 0 (w.word ++ v.word) word)));
  stands = λ limit allowed rest.
      let l = length-append w.word v.word in
      let n : length bits ≡ length (w.word ++ v.word) = ap length bits_are in
      let there : HasBits (bytes ++ rest) (length w.word) v.word =
      has_moved (bytes ++ rest) (0 + length w.word) (length w.word) v.word (from_zero (length w.word)) (has_rest (bytes ++ rest) 0 w.word v.word (has_more bytes rest 0 (w.word ++ v.word) word)) in
      subst (λ (b : Bool). StandsAt (between (entropy decoder_at) limit b) (bytes ++ rest) (length w.word) icc (8 * length bytes)) (sym asked)
      (between_stands (entropy decoder_at) limit (is_some icc) icc (bytes ++ rest) (length w.word) (length w.word + length v.word) (8 * length bytes) (v.holds (bytes ++ rest) (length w.word) there limit allowed)
      (exact-zero_pad_to_byte.stands_read (bytes ++ rest) (length w.word + length v.word) 0 (8 * length bytes)
      (padding_stands [] bytes rest bits (length w.word + length v.word) (8 * length bytes) fills (omega (arith, l, n)) (omega arith))));
} where
  bits_are : bits ≡ w.word ++ v.word
  bits_are = v.added ∙ ap (λ (xs : List ℕ). xs ++ v.word) w.added

  word : HasBits bytes 0 (w.word ++ v.word)
  word = subst (λ (xs : List ℕ). HasBits bytes 0 xs) bits_are (filled_stands bytes bits fills)

none_of : {X : Type 0} (p : X → Bool) (x : X) (n : ℕ) → p x ≡ false → list_any p (replicate n x) ≡ false
none_of p x n e = list_any_none p (replicate n x) (λ k d lt. let l = length-replicate n x in let below : k ≤ k = omega arith in ap p (get_or-replicate n k x d (omega (arith, lt, l))) ∙ e)

-- the frame of a still picture has nothing that is not supported
still_supported : (image : Image) (shift : ℕ) → frame_refusal image (still_frame image shift) ≡ None
still_supported image shift =
    let factors = none_of (λ (f : ℕ). not (f == 1)) 1 (length image.ec_info) refl in
    let blendings = none_of (λ b. not (is_replace b.mode)) replaces (length image.ec_info) refl in
    rw (factors, blendings) refl

some_none : (r : Refusal) → ◌≡◌ {A = Option Refusal} (Some r) None → ⊥
some_none r e = cc

no_animation_by : {A : Type 0} (p : Bool) (o : Option A) (r : Option Refusal) → (if p then Some image_refusals.Preview else if is_some o then Some image_refusals.Animation else r) ≡ None → o ≡ None
no_animation_by true o r e = absurd (some_none image_refusals.Preview e)
no_animation_by false None r e = refl
no_animation_by false (Some a) r e = absurd (some_none image_refusals.Animation e)

-- an image that is supported is not animated
pub no_animation : (image : Image) → image_refusal image ≡ None → image.animation ≡ None
no_animation image e = no_animation_by (is_some image.preview) image.animation _ e

module _ {D : Type 0} (d : Meaning D) (image : Image) (icc : Option (List ℕ)) (shift : ℕ) (sizes first frame : List ℕ) (i : IsFrontBefore d image icc first) (bare : (rest : List ℕ) → is_bare (first ++ rest) ≡ true)
    (f : IsFrameFront d image shift sizes frame) (supported : image_refusal image ≡ None)
    (count : length sizes ≡ section_count_of (layout_in image (still_frame image shift))) (few : length sizes ≤ max_sections) where
  module _ (limits : Limits) (allowed : Allow limits image) (allows : IfSome icc (AllowProfile limits.profile)) (sections : List (List ℕ)) (same : map length sections ≡ sizes) where
    abbrev bytes : List ℕ
    bytes = first ++ (frame ++ joined sections)

    rest_is : drop (length first) bytes ≡ frame ++ joined sections
    rest_is = drop-append_seam first (frame ++ joined sections)

    before : AreBefore d limits bytes image [] (length first) 0
    before =
        let p : 8 * length first / 8 ≡ length first = omega arith in
        subst (λ (n : ℕ). AreBefore d limits bytes image [] n 0) p
        (NoFrame i.end icc (8 * length first) (i.header (frame ++ joined sections), supported, allowed) (i.stands limits.profile allows (frame ++ joined sections)))

    contents : ContentsStand d limits bytes image (length first) 0 (still_frame image shift) (entries_from (length frame) sizes)
    contents = record {
      end = f.end;
      goes = (
        subst (λ (v : List ℕ). StandsAt (frame_header image) v 0 (still_frame image shift) f.end) (sym rest_is) (f.header (joined sections)),
        still_supported image shift,
        allowed.frame,
      );
      few = subst (λ n. n ≤ max_sections) count few;
      contents = (
        table_of sizes (length frame),
        8 * length frame,
        subst (λ n. StandsAt (toc d n) (drop (length first) bytes) f.end (table_of sizes (length frame)) (8 * length frame)) count
            (subst (λ (v : List ℕ). StandsAt (toc d (length sizes)) v f.end (table_of sizes (length frame)) (8 * length frame)) (sym rest_is) (f.contents (joined sections))),
        entries_of_table sizes (length frame),
      );
    }

    within : list_all (is_within (length (drop (length first) bytes))) (entries_from (length frame) sizes) ≡ true
    within =
        let l = length-append frame (joined sections) in
        let m : length (joined sections) ≡ sum sizes = length-joined sections ∙ ap sum same in
        let n : length (drop (length first) bytes) ≡ length (frame ++ joined sections) = ap length rest_is in
        all_within sizes (length frame) (length (drop (length first) bytes)) (omega (arith, l, m, n))

    stands : FrontStands d limits bytes image [] (still_at limits image shift (length first) (entries_from (length frame) sizes))
    stands = (0, before, (contents, within, refl), refl)

  in_place : (sections : List (List ℕ)) → map length sections ≡ sizes →
      map (λ e. take e.size (drop e.offset (drop (length first) (first ++ (frame ++ joined sections))))) (entries_from (length frame) sizes) ≡ sections
  in_place sections same =
      subst (λ (s : List ℕ). map (λ e. take e.size (drop e.offset (drop (length first) (first ++ (frame ++ joined sections))))) (entries_from (length frame) s) ≡ sections) same
      (sections_are sections frame (drop (length first) (first ++ (frame ++ joined sections))) (drop-append_seam first (frame ++ joined sections)))

  finds_profile : (limits : Limits) (rest : List ℕ) → Allow limits image → IfSome icc (AllowProfile limits.profile) → HasProfile d limits (first ++ rest) image icc
  finds_profile limits rest allowed allows = record { end = i.end; header = (i.header rest, supported, allowed); next = 8 * length first; stands = i.stands limits.profile allows rest }

  -- the front of the picture
  pub profiled_front : (all : List ℕ) → all ≡ first ++ frame → IsProfiledFront d image icc shift sizes all
  profiled_front all e = subst (λ (v : List ℕ). IsProfiledFront d image icc shift sizes v) (sym e) (record {
    start = length first;
    entries = entries_from (length frame) sizes;
    bare = λ rest. bare_codestream ((first ++ frame) ++ rest) (ap is_bare (append_assoc first frame rest) ∙ bare (frame ++ rest));
    stands = λ limits sections allowed allows same.
        subst (λ (v : List ℕ). FrontStands d limits v image [] (still_at limits image shift (length first) (entries_from (length frame) sizes))) (sym (append_assoc first frame (joined sections)))
        (stands limits allowed allows sections same);
    profile = λ limits rest allowed allows. subst (λ (v : List ℕ). HasProfile d limits v image icc) (sym (append_assoc first frame rest)) (finds_profile limits (frame ++ rest) allowed allows);
    sections = λ sections same.
        ap (λ v. map (λ e. take e.size (drop e.offset (drop (length first) v))) (entries_from (length frame) sizes)) (append_assoc first frame (joined sections)) ∙ in_place sections same;
  })

-- the front of a picture without a profile
pub still_front : {D : Type 0} (d : Meaning D) (image : Image) (shift : ℕ) (sizes first frame : List ℕ) → IsImageFront image first → ((rest : List ℕ) → is_bare (first ++ rest) ≡ true) →
    IsFrameFront d image shift sizes frame → image_refusal image ≡ None → image.colour_encoding.want_icc ≡ false → length sizes ≡ section_count_of (layout_in image (still_frame image shift)) →
    length sizes ≤ max_sections → (all : List ℕ) → all ≡ first ++ frame → IsStillFront d image shift sizes all
still_front d image shift sizes first frame i bare f supported plain count few all e =
    let p = profiled_front d image None shift sizes first frame (without_profile d image first i plain) bare f supported count few all e in
    record { start = p.start; entries = p.entries; bare = p.bare; stands = λ limits sections allowed same. p.stands limits sections allowed tt same; sections = p.sections }

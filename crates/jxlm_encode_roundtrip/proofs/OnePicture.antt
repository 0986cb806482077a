-- Where an image is encoded there stands no other picture, and it is not refused.
use Rattle.std.proofs.Common.{◌≡◌, ◌⊎◌, inl, inr, ℕ, ℤ, List, None, sym, subst}
use Rattle.std.specs.Int.{Width}
use Rattle.jxlm_bits.specs.Decoding.{Meaning}
use Rattle.jxlm_bits.specs.ErrorKind.{ErrorKind, NoMemory, OfDecoder, UnlessMemory}
use Rattle.jxlm_bits.specs.declared.decoder.DecoderError.TheVariants as decoder
use Rattle.jxlm_bits.specs.Grammar.{IsErrorAt}
use Rattle.jxlm_base.specs.Grid.{Grid}
use Rattle.jxlm_header.specs.Opening.{Opening}
use Rattle.jxlm_tree.specs.Tree.{Config}
use Rattle.jxlm_tree.specs.TreeStands.{TreesAreReadExactly}
use Rattle.jxlm_tree.specs.TreeReading.{IsOutOfMemory}
use Rattle.jxlm_nested.specs.Starts.{IsTreeErrorAt, coded_part, opening_at}
use Rattle.jxlm_samples.specs.Coded.{DecodingFails}
use Rattle.jxl_modular.specs.Picture.{IsPicture, PictureFails, SamplesFail}
use Rattle.jxlm_transform.specs.Transforms.{Transform}
use Rattle.jxlm_encode_write.specs.declared.tree.EncodeNode.{EncodeNode}
use Rattle.jxlm_encode.specs.Encoded.{IsEncodedFor, given_list}
use Rattle.jxlm_encode_roundtrip.proofs.EncodedPictures.{encoded_is_picture}
use Rattle.jxlm_encode_roundtrip.proofs.TwoPictures.{one_picture, one_start}
use Rattle.jxlm_encode_roundtrip.proofs.WithoutErrors.{samples_without_error, start_without_error}

-- ---- an image that is encoded

module _ {V : Type 0} (d : Meaning V) (exact : TreesAreReadExactly d) (w : Width) (ts : List Transform) (nodes : List EncodeNode) (image : List (Grid ℤ)) (bytes : List ℕ) (bit_depth : ℕ) (e : IsEncodedFor ts nodes image d w bytes) where
  abbrev here : IsPicture d w None bytes 0 (given_list image) 0 bit_depth image e.end
  here = encoded_is_picture d exact w ts nodes image bytes bit_depth e

  -- a picture that the bits code is the image
  pub comes_back : (other : List (Grid ℤ)) (r : ℕ) → IsPicture d w None bytes 0 (given_list image) 0 bit_depth other r → other ≡ image
  comes_back other r y = (one_picture d w None bytes 0 (given_list image) 0 bit_depth other image r e.end y here).3

  -- ---- and it is not refused

  no_samples_error : (error : ErrorKind) (q before after : ℕ) → SamplesFail d w None bytes 0 (given_list image) 0 error q before after → ⊥
  no_samples_error error q before after h =
      let starts = one_start d None bytes (given_list image) 0 here.head h.head here.config h.config here.samples_at h.samples_at here.start h.start in
      let placed : DecodingFails d w (coded_part 0 h.head h.config) bytes h.config.decoder here.samples_at h.cause q h.tried =
      subst (λ n. DecodingFails d w (coded_part 0 h.head h.config) bytes h.config.decoder n h.cause q h.tried) (sym starts.2) h.fails in
      let configured : DecodingFails d w (coded_part 0 h.head here.config) bytes here.config.decoder here.samples_at h.cause q h.tried =
      subst (λ (c : Config V). DecodingFails d w (coded_part 0 h.head c) bytes c.decoder here.samples_at h.cause q h.tried) (sym starts.1) placed in
      samples_without_error d w (coded_part 0 here.head here.config) bytes here.config.decoder here.samples_at here.samples e.end here.coded h.cause q h.tried (subst (λ (head : Opening). DecodingFails d w (coded_part 0 head here.config) bytes here.config.decoder here.samples_at h.cause q h.tried) (sym starts.0) configured)

  weaker : (error : ErrorKind) (P : Type 0) → (P → ⊥) → UnlessMemory error P → IsOutOfMemory error
  weaker NoMemory P never h = tt
  weaker (OfDecoder decoder.OutOfMemory) P never h = tt
  weaker (OfDecoder error) P never h = never h
  weaker error P never h = never h

  -- decoding it fails for want of memory alone
  pub only_memory : (error : ErrorKind) (q before after : ℕ) → PictureFails d w None bytes 0 (given_list image) 0 error q before after → IsOutOfMemory error
  only_memory error q before after h = weaker error _ refuted h where
    refuted : ((IsErrorAt (opening_at {D = V} None bytes (given_list image) 0) error q ⊎ IsTreeErrorAt d None bytes (given_list image) 0 error q) × (after ≡ before)) ⊎ SamplesFail d w None bytes 0 (given_list image) 0 error q before after → ⊥
    refuted (inl (begins, same)) = start_without_error d None bytes (given_list image) 0 here.head here.config here.samples_at here.start error q begins
    refuted (inr samples) = no_samples_error error q before after samples

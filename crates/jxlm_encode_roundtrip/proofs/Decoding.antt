-- What decoding what was encoded gives.
use Rattle.std.proofs.Common.{◌≡◌, inl, inr, ℕ, ℤ, List, [], ◌∷◌, length, Option, None, refl, sym, ap, ◌∙◌, subst, arith}
use Rattle.std.specs.Prelude.{◌≢◌}
use Rattle.std.specs.Int.{Width}
use Rattle.jxlm_bits.specs.Decoding.{Meaning}
use Rattle.jxlm_bits.specs.ErrorKind.{ErrorKind}
use Rattle.jxlm_base.specs.Grid.{Grid}
use Rattle.jxlm_base.specs.Regions.{store_meanings}
use Rattle.jxlm_tree.specs.Tree.{Config}
use Rattle.jxlm_tree.specs.TreeReading.{IsOutOfMemory}
use Rattle.jxlm_tree.specs.TreeStands.{TreesAreReadExactly}
use Rattle.jxlm_transform.specs.Channels.{ChannelList}
use Rattle.jxlm_transform.specs.Transforms.{Transform}
use Rattle.jxlm_transform.specs.declared.param.ModularChannelParams.{ModularChannelParams}
use Rattle.jxl_modular.specs.Picture.{IsPicture, PictureFails}
use Rattle.jxlm_encode_write.specs.declared.tree.EncodeNode.{EncodeNode}
use Rattle.jxlm_encode.specs.Encoded.{IsEncodedFor, given_list}
use Rattle.jxlm_encode_roundtrip.specs.Inner.Decoded.{IsDecoded, IsNotDecoded}
use Rattle.jxlm_encode_roundtrip.specs.RoundTrip.{IsReadBack}
use Rattle.jxlm_encode_roundtrip.proofs.OnePicture.{comes_back, only_memory}
use Rattle.jxlm_encode_roundtrip.proofs.SameSamples.{same_grids}

-- ---- lists of one length

both_empty : {X Y : Type 0} (xs : List X) (ys : List Y) → length xs ≡ length ys → xs ≡ [] → ys ≡ []
both_empty xs [] e none = refl
both_empty xs (y ∷ ys) e none = absurd (let l = ap length none in omega (arith, e, l))

none_of_meanings : {S : Type 0} (f : S → ℤ) (grids : List (Grid S)) → store_meanings f grids ≡ [] → grids ≡ []
none_of_meanings f [] h = refl
none_of_meanings f (g ∷ gs) h = cc

-- ---- a picture at the start of the bytes

module _ {S V : Type 0} (d : Meaning V) (f : S → ℤ) (w : Width) (grids : List (Grid S)) (bytes seen : List ℕ) (p : ℕ) (params : List ModularChannelParams) (list : ChannelList) (global : Option (Config V)) (same : seen ≡ bytes) (start : p ≡ 0)
    (count : length params ≡ length grids) (are : list ≡ given_list (store_meanings f grids)) (alone : global ≡ None) where
  -- it was decoded
  pub is_decoded : (deep bit_depth : ℕ) (back : List (Grid ℤ)) (q : ℕ) → deep ≡ bit_depth → params ≢ [] → IsPicture d w global seen 0 list p deep back q → IsDecoded d w bytes bit_depth (store_meanings f grids) back
  is_decoded deep bit_depth back q depth some h = record {
    none = λ e. absurd (some (both_empty grids params (sym count) (none_of_meanings f grids e)));
    picture = λ _. (
      q,
      subst (λ (t : Option (Config V)). IsPicture d w t bytes 0 (given_list (store_meanings f grids)) 0 bit_depth back q) alone
          (subst (λ (l : ChannelList). IsPicture d w global bytes 0 l 0 bit_depth back q) are
          (subst (λ (n : ℕ). IsPicture d w global bytes 0 list n bit_depth back q) start (subst (λ (b : List ℕ). IsPicture d w global b 0 list p bit_depth back q) same
          (subst (λ (n : ℕ). IsPicture d w global seen 0 list p n back q) depth h)))),
    );
  }

  -- there is none without channels
  pub none_decoded : (bit_depth : ℕ) → params ≡ [] → (back : List (Grid ℤ)) → back ≡ [] → IsDecoded d w bytes bit_depth (store_meanings f grids) back
  none_decoded bit_depth none back empty = record {
    none = λ _. empty;
    picture = λ some. absurd (some (ap (store_meanings f) (both_empty params grids count none)));
  }

  -- it was refused
  pub fails_to_decode : (error : ErrorKind) (q before after : ℕ) → params ≢ [] → PictureFails d w global seen 0 list p error q before after → IsNotDecoded d w bytes (store_meanings f grids) error
  fails_to_decode error q before after some h = inr (record {
    some = λ e. some (both_empty grids params (sym count) (none_of_meanings f grids e));
    place = q;
    before = before;
    after = after;
    fails = subst (λ (t : Option (Config V)). PictureFails d w t bytes 0 (given_list (store_meanings f grids)) 0 error q before after) alone
        (subst (λ (l : ChannelList). PictureFails d w global bytes 0 l 0 error q before after) are
        (subst (λ (n : ℕ). PictureFails d w global bytes 0 list n error q before after) start (subst (λ (b : List ℕ). PictureFails d w global b 0 list p error q before after) same h)));
  })

-- ---- what was encoded

module _ {S V : Type 0} (d : Meaning V) (exact : TreesAreReadExactly d) (to_int : S → ℤ) (from_int : ℤ → S) (back : (x : S) → from_int (to_int x) ≡ x) (w : Width) (ts : List Transform) (nodes : List EncodeNode) (grids : List (Grid S)) (bytes : List ℕ)
    (encoded : grids ≢ [] → IsEncodedFor ts nodes (store_meanings to_int grids) d w bytes) where
  same_of : (bit_depth : ℕ) (gs others : List (Grid S)) → gs ≡ grids → IsDecoded d w bytes bit_depth (store_meanings to_int grids) (store_meanings to_int others) → others ≡ grids
  same_of bit_depth [] others is h =
      let none : store_meanings to_int grids ≡ [] = ap (store_meanings to_int) (sym is) in
      same_grids to_int from_int back others grids (h.none none ∙ sym none)
  same_of bit_depth (g ∷ gs) others is h =
      let some : grids ≢ [] = λ e. let wrong = is ∙ e in cc in
      let many : store_meanings to_int grids ≢ [] = λ e. some (none_of_meanings to_int grids e) in
      let picture = h.picture many in
      same_grids to_int from_int back others grids (comes_back d exact w ts nodes (store_meanings to_int grids) bytes bit_depth (encoded some) (store_meanings to_int others) picture.0 picture.1)

  -- comes back
  pub same_again : (bit_depth : ℕ) (others : List (Grid S)) → IsDecoded d w bytes bit_depth (store_meanings to_int grids) (store_meanings to_int others) → others ≡ grids
  same_again bit_depth others h = same_of bit_depth grids others refl h

  -- and is refused for want of memory alone
  pub memory_alone : (bit_depth : ℕ) (error : ErrorKind) → IsNotDecoded d w bytes (store_meanings to_int grids) error → IsOutOfMemory error
  memory_alone bit_depth error (inl memory) = memory
  memory_alone bit_depth error (inr f) =
      let some : grids ≢ [] = λ e. f.some (ap (store_meanings to_int) e) in
      only_memory d exact w ts nodes (store_meanings to_int grids) bytes bit_depth (encoded some) error f.place f.before f.after f.fails

-- so these bytes, that were made of it, are read back
pub read_back : {S V : Type 0} (d : Meaning V) (Made : Width → List ℕ → Type 0) (f : S → ℤ) (w : Width) (grids others : List (Grid S)) (bytes : List ℕ) (bit_depth : ℕ) → (grids ≢ [] → Made w bytes) →
    IsDecoded d w bytes bit_depth (store_meanings f grids) (store_meanings f others) → grids ≢ [] → IsReadBack d Made w (store_meanings f grids) bit_depth (store_meanings f others)
read_back d Made f w grids others bytes bit_depth made h some =
    let picture = h.picture (λ e. some (none_of_meanings f grids e)) in
    record { bytes = bytes; made = made some; end = picture.0; picture = picture.1 }

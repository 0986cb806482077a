-- What is encoded is a picture.
use Rattle.std.proofs.Common.{◌≡◌, ℕ, ℤ, List, [], ◌∷◌, length, false, None, Ok, refl, subst, sym}
use Rattle.std.specs.Int.{Width}
use Rattle.std.specs.List.{list_any}
use Rattle.std.proofs.lemmas.Bool.{le-ltb}
use Rattle.jxlm_bits.specs.Decoding.{Meaning}
use Rattle.jxlm_base.specs.Grid.{Grid}
use Rattle.jxlm_chain.proofs.OneImage.{no_two_images}
use Rattle.jxlm_header.specs.Header.{Header, header_by}
use Rattle.jxlm_header.specs.Opening.{Opening, opening, opening_of, resolve}
use Rattle.jxlm_header.proofs.HeaderLaws.{exact-opening}
use Rattle.jxlm_tree.specs.Tree.{config_of}
use Rattle.jxlm_tree.specs.TreeStands.{TreesAreReadExactly}
use Rattle.jxlm_plain.specs.Plain.{plain, plain2}
use Rattle.jxlm_transform.specs.Channels.{tables_for}
use Rattle.jxlm_transform.specs.Params.{has_deltas}
use Rattle.jxlm_transform.specs.Transforms.{Transform}
use Rattle.jxlm_transform.specs.declared.param.PaletteTables.{PaletteTables}
use Rattle.jxlm_transform.specs.declared.param.PaletteTables.TheVariants.{OfColours}
use Rattle.jxlm_weighted.specs.WeightsHeader.{default_weights}
use Rattle.jxlm_encode_write.specs.declared.tree.EncodeNode.{EncodeNode}
use Rattle.jxlm_encode.specs.Encoded.{IsEncoded, IsEncodedFor, given_list}
use Rattle.jxl_modular.specs.Picture.{IsPicture}
use Rattle.jxlm_encode_roundtrip.specs.Pictures.{Encoded2IsPicture, EncodedIsPicture}

-- the tables of palettes are those of colours alone
none_with_deltas : (image : List (Grid ℤ)) → list_any (λ c. has_deltas c.palette_tables) (given_list image).channels ≡ false
none_with_deltas [] = refl
none_with_deltas (g ∷ gs) = none_with_deltas gs

pub tables_given : (image : List (Grid ℤ)) → tables_for (given_list image).channels ≡ OfColours
tables_given image = rw (none_with_deltas image) refl

-- by whatever decoder that reads trees exactly
abbrev pub encoded_is_picture : {V : Type 0} (d : Meaning V) → TreesAreReadExactly d → (w : Width) (ts : List Transform) (nodes : List EncodeNode) (image : List (Grid ℤ)) (bytes : List ℕ) (bit_depth : ℕ) (e : IsEncodedFor ts nodes image d w bytes) →
    IsPicture d w None bytes 0 (given_list image) 0 bit_depth image e.end
encoded_is_picture d exact w ts nodes image bytes bit_depth e =
    let h : Header = record { use_global_tree = false; wp_params = default_weights; transform = ts } in
    let head : Opening = opening_of h e.coded in
    let comes : resolve false (given_list image) h ≡ Ok head = rw (e.accepted.come, le-ltb 65536 (length e.coded.list.channels) e.count) refl in
    let there : (header_by (tables_for (given_list image).channels)).Stands bytes 0 h e.tree_at =
    subst (λ (tables : PaletteTables). (header_by tables).Stands bytes 0 h e.tree_at) (sym (tables_given image)) e.header_stands in
    let stands : (opening false (given_list image)).Stands bytes 0 head e.tree_at =
    (h, e.tree_at, there, rw comes (refl, refl)) in
    record {
      head = head;
      config = config_of e.tree e.decoder;
      samples_at = e.samples_at;
      samples = e.samples;
      start = record {
        tree_at = e.tree_at;
        header = (exact-opening false (given_list image)).stands_read bytes 0 head e.tree_at stands;
        tree = (exact bytes _ _ e.tree_at (config_of e.tree e.decoder) e.samples_at).1 e.tree_stands;
      };
      coded = e.codes;
      only = record {
        chain = e.chain bit_depth;
        only = λ other c. no_two_images w bit_depth e.coded.steps (given_list image) other image e.samples c (e.chain bit_depth);
      };
    }

-- in either plain format
pub first_is_picture : TreesAreReadExactly plain → EncodedIsPicture
first_is_picture exact w ts nodes image bytes bit_depth e = encoded_is_picture plain exact w ts nodes image bytes bit_depth e

pub second_is_picture : TreesAreReadExactly plain2 → Encoded2IsPicture
second_is_picture exact w ts nodes image bytes bit_depth e = encoded_is_picture plain2 exact w ts nodes image bytes bit_depth e

-- The bytes that an encoder writes, bit by bit (ISO/IEC 18181-1, bit packing, field types): each field in the first of its
-- spellings, tokens of the first format in their least width, and after the last token fewer than eight zeros.
use Rattle.std.specs.Prelude.{ℕ, ◌^◌, ◌<◌, ◌≤◌, ℤ, List, ◌++◌}
use Rattle.std.specs.List.{All}
use Rattle.std.specs.Int.{Width}
use Rattle.jxlm_bits.specs.Decoding.{Meaning}
use Rattle.jxlm_base.specs.Grid.{Grid}
use Rattle.jxlm_samples.specs.Part.{cells_of}
use Rattle.jxlm_plain.specs.Plain.{plain, plain2}
use Rattle.jxlm_encode_tokens.specs.Tokens.{AreTokensOf}
use Rattle.jxlm_transform.specs.Transforms.{Transform}
use Rattle.jxlm_encode_write.specs.Headers.{header_bits}
use Rattle.jxlm_encode_write.specs.Nodes.{tree_tokens}
use Rattle.jxlm_encode_write.specs.Tokens.{gamma_token_bits, token_bits}
use Rattle.jxlm_encode_write.specs.Trees.{gamma_tree_bits, tree_bits}
use Rattle.jxlm_bit_writer.specs.Written.{AreFilled}
use Rattle.jxlm_encode_write.specs.declared.tree.EncodeNode.{EncodeNode}
use Rattle.jxlm_encode.specs.Encoded.{IsEncodedFor, coded_part}

-- the least width that all of these tokens fit
pub record IsLeastWidth (tokens : List ℕ) (width : ℕ) : Type 0 where
  pub fits : All (λ t. t < 2 ^ width) tokens
  pub least : (n : ℕ) → All (λ t. t < 2 ^ n) tokens → width ≤ n

module _ (ts : List Transform) (nodes : List EncodeNode) where
  -- the bytes are the bits of a header, of the tree and of these tokens, both in their least widths, and then zeros
  pub record AreWritten (tokens bytes : List ℕ) : Type 0 where
    pub own : ℕ
    pub own_least : IsLeastWidth (tree_tokens nodes) own
    pub width : ℕ
    pub least : IsLeastWidth tokens width
    pub filled : AreFilled bytes (header_bits ts ++ (tree_bits nodes own width ++ token_bits width tokens))

  -- the same with gamma codes, which have no width
  abbrev pub AreWritten2 : List ℕ → List ℕ → Type 0
  AreWritten2 tokens bytes = AreFilled bytes (header_bits ts ++ (gamma_tree_bits nodes ++ gamma_token_bits tokens))

  module _ (image : List (Grid ℤ)) where
    -- The image is encoded in the bytes, and they are those that are written for the tokens of its coded samples.
    pub record AreBytesFor {V : Type 0} (d : Meaning V) (Written : List ℕ → List ℕ → Type 0) (w : Width) (bytes : List ℕ) : Type 0 where
      pub encoded : IsEncodedFor ts nodes image d w bytes
      pub tokens : List ℕ
      pub are : AreTokensOf w (coded_part encoded.coded encoded.tree) (cells_of encoded.samples) tokens
      pub written : Written tokens bytes

    -- in the first format
    abbrev pub AreBytesOf : Width → List ℕ → Type 0
    AreBytesOf w bytes = AreBytesFor plain AreWritten w bytes

    -- in the second
    abbrev pub AreBytesOf2 : Width → List ℕ → Type 0
    AreBytesOf2 w bytes = AreBytesFor plain2 AreWritten2 w bytes

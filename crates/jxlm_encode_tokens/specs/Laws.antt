-- What follows for the tokens of samples.
use Rattle.std.specs.Prelude.{◌≡◌, ◌⊎◌, ℕ, ◌+◌, ◌^◌, ◌<◌, ℤ, List, [], ◌∷◌, length, Ok}
use Rattle.std.specs.List.{All}
use Rattle.std.specs.Int.{Width, w32}
use Rattle.jxlm_bits.specs.Decoding.{Meaning}
use Rattle.jxlm_base.specs.Grid.{Grid}
use Rattle.jxlm_ma_tree.specs.declared.leaf.Leaf.{Leaf}
use Rattle.jxlm_tree.specs.Tree.{AllLeaves}
use Rattle.jxlm_samples.specs.Coded.{IsCodedToTheEnd}
use Rattle.jxlm_samples.specs.Part.{Part, next_leaf, cell_count, cells_of, max_width}
use Rattle.jxlm_plain.specs.Plain.{plain, plain2}
use Rattle.jxlm_encode_write.specs.Tokens.{one_cluster, token_bits, one_gamma_cluster, gamma_token_bits}
use Rattle.jxlm_bit_writer.specs.Written.{HasBits}
use Rattle.jxlm_encode_tokens.specs.Tokens.{AreTokensOf, IsSampleToken, MultipliesByOdd, MultipliesByOne}

-- At a leaf that multiplies by 1 each sample has one token.
abbrev pub EachHasOneToken : Type 0
EachHasOneToken = (w : Width) (leaf : Leaf) (predicted sample : ℤ) (a b : ℕ) → MultipliesByOne leaf →
    IsSampleToken w leaf predicted sample a → IsSampleToken w leaf predicted sample b → a ≡ b

-- The cells of a part have one list of tokens, where all multipliers of its tree are 1, or where they are odd and samples
-- have 32 bits.
abbrev pub EachPartHasOneList : Type 0
EachPartHasOneList = (w : Width) (part : Part) (cells : List ℤ) (a b : List ℕ) →
    (AllLeaves MultipliesByOne part.tree) ⊎ ((w ≡ w32) × AllLeaves MultipliesByOdd part.tree) →
    AreTokensOf w part cells a → AreTokensOf w part cells b → a ≡ b

-- in a state that stays, a decoder reads these tokens of cluster 0 one after another, from one position up to another
abbrev pub AreRead : {S : Type 0} → Meaning S → List ℕ → S → ℕ → List ℕ → ℕ → ℕ → Type 0
AreRead d bytes s widest [] p q = p ≡ q
AreRead d bytes s widest (t ∷ tokens) p q =
    (r : ℕ) × (d.read s bytes p 0 widest ≡ Ok (record { value = t; state = s; position = r })) × AreRead d bytes s widest tokens r q

-- all samples of the part are read from cluster 0
abbrev pub HasOneCluster : Part → Type 0
HasOneCluster part = (before : List ℤ) → (next_leaf part before).cluster ≡ 0

-- Samples are coded where their tokens are read one after another, by whatever decoder.
abbrev pub ReadIsCoded : {S : Type 0} → Meaning S → Type 0
ReadIsCoded {S} d = (w : Width) (part : Part) (bytes : List ℕ) (s : S) (p q : ℕ) (grids : List (Grid ℤ)) (tokens : List ℕ) →
    AreTokensOf w part (cells_of grids) tokens → cell_count part.channels ≡ length (cells_of grids) → HasOneCluster part →
    d.begin s bytes p ≡ Ok (record { value = s; position = p }) → AreRead d bytes s (max_width part.channels) tokens p q → d.finalize s ≡ Ok tt →
    IsCodedToTheEnd d w part bytes s p grids q

-- Samples whose tokens were written by a plain decoder of one cluster are coded from there to where the tokens end.
abbrev pub WrittenIsCoded : Type 0
WrittenIsCoded = (w : Width) (part : Part) (bytes : List ℕ) (contexts width p : ℕ) (grids : List (Grid ℤ)) (tokens : List ℕ) →
    AreTokensOf w part (cells_of grids) tokens → cell_count part.channels ≡ length (cells_of grids) → All (λ t. t < 2 ^ width) tokens →
    HasOneCluster part → HasBits bytes p (token_bits width tokens) →
    IsCodedToTheEnd plain w part bytes (one_cluster contexts width) p grids (p + length (token_bits width tokens))

-- The same of the second format: samples whose tokens were written as gamma codes are coded from there to where they end.
abbrev pub GammaWrittenIsCoded : Type 0
GammaWrittenIsCoded = (w : Width) (part : Part) (bytes : List ℕ) (contexts p : ℕ) (grids : List (Grid ℤ)) (tokens : List ℕ) →
    AreTokensOf w part (cells_of grids) tokens → cell_count part.channels ≡ length (cells_of grids) → All (λ t. t < 2 ^ 32) tokens →
    HasOneCluster part → HasBits bytes p (gamma_token_bits tokens) →
    IsCodedToTheEnd plain2 w part bytes (one_gamma_cluster contexts) p grids (p + length (gamma_token_bits tokens))

-- What is kept of the tokens of samples: their values, or their clusters too.
use Rattle.std.specs.Prelude.{◌≡◌, ℕ, ◌<◌, ℤ, pos, Bool, true, false, List, length, take, get_or}
use Rattle.std.specs.Int.{Width}
use Rattle.jxlm_bit_writer.specs.declared.token.Token.{Token}
use Rattle.jxlm_ma_tree.specs.declared.leaf.Leaf.{Leaf}
use Rattle.jxlm_samples.specs.Coded.{next_prediction}
use Rattle.jxlm_samples.specs.Part.{Part, next_leaf}
use Rattle.jxlm_encode_tokens.specs.Tokens.{IsSampleToken}

-- the value of what is kept, and its cluster, if it has one
pub record Form (T : Type 0) : Type 0 where
  pub value : T → ℕ
  pub clustered : Bool
  pub cluster : T → ℕ

-- a value alone
abbrev pub value_form : Form ℕ
value_form = record { value = λ t. t; clustered = false; cluster = λ t. 0 }

-- a token
abbrev pub token_form : Form Token
token_form = record { value = λ t. t.value; clustered = true; cluster = λ t. t.cluster }

module _ {T : Type 0} (f : Form T) where
  -- this cluster and this value are kept so
  pub record IsKept (c v : ℕ) (t : T) : Type 0 where
    pub value : f.value t ≡ v
    pub cluster : f.clustered ≡ true → f.cluster t ≡ c

  -- this is kept of the token of a sample at a leaf, over a prediction
  pub record IsLeafToken (w : Width) (leaf : Leaf) (predicted sample : ℤ) (t : T) : Type 0 where
    pub value : IsSampleToken w leaf predicted sample (f.value t)
    pub cluster : f.clustered ≡ true → f.cluster t ≡ leaf.cluster

  -- this is kept of the token of cell k of a part
  abbrev pub IsCellToken : Width → Part → List ℤ → ℕ → T → Type 0
  IsCellToken w part cells k t = IsLeafToken w (next_leaf part (take k cells)) (next_prediction part (take k cells)) (get_or cells k (pos 0)) t

  -- this is kept of the token of each cell of a part, in the order of the cells
  pub record AreCellTokens (w : Width) (part : Part) (cells : List ℤ) (tokens : List T) : Type 0 where
    pub count : length tokens ≡ length cells
    pub each : (k : ℕ) (d : T) → k < length cells → IsCellToken w part cells k (get_or tokens k d)

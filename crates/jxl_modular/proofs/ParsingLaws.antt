-- What reading an image returns, from what its steps return.
use Rattle.std.proofs.Common.{◌≡◌, ℕ, zero, suc, false, ◌<◌, List, [], ◌∷◌, length, Ok, Err, refl, arith}
use Rattle.std.specs.Prelude.{◌⊎◌, ◌==◌, Option, Some, Result}
use Rattle.std.specs.Option.{option_copied}
use Rattle.jxlm_bits.specs.Decoding.{Meaning}
use Rattle.jxlm_bits.specs.ErrorKind.{UnlessMemory, kind_of}
use Rattle.jxlm_bits.specs.Grammar.{IsErrorAt}
use Rattle.jxlm_bits.specs.declared.error.Error.{Error}
use Rattle.jxlm_transform.specs.Channels.{ChannelList, image_list}
use Rattle.jxlm_transform.specs.Lists.{list_of}
use Rattle.jxlm_transform.specs.declared.param.ModularChannelParams.{ModularChannelParams}
use Rattle.jxlm_transform.specs.declared.param.ModularParams.{ModularParams}
use Rattle.jxlm_tree.specs.Tree.{Config}
use Rattle.jxl_modular.specs.Fresh.{fresh}
use Rattle.jxl_modular.specs.Image.{Image}
use Rattle.jxlm_nested.specs.Opened.{TreeOfGives, opened_of}
use Rattle.jxlm_chain.specs.declared.placed.PlacedChannels.{PlacedChannels}
use Rattle.jxl_modular.specs.Parsing.{IsImageAt, ParseGives}
use Rattle.jxlm_nested.specs.Starts.{IsTreeErrorAt, opening_at}
use Rattle.jxlm_header.specs.declared.header.ModularHeader.{ModularHeader}
use Rattle.jxlm_nested.proofs.StartLaws.{no_tree, starts}

-- a number that is not 0
pub not_zero : (n : ℕ) → (n == 0) ≡ false → 0 < n
not_zero zero h = cc
not_zero (suc n) h = omega arith

module _ {S D : Type 0} (d : Meaning D) (zero : S) (bytes : List ℕ) (p : ℕ) (params : ModularParams D) where
  abbrev given : ChannelList
  given = image_list params.channels.items

  abbrev global : Option (Config D)
  global = option_copied params.ma_config

  module _ (o : ModularHeader × PlacedChannels) (m : ℕ) (opens : opening_at global bytes given p ≡ Ok (record { value = opened_of o; position = m })) where
    abbrev TreeGives : Result (Config D) Error → ℕ → Type 0
    TreeGives result q = TreeOfGives d global bytes o.0.use_global_tree (list_of o.1.channels).channels m result q

    -- an image of the header's tree
    pub image_stands : (config : Config D) (q : ℕ) (image : Image S D) → TreeGives (Ok config) q →
        image ≡ fresh zero given (opened_of o) config params.group_dim params.bit_depth → IsImageAt d zero bytes p params image q
    image_stands config q image tree same = rw same (record {
      head = opened_of o;
      start = starts d global bytes given p o m opens config q tree;
      cells = refl;
    })

    -- where the tree gives an error, so does the image
    pub tree_fails : (e : Error) (q : ℕ) → TreeGives (Err e) q →
        UnlessMemory (kind_of e) (IsErrorAt (opening_at global bytes given p) (kind_of e) q ⊎ IsTreeErrorAt d global bytes given p (kind_of e) q)
    tree_fails e q gives = no_tree d global bytes given p o m opens e q gives

  pub gives_image : (cs : List ModularChannelParams) (image : Image S D) (q : ℕ) → 0 < length cs → IsImageAt d zero bytes p params image q → ParseGives d zero bytes p params cs (Ok (record { inner = Some image })) q
  gives_image [] image q some stands = absurd (omega (arith, some))
  gives_image (c ∷ cs) image q some stands = (image, refl, stands)

  pub gives_error : (cs : List ModularChannelParams) (e : Error) (q : ℕ) → 0 < length cs →
      UnlessMemory (kind_of e) (IsErrorAt (opening_at global bytes given p) (kind_of e) q ⊎ IsTreeErrorAt d global bytes given p (kind_of e) q) → ParseGives d zero bytes p params cs (Err e) q
  gives_error [] e q some refused = absurd (omega (arith, some))
  gives_error (c ∷ cs) e q some refused = refused

-- What reading a header gives.
use Rattle.std.proofs.Common.{◌≡◌, ℕ, Bool, false, List, [], ◌∷◌, map, Option, Some, Ok, Err, refl, sym, ap, ◌∙◌, subst}
use Rattle.std.specs.Prelude.{◌||◌}
use Rattle.std.specs.List.{list_any}
use Rattle.std.specs.Option.{IfSome, option_copied}
use Rattle.jxlm_bits.specs.Decoding.{Meaning}
use Rattle.jxlm_bits.specs.ErrorKind.{UnlessMemory, kind_of}
use Rattle.jxlm_bits.specs.declared.error.Error.{Error}
use Rattle.jxlm_ma_tree.proofs.Memory.{unless_so}
use Rattle.jxlm_transform.specs.Channels.{image_list}
use Rattle.jxlm_transform.specs.declared.param.ModularChannelParams.{ModularChannelParams}
use Rattle.jxlm_transform.specs.declared.param.ModularParams.{ModularParams}
use Rattle.jxl_modular.specs.Image.{Image}
use Rattle.jxl_modular.specs.Parsing.{ParseGives, image_of}
use Rattle.jxl_modular.specs.declared.root.Modular.{Modular}
use Rattle.jxl_lossless.specs.Inner.Openings.{Opens}
use Rattle.jxl_lossless.specs.Stills.{HeaderFails}
use Rattle.jxl_lossless.specs.Inner.Weighted.{weighted_at}

pub list_any-map : {X Y : Type 0} (p : Y → Bool) (f : X → Y) (xs : List X) → list_any p (map f xs) ≡ list_any (λ x. p (f x)) xs
list_any-map p f [] = refl
list_any-map p f (x ∷ xs) = ap (λ b. p (f x) || b) (list_any-map p f xs)

-- what holds of the value that there is
pub at_some : {X : Type 0} (P : X → Type 0) (o : Option X) (x : X) → o ≡ Some x → IfSome o P → P x
at_some {X = X} P o x e h = subst (λ (v : Option X). IfSome v P) e h

module _ {S D : Type 0} (d : Meaning D) (zero : S) (bytes : List ℕ) (p : ℕ) (params : ModularParams D) where
  -- the image that was read, if there is one
  pub opened_as : (ps : List ModularChannelParams) (q : ℕ) (m : Modular S D) (made : Option (Image S D)) → ParseGives d zero bytes p params ps (Ok m) q → made ≡ image_of m → weighted_at bytes p ≡ false →
      IfSome made (λ image. Opens d (option_copied params.ma_config) (image_list params.channels.items) bytes p zero params.group_dim params.bit_depth image q)
  opened_as [] q m made gives is plain =
      subst (λ (o : Option (Image S D)). IfSome o (λ image. Opens d (option_copied params.ma_config) (image_list params.channels.items) bytes p zero params.group_dim params.bit_depth image q)) (sym (is ∙ gives.0)) tt
  opened_as (c ∷ cs) q m made gives is plain =
      let (image, found, at) = gives in
      subst (λ (o : Option (Image S D)). IfSome o (λ image. Opens d (option_copied params.ma_config) (image_list params.channels.items) bytes p zero params.group_dim params.bit_depth image q)) (sym (is ∙ found))
      (record { head = at.head; plain = plain; start = at.start; is = at.cells })

  -- or why there is none
  pub not_opened : (ps : List ModularChannelParams) (q : ℕ) (e : Error) → ParseGives {S = S} d zero bytes p params ps (Err e) q → weighted_at bytes p ≡ false →
      UnlessMemory (kind_of e) ((weighted_at bytes p ≡ false) × HeaderFails d (option_copied params.ma_config) (image_list params.channels.items) bytes p (kind_of e))
  not_opened [] q e gives plain = absurd gives
  not_opened (c ∷ cs) q e gives plain = unless_so (kind_of e) (λ h. (plain, (q, h))) gives

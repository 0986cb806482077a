-- Patches are read exactly: the parser returns exactly what the bits at its position code.
use Rattle.std.proofs.Common.{ℕ, ◌+◌, Bool, List, length, get_or, Ok, Err, Option, None, Result}
use Rattle.std.specs.Prelude.{nat_le, nat_lt, codes, is_some}
use Rattle.jxlm_bits.specs.Decoding.{Meaning}
use Rattle.jxlm_bits.specs.ErrorKind.{ErrorKind}
use Rattle.jxlm_bits.specs.Grammar.{IsExact, from_result}
use Rattle.jxlm_bits.proofs.GrammarLaws.{bind, exact-either, exact-give, exact-fail}
use Rattle.jxl_image_header.proofs.HeaderLaws.{exact-meant}
use Rattle.jxl_image_header.specs.declared.size.Size.{Size}
use Rattle.jxlm_bits.proofs.TokenLaws.{exact-token, exact-chained, exact-coded}
use Rattle.jxl_patches.specs.Patches.{Patches, most_rectangles, source, coordinate, one_mode, one_place, one_rectangle, dictionary}
use Rattle.jxl_patches.specs.declared.dictionary.Rectangle.{Rectangle}

exact-checked : {X : Type 0} (r : Result X ErrorKind) → IsExact (from_result r)
exact-checked (Ok x) = exact-give x
exact-checked (Err error) = exact-fail error

module _ {S : Type 0} (d : Meaning S) where
  exact-source : (slots : List (Option Size)) (s : S) → IsExact (source d slots s)
  exact-source slots s =
      bind (exact-token d 1 _ (λ v. exact-meant (codes "slot of a patch") (is_some (get_or slots v None)) v) s) λ slot.
      bind (exact-token d 3 _ (λ v. exact-give v) slot.state) λ x0. bind (exact-token d 3 _ (λ v. exact-give v) x0.state) λ y0. bind (exact-token d 2 _ (λ v. exact-give v) y0.state) λ w.
      exact-token d 2 _ (λ h. exact-checked _) w.state

  exact-coordinate : (later : Bool) (before extent side : ℕ) (s : S) → IsExact (coordinate d later before extent side s)
  exact-coordinate later before extent side s = exact-token d _ _ (λ v. exact-checked _) s

  exact-one_mode : (kinds : ℕ) (a : Patches) (s : S) → IsExact (one_mode d kinds a s)
  exact-one_mode kinds a s =
      bind (exact-token d 5 _ (λ v. exact-meant (codes "mode of a patch") (nat_lt v 8) v) s) λ v.
      bind (exact-either _ _ _ (exact-token d 8 _ (λ k. exact-meant (codes "alpha channel of a patch") (nat_lt (k + 1) kinds) k) v.state) (exact-give _)) λ alpha.
      bind (exact-either _ _ _ (exact-token d 9 _ (λ k. exact-give _) alpha.state) (exact-give _)) λ clamp. exact-give _

  pub exact-one_place : (size : Size) (kinds n : ℕ) (r : Rectangle) (a : Patches) (s : S) → IsExact (one_place d size kinds n r a s)
  exact-one_place size kinds n r a s =
      bind (exact-coordinate _ _ r.width size.width s) λ x. bind (exact-coordinate _ _ r.height size.height x.state) λ y.
      exact-chained (one_mode d kinds) (exact-one_mode kinds) kinds _ y.state

  exact-one_rectangle : (size : Size) (kinds : ℕ) (slots : List (Option Size)) (limit : ℕ) (a : Patches) (s : S) → IsExact (one_rectangle d size kinds slots limit a s)
  exact-one_rectangle size kinds slots limit a s =
      bind (exact-source slots s) λ r. bind (exact-token d 7 _ (λ v. exact-checked _) r.state) λ n.
      exact-chained (one_place d size kinds (length a.places) r.value) (exact-one_place size kinds (length a.places) r.value) n.value _ n.state

  pub exact-dictionary : (size : Size) (extra : ℕ) (slots : List (Option Size)) (limit : ℕ) → IsExact (dictionary d size extra slots limit)
  exact-dictionary size extra slots limit = exact-coded d 10 _ λ s.
      bind (exact-token d 0 _ (λ v. exact-meant (codes "count of patches") (nat_le v (most_rectangles size)) v) s) λ n.
      exact-chained (one_rectangle d size (1 + extra) slots limit) (exact-one_rectangle size (1 + extra) slots limit) n.value _ n.state

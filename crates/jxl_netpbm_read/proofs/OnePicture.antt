-- A file is one of one picture.
use Rattle.std.proofs.Common.{◌≡◌, ℕ, suc, ◌<◌, ℤ, List, [], ◌∷◌, length, Ok, Some, refl, sym, ap, ◌∙◌, subst, arith}
use Rattle.std.specs.Prelude.{slice_get, Result}
use Rattle.jxlm_base.specs.Grid.{Grid}
use Rattle.jxlm_base.proofs.Cells.{grid_same}
use Rattle.jxl_netpbm_read.specs.Files.{HasOnePicture, image_by}
use Rattle.jxl_netpbm_read.specs.Samples.{HoldsChannel, channels_of}
use Rattle.jxl_netpbm_read.specs.declared.error.NetpbmError.{NetpbmError}
use Rattle.jxl_netpbm_read.specs.declared.header.Header.{Header}

-- a grid that holds a channel is the only one
one_grid : (h : Header) (bytes : List ℕ) (k : ℕ) (g other : Grid ℤ) → HoldsChannel h bytes k g → HoldsChannel h bytes k other → g ≡ other
one_grid h bytes k g other a b =
    grid_same g other a.full b.full (a.wide ∙ sym b.wide) (a.high ∙ sym b.high)
    (λ x y p q.
    let inside : x < h.width = omega (arith, p, a.wide) in
    let below : y < h.height = omega (arith, q, a.high) in
    a.cells x y inside below ∙ sym (b.cells x y inside below))

-- lists of the same elements are the same
one_list : (gs others : List (Grid ℤ)) → length gs ≡ length others → ((k : ℕ) (g other : Grid ℤ) → slice_get gs k ≡ Some g → slice_get others k ≡ Some other → g ≡ other) → gs ≡ others
one_list [] [] e same = refl
one_list [] (o ∷ os) e same = absurd (omega (arith, e))
one_list (g ∷ gs) [] e same = absurd (omega (arith, e))
one_list (g ∷ gs) (o ∷ os) e same =
    ap (λ (x : Grid ℤ). x ∷ gs) (same 0 g o refl refl) ∙ ap (λ (xs : List (Grid ℤ)). o ∷ xs) (one_list gs os (omega (arith, e)) (λ k a b p q. same (suc k) a b p q))

abbrev the_header : Header → Result Header NetpbmError → Header
the_header h (Ok v) = v
the_header h other = h

pub has_one_picture : (file : List ℕ) → HasOnePicture file
has_one_picture file image other channels others a b =
    let headers : Ok a.header ≡ Ok b.header = sym a.is_header ∙ b.is_header in
    let same : a.header ≡ b.header = ap (the_header a.header) headers in
    let count : length channels ≡ length others = a.count ∙ ap (λ (h : Header). channels_of h) same ∙ sym b.count in (
      a.image_is ∙ ap (λ (h : Header). image_by h) same ∙ sym b.image_is,
      one_list channels others count (λ k g o p q.
          one_grid b.header file k g o (subst (λ (h : Header). HoldsChannel h file k g) same (a.samples k g p)) (b.samples k o q)),
    )

-- Full channels that are the same are equal.
use Rattle.std.proofs.Common.{◌≡◌, ◌<◌, ℤ, List, [], ◌∷◌, Some, refl, sym, ap, ◌∙◌, subst}
use Rattle.std.proofs.lemmas.List.Elements.{All-head, All-tail}
use Rattle.jxlm_base.specs.Grid.{Grid, IsFull}
use Rattle.jxlm_base.proofs.Cells.{grid_same}
use Rattle.jxlm_base.proofs.GridLaws.{cell_from_at}
use Rattle.jxl_lossless_laws.specs.Laws.{SameChannelsAreEqual}
use Rattle.jxl_lossless_laws.specs.Same.{IsSameChannel}

one_equal : (g h : Grid ℤ) → IsFull g → IsFull h → IsSameChannel g h → g ≡ h
one_equal g h f k same =
    grid_same g h f k same.width same.height (λ x y lx ly.
    cell_from_at g x y f lx ly ∙ ap Some (same.samples x y lx ly)
    ∙ sym (cell_from_at h x y k (subst (λ n. x < n) same.width lx) (subst (λ n. y < n) same.height ly)))

pub same_channels_equal : SameChannelsAreEqual
same_channels_equal [] [] f k z = refl
same_channels_equal [] (h ∷ hs) f k z = absurd z
same_channels_equal (g ∷ gs) [] f k z = absurd z
same_channels_equal (g ∷ gs) (h ∷ hs) f k z =
    ap (λ (x : Grid ℤ). x ∷ gs) (one_equal g h (All-head IsFull g gs f) (All-head IsFull h hs k) z.0)
    ∙ ap (λ (xs : List (Grid ℤ)). h ∷ xs) (same_channels_equal gs hs (All-tail IsFull g gs f) (All-tail IsFull h hs k) z.1)

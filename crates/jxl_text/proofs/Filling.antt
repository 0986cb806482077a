-- A grid that is filled row by row.
use Rattle.std.proofs.Common.{◌≡◌, ℕ, suc, ◌+◌, ◌-◌, ◌*◌, ◌<◌, ◌≤◌, List, ◌++◌, length, take, drop, refl, sym, ap, ◌∙◌, subst, arith}
use Rattle.std.specs.Prelude.{replicate}
use Rattle.std.specs.List.{refill}
use Rattle.std.proofs.Math.Nat.{mul_comm, mul-le-mul_right}
use Rattle.std.proofs.lemmas.List.{append_assoc, length-append, length-drop, length-take-le, length-replicate, take_all, take_at, take-append-drop, take-take, drop-take, drop-drop}
use Rattle.jxlm_base.specs.Grid.{Grid, grid, filled, with_row, written}

pub record Filled {S : Type 0} (width height : ℕ) (cells left : List S) (g : Grid S) (y : ℕ) : Type 0 where
  pub wide : g.width ≡ width
  pub high : g.height ≡ height
  pub full : length g.cells ≡ width * height
  pub rest : left ≡ drop (y * width) cells
  pub same : take (y * width) g.cells ≡ take (y * width) cells

module _ {S : Type 0} (width height : ℕ) (cells : List S) (all : length cells ≡ width * height) where
  pub unfilled : (g : Grid S) (v : S) → g ≡ filled width height v → Filled width height cells cells g 0
  unfilled g v is =
      let none : 0 * width ≡ 0 = omega arith in
      let made : Filled width height cells cells (filled width height v) 0 = record {
        wide = refl;
        high = refl;
        full = length-replicate (width * height) v;
        rest = ap (λ k. drop k cells) (sym none);
        same = ap (λ k. take k (filled width height v).cells) none ∙ ap (λ k. take k cells) (sym none);
      } in
      subst (λ (k : Grid S). Filled width height cells cells k 0) (sym is) made

  -- the rows up to row y
  up_to : (y : ℕ) → y < height → y * width + width ≤ length cells
  up_to y below = let m = mul-le-mul_right {m = suc y} {n = height} width (omega arith) in let f = mul_comm width height in omega (arith, all)

  pub row_left : (left : List S) (g : Grid S) (y : ℕ) → Filled width height cells left g y → y < height → width ≤ length left
  row_left left g y now below =
      let n = length-drop (y * width) cells in
      let u = up_to y below in
      omega (arith, ap length now.rest)

  take_more_of : (n m : ℕ) (xs : List S) → take n xs ++ take m (drop n xs) ≡ take (n + m) xs
  take_more_of n m xs =
      ap (λ ys. ys ++ take m (drop n xs)) (sym (take-take n (n + m) xs (omega arith))) ∙ ap (λ ys. take n (take (n + m) xs) ++ ys) (sym (drop-take n m xs)) ∙ take-append-drop n (take (n + m) xs)

  -- what a row that is written leaves up to its end
  written_to : (old row : List S) (n : ℕ) → n + length row ≤ length old → take (n + length row) (written old n row) ≡ take n old ++ row
  written_to old row n fits =
      let front = take n old in
      let back = drop (length row) (drop n old) in
      let joined : List S = front ++ (row ++ back) in
      let a = length-take-le n old (omega arith) in
      let b = length-append front (row ++ back) in
      let c = length-append row back in
      let d = length-drop (length row) (drop n old) in
      let e = length-drop n old in
      let whole : written old n row ≡ joined = take_at joined (drop (length joined) old) (length old) (omega arith) in
      let f = length-append front row in
      ap (λ (xs : List S). take (n + length row) xs) (whole ∙ sym (append_assoc front row back)) ∙ take_at (front ++ row) back (n + length row) (omega arith)

  length_written : (old row : List S) (n : ℕ) → n + length row ≤ length old → length (written old n row) ≡ length old
  length_written old row n fits =
      let front = take n old in
      let back = drop (length row) (drop n old) in
      let joined : List S = front ++ (row ++ back) in
      let a = length-take-le n old (omega arith) in
      let b = length-append front (row ++ back) in
      let c = length-append row back in
      let d = length-drop (length row) (drop n old) in
      let e = length-drop n old in
      let whole : written old n row ≡ joined = take_at joined (drop (length joined) old) (length old) (omega arith) in
      ap length whole ∙ omega arith

  pub row_filled : (left after row : List S) (g next : Grid S) (y : ℕ) → Filled width height cells left g y → y < height → row ≡ take width left → after ≡ drop width left → next ≡ with_row g y row → Filled width height cells after next (y + 1)
  row_filled left after row g next y now below is rest made =
      let u = up_to y below in
      let n : length row ≡ width = ap length is ∙ length-take-le width left (row_left left g y now below) in
      let place : y * g.width ≡ y * width = ap (λ k. y * k) now.wide in
      let old = g.cells in
      let fits : y * width + length row ≤ length old = omega (arith, now.full, all) in
      let end : y * width + length row ≡ (y + 1) * width = omega arith in
      let up : (y + 1) * width ≡ y * width + width = omega arith in
      let new : Filled width height cells after (grid g.width g.height (written old (y * width) row)) (y + 1) = record {
        wide = now.wide;
        high = now.high;
        full = length_written old row (y * width) fits ∙ now.full;
        rest = rest ∙ ap (λ (xs : List S). drop width xs) now.rest ∙ drop-drop width (y * width) cells ∙ ap (λ k. drop k cells) (sym up);
        same =
            ap (λ k. take k (written old (y * width) row)) (sym end) ∙ written_to old row (y * width) fits
            ∙ ap (λ (xs : List S). xs ++ row) now.same ∙ ap (λ (xs : List S). take (y * width) cells ++ xs) (is ∙ ap (λ (xs : List S). take width xs) now.rest)
            ∙ take_more_of (y * width) width cells ∙ ap (λ k. take k cells) (sym up);
      } in
      subst (λ (k : Grid S). Filled width height cells after k (y + 1)) (sym (made ∙ ap (λ k. grid g.width g.height (written old k row)) place)) new

  pub all_filled : (left : List S) (g : Grid S) (y : ℕ) → Filled width height cells left g y → y ≡ height → g ≡ grid width height cells
  all_filled left g y now end =
      let f = mul_comm width height in
      let e : y * width ≡ height * width = ap (λ k. k * width) end in
      let held : g.cells ≡ cells = sym (take_all (y * width) g.cells (omega (arith, now.full))) ∙ now.same ∙ take_all (y * width) cells (omega (arith, all)) in
      ap (λ k. grid k g.height g.cells) now.wide ∙ ap (λ k. grid width k g.cells) now.high ∙ ap (λ (xs : List S). grid width height xs) held

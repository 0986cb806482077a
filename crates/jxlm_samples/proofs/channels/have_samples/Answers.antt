use Rattle.std.proofs.Common.{◌≡◌, ℕ, zero, suc, ◌+◌, ◌*◌, ◌<◌, List, [], ◌∷◌, Bool, true, false, if◌then◌else◌, refl, ap, arith}
use Rattle.std.specs.Prelude.{◌==◌, max}
use Rattle.std.proofs.Math.Nat.{mul-pos}
use Rattle.std.proofs.lemmas.Bool.{eqb-false, eqb-true, lt-ltb, ltb-true}
use Rattle.std.proofs.lemmas.List.Sums.{sum_by-cons}
use Rattle.jxlm_transform.specs.Channels.{Channel, area, infos}
use Rattle.jxlm_samples.specs.Part.{cell_count}
use Rattle.jxlm_samples.specs.Reading.{sampled_width}
use Rattle.jxlm_samples.proofs.channels.have_samples.Goals as goal

-- cells by the maximum width of a row that has some, and such a width by cells: with one channel more
one_width : (flat : Bool) (w h width cells : ℕ) → (flat ≡ false → 0 < h) → (0 < width → 0 < cells) → 0 < max (if flat then 0 else w) width → 0 < w * h + cells
one_width true w h width cells high others some = let rest = others (omega (arith, some)) in omega (arith, rest)
one_width false zero h width cells high others some = let rest = others (omega (arith, some)) in omega (arith, rest)
one_width false (suc w) h width cells high others some = let a : 0 < suc w = omega arith in let one = mul-pos a (high refl) in omega (arith, one)

more_cells : (flat : Bool) (w h width cells : ℕ) → (flat ≡ true → h ≡ 0) → (0 < cells → 0 < width) → 0 < w * h + cells → 0 < max (if flat then 0 else w) width
more_cells true w h width cells low others some = let none : w * h ≡ w * 0 = ap (λ k. w * k) (low refl) in let rest = others (omega (arith, some, none)) in omega (arith, rest)
more_cells false zero h width cells low others some = let rest = others (omega (arith, some)) in omega (arith, rest)
more_cells false (suc w) h width cells low others some = omega arith

has_cells : (channels : List Channel) → 0 < sampled_width channels → 0 < cell_count channels
has_cells [] some = absurd (omega (arith, some))
has_cells (c ∷ channels) some = let one = one_width (c.height == 0) c.width c.height (sampled_width channels) (cell_count channels) (λ e. let high = eqb-false c.height 0 e in omega (arith, high)) (has_cells channels) some in omega (arith, one, sum_by-cons area c channels)

has_width : (channels : List Channel) → 0 < cell_count channels → 0 < sampled_width channels
has_width [] some = absurd (omega (arith, some))
has_width (c ∷ channels) some = more_cells (c.height == 0) c.width c.height (sampled_width channels) (cell_count channels) (eqb-true c.height 0) (has_width channels) (omega (arith, some, sum_by-cons area c channels))

pub returns : goal.returns
returns c = rw c.sampled_width.ensures (λ some. has_cells (infos c.args.channels.now) (ltb-true 0 _ some), λ some. lt-ltb 0 _ (has_width (infos c.args.channels.now) some))

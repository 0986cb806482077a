-- Chains of small images.
use Rattle.std.proofs.Common.{◌≡◌, refl, true, false, ℕ, suc, zero, List, [], ◌∷◌, ℤ, pos, Ok, arith, rules}
use Rattle.std.specs.Int.{w16, w32, int_wrap}
use Rattle.jxlm_base.specs.Grid.{Grid, grid}
use Rattle.jxlm_base.specs.SqueezedGrids.{AreGridSamples}
use Rattle.jxlm_transform.specs.Channels.{Channel, ChannelList}
use Rattle.jxlm_transform.specs.ChannelSteps.{RctStep, SqueezeStep, Step, list_after}
use Rattle.jxlm_transform.specs.declared.param.ChannelShift.TheVariants.{Raw}
use Rattle.jxlm_transform.specs.declared.param.GradientSums.TheVariants.{Wrapped}
use Rattle.jxlm_transform.specs.declared.param.PaletteTables.TheVariants.{OfColours}
use Rattle.jxlm_chain.specs.Chain.{Codes, Chain}
use Rattle.jxlm_chain.proofs.SampleGrids.{AreSampleGrids}

abbrev line : List ℤ → Grid ℤ
line cs = grid 4 1 cs

abbrev half : List ℤ → Grid ℤ
half cs = grid 2 1 cs

-- one step across, and one down
abbrev across : Step
across = SqueezeStep (record { horizontal = true; in_place = true; begin_c = 0; num_c = 1 })

abbrev down : Step
down = SqueezeStep (record { horizontal = false; in_place = true; begin_c = 0; num_c = 1 })

squeezed_row : AreSampleGrids w16 (line (pos 10 ∷ pos 11 ∷ pos 20 ∷ pos 20 ∷ []) ∷ []) → Codes w16 8 across (line (pos 10 ∷ pos 11 ∷ pos 20 ∷ pos 20 ∷ []) ∷ []) (half (pos 10 ∷ pos 20 ∷ []) ∷ half (pos 0 ∷ pos 0 ∷ []) ∷ [])
unfolding int_wrap
squeezed_row samples = (samples, refl)

squeezed_column : AreSampleGrids w16 (grid 1 3 (pos 12 ∷ pos 8 ∷ pos 4 ∷ []) ∷ []) → Codes w16 8 down (grid 1 3 (pos 12 ∷ pos 8 ∷ pos 4 ∷ []) ∷ []) (grid 1 2 (pos 10 ∷ pos 4 ∷ []) ∷ grid 1 1 (pos 3 ∷ []) ∷ [])
unfolding int_wrap
squeezed_column samples = (samples, refl)

recoloured_cell : AreSampleGrids w32 (grid 1 1 (pos 102 ∷ []) ∷ grid 1 1 (pos 103 ∷ []) ∷ grid 1 1 (pos 92 ∷ []) ∷ []) →
    Codes w32 8 (RctStep (record { begin_c = 0; rct_type = 6 })) (grid 1 1 (pos 102 ∷ []) ∷ grid 1 1 (pos 103 ∷ []) ∷ grid 1 1 (pos 92 ∷ []) ∷ [])
    (grid 1 1 (pos 100 ∷ []) ∷ grid 1 1 (pos 10 ∷ []) ∷ grid 1 1 (pos 6 ∷ []) ∷ [])
unfolding int_wrap
recoloured_cell samples = (samples, refl)

-- ---- a whole chain

abbrev channel : ℕ → ℤ → Channel
channel n shift = record { width = n; height = 1; original_width = 4; original_height = 1; hshift = shift; vshift = pos 0; original_shift = Raw (pos 0) (pos 0); palette_tables = OfColours; gradient_sums = Wrapped }

abbrev before : ChannelList
before = record { channels = channel 4 (pos 0) ∷ []; nb_meta = 0 }

abbrev after : ChannelList
after = record { channels = channel 2 (pos 1) ∷ channel 2 (pos 1) ∷ []; nb_meta = 0 }

list_after_it : list_after across before ≡ Ok after
list_after_it = refl

line_samples : AreGridSamples w16 (line (pos 10 ∷ pos 11 ∷ pos 20 ∷ pos 20 ∷ []))
line_samples zero zero p q = search rules
line_samples (suc zero) zero p q = search rules
line_samples (suc (suc zero)) zero p q = search rules
line_samples (suc (suc (suc zero))) zero p q = search rules
line_samples (suc (suc (suc (suc x)))) zero p q = absurd (omega arith)
line_samples x (suc y) p q = absurd (omega arith)

one_sampled : AreSampleGrids w16 (line (pos 10 ∷ pos 11 ∷ pos 20 ∷ pos 20 ∷ []) ∷ [])
one_sampled zero d l = line_samples
one_sampled (suc k) d l = absurd (omega arith)

chain : Chain w16 8 (across ∷ []) before (line (pos 10 ∷ pos 11 ∷ pos 20 ∷ pos 20 ∷ []) ∷ []) (half (pos 10 ∷ pos 20 ∷ []) ∷ half (pos 0 ∷ pos 0 ∷ []) ∷ [])
chain =
    let averages : Grid ℤ = half (pos 10 ∷ pos 20 ∷ []) in
    let residuals : Grid ℤ = half (pos 0 ∷ pos 0 ∷ []) in (
      (record { same_width = refl; same_height = refl; full = refl }, tt),
      after,
      (averages ∷ residuals ∷ []),
      list_after_it,
      squeezed_row one_sampled,
      ((record { same_width = refl; same_height = refl; full = refl }, (record { same_width = refl; same_height = refl; full = refl }, tt)), refl),
    )

-- What the next cell of a row sees: the rows before and the row so far, and the channels before.
use Rattle.std.proofs.Common.{◌≡◌, ℕ, ◌+◌, ◌*◌, ◌<◌, List, ◌++◌, length, map, take, sym, ap, ◌∙◌, subst, arith, ℤ}
use Rattle.std.proofs.lemmas.List.{get_or-set_other, get_or-set_same, length-map}
use Rattle.std.proofs.lemmas.Nat.{mul-add-lt}
use Rattle.jxlm_base.specs.Grid.{Grid, with_row}
use Rattle.jxlm_base.specs.Outside.{SetsRow}
use Rattle.jxlm_base.specs.Regions.{AllLie, grid_of, region, store_meanings}
use Rattle.jxlm_base.specs.declared.subgrid.Region.{Region}
use Rattle.jxlm_base.proofs.Regions.{IsFull-grid_of}
use Rattle.jxlm_predictor.specs.Standing.{StandsAt}
use Rattle.jxlm_predictor.specs.declared.state.PredictorState.{PredictorState}
use Rattle.jxlm_transform.specs.Channels.{AreGridsOf, AreRegionsOf}
use Rattle.jxlm_samples.specs.Part.{Part, SeesBefore, cells_before, cells_of, channel, grid as grid_at}
use Rattle.jxlm_samples.specs.Progress.{grids_in}
use Rattle.jxlm_samples.specs.Inner.Progress.{preceding_cells, place_of}
use Rattle.jxlm_samples.specs.Inner.Rows.{StandsInRow}
use Rattle.jxlm_samples.specs.Reading.{regions_of}
use Rattle.jxlm_samples.specs.ChannelSettings.{StandsAfter, region_at, setting_of}
use Rattle.jxlm_samples.specs.declared.coding.PartCoding.{PartCoding}
use Rattle.jxlm_samples.proofs.Loops.{fits_in, grid_in, same_count, same_size}
use Rattle.jxlm_samples.proofs.NextSample.{SeesRegions}
use Rattle.jxlm_samples.proofs.Places.{each_sees_before}
use Rattle.jxlm_samples.proofs.RowWrites.{first_cells, fits_count, fits_written, row_grid, row_takes, take_written, with_row_of}

module _ (part : Part) (regions : List Region) (ints : List (Grid ℤ)) (i y : ℕ) (sizes : AreRegionsOf part.channels regions) (li : i < length regions) (qy : y < (region_at regions i).height) where
  abbrev reg : Region
  reg = region_at regions i

  abbrev grids : List (Grid ℤ)
  grids = grids_in regions ints

  abbrev own_grid : Grid ℤ
  own_grid = grid_of ints reg

  there : i < length part.channels
  there = let count = same_count part.channels regions sizes in omega (arith, count)

  wide : reg.width ≡ (channel part.channels i).width
  wide = (same_size part.channels regions i sizes li).0

  row_there : y < (channel part.channels i).height
  row_there = subst (λ n. y < n) (same_size part.channels regions i sizes li).1 qy

  module _ (row : List ℤ) (short : length row < reg.width) where
    abbrev x : ℕ
    x = length row

    abbrev here : List ℤ
    here = preceding_cells part grids i 0 y ++ row

    in_channel : x < (channel part.channels i).width
    in_channel = subst (λ n. x < n) wide short

    -- the cells so far are those of grids that have them
    abbrev made : List (Grid ℤ)
    made = with_row_of grids i y row

    fit : AreGridsOf part.channels grids
    fit = fits_in part.channels regions ints sizes

    as_many : length grids ≡ length part.channels
    as_many = fits_count part.channels grids fit

    here_is : take (cells_before part.channels i + (y * (channel part.channels i).width + x)) (cells_of made) ≡ here
    here_is =
        let at_place : cells_before part.channels i + (y * (channel part.channels i).width + x) ≡ place_of part i 0 y + x = omega arith in
        ap (λ n. take n (cells_of made)) at_place ∙ first_cells part.channels grids i y row fit there row_there (omega (arith, in_channel))

    sees : SeesBefore part.channels made i (y * (channel part.channels i).width + x) here
    sees =
        subst (SeesBefore part.channels made i (y * (channel part.channels i).width + x)) here_is
        (each_sees_before part.channels made i (y * (channel part.channels i).width + x) (fits_written part.channels grids i y row fit row_there (omega (arith, in_channel))) there
        (mul-add-lt y (channel part.channels i).width x (channel part.channels i).height row_there in_channel))

    pub sees_regions : SeesRegions part regions ints i here (take (y * reg.width) own_grid.cells ++ row)
    sees_regions = record {
      wide = wide;
      stands = sees.stands;
      own_is = sees.own
          ∙ ap (λ (g : Grid ℤ). take (y * (channel part.channels i).width + x) g.cells)
          (get_or-set_same grids i (with_row (grid_at grids i) y row) _ (omega (arith, as_many, there)) ∙ ap (λ g. with_row g y row) (grid_in ints regions i li))
          ∙ ap (λ n. take (y * n + x) (with_row own_grid y row).cells) (sym wide)
          ∙ take_written own_grid.cells (y * reg.width) row (row_takes own_grid (IsFull-grid_of ints reg) y row qy (omega (arith, short)));
      earlier_is = λ e less. sees.earlier e less ∙ get_or-set_other grids i e (with_row (grid_at grids i) y row) _ (λ h. absurd (omega (arith, less, h)))
          ∙ grid_in ints regions e (omega (arith, less, li));
    }

-- after a row that was read and written the state is after the rows up to it
pub stands_below : {D X : Type 0} (c : PartCoding D) (i y : ℕ) (to_int : X → ℤ) (store new : List (Grid X)) (row : List X) (state : PredictorState X) → AllLie (regions_of c) store → i < length (regions_of c) →
    y < (region_at (regions_of c) i).height → length row ≡ (region_at (regions_of c) i).width → SetsRow (region_at (regions_of c) i) y row store new →
    StandsInRow c to_int store i y (map to_int row) state → StandsAfter c to_int new i ((y + 1) * (region_at (regions_of c) i).width) state
stands_below {D} {X} c i y to_int store new row state lie li qy long sets stands =
    let r : Region = region_at (regions_of c) i in
    let g : Grid ℤ = grid_of (store_meanings to_int store) r in
    let R : List ℤ = map to_int row in
    let count : length R ≡ r.width = length-map row to_int ∙ long in
    let at : (y + 1) * r.width ≡ y * r.width + length R = omega (arith, count) in
    let is : grid_of (store_meanings to_int new) r ≡ with_row g y R = row_grid to_int store new y r.width row long r (lie i (region 0 0 0 0 0) li) qy (omega arith) sets in
    let all : take ((y + 1) * r.width) (grid_of (store_meanings to_int new) r).cells ≡ take (y * r.width) g.cells ++ R =
    ap (λ n. take n (grid_of (store_meanings to_int new) r).cells) at ∙ ap (λ (h : Grid ℤ). take (y * r.width + length R) h.cells) is
    ∙ take_written g.cells (y * r.width) R (row_takes g (IsFull-grid_of (store_meanings to_int store) r) y R qy (omega (arith, count))) in
    subst (StandsAt state (setting_of c i)) (sym all) stands

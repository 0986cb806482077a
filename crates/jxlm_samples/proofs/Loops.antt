-- What the loops of decoding keep: one cell more, one row more, one channel more.
use Rattle.std.proofs.Common.{◌≡◌, ℕ, zero, suc, ◌+◌, ◌*◌, ◌<◌, ◌≤◌, List, [], ◌∷◌, length, refl, sym, ap, ◌∙◌, arith, ℤ}
use Rattle.std.specs.Prelude.{Result, Ok, Err, OnOk}
use Rattle.std.proofs.lemmas.List.{length-append}
use Rattle.std.proofs.lemmas.Slice.Zip.{AllZip-long}
use Rattle.std.proofs.Math.Seq.{take-length}
use Rattle.std.proofs.lemmas.List.Sums.{sum_by-cons}
use Rattle.jxlm_base.specs.Grid.{Grid}
use Rattle.jxlm_base.specs.Regions.{grid_of}
use Rattle.jxlm_base.specs.declared.subgrid.Region.{Region}
use Rattle.jxlm_base.proofs.Regions.{IsFull-grid_of}
use Rattle.jxlm_transform.specs.Channels.{AreGridsOf, AreRegionsOf, Channel, area}
use Rattle.jxlm_samples.specs.Part.{Part, channel, cell_count, cells_before, cells_of, grid as grid_at}
use Rattle.jxlm_samples.specs.Progress.{grids_in}
use Rattle.jxlm_samples.specs.Inner.Progress.{place_of, TakesSteps}
use Rattle.jxlm_samples.specs.ChannelSettings.{region_at}
use Rattle.jxlm_samples.proofs.Places.{before_suc}

-- sizes of regions and channels
pub same_count : (channels : List Channel) (regions : List Region) → AreRegionsOf channels regions → length channels ≡ length regions
same_count channels regions h = sym (AllZip-long _ channels regions h)

pub same_size : (channels : List Channel) (regions : List Region) (i : ℕ) → AreRegionsOf channels regions → i < length regions →
    ((region_at regions i).width ≡ (channel channels i).width) × ((region_at regions i).height ≡ (channel channels i).height)
same_size [] [] i h l = absurd (omega arith)
same_size [] (r ∷ rs) i h l = absurd h
same_size (c ∷ cs) [] i h l = absurd h
same_size (c ∷ cs) (r ∷ rs) zero h l = h.0
same_size (c ∷ cs) (r ∷ rs) (suc i) h l = same_size cs rs i h.1 (omega arith)

pub grid_in : (store : List (Grid ℤ)) (regions : List Region) (i : ℕ) → i < length regions → grid_at (grids_in regions store) i ≡ grid_of store (region_at regions i)
grid_in store [] i l = absurd (omega arith)
grid_in store (r ∷ rs) zero l = refl
grid_in store (r ∷ rs) (suc i) l = grid_in store rs i (omega arith)

-- all cells of grids that fit their channels
pub all_cells : (channels : List Channel) (grids : List (Grid ℤ)) → AreGridsOf channels grids → length (cells_of grids) ≡ cell_count channels
all_cells [] [] fit = refl
all_cells [] (g ∷ gs) fit = absurd fit
all_cells (c ∷ cs) [] fit = absurd fit
all_cells (c ∷ cs) (g ∷ gs) fit =
    let whole : length g.cells ≡ area c = fit.0.full ∙ ap (λ w. w * g.height) fit.0.same_width ∙ ap (λ h. c.width * h) fit.0.same_height in
    let rest = all_cells cs gs fit.1 in
    let all = sum_by-cons area c cs in
    let both = length-append g.cells (cells_of gs) in
    omega (arith, whole, rest, all, both)

-- ---- steps

sums_within : (a b c s t u : ℕ) → t + a ≤ s + b → u + b ≤ t + c → u + a ≤ s + c
sums_within a b c s t u h k = omega (arith, h, k)

pub takes_some : (cost k n before after : ℕ) → after ≤ before + n * cost → TakesSteps cost k (k + n) before after
takes_some cost k n before after h = omega (arith, h)

-- ---- results

-- what follows from the absence of an error
pub ok_so : {A E : Type 0} (r : Result A E) (P Q : Type 0) → (P → Q) → OnOk r P → OnOk r Q
ok_so (Ok a) P Q so h = so h
ok_so (Err e) P Q so h = h

-- ---- steps taken one after another

pub takes_further : (cost a b c s t u : ℕ) → TakesSteps cost a b s t → TakesSteps cost b c t u → TakesSteps cost a c s u
takes_further cost a b c s t u h k = sums_within (a * cost) (b * cost) (c * cost) s t u h k

-- ---- cells by their number

pub row_ends : (part : Part) (i y : ℕ) → place_of part i (channel part.channels i).width y ≡ place_of part i 0 (y + 1)
row_ends part i y = omega arith

pub channel_begins : (part : Part) (i : ℕ) → place_of part i 0 0 ≡ cells_before part.channels i
channel_begins part i = omega arith

ends_list : (channels : List Channel) (i : ℕ) → i < length channels → cells_before channels i + area (channel channels i) ≡ cells_before channels (i + 1)
ends_list [] i l = absurd (omega arith)
ends_list (c ∷ cs) zero l =
    let b = before_suc c cs 0 in
    let one : suc 0 ≡ 0 + 1 = omega arith in
    let m : cells_before (c ∷ cs) (0 + 1) ≡ area c + cells_before cs 0 = ap (cells_before (c ∷ cs)) (sym one) ∙ b in
    omega (arith, m)
ends_list (c ∷ cs) (suc i) l =
    let b = before_suc c cs i in let n = before_suc c cs (i + 1) in let e = ends_list cs i (omega arith) in
    let same : suc (i + 1) ≡ suc i + 1 = omega arith in
    let m : cells_before (c ∷ cs) (suc i + 1) ≡ area c + cells_before cs (i + 1) = ap (cells_before (c ∷ cs)) (sym same) ∙ n in
    omega (arith, b, m, e)

pub channel_ends : (part : Part) (i : ℕ) → i < length part.channels → place_of part i 0 (channel part.channels i).height ≡ cells_before part.channels (i + 1)
channel_ends part i l =
    let c = channel part.channels i in
    let e = ends_list part.channels i l in
    let m : c.height * c.width + 0 ≡ area c = omega arith in
    ap (λ n. cells_before part.channels i + n) m ∙ e

-- regions that have the sizes of channels hold grids that fit them
pub fits_in : (channels : List Channel) (regions : List Region) (store : List (Grid ℤ)) → AreRegionsOf channels regions → AreGridsOf channels (grids_in regions store)
fits_in [] [] store h = tt
fits_in [] (r ∷ rs) store h = absurd h
fits_in (c ∷ cs) [] store h = absurd h
fits_in (c ∷ cs) (r ∷ rs) store h =
    (record { same_width = h.0.0; same_height = h.0.1; full = IsFull-grid_of store r }, fits_in cs rs store h.1)

module _ (part : Part) (regions : List Region) (sizes : AreRegionsOf part.channels regions) where
  -- ---- the ends of rows and channels

  pub row_done : (i y : ℕ) → i < length regions → place_of part i (region_at regions i).width y ≡ place_of part i 0 (y + 1)
  row_done i y li = ap (λ n. place_of part i n y) (same_size part.channels regions i sizes li).0 ∙ row_ends part i y

  pub channel_done : (i : ℕ) → i < length regions → place_of part i 0 (region_at regions i).height ≡ cells_before part.channels (i + 1)
  channel_done i li =
      let count = same_count part.channels regions sizes in
      ap (λ n. place_of part i 0 n) (same_size part.channels regions i sizes li).1 ∙ channel_ends part i (omega (arith, count))

  no_area : (i : ℕ) → i < length regions → area (channel part.channels i) ≡ 0 → cells_before part.channels i ≡ cells_before part.channels (i + 1)
  no_area i li none =
      let count = same_count part.channels regions sizes in
      let e = ends_list part.channels i (omega (arith, count)) in
      omega (arith, e, none)

  pub channel_empty : (i : ℕ) → i < length regions → (region_at regions i).width ≡ 0 → cells_before part.channels i ≡ cells_before part.channels (i + 1)
  channel_empty i li none =
      let z : (channel part.channels i).width ≡ 0 = sym (same_size part.channels regions i sizes li).0 ∙ none in
      no_area i li (ap (λ n. n * (channel part.channels i).height) z ∙ omega arith)

  pub channel_flat : (i : ℕ) → i < length regions → (region_at regions i).height ≡ 0 → cells_before part.channels i ≡ cells_before part.channels (i + 1)
  channel_flat i li none =
      let z : (channel part.channels i).height ≡ 0 = sym (same_size part.channels regions i sizes li).1 ∙ none in
      no_area i li (ap (λ n. (channel part.channels i).width * n) z ∙ omega arith)

  pub all_done : cells_before part.channels (length regions) ≡ cell_count part.channels
  all_done = ap (cells_before part.channels) (sym (same_count part.channels regions sizes)) ∙ ap cell_count (take-length part.channels)

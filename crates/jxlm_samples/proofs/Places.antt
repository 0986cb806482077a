-- Where the cells of a part are.
use Rattle.std.proofs.Common.{◌≡◌, ℕ, zero, suc, ◌+◌, ◌-◌, ◌*◌, ◌<◌, ◌≤◌, List, [], ◌∷◌, ◌++◌, length, take, drop, refl, sym, ap, ◌∙◌, arith, ℤ}
use Rattle.std.proofs.Math.Seq.{drop-append-add}
use Rattle.std.proofs.lemmas.Bool.{lt-ltb, le-ltb}
use Rattle.std.proofs.lemmas.List.{take-take, take_all, take_at, take-append-le, drop-take, length-take-le, length-append}
use Rattle.std.proofs.lemmas.List.Sums.{sum_by-cons}
use Rattle.jxlm_base.specs.Grid.{Grid}
use Rattle.jxlm_transform.specs.Channels.{AreGridsOf, Channel, area}
use Rattle.jxlm_samples.specs.Part.{channel, channel_of, cells_before, samples_of, cells_of, grid, EachSeesBefore}

pub before_suc : (c : Channel) (cs : List Channel) (i : ℕ) → cells_before (c ∷ cs) (suc i) ≡ area c + cells_before cs i
before_suc c cs i = sum_by-cons area c (take i cs)

-- what comes from channel i on: its grid's cells, and more
pub record Split (channels : List Channel) (grids : List (Grid ℤ)) (i : ℕ) : Type 0 where
  pub rest : List ℤ
  pub from : drop (cells_before channels i) (cells_of grids) ≡ (grid grids i).cells ++ rest
  pub long : length (grid grids i).cells ≡ area (channel channels i)
  pub wide : (channel channels i).width ≡ (grid grids i).width
  pub high : (channel channels i).height ≡ (grid grids i).height
  pub all : cells_before channels i + area (channel channels i) ≤ length (cells_of grids)

full : (c : Channel) (g : Grid ℤ) → g.width ≡ c.width → g.height ≡ c.height → length g.cells ≡ g.width * g.height → length g.cells ≡ area c
full c g w h e = e ∙ rw (w, h) refl

pub split : (channels : List Channel) (grids : List (Grid ℤ)) (i : ℕ) → AreGridsOf channels grids → i < length channels → Split channels grids i
split [] grids i fit l = absurd (omega arith)
split (c ∷ cs) [] i fit l = absurd fit
split (c ∷ cs) (g ∷ gs) zero fit l =
    let whole = full c g fit.0.same_width fit.0.same_height fit.0.full in
    record {
      rest = cells_of gs;
      from = refl;
      long = whole;
      wide = sym fit.0.same_width;
      high = sym fit.0.same_height;
      all = omega (arith, whole, length-append g.cells (cells_of gs));
    }
split (c ∷ cs) (g ∷ gs) (suc i) fit l =
    let whole = full c g fit.0.same_width fit.0.same_height fit.0.full in
    let s = split cs gs i fit.1 (omega arith) in
    let start : cells_before (c ∷ cs) (suc i) ≡ length g.cells + cells_before cs i = omega (arith, before_suc c cs i, whole) in
    let after_it = s.all in
    record {
      rest = s.rest;
      from = rw start (drop-append-add g.cells (cells_of gs) (cells_before cs i) ∙ s.from);
      long = s.long;
      wide = s.wide;
      high = s.high;
      all = omega (arith, start, after_it, length-append g.cells (cells_of gs));
    }

channel_at : (channels : List Channel) (i j : ℕ) → i < length channels → j < area (channel channels i) → channel_of channels (cells_before channels i + j) ≡ i
channel_at [] i j l h = absurd (omega arith)
channel_at (c ∷ cs) zero j l h =
    let z : cells_before (c ∷ cs) zero + j ≡ j = omega arith in
    rw (z, lt-ltb j (area c) h) refl
channel_at (c ∷ cs) (suc i) j l h =
    let b = cells_before cs i in
    let e : area c + b + j - area c ≡ b + j = omega arith in
    rw (before_suc c cs i, le-ltb (area c + b + j) (area c) (omega arith), e) (ap suc (channel_at cs i j (omega arith) h))

-- an earlier channel ends before a later one starts
in_order : (channels : List Channel) (e i : ℕ) → e < i → i < length channels → cells_before channels e + area (channel channels e) ≤ cells_before channels i
in_order [] e i l h = absurd (omega arith)
in_order (c ∷ cs) e zero l h = absurd (omega arith)
in_order (c ∷ cs) zero (suc i) l h = omega (arith, before_suc c cs i)
in_order (c ∷ cs) (suc e) (suc i) l h = let o = in_order cs e i (omega arith) (omega arith) in omega (arith, o, before_suc c cs i, before_suc c cs e)

-- the cells of a channel that ends before k
whole_samples : (channels : List Channel) (grids : List (Grid ℤ)) (e k : ℕ) → Split channels grids e → cells_before channels e + area (channel channels e) ≤ k →
    samples_of channels (take k (cells_of grids)) e ≡ (grid grids e).cells
whole_samples channels grids e k s l =
    let b = cells_before channels e in
    let n = area (channel channels e) in
    let more : k ≡ b + (k - b) = omega (arith, l) in
    let room : n ≤ k - b = omega (arith, l) in
    let cut : drop b (take k (cells_of grids)) ≡ take (k - b) (drop b (cells_of grids)) = ap (λ m. drop b (take m (cells_of grids))) more ∙ drop-take b (k - b) (cells_of grids) in
    ap (take n) cut ∙ take-take n (k - b) (drop b (cells_of grids)) room ∙ ap (take n) s.from ∙ take_at (grid grids e).cells s.rest n s.long

-- the first j cells of a channel
first_samples : (channels : List Channel) (grids : List (Grid ℤ)) (i j : ℕ) → Split channels grids i → j < area (channel channels i) →
    samples_of channels (take (cells_before channels i + j) (cells_of grids)) i ≡ take j (grid grids i).cells
first_samples channels grids i j s l =
    let b = cells_before channels i in
    let n = area (channel channels i) in
    let long = s.long in
    let short : j ≤ length (grid grids i).cells = omega (arith, l, long) in
    let all_of : length (take j (grid grids i).cells) ≤ n = omega (arith, l, length-take-le j (grid grids i).cells short) in
    ap (take n) (drop-take b j (cells_of grids) ∙ ap (take j) s.from ∙ take-append-le j (grid grids i).cells s.rest short) ∙ take_all n (take j (grid grids i).cells) all_of

pub each_sees_before : EachSeesBefore
each_sees_before channels grids i j fit l h =
    let b = cells_before channels i in
    let s = split channels grids i fit l in
    let all = s.all in
    let count : length (take (b + j) (cells_of grids)) ≡ b + j = length-take-le (b + j) (cells_of grids) (omega (arith, all, h)) in
    record {
      is_prefix = refl;
      stands = ap (channel_of channels) count ∙ channel_at channels i j l h;
      own = first_samples channels grids i j s h;
      earlier = λ e before.
          let t = split channels grids e fit (omega (arith, before, l)) in
          let o = in_order channels e i before l in
          rw (whole_samples channels grids e (b + j) t (omega (arith, o)), t.wide, t.high) refl;
    }

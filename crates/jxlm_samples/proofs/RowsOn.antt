-- From a row that was read and written to the part that was decoded further.
use Rattle.std.proofs.Common.{◌≡◌, ℕ, suc, ◌+◌, ◌*◌, ◌<◌, ◌≤◌, List, ◌++◌, length, take, drop, map, Ok, Err, sym, ap, ◌∙◌, subst, arith, ℤ}
use Rattle.std.specs.Prelude.{slice_set, Result}
use Rattle.std.specs.Int.{Width}
use Rattle.std.proofs.lemmas.List.{drop-drop, length-append, length-map, length-take-le, take-map, take-take, take_all, take_at}
use Rattle.jxlm_bits.specs.Bits.{bytes_of, position_of}
use Rattle.jxlm_bits.specs.Decoding.{Meaning}
use Rattle.jxlm_base.specs.Grid.{Grid, with_row}
use Rattle.jxlm_base.specs.Outside.{SetsRow}
use Rattle.jxlm_base.specs.Regions.{region, store_meanings}
use Rattle.jxlm_bits.specs.declared.decoder.DecoderError.{DecoderError}
use Rattle.jxlm_base.specs.declared.subgrid.Region.{Region}
use Rattle.jxlm_samples.specs.Coded.{part_rule}
use Rattle.jxlm_samples.specs.Part.{Part, cells_of, channel}
use Rattle.jxlm_samples.specs.Progress.{grids_in}
use Rattle.jxlm_samples.specs.Inner.Progress.{GoesOn, Reached, Stops, TakesSteps, WalkGives, moment, preceding_cells, place_of}
use Rattle.jxlm_samples.specs.Inner.Rows.{IsDecoding, RowGives, SetsRead, first_columns, rule_after, rule_on}
use Rattle.jxlm_samples.specs.Reading.{cost_of, part_of, regions_of}
use Rattle.jxlm_samples.specs.Rule.{Rule, CodedPrefix}
use Rattle.jxlm_samples.specs.declared.coding.PartCoding.{PartCoding}
use Rattle.jxlm_samples.specs.declared.rows.Line.{Line}
use Rattle.jxlm_samples.specs.declared.rows.RowError.{RowError}
use Rattle.jxlm_samples.specs.declared.source.Source.{Source}
use Rattle.jxlm_samples.proofs.Loops.{all_cells, grid_in, row_done, same_count, same_size, takes_some}
use Rattle.jxlm_samples.proofs.Prefixes.{prefix_after, prefix_same}
use Rattle.jxlm_samples.proofs.RowWrites.{cells_written, drop_written, first_cells, fits_written, row_grids, row_keeps, row_within, with_row_of}
use Rattle.jxlm_samples.specs.Lines.{region_on}

module _ {S : Type 0} (d : Meaning S) (w : Width) (part : Part) (bytes : List ℕ) where
  module _ (decoder : S) (p0 : ℕ) (old : List (Grid ℤ)) (i y : ℕ) (now : List (Grid ℤ)) (l : i < length part.channels) (qy : y < (channel part.channels i).height) (row : List ℤ)
      (narrow : length row ≤ (channel part.channels i).width) (s : S) (q : ℕ) (r : Reached d w part bytes decoder p0 old (place_of part i 0 y) now s q) where
    abbrev here : ℕ
    here = place_of part i 0 y

    abbrev before : List ℤ
    before = take here (cells_of now)

    abbrev on : ℕ → List ℤ → S → ℕ → Type 0
    on k cells t u = CodedPrefix (part_rule d w part bytes) cells r.coded.start.value r.coded.start.position k t u

    within : here + length row ≤ length (cells_of now)
    within = let m = row_within part.channels now i y r.fits l qy in omega (arith, m, narrow)

    count : length before ≡ here
    count = length-take-le here (cells_of now) (omega (arith, within))

    -- the first cells of a row were read after what was reached
    pub reached_row : (t : S) (u : ℕ) → CodedPrefix (rule_after (part_rule d w part bytes) before) row s q (length row) t u → Reached d w part bytes decoder p0 old (here + length row) (with_row_of now i y row) t u
    reached_row t u h =
        let rule = part_rule d w part bytes in
        let start = r.coded.start in
        let all : take (here + length row) (before ++ row) ≡ before ++ row = take_all (here + length row) (before ++ row) (omega (arith, length-append before row, count)) in
        let first : on (length before) (before ++ row) s q =
        subst (λ k. on k (before ++ row) s q) (sym count) (prefix_same rule start.value start.position (cells_of now) (before ++ row) here s q (sym (take_at before row here count)) r.coded.joined) in
        let read : on (here + length row) (before ++ row) t u = subst (λ k. on (k + length row) (before ++ row) t u) count (prefix_after rule start.value start.position before row s q first (length row) t u h) in
        record {
          coded = record {
            start = start;
            begins = r.coded.begins;
            joined = prefix_same rule start.value start.position (before ++ row) (cells_of (with_row_of now i y row)) (here + length row) t u
                (all ∙ sym (first_cells part.channels now i y row r.fits l qy narrow)) read;
          };
          rest = ap (drop (here + length row)) (cells_written part.channels now i y row r.fits l qy narrow) ∙ drop_written (cells_of now) here row within
              ∙ sym (drop-drop (length row) here (cells_of now)) ∙ ap (drop (length row)) r.rest ∙ drop-drop (length row) here (cells_of old);
          fits = fits_written part.channels now i y row r.fits qy narrow;
        }

-- ---- a row that was read is written

module _ {D X : Type 0} (l : Line X D) (d : Meaning D) (w : Width) (to_int : X → ℤ) (here : IsDecoding l.coding.now l.i l.store.now) (below : l.y < (region_on l).height) (new : List (Grid X)) (old : Source D) where
  abbrev c : PartCoding D
  c = l.coding.now

  abbrev part : Part
  part = part_of c

  abbrev reg : Region
  reg = region_on l

  abbrev rule : Rule D
  rule = rule_on l d to_int w (bytes_of old.bits)

  abbrev grids_of : List (Grid X) → List (Grid ℤ)
  grids_of store = grids_in (regions_of c) (store_meanings to_int store)

  abbrev from : ℕ
  from = place_of part l.i 0 l.y

  there : l.i < length part.channels
  there = let count = same_count part.channels (regions_of c) here.part.coding.sizes in let li = here.channel in omega (arith, count, li)

  sizes : (reg.width ≡ (channel part.channels l.i).width) × (reg.height ≡ (channel part.channels l.i).height)
  sizes = same_size part.channels (regions_of c) l.i here.part.coding.sizes here.channel

  row_there : l.y < (channel part.channels l.i).height
  row_there = subst (λ n. l.y < n) sizes.1 below

  -- the first n cells of the row were read and written
  module _ (vs : List X) (n : ℕ) (long : length vs ≡ n) (narrow : n ≤ reg.width) (sets : SetsRow (first_columns reg n) l.y vs l.store.now new) (t : D) (q : ℕ)
      (reads : CodedPrefix rule (map to_int vs) old.decoder (position_of old.bits) n t q) where
    abbrev R : List ℤ
    R = map to_int vs

    long_row : length R ≡ n
    long_row = length-map vs to_int ∙ long

    width_there : length R ≤ (channel part.channels l.i).width
    width_there = let same = sizes.0 in omega (arith, narrow, long_row, same)

    at : from + length R ≡ place_of part l.i n l.y
    at = omega (arith, long_row)

    grids_are : grids_of new ≡ with_row_of (grids_of l.store.now) l.i l.y R
    grids_are =
        row_grids to_int l.store.now new l.y n vs long (regions_of c) l.i (region 0 0 0 0 0) here.part.apart here.part.lie here.channel below narrow sets
        ∙ ap (λ g. slice_set (grids_of l.store.now) l.i (with_row g l.y R)) (sym (grid_in (store_meanings to_int l.store.now) (regions_of c) l.i here.channel))

    row_goes_on : GoesOn d w part (bytes_of old.bits) (regions_of c) from (place_of part l.i n l.y) (store_meanings to_int l.store.now) old.decoder (position_of old.bits) (store_meanings to_int new) t q
    row_goes_on decoder p0 before r =
        subst (λ k. Reached d w part (bytes_of old.bits) decoder p0 before k (grids_of new) t q) at
        (subst (λ gs. Reached d w part (bytes_of old.bits) decoder p0 before (from + length R) gs t q) (sym grids_are)
        (reached_row d w part (bytes_of old.bits) decoder p0 before l.i l.y (grids_of l.store.now) there row_there R width_there old.decoder (position_of old.bits) r t q
        (subst (λ k. CodedPrefix rule R old.decoder (position_of old.bits) k t q) (sym long_row) reads)))

    -- and the read of the next one returned an error
    row_stops : (after : ℕ) (e : DecoderError) → n < reg.width → after ≤ old.steps + suc n * cost_of c → rule.read R t q ≡ Err e →
        Stops d w part (bytes_of old.bits) (regions_of c) (cost_of c) old.steps after from (store_meanings to_int l.store.now) old.decoder (position_of old.bits) (store_meanings to_int new) q e
    row_stops after e short few error decoder p0 before r =
        let reached = row_goes_on decoder p0 before r in
        let next : from + suc n ≡ suc (place_of part l.i n l.y) = omega arith in
        let room = row_within part.channels (grids_of new) l.i l.y reached.fits there row_there in
        let in_row : n < (channel part.channels l.i).width = subst (λ k. n < k) sizes.0 short in
        let same : take (place_of part l.i n l.y) (cells_of (grids_of new)) ≡ preceding_cells part (grids_of l.store.now) l.i 0 l.y ++ R =
        ap (λ k. take k (cells_of (grids_of new))) (sym at) ∙ ap (λ gs. take (from + length R) (cells_of gs)) grids_are
        ∙ first_cells part.channels (grids_of l.store.now) l.i l.y R r.fits there row_there width_there in (
          record {
            count = place_of part l.i n l.y;
            state = t;
            within = subst (λ k. place_of part l.i n l.y < k) (all_cells part.channels (grids_of new) reached.fits) (omega (arith, room, in_row));
            reached = reached;
            error = ap (λ cs. (part_rule d w part (bytes_of old.bits)).read cs t q) same ∙ error;
          },
          subst (λ k. TakesSteps (cost_of c) from k old.steps after) next (takes_some (cost_of c) from (suc n) old.steps after few),
        )

  -- so it is where all were read, and where the read of one returned an error
  pub row_written : (row : List X) (now : Source D) (read : Result (Unit {0}) RowError) (result : Result (Unit {0}) DecoderError) → length row ≡ reg.width → SetsRead reg l.y row read l.store.now new result →
      RowGives l d to_int w row old now read → WalkGives c d w to_int from (place_of part l.i 0 (l.y + 1)) result (moment old l.store.now) (moment now new)
  row_written row now (Ok u) result long sets h =
      let wide : length (map to_int row) ≡ reg.width = length-map row to_int ∙ long in
      let ends = row_done part (regions_of c) here.part.coding.sizes l.i l.y here.channel in
      rw (sets.1, ← ends) (record {
        goes = row_goes_on row reg.width long (omega arith) sets.0 now.decoder (position_of now.bits) (rw wide at h.reads);
        work = (let few : now.steps ≤ old.steps + reg.width * cost_of c = rw wide at h.work in let n : from + reg.width ≡ place_of part l.i reg.width l.y = omega arith in subst (λ k. TakesSteps (cost_of c) from k old.steps now.steps) n (takes_some (cost_of c) from reg.width old.steps now.steps few));
        more = h.more;
        keeps = row_keeps to_int l.store.now new l.y reg.width row long (regions_of c) l.i (region 0 0 0 0 0) here.part.lie here.channel below (omega arith) sets.0;
        clusters = h.clusters;
        bytes = h.bytes;
      })
  row_written row now (Err e) result long sets h =
      let R : List ℤ = map to_int row in
      let m = length-map row to_int in
      let in_row = h.inside in
      let inside : e.column < reg.width = omega (arith, in_row, m, long) in
      let count : length (take e.column row) ≡ e.column = length-take-le e.column row (omega (arith, inside, long)) in
      let is : take e.column R ≡ map to_int (take e.column row) = take-map to_int e.column row in
      let same : take e.column R ≡ take e.column (map to_int (take e.column row)) = sym (take-take e.column e.column R (omega arith)) ∙ ap (take e.column) is in
      let next : e.column + 1 ≡ suc e.column = omega arith in
      rw sets.1 (record {
        stops = row_stops (take e.column row) e.column count (omega (arith, inside)) sets.0 h.state (position_of now.bits)
            (prefix_same rule old.decoder (position_of old.bits) R (map to_int (take e.column row)) e.column h.state (position_of now.bits) same h.reads) now.steps e.error inside (rw next at h.work) (rw is at h.error);
        more = h.more;
        keeps = row_keeps to_int l.store.now new l.y e.column (take e.column row) count (regions_of c) l.i (region 0 0 0 0 0) here.part.lie here.channel below (omega (arith, inside)) sets.0;
        memory = h.memory;
        bytes = h.bytes;
      })

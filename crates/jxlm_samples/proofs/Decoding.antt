-- What the loops over rows and channels promise one another: a row more, a channel more.
use Rattle.std.proofs.Common.{◌≡◌, ℕ, suc, ◌+◌, ◌*◌, ◌<◌, List, [], length, Ok, Err, refl, sym, ◌∙◌, subst, arith, ℤ}
use Rattle.std.specs.Prelude.{Option, Result, OnOk, IfErr}
use Rattle.std.specs.Int.{Width}
use Rattle.std.proofs.lemmas.List.{length-map}
use Rattle.jxlm_bits.specs.Decoding.{Meaning}
use Rattle.jxlm_base.specs.Grid.{Grid}
use Rattle.jxlm_bits.specs.declared.decoder.DecoderError.{DecoderError}
use Rattle.jxlm_base.proofs.Outside.{all_lie_still, keeps_all, keeps_both}
use Rattle.jxlm_predictor.specs.declared.state.PredictorState.{PredictorState}
use Rattle.jxlm_ma_tree.specs.declared.leaf.Leaf.{Leaf}
use Rattle.jxlm_samples.specs.ChannelSettings.{StandsAfter, region_at}
use Rattle.jxlm_samples.specs.Inner.Levels.{IsAtRow, IsOnPath, IsReady}
use Rattle.jxlm_samples.specs.Inner.Progress.{DecodesCells, FailsInCells, Moment, WalkGives}
use Rattle.jxlm_samples.specs.Inner.Rows.{IsDecodingPart, IsLine, RowGives, SetsRead, StandsInRow}
use Rattle.jxlm_samples.specs.declared.source.Source.{Source}
use Rattle.jxlm_samples.specs.Part.{clamps}
use Rattle.jxlm_samples.specs.Reading.{FindsClusters, HasRoom, cost_of, part_of, regions_of}
use Rattle.jxlm_samples.specs.declared.coding.PartCoding.{PartCoding}
use Rattle.jxlm_samples.specs.declared.rows.Line.{Line}
use Rattle.jxlm_samples.specs.declared.rows.RowError.{RowError}
use Rattle.jxlm_samples.specs.declared.source.Walk.{Walk}
use Rattle.jxlm_samples.proofs.CellLaws.{begins_row}
use Rattle.jxlm_samples.proofs.Loops.{takes_further}
use Rattle.jxlm_samples.proofs.RowSees.{stands_below}
use Rattle.jxlm_samples.proofs.RowsOn.{row_written}
use Rattle.jxlm_samples.specs.Lines.{region_on}

-- ---- one after another

module _ {D X : Type 0} {c : PartCoding D} {d : Meaning D} {w : Width} {to_int : X → ℤ} where
  pub none_decoded : (from to : ℕ) (m : Moment D X) → from ≡ to → DecodesCells c d w to_int from to m m
  none_decoded from to m same = subst (λ n. DecodesCells c d w to_int from n m m) same (record {
    goes = λ decoder p before r. r;
    work = omega arith;
    more = omega arith;
    keeps = keeps_all (regions_of c) m.store;
    clusters = refl;
    bytes = refl;
  })

  module _ {from middle : ℕ} {old now new : Moment D X} (first : DecodesCells c d w to_int from middle old now) where
    pub decodes_on : {to : ℕ} → DecodesCells c d w to_int middle to now new → DecodesCells c d w to_int from to old new
    decodes_on {to} next = record {
      goes = λ decoder p before r. (simp first.bytes at next.goes) decoder p before (first.goes decoder p before r);
      work = takes_further (cost_of c) from middle to old.source.steps now.source.steps new.source.steps first.work next.work;
      more = let a = first.more in let b = next.more in omega (arith, a, b);
      keeps = keeps_both (regions_of c) old.store now.store new.store first.keeps next.keeps;
      clusters = next.clusters ∙ first.clusters;
      bytes = next.bytes ∙ first.bytes;
    }

    pub fails_on : {e : DecoderError} → FailsInCells c d w to_int middle now new e → FailsInCells c d w to_int from old new e
    fails_on next = record {
      stops = λ decoder p before r.
          let last = (simp first.bytes at next.stops) decoder p before (first.goes decoder p before r) in
          (last.0, takes_further (cost_of c) from middle (suc last.0.count) old.source.steps now.source.steps new.source.steps first.work last.1);
      more = let a = first.more in let b = next.more in omega (arith, a, b);
      keeps = keeps_both (regions_of c) old.store now.store new.store first.keeps next.keeps;
      memory = next.memory;
      bytes = next.bytes ∙ first.bytes;
    }

  -- what holds while a part is decoded holds afterwards
  module _ {from to : ℕ} {old new : Moment D X} (first : DecodesCells c d w to_int from to old new) where
    pub still_part : IsDecodingPart c old.store → IsDecodingPart c new.store
    still_part h = record { coding = h.coding; lie = all_lie_still (regions_of c) (regions_of c) old.store new.store first.keeps h.lie; apart = h.apart }

    pub still_ready : FindsClusters c (d.cluster_map old.source.decoder) → (state : PredictorState X) → HasRoom c state → IsReady d c (record { source = new.source; state = state })
    still_ready found state room = record { clusters = subst (FindsClusters c) (sym first.clusters) found; roomy = room }

-- the same, where the numbers are others but equal
pub walks_between : {D X : Type 0} (c : PartCoding D) (d : Meaning D) (w : Width) (to_int : X → ℤ) (from to a b : ℕ) (result : Result (Unit {0}) DecoderError) (old new : Moment D X) → from ≡ a → to ≡ b →
    WalkGives c d w to_int from to result old new → WalkGives c d w to_int a b result old new
walks_between c d w to_int from to a b result old new from_is to_is h =
    subst (λ n. WalkGives c d w to_int n b result old new) from_is (subst (λ n. WalkGives c d w to_int from n result old new) to_is h)

-- ---- a row

module _ {D X : Type 0} (l : Line X D) (d : Meaning D) (w : Width) (to_int : X → ℤ) (row : List X) (long : length row ≡ (region_on l).width) where
  -- the read that returned an error was of a cell of the row
  pub error_inside : (old now : Source D) (read : Result (Unit {0}) RowError) → RowGives l d to_int w row old now read → IfErr read (λ r. r.column < length row)
  error_inside old now (Ok u) gives = tt
  error_inside old now (Err e) gives = let inside = gives.inside in let m = length-map row to_int in omega (arith, m, inside)

  -- once the row is written, the walk is before the next one
  module _ (new : List (Grid X)) (only : Option Leaf) (old now : Walk X D) (at : IsAtRow d l.coding.now old to_int l.store.now l.path only l.i l.y) (below : l.y < (region_on l).height) where
    pub row_below : (read : Result (Unit {0}) RowError) (result : Result (Unit {0}) DecoderError) → SetsRead (region_on l) l.y row read l.store.now new result →
        RowGives l d to_int w row old.source now.source read → OnOk read (IsOnPath l to_int row only now) → OnOk result (IsAtRow d l.coding.now now to_int new l.path only l.i (l.y + 1))
    row_below (Err e) result sets gives on = rw sets.1 tt
    row_below (Ok u) result sets gives on =
        let here = at.here in
        let goes = row_written l d w to_int here below new old.source row now.source (Ok u) (Ok tt) long (sets.0, refl) gives in
        rw sets.1 (record {
          here = record { part = still_part goes here.part; channel = here.channel; columns = here.columns };
          gives = at.gives;
          allows = at.allows;
          steps = at.steps;
          ready = still_ready goes at.ready.clusters now.state on.roomy;
          within = on.within;
          leads = at.leads;
          stands = λ walked none. begins_row l.coding.now l.i to_int new (l.y + 1) now.state (stands_below l.coding.now l.i l.y to_int l.store.now new row now.state here.part.lie here.channel below long sets.0 (on.stands walked none));
        })

-- ---- a channel

-- once it is started, the state is at its first row
pub at_first_row : {D X : Type 0} (c : PartCoding D) (i : ℕ) (to_int : X → ℤ) (store : List (Grid X)) (state : PredictorState X) → StandsAfter c to_int store i 0 state → StandsInRow c to_int store i 0 [] state
at_first_row c i to_int store state stands =
    let none : 0 ≡ 0 * (region_at (regions_of c) i).width = omega arith in
    begins_row c i to_int store 0 state (subst (λ n. StandsAfter c to_int store i n state) none stands)

-- ---- before a row is read

module _ {D X : Type 0} (l : Line X D) (d : Meaning D) (to_int : X → ℤ) where
  pub is_line : {only : Option Leaf} (walk : Walk X D) → IsAtRow d l.coding.now walk to_int l.store.now l.path only l.i l.y → l.y < (region_on l).height → l.clamped ≡ clamps (part_of l.coding.now) l.i → IsLine l
  is_line walk at below clamped = record { here = at.here; below = below; gives = at.gives; allows = at.allows; steps = at.steps; clamped = clamped }

use Rattle.std.proofs.Common.{◌≡◌, ◌+◌, ◌-◌, ◌∙◌, refl, sym, ap, inl, inr, arith, rules, length, replicate, slice_index, slice_index_or, slice_set}
use Rattle.std.proofs.lemmas.List.{length-set}
use Rattle.jxl_coding_codes.proofs.CodewordReads.{up_to}
use Rattle.jxl_coding_codes.proofs.SortedSymbols.{all, all_many, blocks_long, blocks_skip, blocks_step, counts_skip, counts_step, few_symbols, none, places_none, total}
use Rattle.jxl_coding_codes.proofs.lengths.sorted_symbols.Goals as goal
use Rattle.jxl_coding_codes.proofs.lengths.sorted_symbols.Goals.{then-l-gt0+then-l-le15, else-l-gt0, else-l-gt0-via-then-l-gt0+else-l-le15, else-l-gt0-via-else-l-gt0}

pub starts_of-places-requires : goal.starts_of-places-requires
starts_of-places-requires c =
    let few = few_symbols c.args.lengths.now c.requires.few in
    rw c.requires.counts (omega (arith, total c.args.lengths.now, few))

pub overflow_add-many : goal.overflow_add-many
overflow_add-many c =
    let starts = rw c.requires.counts at c.starts_of-places.ensures.starts in
    let few = few_symbols c.args.lengths.now c.requires.few in
    rw c.requires.counts (omega (arith, all_many c.args.lengths.now c.starts_of-places.result starts, few))

pub loop-symbol-init : goal.loop-symbol-init
loop-symbol-init c =
    let starts = rw c.requires.counts at c.starts_of-places.ensures.starts in
    let many : slice_index_or c.starts_of-places.result 14 0 + slice_index_or c.args.counts.now 14 0 ≡ up_to c.args.lengths.now 15 = rw c.requires.counts (all_many c.args.lengths.now c.starts_of-places.result starts) in
    let zeros : c.in_ok-symbols.symbols.items ≡ replicate (slice_index_or c.starts_of-places.result 14 0 + slice_index_or c.args.counts.now 14 0) 0 = search rules in
    record {
      symbols = zeros ∙ rw many (sym (none c.args.lengths.now 15));
      long = c.starts_of-places.ensures.many;
      places = places_none c.args.lengths.now c.starts_of-places.result starts;
    }

pub index_mut-requires : goal.index_mut-requires
index_mut-requires c =
    let v = slice_index_or c.args.lengths.now c.loop-symbol.symbol 0 in
    let step = blocks_step c.args.lengths.now c.loop-symbol.places c.loop-symbol.symbol v c.loop-symbol-test.true refl c.if-l-gt0.true c.if-l-le15.true c.loop-symbol.invariant.places in
    let long = blocks_long c.args.lengths.now c.loop-symbol.symbol 15 (omega (arith, c.loop-symbol-test.true)) in
    let items = ap length c.loop-symbol.invariant.symbols in
    omega (arith, step.0, long, items, c.loop-symbol.symbols.ok.0)

pub overflow_add-places : goal.overflow_add-places
overflow_add-places c =
    let v = slice_index_or c.args.lengths.now c.loop-symbol.symbol 0 in
    let step = blocks_step c.args.lengths.now c.loop-symbol.places c.loop-symbol.symbol v c.loop-symbol-test.true refl c.if-l-gt0.true c.if-l-le15.true c.loop-symbol.invariant.places in
    let few = few_symbols c.args.lengths.now c.requires.few in
    omega (arith, step.0, few)

pub loop-symbol-preserved : goal.loop-symbol-preserved
loop-symbol-preserved c =
    let n = c.loop-symbol.symbol in
    let v = slice_index_or c.args.lengths.now n 0 in
    let before = c.loop-symbol.invariant in
    elim c.if-l-gt0.branch [
      | then-l-gt0+then-l-le15 w ↦
          let step = blocks_step c.args.lengths.now c.loop-symbol.places n v c.loop-symbol-test.true refl w.if-l-gt0.true w.if-l-le15.true before.places in
          let put : c.if-l-gt0.symbols.items ≡ slice_set c.loop-symbol.symbols.items (slice_index c.loop-symbol.places (v - 1)) n = search rules in
          record {
            symbols = put ∙ rw before.symbols step.1;
            long = rw w.places-is (length-set c.loop-symbol.places (v - 1) (slice_index c.loop-symbol.places (v - 1) + 1) ∙ before.long);
            places = rw w.places-is (counts_step c.args.lengths.now (up_to c.args.lengths.now) c.loop-symbol.places n v before.long refl w.if-l-gt0.true w.if-l-le15.true before.places);
          }
      | else-l-gt0 w ↦ elim w.else-l-gt0.branch [
        | else-l-gt0-via-then-l-gt0+else-l-le15 u ↦ record {
          symbols = rw w.symbols-is (before.symbols ∙ sym (blocks_skip c.args.lengths.now n v refl (inr u.if-l-le15.false)));
          long = rw w.places-is before.long;
          places = rw w.places-is (counts_skip c.args.lengths.now (up_to c.args.lengths.now) c.loop-symbol.places n v refl (inr u.if-l-le15.false) before.places);
        }
        | else-l-gt0-via-else-l-gt0 u ↦ record {
          symbols = rw w.symbols-is (before.symbols ∙ sym (blocks_skip c.args.lengths.now n v refl (inl u.if-l-gt0.false)));
          long = rw w.places-is before.long;
          places = rw w.places-is (counts_skip c.args.lengths.now (up_to c.args.lengths.now) c.loop-symbol.places n v refl (inl u.if-l-gt0.false) before.places);
        }
      ]
    ]

pub returns-clause-ok : goal.returns-clause-ok
returns-clause-ok c =
    let end : c.loop-symbol.symbol ≡ length c.args.lengths.now = omega (arith, c.loop-symbol-test.false, c.loop-symbol.auto.symbol-end) in
    let blocks_are = c.loop-symbol.invariant.symbols in
    (rw end at blocks_are) ∙ all c.args.lengths.now 15

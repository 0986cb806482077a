use Rattle.std.proofs.Common.{◌≡◌, [], ◌∷◌, ◌++◌, ◌+◌, ◌<◌, length, take, rules, sym, arith}
use Rattle.std.specs.Prelude.{slice_index}
use Rattle.std.specs.List.{sum}
use Rattle.std.proofs.lemmas.List.{length-append}
use Rattle.std.proofs.lemmas.List.Sums.{sum_by_more}
use Rattle.jxl_codestream.proofs.Entries.{stand_more}
use Rattle.jxl_codestream.specs.Inner.Entries.{entry_at}
use Rattle.jxl_codestream.proofs.toc.as_they_stand.Goals as goal

pub loop-size-preserved : goal.loop-size-preserved
loop-size-preserved c =
    let xs = c.args.sizes.now in
    let i = c.loop-size.size-index in
    let lt : i < length xs = search rules in
    let more : sum (take (i + 1) xs) ≡ sum (take i xs) + slice_index xs i = sum_by_more (λ x. x) xs i 0 lt in
    let size : c.from-offset.result ≡ slice_index xs i = search rules in
    let fits = c.type_inv.sizes i in
    let pushed : c.push.new.self.items ≡ c.loop-size.entries.items ++ entry_at c.args.start xs i ∷ [] = rw (sym c.loop-size.invariant.offset) (search rules) in
    record {
      count = rw pushed (omega (arith, length-append c.loop-size.entries.items (entry_at c.args.start xs i ∷ []), c.loop-size.invariant.count));
      offset = omega (arith, c.loop-size.invariant.offset, more, size);
      small = omega (arith, c.loop-size.invariant.small, more, fits);
      each = λ k d h. rw pushed (stand_more xs c.args.start i c.loop-size.entries.items c.loop-size.invariant.count c.loop-size.invariant.each k d h);
    }

pub returns-clause-entries : goal.returns-clause-entries
returns-clause-entries c = record {
  count = omega (arith, c.loop-size.invariant.count, c.loop-size-test.false);
  each = λ k d h. c.loop-size.invariant.each k d (omega (arith, h, c.loop-size.invariant.count));
}

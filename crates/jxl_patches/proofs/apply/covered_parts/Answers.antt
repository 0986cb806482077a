use Rattle.std.proofs.Common.{◌≡◌, ◌∙◌, ℕ, ◌+◌, ◌<◌, ◌∷◌, ◌++◌, ℤ, List, [], length, length-append, get_or, arith, ap, subst, sym, rules}
use Rattle.std.proofs.lemmas.List.{get_or_default}
use Rattle.jxlm_base.specs.Grid.{Grid, grid}
use Rattle.jxl_patches.specs.Inner.Rows.{IsCovered}
use Rattle.jxl_patches.proofs.Covering.{covered_more}
use Rattle.jxl_patches.proofs.apply.covered_parts.Goals as goal

pub covered-requires-clause-columns : goal.covered-requires-clause-columns
covered-requires-clause-columns c =
    let k = c.loop-channel.channel in
    let lt : k < length c.args.channels.now = omega (arith, c.loop-channel-test.true) in
    let same : c.index-channels-channel.result ≡ get_or c.args.channels.now k (grid 0 0 []) = c.index-channels-channel.is ∙ get_or_default c.args.channels.now k c.index-channels-channel.result (grid 0 0 []) lt in
    rw same (c.requires.columns k lt)

pub covered-requires-clause-in_rows : goal.covered-requires-clause-in_rows
covered-requires-clause-in_rows c =
    let k = c.loop-channel.channel in
    let lt : k < length c.args.channels.now = omega (arith, c.loop-channel-test.true) in
    let same : c.index-channels-channel.result ≡ get_or c.args.channels.now k (grid 0 0 []) = c.index-channels-channel.is ∙ get_or_default c.args.channels.now k c.index-channels-channel.result (grid 0 0 []) lt in
    rw same (c.requires.in_rows k lt)

pub loop-channel-preserved : goal.loop-channel-preserved
loop-channel-preserved c =
    let k = c.loop-channel.channel in
    let parts = c.loop-channel.parts.items in
    let part = c.in_ok-samples.samples in
    let lt : k < length c.args.channels.now = omega (arith, c.loop-channel-test.true) in
    let same : c.index-channels-channel.result ≡ get_or c.args.channels.now k (grid 0 0 []) = c.index-channels-channel.is ∙ get_or_default c.args.channels.now k c.index-channels-channel.result (grid 0 0 []) lt in
    let pushed : c.push.new.self.items ≡ parts ++ part ∷ [] = search rules in
    let count : length parts ≡ k = c.loop-channel.invariant.count in
    let here : IsCovered c.args.place (get_or c.args.channels.now k (grid 0 0 [])) part = subst (λ (g : Grid ℤ). IsCovered c.args.place g part) same c.in_ok-samples.ensures in
    let more = covered_more c.args.place c.args.channels.now parts k part count c.loop-channel.invariant.each here in
    record {
      count = omega (arith, ap {B = ℕ} (λ (l : List (Grid ℤ)). length l) pushed, length-append parts (part ∷ []), count);
      each = subst (λ (l : List (Grid ℤ)). (n : ℕ) → n < k + 1 → IsCovered c.args.place (get_or c.args.channels.now n (grid 0 0 [])) (get_or l n (grid 0 0 []))) (sym pushed) more;
    }

pub returns : goal.returns
returns c = record { count = omega (arith, c.loop-channel.invariant.count, c.loop-channel-test.false); each = λ k lt. c.loop-channel.invariant.each k (omega (arith, lt, c.loop-channel-test.false)) }

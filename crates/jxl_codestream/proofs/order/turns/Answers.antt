use Rattle.std.proofs.Common.{◌≡◌, ℕ, [], ◌∷◌, ◌++◌, ◌+◌, ◌^◌, ◌<◌, length, rules, ◌∙◌, arith}
use Rattle.std.specs.Prelude.{slice_index_or}
use Rattle.std.proofs.lemmas.List.{length-append}
use Rattle.jxl_codestream.specs.Inner.Free.{IsNext}
use Rattle.jxl_codestream.proofs.Bijections.{begun_more, begun_whole, digit_fits, digit_leads, leads_below}
use Rattle.jxl_codestream.proofs.order.turns.Goals as goal

pub loop-i-preserved : goal.loop-i-preserved
loop-i-preserved c =
    let order = c.loop-i.order.items in
    let v = c.find-number.result in
    let i = c.loop-i.i in
    let n = c.args.count in
    let lt : i < n = search rules in
    let digit : ℕ = slice_index_or c.args.code.now (length order) 0 in
    let asked : c.digit_at.result ≡ slice_index_or c.args.code.now (length order) 0 = rw c.loop-i.invariant.so_many c.digit_at.ensures in
    let valid : slice_index_or c.args.code.now (length order) 0 + length order < n = digit_fits c.args.code.now n (length order) c.requires.digits (omega (arith, lt, c.loop-i.invariant.so_many)) in
    let leads = digit_leads c.args.code.now n order c.loop-i.invariant.begun (2 ^ c.args.levels) digit c.requires.enough valid in
    let next : IsNext (2 ^ c.args.levels) order digit v = rw asked at (c.find-number.ensures.found order c.loop-i.invariant.counted (rw asked leads)) in
    let below = leads_below c.args.code.now n order c.loop-i.invariant.begun (2 ^ c.args.levels) digit v valid next in
    let pushed : c.push.new.self.items ≡ order ++ v ∷ [] = search rules in
    record {
      nodes = c.take.ensures.nodes ∙ c.loop-i.invariant.nodes;
      counted = rw pushed (c.take.ensures.counted order c.loop-i.invariant.counted next.free);
      so_many = rw pushed (omega (arith, length-append order (v ∷ []), c.loop-i.invariant.so_many));
      begun = rw pushed (begun_more c.args.code.now n order c.loop-i.invariant.begun v below);
    }

pub returns-clause-order : goal.returns-clause-order
returns-clause-order c =
    let i = c.loop-i.i in
    let end : i ≡ c.args.count = search rules in
    begun_whole c.args.code.now c.args.count c.loop-i.order.items (c.loop-i.invariant.so_many ∙ end) c.loop-i.invariant.begun

use Rattle.std.proofs.Common.{◌≡◌, ℕ, suc, [], ◌∷◌, ◌++◌, ◌+◌, ◌*◌, ◌/◌, ◌%◌, ◌^◌, ◌<◌, ◌≤◌, length, rules, refl, ap, ◌∙◌, arith}
use Rattle.std.specs.Prelude.{slice_index}
use Rattle.std.proofs.Math.Nat.{mod-eq_of_lt, pow-le-pow_right}
use Rattle.std.proofs.lemmas.List.{length-append}
use Rattle.jxl_codestream.proofs.Counted.{two_free, one_free, all_counted}
use Rattle.std.proofs.lemmas.Grind.{get_or_default_zero}
use Rattle.jxl_codestream.proofs.order.all_free.Goals as goal

pub loop-k-init : goal.loop-k-init
loop-k-init c =
    let items : c.in_ok-counts.counts.items ≡ 2 ^ c.args.levels ∷ 2 ^ c.args.levels ∷ [] = search rules in
    record { nodes = rw items refl; free = rw items (two_free c.args.levels) }

pub loop-k-preserved : goal.loop-k-preserved
loop-k-preserved c =
    let xs = c.loop-k.counts.items in
    let k = c.loop-k.k in
    let within : k / 2 < length xs = omega (arith, c.loop-k.invariant.nodes, c.loop-k.auto.k) in
    let at : c.index.result.now ≡ slice_index xs (k / 2) = c.index.ensures ∙ get_or_default_zero xs (k / 2) c.index.result.now within in
    let raw : c.push.new.self.items ≡ xs ++ (c.index.result.now / 2) ∷ [] = search rules in
    let pushed : c.push.new.self.items ≡ xs ++ (slice_index xs (k / 2) / 2) ∷ [] = raw ∙ ap (λ (n : ℕ). xs ++ (n / 2) ∷ []) at in
    let next : k + 1 ≡ suc k = omega arith in
    record {
      nodes = rw pushed (omega (arith, length-append xs ((slice_index xs (k / 2) / 2) ∷ []), c.loop-k.invariant.nodes));
      free = rw (pushed, next) (one_free xs c.args.levels k c.loop-k.invariant.nodes c.loop-k.auto.k c.loop-k.invariant.free);
    }

pub returns-clause-counted : goal.returns-clause-counted
returns-clause-counted c =
    let small : 2 ^ c.args.levels ≤ 2 ^ 24 = pow-le-pow_right {n = 2} (omega arith) c.requires in
    let same : (2 * 2 ^ c.args.levels) % 18446744073709551616 ≡ 2 * 2 ^ c.args.levels = mod-eq_of_lt (omega (arith, small)) in
    let enough : 2 * 2 ^ c.args.levels ≤ c.loop-k.k = omega (arith, same, c.loop-k-test.false) in
    all_counted c.loop-k.counts.items c.args.levels c.loop-k.k enough c.loop-k.invariant.free

use Rattle.std.proofs.Common.{rules, ◌-◌, refl, ap, ◌∙◌, arith, w32, w64, to_z, of_z, pos, ◌+ℤ◌, SFits}
use Rattle.std.specs.Prelude.{slice_index_or}
use Rattle.std.proofs.lemmas.Int.{ints, to_z-of_z}
use Rattle.jxlm_ma_tree.proofs.Comparing.{less, not_less}
use Rattle.jxlm_ma_tree.proofs.CutLists.{survey-few, survey-is, survey-table, survey-wide}
use Rattle.jxlm_ma_tree.proofs.marks.worth.Goals.{then-len-lt3-via-then-len-lt3, then-len-lt3-via-else-len-lt3+then-from}
use Rattle.jxlm_ma_tree.proofs.marks.worth.Goals as goal

pub returns-then-len-lt3 : goal.returns-then-len-lt3
returns-then-len-lt3 c =
    let first = rw c.in_ok-least.was at c.front.ensures.lookup in
    let last = rw c.in_ok-greatest.was at c.back.ensures.lookup in
    let there = rw c.in_ok-least.was at c.front.ensures.variant in
    let some = there.0 refl in
    let long = c.args.cuts.now.ok.0 in
    let fits_least : SFits w32 c.in_ok-least.field-0.now = search rules in
    let fits_greatest : SFits w32 c.in_ok-greatest.field-0.now = search rules in
    let is = survey-is c.args.cuts.now.items c.in_ok-least.field-0.now c.in_ok-greatest.field-0.now c.requires (omega arith) (omega (arith, ints)) (omega (arith, ints)) first (last ∙ ap (λ n. slice_index_or c.args.cuts.now.items (n - 1) c.in_ok-greatest.field-0.now) long) in
    elim c.then-len-lt3.branch [
      | then-len-lt3-via-then-len-lt3 w ↦ survey-few c.args.cuts.now.items c.len.result _ _ is (c.len.ensures ∙ long) w.if-len-lt3.true
      | then-len-lt3-via-else-len-lt3+then-from w ↦ survey-wide c.args.cuts.now.items _ _ is (let k = less (to_z w64 (of_z w64 (to_z w64 (of_z w64 w.from.result) +ℤ pos 1022))) (to_z w64 (of_z w64 w.from-else-len-lt3.result)) w.if-from.true in let a = w.from.ensures in let b = w.from-else-len-lt3.ensures in omega (arith, ints))
    ]

pub returns : goal.returns
returns c =
    let first = rw c.in_ok-least.was at c.front.ensures.lookup in
    let last = rw c.in_ok-greatest.was at c.back.ensures.lookup in
    let there = rw c.in_ok-least.was at c.front.ensures.variant in
    let some = there.0 refl in
    let long = c.args.cuts.now.ok.0 in
    let fits_least : SFits w32 c.in_ok-least.field-0.now = search rules in
    let fits_greatest : SFits w32 c.in_ok-greatest.field-0.now = search rules in
    let is = survey-is c.args.cuts.now.items c.in_ok-least.field-0.now c.in_ok-greatest.field-0.now c.requires (omega arith) (omega (arith, ints)) (omega (arith, ints)) first (last ∙ ap (λ n. slice_index_or c.args.cuts.now.items (n - 1) c.in_ok-greatest.field-0.now) long) in
    survey-table c.args.cuts.now.items c.len-2.result _ _ _ _ is (c.len-2.ensures ∙ long) (let l = c.len.ensures in let m = c.len-2.ensures in let k = c.if-len-lt3.false in omega arith)
    (let k = not_less (to_z w64 (of_z w64 (to_z w64 (of_z w64 c.from.result) +ℤ pos 1022))) (to_z w64 (of_z w64 c.from-else-len-lt3.result)) c.if-from.false in let a = c.from.ensures in let b = c.from-else-len-lt3.ensures in omega (arith, ints)) (to_z-of_z w32 c.in_ok-least.field-0.now fits_least) (to_z-of_z w32 c.in_ok-greatest.field-0.now fits_greatest)

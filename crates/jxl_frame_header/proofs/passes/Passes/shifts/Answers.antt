use Rattle.std.proofs.Common.{◌≡◌, ◌∙◌, ℕ, ℤ, suc, ◌+◌, map, pos, List, ap, rules, arith}
use Rattle.std.specs.BTreeMap.{insert_entry}
use Rattle.std.specs.List.{range_with_len}
use Rattle.std.specs.Ordering.{nat_cmp}
use Rattle.jxl_frame_header.specs.Passes.{least_shift, passes_of}
use Rattle.jxl_frame_header.proofs.Entries.{entry, filled}
use Rattle.jxl_frame_header.proofs.passes.Passes.shifts.Goals as goal

pub loop-pass-preserved : goal.loop-pass-preserved
loop-pass-preserved c =
    let x = passes_of c.args.self.now in
    let n = c.loop-pass.pass in
    let shifts : ℕ → ℤ × ℤ = λ p. (pos (least_shift x (suc p)), pos (least_shift x p)) in
    let es : List (ℕ × (ℤ × ℤ)) = map (entry shifts) (range_with_len 0 n) in
    let next : suc n ≡ n + 1 = omega arith in
    let put : c.insert.new.self.entries ≡ insert_entry nat_cmp c.loop-pass.held.entries n (pos c.least_shift-first.result, pos c.loop-pass.end) = search rules in
    record {
      held = put ∙ ap (λ (l : List (ℕ × (ℤ × ℤ))). insert_entry nat_cmp l n (pos c.least_shift-first.result, pos c.loop-pass.end)) c.loop-pass.invariant.held
          ∙ ap (λ (m : ℕ). insert_entry nat_cmp es n (pos m, pos c.loop-pass.end)) c.least_shift-first.ensures.is
          ∙ ap (λ (m : ℕ). insert_entry nat_cmp es n (pos (least_shift x (suc n)), pos m)) c.loop-pass.invariant.end
          ∙ filled shifts n;
      end = c.least_shift-first.ensures.is ∙ ap (least_shift x) next;
      small = c.least_shift-first.ensures.small;
    }

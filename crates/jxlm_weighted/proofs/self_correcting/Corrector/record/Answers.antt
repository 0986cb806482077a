use Rattle.std.proofs.Common.{◌≡◌, ℕ, Bool, true, false, not, ◌+◌, ◌<◌, ◌≤◌, [], ◌∷◌, ◌++◌, set, ◌∙◌, sym, arith, ap, length, w32}
use Rattle.std.specs.Prelude.{map, nat_lt}
use Rattle.std.proofs.lemmas.Bool.Decides.{nat_tests}
use Rattle.std.proofs.lemmas.Int.{to_z-of_z}
use Rattle.std.proofs.lemmas.List.{length-map}
use Rattle.jxlm_weighted.specs.Correcting.{KeepsErrors, cell_errors, predicted_by}
use Rattle.jxlm_weighted.specs.SelfCorrecting.{Errors, errors_of, errors_after}
use Rattle.jxlm_weighted.proofs.Correcting.{KeepsErrors_row, KeepsErrors_end, then_is, errors_of-push, length-errors_of, map-set}
use Rattle.jxlm_weighted.proofs.self_correcting.Corrector.record.Goals as goal

is_last_column : (last : Bool) (x width : ℕ) → last ≡ not (nat_lt (x + 1) width) → last ≡ true → width ≤ x + 1
is_last_column last x width e t = grind (arith, nat_tests)

is_no_last_column : (last : Bool) (x width : ℕ) → last ≡ not (nat_lt (x + 1) width) → last ≡ false → x + 1 < width
is_no_last_column last x width e t = grind (arith, nat_tests)

pub returns-then-last-clause-next : goal.returns-then-last-clause-next
returns-then-last-clause-next g c = λ header width y samples by place made.
    let old = c.args.self.now in
    let errors = errors_of header samples width (length samples) in
    let previous = map cell_errors old.previous.items in
    let current = map cell_errors old.current.items in
    let x = c.args.x in
    let s = c.args.sample in
    let wide = by.same_width in
    let in_row = c.requires.in_row in
    let ends = is_last_column c.is_last-last.result x old.width c.is_last-last.ensures c.if-last.true in
    let made_errors = c.errors_after.result in
    let e : cell_errors c.errors_after.result ≡ errors_after header samples width errors s =
    (rw (to_z-of_z w32 c.args.sample c.ranges.sample) at c.errors_after.ensures) ∙ then_is header samples width errors c.args.made.now.prediction (predicted_by c.args.made.now.subpred) s made.prediction_is made.subpred_is in
    let n = length-errors_of header samples width (length samples) in
    let long : width ≤ length current = let h = old.current_len in omega (arith, length-map old.current.items cell_errors, old.current.ok.0) in
    let row : width ≤ x + 1 → KeepsErrors width 0 (y + 1) (set current x (cell_errors made_errors)) previous (errors ++ cell_errors made_errors ∷ []) = λ ge. KeepsErrors_end width x y (cell_errors made_errors) previous current errors by.keeps (n ∙ place) (omega arith) ge long in
    let grown : errors_of header (samples ++ s ∷ []) width (length (samples ++ s ∷ [])) ≡ errors ++ cell_errors made_errors ∷ [] = errors_of-push header samples width s ∙ ap (λ (v : Errors). errors ++ v ∷ []) (sym e) in
    let x_is : c.swap.new.x.items ≡ set old.current.items x made_errors = ap (λ (v : _). v.items) c.swap.ensures.x_after in
    let y_is : c.swap.new.y.items ≡ old.previous.items = ap (λ (v : _). v.items) c.swap.ensures.y_after in (
      λ lt. absurd (omega arith),
      λ ge. record {
        same_width = wide;
        same_header = by.same_header;
        keeps = rw (x_is, y_is, map-set cell_errors old.current.items x made_errors, grown) (row ge);
      },
    )

pub returns-else-last-clause-next : goal.returns-else-last-clause-next
returns-else-last-clause-next g c = λ header width y samples by place made.
    let old = c.args.self.now in
    let errors = errors_of header samples width (length samples) in
    let previous = map cell_errors old.previous.items in
    let current = map cell_errors old.current.items in
    let x = c.args.x in
    let s = c.args.sample in
    let wide = by.same_width in
    let in_row = c.requires.in_row in
    let goes_on = is_no_last_column c.is_last-last.result x old.width c.is_last-last.ensures c.if-last.false in
    let made_errors = c.errors_after.result in
    let e : cell_errors c.errors_after.result ≡ errors_after header samples width errors s =
    (rw (to_z-of_z w32 c.args.sample c.ranges.sample) at c.errors_after.ensures) ∙ then_is header samples width errors c.args.made.now.prediction (predicted_by c.args.made.now.subpred) s made.prediction_is made.subpred_is in
    let n = length-errors_of header samples width (length samples) in
    let long : width ≤ length current = let h = old.current_len in omega (arith, length-map old.current.items cell_errors, old.current.ok.0) in
    let row : x + 1 < width → KeepsErrors width (x + 1) y previous (set current x (cell_errors made_errors)) (errors ++ cell_errors made_errors ∷ []) = λ lt. KeepsErrors_row width x y (cell_errors made_errors) previous current errors by.keeps (n ∙ place) lt long in
    let grown : errors_of header (samples ++ s ∷ []) width (length (samples ++ s ∷ [])) ≡ errors ++ cell_errors made_errors ∷ [] = errors_of-push header samples width s ∙ ap (λ (v : Errors). errors ++ v ∷ []) (sym e) in (
      λ lt. record {
        same_width = wide;
        same_header = by.same_header;
        keeps = rw (map-set cell_errors old.current.items x made_errors, grown) (row lt);
      },
      λ ge. absurd (omega arith),
    )

use Rattle.std.proofs.Common.{◌≡◌, ℕ, sym, subst, get_or, add-one, ◌+◌, ◌-◌, ◌*◌, ◌^◌, List, [], ◌∷◌, refl, ap, min, drop, Some, None, ◌∙◌, arith, drop-cons, rules}
use Rattle.std.specs.Prelude.{Bool, true, false, if◌then◌else◌}
use Rattle.std.specs.Option.{option_map}
use Rattle.std.proofs.lemmas.List.{drop_all}
use Rattle.jxl_netpbm_read.specs.Words.{digits_from, is_digit}
use Rattle.jxl_netpbm_read.proofs.words.digits.Goals as goal

abbrev most : ℕ
most = 2 ^ 32 - 1

-- digits write the same after numbers that count as the same
capped_same : (v w : ℕ) (ds : List ℕ) → min v most ≡ min w most → option_map (λ n. min n most) (digits_from v ds) ≡ option_map (λ n. min n most) (digits_from w ds)
capped_same v w [] e = ap Some e
capped_same v w (d ∷ ds) e =
    let next : min (v * 10 + (d - 48)) most ≡ min (w * 10 + (d - 48)) most = omega (arith, e) in
    elim (is_digit d) as (λ b. option_map (λ n. min n most) (if b then digits_from (v * 10 + (d - 48)) ds else None) ≡ option_map (λ n. min n most) (if b then digits_from (w * 10 + (d - 48)) ds else None)) [
      | true ↦ capped_same (v * 10 + (d - 48)) (w * 10 + (d - 48)) ds next
      | false ↦ refl
    ]

-- one more digit is a digit
more : (v w d i : ℕ) (text rest : List ℕ) → drop i text ≡ d ∷ rest → is_digit d ≡ true → min (v * 10 + (d - 48)) most ≡ min w most →
    option_map (λ n. min n most) (digits_from 0 text) ≡ option_map (λ n. min n most) (digits_from v (drop i text)) →
    option_map (λ n. min n most) (digits_from 0 text) ≡ option_map (λ n. min n most) (digits_from w rest)
more v w d i text rest here digit next so_far =
    let P : Bool → Type 0 = λ b. option_map (λ n. min n most) (if b then digits_from (v * 10 + (d - 48)) rest else None) ≡ option_map (λ n. min n most) (digits_from (v * 10 + (d - 48)) rest) in
    so_far ∙ ap (λ (r : List ℕ). option_map (λ n. min n most) (digits_from v r)) here ∙ subst P (sym digit) refl ∙ capped_same (v * 10 + (d - 48)) w rest next

pub loop-digit-preserved : goal.loop-digit-preserved
loop-digit-preserved c =
    let text = c.args.text.now in
    let i = c.loop-digit.digit-index in
    let d = get_or text i 0 in
    let here : drop i text ≡ d ∷ drop (i + 1) text = drop-cons text i 0 c.loop-digit-test.true ∙ ap (λ k. d ∷ drop k text) (sym (add-one i)) in
    let digit : is_digit d ≡ true = search rules in
    record {
      small = c.saturating_add-value.type_inv;
      same = more c.loop-digit.value c.saturating_add-value.result d i text (drop (i + 1) text) here digit
          (omega (arith, c.saturating_add-value.ensures, c.saturating_mul.ensures, c.from.ensures)) c.loop-digit.invariant.same;
    }

pub returns : goal.returns
returns c =
    let text = c.args.text.now in
    let v = c.loop-digit.value in
    let all : drop c.loop-digit.digit-index text ≡ [] = drop_all c.loop-digit.digit-index text c.loop-digit-test.false in
    let own : min v most ≡ v = omega (arith, c.loop-digit.invariant.small) in
    sym (c.loop-digit.invariant.same ∙ ap (λ (r : List ℕ). option_map (λ n. min n most) (digits_from v r)) all ∙ ap Some own)

-- At a leaf that multiplies by 1 each sample has one token.
use Rattle.std.proofs.Common.{◌≡◌, ℕ, ◌+◌, ◌*◌, ◌/◌, ◌%◌, inl, inr, sym, ap, ◌∙◌, arith, ℤ, pos, ◌+ℤ◌, ◌-ℤ◌, ◌*ℤ◌, FitsSigned}
use Rattle.std.specs.Int.{Width, w32, int_wrap}
use Rattle.std.proofs.lemmas.Int.{ints, int_wrap_fits, SFits-int_wrap, int_wrap-add_left}
use Rattle.std.proofs.lemmas.Bool.{cases_lt}
use Rattle.std.proofs.Math.IntN.{+ℤ_assoc}
use Rattle.jxlm_bits.specs.Numbers.{unpack}
use Rattle.jxlm_ma_tree.specs.declared.leaf.Leaf.{Leaf}
use Rattle.jxlm_samples.specs.Coded.{sample_of}
use Rattle.jxlm_encode_write.specs.Nodes.{packed_number}
use Rattle.jxlm_encode_tokens.specs.Laws.{EachHasOneToken}
use Rattle.jxlm_encode_tokens.specs.Tokens.{IsSampleToken, MultipliesByOne}

pub packed_unpack : (token : ℕ) → packed_number (unpack token) ≡ token
packed_unpack token =
    elim (cases_lt (token % 2) 1) [
      | inl even ↦ (
          let r : token % 2 ≡ 0 = omega arith in
          let e : 2 * (token / 2) ≡ token = omega arith in
          rw r e)
      | inr uneven ↦ (
          let r : token % 2 ≡ 1 = omega arith in
          let e : 2 * (token / 2) + 1 ≡ token = omega arith in
          rw r e)
    ]

pub times_one : (z : ℤ) → z *ℤ pos 1 ≡ z
times_one z = omega (arith, ints)

-- what is added may be added to what is reduced
pub readded : (w : Width) (a b c : ℤ) → a +ℤ b ≡ c → int_wrap w (int_wrap w a +ℤ b) ≡ int_wrap w c
readded w a b c is = int_wrap-add_left w a b ∙ ap (int_wrap w) is

taken_away : (s o p : ℤ) → s -ℤ o -ℤ p +ℤ (o +ℤ p) ≡ s
taken_away s o p = omega (arith, ints)

given_back : (u o p : ℤ) → u +ℤ (o +ℤ p) +ℤ (pos 0 -ℤ (o +ℤ p)) ≡ u
given_back u o p = omega (arith, ints)

-- the sample of a number at such a leaf
sample_is : (w : Width) (leaf : Leaf) (predicted : ℤ) (token : ℕ) → MultipliesByOne leaf → sample_of w leaf predicted token ≡ int_wrap w (unpack token +ℤ (leaf.offset +ℤ predicted))
sample_is w leaf predicted token one =
    ap (λ m. int_wrap w (unpack token *ℤ pos m +ℤ leaf.offset +ℤ predicted)) one
    ∙ ap (λ z. int_wrap w (z +ℤ leaf.offset +ℤ predicted)) (times_one (unpack token))
    ∙ ap (int_wrap w) (+ℤ_assoc (unpack token) leaf.offset predicted)

-- the token whose number is the sample less offset and prediction
pub is_token : (w : Width) (leaf : Leaf) (predicted sample : ℤ) (token : ℕ) → MultipliesByOne leaf → FitsSigned w sample →
    unpack token ≡ int_wrap w (sample -ℤ leaf.offset -ℤ predicted) → IsSampleToken w leaf predicted sample token
is_token w leaf predicted sample token one fits is = record {
  fits = rw is (SFits-int_wrap w (sample -ℤ leaf.offset -ℤ predicted));
  stands = sample_is w leaf predicted token one
      ∙ ap (λ u. int_wrap w (u +ℤ (leaf.offset +ℤ predicted))) is
      ∙ readded w (sample -ℤ leaf.offset -ℤ predicted) (leaf.offset +ℤ predicted) sample (taken_away sample leaf.offset predicted)
      ∙ int_wrap_fits w sample fits;
}

-- the number of a token, from its sample
number_is : (w : Width) (leaf : Leaf) (predicted sample : ℤ) (token : ℕ) → MultipliesByOne leaf → IsSampleToken w leaf predicted sample token →
    unpack token ≡ int_wrap w (sample +ℤ (pos 0 -ℤ (leaf.offset +ℤ predicted)))
number_is w leaf predicted sample token one h =
    let o : ℤ = leaf.offset +ℤ predicted in
    sym (int_wrap_fits w (unpack token) h.fits)
    ∙ sym (readded w (unpack token +ℤ o) (pos 0 -ℤ o) (unpack token) (given_back (unpack token) leaf.offset predicted))
    ∙ ap (λ z. int_wrap w (z +ℤ (pos 0 -ℤ o))) (sym (sample_is w leaf predicted token one) ∙ h.stands)

pub one_token : EachHasOneToken
one_token w leaf predicted sample a b one ha hb =
    sym (packed_unpack a) ∙ ap packed_number (number_is w leaf predicted sample a one ha ∙ sym (number_is w leaf predicted sample b one hb)) ∙ packed_unpack b

-- what is reduced to 32 bits first may be reduced to the width at once
pub reduced_at_once : (w : Width) → ((z : ℤ) → int_wrap w (int_wrap w32 z) ≡ int_wrap w z) → (r s : ℤ) → r ≡ int_wrap w32 s → int_wrap w r ≡ int_wrap w s
reduced_at_once w after r s is = ap (int_wrap w) is ∙ after s

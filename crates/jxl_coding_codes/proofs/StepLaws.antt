-- Readings one after another, as a loop does them.
use Rattle.std.proofs.Common.{◌≡◌, ℕ, suc, ◌-◌, ◌+◌, ◌≤◌, ◌<◌, List, Result, Ok, Err, refl, sym, ◌∙◌, arith}
use Rattle.jxlm_bits.specs.Decoding.{Found, Fails}
use Rattle.jxlm_bits.specs.ErrorKind.{◌>>=◌}
use Rattle.jxlm_bits.specs.declared.decoder.DecoderError.{DecoderError}
use Rattle.jxlm_bits.specs.declared.decoder.DecoderError.TheVariants.{UnexpectedEof, Invalid, OutOfMemory}
use Rattle.jxl_coding_codes.specs.Reading.{steps}

module _ {X : Type 0} (step : X → List ℕ → ℕ → Result (Found X) DecoderError) (bytes : List ℕ) (count i p : ℕ) (x : X) (total : Result (Found X) DecoderError) where
  one : i < count → steps step (count - i) x bytes p ≡ (step x bytes p >>= λ found. steps step (count - (i + 1)) found.value bytes found.position)
  unfolding steps
  one lt = let k : count - i ≡ suc (count - (i + 1)) = omega arith in rw k refl

  -- one more was read
  pub goes_on : steps step (count - i) x bytes p ≡ total → (y : X) (q : ℕ) → i < count → step x bytes p ≡ Ok (record { value = y; position = q }) →
      steps step (count - (i + 1)) y bytes q ≡ total
  goes_on so_far y q lt h =
      let e : steps step (count - i) x bytes p ≡ steps step (count - (i + 1)) y bytes q = one lt ∙ rw h refl in
      sym e ∙ so_far

  stop_with : steps step (count - i) x bytes p ≡ total → (e : DecoderError) → i < count → step x bytes p ≡ Err e → total ≡ Err e
  stop_with so_far e lt h =
      let k : steps step (count - i) x bytes p ≡ Err e = one lt ∙ rw h refl in
      sym so_far ∙ k

  -- one gave an error
  pub stops : steps step (count - i) x bytes p ≡ total → (e : DecoderError) → i < count → Fails e (step x bytes p) → Fails e total
  stops so_far UnexpectedEof lt h = stop_with so_far UnexpectedEof lt h
  stops so_far (Invalid k) lt h = stop_with so_far (Invalid k) lt h
  stops so_far OutOfMemory lt h = tt

  -- all were read
  pub ends : steps step (count - i) x bytes p ≡ total → count ≤ i → total ≡ Ok (record { value = x; position = p })
  unfolding steps
  ends so_far le =
      let k : count - i ≡ 0 = omega arith in
      sym so_far ∙ rw k refl

-- What written trees and samples ask of a format: a decoder of one cluster, as bits, and tokens, each as bits.
use Rattle.std.proofs.Common.{◌≡◌, ℕ, ◌+◌, List, length, replicate, Ok}
use Rattle.jxlm_bits.specs.Decoding.{Meaning}
use Rattle.jxlm_bit_writer.specs.Written.{HasBits}

pub record IsWritable {S : Type 0} (d : Meaning S) (state : ℕ → S) (head : ℕ → List ℕ) (one : ℕ → List ℕ) (Fits : ℕ → Type 0) : Type 0 where
  pub parsed : (bytes : List ℕ) (p contexts q : ℕ) → HasBits bytes p (head contexts) → q ≡ p + length (head contexts) →
      d.parse bytes p contexts ≡ Ok (record { value = state contexts; position = q })
  pub begun : (bytes : List ℕ) (p contexts : ℕ) → d.begin (state contexts) bytes p ≡ Ok (record { value = state contexts; position = p })
  pub reads : (contexts : ℕ) (bytes : List ℕ) (p m v : ℕ) → Fits v → HasBits bytes p (one v) →
      d.read (state contexts) bytes p 0 m ≡ Ok (record { value = v; state = state contexts; position = p + length (one v) })
  pub ended : (contexts : ℕ) → d.finalize (state contexts) ≡ Ok tt
  pub clusters : (contexts : ℕ) → d.cluster_map (state contexts) ≡ replicate contexts 0

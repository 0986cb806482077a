-- A symbol that is written in a cluster is read.
use Rattle.std.proofs.Common.{◌≡◌, ℕ, ◌+◌, ◌%◌, ◌<◌, List, Some, None, Ok, ap, ◌∙◌, arith}
use Rattle.jxlm_bit_writer.specs.Written.{digits, HasBits}
use Rattle.jxl_coding_codes.specs.Ans.{Slot, slot_of, after_slot, refilled_at}
use Rattle.jxl_coding_codes.specs.declared.ans.Bucket.{Bucket}
use Rattle.jxl_coding_codes.specs.Slots.{slot_at}
use Rattle.jxl_coding_write.specs.Places.{Leads}
use Rattle.jxl_coding.specs.Symbols.{Codes, symbol_with, coded_symbol}
use Rattle.jxl_coding.specs.declared.codes.ClusterCode.{ClusterCode}
use Rattle.jxl_coding.specs.declared.codes.Coder.{Coder}
use Rattle.jxl_coding.specs.declared.codes.Coder.TheVariants.{Ans}

mod_small : (state : ℕ) → state % 4096 < 4096
mod_small state = omega arith

module _ (codes : Codes) (by_slots : codes.coder ≡ Ans) (own : List Bucket) (start : ℕ)
    (same : (slot : ℕ) → slot < 4096 → slot_of codes.buckets start codes.bucket_size slot ≡ slot_at own codes.bucket_size slot) where
  by_slot : (counts : List ℕ) (symbol before after count value : ℕ) → Leads own codes.bucket_size symbol before after count value → (bytes : List ℕ) (p : ℕ) → HasBits bytes p (digits count value) →
      coded_symbol codes Ans counts start before bytes p ≡ Ok (record { symbol = symbol; ans_state = after; position = p + count })
  unfolding coded_symbol
  by_slot counts symbol before after count value leads bytes p has =
      ap (λ (x : Slot). refilled_at x.symbol (after_slot x before) bytes p) (same (before % 4096) (mod_small before)) ∙ leads.reads bytes p has

  pub symbol_none : (code : ClusterCode) (symbol before after count value : ℕ) → code.start ≡ start → Leads own codes.bucket_size symbol before after count value → (bytes : List ℕ) (p : ℕ) → HasBits bytes p (digits count value) →
      symbol_with codes None code before bytes p ≡ Ok (record { symbol = symbol; ans_state = after; position = p + count })
  unfolding symbol_with
  symbol_none code symbol before after count value at leads bytes p has =
      ap (λ (k : Coder). coded_symbol codes k code.counts code.start before bytes p) by_slots
      ∙ ap (λ (s : ℕ). coded_symbol codes Ans code.counts s before bytes p) at
      ∙ by_slot code.counts symbol before after count value leads bytes p has

pub symbol_only : (codes : Codes) (code : ClusterCode) (only symbol before after count : ℕ) → only ≡ symbol → before ≡ after → count ≡ 0 → (bytes : List ℕ) (p : ℕ) →
    symbol_with codes (Some only) code before bytes p ≡ Ok (record { symbol = symbol; ans_state = after; position = p + count })
unfolding symbol_with
symbol_only codes code only symbol before after count s e c bytes p =
    let q : p ≡ p + count = omega (arith, c) in
    rw (s, e) (ap (λ (r : ℕ). Ok (record { symbol = symbol; ans_state = after; position = r })) q)

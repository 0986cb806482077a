use Rattle.std.proofs.Common.{◌≡◌, ℕ, ◌<◌, ◌+◌, ◌/◌, ◌^◌, length, take, slice_index}
use Rattle.std.specs.List.{sum}
use Rattle.jxl_coding_codes.specs.Alias.{buckets_of}
use Rattle.jxl_coding_codes.specs.Distributions.{whole}
use Rattle.jxl_coding_codes.specs.Slots.{slot_at}
use Rattle.jxl_coding_write.proofs.slot_table.places_of.Given as goal

abbrev pub invariant-loop-place : goal.invariant-loop-place
invariant-loop-place l = record {
  many : length l.places.items ≡ 4096;
  filled : (k : ℕ) → k < l.place →
      slice_index l.places.items (sum (take (slot_at (buckets_of l.counts l.log) (whole / 2 ^ l.log) k).symbol l.counts) + (slot_at (buckets_of l.counts l.log) (whole / 2 ^ l.log) k).number) ≡ k;
}

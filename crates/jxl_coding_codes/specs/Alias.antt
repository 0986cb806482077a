-- The slots of a distribution in buckets: which symbol each of the 4096 numbers stands for, and as which of its kind
-- (ISO/IEC 18181-1, entropy decoding: alias mapping).
use Rattle.std.specs.Prelude.{ℕ, zero, suc, ◌+◌, ◌-◌, ◌*◌, ◌/◌, ◌^◌, List, [], ◌∷◌, ◌++◌, length, take, if◌then◌else◌, nat_lt, ◌==◌, Option, Some, None, slice_index, slice_set}
use Rattle.jxl_coding_codes.specs.Distributions.{whole}
use Rattle.jxl_coding_codes.specs.Ans.{bucket_of}
use Rattle.jxl_coding_codes.specs.declared.ans.Bucket.{Bucket}

-- the first symbol that comes each time, from one on, if one does
abbrev pub only_from : ℕ → List ℕ → Option ℕ
only_from symbol [] = None
only_from symbol (count ∷ counts) = if count == whole then Some symbol else only_from (symbol + 1) counts

-- the first n buckets of an only symbol: each place leads on to the state that it was in
unfoldable pub only_buckets : ℕ → ℕ → ℕ → List Bucket
only_buckets symbol bucket_size zero = []
only_buckets symbol bucket_size (suc n) =
    only_buckets symbol bucket_size n ++ record { cutoff = 0; alias_symbol = symbol; alias_offset = bucket_size * n; count = 0; alias_count = whole } ∷ []

-- Buckets as they are filled: those that have more slots than a bucket holds, and those that have fewer; the last of
-- each is next.
pub record Filling : Type 0 where
  pub buckets : List Bucket
  pub overfull : List ℕ
  pub underfull : List ℕ

-- at first each bucket has the slots of its own symbol
abbrev pub own_bucket : ℕ → ℕ → Bucket
own_bucket symbol count = record { cutoff = count; alias_symbol = symbol; alias_offset = 0; count = count; alias_count = count }

-- a bucket among those of its kind
abbrev pub sorted_buckets : Filling → ℕ → ℕ → ℕ → Filling
sorted_buckets s bucket_size i cutoff = record {
  buckets = s.buckets;
  overfull = s.overfull ++ (if nat_lt bucket_size cutoff then i ∷ [] else []);
  underfull = s.underfull ++ (if nat_lt cutoff bucket_size then i ∷ [] else []);
}

-- one bucket more
abbrev pub with_bucket : List ℕ → ℕ → ℕ → Filling → Filling
with_bucket counts bucket_size i s =
    sorted_buckets (record { buckets = s.buckets ++ own_bucket i (slice_index counts i) ∷ []; overfull = s.overfull; underfull = s.underfull }) bucket_size i (slice_index counts i)

-- the first n buckets of these counts, as they are before any is filled
unfoldable pub unfilled_buckets : List ℕ → ℕ → ℕ → Filling
unfilled_buckets counts bucket_size zero = record { buckets = []; overfull = []; underfull = [] }
unfilled_buckets counts bucket_size (suc n) = with_bucket counts bucket_size n (unfilled_buckets counts bucket_size n)

-- the last of a list
abbrev pub last_of : List ℕ → ℕ
last_of xs = slice_index xs (length xs - 1)

-- all but that
abbrev pub without_last : List ℕ → List ℕ
without_last xs = take (length xs - 1) xs

-- the slots that the full bucket keeps when it fills the short one
abbrev pub kept_by : List Bucket → ℕ → ℕ → ℕ → ℕ
kept_by buckets bucket_size full short = (bucket_of buckets full).cutoff - (bucket_size - (bucket_of buckets short).cutoff)

-- the full bucket with those
abbrev pub lowered_bucket : Bucket → ℕ → Bucket
lowered_bucket bucket kept = record { cutoff = kept; alias_symbol = bucket.alias_symbol; alias_offset = bucket.alias_offset; count = bucket.count; alias_count = bucket.alias_count }

-- a short bucket with slots of the full one from a number on
abbrev pub filled_bucket : Bucket → ℕ → ℕ → ℕ → Bucket
filled_bucket bucket full alias_offset count = record { cutoff = bucket.cutoff; alias_symbol = full; alias_offset = alias_offset; count = bucket.count; alias_count = count }

-- all buckets, once the full one has fewer
abbrev pub with_lowered : List Bucket → ℕ → ℕ → ℕ → List Bucket
with_lowered buckets bucket_size full short = slice_set buckets full (lowered_bucket (bucket_of buckets full) (kept_by buckets bucket_size full short))

-- all buckets, once the short one has the others
abbrev pub filled_buckets : List Bucket → ℕ → ℕ → ℕ → List Bucket
filled_buckets buckets bucket_size full short =
    slice_set (with_lowered buckets bucket_size full short) short
    (filled_bucket (bucket_of (with_lowered buckets bucket_size full short) short) full (kept_by buckets bucket_size full short) (bucket_of buckets full).count)

-- the last slots of a full bucket's symbol fill a short one
abbrev pub filled_up : Filling → ℕ → ℕ → ℕ → Filling
filled_up s bucket_size full short =
    sorted_buckets (record { buckets = filled_buckets s.buckets bucket_size full short; overfull = without_last s.overfull; underfull = without_last s.underfull }) bucket_size full (kept_by s.buckets bucket_size full short)

-- one bucket more is filled, while there are both kinds
abbrev pub filled_one : ℕ → Filling → Filling
filled_one bucket_size s =
    if length s.overfull == 0 then s else if length s.underfull == 0 then s else filled_up s bucket_size (last_of s.overfull) (last_of s.underfull)

-- repeated this number of times
unfoldable pub filled_by : ℕ → ℕ → Filling → Filling
filled_by bucket_size zero s = s
filled_by bucket_size (suc n) s = filled_one bucket_size (filled_by bucket_size n s)

-- the 2^log buckets of a distribution, of which an only symbol has all
abbrev pub buckets_with : Option ℕ → List ℕ → ℕ → List Bucket
buckets_with (Some symbol) counts log = only_buckets symbol (whole / 2 ^ log) (2 ^ log)
buckets_with None counts log = (filled_by (whole / 2 ^ log) (2 ^ log) (unfilled_buckets counts (whole / 2 ^ log) (2 ^ log))).buckets

-- the alias table of a distribution
abbrev pub buckets_of : List ℕ → ℕ → List Bucket
buckets_of counts log = buckets_with (only_from 0 counts) counts log

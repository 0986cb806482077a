-- What contracts see of codes as they are read.
use Rattle.std.specs.Prelude.{◌≡◌, Result, Ok, Err}
use Rattle.jxlm_bits.specs.Decoding.{Fails}
use Rattle.jxlm_bits.specs.declared.decoder.DecoderError.{DecoderError}
use Rattle.jxl_coding_codes.specs.PrefixCodes as meant
use Rattle.jxl_coding_codes.specs.Alias as aliased
use Rattle.jxl_coding_codes.specs.Distributions as counted
use Rattle.jxl_coding_codes.specs.declared.filling.Filling.{Filling}
use Rattle.jxl_coding_codes.specs.declared.widths.Widths.{Widths}
use Rattle.jxl_coding_codes.specs.declared.signalled.Lengths.{Lengths}

-- lengths as they are signalled, as contracts see them
abbrev pub lengths_seen : Lengths → meant.Lengths
lengths_seen s = record { lengths = s.lengths.items; space = s.space; last = s.last; run = s.run; of = s.of }

-- widths of counts, as contracts see them
abbrev pub widths_seen : Widths → counted.Widths
widths_seen s = record { widths = s.widths.items; most = s.most; widest = s.widest }

-- the lengths are those that the meaning gives; an error is its error
abbrev pub LengthsGive : Result (Unit {0}) DecoderError → meant.Lengths → Result meant.Lengths DecoderError → Type 0
LengthsGive (Ok u) s meaning = meaning ≡ Ok s
LengthsGive (Err e) s meaning = Fails e meaning

-- buckets as they are filled, as contracts see them
abbrev pub filling_seen : Filling → aliased.Filling
filling_seen s = record { buckets = s.buckets.items; overfull = s.overfull.items; underfull = s.underfull.items }

-- The codes of the decoder of a written stream, in the words of the reader (ISO/IEC 18181-1, entropy decoding).
use Rattle.std.specs.Prelude.{ℕ, ◌/◌, ◌^◌, List, Option, None}
use Rattle.std.specs.List.{fold}
use Rattle.jxl_coding_codes.specs.Distributions.{whole}
use Rattle.jxl_coding.specs.Parse.{Coded, nothing_coded, with_distribution, codes_by}
use Rattle.jxl_coding.specs.Symbols.{Codes}
use Rattle.jxl_coding.specs.declared.codes.Coder.TheVariants.{Ans}
use Rattle.jxl_coding.specs.declared.codes.Lz77.{Lz77}
use Rattle.jxl_coding_stream_write.specs.declared.cluster.ClusterWriter.{ClusterWriter}
use Rattle.jxl_coding_stream_write.specs.declared.stream.StreamWriter.{StreamWriter}

-- these codes, and that of another cluster
abbrev pub with_code : ℕ → Coded → ClusterWriter → Coded
with_code log s code = with_distribution s code.config code.slots.counts.items log

-- the codes of clusters, after those of others
abbrev pub coded_after : ℕ → Coded → List ClusterWriter → Coded
coded_after log s codes = fold (with_code log) s codes

-- the codes of a decoder by ANS, if contexts have these clusters, with this rule of copies
abbrev pub codes_among : List ℕ → Option Lz77 → StreamWriter → Codes
codes_among clusters copies w = codes_by clusters copies Ans (whole / 2 ^ w.log) (coded_after w.log nothing_coded w.codes.items)

-- the codes of a decoder by ANS, with this rule of copies
abbrev pub codes_with : Option Lz77 → StreamWriter → Codes
codes_with copies w = codes_among w.clusters.items copies w

-- the codes of a decoder, by ANS and without copies
abbrev pub codes_of : StreamWriter → Codes
codes_of w = codes_with None w

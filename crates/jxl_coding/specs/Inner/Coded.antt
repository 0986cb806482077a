-- What contracts see of codes as they are read.
use Rattle.std.specs.Prelude.{ℕ, List}
use Rattle.jxl_coding.specs.Clusters.{Listed}
use Rattle.jxl_coding.specs.Parse as parsed
use Rattle.jxl_coding.specs.Inner.Seen.{seen}
use Rattle.jxl_coding.specs.declared.tables.Tables.{Tables}
use Rattle.jxl_coding.specs.declared.state.State.{State}
use Rattle.jxl_coding.specs.declared.coded.Coded.{Coded}

-- a decoder of clusters, and those that were read
abbrev pub listed : Tables → State → List ℕ → Listed
listed t s clusters = record { decoder = seen t s; clusters = clusters }

-- the codes that were read, as contracts see them
abbrev pub coded_seen : Coded → parsed.Coded
coded_seen s = record { cluster_codes = s.cluster_codes.items; symbols = s.symbols.items; buckets = s.buckets.items; alphabets = s.alphabets }

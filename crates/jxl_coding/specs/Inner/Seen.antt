-- What contracts see of tables and states.
use Rattle.std.specs.Prelude.{◌^◌, Option, Some, None}
use Rattle.jxl_coding.specs.Copies.{Ring, empty_ring}
use Rattle.jxl_coding.specs.Symbols.{Codes}
use Rattle.jxl_coding.specs.Tokens.{Entropy}
use Rattle.jxl_coding.specs.Inner.Rings.{ring_of}
use Rattle.jxl_coding.specs.declared.tables.Tables.{Tables}
use Rattle.jxl_coding.specs.declared.window.Window.{Window}
use Rattle.jxl_coding.specs.declared.state.State.{State}

-- what parse settles
abbrev pub codes_of : Tables → Codes
codes_of t = record { clusters = t.clusters.items; lz77 = t.lz77; cluster_codes = t.cluster_codes.items; coder = t.coder; bucket_size = 2 ^ t.bucket_shift; symbols = t.symbols.items; buckets = t.buckets.items; alphabets = t.alphabets }

-- the ring of a window, empty where there is none
abbrev pub ring_in : Option Window → Ring
ring_in None = empty_ring
ring_in (Some w) = ring_of w

-- these codes in a state
abbrev pub entropy_of : Codes → State → Entropy
entropy_of codes s = record { codes = codes; ans_state = s.ans_state; ring = ring_in s.window; distance = s.distance; left = s.left }

-- a decoder: its tables and its state
abbrev pub seen : Tables → State → Entropy
seen t s = entropy_of (codes_of t) s

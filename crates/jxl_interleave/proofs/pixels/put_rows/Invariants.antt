-- So many rows were written.
use Rattle.std.proofs.Common.{◌≡◌, ◌+◌, ◌*◌, length, take}
use Rattle.jxl_interleave.specs.Pixels.{number_len, rows_bytes}
use Rattle.jxl_interleave.specs.Inner.Layers.{layers_of}
use Rattle.jxl_interleave.proofs.pixels.put_rows.Given as goal

abbrev pub invariant-loop-y : goal.invariant-loop-y
invariant-loop-y l = record {
  place : l.end ≡ 0 + l.y * (l.width * (length (layers_of l.layers) * number_len l.depth));
  bytes : take l.end l.bytes ≡ rows_bytes l.depth (layers_of l.layers) l.width l.y;
}

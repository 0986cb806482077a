use Rattle.std.proofs.Common.{◌+◌, ◌*◌, length, arith}
use Rattle.jxl_netpbm_read.specs.Samples.{sample_size}
use Rattle.jxl_netpbm_read.proofs.Places.{IsInside, sample_inside}
use Rattle.jxl_netpbm_read.proofs.samples.number_in.Goals as goal

pub overflow_mul-index-2 : goal.overflow_mul-index-2
overflow_mul-index-2 c =
    let h = c.args.header.now in
    let n = c.channel_count-channels.result in
    let r = c.file_row-row.result in
    let at : IsInside h.start (length c.args.file.now) ((r * h.width + c.args.x) * n + c.args.k) (sample_size h.storage) =
    sample_inside h (length c.args.file.now) n r c.args.x c.args.k c.channel_count-channels.ensures.value c.file_row-row.ensures.below c.requires.column c.requires.channel c.requires.long in
    omega (arith, at.few)

pub overflow_add-index-2 : goal.overflow_add-index-2
overflow_add-index-2 c =
    let h = c.args.header.now in
    let n = c.channel_count-channels.result in
    let r = c.file_row-row.result in
    let at : IsInside h.start (length c.args.file.now) ((r * h.width + c.args.x) * n + c.args.k) (sample_size h.storage) =
    sample_inside h (length c.args.file.now) n r c.args.x c.args.k c.channel_count-channels.ensures.value c.file_row-row.ensures.below c.requires.column c.requires.channel c.requires.long in
    omega (arith, at.few)

pub overflow_mul-index-3 : goal.overflow_mul-index-3
overflow_mul-index-3 c =
    let h = c.args.header.now in
    let n = c.channel_count-channels.result in
    let r = c.file_row-row.result in
    let at : IsInside h.start (length c.args.file.now) ((r * h.width + c.args.x) * n + c.args.k) (sample_size h.storage) =
    sample_inside h (length c.args.file.now) n r c.args.x c.args.k c.channel_count-channels.ensures.value c.file_row-row.ensures.below c.requires.column c.requires.channel c.requires.long in
    rw c.sample_size.ensures.value (omega (arith, at.bytes))

pub overflow_add-header : goal.overflow_add-header
overflow_add-header c =
    let h = c.args.header.now in
    let n = c.channel_count-channels.result in
    let r = c.file_row-row.result in
    let at : IsInside h.start (length c.args.file.now) ((r * h.width + c.args.x) * n + c.args.k) (sample_size h.storage) =
    sample_inside h (length c.args.file.now) n r c.args.x c.args.k c.channel_count-channels.ensures.value c.file_row-row.ensures.below c.requires.column c.requires.channel c.requires.long in
    rw c.sample_size.ensures.value (omega (arith, at.bytes))

pub number_at-requires : goal.number_at-requires
number_at-requires c =
    let h = c.args.header.now in
    let n = c.channel_count-channels.result in
    let r = c.file_row-row.result in
    let at : IsInside h.start (length c.args.file.now) ((r * h.width + c.args.x) * n + c.args.k) (sample_size h.storage) =
    sample_inside h (length c.args.file.now) n r c.args.x c.args.k c.channel_count-channels.ensures.value c.file_row-row.ensures.below c.requires.column c.requires.channel c.requires.long in
    rw c.sample_size.ensures.value at.bytes

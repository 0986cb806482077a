use Rattle.std.proofs.Common.{◌≡◌, ◌+◌, ◌-◌, ◌%◌, ◌^◌, refl, arith}
use Rattle.std.proofs.lemmas.Nat.{pow_pos, mod_below}
use Rattle.jxl_coding_stream_write.proofs.Bits.{held_before, low_same, word_kept_by, word_same}
use Rattle.jxl_coding_stream_write.proofs.back.prepend_lowest.Goals as goal

pub returns-then-count-lt64 : goal.returns-then-count-lt64
returns-then-count-lt64 c =
    let t = c.if-count-lt64.true in
    let narrow = c.requires in
    held_before c.args.first.value c.args.first.count c.args.width (c.args.number % 2 ^ c.args.width) (mod_below c.args.number (2 ^ c.args.width) (pow_pos c.args.width)) _ c.args.words.now.items (omega (arith, t))
    (low_same c.args.first.value c.args.width c.args.number c.ranges.number.fits narrow (c.args.width % 64) c.rotate_right-piece.result (omega (arith, narrow)) c.rotate_right-piece.ensures)

pub returns : goal.returns
returns c =
    let few = c.args.first.few in
    let narrow = c.requires in
    let full = c.if-count-lt64.false in
    let is_rest : (c.args.first.count + c.args.width) % 64 ≡ c.args.first.count + c.args.width - 64 = omega (arith, few, narrow, full) in
    let is_last : c.args.width - (c.args.first.count + c.args.width) % 64 ≡ 64 - c.args.first.count = omega (arith, few, narrow, full) in
    word_kept_by c.args.first.value c.args.first.count c.args.width c.args.number c.ranges.number.fits c.args.first.few (omega (arith, full)) _ _ c.args.number c.args.words.now.items c.push.new.self.items is_rest
    (word_same c.args.first.value c.args.first.count c.args.width c.args.number c.ranges.number.fits c.args.first.few (omega (arith, full)) narrow _ c.rotate_right-piece.result is_last c.rotate_right-piece.ensures)
    refl c.in_ok-push.ensures.items

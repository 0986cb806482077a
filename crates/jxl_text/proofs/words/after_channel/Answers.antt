use Rattle.std.proofs.Common.{◌≢◌, codes, rules}
use Rattle.jxl_text.proofs.Names.{channel_other}
use Rattle.jxl_text.proofs.words.after_channel.Goals as goal

pub returns-then-ne : goal.returns-then-ne
returns-then-ne c =
    let other : c.in_ok-word.word.now ≢ codes "channel" = search rules in
    channel_other c.args.line.now _ _ c.in_ok-word.ensures other

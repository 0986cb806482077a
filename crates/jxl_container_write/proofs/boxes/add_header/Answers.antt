use Rattle.std.proofs.Common.{◌+◌, ◌^◌, ◌∙◌, append_assoc}
use Rattle.std.proofs.lemmas.Bool.{le-ltb}
use Rattle.jxl_container_write.specs.Inner.Spelled.{word}
use Rattle.jxl_container_write.proofs.Places.{long_header}
use Rattle.jxl_container_write.proofs.boxes.add_header.Goals as goal

pub returns : goal.returns
returns c =
    long_header c.args.file.now.items c.add_short-2.new.file.items c.add_word.new.file.items c.add_word-2.new.file.items c.args.kind c.args.length
    (le-ltb (8 + c.args.length) (2 ^ 32) c.if-length.false) c.requires (c.in_ok-add_short-2.ensures ∙ append_assoc c.args.file.now.items (word 1) (word c.args.kind))
    c.in_ok-add_word.ensures c.in_ok-add_word-2.ensures

use Rattle.std.proofs.Common.{◌++◌, string_bytes, codes, List, ℕ}
use Rattle.jxl_info.specs.Colours.{point_text, primaries_text}
use Rattle.jxl_info.proofs.TextPieces.{two, four}
use Rattle.jxl_info.proofs.colours.append_primaries.Goals as goal

pub returns-in_ok-append_point-in-Custom-3 : goal.returns-in_ok-append_point-in-Custom-3
unfolding primaries_text
returns-in_ok-append_point-in-Custom-3 c =
    let s = string_bytes c.args.text.now in
    let d = string_bytes c.append_point-in-Custom.new.text in
    let e = string_bytes c.write-in-Custom-3.new.self in
    let first = codes "Custom primaries: red" in
    let red = point_text c.in-Custom.custom.red in
    let second = codes ", green" in
    let green = point_text c.in-Custom.custom.green in
    let third = codes ", blue" in
    let four_there = four s (string_bytes c.write-in-Custom.new.self) (string_bytes c.append_point.new.text) (string_bytes c.write-in-Custom-2.new.self) d first red second green
    c.in_ok-write-in-Custom.ensures.bytes c.in_ok-append_point-in-Custom.ensures c.in_ok-write-in-Custom-2.ensures.bytes c.in_ok-append_point-in-Custom-2.ensures in
    let five_there = two s d e (((first ++ red) ++ second) ++ green) third four_there c.in_ok-write-in-Custom-3.ensures.bytes in
    rw c.in-Custom.is (two s e (string_bytes c.append_point-in-Custom-2.new.text) ((((first ++ red) ++ second) ++ green) ++ third) (point_text c.in-Custom.custom.blue) five_there
    c.in_ok-append_point-in-Custom-3.ensures)

pub returns-in_ok-write-in-Bt2100 : goal.returns-in_ok-write-in-Bt2100
unfolding primaries_text
returns-in_ok-write-in-Bt2100 c = rw c.in-Bt2100.is c.in_ok-write-in-Bt2100.ensures.bytes

pub returns-in_ok-write-in-P3 : goal.returns-in_ok-write-in-P3
unfolding primaries_text
returns-in_ok-write-in-P3 c = rw c.in-P3.is c.in_ok-write-in-P3.ensures.bytes

use Rattle.std.proofs.Common.{◌≡◌, take, true}
use Rattle.std.specs.List.{list_all}
use Rattle.jxl_frame_header_write.specs.Writable.{is_blending}
use Rattle.jxl_frame_header_write.proofs.blending.all_blendings.Given as goal

abbrev pub invariant-loop-info : goal.invariant-loop-info
invariant-loop-info l = list_all (is_blending true l.extra l.partial) (take l.info-index l.infos) ≡ true

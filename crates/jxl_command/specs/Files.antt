-- When two paths are of one file.
use Rattle.std.specs.Prelude.{◌==◌, ◌&&◌, Bool, false, Option, Some}
use Rattle.jxl_command.specs.declared.files.FileId.{FileId}

-- the system knows both files, and they are one: they have the same number on the same device
abbrev pub are_one : Option FileId → Option FileId → Bool
are_one (Some first) (Some second) = (first.device == second.device) && (first.inode == second.inode)
are_one first second = false

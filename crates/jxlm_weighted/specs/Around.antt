-- The neighbours as the code keeps them.
use Rattle.jxlm_weighted.specs.Neighbours.{Neighbours}
use Rattle.jxlm_weighted.specs.declared.around.Around.{Around}

abbrev pub neighbours_of : Around → Neighbours
neighbours_of a = record { w = a.w; n = a.n; nw = a.nw; ne = a.ne; nee = a.nee; nn = a.nn; ww = a.ww }

-- The ring that a window holds.
use Rattle.jxl_coding.specs.Copies.{Ring}
use Rattle.jxl_coding.specs.declared.window.Window.{Window}

-- the tokens of a window
abbrev pub ring_of : Window → Ring
ring_of w = record { tokens = w.tokens.items; place = w.place }

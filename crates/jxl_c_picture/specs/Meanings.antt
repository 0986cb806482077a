-- Which numbers of a caller name something, of which no more must be said than the number.
use Rattle.std.specs.Prelude.{ℕ, ◌==◌, ◌||◌, ◌&&◌, nat_le, Bool, if◌then◌else◌, List}
use Rattle.std.specs.List.{list_all}
use Rattle.jxl_c_picture.specs.declared.channels.CChannel.{CChannel}
use Rattle.jxl_c_picture.specs.declared.info.CInfo.{CInfo}

-- a colour space
abbrev pub is_space : ℕ → Bool
is_space n = (n == 0) || (n == 1) || (n == 3)

-- a white point without coordinates of its own
abbrev pub is_white : ℕ → Bool
is_white n = (n == 1) || (n == 10) || (n == 11)

-- primaries without coordinates of their own
abbrev pub are_primaries : ℕ → Bool
are_primaries n = (n == 1) || (n == 9) || (n == 11)

-- a curve of light
abbrev pub is_curve : ℕ → Bool
is_curve n = (n == 1) || (n == 8) || (n == 13) || (n == 16) || (n == 17) || (n == 18)

-- a transfer function by an exponent, or by a curve, which has none
abbrev pub is_transfer : ℕ → ℕ → Bool
is_transfer n gamma = (n == 0) || ((gamma == 0) && is_curve n)

-- a rendering intent
abbrev pub is_intent : ℕ → Bool
is_intent n = nat_le n 3

-- a kind of extra channels
abbrev pub is_kind : ℕ → Bool
is_kind n = nat_le n 6 || (n == 15) || (n == 16)

-- an extra channel
abbrev pub is_extra : CChannel → Bool
is_extra c = is_kind c.kind && nat_le c.associated 1

-- what colours mean
abbrev pub is_encoding : CInfo → Bool
is_encoding info = is_space info.space && is_white info.white && are_primaries info.primaries && is_transfer info.transfer info.gamma && is_intent info.intent

-- the same, and as many channels as that needs: one if colours are grey, else three
abbrev pub are_colours : CInfo → Bool
are_colours info = is_encoding info && (info.colours == (if info.space == 1 then 1 else 3))

-- all numbers of a picture
abbrev pub has_meaning : CInfo → List CChannel → Bool
has_meaning info extra = are_colours info && list_all is_extra extra

-- What a caller hands in.
use Rattle.std.specs.Prelude.{nat_lt, ℕ, ◌^◌, Bool, if◌then◌else◌}
use Rattle.jxl_picture.specs.declared.limits.Limits.{Limits}
use Rattle.jxl_c.specs.declared.limits.CLimits.{CLimits}

-- the struct is of a program of before it had the limit on codewords
abbrev pub is_older_limits : CLimits → Bool
is_older_limits l = nat_lt l.size 48

-- the limit on codewords; by default, if the struct does not have it
abbrev pub codewords_in : CLimits → ℕ
codewords_in l = if is_older_limits l then 2 ^ 26 else l.codewords

-- the limits that a struct says
abbrev pub limits_of : CLimits → Limits
limits_of l = record {
  pixels = l.pixels;
  channels = l.channels;
  bytes = l.bytes;
  profile = l.profile;
  decisions = l.decisions;
  codewords = codewords_in l;
}

-- the struct is smaller than any library knows it
abbrev pub is_small_limits : CLimits → Bool
is_small_limits l = nat_lt l.size 40

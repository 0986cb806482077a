-- Where no tokens are copied, the multiplier is not looked at.
use Rattle.std.proofs.Common.{◌≡◌, ℕ, List, None, refl}
use Rattle.jxl_coding.specs.Tokens.{Entropy, token_with, read_at}

pub any_multiplier : (s : Entropy) (bytes : List ℕ) (p c m n : ℕ) → s.codes.lz77 ≡ None → read_at s bytes p c m ≡ read_at s bytes p c n
unfolding token_with
any_multiplier s bytes p c m n h = rw h refl

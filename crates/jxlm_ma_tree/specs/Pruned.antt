-- What is left of a tree where some properties are known beforehand.
use Rattle.std.specs.Prelude.{◌≡◌, ℕ, ◌+◌, ◌<◌, ◌^◌, ◌*◌, ◌==◌, nat_lt, ◌||◌, Bool, false, ℤ, pos, ◌+ℤ◌, int_lt, if◌then◌else◌, Option, Some, None}
use Rattle.jxlm_ma_tree.specs.declared.marks.Known.{Known}
use Rattle.jxlm_ma_tree.specs.declared.leaf.Leaf.{Leaf}
use Rattle.jxlm_ma_tree.specs.TakenAlike.{taken_alike}
use Rattle.jxlm_ma_tree.specs.Tree.{Shape, leaf, decision}

-- the value of a property, where it is known
abbrev pub known : Known → ℕ → Option ℤ
known pins p = if p == 0 then Some pins.channel else (if p == 1 then Some pins.stream else (if nat_lt p (16 + 4 * pins.prev_channels) then None else Some (pos 0)))

-- to which side a decision goes, where its property is known: true to the left
abbrev pub side_of : Option ℤ → ℤ → Option Bool
side_of None v = None
side_of (Some x) v = Some (int_lt v x)

abbrev pub known_side : Known → ℕ → ℤ → Option Bool
known_side pins p v = side_of (known pins p) v

-- what is known k channels later, with k earlier channels more
abbrev pub later : Known → ℕ → Known
later pins k = record { channel = pins.channel +ℤ pos k; stream = pins.stream; prev_channels = pins.prev_channels + k }

-- n channels later is the last time that the next channel takes all known decisions as the one before it
abbrev pub EndsAt : Known → Shape Leaf → ℕ → Type 0
EndsAt pins t n = n + 1 < 2 ^ 32 → taken_alike (known_side (later pins n)) (known_side (later pins (n + 1))) t ≡ false

-- the properties as a walk sees them
abbrev pub or_seen : Option ℤ → ℤ → ℤ
or_seen None x = x
or_seen (Some y) x = y

abbrev pub seen : Known → (ℕ → ℤ) → ℕ → ℤ
seen pins f p = or_seen (known pins p) (f p)

-- a decision, taken where its property is known
abbrev pub taken : Option ℤ → ℕ → ℤ → Shape Leaf → Shape Leaf → Shape Leaf
taken None p v left right = decision p v left right
taken (Some x) p v left right = if int_lt v x then left else right

-- the tree without the decisions that are known
abbrev pub pruned : Known → Shape Leaf → Shape Leaf
pruned pins (leaf l) = leaf l
pruned pins (decision p v left right) = taken (known pins p) p v (pruned pins left) (pruned pins right)

-- a decision asks for the channel or the stream
abbrev pub tests_place : Shape Leaf → Bool
tests_place (leaf l) = false
tests_place (decision p v left right) = nat_lt p 2 || (tests_place left || tests_place right)

-- What calls make of lists of channels.
use Rattle.std.proofs.Common.{◌≡◌, ℕ, ◌+◌, ◌-◌, List, ◌∷◌, ◌++◌, take, drop, true, Ok, refl, length, arith}
use Rattle.std.specs.Prelude.{nat_lt, ◌&&◌, if◌then◌else◌}
use Rattle.std.proofs.lemmas.Grind.{common_steps}
use Rattle.jxlm_transform.specs.Channels.{ChannelList}
use Rattle.jxlm_transform.specs.ChannelSteps.{range, has_range, one_size, keeps_meta, table_of, PaletteStep, list_after}
use Rattle.jxlm_transform.specs.declared.transform.Palette.{Palette}

-- all that is after an element
pub rest : {X : Type 0} (e : ℕ) (xs : List X) → take (length xs - e) (drop e xs) ≡ drop e xs
rest e xs = grind (arith, common_steps)

-- what a palette that suits a list makes of it
pub palette_suits : (t : Palette) (l m : ChannelList) → has_range t.begin_c t.num_c l.channels && one_size (range t.begin_c t.num_c l.channels) ≡ true → keeps_meta t.begin_c t.num_c l.nb_meta ≡ true →
    m.channels ≡ table_of t l.channels ∷ (take (t.begin_c + 1) l.channels ++ drop (t.begin_c + t.num_c) l.channels) →
    m.nb_meta ≡ (if nat_lt t.begin_c l.nb_meta then l.nb_meta + 2 - t.num_c else l.nb_meta + 1) → list_after (PaletteStep t) l ≡ Ok m
palette_suits t l m there meta channels nb_meta = rw (there, meta, ← channels, ← nb_meta) refl

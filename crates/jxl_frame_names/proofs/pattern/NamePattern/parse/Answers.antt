use Rattle.std.proofs.Common.{◌≡◌, List, ℕ, arith, subst}
use Rattle.jxl_frame_names.specs.Places.{IsOnlyPlace}
use Rattle.jxl_frame_names.proofs.Places.{cut_after, place_within}
use Rattle.jxl_frame_names.proofs.pattern.NamePattern.parse.Goals as goal

pub overflow_add-end : goal.overflow_add-end
overflow_add-end c =
    let only : IsOnlyPlace c.args.name.now c.in_ok-place.place = subst (λ (n : List ℕ). IsOnlyPlace n c.in_ok-place.place) c.as_bytes.ensures.value c.in_ok-place.ensures.only in
    let within = place_within c.args.name.now c.in_ok-place.place only in omega (arith, within)

pub range-requires-2-clause-start_le_end : goal.range-requires-2-clause-start_le_end
range-requires-2-clause-start_le_end c =
    place_within c.args.name.now c.in_ok-place.place (subst (λ (n : List ℕ). IsOnlyPlace n c.in_ok-place.place) c.as_bytes.ensures.value c.in_ok-place.ensures.only)

pub range-requires-2-clause-start_boundary : goal.range-requires-2-clause-start_boundary
range-requires-2-clause-start_boundary c = λ _.
    cut_after c.args.name.now c.in_ok-place.place c.utf8.name (subst (λ (n : List ℕ). IsOnlyPlace n c.in_ok-place.place) c.as_bytes.ensures.value c.in_ok-place.ensures.only)

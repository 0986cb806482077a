-- The sections of a frame, by the entries of its table.
use Rattle.std.proofs.Common.{◌≡◌, ℕ, ◌+◌, ◌*◌, ◌<◌, Bool, true, false, List, length, take, drop, get_or, Some, refl, sym, ap, ◌∙◌, arith}
use Rattle.std.specs.Prelude.{◌==◌, ◌&&◌, if◌then◌else◌, slice_get}
use Rattle.std.specs.Borrow.{Bor}
use Rattle.std.specs.Option.{option_map}
use Rattle.std.proofs.lemmas.List.{length-map}
use Rattle.std.proofs.lemmas.Option.{slice_get-map, slice_get_read}
use Rattle.jxl_codestream.specs.Layouts.{Layout, section_count_of}
use Rattle.jxl_codestream.specs.declared.toc.TocEntry.{TocEntry}
use Rattle.jxl_lossless.specs.Places.{lent}
use Rattle.jxl_lossless.specs.Inner.Cuts.{sections_of}

-- there are as many as entries of the table, and the first one is the first
pub same_count : (xs : List (Bor (List ℕ))) (bytes : List ℕ) (entries : List TocEntry) → lent xs ≡ sections_of bytes entries → length xs ≡ length entries
same_count xs bytes entries e = sym (length-map xs (λ (s : Bor (List ℕ)). s.now)) ∙ ap length e ∙ length-map entries (λ (e : TocEntry). take e.size (drop e.offset bytes))

pub first_of : (xs : List (Bor (List ℕ))) (bytes : List ℕ) (entries : List TocEntry) (x : Bor (List ℕ)) → lent xs ≡ sections_of bytes entries → 0 < length xs → x ≡ get_or xs 0 x → slice_get (sections_of bytes entries) 0 ≡ Some x.now
first_of xs bytes entries x e some is =
    ap (λ (ys : List (List ℕ)). slice_get ys 0) (sym e) ∙ slice_get-map (λ (s : Bor (List ℕ)). s.now) xs 0 ∙ ap (option_map (λ (s : Bor (List ℕ)). s.now)) (slice_get_read xs (length xs) 0 x refl some is)

pub some_sections : (l : Layout) → 0 < section_count_of l
some_sections l = by ((l.groups == 1) && (l.passes == 1)) where
  by : (b : Bool) → 0 < (if b then 1 else 2 + l.lf_groups + l.passes * l.groups)
  by true = omega arith
  by false = omega arith

-- The first section, among all.
use Rattle.std.proofs.Common.{◌≡◌, ℕ, List, map, Option, None, Some, ap}
use Rattle.std.specs.Prelude.{slice_get}
use Rattle.std.specs.Global.{Vec}
use Rattle.std.specs.Option.{option_map}
use Rattle.jxlm_groups.specs.declared.part.SectionPart.TheVariants as parts
use Rattle.jxl_codestream.specs.Layouts.{Layout}
use Rattle.jxl_encode_frame.specs.Numbers.{section_among}

first_of : (o : Option (List ℕ)) (b : List ℕ) (n m : ℕ) → option_map {U = List ℕ × ℕ} (λ (x : List ℕ). (x, m)) o ≡ Some (b, n) → o ≡ Some b
first_of None b n m e = cc
first_of (Some x) b n m e = ap (option_map {U = List ℕ} (λ (p : List ℕ × ℕ). p.0)) e

pub global_is_first : (l : Layout) (sections : List (Vec ℕ)) (b : List ℕ) (n : ℕ) → section_among l sections parts.Global ≡ Some (b, n) → slice_get (map (λ (v : Vec ℕ). v.items) sections) 0 ≡ Some b
global_is_first l sections b n e = first_of (slice_get (map (λ (v : Vec ℕ). v.items) sections) 0) b n 0 e

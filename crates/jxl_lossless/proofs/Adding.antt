-- Sections that are added one after another.
use Rattle.std.proofs.Common.{◌≡◌, ℕ, zero, suc, ◌<◌, inl, inr, Bool, true, List, [], ◌∷◌, ◌++◌, map, refl, sym, ap, ◌∙◌, subst, append_assoc, arith, None}
use Rattle.std.specs.Prelude.{Any}
use Rattle.std.specs.List.{filter, range_with_len}
use Rattle.std.proofs.lemmas.List.{append-nil, map-append}
use Rattle.std.proofs.lemmas.List.Elements.{All-nil, All-cons, All-append}
use Rattle.jxlm_groups.specs.declared.part.SectionPart.{SectionPart}
use Rattle.jxl_modular.specs.declared.sections.Section.{Section}
use Rattle.jxlm_section_split.proofs.PartLists.{IsAmong, among_filter, among_range}
use Rattle.jxl_lossless.specs.Places.{section_at}
use Rattle.jxl_lossless.specs.Inner.Listing.{AddingFails, AreAdded, IsOfGroup, IsPlaced, Lacks}
use Rattle.jxl_lossless.specs.declared.still.error.FrameError.{FrameError}
use Rattle.jxl_lossless.specs.declared.still.error.FrameError.TheVariants as errors
use Rattle.jxl_lossless.specs.declared.still.places.Places.{Places}

module _ (x : Places) where
  abbrev Lies : Section → Type 0
  Lies s = IsOfGroup x s

  pub none_added : (before : List Section) → AreAdded x [] before before
  none_added before = record {
    more = [];
    in_order = sym (append-nil before);
    parts_are = refl;
    groups = All-nil Lies;
  }

  pub one_added : (part : SectionPart) (before after : List Section) (s : Section) → IsPlaced x part s → after ≡ before ++ s ∷ [] → AreAdded x (part ∷ []) before after
  one_added part before after s placed pushed = record {
    more = s ∷ [];
    in_order = pushed;
    parts_are = ap (λ p. p ∷ []) placed.is;
    groups = All-cons Lies s [] placed.group (All-nil Lies);
  }

  pub added_then : (ps qs : List SectionPart) (before between after : List Section) → AreAdded x ps before between → AreAdded x qs between after → AreAdded x (ps ++ qs) before after
  added_then ps qs before between after p q = record {
    more = p.more ++ q.more;
    in_order = q.in_order ∙ ap (λ s. s ++ q.more) p.in_order ∙ append_assoc before p.more q.more;
    parts_are = map-append (λ (s : Section). s.part) p.more q.more ∙ ap (λ l. l ++ map (λ (s : Section). s.part) q.more) p.parts_are ∙ ap (λ l. ps ++ l) q.parts_are;
    groups = All-append Lies p.more q.more p.groups q.groups;
  }

pub any_of : (part : SectionPart) (ps : List SectionPart) → IsAmong part ps → Any (λ q. q ≡ part) ps
any_of part [] h = absurd h
any_of part (q ∷ ps) (inl h) = (0, q, omega arith, refl, h)
any_of part (q ∷ ps) (inr h) =
    let (k, t, lt, is, same) = any_of part ps h in
    (suc k, t, omega (arith, lt), is, same)

pub among_of : (part : SectionPart) (ps : List SectionPart) → Any (λ q. q ≡ part) ps → IsAmong part ps
among_of part [] h = absurd (let lt = h.2 in omega (arith, lt))
among_of part (q ∷ ps) (zero, t, lt, is, same) = let e : q ≡ t = cc in inl (e ∙ same)
among_of part (q ∷ ps) (suc k, t, lt, is, same) = inr (among_of part ps (k, t, omega (arith, lt), is, same))

-- what fails for some parts fails for others among which they are
pub fails_wider : (x : Places) (ps qs : List SectionPart) → ((q : SectionPart) → IsAmong q ps → IsAmong q qs) → (e : FrameError) → AddingFails x ps e → AddingFails x qs e
fails_wider x ps qs wider errors.NoSection h = record { part = h.part; asked = any_of h.part qs (wider h.part (among_of h.part ps h.asked)); none = h.none }
fails_wider x ps qs wider errors.OutOfMemory h = tt
fails_wider x ps qs wider (errors.Header e) h = absurd h
fails_wider x ps qs wider errors.WeightedPalette h = absurd h
fails_wider x ps qs wider errors.NoGroups h = absurd h
fails_wider x ps qs wider errors.GroupWeightedPalette h = absurd h
fails_wider x ps qs wider errors.TooManyCodewords h = absurd h
fails_wider x ps qs wider errors.TooManyDecisions h = absurd h
fails_wider x ps qs wider (errors.Samples e) h = absurd h

-- what fails for one part fails for all parts among which it is
pub fails_among : (x : Places) (q : SectionPart) (ps : List SectionPart) → IsAmong q ps → (e : FrameError) → AddingFails x (q ∷ []) e → AddingFails x ps e
fails_among x q ps among e h = fails_wider x (q ∷ []) ps only e h where
  only : (r : SectionPart) → IsAmong r (q ∷ []) → IsAmong r ps
  only r (inl same) = subst (λ p. IsAmong p ps) same among
  only r (inr none) = absurd none

-- the part of number k is among the first n with samples
pub among_first : (p : SectionPart → Bool) (f : ℕ → SectionPart) (n k : ℕ) → k < n → p (f k) ≡ true → IsAmong (f k) (filter p (map f (range_with_len 0 n)))
among_first p f n k lt some = among_filter p (f k) (map f (range_with_len 0 n)) some (among_range f n k lt)

-- the section that was found is the one that is added
pub pushed : (x : Places) (part : SectionPart) (before after : List Section) (s : Section) → IsPlaced x part s → after ≡ before ++ s ∷ [] → AreAdded x (part ∷ []) before after
pushed x part before after s placed e = one_added x part before after s placed e

-- one part that has no section
pub lacks_one : (x : Places) (part : SectionPart) → section_at x part ≡ None → Lacks x (part ∷ [])
lacks_one x part none = record { part = part; asked = any_of part (part ∷ []) (inl refl); none = none }

-- What stopping sections say by their bits alone: which are coded, and how the next one fails.
use Rattle.std.proofs.Common.{◌≡◌, ◌∙◌, ℕ, ◌+◌, ◌*◌, pos, Bool, true, false, inl, inr, List, [], ◌∷◌, ◌++◌, Ok, Err, ℤ, Result, refl, sym, ap, subst}
use Rattle.std.specs.Prelude.{◌⊎◌, MatchBool, Option, nat_lt}
use Rattle.std.specs.Int.{Width}
use Rattle.std.specs.List.{All}
use Rattle.std.proofs.lemmas.List.Elements.{All-cons, All-nil}
use Rattle.jxlm_bits.specs.Bits.{bytes_of, position_of}
use Rattle.jxlm_bits.specs.Decoding.{Meaning}
use Rattle.jxlm_bits.specs.ErrorKind.{ErrorKind, NoMemory, UnlessMemory, kind_of}
use Rattle.jxlm_bits.specs.declared.decoder.DecoderError.{DecoderError}
use Rattle.jxlm_bits.specs.declared.decoder.DecoderError.TheVariants as cause
use Rattle.jxlm_bits.specs.declared.error.Error.{Error}
use Rattle.jxlm_bits.specs.declared.error.Error.TheVariants as errors
use Rattle.jxlm_base.specs.Grid.{Grid}
use Rattle.jxlm_base.specs.Regions.{grids_in, store_meanings}
use Rattle.jxlm_base.specs.declared.subgrid.Region.{Region}
use Rattle.jxlm_ma_tree.proofs.Memory.{unless_so}
use Rattle.jxlm_tree.specs.Tree.{Config, depth}
use Rattle.jxlm_groups.specs.declared.pass.Pass.{Pass}
use Rattle.jxlm_samples.specs.Coded.{DecodingFails}
use Rattle.jxlm_samples.specs.Decode.{DecodeGives, Fails, Standing}
use Rattle.jxlm_samples.specs.Part.{Part, cell_count}
use Rattle.jxlm_samples.specs.Placed.{standing_in}
use Rattle.jxlm_header.specs.Opening.{Opening}
use Rattle.jxl_modular.specs.Groups.{held_in, part_in}
use Rattle.jxl_modular.specs.Image.{Image}
use Rattle.jxlm_nested.specs.Starts.{Start, coded_part}
use Rattle.jxl_modular.specs.Nested.{NestedDone, NestedStops, NestedTurn, NotBegun, PartTurn, Turn, nested_regions, with_tables}
use Rattle.jxl_modular.specs.Sections.{AllTurn, CodesNested, CodesPart, CodesWhole, SectionTurn, SectionsStop, list_in}
use Rattle.jxl_modular.specs.declared.sections.Section.{Section}
use Rattle.jxlm_section_split.proofs.WithoutStore.{storeless}
use Rattle.jxl_lossless.specs.Stills.{HeaderFails, PartFails}

never : {X : Type 0} → false ≡ true → X
never e = cc

-- memory aside, where the error is of memory
no_memory : (error : ErrorKind) (P : Type 0) → error ≡ NoMemory → UnlessMemory error P
no_memory error P is = subst (λ (f : ErrorKind). UnlessMemory f P) (sym is) tt

-- ---- a part

module _ {D : Type 0} (d : Meaning D) (w : Width) (part : Part) (bytes : List ℕ) (decoder : D) (old new : Standing) where
  decoding_fails : (e : DecoderError) (tried : ℕ) → Fails d w part bytes decoder old new e tried → DecodingFails d w part bytes decoder old.position e new.position tried
  decoding_fails e tried (some, inl begins) = (some, inl (begins.error, ap (λ (s : Standing). s.position) begins.unchanged, begins.tries))
  decoding_fails e tried (some, inr later) = (some, inr (later.count, new.grids, later.fails))

  -- decoding its samples returned an error
  part_error : (e : Error) (tried : ℕ) → DecodeGives d w part bytes decoder old new false (Err e) tried → UnlessMemory (kind_of e) (PartFails d w part bytes decoder old.position (kind_of e))
  part_error (errors.Decoder cause.UnexpectedEof) tried h = (cause.UnexpectedEof, new.position, tried, decoding_fails cause.UnexpectedEof tried h.1, refl)
  part_error (errors.Decoder (cause.Invalid k)) tried h = (cause.Invalid k, new.position, tried, decoding_fails (cause.Invalid k) tried h, refl)
  part_error (errors.Decoder cause.OutOfMemory) tried h = tt
  part_error (errors.Buffer m) tried h = tt
  part_error (errors.Bitstream e) tried h = absurd h
  part_error errors.InvalidMaTree tried h = absurd h
  part_error errors.GlobalMaTreeNotAvailable tried h = absurd h
  part_error errors.InvalidRctParams tried h = absurd h
  part_error errors.InvalidPaletteParams tried h = absurd h
  part_error errors.InvalidSqueezeParams tried h = absurd h

  -- or none: it is coded whole
  part_whole : (tried : ℕ) → DecodeGives d w part bytes decoder old new false (Ok tt) tried → CodesWhole d w part bytes decoder old.position new.grids (cell_count part.channels * (depth part.tree + 1))
  part_whole tried (inl whole) = record { end = new.position; coded = whole.coded; sizes = whole.fits; costs = refl }
  part_whole tried (inr fails) = never fails.0

-- the same of its turn
module _ {S D : Type 0} (d : Meaning D) (w : Width) (to_int : S → ℤ) (part : Part) (bytes : List ℕ) (decoder : D) (p : ℕ) (regions : List Region) (t : Turn) (old new : List (Grid S)) where
  abbrev at_start : Standing
  at_start = standing_in to_int regions old p (nat_lt 0 (cell_count part.channels))

  abbrev at_end : Standing
  at_end = standing_in to_int regions new t.position t.partial

  part_failed : (e : Error) → PartTurn d w to_int part bytes decoder p regions false (Err e) t old new → UnlessMemory (kind_of e) (PartFails d w part bytes decoder p (kind_of e))
  part_failed e h = part_error d w part bytes decoder at_start at_end e t.tried h.answers

  part_coded : PartTurn d w to_int part bytes decoder p regions false (Ok tt) t old new →
      CodesWhole d w part bytes decoder p (grids_in regions (store_meanings to_int new)) (cell_count part.channels * (depth part.tree + 1))
  part_coded h = part_whole d w part bytes decoder at_start at_end t.tried h.answers

-- ---- a section

module _ (b : Bool) {P Q : Type 0} where
  -- what either case gives, at some grids and some number
  either_coded : (R T : List (Grid ℤ) → ℕ → Type 0) → (P → (gs : List (Grid ℤ)) × (n : ℕ) × R gs n) → (Q → (gs : List (Grid ℤ)) × (n : ℕ) × T gs n) →
      MatchBool b P Q → (gs : List (Grid ℤ)) × (n : ℕ) × MatchBool b (R gs n) (T gs n)
  either_coded R T f g h = by b h where
    by : (c : Bool) → MatchBool c P Q → (gs : List (Grid ℤ)) × (n : ℕ) × MatchBool c (R gs n) (T gs n)
    by true p = f p
    by false q = g q

  -- and memory aside
  either_fails : (error : ErrorKind) (R T : Type 0) → (P → UnlessMemory error R) → (Q → UnlessMemory error T) → MatchBool b P Q → UnlessMemory error (MatchBool b R T)
  either_fails error R T f g h = by b h where
    by : (c : Bool) → MatchBool c P Q → UnlessMemory error (MatchBool c R T)
    by true p = f p
    by false q = g q

module _ {S D : Type 0} (d : Meaning D) (w : Width) (to_int : S → ℤ) (zero : S) (x : Image S D) (passes : List Pass) (global : Option (Config D)) where
  abbrev alone : Image ℤ D
  alone = storeless x

  abbrev Codes : Section → List (Grid ℤ) → ℕ → Type 0
  Codes s grids nodes = CodesPart {S = ℤ} d w (λ v. v) (pos 0) alone passes global s grids nodes

  -- the section codes some grids of its part whole
  abbrev pub CodesSome : Section → Type 0
  CodesSome s = (grids : List (Grid ℤ)) × (nodes : ℕ) × Codes s grids nodes

  abbrev Nested : Section → List (Grid ℤ) → ℕ → Type 0
  Nested s grids nodes = CodesNested {S = ℤ} d w (λ v. v) (pos 0) alone passes global s grids nodes

  abbrev Plain : Section → List (Grid ℤ) → ℕ → Type 0
  Plain s grids nodes = CodesWhole d w (part_in alone passes s.part s.stream_index) (bytes_of s.bits) alone.config.decoder (position_of s.bits) grids nodes

  abbrev Done : Section → Turn → List (Grid S) → List (Grid S) → Type 0
  Done s t old new = NestedDone d w to_int zero x.bit_depth global (bytes_of s.bits) (position_of s.bits) (list_in x passes s.part) (held_in x passes s.part) s.stream_index false t old new

  abbrev PlainTurn : Section → Result (Unit {0}) Error → Turn → List (Grid S) → List (Grid S) → Type 0
  PlainTurn s result t old new = PartTurn d w to_int (part_in x passes s.part s.stream_index) (bytes_of s.bits) x.config.decoder (position_of s.bits) (held_in x passes s.part) false result t old new

  -- where the channels of its own header lie
  abbrev regions_in : Section → Opening → List (Grid S) → List Region
  regions_in s head old = nested_regions (held_in x passes s.part) head.coded.steps old

  nested_coded : (s : Section) (t : Turn) (old new : List (Grid S)) → Done s t old new → (grids : List (Grid ℤ)) × (nodes : ℕ) × Nested s grids nodes
  nested_coded s t old new h =
      let part : Part = coded_part s.stream_index h.start.head h.start.config in (
        grids_in (held_in x passes s.part) (store_meanings to_int new),
        cell_count part.channels * (depth part.tree + 1),
        record {
          start = h.start;
          samples = grids_in (regions_in s h.start.head old) (store_meanings to_int h.now);
          coded = part_coded d w to_int part (bytes_of s.bits) h.start.config.decoder h.start.samples_at (regions_in s h.start.head old) t (with_tables zero h.start.head.coded.steps old) h.now h.decoded;
          only = h.only;
        },
      )

  plain_coded : (s : Section) (t : Turn) (old new : List (Grid S)) → PlainTurn s (Ok tt) t old new → (grids : List (Grid ℤ)) × (nodes : ℕ) × Plain s grids nodes
  plain_coded s t old new h =
      let part : Part = part_in x passes s.part s.stream_index in (
        grids_in (held_in x passes s.part) (store_meanings to_int new),
        cell_count part.channels * (depth part.tree + 1),
        part_coded d w to_int part (bytes_of s.bits) x.config.decoder (position_of s.bits) (held_in x passes s.part) t old new h,
      )

  section_coded : (s : Section) (t : Turn) (old new : List (Grid S)) → SectionTurn d w to_int zero x passes global false s (Ok tt) t old new → CodesSome s
  section_coded s t old new h = either_coded s.nested (Nested s) (Plain s) (nested_coded s t old new) (plain_coded s t old new) h

  all_coded : (ss : List Section) (ts : List Turn) (old new : List (Grid S)) → AllTurn d w to_int zero x passes global false ss ts old new → All CodesSome ss
  all_coded [] [] old new h = All-nil CodesSome
  all_coded [] (t ∷ ts) old new h = absurd h
  all_coded (s ∷ ss) [] old new h = absurd h
  all_coded (s ∷ ss) (t ∷ ts) old new h =
      let (between, turn, rest) = h in
      All-cons CodesSome s ss (section_coded s t old between turn) (all_coded ss ts between new rest)

  -- the errors of a section with a header of its own, and of one without
  abbrev NestedFails : Section → ErrorKind → Type 0
  NestedFails s error =
      HeaderFails d global (list_in alone passes s.part) (bytes_of s.bits) (position_of s.bits) error
      ⊎ ((own : Start d global (bytes_of s.bits) (list_in alone passes s.part) (position_of s.bits))
      × PartFails d w (coded_part s.stream_index own.head own.config) (bytes_of s.bits) own.config.decoder own.samples_at error)

  abbrev PlainFails : Section → ErrorKind → Type 0
  PlainFails s error = PartFails d w (part_in alone passes s.part s.stream_index) (bytes_of s.bits) alone.config.decoder (position_of s.bits) error

  abbrev pub Failing : Section → ErrorKind → Type 0
  Failing s error = MatchBool s.nested (NestedFails s error) (PlainFails s error)

  abbrev Turned : Section → Error → Turn → List (Grid S) → List (Grid S) → Type 0
  Turned s e t old new = NestedTurn d w to_int zero x.bit_depth global (bytes_of s.bits) (position_of s.bits) (list_in x passes s.part) (held_in x passes s.part) s.stream_index false (Err e) t old new

  abbrev Stopped : Section → Error → Turn → List (Grid S) → List (Grid S) → Type 0
  Stopped s e t old new = NestedStops d w to_int zero x.bit_depth global (bytes_of s.bits) (position_of s.bits) (list_in x passes s.part) (held_in x passes s.part) s.stream_index false e t old new

  nested_stopped : (s : Section) (e : Error) (t : Turn) (old new : List (Grid S)) → Stopped s e t old new → UnlessMemory (kind_of e) (NestedFails s (kind_of e))
  nested_stopped s e t old new h = by h.cause where
    by : (h.answer ≡ Err e) ⊎ ((h.answer ≡ Ok tt) × (kind_of e ≡ NoMemory)) → UnlessMemory (kind_of e) (NestedFails s (kind_of e))
    by (inr memory) = no_memory (kind_of e) (NestedFails s (kind_of e)) memory.1
    by (inl is) =
        let part : Part = coded_part s.stream_index h.start.head h.start.config in
        let turn = subst (λ (r : Result (Unit {0}) Error). PartTurn d w to_int part (bytes_of s.bits) h.start.config.decoder h.start.samples_at (regions_in s h.start.head old) false r t (with_tables zero h.start.head.coded.steps old) h.now) is h.decoded in
        unless_so (kind_of e) (λ f. inr (h.start, f))
        (part_failed d w to_int part (bytes_of s.bits) h.start.config.decoder h.start.samples_at (regions_in s h.start.head old) t (with_tables zero h.start.head.coded.steps old) h.now e turn)

  nested_fails : (s : Section) (e : Error) (t : Turn) (old new : List (Grid S)) → Turned s e t old new → UnlessMemory (kind_of e) (NestedFails s (kind_of e))
  nested_fails s e t old new (inl begun) = unless_so (kind_of e) (λ f. inl (t.position, f)) begun.because
  nested_fails s e t old new (inr stopped) = nested_stopped s e t old new stopped

  plain_fails : (s : Section) (e : Error) (t : Turn) (old new : List (Grid S)) → PlainTurn s (Err e) t old new → UnlessMemory (kind_of e) (PlainFails s (kind_of e))
  plain_fails s e t old new h = part_failed d w to_int (part_in x passes s.part s.stream_index) (bytes_of s.bits) x.config.decoder (position_of s.bits) (held_in x passes s.part) t old new e h

  section_fails : (s : Section) (e : Error) (t : Turn) (old new : List (Grid S)) → SectionTurn d w to_int zero x passes global false s (Err e) t old new → UnlessMemory (kind_of e) (Failing s (kind_of e))
  section_fails s e t old new h =
      either_fails s.nested {P = Turned s e t old new} {Q = PlainTurn s (Err e) t old new} (kind_of e) (NestedFails s (kind_of e)) (PlainFails s (kind_of e)) (nested_fails s e t old new) (plain_fails s e t old new) h

  -- sections stop: the first are coded, and the next one fails
  abbrev pub FirstFails : List Section → ErrorKind → Type 0
  FirstFails sections error = (coded : List Section) × (failing : Section) × (others : List Section) × (sections ≡ coded ++ failing ∷ others) × All CodesSome coded × Failing failing error

  pub first_fails : (sections : List Section) (e : Error) (old new : List (Grid S)) (before after : ℕ) → SectionsStop d w to_int zero x passes global false sections e old new before after →
      UnlessMemory (kind_of e) (FirstFails sections (kind_of e))
  first_fails sections e old new before after h = by h.ends where
    by : (NotBegun (kind_of e ≡ NoMemory) h.last h.between new ⊎ ((s : Section) × (later : List Section) × (h.rest ≡ s ∷ later) × SectionTurn d w to_int zero x passes global false s (Err e) h.last h.between new)) →
        UnlessMemory (kind_of e) (FirstFails sections (kind_of e))
    by (inl begun) = no_memory (kind_of e) (FirstFails sections (kind_of e)) begun.because
    by (inr (s, later, is, turn)) =
        unless_so (kind_of e) (λ f. (h.done, s, later, h.in_order ∙ ap (λ (ss : List Section). h.done ++ ss) is, all_coded h.done h.turns old h.between h.left, f)) (section_fails s e h.last h.between new turn)

-- What is written beside the picture of a file, and what its failures say.
use Rattle.std.proofs.Common.{◌≡◌, ◌⊎◌, ℕ, inl, inr, List, [], ◌++◌, ◌||◌, ◌∙◌, ap, Bool, true, false, Option, Some, None, refl, sym, subst}
use Rattle.std.specs.Prelude.{◌&&◌, if◌then◌else◌, is_none}
use Rattle.std.specs.Io.KnownBytes.{Appends}
use Rattle.std.specs.declared.io.Error.{Error}
use Rattle.std.proofs.lemmas.List.{append-nil}
use Rattle.jxl_netpbm.specs.Output.{AppendsBeginning}
use Rattle.jxl_picture.specs.declared.limits.Limits.{Limits}
use Rattle.std.specs.Io.KnownBytes.{Consumes}
use Rattle.std.proofs.KnownBytes.{Consumes-trans}
use Rattle.jxl_command.specs.Streams.{IsReadPart, IsReadWhole}
use Rattle.jxldec_lines.specs.Failures.{IsOfSaving, has_lack}
use Rattle.jxldec_lines.specs.declared.failures.Lacks.{Lacks}
use Rattle.jxldec.specs.Texts.{AskedFails, FrameTextFails, InfoFails, InputFails, IsBegun, IsLookedFor, LayersFail, ListFails, ProfileFails, ReadingFails, TextFails, no_lacks}
use Rattle.jxldec_lines.specs.declared.failures.Failure.{Failure}
use Rattle.jxldec_lines.specs.declared.failures.Failure.TheVariants as failures
use Rattle.jxldec_options.specs.declared.options.Task.{Task}
use Rattle.jxldec_options.specs.declared.options.Task.TheVariants as tasks
use Rattle.jxldec_lines.specs.declared.format.OutputFormat.{OutputFormat}
use Rattle.jxldec_lines.specs.declared.format.OutputFormat.TheVariants.{Png}

-- data that were looked for
pub looked_for : (wanted : Bool) (Has : Option (List ℕ) → Type 0) (held found : Option (List ℕ)) (lack : Bool) → Has held → found ≡ (if wanted then held else None) → lack ≡ (wanted && is_none held) → IsLookedFor wanted Has lack found
looked_for true Has held found lack has is lacks = (subst Has (sym is) has, lacks ∙ ap is_none (sym is))
looked_for false Has held found lack has is lacks = (is, lacks)

-- so it is where the option is given by another name
pub looked_for_by : (wanted given : Bool) (Has : Option (List ℕ) → Type 0) (held found : Option (List ℕ)) (lack : Bool) → wanted ≡ given → Has held → found ≡ (if wanted then held else None) → lack ≡ (wanted && is_none held) → IsLookedFor given Has lack found
looked_for_by wanted given Has held found lack e has is lacks = subst (λ (w : Bool). IsLookedFor w Has lack found) e (looked_for wanted Has held found lack has is lacks)

-- a file that lacks nothing
pub lacks_nothing : (lacks : Lacks) → has_lack lacks ≡ false → lacks ≡ no_lacks
lacks_nothing lacks e = by lacks.profile lacks.exif lacks.xmp e where
  by : (p x m : Bool) → (p || (x || m)) ≡ false → ◌≡◌ {A = Lacks} (record { profile = p; exif = x; xmp = m }) no_lacks
  by false false false e = refl
  by true x m e = let bad : ⊥ = cc in absurd bad
  by false true m e = let bad : ⊥ = cc in absurd bad
  by false false true e = let bad : ⊥ = cc in absurd bad

-- more was read
pub more_read : (left mid rest : Option (List ℕ)) (start : List ℕ) → Consumes left mid start → IsReadPart mid rest → IsReadPart left rest
more_read left mid rest start first more = record { part = start ++ more.part; read = Consumes-trans left mid rest start more.part first more.read }

-- what is wrong with a file is wrong with the data beside its picture
pub info_of_metadata : (limits : Limits) (file : List ℕ) (failure : Failure) → InfoFails limits file failure → ProfileFails limits file failure
info_of_metadata limits file (failures.File e) h = h
info_of_metadata limits file (failures.TooLarge size extra most) h = h
info_of_metadata limits file failures.OutOfMemory h = h
info_of_metadata limits file (failures.Missing extra) h = absurd h
info_of_metadata limits file (failures.Unreadable e) h = absurd h
info_of_metadata limits file (failures.Frames e) h = absurd h
info_of_metadata limits file (failures.NoFrame n) h = absurd h
info_of_metadata limits file failures.NoFormat h = absurd h
info_of_metadata limits file failures.Ending h = absurd h
info_of_metadata limits file failures.Foreign h = absurd h
info_of_metadata limits file (failures.Unwritable e) h = absurd h
info_of_metadata limits file failures.Closed h = absurd h
info_of_metadata limits file (failures.Unsaved extra e) h = absurd h

-- or with the picture of this number
pub info_of_frame : (limits : Limits) (file : List ℕ) (number : ℕ) (asked : Option OutputFormat) (failure : Failure) → InfoFails limits file failure → FrameTextFails limits file number asked failure
info_of_frame limits file number asked (failures.File e) h = h
info_of_frame limits file number asked (failures.TooLarge size extra most) h = h
info_of_frame limits file number asked failures.OutOfMemory h = h
info_of_frame limits file number asked (failures.Missing extra) h = absurd h
info_of_frame limits file number asked (failures.Unreadable e) h = absurd h
info_of_frame limits file number asked (failures.Frames e) h = absurd h
info_of_frame limits file number asked (failures.NoFrame n) h = absurd h
info_of_frame limits file number asked failures.NoFormat h = absurd h
info_of_frame limits file number asked failures.Ending h = absurd h
info_of_frame limits file number asked failures.Foreign h = absurd h
info_of_frame limits file number asked (failures.Unwritable e) h = absurd h
info_of_frame limits file number asked failures.Closed h = absurd h
info_of_frame limits file number asked (failures.Unsaved extra e) h = absurd h

-- a whole text is a beginning of it
pub whole_begins : (old new : Option (List ℕ)) (text : List ℕ) → Appends old new text → AppendsBeginning old new text
whole_begins old new text appended = record { part = text; rest = []; appended = appended; whole = sym (append-nil text) }

-- so where data beside the picture cannot be written, the output holds a beginning of its text
pub saving_fails : (task : Task) (limits : Limits) (asked : Option OutputFormat) (wanted : Bool) (left rest : Option (List ℕ)) (Unread : Error → Type 0) (old new : Option (List ℕ)) (failure : Failure) → IsOfSaving failure →
    IsReadWhole left rest (IsBegun task limits asked old new) → InputFails task limits asked wanted left rest Unread old new failure
saving_fails task limits asked wanted left rest Unread old new (failures.Unsaved extra e) of begun = begun
saving_fails task limits asked wanted left rest Unread old new (failures.File e) of begun = absurd of
saving_fails task limits asked wanted left rest Unread old new (failures.TooLarge size extra most) of begun = absurd of
saving_fails task limits asked wanted left rest Unread old new (failures.Missing extra) of begun = absurd of
saving_fails task limits asked wanted left rest Unread old new failures.OutOfMemory of begun = absurd of
saving_fails task limits asked wanted left rest Unread old new (failures.Unreadable e) of begun = absurd of
saving_fails task limits asked wanted left rest Unread old new (failures.Frames e) of begun = absurd of
saving_fails task limits asked wanted left rest Unread old new (failures.NoFrame n) of begun = absurd of
saving_fails task limits asked wanted left rest Unread old new failures.NoFormat of begun = absurd of
saving_fails task limits asked wanted left rest Unread old new failures.Ending of begun = absurd of
saving_fails task limits asked wanted left rest Unread old new failures.Foreign of begun = absurd of
saving_fails task limits asked wanted left rest Unread old new (failures.Unwritable e) of begun = absurd of
saving_fails task limits asked wanted left rest Unread old new failures.Closed of begun = absurd of

-- a failure that nothing says of a file is none of what is asked of it
none_asked : (limits : Limits) (asked : Option OutputFormat) (wanted : Bool) (file : List ℕ) (failure : Failure) → (ListFails limits file failure → ⊥) → ((format : Option OutputFormat) → TextFails limits file format failure → ⊥) →
    ((number : ℕ) → FrameTextFails limits file number asked failure → ⊥) → (LayersFail limits file failure → ⊥) → (InfoFails limits file failure → ⊥) → ((wanted ≡ true) × ProfileFails limits file failure → ⊥) →
    (task : Task) → AskedFails task limits asked file failure ⊎ ((wanted ≡ true) × ProfileFails limits file failure) → ⊥
none_asked limits asked wanted file failure list text frame layers info beside task (inr h) = beside h
none_asked limits asked wanted file failure list text frame layers info beside tasks.Headers (inl h) = list h
none_asked limits asked wanted file failure list text frame layers info beside tasks.Picture (inl (inl h)) = text asked h.0
none_asked limits asked wanted file failure list text frame layers info beside tasks.Picture (inl (inr h)) = frame 0 h.1
none_asked limits asked wanted file failure list text frame layers info beside tasks.Animation (inl (inl h)) = text (Some Png) h.0
none_asked limits asked wanted file failure list text frame layers info beside tasks.Animation (inl (inr h)) = layers h.1
none_asked limits asked wanted file failure list text frame layers info beside (tasks.Frame number) (inl h) = frame number h
none_asked limits asked wanted file failure list text frame layers info beside tasks.Nothing (inl h) = info h

-- what is wrong with a file that was read is wrong with the input
module _ (task : Task) (limits : Limits) (asked : Option OutputFormat) (wanted : Bool) (left rest : Option (List ℕ)) (Unread : Error → Type 0) (old new : Option (List ℕ)) where
  pub asked_fails : (failure : Failure) → IsReadWhole left rest (λ file. AskedFails task limits asked file failure ⊎ ((wanted ≡ true) × ProfileFails limits file failure)) → InputFails task limits asked wanted left rest Unread old new failure
  asked_fails (failures.File e) h = h
  asked_fails (failures.TooLarge size extra most) h = h
  asked_fails (failures.Missing lacks) h = absurd (none_asked limits asked wanted h.file (failures.Missing lacks) (λ x. x) (λ _ x. x) (λ _ x. x) (λ x. x) (λ x. x) (λ x. x.1) task h.is)
  asked_fails failures.OutOfMemory h = h
  asked_fails (failures.Frames e) h = h
  asked_fails (failures.NoFrame n) h = h
  asked_fails failures.NoFormat h = h
  asked_fails failures.Ending h = h
  asked_fails failures.Foreign h = absurd (none_asked limits asked wanted h.file failures.Foreign (λ x. x) (λ _ x. x) (λ _ x. x) (λ x. x) (λ x. x) (λ x. x.1) task h.is)
  asked_fails (failures.Unreadable e) h = absurd (none_asked limits asked wanted h.file (failures.Unreadable e) (λ x. x) (λ _ x. x) (λ _ x. x) (λ x. x) (λ x. x) (λ x. x.1) task h.is)
  asked_fails (failures.Unwritable e) h = absurd (none_asked limits asked wanted h.file (failures.Unwritable e) (λ x. x) (λ _ x. x) (λ _ x. x) (λ x. x) (λ x. x) (λ x. x.1) task h.is)
  asked_fails failures.Closed h = absurd (none_asked limits asked wanted h.file failures.Closed (λ x. x) (λ _ x. x) (λ _ x. x) (λ x. x) (λ x. x) (λ x. x.1) task h.is)
  asked_fails (failures.Unsaved extra e) h = absurd (none_asked limits asked wanted h.file (failures.Unsaved extra e) (λ x. x) (λ _ x. x) (λ _ x. x) (λ x. x) (λ x. x) (λ x. x.1) task h.is)

  -- so is an input that is not read to its end
  pub reading_fails : (failure : Failure) → ReadingFails left rest Unread failure → InputFails task limits asked wanted left rest Unread old new failure
  reading_fails (failures.Unreadable e) h = h
  reading_fails failures.Foreign h = h
  reading_fails (failures.File e) h = absurd h
  reading_fails (failures.TooLarge size extra most) h = absurd h
  reading_fails (failures.Missing lacks) h = absurd h
  reading_fails failures.OutOfMemory h = absurd h
  reading_fails (failures.Frames e) h = absurd h
  reading_fails (failures.NoFrame n) h = absurd h
  reading_fails failures.NoFormat h = absurd h
  reading_fails failures.Ending h = absurd h
  reading_fails (failures.Unwritable e) h = absurd h
  reading_fails failures.Closed h = absurd h
  reading_fails (failures.Unsaved extra e) h = absurd h

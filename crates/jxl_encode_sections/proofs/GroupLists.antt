-- The groups of a frame, listed one after another.
use Rattle.std.proofs.Common.{◌≡◌, ◌≢◌, ◌∙◌, inl, inr, ℕ, zero, suc, ◌+◌, ◌*◌, ◌<◌, Bool, true, false, nat_lt, ◌==◌, ◌&&◌, if◌then◌else◌, List, [], ◌∷◌, ◌++◌, Contains, refl, sym, ap, subst, arith}
use Rattle.std.specs.List.{All}
use Rattle.std.proofs.lemmas.Bool.{cases_lt, false≢true, ltb-true}
use Rattle.std.proofs.lemmas.List.Elements.{All-nil, All-push, Contains-append_left, Contains-push}
use Rattle.jxlm_groups.specs.Counts.{exists, group_count}
use Rattle.jxlm_groups.specs.Parts.{part_in}
use Rattle.jxlm_groups.specs.Pieces.{part_channels}
use Rattle.jxlm_groups.specs.declared.part.Kind.{Kind}
use Rattle.jxlm_groups.specs.declared.part.Kind.TheVariants as kinds
use Rattle.jxlm_groups.specs.declared.part.SectionPart.{SectionPart}
use Rattle.jxlm_groups.specs.declared.part.SectionPart.TheVariants as parts
use Rattle.jxlm_groups.proofs.PartChannels.{counts_cells}
use Rattle.jxlm_groups.proofs.PieceFacts.{held_exists, lf_exists, pass_exists}
use Rattle.jxlm_samples.specs.Part.{cell_count}
use Rattle.jxlm_section_split.specs.CutPicture.{one_pass}
use Rattle.jxlm_transform.specs.Channels.{ChannelList}
use Rattle.jxl_codestream.specs.Layouts.{Layout, has_part, section_count_of, section_number}
use Rattle.jxl_encode_frame.specs.Numbers.{HasNumber}
use Rattle.jxl_encode_frame.proofs.Streams.{later_pass, right_of}
use Rattle.jxl_encode_sections.specs.Inner.Groups.{AreGroupsOf, AreMoreGroups}

left_of : (b c : Bool) → (b && c) ≡ true → b ≡ true
left_of true c e = refl
left_of false c e = cc

module _ (l : Layout) where
  many_by : (b : Bool) → ((l.groups == 1) && (l.passes == 1)) ≡ b → section_count_of l ≢ 1 → section_count_of l ≡ 2 + l.lf_groups + l.passes * l.groups
  many_by true is ne = absurd (ne (ap (λ b. if b then 1 else 2 + l.lf_groups + l.passes * l.groups) is))
  many_by false is ne = ap (λ b. if b then 1 else 2 + l.lf_groups + l.passes * l.groups) is

  module _ (many : section_count_of l ≢ 1) where
    all : section_count_of l ≡ 2 + l.lf_groups + l.passes * l.groups
    all = many_by ((l.groups == 1) && (l.passes == 1)) refl many

    below : (part : SectionPart) → has_part l part ≡ true → section_number l part < 2 + l.lf_groups + l.passes * l.groups
    below parts.Global e = omega arith
    below (parts.Lf k) e = let lt : k < l.lf_groups = ltb-true k l.lf_groups e in omega (arith, lt)
    below (parts.Pass p k) e =
        let first : p < l.passes = ltb-true p l.passes (left_of (nat_lt p l.passes) (nat_lt k l.groups) e) in
        let second : k < l.groups = ltb-true k l.groups (right_of (nat_lt p l.passes) (nat_lt k l.groups) e) in
        let up = later_pass l.groups p l.passes k 0 first second in
        omega (arith, up)

    -- a part of a frame with more than one section has one
    pub numbered : (part : SectionPart) → has_part l part ≡ true → HasNumber l part
    numbered part has = record { has = has; below = subst (λ n. section_number l part < n) (sym all) (below part has) }

    -- the list before the first group
    pub none_more : (kind : Kind) (old : List SectionPart) → AreMoreGroups l kind 0 old old
    none_more kind old = record { numbers = λ h. h; others = λ h. h; kept = λ part h. h; added = λ k lt has. absurd (omega (arith, lt)) }

    -- one group more that the frame has
    pub one_more_has : (kind : Kind) (k : ℕ) (old mid new : List SectionPart) (part : SectionPart) → part ≡ part_in kind k → part ≢ parts.Global → has_part l part ≡ true → new ≡ mid ++ part ∷ [] →
        AreMoreGroups l kind k old mid → AreMoreGroups l kind (k + 1) old new
    one_more_has kind k old mid new part is other has pushed before = record {
      numbers = λ h. subst (All (HasNumber l)) (sym pushed) (All-push (HasNumber l) mid part (before.numbers h) (numbered part has));
      others = λ h. subst (All (λ (q : SectionPart). q ≢ parts.Global)) (sym pushed) (All-push (λ (q : SectionPart). q ≢ parts.Global) mid part (before.others h) other);
      kept = λ q h. subst (λ (xs : List SectionPart). Contains xs q) (sym pushed) (Contains-append_left mid (part ∷ []) q (before.kept q h));
      added = λ j lt there.
          elim (cases_lt j k) [
            | inl low ↦ subst (λ (xs : List SectionPart). Contains xs (part_in kind j)) (sym pushed) (Contains-append_left mid (part ∷ []) (part_in kind j) (before.added j low there))
            | inr high ↦
                let same : j ≡ k = omega (arith, lt, high) in
                subst (λ (xs : List SectionPart). Contains xs (part_in kind j)) (sym pushed)
                (subst (λ (q : SectionPart). Contains (mid ++ part ∷ []) q) (is ∙ ap (part_in kind) (sym same)) (Contains-push mid part))
          ];
    }

    -- one that it does not have
    pub one_more_not : (kind : Kind) (k : ℕ) (old mid : List SectionPart) → has_part l (part_in kind k) ≡ false → AreMoreGroups l kind k old mid → AreMoreGroups l kind (k + 1) old mid
    one_more_not kind k old mid none before = record {
      numbers = before.numbers;
      others = before.others;
      kept = before.kept;
      added = λ j lt there.
          elim (cases_lt j k) [
            | inl low ↦ before.added j low there
            | inr high ↦
                let same : j ≡ k = omega (arith, lt, high) in
                absurd (false≢true (sym none ∙ ap (λ n. has_part l (part_in kind n)) (sym same) ∙ there))
          ];
    }

  -- no group has samples, where there is one section
  pub none_listed : (group_dim : ℕ) (list : ChannelList) → ((part : SectionPart) → part ≢ parts.Global → 0 < cell_count (part_channels group_dim one_pass list part) → (has_part l part ≡ true) × (section_count_of l ≢ 1)) →
      section_count_of l ≡ 1 → AreGroupsOf group_dim one_pass list l []
  none_listed group_dim list there one =
      record { numbers = All-nil (HasNumber l); others = All-nil (λ (q : SectionPart). q ≢ parts.Global); each = λ part other some. absurd ((there part other some).1 one) }

  -- all groups with samples are listed
  pub all_listed : (group_dim : ℕ) (list : ChannelList) → ((part : SectionPart) → part ≢ parts.Global → 0 < cell_count (part_channels group_dim one_pass list part) → (has_part l part ≡ true) × (section_count_of l ≢ 1)) →
      l.passes ≡ 1 → (mid new : List SectionPart) → AreMoreGroups l kinds.Lf (group_count group_dim one_pass list kinds.Lf) [] mid →
      AreMoreGroups l (kinds.Pass 0) (group_count group_dim one_pass list (kinds.Pass 0)) mid new → AreGroupsOf group_dim one_pass list l new
  all_listed group_dim list there single mid new low high = record {
    numbers = high.numbers (low.numbers (All-nil (HasNumber l)));
    others = high.others (low.others (All-nil (λ (q : SectionPart). q ≢ parts.Global)));
    each = λ part other some.
        let held = (counts_cells group_dim one_pass list part).0 some in
        listed part other (there part other some).0 (held_exists group_dim one_pass list part held.n held.x held.y held.has);
  } where
    listed : (part : SectionPart) → part ≢ parts.Global → has_part l part ≡ true → exists group_dim one_pass list part ≡ true → Contains new part
    listed parts.Global other has e = absurd (other refl)
    listed (parts.Lf k) other has e =
        high.kept (parts.Lf k) (low.added k (ltb-true k (group_count group_dim one_pass list kinds.Lf) (sym (lf_exists group_dim one_pass list k) ∙ e)) has)
    listed (parts.Pass zero k) other has e =
        high.added k (ltb-true k (group_count group_dim one_pass list (kinds.Pass 0)) (sym (pass_exists group_dim one_pass list 0 k) ∙ e)) has
    listed (parts.Pass (suc p) k) other has e =
        let lt : suc p < l.passes = ltb-true (suc p) l.passes (left_of (nat_lt (suc p) l.passes) (nat_lt k l.groups) has) in
        absurd (omega (arith, lt, single))

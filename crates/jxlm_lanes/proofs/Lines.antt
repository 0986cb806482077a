-- Lines of several columns, cell by cell.
use Rattle.std.proofs.Common.{◌≡◌, ◌≢◌, ℕ, ◌+◌, ◌*◌, ◌<◌, ◌≤◌, inl, inr, List, length, set, ℤ, FitsSigned, sym, refl, ap, ◌∙◌, subst, arith}
use Rattle.std.specs.Int.{Width}
use Rattle.std.proofs.Math.ListN.{length-set}
use Rattle.std.proofs.lemmas.Bool.{cases_lt}
use Rattle.jxlm_lanes.specs.Pairs.{number_at, first_of, second_of, of_column, ArePairs}
use Rattle.jxlm_lanes.proofs.NumberAt.{number_set_same, number_set_other}

below_next : (P : ℕ → Type 0) (k : ℕ) → ((j : ℕ) → j < k → P j) → P k → (j : ℕ) → j < k + 1 → P j
below_next P k h p j lt = elim (cases_lt j k) [ inl l ↦ h j l | inr g ↦ let e : k ≡ j = omega arith in subst P e p ]

module _ {S : Type 0} (f : S → ℤ) (w : Width) (averages next residuals old : List S) (n start : ℕ) where
  -- the first j columns are undone, and what stood before the pairs is as it was
  pub record LinesSoFar (strip : List S) (j : ℕ) : Type 0 where
    pub len : length strip ≡ length old
    pub kept : (i : ℕ) → i < start + n → number_at f strip i ≡ number_at f old i
    pub pairs : ArePairs f w averages next residuals n start strip j

  pub lines_from : (from : ℕ) → ArePairs f w averages next residuals n start old from → LinesSoFar old from
  lines_from from pairs = record { len = refl; kept = λ i h. refl; pairs = pairs }

  pub no_pairs : (strip : List S) → ArePairs f w averages next residuals n start strip 0
  no_pairs strip = record {
    first = λ i h. absurd (omega arith);
    second = λ i h. absurd (omega arith);
    averages_fit = λ i h. absurd (omega arith);
    residuals_fit = λ i h. absurd (omega arith);
  }

  pub fewer_pairs : (strip : List S) (k j : ℕ) → k ≤ j → ArePairs f w averages next residuals n start strip j → ArePairs f w averages next residuals n start strip k
  fewer_pairs strip k j le pairs = record {
    first = λ i h. pairs.first i (omega arith);
    second = λ i h. pairs.second i (omega arith);
    averages_fit = λ i h. pairs.averages_fit i (omega arith);
    residuals_fit = λ i h. pairs.residuals_fit i (omega arith);
  }

  -- a column's pair, from what stands before it in another strip
  pub of_column_same : (p : ℤ → ℤ → ℤ → ℤ → ℤ) (strip other : List S) (i : ℕ) → number_at f strip (start + i) ≡ number_at f other (start + i) →
      of_column f w averages next residuals n start p strip i ≡ of_column f w averages next residuals n start p other i
  of_column_same p strip other i e = ap (λ z. p z (number_at f averages i) (number_at f next i) (number_at f residuals i)) e

  -- all pairs, from what stands in the strip beforehand
  pub firsts : (strip : List S) → ((i : ℕ) → i < start + n → number_at f strip i ≡ number_at f old i) → ArePairs f w averages next residuals n start strip n →
      (i : ℕ) → i < n → number_at f strip (start + n + i) ≡ of_column f w averages next residuals n start (first_of w) old i
  firsts strip kept pairs i lt = pairs.first i lt ∙ of_column_same (first_of w) strip old i (kept (start + i) (omega arith))

  pub seconds : (strip : List S) → ((i : ℕ) → i < start + n → number_at f strip i ≡ number_at f old i) → ArePairs f w averages next residuals n start strip n →
      (i : ℕ) → i < n → number_at f strip (start + 2 * n + i) ≡ of_column f w averages next residuals n start (second_of w) old i
  seconds strip kept pairs i lt = pairs.second i lt ∙ of_column_same (second_of w) strip old i (kept (start + i) (omega arith))

  -- columns from j on are undone in a strip that is as before elsewhere
  pub more_pairs : (strip later : List S) (j k : ℕ) → k ≤ n →
      ((i : ℕ) → i < start + n → number_at f later i ≡ number_at f strip i) →
      ((i : ℕ) → i < j → number_at f later (start + n + i) ≡ number_at f strip (start + n + i)) →
      ((i : ℕ) → i < j → number_at f later (start + 2 * n + i) ≡ number_at f strip (start + 2 * n + i)) →
      ((i : ℕ) → j ≤ i → i < k → number_at f later (start + n + i) ≡ of_column f w averages next residuals n start (first_of w) strip i) →
      ((i : ℕ) → j ≤ i → i < k → number_at f later (start + 2 * n + i) ≡ of_column f w averages next residuals n start (second_of w) strip i) →
      ((i : ℕ) → j ≤ i → i < k → FitsSigned w (number_at f averages i)) →
      ((i : ℕ) → j ≤ i → i < k → FitsSigned w (number_at f residuals i)) →
      LinesSoFar strip j → length later ≡ length strip → LinesSoFar later k
  more_pairs strip later j k le kept one two first second averages_fit residuals_fit so_far len =
      let len0 = so_far.len in
      let pairs = so_far.pairs in
      let back : (p : ℤ → ℤ → ℤ → ℤ → ℤ) (i : ℕ) → i < k → of_column f w averages next residuals n start p strip i ≡ of_column f w averages next residuals n start p later i =
      λ p i lt. of_column_same p strip later i (sym (kept (start + i) (omega arith))) in
      record {
        len = len ∙ len0;
        kept = λ i lt. kept i lt ∙ so_far.kept i lt;
        pairs = record {
          first = λ i lt. elim (cases_lt i j) [ inl l ↦ one i l ∙ pairs.first i l ∙ back (first_of w) i lt | inr g ↦ first i g lt ∙ back (first_of w) i lt ];
          second = λ i lt. elim (cases_lt i j) [ inl l ↦ two i l ∙ pairs.second i l ∙ back (second_of w) i lt | inr g ↦ second i g lt ∙ back (second_of w) i lt ];
          averages_fit = λ i lt. elim (cases_lt i j) [ inl l ↦ pairs.averages_fit i l | inr g ↦ averages_fit i g lt ];
          residuals_fit = λ i lt. elim (cases_lt i j) [ inl l ↦ pairs.residuals_fit i l | inr g ↦ residuals_fit i g lt ];
        };
      }

  module _ (strip : List S) (j : ℕ) (a b s m x r : S) (h : j < n) (room : start + 3 * n ≤ length old)
      (es : number_at f strip (start + j) ≡ f s) (em : number_at f averages j ≡ f m) (ex : number_at f next j ≡ f x) (er : number_at f residuals j ≡ f r)
      (so_far : LinesSoFar strip j) where
    moved : (p : ℤ → ℤ → ℤ → ℤ → ℤ) → p (f s) (f m) (f x) (f r) ≡ of_column f w averages next residuals n start p strip j
    moved p =
        ap (λ z. p z (f m) (f x) (f r)) (sym es)
        ∙ ap (λ z. p (number_at f strip (start + j)) z (f x) (f r)) (sym em)
        ∙ ap (λ z. p (number_at f strip (start + j)) (number_at f averages j) z (f r)) (sym ex)
        ∙ ap (p (number_at f strip (start + j)) (number_at f averages j) (number_at f next j)) (sym er)

    pub lines_more : f a ≡ first_of w (f s) (f m) (f x) (f r) → f b ≡ second_of w (f s) (f m) (f x) (f r) → FitsSigned w (f m) → FitsSigned w (f r) →
        LinesSoFar (set (set strip (start + n + j) a) (start + 2 * n + j) b) (j + 1)
    lines_more ea eb fm fr =
        let one : List S = set strip (start + n + j) a in
        let later : List S = set one (start + 2 * n + j) b in
        let len = so_far.len in
        let len1 = length-set strip (start + n + j) a in
        let len2 = length-set one (start + 2 * n + j) b in
        let other : (i : ℕ) → i ≢ start + n + j → i ≢ start + 2 * n + j → number_at f later i ≡ number_at f strip i =
        λ i p q. number_set_other f one (start + 2 * n + j) i b (λ e. q (sym e)) ∙ number_set_other f strip (start + n + j) i a (λ e. p (sym e)) in
        let here : (P : ℕ → Type 0) → P j → (i : ℕ) → j ≤ i → i < j + 1 → P i = λ P p i g lt. (let e : j ≡ i = omega arith in subst P e p) in
        more_pairs strip later j (j + 1) (omega arith)
        (λ i lt. other i (omega arith) (omega arith))
        (λ i lt. other (start + n + i) (omega arith) (omega arith))
        (λ i lt. other (start + 2 * n + i) (omega arith) (omega arith))
        (here (λ i. number_at f later (start + n + i) ≡ of_column f w averages next residuals n start (first_of w) strip i)
        (number_set_other f one (start + 2 * n + j) (start + n + j) b (omega arith) ∙ number_set_same f strip (start + n + j) a (omega arith) ∙ ea ∙ moved (first_of w)))
        (here (λ i. number_at f later (start + 2 * n + i) ≡ of_column f w averages next residuals n start (second_of w) strip i)
        (number_set_same f one (start + 2 * n + j) b (omega arith) ∙ eb ∙ moved (second_of w)))
        (here (λ i. FitsSigned w (number_at f averages i)) (subst (FitsSigned w) (sym em) fm))
        (here (λ i. FitsSigned w (number_at f residuals i)) (subst (FitsSigned w) (sym er) fr))
        so_far (omega arith)

module _ {S : Type 0} (f : S → ℤ) (w : Width) (line old : List S) (start : ℕ) where
  -- the first j cells are copied
  pub record CopiedSoFar (strip : List S) (j : ℕ) : Type 0 where
    pub len : length strip ≡ length old
    pub kept : (i : ℕ) → i < start → number_at f strip i ≡ number_at f old i
    pub copied : (i : ℕ) → i < j → number_at f strip (start + i) ≡ number_at f line i
    pub fit : (i : ℕ) → i < j → FitsSigned w (number_at f line i)

  pub copied_none : CopiedSoFar old 0
  copied_none = record { len = refl; kept = λ i h. refl; copied = λ i h. absurd (omega arith); fit = λ i h. absurd (omega arith) }

  pub copied_more : (strip : List S) (j : ℕ) (v : S) → start + j < length old → number_at f line j ≡ f v → FitsSigned w (f v) → CopiedSoFar strip j → CopiedSoFar (set strip (start + j) v) (j + 1)
  copied_more strip j v h e fits so_far =
      let len = so_far.len in
      let len1 = length-set strip (start + j) v in
      record {
        len = omega arith;
        kept = λ i lt. number_set_other f strip (start + j) i v (omega arith) ∙ so_far.kept i lt;
        copied = below_next (λ i. number_at f (set strip (start + j) v) (start + i) ≡ number_at f line i) j
            (λ i lt. number_set_other f strip (start + j) (start + i) v (omega arith) ∙ so_far.copied i lt) (number_set_same f strip (start + j) v (omega arith) ∙ sym e);
        fit = below_next (λ i. FitsSigned w (number_at f line i)) j so_far.fit (subst (FitsSigned w) (sym e) fits);
      }

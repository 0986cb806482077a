-- The cuts that decisions on one property make (ISO/IEC 18181-1, Modular: meta-adaptive trees).
use Rattle.std.specs.Prelude.{ℕ, ◌+◌, ◌==◌, nat_lt, ℤ, pos, neg_ℤ, ◌+ℤ◌, int_lt, if◌then◌else◌, List, [], ◌∷◌, ◌++◌, ◌^◌, Option, Some, None}
use Rattle.std.specs.Int.{int_min, int_max}
use Rattle.jxlm_ma_tree.specs.Tree.{Shape, leaf, decision}
use Rattle.jxlm_ma_tree.specs.declared.leaf.Leaf.{Leaf}
use Rattle.jxlm_ma_tree.specs.declared.marks.Survey.{Survey}

-- the least and the greatest value of a property
abbrev pub least : ℤ
least = neg_ℤ (pos (2 ^ 31))

abbrev pub greatest : ℤ
greatest = pos 2147483647

-- the cuts that the decisions on property p that hang together from the root make in low..=high, in ascending order;
-- one that splits nothing is not counted
abbrev pub cuts : ℕ → ℤ → ℤ → Shape Leaf → List ℤ
cuts p low high (leaf l) = []
cuts p low high (decision q v left right) =
    if q == p
    then (if int_lt v low then cuts p low high left else (if int_lt v high then cuts p low v right ++ v ∷ cuts p (v +ℤ pos 1) high left else cuts p low high right))
    else []

-- the number of cuts, the least and the greatest
abbrev pub surveyed : Survey → List ℤ → Survey
surveyed s [] = s
surveyed s (v ∷ vs) = surveyed (record { cuts = s.cuts + 1; least = int_min s.least v; greatest = int_max s.greatest v }) vs

abbrev pub unsurveyed : Survey
unsurveyed = record { cuts = 0; least = greatest; greatest = least }

-- four ranges or more, and cuts that differ by at most 1022
abbrev pub worth : Survey → Option Survey
worth s = if nat_lt s.cuts 3 then None else (if int_lt (s.least +ℤ pos 1022) s.greatest then None else Some s)

-- the cuts of a decision that becomes a table
abbrev pub tabled : Shape Leaf → Option Survey
tabled (leaf l) = None
tabled (decision p v left right) = worth (surveyed unsurveyed (cuts p least greatest (decision p v left right)))

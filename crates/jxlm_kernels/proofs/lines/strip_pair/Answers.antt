use Rattle.std.proofs.Common.{◌≡◌, ℕ, ◌+◌, ◌*◌, ◌<◌, ℤ, FitsSigned, length, arith, sym, ap, subst}
use Rattle.std.specs.Int.{Width}
use Rattle.jxlm_lanes.specs.Squeeze.{averages}
use Rattle.jxlm_lanes.specs.Pairs.{number_at, first_of, second_of, line_in}
use Rattle.jxlm_kernels.proofs.Strips.{lines_within, pair_line}
use Rattle.jxlm_kernels.proofs.Turned.{line_numbers}
use Rattle.jxlm_kernels.proofs.lines.strip_pair.Goals as goal

pub line_of-next-requires : goal.line_of-next-requires
line_of-next-requires g c = let within = c.place_of_next.ensures.within in c.requires.inside c.place_of_next.result (omega arith)

pub unsqueeze_lines-requires-clause-room : goal.unsqueeze_lines-requires-clause-room
unsqueeze_lines-requires-clause-room g c =
    let room = lines_within c.args.k c.args.len c.args.columns (length c.args.strip.now) c.requires.pair c.requires.room in
    let len = c.line_of-averages.ensures.len in omega (arith, room, len)

pub returns : goal.returns
returns g c =
    let f = g.S.Pairs.to_int in
    let w : Width = g.S.Pairs.width in
    let coded = c.args.coded.now in
    let first : ℕ = c.args.start in
    let stride : ℕ = c.args.stride in
    let k : ℕ = c.args.k in
    let n : ℕ = c.args.columns in
    let h : ℕ = c.args.len in
    let start : ℕ = 2 * k * n in
    let col : ℕ → ℕ → ℤ = λ j. line_in f coded first stride j in
    let a = c.line_of-averages.result.now in
    let b = c.line_of-next.result.now in
    let d = c.line_of-residuals.result.now in
    let next : ℕ = c.place_of_next.result in
    let len : length a ≡ n = c.line_of-averages.ensures.len in
    let em : (j : ℕ) → j < n → number_at f a j ≡ col j k = line_numbers f coded a first stride n k c.line_of-averages.ensures.value in
    let ex : (j : ℕ) → j < n → number_at f b j ≡ col j next = line_numbers f coded b first stride n next c.line_of-next.ensures.value in
    let er : (j : ℕ) → j < n → number_at f d j ≡ col j (averages h + k) = line_numbers f coded d first stride n (averages h + k) c.line_of-residuals.ensures.value in
    let lines = pair_line f w c.args.strip.now c.unsqueeze_lines.new.strip a b d n start h k next col len em ex er c.place_of_next.ensures.value c.requires.stands_before in
    record {
      len = c.unsqueeze_lines.ensures.len;
      kept = λ i p. c.unsqueeze_lines.ensures.kept i (omega (arith, len));
      first = lines (first_of w) (start + length a) (start + n) (ap (λ m. start + m) (sym len)) c.unsqueeze_lines.ensures.first;
      second = lines (second_of w) (start + 2 * length a) (start + 2 * n) (ap (λ m. start + 2 * m) (sym len)) c.unsqueeze_lines.ensures.second;
      averages_fit = λ j q. subst (FitsSigned w) (em j q) (c.unsqueeze_lines.ensures.averages_fit j (omega (arith, len)));
      residuals_fit = λ j q. subst (FitsSigned w) (er j q) (c.unsqueeze_lines.ensures.residuals_fit j (omega (arith, len)));
    }

use Rattle.std.proofs.Common.{rules, ◌∙◌, sym}
use Rattle.jxlm_transform.proofs.Powers.{IsTrue-is_power_of_two}
use Rattle.jxlmod_commands.proofs.arguments.is_group_dim.Goals as goal

pub returns-then-contains : goal.returns-then-contains
returns-then-contains c =
    let power = IsTrue-is_power_of_two c.args.side in (
      λ t. (search rules, search rules, power.0 (sym c.is_power_of_two.ensures ∙ t)),
      λ d. c.is_power_of_two.ensures ∙ power.1 d.2,
    )

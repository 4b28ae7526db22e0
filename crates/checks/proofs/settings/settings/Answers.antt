-- `settings` meets its contract: the tests are those of the definition, the last told in another way.
use Rattle.table.specs.States.{state_as}
use Rattle.checks.proofs.SettingLaws.{settings_test}
use Rattle.checks.proofs.settings.settings.Goals as goal

pub returns : goal.returns
returns c =
    let a = c.args in
    rw c.sizes.ensures (settings_test a.memory (state_as a.s) a.table.now)

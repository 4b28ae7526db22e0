-- `calls::call::leaves` meets its contract: an access leaves the state.
use Rattle.interface.proofs.CallLaws.{access-leaves}
use Rattle.calls.proofs.call.leaves.Goals as goal

pub returns-in-Access : goal.returns-in-Access
returns-in-Access c h σ b ls = rw c.in-Access.is (access-leaves _ _ _ _ σ b)

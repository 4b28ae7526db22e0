-- `references::execute_only::grant_execute_only` meets its contract: the child is the whole segment.
use Rattle.references.proofs.ExecuteOnlyLaws.{execute_bears, execute_grants}
use Rattle.references.proofs.execute_only.grant_execute_only.Goals as goal

pub entry_at-e-requires : goal.entry_at-e-requires
entry_at-e-requires c = rw c.args.token.reads (execute_bears _ _ _ _ _ c.requires.0 _ c.requires.1).parent

pub grant_child-requires : goal.grant_child-requires
grant_child-requires c = rw c.args.token.reads (execute_bears _ _ _ _ _ c.requires.0 _ c.requires.1)

pub returns : goal.returns
returns c = execute_grants _ _ _ _ _ c.entry_at-e.result _ c.args.token.reads c.entry_at-e.ensures c.grant_child.ensures

-- `directory::over_limit` meets its contract.
use Rattle.directory.proofs.over_limit.Goals as goal

pub returns : goal.returns
returns c = rw c.at.ensures

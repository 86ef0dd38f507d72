-- `directory::loaded_as` meets its contract: a refusal with the file that the definition gives it.
use Rattle.directory.proofs.loaded_as.Goals as goal

pub returns-in-Ok : goal.returns-in-Ok
returns-in-Ok c = rw c.in-Ok.is

pub returns-in-Err : goal.returns-in-Err
returns-in-Err c = rw (c.in-Err.is, c.file_of_finding.ensures)

-- `directory::take_sizes` meets its contract: field by field the greater of the two.
use Rattle.directory.specs.Files.{sizes_taken}
use Rattle.directory.proofs.take_sizes.Goals as goal

pub returns : goal.returns
unfolding sizes_taken
returns c =
    rw (← c.lent.view_is, c.max.ensures, c.max-2.ensures, c.max-3.ensures, c.max-4.ensures, c.max-5.ensures, c.max-6.ensures)

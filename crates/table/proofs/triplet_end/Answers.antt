use native.Mathlib.Omega.{arith}
use mathlib.Core.Path.{◌∙◌, sym}
use Rattle.table.proofs.FieldLaws.{triplet_room}
use Rattle.table.proofs.triplet_end.Goals as goal

pub overflow_add-result : goal.overflow_add-result
overflow_add-result c =
    omega (
      arith,
      triplet_room c.args.order c.args.file.now c.args.at c.args.end _ _ (omega arith) (omega arith)
          (sym c.read.ensures ∙ c.in-Ok.is),
    )

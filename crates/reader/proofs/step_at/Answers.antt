use Rattle.reader.proofs.step_at.Goals as goal

pub returns : goal.returns
returns c = simp (← c.place_after-at.ensures, ← c.column_step-step.ensures)
